-- What is known of a place where disks are found by name, and what its calls do to it.
use Rattle.std.specs.Prelude.{◌≡◌, ◌≢◌, ◌⊎◌, ◌<◌, ◌+◌, ℕ, Bool, true, false, List, [], ◌∷◌, Option, Some, None, IfSome, length, map, option_map, replicate, reverse}
use Rattle.vm_types.specs.declared.sizes.TheConstants.{BLOCK_SIZE}
use Rattle.vm_disk.specs.Disk.{Contents, DiskState, IsClean, block}
use Rattle.vm_disk.specs.Past.{noted}
use Rattle.vm_disk.specs.declared.history.History.{History}

-- what is known of a place
pub record PlaceState : Type 0 where
  -- it has kept these rules in every call so far, and so has each disk that came back kept those of a disk
  pub honest : Bool
  -- what the disk of this name holds; None if there is no such file
  pub files : List ℕ → Option Contents
  -- the disk of this name as it was when it came back last, under this name or before its file got it; None if none did
  pub came : List ℕ → Option DiskState

-- all files but the one of this name are as they were
abbrev pub KeepsOthers : List ℕ → PlaceState → PlaceState → Type 0
KeepsOthers name old new = (other : List ℕ) → other ≢ name → new.files other ≡ old.files other

-- all but those of these two names are
abbrev pub KeepsBut : List ℕ → List ℕ → PlaceState → PlaceState → Type 0
KeepsBut one two old new = (other : List ℕ) → other ≢ one → other ≢ two → new.files other ≡ old.files other

-- no disk came back
abbrev pub KeepsCame : PlaceState → PlaceState → Type 0
KeepsCame old new = (name : List ℕ) → new.came name ≡ old.came name

-- none did but under this name
abbrev pub KeepsOthersCame : List ℕ → PlaceState → PlaceState → Type 0
KeepsOthersCame name old new = (other : List ℕ) → other ≢ name → new.came other ≡ old.came other

-- the names that were noted, the newest first
abbrev pub names_in : History (History ℕ) → List (List ℕ)
names_in names = map (λ name. reverse (noted name)) (noted names)

-- as many blocks, of which the first is zero: no store
pub record IsNew (blocks : ℕ) (contents : Contents) : Type 0 where
  pub count : length contents ≡ blocks
  pub first : 0 < blocks → block contents 0 ≡ replicate BLOCK_SIZE 0

-- a disk of this many blocks, of which the first is zero, is made where there was no file of this name, and no moment of it is past; a file
-- that was there stays as it was
pub record Creates (name : List ℕ) (blocks : ℕ) (made : Option DiskState) (old new : PlaceState) : Type 0 where
  pub absent : IfSome made (λ s. old.files name ≡ None)
  pub blank : IfSome made (λ s. s.honest ≡ true → (s.blocks ≡ blocks) × IsNew blocks s.now.contents)
  pub fresh : IfSome made (λ s. s.past ≡ [])
  pub stays : (contents : Contents) → old.files name ≡ Some contents → new.files name ≡ Some contents
  pub others : KeepsOthers name old new
  pub others_came : KeepsOthersCame name old new
  pub none_came : made ≡ None → KeepsCame old new

-- the disk of this name is found as it was left, what it holds is lasting, and no moment of it is past; no file changes
pub record Finds (name : List ℕ) (found : Option DiskState) (old new : PlaceState) : Type 0 where
  pub held : IfSome found (λ s. s.honest ≡ true → (old.files name ≡ Some s.now.contents) × IsClean s.now)
  pub fresh : IfSome found (λ s. s.past ≡ [])
  pub same : (other : List ℕ) → new.files other ≡ old.files other
  pub same_came : KeepsCame old new

-- a disk comes back: the file of this name holds what the disk holds
pub record TakesBack (name : List ℕ) (given : DiskState) (old new : PlaceState) : Type 0 where
  pub honest : given.honest ≡ true
  pub holds : new.files name ≡ Some given.now.contents
  pub came : new.came name ≡ Some given
  pub others : KeepsOthers name old new
  pub others_came : KeepsOthersCame name old new

-- whether there is no file of this name. No file changes
pub record Lacks (name : List ℕ) (lacks : Bool) (old new : PlaceState) : Type 0 where
  pub absent : lacks ≡ true → old.files name ≡ None
  pub same : (other : List ℕ) → new.files other ≡ old.files other
  pub same_came : KeepsCame old new

-- no file had the second name, and now the file of the first one has it, with what came back under that; its first name is as it was, or
-- gone. Or else no file changes
pub record Links (from to : List ℕ) (linked : Bool) (old new : PlaceState) : Type 0 where
  pub absent : linked ≡ true → old.files to ≡ None
  pub named : linked ≡ true → new.files to ≡ old.files from
  pub named_came : linked ≡ true → new.came to ≡ old.came from
  pub left : (new.files from ≡ None) ⊎ (new.files from ≡ old.files from)
  pub stays : linked ≡ false → (name : List ℕ) → new.files name ≡ old.files name
  pub others : KeepsBut from to old new
  pub others_came : KeepsOthersCame to old new

-- the file of this name is gone, or as it was
pub record Removes (name : List ℕ) (old new : PlaceState) : Type 0 where
  pub left : (new.files name ≡ None) ⊎ (new.files name ≡ old.files name)
  pub others : KeepsOthers name old new
  pub same_came : KeepsCame old new

-- a disk was given out in the one state and came back in the other, under this name, and none came back later: it was given out without a
-- past, so what it went through is all that is past of it now. The file holds what it holds
pub record WasLent (name : List ℕ) (given back : DiskState) (new : PlaceState) : Type 0 where
  pub fresh : given.past ≡ []
  pub honest : back.honest ≡ true
  pub holds : new.files name ≡ Some back.now.contents
  pub came : new.came name ≡ Some back

-- a place that is honest after a call was so before it
abbrev pub WasHonest : PlaceState → PlaceState → Type 0
WasHonest old new = new.honest ≡ true → old.honest ≡ true

-- a place that was honest is so after a call, too
abbrev pub StaysHonest : PlaceState → PlaceState → Type 0
StaysHonest old new = old.honest ≡ true → new.honest ≡ true

module _ {P D : Type 0} (state : P → PlaceState) (disk_state : D → DiskState) where
  -- if the place is honest after it, a disk of this many blocks is made under this name, or none is
  abbrev pub CreatesIn : List ℕ → ℕ → Option D → P → P → Type 0
  CreatesIn name blocks made old new = (state new).honest ≡ true → Creates name blocks (option_map disk_state made) (state old) (state new)

  -- if the place is honest after it, the disk of this name is found, or none is
  abbrev pub FindsIn : List ℕ → Option D → P → P → Type 0
  FindsIn name found old new = (state new).honest ≡ true → Finds name (option_map disk_state found) (state old) (state new)

  -- if the place is honest after it, a disk comes back under this name
  abbrev pub TakesBackIn : List ℕ → D → P → P → Type 0
  TakesBackIn name given old new = (state new).honest ≡ true → TakesBack name (disk_state given) (state old) (state new)

module _ {P : Type 0} (state : P → PlaceState) where
  -- if the place is honest after it, it is known whether there is a file of this name
  abbrev pub LacksIn : List ℕ → Bool → P → P → Type 0
  LacksIn name lacks old new = (state new).honest ≡ true → Lacks name lacks (state old) (state new)

  -- if the place is honest after it, a file has another name, or no file changes
  abbrev pub LinksIn : List ℕ → List ℕ → Bool → P → P → Type 0
  LinksIn from to linked old new = (state new).honest ≡ true → Links from to linked (state old) (state new)

  -- if the place is honest after it, the file of this name is gone, or as it was
  abbrev pub RemovesIn : List ℕ → P → P → Type 0
  RemovesIn name old new = (state new).honest ≡ true → Removes name (state old) (state new)

-- how often a place was asked for a disk that may be written: once more, or as often as before
abbrev pub AsksOnce : ℕ → ℕ → Type 0
AsksOnce asked asked' = asked' ≡ asked + 1

abbrev pub AsksNever : ℕ → ℕ → Type 0
AsksNever asked asked' = asked' ≡ asked

module _ {P : Type 0} (state : P → PlaceState) (denied : P → List (List ℕ)) (to_write : P → ℕ) where
  -- what each call keeps beside its own meaning: it was asked about this name, `Writes` tells of the disks that may be written, and it gave
  -- what was asked for, or said yes, or else it denied the name. A call that can deny nothing always gives
  pub record IsAsked (Writes : ℕ → ℕ → Type 0) (name : List ℕ) (gives : Bool) (old new : P) : Type 0 where
    pub none : gives ≡ false → denied new ≡ name ∷ denied old
    pub some : gives ≡ true → denied new ≡ denied old
    pub writes : Writes (to_write old) (to_write new)
    pub earlier : WasHonest (state old) (state new)

-- ---- the use of a place

-- a place before and after a job, or a part of one, and what is known of a place
pub record PlaceUse (P : Type 0) : Type 0 where
  pub state : P → PlaceState
  -- the names that it has denied, the newest first: it gave no disk of them, or said that they are taken
  pub denied : P → List (List ℕ)
  -- how often it was asked for a disk that may be written
  pub to_write : P → ℕ
  pub old : P
  pub new : P

abbrev pub place_use : {P : Type 0} → (P → PlaceState) → (P → List (List ℕ)) → (P → ℕ) → P → P → PlaceUse P
place_use state denied to_write old new = record { state = state; denied = denied; to_write = to_write; old = old; new = new }

module _ {P : Type 0} (place : PlaceUse P) where
  -- what was known of it before
  abbrev pub state_before : PlaceState
  state_before = place.state place.old

  -- what is known of it after
  abbrev pub state_after : PlaceState
  state_after = place.state place.new

  -- it is honest after it
  abbrev pub IsHonestAfter : Type 0
  IsHonestAfter = state_after.honest ≡ true

  -- no call of it was made
  abbrev pub IsUnused : Type 0
  IsUnused = place.new ≡ place.old

  -- it was asked for no disk that may be written
  abbrev pub OpensNone : Type 0
  OpensNone = AsksNever (place.to_write place.old) (place.to_write place.new)

  -- it was asked for exactly one
  abbrev pub OpensOne : Type 0
  OpensOne = AsksOnce (place.to_write place.old) (place.to_write place.new)

  -- it denied this name, and no other
  abbrev pub Denies : List ℕ → Type 0
  Denies name = place.denied place.new ≡ name ∷ place.denied place.old

  -- the file of this name is as it was
  abbrev pub KeepsFile : List ℕ → Type 0
  KeepsFile name = state_after.files name ≡ state_before.files name

-- a call of a place whose disks are these, with what it was given and what it gave back
pub data PlaceCall (D : Type 0) : Type 0 where
  -- a disk of this name, of this many blocks
  Create : List ℕ → ℕ → Option D → PlaceCall D
  Find : List ℕ → Option D → PlaceCall D
  Look : List ℕ → Option D → PlaceCall D
  GiveBack : List ℕ → D → PlaceCall D
  -- whether there is nothing of this name
  Lack : List ℕ → Bool → PlaceCall D
  -- whether the file of the first name got the second
  Link : List ℕ → List ℕ → Bool → PlaceCall D
  Remove : List ℕ → PlaceCall D
