-- How what is ahead of two walks differs.
use Rattle.std.specs.Prelude.{◌≡◌, ◌↔◌, ℕ, ◌+◌, ◌≤◌, Bool, true, List, [], ◌∷◌, ◌++◌, length, drop, Option, Result, IsTrue}
use Rattle.std.specs.List.{AllByRecursion}
use Rattle.vm_types.specs.declared.change.Change.{Change}
use Rattle.vm_types.specs.declared.key.Key.{Key}
use Rattle.vm_types.specs.Map.{Map, delta}
use Rattle.vm_types.specs.Parts.{diff, is_within, part}
use Rattle.vm_types.specs.Places.{FitKeys, RisesFrom, place, places}
use Rattle.vm_disk.specs.Disk.{Contents, DiskState}
use Rattle.vm_block.specs.Leaf.{Record}
use Rattle.vm_tree.specs.Tree.{Sizes}
use Rattle.vm_tree.specs.Answers.{Lists, OkOrDevice}
use Rattle.vm_tree.specs.Over.{is_between, only_if, tree_over}
use Rattle.vm_tree.specs.Spent.{reads_aside, tree_aside}
use Rattle.vm_tree.specs.Root.{IsRooted}
use Rattle.vm_tree.specs.declared.root.Root.{Root}
use Rattle.vm_tree.specs.declared.faults.ListFault.{ListFault}
use Rattle.vm_tree.specs.declared.faults.TreeFault.{TreeFault}
use Rattle.vm_diff.specs.Front.{Front, opened_at}
use Rattle.vm_diff.specs.Opened.{HasNoValue, HasValue}
use Rattle.vm_diff.specs.Shared.{unshared}
use Rattle.vm_diff.specs.Steps.{StepsBy}
use Rattle.vm_diff.specs.Walk.{Walk, IsAhead}
use Rattle.vm_diff.specs.declared.front.Step.{Step}

-- records with rising keys
pub record AreRising (rs : List Record) : Type 0 where
  pub rising : RisesFrom 0 (places rs)
  pub fit : FitKeys rs

-- the walk stands in the part from place low to place high: the records that come next from its leaf lie there, no subtree begins above it, and
-- none but the first below it
pub record IsIn (low high : ℕ) (walk : Walk) : Type 0 where
  pub records : AllByRecursion (λ r. is_within low high r.0 ≡ true) walk.pending
  pub tops : AllByRecursion (λ t. place t.low ≤ high) walk.tops
  pub others : AllByRecursion (λ t. low ≤ place t.low) (drop 1 walk.tops)

-- the reads that a walk may make beside those of blocks over the part: one for each level of its first subtree, if that begins below
abbrev pub aside : ℕ → List Root → ℕ
aside low [] = 0
aside low (t ∷ ts) = reads_aside low t.level t.low

-- the records ahead of one walk and those ahead of the other have these differences in the part; and after this many reads, with one more
-- for each block over it that is ahead of one walk alone, and those aside, there are at most this many
pub record Differ (sizes : Sizes) (x : Contents) (limit low high : ℕ) (one other : Walk) (reads most : ℕ) (changes : List Change) : Type 0 where
  pub first : List Record
  pub second : List Record
  pub first_blocks : List ℕ
  pub second_blocks : List ℕ
  pub first_ahead : IsAhead (is_between low high) sizes x limit one first first_blocks
  pub second_ahead : IsAhead (is_between low high) sizes x limit other second second_blocks
  pub first_rising : AreRising first
  pub second_rising : AreRising second
  pub first_in : IsIn low high one
  pub second_in : IsIn low high other
  pub differences : changes ≡ delta (part low high first) (part low high second)
  pub paid : reads + (unshared first_blocks second_blocks + (aside low one.tops + aside low other.tops)) ≤ most

-- what is left of records and blocks ahead of a walk that has gone past a record
pub record Passes (test : ℕ → Bool) (sizes : Sizes) (x : Contents) (limit : ℕ) (taken : Record) (walk : Walk) (rs : List Record) (bs : List ℕ) : Type 0 where
  pub rest : List Record
  pub ahead : IsAhead test sizes x limit walk rest bs
  pub records : rs ≡ taken ∷ rest

-- what is left of them ahead of one that has opened the subtree before which it stood: the records of the part; and that the read is paid for, by a block over the part or aside
pub record Enters (sizes : Sizes) (x : Contents) (limit low high : ℕ) (front : Front) (walk later : Walk) (rs : List Record) (bs : List ℕ) : Type 0 where
  pub rest : List Record
  pub rest_blocks : List ℕ
  pub ahead : IsAhead (is_between low high) sizes x limit later rest rest_blocks
  pub rising : AreRising rest
  pub is_in : IsIn low high later
  pub records : part low high rs ≡ part low high rest
  pub counted : Bool
  pub blocks : bs ≡ only_if counted (opened_at front) ++ rest_blocks
  pub pays : length (opened_at front) + aside low later.tops ≤ length (only_if counted (opened_at front)) + aside low walk.tops

-- on a disk that is honest after the call: P holds of the maps that lay under both roots before it, and of their blocks
abbrev pub OnMaps : DiskState → DiskState → ℕ → Root → Root → (Map → Map → List ℕ → List ℕ → Type 0) → Type 0
OnMaps old new limit first second P =
    new.honest ≡ true → (sizes : Sizes) (m n : Map) (bs cs : List ℕ) → IsRooted sizes old.now.contents limit first m bs → IsRooted sizes old.now.contents limit second n cs
    → P m n bs cs

-- on a disk that is honest after the call: P holds of the differences of what was ahead of both walks before it, and of the most reads
abbrev pub IfDiffer : DiskState → DiskState → (limit low high : ℕ) → Walk → Walk → (Sizes → ℕ → List Change → Type 0) → Type 0
IfDiffer old new limit low high one other P =
    new.honest ≡ true → (sizes : Sizes) (most : ℕ) (changes : List Change) → Differ sizes old.now.contents limit low high one other old.reads most changes → P sizes most changes

-- the differences of both maps in a part are given, unless the device fails or no memory is found
abbrev pub GivesDiff : Result (List Change) ListFault → DiskState → DiskState → ℕ → Root → Root → ℕ → ℕ → Type 0
GivesDiff result old new limit first second low high = OnMaps old new limit first second (λ m n bs cs. Lists result (λ changes. changes ≡ diff low high m n))

-- all of them
abbrev pub GivesChanges : Result (List Change) ListFault → DiskState → DiskState → ℕ → Root → Root → Type 0
GivesChanges result old new limit first second = OnMaps old new limit first second (λ m n bs cs. Lists result (λ changes. changes ≡ delta m n))

-- whether both maps are equal is told, unless the device fails
abbrev pub TellsEqual : Result Bool TreeFault → DiskState → DiskState → ℕ → Root → Root → Type 0
TellsEqual result old new limit first second = OnMaps old new limit first second (λ m n bs cs. OkOrDevice result (λ equal. IsTrue equal ↔ (delta m n ≡ [])))

-- whether the maps differ nowhere in a part
abbrev pub TellsAlike : Result Bool TreeFault → DiskState → DiskState → ℕ → Root → Root → ℕ → ℕ → Type 0
TellsAlike result old new limit first second low high = OnMaps old new limit first second (λ m n bs cs. OkOrDevice result (λ equal. IsTrue equal ↔ (diff low high m n ≡ [])))

-- no more reads were made than there are blocks that only one of the trees has
abbrev pub ReadsUnshared : DiskState → DiskState → ℕ → Root → Root → Type 0
ReadsUnshared old new limit first second = OnMaps old new limit first second (λ m n bs cs. new.reads ≤ old.reads + unshared bs cs)

-- on a disk that is honest after the call: P holds of how many blocks with a record of the part under them only one of the trees has, and of
-- how many reads may be made aside in both
abbrev pub OnParts : DiskState → DiskState → (limit low high : ℕ) → Root → Root → (ℕ → ℕ → Type 0) → Type 0
OnParts old new limit low high first second P =
    new.honest ≡ true → (sizes : Sizes) (m n : Map) (bs cs : List ℕ)
    → (one : IsRooted sizes old.now.contents limit first m bs) → (other : IsRooted sizes old.now.contents limit second n cs)
    → P (unshared (tree_over (is_between low high) sizes old.now.contents limit first m bs one) (tree_over (is_between low high) sizes old.now.contents limit second n cs other))
    (tree_aside low sizes old.now.contents limit first m bs one + tree_aside low sizes old.now.contents limit second n cs other)

-- no more reads were made than these
abbrev pub ReadsParts : DiskState → DiskState → (limit low high : ℕ) → Root → Root → Type 0
ReadsParts old new limit low high first second = OnParts old new limit low high first second (λ alone beside. new.reads ≤ old.reads + (alone + beside))

-- no more than there are such blocks, and 8 more for each tree
abbrev pub ReadsDiff : DiskState → DiskState → (limit low high : ℕ) → Root → Root → Type 0
ReadsDiff old new limit low high first second = OnParts old new limit low high first second (λ alone beside. new.reads ≤ old.reads + (alone + 16))

-- no more reads were made than the most of these walks
abbrev pub ReadsWithin : DiskState → DiskState → (limit low high : ℕ) → Walk → Walk → Type 0
ReadsWithin old new limit low high one other = IfDiffer old new limit low high one other (λ sizes most changes. new.reads ≤ most)

-- two walks made a step, and what is ahead of them then differs as it is due
abbrev pub Steps : Result Step TreeFault → DiskState → DiskState → (limit low high : ℕ) → Walk → Walk → Walk → Walk → Type 0
Steps result old new limit low high one other one_now other_now =
    IfDiffer old new limit low high one other (λ sizes most changes. StepsBy result changes (Differ sizes old.now.contents limit low high one_now other_now new.reads most))

-- the same of a step without a read
abbrev pub StepsUnread : Result Step TreeFault → Walk → Walk → Walk → Walk → Type 0
StepsUnread result one other one_now other_now =
    (sizes : Sizes) (x : Contents) (limit low high reads most : ℕ) (changes : List Change) → Differ sizes x limit low high one other reads most changes
    → StepsBy result changes (Differ sizes x limit low high one_now other_now reads most)

-- what is ahead of two walks differs as before
abbrev pub DifferAsBefore : Walk → Walk → Walk → Walk → Type 0
DifferAsBefore one other one_now other_now =
    (sizes : Sizes) (x : Contents) (limit low high reads most : ℕ) (changes : List Change) → Differ sizes x limit low high one other reads most changes
    → Differ sizes x limit low high one_now other_now reads most changes

-- the first difference of what was ahead is this one, and the others are left
abbrev pub TakesChange : Change → Walk → Walk → Walk → Walk → Type 0
TakesChange change one other one_now other_now =
    (sizes : Sizes) (x : Contents) (limit low high reads most : ℕ) (changes : List Change) → Differ sizes x limit low high one other reads most changes
    → (rest : List Change) × (changes ≡ change ∷ rest) × Differ sizes x limit low high one_now other_now reads most rest

-- this is the value that a walk has at the key, or there is none
abbrev pub IsValueAt : Option (List ℕ) → Key → Walk → Type 0
IsValueAt value key walk = HasValue value key walk × HasNoValue value key walk

-- the first difference is the one at this key, with the values that the walks had there
abbrev pub PassesChange : Key → Walk → Walk → Walk → Walk → Type 0
PassesChange key one other one_now other_now =
    (before after : Option (List ℕ)) → IsValueAt before key one → IsValueAt after key other
    → TakesChange (record { key = key; before = before; after = after }) one other one_now other_now

-- what lies in the block before which the walk stands, on a disk that is honest after the call, takes its place as far as it may lie in the
-- part, unless the device fails
abbrev pub Opens : {T : Type 0} → Result T TreeFault → DiskState → DiskState → (limit low high : ℕ) → Front → Walk → Walk → Type 0
Opens result old new limit low high front walk later =
    new.honest ≡ true → (sizes : Sizes) (rs : List Record) (bs : List ℕ) → IsAhead (is_between low high) sizes old.now.contents limit walk rs bs → AreRising rs → IsIn low high walk
    → OkOrDevice result (λ _. Enters sizes old.now.contents limit low high front walk later rs bs)
