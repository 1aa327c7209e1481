-- Copies of blocks on another disk, under other numbers.
use Rattle.std.specs.Prelude.{◌≡◌, ◌≢◌, ◌⊎◌, ℕ, ◌+◌, ◌<◌, ◌≤◌, ◌&&◌, nat_le, nat_lt, Bool, true, List, [], ◌∷◌, length, Result, Err, IfOk, IsOk, OnOk, map}
use Rattle.std.specs.List.{AllByRecursion}
use Rattle.vm_types.specs.declared.sizes.TheConstants.{FIRST_DATA}
use Rattle.vm_types.specs.Map.{Map}
use Rattle.vm_disk.specs.Disk.{Contents, DiskState, Goes, block}
use Rattle.vm_disk.specs.Moments.{Throughout, TouchesOnly}
use Rattle.vm_alloc.specs.Marks.{IsMarked}
use Rattle.vm_block.specs.Leaf.{HasRecords, Record}
use Rattle.vm_block.specs.Node.{IsNode}
use Rattle.vm_block.specs.declared.node.Child.{Child}
use Rattle.vm_tree.specs.Calls.{Looks}
use Rattle.vm_tree.specs.Root.{IsRooted}
use Rattle.vm_tree.specs.Unsynced.{NeverSyncs}
use Rattle.vm_tree.specs.declared.root.Root.{Root}
use Rattle.vm_tree.specs.Tree.{Children, Sizes, Subtree}
use Rattle.vm_tree.specs.declared.faults.TreeFault.TheVariants.{Device, Damaged}
use Rattle.vm_check.specs.Marks.{OnSubtree, OnTree}
use Rattle.vm_check.specs.Renumbering.{AreGiven, Assigns, GoesOn, IsCopied, count_of, next_of, number_at}
use Rattle.vm_check.specs.declared.tree_copy.CopyFault.{CopyFault}
use Rattle.vm_check.specs.declared.tree_copy.CopyFault.TheVariants.{Source, Target, Full}
use Rattle.vm_check.specs.declared.renumbering.Renumbering.{Renumbering}

-- # What a copy of a block has

-- both lists have as many elements, and R holds of each pair
abbrev pub Paired : {X : Type 0} → (X → X → Type 0) → List X → List X → Type 0
Paired R [] [] = Unit {0}
Paired R (x ∷ xs) (y ∷ ys) = R x y × Paired R xs ys
Paired R [] (y ∷ ys) = ⊥
Paired R (x ∷ xs) [] = ⊥

-- the child has the same lowest key, and names the copy of the block
abbrev pub renumbered : Renumbering → Child → Child
renumbered numbers child = record { low = child.low; block = number_at numbers child.block }

-- the block of this child was copied, and its copy is named
abbrev pub ChildCopied : Renumbering → Child → Child → Type 0
ChildCopied numbers c d = IsCopied numbers c.block × (d ≡ renumbered numbers c)

-- a leaf, and the same bytes
pub record LeafCopied (bytes copy : List ℕ) : Type 0 where
  pub records : List Record
  pub was : HasRecords bytes records
  pub is : copy ≡ bytes

-- an inner block, and the one of the copies of its children
pub record NodeCopied (numbers : Renumbering) (bytes copy : List ℕ) : Type 0 where
  pub level : ℕ
  pub children : List Child
  pub copies : List Child
  pub was : IsNode bytes level children
  pub is : IsNode copy level copies
  pub each : Paired (ChildCopied numbers) children copies

-- the bytes of a block of a tree, and those of its copy
abbrev pub IsCopyOf : Renumbering → List ℕ → List ℕ → Type 0
IsCopyOf numbers bytes copy = LeafCopied bytes copy ⊎ NodeCopied numbers bytes copy

-- in a store of this many blocks, of these contents, stands the copy of each block of the others that was copied
pub record AreCopied (x y : Contents) (limit : ℕ) (numbers : Renumbering) : Type 0 where
  pub given : AreGiven numbers
  pub within : next_of numbers ≤ limit
  pub each : (n : ℕ) → IsCopied numbers n → IsCopyOf numbers (block x n) (block y (number_at numbers n))

-- # What a step of copying does

-- the numbers fit both disks: each block of the source below `blocks` has one, the target has all blocks below `limit`, and the next number is of a data block
pub record NumbersFit (blocks limit : ℕ) (s t : DiskState) (numbers : Renumbering) : Type 0 where
  pub inside : blocks ≤ s.blocks
  pub room : limit ≤ t.blocks
  pub known : count_of numbers ≡ blocks
  pub least : FIRST_DATA ≤ next_of numbers

-- is this one of the blocks from the first number to the next one, in a store of this many blocks?
abbrev pub is_for_copies : (first next limit : ℕ) → ℕ → Bool
is_for_copies first next limit n = nat_le first n && (nat_le n next && nat_lt n limit)

-- at no moment another block of an honest disk is touched than those of the numbers that were given, and the one of the next number
abbrev pub TouchesCopies : ℕ → DiskState → Renumbering → DiskState → Renumbering → Type 0
TouchesCopies limit t old t' new = t'.honest ≡ true → Throughout t t' (TouchesOnly (is_for_copies (next_of old) (next_of new) limit) t.now)

-- nothing is synced, on an honest disk
abbrev pub StaysUnsynced : DiskState → DiskState → Type 0
StaysUnsynced t t' = t'.honest ≡ true → NeverSyncs t t'

-- on any disks and whatever the answer, no more blocks were read than got a number, and `more` beside them
abbrev pub ReadsBesideCopies : ℕ → DiskState → Renumbering → DiskState → Renumbering → Type 0
ReadsBesideCopies more s old s' new = s'.reads + next_of old ≤ s.reads + next_of new + more

-- a step of copying, in which the source fails exactly if `source` holds, the target exactly if `target` does, and no number is left exactly if
-- `none_left` does: the source was only read, of the target no block was touched but those of the copies, none was synced, and each copy has
-- kept its number; if it was done, for each block that was read one was copied
pub record Steps (source target none_left done : Type 0) (limit : ℕ) (s t : DiskState) (old : Renumbering) (s' t' : DiskState) (new : Renumbering) : Type 0 where
  pub looks : Looks source s s'
  pub goes : Goes target t t'
  pub touches : TouchesCopies limit t old t' new
  pub unsynced : StaysUnsynced t t'
  pub numbers : GoesOn old new
  pub full : none_left → limit ≤ next_of new
  pub paid : done → s'.reads + next_of old ≡ s.reads + next_of new

-- a step with this result
abbrev pub StepsTo : {T : Type 0} → Result T CopyFault → ℕ → DiskState → DiskState → Renumbering → DiskState → DiskState → Renumbering → Type 0
StepsTo result limit s t old s' t' new = Steps (result ≡ Err (Source Device)) (result ≡ Err Target) (result ≡ Err Full) (IsOk result) limit s t old s' t' new

-- P holds if both disks are honest after the step, and what was copied before it stood there
abbrev pub WhereCopied : ℕ → DiskState → DiskState → Renumbering → DiskState → DiskState → Type 0 → Type 0
WhereCopied limit s t old s' t' P =
    s'.honest ≡ true → t'.honest ≡ true → AreCopied s.now.contents t.now.contents limit old → P

-- this is the number of the copy of block n
abbrev pub IsNumberOf : Renumbering → ℕ → ℕ → Type 0
IsNumberOf numbers n number = (0 < number) × (number ≡ number_at numbers n)

-- the bytes are a leaf, or an inner block of this level at most
abbrev pub IsUpTo : ℕ → List ℕ → Type 0
IsUpTo level bytes = ((rs : List Record) × HasRecords bytes rs) ⊎ ((l : ℕ) × (cs : List Child) × (l ≤ level) × IsNode bytes l cs)

-- each block that was copied since has P
abbrev pub CopiesOnly : (ℕ → Type 0) → Renumbering → Renumbering → Type 0
CopiesOnly P old new = (n : ℕ) → IsCopied new n → IsCopied old n ⊎ P n

-- the answer is no damage
abbrev pub IsUndamaged : {T : Type 0} → Result T CopyFault → Type 0
IsUndamaged result = (b : ℕ) → result ≡ Err (Source (Damaged b)) → ⊥

-- what was copied stands there after it, and this is the number of the copy of block n
abbrev pub CopiesBlock : Result ℕ CopyFault → ℕ → ℕ → DiskState → DiskState → Renumbering → DiskState → DiskState → Renumbering → Type 0
CopiesBlock result limit n s t old s' t' new =
    WhereCopied limit s t old s' t' (IfOk result (λ number. AreCopied s.now.contents t'.now.contents limit new × IsNumberOf new n number))

-- what is copied is a leaf, or an inner block of this level at most, if the source is honest after it
abbrev pub CopiesUpTo : {T : Type 0} → ℕ → Result T CopyFault → DiskState → Renumbering → DiskState → Renumbering → Type 0
CopiesUpTo level result s old s' new = s'.honest ≡ true → OnOk result (CopiesOnly (λ n. IsUpTo level (block s.now.contents n)) old new)

-- this many children of an inner block are copied
abbrev pub CopiesChildren : {T : Type 0} → Result T CopyFault → ℕ → ℕ → List ℕ → List ℕ → DiskState → DiskState → Renumbering → DiskState → DiskState → Renumbering → Type 0
CopiesChildren result limit count bytes copy s t old s' t' new =
    (level : ℕ) (cs : List Child) → IsNode bytes level cs → count ≡ length cs
    → WhereCopied limit s t old s' t' (OnOk result (AreCopied s.now.contents t'.now.contents limit new × NodeCopied new bytes copy))

-- # When no damage is found, if the source is honest after it

-- at this many children of an inner block, which are the tops of subtrees of this level
abbrev pub SoundChildrenCopy : {T : Type 0} → Result T CopyFault → ℕ → ℕ → ℕ → List ℕ → DiskState → DiskState → Type 0
SoundChildrenCopy result limit level count bytes s s' =
    s'.honest ≡ true → (sizes : Sizes) (above : ℕ) (cs : List Child) (rs : List Record) (bs : List ℕ) → IsNode bytes above cs → count ≡ length cs
    → Children (Subtree sizes s.now.contents limit level) cs rs bs → IsUndamaged result

-- at the top of a subtree of this level
abbrev pub SoundCopy : {T : Type 0} → Result T CopyFault → ℕ → ℕ → ℕ → DiskState → DiskState → Type 0
SoundCopy result limit level b s s' = OnSubtree s s' limit level b (λ bs. IsUndamaged result)

-- # Which blocks are copied, whatever the answer, if the source is honest after it

-- a block for data that is marked
abbrev pub IsMarkedData : List Bool → ℕ → Type 0
IsMarkedData marks n = (FIRST_DATA ≤ n) × IsMarked marks n

-- each block that was copied since is for data and marked; and if no number is left, there is such a block without a copy
pub record CopiesMarked (none_left : Type 0) (marks : List Bool) (old new : Renumbering) : Type 0 where
  pub only : CopiesOnly (IsMarkedData marks) old new
  pub lacks : none_left → (n : ℕ) × IsMarkedData marks n × (number_at new n ≡ 0)

-- the same with this result, if all these blocks are marked
abbrev pub CopiesAmong : {T : Type 0} → Result T CopyFault → List ℕ → Renumbering → Renumbering → Type 0
CopiesAmong result bs old new = (marks : List Bool) → AllByRecursion (IsMarked marks) bs → CopiesMarked (result ≡ Err Full) marks old new

-- at the `count` children of an inner block, which are the tops of subtrees of this level
abbrev pub ReachedChildrenCopy : {T : Type 0} → Result T CopyFault → ℕ → ℕ → ℕ → List ℕ → DiskState → Renumbering → DiskState → Renumbering → Type 0
ReachedChildrenCopy result limit level count bytes s old s' new =
    s'.honest ≡ true → (sizes : Sizes) (above : ℕ) (cs : List Child) (rs : List Record) (bs : List ℕ) → IsNode bytes above cs → count ≡ length cs
    → Children (Subtree sizes s.now.contents limit level) cs rs bs → CopiesAmong result bs old new

-- at the top of a subtree of this level
abbrev pub ReachedCopy : {T : Type 0} → Result T CopyFault → ℕ → ℕ → ℕ → DiskState → Renumbering → DiskState → Renumbering → Type 0
ReachedCopy result limit level b s old s' new = OnSubtree s s' limit level b (λ bs. CopiesAmong result bs old new)

-- under the root of a tree
abbrev pub ReachedTreeCopy : {T : Type 0} → Result T CopyFault → ℕ → Root → DiskState → Renumbering → DiskState → Renumbering → Type 0
ReachedTreeCopy result limit root s old s' new = OnTree s s' limit root (λ bs. CopiesAmong result bs old new)

-- # What a copy of a tree is

-- the copy of a root: itself if it has no block, else it names the copy of its block
abbrev pub RootCopied : Renumbering → Root → Root → Type 0
RootCopied numbers root copy =
    ((root.block ≡ 0) × (copy ≡ root))
    ⊎ ((0 < root.block) × IsCopied numbers root.block × (copy ≡ record { block = number_at numbers root.block; level = root.level; low = root.low }))

-- what was copied stands there after it, and the root's copy is answered
abbrev pub CopiesRoot : Result Root CopyFault → ℕ → Root → DiskState → DiskState → Renumbering → DiskState → DiskState → Renumbering → Type 0
CopiesRoot result limit root s t old s' t' new =
    WhereCopied limit s t old s' t' (IfOk result (λ copy. AreCopied s.now.contents t'.now.contents limit new × RootCopied new root copy))

-- under the root that is answered lies in a store of this many blocks the map that lay under the root, in the copies of its blocks
abbrev pub CopiesMap : Result Root CopyFault → ℕ → ℕ → Root → DiskState → DiskState → Renumbering → DiskState → DiskState → Renumbering → Type 0
CopiesMap result blocks limit root s t old s' t' new =
    WhereCopied limit s t old s' t'
    ((sizes : Sizes) (m : Map) (bs : List ℕ) → IsRooted sizes s.now.contents blocks root m bs
    → IfOk result (λ copy. IsRooted sizes t'.now.contents limit copy m (map (number_at new) bs)))

-- no damage is found under the root of a tree
abbrev pub SoundTreeCopy : {T : Type 0} → Result T CopyFault → ℕ → Root → DiskState → DiskState → Type 0
SoundTreeCopy result limit root s s' = OnTree s s' limit root (λ bs. IsUndamaged result)

-- these bytes were written as the copy of block n, under the next number; no other block was touched
pub record IsPut (limit n : ℕ) (bytes : List ℕ) (y y' : Contents) (old new : Renumbering) (number : ℕ) : Type 0 where
  pub fresh : number_at old n ≡ 0
  pub next : number ≡ next_of old
  pub room : number < limit
  pub assigned : Assigns n old new
  pub written : block y' number ≡ bytes
  pub others : (k : ℕ) → k ≢ number → block y' k ≡ block y k

-- what a write of a copy does on any disk: it touches no block except that of the next number, syncs none, and gives one number if it was
-- done, to no other block; if no number is left, the block has none, and if it finds damage, the block was copied
pub record Puts (target none_left done : Type 0) (damaged : ℕ → Type 0) (limit n : ℕ) (t : DiskState) (old : Renumbering) (t' : DiskState) (new : Renumbering) : Type 0 where
  pub goes : Goes target t t'
  pub touches : TouchesCopies limit t old t' new
  pub unsynced : StaysUnsynced t t'
  pub numbers : GoesOn old new
  pub full : none_left → limit ≤ next_of new
  pub lacks : none_left → number_at new n ≡ 0
  pub only : CopiesOnly (λ k. k ≡ n) old new
  pub assigned : done → Assigns n old new
  pub twice : (b : ℕ) → damaged b → IsCopied old n

-- a write with this result
abbrev pub PutsTo : {T : Type 0} → Result T CopyFault → ℕ → ℕ → DiskState → Renumbering → DiskState → Renumbering → Type 0
PutsTo result limit n t old t' new = Puts (result ≡ Err Target) (result ≡ Err Full) (IsOk result) (λ b. result ≡ Err (Source (Damaged b))) limit n t old t' new
