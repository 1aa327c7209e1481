-- Marks on the blocks of trees.
use Rattle.std.specs.Prelude.{◌≡◌, ◌⊎◌, ℕ, suc, ◌+◌, ◌≤◌, ◌&&◌, not, Bool, true, List, [], ◌∷◌, ◌++◌, length, take, drop, codes, Contains, Result, Err, IsOk, OnOk, if◌then◌else◌}
use Rattle.std.specs.Str.{bytes_eq}
use Rattle.std.specs.List.{AllByRecursion}
use Rattle.vm_types.specs.declared.sizes.TheConstants.{FIRST_DATA}
use Rattle.vm_types.specs.Map.{Map}
use Rattle.vm_disk.specs.Disk.{Contents, DiskState, block}
use Rattle.vm_alloc.specs.Held.{HoldsMore, free_count}
use Rattle.vm_alloc.specs.Marks.{IsMarked}
use Rattle.vm_block.specs.Leaf.{Record}
use Rattle.vm_block.specs.Node.{IsNode}
use Rattle.vm_block.specs.declared.node.Child.{Child}
use Rattle.vm_tree.specs.Tree.{Sizes, Subtree}
use Rattle.vm_tree.specs.Answers.{OkOrDevice}
use Rattle.vm_tree.specs.Calls.{Looks}
use Rattle.vm_tree.specs.Root.{IsRooted}
use Rattle.vm_tree.specs.declared.root.Root.{Root}
use Rattle.vm_tree.specs.declared.faults.TreeFault.{TreeFault}
use Rattle.vm_tree.specs.declared.faults.TreeFault.TheVariants.{Device}
use Rattle.vm_check.specs.Form.{OkUnlessDevice}

-- how many data blocks are not marked
abbrev pub unmarked : List Bool → ℕ
unmarked marks = free_count (drop FIRST_DATA marks)

-- each of these has its blocks, and joined they are bs; T tells which blocks one has
abbrev pub Joined : {X : Type 0} → (X → List ℕ → Type 0) → List X → List ℕ → Type 0
Joined T [] bs = bs ≡ []
Joined T (x ∷ xs) bs = (own : List ℕ) × (others : List ℕ) × T x own × Joined T xs others × (bs ≡ own ++ others)

-- under the root lies a map, in these blocks
abbrev pub IsUnder : Sizes → Contents → ℕ → Root → List ℕ → Type 0
IsUnder sizes x limit root bs = (m : Map) × IsRooted sizes x limit root m bs

-- under these roots lie maps, in these blocks all together
abbrev pub AreUnder : Sizes → Contents → ℕ → List Root → List ℕ → Type 0
AreUnder sizes x limit roots bs = Joined (IsUnder sizes x limit) roots bs

-- each block that is marked now, and was not, is one of these
abbrev pub MarksOnly : List ℕ → List Bool → List Bool → Type 0
MarksOnly bs old new = (n : ℕ) → IsMarked new n → IsMarked old n ⊎ Contains bs n

-- these blocks were marked, and no others
pub record MarksMore (bs : List ℕ) (old new : List Bool) : Type 0 where
  pub grows : HoldsMore old new
  pub each : AllByRecursion (IsMarked new) bs
  pub only : (n : ℕ) → IsMarked new n → IsMarked old n ⊎ Contains bs n

-- the children of each inner block that is marked, and has at most this level, are marked
pub record ClosedTo (x : Contents) (most : ℕ) (marks : List Bool) : Type 0 where
  pub closed : (n level : ℕ) (cs : List Child) → IsMarked marks n → level ≤ most → IsNode (block x n) level cs → AllByRecursion (λ c. IsMarked marks c.block) cs

-- the children of each inner block that is marked are marked: inner blocks have at most level 7
abbrev pub IsClosed : Contents → List Bool → Type 0
IsClosed x marks = ClosedTo x 7 marks

-- the marks fit the disk: there is one for each of `blocks` blocks, which the disk has
pub record MarksFit (blocks : ℕ) (x : DiskState) (marks : List Bool) : Type 0 where
  pub inside : blocks ≤ x.blocks
  pub bits : length marks ≡ blocks

-- for each block that was read a data block was marked
abbrev pub PaysReads : DiskState → DiskState → List Bool → List Bool → Type 0
PaysReads old new marks later = new.reads + unmarked later ≤ old.reads + unmarked marks

-- and exactly one
abbrev pub PaysJustReads : DiskState → DiskState → List Bool → List Bool → Type 0
PaysJustReads old new marks later = new.reads + unmarked later ≡ old.reads + unmarked marks

-- the bytes begin with the letters of an inner block
abbrev pub is_inner : List ℕ → Bool
is_inner bytes = bytes_eq (take 4 bytes) (codes "NODE")

-- of the blocks from n on, to which these marks belong, this many begin as inner blocks and are not marked
abbrev pub inner_from : Contents → ℕ → List Bool → ℕ
inner_from x n [] = 0
inner_from x n (m ∷ ms) = (if is_inner (block x n) && not m then 1 else 0) + inner_from x (suc n) ms

-- how many blocks that begin as inner blocks are not marked
abbrev pub unmarked_inner : Contents → List Bool → ℕ
unmarked_inner x marks = inner_from x 0 marks

-- if the disk is honest after the call, for each block that was read an inner block was marked
abbrev pub PaysInner : DiskState → DiskState → List Bool → List Bool → Type 0
PaysInner old new marks later =
    new.honest ≡ true → new.reads + unmarked_inner old.now.contents later ≤ old.reads + unmarked_inner old.now.contents marks

-- a call that answers that the device failed exactly if `fails` holds, and Ok exactly if `done` does, only looked at the disk, and marked blocks
pub record Marking (fails done : Type 0) (old new : DiskState) (marks later : List Bool) : Type 0 where
  pub looks : Looks fails old new
  pub growing : HoldsMore marks later
  -- For each block that it reads, it marks a data block that was not marked, and with Ok an inner block: no leaf is read.
  pub once : PaysReads old new marks later
  pub inner : done → PaysInner old new marks later

-- a call with this result did
abbrev pub MarksBlocks : {T : Type 0} → Result T TreeFault → DiskState → DiskState → List Bool → List Bool → Type 0
MarksBlocks result old new marks later = Marking (result ≡ Err Device) (IsOk result) old new marks later

-- # What is marked of trees, if the disk is honest after the call

-- P holds of the blocks of the subtree that lies under a block of this level
abbrev pub OnSubtree : DiskState → DiskState → ℕ → ℕ → ℕ → (List ℕ → Type 0) → Type 0
OnSubtree old new limit level b P =
    new.honest ≡ true → (sizes : Sizes) (rs : List Record) (bs : List ℕ) → Subtree sizes old.now.contents limit level b rs bs → P bs

-- P holds of the blocks under a root
abbrev pub OnTree : DiskState → DiskState → ℕ → Root → (List ℕ → Type 0) → Type 0
OnTree old new limit root P = new.honest ≡ true → (sizes : Sizes) (bs : List ℕ) → IsUnder sizes old.now.contents limit root bs → P bs

-- P holds of the blocks under roots
abbrev pub OnTrees : DiskState → DiskState → ℕ → List Root → (List ℕ → Type 0) → Type 0
OnTrees old new limit roots P = new.honest ≡ true → (sizes : Sizes) (bs : List ℕ) → AreUnder sizes old.now.contents limit roots bs → P bs

-- it is Ok there, unless the device fails
abbrev pub SoundBelow : {T : Type 0} → Result T TreeFault → DiskState → DiskState → ℕ → ℕ → ℕ → Type 0
SoundBelow result old new limit level b = OnSubtree old new limit level b (λ bs. OkUnlessDevice result)

abbrev pub SoundUnder : {T : Type 0} → Result T TreeFault → DiskState → DiskState → ℕ → Root → Type 0
SoundUnder result old new limit root = OnTree old new limit root (λ bs. OkUnlessDevice result)

abbrev pub SoundOn : {T : Type 0} → Result T TreeFault → DiskState → DiskState → ℕ → List Root → Type 0
SoundOn result old new limit roots = OnTrees old new limit roots (λ bs. OkUnlessDevice result)

-- no blocks are marked but those there
abbrev pub MarksOnlyBelow : DiskState → DiskState → ℕ → ℕ → ℕ → List Bool → List Bool → Type 0
MarksOnlyBelow old new limit level b marks later = OnSubtree old new limit level b (λ bs. MarksOnly bs marks later)

abbrev pub MarksOnlyUnder : DiskState → DiskState → ℕ → Root → List Bool → List Bool → Type 0
MarksOnlyUnder old new limit root marks later = OnTree old new limit root (λ bs. MarksOnly bs marks later)

abbrev pub MarksOnlyOn : DiskState → DiskState → List Root → List Bool → List Bool → Type 0
MarksOnlyOn old new roots marks later = OnTrees old new (length marks) roots (λ bs. MarksOnly bs marks later)

-- if the marks were closed, they grow by exactly the blocks there, unless the device fails
abbrev pub CoversBelow : {T : Type 0} → Result T TreeFault → DiskState → DiskState → ℕ → ℕ → ℕ → List Bool → List Bool → Type 0
CoversBelow result old new limit level b marks later =
    OnSubtree old new limit level b (λ bs. ClosedTo old.now.contents level marks → OkOrDevice result (λ _. MarksMore bs marks later))

abbrev pub CoversUnder : {T : Type 0} → Result T TreeFault → DiskState → DiskState → ℕ → Root → List Bool → List Bool → Type 0
CoversUnder result old new limit root marks later =
    OnTree old new limit root (λ bs. IsClosed old.now.contents marks → OkOrDevice result (λ _. MarksMore bs marks later))

abbrev pub Covers : {T : Type 0} → Result T TreeFault → DiskState → DiskState → List Root → List Bool → List Bool → Type 0
Covers result old new roots marks later =
    OnTrees old new (length marks) roots (λ bs. IsClosed old.now.contents marks → OkOrDevice result (λ _. MarksMore bs marks later))

-- and they stay closed
abbrev pub Closes : {T : Type 0} → Result T TreeFault → DiskState → DiskState → List Root → List Bool → List Bool → Type 0
Closes result old new roots marks later =
    OnTrees old new (length marks) roots (λ bs. IsClosed old.now.contents marks → OnOk result (IsClosed old.now.contents later))
