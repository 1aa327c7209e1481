-- What `verify` finds under numbers.
use Rattle.std.specs.Prelude.{◌≡◌, ℕ, ◌+◌, ◌≤◌, Bool, true, List, [], ◌∷◌, ◌++◌, length, map, Contains, Option, Result, Err, IfOk, IsSomeAnd}
use Rattle.std.specs.Global.{Vec}
use Rattle.std.specs.List.{AllByRecursion}
use Rattle.vm_types.specs.declared.sizes.TheConstants.{FIRST_DATA, MAX_BLOCKS, MIN_BLOCKS}
use Rattle.vm_types.specs.Map.{Map}
use Rattle.vm_disk.specs.Disk.{Contents, DiskState}
use Rattle.vm_alloc.specs.Marks.{IsMarked}
use Rattle.vm_tree.specs.Tree.{Sizes, IsTree}
use Rattle.vm_tree.specs.Answers.{Lists}
use Rattle.vm_tree.specs.BlockReads.{Finds}
use Rattle.vm_tree.specs.Calls.{OnlyLists}
use Rattle.vm_tree.specs.Root.{IsRooted}
use Rattle.vm_tree.specs.declared.root.Root.{Root}
use Rattle.vm_tree.specs.declared.faults.ListFault.{ListFault}
use Rattle.vm_tree.specs.declared.faults.ListFault.TheVariants as list
use Rattle.vm_tree.specs.declared.faults.TreeFault.TheVariants.{Damaged}
use Rattle.vm_check.specs.Damage.{AreDamaged}
use Rattle.vm_check.specs.Marks.{unmarked}

-- under the numbers lie maps, with these roots, in these blocks all together
abbrev pub AreRoots : Sizes → Contents → ℕ → List ℕ → List Root → List ℕ → Type 0
AreRoots sizes x limit [] [] bs = bs ≡ []
AreRoots sizes x limit (n ∷ ns) (r ∷ rs) bs =
    (m : Map) × (own : List ℕ) × (others : List ℕ) × (r.block ≡ n) × IsRooted sizes x limit r m own × AreRoots sizes x limit ns rs others × (bs ≡ own ++ others)
AreRoots sizes x limit [] (r ∷ rs) bs = ⊥
AreRoots sizes x limit (n ∷ ns) [] bs = ⊥

-- under each of the numbers lies a map
abbrev pub HaveTrees : Sizes → Contents → ℕ → List ℕ → Type 0
HaveTrees sizes x limit ns = AllByRecursion (λ n. (m : Map) × (bs : List ℕ) × IsTree sizes x limit n m bs) ns

-- these roots were found, and exactly the blocks under them are marked
pub record Found (sizes : Sizes) (x : Contents) (limit : ℕ) (ns : List ℕ) (roots : List Root) (marks : List Bool) : Type 0 where
  pub blocks : List ℕ
  pub are : AreRoots sizes x limit ns roots blocks
  pub count : length marks ≡ limit
  pub each : AllByRecursion (IsMarked marks) blocks
  pub only : (n : ℕ) → IsMarked marks n → Contains blocks n

-- if the disk is honest after the call, and each of the numbers has a tree, it is Ok, unless the device fails or no memory is found
abbrev pub AcceptsTrees : {T : Type 0} → Result T ListFault → Sizes → DiskState → DiskState → ℕ → List ℕ → Type 0
AcceptsTrees result sizes old new limit ns = new.honest ≡ true → HaveTrees sizes old.now.contents limit ns → Lists result (λ _. Unit {0})

-- exactly as many blocks were read as are marked, in a store of this many
abbrev pub PaidFor : DiskState → DiskState → ℕ → List Bool → Type 0
PaidFor old new limit marks = new.reads + unmarked marks + FIRST_DATA ≡ old.reads + limit

-- a store may have so many blocks, and the disk has them
pub record SizeFits (blocks : ℕ) (now : DiskState) : Type 0 where
  pub least : MIN_BLOCKS ≤ blocks
  pub most : blocks ≤ MAX_BLOCKS
  pub inside : blocks ≤ now.blocks

-- there are a root for each number, and a flag for each of so many blocks
pub record AreGiven (limit : ℕ) (ns : List ℕ) (found : Vec Root × List Bool) : Type 0 where
  pub count : length found.1 ≡ limit
  pub roots : length found.0.items ≡ length ns
  pub named : map (λ root. root.block) found.0.items ≡ ns

-- what a walk of the trees under numbers finds, in a store of so many blocks
pub record Verifies (result : Result (Vec Root × List Bool) ListFault) (sizes : Sizes) (old new : DiskState) (limit : ℕ) (ns : List ℕ) : Type 0 where
  pub looks : OnlyLists result old new
  -- On any disk there is a flag for each block, and a root for each number.
  pub given : IfOk result (AreGiven limit ns)
  -- Whatever the disk holds and whatever the answer, there are at most as many reads as data blocks; with Ok, exactly as many as there are
  -- marked blocks.
  pub once : new.reads + FIRST_DATA ≤ old.reads + limit
  pub paid : IfOk result (λ found. PaidFor old new limit found.1)
  -- It is Ok exactly when each number has a tree, unless the device fails or memory cannot be allocated.
  pub found : Finds result old new (λ x found. Found sizes x limit ns found.0.items found.1)
  pub only : AcceptsTrees result sizes old new limit ns

-- with Damaged, and the disk honest after the call, marks on the damaged blocks are left; with any other answer nothing is
abbrev pub TellsDamaged : {T : Type 0} → Result T ListFault → Sizes → DiskState → DiskState → ℕ → List ℕ → Option (List Bool) → Option (List Bool) → Type 0
TellsDamaged (Err (list.Tree (Damaged first))) sizes old new limit ns damaged damaged' =
    IsSomeAnd damaged' (λ marks. new.honest ≡ true → AreDamaged sizes old.now.contents limit ns first marks)
TellsDamaged result sizes old new limit ns damaged damaged' = damaged' ≡ damaged
