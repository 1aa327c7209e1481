-- What is found of trees by their tops and their inner blocks.
use Rattle.std.specs.Prelude.{◌≡◌, ◌⊎◌, ℕ, true, List, take, drop, Result}
use Rattle.std.specs.List.{AllByRecursion}
use Rattle.vm_types.specs.Map.{Map}
use Rattle.vm_disk.specs.Disk.{Contents, DiskState, block}
use Rattle.vm_block.specs.Leaf.{key_bytes}
use Rattle.vm_tree.specs.Tree.{Sizes, IsData, IsTree}
use Rattle.vm_tree.specs.Answers.{Lists}
use Rattle.vm_tree.specs.Root.{IsRooted}
use Rattle.vm_tree.specs.declared.root.Root.{Root}
use Rattle.vm_tree.specs.declared.faults.ListFault.{ListFault}
use Rattle.vm_tree.specs.declared.faults.TreeFault.{TreeFault}
use Rattle.vm_check.specs.Form.{OkUnlessDevice}
use Rattle.vm_check.specs.Verification.{HaveTrees}
use Rattle.vm_check.specs.Keys.{HasLevel}
use Rattle.vm_check.specs.declared.form.Form.{Form}
use Rattle.vm_check.specs.declared.form.Form.TheVariants.{Leaf, Node}

-- the level of a block of this form
abbrev pub level_of : Form → ℕ
level_of (Leaf count) = 0
level_of (Node level count) = level

-- the root's block is for data, and is a leaf or an inner block, of the level and with the lowest key that the root tells
pub record IsTop (x : Contents) (limit : ℕ) (root : Root) : Type 0 where
  pub inside : IsData limit root.block
  pub form : HasLevel (block x root.block) root.level
  pub first : take 10 (drop 16 (block x root.block)) ≡ key_bytes root.low

-- the root has no block, or its block is a top
abbrev pub IsTopped : Contents → ℕ → Root → Type 0
IsTopped x limit root = (root.block ≡ 0) ⊎ IsTop x limit root

abbrev pub AreTopped : Contents → ℕ → List Root → Type 0
AreTopped x limit roots = AllByRecursion (IsTopped x limit) roots

-- it is the root of whatever tree has its block
abbrev pub IsRootOfAny : Contents → ℕ → Root → Type 0
IsRootOfAny x limit root = (sizes : Sizes) (m : Map) (bs : List ℕ) → IsTree sizes x limit root.block m bs → IsRooted sizes x limit root m bs

-- both, as it was found by its top block
pub record IsFound (x : Contents) (limit : ℕ) (root : Root) : Type 0 where
  pub topped : IsTopped x limit root
  pub of_any : IsRootOfAny x limit root

abbrev pub AreFound : Contents → ℕ → List Root → Type 0
AreFound x limit roots = AllByRecursion (IsFound x limit) roots

-- # What is answered if the disk is honest after the call, unless the device fails or no memory is found

-- a root, if the number has a tree
abbrev pub AcceptsNumber : {T : Type 0} → Result T TreeFault → DiskState → DiskState → ℕ → ℕ → Type 0
AcceptsNumber result old new limit n =
    new.honest ≡ true → (sizes : Sizes) (m : Map) (bs : List ℕ) → IsTree sizes old.now.contents limit n m bs → OkUnlessDevice result

-- a value with P, if each of the numbers has a tree
abbrev pub WhereTrees : {T : Type 0} → Result T ListFault → DiskState → DiskState → ℕ → List ℕ → (Sizes → Contents → T → Type 0) → Type 0
WhereTrees result old new limit ns P =
    new.honest ≡ true → (sizes : Sizes) → HaveTrees sizes old.now.contents limit ns → Lists result (P sizes old.now.contents)
