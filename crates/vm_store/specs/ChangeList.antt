-- What is answered when changes are made one after another.
use Rattle.std.specs.Prelude.{◌≡◌, ℕ, ◌<◌, List, ◌∷◌, ◌++◌, Some, Result, Ok, Err}
use Rattle.vm_types.specs.declared.change.Change.{Change}
use Rattle.vm_types.specs.Map.{Map, with_changes}
use Rattle.vm_disk.specs.Disk.{Contents}
use Rattle.vm_tree.specs.FullPath.{FullPath}
use Rattle.vm_tree.specs.Root.{IsRooted}
use Rattle.vm_tree.specs.declared.root.Root.{Root}
use Rattle.vm_tree.specs.declared.faults.PutFault.{PutFault}
use Rattle.vm_tree.specs.declared.faults.PutFault.TheVariants.{Tree, Deep}
use Rattle.vm_tree.specs.declared.faults.TreeFault.TheVariants.{Device, Damaged}
use Rattle.vm_store.specs.Sizes.{sizes}

-- some change sets a record for which there is no room: with the changes before it made, the map lies in a tree of the greatest number
-- of levels, the root of which would become more than one block
pub record MeetsFullPath (x : Contents) (limit : ℕ) (m : Map) (changes : List Change) : Type 0 where
  pub earlier : List Change
  pub change : Change
  pub later : List Change
  pub parts : changes ≡ earlier ++ change ∷ later
  pub value : List ℕ
  pub sets : change.after ≡ Some value
  pub root : Root
  pub blocks : List ℕ
  pub tree : IsRooted sizes x limit root (with_changes m earlier) blocks
  pub some : 0 < root.block
  pub full : FullPath sizes x (change.key, value) root.block

-- what changes answer on a tree: a root with P; Deep, if `deep` holds; or that the device failed
abbrev pub Makes : {T : Type 0} → Result T PutFault → Type 0 → (T → Type 0) → Type 0
Makes (Ok x) deep P = P x
Makes (Err (Tree Device)) deep P = Unit {0}
Makes (Err (Tree (Damaged b))) deep P = ⊥
Makes (Err Deep) deep P = deep
