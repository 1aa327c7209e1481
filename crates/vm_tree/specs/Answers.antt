-- What the calls on trees answer.
use Rattle.std.specs.Prelude.{◌≡◌, ◌<◌, Option, None, Some, Result, Ok, Err}
use Rattle.vm_block.specs.Leaf.{Record}
use Rattle.vm_disk.specs.Disk.{Contents}
use Rattle.vm_tree.specs.FullPath.{FullPath}
use Rattle.vm_tree.specs.Tree.{Sizes}
use Rattle.vm_tree.specs.declared.root.Root.{Root}
use Rattle.vm_tree.specs.declared.faults.ListFault.{ListFault}
use Rattle.vm_tree.specs.declared.faults.ListFault.TheVariants as list
use Rattle.vm_tree.specs.declared.faults.PutFault.{PutFault}
use Rattle.vm_tree.specs.declared.faults.PutFault.TheVariants as put
use Rattle.vm_tree.specs.declared.faults.TreeFault.{TreeFault}
use Rattle.vm_tree.specs.declared.faults.TreeFault.TheVariants.{Device, Damaged}

-- the tree under the root has no room for this record
pub record LacksRoom (sizes : Sizes) (x : Contents) (root : Root) (r : Record) : Type 0 where
  pub some : 0 < root.block
  pub full : FullPath sizes x r root.block

-- what is answered on a tree: a value with P, or that the device failed
abbrev pub OkOrDevice : {T : Type 0} → Result T TreeFault → (T → Type 0) → Type 0
OkOrDevice (Ok x) P = P x
OkOrDevice (Err e) P = e ≡ Device

-- what a listing answers on a tree: a value with P, that the device failed, or that no memory was found
abbrev pub Lists : {T : Type 0} → Result T ListFault → (T → Type 0) → Type 0
Lists (Ok x) P = P x
Lists (Err (list.Tree Device)) P = Unit {0}
Lists (Err (list.Tree (Damaged b))) P = ⊥
Lists (Err list.Memory) P = Unit {0}

-- what a Put answers on a tree: a root with P, if there is room; Deep, if `deep` holds; or that the device failed
abbrev pub Puts : {T : Type 0} → Result T PutFault → Type 0 → (T → Type 0) → Type 0
Puts (Ok x) deep P = P x × (deep → ⊥)
Puts (Err (put.Tree Device)) deep P = Unit {0}
Puts (Err (put.Tree (Damaged b))) deep P = ⊥
Puts (Err put.Deep) deep P = deep

-- what a Remove answers on a tree: None, if the key is absent; else a root with P; or that the device failed
abbrev pub Removes : {T : Type 0} → Result (Option T) TreeFault → Type 0 → (T → Type 0) → Type 0
Removes (Ok None) absent P = absent
Removes (Ok (Some x)) absent P = (absent → ⊥) × P x
Removes (Err e) absent P = e ≡ Device
