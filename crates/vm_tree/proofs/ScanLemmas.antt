-- Faults of a listing that are passed on.
use Rattle.std.proofs.Common.{◌≡◌, Err}
use Rattle.vm_tree.specs.Answers.{Lists}
use Rattle.vm_tree.specs.declared.faults.TreeFault.{TreeFault}
use Rattle.vm_tree.specs.declared.faults.ListFault.{ListFault}
use Rattle.vm_tree.specs.declared.faults.ListFault.TheVariants as list
use Rattle.vm_tree.specs.declared.faults.TreeFault.TheVariants.{Device, Damaged}

-- a fault is passed on
pub fault_lists : {T U : Type 0} (e : ListFault) (P : T → Type 0) (Q : U → Type 0) → Lists (Err e) P → Lists (Err e) Q
fault_lists (list.Tree Device) P Q fault = tt
fault_lists (list.Tree (Damaged b)) P Q fault = fault
fault_lists list.Memory P Q fault = tt

pub device_lists : {T : Type 0} (e : TreeFault) (P : T → Type 0) → e ≡ Device → Lists (Err (list.Tree e)) P
device_lists Device P is = tt
device_lists (Damaged b) P is = cc
