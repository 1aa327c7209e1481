-- Faults of trees, as refusals.
use Rattle.vm_types.specs.declared.refusal.Refusal.{Refusal}
use Rattle.vm_types.specs.declared.refusal.Refusal.TheVariants as refusal
use Rattle.vm_tree.specs.declared.faults.ListFault.{ListFault}
use Rattle.vm_tree.specs.declared.faults.ListFault.TheVariants as list
use Rattle.vm_tree.specs.declared.faults.PutFault.{PutFault}
use Rattle.vm_tree.specs.declared.faults.PutFault.TheVariants as put
use Rattle.vm_tree.specs.declared.faults.TreeFault.{TreeFault}
use Rattle.vm_tree.specs.declared.faults.TreeFault.TheVariants.{Device, Damaged}

-- what a command is refused with for a fault
abbrev pub refusal_of : TreeFault → Refusal
refusal_of Device = refusal.Device
refusal_of (Damaged b) = refusal.Damaged b

-- for a fault of a Put
abbrev pub refusal_of_put : PutFault → Refusal
refusal_of_put (put.Tree fault) = refusal_of fault
refusal_of_put put.Deep = refusal.Deep

-- for a fault of a call that makes a list
abbrev pub refusal_of_list : ListFault → Refusal
refusal_of_list (list.Tree fault) = refusal_of fault
refusal_of_list list.Memory = refusal.Memory
