-- Faults of a Put, and what a fault that is not the device's leaves.
use Rattle.std.proofs.Common.{◌≡◌, ◌≢◌, true, List, Bool, Option, None, Some, Result, Err, refl}
use Rattle.vm_types.specs.declared.answer.Answer.{Answer}
use Rattle.vm_types.specs.declared.refusal.Refusal.{Refusal}
use Rattle.vm_types.specs.declared.refusal.Refusal.TheVariants as refusal
use Rattle.vm_disk.specs.Disk.{DiskState}
use Rattle.vm_disk.specs.Moments.{TouchesOnly}
use Rattle.vm_disk.proofs.MomentLemmas.{at_end, reads_keep, touches_nothing}
use Rattle.vm_alloc.proofs.HeldLemmas.{holds_same}
use Rattle.vm_tree.specs.Calls.{LooksIfRefused}
use Rattle.vm_tree.specs.Faults.{refusal_of_put}
use Rattle.vm_tree.specs.Free.{SparesBase, is_free}
use Rattle.vm_tree.specs.declared.root.Root.{Root}
use Rattle.vm_tree.specs.declared.faults.PutFault.{PutFault}
use Rattle.vm_tree.specs.declared.faults.PutFault.TheVariants.{Tree, Deep}
use Rattle.vm_tree.specs.declared.faults.TreeFault.TheVariants.{Device, Damaged}
use Rattle.vm_store.specs.Rest.{before_of}

-- what a Put of the store answers then
abbrev pub answer_of : PutFault → Result Answer Refusal
answer_of fault = Err (refusal_of_put fault)

-- a Put that answers another fault than the device's touches nothing
pub fault_spares : (fault : PutFault) (bits later : List Bool) (old new : DiskState) → LooksIfRefused {T = Root} (Err fault) bits later old new → new.honest ≡ true
    → answer_of fault ≢ Err refusal.Device → TouchesOnly (is_free bits) old.now new.now
fault_spares (Tree Device) bits later old new refused honest fine = absurd (fine refl)
fault_spares (Tree (Damaged b)) bits later old new refused honest fine =
    at_end old new (TouchesOnly (is_free bits) old.now) (reads_keep old new (TouchesOnly (is_free bits) old.now) (refused.reads honest tt) (touches_nothing (is_free bits) old.now))
fault_spares Deep bits later old new refused honest fine =
    at_end old new (TouchesOnly (is_free bits) old.now) (reads_keep old new (TouchesOnly (is_free bits) old.now) (refused.reads honest tt) (touches_nothing (is_free bits) old.now))

-- the blocks that were held before a series are those of its baseline
pub spares_before : (base : Option (List Bool)) (bits : List Bool) → SparesBase base (before_of base bits)
spares_before None bits = tt
spares_before (Some before) bits = holds_same before
