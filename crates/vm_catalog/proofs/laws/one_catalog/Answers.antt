use Rattle.vm_catalog.proofs.PublishLemmas.{names_in}
use Rattle.vm_catalog.proofs.SlotLaw.{written_slot}
use Rattle.vm_catalog.proofs.SlotOne.{slot_one, names_one}
use Rattle.std.proofs.Common.{refl}
use Rattle.vm_catalog.specs.Place.{selected}
use Rattle.vm_catalog.proofs.laws.one_catalog.Goals as goal

pub returns : goal.returns
returns c = record {
  slot = slot_one;
  named = names_one;
  frame = λ x y limit es same names. names_in x y (selected x) limit es same refl names;
  written = written_slot;
}
