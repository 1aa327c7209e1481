use Rattle.vm_block.proofs.FormLemmas.{leaf_or_node}
use Rattle.vm_block.proofs.SpelledLemmas.{records_one}
use Rattle.vm_block.proofs.NodeLemmas.{node_one}
use Rattle.vm_block.proofs.SlotLemmas.{head_one, entry_one, slot_one}
use Rattle.vm_block.proofs.laws.one_form.Goals as goal

pub returns : goal.returns
returns c = record {
  records = records_one;
  node = node_one;
  apart = leaf_or_node;
  head = head_one;
  entry = entry_one;
  slot = slot_one;
}
