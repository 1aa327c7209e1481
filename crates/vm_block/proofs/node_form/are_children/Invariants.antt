use Rattle.vm_types.specs.Places.{place}
use Rattle.vm_block.specs.declared.node.Child.{Child}
use Rattle.vm_block.specs.Node.{ChildFits, child_bytes}
use Rattle.vm_block.proofs.TellingLemmas.{Told, Follows}
use Rattle.vm_block.proofs.node_form.are_children.Given as goal

abbrev pub invariant-loop-i : goal.invariant-loop-i
invariant-loop-i l = record {
  told : Told child_bytes ChildFits (λ (c : Child). place c.low) 14 l.bytes l.i l.low;
  follows : Follows child_bytes ChildFits (λ (c : Child). place c.low) 14 l.bytes l.count l.i l.low;
}
