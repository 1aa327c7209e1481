use Rattle.std.proofs.Common.{length, refl, sym, ◌∙◌, arith}
use Rattle.std.proofs.lemmas.Bool.{false≢true}
use Rattle.vm_block.proofs.HeadLemmas.{node_headed, node_same}
use Rattle.vm_block.proofs.TellingLemmas.{node_told, node_rows, node_zeros, zero_from, zero_to}
use Rattle.vm_block.proofs.node_form.node_size.Goals as goal
use Rattle.vm_block.proofs.node_form.node_size.Goals.{then-not-are_children-via-then-not-are_children, then-not-are_children-via-else-not-are_children+then-not-are_zero}

pub returns-in_default-clause-only : goal.returns-in_default-clause-only
returns-in_default-clause-only c level cs node = absurd (cc (c.in_default.ensures.only level (length cs) (node_headed c.args.bytes.now level cs node)))

pub returns-then-not-are_children-clause-only : goal.returns-then-not-are_children-clause-only
returns-then-not-are_children-clause-only c level cs node =
    let bytes = c.args.bytes.now in
    let same = node_same level (length cs) c.in-Some.level c.in-Some.count _ _ refl refl (c.in-Some.ensures.only level (length cs) (node_headed bytes level cs node)) in
    elim c.then-not-are_children.branch [
      | then-not-are_children-via-then-not-are_children w ↦
          absurd (false≢true (sym w.if-not-are_children.true ∙ c.are_children.ensures.only cs _ node.fit (sym same.1) (node_rows bytes level cs 4080 node (omega arith)) node.rising))
      | then-not-are_children-via-else-not-are_children+then-not-are_zero w ↦
          absurd (false≢true (sym w.if-not-are_zero.true ∙ w.are_zero.ensures.1 (zero_from _ _ _ c.told-bytes (omega (arith, c.told-bytes)) (node_zeros bytes level cs c.in-Some.level c.in-Some.count node same))))
    ]

pub returns-clause-found : goal.returns-clause-found
returns-clause-found c =
    let found = c.are_children.ensures.found c.if-not-are_children.false in (
      found.0,
      node_told c.args.bytes.now c.in-Some.level found.0 c.in-Some.count 4080 c.told-bytes c.in-Some.ensures.found found.2 (zero_to _ _ _ c.told-bytes (omega (arith, c.told-bytes)) (c.are_zero.ensures.0 c.if-not-are_zero.false)) (omega arith) found.3 found.1 found.4,
      found.2,
    )

pub returns-clause-only : goal.returns-clause-only
returns-clause-only c level cs node = c.in-Some.ensures.only level (length cs) (node_headed c.args.bytes.now level cs node)
