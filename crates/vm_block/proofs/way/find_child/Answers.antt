use Rattle.std.proofs.Common.{◌≡◌, length, refl, sym, subst, ◌∙◌, arith}
use Rattle.std.proofs.lemmas.List.{length-map}
use Rattle.vm_types.specs.Places.{place}
use Rattle.vm_block.specs.Node.{lows}
use Rattle.vm_block.specs.declared.node.Child.{Child}
use Rattle.vm_block.specs.Way.{IsChosen}
use Rattle.vm_block.proofs.HeadLemmas.{node_headed, node_same}
use Rattle.vm_block.proofs.WayLemmas.{node_keys}
use Rattle.vm_block.proofs.way.find_child.Goals as goal

pub returns-in-Some-clause-only : goal.returns-in-Some-clause-only
returns-in-Some-clause-only c level cs node =
    let same = node_same level (length cs) c.in-Some.level c.in-Some.count _ _ refl refl (c.in-Some.ensures.only level (length cs) (node_headed c.args.bytes.now level cs node)) in
    let many : length (lows cs) ≡ c.in-Some.count = length-map cs (λ (d : Child). place d.low) ∙ sym same.1 in
    let chosen = subst (λ p. IsChosen (lows cs) p c.choose-index.result) c.place.ensures.place (c.choose-index.ensures.chosen (lows cs) many (node_keys c.args.bytes.now level cs node)) in
    (same.0, same.1, record { chosen = chosen; child = c.child_at.ensures.child level cs node (omega (arith, c.choose-index.ensures.within, same.1)) })

pub returns-in-None-clause-only : goal.returns-in-None-clause-only
returns-in-None-clause-only c level cs node = absurd (cc (c.in-None.ensures.only level (length cs) (node_headed c.args.bytes.now level cs node)))
