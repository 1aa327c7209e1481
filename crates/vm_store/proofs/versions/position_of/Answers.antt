use Rattle.std.proofs.Common.{sym, ap, ◌∙◌, arith}
use Rattle.vm_types.proofs.FirstsLemmas.{IsFirst-at}
use Rattle.vm_store.proofs.EarliestLemmas.{earliest_at}
use Rattle.vm_store.proofs.FoundLemmas.{find_none}
use Rattle.vm_store.specs.Versions.{is_alternative_of}
use Rattle.vm_store.proofs.versions.position_of.Goals as goal

pub returns-then-is_alternative_of-clause-found : goal.returns-then-is_alternative_of-clause-found
returns-then-is_alternative_of-clause-found c =
    let e = c.index-versions-i.result in
    IsFirst-at (is_alternative_of c.args.alt.now) c.args.versions.now c.loop-i.i e c.loop-i-test.true
    (ap (is_alternative_of c.args.alt.now) (sym c.index-versions-i.is) ∙ sym c.is_alternative_of.ensures ∙ c.if-is_alternative_of.true)
    (λ k lt. c.loop-i.invariant k e lt)

pub returns-then-is_alternative_of-clause-earliest : goal.returns-then-is_alternative_of-clause-earliest
returns-then-is_alternative_of-clause-earliest c =
    let e = c.index-versions-i.result in
    earliest_at c.args.alt.now c.args.versions.now c.loop-i.i e c.loop-i-test.true
    (ap (is_alternative_of c.args.alt.now) (sym c.index-versions-i.is) ∙ sym c.is_alternative_of.ensures ∙ c.if-is_alternative_of.true) c.loop-i.invariant

pub returns-clause-none : goal.returns-clause-none
returns-clause-none c = find_none (is_alternative_of c.args.alt.now) c.args.versions.now (λ k d lt. c.loop-i.invariant k d (omega arith))
