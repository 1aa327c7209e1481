use Rattle.std.proofs.Common.{sym, ap, subst, ◌∙◌}
use Rattle.vm_store.specs.Versions.{IsEarliest, is_alternative_of}
use Rattle.vm_store.proofs.EarliestLemmas.{first_at}
use Rattle.vm_store.proofs.versions.Versions.position.Goals as goal

pub returns-in-Some-clause-found : goal.returns-in-Some-clause-found
returns-in-Some-clause-found c =
    let there = c.in-Some.ensures.lookup in
    rw (← c.self.view_is, ← c.deref.ensures.value) (first_at c.args.alt.now _ c.self.inside.recent c.in-Some.version.now there.3.0
    (ap (is_alternative_of c.args.alt.now) (sym there.1) ∙ sym c.is_alternative_of.ensures ∙ c.if-is_alternative_of.true)
    (subst (λ vs. IsEarliest vs c.self.inside.recent) (sym c.deref.ensures.value) c.self.invariant.2))
