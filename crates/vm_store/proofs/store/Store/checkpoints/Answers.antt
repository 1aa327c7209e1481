use Rattle.std.proofs.Common.{◌≡◌, List, Ok, IsOk, inl, inr, not, refl, ap, sym, subst, ◌∙◌}
use Rattle.vm_types.specs.declared.refusal.Refusal.TheVariants.{Memory}
use Rattle.vm_store.specs.Answers.{IsDueOrMemory}
use Rattle.vm_store.specs.declared.version.Version.{Version}
use Rattle.vm_store.specs.Versions.{checkpoints_among}
use Rattle.vm_types.specs.Queries.{checkpoints_in}
use Rattle.vm_store.proofs.TurnLemmas.{some_told, none_told, checkpoints_listed, checkpoints_absent, if_err_so, if_ok_so}
use Rattle.vm_store.proofs.VersionLemmas.{standing}
use Rattle.vm_store.proofs.store.Store.checkpoints.Goals as goal

pub returns-then-is_none-clause-none : goal.returns-then-is_none-clause-none
returns-then-is_none-clause-none g c well s holds =
    inr (checkpoints_absent (standing holds.rests) c.args.alt.now (sym c.alternative.ensures ∙ none_told _ (c.is_none.ensures ∙ ap not c.if-is_none.true)))

pub returns-clause-none : goal.returns-clause-none
returns-clause-none g c well s holds =
    let found = some_told _ (c.is_none.ensures ∙ ap not c.if-is_none.false) in
    if_err_so c.checkpoints_among.result (λ r. r ≡ Memory) (λ r. IsDueOrMemory r (checkpoints_in s.working c.args.alt.now))
    (λ r memory. inl (subst IsOk (checkpoints_listed (standing holds.rests) c.args.alt.now found.0 (sym c.alternative.ensures ∙ found.1)) refl, memory)) c.checkpoints_among.ensures.only

pub returns-clause-value : goal.returns-clause-value
returns-clause-value g c well s holds =
    let found = some_told _ (c.is_none.ensures ∙ ap not c.if-is_none.false) in
    let same = ap (λ (es : List Version). Ok (checkpoints_among es c.args.alt.now)) c.as_slice.ensures.items ∙ checkpoints_listed (standing holds.rests) c.args.alt.now found.0 (sym c.alternative.ensures ∙ found.1) in
    if_ok_so c.checkpoints_among.result (λ list. list.items ≡ checkpoints_among c.as_slice.result.now c.args.alt.now) (λ list. Ok list.items ≡ checkpoints_in s.working c.args.alt.now)
    (λ list is. ap Ok is ∙ same) c.checkpoints_among.ensures.list
