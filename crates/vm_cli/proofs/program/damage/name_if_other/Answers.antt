use Rattle.std.proofs.Common.{◌∙◌, ℕ, List, OnOk, OnErr, sym, subst}
use Rattle.std.specs.Io.KnownBytes.{Appends}
use Rattle.std.proofs.lemmas.Bool.{false≢true, false_from_ne_true}
use Rattle.vm_cli.specs.answers.Carried.{WritesStart}
use Rattle.vm_cli.proofs.ExitLemmas.{named_here, unmarked_unnamed, told_unnamed}
use Rattle.vm_cli.proofs.program.damage.name_if_other.Goals as goal

pub returns-then-not-is_set-clause-ok : goal.returns-then-not-is_set-clause-ok
returns-then-not-is_set-clause-ok g c = unmarked_unnamed c.args.told c.args.damaged.now c.args.n _ (false_from_ne_true _ (λ is. false≢true (sym c.if-not-is_set.true ∙ c.is_set.ensures.1 is)))

pub returns-then-was_told-clause-ok : goal.returns-then-was_told-clause-ok
returns-then-was_told-clause-ok g c = told_unnamed c.args.told c.args.damaged.now c.args.n _ (sym c.was_told.ensures ∙ c.if-was_told.true)

pub returns-clause-ok : goal.returns-clause-ok
returns-clause-ok g c =
    let here = named_here c.args.told c.args.damaged.now c.args.n (c.is_set.ensures.0 c.if-not-is_set.false) (sym c.was_told.ensures ∙ c.if-was_told.false) in
    subst (λ (z : List ℕ). OnOk c.name.result (Appends (g.F.Write.contents c.args.errors.now) (g.F.Write.contents c.name.new.errors) z)) (sym here) c.name.ensures.ok

pub returns-clause-err : goal.returns-clause-err
returns-clause-err g c =
    let here = named_here c.args.told c.args.damaged.now c.args.n (c.is_set.ensures.0 c.if-not-is_set.false) (sym c.was_told.ensures ∙ c.if-was_told.false) in
    subst (λ (z : List ℕ). OnErr c.name.result (WritesStart (g.F.Write.contents c.args.errors.now) (g.F.Write.contents c.name.new.errors) z)) (sym here) c.name.ensures.err
