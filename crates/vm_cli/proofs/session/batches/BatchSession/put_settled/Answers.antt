use Rattle.std.proofs.Common.{◌≡◌, ◌++◌, ◌∙◌, List, ℕ, Bool, true, false, ap, sym, refl, append-nil}
use mir.Val.{bool_byte}
use Rattle.vm_cli.specs.session.Streams.{ok_text, repeated, settled_text}
use Rattle.vm_cli.specs.session.Streams.Verdict.{succeeds}
use Rattle.vm_cli.proofs.CarriedLemmas.{passed_on}
use Rattle.vm_cli.proofs.PlannerLemmas.{puts_behind, puts_short}
use Rattle.vm_cli.proofs.StreamLemmas.{repeated-one}
use Rattle.vm_cli.proofs.session.batches.BatchSession.put_settled.Goals as goal

-- the answers to the lines, and to a commit
done_text : (is_begun : Bool) (n : ℕ) → n ≡ bool_byte is_begun → (count : ℕ) (answers : List ℕ) → answers ++ repeated n ok_text ≡ settled_text is_begun count (succeeds answers)
done_text true n is count answers = ap (λ m. answers ++ repeated m ok_text) is ∙ ap (λ t. answers ++ t) (repeated-one ok_text)
done_text false n is count answers = ap (λ m. answers ++ repeated m ok_text) is ∙ append-nil answers

pub returns-in_err-put_why-in-Ok-clause-put : goal.returns-in_err-put_why-in-Ok-clause-put
returns-in_err-put_why-in-Ok-clause-put g c =
    let answers = c.args.self.now.answers.items in
    rw (passed_on _ c.from_residual.ensures.1, c.in-Ok.is, sym (done_text c.args.is_begun (bool_byte c.args.is_begun) refl c.args.count answers))
    (puts_short _ _ answers (repeated (bool_byte c.args.is_begun) ok_text) _ c.in_err-put_why-in-Ok.ensures.put)

pub returns-in_ok-put_why-in-Ok-clause-put : goal.returns-in_ok-put_why-in-Ok-clause-put
returns-in_ok-put_why-in-Ok-clause-put g c =
    let answers = c.args.self.now.answers.items in
    rw (c.in-Ok.is, sym (done_text c.args.is_begun c.from.result c.from.ensures c.args.count answers))
    (puts_behind _ (g.W.Write.contents c.put_why.new.writer) _ answers (repeated c.from.result ok_text) c.put_repeated.result c.in_ok-put_why-in-Ok.ensures.put c.put_repeated.ensures.put)
