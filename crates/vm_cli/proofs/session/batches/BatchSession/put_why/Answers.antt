use Rattle.std.proofs.Common.{◌≡◌, ◌∙◌, ap, sym, subst, drop}
use Rattle.vm_cli.specs.session.Known.{between}
use Rattle.vm_cli.specs.session.SessionKinds.{Puts}
use Rattle.vm_cli.specs.session.Streams.{why_text}
use Rattle.vm_cli.proofs.StreamLemmas.{puts_put}
use Rattle.vm_cli.proofs.session.batches.BatchSession.put_why.Goals as goal

pub returns-in-Answer-clause-put : goal.returns-in-Answer-clause-put
returns-in-Answer-clause-put g c =
    let before = g.W.Write.contents c.args.writer.now in
    let after = g.W.Write.contents c.put_all.new.writer in
    let items = c.args.self.now.answers.items in
    let text : c.behind.result.now ≡ why_text c.args.why items = c.behind.ensures ∙ ap (drop c.in-Answer.at) c.as_slice.ensures.value ∙ sym (ap (λ w. why_text w items) c.in-Answer.is) in
    subst (λ t. Puts t c.said.result (between before after)) text
    (subst (λ r. Puts c.behind.result.now r (between before after)) (sym c.said.ensures) (puts_put c.behind.result.now c.put_all.result before after c.put_all.ensures.ok c.put_all.ensures.err))
