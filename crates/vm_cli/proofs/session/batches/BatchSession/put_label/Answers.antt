use Rattle.std.proofs.Common.{◌≡◌, ◌∙◌, ◌++◌, ◌∷◌, [], ap, sym, subst}
use Rattle.std.specs.Fmt.{decimal}
use Rattle.vm_cli.specs.session.Known.{between}
use Rattle.vm_cli.specs.session.SessionKinds.{Puts}
use Rattle.vm_cli.specs.session.Waiting.{label}
use Rattle.vm_cli.proofs.StreamLemmas.{puts_put}
use Rattle.vm_cli.proofs.session.batches.BatchSession.put_label.Goals as goal

pub returns-clause-put : goal.returns-clause-put
returns-clause-put g c =
    let before = g.W.Write.contents c.args.writer.now in
    let after = g.W.Write.contents c.put_all.new.writer in
    let marked = c.push.ensures ∙ ap (λ t. t ++ 64 ∷ []) c.clear.ensures in
    let numbered = c.push_number.ensures.written ∙ ap (λ n. c.push.new.self ++ decimal n) c.from.ensures ∙ ap (λ t. t ++ decimal c.args.number) marked in
    let text : c.as_bytes.result.now ≡ label c.args.number = c.as_bytes.ensures ∙ c.push-2.ensures ∙ ap (λ t. t ++ 10 ∷ []) numbered in
    subst (λ t. Puts t c.said.result (between before after)) text
    (subst (λ r. Puts c.as_bytes.result.now r (between before after)) (sym c.said.ensures) (puts_put c.as_bytes.result.now c.put_all.result before after c.put_all.ensures.ok c.put_all.ensures.err))
