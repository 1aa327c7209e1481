use Rattle.std.proofs.Common.{◌≡◌, ◌==◌, ◌∙◌, ◌<◌, ◌++◌, ◌∷◌, [], None, ap, false, length, refl, sym, subst, arith, vec_len}
use Rattle.std.proofs.lemmas.Bool.{eqb-false}
use Rattle.vm_cli.specs.session.Streams.{IsStage}
use Rattle.vm_cli.specs.declared.session.batch.Batch.{Batch}
use Rattle.vm_cli.specs.declared.session.waiting.WaitingBatch.{WaitingBatch}
use Rattle.vm_cli.proofs.BatchLemmas.{none_of}
use Rattle.vm_cli.proofs.LaterLemmas.{queue_put}
use Rattle.vm_cli.proofs.session.batches.BatchSession.wait.Goals as goal

pub returns-clause-put : goal.returns-clause-put
returns-clause-put c = λ was.
    let batch = c.args.self.now.batch in
    let own : WaitingBatch = record { number = c.args.number; batch = c.replace-batch.result; answers = c.new-2.result } in
    let none : (vec_len batch.lines == 0) ≡ false = sym c.is_empty.ensures ∙ c.if-is_empty.false in
    let some : 0 < length batch.lines.items = omega (arith, eqb-false (vec_len batch.lines) 0 none, batch.lines.ok.0) in
    record {
      manner = refl;
      closed = subst (λ (b : Batch). IsStage b None) (sym c.replace-batch.ensures.after) c.new.ensures.stage;
      none = ap (λ (b : Batch). b.count) c.replace-batch.ensures.after ∙ c.new.ensures.none;
      waits = queue_put c.args.number batch own refl c.replace-batch.ensures.value (none_of batch.lost (sym c.is_some.ensures ∙ c.if-is_some.false)) some
          c.args.waiting.now.items c.push_reserved.new.self.items (c.push_reserved.ensures.items ∙ ap (λ them. them ++ own ∷ []) c.reserve.ensures.items);
    }
