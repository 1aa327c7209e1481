use Rattle.std.proofs.Common.{◌++◌, ◌+◌, List, ℕ, Vec, Err, ap, subst}
use Rattle.std.specs.Io.KnownBytes.{Appends}
use Rattle.vm_cli.specs.answers.Carried.{WritesStart}
use Rattle.vm_cli.specs.answers.Replies.{reply_text}
use Rattle.vm_cli.specs.session.Streams.{repeated, why_text}
use Rattle.vm_cli.specs.declared.answers.reply.Reply.TheVariants.{NotDone}
use Rattle.vm_cli.proofs.CarriedLemmas.{passed_on}
use Rattle.vm_cli.proofs.PlannerLemmas.{puts_behind, puts_short}
use Rattle.vm_cli.proofs.session.batches.BatchSession.put_refused.Goals as goal

pub returns-in_err-put_repeated-clause-put : goal.returns-in_err-put_repeated-clause-put
returns-in_err-put_repeated-clause-put g c =
    let other : List ℕ = reply_text (NotDone (c.args.stop.now.place + 1)) in
    let why : List ℕ = why_text c.args.stop.now.why c.args.self.now.answers.items in
    rw (passed_on _ c.from_residual.ensures.1)
    (puts_short _ _ (repeated c.args.before other) (why ++ repeated c.args.behind other) _ c.in_err-put_repeated.ensures.put)

pub returns-in_err-put_why-clause-put : goal.returns-in_err-put_why-clause-put
returns-in_err-put_why-clause-put g c =
    let other : List ℕ = reply_text (NotDone (c.args.stop.now.place + 1)) in
    let why : List ℕ = why_text c.args.stop.now.why c.args.self.now.answers.items in
    let kept = ap (λ (v : Vec ℕ _). why_text c.args.stop.now.why v.items) c.in_ok-put_repeated.ensures.same.answers in
    let cut = c.in_err-put_why.ensures.put in
    rw (passed_on _ c.from_residual-in_err-put_why.ensures.1)
    (puts_behind {T = Unit {0}} _ (g.W.Write.contents c.put_repeated.new.writer) _ (repeated c.args.before other) (why ++ repeated c.args.behind other) (Err _) c.in_ok-put_repeated.ensures.put
    (puts_short _ _ why (repeated c.args.behind other) _ (cut.0, subst (WritesStart (g.W.Write.contents c.put_repeated.new.writer) (g.W.Write.contents c.put_why.new.writer)) kept cut.1)))

pub returns-clause-put : goal.returns-clause-put
returns-clause-put g c =
    let other : List ℕ = reply_text (NotDone (c.args.stop.now.place + 1)) in
    let why : List ℕ = why_text c.args.stop.now.why c.args.self.now.answers.items in
    let kept = ap (λ (v : Vec ℕ _). why_text c.args.stop.now.why v.items) c.in_ok-put_repeated.ensures.same.answers in
    let whole = subst (Appends (g.W.Write.contents c.put_repeated.new.writer) (g.W.Write.contents c.put_why.new.writer)) kept c.in_ok-put_why.ensures.put in
    puts_behind _ (g.W.Write.contents c.put_repeated.new.writer) _ (repeated c.args.before other) (why ++ repeated c.args.behind other) _ c.in_ok-put_repeated.ensures.put
    (puts_behind _ (g.W.Write.contents c.put_why.new.writer) _ why (repeated c.args.behind other) _ whole c.put_repeated-2.ensures.put)
