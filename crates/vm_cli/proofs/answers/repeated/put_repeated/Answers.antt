use Rattle.std.proofs.Common.{◌≡◌, arith, subst}
use Rattle.std.specs.Io.KnownBytes.{Appends}
use Rattle.vm_cli.specs.answers.Carried.{WritesStart}
use Rattle.vm_cli.specs.answers.Replies.{reply_text}
use Rattle.vm_cli.specs.session.Streams.{repeated}
use Rattle.vm_cli.proofs.CarriedLemmas.{begins-cut, begins-then, begins-whole, carries-end, carries-more, carries-then, on_err}
use Rattle.vm_cli.proofs.Known.{Appends-kept}
use Rattle.vm_cli.proofs.RepeatedLemmas.{begins-repeated, repeated-more}
use Rattle.vm_cli.proofs.answers.repeated.put_repeated.Goals as goal

pub returns-in_err-make_room-clause-err : goal.returns-in_err-make_room-clause-err
returns-in_err-make_room-clause-err g c =
    on_err c.from_residual.result
    (begins-repeated c.loop.counter c.args.count (reply_text c.args.reply) (omega (arith, c.loop-test.true)) _ _
    (begins-then _ _ _ c.loop.text _ c.loop.invariant c.in_err-make_room.ensures.err))

pub loop-preserved : goal.loop-preserved
loop-preserved g c =
    let so_far = carries-then _ _ _ _ _ _ c.loop.invariant c.in_ok-make_room.ensures.ok in
    rw (repeated-more c.loop.counter (reply_text c.args.reply)) (carries-more _ _ _ _ _ _ so_far c.push_onto.ensures)

pub returns-in_err-put_all-clause-err : goal.returns-in_err-put_all-clause-err
returns-in_err-put_all-clause-err g c =
    let all : c.loop.counter ≡ c.args.count = omega (arith, c.loop-test.false, c.loop.auto.counter-end) in
    let cut = begins-cut (g.W.Write.contents c.loop.writer) (g.W.Write.contents c.put_all.new.writer) _ c.in_err-put_all.ensures.err.0 c.in_err-put_all.ensures.err.1 in
    let rest = subst (WritesStart (g.W.Write.contents c.loop.writer) (g.W.Write.contents c.put_all.new.writer)) c.as_bytes.ensures cut in
    on_err c.from_residual-in_err-put_all.result
    (subst (λ n. WritesStart (g.W.Write.contents c.args.writer.now) (g.W.Write.contents c.put_all.new.writer) (repeated n (reply_text c.args.reply))) all
    (begins-then _ _ _ c.loop.text _ c.loop.invariant rest))

pub returns-clause-err : goal.returns-clause-err
returns-clause-err g c =
    let all : c.loop.counter ≡ c.args.count = omega (arith, c.loop-test.false, c.loop.auto.counter-end) in
    let before = g.W.Write.contents c.args.writer.now in
    let after = g.W.Write.contents c.flush.new.writer in
    let last = subst (Appends (g.W.Write.contents c.loop.writer) after) c.as_bytes.ensures (Appends-kept _ _ _ _ c.in_ok-put_all.ensures.ok c.flush.ensures) in
    on_err c.flush.result
    (subst (λ n. WritesStart before after (repeated n (reply_text c.args.reply))) all
    (begins-whole before after _ (carries-end _ _ _ c.loop.text _ c.loop.invariant last)))
