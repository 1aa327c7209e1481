use Rattle.std.proofs.Common.{◌≡◌, ◌==◌, ◌<◌, sym, arith, eq-eqb, length, true, false}
use Rattle.std.proofs.lemmas.Bool.{ne_eqb}
use Rattle.vm_cli.proofs.QueueLemmas.{waits_more, waits_one}
use Rattle.vm_cli.proofs.session.planners.PlannersSession.waits.Goals as goal

pub loop-place-preserved : goal.loop-place-preserved
loop-place-preserved c =
    let waiting = c.args.self.now.waiting in
    let place = c.loop-place.place in
    let within : place < length waiting.items = omega (arith, waiting.ok.0) in
    let other : (c.index.result.now.number == c.args.number) ≡ false = ne_eqb _ _ c.if-index-number.false in
    waits_more c.args.number waiting.items place c.index.result.now c.index.ensures within c.loop-place.invariant other

pub returns-then-index-number : goal.returns-then-index-number
returns-then-index-number c =
    let waiting = c.args.self.now.waiting in
    let place = c.loop-place.place in
    let within : place < length waiting.items = omega (arith, waiting.ok.0) in
    let same : (c.index.result.now.number == c.args.number) ≡ true = eq-eqb _ _ c.if-index-number.true in
    λ queue are. sym (waits_one c.args.number waiting.items place c.index.result.now c.index.ensures within c.loop-place.invariant same queue are)
