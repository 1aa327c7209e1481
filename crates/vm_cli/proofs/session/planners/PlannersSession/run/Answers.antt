use Rattle.std.proofs.Common.{◌≡◌, ◌∙◌, ◌-◌, [], ap, refl, subst, sym, arith}
use Rattle.std.below.core.specs.declared.int.usize.TheConstants.{MAX}
use Rattle.vm_types.specs.State.{opened}
use Rattle.vm_store.specs.Shown.{new_store}
use Rattle.vm_cli.specs.session.PlannerCalls.{AreWaiting, AreWithin, IsGathering}
use Rattle.vm_cli.specs.session.Planners.{AreSeats, planners}
use Rattle.vm_cli.specs.declared.session.Manner.{Manner}
use Rattle.vm_cli.specs.declared.session.ServeFault.TheVariants as fault
use Rattle.vm_cli.proofs.CarriedLemmas.{passed_on}
use Rattle.vm_cli.proofs.SeatLemmas.{within_more}
use Rattle.vm_cli.proofs.StreamEndLemmas.{no_half, one_half, read_fails, runs_none, serves_line, serves_reader, serves_rest, takes_on}
use Rattle.vm_cli.proofs.session.planners.PlannersSession.run.Goals as goal

pub loop-init : goal.loop-init
loop-init g c = record {
  manner = refl;
  closed = c.requires.closed;
  count = subst (AreWithin 0) (sym c.requires.nobody) tt;
  line = c.new-line.ensures;
  runs = runs_none planners (IsGathering c.args.self.now) c.args.store.now c.args.self.now.session.manner _ _ _
      (record { seats = subst (λ ps. AreSeats ps []) (sym c.requires.nobody) tt; waiting = subst (λ queue. AreWaiting queue []) (sym c.requires.nothing) tt }) c.new-input.ensures;
}

pub returns-in_err-ending : goal.returns-in_err-ending
returns-in_err-ending g c =
    let so_far = c.loop.invariant in
    let why = c.in_err-ending.field-0.0 in
    let fails : why ≡ fault.Read = read_fails why [] _ _ _ _ _ (c.in_err-ending.ensures [] so_far.line) in
    rw (passed_on _ c.from_residual.ensures.1, fails) (serves_reader so_far.runs)

pub returns : goal.returns
returns g c = serves_reader c.loop.invariant.runs

pub take-requires-clause-held : goal.take-requires-clause-held
take-requires-clause-held g c =
    let so_far = c.loop.invariant in
    let ended = c.in_ok-ending.ensures [] so_far.line in
    let read = rw c.in-Line.is at ended in
    (read.0, read.1)

pub take-requires-clause-room : goal.take-requires-clause-room
take-requires-clause-room g c = within_more _ (MAX - 1) (omega arith) _ c.loop.invariant.count

pub take-requires-clause-telling : goal.take-requires-clause-telling
take-requires-clause-telling g c = ap (λ (how : Manner). how.on_refusal) c.loop.invariant.manner ∙ c.requires.telling

pub end-requires-in-Input : goal.end-requires-in-Input
end-requires-in-Input g c = record { telling = ap (λ (how : Manner). how.on_refusal) c.loop.invariant.manner ∙ c.requires.telling }

pub end-requires : goal.end-requires
end-requires g c = record { telling = ap (λ (how : Manner). how.on_refusal) c.loop.invariant.manner ∙ c.requires.telling }

pub returns-in_err-refused-in-Line : goal.returns-in_err-refused-in-Line
returns-in_err-refused-in-Line g c =
    let so_far = c.loop.invariant in
    let ended = c.in_ok-ending.ensures [] so_far.line in
    let read = rw c.in-Line.is at ended in
    let took = c.in_err-refused-in-Line.ensures read.0 read.1 in
    let here = so_far.runs.served (opened (new_store 64)) in
    rw (passed_on _ c.from_residual-in_err-refused-in-Line.ensures.1)
    (serves_line so_far.runs _ so_far.manner _ _ _ read.0 _ read.2 (IsGathering c.take.new.self) _ (took.store here.stage here.held) (λ s at held. took.taken s at so_far.closed held))

pub loop-preserved : goal.loop-preserved
loop-preserved g c =
    let so_far = c.loop.invariant in
    let ended = c.in_ok-ending.ensures [] so_far.line in
    let read = rw c.in-Line.is at ended in
    let took = c.in_ok-refused-in-Line.ensures read.0 read.1 in
    let here = so_far.runs.served (opened (new_store 64)) in
    record {
      manner = took.stays.manner ∙ so_far.manner;
      closed = took.stays.closed so_far.closed;
      count = took.stays.count c.loop.counter so_far.count;
      line = c.clear.ensures;
      runs = takes_on so_far.runs _ so_far.manner _ _ _ read.0 _ read.2 (IsGathering c.take.new.self) _ (took.store here.stage here.held) (λ s at held. took.taken s at so_far.closed held);
    }

pub returns-in-HalfLine : goal.returns-in-HalfLine
returns-in-HalfLine g c =
    let so_far = c.loop.invariant in
    let ended = c.in_ok-ending.ensures [] so_far.line in
    let read = rw c.in-HalfLine.is at ended in
    (serves_rest so_far.runs _ so_far.manner _ _ read.0 _ read.2 read.3 read.4 read.1.unbroken _ 1 (one_half read.0 read.5) c.in_ok-last-in-HalfLine.ensures.said)

pub returns-in_err-last-in-HalfLine : goal.returns-in_err-last-in-HalfLine
returns-in_err-last-in-HalfLine g c =
    let so_far = c.loop.invariant in
    let ended = c.in_ok-ending.ensures [] so_far.line in
    let read = rw c.in-HalfLine.is at ended in
    rw (passed_on _ c.from_residual-in_err-last-in-HalfLine.ensures.1)
    (serves_rest so_far.runs _ so_far.manner _ _ read.0 _ read.2 read.3 read.4 read.1.unbroken _ 1 (one_half read.0 read.5) c.in_err-last-in-HalfLine.ensures.said)

pub returns-in-Input : goal.returns-in-Input
returns-in-Input g c =
    let so_far = c.loop.invariant in
    let ended = c.in_ok-ending.ensures [] so_far.line in
    let read = rw c.in-Input.is at ended in
    (serves_rest so_far.runs _ so_far.manner _ _ read.0 _ read.2 read.3 read.4 read.1.unbroken _ 0 (no_half read.0 read.5) c.in_ok-last-in-Input.ensures.said)

pub returns-in_err-last-in-Input : goal.returns-in_err-last-in-Input
returns-in_err-last-in-Input g c =
    let so_far = c.loop.invariant in
    let ended = c.in_ok-ending.ensures [] so_far.line in
    let read = rw c.in-Input.is at ended in
    rw (passed_on _ c.from_residual-in_err-last-in-Input.ensures.1)
    (serves_rest so_far.runs _ so_far.manner _ _ read.0 _ read.2 read.3 read.4 read.1.unbroken _ 0 (no_half read.0 read.5) c.in_err-last-in-Input.ensures.said)
