use Rattle.std.proofs.Common.{◌≡◌, ◌∙◌, [], refl, arith}
use Rattle.vm_cli.specs.session.Streams.{IsStage, batches}
use Rattle.vm_cli.specs.declared.session.ServeFault.TheVariants as fault
use Rattle.vm_cli.proofs.CarriedLemmas.{passed_on}
use Rattle.vm_cli.proofs.StreamEndLemmas.{no_half, one_half, read_fails, runs_none, serves_line, serves_reader, serves_rest, takes_on}
use Rattle.vm_cli.proofs.session.batches.BatchSession.run.Goals as goal

pub loop-init : goal.loop-init
loop-init g c = record {
  manner = refl;
  count = omega (arith, c.requires.none);
  line = c.new-line.ensures;
  runs = runs_none batches (IsStage c.args.self.now.batch) c.args.store.now c.args.self.now.manner _ _ _ c.requires.closed c.new-input.ensures;
}

pub returns-in_err-ending : goal.returns-in_err-ending
returns-in_err-ending g c =
    let so_far = c.loop.invariant in
    let why = c.in_err-ending.field-0.0 in
    let fails : why ≡ fault.Read = read_fails why [] _ _ _ _ _ (c.in_err-ending.ensures [] so_far.line) in
    rw (passed_on _ c.from_residual.ensures.1, fails) (serves_reader so_far.runs)

pub returns : goal.returns
returns g c = serves_reader c.loop.invariant.runs

pub returns-in_err-refused-in-Line : goal.returns-in_err-refused-in-Line
returns-in_err-refused-in-Line g c =
    let so_far = c.loop.invariant in
    let ended = c.in_ok-ending.ensures [] so_far.line in
    let read = rw c.in-Line.is at ended in
    let took = c.in_err-refused-in-Line.ensures in
    rw (passed_on _ c.from_residual-in_err-refused-in-Line.ensures.1)
    (serves_line so_far.runs _ so_far.manner _ _ _ read.0 _ read.2 (IsStage c.take.new.self.batch) _ took.store (λ s stage held. took.taken s stage read.0 held read.1))

pub loop-preserved : goal.loop-preserved
loop-preserved g c =
    let so_far = c.loop.invariant in
    let ended = c.in_ok-ending.ensures [] so_far.line in
    let read = rw c.in-Line.is at ended in
    let took = c.in_ok-refused-in-Line.ensures in
    record {
      manner = took.manner ∙ so_far.manner;
      count = omega (arith, so_far.count, took.count);
      line = c.clear.ensures;
      runs = takes_on so_far.runs _ so_far.manner _ _ _ read.0 _ read.2 (IsStage c.take.new.self.batch) _ took.store (λ s stage held. took.taken s stage read.0 held read.1);
    }

pub returns-in-HalfLine : goal.returns-in-HalfLine
returns-in-HalfLine g c =
    let so_far = c.loop.invariant in
    let ended = c.in_ok-ending.ensures [] so_far.line in
    let read = rw c.in-HalfLine.is at ended in
    serves_rest so_far.runs _ so_far.manner _ _ read.0 _ read.2 read.3 read.4 read.1.unbroken _ 1 (one_half read.0 read.5) c.in_ok-last-in-HalfLine.ensures.said

pub returns-in_err-last-in-HalfLine : goal.returns-in_err-last-in-HalfLine
returns-in_err-last-in-HalfLine g c =
    let so_far = c.loop.invariant in
    let ended = c.in_ok-ending.ensures [] so_far.line in
    let read = rw c.in-HalfLine.is at ended in
    rw (passed_on _ c.from_residual-in_err-last-in-HalfLine.ensures.1)
    (serves_rest so_far.runs _ so_far.manner _ _ read.0 _ read.2 read.3 read.4 read.1.unbroken _ 1 (one_half read.0 read.5) c.in_err-last-in-HalfLine.ensures.said)

pub returns-in-Input : goal.returns-in-Input
returns-in-Input g c =
    let so_far = c.loop.invariant in
    let ended = c.in_ok-ending.ensures [] so_far.line in
    let read = rw c.in-Input.is at ended in
    serves_rest so_far.runs _ so_far.manner _ _ read.0 _ read.2 read.3 read.4 read.1.unbroken _ 0 (no_half read.0 read.5) c.in_ok-last-in-Input.ensures.said

pub returns-in_err-last-in-Input : goal.returns-in_err-last-in-Input
returns-in_err-last-in-Input g c =
    let so_far = c.loop.invariant in
    let ended = c.in_ok-ending.ensures [] so_far.line in
    let read = rw c.in-Input.is at ended in
    rw (passed_on _ c.from_residual-in_err-last-in-Input.ensures.1)
    (serves_rest so_far.runs _ so_far.manner _ _ read.0 _ read.2 read.3 read.4 read.1.unbroken _ 0 (no_half read.0 read.5) c.in_err-last-in-Input.ensures.said)
