use Rattle.std.proofs.Common.{◌≡◌, Some, option_copied, refl, inl, sym, ap, ◌∙◌, arith}
use Rattle.std.proofs.lemmas.Bool.{false≢true}
use Rattle.std.proofs.lemmas.Grind.{common_steps}
use Rattle.vm_disk.specs.Kept.{first_in, rooms_in}
use Rattle.vm_disk.specs.Layers.{some_or}
use Rattle.vm_disk.specs.Waiting.{bytes_for, written_for}
use Rattle.vm_disk.proofs.LaidLemmas.{read_over, read_under, untouched, touched_last}
use Rattle.vm_disk.proofs.WrittenLemmas.{alike_shown, known_shown, known_written, none_for, same_written, some_there}
use Rattle.vm_disk.proofs.layers.Layers.load.Goals as goal

pub returns-then-use_waiting-clause-acts : goal.returns-then-use_waiting-clause-acts
returns-then-use_waiting-clause-acts g c =
    let was = c.args.self.now in
    let lower = g.D.Disk.state was.inner in
    let new = c.use_waiting.new.self in
    record {
      any = grind (arith, common_steps);
      honest = λ honest.
          read_over (bytes_for was.waiting) lower.now c.args.n _ _ _ refl (alike_shown was.waiting new c.if-use_waiting.ensures.same lower.now) refl (omega (arith, g.met.D.Disk.whole was.inner honest, c.requires))
          (some_there (bytes_for was.waiting c.args.n) (first_in (rooms_in new.rooms)) (g.D.Disk.hand was.inner) (sym c.if-use_waiting.ensures.answer) c.if-use_waiting.ensures.first);
      below = λ honest. untouched _ _;
      limit = c.if-use_waiting.ensures.limit;
    }

pub returns-in-Some-clause-acts : goal.returns-in-Some-clause-acts
returns-in-Some-clause-acts g c =
    let was = c.args.self.now in
    let lower = g.D.Disk.state was.inner in
    let mid = c.use_waiting.new.self in
    let found : written_for mid c.args.n ≡ Some c.in-Some.field-0.now = sym c.written_bytes.ensures ∙ ap option_copied c.in-Some.is in
    let there = sym (same_written was.waiting mid c.if-use_waiting.ensures.written c.args.n) ∙ found in
    record {
      any = grind (arith, common_steps);
      honest = λ honest. record {
        bytes_are = ap (λ o. some_or o (g.D.Disk.hand was.inner)) found
            ∙ sym (known_shown lower was.waiting c.args.n _ honest was.right (omega (arith, g.met.D.Disk.whole was.inner honest, c.requires)) (known_written was.waiting c.args.n _ (sym c.if-use_waiting.ensures.answer) there));
        same = alike_shown was.waiting mid c.if-use_waiting.ensures.same lower.now;
        time = record { step = inl refl };
      };
      below = λ honest. untouched _ _;
      limit = c.if-use_waiting.ensures.limit;
    }

pub returns-in-None-clause-acts : goal.returns-in-None-clause-acts
returns-in-None-clause-acts g c =
    let was = c.args.self.now in
    let new = g.D.Disk.state c.load.new.self in
    record {
      any = grind (arith, common_steps);
      honest = λ honest.
          read_under c.load.result (bytes_for was.waiting) (g.D.Disk.state was.inner) new c.args.n (g.D.Disk.hand c.load.new.self) _ _ refl
          (alike_shown was.waiting c.use_waiting.new.self c.if-use_waiting.ensures.same new.now) refl
          (omega (arith, g.met.D.Disk.whole was.inner (c.load.ensures.any.earlier honest), c.requires)) (none_for was.waiting c.args.n (sym c.if-use_waiting.ensures.answer)) (c.load.ensures.honest honest);
      below = λ honest. touched_last _ _ _ (c.load.ensures.honest honest).time;
      limit = c.if-use_waiting.ensures.limit;
    }

pub returns-in-Some-clause-hit : goal.returns-in-Some-clause-hit
returns-in-Some-clause-hit g c waiting = absurd (false≢true (c.if-use_waiting.ensures.answer ∙ waiting))

pub returns-in-None-clause-hit : goal.returns-in-None-clause-hit
returns-in-None-clause-hit g c waiting = absurd (false≢true (c.if-use_waiting.ensures.answer ∙ waiting))
