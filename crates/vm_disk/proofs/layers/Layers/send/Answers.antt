use Rattle.std.proofs.Common.{◌≡◌, ◌+◌, ◌&&◌, ℕ, List, None, Option, is_some, length, nat_le, nat_lt, if◌then◌else◌, ap, subst, ◌∙◌, arith}
use Rattle.std.proofs.lemmas.Grind.{common_steps}
use Rattle.vm_disk.specs.Moments.{WritesRun, in_run}
use Rattle.vm_disk.specs.Waiting.{bytes_for, Settles}
use Rattle.vm_disk.proofs.WaitingLemmas.{none_left}
use Rattle.vm_disk.proofs.LaidLemmas.{run_sent_same, run_unsent_same, run_touches}
use Rattle.vm_disk.proofs.WrittenLemmas.{right_run_settled, same_shown}
use Rattle.vm_disk.proofs.layers.Layers.send.Goals as goal

pub returns-in-Err-clause-sends : goal.returns-in-Err-clause-sends
returns-in-Err-clause-sends g c =
    let state = g.D.Disk.state in
    let held = bytes_for c.args.self.now.waiting in
    let first = c.begin_run-first.result in
    let blocks = c.copy_run.new.run.items in
    let old = state c.args.self.now.inner in
    let new = state c.write_run.new.self in
    let R : List (List ℕ) → Type 0 = λ blocks. WritesRun first blocks c.write_run.result old new in
    record {
      any = grind (arith, common_steps);
      honest = λ honest. let writes : R blocks = subst R c.deref.ensures.value (c.write_run.ensures.honest honest) in record {
        same = same_shown c.args.self.now.waiting c.forget_all_written.new.self c.forget_all_written.ensures.rooms new.now ∙ run_unsent_same held first blocks old new c.copy_run.ensures c.write_run.result writes;
        touches = run_touches held first blocks old new c.copy_run.ensures c.write_run.result writes;
      };
      limit = grind (arith, common_steps);
    }

pub returns-in-Ok-clause-sends : goal.returns-in-Ok-clause-sends
returns-in-Ok-clause-sends g c =
    let state = g.D.Disk.state in
    let held = bytes_for c.args.self.now.waiting in
    let first = c.begin_run-first.result in
    let blocks = c.copy_run.new.run.items in
    let old = state c.args.self.now.inner in
    let new = state c.write_run.new.self in
    let R : List (List ℕ) → Type 0 = λ blocks. WritesRun first blocks c.write_run.result old new in
    let told = c.len.ensures in
    let shown = c.deref.ensures.len in
    let same = ap (λ (bs : List (List ℕ)). length bs) c.deref.ensures.value in
    let many : c.len.result ≡ length blocks = omega (arith, told, shown, same) in
    let gone : (k : ℕ) → bytes_for c.settle_run.new.self k ≡ (if in_run first (length blocks) k then None else held k) =
    λ k. c.settle_run.ensures.gone k ∙ ap (λ (count : ℕ). if nat_le first k && nat_lt k (first + count) then None else held k) many in
    record {
      any = grind (arith, common_steps);
      honest = λ honest. let writes : R blocks = subst R c.deref.ensures.value (c.write_run.ensures.honest honest) in record {
        same = run_sent_same held first blocks old new c.copy_run.ensures _ c.write_run.result (bytes_for c.settle_run.new.self) c.in-Ok.is gone writes;
        touches = run_touches held first blocks old new c.copy_run.ensures c.write_run.result writes;
      };
      limit = c.settle_run.ensures.limit;
    }

pub returns-in-Ok-clause-no_more : goal.returns-in-Ok-clause-no_more
returns-in-Ok-clause-no_more g c n before =
    ap (λ (o : Option (List ℕ)). is_some o) (c.settle_run.ensures.gone n) ∙ none_left _ (bytes_for c.args.self.now.waiting n) before

pub invariant_of-self-in-Ok-clause-right : goal.invariant_of-self-in-Ok-clause-right
invariant_of-self-in-Ok-clause-right g c =
    let state = g.D.Disk.state in
    let was = c.args.self.now in
    let first = c.begin_run-first.result in
    let blocks = c.copy_run.new.run.items in
    let old = state was.inner in
    let new = state c.write_run.new.self in
    let R : List (List ℕ) → Type 0 = λ blocks. WritesRun first blocks c.write_run.result old new in
    let told = c.len.ensures in
    let shown = c.deref.ensures.len in
    let same = ap (λ (bs : List (List ℕ)). length bs) c.deref.ensures.value in
    let many : c.len.result ≡ length blocks = omega (arith, told, shown, same) in
    let S : ℕ → Type 0 = λ count. Settles (in_run first count) was.waiting c.settle_run.new.self in
    right_run_settled c.write_run.result _ old new first blocks was.waiting c.settle_run.new.self c.in-Ok.is c.copy_run.ensures (subst S many c.settle_run.ensures.settles)
    was.inside (g.met.D.Disk.whole was.inner) c.write_run.ensures.any (λ honest. subst R c.deref.ensures.value (c.write_run.ensures.honest honest)) was.right
