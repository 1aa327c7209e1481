use Rattle.std.proofs.Common.{◌≡◌, ◌≢◌, sym, arith}
use Rattle.vm_types.specs.Places.{place}
use Rattle.vm_diff.specs.Front.Front.{Top}
use Rattle.vm_diff.specs.Front.{front_of}
use Rattle.vm_diff.proofs.OpenLemmas.{skip_falls}
use Rattle.vm_diff.proofs.PayLemmas.{higher_first, left_read, right_read}
use Rattle.vm_diff.proofs.StepLemmas.{both_skipped, left_opened, right_opened}
use Rattle.vm_diff.proofs.steps.meet_tops.Goals as goal
use Rattle.vm_diff.proofs.steps.meet_tops.Goals.{else-first-second-via-then-first-second+else-first-second-2, else-first-second-via-else-first-second}

pub returns-then-first-second-2-clause-falls : goal.returns-then-first-second-2-clause-falls
returns-then-first-second-2-clause-falls g c =
    omega (arith, skip_falls c.args.one.now c.skip.new.self c.args.first c.requires.first c.skip.ensures, skip_falls c.args.other.now c.skip-then-first-second-2.new.self c.args.second c.requires.second c.skip-then-first-second-2.ensures, c.skip_shared.ensures.most)

pub returns-then-first-second-2-clause-steps : goal.returns-then-first-second-2-clause-steps
returns-then-first-second-2-clause-steps g c honest sizes most changes differ =
    c.skip_shared.ensures.differ sizes (g.D.Disk.state c.args.disk.now).now.contents c.args.blocks (place c.args.part.low) (place c.args.part.high) (g.D.Disk.state c.args.disk.now).reads most changes
    (both_skipped sizes (g.D.Disk.state c.args.disk.now).now.contents c.args.blocks (place c.args.part.low) (place c.args.part.high) (g.D.Disk.state c.args.disk.now).reads most c.args.one.now c.args.other.now c.skip.new.self c.skip-then-first-second-2.new.self c.args.first c.args.second changes
    c.requires.first c.requires.second c.if-first-second.true c.skip.ensures c.skip-then-first-second-2.ensures differ)

pub returns-then-first-second-3-clause-bound : goal.returns-then-first-second-3-clause-bound
returns-then-first-second-3-clause-bound g c honest sizes most changes differ =
    let first = higher_first c.args.second c.args.first (front_of c.args.one.now) c.requires.first (sym c.requires.level) (omega (arith, c.if-first-second-3.true)) (λ level. absurd (omega (arith, level, c.if-first-second-3.true))) in
    right_read sizes (g.D.Disk.state c.args.disk.now).now.contents c.args.blocks (place c.args.part.low) (place c.args.part.high) c.args.one.now c.args.other.now (g.D.Disk.state c.args.disk.now).reads (g.D.Disk.state c.open.new.disk).reads most changes differ (Top c.args.second) c.requires.second first c.open.ensures.once

pub returns-then-first-second-3-clause-steps : goal.returns-then-first-second-3-clause-steps
returns-then-first-second-3-clause-steps g c honest sizes most changes differ =
    let first = higher_first c.args.second c.args.first (front_of c.args.one.now) c.requires.first (sym c.requires.level) (omega (arith, c.if-first-second-3.true)) (λ level. absurd (omega (arith, level, c.if-first-second-3.true))) in
    right_opened sizes (g.D.Disk.state c.args.disk.now).now.contents c.args.blocks (place c.args.part.low) (place c.args.part.high) (g.D.Disk.state c.args.disk.now).reads most c.args.one.now c.args.other.now c.open.new.walk (g.D.Disk.state c.open.new.disk).reads (Top c.args.second) changes c.open.result c.moved.result c.moved.ensures c.requires.second first c.open.ensures.once differ
    (c.open.ensures.opens honest sizes differ.second differ.second_blocks differ.second_ahead differ.second_rising differ.second_in)

pub returns-else-first-second-3-clause-bound : goal.returns-else-first-second-3-clause-bound
returns-else-first-second-3-clause-bound g c honest sizes most changes differ =
    let other : c.args.second.level ≡ c.args.first.level → c.args.second.block ≢ c.args.first.block = elim c.else-first-second.branch [
      | else-first-second-via-then-first-second+else-first-second-2 w ↦ λ level same. w.if-first-second-2.false (sym level)
      | else-first-second-via-else-first-second w ↦ λ level same. w.if-first-second.false (sym same)
    ] in
    let first = higher_first c.args.first c.args.second (front_of c.args.other.now) c.requires.second c.requires.level (omega (arith, c.if-first-second-3.false)) other in
    left_read sizes (g.D.Disk.state c.args.disk.now).now.contents c.args.blocks (place c.args.part.low) (place c.args.part.high) c.args.one.now c.args.other.now (g.D.Disk.state c.args.disk.now).reads (g.D.Disk.state c.open-else-first-second-3.new.disk).reads most changes differ (Top c.args.first) c.requires.first first c.open-else-first-second-3.ensures.once

pub returns-else-first-second-3-clause-steps : goal.returns-else-first-second-3-clause-steps
returns-else-first-second-3-clause-steps g c honest sizes most changes differ =
    let other : c.args.second.level ≡ c.args.first.level → c.args.second.block ≢ c.args.first.block = elim c.else-first-second.branch [
      | else-first-second-via-then-first-second+else-first-second-2 w ↦ λ level same. w.if-first-second-2.false (sym level)
      | else-first-second-via-else-first-second w ↦ λ level same. w.if-first-second.false (sym same)
    ] in
    let first = higher_first c.args.first c.args.second (front_of c.args.other.now) c.requires.second c.requires.level (omega (arith, c.if-first-second-3.false)) other in
    left_opened sizes (g.D.Disk.state c.args.disk.now).now.contents c.args.blocks (place c.args.part.low) (place c.args.part.high) (g.D.Disk.state c.args.disk.now).reads most c.args.one.now c.args.other.now c.open-else-first-second-3.new.walk (g.D.Disk.state c.open-else-first-second-3.new.disk).reads (Top c.args.first) changes c.open-else-first-second-3.result c.moved-else-first-second-3.result c.moved-else-first-second-3.ensures c.requires.first first c.open-else-first-second-3.ensures.once differ
    (c.open-else-first-second-3.ensures.opens honest sizes differ.first differ.first_blocks differ.first_ahead differ.first_rising differ.first_in)
