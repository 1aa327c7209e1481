use Rattle.std.proofs.Common.{rules, [], refl, sym}
use Rattle.std.proofs.lemmas.Bool.{false≢true}
use Rattle.vm_types.specs.Parts.{diff}
use Rattle.vm_types.specs.Places.{place}
use Rattle.vm_tree.proofs.Looking.{looks_on, passed_on}
use Rattle.vm_diff.proofs.CompareLemmas.{root_low, roots_differ, compares_more, compares_bound, all_found, some_found, step_failed}
use Rattle.vm_diff.proofs.comparison.same_between.Goals as goal

pub returns-then-not-begin-clause-equal : goal.returns-then-not-begin-clause-equal
returns-then-not-begin-clause-equal g c honest sizes m n bs cs first second =
    absurd (root_low sizes (g.D.Disk.state c.args.disk.now).now.contents c.args.blocks c.args.first m bs first (c.if-not-begin.ensures.none refl))

pub returns-then-not-begin-2-clause-equal : goal.returns-then-not-begin-2-clause-equal
returns-then-not-begin-2-clause-equal g c honest sizes m n bs cs first second =
    absurd (root_low sizes (g.D.Disk.state c.args.disk.now).now.contents c.args.blocks c.args.second n cs second (c.if-not-begin-2.ensures.none refl))

pub returns-in-Done-clause-equal : goal.returns-in-Done-clause-equal
returns-in-Done-clause-equal g c honest sizes m n bs cs first second =
    let differ = roots_differ (place c.args.part.low) (place c.args.part.high) sizes (g.D.Disk.state c.args.disk.now).now.contents c.args.blocks (g.D.Disk.state c.args.disk.now).reads c.args.first c.args.second c.begin.new.self c.begin-2.new.self m n bs cs
    (c.if-not-begin.ensures.begun refl) (c.if-not-begin-2.ensures.begun refl) first second in
    let none = all_found (g.D.Disk.state c.args.disk.now) (g.D.Disk.state c.steps.disk) (g.D.Disk.state c.step.new.disk) c.step.ensures.looks.goes.earlier c.args.blocks (place c.args.part.low) (place c.args.part.high) c.begin.new.self c.begin-2.new.self c.steps.one c.steps.other [] c.steps.invariant c.step.new.one c.step.new.other (g.D.Disk.state c.step.new.disk).reads c.in_ok-next.next c.in-Done.is c.in_ok-next.ensures.steps honest sizes _ (diff (place c.args.part.low) (place c.args.part.high) m n) differ in
    (λ _. sym none, λ _. refl)

pub steps-preserved : goal.steps-preserved
steps-preserved g c =
    compares_more (g.D.Disk.state c.args.disk.now) (g.D.Disk.state c.steps.disk) (g.D.Disk.state c.step.new.disk) c.step.ensures.looks.goes.earlier c.args.blocks (place c.args.part.low) (place c.args.part.high) c.begin.new.self c.begin-2.new.self c.steps.one c.steps.other [] c.steps.invariant c.step.new.one c.step.new.other c.in_ok-next.next c.in-Moved.is c.in_ok-next.ensures.looks c.in_ok-next.ensures.steps

pub returns-in-Found-clause-equal : goal.returns-in-Found-clause-equal
returns-in-Found-clause-equal g c honest sizes m n bs cs first second =
    let differ = roots_differ (place c.args.part.low) (place c.args.part.high) sizes (g.D.Disk.state c.args.disk.now).now.contents c.args.blocks (g.D.Disk.state c.args.disk.now).reads c.args.first c.args.second c.begin.new.self c.begin-2.new.self m n bs cs
    (c.if-not-begin.ensures.begun refl) (c.if-not-begin-2.ensures.begun refl) first second in
    (λ equal. absurd (false≢true equal), λ none. absurd (some_found (g.D.Disk.state c.args.disk.now) (g.D.Disk.state c.steps.disk) (g.D.Disk.state c.step.new.disk) c.step.ensures.looks.goes.earlier c.args.blocks (place c.args.part.low) (place c.args.part.high) c.begin.new.self c.begin-2.new.self c.steps.one c.steps.other [] c.steps.invariant c.step.new.one c.step.new.other (g.D.Disk.state c.step.new.disk).reads c.in_ok-next.next _ c.in-Found.is c.in_ok-next.ensures.found c.in_ok-next.ensures.steps honest sizes _ (diff (place c.args.part.low) (place c.args.part.high) m n) differ none))

pub returns-in_err-next-clause-equal : goal.returns-in_err-next-clause-equal
returns-in_err-next-clause-equal g c honest sizes m n bs cs first second =
    let differ = roots_differ (place c.args.part.low) (place c.args.part.high) sizes (g.D.Disk.state c.args.disk.now).now.contents c.args.blocks (g.D.Disk.state c.args.disk.now).reads c.args.first c.args.second c.begin.new.self c.begin-2.new.self m n bs cs
    (c.if-not-begin.ensures.begun refl) (c.if-not-begin-2.ensures.begun refl) first second in
    rw (passed_on _ c.from_residual.ensures.1) (step_failed (g.D.Disk.state c.args.disk.now) (g.D.Disk.state c.steps.disk) (g.D.Disk.state c.step.new.disk) c.step.ensures.looks.goes.earlier c.args.blocks (place c.args.part.low) (place c.args.part.high) c.begin.new.self c.begin-2.new.self c.steps.one c.steps.other [] c.steps.invariant c.step.new.one c.step.new.other (g.D.Disk.state c.step.new.disk).reads c.in_err-next.field-0.0 c.in_err-next.ensures.steps honest sizes _ (diff (place c.args.part.low) (place c.args.part.high) m n) differ)

pub returns-in-Done-clause-bound : goal.returns-in-Done-clause-bound
returns-in-Done-clause-bound g c honest sizes m n bs cs first second =
    let differ = roots_differ (place c.args.part.low) (place c.args.part.high) sizes (g.D.Disk.state c.args.disk.now).now.contents c.args.blocks (g.D.Disk.state c.args.disk.now).reads c.args.first c.args.second c.begin.new.self c.begin-2.new.self m n bs cs
    (c.if-not-begin.ensures.begun refl) (c.if-not-begin-2.ensures.begun refl) first second in
    compares_bound (g.D.Disk.state c.args.disk.now) (g.D.Disk.state c.steps.disk) (g.D.Disk.state c.step.new.disk) c.step.ensures.looks.goes.earlier c.args.blocks (place c.args.part.low) (place c.args.part.high) c.begin.new.self c.begin-2.new.self c.steps.one c.steps.other [] c.steps.invariant (g.D.Disk.state c.step.new.disk).reads c.in_ok-next.ensures.bound honest sizes _ (diff (place c.args.part.low) (place c.args.part.high) m n) differ

pub returns-in_err-next-clause-bound : goal.returns-in_err-next-clause-bound
returns-in_err-next-clause-bound g c honest sizes m n bs cs first second =
    let differ = roots_differ (place c.args.part.low) (place c.args.part.high) sizes (g.D.Disk.state c.args.disk.now).now.contents c.args.blocks (g.D.Disk.state c.args.disk.now).reads c.args.first c.args.second c.begin.new.self c.begin-2.new.self m n bs cs
    (c.if-not-begin.ensures.begun refl) (c.if-not-begin-2.ensures.begun refl) first second in
    compares_bound (g.D.Disk.state c.args.disk.now) (g.D.Disk.state c.steps.disk) (g.D.Disk.state c.step.new.disk) c.step.ensures.looks.goes.earlier c.args.blocks (place c.args.part.low) (place c.args.part.high) c.begin.new.self c.begin-2.new.self c.steps.one c.steps.other [] c.steps.invariant (g.D.Disk.state c.step.new.disk).reads c.in_err-next.ensures.bound honest sizes _ (diff (place c.args.part.low) (place c.args.part.high) m n) differ

pub returns-in-Found-clause-bound : goal.returns-in-Found-clause-bound
returns-in-Found-clause-bound g c honest sizes m n bs cs first second =
    let differ = roots_differ (place c.args.part.low) (place c.args.part.high) sizes (g.D.Disk.state c.args.disk.now).now.contents c.args.blocks (g.D.Disk.state c.args.disk.now).reads c.args.first c.args.second c.begin.new.self c.begin-2.new.self m n bs cs
    (c.if-not-begin.ensures.begun refl) (c.if-not-begin-2.ensures.begun refl) first second in
    compares_bound (g.D.Disk.state c.args.disk.now) (g.D.Disk.state c.steps.disk) (g.D.Disk.state c.step.new.disk) c.step.ensures.looks.goes.earlier c.args.blocks (place c.args.part.low) (place c.args.part.high) c.begin.new.self c.begin-2.new.self c.steps.one c.steps.other [] c.steps.invariant (g.D.Disk.state c.step.new.disk).reads c.in_ok-next.ensures.bound honest sizes _ (diff (place c.args.part.low) (place c.args.part.high) m n) differ

pub returns-in-Done-clause-looks : goal.returns-in-Done-clause-looks
returns-in-Done-clause-looks g c = looks_on c.steps.invariant.looks c.in_ok-next.ensures.looks (λ is. cc)

pub returns-in_err-next-clause-looks : goal.returns-in_err-next-clause-looks
returns-in_err-next-clause-looks g c = looks_on c.steps.invariant.looks c.in_err-next.ensures.looks (search rules)

pub returns-in-Found-clause-looks : goal.returns-in-Found-clause-looks
returns-in-Found-clause-looks g c = looks_on c.steps.invariant.looks c.in_ok-next.ensures.looks (λ is. cc)
