use Rattle.std.proofs.Common.{rules, ◌≡◌, List, [], ◌∷◌, ◌++◌, option_copied, refl, sym, subst}
use Rattle.vm_types.specs.declared.change.Change.{Change}
use Rattle.vm_types.specs.Parts.{diff}
use Rattle.vm_types.specs.Places.{place}
use Rattle.vm_tree.proofs.ScanLemmas.{device_lists}
use Rattle.vm_tree.proofs.Looking.{looks_on, passed_on}
use Rattle.vm_diff.proofs.CompareLemmas.{Compares, root_low, roots_differ, compares_more, compares_found, compares_bound, all_found, step_failed}
use Rattle.vm_diff.proofs.comparison.changed_between.Goals as goal

pub returns-then-not-begin-clause-changes : goal.returns-then-not-begin-clause-changes
returns-then-not-begin-clause-changes g c honest sizes m n bs cs first second =
    absurd (root_low sizes (g.D.Disk.state c.args.disk.now).now.contents c.args.blocks c.args.first m bs first (c.if-not-begin.ensures.none refl))

pub returns-then-not-begin-2-clause-changes : goal.returns-then-not-begin-2-clause-changes
returns-then-not-begin-2-clause-changes g c honest sizes m n bs cs first second =
    absurd (root_low sizes (g.D.Disk.state c.args.disk.now).now.contents c.args.blocks c.args.second n cs second (c.if-not-begin-2.ensures.none refl))

pub returns-in-Done-clause-changes : goal.returns-in-Done-clause-changes
returns-in-Done-clause-changes g c honest sizes m n bs cs first second =
    let differ = roots_differ (place c.args.part.low) (place c.args.part.high) sizes (g.D.Disk.state c.args.disk.now).now.contents c.args.blocks (g.D.Disk.state c.args.disk.now).reads c.args.first c.args.second c.begin.new.self c.begin-2.new.self m n bs cs
    (c.if-not-begin.ensures.begun refl) (c.if-not-begin-2.ensures.begun refl) first second in
    all_found (g.D.Disk.state c.args.disk.now) (g.D.Disk.state c.steps.disk) (g.D.Disk.state c.step.new.disk) c.step.ensures.looks.goes.earlier c.args.blocks (place c.args.part.low) (place c.args.part.high) c.begin.new.self c.begin-2.new.self c.steps.one c.steps.other c.steps.changes c.steps.invariant c.step.new.one c.step.new.other (g.D.Disk.state c.step.new.disk).reads c.in_ok-next.next c.in-Done.is c.in_ok-next.ensures.steps honest sizes _ (diff (place c.args.part.low) (place c.args.part.high) m n) differ

pub steps-preserved-in-Moved : goal.steps-preserved-in-Moved
steps-preserved-in-Moved g c =
    compares_more (g.D.Disk.state c.args.disk.now) (g.D.Disk.state c.steps.disk) (g.D.Disk.state c.step.new.disk) c.step.ensures.looks.goes.earlier c.args.blocks (place c.args.part.low) (place c.args.part.high) c.begin.new.self c.begin-2.new.self c.steps.one c.steps.other c.steps.changes c.steps.invariant c.step.new.one c.step.new.other c.in_ok-next.next c.in-Moved.is c.in_ok-next.ensures.looks c.in_ok-next.ensures.steps

pub steps-preserved : goal.steps-preserved
steps-preserved g c =
    let R : List Change → Type 0 = λ cs. Compares (g.D.Disk.state c.args.disk.now) (g.D.Disk.state c.step.new.disk) c.args.blocks (place c.args.part.low) (place c.args.part.high) c.begin.new.self c.begin-2.new.self c.pass_change.new.one c.pass_change.new.other cs in
    let found : Change = record { key = c.in-Found.key; before = option_copied c.value_at.result; after = option_copied c.value_at-in-Found.result } in
    let is : c.push.new.self ≡ c.steps.changes ++ found ∷ [] = c.in_ok-push-in-Found.ensures.ok in
    subst R (sym is)
    (compares_found (g.D.Disk.state c.args.disk.now) (g.D.Disk.state c.steps.disk) (g.D.Disk.state c.step.new.disk) c.step.ensures.looks.goes.earlier c.args.blocks (place c.args.part.low) (place c.args.part.high) c.begin.new.self c.begin-2.new.self c.steps.one c.steps.other c.steps.changes c.steps.invariant c.step.new.one c.step.new.other c.pass_change.new.one c.pass_change.new.other c.in_ok-next.next c.in-Found.key found c.in-Found.is c.in_ok-next.ensures.looks c.in_ok-next.ensures.steps
    (c.pass_change.ensures.change found.before found.after (c.value_at.ensures.there, c.value_at.ensures.none) (c.value_at-in-Found.ensures.there, c.value_at-in-Found.ensures.none)))

pub returns-in_err-next-clause-changes : goal.returns-in_err-next-clause-changes
returns-in_err-next-clause-changes g c honest sizes m n bs cs first second =
    let differ = roots_differ (place c.args.part.low) (place c.args.part.high) sizes (g.D.Disk.state c.args.disk.now).now.contents c.args.blocks (g.D.Disk.state c.args.disk.now).reads c.args.first c.args.second c.begin.new.self c.begin-2.new.self m n bs cs
    (c.if-not-begin.ensures.begun refl) (c.if-not-begin-2.ensures.begun refl) first second in
    rw (passed_on _ c.from_residual.ensures.1) (device_lists c.in_err-next.field-0.0 _ (step_failed (g.D.Disk.state c.args.disk.now) (g.D.Disk.state c.steps.disk) (g.D.Disk.state c.step.new.disk) c.step.ensures.looks.goes.earlier c.args.blocks (place c.args.part.low) (place c.args.part.high) c.begin.new.self c.begin-2.new.self c.steps.one c.steps.other c.steps.changes c.steps.invariant c.step.new.one c.step.new.other (g.D.Disk.state c.step.new.disk).reads c.in_err-next.field-0.0 c.in_err-next.ensures.steps honest sizes _ (diff (place c.args.part.low) (place c.args.part.high) m n) differ))

pub returns-in-Done-clause-bound : goal.returns-in-Done-clause-bound
returns-in-Done-clause-bound g c honest sizes m n bs cs first second =
    let differ = roots_differ (place c.args.part.low) (place c.args.part.high) sizes (g.D.Disk.state c.args.disk.now).now.contents c.args.blocks (g.D.Disk.state c.args.disk.now).reads c.args.first c.args.second c.begin.new.self c.begin-2.new.self m n bs cs
    (c.if-not-begin.ensures.begun refl) (c.if-not-begin-2.ensures.begun refl) first second in
    compares_bound (g.D.Disk.state c.args.disk.now) (g.D.Disk.state c.steps.disk) (g.D.Disk.state c.step.new.disk) c.step.ensures.looks.goes.earlier c.args.blocks (place c.args.part.low) (place c.args.part.high) c.begin.new.self c.begin-2.new.self c.steps.one c.steps.other c.steps.changes c.steps.invariant (g.D.Disk.state c.step.new.disk).reads c.in_ok-next.ensures.bound honest sizes _ (diff (place c.args.part.low) (place c.args.part.high) m n) differ

pub returns-in_err-next-clause-bound : goal.returns-in_err-next-clause-bound
returns-in_err-next-clause-bound g c honest sizes m n bs cs first second =
    let differ = roots_differ (place c.args.part.low) (place c.args.part.high) sizes (g.D.Disk.state c.args.disk.now).now.contents c.args.blocks (g.D.Disk.state c.args.disk.now).reads c.args.first c.args.second c.begin.new.self c.begin-2.new.self m n bs cs
    (c.if-not-begin.ensures.begun refl) (c.if-not-begin-2.ensures.begun refl) first second in
    compares_bound (g.D.Disk.state c.args.disk.now) (g.D.Disk.state c.steps.disk) (g.D.Disk.state c.step.new.disk) c.step.ensures.looks.goes.earlier c.args.blocks (place c.args.part.low) (place c.args.part.high) c.begin.new.self c.begin-2.new.self c.steps.one c.steps.other c.steps.changes c.steps.invariant (g.D.Disk.state c.step.new.disk).reads c.in_err-next.ensures.bound honest sizes _ (diff (place c.args.part.low) (place c.args.part.high) m n) differ

pub returns-in_err-push-in-Found-clause-bound : goal.returns-in_err-push-in-Found-clause-bound
returns-in_err-push-in-Found-clause-bound g c honest sizes m n bs cs first second =
    let differ = roots_differ (place c.args.part.low) (place c.args.part.high) sizes (g.D.Disk.state c.args.disk.now).now.contents c.args.blocks (g.D.Disk.state c.args.disk.now).reads c.args.first c.args.second c.begin.new.self c.begin-2.new.self m n bs cs
    (c.if-not-begin.ensures.begun refl) (c.if-not-begin-2.ensures.begun refl) first second in
    compares_bound (g.D.Disk.state c.args.disk.now) (g.D.Disk.state c.steps.disk) (g.D.Disk.state c.step.new.disk) c.step.ensures.looks.goes.earlier c.args.blocks (place c.args.part.low) (place c.args.part.high) c.begin.new.self c.begin-2.new.self c.steps.one c.steps.other c.steps.changes c.steps.invariant (g.D.Disk.state c.step.new.disk).reads c.in_ok-next.ensures.bound honest sizes _ (diff (place c.args.part.low) (place c.args.part.high) m n) differ

pub returns-in-Done-clause-looks : goal.returns-in-Done-clause-looks
returns-in-Done-clause-looks g c = looks_on c.steps.invariant.looks c.in_ok-next.ensures.looks (λ is. cc)

pub returns-in_err-next-clause-looks : goal.returns-in_err-next-clause-looks
returns-in_err-next-clause-looks g c = looks_on c.steps.invariant.looks c.in_err-next.ensures.looks (search rules)

pub returns-in_err-push-in-Found-clause-looks : goal.returns-in_err-push-in-Found-clause-looks
returns-in_err-push-in-Found-clause-looks g c = looks_on c.steps.invariant.looks c.in_ok-next.ensures.looks (search rules)
