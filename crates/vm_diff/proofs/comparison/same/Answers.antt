use Rattle.std.proofs.Common.{◌∙◌, refl, sym}
use Rattle.vm_tree.proofs.Descent.{ok_map}
use Rattle.vm_diff.proofs.CompareLemmas.{one_root, whole_diff, whole_reads}
use Rattle.vm_diff.proofs.comparison.same.Goals as goal

pub returns-then-first-second-2-clause-equal : goal.returns-then-first-second-2-clause-equal
returns-then-first-second-2-clause-equal g c honest sizes m n bs cs first second =
    (λ _. one_root sizes (g.D.Disk.state c.args.disk.now).now.contents c.args.blocks c.args.first c.args.second m n bs cs c.if-first-second.true first second, λ _. refl)

pub returns-clause-equal : goal.returns-clause-equal
returns-clause-equal g c honest sizes m n bs cs first second =
    let whole = whole_diff c.all_keys.result.low c.all_keys.result.high c.all_keys.ensures.low c.all_keys.ensures.high sizes (g.D.Disk.state c.args.disk.now).now.contents c.args.blocks c.args.first c.args.second m n bs cs first second in
    ok_map c.same_between.result _ _ (c.same_between.ensures.equal honest sizes m n bs cs first second) (λ equal is. (λ yes. sym whole ∙ is.0 yes, λ none. is.1 (whole ∙ none)))

pub returns-clause-bound : goal.returns-clause-bound
returns-clause-bound g c honest sizes m n bs cs first second =
    whole_reads c.all_keys.result.low c.all_keys.result.high c.all_keys.ensures.low c.all_keys.ensures.high sizes (g.D.Disk.state c.args.disk.now).now.contents c.args.blocks c.args.first c.args.second m n bs cs first second
    (g.D.Disk.state c.args.disk.now).reads (g.D.Disk.state c.same_between.new.disk).reads (c.same_between.ensures.bound honest sizes m n bs cs first second)
