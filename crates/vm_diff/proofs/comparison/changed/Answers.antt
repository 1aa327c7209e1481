use Rattle.std.proofs.Common.{◌∙◌}
use Rattle.vm_tree.proofs.PartReads.{lists_map}
use Rattle.vm_diff.proofs.CompareLemmas.{whole_diff, whole_reads}
use Rattle.vm_diff.proofs.comparison.changed.Goals as goal

pub returns-clause-changes : goal.returns-clause-changes
returns-clause-changes g c honest sizes m n bs cs first second =
    lists_map c.changed_in.result _ _ (c.changed_in.ensures.changes honest sizes m n bs cs first second)
    (λ changes is. is ∙ whole_diff c.all_keys.result.low c.all_keys.result.high c.all_keys.ensures.low c.all_keys.ensures.high sizes (g.D.Disk.state c.args.disk.now).now.contents c.args.blocks c.args.first c.args.second m n bs cs first second)

pub returns-clause-bound : goal.returns-clause-bound
returns-clause-bound g c honest sizes m n bs cs first second =
    whole_reads c.all_keys.result.low c.all_keys.result.high c.all_keys.ensures.low c.all_keys.ensures.high sizes (g.D.Disk.state c.args.disk.now).now.contents c.args.blocks c.args.first c.args.second m n bs cs first second
    (g.D.Disk.state c.args.disk.now).reads (g.D.Disk.state c.changed_in.new.disk).reads (c.changed_in.ensures.bound honest sizes m n bs cs first second)
