use Rattle.std.proofs.Common.{sym, ap, ◌∙◌, arith}
use Rattle.vm_types.specs.Parts.{changes_part}
use Rattle.vm_types.specs.Places.{place}
use Rattle.vm_diff.proofs.CompareLemmas.{one_root}
use Rattle.vm_diff.proofs.comparison.changed_in.Goals as goal

pub returns-then-first-second-2-clause-changes : goal.returns-then-first-second-2-clause-changes
returns-then-first-second-2-clause-changes g c honest sizes m n bs cs first second =
    c.new.ensures ∙ sym (ap (changes_part (place c.args.part.low) (place c.args.part.high)) (one_root sizes (g.D.Disk.state c.args.disk.now).now.contents c.args.blocks c.args.first c.args.second m n bs cs c.if-first-second.true first second))

pub returns-then-first-second-2-clause-bound : goal.returns-then-first-second-2-clause-bound
returns-then-first-second-2-clause-bound g c honest sizes m n bs cs one other = omega arith
