use Rattle.std.proofs.Common.{length}
use Rattle.vm_cli.proofs.program.branches.+push_under.Given as goal

abbrev pub decreases-push_under : goal.decreases-push_under
decreases-push_under l = length l.branches.now
