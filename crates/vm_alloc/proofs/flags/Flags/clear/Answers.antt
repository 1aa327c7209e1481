use Rattle.std.proofs.Common.{rules}
use Rattle.vm_alloc.proofs.FlagLemmas.{flags_cleared}
use Rattle.vm_alloc.proofs.flags.Flags.clear.Goals as goal

pub returns : goal.returns
returns c = flags_cleared _ _ _ c.args.self.now c.self.view_is (search rules)
