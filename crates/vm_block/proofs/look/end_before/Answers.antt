use Rattle.std.proofs.Common.{◌∙◌, arith}
use Rattle.vm_block.proofs.LookLemmas.{end_read}
use Rattle.vm_block.proofs.look.end_before.Goals as goal

pub returns-clause-only : goal.returns-clause-only
returns-clause-only c rs leaf le =
    end_read c.args.bytes.now rs c.args.i _ _ leaf (omega (arith, c.if-i-eq0.false)) le (omega (arith, c.told-bytes, c.requires)) (c.from.ensures ∙ c.read_u16.ensures)
