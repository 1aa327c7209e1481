use Rattle.std.proofs.Common.{rules, sym, ◌∙◌}
use Rattle.std.proofs.lemmas.Bool.{and_parts}
use Rattle.vm_cli.proofs.Written.{ArePlain-more}
use Rattle.vm_cli.proofs.lines.escape.are_plain.Goals as goal

pub loop-byte-preserved : goal.loop-byte-preserved
loop-byte-preserved c = λ plain.
    let both = and_parts c.loop-byte.plain c.is_plain-plain.result plain in
    ArePlain-more c.args.bytes.now c.loop-byte.byte-index (search rules) (c.loop-byte.invariant both.0) (sym c.is_plain-plain.ensures ∙ both.1)
