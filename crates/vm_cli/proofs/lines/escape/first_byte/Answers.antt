use Rattle.std.proofs.Common.{rules}
use Rattle.vm_cli.proofs.Escapes.{unescaped-escape, unescaped-literal}
use Rattle.vm_cli.proofs.lines.escape.first_byte.Goals as goal

pub returns-then-word-ne37 : goal.returns-then-word-ne37
returns-then-word-ne37 c = (unescaped-literal c.args.word.now c.requires c.if-word-ne37.true, search rules)

pub returns : goal.returns
returns c =
    let e = unescaped-escape c.args.word.now c.if-word-ne37.false c.if-word-lt3.false in
    (rw (← c.in_ok-high.ensures.digit, ← c.in_ok-low.ensures.digit) at e, search rules)
