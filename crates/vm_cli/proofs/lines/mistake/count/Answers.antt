use Rattle.std.proofs.Common.{rules}
use Rattle.vm_cli.proofs.Spaces.{words_of-few}
use Rattle.vm_cli.proofs.lines.mistake.count.Goals as goal

pub loop-after-init : goal.loop-after-init
loop-after-init c =
    let few = words_of-few c.args.line.now in
    search rules
