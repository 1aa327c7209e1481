use Rattle.std.proofs.Common.{rules}
use Rattle.vm_cli.proofs.Spaces.{words_of-few}
use Rattle.vm_cli.proofs.lines.mistake.wrong_word.Goals as goal

pub loop-word-init : goal.loop-word-init
loop-word-init c =
    let few = words_of-few c.args.words.now in
    search rules
