use Rattle.vm_cli.proofs.Names.{name_of-new}
use Rattle.vm_cli.proofs.lines.arguments.name.Goals as goal

pub returns : goal.returns
returns c = name_of-new c.args.word.now c.new.result c.new.ensures.name c.new.ensures.value
