use Rattle.std.proofs.Common.{rules}
use Rattle.vm_cli.specs.session.Known.{written_to}
use Rattle.vm_cli.specs.session.StreamCalls.{AnswersAlone}
use Rattle.vm_cli.proofs.session.batches.answer_alone.Goals as goal

pub returns : goal.returns
returns g c =
    let alone : AnswersAlone c.args.manner c.args.line.now c.answer.result c.args.store.now c.answer.new.self.store.now (written_to g.W.Write.contents c.args.writer.now c.answer.new.self.writer.now) =
    record { store = c.answer.ensures.store; answer = c.answer.ensures.answer } in
    search (rules, alone)
