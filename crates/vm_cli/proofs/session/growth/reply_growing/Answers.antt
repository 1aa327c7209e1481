use Rattle.vm_cli.specs.answers.Replies.{ends_session, reply_text}
use Rattle.vm_cli.proofs.HandledLemmas.{grown_handled}
use Rattle.vm_cli.proofs.session.growth.reply_growing.Goals as goal

pub returns : goal.returns
returns g c =
    let said = c.carry_out.ensures in
    record {
      store = said.store;
      answers = λ s.
          grown_handled c.args.store.now c.carry_out.new.store s c.args.most c.args.command.now (reply_text c.carry_out.result) (ends_session c.carry_out.result) said.tried said.refused said.store.left said.store.goes said.store.last;
    }
