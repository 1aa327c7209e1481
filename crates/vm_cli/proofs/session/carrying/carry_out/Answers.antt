use Rattle.std.proofs.Common.{refl, rules}
use Rattle.vm_cli.specs.session.Streams.{CarriesLines}
use Rattle.vm_cli.proofs.session.carrying.carry_out.Goals as goal

pub returns-clause-carried : goal.returns-clause-carried
returns-clause-carried g c = λ s parts held.
    let carried : CarriesLines c.args.store.now c.carry_out_each.new.self.store.now s c.args.manner parts c.carry_out_each.result c.carry_out_each.new.self.writer.now.items =
    c.carry_out_each.ensures.carries.carried s c.args.manner parts refl c.requires held in
    search (rules, carried)
