use Rattle.std.proofs.Common.{None, rules}
use Rattle.vm_types.specs.State.{opened}
use Rattle.vm_store.specs.Shown.{new_store}
use Rattle.vm_cli.specs.session.Session.{Passes}
use Rattle.vm_cli.proofs.ReadOnlyLemmas.{serves_pass}
use Rattle.vm_cli.proofs.session.serve.Goals as goal

pub returns-clause-reads : goal.returns-clause-reads
returns-clause-reads g c refuses =
    let passes : Passes c.args.store.now c.run.new.self.store.now None = serves_pass c.args.manner refuses c.args.store.now c.run.new.self.store.now (opened (new_store 64)) _ _ (c.run.ensures.answers (opened (new_store 64))) in
    search (rules, passes)
