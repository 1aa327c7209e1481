use Rattle.vm_store.proofs.PerformLemmas.{carries_out}
use Rattle.vm_store.proofs.store.Store.apply.Goals as goal

pub returns-clause-done : goal.returns-clause-done
returns-clause-done g c sound = carries_out c.args.self.now c.dispatch-answer.new.self c.is_device-self.result _ c.args.command.now c.dispatch-answer.result sound c.is_device-self.ensures c.dispatch-answer.ensures
