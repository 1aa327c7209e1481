use Rattle.vm_disk.proofs.KeptLemmas.{after_pop, gone_after_pop}
use Rattle.vm_disk.proofs.WaitingLemmas.{left_there}
use Rattle.vm_disk.proofs.waiting.Waiting.forget_written.Goals as goal

pub returns-in-Some-clause-drops : goal.returns-in-Some-clause-drops
returns-in-Some-clause-drops c =
    left_there c.args.n _ _ (after_pop (λ room. room.value) c.args.n c.args.self.now.written c.pop.new.self c.pop.ensures.entries)
    (gone_after_pop (λ room. room.value) c.args.n c.args.self.now.written c.pop.new.self c.pop.ensures.entries c.len.ensures.valid.0)

pub returns-in_default-clause-drops : goal.returns-in_default-clause-drops
returns-in_default-clause-drops c =
    left_there c.args.n _ _ (after_pop (λ room. room.value) c.args.n c.args.self.now.written c.pop.new.self c.pop.ensures.entries)
    (gone_after_pop (λ room. room.value) c.args.n c.args.self.now.written c.pop.new.self c.pop.ensures.entries c.len.ensures.valid.0)
