use Rattle.vm_disk.proofs.KeptLemmas.{after_pop, gone_after_pop}
use Rattle.vm_disk.proofs.kept.Kept.forget.Goals as goal

pub returns-in-Some-clause-entries : goal.returns-in-Some-clause-entries
returns-in-Some-clause-entries c = after_pop (λ room. room.value) c.args.n c.args.self.now.rooms c.pop.new.self c.pop.ensures.entries

pub returns-in-Some-clause-gone : goal.returns-in-Some-clause-gone
returns-in-Some-clause-gone c = gone_after_pop (λ room. room.value) c.args.n c.args.self.now.rooms c.pop.new.self c.pop.ensures.entries c.len.ensures.valid.0

pub returns-in_default-clause-entries : goal.returns-in_default-clause-entries
returns-in_default-clause-entries c = after_pop (λ room. room.value) c.args.n c.args.self.now.rooms c.pop.new.self c.pop.ensures.entries

pub returns-in_default-clause-gone : goal.returns-in_default-clause-gone
returns-in_default-clause-gone c = gone_after_pop (λ room. room.value) c.args.n c.args.self.now.rooms c.pop.new.self c.pop.ensures.entries c.len.ensures.valid.0
