use Rattle.std.proofs.Common.{option_map, sym, ap, ◌∙◌}
use Rattle.vm_disk.proofs.WrittenLemmas.{settles_one, settles_none}
use Rattle.vm_disk.proofs.waiting.Waiting.settle.Goals as goal

pub returns-in-Some-clause-settles : goal.returns-in-Some-clause-settles
returns-in-Some-clause-settles c = settles_one c.args.n c.in-Some.room.value c.args.self.now c.take.new.self c.keep_written.new.self (sym c.take.ensures.bytes ∙ ap (option_map (λ room. room.value)) c.in-Some.is) c.take.ensures.written c.keep_written.ensures.gains

pub returns-in-None-clause-settles : goal.returns-in-None-clause-settles
returns-in-None-clause-settles c = settles_none c.args.n c.args.self.now c.take.new.self c.forget_written.new.self c.take.ensures.written c.forget_written.ensures.drops
