use Rattle.std.proofs.Common.{refl}
use Rattle.vm_disk.proofs.KeptLemmas.{after_push}
use Rattle.vm_disk.proofs.WaitingLemmas.{first_or_there}
use Rattle.vm_disk.proofs.WrittenLemmas.{gains_over}
use Rattle.vm_disk.proofs.waiting.Waiting.keep_written.Goals as goal

pub returns-in-Ok-Some-clause-gains : goal.returns-in-Ok-Some-clause-gains
returns-in-Ok-Some-clause-gains c k kept h =
    gains_over c.args.n c.args.room.value c.args.self.now c.forget_written.new.self c.forget_written.ensures.drops k kept (first_or_there c.forget_written.new.self.written.cap c.args.n c.args.room.value _ _
    (after_push (λ room. room.value) c.args.n c.forget_written.new.self.written c.forget_written.new.self.written c.push.new.self c.args.room c.args.room.value c.in-Ok-Some.ensures.entries refl refl) k kept h)

pub returns-in-Ok-None-clause-gains : goal.returns-in-Ok-None-clause-gains
returns-in-Ok-None-clause-gains c k kept h =
    gains_over c.args.n c.args.room.value c.args.self.now c.forget_written.new.self c.forget_written.ensures.drops k kept (first_or_there c.forget_written.new.self.written.cap c.args.n c.args.room.value _ _
    (after_push (λ room. room.value) c.args.n c.forget_written.new.self.written c.forget_written.new.self.written c.push.new.self c.args.room c.args.room.value c.in-Ok-None.ensures.entries refl refl) k kept h)
