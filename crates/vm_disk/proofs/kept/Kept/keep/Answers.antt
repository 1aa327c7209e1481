use Rattle.std.proofs.Common.{inl}
use Rattle.vm_disk.proofs.KeptLemmas.{after_push}
use Rattle.vm_disk.proofs.kept.Kept.keep.Goals as goal

pub returns-in-Ok-Some-clause-kept : goal.returns-in-Ok-Some-clause-kept
returns-in-Ok-Some-clause-kept c =
    inl (c.room.ensures.settings.refusals, after_push (λ room. room.value) c.args.n c.args.self.now.rooms c.room.new.self.rooms c.push.new.self c.in-Some.room c.args.bytes.now c.in-Ok-Some.ensures.entries c.room.ensures.rooms c.in-Some.ensures.bytes)

pub returns-in-Ok-None-clause-kept : goal.returns-in-Ok-None-clause-kept
returns-in-Ok-None-clause-kept c =
    inl (c.room.ensures.settings.refusals, after_push (λ room. room.value) c.args.n c.args.self.now.rooms c.room.new.self.rooms c.push.new.self c.in-Some.room c.args.bytes.now c.in-Ok-None.ensures.entries c.room.ensures.rooms c.in-Some.ensures.bytes)
