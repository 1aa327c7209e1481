use Rattle.std.proofs.Common.{ap}
use Rattle.vm_disk.proofs.KeptLemmas.{after_push}
use Rattle.vm_disk.proofs.kept.Kept.keep_room.Goals as goal

pub returns-in-Ok-Some-clause-kept : goal.returns-in-Ok-Some-clause-kept
returns-in-Ok-Some-clause-kept c =
    (c.empty_room.ensures.settings.refusals, after_push (λ room. room.value) c.args.n c.args.self.now.rooms c.empty_room.new.self.rooms c.push.new.self c.replace.result c.args.desk.now.value c.in-Ok-Some.ensures.entries c.empty_room.ensures.rooms (ap (λ (room : _). room.value) c.replace.ensures.value))

pub returns-in-Ok-None-clause-kept : goal.returns-in-Ok-None-clause-kept
returns-in-Ok-None-clause-kept c =
    (c.empty_room.ensures.settings.refusals, after_push (λ room. room.value) c.args.n c.args.self.now.rooms c.empty_room.new.self.rooms c.push.new.self c.replace.result c.args.desk.now.value c.in-Ok-None.ensures.entries c.empty_room.ensures.rooms (ap (λ (room : _). room.value) c.replace.ensures.value))
