use Rattle.std.proofs.Common.{length, nat_eq, sym, ap, ◌∙◌}
use Rattle.std.proofs.lemmas.Bool.{or_right}
use Rattle.std.proofs.lemmas.List.{length-map}
use Rattle.std.specs.Map.{lookup}
use Rattle.vm_disk.proofs.KeptLemmas.{after_push}
use Rattle.vm_disk.proofs.WaitingLemmas.{first_found}
use Rattle.vm_disk.proofs.waiting.Waiting.put.Goals as goal

pub returns-in-Ok-Some-clause-placed : goal.returns-in-Ok-Some-clause-placed
returns-in-Ok-Some-clause-placed c k =
    let was = c.args.self.now.rooms in
    ap (lookup (nat_eq k))
    (after_push (λ room. room.value) c.args.n was c.room.new.self.rooms c.push.new.self c.in-Some.room c.args.bytes.now c.in-Ok-Some.ensures.entries c.room.ensures.rooms c.in-Some.ensures.bytes)
    ∙ first_found was.cap (length was.entries) c.args.n c.args.bytes.now _ (length-map was.entries _) (or_right _ _ (sym c.has_place.ensures ∙ c.if-not-has_place.false)) k

pub returns-in-Ok-None-clause-placed : goal.returns-in-Ok-None-clause-placed
returns-in-Ok-None-clause-placed c k =
    let was = c.args.self.now.rooms in
    ap (lookup (nat_eq k))
    (after_push (λ room. room.value) c.args.n was c.room.new.self.rooms c.push.new.self c.in-Some.room c.args.bytes.now c.in-Ok-None.ensures.entries c.room.ensures.rooms c.in-Some.ensures.bytes)
    ∙ first_found was.cap (length was.entries) c.args.n c.args.bytes.now _ (length-map was.entries _) (or_right _ _ (sym c.has_place.ensures ∙ c.if-not-has_place.false)) k
