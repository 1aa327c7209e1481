use Rattle.std.proofs.Common.{List, ℕ, length, nat_eq, sym, ap, ◌∙◌}
use Rattle.std.proofs.lemmas.Bool.{or_left}
use Rattle.std.proofs.lemmas.List.{length-map}
use Rattle.std.specs.Map.{lookup}
use Rattle.std.specs.Option.{option_copied_mut}
use Rattle.vm_disk.specs.Kept.{with_first}
use Rattle.vm_disk.proofs.KeptLemmas.{view, view_written, kept_found, kept_missed}
use Rattle.vm_disk.proofs.WaitingLemmas.{first_found}
use Rattle.vm_disk.proofs.waiting.Waiting.change.Goals as goal

pub returns-in-Some-clause-answer : goal.returns-in-Some-clause-answer
returns-in-Some-clause-answer c =
    sym (kept_found (λ room. room.value) c.args.n c.args.self.now.rooms.entries c.in-Some.room.now (sym c.get_mut.ensures.value ∙ ap option_copied_mut c.in-Some.is))

pub returns-in-Some-clause-changed : goal.returns-in-Some-clause-changed
returns-in-Some-clause-changed c k =
    let was = c.args.self.now.rooms in
    ap (lookup (nat_eq k))
    (view_written (λ room. room.value) was.cap c.args.n was.entries c.in-Some.room.now c.fill.new.room (sym c.get_mut.ensures.value ∙ ap option_copied_mut c.in-Some.is)
    ∙ ap (λ (bytes : List ℕ). with_first was.cap c.args.n bytes (view (λ room. room.value) was.entries)) c.fill.ensures)
    ∙ first_found was.cap (length was.entries) c.args.n c.args.bytes.now _ (length-map was.entries _) (or_left _ _ (kept_found (λ room. room.value) c.args.n was.entries c.in-Some.room.now (sym c.get_mut.ensures.value ∙ ap option_copied_mut c.in-Some.is))) k

pub returns-in-None-clause-answer : goal.returns-in-None-clause-answer
returns-in-None-clause-answer c =
    sym (kept_missed (λ room. room.value) c.args.n c.args.self.now.rooms.entries (sym c.get_mut.ensures.value ∙ ap option_copied_mut c.in-None.is))
