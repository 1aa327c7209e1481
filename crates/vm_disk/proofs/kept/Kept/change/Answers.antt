use Rattle.std.proofs.Common.{List, ℕ, sym, ap, ◌∙◌}
use Rattle.std.specs.Option.{option_copied_mut}
use Rattle.vm_disk.specs.Kept.{limit_of, entries_of, with_first}
use Rattle.vm_disk.proofs.KeptLemmas.{kept_found, kept_missed, view_written}
use Rattle.vm_disk.proofs.kept.Kept.change.Goals as goal

pub returns-in-Some-clause-answer : goal.returns-in-Some-clause-answer
returns-in-Some-clause-answer c =
    sym (kept_found (λ room. room.value) c.args.n c.args.self.now.rooms.entries c.in-Some.room.now (sym c.get_mut.ensures.value ∙ ap option_copied_mut c.in-Some.is))

pub returns-in-Some-clause-first : goal.returns-in-Some-clause-first
returns-in-Some-clause-first c =
    view_written (λ room. room.value) (limit_of c.args.self.now) c.args.n c.args.self.now.rooms.entries c.in-Some.room.now c.fill.new.room (sym c.get_mut.ensures.value ∙ ap option_copied_mut c.in-Some.is)
    ∙ ap (λ (bytes : List ℕ). with_first (limit_of c.args.self.now) c.args.n bytes (entries_of c.args.self.now)) c.fill.ensures

pub returns-in-None-clause-answer : goal.returns-in-None-clause-answer
returns-in-None-clause-answer c =
    sym (kept_missed (λ room. room.value) c.args.n c.args.self.now.rooms.entries (sym c.get_mut.ensures.value ∙ ap option_copied_mut c.in-None.is))
