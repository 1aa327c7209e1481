use Rattle.std.proofs.Common.{nat_eq, Some, option_map, option_copied, sym, ap, ◌∙◌}
use Rattle.vm_disk.proofs.KeptLemmas.{lookup_view}
use Rattle.vm_disk.proofs.rooms.find.Goals as goal

pub returns-in-Some : goal.returns-in-Some
returns-in-Some c =
    sym (lookup_view (λ room. room.value) (nat_eq c.args.n) c.args.rooms.now.entries
    ∙ ap (option_map (λ room. room.value)) (sym c.peek.ensures ∙ ap option_copied c.in-Some.is) ∙ ap Some (sym c.deref.ensures))

pub returns-in-None : goal.returns-in-None
returns-in-None c =
    sym (lookup_view (λ room. room.value) (nat_eq c.args.n) c.args.rooms.now.entries
    ∙ ap (option_map (λ room. room.value)) (sym c.peek.ensures ∙ ap option_copied c.in-None.is))
