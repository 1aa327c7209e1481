use Rattle.std.proofs.Common.{option_map, sym, ap, ◌∙◌}
use Rattle.std.specs.Map.Iter.{deref_pair}
use Rattle.vm_disk.proofs.WaitingLemmas.{last_kept, none_kept}
use Rattle.vm_disk.proofs.waiting.Waiting.oldest.Goals as goal

pub returns-in-Some-clause-some : goal.returns-in-Some-clause-some
returns-in-Some-clause-some c =
    last_kept (λ room. room.value) c.args.self.now.rooms.entries c.in-Some.n.now c.in-Some.field-0-1.now (sym c.peek_lru.ensures ∙ ap (option_map deref_pair) c.in-Some.is)

pub returns-in-None-clause-none : goal.returns-in-None-clause-none
returns-in-None-clause-none c =
    none_kept (λ room. room.value) c.args.self.now.rooms.entries (sym c.peek_lru.ensures ∙ ap (option_map deref_pair) c.in-None.is)
