use Rattle.std.proofs.Common.{List, ℕ, nat_eq, sym, ap, ◌∙◌, Box, Global}
use Rattle.lru.specs.LruCache.{LruCache}
use Rattle.std.specs.Map.{lookup}
use Rattle.vm_disk.specs.Kept.{rooms_in}
use Rattle.vm_disk.proofs.WaitingLemmas.{taken_there}
use Rattle.vm_disk.proofs.waiting.Waiting.room.Goals as goal

pub returns-in-Some-pop_lru-clause-no_more : goal.returns-in-Some-pop_lru-clause-no_more
returns-in-Some-pop_lru-clause-no_more c k bytes h =
    taken_there (λ room. room.value) _ c.args.self.now.written.entries k bytes
    (ap (λ (rooms : LruCache ℕ (Box (List ℕ) Global)). lookup (nat_eq k) (rooms_in rooms)) (sym c.pop_lru.ensures.entries) ∙ h)

pub returns-in-None-clause-no_more : goal.returns-in-None-clause-no_more
returns-in-None-clause-no_more c k bytes h =
    taken_there (λ room. room.value) _ c.args.self.now.written.entries k bytes
    (ap (λ (rooms : LruCache ℕ (Box (List ℕ) Global)). lookup (nat_eq k) (rooms_in rooms)) (sym c.pop_lru.ensures.entries) ∙ h)
