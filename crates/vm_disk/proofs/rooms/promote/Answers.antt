use Rattle.std.proofs.Common.{List, ℕ, Box, Global, ap, sym, ◌∙◌}
use Rattle.lru.specs.LruCache.{LruCache}
use Rattle.vm_disk.proofs.KeptLemmas.{on_true, promoted_keeps}
use Rattle.vm_disk.proofs.WaitingLemmas.{promoted_there, promoted_to_front}
use Rattle.vm_disk.proofs.rooms.promote.Goals as goal

pub returns-clause-answer : goal.returns-clause-answer
returns-clause-answer c = promoted_keeps (λ room. room.value) c.args.n c.args.rooms.now c.promote.new.self c.promote.result c.promote.ensures.entries c.promote.ensures.value

pub returns-clause-first : goal.returns-clause-first
returns-clause-first c = on_true c.promote.result (λ yes. promoted_to_front (λ room. room.value) c.args.n c.args.rooms.now c.promote.new.self c.promote.ensures.entries (sym c.promote.ensures.value ∙ yes))

pub returns-clause-same : goal.returns-clause-same
returns-clause-same c = promoted_there (λ room. room.value) c.args.n c.args.rooms.now c.promote.new.self c.promote.ensures.entries

pub returns-clause-limit : goal.returns-clause-limit
returns-clause-limit c = ap (λ (rooms : LruCache ℕ (Box (List ℕ) Global)). rooms.cap) c.promote.ensures.entries
