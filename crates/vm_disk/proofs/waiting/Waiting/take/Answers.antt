use Rattle.std.proofs.Common.{List, ℕ, length, nat_eq, option_map, sym, ap, ◌∙◌, Box, Global, arith}
use Rattle.lru.specs.LruCache.{LruCache}
use Rattle.std.specs.Map.{lookup}
use Rattle.vm_disk.specs.Kept.{keeps}
use Rattle.vm_disk.proofs.KeptLemmas.{after_pop, gone_after_pop, lookup_view}
use Rattle.vm_disk.proofs.WaitingLemmas.{others_found, fewer_kept, no_more_kept}
use Rattle.vm_disk.proofs.waiting.Waiting.take.Goals as goal

pub returns-clause-stops : goal.returns-clause-stops
returns-clause-stops c =
    let was = c.args.self.now.rooms in
    let left = after_pop (λ room. room.value) c.args.n was c.pop.new.self c.pop.ensures.entries in
    let gone = gone_after_pop (λ room. room.value) c.args.n was c.pop.new.self c.pop.ensures.entries c.len.ensures.valid.0 in
    let after = ap (λ (rooms : LruCache ℕ (Box (List ℕ) Global)). length rooms.entries) c.pop.ensures.entries in
    record {
      gone = λ k. ap (lookup (nat_eq k)) left ∙ others_found c.args.n _ (sym (ap (keeps c.args.n) left) ∙ gone) k;
      fewer = λ there. let less = fewer_kept (λ room. room.value) c.args.n was.entries there in omega (arith, less, after);
      most = let most = no_more_kept (λ room. room.value) c.args.n was.entries in omega (arith, most, after);
      limit = ap (λ (rooms : LruCache ℕ (Box (List ℕ) Global)). rooms.cap) c.pop.ensures.entries;
    }

pub returns-clause-bytes : goal.returns-clause-bytes
returns-clause-bytes c =
    ap (option_map (λ room. room.value)) c.pop.ensures.value ∙ sym (lookup_view (λ room. room.value) (nat_eq c.args.n) c.args.self.now.rooms.entries)
