-- When the same is known of a store.
use Rattle.std.proofs.Common.{◌≡◌, ◌≤◌, length, vec_capacity}
use Rattle.std.specs.Coded.{le_prop}
use Rattle.vm_types.specs.declared.sizes.TheConstants.{MAX_BLOCKS, MAX_VERSIONS, MIN_BLOCKS}
use Rattle.vm_store.specs.declared.store.parts.Parts.{Parts}
use mathlib.Core.HLevel.{is_prop→PathP}
use native.Mathlib.Nat.{ℕ_set}

-- parts of a store with the same fields are the same
pub same_parts : (new old : Parts) → new.blocks ≡ old.blocks → new.kept ≡ old.kept → new.slot_name ≡ old.slot_name → new.entries ≡ old.entries → new.committed ≡ old.committed → new.working ≡ old.working → new.held ≡ old.held → new.marks ≡ old.marks
    → new.before ≡ old.before → new.series ≡ old.series → new.changes ≡ old.changes → new.marked ≡ old.marked → new ≡ old
same_parts new old blocks kept slot_name entries committed working held marks before series changes marked = λ i. record {
  blocks = blocks i;
  kept = kept i;
  slot_name = slot_name i;
  entries = entries i;
  committed = committed i;
  working = working i;
  held = held i;
  marks = marks i;
  before = before i;
  series = series i;
  changes = changes i;
  marked = marked i;
  least = is_prop→PathP (λ j. MIN_BLOCKS ≤ blocks j) (λ j. le_prop) new.least old.least i;
  most = is_prop→PathP (λ j. blocks j ≤ MAX_BLOCKS) (λ j. le_prop) new.most old.most i;
  kept_least = is_prop→PathP (λ j. MIN_BLOCKS ≤ kept j) (λ j. le_prop) new.kept_least old.kept_least i;
  kept_most = is_prop→PathP (λ j. kept j ≤ blocks j) (λ j. le_prop) new.kept_most old.kept_most i;
  bits = is_prop→PathP (λ j. length (held j) ≡ blocks j) (λ j. ℕ_set _ _) new.bits old.bits i;
  mark_bits = is_prop→PathP (λ j. length (marks j) ≡ blocks j) (λ j. ℕ_set _ _) new.mark_bits old.mark_bits i;
  before_bits = is_prop→PathP (λ j. length (before j) ≡ blocks j) (λ j. ℕ_set _ _) new.before_bits old.before_bits i;
  room_entries = is_prop→PathP (λ j. MAX_VERSIONS ≤ vec_capacity (entries j)) (λ j. le_prop) new.room_entries old.room_entries i;
}
