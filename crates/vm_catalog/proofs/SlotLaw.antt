-- The blocks of a slot, as they are written, hold its entries.
use Rattle.std.proofs.Common.{◌≡◌, ℕ, zero, suc, ◌-◌, ◌*◌, ◌<◌, ◌≤◌, ⊎_elim, List, [], ◌∷◌, ◌++◌, length, map, min, take, drop, refl, sym, ap, ◌∙◌, arith, length-append, length-drop, length-take, append_assoc}
use Rattle.std.specs.List.{AllByRecursion}
use Rattle.std.proofs.lemmas.Bool.{cases_lt}
use Rattle.std.proofs.lemmas.Grind.{flat_map-append}
use Rattle.std.proofs.lemmas.List.{append-nil, take_all, take-append-drop}
use Rattle.std.proofs.lemmas.List.Folds.{flat_map-map}
use Rattle.vm_block.specs.Padding.{zeros, padded}
use Rattle.vm_block.specs.Slot.{head_bytes, entry_bytes, slot_bytes, used_blocks, EntryFits, SlotFits, IsSlot}
use Rattle.vm_block.specs.declared.slot.Entry.{Entry}
use Rattle.vm_block.proofs.Pieces.{length-padded}
use Rattle.vm_block.proofs.SlotLemmas.{length-head, length-entry}
use Rattle.vm_catalog.specs.Written.{joined, cells, in_blocks, slot_blocks}
use Rattle.vm_catalog.proofs.WrittenLemmas.{length-cells}

-- # How long the pieces are

-- each piece has 128 bytes
abbrev AreCells : List (List ℕ) → Type 0
AreCells pieces = AllByRecursion (λ piece. length piece ≡ 128) pieces

cells_of : (es : List Entry) → AllByRecursion EntryFits es → AreCells (map entry_bytes es)
cells_of [] fit = tt
cells_of (e ∷ es) fit = (length-entry e fit.0, cells_of es fit.1)

are_cells : (limit : ℕ) (es : List Entry) → AllByRecursion EntryFits es → AreCells (cells limit es)
are_cells limit es fit = (length-head limit (length es), cells_of es fit)

cells_before : (n : ℕ) (pieces : List (List ℕ)) → AreCells pieces → AreCells (take n pieces)
cells_before zero pieces h = tt
cells_before (suc n) [] h = tt
cells_before (suc n) (piece ∷ pieces) h = (h.0, cells_before n pieces h.1)

cells_behind : (n : ℕ) (pieces : List (List ℕ)) → AreCells pieces → AreCells (drop n pieces)
cells_behind zero pieces h = h
cells_behind (suc n) [] h = tt
cells_behind (suc n) (piece ∷ pieces) h = cells_behind n pieces h.1

length-joined : (pieces : List (List ℕ)) → AreCells pieces → length (joined pieces) ≡ 128 * length pieces
length-joined [] h = refl
length-joined (piece ∷ pieces) h =
    omega (arith, length-append piece (joined pieces), length-joined pieces h.1, h.0)

no_zeros : (bytes : List ℕ) → bytes ++ zeros 0 ≡ bytes
unfolding zeros
no_zeros bytes = append-nil bytes

length_front : (pieces : List (List ℕ)) → AreCells pieces → length (joined (take 32 pieces)) ≡ 128 * min 32 (length pieces)
length_front pieces h =
    length-joined (take 32 pieces) (cells_before 32 pieces h) ∙ ap (λ (n : ℕ). 128 * n) (length-take 32 pieces)

-- # What the blocks say

-- each block is whole
whole_blocks : (count : ℕ) (pieces : List (List ℕ)) → AreCells pieces → AllByRecursion (λ block. length block ≡ 4096) (in_blocks count pieces)
whole_blocks zero pieces h = tt
whole_blocks (suc k) pieces h =
    (length-padded 4096 (joined (take 32 pieces)) (omega (arith, length_front pieces h)), whole_blocks k (drop 32 pieces) (cells_behind 32 pieces h))

-- what is behind the pieces in the blocks
record Ends (pieces : List (List ℕ)) (bytes : List ℕ) : Type 0 where
  pub rest : List ℕ
  pub spelled : bytes ≡ joined pieces ++ rest

full_block : (pieces : List (List ℕ)) (bytes : List ℕ) → AreCells pieces → 32 ≤ length pieces → Ends (drop 32 pieces) bytes → Ends pieces (padded 4096 (joined (take 32 pieces)) ++ bytes)
full_block pieces bytes h many ends =
    let front = joined (take 32 pieces) in
    let size : 4096 - length front ≡ 0 = omega (arith, length_front pieces h) in
    let filled : padded 4096 front ≡ front = ap (λ (n : ℕ). front ++ zeros n) size ∙ no_zeros front in
    let split : joined pieces ≡ front ++ joined (drop 32 pieces) = ap joined (sym (take-append-drop 32 pieces)) ∙ flat_map-append (λ (piece : List ℕ). piece) (take 32 pieces) (drop 32 pieces) in
    record {
      rest = ends.rest;
      spelled = ap (λ (b : List ℕ). b ++ bytes) filled ∙ ap (λ (b : List ℕ). front ++ b) ends.spelled ∙ sym (append_assoc front (joined (drop 32 pieces)) ends.rest) ∙ ap (λ (b : List ℕ). b ++ ends.rest) (sym split);
    }

last_block : (pieces : List (List ℕ)) (bytes : List ℕ) → length pieces ≤ 32 → Ends pieces (padded 4096 (joined (take 32 pieces)) ++ bytes)
last_block pieces bytes few =
    let all : joined (take 32 pieces) ≡ joined pieces = ap joined (take_all 32 pieces few) in
    let rest = zeros (4096 - length (joined pieces)) in
    record {
      rest = rest ++ bytes;
      spelled = ap (λ (b : List ℕ). padded 4096 b ++ bytes) all ∙ append_assoc (joined pieces) rest bytes;
    }

ends : (count : ℕ) (pieces : List (List ℕ)) → AreCells pieces → length pieces ≤ 32 * count → Ends pieces (joined (in_blocks count pieces))
ends zero [] h room = record { rest = []; spelled = refl }
ends zero (piece ∷ pieces) h room = absurd (omega arith)
ends (suc k) pieces h room =
    ⊎_elim
    (λ (few : length pieces < 32). last_block pieces (joined (in_blocks k (drop 32 pieces))) (omega arith))
    (λ (many : 32 ≤ length pieces). full_block pieces (joined (in_blocks k (drop 32 pieces))) h many (ends k (drop 32 pieces) (cells_behind 32 pieces h) (omega (arith, length-drop 32 pieces))))
    (cases_lt (length pieces) 32)

-- what is written is the slot of its entries
pub written_slot : (limit : ℕ) (es : List Entry) → SlotFits limit es → IsSlot (slot_blocks limit es) limit es
unfolding slot_blocks
written_slot limit es fits =
    let h = are_cells limit es fits.each in
    let e = ends (used_blocks (length es)) (cells limit es) h (omega (arith, length-cells limit es)) in
    let same : joined (cells limit es) ≡ slot_bytes limit es = ap (λ (b : List ℕ). head_bytes limit (length es) ++ b) (flat_map-map (λ (piece : List ℕ). piece) entry_bytes es) in
    record {
      fits = fits;
      whole = whole_blocks (used_blocks (length es)) (cells limit es) h;
      rest = e.rest;
      spelled = e.spelled ∙ ap (λ (b : List ℕ). b ++ e.rest) same;
    }
