-- Where the head and the entries of a slot stand in its blocks.
use Rattle.std.proofs.Common.{◌≡◌, ℕ, zero, suc, ◌+◌, ◌-◌, ◌*◌, ◌<◌, List, ◌∷◌, ◌++◌, length, take, drop, refl, sym, ap, ◌∙◌, subst, arith, length-drop, append_assoc}
use Rattle.std.specs.List.{AllByRecursion, flat_map}
use Rattle.std.proofs.lemmas.Grind.{flat_map-append}
use Rattle.std.proofs.lemmas.List.{take_at, drop_at, drop-drop, drop-append-le, take-append-le}
use Rattle.vm_disk.specs.Disk.{Contents, block}
use Rattle.vm_block.specs.Slot.{head_bytes, entry_bytes, slot_bytes, EntryFits, IsHead, IsSlot}
use Rattle.vm_block.specs.declared.slot.Entry.{Entry}
use Rattle.vm_block.proofs.EachLemmas.{each_front, each_back}
use Rattle.vm_block.proofs.Rows.{length-rows, found_at}
use Rattle.vm_catalog.specs.Place.{blocks_from}
use Rattle.vm_catalog.specs.Written.{joined}
use Rattle.vm_catalog.specs.SlotReads.{cell_of, HasEntry, BeginsSlot}
use Rattle.vm_catalog.proofs.PlaceLemmas.{blocks_split, length-blocks}
use Rattle.vm_block.proofs.SlotLemmas.{length-head, length-entry}

-- the bytes of blocks that are whole
pub length-joined_blocks : (blocks : List (List ℕ)) → AllByRecursion (λ b. length b ≡ 4096) blocks → length (joined blocks) ≡ 4096 * length blocks
length-joined_blocks blocks whole =
    length-rows (λ (b : List ℕ). b) (λ (b : List ℕ). length b ≡ 4096) 4096 (λ b h. h) blocks whole

-- from a block of a slot on
module _ (x : Contents) (at count : ℕ) (limit : ℕ) (es : List Entry) (slot : IsSlot (blocks_from x at count) limit es) where
  -- what the blocks say from block k on
  record From (k : ℕ) : Type 0 where
    pub tail : List ℕ
    pub size : length (block x (at + k)) ≡ 4096
    pub spelled : block x (at + k) ++ tail ≡ drop (4096 * k) (slot_bytes limit es ++ slot.rest)

  from_block : (k : ℕ) → k < count → From k
  from_block k inside =
      let m = count - k - 1 in
      let all : count ≡ k + suc m = omega arith in
      let front = blocks_from x at k in
      let b = block x (at + k) in
      let back = blocks_from x (at + k + 1) m in
      let split : blocks_from x at count ≡ front ++ b ∷ back = ap (blocks_from x at) all ∙ blocks_split x at k (suc m) in
      let P : List (List ℕ) → Type 0 = λ bs. AllByRecursion (λ c. length c ≡ 4096) bs in
      let whole = subst P split slot.whole in
      let before : length (joined front) ≡ 4096 * k = length-joined_blocks front (each_front (λ (c : List ℕ). length c ≡ 4096) front (b ∷ back) whole) ∙ ap (λ (n : ℕ). 4096 * n) (length-blocks x at k) in
      let bytes : slot_bytes limit es ++ slot.rest ≡ joined front ++ (b ++ joined back) = sym slot.spelled ∙ ap joined split ∙ flat_map-append (λ (c : List ℕ). c) front (b ∷ back) in
      record {
        tail = joined back;
        size = (each_back (λ (c : List ℕ). length c ≡ 4096) front (b ∷ back) whole).0;
        spelled = sym (ap (drop (4096 * k)) bytes ∙ drop_at (joined front) (b ++ joined back) (4096 * k) before);
      }

  -- a cell of block k
  cell_from : (k j : ℕ) → k < count → j < 32 → cell_of (block x (at + k)) j ≡ take 128 (drop (4096 * k + 128 * j) (slot_bytes limit es ++ slot.rest))
  cell_from k j inside low =
      let from = from_block k inside in
      let b = block x (at + k) in
      let whole = slot_bytes limit es ++ slot.rest in
      let behind : drop (128 * j) (b ++ from.tail) ≡ drop (128 * j) b ++ from.tail = drop-append-le (128 * j) b from.tail (omega (arith, from.size)) in
      let front : take 128 (drop (128 * j) b ++ from.tail) ≡ take 128 (drop (128 * j) b) = take-append-le 128 (drop (128 * j) b) from.tail (omega (arith, length-drop (128 * j) b, from.size)) in
      sym front ∙ ap (take 128) (sym behind) ∙ ap (λ (bytes : List ℕ). take 128 (drop (128 * j) bytes)) from.spelled ∙ ap (take 128) (drop-drop (128 * j) (4096 * k) whole)

  -- the first cell is the head
  pub head_is : 0 < count → IsHead (take 128 (block x at)) limit (length es)
  head_is some =
      let first : block x (at + 0) ≡ block x at = ap (block x) (omega arith) in
      record {
        spelled = ap (take 128) (sym first) ∙ cell_from 0 0 some (omega arith) ∙ ap (take 128) (append_assoc (head_bytes limit (length es)) (flat_map entry_bytes es) slot.rest) ∙ take_at (head_bytes limit (length es)) (flat_map entry_bytes es ++ slot.rest) 128 (length-head limit (length es));
        fits = slot.fits.head;
      }

  -- the cells behind it are the entries
  pub entry_is : (k j i : ℕ) → k < count → j < 32 → 32 * k + j ≡ i + 1 → i < length es → HasEntry (block x (at + k)) j
  entry_is k j i inside low place lt =
      let rows = flat_map entry_bytes es ++ slot.rest in
      let head = head_bytes limit (length es) in
      let far : 4096 * k + 128 * j ≡ 128 + 128 * i = omega arith in
      let behind : drop (4096 * k + 128 * j) (slot_bytes limit es ++ slot.rest) ≡ drop (128 * i) rows =
      ap (drop (4096 * k + 128 * j)) (append_assoc head (flat_map entry_bytes es) slot.rest)
      ∙ ap (λ (n : ℕ). drop n (head ++ rows)) far
      ∙ sym (drop-drop (128 * i) 128 (head ++ rows))
      ∙ ap (drop (128 * i)) (drop_at head rows 128 (length-head limit (length es))) in
      let found = found_at entry_bytes EntryFits 128 length-entry es i rows slot.rest slot.fits.each lt refl in
      let size : 128 ≡ 128 * i + 128 - 128 * i = omega arith in
      record {
        entry = found.here;
        here = record { spelled = cell_from k j inside low ∙ ap (take 128) behind ∙ found.spells 128 size; fits = found.fits };
      }

-- blocks that begin with a head have it in the first of them
pub begins_head : (x : Contents) (at k : ℕ) (limit n : ℕ) (es : List Entry) → BeginsSlot (blocks_from x at k) limit n es → 0 < k → take 128 (block x at) ≡ head_bytes limit n
begins_head x at zero limit n es begins some = absurd (omega arith)
begins_head x at (suc k) limit n es begins some =
    let tail = joined (blocks_from x (at + 1) k) in
    let rows = flat_map entry_bytes es ++ begins.rest in
    let front : take 128 (block x at ++ tail) ≡ take 128 (block x at) = take-append-le 128 (block x at) tail (omega (arith, begins.whole.0)) in
    sym front ∙ ap (take 128) (begins.spelled ∙ append_assoc (head_bytes limit n) (flat_map entry_bytes es) begins.rest) ∙ take_at (head_bytes limit n) rows 128 (length-head limit n)
