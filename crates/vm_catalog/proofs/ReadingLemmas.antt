-- How the cells of a slot are read, one after another.
use Rattle.std.proofs.Common.{◌≡◌, ◌≢◌, Result, Err, ℕ, ◌+◌, ◌-◌, ◌*◌, ◌<◌, ◌≤◌, List, [], ◌∷◌, ◌++◌, length, take, drop, min, refl, sym, ap, ◌∙◌, subst, arith, length-append, append_assoc}
use Rattle.std.specs.List.{AllByRecursion, flat_map}
use Rattle.std.proofs.lemmas.Grind.{flat_map-append}
use Rattle.std.proofs.lemmas.List.{append-nil, drop-drop, length_push, nil_from_length, take-append-drop}
use Rattle.vm_block.specs.Slot.{head_bytes, entry_bytes, used_blocks, EntryFits, IsEntry, HeadFits, IsHead, IsSlot, IsLedger}
use Rattle.vm_block.specs.declared.slot.Entry.{Entry}
use Rattle.vm_block.specs.declared.selector.SlotName.{SlotName}
use Rattle.vm_block.proofs.EachLemmas.{each_join}
use Rattle.vm_block.proofs.Rows.{all_push, rows_read, length-rows}
use Rattle.vm_disk.specs.Disk.{Contents, block}
use Rattle.vm_catalog.specs.Place.{blocks_from, slot_at}
use Rattle.vm_catalog.specs.Written.{joined}
use Rattle.vm_catalog.specs.SlotReads.{cell_of, HasEntry, HasTaken, FitsSoFar, BeginsSlot, Loads}
use Rattle.vm_catalog.specs.Catalog.{SlotAt}
use Rattle.vm_catalog.specs.declared.reader.LoadFault.{LoadFault}
use Rattle.vm_catalog.specs.declared.reader.LoadFault.TheVariants.{Device, Memory, Damaged}
use Rattle.vm_catalog.proofs.PlaceLemmas.{blocks_more, length-blocks}
use Rattle.vm_block.proofs.SlotLemmas.{length-head, length-entry, head_one}
use Rattle.vm_catalog.proofs.SlotBytes.{length-joined_blocks, entry_is, head_is, begins_head}
use Rattle.vm_catalog.proofs.SlotOne.{read_one}

-- nothing is read yet
pub taken_none : (bytes : List ℕ) (first : ℕ) (old : List Entry) → HasTaken bytes first 0 old old
taken_none bytes first old =
    record { more = []; items = sym (append-nil old); many = refl; each = tt; spelled = refl }

-- one entry more is read
pub taken_more : (bytes : List ℕ) (first i : ℕ) (old mid new : List Entry) (e : Entry) → HasTaken bytes first i old mid → IsEntry (cell_of bytes (first + i)) e → new ≡ mid ++ e ∷ [] → HasTaken bytes first (i + 1) old new
taken_more bytes first i old mid new e so_far is pushed =
    let place : drop (128 * i) (drop (128 * first) bytes) ≡ drop (128 * (first + i)) bytes = drop-drop (128 * i) (128 * first) bytes ∙ ap (λ (n : ℕ). drop n bytes) (omega arith) in
    let size : 128 * i + 128 - 128 * i ≡ 128 = omega arith in
    let cell : take (128 * i + 128 - 128 * i) (drop (128 * i) (drop (128 * first) bytes)) ≡ entry_bytes e = ap (λ (n : ℕ). take n (drop (128 * i) (drop (128 * first) bytes))) size ∙ ap (take 128) place ∙ is.spelled in
    record {
      more = so_far.more ++ e ∷ [];
      items = pushed ∙ ap (λ (es : List Entry). es ++ e ∷ []) so_far.items ∙ append_assoc old so_far.more (e ∷ []);
      many = length_push so_far.more e ∙ ap (λ (n : ℕ). n + 1) so_far.many;
      each = all_push EntryFits so_far.more e so_far.each is.fits;
      spelled = rows_read entry_bytes 128 so_far.more i e (drop (128 * first) bytes) (128 * i + 128 - 128 * i) so_far.spelled refl cell;
    }

-- # The first block

-- it begins with the head, and these entries
pub first_begins : (x : Contents) (at : ℕ) (limit n count : ℕ) (bytes b : List ℕ) (old new : List Entry) → b ≡ block x at → length b ≡ 4096 → bytes ≡ take 128 b → IsHead bytes limit n → HasTaken b 1 count old new → old ≡ [] → BeginsSlot (blocks_from x at 1) limit n new
first_begins x at limit n count bytes b old new is size front head taken none =
    let all : new ≡ taken.more = taken.items ∙ ap (λ (es : List Entry). es ++ taken.more) none in
    let P : List ℕ → Type 0 = λ c. length c ≡ 4096 in
    let rest = drop (128 * count) (drop 128 b) in
    let behind : drop 128 b ≡ flat_map entry_bytes new ++ rest = sym (take-append-drop (128 * count) (drop 128 b)) ∙ ap (λ (c : List ℕ). c ++ rest) (taken.spelled ∙ ap (flat_map entry_bytes) (sym all)) in
    record {
      whole = (subst P is size, tt);
      rest = rest;
      spelled = append-nil (block x at) ∙ sym is ∙ sym (take-append-drop 128 b) ∙ ap (λ (c : List ℕ). c ++ drop 128 b) (sym front ∙ head.spelled) ∙ ap (λ (c : List ℕ). head_bytes limit n ++ c) behind ∙ sym (append_assoc (head_bytes limit n) (flat_map entry_bytes new) rest);
    }

-- # The other blocks

-- the entries so far and those of one block more
pub other_fits : (b : List ℕ) (limit n k count : ℕ) (mid new : List Entry) → FitsSoFar limit n k mid → k < used_blocks n → HasTaken b 0 count mid new → count ≡ min (n - length mid) 32 → FitsSoFar limit n (k + 1) new
other_fits b limit n k count mid new so_far inside taken many =
    let P : List Entry → Type 0 = λ es. AllByRecursion EntryFits es in
    record {
      head = so_far.head;
      each = subst P (sym taken.items) (each_join EntryFits mid taken.more so_far.each taken.each);
      many = omega (arith, ap length taken.items, length-append mid taken.more, taken.many, so_far.many);
    }

pub other_begins : (x : Contents) (at : ℕ) (limit n k count : ℕ) (b : List ℕ) (mid new : List Entry) → FitsSoFar limit n k mid → k < used_blocks n → BeginsSlot (blocks_from x at k) limit n mid → b ≡ block x (at + k) → length b ≡ 4096 → HasTaken b 0 count mid new → BeginsSlot (blocks_from x at (k + 1)) limit n new
other_begins x at limit n k count b mid new so_far inside begins is size taken =
    let front = blocks_from x at k in
    let head = head_bytes limit n in
    let P : List ℕ → Type 0 = λ c. length c ≡ 4096 in
    let full : length begins.rest ≡ 0 =
    omega (arith, ap length begins.spelled, length-append (head ++ flat_map entry_bytes mid) begins.rest, length-append head (flat_map entry_bytes mid), length-head limit n, length-rows entry_bytes EntryFits 128 length-entry mid so_far.each, length-joined_blocks front begins.whole, length-blocks x at k, so_far.many) in
    let before : joined front ≡ head ++ flat_map entry_bytes mid =
    begins.spelled ∙ ap (λ (c : List ℕ). (head ++ flat_map entry_bytes mid) ++ c) (nil_from_length begins.rest full) ∙ append-nil (head ++ flat_map entry_bytes mid) in
    let rest = drop (128 * count) b in
    let here : b ≡ flat_map entry_bytes taken.more ++ rest = sym (take-append-drop (128 * count) b) ∙ ap (λ (c : List ℕ). c ++ rest) taken.spelled in
    let rows : flat_map entry_bytes new ≡ flat_map entry_bytes mid ++ flat_map entry_bytes taken.more = ap (flat_map entry_bytes) taken.items ∙ flat_map-append entry_bytes mid taken.more in
    let split = blocks_more x at k in
    let Whole : List (List ℕ) → Type 0 = λ bs. AllByRecursion (λ c. length c ≡ 4096) bs in
    record {
      whole = subst Whole (sym split) (all_push (λ (c : List ℕ). length c ≡ 4096) front (block x (at + k)) begins.whole (subst P is size));
      rest = rest;
      spelled = ap joined split
          ∙ flat_map-append (λ (c : List ℕ). c) front (block x (at + k) ∷ [])
          ∙ ap (λ (c : List ℕ). joined front ++ c) (append-nil (block x (at + k)) ∙ sym is ∙ here)
          ∙ ap (λ (c : List ℕ). c ++ (flat_map entry_bytes taken.more ++ rest)) before
          ∙ sym (append_assoc (head ++ flat_map entry_bytes mid) (flat_map entry_bytes taken.more) rest)
          ∙ ap (λ (c : List ℕ). c ++ rest) (append_assoc head (flat_map entry_bytes mid) (flat_map entry_bytes taken.more) ∙ ap (λ (c : List ℕ). head ++ c) (sym rows));
    }

-- # What a slot has where it is read

-- the first block
pub record IsFront (bytes : List ℕ) (limit n : ℕ) : Type 0 where
  pub head : IsHead (take 128 bytes) limit n
  pub each : (i : ℕ) → i < min n 31 → HasEntry bytes (1 + i)

pub front_is : (x : Contents) (slot_name : SlotName) (limit : ℕ) (es : List Entry) (bytes : List ℕ) → SlotAt x slot_name limit es → bytes ≡ block x (slot_at slot_name) → IsFront bytes limit (length es)
front_is x slot_name limit es bytes slot is =
    let at = slot_at slot_name in
    let used : 0 < used_blocks (length es) = omega (arith, slot.fits.head.some) in
    let P : List ℕ → Type 0 = λ b. IsHead (take 128 b) limit (length es) in
    let first : block x (at + 0) ≡ block x at = ap (block x) (omega arith) in
    record {
      head = subst P (sym is) (head_is x at (used_blocks (length es)) limit es slot used);
      each = λ i lt.
          let Q : List ℕ → Type 0 = λ b. HasEntry b (1 + i) in
          subst Q (first ∙ sym is) (entry_is x at (used_blocks (length es)) limit es slot 0 (1 + i) i used (omega arith) (omega arith) (omega arith));
    }

-- another block
pub other_is : (x : Contents) (slot_name : SlotName) (limit : ℕ) (es : List Entry) (l n k count : ℕ) (bytes : List ℕ) (mid : List Entry) → SlotAt x slot_name limit es → FitsSoFar l n k mid → BeginsSlot (blocks_from x (slot_at slot_name) k) l n mid → 1 ≤ k → k < used_blocks n → count ≡ min (n - length mid) 32 → bytes ≡ block x (slot_at slot_name + k) → (i : ℕ) → i < count → HasEntry bytes (0 + i)
other_is x slot_name limit es l n k count bytes mid slot so_far begins some inside many is i lt =
    let at = slot_at slot_name in
    let used = used_blocks (length es) in
    let head = begins_head x at k l n mid begins (omega arith) in
    let other = head_is x at used limit es slot (omega (arith, slot.fits.head.some)) in
    let same = (head_one (take 128 (block x at)) l n limit (length es) (record { spelled = head; fits = so_far.head }) other).1 in
    let place : 32 * k + i ≡ (32 * k + i - 1) + 1 = omega arith in
    let there = entry_is x at used limit es slot k i (32 * k + i - 1) (omega (arith, same)) (omega (arith, many)) place (omega (arith, same, many, so_far.many)) in
    let P : List ℕ → Type 0 = λ b. HasEntry b (0 + i) in
    let Q : ℕ → Type 0 = λ j. HasEntry (block x (at + k)) j in
    subst P (sym is) (subst Q (omega arith) there)

-- # What was loaded

-- all entries were read
pub all_read : (limit n : ℕ) (es : List Entry) → FitsSoFar limit n (used_blocks n) es → length es ≡ n
all_read limit n es fits = omega (arith, fits.many)

-- they are those of the slot
pub loaded : (x : Contents) (slot_name : SlotName) (limit n : ℕ) (es : List Entry) → FitsSoFar limit n (used_blocks n) es → BeginsSlot (blocks_from x (slot_at slot_name) (used_blocks n)) limit n es → IsLedger es → SlotAt x slot_name limit es
loaded x slot_name limit n es fits begins ledger =
    let all = all_read limit n es fits in
    let P : ℕ → Type 0 = λ k. IsSlot (blocks_from x (slot_at slot_name) (used_blocks k)) limit es in
    let H : ℕ → Type 0 = λ k. HeadFits limit k in
    subst P (sym all) (record {
      fits = record { head = subst H (sym all) fits.head; each = fits.each; ledger = ledger };
      whole = begins.whole;
      rest = begins.rest;
      spelled = begins.spelled ∙ ap (λ (k : ℕ). (head_bytes limit k ++ flat_map entry_bytes es) ++ begins.rest) (sym all);
    })

-- and no others
pub loaded_one : (x : Contents) (slot_name : SlotName) (limit n : ℕ) (es : List Entry) (limit' : ℕ) (es' : List Entry) → FitsSoFar limit n (used_blocks n) es → BeginsSlot (blocks_from x (slot_at slot_name) (used_blocks n)) limit n es → SlotAt x slot_name limit' es' → (limit ≡ limit') × (es ≡ es')
loaded_one x slot_name limit n es limit' es' fits begins slot =
    read_one x slot_name limit n es limit' es' fits.head fits.each (all_read limit n es fits) begins slot

-- a fault other than a damage says nothing
pub loads_fault : {T : Type 0} (fault : LoadFault) (limit : ℕ) (es : List Entry) → (let r : Result T LoadFault = Err fault in r ≢ Err Damaged) → Loads (Err fault) limit es
loads_fault Device limit es other = tt
loads_fault Memory limit es other = tt
loads_fault Damaged limit es other = absurd (other refl)
