-- A slot holds one list of entries.
use Rattle.std.proofs.Common.{◌≡◌, ℕ, ◌*◌, List, ◌++◌, length, take, drop, refl, sym, ap, ◌∙◌, arith, append_assoc}
use Rattle.std.specs.List.{AllByRecursion, flat_map}
use Rattle.std.proofs.lemmas.List.{take_at, drop_at}
use Rattle.vm_block.specs.Slot.{head_bytes, entry_bytes, used_blocks, EntryFits, HeadFits}
use Rattle.vm_block.specs.declared.slot.Entry.{Entry}
use Rattle.vm_block.specs.declared.selector.SlotName.{SlotName}
use Rattle.vm_block.proofs.Rows.{length-rows, rows_one}
use Rattle.vm_block.proofs.SlotLemmas.{length-head, length-entry, head_one, entry_one}
use Rattle.vm_disk.specs.Disk.{Contents, block}
use Rattle.vm_catalog.specs.Place.{blocks_from, slot_at, selected}
use Rattle.vm_catalog.specs.Written.{joined}
use Rattle.vm_catalog.specs.Catalog.{SlotAt, Names}
use Rattle.vm_catalog.specs.SlotReads.{BeginsSlot}
use Rattle.vm_catalog.proofs.SlotBytes.{head_is, begins_head}

-- entries of one spelling are one
one_entry : (e f : Entry) → EntryFits e → EntryFits f → entry_bytes e ≡ entry_bytes f → e ≡ f
one_entry e f fits other same =
    entry_one (entry_bytes e) e f (record { spelled = refl; fits = fits }) (record { spelled = same; fits = other })

-- as many entries behind one head
one_row : (limit n : ℕ) (es fs : List Entry) (xs ys : List ℕ) → AllByRecursion EntryFits es → AllByRecursion EntryFits fs → length es ≡ length fs → (head_bytes limit n ++ flat_map entry_bytes es) ++ xs ≡ (head_bytes limit n ++ flat_map entry_bytes fs) ++ ys → es ≡ fs
one_row limit n es fs xs ys p q many e =
    let head = head_bytes limit n in
    let size = length-head limit n in
    let from : flat_map entry_bytes es ++ xs ≡ flat_map entry_bytes fs ++ ys =
    sym (drop_at head (flat_map entry_bytes es ++ xs) 128 size) ∙ ap (drop 128) (sym (append_assoc head (flat_map entry_bytes es) xs) ∙ e ∙ append_assoc head (flat_map entry_bytes fs) ys) ∙ drop_at head (flat_map entry_bytes fs ++ ys) 128 size in
    let a : length (flat_map entry_bytes es) ≡ 128 * length es = length-rows entry_bytes EntryFits 128 length-entry es p in
    let b : length (flat_map entry_bytes fs) ≡ 128 * length es = length-rows entry_bytes EntryFits 128 length-entry fs q ∙ ap (λ (k : ℕ). 128 * k) (sym many) in
    rows_one entry_bytes EntryFits 128 length-entry one_entry es fs p q many
    (sym (take_at (flat_map entry_bytes es) xs (128 * length es) a) ∙ ap (take (128 * length es)) from ∙ take_at (flat_map entry_bytes fs) ys (128 * length es) b)

-- blocks that begin with a head and its entries, and are a slot, are the slot of those entries
pub read_one : (x : Contents) (slot_name : SlotName) (limit n : ℕ) (es : List Entry) (limit' : ℕ) (es' : List Entry) → HeadFits limit n → AllByRecursion EntryFits es → length es ≡ n → BeginsSlot (blocks_from x (slot_at slot_name) (used_blocks n)) limit n es → SlotAt x slot_name limit' es' → (limit ≡ limit') × (es ≡ es')
read_one x slot_name limit n es limit' es' fits each many begins slot =
    let at = slot_at slot_name in
    let head = begins_head x at (used_blocks n) limit n es begins (omega (arith, fits.some)) in
    let other = head_is x at (used_blocks (length es')) limit' es' slot (omega (arith, slot.fits.head.some)) in
    let heads = head_one (take 128 (block x at)) limit n limit' (length es') (record { spelled = head; fits = fits }) other in
    let same : blocks_from x at (used_blocks n) ≡ blocks_from x at (used_blocks (length es')) = ap (λ (k : ℕ). blocks_from x at (used_blocks k)) heads.1 in
    let bytes : (head_bytes limit n ++ flat_map entry_bytes es) ++ begins.rest ≡ (head_bytes limit n ++ flat_map entry_bytes es') ++ slot.rest =
    sym begins.spelled ∙ ap joined same ∙ slot.spelled ∙ ap (λ (h : List ℕ). (h ++ flat_map entry_bytes es') ++ slot.rest) (sym other.spelled ∙ head) in
    (heads.0, one_row limit n es es' begins.rest slot.rest each slot.fits.each (many ∙ heads.1) bytes)

-- a slot holds the entries of one store, and one list of them
pub slot_one : (x : Contents) (slot_name : SlotName) (limit limit' : ℕ) (es es' : List Entry) → SlotAt x slot_name limit es → SlotAt x slot_name limit' es' → (limit ≡ limit') × (es ≡ es')
slot_one x slot_name limit limit' es es' a b =
    read_one x slot_name limit (length es) es limit' es' a.fits.head a.fits.each refl (record { whole = a.whole; rest = a.rest; spelled = a.spelled }) b

-- contents name the entries of one store, and one list of them
pub names_one : (x : Contents) (limit limit' : ℕ) (es es' : List Entry) → Names x limit es → Names x limit' es' → (limit ≡ limit') × (es ≡ es')
names_one x limit limit' es es' a b =
    slot_one x (selected x) limit limit' es es' a.slot b.slot
