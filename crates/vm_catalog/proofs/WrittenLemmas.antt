-- The blocks of a slot, piece by piece.
use Rattle.std.proofs.Common.{◌≡◌, ◌≢◌, ℕ, zero, suc, ◌+◌, ◌-◌, ◌*◌, ◌<◌, ◌≤◌, List, [], ◌∷◌, ◌++◌, length, min, take, drop, get_or, refl, sym, ap, ◌∙◌, arith, subst, length-append, length-drop, length-take}
use Rattle.std.proofs.lemmas.Grind.{flat_map-append}
use Rattle.std.proofs.lemmas.List.{append-nil, take_more, take_min, drop-drop, length-map}
use Rattle.vm_disk.specs.Disk.{Contents, block}
use Rattle.vm_block.specs.Padding.{zeros, padded}
use Rattle.vm_block.specs.Slot.{entry_bytes, used_blocks}
use Rattle.vm_block.specs.declared.slot.Entry.{Entry}
use Rattle.vm_block.proofs.Pieces.{then_writes, then_zeros}
use Rattle.vm_catalog.specs.Place.{blocks_from}
use Rattle.vm_catalog.specs.Written.{joined, cells, in_blocks, slot_blocks}
use Rattle.vm_catalog.proofs.PlaceLemmas.{blocks_same, blocks_more}
use borrow.Rule.Slice.PartMut.{put_mid, mid_of}

-- one piece more
pub joined_more : (pieces : List (List ℕ)) (i : ℕ) → i < length pieces → joined (take (i + 1) pieces) ≡ joined (take i pieces) ++ get_or pieces i []
joined_more pieces i inside =
    ap joined (take_more pieces i [] inside)
    ∙ flat_map-append (λ (piece : List ℕ). piece) (take i pieces) (get_or pieces i [] ∷ [])
    ∙ ap (λ (bytes : List ℕ). joined (take i pieces) ++ bytes) (append-nil (get_or pieces i []))

-- how much a writer wrote
pub length_written : (xs old new : List ℕ) (m : ℕ) → new ≡ xs ++ drop m old → length new ≡ length old → m ≤ length old → length xs ≡ m
length_written xs old new m e same room =
    omega (arith, ap length e, length-append xs (drop m old), length-drop m old)

-- the head and the entries
pub length-cells : (limit : ℕ) (es : List Entry) → length (cells limit es) ≡ length es + 1
length-cells limit es = omega (arith, length-map es entry_bytes)

-- a row of pieces, and how much stands before it
pub record IsRow (pieces : List (List ℕ)) (i : ℕ) (out old : List ℕ) : Type 0 where
  pub bytes : out ≡ joined (take i pieces) ++ drop (128 * i) old
  pub many : length (joined (take i pieces)) ≡ 128 * i

-- one piece more is written
pub row_more : (pieces : List (List ℕ)) (i k : ℕ) (piece out old wrote : List ℕ) → IsRow pieces i out old → i < length pieces → piece ≡ get_or pieces i [] → 128 * (i + 1) ≤ length out → k ≡ length out - 128 * i → length wrote ≡ length (mid_of (128 * i) k out) → wrote ≡ piece ++ drop 128 (mid_of (128 * i) k out)
    → IsRow pieces (i + 1) (put_mid (128 * i) k out wrote) old
row_more pieces i k piece out old wrote so_far inside is room rest same e =
    let more : joined (take (i + 1) pieces) ≡ joined (take i pieces) ++ piece = joined_more pieces i inside ∙ ap (λ (bytes : List ℕ). joined (take i pieces) ++ bytes) (sym is) in
    let behind : length (mid_of (128 * i) k out) ≡ k = omega (arith, length-take k (drop (128 * i) out), length-drop (128 * i) out) in
    let size : length piece ≡ 128 = length_written piece (mid_of (128 * i) k out) wrote 128 e same (omega arith) in
    record {
      bytes = then_writes (joined (take i pieces)) piece old out wrote (128 * i) k 128 (128 * (i + 1)) so_far.bytes so_far.many rest e (omega arith) ∙ ap (λ (bytes : List ℕ). bytes ++ drop (128 * (i + 1)) old) (sym more);
      many = ap length more ∙ length-append (joined (take i pieces)) piece ∙ omega (arith, so_far.many);
    }

-- zero bytes behind the last piece
pub row_ends : (pieces : List (List ℕ)) (i count k : ℕ) (out old wrote : List ℕ) → IsRow pieces i out old → i ≡ count → 128 * count ≤ length old → k ≡ length out - 128 * count → wrote ≡ zeros (length (mid_of (128 * count) k out)) → put_mid (128 * count) k out wrote ≡ padded (length old) (joined (take count pieces))
row_ends pieces i count k out old wrote row all room rest e =
    let P : ℕ → Type 0 = λ j. IsRow pieces j out old in
    let whole : IsRow pieces count out old = subst P all row in
    then_zeros (joined (take count pieces)) old out wrote (128 * count) k (length old) whole.bytes whole.many refl room rest e

-- the block at a place
block_at : (count i : ℕ) (pieces : List (List ℕ)) → i < count → get_or (in_blocks count pieces) i [] ≡ padded 4096 (joined (take 32 (drop (32 * i) pieces)))
block_at zero i pieces inside = absurd (omega arith)
block_at (suc k) zero pieces inside = refl
block_at (suc k) (suc i) pieces inside =
    block_at k i (drop 32 pieces) (omega arith)
    ∙ ap (λ (ps : List (List ℕ)). padded 4096 (joined (take 32 ps))) (drop-drop (32 * i) 32 pieces ∙ ap (λ (n : ℕ). drop n pieces) (omega arith))

pub slot_block_at : (limit : ℕ) (es : List Entry) (i count : ℕ) (wrote : List ℕ) → i < used_blocks (length es) → count ≡ min (length es + 1 - 32 * i) 32 → wrote ≡ padded 4096 (joined (take count (drop (32 * i) (cells limit es)))) → wrote ≡ get_or (slot_blocks limit es) i []
unfolding slot_blocks
slot_block_at limit es i count wrote inside many e =
    let here = drop (32 * i) (cells limit es) in
    let size : length here ≡ length es + 1 - 32 * i = length-drop (32 * i) (cells limit es) ∙ ap (λ (n : ℕ). n - 32 * i) (length-cells limit es) in
    let same : count ≡ min 32 (length here) = omega (arith, size) in
    e ∙ ap (λ (n : ℕ). padded 4096 (joined (take n here))) same ∙ ap (λ (ps : List (List ℕ)). padded 4096 (joined ps)) (take_min 32 here) ∙ sym (block_at (used_blocks (length es)) i (cells limit es) inside)

count_blocks : (count : ℕ) (pieces : List (List ℕ)) → length (in_blocks count pieces) ≡ count
count_blocks zero pieces = refl
count_blocks (suc k) pieces = ap suc (count_blocks k (drop 32 pieces))

-- as many blocks as are used
pub length-slot_blocks : (limit : ℕ) (es : List Entry) → length (slot_blocks limit es) ≡ used_blocks (length es)
unfolding slot_blocks
length-slot_blocks limit es = count_blocks (used_blocks (length es)) (cells limit es)

-- one block more is written
pub written_more : (x y : Contents) (at i n : ℕ) (blocks : List (List ℕ)) (bytes : List ℕ) → i < length blocks → n ≡ at + i → blocks_from x at i ≡ take i blocks → ((k : ℕ) → k ≢ n → block y k ≡ block x k) → block y n ≡ bytes → bytes ≡ get_or blocks i [] → blocks_from y at (i + 1) ≡ take (i + 1) blocks
written_more x y at i n blocks bytes inside here so_far others wrote is =
    let before : blocks_from y at i ≡ take i blocks = blocks_same x y at i (λ k low high. others k (λ (e : k ≡ n). omega arith)) ∙ so_far in
    let last : block y (at + i) ≡ get_or blocks i [] = ap (block y) (sym here) ∙ wrote ∙ is in
    blocks_more y at i
    ∙ ap (λ (bs : List (List ℕ)). bs ++ block y (at + i) ∷ []) before
    ∙ ap (λ (b : List ℕ). take i blocks ++ b ∷ []) last
    ∙ sym (take_more blocks i [] inside)
