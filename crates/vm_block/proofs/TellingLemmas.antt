-- Rows of pieces that were told by their bytes, one after another, and whose keys rise.
use Rattle.std.proofs.Common.{◌≡◌, ℕ, ◌+◌, ◌-◌, ◌*◌, ◌<◌, ◌≤◌, List, [], ◌∷◌, ◌++◌, length, take, drop, get_or, map, refl, sym, ap, ◌∙◌, subst, arith, length-drop}
use Rattle.std.specs.List.{AllByRecursion, flat_map}
use Rattle.std.proofs.lemmas.List.{length_push, map-append, drop_more, append-nil, take_all}
use Rattle.vm_types.specs.Places.{RisesFrom}
use Rattle.vm_block.specs.declared.node.Child.{Child}
use Rattle.vm_block.specs.Head.{IsNodeHead}
use Rattle.vm_block.specs.Padding.{zeros}
use Rattle.vm_block.specs.Node.{ChildFits, IsNode, lows, node_head, child_bytes}
use Rattle.vm_block.proofs.NodeLemmas.{length-node, length-node_head, node_found, node_framed, node_parts}
use Rattle.vm_block.proofs.Pieces.{zero_behind}
use Rattle.vm_block.proofs.Rows.{all_push, rows_read, piece_at}

-- # Numbers that rise

-- one above the last of them goes behind it
rises_two : (low : ℕ) (ps : List ℕ) (p q : ℕ) → RisesFrom low (ps ++ p ∷ []) → p < q → RisesFrom low ((ps ++ p ∷ []) ++ q ∷ [])
rises_two low [] p q rises lt = (rises.0, (omega arith, tt))
rises_two low (x ∷ ps) p q rises lt = (rises.0, rises_two (x + 1) ps p q rises.1 lt)

rises_begin : (low : ℕ) (ps qs : List ℕ) → RisesFrom low (ps ++ qs) → RisesFrom low ps
rises_begin low [] qs rises = tt
rises_begin low (p ∷ ps) qs rises = (rises.0, rises_begin (p + 1) ps qs rises.1)

-- # Rows

module _ {X : Type 0} (spelled : X → List ℕ) (P : X → Type 0) (at : X → ℕ) (size : ℕ) (bytes : List ℕ) where
  -- the first i rows are such pieces, and their keys rise to below low
  pub record Told (i low : ℕ) : Type 0 where
    pub rows : List X
    pub fit : AllByRecursion P rows
    pub many : length rows ≡ i
    pub spells : take (size * i) bytes ≡ flat_map spelled rows
    pub next : (p : ℕ) → low ≤ p → RisesFrom 0 (map at rows ++ p ∷ [])

  pub told_none : Told 0 0
  told_none = let none : size * 0 ≡ 0 = omega arith in record { rows = []; fit = tt; many = refl; spells = ap (λ n. take n bytes) none; next = λ p le. (le, tt) }

  pub told_more : (i low new k : ℕ) (x : X) → Told i low → P x → k ≡ size * i + size - size * i → take k (drop (size * i) bytes) ≡ spelled x → low ≤ at x → new ≡ at x + 1 → Told (i + 1) new
  told_more i low new k x told fits far here above is = record {
    rows = told.rows ++ x ∷ [];
    fit = all_push P told.rows x told.fit fits;
    many = length_push told.rows x ∙ ap (λ n. n + 1) told.many;
    spells = rows_read spelled size told.rows i x bytes k told.spells far here;
    next = λ p le. subst (λ (ps : List ℕ). RisesFrom 0 (ps ++ p ∷ [])) (sym (map-append at told.rows (x ∷ []))) (rises_two 0 (map at told.rows) (at x) p (told.next (at x) above) (omega (arith, le, is)));
  }

  pub told_rises : (i low : ℕ) (told : Told i low) → RisesFrom 0 (map at told.rows)
  told_rises i low told = rises_begin 0 (map at told.rows) (low ∷ []) (told.next low (omega arith))

  -- of so many rows that rise, those from i on rise from low
  abbrev pub Follows : ℕ → ℕ → ℕ → Type 0
  Follows count i low = (xs : List X) (rest : List ℕ) → AllByRecursion P xs → length xs ≡ count → bytes ≡ flat_map spelled xs ++ rest → RisesFrom 0 (map at xs) → RisesFrom low (map at (drop i xs))

  module _ (length-spelled : (x : X) → P x → length (spelled x) ≡ size) where
    -- the row at i
    pub record There (i low : ℕ) : Type 0 where
      pub here : X
      pub fits : P here
      pub spells : take size (drop (size * i) bytes) ≡ spelled here
      pub above : low ≤ at here

    follows_split : (count i low : ℕ) (d : X) (xs : List X) (rest : List ℕ) → i < count → Follows count i low → AllByRecursion P xs → length xs ≡ count → bytes ≡ flat_map spelled xs ++ rest → RisesFrom 0 (map at xs)
        → RisesFrom low (at (get_or xs i d) ∷ map at (drop (i + 1) xs))
    follows_split count i low d xs rest lt follows all many e rises =
        subst (λ (ys : List X). RisesFrom low (map at ys)) (drop_more xs i d (omega arith)) (follows xs rest all many e rises)

    pub follows_there : (count i low : ℕ) (d : X) (xs : List X) (rest : List ℕ) → i < count → Follows count i low → AllByRecursion P xs → length xs ≡ count → bytes ≡ flat_map spelled xs ++ rest → RisesFrom 0 (map at xs) → There i low
    follows_there count i low d xs rest lt follows all many e rises =
        let piece = piece_at spelled P size length-spelled xs i d bytes rest all (omega arith) e in
        record { here = get_or xs i d; fits = piece.1; spells = piece.0; above = (follows_split count i low d xs rest lt follows all many e rises).0 }

    pub follows_more : (count i low new : ℕ) (d : X) → i < count → Follows count i low → ((x : X) → P x → take size (drop (size * i) bytes) ≡ spelled x → at x + 1 ≡ new) → Follows count (i + 1) new
    follows_more count i low new d lt follows is xs rest all many e rises =
        let piece = piece_at spelled P size length-spelled xs i d bytes rest all (omega arith) e in
        subst (λ n. RisesFrom n (map at (drop (i + 1) xs))) (is (get_or xs i d) piece.1 piece.0) (follows_split count i low d xs rest lt follows all many e rises).1

-- # Rows of leaves and inner blocks

-- the rows between a head and zero bytes are an inner block
pub node_told : (bytes : List ℕ) (level : ℕ) (cs : List Child) (n k : ℕ) → length bytes ≡ 4096 → IsNodeHead bytes level n → length cs ≡ n → drop (16 + 14 * n) bytes ≡ zeros (length bytes - (16 + 14 * n)) → 4080 ≤ k
    → take (14 * n) (take k (drop 16 bytes)) ≡ flat_map child_bytes cs → AllByRecursion ChildFits cs → RisesFrom 0 (lows cs) → IsNode bytes level cs
node_told bytes level cs n k whole head many back enough rows fit rising =
    node_found bytes cs level n k whole head.above head.low head.some head.few many (node_head level n) (sym (append-nil (node_head level n))) (ap (λ m. take m bytes) (length-node_head level n) ∙ head.begins) back enough rows fit rising

-- the rows of an inner block stand behind its head
pub node_rows : (bytes : List ℕ) (level : ℕ) (cs : List Child) (k : ℕ) → IsNode bytes level cs → 4080 ≤ k → take k (drop 16 bytes) ≡ flat_map child_bytes cs ++ zeros (4096 - (16 + 14 * length cs))
node_rows bytes level cs k node enough =
    take_all k (drop 16 bytes) (omega (arith, length-drop 16 bytes, length-node bytes level cs node)) ∙ (node_parts bytes level cs node).behind

-- # Zero bytes behind the rows

pub zero_from : (bytes : List ℕ) (end k : ℕ) → length bytes ≡ 4096 → k ≡ 4096 - end → drop end bytes ≡ zeros (length bytes - end) → take k (drop end bytes) ≡ zeros (length (take k (drop end bytes)))
zero_from bytes end k whole far is = (zero_behind bytes end k (omega arith)).1 is

pub zero_to : (bytes : List ℕ) (end k : ℕ) → length bytes ≡ 4096 → k ≡ 4096 - end → take k (drop end bytes) ≡ zeros (length (take k (drop end bytes))) → drop end bytes ≡ zeros (length bytes - end)
zero_to bytes end k whole far is = (zero_behind bytes end k (omega arith)).0 is

-- an inner block has these zero bytes
pub node_zeros : (bytes : List ℕ) (level : ℕ) (cs : List Child) (l n : ℕ) → IsNode bytes level cs → (l ≡ level) × (n ≡ length cs) → drop (16 + 14 * n) bytes ≡ zeros (length bytes - (16 + 14 * n))
node_zeros bytes level cs l n node same = (node_framed bytes level cs l n (node_head l n) node same (sym (append-nil (node_head l n)))).1
