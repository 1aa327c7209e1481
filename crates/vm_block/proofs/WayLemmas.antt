-- The way down to a key: the rows of a block, found by the keys with which they begin.
use Rattle.std.proofs.Common.{◌≡◌, ℕ, zero, suc, ◌+◌, ◌-◌, ◌*◌, ◌<◌, ◌≤◌, ◌==◌, cond, List, [], ◌∷◌, ◌++◌, length, take, drop, get_or, None, Some, refl, sym, ap, ap₂, ◌∙◌, subst, arith, ⊎_elim, length-append, length-drop, length-take-le, take-append-drop, append_assoc}
use Rattle.std.specs.Prelude.{slice_index}
use Rattle.std.specs.List.{AllByRecursion, flat_map}
use Rattle.std.proofs.lemmas.Bool.{cases_order, eq-eqb, ne_eqb, lt-ltb, le-ltb}
use Rattle.std.proofs.lemmas.List.{drop-drop, take-take, length-map, get_or-map}
use Rattle.vm_types.specs.declared.key.Key.{Key}
use Rattle.vm_types.specs.Places.{KeyFits, RisesFrom, place, places, value_at, with_record}
use Rattle.vm_block.specs.declared.node.Child.{Child}
use Rattle.vm_block.specs.Padding.{zeros, padded}
use Rattle.vm_block.specs.Changed.{without_place}
use Rattle.vm_block.specs.Leaf.{Record, key_bytes}
use Rattle.vm_block.specs.Node.{ChildFits, IsNode, lows, child_bytes, node_head, node_bytes}
use Rattle.vm_block.specs.Way.{IsChosen, KeysStand, Lowest}
use Rattle.vm_block.proofs.EachLemmas.{each_front, each_back, each_join}
use Rattle.vm_block.proofs.NodeLemmas.{length-child, length-children, length-node, length-node_head, child_one, node_parts, node_whole}
use Rattle.vm_block.proofs.RecordLemmas.{key_one}
use Rattle.vm_block.proofs.Rows.{piece_at, row_set}
use borrow.Rule.Slice.PartMut.{put_mid, mid_of}

-- keys of one spelling are one
pub same_key : (a b : Key) → KeyFits a → KeyFits b → key_bytes a ≡ key_bytes b → a ≡ b
same_key a b ha hb e = key_one a b [] [] ha hb (ap (λ x. x ++ []) e)

-- # Children

child_key : (c : Child) → take 10 (child_bytes c) ≡ key_bytes c.low
unfolding child_bytes
child_key c = refl

-- the bytes of the child at i
pub node_piece : (bytes : List ℕ) (level : ℕ) (cs : List Child) (i : ℕ) (d : Child) → IsNode bytes level cs → i < length cs → (take 14 (drop (16 + 14 * i) bytes) ≡ child_bytes (get_or cs i d)) × ChildFits (get_or cs i d)
node_piece bytes level cs i d node lt =
    let piece = piece_at child_bytes ChildFits 14 length-child cs i d (drop 16 bytes) (zeros (4096 - (16 + 14 * length cs))) node.fit lt (node_parts bytes level cs node).behind in
    (ap (take 14) (sym (drop-drop (14 * i) 16 bytes)) ∙ piece.0, piece.1)

-- a child that was read where the one at i stands is that one
pub child_read : (bytes : List ℕ) (level : ℕ) (cs : List Child) (i : ℕ) (c : Child) (k : ℕ) → IsNode bytes level cs → i < length cs → ChildFits c → k ≡ 14 → take k (drop (16 + 14 * i) bytes) ≡ child_bytes c → get_or cs i c ≡ c
child_read bytes level cs i c k node lt fits many is =
    let piece = node_piece bytes level cs i c node lt in
    child_one (get_or cs i c) c piece.1 fits (sym piece.0 ∙ ap (λ n. take n (drop (16 + 14 * i) bytes)) (sym many) ∙ is)

pub node_keys : (bytes : List ℕ) (level : ℕ) (cs : List Child) → IsNode bytes level cs → KeysStand bytes 14 (lows cs)
node_keys bytes level cs node i key lt fits is =
    let d : Child = record { low = record { table = 0; number = 0 }; block = 0 } in
    let within : i < length cs = omega (arith, lt, length-map cs (λ (c : Child). place c.low)) in
    let piece = node_piece bytes level cs i d node within in
    let c = get_or cs i d in
    let same : key ≡ c.low = same_key key c.low fits piece.1.0 (sym is ∙ sym (take-take 10 14 (drop (16 + 14 * i) bytes) (omega arith)) ∙ ap (take 10) piece.0 ∙ child_key c) in
    get_or-map (λ (e : Child). place e.low) cs i d 0 within ∙ ap place (sym same)

-- the lowest key of an inner block stands behind its head
pub lowest_read : (bytes : List ℕ) (level : ℕ) (cs : List Child) (key : Key) (k : ℕ) → IsNode bytes level cs → KeyFits key → 10 ≤ k → take 10 (take k (drop 16 bytes)) ≡ key_bytes key → Lowest key cs
lowest_read bytes level [] key k node fits enough is = absurd (omega (arith, node.some))
lowest_read bytes level (c ∷ cs) key k node fits enough is =
    let piece = node_piece bytes level (c ∷ cs) 0 c node (omega arith) in
    same_key c.low key piece.1.0 fits (sym (child_key c) ∙ ap (take 10) (sym piece.0) ∙ take-take 10 14 (drop 16 bytes) (omega arith) ∙ sym (take-take 10 k (drop 16 bytes) enough) ∙ is)

-- one child put in the place of the one at i
pub child_set : (old new : List ℕ) (level : ℕ) (cs : List Child) (i : ℕ) (c : Child) (k : ℕ) → IsNode old level cs → i < length cs → ChildFits c → k ≡ 4096 - (16 + 14 * i) → new ≡ child_bytes c ++ drop 14 (mid_of (16 + 14 * i) k old)
    → put_mid (16 + 14 * i) k old new ≡ node_bytes level (take i cs ++ c ∷ drop (i + 1) cs)
unfolding node_bytes
child_set old new level cs i c k node lt fits far wrote =
    let now = take i cs ++ c ∷ drop (i + 1) cs in
    let head = node_head level (length cs) in
    let cut = λ (n : ℕ). subst (AllByRecursion ChildFits) (sym (take-append-drop n cs)) node.fit in
    let fit : AllByRecursion ChildFits now = each_join ChildFits (take i cs) (c ∷ drop (i + 1) cs) (each_front ChildFits (take i cs) (drop i cs) (cut i)) (fits, each_back ChildFits (take (i + 1) cs) (drop (i + 1) cs) (cut (i + 1))) in
    let many : length now ≡ length cs = omega (arith, length-append (take i cs) (c ∷ drop (i + 1) cs), length-take-le i cs (omega arith), length-drop (i + 1) cs) in
    let body = flat_map child_bytes now in
    let long : length (head ++ flat_map child_bytes cs) ≡ length (head ++ body) =
    omega (arith, length-append head (flat_map child_bytes cs), length-append head body, length-children cs node.fit, length-children now fit, many) in
    row_set child_bytes ChildFits 14 length-child cs i 16 c old head (zeros (4096 - length (head ++ flat_map child_bytes cs))) new k node.fit lt (length-node_head level (length cs)) (node_whole old level cs node) (omega (arith, length-node old level cs node)) wrote
    ∙ sym (append_assoc head body (zeros (4096 - length (head ++ flat_map child_bytes cs))))
    ∙ ap (λ n. (head ++ body) ++ zeros (4096 - n)) long
    ∙ ap (λ n. padded 4096 (node_head level n ++ body)) (sym many)

-- # Rows of leaves

-- # What a descent finds in a leaf

-- numbers that rise from one on are not below it
least : (from : ℕ) (ps : List ℕ) (k : ℕ) → k < length ps → RisesFrom from ps → from ≤ slice_index ps k
least from [] k lt rises = absurd (omega arith)
least from (p ∷ ps) zero lt rises = rises.0
least from (p ∷ ps) (suc k) lt rises = let rest = least (p + 1) ps k (omega arith) rises.1 in omega (arith, rises.0, rest)

-- numbers that rise stand in their order
pub rises_order : (low : ℕ) (ps : List ℕ) (j k : ℕ) → j < k → k < length ps → RisesFrom low ps → slice_index ps j < slice_index ps k
rises_order low [] j k less lt rises = absurd (omega arith)
rises_order low (p ∷ ps) j zero less lt rises = absurd (omega arith)
rises_order low (p ∷ ps) zero (suc k) less lt rises = omega (arith, least (p + 1) ps k (omega arith) rises.1)
rises_order low (p ∷ ps) (suc j) (suc k) less lt rises = rises_order (p + 1) ps j k (omega arith) (omega arith) rises.1

value_here : (low : ℕ) (rs : List Record) (p i : ℕ) (d : Record) → RisesFrom low (places rs) → i < length rs → slice_index (places rs) i ≡ p → value_at p rs ≡ Some (get_or rs i d).1
value_here low [] p i d rises lt e = absurd (omega arith)
value_here low (r ∷ rs) p zero d rises lt e = ap (λ t. cond t (Some r.1) (value_at p rs)) (eq-eqb (place r.0) p e)
value_here low (r ∷ rs) p (suc i) d rises lt e =
    let above = least (place r.0 + 1) (places rs) i (omega (arith, lt, length-map rs (λ (q : Record). place q.0))) rises.1 in
    ap (λ t. cond t (Some r.1) (value_at p rs)) (ne_eqb (place r.0) p (λ same. omega (arith, above, same, e)))
    ∙ value_here (place r.0 + 1) rs p i d rises.1 (omega arith) e

value_none : (rs : List Record) (p : ℕ) → ((k : ℕ) → k < length rs → slice_index (places rs) k ≡ p → ⊥) → value_at p rs ≡ None
value_none [] p none = refl
value_none (r ∷ rs) p none =
    ap (λ t. cond t (Some r.1) (value_at p rs)) (ne_eqb (place r.0) p (λ e. none zero (omega arith) e))
    ∙ value_none rs p (λ k lt e. none (suc k) (omega arith) e)

module _ (rs : List Record) (p i : ℕ) (rises : RisesFrom 0 (places rs)) (chosen : IsChosen (places rs) p i) where
  many : length (places rs) ≡ length rs
  many = length-map rs (λ (r : Record). place r.0)

  -- the record that is chosen has the key
  pub chosen_value : (d : Record) → slice_index (places rs) i ≡ p → value_at p rs ≡ Some (get_or rs i d).1
  chosen_value d e = value_here 0 rs p i d rises (omega (arith, chosen.within, many)) e

  -- or else no record has it
  pub chosen_none : (slice_index (places rs) i ≡ p → ⊥) → value_at p rs ≡ None
  chosen_none apart =
      value_none rs p (λ k lt e.
      ⊎_elim
      (λ (same : k ≡ i). apart (ap (slice_index (places rs)) (sym same) ∙ e))
      (⊎_elim
      (λ (before : k < i). omega (arith, rises_order 0 (places rs) k i before chosen.within rises, chosen.reached (omega arith), e))
      (λ (behind : i < k).
      let next = chosen.last (omega (arith, lt, many)) in
      ⊎_elim
      (λ (same : k ≡ i + 1). omega (arith, next, ap (slice_index (places rs)) same, e))
      (⊎_elim
      (λ (no : k < i + 1). absurd (omega arith))
      (λ (far : i + 1 < k). omega (arith, next, rises_order 0 (places rs) (i + 1) k far (omega (arith, lt, many)) rises, e)))
      (cases_order k (i + 1))))
      (cases_order k i))

with_here : (low : ℕ) (rs : List Record) (r : Record) (i : ℕ) → RisesFrom low (places rs) → i < length rs → slice_index (places rs) i ≡ place r.0 → with_record r rs ≡ take i rs ++ r ∷ drop (suc i) rs
with_here low [] r i rises lt e = absurd (omega arith)
with_here low (x ∷ rs) r zero rises lt e =
    ap₂ (λ s t. cond s (r ∷ x ∷ rs) (cond t (r ∷ rs) (x ∷ with_record r rs))) (le-ltb (place r.0) (place x.0) (omega (arith, e))) (eq-eqb (place r.0) (place x.0) (sym e))
with_here low (x ∷ rs) r (suc i) rises lt e =
    let above = least (place x.0 + 1) (places rs) i (omega (arith, lt, length-map rs (λ (q : Record). place q.0))) rises.1 in
    ap₂ (λ s t. cond s (r ∷ x ∷ rs) (cond t (r ∷ rs) (x ∷ with_record r rs))) (le-ltb (place r.0) (place x.0) (omega (arith, above, e))) (ne_eqb (place r.0) (place x.0) (λ same. omega (arith, above, same, e)))
    ∙ ap (λ (qs : List Record). x ∷ qs) (with_here (place x.0 + 1) rs r i rises.1 (omega arith) e)

with_into : (rs : List Record) (r : Record) (j : ℕ) → j ≤ length rs → ((k : ℕ) → k < j → slice_index (places rs) k < place r.0) → (j < length rs → place r.0 < slice_index (places rs) j) → with_record r rs ≡ take j rs ++ r ∷ drop j rs
with_into [] r zero le below above = refl
with_into [] r (suc j) le below above = absurd (omega arith)
with_into (x ∷ rs) r zero le below above =
    ap (λ s. cond s (r ∷ x ∷ rs) (cond (place r.0 == place x.0) (r ∷ rs) (x ∷ with_record r rs))) (lt-ltb (place r.0) (place x.0) (above (omega arith)))
with_into (x ∷ rs) r (suc j) le below above =
    let first = below zero (omega arith) in
    ap₂ (λ s t. cond s (r ∷ x ∷ rs) (cond t (r ∷ rs) (x ∷ with_record r rs))) (le-ltb (place r.0) (place x.0) (omega (arith, first))) (ne_eqb (place r.0) (place x.0) (λ same. omega (arith, first, same)))
    ∙ ap (λ (qs : List Record). x ∷ qs) (with_into rs r j (omega arith) (λ k lt. below (suc k) (omega arith)) (λ lt. above (omega arith)))

module _ (rs : List Record) (r : Record) (i : ℕ) (rises : RisesFrom 0 (places rs)) (chosen : IsChosen (places rs) (place r.0) i) where
  count_places : length (places rs) ≡ length rs
  count_places = length-map rs (λ (q : Record). place q.0)

  -- the record that is chosen is replaced by one of its key
  pub chosen_with : slice_index (places rs) i ≡ place r.0 → with_record r rs ≡ take i rs ++ r ∷ drop (i + 1) rs
  chosen_with e =
      let one : suc i ≡ i + 1 = omega arith in
      with_here 0 rs r i rises (omega (arith, chosen.within, count_places)) e ∙ ap (λ n. take i rs ++ r ∷ drop n rs) one

  -- one of a higher key goes behind it
  pub chosen_behind : slice_index (places rs) i < place r.0 → with_record r rs ≡ take (i + 1) rs ++ r ∷ drop (i + 1) rs
  chosen_behind low =
      with_into rs r (i + 1) (omega (arith, chosen.within, count_places))
      (λ k lt.
      ⊎_elim
      (λ (same : k ≡ i). omega (arith, low, ap (slice_index (places rs)) same))
      (⊎_elim
      (λ (before : k < i). omega (arith, low, rises_order 0 (places rs) k i before chosen.within rises))
      (λ (behind : i < k). absurd (omega arith)))
      (cases_order k i))
      (λ lt. chosen.last (omega (arith, lt, count_places)))

  -- and one of a lower key goes before it, which is the first
  pub chosen_before : place r.0 < slice_index (places rs) i → with_record r rs ≡ take i rs ++ r ∷ drop i rs
  chosen_before high =
      with_into rs r i (omega (arith, chosen.within, count_places)) (λ k lt. absurd (omega (arith, high, chosen.reached (omega arith)))) (λ lt. high)

without_here : (low : ℕ) (ws : List Record) (p i : ℕ) → RisesFrom low (places ws) → i < length ws → slice_index (places ws) i ≡ p → without_place p ws ≡ take i ws ++ drop (suc i) ws
without_here low [] p i rises lt e = absurd (omega arith)
without_here low (w ∷ ws) p zero rises lt e = ap (λ t. cond t ws (w ∷ without_place p ws)) (eq-eqb (place w.0) p e)
without_here low (w ∷ ws) p (suc i) rises lt e =
    let above = least (place w.0 + 1) (places ws) i (omega (arith, lt, length-map ws (λ (q : Record). place q.0))) rises.1 in
    ap (λ t. cond t ws (w ∷ without_place p ws)) (ne_eqb (place w.0) p (λ same. omega (arith, above, same, e)))
    ∙ ap (λ (qs : List Record). w ∷ qs) (without_here (place w.0 + 1) ws p i rises.1 (omega arith) e)

-- the row that is chosen is the one that is left out
pub chosen_without : (ws : List Record) (p i : ℕ) → RisesFrom 0 (places ws) → IsChosen (places ws) p i → slice_index (places ws) i ≡ p → without_place p ws ≡ take i ws ++ drop (i + 1) ws
chosen_without ws p i rises chosen e =
    let one : suc i ≡ i + 1 = omega arith in
    without_here 0 ws p i rises (omega (arith, chosen.within, length-map ws (λ (w : Record). place w.0))) e ∙ ap (λ n. take i ws ++ drop n ws) one
