-- By how many blocks a tree grows with a record.
use Rattle.std.proofs.Common.{◌≡◌, ℕ, zero, suc, ◌+◌, ◌-◌, ◌<◌, ◌≤◌, nat_lt, cond, Bool, true, false, List, [], ◌∷◌, length, get_or, take, drop, Option, None, Some, sym, ap, ap₂, ◌∙◌, subst, refl, arith, ⊎_elim, length-append}
use Rattle.std.specs.Prelude.{IsSomeAnd, nat_eq, slice_index}
use Rattle.std.proofs.lemmas.Bool.{cases_order, eq-eqb, le-ltb, ne_eqb}
use Rattle.std.proofs.Math.Nat.{max-le}
use Rattle.std.proofs.lemmas.List.{get_or-map, length-drop, length-map, length-take}
use Rattle.vm_types.specs.Places.{place, RisesFrom, places, value_at, with_record}
use Rattle.vm_disk.specs.Disk.{Contents, block}
use Rattle.vm_block.specs.Leaf.{HasRecords, Record, size_of, values_of}
use Rattle.vm_block.specs.Node.{IsNode, lows}
use Rattle.vm_block.specs.Split.{InTwo}
use Rattle.vm_block.specs.Way.{IsChosen}
use Rattle.vm_block.specs.declared.node.Child.{Child}
use Rattle.vm_block.specs.declared.sizes.TheConstants.{LEAF_ROOM}
use Rattle.vm_block.proofs.FormLemmas.{leaf_or_node}
use Rattle.vm_block.proofs.NodeLemmas.{node_one}
use Rattle.vm_block.proofs.SpelledLemmas.{records_one}
use Rattle.vm_tree.specs.FullPath.{GrowsBy, NeedsMore, blocks_of}
use Rattle.vm_tree.specs.Insertion.{HasAsLong}
use Rattle.vm_tree.specs.Tree.{Sizes, Subtree}
use Rattle.vm_tree.proofs.Descent.{Opened}
use Rattle.vm_tree.proofs.Placing.{none_below}

-- # Leaves

-- records need a number of leaves more, and no other
pub needs_one : (rs : List Record) (j k : ℕ) → NeedsMore rs j → NeedsMore rs k → j ≡ k
needs_one rs zero zero a b = refl
needs_one rs zero (suc zero) a b = absurd (omega (arith, a, b.0))
needs_one rs zero (suc (suc zero)) a b = absurd (omega (arith, a, b.0))
needs_one rs zero (suc (suc (suc k))) a b = absurd b
needs_one rs (suc zero) zero a b = absurd (omega (arith, b, a.0))
needs_one rs (suc zero) (suc zero) a b = refl
needs_one rs (suc zero) (suc (suc zero)) a b = absurd (omega (arith, a.4, b.1 a.1 a.2 a.3))
needs_one rs (suc zero) (suc (suc (suc k))) a b = absurd b
needs_one rs (suc (suc zero)) zero a b = absurd (omega (arith, b, a.0))
needs_one rs (suc (suc zero)) (suc zero) a b = absurd (omega (arith, b.4, a.1 b.1 b.2 b.3))
needs_one rs (suc (suc zero)) (suc (suc zero)) a b = refl
needs_one rs (suc (suc zero)) (suc (suc (suc k))) a b = absurd b
needs_one rs (suc (suc (suc j))) k a b = absurd a

-- two at most
pub needs_few : (rs : List Record) (k : ℕ) → NeedsMore rs k → k ≤ 2
needs_few rs zero needs = omega arith
needs_few rs (suc zero) needs = omega arith
needs_few rs (suc (suc zero)) needs = omega arith
needs_few rs (suc (suc (suc k))) needs = absurd needs

-- a cut that leaves records on both sides
cut_within : (h : ℕ) (all : List Record) → 0 < length (take h all) → 0 < length (drop h all) → (0 < h) × (h < length all)
cut_within h all before behind = (omega (arith, before, length-take h all), omega (arith, behind, length-drop h all))

-- two leaves are one more
pub needs_two : (r : Record) (rs all : List Record) (left right : List ℕ) → LEAF_ROOM < size_of all → InTwo r rs all left right → NeedsMore all 1
needs_two r rs all left right over two =
    let within = cut_within two.cut all two.before.some two.behind.some in
    (over, two.cut, within.0, within.1, max-le two.before.room two.behind.room)

-- # A record in the place of one of its key

with_tests : (r x : Record) (m : List Record) (s t : Bool) → nat_lt (place r.0) (place x.0) ≡ s → nat_eq (place r.0) (place x.0) ≡ t → with_record r (x ∷ m) ≡ cond s (r ∷ x ∷ m) (cond t (r ∷ m) (x ∷ with_record r m))
with_tests r x m s t p q = ap₂ (λ a b. cond a (r ∷ x ∷ m) (cond b (r ∷ m) (x ∷ with_record r m))) p q

with_here : (r x : Record) (m : List Record) → place r.0 ≡ place x.0 → with_record r (x ∷ m) ≡ r ∷ m
with_here r x m e =
    with_tests r x m false true (le-ltb (place r.0) (place x.0) (omega (arith, e))) (eq-eqb (place r.0) (place x.0) e)

with_beyond : (r x : Record) (m : List Record) → place x.0 < place r.0 → with_record r (x ∷ m) ≡ x ∷ with_record r m
with_beyond r x m g =
    with_tests r x m false false (le-ltb (place r.0) (place x.0) (omega (arith, g))) (ne_eqb (place r.0) (place x.0) (λ e. omega (arith, g, e)))

-- what was there takes no less than this record does
pub as_long : (r : Record) (value : List ℕ) (low : ℕ) (rs : List Record) → RisesFrom low (places rs) → value_at (place r.0) rs ≡ Some value → length r.1 ≤ length value → size_of (with_record r rs) ≤ size_of rs
as_long r value low [] rises is le = cc is
as_long r value low (x ∷ m) rises is le =
    ⊎_elim
    (λ (e : place r.0 ≡ place x.0).
    let found : Some x.1 ≡ Some value = sym (ap (λ b. cond b (Some x.1) (value_at (place r.0) m)) (eq-eqb (place x.0) (place r.0) (sym e))) ∙ is in
    let same : x.1 ≡ value = cc found in
    omega (arith, ap size_of (with_here r x m e), ap length same, le, length-append r.1 (values_of m), length-append x.1 (values_of m)))
    (⊎_elim
    (λ (l : place r.0 < place x.0). let none = none_below (place r.0) (place x.0) (x ∷ m) l (omega arith, rises.1) in cc (sym none ∙ is))
    (λ (g : place x.0 < place r.0).
    let rest = sym (ap (λ b. cond b (Some x.1) (value_at (place r.0) m)) (ne_eqb (place x.0) (place r.0) (λ e. omega (arith, g, e)))) ∙ is in
    let below = as_long r value (place x.0 + 1) m rises.1 rest le in
    omega (arith, ap size_of (with_beyond r x m g), below, length-append x.1 (values_of (with_record r m)), length-append x.1 (values_of m))))
    (cases_order (place r.0) (place x.0))

-- where a record of its key is there, whose value is not shorter, it has room
pub long_room : (r : Record) (rs : List Record) → HasAsLong r rs → RisesFrom 0 (places rs) → size_of (with_record r rs) ≤ size_of rs
long_room r rs there rises = by_value (value_at (place r.0) rs) refl there
  where
    by_value : (found : Option (List ℕ)) → value_at (place r.0) rs ≡ found → IsSomeAnd found (λ v. length r.1 ≤ length v) → size_of (with_record r rs) ≤ size_of rs
    by_value None is h = absurd h
    by_value (Some v) is h = as_long r v 0 rs rises is h

-- # Descents

-- numbers that rise stand in their order
pub rises_at : (low : ℕ) (ps : List ℕ) (j k : ℕ) → j ≤ k → k < length ps → RisesFrom low ps → slice_index ps j ≤ slice_index ps k
rises_at low [] j k le lt rises = absurd (omega arith)
rises_at low (p ∷ ps) zero zero le lt rises = omega arith
rises_at low (p ∷ ps) zero (suc k) le lt rises = omega (arith, least (p + 1) ps k (omega arith) rises.1)
  where
    least : (from : ℕ) (qs : List ℕ) (n : ℕ) → n < length qs → RisesFrom from qs → from ≤ slice_index qs n
    least from [] n lt rises = absurd (omega arith)
    least from (q ∷ qs) zero lt rises = rises.0
    least from (q ∷ qs) (suc n) lt rises = let rest = least (q + 1) qs n (omega arith) rises.1 in omega (arith, rises.0, rest)
rises_at low (p ∷ ps) (suc j) zero le lt rises = absurd (omega arith)
rises_at low (p ∷ ps) (suc j) (suc k) le lt rises = rises_at (p + 1) ps j k (omega arith) (omega arith) rises.1

earlier : (ps : List ℕ) (p i j : ℕ) → RisesFrom 0 ps → IsChosen ps p i → IsChosen ps p j → i < j → ⊥
earlier ps p i j rises a b lt =
    let next = a.last (omega (arith, b.within)) in
    let order = rises_at 0 ps (i + 1) j (omega arith) b.within rises in
    omega (arith, next, order, b.reached (omega arith))

-- a descent chooses one child
pub chosen_one : (ps : List ℕ) (p i j : ℕ) → RisesFrom 0 ps → IsChosen ps p i → IsChosen ps p j → i ≡ j
chosen_one ps p i j rises a b =
    ⊎_elim
    (λ (e : i ≡ j). e)
    (⊎_elim (λ (l : i < j). absurd (earlier ps p i j rises a b l)) (λ (g : j < i). absurd (earlier ps p j i rises b a g)))
    (cases_order i j)

-- # Trees

-- a leaf grows by what its records need
pub leaf_grows : (sizes : Sizes) (x : Contents) (r : Record) (b k : ℕ) (rs : List Record) → HasRecords (block x b) rs → NeedsMore (with_record r rs) k → GrowsBy sizes x r 0 b k
unfolding GrowsBy
leaf_grows sizes x r b k rs leaf needs = (rs, leaf, needs)

-- what follows from how many more there are
more_one : (fan n m : ℕ) → n ≡ m → ◌≡◌ {A = ℕ} (cond (nat_lt fan n) 1 0) (cond (nat_lt fan m) 1 0)
more_one fan n m e = ap (λ k. cond (nat_lt fan k) 1 0) e

module _ (sizes : Sizes) (x : Contents) (r : Record) where
  -- a block grows by one number of blocks
  pub grows_one : (l b j k : ℕ) → GrowsBy sizes x r l b j → GrowsBy sizes x r l b k → j ≡ k
  unfolding GrowsBy
  grows_one zero b j k g h =
      let same = records_one (block x b) g.0 h.0 g.1 h.1 in
      needs_one (with_record r h.0) j k (subst (λ (rs : List Record). NeedsMore (with_record r rs) j) same g.2) h.2
  grows_one (suc l) b j k g h =
      let same = (node_one (block x b) (suc l) (suc l) g.0 h.0 g.3 h.3).1 in
      let chosen = subst (λ (cs : List Child). IsChosen (lows cs) (place r.0) g.1) same g.4 in
      let index = chosen_one (lows h.0) (place r.0) g.1 h.1 h.3.rising chosen h.4 in
      let child = ap (λ (cs : List Child). slice_index (blocks_of cs) g.1) same ∙ ap (slice_index (blocks_of h.0)) index in
      let below = grows_one l (slice_index (blocks_of h.0) h.1) g.2 h.2 (subst (λ n. GrowsBy sizes x r l n g.2) child g.5) h.5 in
      g.6 ∙ more_one sizes.fan (length g.0 + g.2) (length h.0 + h.2) (omega (arith, ap length same, below)) ∙ sym h.6

  -- by two at most
  pub grows_few : (l b k : ℕ) → GrowsBy sizes x r l b k → k ≤ 2
  unfolding GrowsBy
  grows_few zero b k g = needs_few (with_record r g.0) k g.2
  grows_few (suc l) b k g = elim (nat_lt sizes.fan (length g.0 + g.2)) as (λ t. k ≡ cond t 1 0 → k ≤ 2) [ true ↦ λ e. omega (arith, e) | false ↦ λ e. omega (arith, e) ] g.6

  -- a descent from a block of a tree has the tree's level
  pub grows_level : (limit l m b k : ℕ) (rs : List Record) (bs : List ℕ) → GrowsBy sizes x r l b k → Subtree sizes x limit m b rs bs → l ≡ m
  unfolding GrowsBy Subtree
  grows_level limit zero zero b k rs bs g tree = refl
  grows_level limit zero (suc m) b k rs bs g tree = absurd (leaf_or_node (block x b) g.0 (suc m) tree.1 g.1 tree.3)
  grows_level limit (suc l) zero b k rs bs g tree = absurd (leaf_or_node (block x b) rs (suc l) g.0 tree.1 g.3)
  grows_level limit (suc l) (suc m) b k rs bs g tree = (node_one (block x b) (suc l) (suc m) g.0 tree.1 g.3 tree.3).0

-- an inner block grows where it has more children than it may have with those that the chosen one grows by
pub node_grows : (sizes : Sizes) (x : Contents) (limit level b : ℕ) (r : Record) (rs : List Record) (bs : List ℕ) (cs : List Child) (i : ℕ) (d : Child) → 0 < level → Opened sizes x limit level b (place r.0) rs bs cs i d → IsChosen (lows cs) (place r.0) i
    → (j k : ℕ) → GrowsBy sizes x r (level - 1) (get_or cs i d).block j → k ≡ cond (nat_lt sizes.fan (length cs + j)) 1 0 → GrowsBy sizes x r level b k
unfolding GrowsBy
node_grows sizes x limit level b r rs bs cs i d above at chosen j k below is =
    let up : suc (level - 1) ≡ level = omega arith in
    let child : slice_index (blocks_of cs) i ≡ (get_or cs i d).block = get_or-map (λ (c : Child). c.block) cs i d 0 (omega (arith, chosen.within, length-map cs (λ (c : Child). place c.low))) in
    let node = subst (λ l. IsNode (block x b) l cs) (sym up) at.node in
    let whole : GrowsBy sizes x r (suc (level - 1)) b k = (cs, i, j, node, chosen, subst (λ n. GrowsBy sizes x r (level - 1) n j) (sym child) below, is) in
    subst (λ l. GrowsBy sizes x r l b k) up whole
