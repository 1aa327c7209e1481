-- What opening a subtree costs: one read, of a block that is ahead of one walk alone, where the walk that stands lower goes first,
-- and of two at the same key the one before the higher subtree.
use Rattle.std.proofs.Common.{◌≡◌, ◌≢◌, ◌⊎◌, inl, inr, ℕ, ◌+◌, ◌<◌, ◌≤◌, Bool, true, false, List, [], ◌∷◌, ◌++◌, length, drop, refl, sym, ap, ◌∙◌, subst, arith, append_assoc}
use Rattle.std.specs.List.{AllByRecursion, list_any}
use Rattle.vm_types.specs.declared.change.Change.{Change}
use Rattle.vm_types.specs.Places.{place, RisesFrom, places}
use Rattle.vm_disk.specs.Disk.{Contents}
use Rattle.vm_block.specs.Leaf.{Record}
use Rattle.vm_block.proofs.EachLemmas.{each_back, each_join}
use Rattle.vm_tree.specs.Over.{is_between, only_if}
use Rattle.vm_tree.specs.Tree.{Sizes}
use Rattle.vm_tree.proofs.OverParts.{over_below}
use Rattle.vm_tree.specs.declared.root.Root.{Root}
use Rattle.vm_tree.proofs.Rising.{Above, rises_front, rises_above}
use Rattle.vm_tree.specs.Replacement.{Lacks}
use Rattle.vm_tree.proofs.ApartLemmas.{IsTopAt, heads_join, heads_parts, top_at, subtree_once}
use Rattle.vm_diff.specs.Walk.{Walk, IsAhead, Under}
use Rattle.vm_diff.specs.Front.{Front, first_of, front_of, place_of, opened_at}
use Rattle.vm_diff.specs.Shared.{unshared}
use Rattle.vm_diff.specs.Differ.{AreRising, Differ, Enters, IsIn, aside}
use Rattle.vm_diff.specs.Front.Front.{End, Pair, Top}
use Rattle.vm_diff.proofs.ApartLemmas.{under_far, under_near}
use Rattle.vm_diff.proofs.OpenLemmas.{front_top, top_ahead, top_pays}
use Rattle.vm_diff.proofs.SharedLemmas.{open_pays}
use Rattle.vm_diff.proofs.StartLemmas.{above_start, starts_parts}

-- no subtree that is higher than this one stands there, nor this one
abbrev pub NoHigher : Root → Front → Type 0
NoHigher top End = Unit {0}
NoHigher top (Pair key value) = Unit {0}
NoHigher top (Top t) = (t.level ≤ top.level) × (t.level ≡ top.level → t.block ≢ top.block)

-- a walk that stands here may go on before one that stands there
abbrev pub GoesFirst : Front → Front → Type 0
GoesFirst End there = Unit {0}
GoesFirst (Pair key value) there = Unit {0}
GoesFirst (Top top) there = (place top.low < place_of there) ⊎ ((place top.low ≡ place_of there) × NoHigher top there)

-- the one whose key is lower may
pub lower_first : (here there : Front) → place_of here < place_of there → GoesFirst here there
lower_first End there lt = tt
lower_first (Pair key value) there lt = tt
lower_first (Top top) there lt = inl lt

-- and so may, of two before subtrees at the same key that are not one, the one whose subtree isn't lower
pub higher_first : (top t : Root) (there : Front) → there ≡ Top t → place top.low ≡ place t.low → t.level ≤ top.level → (t.level ≡ top.level → t.block ≢ top.block) → GoesFirst (Top top) there
higher_first top t there is level low other = subst (GoesFirst (Top top)) (sym is) (inr (level, (low, other)))

-- and the one before a subtree, where the other stands before none at the same key
pub alone_first : (top : Root) (here there : Front) → here ≡ Top top → place_of here ≡ place_of there → ((t : Root) → there ≢ Top t) → GoesFirst (Top top) there
alone_first top here End is level none = inr (sym (ap place_of is) ∙ level, tt)
alone_first top here (Pair key value) is level none = inr (sym (ap place_of is) ∙ level, tt)
alone_first top here (Top t) is level none = absurd (none t refl)

-- what comes after the first of rising records is above it
first_above : (r : Record) (ps later : List Record) → AreRising (r ∷ ps ++ later) → Above (place r.0) later
first_above r ps later rising = each_back (λ q. place r.0 < place q.0) ps later (rises_above (place r.0) (place r.0 + 1) (ps ++ later) (omega arith) rising.rising.1)

module _ (test : ℕ → Bool) (sizes : Sizes) (x : Contents) (limit : ℕ) where
  -- under tops of which none may go first the block of this subtree does not lie
  lacks_later : (top : Root) → IsTopAt sizes x limit top.level top.block (place top.low) → (ps : List Record) (ts : List Root) (later : List Record) (cs : List ℕ)
      → Under test sizes x limit ts later cs → AreRising (ps ++ later) → (place top.low < place_of (first_of ps ts)) ⊎ ((place top.low ≡ place_of (first_of ps ts)) × NoHigher top (first_of ps ts)) → Lacks top.block cs
  lacks_later top at ps ts later cs u rising (inl lt) =
      let rises = above_start (place top.low) (place_of (first_of ps ts)) (ps ++ later) lt (starts_parts test sizes x limit ps ts later cs u) rising in
      under_far test sizes x limit top.level top.block (place top.low) at ts later cs u
      (each_back (λ r. place top.low < place r.0) ps later (rises_above (place top.low) (place top.low + 1) (ps ++ later) (omega arith) rises))
  lacks_later top at [] [] later cs u rising (inr level) = subst (Lacks top.block) (sym u.1) tt
  lacks_later top at [] (t ∷ ts) later cs u rising (inr level) =
      under_near test sizes x limit top.level top.block (place top.low) at t ts later cs level.1.0 level.1.1 level.0 u rising.rising
  lacks_later top at (r ∷ ps) ts later cs u rising (inr level) =
      under_far test sizes x limit top.level top.block (place top.low) at ts later cs u (subst (λ p. Above p later) (sym level.0) (first_above r ps later rising))

  module _ (walk other : Walk) (rs qs : List Record) (bs cs : List ℕ) (ahead : IsAhead test sizes x limit walk rs bs) (there : IsAhead test sizes x limit other qs cs) (own_rising : AreRising rs) (rising : AreRising qs) where
    opened_lacks : (top : Root) → front_of walk ≡ Top top → GoesFirst (Top top) (front_of other) → Lacks top.block cs
    opened_lacks top front first =
        let t = top_ahead test sizes x limit walk top rs bs front ahead in
        lacks_later top (top_at sizes x limit top.level top.block top.low t.sub t.own t.subtree t.begins) other.pending other.tops there.later cs there.under (subst AreRising there.records rising) first

    -- nor does it come again among the others ahead of the walk that opens it
    pub top_once : (top : Root) → (front : front_of walk ≡ Top top) → let t = top_ahead test sizes x limit walk top rs bs front ahead in
        (below : List ℕ) × (bs ≡ only_if (list_any (λ r. test (place r.0)) t.sub) (top.block ∷ []) ++ below) × Lacks top.block below
    top_once top front =
        let t = top_ahead test sizes x limit walk top rs bs front ahead in
        let p : ℕ = place top.low in
        let rises = subst (λ (ps : List Record). RisesFrom 0 (places ps)) t.records own_rising.rising in
        let own = subtree_once sizes x limit top.level top.block t.sub t.own t.subtree (rises_front 0 t.sub t.rest rises) in
        let after = (heads_parts p top.low t.sub t.rest t.begins (heads_join top.low t.sub t.rest t.begins) rises).1 in
        let at = top_at sizes x limit top.level top.block top.low t.sub t.own t.subtree t.begins in
        let over = over_below test sizes x limit top.level top.block t.sub t.own t.subtree own.0 own.1 (λ m. m ≢ top.block) own.2 in (
          over.0 ++ t.others,
          t.blocks ∙ ap (λ (ds : List ℕ). ds ++ t.others) over.1 ∙ append_assoc (only_if (list_any (λ r. test (place r.0)) t.sub) (top.block ∷ [])) over.0 t.others,
          each_join (λ n. n ≢ top.block) over.0 t.others over.2 (under_far test sizes x limit top.level top.block p at (drop 1 walk.tops) t.rest t.others t.after after),
        )

-- the count of both is one count
turned : (bs cs : List ℕ) → unshared bs cs ≡ unshared cs bs
turned bs cs = omega arith

-- a block that is counted, and neither among the others nor ahead of the other walk, is one of those that one walk alone has
counted_pays : (counted any : Bool) (b : ℕ) (bs rest below cs : List ℕ) → bs ≡ only_if any (b ∷ []) ++ below → Lacks b below → Lacks b cs → bs ≡ only_if counted (b ∷ []) ++ rest → unshared bs cs ≡ length (only_if counted (b ∷ [])) + unshared rest cs
counted_pays false any b bs rest below cs whole once lacks is = let same : unshared bs cs ≡ unshared rest cs = ap (λ (ds : List ℕ). unshared ds cs) is in omega (arith, same)
counted_pays true true b bs rest below cs whole once lacks is =
    let left : below ≡ rest = ap (λ (ds : List ℕ). drop 1 ds) (sym whole ∙ is) in
    let same : unshared bs cs ≡ unshared (b ∷ rest) cs = ap (λ (ds : List ℕ). unshared ds cs) is in
    omega (arith, same, open_pays b rest cs (subst (Lacks b) left once) lacks)
counted_pays true false b bs rest below cs whole once lacks is =
    let again = subst (Lacks b) (sym whole ∙ is) once in
    absurd (again.0 refl)

none_counted : (counted : Bool) (bs rest cs : List ℕ) (later before : ℕ) → bs ≡ only_if counted [] ++ rest → later ≤ length (only_if counted []) + before → unshared rest cs + later ≤ unshared bs cs + before
none_counted true bs rest cs later before is pays = omega (arith, pays, ap (λ (ds : List ℕ). unshared ds cs) is)
none_counted false bs rest cs later before is pays = omega (arith, pays, ap (λ (ds : List ℕ). unshared ds cs) is)

module _ (sizes : Sizes) (x : Contents) (limit low high : ℕ) where
  module _ (walk other : Walk) (rs qs : List Record) (bs cs : List ℕ) (ahead : IsAhead (is_between low high) sizes x limit walk rs bs) (there : IsAhead (is_between low high) sizes x limit other qs cs) (own_rising : AreRising rs) (rising : AreRising qs) (is_in : IsIn low high walk) where
    -- what is read is one of the blocks that are counted, or paid for aside
    opened_pays : (later : Walk) (front : Front) → front_of walk ≡ front → GoesFirst front (front_of other) → (enters : Enters sizes x limit low high front walk later rs bs)
        → length (opened_at front) + (unshared enters.rest_blocks cs + aside low later.tops) ≤ unshared bs cs + aside low walk.tops
    opened_pays later End is first enters = omega (arith, none_counted enters.counted bs enters.rest_blocks cs (aside low later.tops) (aside low walk.tops) enters.blocks (omega (arith, enters.pays)))
    opened_pays later (Pair key value) is first enters = omega (arith, none_counted enters.counted bs enters.rest_blocks cs (aside low later.tops) (aside low walk.tops) enters.blocks (omega (arith, enters.pays)))
    opened_pays later (Top top) is first enters =
        let test : ℕ → Bool = is_between low high in
        let t = top_ahead test sizes x limit walk top rs bs is ahead in
        let once = top_once test sizes x limit walk other rs qs bs cs ahead there own_rising rising top is in
        let lacks = opened_lacks test sizes x limit walk other rs qs bs cs ahead there own_rising rising top is first in
        omega (arith, enters.pays, counted_pays enters.counted (list_any (λ r. is_between low high (place r.0)) t.sub) top.block bs enters.rest_blocks once.0 cs once.1 once.2 lacks enters.blocks)

    opened_counts : (front : Front) → front_of walk ≡ front → GoesFirst front (front_of other) → length (opened_at front) ≤ unshared bs cs + aside low walk.tops
    opened_counts End is first = omega arith
    opened_counts (Pair key value) is first = omega arith
    opened_counts (Top top) is first =
        let test : ℕ → Bool = is_between low high in
        let t = top_ahead test sizes x limit walk top rs bs is ahead in
        let once = top_once test sizes x limit walk other rs qs bs cs ahead there own_rising rising top is in
        let lacks = opened_lacks test sizes x limit walk other rs qs bs cs ahead there own_rising rising top is first in
        let any = list_any (λ r. is_between low high (place r.0)) t.sub in
        let tops = (front_top walk.pending walk.tops top is).1 in
        let high_enough = subst (AllByRecursion (λ (u : Root). place u.low ≤ high)) tops is_in.tops in
        let paid = top_pays low high top t.sub any (aside low walk.tops) 0 t.begins high_enough.0 refl (ap (aside low) tops) (λ le. refl) (omega arith) in
        omega (arith, paid, counted_pays any any top.block bs once.0 once.0 cs once.1 once.2 lacks once.1)

  module _ (one other : Walk) (reads now most : ℕ) (changes : List Change) (d : Differ sizes x limit low high one other reads most changes) where
    -- the first walk may go on: so many reads are paid for
    pub left_bound : GoesFirst (front_of one) (front_of other) → now ≤ reads + length (opened_at (front_of one)) → now ≤ most
    left_bound first few =
        omega (arith, few, d.paid, opened_counts one other d.first d.second d.first_blocks d.second_blocks d.first_ahead d.second_ahead d.first_rising d.second_rising d.first_in (front_of one) refl first)

    pub left_paid : GoesFirst (front_of one) (front_of other) → now ≤ reads + length (opened_at (front_of one)) → (later : Walk) → (enters : Enters sizes x limit low high (front_of one) one later d.first d.first_blocks)
        → now + (unshared enters.rest_blocks d.second_blocks + (aside low later.tops + aside low other.tops)) ≤ most
    left_paid first few later enters =
        omega (arith, few, d.paid, opened_pays one other d.first d.second d.first_blocks d.second_blocks d.first_ahead d.second_ahead d.first_rising d.second_rising d.first_in later (front_of one) refl first enters)

    -- or the second
    pub right_bound : GoesFirst (front_of other) (front_of one) → now ≤ reads + length (opened_at (front_of other)) → now ≤ most
    right_bound first few =
        omega (arith, few, d.paid, turned d.first_blocks d.second_blocks, opened_counts other one d.second d.first d.second_blocks d.first_blocks d.second_ahead d.first_ahead d.second_rising d.first_rising d.second_in (front_of other) refl first)

    pub right_paid : GoesFirst (front_of other) (front_of one) → now ≤ reads + length (opened_at (front_of other)) → (later : Walk) → (enters : Enters sizes x limit low high (front_of other) other later d.second d.second_blocks)
        → now + (unshared d.first_blocks enters.rest_blocks + (aside low one.tops + aside low later.tops)) ≤ most
    right_paid first few later enters =
        omega (arith, few, d.paid, turned d.first_blocks d.second_blocks, turned d.first_blocks enters.rest_blocks, opened_pays other one d.second d.first d.second_blocks d.first_blocks d.second_ahead d.first_ahead d.second_rising d.first_rising d.second_in later (front_of other) refl first enters)

    -- one read is paid for, where a walk may open a subtree
    pub left_read : (here : Front) → front_of one ≡ here → GoesFirst here (front_of other) → now ≤ reads + length (opened_at here) → now ≤ most
    left_read here front first few =
        left_bound (subst (λ f. GoesFirst f (front_of other)) (sym front) first) (subst (λ f. now ≤ reads + length (opened_at f)) (sym front) few)

    pub right_read : (here : Front) → front_of other ≡ here → GoesFirst here (front_of one) → now ≤ reads + length (opened_at here) → now ≤ most
    right_read here front first few =
        right_bound (subst (λ f. GoesFirst f (front_of one)) (sym front) first) (subst (λ f. now ≤ reads + length (opened_at f)) (sym front) few)
