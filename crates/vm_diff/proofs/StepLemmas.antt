-- What is left to differ after a step of two walks.
use Rattle.std.proofs.Common.{◌≡◌, ◌≢◌, inl, inr, ℕ, ◌+◌, ◌<◌, ◌≤◌, Bool, true, false, cond, List, [], ◌∷◌, ◌++◌, length, drop, bytes_eq, Option, Some, None, Result, Ok, Err, refl, sym, ap, ap₂, ◌∙◌, subst, arith}
use Rattle.std.specs.List.{cons_option}
use Rattle.std.specs.Prelude.{⊤}
use Rattle.vm_types.specs.declared.key.Key.{Key}
use Rattle.vm_types.specs.declared.change.Change.{Change}
use Rattle.vm_types.specs.Map.{delta}
use Rattle.vm_types.specs.Parts.{is_within, part}
use Rattle.vm_types.specs.Places.{place}
use Rattle.vm_types.proofs.PartLemmas.{part-append, part_in}
use Rattle.vm_types.proofs.Bridge.{exact_places}
use Rattle.vm_types.proofs.ChangeLemmas.{change_of}
use Rattle.vm_disk.specs.Disk.{Contents}
use Rattle.vm_block.specs.Leaf.{Record}
use Rattle.vm_tree.specs.Tree.{Sizes, Subtree as LiesUnder}
use Rattle.vm_tree.specs.Answers.{OkOrDevice}
use Rattle.vm_tree.specs.declared.root.Root.{Root}
use Rattle.vm_tree.specs.declared.faults.TreeFault.{TreeFault}
use Rattle.vm_tree.specs.Replacement.{Lacks}
use Rattle.vm_tree.specs.Over.{is_between, subtree_over}
use Rattle.vm_tree.proofs.OverParts.{subtree_each, subtree_over_one}
use Rattle.vm_tree.proofs.TreeLemmas.{subtree_one}
use Rattle.vm_tree.proofs.ApartLemmas.{all_above}
use Rattle.vm_diff.specs.Walk.{Walk, IsAhead, Under}
use Rattle.vm_diff.specs.Front.{Front, front_of, next_of, next_place, place_of, opened_at}
use Rattle.vm_diff.specs.Shared.{unshared}
use Rattle.vm_diff.specs.Differ.{AreRising, Differ, Enters, aside}
use Rattle.vm_diff.specs.Steps.{StepsBy, Meet, moved_by}
use Rattle.vm_diff.specs.declared.front.Step.{Step}
use Rattle.vm_diff.specs.Front.Front.{End, Pair, Top}
use Rattle.vm_diff.specs.declared.front.Next.{Next}
use Rattle.vm_diff.specs.declared.front.Next.TheVariants.{Record as OneRecord, Subtree}
use Rattle.vm_diff.proofs.ApartLemmas.{subtree_apart}
use Rattle.vm_diff.proofs.OpenLemmas.{aside_others, front_top, in_pair, in_past, in_skipped, pair_passed, top_ahead}
use Rattle.vm_diff.proofs.PayLemmas.{GoesFirst, left_paid, right_paid}
use Rattle.vm_diff.proofs.SharedLemmas.{skip_free}
use Rattle.vm_diff.proofs.StartLemmas.{starts, above_start}
use Rattle.vm_diff.proofs.DeltaLemmas.{rising_rest, rising_back, rising_part, rises_part, first_removed, first_added, first_both, shared_front}

module _ (sizes : Sizes) (x : Contents) (limit low high reads most : ℕ) where
  -- the first walk has opened a subtree
  pub left_moved : (one other now : Walk) (later : ℕ) (changes : List Change) (d : Differ sizes x limit low high one other reads most changes) → GoesFirst (front_of one) (front_of other) → later ≤ reads + length (opened_at (front_of one))
      → Enters sizes x limit low high (front_of one) one now d.first d.first_blocks → Differ sizes x limit low high now other later most changes
  left_moved one other now later changes d first few p = record {
    first = p.rest;
    second = d.second;
    first_blocks = p.rest_blocks;
    second_blocks = d.second_blocks;
    first_ahead = p.ahead;
    second_ahead = d.second_ahead;
    first_rising = p.rising;
    second_rising = d.second_rising;
    first_in = p.is_in;
    second_in = d.second_in;
    differences = d.differences ∙ ap (λ (m : List Record). delta m (part low high d.second)) p.records;
    paid = left_paid sizes x limit low high one other reads later most changes d first few now p;
  }

  -- or the second
  pub right_moved : (one other now : Walk) (later : ℕ) (changes : List Change) (d : Differ sizes x limit low high one other reads most changes) → GoesFirst (front_of other) (front_of one) → later ≤ reads + length (opened_at (front_of other))
      → Enters sizes x limit low high (front_of other) other now d.second d.second_blocks → Differ sizes x limit low high one now later most changes
  right_moved one other now later changes d first few p = record {
    first = d.first;
    second = p.rest;
    first_blocks = d.first_blocks;
    second_blocks = p.rest_blocks;
    first_ahead = d.first_ahead;
    second_ahead = p.ahead;
    first_rising = d.first_rising;
    second_rising = p.rising;
    first_in = d.first_in;
    second_in = p.is_in;
    differences = d.differences ∙ ap (delta (part low high d.first)) p.records;
    paid = right_paid sizes x limit low high one other reads later most changes d first few now p;
  }

  -- records of the part, of which the first lies in it
  part_first : (r : Record) (rs : List Record) → is_within low high r.0 ≡ true → AreRising (r ∷ rs) → AreRising (r ∷ part low high rs)
  part_first r rs inside h = subst AreRising (part_in low high r rs inside) (rising_part low high (r ∷ rs) h)

  -- the first walk has gone past a record below all that is ahead of the second
  pub left_found : (one other now : Walk) (key : Key) (value : List ℕ) (changes : List Change) → front_of one ≡ Pair key value → now ≡ record { pending = drop 1 one.pending; tops = one.tops } → place_of (front_of one) < place_of (front_of other)
      → (d : Differ sizes x limit low high one other reads most changes) → (rest : List Change) × (changes ≡ record { key = key; before = Some value; after = None } ∷ rest) × Differ sizes x limit low high now other reads most rest
  left_found one other now key value changes front is lt d =
      let r : Record = (key, value) in
      let p = pair_passed (is_between low high) sizes x limit one now key value d.first d.first_blocks front is d.first_ahead in
      let inside = in_pair low high one key value front d.first_in in
      let rising = subst AreRising p.records d.first_rising in
      let above = above_start (place key) (place_of (front_of other)) d.second (omega (arith, ap place_of front, lt)) (starts (is_between low high) sizes x limit other d.second d.second_blocks d.second_ahead) d.second_rising in
      let firsts : part low high d.first ≡ r ∷ part low high p.rest = ap (part low high) p.records ∙ part_in low high r p.rest inside.0 in (
        delta (part low high p.rest) (part low high d.second),
        d.differences ∙ ap (λ (m : List Record). delta m (part low high d.second)) firsts
            ∙ first_removed r (part low high p.rest) (part low high d.second) (part_first r p.rest inside.0 rising) (rising_part low high d.second d.second_rising) (rises_part low high (place key + 1) d.second above),
        record {
          first = p.rest;
          second = d.second;
          first_blocks = d.first_blocks;
          second_blocks = d.second_blocks;
          first_ahead = p.ahead;
          second_ahead = d.second_ahead;
          first_rising = rising_rest r p.rest rising;
          second_rising = d.second_rising;
          first_in = in_past low high one now inside.1 is d.first_in;
          second_in = d.second_in;
          differences = refl;
          paid = omega (arith, d.paid, ap (λ (w : Walk). aside low w.tops) is);
        },
      )

  -- or the second one below all that is ahead of the first
  pub right_found : (one other now : Walk) (key : Key) (value : List ℕ) (changes : List Change) → front_of other ≡ Pair key value → now ≡ record { pending = drop 1 other.pending; tops = other.tops } → place_of (front_of other) < place_of (front_of one)
      → (d : Differ sizes x limit low high one other reads most changes) → (rest : List Change) × (changes ≡ record { key = key; before = None; after = Some value } ∷ rest) × Differ sizes x limit low high one now reads most rest
  right_found one other now key value changes front is lt d =
      let r : Record = (key, value) in
      let p = pair_passed (is_between low high) sizes x limit other now key value d.second d.second_blocks front is d.second_ahead in
      let inside = in_pair low high other key value front d.second_in in
      let rising = subst AreRising p.records d.second_rising in
      let above = above_start (place key) (place_of (front_of one)) d.first (omega (arith, ap place_of front, lt)) (starts (is_between low high) sizes x limit one d.first d.first_blocks d.first_ahead) d.first_rising in
      let seconds : part low high d.second ≡ r ∷ part low high p.rest = ap (part low high) p.records ∙ part_in low high r p.rest inside.0 in (
        delta (part low high d.first) (part low high p.rest),
        d.differences ∙ ap (delta (part low high d.first)) seconds
            ∙ first_added r (part low high d.first) (part low high p.rest) (rising_part low high d.first d.first_rising) (part_first r p.rest inside.0 rising) (rises_part low high (place key + 1) d.first above),
        record {
          first = d.first;
          second = p.rest;
          first_blocks = d.first_blocks;
          second_blocks = d.second_blocks;
          first_ahead = d.first_ahead;
          second_ahead = p.ahead;
          first_rising = d.first_rising;
          second_rising = rising_rest r p.rest rising;
          first_in = d.first_in;
          second_in = in_past low high other now inside.1 is d.second_in;
          differences = refl;
          paid = omega (arith, d.paid, ap (λ (w : Walk). aside low w.tops) is);
        },
      )

  past_top : (walk now : Walk) (top : Root) (rs : List Record) (bs : List ℕ) → front_of walk ≡ Top top → now ≡ record { pending = walk.pending; tops = drop 1 walk.tops } → Under (is_between low high) sizes x limit (drop 1 walk.tops) rs bs → IsAhead (is_between low high) sizes x limit now rs bs
  past_top walk now top rs bs front is under =
      let at = front_top walk.pending walk.tops top front in
      let next : IsAhead (is_between low high) sizes x limit (record { pending = walk.pending; tops = drop 1 walk.tops }) rs bs =
      record { later = rs; under = under; records = ap (λ (qs : List Record). qs ++ rs) (sym at.0) } in
      subst (λ (w : Walk). IsAhead (is_between low high) sizes x limit w rs bs) (sym is) next

  -- both walks have skipped one subtree
  pub both_skipped : (one other one_now other_now : Walk) (a b : Root) (changes : List Change) → front_of one ≡ Top a → front_of other ≡ Top b → a.block ≡ b.block
      → one_now ≡ record { pending = one.pending; tops = drop 1 one.tops } → other_now ≡ record { pending = other.pending; tops = drop 1 other.tops }
      → Differ sizes x limit low high one other reads most changes → Differ sizes x limit low high one_now other_now reads most changes
  both_skipped one other one_now other_now a b changes front_one front_other shared one_is other_is d =
      let test : ℕ → Bool = is_between low high in
      let P : List Record → List Record = part low high in
      let s = top_ahead test sizes x limit one a d.first d.first_blocks front_one d.first_ahead in
      let t = top_ahead test sizes x limit other b d.second d.second_blocks front_other d.second_ahead in
      let there = subst (λ n. LiesUnder sizes x limit a.level n s.sub s.own) shared s.subtree in
      let same = subtree_one sizes x limit a.level b.level b.block s.sub t.sub s.own t.own there t.subtree in
      let over = subtree_over test sizes x limit a.level a.block s.sub s.own s.subtree in
      let one_over = subtree_over_one test x limit sizes a.level b.level a.block b.block s.sub t.sub s.own t.own shared s.subtree t.subtree in
      let second : d.second ≡ s.sub ++ t.rest = t.records ∙ ap (λ (qs : List Record). qs ++ t.rest) (sym same.0) in
      let second_blocks : d.second_blocks ≡ over ++ t.others = t.blocks ∙ ap (λ (ds : List ℕ). ds ++ t.others) (sym one_over) in
      let first_rising = subst AreRising s.records d.first_rising in
      let second_rising = subst AreRising second d.second_rising in
      let left = subtree_each (λ n. Lacks n s.others) test sizes x limit a.level a.block s.sub s.own s.subtree (subtree_apart test sizes x limit (drop 1 one.tops) s.rest s.others s.after a.level a.block s.sub s.own s.subtree (all_above 0 s.sub s.rest first_rising.rising)) in
      let right = subtree_each (λ n. Lacks n t.others) test sizes x limit a.level a.block s.sub s.own s.subtree (subtree_apart test sizes x limit (drop 1 other.tops) t.rest t.others t.after a.level a.block s.sub s.own s.subtree (all_above 0 s.sub t.rest second_rising.rising)) in
      let firsts : P d.first ≡ P s.sub ++ P s.rest = ap P s.records ∙ part-append low high s.sub s.rest in
      let seconds : P d.second ≡ P s.sub ++ P t.rest = ap P second ∙ part-append low high s.sub t.rest in
      record {
        first = s.rest;
        second = t.rest;
        first_blocks = s.others;
        second_blocks = t.others;
        first_ahead = past_top one one_now a s.rest s.others front_one one_is s.after;
        second_ahead = past_top other other_now b t.rest t.others front_other other_is t.after;
        first_rising = rising_back s.sub s.rest first_rising;
        second_rising = rising_back s.sub t.rest second_rising;
        first_in = in_skipped low high one one_now a front_one one_is d.first_in;
        second_in = in_skipped low high other other_now b front_other other_is d.second_in;
        differences =
            d.differences ∙ ap₂ delta firsts seconds
            ∙ shared_front (P s.sub) (P s.rest) (P t.rest) (subst AreRising firsts (rising_part low high d.first d.first_rising)) (subst AreRising seconds (rising_part low high d.second d.second_rising));
        paid =
            omega (
              arith,
              d.paid,
              ap₂ unshared s.blocks second_blocks,
              skip_free over s.others t.others left right,
              ap (λ (w : Walk). aside low w.tops) one_is,
              ap (λ (w : Walk). aside low w.tops) other_is,
              aside_others low (drop 1 one.tops) d.first_in.others,
              aside_others low (drop 1 other.tops) d.second_in.others,
            );
      }

  -- both walks have gone past a record of one key
  pub both_passed : (one other one_now other_now : Walk) (key first : Key) (v w : List ℕ) (changes : List Change) → front_of one ≡ Pair key v → front_of other ≡ Pair first w → place key ≡ place first
      → one_now ≡ record { pending = drop 1 one.pending; tops = one.tops } → other_now ≡ record { pending = drop 1 other.pending; tops = other.tops }
      → Differ sizes x limit low high one other reads most changes → (rest : List Change) × (changes ≡ cons_option (change_of key (Some v) (Some w)) rest) × Differ sizes x limit low high one_now other_now reads most rest
  both_passed one other one_now other_now key first v w changes front_one front_other level one_is other_is d =
      let test : ℕ → Bool = is_between low high in
      let P : List Record → List Record = part low high in
      let p = pair_passed test sizes x limit one one_now key v d.first d.first_blocks front_one one_is d.first_ahead in
      let q = pair_passed test sizes x limit other other_now first w d.second d.second_blocks front_other other_is d.second_ahead in
      let inside = in_pair low high one key v front_one d.first_in in
      let inside_other = in_pair low high other first w front_other d.second_in in
      let first_rising = subst AreRising p.records d.first_rising in
      let low_rising = subst AreRising q.records d.second_rising in
      let same : first ≡ key = exact_places first key low_rising.fit.0 first_rising.fit.0 (sym level) in
      let second : d.second ≡ (key, w) ∷ q.rest = q.records ∙ ap (λ (k : Key). (k, w) ∷ q.rest) same in
      let second_rising = subst AreRising second d.second_rising in
      let firsts : P d.first ≡ (key, v) ∷ P p.rest = ap P p.records ∙ part_in low high (key, v) p.rest inside.0 in
      let seconds : P d.second ≡ (key, w) ∷ P q.rest = ap P second ∙ part_in low high (key, w) q.rest inside.0 in (
        delta (P p.rest) (P q.rest),
        d.differences ∙ ap₂ delta firsts seconds ∙ first_both key v w (P p.rest) (P q.rest) (part_first (key, v) p.rest inside.0 first_rising) (part_first (key, w) q.rest inside.0 second_rising),
        record {
          first = p.rest;
          second = q.rest;
          first_blocks = d.first_blocks;
          second_blocks = d.second_blocks;
          first_ahead = p.ahead;
          second_ahead = q.ahead;
          first_rising = rising_rest (key, v) p.rest first_rising;
          second_rising = rising_rest (key, w) q.rest second_rising;
          first_in = in_past low high one one_now inside.1 one_is d.first_in;
          second_in = in_past low high other other_now inside_other.1 other_is d.second_in;
          differences = refl;
          paid = omega (arith, d.paid, ap (λ (w : Walk). aside low w.tops) one_is, ap (λ (w : Walk). aside low w.tops) other_is);
        },
      )

  -- a step that has opened a subtree ahead of the first walk
  pub left_opened : (one other now : Walk) (later : ℕ) (here : Front) (changes : List Change) (opened : Result ⊤ TreeFault) (result : Result Step TreeFault) → result ≡ moved_by opened → front_of one ≡ here → GoesFirst here (front_of other) → later ≤ reads + length (opened_at here)
      → (d : Differ sizes x limit low high one other reads most changes) → OkOrDevice opened (λ _. Enters sizes x limit low high here one now d.first d.first_blocks) → StepsBy result changes (Differ sizes x limit low high now other later most)
  left_opened one other now later here changes (Ok y) result is front first few d p =
      subst (λ (r : Result Step TreeFault). StepsBy r changes (Differ sizes x limit low high now other later most)) (sym is)
      (left_moved one other now later changes d
      (subst (λ f. GoesFirst f (front_of other)) (sym front) first)
      (subst (λ f. later ≤ reads + length (opened_at f)) (sym front) few)
      (subst (λ f. Enters sizes x limit low high f one now d.first d.first_blocks) (sym front) p))
  left_opened one other now later here changes (Err e) result is front first few d p = subst (λ (r : Result Step TreeFault). StepsBy r changes (Differ sizes x limit low high now other later most)) (sym is) p

  -- and ahead of the second
  pub right_opened : (one other now : Walk) (later : ℕ) (here : Front) (changes : List Change) (opened : Result ⊤ TreeFault) (result : Result Step TreeFault) → result ≡ moved_by opened → front_of other ≡ here → GoesFirst here (front_of one) → later ≤ reads + length (opened_at here)
      → (d : Differ sizes x limit low high one other reads most changes) → OkOrDevice opened (λ _. Enters sizes x limit low high here other now d.second d.second_blocks) → StepsBy result changes (Differ sizes x limit low high one now later most)
  right_opened one other now later here changes (Ok y) result is front first few d p =
      subst (λ (r : Result Step TreeFault). StepsBy r changes (Differ sizes x limit low high one now later most)) (sym is)
      (right_moved one other now later changes d
      (subst (λ f. GoesFirst f (front_of one)) (sym front) first)
      (subst (λ f. later ≤ reads + length (opened_at f)) (sym front) few)
      (subst (λ f. Enters sizes x limit low high f other now d.second d.second_blocks) (sym front) p))
  right_opened one other now later here changes (Err e) result is front first few d p = subst (λ (r : Result Step TreeFault). StepsBy r changes (Differ sizes x limit low high one now later most)) (sym is) p

  -- records of one key have no difference, where their values are equal
  pub both_same : (one other one_now other_now : Walk) (key : Key) (v w : List ℕ) (changes : List Change) → front_of one ≡ Pair key v → (first : Key) × (front_of other ≡ Pair first w) × (place key ≡ place first) → bytes_eq v w ≡ true
      → one_now ≡ record { pending = drop 1 one.pending; tops = one.tops } → other_now ≡ record { pending = drop 1 other.pending; tops = other.tops }
      → Differ sizes x limit low high one other reads most changes → Differ sizes x limit low high one_now other_now reads most changes
  both_same one other one_now other_now key v w changes front_one front_other equal one_is other_is d =
      let p = both_passed one other one_now other_now key front_other.0 v w changes front_one front_other.1 front_other.2 one_is other_is d in
      let same : changes ≡ p.0 = p.1 ∙ ap (λ t. cons_option (cond {A = Option Change} t None (Some (record { key = key; before = Some v; after = Some w }))) p.0) equal in
      subst (Differ sizes x limit low high one_now other_now reads most) (sym same) p.2

  -- and one, where they are not
  pub both_differ : (one other one_now other_now : Walk) (key : Key) (v w : List ℕ) (changes : List Change) → front_of one ≡ Pair key v → (first : Key) × (front_of other ≡ Pair first w) × (place key ≡ place first) → bytes_eq v w ≡ false
      → one_now ≡ record { pending = drop 1 one.pending; tops = one.tops } → other_now ≡ record { pending = drop 1 other.pending; tops = other.tops }
      → Differ sizes x limit low high one other reads most changes → (rest : List Change) × (changes ≡ record { key = key; before = Some v; after = Some w } ∷ rest) × Differ sizes x limit low high one_now other_now reads most rest
  both_differ one other one_now other_now key v w changes front_one front_other other_value one_is other_is d =
      let p = both_passed one other one_now other_now key front_other.0 v w changes front_one front_other.1 front_other.2 one_is other_is d in
      (p.0, p.1 ∙ ap (λ t. cons_option (cond {A = Option Change} t None (Some (record { key = key; before = Some v; after = Some w }))) p.0) other_value, p.2)

  -- the difference that two walks stand before, and what is left past it
  pub change_taken : (one other one_now other_now : Walk) (key : Key) (before after : Option (List ℕ)) (changes : List Change) → Meet key (front_of one) (front_of other)
      → ((own : Key) (value : List ℕ) → front_of one ≡ Pair own value → place own ≡ place key → (before ≡ Some value) × (one_now ≡ record { pending = drop 1 one.pending; tops = one.tops }))
      → (((own : Key) (value : List ℕ) → front_of one ≡ Pair own value → place own ≢ place key) → (before ≡ None) × (one_now ≡ one))
      → ((own : Key) (value : List ℕ) → front_of other ≡ Pair own value → place own ≡ place key → (after ≡ Some value) × (other_now ≡ record { pending = drop 1 other.pending; tops = other.tops }))
      → (((own : Key) (value : List ℕ) → front_of other ≡ Pair own value → place own ≢ place key) → (after ≡ None) × (other_now ≡ other))
      → Differ sizes x limit low high one other reads most changes → (rest : List Change) × (changes ≡ record { key = key; before = before; after = after } ∷ rest) × Differ sizes x limit low high one_now other_now reads most rest
  change_taken one other one_now other_now key before after changes (inl alone) one_there one_none other_there other_none d =
      let t = one_there key alone.value alone.front refl in
      let u = other_none (λ own value is same. omega (arith, alone.below, ap place_of is, same)) in
      let lt : place_of (front_of one) < place_of (front_of other) = omega (arith, alone.below, ap place_of alone.front) in
      let f = left_found one other one_now key alone.value changes alone.front t.1 lt d in
      (f.0, f.1 ∙ ap₂ (λ (b c : Option (List ℕ)). record { key = key; before = b; after = c } ∷ f.0) (sym t.0) (sym u.0), subst (λ (w : Walk). Differ sizes x limit low high one_now w reads most f.0) (sym u.1) f.2)
  change_taken one other one_now other_now key before after changes (inr (inl alone)) one_there one_none other_there other_none d =
      let t = other_there key alone.value alone.front refl in
      let u = one_none (λ own value is same. omega (arith, alone.below, ap place_of is, same)) in
      let lt : place_of (front_of other) < place_of (front_of one) = omega (arith, alone.below, ap place_of alone.front) in
      let f = right_found one other other_now key alone.value changes alone.front t.1 lt d in
      (f.0, f.1 ∙ ap₂ (λ (b c : Option (List ℕ)). record { key = key; before = b; after = c } ∷ f.0) (sym u.0) (sym t.0), subst (λ (w : Walk). Differ sizes x limit low high w other_now reads most f.0) (sym u.1) f.2)
  change_taken one other one_now other_now key before after changes (inr (inr both)) one_there one_none other_there other_none d =
      let t = one_there key both.value both.first refl in
      let u = other_there both.low both.other both.second (sym both.level) in
      let f = both_differ one other one_now other_now key both.value both.other changes both.first (both.low, both.second, both.level) both.apart t.1 u.1 d in
      (f.0, f.1 ∙ ap₂ (λ (b c : Option (List ℕ)). record { key = key; before = b; after = c } ∷ f.0) (sym t.0) (sym u.0), f.2)

  -- so there is one
  pub some_difference : (one other : Walk) (key : Key) (changes : List Change) → Meet key (front_of one) (front_of other) → Differ sizes x limit low high one other reads most changes → changes ≡ [] → ⊥
  some_difference one other key changes (inl alone) d none =
      let lt : place_of (front_of one) < place_of (front_of other) = omega (arith, alone.below, ap place_of alone.front) in
      let f = left_found one other (record { pending = drop 1 one.pending; tops = one.tops }) key alone.value changes alone.front refl lt d in
      omega (arith, ap (λ (cs : List Change). length cs) (sym none ∙ f.1))
  some_difference one other key changes (inr (inl alone)) d none =
      let lt : place_of (front_of other) < place_of (front_of one) = omega (arith, alone.below, ap place_of alone.front) in
      let f = right_found one other (record { pending = drop 1 other.pending; tops = other.tops }) key alone.value changes alone.front refl lt d in
      omega (arith, ap (λ (cs : List Change). length cs) (sym none ∙ f.1))
  some_difference one other key changes (inr (inr both)) d none =
      let f = both_differ one other (record { pending = drop 1 one.pending; tops = one.tops }) (record { pending = drop 1 other.pending; tops = other.tops }) key both.value both.other changes both.first (both.low, both.second, both.level) both.apart refl refl d in
      omega (arith, ap (λ (cs : List Change). length cs) (sym none ∙ f.1))

-- # What a walk stands before, told without the value

pub next_top : (front : Front) (top : Root) → next_of front ≡ Subtree top → front ≡ Top top
next_top End top e = cc
next_top (Pair key value) top e = cc
next_top (Top t) top e = cc

pub next_pair : (front : Front) (key : Key) → next_of front ≡ OneRecord key → (value : List ℕ) × (front ≡ Pair key value)
next_pair End key e = cc
next_pair (Pair low value) key e = let same : low ≡ key = cc in (value, ap (λ k. Pair k value) same)
next_pair (Top t) key e = cc

pub record_or_top : (front : Front) (key : Key) (top : Root) → OneRecord key ≡ next_of front → front ≡ Top top → ⊥
record_or_top front key top is at = let both : OneRecord key ≡ Subtree top = is ∙ ap next_of at in cc

pub place_next : (front : Front) (next : Next) → next ≡ next_of front → next_place next ≡ place_of front
place_next End next is = ap next_place is
place_next (Pair key value) next is = ap next_place is
place_next (Top top) next is = ap next_place is
