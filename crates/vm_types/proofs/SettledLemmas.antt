-- Settlements by rising keys: what is found of them beside conflicts by rising keys, and beside changes.
use Rattle.std.proofs.Common.{◌≡◌, ℕ, ◌<◌, ⊎_elim, suc, ◌+◌, ◌-◌, ◌↔◌, IsTrue, Bool, true, false, cond, not, if◌then◌else◌, ◌||◌, List, [], ◌∷◌, ◌++◌, map, filter, find, filter_map, length, get_or, slice_get, Option, Some, None, is_some, is_none, Result, Ok, Err, is_ok, Less, Equal, Greater, nat_lt, option_map, refl, sym, ap, ap₂, ◌∙◌, subst, arith, drop, option_to_list}
use Rattle.std.specs.List.{list_any, cons_option, AllByRecursion, HoldsAt, IsAllAdjacentAnswer}
use Rattle.std.specs.List.Sorted.{IsBinarySearchResult, IsNonDecreasingBy, IsPartitionPoint, IsSearchInRange, IsStrictlySortedBy}
use Rattle.std.specs.Option.{option_or}
use Rattle.std.specs.Ordering.{is_lt, is_eq, ordering_index, ordering_reverse}
use Rattle.std.specs.Cmp.{tied_itself}
use Rattle.std.specs.FinMap.Entries as entries
use Rattle.std.specs.FinMap.Entries.{by_order}
use Rattle.std.proofs.lemmas.List.{drop_more}
use Rattle.std.proofs.lemmas.List.Folds.{list_any-append, list_any_at, list_any_none}
use Rattle.std.proofs.lemmas.List.Sorted.{searchable_from_sorted}
use Rattle.std.proofs.lemmas.Bool.{cases_lt, false≢true}
use Rattle.std.proofs.lemmas.Map.Keys.{sorted_from_all_adjacent, Less-from_sorted}
use Rattle.std.proofs.Math.ListN.{get_or-map}
use Rattle.vm_types.specs.declared.key.Key.{Key}
use Rattle.vm_types.specs.declared.change.Change.{Change}
use Rattle.vm_types.specs.declared.command.Side.{Side}
use Rattle.vm_types.specs.declared.refusal.Refusal.{Refusal}
use Rattle.vm_types.specs.declared.refusal.Refusal.TheVariants.{Unsettled, NotInConflict, SettledTwice}
use Rattle.vm_types.specs.Map.{key_cmp, same_key, Map, IsMap, same_value, over, change_at, delta, side_of}
use Rattle.vm_types.specs.Step.{settled_refusal, first_repeated}
use Rattle.vm_types.proofs.Keys.{keys_total, exact_keys, is_less}
use Rattle.vm_types.proofs.Maps.{IsMap-over}
use Rattle.vm_types.proofs.ChangeLemmas.{is_below-head, IsMap-tail}
use Rattle.vm_types.specs.Merge.{from_key, first_at, settled_from, chosen, taken}
use Rattle.vm_types.proofs.MergingLemmas.{or_true_left, or_true_right, above_all, appended, key-change_at, side_by_side}

-- ---- keys that rise

-- each key of a list is above this one
abbrev pub Above : Key → List Key → Type 0
Above key keys = AllByRecursion (λ k. key_cmp key k ≡ Less) keys

-- the first of rising keys is below the others, and these rise
rising-head : (k : Key) (ks : List Key) → IsStrictlySortedBy key_cmp (k ∷ ks) → Above k ks
unfolding IsStrictlySortedBy
rising-head k ks h = h.0

rising-tail : (k : Key) (ks : List Key) → IsStrictlySortedBy key_cmp (k ∷ ks) → IsStrictlySortedBy key_cmp ks
unfolding IsStrictlySortedBy
rising-tail k ks h = h.1

-- a lower key is below them, too
Above-lower : (j k : Key) (ks : List Key) → key_cmp j k ≡ Less → Above k ks → Above j ks
Above-lower j k [] h above = tt
Above-lower j k (q ∷ ks) h above = (keys_total.trans j k q h above.0, Above-lower j k ks h above.1)

-- a list has as many keys as items
pub length-map : {X : Type 0} (f : X → Key) (xs : List X) → length (map f xs) ≡ length xs
length-map f [] = refl
length-map f (x ∷ xs) = ap suc (length-map f xs)

-- keys rise just where each is below the next
pub rising-adjacent : {X : Type 0} (key : X → Key) (xs : List X) (r : Bool) → IsAllAdjacentAnswer (λ x y b. b ≡ is_lt (key_cmp (key x) (key y))) xs r → IsTrue r ↔ IsStrictlySortedBy key_cmp (map key xs)
unfolding IsStrictlySortedBy
rising-adjacent key [] true h = (λ _. tt, λ _. refl)
rising-adjacent key [] false h = absurd (omega (arith, h.1))
rising-adjacent key (x ∷ xs) true h =
    let all = x ∷ xs in (
      λ _. sorted_from_all_adjacent keys_total (map key all) (key x) (λ k l.
          ap₂ key_cmp (get_or-map key all k x) (get_or-map key all (k + 1) x)
          ∙ is_less (key_cmp (key (get_or all k x)) (key (get_or all (k + 1) x))) (sym (h k x (omega (arith, length-map key all))))),
      λ _. refl,
    )
rising-adjacent key (x ∷ xs) false h =
    let all = x ∷ xs in (
      λ e. absurd (false≢true e),
      λ rises.
          let less = Less-from_sorted key_cmp (map key all) h.0 (h.0 + 1) (key x) rises (omega arith) (omega (arith, length-map key all, h.1)) in
          h.2 x ∙ ap is_lt (sym (ap₂ key_cmp (get_or-map key all h.0 x) (get_or-map key all (h.0 + 1) x)) ∙ less),
    )

-- a lower key is another one
apart : (j k : Key) → key_cmp j k ≡ Less → same_key j k ≡ false
apart j k h = ap is_eq h

-- and so is a higher one
apart-back : (j k : Key) → key_cmp j k ≡ Less → same_key k j ≡ false
apart-back j k h = ap is_eq (keys_total.antisymm k j ∙ ap ordering_reverse h)

-- keys that tie are the same
same : (j k : Key) → key_cmp j k ≡ Equal → same_key k j ≡ true
same j k h = ap is_eq (keys_total.antisymm k j ∙ ap ordering_reverse h)

-- a key below all is none of them
not_any : (k : Key) (ks : List Key) → Above k ks → list_any (same_key k) ks ≡ false
not_any k [] above = refl
not_any k (q ∷ ks) above = ap (λ t. t || list_any (same_key k) ks) (apart k q above.0) ∙ not_any k ks above.1

-- rising keys repeat none of those before
none_repeated_after : (earlier ks : List Key) → AllByRecursion (λ k. list_any (same_key k) earlier ≡ false) ks → IsStrictlySortedBy key_cmp ks → first_repeated earlier ks ≡ None
none_repeated_after earlier [] new h = refl
none_repeated_after earlier (k ∷ ks) new h =
    ap (λ t. cond {A = Option Key} t (Some k) (first_repeated (earlier ++ k ∷ []) ks)) new.0
    ∙ none_repeated_after (earlier ++ k ∷ []) ks (one_more ks new.1 (rising-head k ks h)) (rising-tail k ks h)
  where
    one_more : (qs : List Key) → AllByRecursion (λ q. list_any (same_key q) earlier ≡ false) qs → Above k qs → AllByRecursion (λ q. list_any (same_key q) (earlier ++ k ∷ []) ≡ false) qs
    one_more [] old above = tt
    one_more (q ∷ qs) old above = (
      list_any-append (same_key q) earlier (k ∷ []) ∙ ap (λ t. t || (same_key q k || false)) old.0 ∙ ap (λ t. t || false) (apart-back k q above.0),
      one_more qs old.1 above.1,
    )

-- no key is in an empty list
all_new : (ks : List Key) → AllByRecursion (λ k. list_any (same_key k) [] ≡ false) ks
all_new [] = tt
all_new (k ∷ ks) = (refl, all_new ks)

-- rising keys repeat none
pub none_repeated : (ks : List Key) → IsStrictlySortedBy key_cmp ks → first_repeated [] ks ≡ None
none_repeated ks h = none_repeated_after [] ks (all_new ks) h

-- ---- two lists of rising keys

-- the first key of one that is not in the other, walked side by side
abbrev pub unmatched : List Key → List Key → Option Key
unmatched [] others = None
unmatched (k ∷ keys) [] = Some k
unmatched (k ∷ keys) (c ∷ others) = by_order (key_cmp c k) (unmatched (k ∷ keys) others) (unmatched keys others) (Some k)

-- whether a key is not in the other list
abbrev is_missing : List Key → Key → Bool
is_missing others key = not (list_any (same_key key) others)

-- a lower key in the other list is no matter
missing-lower : (c : Key) (keys others : List Key) → Above c keys → find (is_missing (c ∷ others)) keys ≡ find (is_missing others) keys
missing-lower c [] others above = refl
missing-lower c (k ∷ keys) others above =
    ap (λ t. cond {A = Option Key} (not (t || list_any (same_key k) others)) (Some k) (find (is_missing (c ∷ others)) keys)) (apart-back c k above.0)
    ∙ ap (cond {A = Option Key} (is_missing others k) (Some k)) (missing-lower c keys others above.1)

-- side by side the key is found that a search of each would find
pub unmatched-find : (keys others : List Key) → IsStrictlySortedBy key_cmp keys → IsStrictlySortedBy key_cmp others → unmatched keys others ≡ find (is_missing others) keys
unmatched-find [] others g h = refl
unmatched-find (k ∷ keys) [] g h = refl
unmatched-find (k ∷ keys) (c ∷ others) g h =
    let later = rising-tail c others h in
    let above = rising-head k keys g in
    elim (key_cmp c k) as (λ o. key_cmp c k ≡ o → by_order o (unmatched (k ∷ keys) others) (unmatched keys others) (Some k) ≡ find (is_missing (c ∷ others)) (k ∷ keys)) [
      | Less ↦ λ is. unmatched-find (k ∷ keys) others g later ∙ sym (missing-lower c (k ∷ keys) others (is, Above-lower c k keys is above))
      | Equal ↦ λ is.
          unmatched-find keys others (rising-tail k keys g) later
          ∙ sym (missing-lower c keys others (subst (λ j. Above j keys) (sym (exact_keys c k is)) above))
          ∙ sym (ap (λ t. cond {A = Option Key} (not (t || list_any (same_key k) others)) (Some k) (find (is_missing (c ∷ others)) keys)) (same c k is))
      | Greater ↦ λ is.
          let low : key_cmp k c ≡ Less = keys_total.antisymm k c ∙ ap ordering_reverse is in
          sym (ap (λ t. cond {A = Option Key} (not t) (Some k) (find (is_missing (c ∷ others)) keys)) (not_any k (c ∷ others) (low, Above-lower k c others low (rising-head c others h))))
    ] refl

-- the end of either list
pub unmatched-none : (settled : List (Key × Side)) (others : List Key) → length settled ≡ 0 → unmatched (map (λ e. e.0) settled) others ≡ None
unmatched-none [] others h = refl
unmatched-none (e ∷ settled) others h = absurd (omega arith)

pub unmatched-end : (settled : List (Key × Side)) → unmatched (map (λ e. e.0) settled) [] ≡ option_map (λ e. e.0) (slice_get settled 0)
unmatched-end [] = refl
unmatched-end (e ∷ settled) = refl

-- a key below the other's next one is not in it
pub unmatched-above : (settled rest : List (Key × Side)) (others later : List Key) (e : Key × Side) (c : Key) → settled ≡ e ∷ rest → others ≡ c ∷ later → key_cmp c e.0 ≡ Greater → unmatched (map (λ e. e.0) settled) others ≡ Some e.0
unmatched-above settled rest others later e c left right above =
    ap (λ (l : List (Key × Side)). unmatched (map (λ e. e.0) l) others) left
    ∙ ap (λ (l : List Key). unmatched (map (λ e. e.0) (e ∷ rest)) l) right
    ∙ ap (λ o. by_order o (unmatched (map (λ e. e.0) (e ∷ rest)) later) (unmatched (map (λ e. e.0) rest) later) (Some e.0)) above

-- keys above another are not that one
without-lower : (k : Key) (keys others : List Key) → Above k others → filter (is_missing (k ∷ keys)) others ≡ filter (is_missing keys) others
without-lower k keys [] above = refl
without-lower k keys (c ∷ others) above =
    ap (λ t. cond (not (t || list_any (same_key c) keys)) (c ∷ filter (is_missing (k ∷ keys)) others) (filter (is_missing (k ∷ keys)) others)) (apart-back k c above.0)
    ∙ ap (λ rest. cond (is_missing keys c) (c ∷ rest) rest) (without-lower k keys others above.1)

one_fewer : (m n k : ℕ) → m + k ≡ n → m + suc k ≡ suc n
one_fewer m n k e = omega arith

one_more_each : (m n k : ℕ) → m + k ≡ n → suc m + k ≡ suc n
one_more_each m n k e = omega arith

-- where each key is in the other list, the other list has as many keys, and the ones that are missing
pub matched-count : (keys others : List Key) → IsStrictlySortedBy key_cmp keys → IsStrictlySortedBy key_cmp others → unmatched keys others ≡ None → length (filter (is_missing keys) others) + length keys ≡ length others
matched-count [] [] g h none = refl
matched-count [] (c ∷ others) g h none = one_more_each _ _ _ (matched-count [] others g (rising-tail c others h) refl)
matched-count (k ∷ keys) [] g h none = cc
matched-count (k ∷ keys) (c ∷ others) g h none =
    let later = rising-tail c others h in
    let above = rising-head k keys g in
    let rest = filter (is_missing (k ∷ keys)) others in
    elim (key_cmp c k) as (λ o. key_cmp c k ≡ o → by_order o (unmatched (k ∷ keys) others) (unmatched keys others) (Some k) ≡ None → length (filter (is_missing (k ∷ keys)) (c ∷ others)) + suc (length keys) ≡ suc (length others)) [
      | Less ↦ λ is e.
          ap (λ t. length (cond (not t) (c ∷ rest) rest) + suc (length keys)) (not_any c (k ∷ keys) (is, Above-lower c k keys is above))
          ∙ one_more_each _ _ _ (matched-count (k ∷ keys) others g later e)
      | Equal ↦ λ is e.
          ap (λ t. length (cond (not (t || list_any (same_key c) keys)) (c ∷ rest) rest) + suc (length keys)) (ap is_eq is)
          ∙ ap (λ l. length l + suc (length keys)) (without-lower k keys others (subst (λ j. Above j others) (exact_keys c k is) (rising-head c others h)))
          ∙ one_fewer _ _ _ (matched-count keys others (rising-tail k keys g) later e)
      | Greater ↦ λ is e. cc
    ] refl none

-- ---- why settlements by rising keys are refused

-- a conflict has no settlement where its key is missing
unsettled-missing : (settled : List (Key × Side)) (key : Key) → is_none (side_of settled key) ≡ is_missing (map (λ e. e.0) settled) key
unsettled-missing settled key = none_not (side_of settled key) ∙ ap not (entries.is_some-find key_cmp key settled)
  where
    none_not : (o : Option Side) → is_none o ≡ not (is_some o)
    none_not None = refl
    none_not (Some side) = refl

filter-alike : (p q : Key → Bool) (keys : List Key) → ((k : Key) → p k ≡ q k) → filter p keys ≡ filter q keys
filter-alike p q [] is = refl
filter-alike p q (k ∷ keys) is = ap (λ t. cond t (k ∷ filter p keys) (filter p keys)) (is k) ∙ ap (λ rest. cond (q k) (k ∷ rest) rest) (filter-alike p q keys is)

-- what the tests of settlements come to
abbrev refusal_by : Option Key → Option Key → ℕ → Option Refusal
refusal_by twice missing unsettled = option_or (option_map SettledTwice twice) (option_or (option_map NotInConflict missing) (if nat_lt 0 unsettled then Some (Unsettled unsettled) else None))

module _ (settled : List (Key × Side)) (others : List Key) (once : first_repeated [] (map (λ e. e.0) settled) ≡ None) where
  -- the refusal of a key that is in no conflict, where none is settled twice
  pub missing-refused : (k : Key) → find (λ key. not (list_any (same_key key) others)) (map (λ e. e.0) settled) ≡ Some k → settled_refusal settled others ≡ Some (NotInConflict k)
  missing-refused k is =
      let left = length (filter (λ key. is_none (side_of settled key)) others) in
      ap (λ o. refusal_by o (find (is_missing others) (map (λ e. e.0) settled)) left) once
      ∙ ap (λ o. refusal_by None o left) is

  -- no other refusal than the one of conflicts that are left
  pub left-refused : (n : ℕ) → find (λ key. not (list_any (same_key key) others)) (map (λ e. e.0) settled) ≡ None → n ≡ length (filter (λ key. is_none (side_of settled key)) others)
      → settled_refusal settled others ≡ (if nat_lt 0 n then Some (Unsettled n) else None)
  left-refused n is same_number =
      let left = length (filter (λ key. is_none (side_of settled key)) others) in
      ap (λ o. refusal_by o (find (is_missing others) (map (λ e. e.0) settled)) left) once
      ∙ ap (λ o. refusal_by None o left) is
      ∙ ap (refusal_by None None) (sym same_number)

  -- the same, where the sides are found by another look-up
  pub looked_up-refused : (sides : Key → Option Side) (n : ℕ) → ((key : Key) → sides key ≡ side_of settled key)
      → find (λ key. not (list_any (same_key key) others)) (map (λ e. e.0) settled) ≡ None → n ≡ length (filter (λ key. is_none (sides key)) others)
      → settled_refusal settled others ≡ (if nat_lt 0 n then Some (Unsettled n) else None)
  looked_up-refused sides n same_side is count =
      left-refused n is (count ∙ ap (λ (l : List Key). length l) (filter-alike (λ key. is_none (sides key)) (λ key. is_none (side_of settled key)) others (λ key. ap is_none (same_side key))))

module _ (settled : List (Key × Side)) (others : List Key) (g : IsStrictlySortedBy key_cmp (map (λ e. e.0) settled)) (h : IsStrictlySortedBy key_cmp others) where
  -- the settlements and the conflicts that are left are as many as all conflicts
  pub left-count : find (λ key. not (list_any (same_key key) others)) (map (λ e. e.0) settled) ≡ None → length (filter (λ key. is_none (side_of settled key)) others) + length settled ≡ length others
  left-count is =
      let keys : List Key = map (λ e. e.0) settled in
      ap (λ (l : List Key). length l + length settled) (filter-alike (λ key. is_none (side_of settled key)) (is_missing keys) others (unsettled-missing settled))
      ∙ ap (λ n. length (filter (is_missing keys) others) + n) (sym (length-map (λ (e : Key × Side). e.0) settled))
      ∙ matched-count keys others g h (unmatched-find keys others g h ∙ is)

  -- so what is left is known without a search
  pub settled-refused : (n : ℕ) → find (λ key. not (list_any (same_key key) others)) (map (λ e. e.0) settled) ≡ None → n ≡ length others - length settled
      → settled_refusal settled others ≡ (if nat_lt 0 n then Some (Unsettled n) else None)
  settled-refused n is e =
      let count : length (filter (λ key. is_none (side_of settled key)) others) + length settled ≡ length others = left-count is in
      left-refused settled others (none_repeated (map (λ e. e.0) settled) g) n is (omega arith)

-- ---- settlements from a key on

-- the side of a key that is no lower is the same
settled_from-side : (k q : Key) (settled : List (Key × Side)) → ((j : Key) → key_cmp j k ≡ Less → key_cmp j q ≡ Less) → side_of (settled_from k settled) q ≡ side_of settled q
settled_from-side k q [] below = refl
settled_from-side k q (e ∷ settled) below =
    elim (key_cmp e.0 k) as (λ o. key_cmp e.0 k ≡ o → side_of (cond (is_lt o) (settled_from k settled) (e ∷ settled)) q ≡ side_of (e ∷ settled) q) [
      | Less ↦ λ is.
          settled_from-side k q settled below
          ∙ sym (ap (λ t. cond {A = Option Side} t (Some e.1) (side_of settled q)) (apart-back e.0 q (below e.0 is)))
      | Equal ↦ λ is. refl
      | Greater ↦ λ is. refl
    ] refl

-- of the settlements what is taken needs the side of the key alone
taken-side : (s t : List (Key × Side)) (theirs : Change) (own : Option Change) → side_of s theirs.key ≡ side_of t theirs.key → taken s theirs own ≡ taken t theirs own
taken-side s t theirs None is = refl
taken-side s t theirs (Some own) is = ap (λ o. cond {A = Option Change} (same_value own.after theirs.after) None (chosen o theirs own)) is

-- what each change of the parent gives with one's own change and the settlements from its key on, where all three lists rise by keys
abbrev pub three_by_side : List (Key × Side) → List Change → List Change → List Change
three_by_side settled [] mine = []
three_by_side settled (c ∷ theirs) mine =
    cons_option (taken (settled_from c.key settled) c (first_at c.key (from_key c.key mine))) (three_by_side (settled_from c.key settled) theirs (from_key c.key mine))

-- the parent's change at a place gives its part of all; then the next is ahead
pub three_by_side-goes_on : (theirs mine : List Change) (settled unused : List (Key × Side)) (all found new : List Change) (i at next : ℕ) (key : Key) (d : Change) → i < length theirs → key ≡ (get_or theirs i d).key
    → drop next mine ≡ from_key key (drop at mine) → unused ≡ settled_from key settled → all ≡ found ++ three_by_side settled (drop i theirs) (drop at mine)
    → new ≡ found ++ option_to_list (taken unused (get_or theirs i d) (first_at (get_or theirs i d).key (drop next mine)))
    → all ≡ new ++ three_by_side unused (drop (i + 1) theirs) (drop next mine)
three_by_side-goes_on theirs mine settled unused all found new i at next key d lt same_key ahead left so_far adds =
    let t = get_or theirs i d in
    let later = drop (i + 1) theirs in
    let here : drop next mine ≡ from_key t.key (drop at mine) = subst (λ k. drop next mine ≡ from_key k (drop at mine)) same_key ahead in
    let used : unused ≡ settled_from t.key settled = subst (λ k. unused ≡ settled_from k settled) same_key left in
    so_far
    ∙ ap (λ changes. found ++ three_by_side settled changes (drop at mine)) (drop_more theirs i d lt)
    ∙ ap₂ (λ s own. found ++ cons_option (taken s t (first_at t.key own)) (three_by_side s later own)) (sym used) (sym here)
    ∙ appended found (taken unused t (first_at t.key (drop next mine))) (three_by_side unused later (drop next mine))
    ∙ ap (λ xs. xs ++ three_by_side unused later (drop next mine)) (sym adds)

module _ (m n : Map) (all : List (Key × Side)) where
  -- it is what it gives with all settlements
  three_by_side-listed : (x : Map) (settled : List (Key × Side)) (mine : List Change) → IsMap x → ((q : Key) → list_any (same_key q) (map (λ r. r.0) x) ≡ true → side_of settled q ≡ side_of all q)
      → three_by_side settled (filter_map (change_at m n) (map (λ r. r.0) x)) mine ≡ side_by_side (taken all) (filter_map (change_at m n) (map (λ r. r.0) x)) mine
  three_by_side-listed [] settled mine h is = refl
  three_by_side-listed (r ∷ x) settled mine h is =
      let keys = map (λ r. r.0) x in
      let rest = filter_map (change_at m n) keys in
      let later : (q : Key) → list_any (same_key q) keys ≡ true → side_of settled q ≡ side_of all q = λ q any. is q (or_true_right (same_key q r.0) _ any) in
      elim (change_at m n r.0) as (λ o. change_at m n r.0 ≡ o → three_by_side settled (cons_option o rest) mine ≡ side_by_side (taken all) (cons_option o rest) mine) [
        | None ↦ λ none. three_by_side-listed x settled mine (IsMap-tail r x h) later
        | Some c ↦ λ some.
            let key : c.key ≡ r.0 = key-change_at m n r.0 c some in
            let here : side_of settled c.key ≡ side_of all c.key = subst (λ k. side_of settled k ≡ side_of all k) (sym key) (is r.0 (or_true_left _ _ (ap is_eq (tied_itself keys_total r.0)))) in
            ap (λ o. cons_option o (three_by_side (settled_from c.key settled) rest (from_key c.key mine)))
            (taken-side (settled_from c.key settled) all c (first_at c.key (from_key c.key mine)) (settled_from-side c.key c.key settled (λ j e. e) ∙ here))
            ∙ ap (cons_option (taken all c (first_at c.key (from_key c.key mine))))
            (three_by_side-listed x (settled_from c.key settled) (from_key c.key mine) (IsMap-tail r x h) (λ q any.
            settled_from-side c.key q settled (λ j e. keys_total.trans j r.0 q (subst (λ k. key_cmp j k ≡ Less) key e) (above_all r.0 q x (is_below-head r x h) any)) ∙ later q any))
      ] refl

-- beside all differences of two maps
pub three_by_side-delta : (m n : Map) (settled : List (Key × Side)) (mine : List Change) → IsMap n → three_by_side settled (delta m n) mine ≡ side_by_side (taken settled) (delta m n) mine
three_by_side-delta m n settled mine h = three_by_side-listed m n settled (over m n) settled mine (IsMap-over m n h) (λ q any. refl)

-- ---- a search by halves

-- where keys rise, each is at most level with the next, beside any key
rising-searchable : (key : Key) (keys : List Key) → IsStrictlySortedBy key_cmp keys → IsNonDecreasingBy (λ k. ordering_index (key_cmp k key)) keys
rising-searchable key keys rises =
    searchable_from_sorted keys_total (λ k. k) keys key (λ k d _ lt.
    let less = Less-from_sorted key_cmp keys k (k + 1) d rises (omega arith) lt in
    ap is_lt (keys_total.antisymm (get_or keys (k + 1) d) (get_or keys k d) ∙ ap ordering_reverse less))

-- it finds a key that is there
searched-found : (key : Key) (keys : List Key) (i : ℕ) → i < length keys → HoldsAt (λ k. key_cmp k key ≡ Equal) keys i → list_any (same_key key) keys ≡ true
searched-found key [] i lt found = absurd (omega (arith, lt))
searched-found key (x ∷ xs) i lt found =
    let all = x ∷ xs in
    list_any_at (same_key key) all i x lt (same (get_or all i x) key (found x))

-- and no other
searched-missing : (key : Key) (keys : List Key) (i : ℕ) → IsStrictlySortedBy key_cmp keys
    → (IsNonDecreasingBy (λ k. ordering_index (key_cmp k key)) keys → IsPartitionPoint (λ k. key_cmp k key ≡ Less) (λ k. key_cmp k key ≡ Greater) keys i)
    → list_any (same_key key) keys ≡ false
searched-missing key keys i rises parted =
    let parts = parted (rising-searchable key keys rises) in
    list_any_none (same_key key) keys (λ k d lt. ⊎_elim
    (λ below. apart-back (get_or keys k d) key (parts.0 k d (omega arith) below))
    (λ above. ap is_eq (keys_total.antisymm key (get_or keys k d) ∙ ap ordering_reverse (parts.1 k d above lt)))
    (cases_lt k i))

-- so it answers as a search of each does
pub searched-any : (key : Key) (keys : List Key) (r : Result ℕ ℕ) → IsStrictlySortedBy key_cmp keys → IsSearchInRange r (length keys) → IsBinarySearchResult (λ k. key_cmp k key) keys r → list_any (same_key key) keys ≡ is_ok r
searched-any key keys (Ok i) rises range found = searched-found key keys i range found
searched-any key keys (Err i) rises range parted = searched-missing key keys i rises parted
