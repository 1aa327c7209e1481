-- What the words of the cache's map give for the blocks that are kept.
use Rattle.std.proofs.Common.{◌≡◌, ◌≢◌, ℕ, zero, suc, ◌-◌, ◌<◌, Bool, true, false, cond, if◌then◌else◌, List, [], ◌∷◌, map, take, is_some, option_map, slice_get, Option, Some, None, nat_eq, refl, sym, ◌∙◌, ap, subst, eqb-true, ne_eqb, eq-eqb, arith}
use Rattle.std.specs.Option.{option_map_or}
use Rattle.std.specs.Bool.{OnTrue, OnFalse}
use Rattle.std.specs.Map.{keys_of, lookup, lookup_entry, remove_entry, set_value}
use Rattle.std.specs.List.{IsDistinct}
use Rattle.std.specs.Cmp.{nat_eq_equiv}
use Rattle.std.proofs.lemmas.Bool.{cond-true, cond-false}
use Rattle.std.proofs.lemmas.Map.{lookup-remove_entry}
use Rattle.lru.specs.LruCache.{LruCache, lru_cache, promoted, put_entries}
use Rattle.vm_disk.specs.declared.kept.Kept.{Kept}
use Rattle.vm_disk.specs.Kept.{Entries, UsesBlock, entries_of, first_in, first_or, keeps, limit_of, refusals_in, with_first}

-- either answer of a test
pub by_answer : {P : Type 0} (b : Bool) → (b ≡ true → P) → (b ≡ false → P) → P
by_answer true p q = p refl
by_answer false p q = q refl

pub cond_yes : {A : Type 0} {b : Bool} (x y : A) → b ≡ true → cond b x y ≡ x
cond_yes {A} {b} x y h = cond-true b x y h

pub cond_no : {A : Type 0} {b : Bool} (x y : A) → b ≡ false → cond b x y ≡ y
cond_no {A} {b} x y h = cond-false b x y h

-- entries, with f of each value
module _ {V : Type 0} (f : V → List ℕ) where
  abbrev pub view : List (ℕ × V) → Entries
  view es = map (λ e. (e.0, f e.1)) es

  pub lookup_view : (test : ℕ → Bool) (es : List (ℕ × V)) → lookup test (view es) ≡ option_map f (lookup test es)
  lookup_view test [] = refl
  lookup_view test (e ∷ es) = by_answer (test e.0)
      (λ y. cond_yes _ _ y ∙ sym (ap (option_map f) (cond_yes (Some e.1) (lookup test es) y)))
      (λ n. cond_no _ _ n ∙ lookup_view test es ∙ sym (ap (option_map f) (cond_no (Some e.1) (lookup test es) n)))

  pub remove_view : (test : ℕ → Bool) (es : List (ℕ × V)) → remove_entry test (view es) ≡ view (remove_entry test es)
  remove_view test [] = refl
  remove_view test (e ∷ es) = by_answer (test e.0)
      (λ y. cond_yes _ _ y ∙ sym (ap view (cond_yes es (e ∷ remove_entry test es) y)))
      (λ n. cond_no _ _ n ∙ ap (λ l. (e.0, f e.1) ∷ l) (remove_view test es) ∙ sym (ap view (cond_no es (e ∷ remove_entry test es) n)))

  pub take_view : (m : ℕ) (es : List (ℕ × V)) → take m (view es) ≡ view (take m es)
  take_view zero es = refl
  take_view (suc m) [] = refl
  take_view (suc m) (e ∷ es) = ap (λ l. (e.0, f e.1) ∷ l) (take_view m es)

  -- what a look-up finds, by the entry
  pub found_entry : (n : ℕ) (es : List (ℕ × V)) (v : V) → lookup (nat_eq n) es ≡ Some v → lookup_entry (nat_eq n) es ≡ Some (n, v)
  found_entry n [] v h = cc
  found_entry n (e ∷ es) v h = by_answer (nat_eq n e.0)
      (λ y. let same : Some e.1 ≡ Some v = sym (cond_yes (Some e.1) (lookup (nat_eq n) es) y) ∙ h in
      let here : n ≡ e.0 = eqb-true n e.0 y in
      let pair : (e.0, e.1) ≡ (n, v) = cc in
      cond_yes _ _ y ∙ ap Some pair)
      (λ z. cond_no _ _ z ∙ found_entry n es v (sym (cond_no (Some e.1) (lookup (nat_eq n) es) z) ∙ h))

  pub missed_entry : (n : ℕ) (es : List (ℕ × V)) → lookup (nat_eq n) es ≡ None → lookup_entry (nat_eq n) es ≡ None
  missed_entry n [] h = refl
  missed_entry n (e ∷ es) h = by_answer (nat_eq n e.0)
      (λ y. let same : Some e.1 ≡ None = sym (cond_yes (Some e.1) (lookup (nat_eq n) es) y) ∙ h in cc)
      (λ z. cond_no _ _ z ∙ missed_entry n es (sym (cond_no (Some e.1) (lookup (nat_eq n) es) z) ∙ h))

  pub promoted_found : (n : ℕ) (es : List (ℕ × V)) (v : V) → lookup (nat_eq n) es ≡ Some v → promoted (nat_eq n) es ≡ (n, v) ∷ remove_entry (nat_eq n) es
  promoted_found n es v h = ap (λ o. option_map_or (λ e. e ∷ remove_entry (nat_eq n) es) o es) (found_entry n es v h)

  pub promoted_missed : (n : ℕ) (es : List (ℕ × V)) → lookup (nat_eq n) es ≡ None → promoted (nat_eq n) es ≡ es
  promoted_missed n es h = ap (λ o. option_map_or (λ e. e ∷ remove_entry (nat_eq n) es) o es) (missed_entry n es h)

  -- a kept block that comes first
  first_found : (limit n : ℕ) (bytes : List ℕ) (es : List (ℕ × V)) (v : V) → lookup (nat_eq n) es ≡ Some v
      → with_first limit n bytes (view es) ≡ (n, bytes) ∷ view (remove_entry (nat_eq n) es)
  first_found limit n bytes es v h =
      let there : keeps n (view es) ≡ true = ap is_some (lookup_view (nat_eq n) es ∙ ap (option_map f) h) in
      ap (λ b. (n, bytes) ∷ (if b then remove_entry (nat_eq n) (view es) else take (limit - 1) (view es))) there
      ∙ ap (λ l. (n, bytes) ∷ l) (remove_view (nat_eq n) es)

  first_missed : (limit n : ℕ) (bytes : List ℕ) (es : List (ℕ × V)) → lookup (nat_eq n) es ≡ None
      → with_first limit n bytes (view es) ≡ (n, bytes) ∷ view (take (limit - 1) es)
  first_missed limit n bytes es h =
      let gone : keeps n (view es) ≡ false = ap is_some (lookup_view (nat_eq n) es ∙ ap (option_map f) h) in
      ap (λ b. (n, bytes) ∷ (if b then remove_entry (nat_eq n) (view es) else take (limit - 1) (view es))) gone
      ∙ ap (λ l. (n, bytes) ∷ l) (take_view (limit - 1) es)

  -- after a look-up that found it
  pub view_promoted : (limit n : ℕ) (es : List (ℕ × V)) (v : V) → lookup (nat_eq n) es ≡ Some v → view (promoted (nat_eq n) es) ≡ with_first limit n (f v) (view es)
  view_promoted limit n es v h = ap view (promoted_found n es v h) ∙ sym (first_found limit n (f v) es v h)

  -- after a look-up to write
  pub view_written : (limit n : ℕ) (es : List (ℕ × V)) (v w : V) → lookup (nat_eq n) es ≡ Some v → view (set_value (nat_eq n) (promoted (nat_eq n) es) w) ≡ with_first limit n (f w) (view es)
  view_written limit n es v w h =
      ap (λ l. view (set_value (nat_eq n) l w)) (promoted_found n es v h)
      ∙ ap view (cond_yes ((n, w) ∷ remove_entry (nat_eq n) es) ((n, v) ∷ set_value (nat_eq n) (remove_entry (nat_eq n) es) w) (eq-eqb n n refl))
      ∙ sym (first_found limit n (f w) es v h)

  -- after `push`
  pub view_pushed : (c : LruCache ℕ V) (n : ℕ) (v : V) → view (put_entries nat_eq c n v) ≡ with_first c.cap n (f v) (view c.entries)
  view_pushed c n v = by_entry (lookup (nat_eq n) c.entries) refl
    where
      after : Option (ℕ × V) → List (ℕ × V)
      after o = option_map_or (λ e. (e.0, v) ∷ remove_entry (nat_eq n) c.entries) o ((n, v) ∷ take (c.cap - 1) c.entries)

      by_entry : (o : Option V) → lookup (nat_eq n) c.entries ≡ o → view (put_entries nat_eq c n v) ≡ with_first c.cap n (f v) (view c.entries)
      by_entry (Some old) h = ap (λ o. view (after o)) (found_entry n c.entries old h) ∙ sym (first_found c.cap n (f v) c.entries old h)
      by_entry None h = ap (λ o. view (after o)) (missed_entry n c.entries h) ∙ sym (first_missed c.cap n (f v) c.entries h)

  -- after `pop`, where a key comes once
  pub view_removed : (n : ℕ) (es : List (ℕ × V)) → IsDistinct nat_eq (keys_of es) → keeps n (view (remove_entry (nat_eq n) es)) ≡ false
  view_removed n es distinct =
      ap is_some (lookup_view (nat_eq n) (remove_entry (nat_eq n) es)
      ∙ ap (option_map f) (lookup-remove_entry nat_eq_equiv (nat_eq n) (λ x y. nat_eq_equiv.congr n x y) n es distinct ∙ cond_yes None (lookup (nat_eq n) es) (eq-eqb n n refl)))

-- what a look-up of another block finds, and of one among the first
pub lookup_others : (n k : ℕ) (es : Entries) → k ≢ n → lookup (nat_eq k) (remove_entry (nat_eq n) es) ≡ lookup (nat_eq k) es
lookup_others n k [] apart = refl
lookup_others n k (e ∷ es) apart = by_answer (nat_eq n e.0)
    (λ y. let other : nat_eq k e.0 ≡ false = ne_eqb k e.0 (λ same. apart (same ∙ sym (eqb-true n e.0 y))) in
    ap (lookup (nat_eq k)) (cond_yes es (e ∷ remove_entry (nat_eq n) es) y) ∙ sym (cond_no _ _ other))
    (λ z. ap (lookup (nat_eq k)) (cond_no es (e ∷ remove_entry (nat_eq n) es) z) ∙ ap (cond (nat_eq k e.0) (Some e.1)) (lookup_others n k es apart))

pub lookup_taken : (m k : ℕ) (bytes : List ℕ) (es : Entries) → lookup (nat_eq k) (take m es) ≡ Some bytes → lookup (nat_eq k) es ≡ Some bytes
lookup_taken zero k bytes es h = cc
lookup_taken (suc m) k bytes [] h = cc
lookup_taken (suc m) k bytes (e ∷ es) h = by_answer (nat_eq k e.0)
    (λ y. cond_yes _ _ y ∙ sym (cond_yes (Some e.1) (lookup (nat_eq k) (take m es)) y) ∙ h)
    (λ z. cond_no _ _ z ∙ lookup_taken m k bytes es (sym (cond_no (Some e.1) (lookup (nat_eq k) (take m es)) z) ∙ h))

pub lookup_rest : (limit n k : ℕ) (bytes : List ℕ) (es : Entries) (b : Bool) → k ≢ n
    → lookup (nat_eq k) (if b then remove_entry (nat_eq n) es else take (limit - 1) es) ≡ Some bytes → lookup (nat_eq k) es ≡ Some bytes
lookup_rest limit n k bytes es true apart h = sym (lookup_others n k es apart) ∙ h
lookup_rest limit n k bytes es false apart h = lookup_taken (limit - 1) k bytes es h

-- each of them is one of so many blocks, and has the bytes that f gives for it
abbrev pub AreBy : (ℕ → List ℕ) → ℕ → Entries → Type 0
AreBy f size entries = (n : ℕ) (bytes : List ℕ) → lookup (nat_eq n) entries ≡ Some bytes → (n < size) × (bytes ≡ f n)

-- the bytes differ at block n alone
module _ (old new : ℕ → List ℕ) (size size' n : ℕ) (count : size' ≡ size) (others : (k : ℕ) → k ≢ n → new k ≡ old k) where
  -- block n comes first with its new bytes
  pub first_are_by : (limit : ℕ) (bytes : List ℕ) (es : Entries) → n < size' → new n ≡ bytes → AreBy old size es → AreBy new size' (with_first limit n bytes es)
  first_are_by limit bytes es inside written were k kept h = by_answer (nat_eq k n)
      (λ y. let here : k ≡ n = eqb-true k n y in
      let same : Some bytes ≡ Some kept = sym (cond_yes _ _ y) ∙ h in
      let bytes_are : bytes ≡ kept = cc in
      (omega arith, sym bytes_are ∙ sym written ∙ ap new (sym here)))
      (λ z. let apart : k ≢ n = λ same. true_not_false (sym (eq-eqb k n same) ∙ z) in
      let was = were k kept (lookup_rest limit n k kept es (keeps n es) apart (sym (cond_no _ _ z) ∙ h)) in
      (omega (arith, was.0, count), was.1 ∙ sym (others k apart)))
    where
      true_not_false : true ≡ false → ⊥
      true_not_false e = cc

  -- block n is not kept
  pub others_are_by : (es : Entries) → keeps n es ≡ false → AreBy old size es → AreBy new size' es
  others_are_by es gone were k kept h =
      let was = were k kept h in (
        omega (arith, was.0, count),
        was.1 ∙ sym (others k (λ here.
            let there : true ≡ false = sym (ap is_some (ap (λ m. lookup (nat_eq m) es) (sym here) ∙ h)) ∙ gone in cc)),
      )

  -- and is kept no longer
  pub rest_are_by : (es : Entries) → keeps n (remove_entry (nat_eq n) es) ≡ false → AreBy old size es → AreBy new size' (remove_entry (nat_eq n) es)
  rest_are_by es gone were = others_are_by (remove_entry (nat_eq n) es) gone less
    where
      less : AreBy old size (remove_entry (nat_eq n) es)
      less k kept h = by_answer (nat_eq k n)
          (λ y. let there : true ≡ false = sym (ap is_some (ap (λ m. lookup (nat_eq m) (remove_entry (nat_eq n) es)) (sym (eqb-true k n y)) ∙ h)) ∙ gone in absurd cc)
          (λ z. let apart : k ≢ n = λ same. (let clash : true ≡ false = sym (eq-eqb k n same) ∙ z in cc) in were k kept (sym (lookup_others n k es apart) ∙ h))

  -- block n was used and has its new bytes
  pub used_are_by : (bytes : List ℕ) (was is : Kept) → n < size' → new n ≡ bytes → UsesBlock n bytes was is → AreBy old size (entries_of was) → AreBy new size' (entries_of is)
  used_are_by bytes was is inside written uses were = by_answer (nat_eq (refusals_in is) (refusals_in was))
      (λ y. subst (AreBy new size') (sym (uses.kept (eqb-true (refusals_in is) (refusals_in was) y)))
      (first_are_by (limit_of was) bytes (entries_of was) inside written were))
      (λ z. let more : refusals_in is ≢ refusals_in was = λ same. (let clash : true ≡ false = sym (eq-eqb (refusals_in is) (refusals_in was) same) ∙ z in cc) in
      subst (AreBy new size') (sym (uses.refused more)) (others_are_by (entries_of was) (not_kept more) were))
    where
      not_kept : refusals_in is ≢ refusals_in was → keeps n (entries_of was) ≡ false
      not_kept more = by_answer (keeps n (entries_of was)) (λ y. absurd (more (uses.known y))) (λ z. z)

-- what the calls of the cache's map leave
module _ {V : Type 0} (f : V → List ℕ) (n : ℕ) where
  pub kept_found : (es : List (ℕ × V)) (v : V) → lookup (nat_eq n) es ≡ Some v → keeps n (view f es) ≡ true
  kept_found es v h = ap is_some (lookup_view f (nat_eq n) es ∙ ap (option_map f) h)

  pub kept_missed : (es : List (ℕ × V)) → lookup (nat_eq n) es ≡ None → keeps n (view f es) ≡ false
  kept_missed es h = ap is_some (lookup_view f (nat_eq n) es ∙ ap (option_map f) h)

  pub after_found : (before after : LruCache ℕ V) (v : V) (bytes : List ℕ) → after ≡ lru_cache (promoted (nat_eq n) before.entries) before.cap
      → lookup (nat_eq n) before.entries ≡ Some v → bytes ≡ f v → view f after.entries ≡ with_first before.cap n bytes (view f before.entries)
  after_found before after v bytes is found copied =
      ap (λ (c : LruCache ℕ V). view f c.entries) is
      ∙ view_promoted f before.cap n before.entries v found
      ∙ ap (λ (b : List ℕ). with_first before.cap n b (view f before.entries)) (sym copied)

  pub after_missed : (before after : LruCache ℕ V) → after ≡ lru_cache (promoted (nat_eq n) before.entries) before.cap
      → lookup (nat_eq n) before.entries ≡ None → view f after.entries ≡ view f before.entries
  after_missed before after is missed =
      ap (λ (c : LruCache ℕ V). view f c.entries) is ∙ ap (view f) (promoted_missed f n before.entries missed)

  pub after_push : (first before after : LruCache ℕ V) (v : V) (bytes : List ℕ) → after ≡ lru_cache (put_entries nat_eq before n v) before.cap
      → before ≡ first → f v ≡ bytes → view f after.entries ≡ with_first first.cap n bytes (view f first.entries)
  after_push first before after v bytes is same filled =
      ap (λ (c : LruCache ℕ V). view f c.entries) is
      ∙ view_pushed f before n v
      ∙ ap (λ (b : List ℕ). with_first before.cap n b (view f before.entries)) filled
      ∙ ap (λ (c : LruCache ℕ V). with_first c.cap n bytes (view f c.entries)) same

  pub after_pop : (before after : LruCache ℕ V) → after ≡ lru_cache (remove_entry (nat_eq n) before.entries) before.cap
      → view f after.entries ≡ remove_entry (nat_eq n) (view f before.entries)
  after_pop before after is = ap (λ (c : LruCache ℕ V). view f c.entries) is ∙ sym (remove_view f (nat_eq n) before.entries)

  pub gone_after_pop : (before after : LruCache ℕ V) → after ≡ lru_cache (remove_entry (nat_eq n) before.entries) before.cap
      → IsDistinct nat_eq (keys_of before.entries) → keeps n (view f after.entries) ≡ false
  gone_after_pop before after is distinct =
      ap (λ (c : LruCache ℕ V). keeps n (view f c.entries)) is ∙ view_removed f n before.entries distinct

  -- the first bytes
  pub first_view : (es : List (ℕ × V)) → first_in (view f es) ≡ option_map f (option_map (λ e. e.1) (slice_get es 0))
  first_view [] = refl
  first_view (e ∷ es) = refl

  pub promoted_keeps : (before after : LruCache ℕ V) (found : Bool) → after ≡ lru_cache (promoted (nat_eq n) before.entries) before.cap
      → found ≡ is_some (lookup (nat_eq n) before.entries) → found ≡ keeps n (view f before.entries)
  promoted_keeps before after found is answer = answer ∙ by_found (lookup (nat_eq n) before.entries) refl
    where
      by_found : (o : Option V) → lookup (nat_eq n) before.entries ≡ o → is_some (lookup (nat_eq n) before.entries) ≡ keeps n (view f before.entries)
      by_found (Some v) h = ap is_some h ∙ sym (kept_found before.entries v h)
      by_found None h = ap is_some h ∙ sym (kept_missed before.entries h)

  -- after the key was used, where it is there
  module _ (before after : LruCache ℕ V) (is : after ≡ lru_cache (promoted (nat_eq n) before.entries) before.cap) where
    first_promoted : (v : V) → lookup (nat_eq n) before.entries ≡ Some v → first_or [] (view f after.entries) ≡ f v
    first_promoted v h = ap (λ (c : LruCache ℕ V). first_or [] (view f c.entries)) is ∙ ap (λ (es : List (ℕ × V)). first_or [] (view f es)) (promoted_found f n before.entries v h)

    pub promoted_first : is_some (lookup (nat_eq n) before.entries) ≡ true
        → view f after.entries ≡ with_first before.cap n (first_or [] (view f after.entries)) (view f before.entries)
    promoted_first there = by_found (lookup (nat_eq n) before.entries) refl
      where
        by_found : (o : Option V) → lookup (nat_eq n) before.entries ≡ o → view f after.entries ≡ with_first before.cap n (first_or [] (view f after.entries)) (view f before.entries)
        by_found (Some v) h = after_found before after v (first_or [] (view f after.entries)) is h (first_promoted v h)
        by_found None h = let clash : false ≡ true = sym (ap is_some h) ∙ there in absurd cc

    pub promoted_lookup : is_some (lookup (nat_eq n) before.entries) ≡ true → lookup (nat_eq n) (view f before.entries) ≡ Some (first_or [] (view f after.entries))
    promoted_lookup there = by_found (lookup (nat_eq n) before.entries) refl
      where
        by_found : (o : Option V) → lookup (nat_eq n) before.entries ≡ o → lookup (nat_eq n) (view f before.entries) ≡ Some (first_or [] (view f after.entries))
        by_found (Some v) h = lookup_view f (nat_eq n) before.entries ∙ ap (option_map f) h ∙ ap Some (sym (first_promoted v h))
        by_found None h = let clash : false ≡ true = sym (ap is_some h) ∙ there in absurd cc

    pub promoted_same : is_some (lookup (nat_eq n) before.entries) ≡ false → view f after.entries ≡ view f before.entries
    promoted_same gone = by_found (lookup (nat_eq n) before.entries) refl
      where
        by_found : (o : Option V) → lookup (nat_eq n) before.entries ≡ o → view f after.entries ≡ view f before.entries
        by_found (Some v) h = let clash : true ≡ false = sym (ap is_some h) ∙ gone in absurd cc
        by_found None h = after_missed before after is h

pub on_true : {P : Type 0} (b : Bool) → (b ≡ true → P) → OnTrue b P
on_true true h = h refl
on_true false h = tt

pub on_false : {P : Type 0} (b : Bool) → (b ≡ false → P) → OnFalse b P
on_false true h = tt
on_false false h = h refl
