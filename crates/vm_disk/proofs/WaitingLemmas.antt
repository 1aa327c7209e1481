-- What the calls of the map leave of the blocks that wait.
use Rattle.std.proofs.Common.{◌≡◌, ◌≢◌, ◌⊎◌, inl, inr, ℕ, zero, suc, ◌-◌, ◌<◌, ◌≤◌, ◌||◌, Bool, true, false, if◌then◌else◌, List, [], ◌∷◌, length, take, is_some, option_map, Option, Some, None, nat_eq, nat_lt, slice_get, refl, sym, ap, ◌∙◌, eqb-true, ne_eqb, eq-eqb, arith}
use Rattle.std.specs.Map.{lookup, remove_entry, update}
use Rattle.std.proofs.lemmas.Bool.{ltb-true}
use Rattle.std.proofs.lemmas.List.{take_all}
use Rattle.std.proofs.lemmas.Option.{slice_get-get_or}
use Rattle.std.proofs.lemmas.Bool.{or_left}
use Rattle.std.proofs.lemmas.List.{length-map}
use Rattle.lru.specs.LruCache.{LruCache, last_entry, lru_cache, promoted}
use Rattle.vm_disk.specs.Kept.{Entries, first_in, first_or, keeps, with_first}
use Rattle.vm_disk.proofs.KeptLemmas.{by_answer, cond_yes, cond_no, view, lookup_view, lookup_others, lookup_rest, lookup_taken, promoted_first, promoted_lookup, promoted_same, take_view}

other : (n k : ℕ) → nat_eq n k ≡ false → k ≢ n
other n k z same = let clash : true ≡ false = sym (eq-eqb n k (sym same)) ∙ z in cc

-- block n is the first, and none goes
pub first_found : (limit count n : ℕ) (bytes : List ℕ) (es : Entries) → length es ≡ count → (keeps n es || nat_lt count limit) ≡ true
    → (k : ℕ) → lookup (nat_eq k) (with_first limit n bytes es) ≡ update nat_eq (λ j. lookup (nat_eq j) es) n (Some bytes) k
first_found limit count n bytes es many place k = by_answer (nat_eq n k)
    (λ y. cond_yes _ _ (eq-eqb k n (sym (eqb-true n k y))) ∙ sym (cond_yes _ _ y))
    (λ z. cond_no _ _ (ne_eqb k n (other n k z)) ∙ by_answer (keeps n es)
    (λ there. ap (lookup (nat_eq k)) (cond_yes _ _ there) ∙ lookup_others n k es (other n k z))
    (λ gone. ap (lookup (nat_eq k)) (cond_no _ _ gone ∙ take_all (limit - 1) es (few gone))) ∙ sym (cond_no _ _ z))
  where
    few : keeps n es ≡ false → length es ≤ limit - 1
    few gone =
        let less = ltb-true count limit (sym (ap (λ b. b || nat_lt count limit) gone) ∙ place) in omega (arith, less, many)

-- block n is no longer there
pub others_found : (n : ℕ) (es : Entries) → keeps n (remove_entry (nat_eq n) es) ≡ false
    → (k : ℕ) → lookup (nat_eq k) (remove_entry (nat_eq n) es) ≡ update nat_eq (λ j. lookup (nat_eq j) es) n None k
others_found n es gone k = by_answer (nat_eq n k)
    (λ y. none (lookup (nat_eq k) (remove_entry (nat_eq n) es)) (ap (λ j. keeps j (remove_entry (nat_eq n) es)) (sym (eqb-true n k y)) ∙ gone) ∙ sym (cond_yes _ _ y))
    (λ z. lookup_others n k es (other n k z) ∙ sym (cond_no _ _ z))
  where
    none : (o : Option (List ℕ)) → is_some o ≡ false → o ≡ None
    none None h = refl
    none (Some bytes) h = cc

-- where some wait no longer, none waits that did not before
pub none_left : (b : Bool) (o : Option (List ℕ)) → is_some o ≡ false → is_some (if b then None else o) ≡ false
none_left true o h = refl
none_left false o h = h

-- each block that is left is another one, and was there
pub left_there : (n : ℕ) (es es' : Entries) → es' ≡ remove_entry (nat_eq n) es → keeps n es' ≡ false
    → (k : ℕ) (bytes : List ℕ) → lookup (nat_eq k) es' ≡ Some bytes → (nat_eq n k ≡ false) × (lookup (nat_eq k) es ≡ Some bytes)
left_there n es es' is gone k bytes h = by_answer (nat_eq n k)
    (λ y. let clash : true ≡ false = sym (ap is_some (ap (λ j. lookup (nat_eq j) es') (eqb-true n k y) ∙ h)) ∙ gone in absurd cc)
    (λ z. (z, sym (lookup_others n k es (other n k z)) ∙ ap (lookup (nat_eq k)) (sym is) ∙ h))

-- each is block n, with its new bytes, or another one that was there
pub first_or_there : (limit n : ℕ) (bytes : List ℕ) (es es' : Entries) → es' ≡ with_first limit n bytes es
    → (k : ℕ) (kept : List ℕ) → lookup (nat_eq k) es' ≡ Some kept
    → ((nat_eq n k ≡ true) × (kept ≡ bytes)) ⊎ ((nat_eq n k ≡ false) × (lookup (nat_eq k) es ≡ Some kept))
first_or_there limit n bytes es es' is k kept h =
    let found = ap (lookup (nat_eq k)) (sym is) ∙ h in by_answer (nat_eq n k)
    (λ y. let same : Some bytes ≡ Some kept = sym (cond_yes _ _ (eq-eqb k n (sym (eqb-true n k y)))) ∙ found in
    let bytes_are : kept ≡ bytes = cc in inl (y, bytes_are))
    (λ z. inr (z, lookup_rest limit n k kept es (keeps n es) (other n k z) (sym (cond_no _ _ (ne_eqb k n (other n k z))) ∙ found)))

module _ {V : Type 0} (f : V → List ℕ) where
  -- after block n was used, each is there as before
  pub promoted_there : (n : ℕ) (before after : LruCache ℕ V) → after ≡ lru_cache (promoted (nat_eq n) before.entries) before.cap
      → (k : ℕ) → lookup (nat_eq k) (view f after.entries) ≡ lookup (nat_eq k) (view f before.entries)
  promoted_there n before after is k = by_answer (is_some (lookup (nat_eq n) before.entries)) there
      (λ gone. ap (lookup (nat_eq k)) (promoted_same f n before after is gone))
    where
      es : Entries
      es = view f before.entries

      bytes : List ℕ
      bytes = first_or [] (view f after.entries)

      unchanged : lookup (nat_eq n) es ≡ Some bytes → update nat_eq (λ j. lookup (nat_eq j) es) n (Some bytes) k ≡ lookup (nat_eq k) es
      unchanged found = by_answer (nat_eq n k)
          (λ y. cond_yes _ _ y ∙ sym found ∙ ap (λ j. lookup (nat_eq j) es) (eqb-true n k y))
          (λ z. cond_no _ _ z)

      there : is_some (lookup (nat_eq n) before.entries) ≡ true → lookup (nat_eq k) (view f after.entries) ≡ lookup (nat_eq k) es
      there h =
          let found = promoted_lookup f n before after is h in
          ap (lookup (nat_eq k)) (promoted_first f n before after is h)
          ∙ first_found before.cap (length before.entries) n bytes es (length-map before.entries _) (or_left _ _ (ap (λ (o : Option (List ℕ)). is_some o) found)) k
          ∙ unchanged found

  -- and it is the first one
  pub promoted_to_front : (n : ℕ) (before after : LruCache ℕ V) → after ≡ lru_cache (promoted (nat_eq n) before.entries) before.cap
      → is_some (lookup (nat_eq n) before.entries) ≡ true → first_in (view f after.entries) ≡ lookup (nat_eq n) (view f before.entries)
  promoted_to_front n before after is there =
      ap (λ (es : Entries). first_in es) (promoted_first f n before after is there) ∙ sym (promoted_lookup f n before after is there)

  -- each of the first ones was there
  pub taken_there : (m : ℕ) (es : List (ℕ × V)) (k : ℕ) (bytes : List ℕ) → lookup (nat_eq k) (view f (take m es)) ≡ Some bytes → lookup (nat_eq k) (view f es) ≡ Some bytes
  taken_there m es k bytes h = lookup_taken m k bytes (view f es) (ap (lookup (nat_eq k)) (take_view f m es) ∙ h)

  mapped : (o : Option V) → is_some (option_map f o) ≡ is_some o
  mapped None = refl
  mapped (Some v) = refl

  -- whether a block is there
  pub kept_same : (n : ℕ) (es : List (ℕ × V)) → keeps n (view f es) ≡ is_some (lookup (nat_eq n) es)
  kept_same n es = ap is_some (lookup_view f (nat_eq n) es) ∙ mapped (lookup (nat_eq n) es)

  found_at : (es : List (ℕ × V)) (i k : ℕ) (v : V) → slice_get es i ≡ Some (k, v) → is_some (lookup (nat_eq k) es) ≡ true
  found_at [] i k v h = cc
  found_at (e ∷ es) zero k v h =
      let same : e ≡ (k, v) = cc in ap is_some (cond_yes _ _ (eq-eqb k e.0 (sym (ap (λ p. p.0) same))))
  found_at (e ∷ es) (suc i) k v h = by_answer (nat_eq k e.0)
      (λ y. ap is_some (cond_yes _ _ y))
      (λ z. ap is_some (cond_no _ _ z) ∙ found_at es i k v h)

  -- the last one is there
  pub last_kept : (es : List (ℕ × V)) (k : ℕ) (v : V) → last_entry es ≡ Some (k, v) → keeps k (view f es) ≡ true
  last_kept es k v h = kept_same k es ∙ found_at es (length es - 1) k v h

  -- where there is no last one, there is none
  pub none_kept : (es : List (ℕ × V)) → last_entry es ≡ None → (n : ℕ) → keeps n (view f es) ≡ false
  none_kept [] h n = refl
  none_kept (e ∷ es) h n =
      let last = slice_get-get_or (e ∷ es) (length (e ∷ es) - 1) e (omega arith) in let clash = sym last ∙ h in cc

  one_less : (n : ℕ) (es : List (ℕ × V)) → is_some (lookup (nat_eq n) es) ≡ true → length (remove_entry (nat_eq n) es) < length es
  one_less n [] h = cc
  one_less n (e ∷ es) h = by_answer (nat_eq n e.0)
      (λ y. let shorter = ap length (cond_yes es (e ∷ remove_entry (nat_eq n) es) y) in omega (arith, shorter))
      (λ z. let shorter = ap length (cond_no es (e ∷ remove_entry (nat_eq n) es) z) in
      let less = one_less n es (sym (ap is_some (cond_no (Some e.1) (lookup (nat_eq n) es) z)) ∙ h) in omega (arith, shorter, less))

  -- without it there are no more
  pub no_more_kept : (n : ℕ) (es : List (ℕ × V)) → length (remove_entry (nat_eq n) es) ≤ length es
  no_more_kept n [] = omega arith
  no_more_kept n (e ∷ es) = by_answer (nat_eq n e.0)
      (λ y. let shorter = ap length (cond_yes es (e ∷ remove_entry (nat_eq n) es) y) in omega (arith, shorter))
      (λ z. let shorter = ap length (cond_no es (e ∷ remove_entry (nat_eq n) es) z) in
      let most = no_more_kept n es in omega (arith, shorter, most))

  -- without it there is one less
  pub fewer_kept : (n : ℕ) (es : List (ℕ × V)) → keeps n (view f es) ≡ true → length (remove_entry (nat_eq n) es) < length es
  fewer_kept n es there = one_less n es (sym (kept_same n es) ∙ there)
