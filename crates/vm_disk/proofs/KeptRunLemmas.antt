-- The kept blocks have the bytes of the disk below, after a write of blocks in a row.
use Rattle.std.proofs.Common.{◌≡◌, ◌≢◌, ◌⊎◌, inl, inr, ℕ, zero, suc, ◌+◌, ◌-◌, ◌<◌, ◌≤◌, true, false, if◌then◌else◌, List, [], length, is_some, nat_eq, add-one, slice_index_or, refl, sym, ◌∙◌, ap, ne_eqb, eq-eqb, arith}
use Rattle.std.proofs.lemmas.Bool.{and_left, and_right, cases_lt, le-ltb, lt-leb}
use Rattle.std.specs.Map.{lookup, remove_entry}
use Rattle.vm_disk.specs.Moments.{in_run}
use Rattle.vm_disk.specs.declared.kept.Kept.{Kept}
use Rattle.vm_disk.specs.Kept.{Entries, UsesBlocks, entries_of, keeps, without_run}
use Rattle.vm_disk.proofs.KeptLemmas.{AreBy, cond_no, cond_yes, lookup_others, used_are_by}

-- a block of a row, or one that is not in it
by_place : {P : Type 0} (first count k : ℕ) → ((i : ℕ) → i < count → k ≡ first + i → P)
    → (in_run first count k ≡ false → ((i : ℕ) → i < count → k ≢ first + i) → P) → P
by_place {P} first count k inside outside = before (cases_lt k first)
  where
    after : first ≤ k → (k < first + count) ⊎ (first + count ≤ k) → P
    after from (inl less) = inside (k - first) (omega arith) (omega arith)
    after from (inr more) = outside (and_right _ _ (le-ltb k (first + count) more)) (λ i few same. omega (arith, more, few, same))

    before : (k < first) ⊎ (first ≤ k) → P
    before (inl less) = outside (and_left _ _ (lt-leb first k less)) (λ i few same. omega (arith, less, same))
    before (inr from) = after from (cases_lt k (first + count))

-- the bytes of each block, of which so many from the first one on have these
mixed : ℕ → List (List ℕ) → (ℕ → List ℕ) → ℕ → ℕ → List ℕ
mixed first blocks old zero k = old k
mixed first blocks old (suc count) k = if nat_eq k (first + count) then slice_index_or blocks count [] else mixed first blocks old count k

-- of one in the row
mixed_inside : (first : ℕ) (blocks : List (List ℕ)) (old : ℕ → List ℕ) (count i k : ℕ) → i < count → k ≡ first + i → mixed first blocks old count k ≡ slice_index_or blocks i []
unfolding mixed
mixed_inside first blocks old zero i k few here = absurd (omega arith)
mixed_inside first blocks old (suc count) i k few here = by_order (cases_lt i count) (λ less. mixed_inside first blocks old count i k less here)
  where
    by_order : (i < count) ⊎ (count ≤ i) → (i < count → mixed first blocks old count k ≡ slice_index_or blocks i [])
        → mixed first blocks old (suc count) k ≡ slice_index_or blocks i []
    by_order (inl less) before = cond_no _ _ (ne_eqb k (first + count) (λ same. omega (arith, same, here, less))) ∙ before less
    by_order (inr more) before =
        let last : i ≡ count = omega arith in
        cond_yes _ _ (eq-eqb k (first + count) (omega arith)) ∙ ap (λ j. slice_index_or blocks j []) (sym last)

-- of another
mixed_outside : (first : ℕ) (blocks : List (List ℕ)) (old : ℕ → List ℕ) (count k : ℕ) → ((i : ℕ) → i < count → k ≢ first + i) → mixed first blocks old count k ≡ old k
unfolding mixed
mixed_outside first blocks old zero k out = refl
mixed_outside first blocks old (suc count) k out =
    cond_no _ _ (ne_eqb k (first + count) (out count (omega arith))) ∙ mixed_outside first blocks old count k (λ i few. out i (omega arith))

module _ (first : ℕ) (blocks : List (List ℕ)) (old : ℕ → List ℕ) (size size' : ℕ) (count : size' ≡ size) (room : first + length blocks ≤ size') where
  -- the first so many were used
  used_so_far : (done : ℕ) (was is : Kept) → done ≤ length blocks → UsesBlocks first blocks done was is → AreBy old size (entries_of was)
      → AreBy (mixed first blocks old done) size' (entries_of is)
  unfolding mixed
  used_so_far zero was is few uses were = λ k bytes h.
      let was_so = were k bytes (ap (λ (kept : Kept). lookup (nat_eq k) (entries_of kept)) (sym uses) ∙ h) in
      (omega (arith, was_so.0, count), was_so.1)
  used_so_far (suc done) was is few uses were =
      used_are_by (mixed first blocks old done) (mixed first blocks old (suc done)) size' size' (first + done) refl
      (λ k apart. cond_no _ _ (ne_eqb k (first + done) apart)) (slice_index_or blocks done []) uses.0 is (omega arith)
      (cond_yes _ _ (eq-eqb (first + done) (first + done) refl)) uses.1.1
      (used_so_far done was uses.0 (omega arith) uses.1.0 were)

  -- all of them were used, and the disk holds their bytes
  pub run_are_by : (new : ℕ → List ℕ) → ((i : ℕ) → i < length blocks → new (first + i) ≡ slice_index_or blocks i [])
      → ((k : ℕ) → in_run first (length blocks) k ≡ false → new k ≡ old k)
      → (was is : Kept) → UsesBlocks first blocks (length blocks) was is → AreBy old size (entries_of was) → AreBy new size' (entries_of is)
  run_are_by new written others was is uses were k bytes h =
      let now = used_so_far (length blocks) was is (omega arith) uses were k bytes h in
      (now.0, now.1 ∙ same)
    where
      same : mixed first blocks old (length blocks) k ≡ new k
      same = by_place first (length blocks) k
          (λ i few here. mixed_inside first blocks old (length blocks) i k few here ∙ sym (written i few) ∙ ap new (sym here))
          (λ out apart. mixed_outside first blocks old (length blocks) k apart ∙ sym (others k out))

-- what a look-up of a block finds that is not in the row
lookup_without_run : (first count k : ℕ) (es : Entries) → ((i : ℕ) → i < count → k ≢ first + i) → lookup (nat_eq k) (without_run first count es) ≡ lookup (nat_eq k) es
lookup_without_run first zero k es out = refl
lookup_without_run first (suc count) k es out =
    lookup_others (first + count) k (without_run first count es) (out count (omega arith)) ∙ lookup_without_run first count k es (λ i few. out i (omega arith))

-- one more goes
pub without_one_more : (first count : ℕ) (es mid es' : Entries) → mid ≡ without_run first count es → es' ≡ remove_entry (nat_eq (first + count)) mid
    → es' ≡ without_run first (count + 1) es
without_one_more first count es mid es' so_far is = is ∙ ap (remove_entry (nat_eq (first + count))) so_far ∙ ap (λ (k : ℕ). without_run first k es) (sym (add-one count))

-- and those before it stay away
pub gone_stays : (first count : ℕ) (mid es : Entries) → es ≡ remove_entry (nat_eq (first + count)) mid
    → ((i : ℕ) → i < count → keeps (first + i) mid ≡ false) → keeps (first + count) es ≡ false
    → (i : ℕ) → i < count + 1 → keeps (first + i) es ≡ false
gone_stays first count mid es is before now i few = by_order (cases_lt i count)
  where
    by_order : (i < count) ⊎ (count ≤ i) → keeps (first + i) es ≡ false
    by_order (inl less) =
        ap (keeps (first + i)) is
        ∙ ap is_some (lookup_others (first + count) (first + i) mid (λ same. omega (arith, same, less)))
        ∙ before i less
    by_order (inr more) = let last : first + i ≡ first + count = omega arith in ap (λ (k : ℕ). keeps k es) last ∙ now

-- none of a row is kept
pub lost_run_are_by : (first count : ℕ) (old new : ℕ → List ℕ) (size size' : ℕ) → size' ≡ size
    → ((k : ℕ) → in_run first count k ≡ false → new k ≡ old k)
    → (es es' : Entries) → es' ≡ without_run first count es → ((i : ℕ) → i < count → keeps (first + i) es' ≡ false)
    → AreBy old size es → AreBy new size' es'
lost_run_are_by first count old new size size' same_size others es es' is gone were k bytes h = by_place first count k
    (λ i few here.
    let there : true ≡ false = sym (ap is_some (ap (λ m. lookup (nat_eq m) es') (sym here) ∙ h)) ∙ gone i few in absurd cc)
    (λ out apart.
    let was = were k bytes (sym (lookup_without_run first count k es apart) ∙ ap (lookup (nat_eq k)) (sym is) ∙ h) in
    (omega (arith, was.0, same_size), was.1 ∙ sym (others k out)))
