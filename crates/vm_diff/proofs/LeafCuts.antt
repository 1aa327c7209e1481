-- Where a key that was looked up cuts the records of a leaf.
use Rattle.std.proofs.Common.{◌≡◌, inl, inr, ℕ, zero, suc, ◌+◌, ◌<◌, ◌≤◌, List, [], ◌∷◌, length, take, drop, ap, arith}
use Rattle.std.specs.Prelude.{slice_index}
use Rattle.std.specs.List.{AllByRecursion}
use Rattle.std.proofs.lemmas.Bool.{cases_lt}
use Rattle.std.proofs.lemmas.List.{length-map}
use Rattle.vm_types.specs.Places.{RisesFrom, place, places}
use Rattle.vm_block.specs.Leaf.{Record}
use Rattle.vm_block.specs.Look.{FoundAt, MissingAt}
use Rattle.vm_block.proofs.WayLemmas.{rises_order}
use Rattle.vm_diff.specs.Cuts.{CutAt, FirstAt}

-- what holds of the places before an index holds of those of the records there
before_index : (P : ℕ → Type 0) (rs : List Record) (i : ℕ) → i ≤ length rs → ((k : ℕ) → k < i → P (slice_index (places rs) k)) → AllByRecursion (λ r. P (place r.0)) (take i rs)
before_index P rs zero le all = tt
before_index P [] (suc i) le all = absurd (omega arith)
before_index P (r ∷ rs) (suc i) le all = (all 0 (omega arith), before_index P rs i (omega arith) (λ k lt. all (suc k) (omega (arith, lt))))

-- and what holds of the place at it, of that of the first record from there on
at_index : (P : ℕ → Type 0) (rs : List Record) (i : ℕ) → (i < length rs → P (slice_index (places rs) i)) → FirstAt (λ r. r.0) P (drop i rs)
at_index P [] zero at = tt
at_index P [] (suc i) at = tt
at_index P (r ∷ rs) zero at = at (omega arith)
at_index P (r ∷ rs) (suc i) at = at_index P rs i (λ lt. at (omega (arith, lt)))

module _ (rs : List Record) (p i : ℕ) (rises : RisesFrom 0 (places rs)) where
  many : length (places rs) ≡ length rs
  many = length-map rs (λ (r : Record). place r.0)

  pub found_from : FoundAt p i rs → CutAt i (λ q. q < p) (λ q. p ≤ q) rs
  found_from at = record {
    within = omega (arith, at.within);
    before = before_index (λ q. q < p) rs i (omega (arith, at.within)) (λ k lt. omega (arith, at.here, rises_order 0 (places rs) k i lt (omega (arith, at.within, many)) rises));
    first = at_index (λ q. p ≤ q) rs i (λ lt. omega (arith, at.here));
  }

  pub found_after : FoundAt p i rs → CutAt (i + 1) (λ q. q ≤ p) (λ q. p < q) rs
  found_after at = record {
    within = omega (arith, at.within);
    before = before_index (λ q. q ≤ p) rs (i + 1) (omega (arith, at.within))
        (λ k lt. elim (cases_lt k i) [
          | inl less ↦ omega (arith, at.here, rises_order 0 (places rs) k i less (omega (arith, at.within, many)) rises)
          | inr le ↦ let same : i ≡ k = omega (arith, le, lt) in omega (arith, at.here, ap (slice_index (places rs)) same)
        ]);
    first = at_index (λ q. p < q) rs (i + 1) (λ lt. let next : i < i + 1 = omega arith in omega (arith, at.here, rises_order 0 (places rs) i (i + 1) next (omega (arith, lt, many)) rises));
  }

  pub missing_from : MissingAt p i rs → CutAt i (λ q. q < p) (λ q. p ≤ q) rs
  missing_from at = record {
    within = at.within;
    before = before_index (λ q. q < p) rs i at.within at.below;
    first = at_index (λ q. p ≤ q) rs i (λ lt. omega (arith, at.above lt));
  }

  pub missing_after : MissingAt p i rs → CutAt i (λ q. q ≤ p) (λ q. p < q) rs
  missing_after at = record {
    within = at.within;
    before = before_index (λ q. q ≤ p) rs i at.within (λ k lt. omega (arith, at.below k lt));
    first = at_index (λ q. p < q) rs i at.above;
  }
