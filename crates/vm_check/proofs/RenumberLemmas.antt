-- Numbers of copies: how one more is given, and what stays.
use Rattle.std.proofs.Common.{◌≡◌, ◌≢◌, ◌⊎◌, inl, inr, ℕ, ◌+◌, ◌<◌, Bool, cond, List, length, get_or, refl, sym, ap, ◌∙◌, arith}
use Rattle.std.specs.Prelude.{count_by, nat_lt}
use Rattle.std.proofs.lemmas.Bool.{cases_eq, lt-ltb}
use Rattle.std.proofs.lemmas.List.{get_or-set_other, get_or-set_same, length-set}
use Rattle.std.proofs.lemmas.List.Sums.{sum_by-set}
use Rattle.vm_check.specs.Renumbering.{AreGiven, Assigns, GoesOn, IsCopied, copies_of, count_of, next_of, number_at}
use Rattle.vm_check.specs.declared.renumbering.Renumbering.{Renumbering}

-- what a block with this number counts
abbrev pub weight : ℕ → ℕ
weight number = cond (nat_lt 0 number) 1 0

pub weighs_one : (number : ℕ) → 0 < number → weight number ≡ 1
weighs_one number some = ap (λ (b : Bool). cond b 1 0) (lt-ltb 0 number some)

module _ (n : ℕ) (old new : Renumbering) (a : Assigns n old new) where
  pub assigned_here : n < count_of old → number_at new n ≡ next_of old
  assigned_here inside = ap (λ (xs : List ℕ). get_or xs n 0) a.numbers ∙ get_or-set_same old.numbers.items n (next_of old) 0 inside

  pub assigned_other : (k : ℕ) → k ≢ n → number_at new k ≡ number_at old k
  assigned_other k other = ap (λ (xs : List ℕ). get_or xs k 0) a.numbers ∙ get_or-set_other old.numbers.items n k (next_of old) 0 other

  -- no other block was copied
  pub only_assigned : (k : ℕ) → IsCopied new k → IsCopied old k ⊎ (k ≡ n)
  only_assigned k is = elim (cases_eq k n) [
    | inl same ↦ inr same
    | inr other ↦ inl (omega (arith, is, assigned_other k other))
  ]

  assigned_count : n < count_of old → 0 < next_of old → number_at old n ≡ 0 → copies_of new ≡ copies_of old + 1
  assigned_count inside some none =
      let all = sum_by-set weight old.numbers.items n (next_of old) 0 inside in
      let before : weight (get_or old.numbers.items n 0) ≡ 0 = ap weight none in
      omega (arith, all, before, weighs_one (next_of old) some, ap (λ (xs : List ℕ). count_by (λ k. nat_lt 0 k) xs) a.numbers)

  pub assigned_on : n < count_of old → 0 < next_of old → number_at old n ≡ 0 → GoesOn old new
  assigned_on inside some none = record {
    same_count = ap length a.numbers ∙ length-set old.numbers.items n (next_of old);
    kept = λ k is. assigned_other k (λ same. omega (arith, is, none, ap (number_at old) same));
    rising = omega (arith, a.next);
    counted = omega (arith, a.next, assigned_count inside some none);
  }

  pub assigned_given : n < count_of old → number_at old n ≡ 0 → AreGiven old → AreGiven new
  assigned_given inside none given = record {
    least = omega (arith, given.least, a.next);
    low = λ k is. elim (cases_eq k n) [
      | inl same ↦ omega (arith, given.least, ap (number_at new) same, assigned_here inside)
      | inr other ↦ omega (arith, given.low k (was k other is), assigned_other k other)
    ];
    high = λ k is. elim (cases_eq k n) [
      | inl same ↦ omega (arith, a.next, ap (number_at new) same, assigned_here inside)
      | inr other ↦ omega (arith, a.next, given.high k (was k other is), assigned_other k other)
    ];
    once = λ k m is same_number. by_cases k m is same_number (cases_eq k n) (cases_eq m n);
  }
    where
      was : (k : ℕ) → k ≢ n → IsCopied new k → IsCopied old k
      was k other is = omega (arith, is, assigned_other k other)

      by_cases : (k m : ℕ) → IsCopied new k → number_at new k ≡ number_at new m → (k ≡ n) ⊎ (k ≢ n) → (m ≡ n) ⊎ (m ≢ n) → k ≡ m
      by_cases k m is e (inl a_same) (inl b_same) = a_same ∙ sym b_same
      by_cases k m is e (inl a_same) (inr b_other) =
          let here : number_at new k ≡ next_of old = ap (number_at new) a_same ∙ assigned_here inside in
          let there : IsCopied old m = was m b_other (omega (arith, is, e)) in
          absurd (omega (arith, given.high m there, assigned_other m b_other, here, e))
      by_cases k m is e (inr a_other) (inl b_same) =
          let here : number_at new m ≡ next_of old = ap (number_at new) b_same ∙ assigned_here inside in
          absurd (omega (arith, given.high k (was k a_other is), assigned_other k a_other, here, e))
      by_cases k m is e (inr a_other) (inr b_other) =
          given.once k m (was k a_other is) (sym (assigned_other k a_other) ∙ e ∙ assigned_other m b_other)

-- nothing was given since
pub goes_same : (numbers : Renumbering) → GoesOn numbers numbers
goes_same numbers = record { same_count = refl; kept = λ n is. refl; rising = omega arith; counted = refl }

pub still_copied : {old new : Renumbering} → GoesOn old new → (n : ℕ) → IsCopied old n → IsCopied new n
still_copied on n is = omega (arith, is, on.kept n is)

pub goes_then : {a b c : Renumbering} → GoesOn a b → GoesOn b c → GoesOn a c
goes_then first more = record {
  same_count = more.same_count ∙ first.same_count;
  kept = λ n is. more.kept n (still_copied first n is) ∙ first.kept n is;
  rising = omega (arith, first.rising, more.rising);
  counted = omega (arith, first.counted, more.counted);
}
