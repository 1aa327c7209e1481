-- No more blocks are copied than are held.
use Rattle.std.proofs.Common.{◌≡◌, inl, inr, ℕ, zero, suc, ◌+◌, ◌<◌, ◌≤◌, Bool, true, false, not, cond, List, [], ◌∷◌, length, get_or, refl, ap, ◌∙◌, arith}
use Rattle.std.specs.Prelude.{count_by, nat_lt, slice_set}
use Rattle.std.proofs.Math.ListN.{length-set}
use Rattle.std.proofs.lemmas.Bool.{false≢true}
use Rattle.std.proofs.lemmas.List.{get_or-set_other}
use Rattle.std.proofs.lemmas.List.Folds.{sum_by-replicate}
use Rattle.std.proofs.lemmas.List.Sums.{count_by-le-length, sum_by-cons}
use Rattle.vm_types.specs.declared.refusal.Refusal.TheVariants as refusal
use Rattle.vm_alloc.specs.Held.{IsHeld, free_count}
use Rattle.vm_alloc.proofs.HeldLemmas.{held_inside, unmarked_more}
use Rattle.vm_tree.specs.declared.faults.TreeFault.TheVariants as of_tree
use Rattle.vm_check.specs.declared.tree_copy.CopyFault.{CopyFault}
use Rattle.vm_check.specs.declared.tree_copy.CopyFault.TheVariants as of_copy
use Rattle.vm_check.specs.declared.renumbering.Renumbering.{Renumbering}
use Rattle.vm_check.specs.Renumbering.{GoesOn, IsCopied, IsUnused, copies_of, next_of}
use Rattle.vm_check.specs.TreeCopy.{CopiesMarked, IsMarkedData}
use Rattle.vm_check.proofs.RenumberLemmas.{weight, weighs_one}
use Rattle.vm_store.specs.Copies.{refusal_of_copy}
use Rattle.vm_store.proofs.CopyingLemmas.{unused_none}

-- # Numbers beside held blocks

-- what a block counts if it is free
abbrev free : Bool → ℕ
free held = cond (not held) 1 0

-- no block has a number and is free, if only a held one has a number
one_each : (number : ℕ) (held : Bool) → (0 < number → held ≡ true) → weight number + free held ≤ 1
one_each zero held so = at held
  where
    at : (held : Bool) → weight zero + free held ≤ 1
    at true = omega arith
    at false = omega arith
one_each (suc n) held so =
    let none : free held ≡ 0 = ap free (so (omega arith)) in
    omega (arith, weighs_one (suc n) (omega arith), none)

-- there are no more numbers than held blocks, if only held blocks have one
few : (numbers : List ℕ) (held : List Bool) → ((n : ℕ) → 0 < get_or numbers n 0 → IsHeld held n) → count_by (λ n. nat_lt 0 n) numbers + free_count held ≤ length held
few [] held so = omega (arith, count_by-le-length not held)
few (x ∷ numbers) [] so =
    let here = one_each x false (λ some. so 0 some) in
    omega (arith, here, sum_by-cons weight x numbers, few numbers [] (λ n some. so (suc n) some))
few (x ∷ numbers) (b ∷ held) so =
    let here = one_each x b (λ some. so 0 some) in
    omega (arith, here, sum_by-cons weight x numbers, sum_by-cons free b held, few numbers held (λ n some. so (suc n) some))

-- nor than the held blocks behind the first ones, if these are held and have none
few_behind : (first : ℕ) (numbers : List ℕ) (held : List Bool) → ((n : ℕ) → n < first → IsHeld held n) → ((n : ℕ) → 0 < get_or numbers n 0 → (first ≤ n) × IsHeld held n)
    → count_by (λ n. nat_lt 0 n) numbers + first + free_count held ≤ length held
few_behind zero numbers held own so = omega (arith, few numbers held (λ n some. (so n some).1))
few_behind (suc first) numbers [] own so = absurd (false≢true (own 0 (omega arith)))
few_behind (suc first) [] (b ∷ held) own so =
    let here : free b ≡ 0 = ap free (own 0 (omega arith)) in
    omega (arith, here, sum_by-cons free b held, few_behind first [] held (λ n low. own (suc n) (omega arith)) (λ n some. absurd (omega (arith, some))))
few_behind (suc first) (x ∷ numbers) (b ∷ held) own so =
    let here : free b ≡ 0 = ap free (own 0 (omega arith)) in
    let none : weight x ≡ 0 = unnumbered x (λ some. (so 0 some).0) in
    omega (arith, here, none, sum_by-cons weight x numbers, sum_by-cons free b held, few_behind first numbers held (λ n low. own (suc n) (omega arith)) (λ n some. let at = so (suc n) some in (omega (arith, at.0), at.1)))
  where
    unnumbered : (number : ℕ) → (0 < number → suc first ≤ 0) → weight number ≡ 0
    unnumbered zero low = refl
    unnumbered (suc n) low = absurd (omega (arith, low (omega arith)))

-- there are fewer, if a held block there has none
fewer_behind : (first : ℕ) (numbers : List ℕ) (held : List Bool) (k : ℕ) → ((n : ℕ) → n < first → IsHeld held n) → ((n : ℕ) → 0 < get_or numbers n 0 → (first ≤ n) × IsHeld held n)
    → first ≤ k → IsHeld held k → ◌≡◌ {A = ℕ} (get_or numbers k 0) 0 → count_by (λ n. nat_lt 0 n) numbers + first + free_count held < length held
fewer_behind first numbers held k own so behind here none =
    let less = slice_set held k false in
    let one : free_count less ≡ free_count held + 1 = unmarked_more 0 held k (omega arith) (held_inside held k here) here in
    let still : (n : ℕ) → (n ≡ k → ⊥) → IsHeld held n → IsHeld less n = λ n other is. get_or-set_other held k n false false other ∙ is in
    let all = few_behind first numbers less (λ n low. still n (λ same. omega (arith, same)) (own n low)) (λ n some. let at = so n some in (at.0, still n (λ same. omega (arith, some, none, ap (λ m. get_or numbers m 0) same)) at.1)) in
    omega (arith, all, one, length-set held k false)

-- # A copy that begins with no number

-- none was copied before, and the first 34 blocks are held
pub record Copied (held : List Bool) (kept : ℕ) (old new : Renumbering) : Type 0 where
  pub unused : IsUnused kept old
  pub on : GoesOn old new
  pub first : (n : ℕ) → n < 34 → IsHeld held n

module _ (none_left : Type 0) (held : List Bool) (kept : ℕ) (old new : Renumbering) (copied : Copied held kept old new) (marked : CopiesMarked none_left held old new) where
  none_before : copies_of old ≡ 0
  none_before = ap (λ (ns : List ℕ). count_by (λ n. nat_lt 0 n) ns) copied.unused.0 ∙ omega (arith, sum_by-replicate weight kept 0)

  each_held : (n : ℕ) → IsCopied new n → IsMarkedData held n
  each_held n is = elim (marked.only n is) [
    | inl was ↦ absurd (unused_none kept old copied.unused n was)
    | inr here ↦ here
  ]

  -- the next number is no more than the number of held blocks
  pub next_most : next_of new + free_count held ≤ length held
  next_most = omega (arith, few_behind 34 new.numbers.items held copied.first each_held, none_before, copied.on.counted, copied.unused.1)

  -- and less, if no number is left
  pub next_fewer : none_left → next_of new + free_count held < length held
  next_fewer is =
      let lacks = marked.lacks is in
      omega (arith, fewer_behind 34 new.numbers.items held lacks.0 copied.first each_held lacks.1.0 lacks.1.1 lacks.2, none_before, copied.on.counted, copied.unused.1)

-- the only fault that is refused for want of blocks
pub full_fault : (fault : CopyFault) → refusal_of_copy fault ≡ refusal.Full → fault ≡ of_copy.Full
full_fault (of_copy.Source of_tree.Device) is = cc
full_fault (of_copy.Source (of_tree.Damaged b)) is = cc
full_fault of_copy.Target is = cc
full_fault of_copy.Full is = refl
