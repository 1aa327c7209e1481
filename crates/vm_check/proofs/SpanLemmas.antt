-- The lowest and the highest key of records, and how records are joined by them.
use Rattle.std.proofs.Common.{◌≡◌, ℕ, ◌+◌, ◌-◌, ◌<◌, ◌≤◌, List, [], ◌∷◌, ◌++◌, length, get_or, Bool, true, false, not, ◌&&◌, inl, inr, sym, ap, ap₂, ◌∙◌, subst, arith, eqb, eq-eqb}
use Rattle.std.proofs.lemmas.Bool.{false≢true}
use Rattle.std.proofs.lemmas.Bool.Decides.{eqb_tells}
use Rattle.std.specs.List.{AllByRecursion}
use Rattle.vm_types.specs.declared.key.Key.{Key}
use Rattle.vm_types.specs.Places.{RisesFrom, place, places}
use Rattle.vm_block.specs.Leaf.{Record, BeginsWith}
use Rattle.vm_block.proofs.EachLemmas.{each_join, each_back}
use Rattle.vm_tree.proofs.Rising.{rises_before}
use Rattle.vm_check.specs.Keys.{IsHighest}

-- # Two keys, and the test whether they differ

pub keys_same : (a b : Key) (differ : Bool) → differ ≡ not (eqb a.table b.table && eqb a.number b.number) → differ ≡ false → a ≡ b
keys_same a b differ is none = elim (eqb_tells a.table b.table) [
  | inl table ↦ elim (eqb_tells a.number b.number) [
    | inl number ↦ ap₂ (λ (t n : ℕ). record { table = t; number = n }) table.1 number.1
    | inr other ↦ absurd (false≢true (sym none ∙ is ∙ ap₂ (λ (s t : Bool). not (s && t)) table.0 other.0))
  ]
  | inr other ↦ absurd (false≢true (sym none ∙ is ∙ ap (λ (s : Bool). not (s && eqb a.number b.number)) other.0))
]

pub keys_differ : (a b : Key) (differ : Bool) → differ ≡ not (eqb a.table b.table && eqb a.number b.number) → differ ≡ true → a ≡ b → ⊥
keys_differ a b differ is some same =
    let table = eq-eqb a.table b.table (ap (λ (k : Key). k.table) same) in
    let number = eq-eqb a.number b.number (ap (λ (k : Key). k.number) same) in
    false≢true (sym (ap₂ (λ (s t : Bool). not (s && t)) table number) ∙ sym is ∙ some)

-- # The lowest and the highest key

-- the highest key of rising records is the last one's
highest_at : (r : Record) (rs : List Record) (d : Record) (low : ℕ) → RisesFrom low (places (r ∷ rs)) → IsHighest (get_or (r ∷ rs) (length rs) d).0 (r ∷ rs)
highest_at r [] d low rises = record { above = λ p lt. (lt, tt); least = λ p all. all.0 }
highest_at r (s ∷ rs) d low rises =
    let rest = highest_at s rs d (place r.0 + 1) rises.1 in
    record {
      above = λ p lt. let all = rest.above p lt in (omega (arith, all.0, rises.1.0), all);
      least = λ p all. rest.least p all.1;
    }

pub highest_last : (rs : List Record) (d : Record) (low : ℕ) → 0 < length rs → RisesFrom low (places rs) → IsHighest (get_or rs (length rs - 1) d).0 rs
highest_last [] d low some rises = absurd (omega arith)
highest_last (r ∷ rs) d low some rises =
    let same : length rs ≡ length (r ∷ rs) - 1 = omega arith in subst (λ k. IsHighest (get_or (r ∷ rs) k d).0 (r ∷ rs)) same (highest_at r rs d low rises)

-- records have one lowest key
pub begins_one : (a b : Key) (rs : List Record) → BeginsWith a rs → BeginsWith b rs → a ≡ b
begins_one a b [] x y = absurd x
begins_one a b (r ∷ rs) x y = sym x ∙ y

-- the highest key of records and of higher ones behind them
pub highest_join : (g h : Key) (xs ys : List Record) → IsHighest g xs → IsHighest h ys → place g < place h → IsHighest h (xs ++ ys)
highest_join g h xs ys first then lt = record {
  above = λ p less. each_join (λ (r : Record). place r.0 < p) xs ys (first.above p (omega arith)) (then.above p less);
  least = λ p all. then.least p (each_back (λ (r : Record). place r.0 < p) xs ys all);
}

-- the lowest key stands no higher than the highest
pub lowest_highest : (low high : Key) (rs : List Record) → BeginsWith low rs → IsHighest high rs → place low ≤ place high
lowest_highest low high [] begins highest = absurd begins
lowest_highest low high (r ∷ rs) begins highest =
    let all = highest.above (place high + 1) (omega arith) in let here : place r.0 ≡ place low = ap place begins in omega (arith, all.0, here)

-- rising records, and rising ones behind them that begin higher
pub rises_join : (low : ℕ) (next : Key) (xs ys : List Record) → RisesFrom low (places xs) → AllByRecursion (λ r. place r.0 < place next) xs → low ≤ place next → BeginsWith next ys → RisesFrom 0 (places ys)
    → RisesFrom low (places (xs ++ ys))
rises_join low next [] [] rises below le begins later = absurd begins
rises_join low next [] (y ∷ ys) rises below le begins later = let here : place y.0 ≡ place next = ap place begins in (omega (arith, here), later.1)
rises_join low next (x ∷ xs) ys rises below le begins later =
    (rises.0, rises_join (place x.0 + 1) next xs ys rises.1 below.1 (omega (arith, below.0)) begins later)

-- in rising records, the highest key of the first ones stands below the lowest of the others
pub highest_below : (high next : Key) (low : ℕ) (xs ys : List Record) → IsHighest high xs → BeginsWith next ys → RisesFrom low (places (xs ++ ys)) → place high < place next
highest_below high next low xs [] highest begins rises = absurd begins
highest_below high next low xs (y ∷ ys) highest begins rises =
    let under = rises_before low xs y ys rises in
    let below = highest.least (place y.0) under in let here : place y.0 ≡ place next = ap place begins in omega (arith, below, here)
