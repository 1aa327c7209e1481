-- What is known of the held blocks, for this crate and for those above it.
use Rattle.std.proofs.Common.{◌≡◌, ◌≢◌, ℕ, ◌+◌, ◌-◌, ◌<◌, ◌≤◌, Bool, true, false, not, cond, Some, List, [], ◌∷◌, ◌++◌, length, get_or, take, drop, replicate, refl, sym, ◌∙◌, ap, inl, inr, arith, length-drop, suc}
use Rattle.std.specs.Prelude.{slice_get, slice_set}
use Rattle.std.proofs.Math.ListN.{set, length-set}
use Rattle.std.proofs.lemmas.Bool.{cases_eq, cases_lt, false≢true}
use Rattle.std.proofs.lemmas.List.{get_or-set_same, get_or-set_other, get_or-replicate, get_or_past, length-replicate, set-get_or, get_or-drop, drop-set-add, drop-set-lt, drop-append-le, drop-drop, drop-replicate, drop-take, drop_all, drop_more, set-set, take-append-drop}
use Rattle.std.proofs.lemmas.List.Folds.{sum_by-replicate}
use Rattle.std.proofs.lemmas.List.Sums.{sum_by-cons, sum_by-append, sum_by-set}
use Rattle.std.proofs.lemmas.Option.{slice_get_within, get_or_from_slice_get, slice_get-get_or}
use Rattle.vm_alloc.specs.Held.{is_held, IsHeld, free_count, HoldsMore}
use Rattle.vm_alloc.specs.Marks.{is_marked}

-- ---- held and free

pub held_inside : (held : List Bool) (n : ℕ) → IsHeld held n → n < length held
held_inside held n is =
    elim (cases_lt n (length held)) [
      | inl inside ↦ inside
      | inr past ↦ absurd (false≢true (sym (get_or_past held n false past) ∙ is))
    ]

-- a free block as `take` names it
pub free_inside : (held : List Bool) (n : ℕ) → slice_get held n ≡ Some false → n < length held
free_inside held n free = slice_get_within held n false free

pub free_is : (held : List Bool) (n : ℕ) → slice_get held n ≡ Some false → is_held held n ≡ false
free_is held n free = get_or_from_slice_get held n false false free

pub free_from : (held : List Bool) (n : ℕ) → n < length held → is_held held n ≡ false → slice_get held n ≡ Some false
free_from held n inside free = slice_get-get_or held n false inside ∙ ap (λ (b : Bool). Some b) free

-- ---- one block more

pub taken_is_held : (held : List Bool) (n : ℕ) → n < length held → IsHeld (slice_set held n true) n
taken_is_held held n inside = get_or-set_same held n true false inside

pub others_as_before : (held : List Bool) (n k : ℕ) → k ≢ n → is_held (slice_set held n true) k ≡ is_held held k
others_as_before held n k other = get_or-set_other held n k true false other

pub taken_holds_more : (held : List Bool) (n : ℕ) → HoldsMore held (slice_set held n true)
taken_holds_more held n = record {
  same_length = length-set held n true;
  still = λ k is. elim (cases_eq k n) [
    | inl same ↦ ap (λ (j : ℕ). is_held (slice_set held n true) j) same ∙ taken_is_held held n (let inside : k < length held = held_inside held k is in omega arith)
    | inr other ↦ others_as_before held n k other ∙ is
  ];
}

pub holds_same : (held : List Bool) → HoldsMore held held
holds_same held = record { same_length = refl; still = λ n is. is }

pub holds_more_then : (a b c : List Bool) → HoldsMore a b → HoldsMore b c → HoldsMore a c
holds_more_then a b c first then = record {
  same_length = then.same_length ∙ first.same_length;
  still = λ n is. then.still n (first.still n is);
}

-- ---- how many are free

-- a block counts where it is free
abbrev pub weight : Bool → ℕ
weight b = cond (not b) 1 0

free_cons : (b : Bool) (held : List Bool) → free_count (b ∷ held) ≡ weight b + free_count held
free_cons b held = sum_by-cons weight b held

-- a free block that is held from now on is one free block less
pub free_less : (held : List Bool) (n : ℕ) → slice_get held n ≡ Some false → free_count held ≡ free_count (slice_set held n true) + 1
free_less held n free =
    let weigh : Bool → ℕ = λ (x : Bool). cond (not x) 1 0 in
    let all = sum_by-set weight held n true false (free_inside held n free) in
    let here : weight (get_or held n false) ≡ 1 = ap weight (free_is held n free) in
    omega (arith, all, here)

-- where all are held, none is free
pub all_held : (held : List Bool) → ((n : ℕ) → n < length held → IsHeld held n) → free_count held ≡ 0
all_held [] all = refl
all_held (b ∷ held) all =
    let first : b ≡ true = all 0 (omega arith) in
    let weighs : weight b ≡ 0 = ap weight first in
    let rest : free_count held ≡ 0 = all_held held (λ n inside. all (suc n) (omega arith)) in
    omega (arith, free_cons b held, weighs, rest)

pub free_replicate : (n : ℕ) → free_count (replicate n false) ≡ n
free_replicate n = omega (arith, sum_by-replicate weight n false)

pub free_replicate_held : (n : ℕ) → free_count (replicate n true) ≡ 0
free_replicate_held n = omega (arith, sum_by-replicate weight n true)

pub free_append : (a b : List Bool) → free_count (a ++ b) ≡ free_count a + free_count b
free_append a b = sum_by-append weight a b

-- the first blocks, and then as before
pub free_first : (n : ℕ) (marks : List Bool) → free_count (replicate n true ++ drop n marks) ≡ free_count (drop n marks)
free_first n marks = omega (arith, free_append (replicate n true) (drop n marks), free_replicate_held n)

-- just the store's own blocks are held
pub free_new : (first blocks : ℕ) → first ≤ blocks → free_count (drop first (replicate blocks false)) ≡ blocks - first
free_new first blocks enough = ap (λ (held : List Bool). free_count held) (drop-replicate first blocks false) ∙ free_replicate (blocks - first)

-- free blocks behind those that are counted from one on
pub free_longer : (first : ℕ) (held : List Bool) (more : ℕ) → first ≤ length held → free_count (drop first (held ++ replicate more false)) ≡ free_count (drop first held) + more
free_longer first held more enough =
    ap (λ (z : List Bool). free_count z) (drop-append-le first held (replicate more false) enough)
    ∙ free_append (drop first held) (replicate more false)
    ∙ ap (λ (n : ℕ). free_count (drop first held) + n) (free_replicate more)

-- the first blocks and the others
pub free_split : (n : ℕ) (held : List Bool) → free_count (take n held) + free_count (drop n held) ≡ free_count held
free_split n held = sym (free_append (take n held) (drop n held)) ∙ ap (λ (z : List Bool). free_count z) (take-append-drop n held)

-- the same, counted from a block on that is one of the first
pub free_split_from : (first n : ℕ) (held : List Bool) → first ≤ n → free_count (drop first (take n held)) + free_count (drop n held) ≡ free_count (drop first held)
free_split_from first n held low =
    let split : first + (n - first) ≡ n = omega arith in
    let front : free_count (drop first (take n held)) ≡ free_count (take (n - first) (drop first held)) =
    ap (λ (z : List Bool). free_count z) (ap (λ (k : ℕ). drop first (take k held)) (sym split) ∙ drop-take first (n - first) held) in
    let rest : free_count (drop n held) ≡ free_count (drop (n - first) (drop first held)) =
    ap (λ (z : List Bool). free_count z) (ap (λ (k : ℕ). drop k held) (sym split) ∙ sym (drop-drop (n - first) first held)) in
    omega (arith, front, rest, free_split (n - first) (drop first held))

-- one block on, of which it is known whether it is held, and none behind the last one
pub free_next : (held : List Bool) (n : ℕ) (b : Bool) → n < length held → is_held held n ≡ b → free_count (drop n held) ≡ weight b + free_count (drop (n + 1) held)
free_next held n b inside is =
    ap (λ (z : List Bool). free_count z) (drop_more held n false inside)
    ∙ free_cons (get_or held n false) (drop (n + 1) held)
    ∙ ap (λ (x : Bool). weight x + free_count (drop (n + 1) held)) is

pub free_past : (held : List Bool) (n : ℕ) → length held ≤ n → free_count (drop n held) ≡ 0
free_past held n past = ap (λ (z : List Bool). free_count z) (drop_all n held past)

-- no block is marked
pub no_mark : (blocks n : ℕ) → is_marked (replicate blocks false) n ≡ false
no_mark blocks n = elim (cases_lt n blocks) [
  | inl inside ↦ get_or-replicate blocks n false false inside
  | inr past ↦ get_or_past (replicate blocks false) n false (omega (arith, length-replicate blocks false))
]

-- a mark more, of a data block that was not marked
pub unmarked_less : (first : ℕ) (marks : List Bool) (n : ℕ) → first ≤ n → n < length marks → is_marked marks n ≡ false → free_count (drop first marks) ≡ free_count (drop first (slice_set marks n true)) + 1
unmarked_less first marks n data_block inside unmarked =
    let split : first + (n - first) ≡ n = omega arith in
    let here : get_or (drop first marks) (n - first) false ≡ false = get_or-drop first marks (n - first) false ∙ ap (λ (k : ℕ). get_or marks k false) split ∙ unmarked in
    let within : n - first < length (drop first marks) = omega (arith, length-drop first marks) in
    free_less (drop first marks) (n - first) (free_from (drop first marks) (n - first) within here)
    ∙ ap (λ (held : List Bool). free_count held + 1) (sym (drop-set-add first marks (n - first) true) ∙ ap (λ (k : ℕ). drop first (slice_set marks k true)) split)

-- a mark written, of one of the store's own blocks
pub unmarked_same_low : (first : ℕ) (marks : List Bool) (n : ℕ) (value : Bool) → n < first → free_count (drop first marks) ≡ free_count (drop first (slice_set marks n value))
unmarked_same_low first marks n value low = ap (λ (held : List Bool). free_count held) (sym (drop-set-lt first marks n value low))

-- a mark that was there
pub mark_same : (marks : List Bool) (n : ℕ) → is_marked marks n ≡ true → slice_set marks n true ≡ marks
mark_same marks n marked = ap (λ (b : Bool). slice_set marks n b) (sym marked) ∙ set-get_or marks n false

-- no mark where there was none
pub unmark_same : (marks : List Bool) (n : ℕ) → is_marked marks n ≡ false → slice_set marks n false ≡ marks
unmark_same marks n none = ap (λ (b : Bool). slice_set marks n b) (sym none) ∙ set-get_or marks n false

-- a mark less, of a data block that was marked
pub unmarked_more : (first : ℕ) (marks : List Bool) (n : ℕ) → first ≤ n → n < length marks → is_marked marks n ≡ true → free_count (drop first (slice_set marks n false)) ≡ free_count (drop first marks) + 1
unmarked_more first marks n data_block inside marked =
    let without = slice_set marks n false in
    unmarked_less first without n data_block (omega (arith, length-set marks n false)) (get_or-set_same marks n false false inside)
    ∙ ap (λ (held : List Bool). free_count (drop first held) + 1) (set-set marks n false true ∙ mark_same marks n marked)

-- ---- held blocks that are told one by one
