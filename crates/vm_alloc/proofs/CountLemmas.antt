-- How the counts that `Held` and `Marks` keep follow the flags.
use Rattle.std.proofs.Common.{◌≡◌, ℕ, ◌+◌, ◌-◌, ◌<◌, ◌≤◌, Bool, true, false, not, List, ◌++◌, min, length, take, drop, replicate, sym, ◌∙◌, ap, inl, inr, arith, length-append, length-drop}
use Rattle.std.specs.Prelude.{slice_set, ◌↔◌}
use Rattle.std.proofs.Math.ListN.{length-set}
use Rattle.std.proofs.lemmas.Bool.{cases_lt, false≢true}
use Rattle.std.proofs.lemmas.List.{get_or-take, length-replicate, length-take-le}
use Rattle.std.proofs.lemmas.List.Sums.{count_by-le-length}
use Rattle.vm_alloc.specs.Counts.{IsCounted, IsTallied}
use Rattle.vm_alloc.specs.Held.{IsHeld, free_count}
use Rattle.vm_alloc.specs.Marks.{is_marked}
use Rattle.vm_alloc.proofs.FlagLemmas.{first_flags_length, first_flags_low, first_flags_high}
use Rattle.vm_alloc.proofs.HeldLemmas.{free_first, free_longer, free_new, free_split, free_split_from, no_mark, unmarked_less, unmarked_more, unmarked_same_low, mark_same, unmark_same}

pub counted_none : (blocks : ℕ) (marks : List Bool) → 64 ≤ blocks → blocks ≤ 67108864 → marks ≡ replicate blocks false → IsCounted marks (blocks - 34)
counted_none blocks marks enough few none =
    let many : length marks ≡ blocks = ap length none ∙ length-replicate blocks false in
    record {
      enough = omega arith;
      few = omega arith;
      count = sym (free_new 34 blocks (omega arith)) ∙ ap (λ (m : List Bool). free_count (drop 34 m)) (sym none);
    }

pub counted_some : (marks : List Bool) (unmarked n : ℕ) → IsCounted marks unmarked → 34 ≤ n → n < length marks → is_marked marks n ≡ false → 1 ≤ unmarked
counted_some marks unmarked n counted above inside free = omega (arith, counted.count, unmarked_less 34 marks n above inside free)

pub counted_less : (marks : List Bool) (unmarked n : ℕ) → IsCounted marks unmarked → 34 ≤ n → n < length marks → is_marked marks n ≡ false → IsCounted (slice_set marks n true) (unmarked - 1)
counted_less marks unmarked n counted above inside free = record {
  enough = omega (arith, counted.enough, length-set marks n true);
  few = omega (arith, counted.few, length-set marks n true);
  count = omega (arith, counted.count, unmarked_less 34 marks n above inside free);
}

pub counted_low : (marks : List Bool) (unmarked n : ℕ) (value : Bool) → IsCounted marks unmarked → n < 34 → IsCounted (slice_set marks n value) unmarked
counted_low marks unmarked n value counted low = record {
  enough = omega (arith, counted.enough, length-set marks n value);
  few = omega (arith, counted.few, length-set marks n value);
  count = counted.count ∙ unmarked_same_low 34 marks n value low;
}

pub counted_again : (marks : List Bool) (unmarked n : ℕ) → IsCounted marks unmarked → is_marked marks n ≡ true → IsCounted (slice_set marks n true) unmarked
counted_again marks unmarked n counted marked = rw (mark_same marks n marked) counted

-- no more data blocks are unmarked than there are blocks
pub counted_few : (marks : List Bool) (unmarked : ℕ) → IsCounted marks unmarked → unmarked ≤ 67108864
counted_few marks unmarked counted = omega (arith, counted.count, counted.few, count_by-le-length not (drop 34 marks), length-drop 34 marks)

pub counted_more : (marks : List Bool) (unmarked n : ℕ) → IsCounted marks unmarked → 34 ≤ n → n < length marks → is_marked marks n ≡ true → IsCounted (slice_set marks n false) (unmarked + 1)
counted_more marks unmarked n counted above inside marked = record {
  enough = omega (arith, counted.enough, length-set marks n false);
  few = omega (arith, counted.few, length-set marks n false);
  count = omega (arith, counted.count, unmarked_more 34 marks n above inside marked);
}

-- more blocks, none of which is marked
pub counted_longer : (marks longer : List Bool) (unmarked blocks more : ℕ) → IsCounted marks unmarked → longer ≡ marks ++ replicate (blocks - length marks) false → length marks ≤ blocks → blocks ≤ 67108864 → more ≡ blocks - length marks
    → IsCounted longer (unmarked + more)
counted_longer marks longer unmarked blocks more counted is enough few many =
    let added : List Bool = replicate (blocks - length marks) false in
    let count : length longer ≡ length marks + (blocks - length marks) = ap length is ∙ length-append marks added ∙ ap (λ n. length marks + n) (length-replicate (blocks - length marks) false) in
    let free : free_count (drop 34 longer) ≡ free_count (drop 34 marks) + (blocks - length marks) =
    ap (λ (m : List Bool). free_count (drop 34 m)) is ∙ free_longer 34 marks (blocks - length marks) (omega (arith, counted.enough)) in
    record {
      enough = omega (arith, count, counted.enough);
      few = omega (arith, count);
      count = omega (arith, free, counted.count, many);
    }

-- fewer blocks
pub counted_fewer : (marks new : List Bool) (unmarked blocks gone : ℕ) → IsCounted marks unmarked → 64 ≤ blocks → blocks ≤ length marks → new ≡ take blocks marks → gone ≡ free_count (drop blocks marks)
    → IsCounted new (unmarked - gone)
counted_fewer marks new unmarked blocks gone counted enough fewer is many =
    let count : length new ≡ blocks = ap length is ∙ length-take-le blocks marks fewer in
    let free : free_count (drop 34 new) ≡ free_count (drop 34 (take blocks marks)) = ap (λ (m : List Bool). free_count (drop 34 m)) is in
    record {
      enough = omega arith;
      few = omega (arith, counted.few);
      count = omega (arith, counted.count, free, many, free_split_from 34 blocks marks (omega arith));
    }

pub tallied_fewer : (held new : List Bool) (free lowest blocks gone : ℕ) → IsTallied held free lowest → 64 ≤ blocks → blocks ≤ length held → new ≡ take blocks held → gone ≡ free_count (drop blocks held)
    → IsTallied new (free - gone) (min lowest blocks)
tallied_fewer held new free lowest blocks gone tallied enough fewer is many =
    let count : length new ≡ blocks = ap length is ∙ length-take-le blocks held fewer in
    let same : free_count new ≡ free_count (take blocks held) = ap (λ (h : List Bool). free_count h) is in
    record {
      enough = omega arith;
      few = omega (arith, tallied.few);
      system = λ n low. ap (λ (h : List Bool). is_marked h n) is ∙ get_or-take blocks held n false (omega arith) ∙ tallied.system n low;
      before = λ n low. ap (λ (h : List Bool). is_marked h n) is ∙ get_or-take blocks held n false (omega arith) ∙ tallied.before n (omega arith);
      count = omega (arith, tallied.count, same, many, free_split blocks held);
    }

pub counted_still : (marks : List Bool) (unmarked n : ℕ) → IsCounted marks unmarked → is_marked marks n ≡ false → IsCounted (slice_set marks n false) unmarked
counted_still marks unmarked n counted none = rw (unmark_same marks n none) counted

-- the store's own blocks, and then the marked ones
pub tallied_first : (held marks : List Bool) (free : ℕ) → held ≡ replicate 34 true ++ drop 34 marks → 64 ≤ length marks → length marks ≤ 67108864 → free ≡ free_count (drop 34 marks) → IsTallied held free 0
tallied_first held marks free is enough few count =
    let many : length held ≡ length marks = ap length is ∙ first_flags_length 34 marks (omega arith) in
    record {
      enough = omega arith;
      few = omega arith;
      system = λ n low. ap (λ (h : List Bool). is_marked h n) is ∙ first_flags_low 34 marks n low;
      before = λ n low. absurd (omega arith);
      count = count ∙ sym (free_first 34 marks) ∙ ap (λ (h : List Bool). free_count h) (sym is);
    }

pub tallied_new : (held : List Bool) (blocks : ℕ) → held ≡ replicate 34 true ++ drop 34 (replicate blocks false) → 64 ≤ blocks → blocks ≤ 67108864 → IsTallied held (blocks - 34) 0
tallied_new held blocks is enough few =
    let none = replicate blocks false in
    let many : length none ≡ blocks = length-replicate blocks false in
    tallied_first held none (blocks - 34) is (omega arith) (omega arith) (sym (free_new 34 blocks (omega arith)))

-- the marks as they are lent, copied, and then joined to the store's own blocks
pub replaced_by : (held copied lent marks : List Bool) → held ≡ replicate 34 true ++ drop 34 copied → copied ≡ lent → lent ≡ marks → held ≡ replicate 34 true ++ drop 34 marks
replaced_by held copied lent marks joined same shown = joined ∙ ap (λ (flags : List Bool). replicate 34 true ++ drop 34 flags) (same ∙ shown)

pub length_first : (first : ℕ) (held marks : List Bool) → held ≡ replicate first true ++ drop first marks → first ≤ length marks → length held ≡ length marks
length_first first held marks is enough = ap length is ∙ first_flags_length first marks enough

pub held_first : (first : ℕ) (held marks : List Bool) → held ≡ replicate first true ++ drop first marks → (n : ℕ) → n < first → IsHeld held n
held_first first held marks is n low = ap (λ (h : List Bool). is_marked h n) is ∙ first_flags_low first marks n low

pub marked_past : (first : ℕ) (held marks : List Bool) → held ≡ replicate first true ++ drop first marks → (n : ℕ) → first ≤ n → is_marked held n ≡ is_marked marks n
marked_past first held marks is n above = ap (λ (h : List Bool). is_marked h n) is ∙ first_flags_high first marks n above

pub only_first : (first blocks : ℕ) (held : List Bool) → held ≡ replicate first true ++ drop first (replicate blocks false) → (n : ℕ) → IsHeld held n ↔ (n < first)
only_first first blocks held is n = (
  (λ held_here. elim (cases_lt n first) [
    | inl low ↦ low
    | inr above ↦ absurd (false≢true (sym (marked_past first held (replicate blocks false) is n above ∙ no_mark blocks n) ∙ held_here))
  ]),
  (λ low. held_first first held (replicate blocks false) is n low),
)
