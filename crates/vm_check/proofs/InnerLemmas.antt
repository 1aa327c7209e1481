-- How many blocks that begin as inner blocks are not marked.
use Rattle.std.proofs.Common.{◌≡◌, ℕ, zero, suc, ◌+◌, ◌<◌, ◌≤◌, ◌&&◌, not, Bool, true, false, cond, List, [], ◌∷◌, length, refl, sym, ap, ap₂, ◌∙◌, subst, arith}
use Rattle.std.specs.Prelude.{slice_set}
use Rattle.vm_disk.specs.Disk.{Contents, Medium, block}
use Rattle.vm_alloc.specs.Held.{HoldsMore}
use Rattle.vm_alloc.specs.Marks.{IsMarked, is_marked}
use Rattle.vm_block.specs.Node.{IsNode, node_bytes, node_head}
use Rattle.vm_block.specs.declared.node.Child.{Child}
use Rattle.std.proofs.lemmas.Bool.{false_from_ne_true}
use Rattle.vm_check.specs.Marks.{inner_from, is_inner, unmarked_inner}

-- an inner block begins as one
node_letters : (level : ℕ) (cs : List Child) → is_inner (node_bytes level cs) ≡ true
unfolding node_bytes node_head
node_letters level cs = refl

pub node_inner : (bytes : List ℕ) (level : ℕ) (cs : List Child) → IsNode bytes level cs → is_inner bytes ≡ true
node_inner bytes level cs node = ap is_inner node.spelled ∙ node_letters level cs

module _ (x : Contents) where
  -- what a mark more counts for
  cost_less : (inner m l : Bool) → (m ≡ true → l ≡ true) → cond (inner && not l) 1 0 ≤ cond (inner && not m) 1 0
  cost_less false m l so = omega arith
  cost_less true false true so = omega arith
  cost_less true false false so = omega arith
  cost_less true true true so = omega arith
  cost_less true true false so = absurd (cc (so refl))

  -- where more is marked, no more inner blocks are not
  more_from : (n : ℕ) (ms ls : List Bool) → length ls ≡ length ms → ((k : ℕ) → IsMarked ms k → IsMarked ls k) → inner_from x n ls ≤ inner_from x n ms
  more_from n [] [] many still = omega arith
  more_from n [] (l ∷ ls) many still = absurd (omega (arith, many))
  more_from n (m ∷ ms) [] many still = absurd (omega (arith, many))
  more_from n (m ∷ ms) (l ∷ ls) many still =
      omega (arith, cost_less (is_inner (block x n)) m l (still 0), more_from (suc n) ms ls (omega (arith, many)) (λ k. still (suc k)))

  pub inner_more : (marks later : List Bool) → HoldsMore marks later → unmarked_inner x later ≤ unmarked_inner x marks
  inner_more marks later grows = more_from 0 marks later grows.same_length grows.still

  -- an inner block that is marked is one less that is not
  less_from : (n k : ℕ) (ms : List Bool) → k < length ms → is_marked ms k ≡ false → is_inner (block x (n + k)) ≡ true → inner_from x n ms ≡ inner_from x n (slice_set ms k true) + 1
  less_from n k [] inside none inner = absurd (omega (arith, inside))
  less_from n zero (m ∷ ms) inside none inner =
      let at : n + 0 ≡ n = omega arith in
      let here : is_inner (block x n) ≡ true = ap (λ j. is_inner (block x j)) (sym at) ∙ inner in
      let was : ◌≡◌ {A = ℕ} (cond (is_inner (block x n) && not m) 1 0) 1 = ap₂ (λ s t. cond (s && not t) 1 0) here none in
      let now : ◌≡◌ {A = ℕ} (cond (is_inner (block x n) && not true) 1 0) 0 = ap (λ s. cond (s && not true) 1 0) here in
      omega (arith, was, now)
  less_from n (suc k) (m ∷ ms) inside none inner =
      let at : suc n + k ≡ n + suc k = omega arith in
      let rest = less_from (suc n) k ms (omega (arith, inside)) none (ap (λ j. is_inner (block x j)) at ∙ inner) in
      omega (arith, rest)

  pub inner_less : (marks first : List Bool) (b : ℕ) → first ≡ slice_set marks b true → b < length marks → (IsMarked marks b → ⊥) → is_inner (block x b) ≡ true → unmarked_inner x marks ≡ unmarked_inner x first + 1
  inner_less marks first b set inside not_yet inner =
      let at : 0 + b ≡ b = omega arith in
      less_from 0 b marks inside (false_from_ne_true (is_marked marks b) not_yet) (ap (λ j. is_inner (block x j)) at ∙ inner) ∙ ap (λ ms. unmarked_inner x ms + 1) (sym set)

-- one step after another, on a disk that was only read
pub inner_then : (old mid : Medium) (a b c : ℕ) (first now later : List Bool) → mid ≡ old → b + unmarked_inner old.contents now ≤ a + unmarked_inner old.contents first → c + unmarked_inner mid.contents later ≤ b + unmarked_inner mid.contents now
    → c + unmarked_inner old.contents later ≤ a + unmarked_inner old.contents first
inner_then old mid a b c first now later same so_far step =
    let here : c + unmarked_inner old.contents later ≤ b + unmarked_inner old.contents now = subst (λ (m : Medium). c + unmarked_inner m.contents later ≤ b + unmarked_inner m.contents now) same step in
    omega (arith, so_far, here)
