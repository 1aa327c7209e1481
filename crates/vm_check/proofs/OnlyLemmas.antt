-- What is marked under roots whatever was marked before: their blocks alone.
use Rattle.std.proofs.Common.{◌≡◌, ◌⊎◌, inl, inr, ℕ, zero, suc, ◌+◌, ◌<◌, ◌≤◌, Bool, true, List, [], ◌∷◌, ◌++◌, length, get_or, take, refl, sym, ◌∙◌, subst, arith}
use Rattle.std.specs.Prelude.{slice_set, Contains}
use Rattle.std.proofs.lemmas.Bool.{cases_eq}
use Rattle.std.proofs.lemmas.List.{take_all}
use Rattle.std.proofs.lemmas.List.Elements.{Contains-append_left, Contains-append_right, Contains-append_cases}
use Rattle.vm_disk.specs.Disk.{Medium}
use Rattle.vm_alloc.specs.Marks.{IsMarked}
use Rattle.vm_alloc.proofs.HeldLemmas.{others_as_before}
use Rattle.vm_block.specs.Leaf.{Record}
use Rattle.vm_block.specs.declared.node.Child.{Child}
use Rattle.vm_tree.specs.Tree.{Sizes, Subtree}
use Rattle.vm_tree.specs.declared.root.Root.{Root}
use Rattle.vm_check.specs.Marks.{Joined, IsUnder, MarksOnly}
use Rattle.vm_check.proofs.JoinLemmas.{last_of, joined_front}
use Rattle.vm_check.proofs.MarkLemmas.{IsBelow, is_first}

only_then : (bs cs : List ℕ) (a b c : List Bool) → MarksOnly bs a b → MarksOnly cs b c → MarksOnly (bs ++ cs) a c
only_then bs cs a b c first then n is = later (then n is)
  where
    earlier : IsMarked a n ⊎ Contains bs n → IsMarked a n ⊎ Contains (bs ++ cs) n
    earlier (inl was) = inl was
    earlier (inr at) = inr (Contains-append_left bs cs n at)

    later : IsMarked b n ⊎ Contains cs n → IsMarked a n ⊎ Contains (bs ++ cs) n
    later (inl was) = earlier (first n was)
    later (inr at) = inr (Contains-append_right bs cs n at)

only_within : (bs cs : List ℕ) (a b : List Bool) → ((n : ℕ) → Contains bs n → Contains cs n) → MarksOnly bs a b → MarksOnly cs a b
only_within bs cs a b within only n is = by_case (only n is)
  where
    by_case : IsMarked a n ⊎ Contains bs n → IsMarked a n ⊎ Contains cs n
    by_case (inl was) = inl was
    by_case (inr at) = inr (within n at)

-- one mark more, on one of the blocks
pub only_set : (b : ℕ) (bs : List ℕ) (marks first : List Bool) → first ≡ slice_set marks b true → Contains bs b → MarksOnly bs marks first
only_set b bs marks first set at n is = elim (cases_eq n b) [
  | inl same ↦ inr (subst (Contains bs) (sym same) at)
  | inr other ↦ inl (sym (others_as_before marks b n other) ∙ subst (λ (z : List Bool). IsMarked z n) set is)
]

module _ {X : Type 0} (T : X → List ℕ → Type 0) where
  -- the marks so far, where those of the first i elements were made
  abbrev pub OnlySoFar : List X → ℕ → List Bool → List Bool → Type 0
  OnlySoFar xs i first now = (bs : List ℕ) → Joined T (take i xs) bs → MarksOnly bs first now

  -- one of the elements has its blocks
  pub joined_at : (xs : List X) (i : ℕ) (d : X) (bs : List ℕ) → i < length xs → Joined T xs bs → (own : List ℕ) × T (get_or xs i d) own
  joined_at xs i d bs lt t =
      let front = joined_front T xs (i + 1) bs t in
      let s = last_of T xs i d front.0 lt front.1 in
      (s.own, s.last)

  -- the blocks of the first elements are among those of all
  pub record FrontOf (xs : List X) (i : ℕ) (bs : List ℕ) : Type 0 where
    pub blocks : List ℕ
    pub joined : Joined T (take i xs) blocks
    pub within : (n : ℕ) → Contains blocks n → Contains bs n

  front_of : (xs : List X) (i : ℕ) (bs : List ℕ) → Joined T xs bs → FrontOf xs i bs
  front_of xs zero bs t = record { blocks = []; joined = refl; within = λ n at. absurd (let (k, inside, is) = at in omega (arith, inside)) }
  front_of [] (suc i) bs t = record { blocks = []; joined = refl; within = λ n at. subst (λ (ds : List ℕ). Contains ds n) (sym t) at }
  front_of (x ∷ xs) (suc i) bs t =
      let rest = front_of xs i t.1 t.3 in
      record {
        blocks = t.0 ++ rest.blocks;
        joined = (t.0, rest.blocks, t.2, rest.joined, refl);
        within = λ n at. subst (λ (ds : List ℕ). Contains ds n) (sym t.4) (by_part rest n (Contains-append_cases t.0 rest.blocks n at));
      }
    where
      by_part : (rest : FrontOf xs i t.1) → (n : ℕ) → Contains t.0 n ⊎ Contains rest.blocks n → Contains (t.0 ++ t.1) n
      by_part rest n (inl at) = Contains-append_left t.0 t.1 n at
      by_part rest n (inr at) = Contains-append_right t.0 t.1 n (rest.within n at)

  -- one element more
  pub only_more : (xs : List X) (i : ℕ) (d : X) (first now new : List Bool) → i < length xs → OnlySoFar xs i first now → ((ds : List ℕ) → T (get_or xs i d) ds → MarksOnly ds now new)
      → OnlySoFar xs (i + 1) first new
  only_more xs i d first now new lt before step bs joined =
      let s = last_of T xs i d bs lt joined in
      subst (λ (ds : List ℕ). MarksOnly ds first new) (sym s.blocks) (only_then s.before s.own first now new (before s.before s.front) (step s.own s.last))

  -- a fault at an element
  pub only_fault : (xs : List X) (i : ℕ) (d : X) (first now new : List Bool) → i < length xs → OnlySoFar xs i first now → ((ds : List ℕ) → T (get_or xs i d) ds → MarksOnly ds now new)
      → (bs : List ℕ) → Joined T xs bs → MarksOnly bs first new
  only_fault xs i d first now new lt before step bs joined =
      let front = front_of xs (i + 1) bs joined in
      only_within front.blocks bs first new front.within (only_more xs i d first now new lt before step front.blocks front.joined)

  -- all elements
  pub only_all : (xs : List X) (i : ℕ) (bs : List ℕ) (first now : List Bool) → length xs ≤ i → OnlySoFar xs i first now → Joined T xs bs → MarksOnly bs first now
  only_all xs i bs first now all done joined = done bs (subst (λ (ys : List X). Joined T ys bs) (sym (take_all i xs all)) joined)

-- the top of a subtree was marked, and then some of what lies under it
pub only_top : (b : ℕ) (under bs : List ℕ) (marks first now : List Bool) → first ≡ slice_set marks b true → bs ≡ b ∷ under → MarksOnly under first now → MarksOnly bs marks now
only_top b under bs marks first now set is rest =
    subst (λ (ds : List ℕ). MarksOnly ds marks now) (sym is) (only_then (b ∷ []) under marks first now (only_set b (b ∷ []) marks first set (is_first b [])) rest)

-- the children of an inner block of a tree, of which the present one is visited on the same disk
module _ (sizes : Sizes) (limit l : ℕ) (old mid : Medium) (cs : List Child) (i : ℕ) (d : Child) (same : mid ≡ old) (lt : i < length cs) (is : get_or cs i d ≡ d) where
  child_below : (rs : List Record) (ds : List ℕ) → Subtree sizes old.contents limit l (get_or cs i d).block rs ds → Subtree sizes mid.contents limit l d.block rs ds
  child_below rs ds sub = subst (λ (m : Medium). Subtree sizes m.contents limit l d.block rs ds) (sym same) (subst (λ (e : Child). Subtree sizes old.contents limit l e.block rs ds) is sub)

  pub child_sound : (bs : List ℕ) (F : Type 0) → Joined (IsBelow sizes old.contents limit l) cs bs
      → ((rs : List Record) (ds : List ℕ) → Subtree sizes mid.contents limit l d.block rs ds → F) → F
  child_sound bs F joined step =
      let at = joined_at (IsBelow sizes old.contents limit l) cs i d bs lt joined in
      step at.1.0 at.0 (child_below at.1.0 at.0 at.1.1)

  child_step : (now new : List Bool) → ((rs : List Record) (ds : List ℕ) → Subtree sizes mid.contents limit l d.block rs ds → MarksOnly ds now new)
      → (ds : List ℕ) → IsBelow sizes old.contents limit l (get_or cs i d) ds → MarksOnly ds now new
  child_step now new step ds below = step below.0 ds (child_below below.0 ds below.1)

  pub child_only_more : (first now new : List Bool) → OnlySoFar (IsBelow sizes old.contents limit l) cs i first now
      → ((rs : List Record) (ds : List ℕ) → Subtree sizes mid.contents limit l d.block rs ds → MarksOnly ds now new)
      → OnlySoFar (IsBelow sizes old.contents limit l) cs (i + 1) first new
  child_only_more first now new before step = only_more (IsBelow sizes old.contents limit l) cs i d first now new lt before (child_step now new step)

  pub child_only_fault : (first now new : List Bool) → OnlySoFar (IsBelow sizes old.contents limit l) cs i first now
      → ((rs : List Record) (ds : List ℕ) → Subtree sizes mid.contents limit l d.block rs ds → MarksOnly ds now new)
      → (bs : List ℕ) → Joined (IsBelow sizes old.contents limit l) cs bs → MarksOnly bs first new
  child_only_fault first now new before step = only_fault (IsBelow sizes old.contents limit l) cs i d first now new lt before (child_step now new step)

-- a root that has a block
pub root_top : (sizes : Sizes) (x : _) (limit : ℕ) (root : Root) (bs : List ℕ) (F : Type 0) → (root.block ≡ 0 → ⊥) → IsUnder sizes x limit root bs
    → ((rs : List Record) → Subtree sizes x limit root.level root.block rs bs → F) → F
root_top sizes x limit root bs F some (m, inl bare) step = absurd (some bare.none)
root_top sizes x limit root bs F some (m, inr top) step = step m top.subtree

-- the roots, of which the present one is visited on the same disk
module _ (sizes : Sizes) (limit : ℕ) (old mid : Medium) (roots : List Root) (i : ℕ) (d : Root) (same : mid ≡ old) (lt : i < length roots) where
  root_step : (F : List ℕ → Type 0) → ((ds : List ℕ) → IsUnder sizes mid.contents limit (get_or roots i d) ds → F ds) → (ds : List ℕ) → IsUnder sizes old.contents limit (get_or roots i d) ds → F ds
  root_step F step ds under = step ds (subst (λ (m : Medium). IsUnder sizes m.contents limit (get_or roots i d) ds) (sym same) under)

  pub root_sound : (bs : List ℕ) (F : Type 0) → Joined (IsUnder sizes old.contents limit) roots bs → ((ds : List ℕ) → IsUnder sizes mid.contents limit (get_or roots i d) ds → F) → F
  root_sound bs F joined step =
      let at = joined_at (IsUnder sizes old.contents limit) roots i d bs lt joined in root_step (λ (ds : List ℕ). F) step at.0 at.1

  pub root_only_more : (first now new : List Bool) → OnlySoFar (IsUnder sizes old.contents limit) roots i first now
      → ((ds : List ℕ) → IsUnder sizes mid.contents limit (get_or roots i d) ds → MarksOnly ds now new) → OnlySoFar (IsUnder sizes old.contents limit) roots (i + 1) first new
  root_only_more first now new before step =
      only_more (IsUnder sizes old.contents limit) roots i d first now new lt before (root_step (λ (ds : List ℕ). MarksOnly ds now new) step)

  pub root_only_fault : (first now new : List Bool) → OnlySoFar (IsUnder sizes old.contents limit) roots i first now
      → ((ds : List ℕ) → IsUnder sizes mid.contents limit (get_or roots i d) ds → MarksOnly ds now new) → (bs : List ℕ) → Joined (IsUnder sizes old.contents limit) roots bs → MarksOnly bs first new
  root_only_fault first now new before step =
      only_fault (IsUnder sizes old.contents limit) roots i d first now new lt before (root_step (λ (ds : List ℕ). MarksOnly ds now new) step)
