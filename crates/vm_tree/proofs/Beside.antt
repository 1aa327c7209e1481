-- The blocks of a tree that are beside those of the child that a descent takes.
use Rattle.std.proofs.Common.{◌≡◌, ◌≢◌, ℕ, suc, ◌-◌, ◌<◌, List, [], ◌∷◌, ◌++◌, get_or, take, drop, refl, sym, subst}
use Rattle.std.specs.List.{AllByRecursion}
use Rattle.vm_types.specs.Places.{RisesFrom, places}
use Rattle.vm_disk.specs.Disk.{Contents}
use Rattle.vm_block.specs.Leaf.{Record}
use Rattle.vm_block.specs.declared.node.Child.{Child}
use Rattle.vm_block.proofs.EachLemmas.{each_front, each_back, each_so}
use Rattle.vm_tree.specs.Tree.{Sizes, Children, Subtree}
use Rattle.vm_tree.specs.Replacement.{Lacks, Apart}
use Rattle.vm_tree.proofs.ApartLemmas.{all_above, children_before, subtree_once}
use Rattle.vm_tree.proofs.Descent.{Opened}
use Rattle.vm_tree.proofs.Rising.{rises_back}
use Rattle.vm_tree.proofs.Splitting.{child_alone}

-- blocks that are apart from others have those apart from them
pub apart_turned : (xs ys : List ℕ) → Apart xs ys → Apart ys xs
apart_turned xs [] apart = tt
apart_turned xs (y ∷ ys) apart = (
  each_so (λ b. Lacks b (y ∷ ys)) (λ b. b ≢ y) (λ b lacks e. lacks.0 (sym e)) xs apart,
  apart_turned xs ys (each_so (λ b. Lacks b (y ∷ ys)) (λ b. Lacks b ys) (λ b lacks. lacks.1) xs apart),
)

-- what is none of the blocks of a subtree is not its top
pub lacks_top : (sizes : Sizes) (x : Contents) (limit level b : ℕ) (rs : List Record) (bs : List ℕ) (n : ℕ) → Subtree sizes x limit level b rs bs → RisesFrom 0 (places rs) → Lacks n bs → b ≢ n
lacks_top sizes x limit level b rs bs n tree rises lacks = (subst (Lacks n) (subtree_once sizes x limit level b rs bs tree rises).1 lacks).0

module _ (sizes : Sizes) (x : Contents) (limit level b p : ℕ) (rs : List Record) (bs : List ℕ) (cs : List Child) (i : ℕ) (d : Child) (above : 0 < level)
    (tree : Subtree sizes x limit level b rs bs) (rises : RisesFrom 0 (places rs)) (at : Opened sizes x limit level b p rs bs cs i d) where
  -- the block does not come again under itself
  once : Lacks b at.under
  once =
      let first = subtree_once sizes x limit level b rs bs tree rises in
      let same : first.0 ≡ at.under = cc (first.1, at.first) in
      subst (Lacks b) same first.2

  once_apart : Lacks b (at.way.split.left ++ (at.way.split.own ++ at.way.split.right))
  once_apart = subst (Lacks b) at.way.split.blocks once

  -- the blocks before those of the chosen child, and those after, are none of them
  pub left_apart : Apart at.way.split.left at.way.split.own
  left_apart =
      let s = at.way.split in
      let T = Subtree sizes x limit (level - 1) in
      let whole = subst (λ (qs : List Record). RisesFrom 0 (places qs)) s.records rises in
      let e = get_or cs i d in
      let later : Children T (e ∷ drop (suc i) cs) (s.sub ++ s.after) (s.own ++ s.right) = (s.sub, s.after, s.own, s.right, s.child, s.begins, s.back, refl, refl) in
      let apart = children_before sizes x limit (level - 1) (level - 1) (take i cs) (e ∷ drop (suc i) cs) s.before (s.sub ++ s.after) s.left (s.own ++ s.right) s.front later (all_above 0 s.before (s.sub ++ s.after) whole) in
      each_so (λ n. Lacks n (s.own ++ s.right)) (λ n. Lacks n s.own) (λ n lacks. each_front (λ c. c ≢ n) s.own s.right lacks) s.left apart

  pub right_apart : Apart at.way.split.right at.way.split.own
  right_apart =
      let s = at.way.split in
      let T = Subtree sizes x limit (level - 1) in
      let whole = subst (λ (qs : List Record). RisesFrom 0 (places qs)) s.records rises in
      let e = get_or cs i d in
      let rest = rises_back 0 s.before (s.sub ++ s.after) whole in
      apart_turned s.own s.right
      (children_before sizes x limit (level - 1) (level - 1) (e ∷ []) (drop (suc i) cs) s.sub s.after s.own s.right (child_alone T e s.sub s.own s.child s.begins) s.back (all_above 0 s.sub s.after rest))

  -- what holds of all blocks holds of the block itself, and of those under the children before the chosen one, under that, and under those
  -- after it
  pub record Parts (P : ℕ → Type 0) : Type 0 where
    pub top : P b
    pub left : AllByRecursion P at.way.split.left
    pub own : AllByRecursion P at.way.split.own
    pub right : AllByRecursion P at.way.split.right

  under_parts : (P : ℕ → Type 0) → P b → AllByRecursion P (at.way.split.left ++ (at.way.split.own ++ at.way.split.right)) → Parts P
  under_parts P here all =
      let s = at.way.split in
      let rest = each_back P s.left (s.own ++ s.right) all in
      record { top = here; left = each_front P s.left (s.own ++ s.right) all; own = each_front P s.own s.right rest; right = each_back P s.own s.right rest }

  pub parts_of : (P : ℕ → Type 0) → AllByRecursion P bs → Parts P
  parts_of P all =
      let whole = subst (AllByRecursion P) at.first all in under_parts P whole.0 (subst (AllByRecursion P) at.way.split.blocks whole.1)

  -- none of those under it is the block itself
  pub once_left : Lacks b at.way.split.left
  once_left = each_front (λ c. c ≢ b) at.way.split.left (at.way.split.own ++ at.way.split.right) once_apart

  pub once_own : Lacks b at.way.split.own
  once_own = each_front (λ c. c ≢ b) at.way.split.own at.way.split.right (each_back (λ c. c ≢ b) at.way.split.left (at.way.split.own ++ at.way.split.right) once_apart)

  pub once_right : Lacks b at.way.split.right
  once_right = each_back (λ c. c ≢ b) at.way.split.own at.way.split.right (each_back (λ c. c ≢ b) at.way.split.left (at.way.split.own ++ at.way.split.right) once_apart)
