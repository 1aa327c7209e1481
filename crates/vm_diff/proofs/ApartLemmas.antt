-- Blocks that can't lie under tops of trees beside one another.
use Rattle.std.proofs.Common.{◌≡◌, ◌≢◌, ℕ, ◌<◌, ◌≤◌, Bool, List, [], ◌∷◌, ◌++◌, sym, subst}
use Rattle.std.specs.List.{AllByRecursion}
use Rattle.vm_types.specs.Places.{place, RisesFrom, places}
use Rattle.vm_disk.specs.Disk.{Contents}
use Rattle.vm_block.specs.Leaf.{Record}
use Rattle.vm_block.proofs.EachLemmas.{each_front, each_back, each_join}
use Rattle.vm_tree.specs.Tree.{Sizes, Subtree}
use Rattle.vm_tree.specs.Over.{subtree_over}
use Rattle.vm_tree.specs.Replacement.{Lacks, Apart}
use Rattle.vm_tree.specs.declared.root.Root.{Root}
use Rattle.vm_tree.proofs.ApartLemmas.{Heads, heads_begin, heads_join, heads_parts, IsTopAt, far, near, subtree_before}
use Rattle.vm_tree.proofs.OverParts.{subtree_each}
use Rattle.vm_tree.proofs.Rising.{Above, rises_front}
use Rattle.vm_diff.specs.Walk.{Under}

module _ (test : ℕ → Bool) (sizes : Sizes) (x : Contents) (limit : ℕ) where
  -- a block that lies in no subtree whose records are above a place lies not under tops of such
  pub under_above : (b p : ℕ) → ((l c : ℕ) (rs : List Record) (bs : List ℕ) → Subtree sizes x limit l c rs bs → Above p rs → Lacks b bs)
      → (ts : List Root) (rs : List Record) (bs : List ℕ) → Under test sizes x limit ts rs bs → Above p rs → Lacks b bs
  under_above b p outside [] rs bs u above = subst (Lacks b) (sym u.1) tt
  under_above b p outside (t ∷ ts) rs bs u above =
      let whole = subst (Above p) u.7 above in
      subst (Lacks b) (sym u.8)
      (each_join (λ n. n ≢ b) (subtree_over test sizes x limit t.level t.block u.0 u.2 u.4) u.3
      (subtree_each (λ n. n ≢ b) test sizes x limit t.level t.block u.0 u.2 u.4 (outside t.level t.block u.0 u.2 u.4 (each_front (λ r. p < place r.0) u.0 u.1 whole)))
      (under_above b p outside ts u.1 u.3 u.6 (each_back (λ r. p < place r.0) u.0 u.1 whole)))

  module _ (k b p : ℕ) (top : IsTopAt sizes x limit k b p) where
    -- a top of a subtree is not under tops whose records are above
    pub under_far : (ts : List Root) (rs : List Record) (bs : List ℕ) → Under test sizes x limit ts rs bs → Above p rs → Lacks b bs
    under_far = under_above b p (far sizes x limit k b p top)

    -- nor under tops of which the first starts at the same place and isn't higher, unless it is that one
    pub under_near : (t : Root) (ts : List Root) (rs : List Record) (bs : List ℕ) → t.level ≤ k → (t.level ≡ k → t.block ≢ b) → p ≡ place t.low → Under test sizes x limit (t ∷ ts) rs bs → RisesFrom 0 (places rs) → Lacks b bs
    under_near t ts rs bs low other level u rises =
        let rising = subst (λ (qs : List Record). RisesFrom 0 (places qs)) u.7 rises in
        let heads = subst (λ q. Heads q u.0) (sym level) (heads_begin t.low u.0 u.5) in
        let parts = heads_parts p t.low u.0 u.1 u.5 (subst (λ q. Heads q (u.0 ++ u.1)) (sym level) (heads_join t.low u.0 u.1 u.5)) rising in
        subst (Lacks b) (sym u.8)
        (each_join (λ n. n ≢ b) (subtree_over test sizes x limit t.level t.block u.0 u.2 u.4) u.3
        (subtree_each (λ n. n ≢ b) test sizes x limit t.level t.block u.0 u.2 u.4 (near sizes x limit k b p top t.level t.block u.0 u.2 low other u.4 heads (rises_front 0 u.0 u.1 rising)))
        (under_far ts u.1 u.3 u.6 parts.1))

  -- the blocks of a subtree are none of those under tops whose records come after
  pub subtree_apart : (ts : List Root) (rest : List Record) (others : List ℕ) → Under test sizes x limit ts rest others → (l c : ℕ) (rs : List Record) (bs : List ℕ) → Subtree sizes x limit l c rs bs
      → AllByRecursion (λ r. Above (place r.0) rest) rs → Apart bs others
  subtree_apart ts rest others after =
      subtree_before sizes x limit rest others
      (λ j c p top later. under_far j c p top ts rest others after later)
