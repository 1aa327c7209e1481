-- Marking what lies under roots, one after another.
use Rattle.std.proofs.Common.{◌≡◌, ℕ, zero, suc, ◌+◌, ◌<◌, ◌≤◌, Bool, List, [], ◌∷◌, length, get_or, take, refl, sym, subst, arith, inl, inr}
use Rattle.std.specs.List.{AllByRecursion}
use Rattle.std.proofs.lemmas.List.{take_all}
use Rattle.vm_alloc.specs.Marks.{IsMarked}
use Rattle.vm_disk.specs.Disk.{Contents, Medium}
use Rattle.vm_block.specs.Leaf.{Record}
use Rattle.vm_tree.specs.Tree.{Sizes, Subtree}
use Rattle.vm_tree.specs.declared.root.Root.{Root}
use Rattle.vm_tree.proofs.TreeLemmas.{node_opens}
use Rattle.vm_tree.proofs.Descent.{subtree_top}
use Rattle.vm_check.specs.Marks.{IsUnder, AreUnder, MarksMore, ClosedTo}
use Rattle.vm_check.proofs.JoinLemmas.{LastOf, last_of, joined_front}
use Rattle.vm_check.proofs.MarkLemmas.{Sealed, none_sealed, sealed_join, subtree_sealed, closed_more, more_then, same_more}

-- no block of a subtree is of a higher level than an inner block may have
pub level_low : (sizes : Sizes) (x : Contents) (limit l b : ℕ) (rs : List Record) (bs : List ℕ) → Subtree sizes x limit l b rs bs → l ≤ 7
level_low sizes x limit zero b rs bs t = omega arith
level_low sizes x limit (suc l) b rs bs t = let at = node_opens sizes x limit (suc l) l b rs bs refl t in at.node.low

pub closed_at : (x : Contents) (k most : ℕ) (marks : List Bool) → k ≤ most → ClosedTo x most marks → ClosedTo x k marks
closed_at x k most marks le closed = record { closed = λ n level cs is low node. closed.closed n level cs is (omega arith) node }

module _ (sizes : Sizes) (limit : ℕ) where
  under_sealed : (x : Contents) (root : Root) (bs : List ℕ) → IsUnder sizes x limit root bs → Sealed x bs
  under_sealed x root bs (m, inl bare) = subst (Sealed x) (sym bare.blocks) (none_sealed x)
  under_sealed x root bs (m, inr top) = subtree_sealed sizes x limit root.level root.block m bs top.subtree

  roots_sealed : (x : Contents) (roots : List Root) (bs : List ℕ) → AreUnder sizes x limit roots bs → Sealed x bs
  roots_sealed x [] bs t = subst (Sealed x) (sym t) (none_sealed x)
  roots_sealed x (r ∷ rs) bs t = subst (Sealed x) (sym t.4) (sealed_join x t.0 t.1 (under_sealed x r t.0 t.2) (roots_sealed x rs t.1 t.3))

  -- the marks so far, where those of the first i roots were made
  abbrev pub RootsSoFar : Contents → List Root → ℕ → List Bool → List Bool → Type 0
  RootsSoFar x roots i first now = (bs : List ℕ) → AreUnder sizes x limit (take i roots) bs → ClosedTo x 7 first → MarksMore bs first now

  record RootAt (x : Contents) (roots : List Root) (i : ℕ) (d : Root) (bs : List ℕ) (first now : List Bool) : Type 0 where
    pub last : LastOf (IsUnder sizes x limit) roots i d bs
    pub so_far : MarksMore last.before first now
    pub closed : ClosedTo x 7 now

  root_at : (x : Contents) (roots : List Root) (i : ℕ) (d : Root) (bs : List ℕ) (first now : List Bool) → i < length roots → AreUnder sizes x limit (take (i + 1) roots) bs → ClosedTo x 7 first
      → RootsSoFar x roots i first now → RootAt x roots i d bs first now
  root_at x roots i d bs first now lt joined closed before =
      let s = last_of (IsUnder sizes x limit) roots i d bs lt joined in
      let more = before s.before s.front closed in
      record { last = s; so_far = more; closed = closed_more x 7 s.before first now (roots_sealed x (take i roots) s.before s.front) closed more }

  -- one root more
  pub root_more : (old mid : Medium) (roots : List Root) (i : ℕ) (d : Root) (first now new : List Bool) → mid ≡ old → i < length roots → RootsSoFar old.contents roots i first now
      → ((ds : List ℕ) → IsUnder sizes mid.contents limit (get_or roots i d) ds → ClosedTo mid.contents 7 now → MarksMore ds now new)
      → RootsSoFar old.contents roots (i + 1) first new
  root_more old mid roots i d first now new same lt before step bs joined closed =
      let at = root_at old.contents roots i d bs first now lt joined closed before in
      let s = at.last in
      let under = subst (λ (n : Medium). IsUnder sizes n.contents limit (get_or roots i d) s.own) (sym same) s.last in
      let here = subst (λ (n : Medium). ClosedTo n.contents 7 now) (sym same) at.closed in
      subst (λ (ds : List ℕ). MarksMore ds first new) (sym s.blocks) (more_then s.before s.own first now new at.so_far (step s.own under here))

  -- a fault under a root
  pub root_fault : (old mid : Medium) (roots : List Root) (i : ℕ) (d : Root) (first now : List Bool) (F : Type 0) → mid ≡ old → i < length roots → RootsSoFar old.contents roots i first now
      → ((ds : List ℕ) → IsUnder sizes mid.contents limit (get_or roots i d) ds → ClosedTo mid.contents 7 now → F)
      → (bs : List ℕ) → AreUnder sizes old.contents limit roots bs → ClosedTo old.contents 7 first → F
  root_fault old mid roots i d first now F same lt before step bs joined closed =
      let front = joined_front (IsUnder sizes old.contents limit) roots (i + 1) bs joined in
      let at = root_at old.contents roots i d front.0 first now lt front.1 closed before in
      let s = at.last in
      step s.own (subst (λ (n : Medium). IsUnder sizes n.contents limit (get_or roots i d) s.own) (sym same) s.last) (subst (λ (n : Medium). ClosedTo n.contents 7 now) (sym same) at.closed)

  -- all roots
  pub roots_marked : (x : Contents) (roots : List Root) (i : ℕ) (bs : List ℕ) (first now : List Bool) → length roots ≤ i → RootsSoFar x roots i first now → AreUnder sizes x limit roots bs → ClosedTo x 7 first → MarksMore bs first now
  roots_marked x roots i bs first now all done joined closed =
      done bs (subst (λ (rs : List Root). AreUnder sizes x limit rs bs) (sym (take_all i roots all)) joined) closed

  pub roots_closed : (x : Contents) (roots : List Root) (bs : List ℕ) (first now : List Bool) → AreUnder sizes x limit roots bs → ClosedTo x 7 first → MarksMore bs first now → ClosedTo x 7 now
  roots_closed x roots bs first now joined closed more = closed_more x 7 bs first now (roots_sealed x roots bs joined) closed more

  -- what a root without a block marks: nothing
  pub bare_marked : (x : Contents) (root : Root) (bs : List ℕ) (marks : List Bool) → root.block ≡ 0 → IsUnder sizes x limit root bs → MarksMore bs marks marks
  bare_marked x root bs marks none (m, inl bare) = same_more bs marks (subst (AllByRecursion (IsMarked marks)) (sym bare.blocks) tt)
  bare_marked x root bs marks none (m, inr top) =
      let inside = subtree_top sizes x limit root.level root.block m bs top.subtree in absurd (omega (arith, inside.0, none))

  -- what a root with a block marks
  pub top_marked : (x : Contents) (root : Root) (bs : List ℕ) (marks : List Bool) (F : Type 0) → (root.block ≡ 0 → ⊥) → IsUnder sizes x limit root bs → ClosedTo x 7 marks
      → ((rs : List Record) → Subtree sizes x limit root.level root.block rs bs → ClosedTo x root.level marks → F) → F
  top_marked x root bs marks F some (m, inl bare) closed step = absurd (some bare.none)
  top_marked x root bs marks F some (m, inr top) closed step =
      step m top.subtree (closed_at x root.level 7 marks (level_low sizes x limit root.level root.block m bs top.subtree) closed)

-- the same, where the count of blocks has another name
pub in_blocks : (sizes : Sizes) (x : Contents) (limit other : ℕ) (roots : List Root) (bs : List ℕ) → other ≡ limit → AreUnder sizes x limit roots bs → AreUnder sizes x other roots bs
in_blocks sizes x limit other roots bs same under = subst (λ n. AreUnder sizes x n roots bs) (sym same) under
