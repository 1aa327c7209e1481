-- Blocks that can't lie in a tree: the same block is the top of one subtree, with one level and one list of records.
use Rattle.std.proofs.Common.{◌≡◌, ◌≢◌, ℕ, zero, suc, ◌+◌, ◌<◌, ◌≤◌, List, [], ◌∷◌, ◌++◌, length, refl, sym, ap, subst, arith}
use Rattle.std.specs.List.{AllByRecursion}
use Rattle.vm_types.specs.declared.key.Key.{Key}
use Rattle.vm_types.specs.Places.{place, RisesFrom, places}
use Rattle.vm_disk.specs.Disk.{Contents, block}
use Rattle.vm_block.specs.Leaf.{Record, BeginsWith}
use Rattle.vm_block.specs.declared.node.Child.{Child}
use Rattle.vm_block.proofs.EachLemmas.{each_front, each_back, each_join}
use Rattle.vm_block.proofs.FormLemmas.{leaf_or_node}
use Rattle.vm_block.proofs.NodeLemmas.{node_one}
use Rattle.vm_tree.specs.Tree.{Sizes, Children, Subtree}
use Rattle.vm_tree.specs.Replacement.{Lacks, Apart}
use Rattle.vm_tree.proofs.TreeLemmas.{subtree_one}
use Rattle.vm_tree.proofs.Rising.{Above, rises_front, rises_back, rises_above}

-- the first of these records stands at p
abbrev pub Heads : ℕ → List Record → Type 0
Heads p [] = ⊥
Heads p (r ∷ rs) = place r.0 ≡ p

pub heads_begin : (low : Key) (rs : List Record) → BeginsWith low rs → Heads (place low) rs
heads_begin low [] begins = absurd begins
heads_begin low (r ∷ rs) begins = ap place begins

heads_some : (rs : List Record) → 0 < length rs → (p : ℕ) × Heads p rs
heads_some [] some = absurd (omega (arith, some))
heads_some (r ∷ rs) some = (place r.0, refl)

not_above : (p : ℕ) (rs : List Record) → Heads p rs → Above p rs → ⊥
not_above p [] heads above = absurd heads
not_above p (r ∷ rs) heads above = omega (arith, heads, above.0)

pub heads_join : (low : Key) (first rest : List Record) → BeginsWith low first → Heads (place low) (first ++ rest)
heads_join low [] rest begins = absurd begins
heads_join low (r ∷ first) rest begins = ap place begins

-- what comes after a part of rising records is above where they start
pub heads_parts : (p : ℕ) (low : Key) (first rest : List Record) → BeginsWith low first → Heads p (first ++ rest) → RisesFrom 0 (places (first ++ rest)) → Heads p first × Above p rest
heads_parts p low [] rest begins heads rises = absurd begins
heads_parts p low (r ∷ first) rest begins heads rises =
    (heads, rises_above p (place r.0 + 1) rest (omega (arith, heads)) (rises_back (place r.0 + 1) first rest rises.1))

-- and above each record of that part
pub all_above : (low : ℕ) (first rest : List Record) → RisesFrom low (places (first ++ rest)) → AllByRecursion (λ r. Above (place r.0) rest) first
all_above low [] rest rises = tt
all_above low (r ∷ first) rest rises =
    (rises_above (place r.0) (place r.0 + 1) rest (omega arith) (rises_back (place r.0 + 1) first rest rises.1), all_above (place r.0 + 1) first rest rises.1)

-- ---- under children

module _ (T : ℕ → List Record → List ℕ → Type 0) where
  children_some : (cs : List Child) (rs : List Record) (bs : List ℕ) → 0 < length cs → Children T cs rs bs → 0 < length rs
  children_some [] rs bs some t = absurd (omega (arith, some))
  children_some (c ∷ cs) rs bs some t = subst (λ (qs : List Record). 0 < length qs) (sym t.7) (begins_some t.0 t.5)
    where
      begins_some : (first : List Record) → BeginsWith c.low first → 0 < length (first ++ t.1)
      begins_some [] begins = absurd begins
      begins_some (r ∷ first) begins = omega arith

  module _ (b p : ℕ) (far : (c : ℕ) (rs : List Record) (bs : List ℕ) → T c rs bs → Above p rs → Lacks b bs) where
    children_far : (cs : List Child) (rs : List Record) (bs : List ℕ) → Children T cs rs bs → Above p rs → Lacks b bs
    children_far [] rs bs t above = subst (Lacks b) (sym t.1) tt
    children_far (c ∷ cs) rs bs t above =
        let whole = subst (Above p) t.7 above in
        subst (Lacks b) (sym t.8)
        (each_join (λ n. n ≢ b) t.2 t.3
        (far c.block t.0 t.2 t.4 (each_front (λ r. p < place r.0) t.0 t.1 whole))
        (children_far cs t.1 t.3 t.6 (each_back (λ r. p < place r.0) t.0 t.1 whole)))

    children_near : ((c : ℕ) (rs : List Record) (bs : List ℕ) → T c rs bs → Heads p rs → RisesFrom 0 (places rs) → Lacks b bs)
        → (cs : List Child) (rs : List Record) (bs : List ℕ) → Children T cs rs bs → Heads p rs → RisesFrom 0 (places rs) → Lacks b bs
    children_near near [] rs bs t heads rises = subst (Lacks b) (sym t.1) tt
    children_near near (c ∷ cs) rs bs t heads rises =
        let rising = subst (λ (qs : List Record). RisesFrom 0 (places qs)) t.7 rises in
        let parts = heads_parts p c.low t.0 t.1 t.5 (subst (Heads p) t.7 heads) rising in
        subst (Lacks b) (sym t.8)
        (each_join (λ n. n ≢ b) t.2 t.3
        (near c.block t.0 t.2 t.4 parts.0 (rises_front 0 t.0 t.1 rising))
        (children_far cs t.1 t.3 t.6 parts.1))

  module _ (rest : List Record) (others : List ℕ) (apart : (c : ℕ) (rs : List Record) (bs : List ℕ) → T c rs bs → AllByRecursion (λ r. Above (place r.0) rest) rs → Apart bs others) where
    children_apart : (cs : List Child) (rs : List Record) (bs : List ℕ) → Children T cs rs bs → AllByRecursion (λ r. Above (place r.0) rest) rs → Apart bs others
    children_apart [] rs bs t above = subst (λ (ds : List ℕ). Apart ds others) (sym t.1) tt
    children_apart (c ∷ cs) rs bs t above =
        let whole = subst (AllByRecursion (λ (r : Record). Above (place r.0) rest)) t.7 above in
        subst (λ (ds : List ℕ). Apart ds others) (sym t.8)
        (each_join (λ n. Lacks n others) t.2 t.3
        (apart c.block t.0 t.2 t.4 (each_front (λ (r : Record). Above (place r.0) rest) t.0 t.1 whole))
        (children_apart cs t.1 t.3 t.6 (each_back (λ (r : Record). Above (place r.0) rest) t.0 t.1 whole)))

-- ---- under subtrees

module _ (sizes : Sizes) (x : Contents) (limit : ℕ) where
  pub subtree_some : (l b : ℕ) (rs : List Record) (bs : List ℕ) → Subtree sizes x limit l b rs bs → 0 < length rs
  unfolding Subtree
  subtree_some zero b rs bs t = t.1.some
  subtree_some (suc l) b rs bs t = children_some (Subtree sizes x limit l) t.1 rs t.2 t.3.some t.5

  -- the same block is the top of subtrees of one level
  level_one : (l k b : ℕ) (rs qs : List Record) (bs ds : List ℕ) → Subtree sizes x limit l b rs bs → Subtree sizes x limit k b qs ds → l ≡ k
  unfolding Subtree
  level_one zero zero b rs qs bs ds t u = refl
  level_one zero (suc k) b rs qs bs ds t u = absurd (leaf_or_node (block x b) rs (suc k) u.1 t.1 u.3)
  level_one (suc l) zero b rs qs bs ds t u = absurd (leaf_or_node (block x b) qs (suc l) t.1 u.1 t.3)
  level_one (suc l) (suc k) b rs qs bs ds t u = (node_one (block x b) (suc l) (suc k) t.1 u.1 t.3 u.3).0

  -- block b is the top of a subtree of level k, with records that start at place p
  pub record IsTopAt (k b p : ℕ) : Type 0 where
    pub sub : List Record
    pub own : List ℕ
    pub subtree : Subtree sizes x limit k b sub own
    pub heads : Heads p sub

  pub top_at : (k b : ℕ) (low : Key) (sub : List Record) (own : List ℕ) → Subtree sizes x limit k b sub own → BeginsWith low sub → IsTopAt k b (place low)
  top_at k b low sub own tree begins = record { sub = sub; own = own; subtree = tree; heads = heads_begin low sub begins }

  module _ (k b p : ℕ) (top : IsTopAt k b p) where
    -- it is not the top of one whose records are above
    top_far : (l c : ℕ) (rs : List Record) (bs : List ℕ) → Subtree sizes x limit l c rs bs → Above p rs → c ≢ b
    top_far l c rs bs tree above e =
        let there = subst (λ n. Subtree sizes x limit l n rs bs) e tree in
        let same = (subtree_one sizes x limit l k b rs top.sub bs top.own there top.subtree).0 in
        not_above p top.sub top.heads (subst (Above p) same above)

    -- nor of one of another level
    top_other : (l c : ℕ) (rs : List Record) (bs : List ℕ) → Subtree sizes x limit l c rs bs → (l ≡ k → c ≢ b) → c ≢ b
    top_other l c rs bs tree other e =
        let there = subst (λ n. Subtree sizes x limit l n rs bs) e tree in
        other (level_one l k b rs top.sub bs top.own there top.subtree) e

    -- so it does not lie in a subtree whose records are above
    pub far : (l c : ℕ) (rs : List Record) (bs : List ℕ) → Subtree sizes x limit l c rs bs → Above p rs → Lacks b bs
    unfolding Subtree
    far zero c rs bs t above = subst (Lacks b) (sym t.2) (top_far zero c rs bs t above, tt)
    far (suc l) c rs bs t above =
        subst (Lacks b) (sym t.6) (top_far (suc l) c rs bs t above, children_far (Subtree sizes x limit l) b p (far l) t.1 rs t.2 t.5 above)

    -- nor in one that starts at the same place and isn't higher, unless it is that one
    pub near : (l c : ℕ) (rs : List Record) (bs : List ℕ) → l ≤ k → (l ≡ k → c ≢ b) → Subtree sizes x limit l c rs bs → Heads p rs → RisesFrom 0 (places rs) → Lacks b bs
    unfolding Subtree
    near zero c rs bs low other t heads rises = subst (Lacks b) (sym t.2) (top_other zero c rs bs t other, tt)
    near (suc l) c rs bs low other t heads rises =
        subst (Lacks b) (sym t.6) (
          top_other (suc l) c rs bs t other,
          children_near (Subtree sizes x limit l) b p (far l) (λ d qs ds. near l d qs ds (omega (arith, low)) (λ same. absurd (omega (arith, same, low)))) t.1 rs t.2 t.5 heads rises,
        )

    -- nor under itself
    lacks_itself : (l : ℕ) (cs : List Child) (rs : List Record) (under : List ℕ) → l < k → Children (Subtree sizes x limit l) cs rs under → Heads p rs → RisesFrom 0 (places rs) → Lacks b under
    lacks_itself l cs rs under low t heads rises =
        children_near (Subtree sizes x limit l) b p (far l) (λ d qs ds. near l d qs ds (omega (arith, low)) (λ same. absurd (omega (arith, same, low)))) cs rs under t heads rises

  -- the first of the blocks of a subtree is its top, which does not come again
  pub subtree_once : (l b : ℕ) (rs : List Record) (bs : List ℕ) → Subtree sizes x limit l b rs bs → RisesFrom 0 (places rs) → (under : List ℕ) × (bs ≡ b ∷ under) × Lacks b under
  unfolding Subtree
  subtree_once zero b rs bs t rises = ([], t.2, tt)
  subtree_once (suc l) b rs bs t rises =
      let heads = heads_some rs (subtree_some (suc l) b rs bs t) in
      (t.2, t.6, lacks_itself (suc l) b heads.0 (record { sub = rs; own = bs; subtree = t; heads = heads.1 }) l t.1 rs t.2 (omega arith) t.5 heads.1 rises)

  -- the blocks of a subtree are none of those in which nothing above a place stands that is before its records
  module _ (rest : List Record) (others : List ℕ) (after : (k c p : ℕ) → IsTopAt k c p → Above p rest → Lacks c others) where
    top_apart : (l c : ℕ) (rs : List Record) (bs : List ℕ) → Subtree sizes x limit l c rs bs → AllByRecursion (λ r. Above (place r.0) rest) rs → Lacks c others
    top_apart l c [] bs tree above = absurd (omega (arith, subtree_some l c [] bs tree))
    top_apart l c (r ∷ rs) bs tree above = after l c (place r.0) (record { sub = r ∷ rs; own = bs; subtree = tree; heads = refl }) above.0

    pub subtree_before : (l c : ℕ) (rs : List Record) (bs : List ℕ) → Subtree sizes x limit l c rs bs → AllByRecursion (λ r. Above (place r.0) rest) rs → Apart bs others
    unfolding Subtree
    subtree_before zero c rs bs t above = subst (λ (ds : List ℕ). Apart ds others) (sym t.2) (top_apart zero c rs bs t above, tt)
    subtree_before (suc l) c rs bs t above =
        subst (λ (ds : List ℕ). Apart ds others) (sym t.6) (top_apart (suc l) c rs bs t above, children_apart (Subtree sizes x limit l) rest others (subtree_before l) t.1 rs t.2 t.5 above)

  -- the blocks of subtrees side by side are none of those of subtrees whose records come after
  pub children_before : (l k : ℕ) (cs ds : List Child) (rs qs : List Record) (bs es : List ℕ) → Children (Subtree sizes x limit l) cs rs bs → Children (Subtree sizes x limit k) ds qs es
      → AllByRecursion (λ r. Above (place r.0) qs) rs → Apart bs es
  children_before l k cs ds rs qs bs es t u above =
      children_apart (Subtree sizes x limit l) qs es
      (subtree_before qs es
      (λ j c p top later. children_far (Subtree sizes x limit k) c p (far j c p top k) ds qs es u later) l) cs rs bs t above
