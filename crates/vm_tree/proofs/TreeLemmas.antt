-- Trees in blocks: contents that agree on the blocks of a tree have the same tree, all blocks of a tree are for data,
-- and under one root lies one map.
use Rattle.std.proofs.Common.{◌≡◌, ℕ, zero, suc, ◌<◌, ◌≤◌, List, [], ◌∷◌, ◌++◌, length, sym, ap, ◌∙◌, subst, refl, arith}
use Rattle.std.specs.List.{AllByRecursion}
use Rattle.vm_disk.specs.Disk.{Contents, block}
use Rattle.vm_block.specs.declared.node.Child.{Child}
use Rattle.vm_types.specs.Places.{KeyFits, FitKeys, RisesFrom, places}
use Rattle.vm_block.specs.Leaf.{HasRecords, Record, RecordFits}
use Rattle.vm_block.specs.Node.{IsNode}
use Rattle.vm_block.proofs.FormLemmas.{leaf_or_node}
use Rattle.vm_block.proofs.NodeLemmas.{node_one}
use Rattle.vm_block.proofs.SpelledLemmas.{records_one}
use Rattle.vm_block.proofs.EachLemmas.{each_front, each_back, each_join, each_so}
use Rattle.vm_tree.specs.BlockReads.{IsLeafAt}
use Rattle.vm_tree.specs.Tree.{Sizes, IsData, Children, Subtree, IsTree, Stands}

-- # Other contents

-- what lies under children, in other contents
children_in : (P : ℕ → Type 0) (T U : ℕ → List Record → List ℕ → Type 0) → ((b : ℕ) (rs : List Record) (bs : List ℕ) → T b rs bs → AllByRecursion P bs → U b rs bs)
    → (cs : List Child) (rs : List Record) (bs : List ℕ) → Children T cs rs bs → AllByRecursion P bs → Children U cs rs bs
children_in P T U so [] rs bs t all = t
children_in P T U so (c ∷ cs) rs bs t all =
    let own = t.2 in
    let others = t.3 in
    let whole = subst (AllByRecursion P) t.8 all in
    (t.0, t.1, own, others, so c.block t.0 own t.4 (each_front P own others whole), t.5, children_in P T U so cs t.1 others t.6 (each_back P own others whole), t.7, t.8)

-- the frame law of a subtree
pub subtree_in : (P : ℕ → Type 0) (sizes : Sizes) (x y : Contents) (limit : ℕ) → ((n : ℕ) → P n → block y n ≡ block x n)
    → (l b : ℕ) (rs : List Record) (bs : List ℕ) → Subtree sizes x limit l b rs bs → AllByRecursion P bs → Subtree sizes y limit l b rs bs
unfolding Subtree
subtree_in P sizes x y limit same zero b rs bs t all =
    let whole = subst (AllByRecursion P) t.2 all in
    (t.0, subst (λ (bytes : List ℕ). HasRecords bytes rs) (sym (same b whole.0)) t.1, t.2)
subtree_in P sizes x y limit same (suc l) b rs bs t all =
    let whole = subst (AllByRecursion P) t.6 all in (
      t.0,
      t.1,
      t.2,
      subst (λ (bytes : List ℕ). IsNode bytes (suc l) t.1) (sym (same b whole.0)) t.3,
      t.4,
      children_in P (Subtree sizes x limit l) (Subtree sizes y limit l) (subtree_in P sizes x y limit same l) t.1 rs t.2 t.5 whole.1,
      t.6,
    )

-- the frame law: contents that agree on the blocks of a tree have the same tree under its root
pub tree_in : (P : ℕ → Type 0) (sizes : Sizes) (x y : Contents) (limit : ℕ) → ((n : ℕ) → P n → block y n ≡ block x n)
    → (b : ℕ) (m : List Record) (bs : List ℕ) → IsTree sizes x limit b m bs → AllByRecursion P bs → IsTree sizes y limit b m bs
unfolding IsTree
tree_in P sizes x y limit same zero m bs t all = t
tree_in P sizes x y limit same (suc b) m bs t all =
    (t.0, t.1, subtree_in P sizes x y limit same t.0 (suc b) m bs t.2 all, t.3)

-- the frame law for a map that stands: its blocks keep their bytes, and have another property as well
pub stands_in : (P Q : ℕ → Type 0) (sizes : Sizes) (x y : Contents) (limit : ℕ) → ((n : ℕ) → P n → block y n ≡ block x n) → ((n : ℕ) → P n → Q n)
    → (b : ℕ) (m : List Record) → Stands sizes P x limit b m → Stands sizes Q y limit b m
stands_in P Q sizes x y limit same so b m stands = record {
  blocks = stands.blocks;
  tree = tree_in P sizes x y limit same b m stands.blocks stands.tree stands.each;
  each = each_so P Q so stands.blocks stands.each;
}

-- the blocks under children are for data
children_data : (limit : ℕ) (T : ℕ → List Record → List ℕ → Type 0) → ((b : ℕ) (rs : List Record) (bs : List ℕ) → T b rs bs → AllByRecursion (IsData limit) bs)
    → (cs : List Child) (rs : List Record) (bs : List ℕ) → Children T cs rs bs → AllByRecursion (IsData limit) bs
children_data limit T so [] rs bs t = subst (AllByRecursion (IsData limit)) (sym t.1) tt
children_data limit T so (c ∷ cs) rs bs t =
    subst (AllByRecursion (IsData limit)) (sym t.8)
    (each_join (IsData limit) t.2 t.3 (so c.block t.0 t.2 t.4) (children_data limit T so cs t.1 t.3 t.6))

subtree_data : (sizes : Sizes) (x : Contents) (limit l b : ℕ) (rs : List Record) (bs : List ℕ) → Subtree sizes x limit l b rs bs → AllByRecursion (IsData limit) bs
unfolding Subtree
subtree_data sizes x limit zero b rs bs t = subst (AllByRecursion (IsData limit)) (sym t.2) (t.0, tt)
subtree_data sizes x limit (suc l) b rs bs t =
    subst (AllByRecursion (IsData limit)) (sym t.6) (t.0, children_data limit (Subtree sizes x limit l) (subtree_data sizes x limit l) t.1 rs t.2 t.5)

-- every block of a tree is for data
pub tree_data : (sizes : Sizes) (x : Contents) (limit b : ℕ) (m : List Record) (bs : List ℕ) → IsTree sizes x limit b m bs → AllByRecursion (IsData limit) bs
unfolding IsTree
tree_data sizes x limit zero m bs t = subst (AllByRecursion (IsData limit)) (sym t.1) tt
tree_data sizes x limit (suc b) m bs t = subtree_data sizes x limit t.0 (suc b) m bs t.2

-- # One tree under a root

children_one : (T U : ℕ → List Record → List ℕ → Type 0) → ((b : ℕ) (rs qs : List Record) (bs ds : List ℕ) → T b rs bs → U b qs ds → (rs ≡ qs) × (bs ≡ ds))
    → (cs : List Child) (rs qs : List Record) (bs ds : List ℕ) → Children T cs rs bs → Children U cs qs ds → (rs ≡ qs) × (bs ≡ ds)
children_one T U so [] rs qs bs ds t u = (t.0 ∙ sym u.0, t.1 ∙ sym u.1)
children_one T U so (c ∷ cs) rs qs bs ds t u =
    let first = so c.block t.0 u.0 t.2 u.2 t.4 u.4 in
    let rest = children_one T U so cs t.1 u.1 t.3 u.3 t.6 u.6 in (
      t.7 ∙ ap (λ z. z ++ t.1) first.0 ∙ ap (λ z. u.0 ++ z) rest.0 ∙ sym u.7,
      t.8 ∙ ap (λ z. z ++ t.3) first.1 ∙ ap (λ z. u.2 ++ z) rest.1 ∙ sym u.8,
    )

-- the same block is the top of one subtree
pub subtree_one : (sizes : Sizes) (x : Contents) (limit l k b : ℕ) (rs qs : List Record) (bs ds : List ℕ) → Subtree sizes x limit l b rs bs → Subtree sizes x limit k b qs ds → (rs ≡ qs) × (bs ≡ ds)
unfolding Subtree
subtree_one sizes x limit zero zero b rs qs bs ds t u = (records_one (block x b) rs qs t.1 u.1, t.2 ∙ sym u.2)
subtree_one sizes x limit zero (suc k) b rs qs bs ds t u = absurd (leaf_or_node (block x b) rs (suc k) u.1 t.1 u.3)
subtree_one sizes x limit (suc l) zero b rs qs bs ds t u = absurd (leaf_or_node (block x b) qs (suc l) t.1 u.1 t.3)
subtree_one sizes x limit (suc l) (suc k) b rs qs bs ds t u =
    let node = node_one (block x b) (suc l) (suc k) t.1 u.1 t.3 u.3 in
    let below = subst (λ (cs : List Child). Children (Subtree sizes x limit l) cs rs t.2) node.1 t.5 in
    let both = children_one (Subtree sizes x limit l) (Subtree sizes x limit k) (subtree_one sizes x limit l k) u.1 rs qs t.2 u.2 below u.5 in
    (both.0, t.6 ∙ ap (λ z. b ∷ z) both.1 ∙ sym u.6)

-- under one root lie one map and one list of blocks
pub tree_one : (sizes : Sizes) (x : Contents) (limit b : ℕ) (m n : List Record) (bs ds : List ℕ) → IsTree sizes x limit b m bs → IsTree sizes x limit b n ds → (m ≡ n) × (bs ≡ ds)
unfolding IsTree
tree_one sizes x limit zero m n bs ds t u = (t.0 ∙ sym u.0, t.1 ∙ sym u.1)
tree_one sizes x limit (suc b) m n bs ds t u = subtree_one sizes x limit t.0 u.0 (suc b) m n bs ds t.2 u.2

-- # The keys of a tree

children_fit : (T : ℕ → List Record → List ℕ → Type 0) → ((b : ℕ) (rs : List Record) (bs : List ℕ) → T b rs bs → AllByRecursion RecordFits rs)
    → (cs : List Child) (rs : List Record) (bs : List ℕ) → Children T cs rs bs → AllByRecursion RecordFits rs
children_fit T so [] rs bs t = subst (AllByRecursion RecordFits) (sym t.0) tt
children_fit T so (c ∷ cs) rs bs t =
    subst (AllByRecursion RecordFits) (sym t.7)
    (each_join RecordFits t.0 t.1 (so c.block t.0 t.2 t.4) (children_fit T so cs t.1 t.3 t.6))

-- the records of a subtree are within their limits
pub subtree_fit : (sizes : Sizes) (x : Contents) (limit l b : ℕ) (rs : List Record) (bs : List ℕ) → Subtree sizes x limit l b rs bs → AllByRecursion RecordFits rs
unfolding Subtree
subtree_fit sizes x limit zero b rs bs t = t.1.fit
subtree_fit sizes x limit (suc l) b rs bs t = children_fit (Subtree sizes x limit l) (subtree_fit sizes x limit l) t.1 rs t.2 t.5

-- the records of a tree are within their limits
pub tree_fit : (sizes : Sizes) (x : Contents) (limit b : ℕ) (m : List Record) (bs : List ℕ) → IsTree sizes x limit b m bs → AllByRecursion RecordFits m
unfolding IsTree
tree_fit sizes x limit zero m bs t = subst (AllByRecursion RecordFits) (sym t.0) tt
tree_fit sizes x limit (suc b) m bs t = subtree_fit sizes x limit t.0 (suc b) m bs t.2

-- the keys of a tree rise strictly, and have their sizes
pub tree_rises : (sizes : Sizes) (x : Contents) (limit b : ℕ) (m : List Record) (bs : List ℕ) → IsTree sizes x limit b m bs → RisesFrom 0 (places m) × FitKeys m
unfolding IsTree
tree_rises sizes x limit zero m bs t = (subst (λ (rs : List Record). RisesFrom 0 (places rs)) (sym t.0) tt, subst FitKeys (sym t.0) tt)
tree_rises sizes x limit (suc b) m bs t = (t.3, each_so RecordFits (λ r. KeyFits r.0) (λ r fits. fits.0) m (subtree_fit sizes x limit t.0 (suc b) m bs t.2))

-- # Opening and closing a block of a tree

-- block b is a leaf of a tree
pub record LeafAt (sizes : Sizes) (x : Contents) (limit b : ℕ) (rs : List Record) (bs : List ℕ) : Type 0 where
  pub place : IsData limit b
  pub leaf : HasRecords (block x b) rs
  pub first : bs ≡ b ∷ []

-- block b is an inner block of a tree, l levels above its leaves but one
pub record NodeAt (sizes : Sizes) (x : Contents) (limit l b : ℕ) (rs : List Record) (bs : List ℕ) : Type 0 where
  pub place : IsData limit b
  pub children : List Child
  pub under : List ℕ
  pub node : IsNode (block x b) (suc l) children
  pub few : length children ≤ sizes.fan
  pub below : Children (Subtree sizes x limit l) children rs under
  pub first : bs ≡ b ∷ under

module _ (sizes : Sizes) (x : Contents) (limit : ℕ) where
  pub leaf_opens : (l b : ℕ) (rs : List Record) (bs : List ℕ) → l ≡ 0 → Subtree sizes x limit l b rs bs → LeafAt sizes x limit b rs bs
  unfolding Subtree
  leaf_opens zero b rs bs e t = record { place = t.0; leaf = t.1; first = t.2 }
  leaf_opens (suc l) b rs bs e t = absurd (omega arith)

  pub leaf_closes : (b : ℕ) (rs : List Record) (bs : List ℕ) → LeafAt sizes x limit b rs bs → Subtree sizes x limit 0 b rs bs
  unfolding Subtree
  leaf_closes b rs bs at = (at.place, at.leaf, at.first)

  pub node_opens : (l k b : ℕ) (rs : List Record) (bs : List ℕ) → l ≡ suc k → Subtree sizes x limit l b rs bs → NodeAt sizes x limit k b rs bs
  unfolding Subtree
  node_opens zero k b rs bs e t = absurd (omega arith)
  node_opens (suc l) k b rs bs e t =
      let same : l ≡ k = omega arith in
      record {
        place = t.0;
        children = t.1;
        under = t.2;
        node = subst (λ n. IsNode (block x b) (suc n) t.1) same t.3;
        few = t.4;
        below = subst (λ n. Children (Subtree sizes x limit n) t.1 rs t.2) same t.5;
        first = t.6;
      }

  pub node_closes : (l b : ℕ) (rs : List Record) (bs : List ℕ) → NodeAt sizes x limit l b rs bs → Subtree sizes x limit (suc l) b rs bs
  unfolding Subtree
  node_closes l b rs bs at = (at.place, at.children, at.under, at.node, at.few, at.below, at.first)

  -- the empty map lies under 0
  pub tree_none : IsTree sizes x limit 0 [] []
  unfolding IsTree
  tree_none = (refl, refl)

  -- a tree under a root that is not 0
  pub record Rooted (b : ℕ) (m : List Record) (bs : List ℕ) : Type 0 where
    pub level : ℕ
    pub low : level < sizes.levels
    pub subtree : Subtree sizes x limit level b m bs
    pub rising : RisesFrom 0 (places m)

  pub tree_opens : (b : ℕ) (m : List Record) (bs : List ℕ) → 0 < b → IsTree sizes x limit b m bs → Rooted b m bs
  unfolding IsTree
  tree_opens zero m bs lt t = absurd (omega arith)
  tree_opens (suc b) m bs lt t = record { level = t.0; low = t.1; subtree = t.2; rising = t.3 }

  pub tree_closes : (b : ℕ) (m : List Record) (bs : List ℕ) → 0 < b → Rooted b m bs → IsTree sizes x limit b m bs
  unfolding IsTree
  tree_closes zero m bs lt t = absurd (omega arith)
  tree_closes (suc b) m bs lt t = (t.level, t.low, t.subtree, t.rising)

-- what is read of a leaf of a tree
pub leaf_read : (sizes : Sizes) (x : Contents) (limit b : ℕ) (rs : List Record) (bs : List ℕ) → Subtree sizes x limit 0 b rs bs → IsLeafAt x limit b rs
unfolding Subtree
leaf_read sizes x limit b rs bs t = record { inside = t.0; leaf = t.1 }
