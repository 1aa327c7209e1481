-- The blocks of a tree over records at certain places: opened with their subtree, and no more than there are blocks.
use Rattle.std.proofs.Common.{◌≡◌, inl, inr, ℕ, zero, suc, ◌+◌, ◌-◌, ◌<◌, ◌≤◌, nat_lt, Bool, true, false, cond, List, [], ◌∷◌, ◌++◌, length, refl, ap, ◌∙◌, subst, arith, length-append}
use Rattle.std.specs.List.{list_any}
use Rattle.std.proofs.lemmas.Bool.{cases_lt, le-ltb, lt-ltb}
use Rattle.vm_types.specs.declared.key.Key.{Key}
use Rattle.vm_types.specs.Map.{Map}
use Rattle.vm_types.specs.Places.{place}
use Rattle.vm_disk.specs.Disk.{Contents, block}
use Rattle.vm_block.specs.Leaf.{BeginsWith, HasRecords, Record}
use Rattle.vm_block.specs.Node.{IsNode}
use Rattle.vm_block.specs.declared.node.Child.{Child}
use Rattle.vm_tree.specs.Tree.{Sizes, Children, IsData, Subtree}
use Rattle.vm_tree.specs.Over.{children_over, only_if, subtree_over, top_over, tree_over}
use Rattle.vm_tree.specs.Root.{IsRooted}
use Rattle.vm_tree.specs.Spent.{AllPass, reads_aside}
use Rattle.vm_tree.specs.Windows.{given_of, is_full}
use Rattle.vm_tree.specs.declared.root.Root.{Root}
use Rattle.vm_tree.specs.declared.window.Window.{Window}
use Rattle.vm_block.specs.Way.{Lowest}
use Rattle.vm_tree.proofs.Descent.{lowest_of}
use Rattle.vm_tree.proofs.WindowLemmas.{given_first}

-- # A subtree, opened

-- block b is a leaf, and these of its blocks are over records at places that pass a test
pub record LeafOver (sizes : Sizes) (x : Contents) (limit l b : ℕ) (rs : List Record) (bs : List ℕ) (tree : Subtree sizes x limit l b rs bs) : Type 0 where
  pub place : IsData limit b
  pub leaf : HasRecords (block x b) rs
  pub first : bs ≡ b ∷ []
  pub over : (test : ℕ → Bool) → subtree_over test sizes x limit l b rs bs tree ≡ top_over test b rs

-- block b is an inner block k levels above the leaves but one
pub record NodeOver (sizes : Sizes) (x : Contents) (limit l k b : ℕ) (rs : List Record) (bs : List ℕ) (tree : Subtree sizes x limit l b rs bs) : Type 0 where
  pub place : IsData limit b
  pub children : List Child
  pub under : List ℕ
  pub node : IsNode (block x b) l children
  pub below : Children (Subtree sizes x limit k) children rs under
  pub first : bs ≡ b ∷ under
  pub over : (test : ℕ → Bool) → subtree_over test sizes x limit l b rs bs tree ≡ top_over test b rs ++ children_over (Subtree sizes x limit k) (subtree_over test sizes x limit k) children rs under below

module _ (sizes : Sizes) (x : Contents) (limit : ℕ) where
  pub leaf_over : (l b : ℕ) (rs : List Record) (bs : List ℕ) → l ≡ 0 → (tree : Subtree sizes x limit l b rs bs) → LeafOver sizes x limit l b rs bs tree
  unfolding Subtree subtree_over
  leaf_over zero b rs bs e t = record { place = t.0; leaf = t.1; first = t.2; over = λ test. refl }
  leaf_over (suc l) b rs bs e t = absurd (omega arith)

  pub node_over : (l k b : ℕ) (rs : List Record) (bs : List ℕ) → l ≡ suc k → (tree : Subtree sizes x limit l b rs bs) → NodeOver sizes x limit l k b rs bs tree
  unfolding Subtree subtree_over
  node_over zero k b rs bs e t = absurd (omega arith)
  node_over (suc l) k b rs bs e t =
      let same : l ≡ k = omega arith in
      let whole : NodeOver sizes x limit (suc l) l b rs bs t = record { place = t.0; children = t.1; under = t.2; node = t.3; below = t.5; first = t.6; over = λ test. refl } in
      subst (λ n. NodeOver sizes x limit (suc l) n b rs bs t) same whole

-- # No more than there are blocks

only_few : (test : Bool) (bs : List ℕ) → length (only_if test bs) ≤ length bs
only_few true bs = omega arith
only_few false bs = omega arith

children_few : (T : ℕ → List Record → List ℕ → Type 0) (over : (b : ℕ) (rs : List Record) (bs : List ℕ) → T b rs bs → List ℕ)
    → ((b : ℕ) (rs : List Record) (bs : List ℕ) (t : T b rs bs) → length (over b rs bs t) ≤ length bs)
    → (cs : List Child) (rs : List Record) (bs : List ℕ) → (t : Children T cs rs bs) → length (children_over T over cs rs bs t) ≤ length bs
children_few T over few [] rs bs t = omega arith
children_few T over few (c ∷ cs) rs bs t =
    omega (
      arith,
      length-append (over c.block t.0 t.2 t.4) (children_over T over cs t.1 t.3 t.6),
      few c.block t.0 t.2 t.4,
      children_few T over few cs t.1 t.3 t.6,
      ap length t.8,
      length-append t.2 t.3,
    )

subtree_few : (test : ℕ → Bool) (sizes : Sizes) (x : Contents) (limit l b : ℕ) (rs : List Record) (bs : List ℕ) → (tree : Subtree sizes x limit l b rs bs) → length (subtree_over test sizes x limit l b rs bs tree) ≤ length bs
unfolding Subtree subtree_over
subtree_few test sizes x limit zero b rs bs t =
    omega (arith, only_few (list_any (λ r. test (place r.0)) rs) (b ∷ []), ap length t.2)
subtree_few test sizes x limit (suc l) b rs bs t =
    let T = Subtree sizes x limit l in
    let over = subtree_over test sizes x limit l in
    omega (
      arith,
      length-append (top_over test b rs) (children_over T over t.1 rs t.2 t.5),
      only_few (list_any (λ r. test (place r.0)) rs) (b ∷ []),
      children_few T over (subtree_few test sizes x limit l) t.1 rs t.2 t.5,
      ap length t.6,
    )

pub tree_few : (test : ℕ → Bool) (sizes : Sizes) (x : Contents) (limit : ℕ) (root : Root) (m : Map) (bs : List ℕ) → (tree : IsRooted sizes x limit root m bs) → length (tree_over test sizes x limit root m bs tree) ≤ length bs
tree_few test sizes x limit root m bs (inl bare) = omega arith
tree_few test sizes x limit root m bs (inr top) = subtree_few test sizes x limit root.level root.block m bs top.subtree

-- # The top of a subtree, which is read first

pub aside_none : (low level : ℕ) (first : Key) → low ≤ place first → reads_aside low level first ≡ 0
aside_none low level first le = ap (λ t. cond t (level + 1) 0) (le-ltb (place first) low le)

pub aside_some : (low level : ℕ) (first : Key) → place first < low → reads_aside low level first ≡ level + 1
aside_some low level first lt = ap (λ t. cond t (level + 1) 0) (lt-ltb (place first) low lt)

pub aside_few : (low level : ℕ) (first : Key) → reads_aside low level first ≤ level + 1
aside_few low level first =
    elim (cases_lt (place first) low) [
      | inl lt ↦ omega (arith, aside_some low level first lt)
      | inr le ↦ omega (arith, aside_none low level first le)
    ]

-- it is one of those over the records that are given, or the subtree begins below the part
pub top_pays : (w : Window) (n level b : ℕ) (first : Key) (rs : List Record) (test : ℕ → Bool) → BeginsWith first rs → is_full w.most n ≡ false → place first ≤ place w.high → AllPass test (given_of w n rs)
    → 1 + cond (nat_lt (place first) (place w.low)) level 0 ≤ length (top_over test b rs) + reads_aside (place w.low) level first
top_pays w n level b first rs test begins more most all =
    elim (cases_lt (place first) (place w.low)) [
      | inl lt ↦ let below : cond (nat_lt (place first) (place w.low)) level 0 ≡ level = ap (λ t. cond t level 0) (lt-ltb (place first) (place w.low) lt) in
          omega (arith, below, aside_some (place w.low) level first lt)
      | inr le ↦ let none : cond (nat_lt (place first) (place w.low)) level 0 ≡ 0 = ap (λ t. cond t level 0) (le-ltb (place first) (place w.low) le) in
          let given = given_first w n first rs begins more le most in
          let passes = subst (AllPass test) given.2 all in
          let counted : top_over test b rs ≡ b ∷ [] = ap (λ t. only_if t (b ∷ [])) (given.4 (λ r. test (place r.0)) passes.0) in
          omega (arith, none, ap length counted)
    ]

-- the top is one of the blocks
over_top : (test : ℕ → Bool) (sizes : Sizes) (x : Contents) (limit l b : ℕ) (rs : List Record) (bs : List ℕ) → (tree : Subtree sizes x limit l b rs bs) → length (top_over test b rs) ≤ length (subtree_over test sizes x limit l b rs bs tree)
unfolding Subtree subtree_over
over_top test sizes x limit zero b rs bs t = omega arith
over_top test sizes x limit (suc l) b rs bs t = omega (arith, length-append (top_over test b rs) (children_over (Subtree sizes x limit l) (subtree_over test sizes x limit l) t.1 rs t.2 t.5))

-- what the first of these children costs aside
abbrev pub first_aside : ℕ → ℕ → List Child → ℕ
first_aside low k [] = 0
first_aside low k (c ∷ cs) = reads_aside low k c.low

first_aside_is : (low : ℕ) (first : Key) (level : ℕ) (cs : List Child) → 0 < level → Lowest first cs → first_aside low (level - 1) cs ≡ cond (nat_lt (place first) low) level 0
first_aside_is low first level [] above lowest = absurd lowest
first_aside_is low first level (c ∷ cs) above lowest =
    let same : level - 1 + 1 ≡ level = omega (arith, above) in
    ap (λ (k : Key). cond (nat_lt (place k) low) (level - 1 + 1) 0) lowest ∙ ap (λ n. cond (nat_lt (place first) low) n 0) same

-- # What a subtree costs by what lies in its top

module _ (sizes : Sizes) (x : Contents) (limit level b : ℕ) (rs : List Record) (bs : List ℕ) (tree : Subtree sizes x limit level b rs bs) (w : Window) (n : ℕ) (first : Key) (begins : BeginsWith first rs) (more : is_full w.most n ≡ false) (most : place first ≤ place w.high)
    (test : ℕ → Bool) (pass : AllPass test (given_of w n rs)) (start mid later : ℕ) (once : mid ≤ start + 1) where
  pub leaf_costs : (at : LeafOver sizes x limit level b rs bs tree) → later ≤ mid
      → later ≤ start + (length (subtree_over test sizes x limit level b rs bs tree) + reads_aside (place w.low) level first)
  leaf_costs at few =
      let parts = ap length (at.over test) in
      omega (arith, once, few, parts, top_pays w n level b first rs test begins more most pass)

  pub node_costs : 0 < level → (at : NodeOver sizes x limit level (level - 1) b rs bs tree)
      → later ≤ mid + (length (children_over (Subtree sizes x limit (level - 1)) (subtree_over test sizes x limit (level - 1)) at.children rs at.under at.below) + first_aside (place w.low) (level - 1) at.children)
      → later ≤ start + (length (subtree_over test sizes x limit level b rs bs tree) + reads_aside (place w.low) level first)
  node_costs above at few =
      let T = Subtree sizes x limit (level - 1) in
      let parts = ap length (at.over test) ∙ length-append (top_over test b rs) (children_over T (subtree_over test sizes x limit (level - 1)) at.children rs at.under at.below) in
      let aside = first_aside_is (place w.low) first level at.children above (lowest_of T at.children first rs at.under at.node.some at.below begins) in
      omega (arith, once, few, parts, aside, top_pays w n level b first rs test begins more most pass)

  -- and where its top could not be read
  pub top_costs : later ≤ mid → later ≤ start + (length (subtree_over test sizes x limit level b rs bs tree) + reads_aside (place w.low) level first)
  top_costs few = omega (arith, once, few, over_top test sizes x limit level b rs bs tree, top_pays w n level b first rs test begins more most pass)
