-- The blocks of a tree over records at certain places: what holds of all blocks holds of them, one subtree has one list of them, and
-- which they are where no record passes the test, or each.
use Rattle.std.proofs.Common.{◌≡◌, inl, inr, ℕ, zero, suc, ◌<◌, ◌||◌, Bool, true, false, List, [], ◌∷◌, ◌++◌, length, get_or, drop, refl, sym, ap, ap₂, ◌∙◌, subst, arith}
use Rattle.std.specs.List.{AllByRecursion, list_any}
use Rattle.vm_types.specs.Map.{Map}
use Rattle.vm_types.specs.Places.{place}
use Rattle.vm_disk.specs.Disk.{Contents, block}
use Rattle.vm_block.specs.Leaf.{HasRecords, Record}
use Rattle.vm_block.specs.Node.{IsNode}
use Rattle.vm_block.specs.declared.node.Child.{Child}
use Rattle.vm_block.proofs.EachLemmas.{each_back, each_front, each_join}
use Rattle.vm_block.proofs.FormLemmas.{leaf_or_node}
use Rattle.vm_block.proofs.NodeLemmas.{node_one}
use Rattle.vm_tree.specs.Tree.{Sizes, Children, Subtree}
use Rattle.vm_tree.specs.Over.{children_over, only_if, subtree_over, top_over, tree_over}
use Rattle.vm_tree.specs.Root.{IsRooted}
use Rattle.vm_tree.specs.Spent.{AllPass}
use Rattle.vm_tree.proofs.ApartLemmas.{subtree_some}
use Rattle.vm_tree.specs.declared.root.Root.{Root}
use Rattle.std.proofs.lemmas.List.{append-nil}
use Rattle.vm_tree.proofs.TreeLemmas.{subtree_one}

-- # What holds of all blocks

pub only_each : (P : ℕ → Type 0) (test : Bool) (bs : List ℕ) → AllByRecursion P bs → AllByRecursion P (only_if test bs)
only_each P true bs all = all
only_each P false bs all = tt

module _ (P : ℕ → Type 0) (test : ℕ → Bool) where
  children_each : (T : ℕ → List Record → List ℕ → Type 0) (over : (b : ℕ) (rs : List Record) (bs : List ℕ) → T b rs bs → List ℕ)
      → ((b : ℕ) (rs : List Record) (bs : List ℕ) (t : T b rs bs) → AllByRecursion P bs → AllByRecursion P (over b rs bs t))
      → (cs : List Child) (rs : List Record) (bs : List ℕ) → (t : Children T cs rs bs) → AllByRecursion P bs → AllByRecursion P (children_over T over cs rs bs t)
  children_each T over each [] rs bs t all = tt
  children_each T over each (c ∷ cs) rs bs t all =
      let whole = subst (AllByRecursion P) t.8 all in
      each_join P (over c.block t.0 t.2 t.4) (children_over T over cs t.1 t.3 t.6)
      (each c.block t.0 t.2 t.4 (each_front P t.2 t.3 whole)) (children_each T over each cs t.1 t.3 t.6 (each_back P t.2 t.3 whole))

  pub subtree_each : (sizes : Sizes) (x : Contents) (limit l b : ℕ) (rs : List Record) (bs : List ℕ) → (tree : Subtree sizes x limit l b rs bs) → AllByRecursion P bs → AllByRecursion P (subtree_over test sizes x limit l b rs bs tree)
  unfolding Subtree subtree_over
  subtree_each sizes x limit zero b rs bs t all =
      let whole = subst (AllByRecursion P) t.2 all in
      only_each P (list_any (λ r. test (place r.0)) rs) (b ∷ []) (whole.0, tt)
  subtree_each sizes x limit (suc l) b rs bs t all =
      let whole = subst (AllByRecursion P) t.6 all in
      let T = Subtree sizes x limit l in
      let over = subtree_over test sizes x limit l in
      each_join P (top_over test b rs) (children_over T over t.1 rs t.2 t.5)
      (only_each P (list_any (λ r. test (place r.0)) rs) (b ∷ []) (whole.0, tt)) (children_each T over (subtree_each sizes x limit l) t.1 rs t.2 t.5 whole.1)

-- the blocks below the top of a subtree
pub over_below : (test : ℕ → Bool) (sizes : Sizes) (x : Contents) (limit l b : ℕ) (rs : List Record) (bs : List ℕ) → (tree : Subtree sizes x limit l b rs bs) → (under : List ℕ) → bs ≡ b ∷ under → (P : ℕ → Type 0) → AllByRecursion P under
    → (rest : List ℕ) × (subtree_over test sizes x limit l b rs bs tree ≡ only_if (list_any (λ r. test (place r.0)) rs) (b ∷ []) ++ rest) × AllByRecursion P rest
unfolding Subtree subtree_over
over_below test sizes x limit zero b rs bs t under first P all = ([], sym (append-nil (top_over test b rs)), tt)
over_below test sizes x limit (suc l) b rs bs t under first P all =
    let same : under ≡ t.2 = ap (λ (ds : List ℕ). drop 1 ds) (sym first ∙ t.6) in
    let T = Subtree sizes x limit l in
    let over = subtree_over test sizes x limit l in
    (children_over T over t.1 rs t.2 t.5, refl, children_each P test T over (subtree_each P test sizes x limit l) t.1 rs t.2 t.5 (subst (AllByRecursion P) same all))

-- # One subtree

module _ (test : ℕ → Bool) (x : Contents) (limit : ℕ) where
  children_one : (T U : ℕ → List Record → List ℕ → Type 0) (over : (b : ℕ) (rs : List Record) (bs : List ℕ) → T b rs bs → List ℕ) (other : (b : ℕ) (rs : List Record) (bs : List ℕ) → U b rs bs → List ℕ)
      → ((b c : ℕ) (rs qs : List Record) (bs ds : List ℕ) → b ≡ c → (t : T b rs bs) → (u : U c qs ds) → over b rs bs t ≡ other c qs ds u)
      → (cs es : List Child) (rs qs : List Record) (bs ds : List ℕ) → cs ≡ es → (t : Children T cs rs bs) → (u : Children U es qs ds) → children_over T over cs rs bs t ≡ children_over U other es qs ds u
  children_one T U over other one [] [] rs qs bs ds same t u = refl
  children_one T U over other one [] (e ∷ es) rs qs bs ds same t u = cc
  children_one T U over other one (c ∷ cs) [] rs qs bs ds same t u = cc
  children_one T U over other one (c ∷ cs) (e ∷ es) rs qs bs ds same t u =
      let first : c.block ≡ e.block = ap (λ (gs : List Child). (get_or gs 0 c).block) same in
      ap₂ (λ (xs ys : List ℕ). xs ++ ys) (one c.block e.block t.0 u.0 t.2 u.2 first t.4 u.4) (children_one T U over other one cs es t.1 u.1 t.3 u.3 (ap (λ (gs : List Child). drop 1 gs) same) t.6 u.6)

  -- the same block is the top of one subtree, with one list of blocks over such records
  pub subtree_over_one : (sizes : Sizes) (l k b c : ℕ) (rs qs : List Record) (bs ds : List ℕ) → b ≡ c → (t : Subtree sizes x limit l b rs bs) → (u : Subtree sizes x limit k c qs ds) → subtree_over test sizes x limit l b rs bs t ≡ subtree_over test sizes x limit k c qs ds u
  unfolding Subtree subtree_over
  subtree_over_one sizes zero zero b c rs qs bs ds same t u =
      let there = subst (λ n. Subtree sizes x limit 0 n rs bs) same t in
      ap₂ (top_over test) same (subtree_one sizes x limit 0 0 c rs qs bs ds there u).0
  subtree_over_one sizes zero (suc k) b c rs qs bs ds same t u =
      absurd (leaf_or_node (block x c) rs (suc k) u.1 (subst (λ n. HasRecords (block x n) rs) same t.1) u.3)
  subtree_over_one sizes (suc l) zero b c rs qs bs ds same t u =
      absurd (leaf_or_node (block x c) qs (suc l) t.1 u.1 (subst (λ n. IsNode (block x n) (suc l) t.1) same t.3))
  subtree_over_one sizes (suc l) (suc k) b c rs qs bs ds same t u =
      let there = subst (λ n. Subtree sizes x limit (suc l) n rs bs) same t in
      let records = (subtree_one sizes x limit (suc l) (suc k) c rs qs bs ds there u).0 in
      let node = node_one (block x c) (suc l) (suc k) t.1 u.1 (subst (λ n. IsNode (block x n) (suc l) t.1) same t.3) u.3 in
      ap₂ (λ (xs ys : List ℕ). xs ++ ys) (ap₂ (top_over test) same records)
      (children_one (Subtree sizes x limit l) (Subtree sizes x limit k) (subtree_over test sizes x limit l) (subtree_over test sizes x limit k)
      (λ a d ps os es fs is v w. subtree_over_one sizes l k a d ps os es fs is v w) t.1 u.1 rs qs t.2 u.2 node.1 t.5 u.5)

-- # Where no record passes

-- none of the records stands at a place that passes
abbrev pub NonePass : (ℕ → Bool) → List Record → Type 0
NonePass test rs = AllByRecursion (λ r. test (place r.0) ≡ false) rs

module _ (test : ℕ → Bool) where
  any_none : (rs : List Record) → NonePass test rs → list_any (λ r. test (place r.0)) rs ≡ false
  any_none [] none = refl
  any_none (r ∷ rs) none = ap (λ t. t || list_any (λ s. test (place s.0)) rs) none.0 ∙ any_none rs none.1

  pub children_none : (T : ℕ → List Record → List ℕ → Type 0) (over : (b : ℕ) (rs : List Record) (bs : List ℕ) → T b rs bs → List ℕ)
      → ((b : ℕ) (rs : List Record) (bs : List ℕ) (t : T b rs bs) → NonePass test rs → over b rs bs t ≡ [])
      → (cs : List Child) (rs : List Record) (bs : List ℕ) → (t : Children T cs rs bs) → NonePass test rs → children_over T over cs rs bs t ≡ []
  children_none T over so [] rs bs t none = refl
  children_none T over so (c ∷ cs) rs bs t none =
      let whole = subst (NonePass test) t.7 none in
      ap (λ (xs : List ℕ). xs ++ children_over T over cs t.1 t.3 t.6) (so c.block t.0 t.2 t.4 (each_front (λ r. test (place r.0) ≡ false) t.0 t.1 whole))
      ∙ children_none T over so cs t.1 t.3 t.6 (each_back (λ r. test (place r.0) ≡ false) t.0 t.1 whole)

  pub subtree_none : (sizes : Sizes) (x : Contents) (limit l b : ℕ) (rs : List Record) (bs : List ℕ) → (tree : Subtree sizes x limit l b rs bs) → NonePass test rs → subtree_over test sizes x limit l b rs bs tree ≡ []
  unfolding Subtree subtree_over
  subtree_none sizes x limit zero b rs bs t none = ap (λ s. only_if s (b ∷ [])) (any_none rs none)
  subtree_none sizes x limit (suc l) b rs bs t none =
      let T = Subtree sizes x limit l in
      let over = subtree_over test sizes x limit l in
      ap (λ s. only_if s (b ∷ []) ++ children_over T over t.1 rs t.2 t.5) (any_none rs none) ∙ children_none T over (subtree_none sizes x limit l) t.1 rs t.2 t.5 none

-- # Where each passes

module _ (test : ℕ → Bool) where
  any_all : (rs : List Record) → 0 < length rs → AllPass test rs → list_any (λ r. test (place r.0)) rs ≡ true
  any_all [] some all = absurd (omega (arith, some))
  any_all (r ∷ rs) some all = ap (λ t. t || list_any (λ s. test (place s.0)) rs) all.0

  children_all : (T : ℕ → List Record → List ℕ → Type 0) (over : (b : ℕ) (rs : List Record) (bs : List ℕ) → T b rs bs → List ℕ)
      → ((b : ℕ) (rs : List Record) (bs : List ℕ) (t : T b rs bs) → AllPass test rs → over b rs bs t ≡ bs)
      → (cs : List Child) (rs : List Record) (bs : List ℕ) → (t : Children T cs rs bs) → AllPass test rs → children_over T over cs rs bs t ≡ bs
  children_all T over so [] rs bs t all = sym t.1
  children_all T over so (c ∷ cs) rs bs t all =
      let whole = subst (AllPass test) t.7 all in
      ap₂ (λ (ds es : List ℕ). ds ++ es) (so c.block t.0 t.2 t.4 (each_front (λ r. test (place r.0) ≡ true) t.0 t.1 whole)) (children_all T over so cs t.1 t.3 t.6 (each_back (λ r. test (place r.0) ≡ true) t.0 t.1 whole)) ∙ sym t.8

  subtree_all : (sizes : Sizes) (x : Contents) (limit l b : ℕ) (rs : List Record) (bs : List ℕ) → (tree : Subtree sizes x limit l b rs bs) → AllPass test rs → subtree_over test sizes x limit l b rs bs tree ≡ bs
  unfolding Subtree subtree_over
  subtree_all sizes x limit zero b rs bs t all =
      ap (λ s. only_if s (b ∷ [])) (any_all rs (subtree_some sizes x limit 0 b rs bs t) all) ∙ sym t.2
  subtree_all sizes x limit (suc l) b rs bs t all =
      ap₂ (λ s (ds : List ℕ). only_if s (b ∷ []) ++ ds) (any_all rs (subtree_some sizes x limit (suc l) b rs bs t) all)
      (children_all (Subtree sizes x limit l) (subtree_over test sizes x limit l) (subtree_all sizes x limit l) t.1 rs t.2 t.5 all) ∙ sym t.6

  -- all blocks of a tree are over its records
  pub tree_all : (sizes : Sizes) (x : Contents) (limit : ℕ) (root : Root) (m : Map) (bs : List ℕ) → (tree : IsRooted sizes x limit root m bs) → AllPass test m → tree_over test sizes x limit root m bs tree ≡ bs
  tree_all sizes x limit root m bs (inl bare) all = sym bare.blocks
  tree_all sizes x limit root m bs (inr top) all = subtree_all sizes x limit root.level root.block m bs top.subtree all
