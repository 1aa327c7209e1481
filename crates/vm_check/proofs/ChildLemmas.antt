-- The children of an inner block, which are visited one after another.
use Rattle.std.proofs.Common.{◌≡◌, inl, inr, ℕ, zero, suc, ◌+◌, ◌-◌, ◌<◌, ◌≤◌, Bool, List, [], ◌∷◌, ◌++◌, length, get_or, take, drop, refl, sym, ap, ◌∙◌, subst, arith, length-take, length-drop, get_or-drop}
use Rattle.std.specs.Prelude.{slice_index_or}
use Rattle.std.proofs.lemmas.List.{get_or-map, take_more}
use Rattle.std.proofs.lemmas.List.Elements.{Contains-append_left, Contains-append_right}
use Rattle.vm_types.specs.declared.key.Key.{Key}
use Rattle.vm_types.specs.Places.{RisesFrom, place, places}
use Rattle.vm_disk.specs.Disk.{Contents, block}
use Rattle.vm_alloc.specs.Marks.{IsMarked}
use Rattle.vm_alloc.proofs.HeldLemmas.{holds_more_then}
use Rattle.vm_block.specs.Leaf.{BeginsWith, HasRecords, Record}
use Rattle.vm_block.specs.Node.{IsNode, lows}
use Rattle.vm_block.specs.declared.node.Child.{Child}
use Rattle.vm_block.proofs.EachLemmas.{each_so, each_join}
use Rattle.vm_block.proofs.FormLemmas.{leaf_or_node}
use Rattle.vm_block.proofs.NodeLemmas.{node_one}
use Rattle.vm_tree.specs.Tree.{Sizes, Children, Subtree}
use Rattle.vm_tree.proofs.TreeLemmas.{subtree_one}
use Rattle.vm_tree.proofs.Rising.{rises_front, rises_back}
use Rattle.vm_tree.proofs.Splitting.{split_at, children_join, child_alone}
use Rattle.vm_tree.specs.BlockReads.{IsLeafAt, IsNodeAt}
use Rattle.vm_check.specs.Keys.{IsHighest}
use Rattle.vm_check.specs.Visits.{Adds, Visited, VisitedAll}
use Rattle.vm_check.specs.declared.verification.Span.{Span}
use Rattle.vm_check.specs.declared.verification.Met.{Met}
use Rattle.vm_check.proofs.SpanLemmas.{begins_one, highest_join, lowest_highest, rises_join, highest_below}
use Rattle.vm_check.proofs.KnownLemmas.{children_begin}

-- what is new after two steps
pub adds_then : (most : ℕ) (bs cs : List ℕ) (a b c : List Bool) (s t u : List Met) → Adds most bs a s b t → Adds most cs b t c u → Adds most (bs ++ cs) a s c u
adds_then most bs cs a b c s t u first then = record {
  grows = holds_more_then a b c first.grows then.grows;
  kept = λ n is. then.kept n (first.grows.still n is) ∙ first.kept n is;
  fresh = λ n is. elim (then.fresh n is) [
    | inl was ↦ elim (first.fresh n was) [
      | inl old ↦ inl old
      | inr new ↦ inr (Contains-append_left bs cs n new.0, subst (λ (s : Span). s.level ≤ most) (sym (then.kept n was)) new.1)
    ]
    | inr new ↦ inr (Contains-append_right bs cs n new.0, new.1)
  ];
}

module _ (T : ℕ → List Record → List ℕ → Type 0) where
  rises_more : (i : ℕ) (cs : List Child) (xs ys : List Record) (bs : List ℕ) (high next : Key) → i < length cs → Children T (take i cs) xs bs → RisesFrom 0 (places xs) → (0 < length (take i cs) → IsHighest high xs)
      → (0 < i → place high < place next) → BeginsWith next ys → RisesFrom 0 (places ys) → RisesFrom 0 (places (xs ++ ys))
  rises_more zero cs xs ys bs high next lt under rises top below begins later = subst (λ (zs : List Record). RisesFrom 0 (places (zs ++ ys))) (sym under.0) later
  rises_more (suc i) cs xs ys bs high next lt under rises top below begins later =
      let highest = top (omega (arith, length-take (suc i) cs)) in rises_join 0 next xs ys rises (highest.above (place next) (below (omega arith))) (omega arith) begins later

  highest_more : (i : ℕ) (cs : List Child) (xs ys : List Record) (bs : List ℕ) (high next last : Key) → i < length cs → Children T (take i cs) xs bs → (0 < length (take i cs) → IsHighest high xs)
      → (0 < i → place high < place next) → BeginsWith next ys → IsHighest last ys → IsHighest last (xs ++ ys)
  highest_more zero cs xs ys bs high next last lt under top below begins highest = subst (λ (zs : List Record). IsHighest last (zs ++ ys)) (sym under.0) highest
  highest_more (suc i) cs xs ys bs high next last lt under top below begins highest =
      highest_join high last xs ys (top (omega (arith, length-take (suc i) cs))) highest (omega (arith, below (omega arith), lowest_highest next last ys begins highest))

module _ (sizes : Sizes) (x : Contents) (limit level : ℕ) where
  -- one child more
  pub child_more : (i : ℕ) (cs : List Child) (d : Child) (high : Key) (span : Span) (a b c : List Bool) (s t u : List Met) → i < length cs
      → span.low ≡ (get_or cs i d).low → (0 < i → i < length cs → place high < slice_index_or (lows cs) i 0)
      → VisitedAll sizes x limit level (take i cs) high a s b t → Visited sizes x limit level level (get_or cs i d).block span b t c u
      → VisitedAll sizes x limit level (take (i + 1) cs) span.high a s c u
  child_more i cs d high span a b c s t u lt low below all v =
      let T = Subtree sizes x limit level in
      let same : span.level ≡ level = omega (arith, v.at_least, v.at_most) in
      let child = get_or cs i d in
      let sub : T child.block v.whole.records v.whole.blocks = subst (λ n. Subtree sizes x limit n child.block v.whole.records v.whole.blocks) same v.whole.subtree in
      let begins : BeginsWith child.low v.whole.records = subst (λ k. BeginsWith k v.whole.records) low v.whole.lowest in
      let under : (0 < i → place high < place child.low) = λ some. omega (arith, below some lt, get_or-map (λ (c : Child). place c.low) cs i d 0 lt) in
      let here = children_join T (take i cs) (child ∷ []) all.records v.whole.records all.blocks v.whole.blocks all.under (child_alone T child v.whole.records v.whole.blocks sub begins) in
      record {
        records = all.records ++ v.whole.records;
        blocks = all.blocks ++ v.whole.blocks;
        under = subst (λ (ds : List Child). Children T ds (all.records ++ v.whole.records) (all.blocks ++ v.whole.blocks)) (sym (take_more cs i d lt)) here;
        rising = rises_more T i cs all.records v.whole.records all.blocks high child.low lt all.under all.rising all.highest under begins v.whole.rising;
        highest = λ some. highest_more T i cs all.records v.whole.records all.blocks high child.low span.high lt all.under all.highest under begins v.whole.highest;
        each = each_join (IsMarked c) all.blocks v.whole.blocks (each_so (IsMarked b) (IsMarked c) v.adds.grows.still all.blocks all.each) v.whole.each;
        adds = adds_then level all.blocks v.whole.blocks a b c s t u all.adds v.adds;
        known = v.known;
      }

  -- # Where there is a tree

  -- one of the children of an inner block of a tree
  pub record ChildOf (cs : List Child) (i : ℕ) (d : Child) : Type 0 where
    pub records : List Record
    pub blocks : List ℕ
    pub subtree : Subtree sizes x limit level (get_or cs i d).block records blocks
    pub rising : RisesFrom 0 (places records)
    pub lowest : BeginsWith (get_or cs i d).low records
    pub below : (high : Key) → IsHighest high records → i + 1 < length cs → place high < slice_index_or (lows cs) (i + 1) 0

  pub child_of : (cs : List Child) (i : ℕ) (d : Child) (rs : List Record) (bs : List ℕ) → i < length cs → Children (Subtree sizes x limit level) cs rs bs → RisesFrom 0 (places rs) → ChildOf cs i d
  child_of cs i d rs bs lt t rises =
      let T = Subtree sizes x limit level in
      let s = split_at T cs i d rs bs lt t in
      let whole = subst (λ (qs : List Record). RisesFrom 0 (places qs)) s.records rises in
      let back = rises_back 0 s.before (s.sub ++ s.after) whole in
      record {
        records = s.sub;
        blocks = s.own;
        subtree = s.child;
        rising = rises_front 0 s.sub s.after back;
        lowest = s.begins;
        below = λ high highest more.
            let begins = children_begin T (drop (suc i) cs) d s.after s.right (omega (arith, length-drop (suc i) cs)) s.back in
            let under = highest_below high (get_or (drop (suc i) cs) 0 d).low 0 s.sub s.after highest begins back in
            let next : get_or (drop (suc i) cs) 0 d ≡ get_or cs (i + 1) d = get_or-drop (suc i) cs 0 d ∙ ap (λ n. get_or cs n d) (omega arith) in
            let same : place (get_or (drop (suc i) cs) 0 d).low ≡ place (get_or cs (i + 1) d).low = ap (λ (c : Child). place c.low) next in
            omega (arith, under, same, get_or-map (λ (c : Child). place c.low) cs (i + 1) d 0 more);
      }

  -- what is found at a child of a tree is as the entry says, and stands below the next child
  pub record Agrees (cs : List Child) (i : ℕ) (d : Child) (span : Span) : Type 0 where
    pub low : span.low ≡ (get_or cs i d).low
    pub below : i + 1 < length cs → place span.high < slice_index_or (lows cs) (i + 1) 0

  pub child_agrees : (cs : List Child) (i : ℕ) (d : Child) (span : Span) (a b : List Bool) (s t : List Met) → ChildOf cs i d → Visited sizes x limit level level (get_or cs i d).block span a s b t → Agrees cs i d span
  child_agrees cs i d span a b s t at v =
      let one = subtree_one sizes x limit span.level level (get_or cs i d).block v.whole.records at.records v.whole.blocks at.blocks v.whole.subtree at.subtree in
      record {
        low = begins_one span.low (get_or cs i d).low at.records (subst (BeginsWith span.low) one.0 v.whole.lowest) at.lowest;
        below = at.below span.high (subst (IsHighest span.high) one.0 v.whole.highest);
      }

-- what the block on top of a subtree is
module _ (sizes : Sizes) (x : Contents) (limit : ℕ) where
  -- a leaf has no level
  pub leaf_top : (l b : ℕ) (qs rs : List Record) (bs : List ℕ) → HasRecords (block x b) qs → Subtree sizes x limit l b rs bs → l ≡ 0
  unfolding Subtree
  leaf_top zero b qs rs bs leaf t = refl
  leaf_top (suc l) b qs rs bs leaf t = absurd (leaf_or_node (block x b) qs (suc l) t.1 leaf t.3)

  pub record NodeTop (l level : ℕ) (cs : List Child) (rs : List Record) : Type 0 where
    pub same_level : l ≡ level
    pub few : length cs ≤ sizes.fan
    pub blocks : List ℕ
    pub under : Children (Subtree sizes x limit (level - 1)) cs rs blocks

  pub node_top : (l level b : ℕ) (cs : List Child) (rs : List Record) (bs : List ℕ) → IsNode (block x b) level cs → Subtree sizes x limit l b rs bs → NodeTop l level cs rs
  unfolding Subtree
  node_top zero level b cs rs bs node t = absurd (leaf_or_node (block x b) rs level cs t.1 node)
  node_top (suc l) level b cs rs bs node t =
      let one = node_one (block x b) (suc l) level t.1 cs t.3 node in
      let down : l ≡ level - 1 = omega (arith, one.0) in
      record {
        same_level = one.0;
        few = subst (λ (ds : List Child). length ds ≤ sizes.fan) one.1 t.4;
        blocks = t.2;
        under = subst (λ n. Children (Subtree sizes x limit n) cs rs t.2) down (subst (λ (ds : List Child). Children (Subtree sizes x limit l) ds rs t.2) one.1 t.5);
      }

  -- what follows from either form of the block on top
  pub top_form : (l b : ℕ) (rs : List Record) (bs : List ℕ) (F : Type 0) → Subtree sizes x limit l b rs bs → ((qs : List Record) → IsLeafAt x limit b qs → F) → ((level : ℕ) (cs : List Child) → IsNodeAt x limit level b cs → F) → F
  unfolding Subtree
  top_form zero b rs bs F t leaf node = leaf rs (record { inside = t.0; leaf = t.1 })
  top_form (suc l) b rs bs F t leaf node = node (suc l) t.1 (record { inside = t.0; node = t.3 })
