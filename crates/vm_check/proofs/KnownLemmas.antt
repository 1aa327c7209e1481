-- What is known of the blocks that were met: how it grows by a leaf, and by an inner block.
use Rattle.std.proofs.Common.{◌≡◌, ◌⊎◌, inl, inr, ℕ, zero, suc, ◌-◌, ◌<◌, ◌≤◌, Bool, true, List, [], ◌∷◌, ◌++◌, length, get_or, refl, sym, ap, ◌∙◌, subst, arith}
use Rattle.std.specs.Prelude.{slice_set, Contains}
use Rattle.std.proofs.lemmas.Bool.{cases_eq}
use Rattle.std.proofs.lemmas.List.{get_or-set_same, get_or-set_other}
use Rattle.vm_disk.specs.Disk.{Contents, block}
use Rattle.vm_alloc.specs.Held.{HoldsMore}
use Rattle.vm_alloc.specs.Marks.{IsMarked}
use Rattle.vm_alloc.proofs.HeldLemmas.{holds_more_then, taken_holds_more, taken_is_held, others_as_before}
use Rattle.vm_block.specs.Leaf.{BeginsWith, HasRecords, Record}
use Rattle.vm_block.specs.Node.{IsNode}
use Rattle.vm_block.specs.declared.node.Child.{Child}
use Rattle.vm_tree.specs.Tree.{Sizes, IsData, Children, Subtree}
use Rattle.vm_block.proofs.EachLemmas.{each_so}
use Rattle.vm_block.proofs.FormLemmas.{leaf_or_node}
use Rattle.vm_block.proofs.NodeLemmas.{node_one}
use Rattle.vm_tree.proofs.TreeLemmas.{leaf_closes, node_closes}
use Rattle.vm_check.specs.Keys.{HasLevel, IsHighest}
use Rattle.vm_check.specs.Visits.{span_of, met_of, no_met, span_at, Whole, Known, Adds, Visited, VisitedAll}
use Rattle.vm_check.specs.declared.verification.Span.{Span}
use Rattle.vm_check.specs.declared.verification.Met.{Met}
use Rattle.vm_check.proofs.MarkLemmas.{is_first, is_other}

-- # Levels

-- bytes have one level
pub level_one : (bytes : List ℕ) (l k : ℕ) → HasLevel bytes l → HasLevel bytes k → l ≡ k
level_one bytes zero zero a b = refl
level_one bytes zero (suc k) a b = absurd (leaf_or_node bytes a.0 (suc k) b.0 a.1 b.1)
level_one bytes (suc l) zero a b = absurd (leaf_or_node bytes b.0 (suc l) a.0 b.1 a.1)
level_one bytes (suc l) (suc k) a b = (node_one bytes (suc l) (suc k) a.0 b.0 a.1 b.1).0

pub subtree_level : (sizes : Sizes) (x : Contents) (limit l b : ℕ) (rs : List Record) (bs : List ℕ) → Subtree sizes x limit l b rs bs → HasLevel (block x b) l
unfolding Subtree
subtree_level sizes x limit zero b rs bs t = (rs, t.1)
subtree_level sizes x limit (suc l) b rs bs t = (t.1, t.3)

pub node_level : (bytes : List ℕ) (level : ℕ) (cs : List Child) → IsNode bytes level cs → HasLevel bytes level
node_level bytes zero cs node = absurd (omega (arith, node.above))
node_level bytes (suc l) cs node = (cs, node)

leaf_level : (bytes : List ℕ) (level : ℕ) (rs : List Record) → level ≡ 0 → HasRecords bytes rs → HasLevel bytes level
leaf_level bytes zero rs low leaf = (rs, leaf)
leaf_level bytes (suc l) rs low leaf = absurd (omega arith)

-- # The span of a block

pub span_here : (spans : List Met) (b : ℕ) (span : Span) → b < length spans → span_at (slice_set spans b (met_of span)) b ≡ span
span_here spans b span inside = ap (λ (m : Met). span_of m) (get_or-set_same spans b (met_of span) no_met inside)

pub span_there : (spans : List Met) (b n : ℕ) (span : Span) → (n ≡ b → ⊥) → span_at (slice_set spans b (met_of span)) n ≡ span_at spans n
span_there spans b n span other = ap (λ (m : Met). span_of m) (get_or-set_other spans b n (met_of span) no_met other)

-- children begin with the lowest key of the first one
begins_join : (low : _) (xs ys : List Record) → BeginsWith low xs → BeginsWith low (xs ++ ys)
begins_join low [] ys begins = absurd begins
begins_join low (x ∷ xs) ys begins = begins

pub children_begin : (T : ℕ → List Record → List ℕ → Type 0) (cs : List Child) (d : Child) (rs : List Record) (bs : List ℕ) → 0 < length cs → Children T cs rs bs → BeginsWith (get_or cs 0 d).low rs
children_begin T [] d rs bs some t = absurd (omega arith)
children_begin T (c ∷ cs) d rs bs some t = subst (BeginsWith c.low) (sym t.7) (begins_join c.low t.0 t.1 t.5)

module _ (sizes : Sizes) (x : Contents) (limit : ℕ) where
  pub whole_more : (marks later : List Bool) (n : ℕ) (span : Span) → HoldsMore marks later → Whole sizes x limit marks n span → Whole sizes x limit later n span
  whole_more marks later n span grows whole = record {
    records = whole.records;
    blocks = whole.blocks;
    subtree = whole.subtree;
    rising = whole.rising;
    lowest = whole.lowest;
    highest = whole.highest;
    each = each_so (IsMarked marks) (IsMarked later) grows.still whole.blocks whole.each;
  }

  -- what is found at a leaf
  pub record LeafFound (b : ℕ) (rs : List Record) (span : Span) : Type 0 where
    pub inside : IsData limit b
    pub leaf : HasRecords (block x b) rs
    pub level : span.level ≡ 0
    pub lowest : BeginsWith span.low rs
    pub highest : IsHighest span.high rs

  leaf_whole : (b : ℕ) (rs : List Record) (span : Span) (marks : List Bool) → IsMarked marks b → LeafFound b rs span → Whole sizes x limit marks b span
  leaf_whole b rs span marks is at = record {
    records = rs;
    blocks = b ∷ [];
    subtree = subst (λ l. Subtree sizes x limit l b rs (b ∷ [])) (sym at.level) (leaf_closes sizes x limit b rs (b ∷ []) (record { place = at.inside; leaf = at.leaf; first = refl }));
    rising = at.leaf.rising;
    lowest = at.lowest;
    highest = at.highest;
    each = (is, tt);
  }

  -- one block more is whole, and no other is new
  module _ (most b : ℕ) (span : Span) (marks : List Bool) (spans : List Met) (inside : b < length marks) (room : b < length spans) (fresh : IsMarked marks b → ⊥) where
    alone_adds : span.level ≤ most → Adds most (b ∷ []) marks spans (slice_set marks b true) (slice_set spans b (met_of span))
    alone_adds low = record {
      grows = taken_holds_more marks b;
      kept = λ n is. span_there spans b n span (λ same. fresh (subst (IsMarked marks) same is));
      fresh = λ n is. elim (cases_eq n b) [
        | inl same ↦ inr (subst (Contains (b ∷ [])) (sym same) (is_first b []), subst (λ k. (span_at (slice_set spans b (met_of span)) k).level ≤ most) (sym same) (subst (λ (s : Span). s.level ≤ most) (sym (span_here spans b span room)) low))
        | inr other ↦ inl (sym (others_as_before marks b n other) ∙ is)
      ];
    }

    alone_known : HasLevel (block x b) span.level → Whole sizes x limit (slice_set marks b true) b span → Known sizes x limit most marks spans → Known sizes x limit most (slice_set marks b true) (slice_set spans b (met_of span))
    alone_known form whole known = record {
      formed = λ n is. elim (cases_eq n b) [
        | inl same ↦ subst (λ k. HasLevel (block x k) (span_at (slice_set spans b (met_of span)) k).level) (sym same) (subst (λ (s : Span). HasLevel (block x b) s.level) (sym (span_here spans b span room)) form)
        | inr other ↦ subst (λ (s : Span). HasLevel (block x n) s.level) (sym (span_there spans b n span other)) (known.formed n (sym (others_as_before marks b n other) ∙ is))
      ];
      whole = λ n is le. elim (cases_eq n b) [
        | inl same ↦ subst (λ k. Whole sizes x limit (slice_set marks b true) k (span_at (slice_set spans b (met_of span)) k)) (sym same) (subst (λ (s : Span). Whole sizes x limit (slice_set marks b true) b s) (sym (span_here spans b span room)) whole)
        | inr other ↦
            let was = sym (others_as_before marks b n other) ∙ is in
            let still = span_there spans b n span other in
            subst (λ (s : Span). Whole sizes x limit (slice_set marks b true) n s) (sym still) (whole_more marks (slice_set marks b true) n (span_at spans n) (taken_holds_more marks b) (known.whole n was (subst (λ (s : Span). s.level ≤ most) still le)))
      ];
    }

    pub leaf_visited : (least : ℕ) (rs : List Record) → least ≡ 0 → LeafFound b rs span → Known sizes x limit most marks spans → Visited sizes x limit least most b span marks spans (slice_set marks b true) (slice_set spans b (met_of span))
    unfolding leaf_whole
    leaf_visited least rs none at known =
        let whole = leaf_whole b rs span (slice_set marks b true) (taken_is_held marks b inside) at in
        record {
          at_least = omega (arith, none);
          at_most = omega (arith, at.level);
          whole = whole;
          adds = alone_adds (omega (arith, at.level));
          known = alone_known (leaf_level (block x b) span.level rs at.level at.leaf) whole known;
        }

    -- what is known while the blocks under an inner block are visited
    pub known_first : (cs : List Child) → span.level ≤ most → IsNode (block x b) span.level cs → Known sizes x limit most marks spans → Known sizes x limit (span.level - 1) (slice_set marks b true) (slice_set spans b (met_of span))
    known_first cs le node known = record {
      formed = λ n is. elim (cases_eq n b) [
        | inl same ↦ subst (λ k. HasLevel (block x k) (span_at (slice_set spans b (met_of span)) k).level) (sym same)
            (subst (λ (s : Span). HasLevel (block x b) s.level) (sym (span_here spans b span room)) (node_level (block x b) span.level cs node))
        | inr other ↦ subst (λ (s : Span). HasLevel (block x n) s.level) (sym (span_there spans b n span other)) (known.formed n (sym (others_as_before marks b n other) ∙ is))
      ];
      whole = λ n is low. elim (cases_eq n b) [
        | inl same ↦
            let here : span_at (slice_set spans b (met_of span)) n ≡ span = subst (λ k. span_at (slice_set spans b (met_of span)) k ≡ span) (sym same) (span_here spans b span room) in
            let high : span.level ≤ span.level - 1 = subst (λ (s : Span). s.level ≤ span.level - 1) here low in
            absurd (omega (arith, high, node.above))
        | inr other ↦
            let was = sym (others_as_before marks b n other) ∙ is in
            let still = span_there spans b n span other in
            let low_was : (span_at spans n).level ≤ span.level - 1 = subst (λ (s : Span). s.level ≤ span.level - 1) still low in
            subst (λ (s : Span). Whole sizes x limit (slice_set marks b true) n s) (sym still)
            (whole_more marks (slice_set marks b true) n (span_at spans n) (taken_holds_more marks b) (known.whole n was (omega (arith, low_was, le))))
      ];
    }

  -- # An inner block

  -- an inner block, when the blocks under it were visited: `first` is what was known of it then, and `span` what is known now
  pub record NodeFound (least most b : ℕ) (cs : List Child) (d : Child) (first span : Span) (marks : List Bool) (spans : List Met) (later : List Bool) (now : List Met) : Type 0 where
    pub inside : IsData limit b
    pub node : IsNode (block x b) span.level cs
    pub few : length cs ≤ sizes.fan
    pub at_least : least ≤ span.level
    pub at_most : span.level ≤ most
    pub low : span.low ≡ (get_or cs 0 d).low
    pub under : VisitedAll sizes x limit (span.level - 1) cs span.high (slice_set marks b true) (slice_set spans b (met_of first)) later now

  module _ (least most b : ℕ) (cs : List Child) (d : Child) (first span : Span) (marks : List Bool) (spans : List Met) (later : List Bool) (now : List Met)
      (inside : b < length marks) (room : b < length now) (fresh : IsMarked marks b → ⊥) (at : NodeFound least most b cs d first span marks spans later now) where
    node_whole : Whole sizes x limit later b span
    node_whole =
        let all = at.under in
        let up : suc (span.level - 1) ≡ span.level = omega (arith, at.node.above) in
        let tree = node_closes sizes x limit (span.level - 1) b all.records (b ∷ all.blocks) (record {
          place = at.inside;
          children = cs;
          under = all.blocks;
          node = subst (λ l. IsNode (block x b) l cs) (sym up) at.node;
          few = at.few;
          below = all.under;
          first = refl;
        }) in
        record {
          records = all.records;
          blocks = b ∷ all.blocks;
          subtree = subst (λ l. Subtree sizes x limit l b all.records (b ∷ all.blocks)) up tree;
          rising = all.rising;
          lowest = subst (λ k. BeginsWith k all.records) (sym at.low) (children_begin (Subtree sizes x limit (span.level - 1)) cs d all.records all.blocks at.node.some all.under);
          highest = all.highest at.node.some;
          each = (all.adds.grows.still b (taken_is_held marks b inside), all.each);
        }

    -- what a block that is marked now is: the inner block, or one that was marked before it, or one under it
    pub record Before (n : ℕ) : Type 0 where
      pub was : IsMarked marks n
      pub same : span_at (slice_set now b (met_of span)) n ≡ span_at spans n

    pub record Under (n : ℕ) : Type 0 where
      pub among : Contains at.under.blocks n
      pub low : (span_at now n).level ≤ span.level - 1
      pub same : span_at (slice_set now b (met_of span)) n ≡ span_at now n

    before : (n : ℕ) → (n ≡ b → ⊥) → IsMarked marks n → Before n
    before n other was = record {
      was = was;
      same = span_there now b n span other ∙ at.under.adds.kept n ((taken_holds_more marks b).still n was) ∙ span_there spans b n first other;
    }

    before_or_under : (n : ℕ) → IsMarked later n → (n ≡ b → ⊥) → Before n ⊎ Under n
    before_or_under n is other = elim (at.under.adds.fresh n is) [
      | inl was ↦ inl (before n other (sym (others_as_before marks b n other) ∙ was))
      | inr new ↦ inr (record { among = new.0; low = new.1; same = span_there now b n span other })
    ]

    node_adds : Adds most (b ∷ at.under.blocks) marks spans later (slice_set now b (met_of span))
    node_adds = record {
      grows = holds_more_then marks (slice_set marks b true) later (taken_holds_more marks b) at.under.adds.grows;
      kept = λ n is. (before n (λ same. fresh (subst (IsMarked marks) same is)) is).same;
      fresh = λ n is. elim (cases_eq n b) [
        | inl same ↦ inr (
          subst (Contains (b ∷ at.under.blocks)) (sym same) (is_first b at.under.blocks),
          subst (λ k. (span_at (slice_set now b (met_of span)) k).level ≤ most) (sym same) (subst (λ (s : Span). s.level ≤ most) (sym (span_here now b span room)) at.at_most),
        )
        | inr other ↦ elim (before_or_under n is other) [
          | inl old ↦ inl old.was
          | inr new ↦ inr (is_other b at.under.blocks n new.among, subst (λ (s : Span). s.level ≤ most) (sym new.same) (omega (arith, new.low, at.at_most)))
        ]
      ];
    }

    node_known : Known sizes x limit most marks spans → Known sizes x limit most later (slice_set now b (met_of span))
    node_known known = record {
      formed = λ n is. elim (cases_eq n b) [
        | inl same ↦ subst (λ k. HasLevel (block x k) (span_at (slice_set now b (met_of span)) k).level) (sym same)
            (subst (λ (s : Span). HasLevel (block x b) s.level) (sym (span_here now b span room)) (node_level (block x b) span.level cs at.node))
        | inr other ↦ subst (λ (s : Span). HasLevel (block x n) s.level) (sym (span_there now b n span other)) (at.under.known.formed n is)
      ];
      whole = λ n is le. elim (cases_eq n b) [
        | inl same ↦ subst (λ k. Whole sizes x limit later k (span_at (slice_set now b (met_of span)) k)) (sym same) (subst (Whole sizes x limit later b) (sym (span_here now b span room)) node_whole)
        | inr other ↦ elim (before_or_under n is other) [
          | inl old ↦ subst (Whole sizes x limit later n) (sym old.same)
              (whole_more marks later n (span_at spans n) node_adds.grows (known.whole n old.was (subst (λ (s : Span). s.level ≤ most) old.same le)))
          | inr new ↦ subst (Whole sizes x limit later n) (sym new.same) (at.under.known.whole n is new.low)
        ]
      ];
    }

    pub node_visited : Known sizes x limit most marks spans → Visited sizes x limit least most b span marks spans later (slice_set now b (met_of span))
    unfolding node_whole
    node_visited known = record { at_least = at.at_least; at_most = at.at_most; whole = node_whole; adds = node_adds; known = node_known known }
