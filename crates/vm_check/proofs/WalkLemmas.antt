-- What a visit answers at its exits, where the blocks under it were visited after a read.
use Rattle.std.proofs.Common.{◌≡◌, ℕ, ◌+◌, ◌-◌, ◌<◌, ◌≤◌, Bool, true, List, [], ◌∷◌, inl, length, get_or, take, refl, sym, ap, ◌∙◌, subst, arith}
use Rattle.std.specs.Prelude.{slice_set, slice_index_or}
use Rattle.std.proofs.lemmas.List.{take_all}
use Rattle.vm_types.specs.declared.key.Key.{Key}
use Rattle.vm_types.specs.Places.{RisesFrom, place, places}
use Rattle.vm_disk.specs.Disk.{Contents, Medium, block}
use Rattle.vm_alloc.specs.Marks.{IsMarked}
use Rattle.vm_alloc.proofs.HeldLemmas.{holds_same}
use Rattle.vm_block.specs.Leaf.{HasRecords, Record}
use Rattle.vm_block.specs.Node.{IsNode, lows}
use Rattle.vm_block.specs.Way.{Lowest}
use Rattle.vm_block.specs.declared.node.Child.{Child}
use Rattle.vm_tree.specs.Tree.{Sizes, IsData, Children, Subtree}
use Rattle.vm_tree.proofs.Descent.{subtree_top}
use Rattle.vm_check.specs.Visits.{ChildVisited, Known, Visited, VisitedAll, met_of}
use Rattle.vm_check.specs.declared.verification.Span.{Span}
use Rattle.vm_check.specs.declared.verification.Met.{Met}
use Rattle.vm_check.proofs.KnownLemmas.{LeafFound, leaf_visited, known_first, node_visited}
use Rattle.vm_check.proofs.ChildLemmas.{child_of, child_more, child_agrees, node_top}

-- the same form, where the bytes have another name
pub leaf_as : (bytes now : List ℕ) (rs : List Record) → now ≡ bytes → HasRecords now rs → HasRecords bytes rs
leaf_as bytes now rs same leaf = subst (λ (z : List ℕ). HasRecords z rs) same leaf

pub node_as : (bytes now : List ℕ) (level : ℕ) (cs : List Child) → now ≡ bytes → IsNode now level cs → IsNode bytes level cs
node_as bytes now level cs same node = subst (λ (z : List ℕ). IsNode z level cs) same node

-- the lowest key of children is that of the first
pub lowest_first : (key : Key) (cs : List Child) (d : Child) → Lowest key cs → key ≡ (get_or cs 0 d).low
lowest_first key [] d lowest = absurd lowest
lowest_first key (c ∷ cs) d lowest = sym lowest

module _ (sizes : Sizes) (limit : ℕ) where
  -- a leaf that was read, and was not met before
  pub record LeafRead (x : Contents) (b : ℕ) (rs : List Record) (span : Span) (met : Met) (marks : List Bool) (spans : List Met) (new : List Bool) : Type 0 where
    pub keeps : met ≡ met_of span
    pub is : new ≡ slice_set marks b true
    pub inside : b < length marks
    pub room : b < length spans
    pub fresh : IsMarked marks b → ⊥
    pub found : LeafFound sizes x limit b rs span

  pub leaf_exit : (x : Contents) (least most b : ℕ) (rs : List Record) (span : Span) (met : Met) (marks : List Bool) (spans : List Met) (new : List Bool) → LeafRead x b rs span met marks spans new → least ≡ 0
      → Known sizes x limit most marks spans → Visited sizes x limit least most b span marks spans new (slice_set spans b met)
  leaf_exit x least most b rs span met marks spans new at none known =
      subst (λ (m : Met). Visited sizes x limit least most b span marks spans new (slice_set spans b m)) (sym at.keeps)
      (subst (λ (z : List Bool). Visited sizes x limit least most b span marks spans z (slice_set spans b (met_of span))) (sym at.is)
      (leaf_visited sizes x limit most b span marks spans at.inside at.room at.fresh least rs none at.found known))

  -- an inner block that was read, and was not met before: `first` is what is known of it then
  pub record NodeRead (x : Contents) (least most b : ℕ) (cs : List Child) (first : Span) (marks : List Bool) (spans : List Met) (new : List Bool) : Type 0 where
    pub is : new ≡ slice_set marks b true
    pub inside : b < length marks
    pub room : b < length spans
    pub fresh : IsMarked marks b → ⊥
    pub data_block : IsData limit b
    pub node : IsNode (block x b) first.level cs
    pub few : length cs ≤ sizes.fan
    pub at_least : least ≤ first.level
    pub at_most : first.level ≤ most

  node_known : (old mid : Medium) (least most b : ℕ) (cs : List Child) (first : Span) (marks : List Bool) (spans : List Met) (new : List Bool) → mid ≡ old → NodeRead old.contents least most b cs first marks spans new
      → Known sizes old.contents limit most marks spans → Known sizes mid.contents limit (first.level - 1) new (slice_set spans b (met_of first))
  node_known old mid least most b cs first marks spans new same at known =
      let here = known_first sizes old.contents limit most b first marks spans at.inside at.room at.fresh cs at.at_most at.node known in
      subst (λ (m : Medium). Known sizes m.contents limit (first.level - 1) new (slice_set spans b (met_of first))) (sym same)
      (subst (λ (z : List Bool). Known sizes old.contents limit (first.level - 1) z (slice_set spans b (met_of first))) (sym at.is) here)

  pub node_exit : (old mid : Medium) (least most b : ℕ) (cs : List Child) (d : Child) (first span : Span) (met : Met) (marks : List Bool) (spans : List Met) (new later : List Bool) (now : List Met) → met ≡ met_of span → mid ≡ old
      → NodeRead old.contents least most b cs first marks spans new → length now ≡ length spans → span.level ≡ first.level → span.low ≡ (get_or cs 0 d).low
      → (Known sizes mid.contents limit (first.level - 1) new (slice_set spans b (met_of first)) → VisitedAll sizes mid.contents limit (first.level - 1) cs span.high new (slice_set spans b (met_of first)) later now)
      → Known sizes old.contents limit most marks spans → Visited sizes old.contents limit least most b span marks spans later (slice_set now b met)
  node_exit old mid least most b cs d first span met marks spans new later now keeps same at many level low visit known =
      let all = visit (node_known old mid least most b cs first marks spans new same at known) in
      let here = subst (λ (m : Medium). VisitedAll sizes m.contents limit (first.level - 1) cs span.high new (slice_set spans b (met_of first)) later now) same all in
      let there = subst (λ (z : List Bool). VisitedAll sizes old.contents limit (first.level - 1) cs span.high z (slice_set spans b (met_of first)) later now) at.is here in
      subst (λ (m : Met). Visited sizes old.contents limit least most b span marks spans later (slice_set now b m)) (sym keeps)
      (node_visited sizes old.contents limit least most b cs d first span marks spans later now at.inside (omega (arith, at.room, many)) at.fresh
      (record {
        inside = at.data_block;
        node = subst (λ l. IsNode (block old.contents b) l cs) (sym level) at.node;
        few = at.few;
        at_least = omega (arith, at.at_least, level);
        at_most = omega (arith, at.at_most, level);
        low = low;
        under = subst (λ l. VisitedAll sizes old.contents limit (l - 1) cs span.high (slice_set marks b true) (slice_set spans b (met_of first)) later now) (sym level) there;
      })
      known)

  -- a fault under an inner block of a tree
  pub node_fault : (old mid : Medium) (least most b l : ℕ) (cs : List Child) (first : Span) (marks : List Bool) (spans : List Met) (new : List Bool) (rs : List Record) (bs : List ℕ) (F : Type 0) → mid ≡ old
      → NodeRead old.contents least most b cs first marks spans new → Known sizes old.contents limit most marks spans → Subtree sizes old.contents limit l b rs bs
      → ((ds : List ℕ) → Known sizes mid.contents limit (first.level - 1) new (slice_set spans b (met_of first)) → Children (Subtree sizes mid.contents limit (first.level - 1)) cs rs ds → F) → F
  node_fault old mid least most b l cs first marks spans new rs bs F same at known tree step =
      let top = node_top sizes old.contents limit l first.level b cs rs bs at.node tree in
      step top.blocks (node_known old mid least most b cs first marks spans new same at known)
      (subst (λ (m : Medium). Children (Subtree sizes m.contents limit (first.level - 1)) cs rs top.blocks) (sym same) top.under)

  -- # Children

  -- nothing was visited yet
  pub children_none : (x : Contents) (level : ℕ) (high : Key) (a : List Bool) (s : List Met) → Known sizes x limit level a s → VisitedAll sizes x limit level [] high a s a s
  children_none x level high a s known = record {
    records = [];
    blocks = [];
    under = (refl, refl);
    rising = tt;
    highest = λ some. absurd (omega arith);
    each = tt;
    adds = record { grows = holds_same a; kept = λ n is. refl; fresh = λ n is. inl is };
    known = known;
  }

  -- all of them were visited
  pub children_done : (x : Contents) (level i : ℕ) (cs : List Child) (high : Key) (a b : List Bool) (s t : List Met) → length cs ≤ i → VisitedAll sizes x limit level (take i cs) high a s b t → VisitedAll sizes x limit level cs high a s b t
  children_done x level i cs high a b s t all visited = subst (λ (ds : List Child). VisitedAll sizes x limit level ds high a s b t) (take_all i cs all) visited

  -- what follows from the children of a tree, on the same disk
  pub children_fault : (old mid : Medium) (level : ℕ) (cs : List Child) (rs : List Record) (bs : List ℕ) (F : Type 0) {b : List Bool} {t : List Met} → mid ≡ old → Known sizes old.contents limit level b t
      → Children (Subtree sizes old.contents limit level) cs rs bs → (Known sizes mid.contents limit level b t → Children (Subtree sizes mid.contents limit level) cs rs bs → F) → F
  children_fault old mid level cs rs bs F {b} {t} same known under step =
      step (subst (λ (m : Medium). Known sizes m.contents limit level b t) (sym same) known) (subst (λ (m : Medium). Children (Subtree sizes m.contents limit level) cs rs bs) (sym same) under)

  -- what is found under a child of a tree is as the block above says
  pub record Fits (cs : List Child) (i : ℕ) (c : Child) (span : Span) : Type 0 where
    pub low : span.low ≡ c.low
    pub below : i + 1 < length cs → place span.high < slice_index_or (lows cs) (i + 1) 0

  -- a child of a tree is a data block
  pub child_is_data : (x : Contents) (level i : ℕ) (cs : List Child) (c : Child) (rs : List Record) (bs : List ℕ) → i < length cs → get_or cs i c ≡ c → Children (Subtree sizes x limit level) cs rs bs → RisesFrom 0 (places rs) → IsData limit c.block
  child_is_data x level i cs c rs bs lt is under rises =
      let at = child_of sizes x limit level cs i c rs bs lt under rises in
      subst (λ (d : Child). IsData limit d.block) is (subtree_top sizes x limit level (get_or cs i c).block at.records at.blocks at.subtree)

  -- what follows from the subtree under a child
  pub child_sub : (x : Contents) (level i : ℕ) (cs : List Child) (c : Child) (rs : List Record) (bs : List ℕ) (F : Type 0) → i < length cs → get_or cs i c ≡ c → Children (Subtree sizes x limit level) cs rs bs → RisesFrom 0 (places rs)
      → ((qs : List Record) (ds : List ℕ) → Subtree sizes x limit level c.block qs ds → RisesFrom 0 (places qs) → F) → F
  child_sub x level i cs c rs bs F lt is under rises step =
      let at = child_of sizes x limit level cs i c rs bs lt under rises in
      step at.records at.blocks (subst (λ (d : Child). Subtree sizes x limit level d.block at.records at.blocks) is at.subtree) at.rising

  pub child_agrees_at : (x : Contents) (level i : ℕ) (cs : List Child) (c : Child) (rs : List Record) (bs : List ℕ) (span : Span) (b later : List Bool) (t now : List Met) → i < length cs → get_or cs i c ≡ c
      → Children (Subtree sizes x limit level) cs rs bs → RisesFrom 0 (places rs) → Visited sizes x limit level level c.block span b t later now → Fits cs i c span
  child_agrees_at x level i cs c rs bs span b later t now lt is under rises v =
      let agrees = child_agrees sizes x limit level cs i c span b later t now (child_of sizes x limit level cs i c rs bs lt under rises)
      (subst (λ (d : Child). Visited sizes x limit level level d.block span b t later now) (sym is) v) in
      record { low = agrees.low ∙ ap (λ (d : Child). d.low) is; below = agrees.below }

  -- the child at i was visited, on the same disk
  pub child_more_on : (old mid : Medium) (level i : ℕ) (cs : List Child) (high next : Key) (a b later : List Bool) (s t now : List Met) → mid ≡ old → i < length cs
      → (0 < i → i < length cs → place high < slice_index_or (lows cs) i 0) → VisitedAll sizes old.contents limit level (take i cs) high a s b t
      → (Known sizes mid.contents limit level b t → ChildVisited sizes mid.contents limit level i cs next b t later now)
      → VisitedAll sizes old.contents limit level (take (i + 1) cs) next a s later now × (0 < i + 1 → i + 1 < length cs → place next < slice_index_or (lows cs) (i + 1) 0)
  child_more_on old mid level i cs high next a b later s t now same lt below all visit =
      let v = subst (λ (m : Medium). Known sizes m.contents limit level b t → ChildVisited sizes m.contents limit level i cs next b t later now) same visit all.known in (
        subst (λ (k : Key). VisitedAll sizes old.contents limit level (take (i + 1) cs) k a s later now) v.high_is
            (child_more sizes old.contents limit level i cs v.child high v.span a b later s t now lt (v.low ∙ ap (λ (d : Child). d.low) (sym v.listed)) below all
            (subst (λ (d : Child). Visited sizes old.contents limit level level d.block v.span b t later now) (sym v.listed) v.visited)),
        λ some more. v.below more,
      )
