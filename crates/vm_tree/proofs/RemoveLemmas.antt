-- What a Remove under a block answers, from what it answers under the chosen child; and what lies under a root with one child.
use Rattle.std.proofs.Common.{◌≡◌, ◌≢◌, Bool, ℕ, zero, suc, ◌+◌, ◌-◌, ◌^◌, ◌<◌, ◌≤◌, List, [], ◌∷◌, ◌++◌, length, get_or, take, drop, Option, None, Result, Ok, Err, refl, sym, ap, ◌∙◌, subst, arith, append-nil, length-drop, take-append-drop}
use Rattle.std.specs.Prelude.{true, IfSome}
use Rattle.std.specs.List.{AllByRecursion}
use Rattle.std.proofs.lemmas.List.{nil_from_length, length-map}
use Rattle.vm_types.specs.Places.{place, RisesFrom, places, value_at}
use Rattle.vm_disk.specs.Disk.{Contents, block, Medium}
use Rattle.vm_alloc.specs.Held.{HoldsMore, IsHeld}
use Rattle.vm_block.specs.Leaf.{Record, BeginsWith}
use Rattle.vm_block.specs.Node.{ChildFits, IsNode, lows, node_head}
use Rattle.vm_block.specs.Way.{IsChosen, Lowest, Takes}
use Rattle.vm_block.specs.declared.node.Child.{Child}
use Rattle.vm_block.proofs.EachLemmas.{each_front, each_back, each_join, each_so}
use Rattle.vm_block.proofs.HeadLemmas.{node_head_only, node_headed, node_words}
use Rattle.vm_tree.specs.Tree.{Sizes, Children, Subtree}
use Rattle.vm_tree.specs.Answers.{OkOrDevice}
use Rattle.vm_tree.specs.Splits.{Made}
use Rattle.vm_tree.specs.BlockReads.{IsNodeAt}
use Rattle.vm_block.specs.Changed.{without_place}
use Rattle.vm_tree.specs.Removal.{KeepsAll, Narrows, NeedsNone, IsLeft, RemovesBelow, child_of}
use Rattle.vm_tree.specs.Replacement.{IsRenewed, KeepsOwn, Replaces, without_own}
use Rattle.vm_tree.specs.declared.root.Root.{Root}
use Rattle.vm_tree.specs.declared.faults.TreeFault.{TreeFault}
use Rattle.vm_tree.specs.declared.faults.TreeFault.TheVariants.{Device, Damaged}
use Rattle.vm_tree.specs.declared.removal.Left.{Left}
use Rattle.vm_tree.specs.declared.removal.Left.TheVariants.{Same, Nothing, Rest}
use Rattle.vm_tree.proofs.TreeLemmas.{node_opens}
use Rattle.vm_tree.proofs.Beside.{once_left, once_right, parts_of}
use Rattle.vm_tree.proofs.Descent.{Opened, lowest_of, ok_map}
use Rattle.vm_tree.proofs.Framing.{Frames, opened, renews}
use Rattle.vm_tree.proofs.Growing.{made_moved}
use Rattle.vm_tree.proofs.Renewing.{keeps_own, kept_without, renewed_old}
use Rattle.vm_tree.proofs.RemovalLemmas.{without_between, without_rises}
use Rattle.vm_tree.proofs.Rising.{value_between}
use Rattle.vm_tree.proofs.Splitting.{children_join}

-- what lies under one child alone
pub alone_opens : (T : ℕ → List Record → List ℕ → Type 0) (c : Child) (rs : List Record) (bs : List ℕ) → Children T (c ∷ []) rs bs → T c.block rs bs × BeginsWith c.low rs
alone_opens T c rs bs t =
    let records : rs ≡ t.0 = t.7 ∙ ap (λ z. t.0 ++ z) t.6.0 ∙ append-nil t.0 in
    let blocks : bs ≡ t.2 = t.8 ∙ ap (λ z. t.2 ++ z) t.6.1 ∙ append-nil t.2 in
    (subst (λ (ds : List ℕ). T c.block rs ds) (sym blocks) (subst (λ (qs : List Record). T c.block qs t.2) (sym records) t.4), subst (BeginsWith c.low) (sym records) t.5)

-- a list of one
pub one_child : (cs : List Child) (d : Child) → length cs ≡ 1 → cs ≡ get_or cs 0 d ∷ []
one_child [] d one = absurd (omega (arith, one))
one_child (c ∷ cs) d one = ap (λ (rest : List Child). c ∷ rest) (nil_from_length cs (omega (arith, one)))

-- of one child alone a descent takes that
pub sole : (cs : List Child) (p i : ℕ) (c : Child) → length cs ≡ 1 → i < 1 → Takes cs p i c → cs ≡ c ∷ []
sole [] p i c one lt at = absurd (omega (arith, one))
sole (d ∷ cs) p zero c one lt at = ap (λ (z : Child). z ∷ cs) at.child ∙ ap (λ (rest : List Child). c ∷ rest) (nil_from_length cs (omega (arith, one)))
sole (d ∷ cs) p (suc i) c one lt at = absurd (omega (arith, lt))

-- a root that is not narrowed
pub narrows_here : (sizes : Sizes) (x : Contents) (limit l : ℕ) (top : Child) (root : Root) (rs : List Record) (bs : List ℕ) → root ≡ record { block = top.block; level = l; low = top.low }
    → Children (Subtree sizes x limit l) (top ∷ []) rs bs → Narrows sizes x limit top root rs bs
narrows_here sizes x limit l top root rs bs is t =
    subst (λ (r : Root). Narrows sizes x limit top r rs bs) (sym is) (record { above = []; own = bs; under = t; blocks = refl; fit = λ fits. fits })

-- the root is what its one child is narrowed to
pub narrows_down : (sizes : Sizes) (old mid : Medium) (limit level : ℕ) (top c : Child) (rs : List Record) (bs : List ℕ) (result : Result Root TreeFault) → mid ≡ old → 0 < level
    → Children (Subtree sizes old.contents limit level) (top ∷ []) rs bs → ((ds : List Child) → IsNodeAt old.contents limit level top.block ds → Lowest top.low ds → length ds ≤ sizes.fan → ds ≡ c ∷ [])
    → ((under : List ℕ) → Children (Subtree sizes mid.contents limit (level - 1)) (c ∷ []) rs under → OkOrDevice result (λ root. Narrows sizes mid.contents limit c root rs under))
    → OkOrDevice result (λ root. Narrows sizes old.contents limit top root rs bs)
narrows_down sizes old mid limit level top c rs bs result still above t only below =
    let x = old.contents in
    let up : suc (level - 1) ≡ level = omega arith in
    let alone = alone_opens (Subtree sizes x limit level) top rs bs t in
    let at = node_opens sizes x limit level (level - 1) top.block rs bs (sym up) alone.0 in
    let lowest = lowest_of (Subtree sizes x limit (level - 1)) at.children top.low rs at.under at.node.some at.below alone.1 in
    let node = subst (λ n. IsNode (block x top.block) n at.children) up at.node in
    let same = only at.children (record { inside = at.place; node = node }) lowest at.few in
    let under = subst (λ (ds : List Child). Children (Subtree sizes x limit (level - 1)) ds rs at.under) same at.below in
    let fit = subst (AllByRecursion ChildFits) same at.node.fit in
    ok_map result (λ root. Narrows sizes mid.contents limit c root rs at.under) (λ root. Narrows sizes x limit top root rs bs)
    (below at.under (subst (λ (m : Medium). Children (Subtree sizes m.contents limit (level - 1)) (c ∷ []) rs at.under) (sym still) under))
    (λ root n. record {
      above = top.block ∷ n.above;
      own = n.own;
      under = subst (λ (m : Medium). Children (Subtree sizes m.contents limit root.level) (child_of root ∷ []) rs n.own) still n.under;
      blocks = at.first ∙ ap (λ (z : List ℕ). top.block ∷ z) n.blocks;
      fit = λ fits. n.fit fit.0;
    })

-- what lay under one child, narrowed
pub narrowed_made : (P Q : ℕ → Type 0) (sizes : Sizes) (x y : Contents) (limit l : ℕ) (top : Child) (root : Root) (rs : List Record) (bs : List ℕ) → y ≡ x → ((n : ℕ) → P n → Q n) → ChildFits top → AllByRecursion P bs
    → Narrows sizes x limit top root rs bs → Made Q sizes y limit root.level (child_of root ∷ []) rs
narrowed_made P Q sizes x y limit l top root rs bs still so fits all n = record {
  blocks = n.own;
  under = subst (λ (z : Contents). Children (Subtree sizes z limit root.level) (child_of root ∷ []) rs n.own) (sym still) n.under;
  each = each_so P Q so n.own (each_back P n.above n.own (subst (AllByRecursion P) n.blocks all));
  fit = (n.fit fits, tt);
}

-- an inner block that begins with the head of one of two children at least has as many
pub two_children : {bytes : List ℕ} {l n k : ℕ} {cs : List Child} → take 16 bytes ≡ node_head l n → l < 2 ^ 32 → 2 ≤ n → n < 2 ^ 32 → IsNode bytes k cs → 2 ≤ length cs
two_children {bytes} {l} {n} {k} {cs} begins low two few node =
    omega (arith, two, (node_head_only bytes 1162104654 l n 0 k (length cs) (omega arith) low few (omega arith) (begins ∙ sym (node_words l n)) (node_headed bytes k cs node)).2)

-- where others are those, a root that was there is one of these
pub needs_so : (P Q : ℕ → Type 0) (held later : List Bool) (result : Result Left TreeFault) → ((n : ℕ) → P n → Q n) → NeedsNone P held later result → NeedsNone Q held later result
needs_so P Q held later (Ok Same) so is = is
needs_so P Q held later (Ok Nothing) so is = is
needs_so P Q held later (Ok (Rest root)) so is = (is.0, so root.block is.1)
needs_so P Q held later (Err Device) so is = is
needs_so P Q held later (Err (Damaged b)) so is = is

-- nothing is to be written where no record was there, or none is left
pub same_needs : (others : ℕ → Type 0) (held later : List Bool) (left : Left) → left ≡ Same → NeedsNone others held later (Ok left)
same_needs others held later left is = subst (λ (l : Left). NeedsNone others held later (Ok l)) (sym is) tt

pub nothing_needs : (others : ℕ → Type 0) (held later : List Bool) (left : Left) → left ≡ Nothing → NeedsNone others held later (Ok left)
nothing_needs others held later left is = subst (λ (l : Left). NeedsNone others held later (Ok l)) (sym is) tt

-- nothing is written where a key was absent, or a block is damaged
pub none_keeps : (base : Option (List Bool)) (held later : List Bool) (result : Result (Option Root) TreeFault) → result ≡ Ok None → KeepsAll base held later result
none_keeps base held later result is = subst (KeepsAll base held later) (sym is) tt

pub damaged_keeps : (base : Option (List Bool)) (held later : List Bool) (e : TreeFault) (b : ℕ) → e ≡ Damaged b → KeepsAll base held later (Err e)
damaged_keeps base held later e b is = subst (λ (fault : TreeFault). KeepsAll base held later (Err fault)) (sym is) tt

-- what was written is answered
pub rests_removes : (result : Result Left TreeFault) (p : ℕ) (rs : List Record) (P Q : Root → Type 0) → ((root : Root) → P root → Q root) → value_at p rs ≢ None → IsLeft result (without_place p rs) P → RemovesBelow result p rs Q
rests_removes (Ok Same) p rs P Q so some rest = absurd rest
rests_removes (Ok Nothing) p rs P Q so some rest = (some, rest)
rests_removes (Ok (Rest root)) p rs P Q so some rest = (some, so root rest)
rests_removes (Err e) p rs P Q so some rest = rest

module _ (sizes : Sizes) (old mid : Medium) (limit level b p : ℕ) (rs : List Record) (bs : List ℕ) (cs : List Child) (i : ℕ) (d : Child) (still : mid ≡ old) (above : 0 < level)
    (tree : Subtree sizes old.contents limit level b rs bs) (rises : RisesFrom 0 (places rs)) (only : (ds : List Child) → IsNodeAt old.contents limit level b ds → length ds ≤ sizes.fan → cs ≡ ds) (chosen : IsChosen (lows cs) p i) where
  abbrev at_child : Opened sizes old.contents limit level b p rs bs cs i d
  at_child = opened sizes old mid limit level b p rs bs cs i d still above tree rises only chosen

  -- the value at the place is that under the chosen child
  value_is : value_at p rs ≡ value_at p at_child.way.split.sub
  value_is =
      let s = at_child.way.split in ap (value_at p) s.records ∙ value_between p s.before s.sub s.after at_child.way.below at_child.way.above

  -- what is asked under the chosen child
  abbrev pub Asks : Child → (List Record → List ℕ → Type 0) → Type 0
  Asks c A = (sub : List Record) (own : List ℕ) → Subtree sizes mid.contents limit (level - 1) c.block sub own → BeginsWith c.low sub → RisesFrom 0 (places sub) → A sub own

  -- of the records under it there is one at the place, and M holds of what is left without it, in blocks that replace those under it
  abbrev pub Kept : (before between : List Bool) → ((ℕ → Type 0) → List Record → Type 0) → List Record → List ℕ → Type 0
  Kept before between M sub own = (value_at p sub ≢ None) × Replaces before between own (λ P. M P (without_place p sub))

  answered : (c : Child) → get_or cs i d ≡ c → (A : List Record → List ℕ → Type 0) → Asks c A → A at_child.way.split.sub at_child.way.split.own
  answered c is A below =
      let s = at_child.way.split in
      let there = subst (λ (m : Medium). Subtree sizes m.contents limit (level - 1) (get_or cs i d).block s.sub s.own) (sym still) s.child in
      below s.sub s.own (subst (λ (e : Child). Subtree sizes mid.contents limit (level - 1) e.block s.sub s.own) is there) (subst (λ (e : Child). BeginsWith e.low s.sub) is s.begins) at_child.way.rising

  -- where no record stands there under the child, none stands there
  pub none_there : (c : Child) → get_or cs i d ≡ c → Asks c (λ sub own. value_at p sub ≡ None) → value_at p rs ≡ None
  none_there c is below = value_is ∙ answered c is (λ sub own. value_at p sub ≡ None) below

  -- a fault from below
  pub fault_there : (c : Child) → get_or cs i d ≡ c → (A : Type 0) → Asks c (λ sub own. A) → A
  fault_there c is A below = answered c is (λ sub own. A) below

  -- what is left of the children without the chosen one, under which no record is left
  pub record Others (before : List Bool) (mine : Option ℕ) (lent : List Child) : Type 0 where
    pub there : value_at p rs ≢ None
    pub rising : RisesFrom 0 (places (without_place p rs))
    pub kept : List ℕ
    pub under : Children (Subtree sizes old.contents limit (level - 1)) lent (without_place p rs) kept
    pub fit : AllByRecursion ChildFits lent
    pub renewed : (keep : ℕ → Bool) → AllByRecursion (IsHeld before) bs → AllByRecursion (λ n. keep n ≡ true) bs → KeepsOwn mine before keep × AllByRecursion (IsRenewed before before (without_own mine keep)) kept

  module _ (c : Child) (at : get_or cs i d ≡ c) where
    -- what is left of the children, with these in the place of the chosen one
    pub node_rest : (before between : List Bool) (mine : Option ℕ) (x2 : Contents) (other : ℕ) (now lent : List Child) → IfSome mine (λ n. n ≡ b) → Frames sizes old mid limit level b p rs bs cs i d still above tree rises only chosen c before x2
        → HoldsMore before between → other ≡ limit
        → lent ≡ take i cs ++ (now ++ drop (i + 1) cs)
        → Asks c (Kept before between (λ P. Made P sizes x2 limit (level - 1) now))
        → (value_at p rs ≢ None)
        × ((keep : ℕ → Bool) → AllByRecursion (IsHeld before) bs → AllByRecursion (λ n. keep n ≡ true) bs
        → RisesFrom 0 (places (without_place p rs)) × KeepsOwn mine before keep × Made (IsRenewed before between (without_own mine keep)) sizes x2 other (level - 1) lent (without_place p rs))
    node_rest before between mine x2 other now lent here frames more limits is below =
        let got = answered c at (Kept before between (λ P. Made P sizes x2 limit (level - 1) now)) below in
        let s = at_child.way.split in
        let records = ap (without_place p) s.records ∙ without_between p s.before s.sub s.after at_child.way.below at_child.way.above in (
          λ none. got.0 (sym value_is ∙ none),
          λ keep all keeps.
              let Q = IsRenewed before between (without_own mine keep) in
              let made = renews sizes old mid limit level b p rs bs cs i d still above tree rises only chosen before between mine keep c x2 now (without_place p s.sub) here at frames more all keeps got.1 in
              let whole = subst (λ (qs : List Record). Made Q sizes x2 limit (level - 1) (take i cs ++ (now ++ drop (i + 1) cs)) qs) (sym records) made.1 in
              (without_rises p 0 rs rises, made.0, made_moved Q Q sizes x2 x2 limit other (level - 1) (λ n has. refl) (λ n has. has) limits (take i cs ++ (now ++ drop (i + 1) cs)) lent (without_place p rs) is whole),
        )

    pub others_left : (before : List Bool) (mine : Option ℕ) (lent : List Child) → IfSome mine (λ n. n ≡ b) → lent ≡ take i cs ++ drop (i + 1) cs → Asks c (λ sub own. (value_at p sub ≢ None) × (without_place p sub ≡ [])) → Others before mine lent
    others_left before mine lent here is below =
        let got = answered c at (λ sub own. (value_at p sub ≢ None) × (without_place p sub ≡ [])) below in
        let s = at_child.way.split in
        let T = Subtree sizes old.contents limit (level - 1) in
        let one : suc i ≡ i + 1 = omega arith in
        let back = subst (λ n. Children T (drop n cs) s.after s.right) one s.back in
        let records : without_place p rs ≡ s.before ++ s.after = ap (without_place p) s.records ∙ without_between p s.before s.sub s.after at_child.way.below at_child.way.above ∙ ap (λ (z : List Record). s.before ++ (z ++ s.after)) got.1 in
        let joined = children_join T (take i cs) (drop (i + 1) cs) s.before s.after s.left s.right s.front back in
        let cut = λ (n : ℕ). subst (AllByRecursion ChildFits) (sym (take-append-drop n cs)) at_child.node.fit in
        let fits = each_join ChildFits (take i cs) (drop (i + 1) cs) (each_front ChildFits (take i cs) (drop i cs) (cut i)) (each_back ChildFits (take (i + 1) cs) (drop (i + 1) cs) (cut (i + 1))) in
        record {
          there = λ none. got.0 (sym value_is ∙ none);
          rising = without_rises p 0 rs rises;
          kept = s.left ++ s.right;
          under = subst (λ (ds : List Child). Children T ds (without_place p rs) (s.left ++ s.right)) (sym is) (subst (λ (qs : List Record). Children T (take i cs ++ drop (i + 1) cs) qs (s.left ++ s.right)) (sym records) joined);
          fit = subst (AllByRecursion ChildFits) (sym is) fits;
          renewed = λ keep all keeps.
              let inner = without_own mine keep in
              let held = parts_of sizes old.contents limit level b p rs bs cs i d above tree rises at_child (IsHeld before) all in
              let kept = parts_of sizes old.contents limit level b p rs bs cs i d above tree rises at_child (λ n. keep n ≡ true) keeps in (
                keeps_own mine before keep b here held.top kept.top,
                each_join (IsRenewed before before inner) s.left s.right
                    (renewed_old before inner s.left held.left (kept_without mine keep b s.left here kept.left (once_left sizes old.contents limit level b p rs bs cs i d above tree rises at_child)))
                    (renewed_old before inner s.right held.right (kept_without mine keep b s.right here kept.right (once_right sizes old.contents limit level b p rs bs cs i d above tree rises at_child))),
              );
        }

    -- where the child is the only one, all records lie under it
    pub only_there : (before between : List Bool) (M : (ℕ → Type 0) → List Record → Type 0) → length cs ≡ 1 → Asks c (Kept before between M)
        → (value_at p rs ≢ None) × Replaces before between bs (λ P. M P (without_place p rs))
    only_there before between M one below =
        let got = answered c at (Kept before between M) below in
        let s = at_child.way.split in
        let index : i ≡ 0 = omega (arith, chosen.within, length-map cs (λ (c : Child). place c.low), one) in
        let before_none : s.before ≡ [] = none_before i s.before s.left index s.front in
        let last : drop (suc i) cs ≡ [] = nil_from_length (drop (suc i) cs) (omega (arith, length-drop (suc i) cs, one)) in
        let after : s.after ≡ [] = (subst (λ (ds : List Child). Children (Subtree sizes old.contents limit (level - 1)) ds s.after s.right) last s.back).0 in
        let same : rs ≡ s.sub = s.records ∙ ap (λ (z : List Record). z ++ (s.sub ++ s.after)) before_none ∙ ap (λ (z : List Record). s.sub ++ z) after ∙ append-nil s.sub in (
          λ none. got.0 (sym value_is ∙ none),
          λ keep all keeps. subst (λ (qs : List Record). M (IsRenewed before between keep) (without_place p qs)) (sym same)
              (got.1 keep (parts_of sizes old.contents limit level b p rs bs cs i d above tree rises at_child (IsHeld before) all).own
              (parts_of sizes old.contents limit level b p rs bs cs i d above tree rises at_child (λ n. keep n ≡ true) keeps).own),
        )
      where
        none_before : (j : ℕ) (before : List Record) (left : List ℕ) → j ≡ 0 → Children (Subtree sizes old.contents limit (level - 1)) (take j cs) before left → before ≡ []
        none_before zero before left is t = t.0
        none_before (suc j) before left is t = absurd (omega (arith, is))
