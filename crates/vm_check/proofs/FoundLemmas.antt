-- What was found under numbers, one after another.
use Rattle.std.proofs.Common.{◌≡◌, inl, inr, ℕ, zero, suc, ◌+◌, ◌-◌, ◌<◌, ◌≤◌, Bool, false, Err, List, [], ◌∷◌, ◌++◌, length, get_or, take, map, replicate, refl, sym, ap, ◌∙◌, subst, arith, append_assoc, append-nil}
use Rattle.std.specs.Global.{Vec}
use Rattle.std.specs.Prelude.{Contains, Result}
use Rattle.std.specs.List.{AllByRecursion}
use Rattle.std.proofs.lemmas.Bool.{false≢true}
use Rattle.std.proofs.lemmas.List.{map-append, take_all, take_more}
use Rattle.std.proofs.lemmas.List.Elements.{Contains-append_left, Contains-append_right}
use Rattle.vm_types.specs.declared.sizes.TheConstants.{FIRST_DATA}
use Rattle.vm_types.specs.Map.{Map}
use Rattle.vm_disk.specs.Disk.{Contents, DiskState, Medium}
use Rattle.vm_alloc.specs.Marks.{IsMarked}
use Rattle.vm_alloc.proofs.HeldLemmas.{holds_same, no_mark}
use Rattle.vm_block.proofs.EachLemmas.{each_so, each_join}
use Rattle.vm_tree.specs.Calls.{OnlyLists}
use Rattle.vm_tree.specs.Tree.{Sizes, IsTree}
use Rattle.vm_tree.specs.Root.{IsRooted}
use Rattle.vm_tree.specs.declared.root.Root.{Root}
use Rattle.vm_tree.specs.declared.faults.ListFault.{ListFault}
use Rattle.vm_check.specs.Verification.{AcceptsTrees, AreRoots, Found, HaveTrees, Verifies}
use Rattle.vm_check.specs.Visits.{Known, RootVisited, Visited}
use Rattle.vm_check.specs.declared.verification.Span.{Span}
use Rattle.vm_check.specs.declared.verification.Met.{Met}

-- what holds of each element holds of the one at i
pub each_at : {X : Type 0} (P : X → Type 0) (xs : List X) (i : ℕ) (d : X) → i < length xs → AllByRecursion P xs → P (get_or xs i d)
each_at P [] i d lt all = absurd (omega arith)
each_at P (x ∷ xs) zero d lt all = all.0
each_at P (x ∷ xs) (suc i) d lt all = each_at P xs i d (omega arith) all.1

module _ (sizes : Sizes) (x : Contents) (limit : ℕ) where
  -- one root more
  roots_more : (ns : List ℕ) (roots : List Root) (bs : List ℕ) (n : ℕ) (root : Root) (m : Map) (own : List ℕ) → AreRoots sizes x limit ns roots bs → root.block ≡ n → IsRooted sizes x limit root m own
      → AreRoots sizes x limit (ns ++ n ∷ []) (roots ++ root ∷ []) (bs ++ own)
  roots_more [] [] bs n root m own are named rooted = (m, own, [], named, rooted, refl, ap (λ z. z ++ own) are ∙ sym (append-nil own))
  roots_more [] (r ∷ roots) bs n root m own are named rooted = absurd are
  roots_more (k ∷ ns) [] bs n root m own are named rooted = absurd are
  roots_more (k ∷ ns) (r ∷ roots) bs n root m own are named rooted =
      (are.0, are.1, are.2 ++ own, are.3, are.4, roots_more ns roots are.2 n root m own are.5 named rooted, ap (λ z. z ++ own) are.6 ∙ append_assoc are.1 are.2 own)

  -- under the number of a bare root lies nothing
  pub bare_visited : (root : Root) (n : ℕ) (marks : List Bool) (spans : List Met) → root.block ≡ n → n ≡ 0 → Known sizes x limit (sizes.levels - 1) marks spans → RootVisited sizes x limit n root marks spans marks spans
  bare_visited root n marks spans named none known = record {
    records = [];
    blocks = [];
    named = named;
    rooted = inl (record { none = named ∙ none; empty = refl; blocks = refl });
    each = tt;
    adds = record { grows = holds_same marks; kept = λ k is. refl; fresh = λ k is. inl is };
    known = known;
  }

  -- under the number of another root lies what was found at its block
  pub top_visited : (n : ℕ) (span : Span) (marks : List Bool) (spans : List Met) (later : List Bool) (now : List Met) → 1 ≤ sizes.levels → Visited sizes x limit 0 (sizes.levels - 1) n span marks spans later now
      → RootVisited sizes x limit n (record { block = n; level = span.level; low = span.low }) marks spans later now
  top_visited n span marks spans later now some v = record {
    records = v.whole.records;
    blocks = v.whole.blocks;
    named = refl;
    rooted = inr (record { level = omega (arith, some, v.at_most); subtree = v.whole.subtree; rising = v.whole.rising; lowest = v.whole.lowest });
    each = v.whole.each;
    adds = v.adds;
    known = v.known;
  }

  -- what was found under the first numbers, and is known then
  pub record FoundSoFar (ns : List ℕ) (roots : List Root) (marks : List Bool) (spans : List Met) : Type 0 where
    pub blocks : List ℕ
    pub are : AreRoots sizes x limit ns roots blocks
    pub each : AllByRecursion (IsMarked marks) blocks
    pub only : (n : ℕ) → IsMarked marks n → Contains blocks n
    pub known : Known sizes x limit (sizes.levels - 1) marks spans

  -- before the first number, with no mark
  none_found : (spans : List Met) → FoundSoFar [] [] (replicate limit false) spans
  none_found spans = record {
    blocks = [];
    are = refl;
    each = tt;
    only = λ n is. absurd (false≢true (sym (no_mark limit n) ∙ is));
    known = record {
      formed = λ n is. absurd (false≢true (sym (no_mark limit n) ∙ is));
      whole = λ n is low. absurd (false≢true (sym (no_mark limit n) ∙ is));
    };
  }

  pub first_found : (roots : List Root) (marks : List Bool) (spans : List Met) → roots ≡ [] → marks ≡ replicate limit false → FoundSoFar [] roots marks spans
  first_found roots marks spans none clear =
      subst (λ (rs : List Root). FoundSoFar [] rs marks spans) (sym none) (subst (λ (z : List Bool). FoundSoFar [] [] z spans) (sym clear) (none_found spans))

  one_found : (ns : List ℕ) (roots : List Root) (n : ℕ) (root : Root) (marks later : List Bool) (spans now : List Met) → FoundSoFar ns roots marks spans → RootVisited sizes x limit n root marks spans later now
      → FoundSoFar (ns ++ n ∷ []) (roots ++ root ∷ []) later now
  one_found ns roots n root marks later spans now found v = record {
    blocks = found.blocks ++ v.blocks;
    are = roots_more ns roots found.blocks n root v.records v.blocks found.are v.named v.rooted;
    each = each_join (IsMarked later) found.blocks v.blocks (each_so (IsMarked marks) (IsMarked later) v.adds.grows.still found.blocks found.each) v.each;
    only = λ k is. elim (v.adds.fresh k is) [
      | inl was ↦ Contains-append_left found.blocks v.blocks k (found.only k was)
      | inr new ↦ Contains-append_right found.blocks v.blocks k new.0
    ];
    known = v.known;
  }

  -- all numbers
  pub numbers_found : (ns : List ℕ) (i : ℕ) (roots : List Root) (marks : List Bool) (spans : List Met) → length ns ≤ i → length marks ≡ limit → FoundSoFar (take i ns) roots marks spans → Found sizes x limit ns roots marks
  numbers_found ns i roots marks spans all many found = record {
    blocks = found.blocks;
    are = subst (λ (ks : List ℕ). AreRoots sizes x limit ks roots found.blocks) (take_all i ns all) found.are;
    count = many;
    each = found.each;
    only = found.only;
  }

module _ (sizes : Sizes) (limit : ℕ) where
  -- one number more
  pub number_more : (old mid : Medium) (ns : List ℕ) (i : ℕ) (roots pushed : List Root) (root : Root) (marks later : List Bool) (spans now : List Met) → mid ≡ old → i < length ns → pushed ≡ roots ++ root ∷ []
      → FoundSoFar sizes old.contents limit (take i ns) roots marks spans
      → (Known sizes mid.contents limit (sizes.levels - 1) marks spans → RootVisited sizes mid.contents limit (get_or ns i 0) root marks spans later now)
      → FoundSoFar sizes old.contents limit (take (i + 1) ns) pushed later now
  number_more old mid ns i roots pushed root marks later spans now same lt push found visit =
      let here = subst (λ (m : Medium). Known sizes m.contents limit (sizes.levels - 1) marks spans → RootVisited sizes m.contents limit (get_or ns i 0) root marks spans later now) same visit in
      subst (λ (rs : List Root). FoundSoFar sizes old.contents limit (take (i + 1) ns) rs later now) (sym push)
      (subst (λ (ks : List ℕ). FoundSoFar sizes old.contents limit ks (roots ++ root ∷ []) later now) (sym (take_more ns i 0 lt))
      (one_found sizes old.contents limit (take i ns) roots (get_or ns i 0) root marks later spans now found (here found.known)))

  -- a fault under a number, where each has a tree
  pub number_fault : (old mid : Medium) (ns : List ℕ) (i : ℕ) (roots : List Root) (marks : List Bool) (spans : List Met) (F : Type 0) → mid ≡ old → i < length ns
      → FoundSoFar sizes old.contents limit (take i ns) roots marks spans → HaveTrees sizes old.contents limit ns
      → (Known sizes mid.contents limit (sizes.levels - 1) marks spans → (m : Map) (bs : List ℕ) → IsTree sizes mid.contents limit (get_or ns i 0) m bs → F) → F
  number_fault old mid ns i roots marks spans F same lt found trees step =
      let tree = each_at (λ n. (m : Map) × (bs : List ℕ) × IsTree sizes old.contents limit n m bs) ns i 0 lt trees in
      step (subst (λ (m : Medium). Known sizes m.contents limit (sizes.levels - 1) marks spans) (sym same) found.known) tree.0 tree.1
      (subst (λ (m : Medium). IsTree sizes m.contents limit (get_or ns i 0) tree.0 tree.1) (sym same) tree.2)

-- the numbers of the roots so far
pub named_more : (ns : List ℕ) (i : ℕ) (roots pushed : List Root) (root : Root) → i < length ns → pushed ≡ roots ++ root ∷ [] → map (λ (r : Root). r.block) roots ≡ take i ns → root.block ≡ get_or ns i 0 → map (λ (r : Root). r.block) pushed ≡ take (i + 1) ns
named_more ns i roots pushed root lt push named is =
    ap (map (λ (r : Root). r.block)) push ∙ map-append (λ (r : Root). r.block) roots (root ∷ []) ∙ ap (λ z. z ++ root.block ∷ []) named ∙ ap (λ n. take i ns ++ n ∷ []) is ∙ sym (take_more ns i 0 lt)

-- where no roots are answered
abbrev pub refused : ListFault → Result (Vec Root × List Bool) ListFault
refused e = Err e

pub verifies_none : {sizes : Sizes} {old new : DiskState} {limit : ℕ} {ns : List ℕ} (e : ListFault) → OnlyLists (refused e) old new → new.reads + FIRST_DATA ≤ old.reads + limit → AcceptsTrees (refused e) sizes old new limit ns
    → Verifies (refused e) sizes old new limit ns
verifies_none e looks once only = record { looks = looks; given = tt; once = once; paid = tt; found = λ honest. tt; only = only }
