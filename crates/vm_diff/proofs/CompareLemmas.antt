-- Two walks from the roots of two trees to their ends.
use Rattle.std.proofs.Common.{◌≡◌, ◌≢◌, ℕ, zero, suc, ◌+◌, ◌<◌, ◌≤◌, true, List, [], ◌∷◌, ◌++◌, Result, Ok, Err, inl, inr, refl, sym, ap, ap₂, ◌∙◌, subst, arith, append_assoc, append-nil}
use Rattle.vm_types.specs.declared.change.Change.{Change}
use Rattle.vm_types.specs.declared.key.Key.{Key}
use Rattle.vm_types.specs.Map.{IsMap, Map, delta}
use Rattle.vm_types.specs.Parts.{diff, part}
use Rattle.vm_types.specs.Places.{FitKeys, RisesFrom, place, places}
use Rattle.vm_types.proofs.Bridge.{IsMap-rising_from}
use Rattle.vm_types.proofs.PartLemmas.{changes_part-delta, part_behind}
use Rattle.std.proofs.lemmas.Bool.{cases_lt}
use Rattle.vm_block.specs.Leaf.{BeginsWith, Record}
use Rattle.vm_disk.specs.Disk.{DiskState, Contents, Medium}
use Rattle.vm_disk.proofs.MomentLemmas.{same_medium}
use Rattle.vm_tree.specs.Tree.{Sizes, Subtree}
use Rattle.vm_tree.specs.Calls.{Looks}
use Rattle.vm_tree.proofs.TreeLemmas.{subtree_one}
use Rattle.vm_tree.proofs.Looking.{looks_on}
use Rattle.vm_tree.specs.Over.{is_between, subtree_over, tree_over}
use Rattle.vm_tree.specs.Root.{IsRooted}
use Rattle.vm_tree.specs.Spent.{reads_aside, tree_aside}
use Rattle.vm_tree.specs.Spent.{AllPass}
use Rattle.vm_tree.proofs.OverParts.{subtree_none, tree_all}
use Rattle.vm_tree.proofs.PartReads.{none_aside, rooted_fits}
use Rattle.vm_tree.proofs.WindowLemmas.{part_all, part_passes}
use Rattle.vm_tree.proofs.Rising.{Above, rises_above}
use Rattle.vm_tree.specs.declared.root.Root.{Root}
use Rattle.vm_tree.specs.declared.faults.TreeFault.{TreeFault}
use Rattle.vm_tree.specs.declared.faults.TreeFault.TheVariants.{Device}
use Rattle.vm_tree.proofs.Descent.{subtree_top, node_read}
use Rattle.vm_tree.proofs.RootLemmas.{subtree_keys}
use Rattle.vm_diff.specs.Opened.{Begins}
use Rattle.vm_diff.specs.Walk.{Walk, IsAhead, walk_of}
use Rattle.vm_diff.specs.Shared.{unshared}
use Rattle.vm_diff.specs.Differ.{AreRising, Differ, IsIn, aside}
use Rattle.vm_diff.proofs.CutLemmas.{none_above}
use Rattle.vm_diff.specs.Front.{front_of}
use Rattle.vm_diff.specs.Steps.{StepsBy, FoundBy}
use Rattle.vm_diff.specs.declared.front.Step.{Step}
use Rattle.vm_diff.specs.declared.front.Step.TheVariants.{Done, Moved, Found}
use Rattle.vm_diff.proofs.DeltaLemmas.{shared_front}
use Rattle.vm_diff.proofs.StepLemmas.{some_difference}

-- ---- from the roots

module _ (low high : ℕ) (sizes : Sizes) (x : Contents) (limit : ℕ) (root : Root) (m : Map) (bs : List ℕ) where
  -- what a walk from a root has ahead: the whole map, or nothing where that begins above the part
  pub record Begun (walk : Walk) (blocks : List ℕ) (cost : ℕ) : Type 0 where
    pub rest : List Record
    pub rest_blocks : List ℕ
    pub ahead : IsAhead (is_between low high) sizes x limit walk rest rest_blocks
    pub rising : AreRising rest
    pub is_in : IsIn low high walk
    pub same : part low high m ≡ part low high rest
    pub blocks_are : rest_blocks ≡ blocks
    pub cheaper : aside low walk.tops ≤ cost

  none_begun : (walk : Walk) (blocks : List ℕ) (cost : ℕ) → walk ≡ walk_of [] → part low high m ≡ [] → blocks ≡ [] → Begun walk blocks cost
  none_begun walk blocks cost is none free = record {
    rest = [];
    rest_blocks = [];
    ahead = subst (λ (w : Walk). IsAhead (is_between low high) sizes x limit w [] []) (sym is) (record { later = []; under = (refl, refl); records = refl });
    rising = record { rising = tt; fit = tt };
    is_in = subst (IsIn low high) (sym is) (record { records = tt; tops = tt; others = tt });
    same = none;
    blocks_are = sym free;
    cheaper = omega (arith, ap (λ (w : Walk). aside low w.tops) is);
  }

  -- records that begin above a place are above it
  all_above_first : (p : ℕ) (rs : List Record) → BeginsWith root.low rs → RisesFrom 0 (places rs) → p < place root.low → Above p rs
  all_above_first p [] begins rises lt = tt
  all_above_first p (r ∷ rs) begins rises lt =
      let here : p < place r.0 = omega (arith, lt, ap place begins) in
      (here, rises_above p (place r.0 + 1) rs (omega (arith, here)) rises.1)

  pub root_begun : (walk : Walk) → Begins high root walk → (tree : IsRooted sizes x limit root m bs) → Begun walk (tree_over (is_between low high) sizes x limit root m bs tree) (tree_aside low sizes x limit root m bs tree)
  root_begun walk begins (inl bare) = none_begun walk [] 0 (begins.empty bare.none) (ap (part low high) bare.empty) refl
  root_begun walk begins (inr top) =
      let inside = subtree_top sizes x limit root.level root.block m bs top.subtree in
      let over = subtree_over (is_between low high) sizes x limit root.level root.block m bs top.subtree in
      let cost = reads_aside low root.level root.low in
      elim (cases_lt high (place root.low)) [
        | inl above ↦ let behind = all_above_first high m top.lowest top.rising above in
            none_begun walk over cost (begins.above above) (part_behind low high m behind) (subtree_none (is_between low high) sizes x limit root.level root.block m bs top.subtree (none_above low high m behind))
        | inr le ↦ let is = begins.some (λ zero_is. omega (arith, zero_is, inside.0)) le in
            record {
              rest = m;
              rest_blocks = over;
              ahead = subst (λ (w : Walk). IsAhead (is_between low high) sizes x limit w m over) (sym is)
                  (record { later = m; under = (m, [], bs, [], top.subtree, top.lowest, (refl, refl), sym (append-nil m), sym (append-nil over)); records = refl });
              rising = record { rising = top.rising; fit = subtree_keys sizes x limit root.level root.block m bs top.subtree };
              is_in = subst (IsIn low high) (sym is) (record { records = tt; tops = (le, tt); others = tt });
              same = refl;
              blocks_are = refl;
              cheaper = omega (arith, ap (λ (w : Walk). aside low w.tops) is);
            }
      ]

module _ (sizes : Sizes) (x : Contents) (limit : ℕ) (root : Root) (m : Map) (bs : List ℕ) where
  pub root_rising : IsRooted sizes x limit root m bs → AreRising m
  root_rising (inl bare) = subst AreRising (sym bare.empty) (record { rising = tt; fit = tt })
  root_rising (inr top) = record { rising = top.rising; fit = subtree_keys sizes x limit root.level root.block m bs top.subtree }

  level_low : (level : ℕ) → Subtree sizes x limit level root.block m bs → level ≤ 7
  level_low zero tree = omega arith
  level_low (suc level) tree = (node_read sizes x limit (suc level) root.block m bs (omega arith) tree).1.node.low

  -- a root has a level that a walk takes
  pub root_low : IsRooted sizes x limit root m bs → (root.block ≢ 0) × (7 < root.level) → ⊥
  root_low (inl bare) high = high.0 bare.none
  root_low (inr top) high = omega (arith, level_low root.level top.subtree, high.1)

-- under one root lies one map, so nothing differs
pub one_root : (sizes : Sizes) (x : Contents) (limit : ℕ) (first second : Root) (m n : Map) (bs cs : List ℕ) → first.block ≡ second.block → IsRooted sizes x limit first m bs → IsRooted sizes x limit second n cs → delta m n ≡ []
one_root sizes x limit first second m n bs cs shared (inl a) (inl b) = ap₂ delta a.empty b.empty
one_root sizes x limit first second m n bs cs shared (inl a) (inr b) =
    let inside = subtree_top sizes x limit second.level second.block n cs b.subtree in
    absurd (omega (arith, a.none, shared, inside.0))
one_root sizes x limit first second m n bs cs shared (inr a) (inl b) =
    let inside = subtree_top sizes x limit first.level first.block m bs a.subtree in
    absurd (omega (arith, b.none, shared, inside.0))
one_root sizes x limit first second m n bs cs shared (inr a) (inr b) =
    let there = subst (λ k. Subtree sizes x limit first.level k m bs) shared a.subtree in
    let same = subtree_one sizes x limit first.level second.level second.block m n bs cs there b.subtree in
    let whole = append-nil m in
    let rising = subst AreRising (sym whole) (root_rising sizes x limit first m bs (inr a)) in
    ap (delta m) (sym same.0) ∙ ap₂ delta (sym whole) (sym whole) ∙ shared_front m [] [] rising rising

-- ---- step by step

none_left : (xs ys : List Change) → xs ++ ys ≡ [] → ys ≡ []
none_left [] ys e = e
none_left (x ∷ xs) ys e = cc

-- so many differences were found on the way from two walks to two others, by reads alone
pub record Compares (old new : DiskState) (limit low high : ℕ) (one_first other_first one other : Walk) (found : List Change) : Type 0 where
  pub looks : Looks ⊥ old new
  pub left : new.honest ≡ true → (sizes : Sizes) (most : ℕ) (changes : List Change) → Differ sizes old.now.contents limit low high one_first other_first old.reads most changes
      → (rest : List Change) × (changes ≡ found ++ rest) × Differ sizes old.now.contents limit low high one other new.reads most rest

module _ (old mid new : DiskState) (back : new.honest ≡ true → mid.honest ≡ true) (limit low high : ℕ) (one_first other_first one other : Walk) (found : List Change) (so_far : Compares old mid limit low high one_first other_first one other found) where
  -- what holds of one step on trees
  abbrev pub Stepped : (Sizes → ℕ → List Change → Type 0) → Type 0
  Stepped P = new.honest ≡ true → (sizes : Sizes) (most : ℕ) (changes : List Change) → Differ sizes mid.now.contents limit low high one other mid.reads most changes → P sizes most changes

  -- what one step does on trees, after which so many reads were made
  abbrev pub Steps : Result Step TreeFault → Walk → Walk → ℕ → Type 0
  Steps result one_now other_now reads = Stepped (λ sizes most changes. StepsBy result changes (Differ sizes mid.now.contents limit low high one_now other_now reads most))

  -- what the next step answers
  next_step : (result : Result Step TreeFault) (one_now other_now : Walk) (reads : ℕ) → Steps result one_now other_now reads
      → new.honest ≡ true → (sizes : Sizes) (most : ℕ) (changes : List Change) → Differ sizes old.now.contents limit low high one_first other_first old.reads most changes
      → (rest : List Change) × (changes ≡ found ++ rest) × StepsBy result rest (Differ sizes old.now.contents limit low high one_now other_now reads most)
  next_step result one_now other_now reads steps honest sizes most changes d =
      let l = so_far.left (back honest) sizes most changes d in
      let still = same_medium old mid (so_far.looks.reads (back honest)) in
      let R : Medium → Type 0 = λ m. Differ sizes m.contents limit low high one other mid.reads most l.0 → StepsBy result l.0 (Differ sizes m.contents limit low high one_now other_now reads most) in
      (l.0, l.1, subst R still (steps honest sizes most l.0) l.2)

  -- no more is read than is counted
  pub compares_bound : (now : ℕ) → Stepped (λ sizes most changes. now ≤ most) → new.honest ≡ true → (sizes : Sizes) (most : ℕ) (changes : List Change) → Differ sizes old.now.contents limit low high one_first other_first old.reads most changes → now ≤ most
  compares_bound now bound honest sizes most changes d =
      let l = so_far.left (back honest) sizes most changes d in
      let R : Medium → Type 0 = λ m. Differ sizes m.contents limit low high one other mid.reads most l.0 → now ≤ most in
      subst R (same_medium old mid (so_far.looks.reads (back honest))) (bound honest sizes most l.0) l.2

  step_is : (step is_step : Step) (one_now other_now : Walk) (reads : ℕ) → step ≡ is_step → Steps (Ok step) one_now other_now reads → Steps (Ok is_step) one_now other_now reads
  step_is step is_step one_now other_now reads is steps = subst (λ (s : Step). Steps (Ok s) one_now other_now reads) is steps

  pub compares_more : {fails : Type 0} (one_now other_now : Walk) (step : Step) → step ≡ Moved → Looks fails mid new → Steps (Ok step) one_now other_now new.reads
      → Compares old new limit low high one_first other_first one_now other_now found
  compares_more one_now other_now step is looks steps = record {
    looks = looks_on so_far.looks looks (λ is. absurd is);
    left = next_step (Ok Moved) one_now other_now new.reads (step_is step Moved one_now other_now new.reads is steps);
  }

  pub compares_found : {fails : Type 0} (one_mid other_mid one_now other_now : Walk) (step : Step) (key : Key) (change : Change) → step ≡ Found key → Looks fails mid new → Steps (Ok step) one_mid other_mid new.reads
      → ((sizes : Sizes) (x : Contents) (limit low high reads most : ℕ) (changes : List Change) → Differ sizes x limit low high one_mid other_mid reads most changes → (rest : List Change) × (changes ≡ change ∷ rest) × Differ sizes x limit low high one_now other_now reads most rest)
      → Compares old new limit low high one_first other_first one_now other_now (found ++ change ∷ [])
  compares_found one_mid other_mid one_now other_now step key change is looks steps takes = record {
    looks = looks_on so_far.looks looks (λ is. absurd is);
    left = λ honest sizes most changes d.
        let n = next_step (Ok (Found key)) one_mid other_mid new.reads (step_is step (Found key) one_mid other_mid new.reads is steps) honest sizes most changes d in
        let t = takes sizes old.now.contents limit low high new.reads most n.0 n.2 in
        (t.0, n.1 ∙ ap (λ (cs : List Change). found ++ cs) t.1 ∙ sym (append_assoc found (change ∷ []) t.0), t.2);
  }

  module _ (one_now other_now : Walk) (now : ℕ) where
    -- at the end all differences were found
    pub all_found : (step : Step) → step ≡ Done → Steps (Ok step) one_now other_now now → new.honest ≡ true → (sizes : Sizes) (most : ℕ) (changes : List Change) → Differ sizes old.now.contents limit low high one_first other_first old.reads most changes → found ≡ changes
    all_found step is steps honest sizes most changes d =
        let n = next_step (Ok Done) one_now other_now now (step_is step Done one_now other_now now is steps) honest sizes most changes d in
        sym (n.1 ∙ ap (λ (cs : List Change). found ++ cs) n.2 ∙ append-nil found)

    -- where one more is found, there are some
    pub some_found : (step : Step) (key : Key) → step ≡ Found key → FoundBy (Ok step) (front_of one_now) (front_of other_now) → Steps (Ok step) one_now other_now now → new.honest ≡ true → (sizes : Sizes) (most : ℕ) (changes : List Change) → Differ sizes old.now.contents limit low high one_first other_first old.reads most changes
        → changes ≡ [] → ⊥
    some_found step key is meet steps honest sizes most changes d none =
        let n = next_step (Ok (Found key)) one_now other_now now (step_is step (Found key) one_now other_now now is steps) honest sizes most changes d in
        let at = subst (λ (s : Step). FoundBy (Ok s) (front_of one_now) (front_of other_now)) is meet in
        some_difference sizes old.now.contents limit low high now most one_now other_now key n.0 at n.2 (none_left found n.0 (sym n.1 ∙ none))

    -- a fault on trees is that the device failed
    pub step_failed : (e : TreeFault) → Steps (Err e) one_now other_now now → new.honest ≡ true → (sizes : Sizes) (most : ℕ) (changes : List Change) → Differ sizes old.now.contents limit low high one_first other_first old.reads most changes → e ≡ Device
    step_failed e steps honest sizes most changes d = (next_step (Err e) one_now other_now now steps honest sizes most changes d).2

-- records with rising keys are a map
rising_map : (rs : List Record) → AreRising rs → IsMap rs
rising_map rs h = IsMap-rising_from 0 rs h.fit h.rising

-- two walks from roots differ in a part as their maps do, and each block over it that one tree alone has may be read once
pub roots_differ : (low high : ℕ) (sizes : Sizes) (x : Contents) (limit reads : ℕ) (first second : Root) (one other : Walk) (m n : Map) (bs cs : List ℕ) → Begins high first one → Begins high second other
    → (one_tree : IsRooted sizes x limit first m bs) → (other_tree : IsRooted sizes x limit second n cs)
    → Differ sizes x limit low high one other reads (reads + (unshared (tree_over (is_between low high) sizes x limit first m bs one_tree) (tree_over (is_between low high) sizes x limit second n cs other_tree) + (tree_aside low sizes x limit first m bs one_tree + tree_aside low sizes x limit second n cs other_tree))) (diff low high m n)
roots_differ low high sizes x limit reads first second one other m n bs cs one_begins other_begins one_tree other_tree =
    let a = root_begun low high sizes x limit first m bs one one_begins one_tree in
    let b = root_begun low high sizes x limit second n cs other other_begins other_tree in
    record {
      first = a.rest;
      second = b.rest;
      first_blocks = a.rest_blocks;
      second_blocks = b.rest_blocks;
      first_ahead = a.ahead;
      second_ahead = b.ahead;
      first_rising = a.rising;
      second_rising = b.rising;
      first_in = a.is_in;
      second_in = b.is_in;
      differences = changes_part-delta low high m n (rising_map n (root_rising sizes x limit second n cs other_tree)) ∙ ap₂ delta a.same b.same;
      paid = omega (arith, a.cheaper, b.cheaper, ap₂ unshared a.blocks_are b.blocks_are);
    }

-- ---- the whole of both maps

-- each record of a map stands between the lowest key and the highest
all_between : (m : Map) → FitKeys m → AllPass (is_between 0 (place (record { table = 65535; number = 18446744073709551615 }))) m
all_between m fit =
    subst (AllPass (is_between 0 (place (record { table = 65535; number = 18446744073709551615 })))) (part_all m fit) (part_passes 0 (place (record { table = 65535; number = 18446744073709551615 })) m)

module _ (low high : Key) (low_is : low ≡ record { table = 0; number = 0 }) (high_is : high ≡ record { table = 65535; number = 18446744073709551615 }) (sizes : Sizes) (x : Contents) (limit : ℕ) (first second : Root) (m n : Map) (bs cs : List ℕ)
    (one : IsRooted sizes x limit first m bs) (other : IsRooted sizes x limit second n cs) where
  ends_are : (P : ℕ → ℕ → Type 0) → P 0 (place (record { table = 65535; number = 18446744073709551615 })) → P (place low) (place high)
  ends_are P it = subst (λ (k : Key). P (place k) (place high)) (sym low_is) (subst (λ (k : Key). P 0 (place k)) (sym high_is) it)

  pub whole_diff : diff (place low) (place high) m n ≡ delta m n
  whole_diff =
      ends_are (λ p q. diff p q m n ≡ delta m n)
      (changes_part-delta 0 (place (record { table = 65535; number = 18446744073709551615 })) m n (rising_map n (root_rising sizes x limit second n cs other))
      ∙ ap₂ delta (part_all m (rooted_fits sizes x limit first m bs one)) (part_all n (rooted_fits sizes x limit second n cs other)))

  pub whole_reads : (reads now : ℕ)
      → now ≤ reads + (unshared (tree_over (is_between (place low) (place high)) sizes x limit first m bs one) (tree_over (is_between (place low) (place high)) sizes x limit second n cs other) + (tree_aside (place low) sizes x limit first m bs one + tree_aside (place low) sizes x limit second n cs other))
      → now ≤ reads + unshared bs cs
  whole_reads reads now few =
      let firsts : tree_over (is_between (place low) (place high)) sizes x limit first m bs one ≡ bs = ends_are (λ p q. tree_over (is_between p q) sizes x limit first m bs one ≡ bs) (tree_all (is_between 0 (place (record { table = 65535; number = 18446744073709551615 }))) sizes x limit first m bs one (all_between m (rooted_fits sizes x limit first m bs one))) in
      let seconds : tree_over (is_between (place low) (place high)) sizes x limit second n cs other ≡ cs = ends_are (λ p q. tree_over (is_between p q) sizes x limit second n cs other ≡ cs) (tree_all (is_between 0 (place (record { table = 65535; number = 18446744073709551615 }))) sizes x limit second n cs other (all_between n (rooted_fits sizes x limit second n cs other))) in
      omega (
        arith,
        few,
        ap₂ unshared firsts seconds,
        ends_are (λ p q. tree_aside p sizes x limit first m bs one ≡ 0) (none_aside sizes x limit first m bs one),
        ends_are (λ p q. tree_aside p sizes x limit second n cs other ≡ 0) (none_aside sizes x limit second n cs other),
      )
