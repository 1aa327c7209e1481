-- What is ahead of a walk once it has opened a subtree, and that this is less.
use Rattle.std.proofs.Common.{◌≡◌, inl, inr, ℕ, zero, suc, ◌+◌, ◌-◌, ◌*◌, ◌<◌, ◌≤◌, ◌||◌, nat_le, Bool, true, List, [], ◌∷◌, ◌++◌, length, drop, Result, Ok, Err, refl, sym, ap, ◌∙◌, subst, arith, append_assoc}
use Rattle.std.specs.Prelude.{⊤, OnOk}
use Rattle.vm_types.specs.declared.key.Key.{Key}
use Rattle.vm_disk.specs.Disk.{Contents}
use Rattle.vm_block.specs.Leaf.{BeginsWith, Record}
use Rattle.vm_block.specs.declared.node.Child.{Child}
use Rattle.vm_tree.specs.Tree.{Sizes, Children, Subtree}
use Rattle.vm_tree.specs.BlockReads.{IsLeafAt, IsNodeAt}
use Rattle.vm_tree.specs.Answers.{OkOrDevice}
use Rattle.vm_tree.specs.declared.root.Root.{Root}
use Rattle.vm_tree.specs.declared.faults.TreeFault.{TreeFault}
use Rattle.std.specs.List.{AllByRecursion, list_any}
use Rattle.std.proofs.lemmas.Bool.{and_from, cases_lt, le-leb}
use Rattle.vm_types.specs.Parts.{is_within, part}
use Rattle.vm_types.specs.Places.{RisesFrom, place, places}
use Rattle.vm_block.proofs.EachLemmas.{each_back, each_front, each_join, each_so}
use Rattle.vm_tree.specs.Over.{children_over, is_between, only_if, subtree_over, top_over}
use Rattle.vm_tree.specs.Spent.{reads_aside}
use Rattle.vm_tree.proofs.OverLemmas.{aside_few, aside_none, aside_some, leaf_over, node_over}
use Rattle.vm_tree.proofs.Rising.{rises_above, rises_front}
use Rattle.vm_diff.specs.Cuts.{CutsChildren, CutsRecords}
use Rattle.vm_diff.specs.Walk.{Walk, IsAhead, Under, into_tops, size, tops_of, weight, weight_of}
use Rattle.vm_diff.specs.Front.{first_of, front_of}
use Rattle.vm_diff.specs.Differ.{AreRising, Enters, IsIn, Passes, aside}
use Rattle.vm_diff.specs.Front.Front.{Pair, Top}
use Rattle.vm_diff.proofs.CutLemmas.{children_cut, part_cut, records_cut, rising_cut, under_tops}

-- ---- what a walk stands before

pub front_pair : (ps : List Record) (ts : List Root) (key : Key) (value : List ℕ) → first_of ps ts ≡ Pair key value → ps ≡ (key, value) ∷ drop 1 ps
front_pair [] [] key value e = cc
front_pair [] (t ∷ ts) key value e = cc
front_pair (r ∷ ps) ts key value e =
    let keys : r.0 ≡ key = cc in
    let values : r.1 ≡ value = cc in
    λ i. (keys i, values i) ∷ ps

pub front_top : (ps : List Record) (ts : List Root) (top : Root) → first_of ps ts ≡ Top top → (ps ≡ []) × (ts ≡ top ∷ drop 1 ts)
front_top [] [] top e = cc
front_top [] (t ∷ ts) top e = let same : t ≡ top = cc in (refl, ap (λ (u : Root). u ∷ ts) same)
front_top (r ∷ ps) ts top e = cc

-- ---- how much is ahead

weight_least : weight 0 ≡ 341
unfolding weight
weight_least = refl

weight_more : (level : ℕ) → weight (suc level) ≡ 257 * weight level
unfolding weight
weight_more level = refl

weight_some : (level : ℕ) → 0 < weight level
weight_some zero = omega (arith, weight_least)
weight_some (suc level) = omega (arith, weight_some level, weight_more level)

weight_under : (level most : ℕ) (cs : List Child) (ts : List Root) → length cs ≤ most → weight_of (tops_of level cs ++ ts) ≤ most * weight level + weight_of ts
weight_under level most [] ts few = omega arith
weight_under level zero (c ∷ cs) ts few = absurd (omega arith)
weight_under level (suc most) (c ∷ cs) ts few = omega (arith, weight_under level most cs ts (omega arith))

-- past a subtree less is ahead
pub skip_falls : (old new : Walk) (top : Root) → front_of old ≡ Top top → new ≡ record { pending = old.pending; tops = drop 1 old.tops } → size new < size old
skip_falls old new top front is =
    let at = front_top old.pending old.tops top front in
    omega (arith, ap size is, ap weight_of at.1, weight_some top.level)

-- a leaf that is opened makes less of what is ahead
pub leaf_falls : (old new : Walk) (top : Root) → front_of old ≡ Top top → top.level ≡ 0 → length new.pending ≤ 340 → new.tops ≡ drop 1 old.tops → size new < size old
leaf_falls old new top front zero_is few is =
    let at = front_top old.pending old.tops top front in
    let least : weight top.level ≡ 341 = ap weight zero_is ∙ weight_least in
    omega (arith, ap weight_of is, ap weight_of at.1, least, few)

-- and so does an inner block
pub node_falls : (old new : Walk) (top : Root) (cs : List Child) → front_of old ≡ Top top → 0 < top.level → length cs ≤ 256
    → new ≡ record { pending = old.pending; tops = tops_of (top.level - 1) cs ++ drop 1 old.tops } → size new < size old
node_falls old new top cs front above few is =
    let at = front_top old.pending old.tops top front in
    let more : weight top.level ≡ 257 * weight (top.level - 1) = ap weight (the_next top.level above) ∙ weight_more (top.level - 1) in
    omega (arith, ap size is, ap weight_of at.1, more, weight_some (top.level - 1), weight_under (top.level - 1) 256 cs (drop 1 old.tops) few)
  where
    the_next : (level : ℕ) → 0 < level → level ≡ suc (level - 1)
    the_next level above = omega arith

-- what follows from a part of the result is told of the whole of it
pub ok_then : {A B : Type 0} (result : Result ⊤ TreeFault) → OnOk result A → (A → B) → OnOk result B
ok_then (Ok x) h so = so h
ok_then (Err e) h so = h

pub ok_or : {A B : Type 0} (result : Result ⊤ TreeFault) → OkOrDevice result (λ _. A) → (A → B) → OkOrDevice result (λ _. B)
ok_or (Ok x) h so = so h
ok_or (Err e) h so = h

pub leaf_opening_falls : (old new : Walk) (top : Root) (result : Result ⊤ TreeFault) → front_of old ≡ Top top → top.level ≡ 0 → OnOk result ((length new.pending ≤ 340) × (new.tops ≡ drop 1 old.tops)) → OnOk result (size new < size old)
leaf_opening_falls old new top result front zero_is few = ok_then result few (λ h. leaf_falls old new top front zero_is h.0 h.1)

pub node_opening_falls : (old new : Walk) (top : Root) (result : Result ⊤ TreeFault) → front_of old ≡ Top top → 0 < top.level
    → OnOk result ((cs : List Child) × (length cs ≤ 256) × (new ≡ record { pending = old.pending; tops = tops_of (top.level - 1) cs ++ drop 1 old.tops })) → OnOk result (size new < size old)
node_opening_falls old new top result front above few = ok_then result few (λ h. node_falls old new top h.0 front above h.1 h.2)

-- less is ahead where the same front is left out
pub weight_back : (front ts : List Root) → weight_of ts ≤ weight_of (front ++ ts)
weight_back [] ts = omega arith
weight_back (t ∷ front) ts = omega (arith, weight_back front ts)

pub weight_less : (front ts : List Root) → 0 < length front → weight_of ts < weight_of (front ++ ts)
weight_less [] ts some = absurd (omega arith)
weight_less (t ∷ front) ts some = omega (arith, weight_back front ts, weight_some t.level)

-- ---- what is ahead

-- the first subtree ahead, and what comes after it
pub record TopAhead (test : ℕ → Bool) (sizes : Sizes) (x : Contents) (limit : ℕ) (top : Root) (ts : List Root) (rs : List Record) (bs : List ℕ) : Type 0 where
  pub sub : List Record
  pub rest : List Record
  pub own : List ℕ
  pub others : List ℕ
  pub subtree : Subtree sizes x limit top.level top.block sub own
  pub begins : BeginsWith top.low sub
  pub after : Under test sizes x limit ts rest others
  pub records : rs ≡ sub ++ rest
  pub blocks : bs ≡ subtree_over test sizes x limit top.level top.block sub own subtree ++ others

pub top_ahead : (test : ℕ → Bool) (sizes : Sizes) (x : Contents) (limit : ℕ) (walk : Walk) (top : Root) (rs : List Record) (bs : List ℕ) → front_of walk ≡ Top top → IsAhead test sizes x limit walk rs bs → TopAhead test sizes x limit top (drop 1 walk.tops) rs bs
top_ahead test sizes x limit walk top rs bs front ahead =
    let at = front_top walk.pending walk.tops top front in
    let u = subst (λ (ts : List Root). Under test sizes x limit ts ahead.later bs) at.1 ahead.under in
    record {
      sub = u.0;
      rest = u.1;
      own = u.2;
      others = u.3;
      subtree = u.4;
      begins = u.5;
      after = u.6;
      records = ahead.records ∙ ap (λ (qs : List Record). qs ++ ahead.later) at.0 ∙ u.7;
      blocks = u.8;
    }

-- ---- what is opened, as far as it may lie in a part

-- a subtree that begins in the part has its top over it
any_first : (low high : ℕ) (key : Key) (rs : List Record) → BeginsWith key rs → low ≤ place key → place key ≤ high → list_any (λ r. is_between low high (place r.0)) rs ≡ true
any_first low high key [] begins least most = absurd begins
any_first low high key (r ∷ rs) begins least most =
    let p = place r.0 in
    let here : is_between low high p ≡ true = and_from (nat_le low p) (nat_le p high) (le-leb low p (omega (arith, least, ap place begins))) (le-leb p high (omega (arith, most, ap place begins))) in
    ap (λ t. t || list_any (λ s. is_between low high (place s.0)) rs) here

-- what no subtree costs aside that begins in the part or above
pub aside_others : (low : ℕ) (ts : List Root) → AllByRecursion (λ (t : Root). low ≤ place t.low) ts → aside low ts ≡ 0
aside_others low [] all = refl
aside_others low (t ∷ ts) all = aside_none low t.level t.low all.0

-- the read of a top is paid for
pub top_pays : (low high : ℕ) (top : Root) (sub : List Record) (counted : Bool) (before later : ℕ) → BeginsWith top.low sub → place top.low ≤ high → counted ≡ list_any (λ r. is_between low high (place r.0)) sub
    → before ≡ reads_aside low top.level top.low → (low ≤ place top.low → later ≡ 0) → later ≤ top.level → 1 + later ≤ length (only_if counted (top.block ∷ [])) + before
top_pays low high top sub counted before later begins most is before_is inside few =
    elim (cases_lt (place top.low) low) [
      | inl lt ↦ omega (arith, few, before_is, aside_some low top.level top.low lt)
      | inr le ↦ let one : only_if counted (top.block ∷ []) ≡ top.block ∷ [] = ap (λ t. only_if t (top.block ∷ [])) (is ∙ any_first low high top.low sub begins le most) in
          omega (arith, inside le, ap length one)
    ]

-- records that begin at a place or above it stand there or above
from_first : (p : ℕ) (key : Key) (rs : List Record) → BeginsWith key rs → RisesFrom 0 (places rs) → p ≤ place key → AllByRecursion (λ (r : Record). p ≤ place r.0) rs
from_first p key [] begins rises le = tt
from_first p key (r ∷ rs) begins rises le =
    let here : p ≤ place r.0 = omega (arith, le, ap place begins) in
    (here, each_so (λ (s : Record). place r.0 < place s.0) (λ (s : Record). p ≤ place s.0) (λ s lt. omega (arith, here, lt)) rs (rises_above (place r.0) (place r.0 + 1) rs (omega arith) rises.1))

-- what children that are kept cost aside
kept_aside : (low level : ℕ) (T : ℕ → List Record → List ℕ → Type 0) (kept : List Child) (ts : List Root) (sub : List Record) (under : List ℕ) → Children T kept sub under → AllByRecursion (λ (t : Root). low ≤ place t.low) ts
    → (aside low (tops_of level kept ++ ts) ≤ level + 1) × (AllByRecursion (λ (r : Record). low ≤ place r.0) sub → aside low (tops_of level kept ++ ts) ≡ 0)
kept_aside low level T [] ts sub under t others = let none = aside_others low ts others in (omega (arith, none), λ all. none)
kept_aside low level T (c ∷ kept) ts sub under t others =
    (aside_few low level c.low, λ all. aside_none low level c.low (first_from t.0 t.5 (subst (AllByRecursion (λ (r : Record). low ≤ place r.0)) t.7 all)))
  where
    first_from : (first : List Record) → BeginsWith c.low first → AllByRecursion (λ (r : Record). low ≤ place r.0) (first ++ t.1) → low ≤ place c.low
    first_from [] begins all = absurd begins
    first_from (r ∷ first) begins all = omega (arith, ap place begins, all.0)

each_tops : (P : Root → Type 0) (level : ℕ) (cs : List Child) → AllByRecursion (λ (c : Child). P (record { block = c.block; level = level; low = c.low })) cs → AllByRecursion P (tops_of level cs)
each_tops P level [] all = tt
each_tops P level (c ∷ cs) all = (all.0, each_tops P level cs all.1)

-- all but the first of joined tops
drop_joined : (P : Root → Type 0) (ss ts : List Root) → AllByRecursion P (drop 1 ss) → AllByRecursion P ts → AllByRecursion P (drop 1 (ss ++ ts))
drop_joined P [] [] a b = tt
drop_joined P [] (t ∷ ts) a b = b.1
drop_joined P (s ∷ ss) ts a b = each_join P ss ts a b

drop_tops : (level : ℕ) (cs : List Child) → drop 1 (tops_of level cs) ≡ tops_of level (drop 1 cs)
drop_tops level [] = refl
drop_tops level (c ∷ cs) = refl

module _ (low high : ℕ) (sizes : Sizes) (x : Contents) (limit : ℕ) (old new : Walk) (top : Root) (rs : List Record) (bs : List ℕ) (front : front_of old ≡ Top top) (ahead : IsAhead (is_between low high) sizes x limit old rs bs) (rising : AreRising rs) (is_in : IsIn low high old) where
  tops_are : old.tops ≡ top ∷ drop 1 old.tops
  tops_are = (front_top old.pending old.tops top front).1

  tops_high : AllByRecursion (λ (t : Root). place t.low ≤ high) (top ∷ drop 1 old.tops)
  tops_high = subst (AllByRecursion (λ (t : Root). place t.low ≤ high)) tops_are is_in.tops

  aside_is : aside low old.tops ≡ reads_aside low top.level top.low
  aside_is = ap (aside low) tops_are

  -- the walk has opened a leaf
  leaf_opened : top.level ≡ 0 → ((qs : List Record) → IsLeafAt x limit top.block qs → CutsRecords low high qs new.pending × (new.tops ≡ drop 1 old.tops)) → Enters sizes x limit low high (Top top) old new rs bs
  leaf_opened zero_is only =
      let t = top_ahead (is_between low high) sizes x limit old top rs bs front ahead in
      let here = leaf_over sizes x limit top.level top.block t.sub t.own zero_is t.subtree in
      let read = only t.sub (record { inside = here.place; leaf = here.leaf }) in
      let whole = subst AreRising t.records rising in
      let cut = records_cut low high t.sub new.pending read.0 (rises_front 0 t.sub t.rest whole.rising) in
      let cut_records : rs ≡ (cut.before ++ (new.pending ++ cut.behind)) ++ t.rest = t.records ∙ ap (λ (qs : List Record). qs ++ t.rest) cut.records in
      let later_aside : aside low new.tops ≡ 0 = ap (aside low) read.1 ∙ aside_others low (drop 1 old.tops) is_in.others in
      record {
        rest = new.pending ++ t.rest;
        rest_blocks = t.others;
        ahead = record { later = t.rest; under = subst (λ (ts : List Root). Under (is_between low high) sizes x limit ts t.rest t.others) (sym read.1) t.after; records = refl };
        rising = rising_cut cut.before new.pending cut.behind t.rest (subst AreRising cut_records rising);
        is_in = record {
          records = cut.within;
          tops = subst (AllByRecursion (λ (t : Root). place t.low ≤ high)) (sym read.1) tops_high.1;
          others = subst (λ (ts : List Root). AllByRecursion (λ (t : Root). low ≤ place t.low) (drop 1 ts)) (sym read.1) (drop_joined (λ (t : Root). low ≤ place t.low) [] (drop 1 old.tops) tt is_in.others);
        };
        records = ap (part low high) cut_records ∙ part_cut low high cut.before new.pending cut.behind t.rest cut.below cut.above;
        counted = list_any (λ r. is_between low high (place r.0)) t.sub;
        blocks = t.blocks ∙ ap (λ (ds : List ℕ). ds ++ t.others) (here.over (is_between low high));
        pays = top_pays low high top t.sub (list_any (λ r. is_between low high (place r.0)) t.sub) (aside low old.tops) (aside low new.tops) t.begins tops_high.0 refl aside_is (λ le. later_aside) (omega (arith, later_aside));
      }

  -- what is read of a leaf, and of an inner block
  leaf_read : top.level ≡ 0 → (qs : List Record) × IsLeafAt x limit top.block qs
  leaf_read zero_is =
      let t = top_ahead (is_between low high) sizes x limit old top rs bs front ahead in
      let here = leaf_over sizes x limit top.level top.block t.sub t.own zero_is t.subtree in
      (t.sub, record { inside = here.place; leaf = here.leaf })

  node_read : 0 < top.level → (cs : List Child) × IsNodeAt x limit top.level top.block cs
  node_read above =
      let t = top_ahead (is_between low high) sizes x limit old top rs bs front ahead in
      let up : top.level ≡ suc (top.level - 1) = omega (arith, above) in
      let here = node_over sizes x limit top.level (top.level - 1) top.block t.sub t.own up t.subtree in
      (here.children, record { inside = here.place; node = here.node })

  -- the walk has opened an inner block
  node_opened : 0 < top.level → ((cs : List Child) → IsNodeAt x limit top.level top.block cs → (kept : List Child) × CutsChildren low high cs kept × (new ≡ into_tops (tops_of (top.level - 1) kept) old)) → Enters sizes x limit low high (Top top) old new rs bs
  node_opened above only =
      let k = top.level - 1 in
      let t = top_ahead (is_between low high) sizes x limit old top rs bs front ahead in
      let up : top.level ≡ suc (top.level - 1) = omega (arith, above) in
      let here = node_over sizes x limit top.level (top.level - 1) top.block t.sub t.own up t.subtree in
      let read = only here.children (record { inside = here.place; node = here.node }) in
      let kept = read.0 in
      let T = Subtree sizes x limit (top.level - 1) in
      let whole = subst AreRising t.records rising in
      let sub_rises = rises_front 0 t.sub t.rest whole.rising in
      let cut = children_cut low high sizes x limit (top.level - 1) here.children kept read.1 t.sub here.under here.below sub_rises in
      let cut_records : rs ≡ (cut.before ++ (cut.sub ++ cut.behind)) ++ t.rest = t.records ∙ ap (λ (qs : List Record). qs ++ t.rest) cut.records in
      let kept_over = children_over T (subtree_over (is_between low high) sizes x limit (top.level - 1)) kept cut.sub cut.under cut.tree in
      let under = under_tops (is_between low high) sizes x limit (top.level - 1) kept (drop 1 old.tops) cut.sub t.rest cut.under t.others cut.tree t.after in
      let none = (front_top old.pending old.tops top front).0 in
      let pending_is : new.pending ≡ [] = ap (λ (w : Walk). w.pending) read.2 ∙ none in
      let tops_now : new.tops ≡ tops_of (top.level - 1) kept ++ drop 1 old.tops = ap (λ (w : Walk). w.tops) read.2 in
      let costs = kept_aside low (top.level - 1) T kept (drop 1 old.tops) cut.sub cut.under cut.tree is_in.others in
      let few : aside low new.tops ≤ top.level = omega (arith, ap (aside low) tops_now, costs.0, up) in
      let inside : low ≤ place top.low → aside low new.tops ≡ 0 = λ le.
      let all = each_front (λ (r : Record). low ≤ place r.0) cut.sub cut.behind (each_back (λ (r : Record). low ≤ place r.0) cut.before (cut.sub ++ cut.behind) (subst (AllByRecursion (λ (r : Record). low ≤ place r.0)) cut.records (from_first low top.low t.sub t.begins sub_rises le))) in
      ap (aside low) tops_now ∙ costs.1 all in
      record {
        rest = cut.sub ++ t.rest;
        rest_blocks = kept_over ++ t.others;
        ahead = record {
          later = cut.sub ++ t.rest;
          under = subst (λ (ts : List Root). Under (is_between low high) sizes x limit ts (cut.sub ++ t.rest) (kept_over ++ t.others)) (sym tops_now) under;
          records = ap (λ (qs : List Record). qs ++ (cut.sub ++ t.rest)) (sym pending_is);
        };
        rising = rising_cut cut.before cut.sub cut.behind t.rest (subst AreRising cut_records rising);
        is_in = record {
          records = subst (AllByRecursion (λ (r : Record). is_within low high r.0 ≡ true)) (sym pending_is) tt;
          tops = subst (AllByRecursion (λ (t : Root). place t.low ≤ high)) (sym tops_now) (each_join (λ (t : Root). place t.low ≤ high) (tops_of (top.level - 1) kept) (drop 1 old.tops) (each_tops (λ (t : Root). place t.low ≤ high) (top.level - 1) kept read.1.within) tops_high.1);
          others = subst (λ (ts : List Root). AllByRecursion (λ (t : Root). low ≤ place t.low) (drop 1 ts)) (sym tops_now)
              (drop_joined (λ (t : Root). low ≤ place t.low) (tops_of (top.level - 1) kept) (drop 1 old.tops)
              (subst (AllByRecursion (λ (t : Root). low ≤ place t.low)) (sym (drop_tops (top.level - 1) kept)) (each_tops (λ (t : Root). low ≤ place t.low) (top.level - 1) (drop 1 kept) cut.others)) is_in.others);
        };
        records = ap (part low high) cut_records ∙ part_cut low high cut.before cut.sub cut.behind t.rest cut.below cut.above;
        counted = list_any (λ r. is_between low high (place r.0)) t.sub;
        blocks = t.blocks ∙ ap (λ (ds : List ℕ). ds ++ t.others) (here.over (is_between low high) ∙ ap (λ (ds : List ℕ). top_over (is_between low high) top.block t.sub ++ ds) cut.parts) ∙ append_assoc (top_over (is_between low high) top.block t.sub) kept_over t.others;
        pays = top_pays low high top t.sub (list_any (λ r. is_between low high (place r.0)) t.sub) (aside low old.tops) (aside low new.tops) t.begins tops_high.0 refl aside_is inside few;
      }

  -- what is answered where a leaf, or an inner block, that the walk stands before is opened
  pub leaf_opening : (result : Result ⊤ TreeFault) → top.level ≡ 0
      → ((qs : List Record) → IsLeafAt x limit top.block qs → OkOrDevice result (λ _. CutsRecords low high qs new.pending × (new.tops ≡ drop 1 old.tops))) → OkOrDevice result (λ _. Enters sizes x limit low high (Top top) old new rs bs)
  leaf_opening (Ok y) zero_is only = leaf_opened zero_is only
  leaf_opening (Err e) zero_is only = let here = leaf_read zero_is in only here.0 here.1

  pub node_opening : (result : Result ⊤ TreeFault) → 0 < top.level
      → ((cs : List Child) → IsNodeAt x limit top.level top.block cs → OkOrDevice result (λ _. (kept : List Child) × CutsChildren low high cs kept × (new ≡ into_tops (tops_of (top.level - 1) kept) old))) → OkOrDevice result (λ _. Enters sizes x limit low high (Top top) old new rs bs)
  node_opening (Ok y) above only = node_opened above only
  node_opening (Err e) above only = let here = node_read above in only here.0 here.1

module _ (test : ℕ → Bool) (sizes : Sizes) (x : Contents) (limit : ℕ) where
  -- the walk has gone past a record
  pub pair_passed : (old new : Walk) (key : Key) (value : List ℕ) (rs : List Record) (bs : List ℕ) → front_of old ≡ Pair key value → new ≡ record { pending = drop 1 old.pending; tops = old.tops }
      → IsAhead test sizes x limit old rs bs → Passes test sizes x limit (key, value) new rs bs
  pair_passed old new key value rs bs front is ahead =
      let at = front_pair old.pending old.tops key value front in
      let next : IsAhead test sizes x limit (record { pending = drop 1 old.pending; tops = old.tops }) (drop 1 old.pending ++ ahead.later) bs =
      record { later = ahead.later; under = ahead.under; records = refl } in
      record {
        rest = drop 1 old.pending ++ ahead.later;
        ahead = subst (λ (w : Walk). IsAhead test sizes x limit w (drop 1 old.pending ++ ahead.later) bs) (sym is) next;
        records = ahead.records ∙ ap (λ (qs : List Record). qs ++ ahead.later) at;
      }

-- past a subtree a walk stands in the part still
pub in_skipped : (low high : ℕ) (old new : Walk) (top : Root) → front_of old ≡ Top top → new ≡ record { pending = old.pending; tops = drop 1 old.tops } → IsIn low high old → IsIn low high new
in_skipped low high old new top front is is_in =
    let tops = (front_top old.pending old.tops top front).1 in
    let all = subst (AllByRecursion (λ (t : Root). place t.low ≤ high)) tops is_in.tops in
    subst (IsIn low high) (sym is) (record { records = is_in.records; tops = all.1; others = drop_joined (λ (t : Root). low ≤ place t.low) [] (drop 1 old.tops) tt is_in.others })

module _ (low high : ℕ) where
  -- where a walk stands in a part, so does its next record
  pub in_pair : (walk : Walk) (key : Key) (value : List ℕ) → front_of walk ≡ Pair key value → IsIn low high walk → (is_within low high key ≡ true) × AllByRecursion (λ r. is_within low high r.0 ≡ true) (drop 1 walk.pending)
  in_pair walk key value front is_in =
      let all = subst (AllByRecursion (λ (r : Record). is_within low high r.0 ≡ true)) (front_pair walk.pending walk.tops key value front) is_in.records in
      (all.0, all.1)

  -- past a record it stands there still
  pub in_past : (old new : Walk) → AllByRecursion (λ r. is_within low high r.0 ≡ true) (drop 1 old.pending) → new ≡ record { pending = drop 1 old.pending; tops = old.tops } → IsIn low high old → IsIn low high new
  in_past old new all is is_in = subst (IsIn low high) (sym is) (record { records = all; tops = is_in.tops; others = is_in.others })
