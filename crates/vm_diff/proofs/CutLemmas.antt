-- What is left of a leaf or an inner block where what does not lie in a part is left out.
use Rattle.std.proofs.Common.{◌≡◌, ◌⊎◌, inl, inr, ℕ, zero, suc, ◌+◌, ◌-◌, ◌<◌, ◌≤◌, nat_le, Bool, true, false, List, [], ◌∷◌, ◌++◌, take, drop, max, refl, sym, ap, ap₂, ◌∙◌, subst, arith, append_assoc, append-nil, take-append-drop}
use Rattle.std.specs.List.{AllByRecursion}
use Rattle.std.proofs.Math.Seq.{take-add}
use Rattle.std.proofs.lemmas.Bool.{and_from, cases_lt, le-leb}
use Rattle.std.proofs.lemmas.List.{drop-drop}
use Rattle.vm_types.specs.declared.key.Key.{Key}
use Rattle.vm_types.specs.Parts.{is_within, part}
use Rattle.vm_types.specs.Places.{KeyFits, RisesFrom, place, places}
use Rattle.vm_types.proofs.PartLemmas.{is_before, is_behind, part-append, part_before, part_behind}
use Rattle.vm_disk.specs.Disk.{Contents}
use Rattle.vm_block.specs.Leaf.{BeginsWith, Record}
use Rattle.vm_block.specs.declared.node.Child.{Child}
use Rattle.vm_block.proofs.EachLemmas.{each_back, each_front, each_join, each_so}
use Rattle.vm_tree.specs.Over.{children_over, is_between, subtree_over}
use Rattle.vm_tree.specs.Tree.{Sizes, Children, Subtree}
use Rattle.vm_tree.specs.declared.root.Root.{Root}
use Rattle.vm_tree.proofs.OverParts.{NonePass, children_none, subtree_none}
use Rattle.vm_tree.proofs.Rising.{Above, Below, below_more, rises_above, rises_back, rises_before, rises_front}
use Rattle.vm_diff.specs.Cuts.{CutAt, CutsChildren, CutsRecords, FirstAt, SecondAt}
use Rattle.vm_diff.specs.Differ.{AreRising}
use Rattle.vm_diff.specs.Walk.{Under, tops_of}

-- # Records with some left out

rises_without : (low : ℕ) (xs ys zs : List Record) → RisesFrom low (places (xs ++ (ys ++ zs))) → RisesFrom low (places (xs ++ zs))
rises_without low [] ys zs rises = rises_back low ys zs rises
rises_without low (x ∷ xs) ys zs rises = (rises.0, rises_without (place x.0 + 1) xs ys zs rises.1)

fits_without : (xs ys zs : List Record) → AllByRecursion (λ (r : Record). KeyFits r.0) (xs ++ (ys ++ zs)) → AllByRecursion (λ (r : Record). KeyFits r.0) (xs ++ zs)
fits_without xs ys zs fit =
    let K : Record → Type 0 = λ (r : Record). KeyFits r.0 in
    each_join K xs zs (each_front K xs (ys ++ zs) fit) (each_back K ys zs (each_back K xs (ys ++ zs) fit))

-- rising records without those before and behind some of them
pub rising_cut : (before kept behind after : List Record) → AreRising ((before ++ (kept ++ behind)) ++ after) → AreRising (kept ++ after)
rising_cut before kept behind after h =
    let whole : (before ++ (kept ++ behind)) ++ after ≡ before ++ (kept ++ (behind ++ after)) = append_assoc before (kept ++ behind) after ∙ ap (λ (rs : List Record). before ++ rs) (append_assoc kept behind after) in
    let same = subst AreRising whole h in
    let K : Record → Type 0 = λ (r : Record). KeyFits r.0 in
    record {
      rising = rises_without 0 kept behind after (rises_back 0 before (kept ++ (behind ++ after)) same.rising);
      fit = fits_without kept behind after (each_back K before (kept ++ (behind ++ after)) same.fit);
    }

-- they have the same in the part
pub part_cut : (low high : ℕ) (before kept behind after : List Record) → Below low before → Above high behind → part low high ((before ++ (kept ++ behind)) ++ after) ≡ part low high (kept ++ after)
part_cut low high before kept behind after below above =
    let P : List Record → List Record = λ rs. part low high rs in
    part-append low high (before ++ (kept ++ behind)) after
    ∙ ap (λ (rs : List Record). rs ++ P after)
    (part-append low high before (kept ++ behind) ∙ ap (λ (rs : List Record). rs ++ P (kept ++ behind)) (part_before low high before below)
    ∙ part-append low high kept behind ∙ ap (λ (rs : List Record). P kept ++ rs) (part_behind low high behind above) ∙ append-nil (P kept))
    ∙ sym (part-append low high kept after)

pub none_below : (low high : ℕ) (rs : List Record) → Below low rs → NonePass (is_between low high) rs
none_below low high rs below = each_so (λ (r : Record). place r.0 < low) (λ (r : Record). is_between low high (place r.0) ≡ false) (λ r lt. is_before low high r.0 lt) rs below

pub none_above : (low high : ℕ) (rs : List Record) → Above high rs → NonePass (is_between low high) rs
none_above low high rs above = each_so (λ (r : Record). high < place r.0) (λ (r : Record). is_between low high (place r.0) ≡ false) (λ r lt. is_behind low high r.0 lt) rs above

-- records that begin with a key rise from there
above_first : (p : ℕ) (key : Key) (rs : List Record) → BeginsWith key rs → RisesFrom 0 (places rs) → p < place key → Above p rs
above_first p key [] begins rises lt = tt
above_first p key (r ∷ rs) begins rises lt =
    let here : p < place r.0 = omega (arith, lt, ap place begins) in
    (here, rises_above p (place r.0 + 1) rs (omega (arith, here)) rises.1)

begins_on : (key : Key) (xs ys : List Record) → BeginsWith key xs → BeginsWith key (xs ++ ys)
begins_on key [] ys begins = absurd begins
begins_on key (x ∷ xs) ys begins = begins

below_begins : (xs ys : List Record) (key : Key) → BeginsWith key ys → RisesFrom 0 (places (xs ++ ys)) → Below (place key) xs
below_begins xs [] key begins rises = absurd begins
below_begins xs (y ∷ ys) key begins rises = subst (λ k. Below (place k) xs) begins (rises_before 0 xs y ys rises)

lower_begins : (xs : List Record) (key : Key) (p : ℕ) → BeginsWith key xs → Below p xs → place key < p
lower_begins [] key p begins below = absurd begins
lower_begins (x ∷ xs) key p begins below = omega (arith, ap place begins, below.0)

-- # Children with some left out

module _ (T : ℕ → List Record → List ℕ → Type 0) (over : (b : ℕ) (rs : List Record) (bs : List ℕ) → T b rs bs → List ℕ) where
  -- what lies under children, in two
  record SplitIn (cs ds : List Child) (rs : List Record) (bs : List ℕ) (t : Children T (cs ++ ds) rs bs) : Type 0 where
    front : List Record
    back : List Record
    left : List ℕ
    right : List ℕ
    first : Children T cs front left
    second : Children T ds back right
    records : rs ≡ front ++ back
    parts : children_over T over (cs ++ ds) rs bs t ≡ children_over T over cs front left first ++ children_over T over ds back right second

  split_in : (cs ds : List Child) (rs : List Record) (bs : List ℕ) → (t : Children T (cs ++ ds) rs bs) → SplitIn cs ds rs bs t
  split_in [] ds rs bs t = record { front = []; back = rs; left = []; right = bs; first = (refl, refl); second = t; records = refl; parts = refl }
  split_in (c ∷ cs) ds rs bs t =
      let s = split_in cs ds t.1 t.3 t.6 in
      record {
        front = t.0 ++ s.front;
        back = s.back;
        left = t.2 ++ s.left;
        right = s.right;
        first = (t.0, s.front, t.2, s.left, t.4, t.5, s.first, refl, refl);
        second = s.second;
        records = t.7 ∙ ap (λ z. t.0 ++ z) s.records ∙ sym (append_assoc t.0 s.front s.back);
        parts = ap (λ (z : List ℕ). over c.block t.0 t.2 t.4 ++ z) s.parts ∙ sym (append_assoc (over c.block t.0 t.2 t.4) (children_over T over cs s.front s.left s.first) (children_over T over ds s.back s.right s.second));
      }

  first_begins : (c : Child) (cs : List Child) (rs : List Record) (bs : List ℕ) → Children T (c ∷ cs) rs bs → BeginsWith c.low rs
  first_begins c cs rs bs t = subst (BeginsWith c.low) (sym t.7) (begins_on c.low t.0 t.1 t.5)

  -- the lowest keys of children rise
  lows_rise : (c : Child) (cs : List Child) (rs : List Record) (bs : List ℕ) → Children T (c ∷ cs) rs bs → RisesFrom 0 (places rs) → AllByRecursion (λ (d : Child). place c.low < place d.low) cs
  lows_rise c [] rs bs t rises = tt
  lows_rise c (d ∷ ds) rs bs t rises =
      let whole = subst (λ (qs : List Record). RisesFrom 0 (places qs)) t.7 rises in
      let lt = lower_begins t.0 c.low (place d.low) t.5 (below_begins t.0 t.1 d.low (first_begins d ds t.1 t.3 t.6) whole) in
      (lt, each_so (λ (e : Child). place d.low < place e.low) (λ (e : Child). place c.low < place e.low) (λ e more. omega (arith, lt, more)) ds (lows_rise d ds t.1 t.3 t.6 (rises_back 0 t.0 t.1 whole)))

  -- what lies under children of which the first begins above a place is above it
  under_above_first : (p : ℕ) (cs : List Child) (rs : List Record) (bs : List ℕ) → Children T cs rs bs → RisesFrom 0 (places rs) → FirstAt (λ (c : Child). c.low) (λ q. p < q) cs → Above p rs
  under_above_first p [] rs bs t rises at = subst (Above p) (sym t.0) tt
  under_above_first p (c ∷ cs) rs bs t rises at = above_first p c.low rs (first_begins c cs rs bs t) rises at

module _ (low high : ℕ) (sizes : Sizes) (x : Contents) (limit k : ℕ) where
  -- what is under the children that are kept
  pub record ChildrenCut (kept : List Child) (rs : List Record) (blocks : List ℕ) : Type 0 where
    pub before : List Record
    pub sub : List Record
    pub behind : List Record
    pub under : List ℕ
    pub tree : Children (Subtree sizes x limit k) kept sub under
    pub records : rs ≡ before ++ (sub ++ behind)
    pub below : Below low before
    pub above : Above high behind
    pub parts : blocks ≡ children_over (Subtree sizes x limit k) (subtree_over (is_between low high) sizes x limit k) kept sub under tree
    pub others : AllByRecursion (λ (c : Child). low ≤ place c.low) (drop 1 kept)

  others_kept : (kept behind : List Child) (rs : List Record) (bs : List ℕ) → Children (Subtree sizes x limit k) kept rs bs → RisesFrom 0 (places rs) → SecondAt (λ (c : Child). c.low) (λ p. low < p) (kept ++ behind)
      → AllByRecursion (λ (c : Child). low ≤ place c.low) (drop 1 kept)
  others_kept [] behind rs bs t rises reached = tt
  others_kept (c ∷ []) behind rs bs t rises reached = tt
  others_kept (c ∷ d ∷ ds) behind rs bs t rises reached =
      let whole = subst (λ (qs : List Record). RisesFrom 0 (places qs)) t.7 rises in
      let rest = lows_rise (Subtree sizes x limit k) (subtree_over (is_between low high) sizes x limit k) d ds t.1 t.3 t.6 (rises_back 0 t.0 t.1 whole) in
      let here : low ≤ place d.low = omega (arith, reached) in
      (here, each_so (λ (e : Child). place d.low < place e.low) (λ (e : Child). low ≤ place e.low) (λ e more. omega (arith, here, more)) ds rest)

  pub children_cut : (all kept : List Child) → CutsChildren low high all kept → (rs : List Record) (bs : List ℕ) → (t : Children (Subtree sizes x limit k) all rs bs) → RisesFrom 0 (places rs)
      → ChildrenCut kept rs (children_over (Subtree sizes x limit k) (subtree_over (is_between low high) sizes x limit k) all rs bs t)
  children_cut all kept cuts rs bs t rises =
      let T = Subtree sizes x limit k in
      let over = subtree_over (is_between low high) sizes x limit k in
      let blocks = children_over T over all rs bs t in
      let P : List Child → Type 0 = λ ds. (u : Children T ds rs bs) × (blocks ≡ children_over T over ds rs bs u) in
      let whole = subst P cuts.whole (t, refl) in
      let s = split_in T over cuts.before (kept ++ cuts.behind) rs bs whole.0 in
      let u = split_in T over kept cuts.behind s.back s.right s.second in
      let all_rise = subst (λ (qs : List Record). RisesFrom 0 (places qs)) s.records rises in
      let back_rise = subst (λ (qs : List Record). RisesFrom 0 (places qs)) u.records (rises_back 0 s.front s.back all_rise) in
      let below = front_below cuts.before (kept ++ cuts.behind) s.front s.back s.left s.right cuts.passed s.first s.second all_rise in
      let above = under_above_first T over high cuts.behind u.back u.right u.second (rises_back 0 u.front u.back back_rise) cuts.above in
      record {
        before = s.front;
        sub = u.front;
        behind = u.back;
        under = u.left;
        tree = u.first;
        records = s.records ∙ ap (λ (qs : List Record). s.front ++ qs) u.records;
        below = below;
        above = above;
        parts =
            whole.1 ∙ s.parts
            ∙ ap₂ (λ (ds es : List ℕ). ds ++ es) (children_none (is_between low high) T over (subtree_none (is_between low high) sizes x limit k) cuts.before s.front s.left s.first (none_below low high s.front below)) u.parts
            ∙ ap (λ (zs : List ℕ). children_over T over kept u.front u.left u.first ++ zs) (children_none (is_between low high) T over (subtree_none (is_between low high) sizes x limit k) cuts.behind u.back u.right u.second (none_above low high u.back above))
            ∙ append-nil (children_over T over kept u.front u.left u.first);
        others = others_kept kept cuts.behind u.front u.left u.first (rises_front 0 u.front u.back back_rise) cuts.reached;
      }
    where
      front_below : (cs ds : List Child) (front back : List Record) (left right : List ℕ) → (cs ≡ []) ⊎ ((c : Child) × (rest : List Child) × (ds ≡ c ∷ rest) × (place c.low ≤ low))
          → Children (Subtree sizes x limit k) cs front left → Children (Subtree sizes x limit k) ds back right → RisesFrom 0 (places (front ++ back)) → Below low front
      front_below cs ds front back left right (inl none) first second rise =
          let empty = (subst (λ (es : List Child). Children (Subtree sizes x limit k) es front left) none first).0 in subst (Below low) (sym empty) tt
      front_below cs ds front back left right (inr next) first second rise =
          let there = subst (λ (es : List Child). Children (Subtree sizes x limit k) es back right) next.2 second in
          let begins = first_begins (Subtree sizes x limit k) (subtree_over (is_between low high) sizes x limit k) next.0 next.1 back right there in
          below_more (place next.0.low) low front next.3 (below_begins front back next.0.low begins rise)

-- what lies under children lies under their tops
pub under_tops : (test : ℕ → Bool) (sizes : Sizes) (x : Contents) (limit level : ℕ) (cs : List Child) (ts : List Root) (rs qs : List Record) (bs ds : List ℕ) → (t : Children (Subtree sizes x limit level) cs rs bs) → Under test sizes x limit ts qs ds
    → Under test sizes x limit (tops_of level cs ++ ts) (rs ++ qs) (children_over (Subtree sizes x limit level) (subtree_over test sizes x limit level) cs rs bs t ++ ds)
under_tops test sizes x limit level [] ts rs qs bs ds t u = subst (λ (z : List Record). Under test sizes x limit ts (z ++ qs) ds) (sym t.0) u
under_tops test sizes x limit level (c ∷ cs) ts rs qs bs ds t u =
    let T = Subtree sizes x limit level in
    let rest = children_over T (subtree_over test sizes x limit level) cs t.1 t.3 t.6 in
    (t.0, t.1 ++ qs, t.2, rest ++ ds, t.4, t.5, under_tops test sizes x limit level cs ts t.1 qs t.3 ds t.6 u, ap (λ z. z ++ qs) t.7 ∙ append_assoc t.0 t.1 qs, append_assoc (subtree_over test sizes x limit level c.block t.0 t.2 t.4) rest ds)

-- # The records of a leaf

-- records that rise from the first on
records_above : (p : ℕ) (rs : List Record) → RisesFrom 0 (places rs) → FirstAt (λ r. r.0) (λ q. p < q) rs → Above p rs
records_above p [] rises at = tt
records_above p (r ∷ rs) rises at = (at, rises_above p (place r.0 + 1) rs (omega (arith, at)) rises.1)

records_from : (p : ℕ) (rs : List Record) → RisesFrom 0 (places rs) → FirstAt (λ r. r.0) (λ q. p ≤ q) rs → AllByRecursion (λ (r : Record). p ≤ place r.0) rs
records_from p [] rises at = tt
records_from p (r ∷ rs) rises at =
    (at, each_so (λ (s : Record). place r.0 < place s.0) (λ (s : Record). p ≤ place s.0) (λ s lt. omega (arith, at, lt)) rs (rises_above (place r.0) (place r.0 + 1) rs (omega arith) rises.1))

-- the records that are kept, between the others
pub record RecordsCut (low high : ℕ) (kept rs : List Record) : Type 0 where
  pub before : List Record
  pub behind : List Record
  pub records : rs ≡ before ++ (kept ++ behind)
  pub below : Below low before
  pub above : Above high behind
  pub within : AllByRecursion (λ r. is_within low high r.0 ≡ true) kept

pub records_cut : (low high : ℕ) (rs kept : List Record) → CutsRecords low high rs kept → RisesFrom 0 (places rs) → RecordsCut low high kept rs
records_cut low high rs kept cuts rises =
    let back_rise = rises_back 0 cuts.before (kept ++ cuts.behind) (subst (λ (qs : List Record). RisesFrom 0 (places qs)) cuts.whole rises) in
    record {
      before = cuts.before;
      behind = cuts.behind;
      records = cuts.whole;
      below = cuts.below;
      above = records_above high cuts.behind (rises_back 0 kept cuts.behind back_rise) cuts.above;
      within = both_ends kept (each_front (λ (r : Record). low ≤ place r.0) kept cuts.behind (records_from low (kept ++ cuts.behind) back_rise cuts.reached)) cuts.within;
    }
  where
    both_ends : (qs : List Record) → AllByRecursion (λ r. low ≤ place r.0) qs → AllByRecursion (λ r. place r.0 ≤ high) qs → AllByRecursion (λ r. is_within low high r.0 ≡ true) qs
    both_ends [] least most = tt
    both_ends (q ∷ qs) least most =
        let p = place q.0 in
        (and_from (nat_le low p) (nat_le p high) (le-leb low p least.0) (le-leb p high most.0), both_ends qs least.1 most.1)

-- what holds of all elements holds of those behind some of them, and of the first
each_drop : (P : Record → Type 0) (n : ℕ) (rs : List Record) → AllByRecursion P rs → AllByRecursion P (drop n rs)
each_drop P zero rs all = all
each_drop P (suc n) [] all = tt
each_drop P (suc n) (r ∷ rs) all = each_drop P n rs all.1

all_first : (P : ℕ → Type 0) (rs : List Record) → AllByRecursion (λ r. P (place r.0)) rs → FirstAt (λ r. r.0) P rs
all_first P [] all = tt
all_first P (r ∷ rs) all = all.0

-- the records of a leaf from one index to another, where those before it stand below a part, and those from the other on above it
module _ (low high first end : ℕ) (rs : List Record) (rises : RisesFrom 0 (places rs)) (from : CutAt first (λ p. p < low) (λ p. low ≤ p) rs) (to : CutAt end (λ p. p ≤ high) (λ p. high < p) rs) where
  above_end : Above high (drop end rs)
  above_end =
      let whole = subst (λ (qs : List Record). RisesFrom 0 (places qs)) (sym (take-append-drop end rs)) rises in
      records_above high (drop end rs) (rises_back 0 (take end rs) (drop end rs) whole) to.first

  none_between : end ≤ first → CutsRecords low high rs []
  none_between le =
      let far : end + (first - end) ≡ first = omega (arith, le) in
      let same : drop (first - end) (drop end rs) ≡ drop first rs = drop-drop (first - end) end rs ∙ ap (λ n. drop n rs) far in
      record {
        before = take first rs;
        behind = drop first rs;
        whole = sym (take-append-drop first rs);
        below = from.before;
        reached = from.first;
        within = tt;
        above = all_first (λ p. high < p) (drop first rs) (subst (Above high) same (each_drop (λ r. high < place r.0) (first - end) (drop end rs) above_end));
      }

  some_between : first ≤ end → CutsRecords low high rs (take (end - first) (drop first rs))
  some_between le =
      let kept = take (end - first) (drop first rs) in
      let far : first + (end - first) ≡ end = omega (arith, le) in
      let rest : kept ++ drop end rs ≡ drop first rs = ap (λ (qs : List Record). kept ++ qs) (sym (drop-drop (end - first) first rs ∙ ap (λ n. drop n rs) far)) ∙ take-append-drop (end - first) (drop first rs) in
      let front : take end rs ≡ take first rs ++ kept = ap (λ n. take n rs) (sym far) ∙ take-add first (end - first) rs in
      record {
        before = take first rs;
        behind = drop end rs;
        whole = sym (take-append-drop first rs) ∙ ap (λ (qs : List Record). take first rs ++ qs) (sym rest);
        below = from.before;
        reached = subst (FirstAt (λ (r : Record). r.0) (λ p. low ≤ p)) (sym rest) from.first;
        within = each_back (λ (r : Record). place r.0 ≤ high) (take first rs) kept (subst (AllByRecursion (λ (r : Record). place r.0 ≤ high)) front to.before);
        above = to.first;
      }

  pub cut_between : (many : ℕ) → many ≡ max end first → CutsRecords low high rs (take (many - first) (drop first rs))
  cut_between many is = elim (cases_lt end first) [
    | inl lt ↦
        let none : 0 ≡ many - first = omega (arith, is, lt) in
        subst (λ n. CutsRecords low high rs (take n (drop first rs))) none (none_between (omega (arith, lt)))
    | inr le ↦
        let same : end ≡ many = omega (arith, is, le) in
        subst (λ n. CutsRecords low high rs (take (n - first) (drop first rs))) same (some_between le)
  ]
