-- Records under the children of an inner block, given one child after another: what is left of them, and how many reads they cost.
use Rattle.std.proofs.Common.{◌≡◌, inl, inr, ℕ, suc, ◌+◌, ◌<◌, ◌≤◌, Bool, true, List, [], ◌∷◌, ◌++◌, length, get_or, drop, Result, Ok, Err, refl, sym, ap, ◌∙◌, subst, arith, append_assoc, append-nil, length-append}
use Rattle.std.proofs.lemmas.Bool.{cases_lt}
use Rattle.std.proofs.lemmas.List.{drop_more, drop_all}
use Rattle.vm_types.specs.declared.key.Key.{Key}
use Rattle.vm_types.specs.Places.{RisesFrom, place, places}
use Rattle.vm_disk.specs.Disk.{Contents, DiskState, Medium}
use Rattle.vm_disk.proofs.MomentLemmas.{same_medium}
use Rattle.vm_block.specs.Leaf.{BeginsWith, Record}
use Rattle.vm_block.specs.declared.node.Child.{Child}
use Rattle.vm_tree.specs.Answers.{Lists}
use Rattle.vm_tree.specs.Calls.{OnlyLists}
use Rattle.vm_tree.specs.Given.{AddsUnder}
use Rattle.vm_tree.specs.Over.{children_over, subtree_over}
use Rattle.vm_tree.specs.Spent.{AllPass, ReadsUnder, reads_aside}
use Rattle.vm_tree.specs.Tree.{Sizes, Children, Subtree}
use Rattle.vm_tree.specs.Windows.{GivesNone, MayGive, given_of}
use Rattle.vm_tree.specs.declared.faults.ListFault.{ListFault}
use Rattle.vm_tree.specs.declared.window.Window.{Window}
use Rattle.vm_tree.proofs.Looking.{looks_on}
use Rattle.vm_tree.proofs.OverLemmas.{aside_few, aside_none, aside_some, first_aside}
use Rattle.vm_tree.proofs.Rising.{Below, rises_back, rises_before, rises_front}
use Rattle.vm_tree.proofs.ScanLemmas.{fault_lists}
use Rattle.vm_tree.proofs.WindowLemmas.{given_before, given_behind, given_full, given_nil, given_parts, pass_back, pass_front}

-- records that begin with a key, behind others: these are below the key
below_begins : (low : ℕ) (xs ys : List Record) (key : Key) → BeginsWith key ys → RisesFrom low (places (xs ++ ys)) → Below (place key) xs
below_begins low xs [] key begins rises = absurd begins
below_begins low xs (y ∷ ys) key begins rises = subst (λ k. Below (place k) xs) begins (rises_before low xs y ys rises)

-- and where others begin with a key, that key is below this one
lower_begins : (xs : List Record) (key : Key) (p : ℕ) → BeginsWith key xs → Below p xs → place key < p
lower_begins [] key p begins below = absurd begins
lower_begins (x ∷ xs) key p begins below = omega (arith, ap place begins, below.0)

begins_on : (key : Key) (xs ys : List Record) → BeginsWith key xs → BeginsWith key (xs ++ ys)
begins_on key [] ys begins = absurd begins
begins_on key (x ∷ xs) ys begins = begins

-- what lies under a child, and behind it what lies under the next
next_begins : (T : ℕ → List Record → List ℕ → Type 0) (c : Child) (cs : List Child) (rs : List Record) (bs : List ℕ) → Children T (c ∷ cs) rs bs → BeginsWith c.low rs
next_begins T c cs rs bs t = subst (BeginsWith c.low) (sym t.7) (begins_on c.low t.0 t.1 t.5)

module _ (sizes : Sizes) (x : Contents) (limit k : ℕ) (w : Window) (all : List Child) (rs : List Record) (under : List ℕ) (tree : Children (Subtree sizes x limit k) all rs under) (before : List Record) (start : ℕ) where
  -- what is under the first i children was gone through, and so many reads made
  pub record ChildrenLeft (i : ℕ) (now : List Record) (reads : ℕ) : Type 0 where
    pub left : List Child
    pub back : List Record
    pub right : List ℕ
    pub left_is : left ≡ drop i all
    pub ahead : Children (Subtree sizes x limit k) left back right
    pub rising : RisesFrom 0 (places back)
    pub given : List Record
    pub now_is : now ≡ before ++ given
    pub due : given_of w (length before) rs ≡ given ++ given_of w (length now) back
    pub paid : (test : ℕ → Bool) → AllPass test (given_of w (length before) rs)
        → reads + (length (children_over (Subtree sizes x limit k) (subtree_over test sizes x limit k) left back right ahead) + first_aside (place w.low) k left)
        ≤ start + (length (children_over (Subtree sizes x limit k) (subtree_over test sizes x limit k) all rs under tree) + first_aside (place w.low) k all)

  -- the next child, what lies under it, and what comes then
  pub record ChildNext (i : ℕ) (d : Child) (now : List Record) (reads : ℕ) : Type 0 where
    pub child : Child
    pub sub : List Record
    pub own : List ℕ
    pub subtree : Subtree sizes x limit k child.block sub own
    pub child_is : child ≡ get_or all i d
    pub begins : BeginsWith child.low sub
    pub rising : RisesFrom 0 (places sub)
    pub passed : GivesNone w (length now) all i → ChildrenLeft (i + 1) now reads
    pub taken : (more : List Record) (later : ℕ) → MayGive w (length now) all i → more ≡ now ++ given_of w (length now) sub
        → ((test : ℕ → Bool) → AllPass test (given_of w (length now) sub) → later ≤ reads + (length (subtree_over test sizes x limit k child.block sub own subtree) + reads_aside (place w.low) k child.low))
        → ChildrenLeft (i + 1) more later
    pub bound : (later : ℕ) → ((test : ℕ → Bool) → AllPass test (given_of w (length now) sub) → later ≤ reads + (length (subtree_over test sizes x limit k child.block sub own subtree) + reads_aside (place w.low) k child.low))
        → (test : ℕ → Bool) → AllPass test (given_of w (length before) rs)
        → later ≤ start + (length (children_over (Subtree sizes x limit k) (subtree_over test sizes x limit k) all rs under tree) + first_aside (place w.low) k all)

  module _ (i : ℕ) (d : Child) (now : List Record) (reads : ℕ) (c : Child) (left : List Child) (back : List Record) (right : List ℕ) (given : List Record) (is : c ∷ left ≡ drop i all) (lt : i < length all)
      (ahead : Children (Subtree sizes x limit k) (c ∷ left) back right) (rising : RisesFrom 0 (places back)) (now_is : now ≡ before ++ given) (due : given_of w (length before) rs ≡ given ++ given_of w (length now) back) where
    here_is : c ∷ left ≡ get_or all i d ∷ drop (i + 1) all
    here_is = is ∙ drop_more all i d lt

    c_is : c ≡ get_or all i d
    c_is = ap (λ (cs : List Child). get_or cs 0 d) here_is

    left_is : left ≡ drop (i + 1) all
    left_is = ap (λ (cs : List Child). drop 1 cs) here_is

    whole_rises : RisesFrom 0 (places (ahead.0 ++ ahead.1))
    whole_rises = subst (λ (qs : List Record). RisesFrom 0 (places qs)) ahead.7 rising

    sub_rises : RisesFrom 0 (places ahead.0)
    sub_rises = rises_front 0 ahead.0 ahead.1 whole_rises

    rest_rises : RisesFrom 0 (places ahead.1)
    rest_rises = rises_back 0 ahead.0 ahead.1 whole_rises

    -- what is due, by this child and the others
    due_parts : given_of w (length before) rs ≡ given ++ (given_of w (length now) ahead.0 ++ given_of w (length now + length (given_of w (length now) ahead.0)) ahead.1)
    due_parts = due ∙ ap (λ (qs : List Record). given ++ given_of w (length now) qs) ahead.7 ∙ ap (λ (qs : List Record). given ++ qs) (given_parts w (length now) ahead.0 ahead.1)

    -- where another child comes, it begins above all that is under this one
    next_above : (e : Child) (es : List Child) → left ≡ e ∷ es → Below (place e.low) ahead.0
    next_above e es more =
        let next = subst (λ (cs : List Child). Children (Subtree sizes x limit k) cs ahead.1 ahead.3) more ahead.6 in
        below_begins 0 ahead.0 ahead.1 e.low (next_begins (Subtree sizes x limit k) e es ahead.1 ahead.3 next) whole_rises

    aside_falls : (ds : List Child) → left ≡ ds → first_aside (place w.low) k ds ≤ reads_aside (place w.low) k c.low
    aside_falls [] more = omega arith
    aside_falls (e ∷ es) more =
        let lower = lower_begins ahead.0 c.low (place e.low) ahead.5 (next_above e es more) in
        elim (cases_lt (place c.low) (place w.low)) [
          | inl below ↦ omega (arith, aside_few (place w.low) k e.low, aside_some (place w.low) k c.low below)
          | inr le ↦ omega (arith, aside_none (place w.low) k e.low (omega (arith, le, lower)))
        ]

    -- the child at i + 1, if there is one
    next_at : (e : Child) (es : List Child) → left ≡ e ∷ es → (i + 1 < length all) × (get_or all (i + 1) d ≡ e)
    next_at e es more =
        let there : e ∷ es ≡ drop (i + 1) all = sym more ∙ left_is in
        let within = some_left (i + 1) all (ap (λ (cs : List Child). length cs) there) in
        (within, sym (ap (λ (cs : List Child). get_or cs 0 d) (there ∙ drop_more all (i + 1) d within)))
      where
        some_left : (n : ℕ) (cs : List Child) → length (e ∷ es) ≡ length (drop n cs) → n < length cs
        some_left n cs many =
            elim (cases_lt n (length cs)) [
              | inl lt ↦ lt
              | inr le ↦ let none : suc (length es) ≡ 0 = many ∙ ap (λ (ds : List Child). length ds) (drop_all n cs le) in absurd (omega (arith, none))
            ]

    none_left : (ds : List Child) → left ≡ ds → i + 1 < length all → (e : Child) × (es : List Child) × (left ≡ e ∷ es)
    none_left [] more within =
        let none : 0 ≡ suc (length (drop (i + 1 + 1) all)) = ap (λ (cs : List Child). length cs) (sym more ∙ left_is ∙ drop_more all (i + 1) d within) in
        absurd (omega (arith, none))
    none_left (e ∷ es) more within = (e, es, more)

    -- where none is given under this child, what is due is due of the others
    rest_alone : given_of w (length now) ahead.0 ≡ [] → given_of w (length now) back ≡ given_of w (length now) ahead.1
    rest_alone none =
        let same : length now + 0 ≡ length now = omega arith in
        ap (given_of w (length now)) ahead.7 ∙ given_parts w (length now) ahead.0 ahead.1
        ∙ ap (λ (qs : List Record). qs ++ given_of w (length now + length qs) ahead.1) none ∙ ap (λ n. given_of w n ahead.1) same

    sub_given_none : GivesNone w (length now) all i → given_of w (length now) back ≡ given_of w (length now) ahead.1
    sub_given_none (inl full) = given_full w (length now) back full ∙ sym (given_full w (length now) ahead.1 full)
    sub_given_none (inr (inl above)) =
        let high = subst (λ (e : Child). place w.high < place e.low) (sym c_is) (above d) in
        rest_alone (given_behind w (length now) c.low ahead.0 ahead.5 sub_rises high)
    sub_given_none (inr (inr next)) =
        let more = none_left left refl next.0 in
        let at = next_at more.0 more.1 more.2 in
        let low = subst (λ (e : Child). place e.low ≤ place w.low) at.1 (next.1 d) in
        rest_alone (given_before w (length now) (place more.0.low) ahead.0 (next_above more.0 more.1 more.2) low)

    -- where some may be given, the next child begins in the part
    aside_last : MayGive w (length now) all i → (ds : List Child) → left ≡ ds → first_aside (place w.low) k ds ≡ 0
    aside_last may [] more = refl
    aside_last may (e ∷ es) more =
        let at = next_at e es more in
        let above = subst (λ (f : Child). place w.low < place f.low) at.1 (may.last at.0 d) in
        aside_none (place w.low) k e.low (omega (arith, above))

    module _ (paid : (test : ℕ → Bool) → AllPass test (given_of w (length before) rs)
        → reads + (length (children_over (Subtree sizes x limit k) (subtree_over test sizes x limit k) (c ∷ left) back right ahead) + first_aside (place w.low) k (c ∷ left))
        ≤ start + (length (children_over (Subtree sizes x limit k) (subtree_over test sizes x limit k) all rs under tree) + first_aside (place w.low) k all)) where
      child_next : ChildNext i d now reads
      child_next =
          let T = Subtree sizes x limit k in
          let first_over : (ℕ → Bool) → List ℕ = λ test. subtree_over test sizes x limit k c.block ahead.0 ahead.2 ahead.4 in
          let rest_over : (ℕ → Bool) → List ℕ = λ test. children_over T (subtree_over test sizes x limit k) left ahead.1 ahead.3 ahead.6 in
          let passes : (test : ℕ → Bool) → AllPass test (given_of w (length before) rs) → AllPass test (given_of w (length now) ahead.0) = λ test pass.
          pass_front test (given_of w (length now) ahead.0) (given_of w (length now + length (given_of w (length now) ahead.0)) ahead.1)
          (pass_back test given (given_of w (length now) ahead.0 ++ given_of w (length now + length (given_of w (length now) ahead.0)) ahead.1) (subst (AllPass test) due_parts pass)) in
          record {
            child = c;
            sub = ahead.0;
            own = ahead.2;
            subtree = ahead.4;
            child_is = c_is;
            begins = ahead.5;
            rising = sub_rises;
            passed = λ none. record {
              left = left;
              back = ahead.1;
              right = ahead.3;
              left_is = left_is;
              ahead = ahead.6;
              rising = rest_rises;
              given = given;
              now_is = now_is;
              due = due ∙ ap (λ (qs : List Record). given ++ qs) (sub_given_none none);
              paid = λ test pass. omega (arith, paid test pass, length-append (first_over test) (rest_over test), aside_falls left refl);
            };
            taken = λ more later may more_is few.
                let many : length now + length (given_of w (length now) ahead.0) ≡ length more = omega (arith, ap (λ (qs : List Record). length qs) more_is, length-append now (given_of w (length now) ahead.0)) in
                record {
                  left = left;
                  back = ahead.1;
                  right = ahead.3;
                  left_is = left_is;
                  ahead = ahead.6;
                  rising = rest_rises;
                  given = given ++ given_of w (length now) ahead.0;
                  now_is = more_is ∙ ap (λ (qs : List Record). qs ++ given_of w (length now) ahead.0) now_is ∙ append_assoc before given (given_of w (length now) ahead.0);
                  due =
                      due_parts ∙ sym (append_assoc given (given_of w (length now) ahead.0) (given_of w (length now + length (given_of w (length now) ahead.0)) ahead.1))
                      ∙ ap (λ n. (given ++ given_of w (length now) ahead.0) ++ given_of w n ahead.1) many;
                  paid = λ test pass. omega (arith, paid test pass, length-append (first_over test) (rest_over test), few test (passes test pass), aside_last may left refl);
                };
            bound = λ later few test pass. omega (arith, paid test pass, length-append (first_over test) (rest_over test), few test (passes test pass));
          }

  next_child : (i : ℕ) (d : Child) (now : List Record) (reads : ℕ) (left : List Child) (back : List Record) (right : List ℕ) (given : List Record) → left ≡ drop i all → i < length all
      → (ahead : Children (Subtree sizes x limit k) left back right) → RisesFrom 0 (places back) → now ≡ before ++ given → given_of w (length before) rs ≡ given ++ given_of w (length now) back
      → ((test : ℕ → Bool) → AllPass test (given_of w (length before) rs)
      → reads + (length (children_over (Subtree sizes x limit k) (subtree_over test sizes x limit k) left back right ahead) + first_aside (place w.low) k left)
      ≤ start + (length (children_over (Subtree sizes x limit k) (subtree_over test sizes x limit k) all rs under tree) + first_aside (place w.low) k all))
      → ChildNext i d now reads
  next_child i d now reads [] back right given is lt ahead rising now_is due paid =
      let none : 0 ≡ suc (length (drop (i + 1) all)) = ap (λ (cs : List Child). length cs) (is ∙ drop_more all i d lt) in
      absurd (omega (arith, none))
  next_child i d now reads (c ∷ left) back right given is lt ahead rising now_is due paid =
      child_next i d now reads c left back right given is lt ahead rising now_is due paid

  pub child_there : (i : ℕ) (d : Child) (now : List Record) (reads : ℕ) → ChildrenLeft i now reads → i < length all → ChildNext i d now reads
  child_there i d now reads l lt = next_child i d now reads l.left l.back l.right l.given l.left_is lt l.ahead l.rising l.now_is l.due l.paid

  -- before the first child
  pub children_begin : RisesFrom 0 (places rs) → (reads : ℕ) → reads ≤ start → ChildrenLeft 0 before reads
  children_begin rises reads few = record {
    left = all;
    back = rs;
    right = under;
    left_is = refl;
    ahead = tree;
    rising = rises;
    given = [];
    now_is = sym (append-nil before);
    due = refl;
    paid = λ test pass. omega (arith, few);
  }

  children_none : (left : List Child) (back : List Record) (right : List ℕ) → left ≡ [] → Children (Subtree sizes x limit k) left back right → back ≡ []
  children_none [] back right is ahead = ahead.0
  children_none (c ∷ left) back right is ahead = cc

  -- past the last one
  pub children_end : (i : ℕ) (now : List Record) (reads : ℕ) → ChildrenLeft i now reads → length all ≤ i
      → (now ≡ before ++ given_of w (length before) rs)
      × ((test : ℕ → Bool) → AllPass test (given_of w (length before) rs) → reads ≤ start + (length (children_over (Subtree sizes x limit k) (subtree_over test sizes x limit k) all rs under tree) + first_aside (place w.low) k all))
  children_end i now reads l le =
      let none = children_none l.left l.back l.right (l.left_is ∙ drop_all i all le) l.ahead in
      let whole : given_of w (length before) rs ≡ l.given = l.due ∙ ap (λ (qs : List Record). l.given ++ qs) (given_nil w (length now) l.back none) ∙ append-nil l.given in
      (l.now_is ∙ ap (λ (qs : List Record). before ++ qs) (sym whole), λ test pass. omega (arith, l.paid test pass))

-- so far what is under the first i of these children, k levels above the leaves, was gone through, by reads alone
pub record Scans (old new : DiskState) (limit k : ℕ) (w : Window) (all : List Child) (i : ℕ) (before now : List Record) : Type 0 where
  pub looks : OnlyLists {T = Unit {0}} (Ok tt) old new
  pub left : new.honest ≡ true → (sizes : Sizes) (x : Contents) → old.now.contents ≡ x → (rs : List Record) (under : List ℕ) → (tree : Children (Subtree sizes x limit k) all rs under) → RisesFrom 0 (places rs)
      → ChildrenLeft sizes x limit k w all rs under tree before old.reads i now new.reads

module _ (old mid : DiskState) (limit k : ℕ) (w : Window) (all : List Child) (i : ℕ) (before now : List Record) (d : Child) (so_far : Scans old mid limit k w all i before now) (lt : i < length all) where
  module _ (honest : mid.honest ≡ true) (sizes : Sizes) (x : Contents) (same : old.now.contents ≡ x) (rs : List Record) (under : List ℕ) (tree : Children (Subtree sizes x limit k) all rs under) (rises : RisesFrom 0 (places rs)) where
    pub next_there : ChildNext sizes x limit k w all rs under tree before old.reads i d now mid.reads
    next_there = child_there sizes x limit k w all rs under tree before old.reads i d now mid.reads (so_far.left honest sizes x same rs under tree rises) lt

    pub still_there : mid.now.contents ≡ x
    still_there = ap (λ (m : Medium). m.contents) (same_medium old mid (so_far.looks.reads honest)) ∙ same

    -- what is said of the child at i is said of what lies under it
    pub child_added : {T : Type 0} (result : Result T ListFault) (new : DiskState) (more : List Record) → new.honest ≡ true → AddsUnder result mid new limit k (get_or all i d) w now more
        → Lists result (λ _. more ≡ now ++ given_of w (length now) next_there.sub)
    child_added result new more after adds =
        let next = next_there in
        let adds_it = subst (λ (c : Child). AddsUnder result mid new limit k c w now more) (sym next.child_is) adds in
        adds_it after sizes x still_there next.sub next.own next.subtree next.begins next.rising

    pub child_read : (new : DiskState) → new.honest ≡ true → MayGive w (length now) all i → ReadsUnder mid new limit k (get_or all i d) w (length now)
        → (test : ℕ → Bool) → AllPass test (given_of w (length now) next_there.sub)
        → new.reads ≤ mid.reads + (length (subtree_over test sizes x limit k next_there.child.block next_there.sub next_there.own next_there.subtree) + reads_aside (place w.low) k next_there.child.low)
    child_read new after may reads =
        let next = next_there in
        let reads_it = subst (λ (c : Child). ReadsUnder mid new limit k c w (length now)) (sym next.child_is) reads in
        let reached = subst (λ (c : Child). place c.low ≤ place w.high) (sym next.child_is) (may.reached d) in
        reads_it after sizes x still_there next.sub next.own next.subtree next.begins next.rising may.more reached

  pub scans_passed : GivesNone w (length now) all i → Scans old mid limit k w all (i + 1) before now
  scans_passed none = record {
    looks = so_far.looks;
    left = λ honest sizes x same rs under tree rises. (next_there honest sizes x same rs under tree rises).passed none;
  }

  pub scans_more : (new : DiskState) (more : List Record) → MayGive w (length now) all i → OnlyLists {T = Unit {0}} (Ok tt) mid new → AddsUnder {T = Unit {0}} (Ok tt) mid new limit k (get_or all i d) w now more
      → ReadsUnder mid new limit k (get_or all i d) w (length now) → Scans old new limit k w all (i + 1) before more
  scans_more new more may looks adds reads = record {
    looks = looks_on so_far.looks looks (λ is. is);
    left = λ honest sizes x same rs under tree rises.
        let back = looks.goes.earlier honest in
        (next_there back sizes x same rs under tree rises).taken more new.reads may
        (child_added back sizes x same rs under tree rises {T = Unit {0}} (Ok tt) new more honest adds)
        (child_read back sizes x same rs under tree rises new honest may reads);
  }

  -- a child that fails
  child_fails : {U : Type 0} (e : ListFault) (new : DiskState) (more : List Record) (Q : U → Type 0) → new.honest ≡ true → mid.honest ≡ true → AddsUnder {T = U} (Err e) mid new limit k (get_or all i d) w now more
      → (sizes : Sizes) (x : Contents) → old.now.contents ≡ x → (rs : List Record) (under : List ℕ) → Children (Subtree sizes x limit k) all rs under → RisesFrom 0 (places rs) → Lists (Err e) Q
  child_fails {U} e new more Q honest back adds sizes x same rs under tree rises =
      fault_lists {T = U} e (λ _. more ≡ now ++ given_of w (length now) (next_there back sizes x same rs under tree rises).sub) Q
      (child_added back sizes x same rs under tree rises {T = U} (Err e) new more honest adds)

  child_bound : (new : DiskState) → new.honest ≡ true → mid.honest ≡ true → MayGive w (length now) all i → ReadsUnder mid new limit k (get_or all i d) w (length now)
      → (sizes : Sizes) (x : Contents) → old.now.contents ≡ x → (rs : List Record) (under : List ℕ) → (tree : Children (Subtree sizes x limit k) all rs under) → RisesFrom 0 (places rs)
      → (test : ℕ → Bool) → AllPass test (given_of w (length before) rs)
      → new.reads ≤ old.reads + (length (children_over (Subtree sizes x limit k) (subtree_over test sizes x limit k) all rs under tree) + first_aside (place w.low) k all)
  child_bound new honest back may reads sizes x same rs under tree rises =
      (next_there back sizes x same rs under tree rises).bound new.reads (child_read back sizes x same rs under tree rises new honest may reads)

-- # The same of children that were read

module _ (sizes : Sizes) (x : Contents) (old mid : DiskState) (limit k : ℕ) (w : Window) (all cs : List Child) (read : all ≡ cs) (i : ℕ) (before now : List Record) (so_far : Scans old mid limit k w all i before now)
    (same : old.now.contents ≡ x) (rs : List Record) (under : List ℕ) (tree : Children (Subtree sizes x limit k) cs rs under) (rises : RisesFrom 0 (places rs)) where
  scans_in : Scans old mid limit k w cs i before now
  scans_in = subst (λ (ds : List Child). Scans old mid limit k w ds i before now) read so_far

  -- past the last one
  pub scans_end : length all ≤ i → mid.honest ≡ true
      → (now ≡ before ++ given_of w (length before) rs)
      × ((test : ℕ → Bool) → AllPass test (given_of w (length before) rs) → mid.reads ≤ old.reads + (length (children_over (Subtree sizes x limit k) (subtree_over test sizes x limit k) cs rs under tree) + first_aside (place w.low) k cs))
  scans_end le honest =
      children_end sizes x limit k w cs rs under tree before old.reads i now mid.reads (scans_in.left honest sizes x same rs under tree rises) (omega (arith, le, ap (λ (ds : List Child). length ds) read))

  module _ (d : Child) (lt : i < length all) (new : DiskState) (honest : new.honest ≡ true) (back : mid.honest ≡ true) where
    within : i < length cs
    within = omega (arith, lt, ap (λ (ds : List Child). length ds) read)

    pub child_failed : {U : Type 0} (e : ListFault) (more : List Record) (Q : U → Type 0) → AddsUnder {T = U} (Err e) mid new limit k (get_or all i d) w now more → Lists (Err e) Q
    child_failed {U} e more Q adds =
        child_fails old mid limit k w cs i before now d scans_in within {U = U} e new more Q honest back
        (subst (λ (ds : List Child). AddsUnder {T = U} (Err e) mid new limit k (get_or ds i d) w now more) read adds) sizes x same rs under tree rises

    pub child_bounded : MayGive w (length now) all i → ReadsUnder mid new limit k (get_or all i d) w (length now) → (test : ℕ → Bool) → AllPass test (given_of w (length before) rs)
        → new.reads ≤ old.reads + (length (children_over (Subtree sizes x limit k) (subtree_over test sizes x limit k) cs rs under tree) + first_aside (place w.low) k cs)
    child_bounded may reads test pass =
        child_bound old mid limit k w cs i before now d scans_in within new honest back (subst (λ (ds : List Child). MayGive w (length now) ds i) read may)
        (subst (λ (ds : List Child). ReadsUnder mid new limit k (get_or ds i d) w (length now)) read reads) sizes x same rs under tree rises test pass
