-- Marks on the blocks of trees: how they grow, and that what lies under a marked block is marked.
use Rattle.std.proofs.Common.{◌≡◌, ◌⊎◌, inl, inr, ℕ, zero, suc, ◌+◌, ◌-◌, ◌<◌, ◌≤◌, Bool, true, false, List, [], ◌∷◌, ◌++◌, length, get_or, take, replicate, Result, Ok, Err, refl, sym, ap, ◌∙◌, subst, arith}
use Rattle.std.specs.Prelude.{slice_set, Contains, IsOk, OnOk, ⊤}
use Rattle.std.specs.List.{AllByRecursion}
use Rattle.std.proofs.lemmas.Bool.{cases_eq, false≢true, false_from_ne_true}
use Rattle.std.proofs.lemmas.List.{take_all}
use Rattle.std.proofs.lemmas.List.Elements.{Contains-append_left, Contains-append_right, Contains-append_cases}
use Rattle.vm_disk.specs.Disk.{Contents, block, Medium}
use Rattle.vm_alloc.specs.Held.{HoldsMore}
use Rattle.vm_alloc.specs.Marks.{IsMarked, is_marked}
use Rattle.vm_alloc.proofs.HeldLemmas.{holds_same, holds_more_then, taken_holds_more, taken_is_held, others_as_before, free_new, mark_same, unmarked_less}
use Rattle.vm_block.specs.Leaf.{Record}
use Rattle.vm_block.specs.Node.{IsNode}
use Rattle.vm_block.specs.declared.node.Child.{Child}
use Rattle.vm_block.proofs.EachLemmas.{each_so, each_join}
use Rattle.vm_block.proofs.FormLemmas.{leaf_or_node}
use Rattle.vm_block.proofs.NodeLemmas.{node_one}
use Rattle.vm_tree.specs.Tree.{Sizes, IsData, Children, Subtree}
use Rattle.vm_tree.proofs.TreeLemmas.{node_opens}
use Rattle.vm_tree.specs.BlockReads.{IsNodeAt}
use Rattle.vm_check.specs.Marks.{Joined, MarksMore, MarksOnly, ClosedTo, unmarked}
use Rattle.vm_check.specs.Form.{OkUnlessDevice}
use Rattle.vm_tree.specs.Answers.{OkOrDevice}
use Rattle.vm_tree.specs.declared.faults.TreeFault.{TreeFault}
use Rattle.vm_check.proofs.JoinLemmas.{LastOf, last_of, joined_front}

-- what holds of each element holds of one of them
pub each_of : {X : Type 0} (P : X → Type 0) (xs : List X) (x : X) → AllByRecursion P xs → Contains xs x → P x
each_of P [] x all (k, inside, is) = absurd (omega arith)
each_of P (y ∷ xs) x all (zero, inside, is) = subst P is all.0
each_of P (y ∷ xs) x all (suc k, inside, is) = each_of P xs x all.1 (k, omega arith, is)

-- an element is the first one, or one of the others
pub first_or_other : (b : ℕ) (bs : List ℕ) (n : ℕ) → Contains (b ∷ bs) n → (b ≡ n) ⊎ Contains bs n
first_or_other b bs n (zero, inside, is) = inl is
first_or_other b bs n (suc k, inside, is) = inr (k, omega arith, is)

pub is_first : (b : ℕ) (bs : List ℕ) → Contains (b ∷ bs) b
is_first b bs = (0, omega arith, refl)

pub is_other : (b : ℕ) (bs : List ℕ) (n : ℕ) → Contains bs n → Contains (b ∷ bs) n
is_other b bs n at = Contains-append_right (b ∷ []) bs n at

none_of : (bs : List ℕ) (n : ℕ) → bs ≡ [] → Contains bs n → ⊥
none_of bs n none (k, inside, is) = omega (arith, ap length none)

-- # How marks grow

-- where the blocks are marked already
pub same_more : (bs : List ℕ) (marks : List Bool) → AllByRecursion (IsMarked marks) bs → MarksMore bs marks marks
same_more bs marks all = record { grows = holds_same marks; each = all; only = λ n is. inl is }

pub first_more : (b : ℕ) (marks : List Bool) → b < length marks → MarksMore (b ∷ []) marks (slice_set marks b true)
first_more b marks inside = record {
  grows = taken_holds_more marks b;
  each = (taken_is_held marks b inside, tt);
  only = λ n is. elim (cases_eq n b) [
    | inl same ↦ inr (0, omega arith, sym same)
    | inr other ↦ inl (sym (others_as_before marks b n other) ∙ is)
  ];
}

pub more_then : (bs cs : List ℕ) (a b c : List Bool) → MarksMore bs a b → MarksMore cs b c → MarksMore (bs ++ cs) a c
more_then bs cs a b c first then = record {
  grows = holds_more_then a b c first.grows then.grows;
  each = each_join (IsMarked c) bs cs (each_so (IsMarked b) (IsMarked c) then.grows.still bs first.each) then.each;
  only = λ n is. later n (then.only n is);
}
  where
    earlier : (n : ℕ) → IsMarked a n ⊎ Contains bs n → IsMarked a n ⊎ Contains (bs ++ cs) n
    earlier n (inl is) = inl is
    earlier n (inr at) = inr (Contains-append_left bs cs n at)

    later : (n : ℕ) → IsMarked b n ⊎ Contains cs n → IsMarked a n ⊎ Contains (bs ++ cs) n
    later n (inl is) = earlier n (first.only n is)
    later n (inr at) = inr (Contains-append_right bs cs n at)

-- # The blocks of a tree

-- the children of each inner block among these are among them
pub record Sealed (x : Contents) (bs : List ℕ) : Type 0 where
  pub sealed : (n level : ℕ) (cs : List Child) → Contains bs n → IsNode (block x n) level cs → AllByRecursion (λ c. Contains bs c.block) cs

pub sealed_join : (x : Contents) (bs ds : List ℕ) → Sealed x bs → Sealed x ds → Sealed x (bs ++ ds)
sealed_join x bs ds a b = record { sealed = λ n level cs at node. by_part n level cs node (Contains-append_cases bs ds n at) }
  where
    by_part : (n level : ℕ) (cs : List Child) → IsNode (block x n) level cs → Contains bs n ⊎ Contains ds n → AllByRecursion (λ c. Contains (bs ++ ds) c.block) cs
    by_part n level cs node (inl at) =
        each_so (λ (c : Child). Contains bs c.block) (λ (c : Child). Contains (bs ++ ds) c.block) (λ c in_it. Contains-append_left bs ds c.block in_it) cs (a.sealed n level cs at node)
    by_part n level cs node (inr at) =
        each_so (λ (c : Child). Contains ds c.block) (λ (c : Child). Contains (bs ++ ds) c.block) (λ c in_it. Contains-append_right bs ds c.block in_it) cs (b.sealed n level cs at node)

pub none_sealed : (x : Contents) → Sealed x []
none_sealed x = record { sealed = λ n level cs at node. absurd (none_of [] n refl at) }

children_within : (T : ℕ → List Record → List ℕ → Type 0) → ((b : ℕ) (rs : List Record) (bs : List ℕ) → T b rs bs → Contains bs b)
    → (cs : List Child) (rs : List Record) (bs : List ℕ) → Children T cs rs bs → AllByRecursion (λ c. Contains bs c.block) cs
children_within T so [] rs bs t = tt
children_within T so (c ∷ cs) rs bs t =
    let whole = sym t.8 in (
      subst (λ (ds : List ℕ). Contains ds c.block) whole (Contains-append_left t.2 t.3 c.block (so c.block t.0 t.2 t.4)),
      each_so (λ (d : Child). Contains t.3 d.block) (λ (d : Child). Contains bs d.block)
          (λ d at. subst (λ (ds : List ℕ). Contains ds d.block) whole (Contains-append_right t.2 t.3 d.block at)) cs (children_within T so cs t.1 t.3 t.6),
    )

children_sealed : (x : Contents) (T : ℕ → List Record → List ℕ → Type 0) → ((b : ℕ) (rs : List Record) (bs : List ℕ) → T b rs bs → Sealed x bs)
    → (cs : List Child) (rs : List Record) (bs : List ℕ) → Children T cs rs bs → Sealed x bs
children_sealed x T so [] rs bs t = subst (Sealed x) (sym t.1) (none_sealed x)
children_sealed x T so (c ∷ cs) rs bs t =
    subst (Sealed x) (sym t.8) (sealed_join x t.2 t.3 (so c.block t.0 t.2 t.4) (children_sealed x T so cs t.1 t.3 t.6))

-- the top of a subtree is one of its blocks
pub top_within : (sizes : Sizes) (x : Contents) (limit l b : ℕ) (rs : List Record) (bs : List ℕ) → Subtree sizes x limit l b rs bs → Contains bs b
unfolding Subtree
top_within sizes x limit zero b rs bs t = subst (λ (ds : List ℕ). Contains ds b) (sym t.2) (is_first b [])
top_within sizes x limit (suc l) b rs bs t = subst (λ (ds : List ℕ). Contains ds b) (sym t.6) (is_first b t.2)

pub subtree_sealed : (sizes : Sizes) (x : Contents) (limit l b : ℕ) (rs : List Record) (bs : List ℕ) → Subtree sizes x limit l b rs bs → Sealed x bs
unfolding Subtree
subtree_sealed sizes x limit zero b rs bs t = subst (Sealed x) (sym t.2) record { sealed = λ n level cs at node. leaf_alone n level cs node (first_or_other b [] n at) }
  where
    leaf_alone : (n level : ℕ) (cs : List Child) → IsNode (block x n) level cs → (b ≡ n) ⊎ Contains [] n → AllByRecursion (λ c. Contains (b ∷ []) c.block) cs
    leaf_alone n level cs node (inl same) = absurd (leaf_or_node (block x b) rs level cs t.1 (subst (λ k. IsNode (block x k) level cs) (sym same) node))
    leaf_alone n level cs node (inr at) = absurd (none_of [] n refl at)
subtree_sealed sizes x limit (suc l) b rs bs t =
    let below = children_sealed x (Subtree sizes x limit l) (subtree_sealed sizes x limit l) t.1 rs t.2 t.5 in
    let within = children_within (Subtree sizes x limit l) (top_within sizes x limit l) t.1 rs t.2 t.5 in
    subst (Sealed x) (sym t.6) record { sealed = λ n level cs at node. top_or_below below within n level cs node (first_or_other b t.2 n at) }
  where
    more : (cs : List Child) → AllByRecursion (λ c. Contains t.2 c.block) cs → AllByRecursion (λ c. Contains (b ∷ t.2) c.block) cs
    more cs all = each_so (λ (c : Child). Contains t.2 c.block) (λ (c : Child). Contains (b ∷ t.2) c.block) (λ c at. is_other b t.2 c.block at) cs all

    top_or_below : Sealed x t.2 → AllByRecursion (λ c. Contains t.2 c.block) t.1 → (n level : ℕ) (cs : List Child) → IsNode (block x n) level cs → (b ≡ n) ⊎ Contains t.2 n → AllByRecursion (λ c. Contains (b ∷ t.2) c.block) cs
    top_or_below below within n level cs node (inl same) =
        let one = node_one (block x b) (suc l) level t.1 cs t.3 (subst (λ k. IsNode (block x k) level cs) (sym same) node) in
        more cs (subst (AllByRecursion (λ (c : Child). Contains t.2 c.block)) one.1 within)
    top_or_below below within n level cs node (inr at) = more cs (below.sealed n level cs at node)

-- # Marks that are closed

pub closed_more : (x : Contents) (most : ℕ) (bs : List ℕ) (old new : List Bool) → Sealed x bs → ClosedTo x most old → MarksMore bs old new → ClosedTo x most new
closed_more x most bs old new whole closed more = record { closed = λ n level cs is le node. by_case n level cs le node (more.only n is) }
  where
    by_case : (n level : ℕ) (cs : List Child) → level ≤ most → IsNode (block x n) level cs → IsMarked old n ⊎ Contains bs n → AllByRecursion (λ c. IsMarked new c.block) cs
    by_case n level cs le node (inl is) =
        each_so (λ (c : Child). IsMarked old c.block) (λ (c : Child). IsMarked new c.block) (λ c was. more.grows.still c.block was) cs (closed.closed n level cs is le node)
    by_case n level cs le node (inr at) =
        each_so (λ (c : Child). Contains bs c.block) (λ (c : Child). IsMarked new c.block) (λ c in_it. each_of (IsMarked new) bs c.block more.each in_it) cs (whole.sealed n level cs at node)

-- the marks while the blocks under an inner block are marked
pub closed_first : (x : Contents) (level k b : ℕ) (ds : List Child) (marks : List Bool) → b < length marks → k < level → IsNode (block x b) level ds
    → ClosedTo x level marks → ClosedTo x k (slice_set marks b true)
closed_first x level k b ds marks inside below node closed = record { closed = λ n l cs is le other. by_case n l cs le other is (cases_eq n b) }
  where
    by_case : (n l : ℕ) (cs : List Child) → l ≤ k → IsNode (block x n) l cs → IsMarked (slice_set marks b true) n → (n ≡ b) ⊎ (n ≡ b → ⊥) → AllByRecursion (λ c. IsMarked (slice_set marks b true) c.block) cs
    by_case n l cs le other is (inl same) =
        let one = node_one (block x b) level l ds cs node (subst (λ m. IsNode (block x m) l cs) same other) in absurd (omega (arith, one.0))
    by_case n l cs le other is (inr apart) =
        each_so (λ (c : Child). IsMarked marks c.block) (λ (c : Child). IsMarked (slice_set marks b true) c.block) (λ c was. (taken_holds_more marks b).still c.block was) cs
        (closed.closed n l cs (sym (others_as_before marks b n apart) ∙ is) (omega arith) other)

children_marked : (marks : List Bool) (T : ℕ → List Record → List ℕ → Type 0) → ((b : ℕ) (rs : List Record) (bs : List ℕ) → T b rs bs → IsMarked marks b → AllByRecursion (IsMarked marks) bs)
    → (cs : List Child) (rs : List Record) (bs : List ℕ) → Children T cs rs bs → AllByRecursion (λ c. IsMarked marks c.block) cs → AllByRecursion (IsMarked marks) bs
children_marked marks T so [] rs bs t all = subst (AllByRecursion (IsMarked marks)) (sym t.1) tt
children_marked marks T so (c ∷ cs) rs bs t all =
    subst (AllByRecursion (IsMarked marks)) (sym t.8)
    (each_join (IsMarked marks) t.2 t.3 (so c.block t.0 t.2 t.4 all.0) (children_marked marks T so cs t.1 t.3 t.6 all.1))

-- where marks are closed, what lies under a marked block is marked
pub under_marked : (sizes : Sizes) (x : Contents) (limit most : ℕ) (marks : List Bool) → ClosedTo x most marks → (l b : ℕ) (rs : List Record) (bs : List ℕ) → l ≤ most
    → Subtree sizes x limit l b rs bs → IsMarked marks b → AllByRecursion (IsMarked marks) bs
unfolding Subtree
under_marked sizes x limit most marks closed zero b rs bs le t is =
    subst (AllByRecursion (IsMarked marks)) (sym t.2) (is, tt)
under_marked sizes x limit most marks closed (suc l) b rs bs le t is =
    subst (AllByRecursion (IsMarked marks)) (sym t.6) (
      is,
      children_marked marks (Subtree sizes x limit l) (λ c qs ds sub marked. under_marked sizes x limit most marks closed l c qs ds (omega arith) sub marked) t.1 rs t.2 t.5
          (closed.closed b (suc l) t.1 is le t.3),
    )

-- a data block that was not marked is one less that is not
pub set_less : (marks first : List Bool) (b limit : ℕ) → first ≡ slice_set marks b true → length marks ≡ limit → IsData limit b → (IsMarked marks b → ⊥) → unmarked marks ≡ unmarked first + 1
set_less marks first b limit set many data_block not_yet =
    unmarked_less 34 marks b data_block.0 (omega (arith, data_block.1, many)) (false_from_ne_true (is_marked marks b) not_yet) ∙ ap (λ (z : List Bool). unmarked z + 1) (sym set)

-- a data block that is marked leaves no more that are not
pub set_fewer : (marks first : List Bool) (b limit : ℕ) → first ≡ slice_set marks b true → length marks ≡ limit → IsData limit b → unmarked first ≤ unmarked marks
set_fewer marks first b limit set many data_block = by_case (is_marked marks b) refl
  where
    by_case : (m : Bool) → is_marked marks b ≡ m → unmarked first ≤ unmarked marks
    by_case true is = omega (arith, ap (λ (z : List Bool). unmarked z) (set ∙ mark_same marks b is))
    by_case false is = omega (arith, set_less marks first b limit set many data_block (λ yes. false≢true (sym is ∙ yes)))

-- where no block is marked, all the data blocks are counted
pub all_unmarked : (blocks : ℕ) → 34 ≤ blocks → unmarked (replicate blocks false) + 34 ≡ blocks
all_unmarked blocks enough = omega (arith, free_new 34 blocks enough)

-- # The children of an inner block, one after another

-- the blocks of the subtree under a child
abbrev pub IsBelow : Sizes → Contents → ℕ → ℕ → Child → List ℕ → Type 0
IsBelow sizes x limit l c own = (sub : List Record) × Subtree sizes x limit l c.block sub own

module _ (sizes : Sizes) (limit l : ℕ) where
  children_joined : (x : Contents) (cs : List Child) (rs : List Record) (bs : List ℕ) → Children (Subtree sizes x limit l) cs rs bs → Joined (IsBelow sizes x limit l) cs bs
  children_joined x [] rs bs t = t.1
  children_joined x (c ∷ cs) rs bs t = (t.2, t.3, (t.0, t.4), children_joined x cs t.1 t.3 t.6, t.8)

  joined_sealed : (x : Contents) (cs : List Child) (bs : List ℕ) → Joined (IsBelow sizes x limit l) cs bs → Sealed x bs
  joined_sealed x [] bs t = subst (Sealed x) (sym t) (none_sealed x)
  joined_sealed x (c ∷ cs) bs t =
      subst (Sealed x) (sym t.4) (sealed_join x t.0 t.1 (subtree_sealed sizes x limit l c.block t.2.0 t.0 t.2.1) (joined_sealed x cs t.1 t.3))

  -- the marks so far, where those of the first i children were made
  abbrev pub MarkedSoFar : Contents → List Child → ℕ → List Bool → List Bool → Type 0
  MarkedSoFar x cs i first now = (bs : List ℕ) → Joined (IsBelow sizes x limit l) (take i cs) bs → ClosedTo x l first → MarksMore bs first now

  -- what a call for one child needs
  pub record ChildAt (x : Contents) (cs : List Child) (i : ℕ) (d : Child) (bs : List ℕ) (first now : List Bool) : Type 0 where
    pub last : LastOf (IsBelow sizes x limit l) cs i d bs
    pub so_far : MarksMore last.before first now
    pub closed : ClosedTo x l now

  child_at : (x : Contents) (cs : List Child) (i : ℕ) (d : Child) (bs : List ℕ) (first now : List Bool) → i < length cs → Joined (IsBelow sizes x limit l) (take (i + 1) cs) bs → ClosedTo x l first
      → MarkedSoFar x cs i first now → ChildAt x cs i d bs first now
  child_at x cs i d bs first now lt joined closed before =
      let s = last_of (IsBelow sizes x limit l) cs i d bs lt joined in
      let more = before s.before s.front closed in
      record { last = s; so_far = more; closed = closed_more x l s.before first now (joined_sealed x (take i cs) s.before s.front) closed more }

  child_below : (old mid : Medium) (cs : List Child) (i : ℕ) (d : Child) (rs : List Record) (ds : List ℕ) → mid ≡ old → get_or cs i d ≡ d → Subtree sizes old.contents limit l (get_or cs i d).block rs ds → Subtree sizes mid.contents limit l d.block rs ds
  child_below old mid cs i d rs ds same is sub =
      subst (λ (m : Medium). Subtree sizes m.contents limit l d.block rs ds) (sym same) (subst (λ (e : Child). Subtree sizes old.contents limit l e.block rs ds) is sub)

  -- one child more
  pub child_more : (old mid : Medium) (cs : List Child) (i : ℕ) (d : Child) (first now new : List Bool) → mid ≡ old → i < length cs → get_or cs i d ≡ d → MarkedSoFar old.contents cs i first now
      → ((rs : List Record) (ds : List ℕ) → Subtree sizes mid.contents limit l d.block rs ds → ClosedTo mid.contents l now → MarksMore ds now new)
      → MarkedSoFar old.contents cs (i + 1) first new
  child_more old mid cs i d first now new same lt is before step bs joined closed =
      let at = child_at old.contents cs i d bs first now lt joined closed before in
      let s = at.last in
      let sub = child_below old mid cs i d s.last.0 s.own same is s.last.1 in
      let here = subst (λ (m : Medium). ClosedTo m.contents l now) (sym same) at.closed in
      subst (λ (ds : List ℕ). MarksMore ds first new) (sym s.blocks) (more_then s.before s.own first now new at.so_far (step s.last.0 s.own sub here))

  -- a fault under a child
  pub child_fault : (old mid : Medium) (cs : List Child) (i : ℕ) (d : Child) (first now : List Bool) (F : Type 0) → mid ≡ old → i < length cs → get_or cs i d ≡ d → MarkedSoFar old.contents cs i first now
      → ((rs : List Record) (ds : List ℕ) → Subtree sizes mid.contents limit l d.block rs ds → ClosedTo mid.contents l now → F)
      → (bs : List ℕ) → Joined (IsBelow sizes old.contents limit l) cs bs → ClosedTo old.contents l first → F
  child_fault old mid cs i d first now F same lt is before step bs joined closed =
      let front = joined_front (IsBelow sizes old.contents limit l) cs (i + 1) bs joined in
      let at = child_at old.contents cs i d front.0 first now lt front.1 closed before in
      let s = at.last in
      step s.last.0 s.own (child_below old mid cs i d s.last.0 s.own same is s.last.1) (subst (λ (m : Medium). ClosedTo m.contents l now) (sym same) at.closed)

-- bytes that are the same have the same children
pub same_children : (bytes now : List ℕ) (level : ℕ) (cs ds : List Child) → now ≡ bytes → IsNode now level cs → IsNode bytes level ds → cs ≡ ds
same_children bytes now level cs ds same a b = (node_one bytes level level cs ds (subst (λ (z : List ℕ). IsNode z level cs) same a) b).1

-- an inner block of a tree that was read
pub record NodeStart (sizes : Sizes) (x : Contents) (limit level b : ℕ) (bs : List ℕ) (cs : List Child) : Type 0 where
  pub under : List ℕ
  pub first : bs ≡ b ∷ under
  pub node : IsNode (block x b) level cs
  pub joined : Joined (IsBelow sizes x limit (level - 1)) cs under

pub node_start : (sizes : Sizes) (x : Contents) (limit level b : ℕ) (rs : List Record) (bs : List ℕ) (cs : List Child) → 0 < level → Subtree sizes x limit level b rs bs
    → ((ds : List Child) → IsNodeAt x limit level b ds → cs ≡ ds) → NodeStart sizes x limit level b bs cs
node_start sizes x limit level b rs bs cs above tree only =
    let up : suc (level - 1) ≡ level = omega arith in
    let at = node_opens sizes x limit level (level - 1) b rs bs (sym up) tree in
    let node = subst (λ n. IsNode (block x b) n at.children) up at.node in
    let same = only at.children (record { inside = at.place; node = node }) in
    record {
      under = at.under;
      first = at.first;
      node = subst (λ (ds : List Child). IsNode (block x b) level ds) (sym same) node;
      joined = subst (λ (ds : List Child). Joined (IsBelow sizes x limit (level - 1)) ds at.under) (sym same) (children_joined sizes limit (level - 1) x at.children rs at.under at.below);
    }

-- an inner block that was marked, and all under it
pub node_marked : (sizes : Sizes) (x : Contents) (limit level b i : ℕ) (bs : List ℕ) (cs : List Child) (marks first new : List Bool) → b < length marks → first ≡ slice_set marks b true → 0 < level → length cs ≤ i
    → NodeStart sizes x limit level b bs cs → ClosedTo x level marks → MarkedSoFar sizes limit (level - 1) x cs i first new → MarksMore bs marks new
node_marked sizes x limit level b i bs cs marks first new inside is above all start closed done =
    let more : MarksMore (b ∷ []) marks first = subst (λ (z : List Bool). MarksMore (b ∷ []) marks z) (sym is) (first_more b marks inside) in
    let here : ClosedTo x (level - 1) first = subst (ClosedTo x (level - 1)) (sym is) (closed_first x level (level - 1) b cs marks inside (omega arith) start.node closed) in
    let whole = subst (λ (ds : List Child). Joined (IsBelow sizes x limit (level - 1)) ds start.under) (sym (take_all i cs all)) start.joined in
    subst (λ (ds : List ℕ). MarksMore ds marks new) (sym start.first) (more_then (b ∷ []) start.under marks first new more (done start.under whole here))

-- a leaf for which a mark was made
pub leaf_marked : (result : Result ⊤ TreeFault) (b : ℕ) (bs : List ℕ) (marks later : List Bool) → bs ≡ b ∷ [] → IsOk result → HoldsMore marks later → OnOk result (IsMarked later b) → MarksOnly (b ∷ []) marks later → OkOrDevice result (λ done. MarksMore bs marks later)
leaf_marked (Ok x) b bs marks later is fine grows here only = subst (λ (ds : List ℕ). MarksMore ds marks later) (sym is) (record { grows = grows; each = (here, tt); only = only })
leaf_marked (Err fault) b bs marks later is fine grows here only = absurd (false≢true fine)

pub ok_fine : (result : Result ⊤ TreeFault) → IsOk result → OkUnlessDevice result
ok_fine (Ok x) fine = tt
ok_fine (Err fault) fine = absurd (false≢true fine)

-- a fault under an inner block
pub node_fault : (sizes : Sizes) (old mid : Medium) (limit level b i : ℕ) (bs : List ℕ) (cs : List Child) (d : Child) (marks first now : List Bool) (F : Type 0) → mid ≡ old → b < length marks → first ≡ slice_set marks b true
    → 0 < level → i < length cs → get_or cs i d ≡ d → NodeStart sizes old.contents limit level b bs cs → ClosedTo old.contents level marks → MarkedSoFar sizes limit (level - 1) old.contents cs i first now
    → ((rs : List Record) (ds : List ℕ) → Subtree sizes mid.contents limit (level - 1) d.block rs ds → ClosedTo mid.contents (level - 1) now → F) → F
node_fault sizes old mid limit level b i bs cs d marks first now F same inside is above lt at start closed done step =
    let here : ClosedTo old.contents (level - 1) first = subst (ClosedTo old.contents (level - 1)) (sym is) (closed_first old.contents level (level - 1) b cs marks inside (omega arith) start.node closed) in
    child_fault sizes limit (level - 1) old mid cs i d first now F same lt at done step start.under start.joined here
