-- What a Put under a block answers, from what it answers under the chosen child.
use Rattle.std.proofs.Common.{◌≡◌, ◌⊎◌, inl, inr, ℕ, nat_lt, cond, Option, ◌+◌, ◌-◌, ◌<◌, ◌≤◌, Bool, List, [], ◌∷◌, ◌++◌, length, get_or, take, drop, Result, Ok, Err, refl, sym, ap, ◌∙◌, subst, arith, length-append, length-drop, length-take-le, take-append-drop}
use Rattle.std.specs.Prelude.{◌^◌, IfSome, IsSomeAnd, slice_index_or}
use Rattle.std.proofs.lemmas.Bool.{cases_lt, le-ltb, lt-ltb}
use Rattle.std.proofs.lemmas.List.{drop_more}
use Rattle.vm_types.specs.Places.{place, RisesFrom, places, value_at, with_record}
use Rattle.vm_disk.specs.Disk.{Contents, block, Medium}
use Rattle.vm_alloc.specs.Held.{HoldsMore}
use Rattle.vm_block.specs.Leaf.{Record, BeginsWith}
use Rattle.vm_block.specs.Node.{IsNode, lows}
use Rattle.vm_block.specs.Way.{IsChosen, Lowest}
use Rattle.vm_block.specs.declared.node.Child.{Child}
use Rattle.vm_block.proofs.NodeLemmas.{node_one}
use Rattle.vm_tree.specs.Tree.{Sizes, IsData, Subtree}
use Rattle.vm_tree.specs.FullPath.{GrowsBy}
use Rattle.vm_tree.specs.Insertion.{HasAsLong}
use Rattle.vm_tree.specs.Splits.{Made, PutsBelow, children_of, extra, grown}
use Rattle.vm_tree.specs.BlockReads.{IsNodeAt}
use Rattle.vm_tree.specs.declared.faults.TreeFault.{TreeFault}
use Rattle.vm_tree.specs.declared.faults.TreeFault.TheVariants.{Device, Damaged}
use Rattle.vm_tree.specs.declared.faults.PutFault.{PutFault}
use Rattle.vm_tree.specs.declared.faults.PutFault.TheVariants as put
use Rattle.vm_tree.specs.declared.block_writes.Copied.{Copied}
use Rattle.vm_tree.specs.declared.block_writes.Copied.TheVariants.{One, Two, Three}
use Rattle.vm_tree.specs.Replacement.{IsRenewed, KeepsOwn, Replaces, without_own}
use Rattle.vm_tree.proofs.Descent.{opens}
use Rattle.vm_tree.proofs.Framing.{Frames, opened, renews}
use Rattle.vm_tree.proofs.FullPaths.{grows_few, node_grows}
use Rattle.vm_tree.proofs.Growing.{lowest_low, made_moved, node_made}
use Rattle.vm_tree.proofs.Placing.{with_rises}
use Rattle.vm_tree.proofs.Rising.{value_between, with_between}

-- the device failed
pub device_below : (e : TreeFault) (room : ℕ) (grows : ℕ → Type 0) (P : List Child → Type 0) → e ≡ Device → PutsBelow (Err (put.Tree e)) room grows P
device_below Device room grows P is = tt
device_below (Damaged b) room grows P is = cc

-- a fault is passed on
pub fault_below : (e : PutFault) (room above : ℕ) (grows goes : ℕ → Type 0) (P Q : List Child → Type 0) → PutsBelow (Err e) room grows P → (e ≡ put.Deep → (more : ℕ) → room < more → grows more → (most : ℕ) × (above < most) × goes most) → PutsBelow (Err e) above goes Q
fault_below (put.Tree Device) room above grows goes P Q fault so = tt
fault_below (put.Tree (Damaged b)) room above grows goes P Q fault so = fault
fault_below put.Deep room above grows goes P Q fault so = so refl fault.0 fault.1 fault.2

-- what follows from what was answered
pub below_so : (result : Result Copied PutFault) (room : ℕ) (grows goes : ℕ → Type 0) (P Q : List Child → Type 0) → PutsBelow result room grows P → ((more : ℕ) → grows more → goes more) → ((cs : List Child) → P cs → Q cs) → PutsBelow result room goes Q
below_so (Ok copied) room grows goes P Q given so then = (then (children_of copied) given.0, so (extra copied) given.1)
below_so (Err (put.Tree Device)) room grows goes P Q given so then = tt
below_so (Err (put.Tree (Damaged b))) room grows goes P Q given so then = given
below_so (Err put.Deep) room grows goes P Q given so then = (given.0, given.1, so given.0 given.2)

-- by how many blocks an inner block grows, by a test
pub grown_test : (most n : ℕ) → grown most n ≡ cond (nat_lt most n) 1 0
grown_test most n = by_count (cases_lt most n)
  where
    by_count : (most < n) ⊎ (n ≤ most) → grown most n ≡ cond (nat_lt most n) 1 0
    by_count (inl over) = let one : grown most n ≡ 1 = omega arith in one ∙ sym (ap (λ t. cond t 1 0) (lt-ltb most n over))
    by_count (inr few) = let none : grown most n ≡ 0 = omega arith in none ∙ sym (ap (λ t. cond t 1 0) (le-ltb most n few))

-- an inner block has no other children
pub only_one : (x : Contents) (limit level b most : ℕ) (cs : List Child) → IsNodeAt x limit level b cs → (ds : List Child) → IsNodeAt x limit level b ds → length ds ≤ most → cs ≡ ds
only_one x limit level b most cs at ds other few = (node_one (block x b) level level cs ds at.node other.node).1

pub count_of : (copied : Copied) → length (children_of copied) ≡ 1 + extra copied
count_of (One c) = refl
count_of (Two c d) = refl
count_of (Three c d e) = refl

-- how many children there are then
pub replaced_length : (cs now : List Child) (i : ℕ) → i < length cs → length (take i cs ++ (now ++ drop (i + 1) cs)) + 1 ≡ length cs + length now
replaced_length cs now i lt =
    omega (arith, length-append (take i cs) (now ++ drop (i + 1) cs), length-append now (drop (i + 1) cs), length-take-le i cs (omega arith), length-drop (i + 1) cs)

-- the chosen child in its own place
pub same_children : (cs : List Child) (i : ℕ) (d e : Child) → i < length cs → get_or cs i d ≡ e → take i cs ++ (e ∷ drop (i + 1) cs) ≡ cs
same_children cs i d e lt is =
    ap (λ (c : Child). take i cs ++ (c ∷ drop (i + 1) cs)) (sym is) ∙ ap (λ (ds : List Child). take i cs ++ ds) (sym (drop_more cs i d lt)) ∙ take-append-drop i cs

-- an inner block that is as it was over what was made
pub stands_made : (P Q : ℕ → Type 0) (sizes : Sizes) (y : Contents) (limit level b : ℕ) (cs : List Child) (top : Child) (rs : List Record) → ((n : ℕ) → P n → Q n) → IsNode (block y b) level cs → length cs ≤ sizes.fan → Lowest top.low cs → top.block ≡ b
    → IsData limit b → b < 2 ^ 32 → Q b → RisesFrom 0 (places rs) → Made P sizes y limit (level - 1) cs rs → Made Q sizes y limit level (top ∷ []) rs
stands_made P Q sizes y limit level b cs top rs so node few low here inside small is rises made =
    let key = lowest_low cs top top.low low in
    let same : record { low = (slice_index_or cs 0 top).low; block = b } ≡ top = (λ k. record { low = key k; block = sym here k }) in
    subst (λ (c : Child). Made Q sizes y limit level (c ∷ []) rs) same
    (node_made P Q sizes y y limit (λ n has. refl) so level b cs top rs node.above node.low node.some node.few few inside small is node.spelled rises made)

module _ (sizes : Sizes) (old mid : Medium) (limit level b : ℕ) (r : Record) (rs : List Record) (bs : List ℕ) (cs : List Child) (i : ℕ) (d : Child) (still : mid ≡ old) (above : 0 < level)
    (tree : Subtree sizes old.contents limit level b rs bs) (rises : RisesFrom 0 (places rs)) (only : (ds : List Child) → IsNodeAt old.contents limit level b ds → length ds ≤ sizes.fan → cs ≡ ds) (chosen : IsChosen (lows cs) (place r.0) i) where
  -- what is asked of a Put under the chosen child
  abbrev pub Asked : Result Copied PutFault → ℕ → (List Child → List Record → List ℕ → Type 0) → Type 0
  Asked result room M = (sub : List Record) (own : List ℕ) → Subtree sizes mid.contents limit (level - 1) (get_or cs i d).block sub own → BeginsWith (get_or cs i d).low sub → RisesFrom 0 (places sub)
      → PutsBelow result room (GrowsBy sizes mid.contents r (level - 1) (get_or cs i d).block) (λ ds. M ds (with_record r sub) own)

  -- what is answered of a child is asked where a descent takes that child
  pub asked_of : (c : Child) (result : Result Copied PutFault) (room : ℕ) (M : List Child → List Record → List ℕ → Type 0) → get_or cs i d ≡ c
      → ((sub : List Record) (own : List ℕ) → Subtree sizes mid.contents limit (level - 1) c.block sub own → BeginsWith c.low sub → RisesFrom 0 (places sub)
      → PutsBelow result room (GrowsBy sizes mid.contents r (level - 1) c.block) (λ ds. M ds (with_record r sub) own)) → Asked result room M
  asked_of c result room M is below =
      subst (λ (e : Child). (sub : List Record) (own : List ℕ) → Subtree sizes mid.contents limit (level - 1) e.block sub own → BeginsWith e.low sub → RisesFrom 0 (places sub)
      → PutsBelow result room (GrowsBy sizes mid.contents r (level - 1) e.block) (λ ds. M ds (with_record r sub) own)) (sym is) below

  -- where the records have the key, with a value that is not shorter, those under the chosen child have it
  pub there_below : (c : Child) (A : Type 0) → get_or cs i d ≡ c → HasAsLong r rs
      → ((sub : List Record) (own : List ℕ) → Subtree sizes mid.contents limit (level - 1) c.block sub own → BeginsWith c.low sub → RisesFrom 0 (places sub) → HasAsLong r sub → A) → A
  there_below c A is there below =
      let p = place r.0 in
      let at = opens sizes old.contents limit level b p rs bs cs i d above tree rises only chosen in
      let s = at.way.split in
      let child = subst (λ (m : Medium). Subtree sizes m.contents limit (level - 1) (get_or cs i d).block s.sub s.own) (sym still) s.child in
      let value = ap (value_at p) s.records ∙ value_between p s.before s.sub s.after at.way.below at.way.above in
      below s.sub s.own (subst (λ (e : Child). Subtree sizes mid.contents limit (level - 1) e.block s.sub s.own) is child) (subst (λ (e : Child). BeginsWith e.low s.sub) is s.begins) at.way.rising
      (subst (λ (found : Option (List ℕ)). IsSomeAnd found (λ v. length r.1 ≤ length v)) value there)

  -- an inner block, with the chosen child written anew
  pub node_put : (before between later : List Bool) (own : Option ℕ) (x2 x3 : Contents) (other below_room room : ℕ) (copied : Copied) (lent : List Child) (done : Copied)
      → other ≡ limit → IfSome own (λ n. n ≡ b)
      → (e : Child) → get_or cs i d ≡ e → Frames sizes old mid limit level b (place r.0) rs bs cs i d still above tree rises only chosen e before x2
      → Asked (Ok copied) below_room (λ ds qs own. Replaces before between own (λ P. Made P sizes x2 limit (level - 1) ds qs))
      → HoldsMore before between
      → lent ≡ take i cs ++ (children_of copied ++ drop (i + 1) cs)
      → extra done ≡ cond (nat_lt sizes.fan (length cs + extra copied)) 1 0
      → ((keep : ℕ → Bool) (qs : List Record) → KeepsOwn own before keep → RisesFrom 0 (places qs) → Made (IsRenewed before between (without_own own keep)) sizes x2 other (level - 1) lent qs
      → Made (IsRenewed before later keep) sizes x3 other level (children_of done) qs)
      → PutsBelow (Ok done) room (GrowsBy sizes old.contents r level b) (λ ds. Replaces before later bs (λ P. Made P sizes x3 limit level ds (with_record r rs)))
  node_put before between later own x2 x3 other below_room room copied lent done limits mine e taken frames below more is grows made =
      let at = opened sizes old mid limit level b (place r.0) rs bs cs i d still above tree rises only chosen in
      let s = at.way.split in
      let child = subst (λ (m : Medium). Subtree sizes m.contents limit (level - 1) (get_or cs i d).block s.sub s.own) (sym still) s.child in
      let got = below s.sub s.own child s.begins at.way.rising in
      let here = subst (λ (m : Medium). GrowsBy sizes m.contents r (level - 1) (get_or cs i d).block (extra copied)) still got.1 in (
        λ keep all keeps.
            let now = renews sizes old mid limit level b (place r.0) rs bs cs i d still above tree rises only chosen before between own keep e x2 (children_of copied) (with_record r s.sub) mine taken frames more all keeps got.0 in
            let P = IsRenewed before between (without_own own keep) in
            let records = ap (with_record r) s.records ∙ with_between r s.before s.sub s.after at.way.below at.way.above in
            let whole = subst (λ (qs : List Record). Made P sizes x2 limit (level - 1) (take i cs ++ (children_of copied ++ drop (i + 1) cs)) qs) (sym records) now.1 in
            let asked = made_moved P P sizes x2 x2 limit other (level - 1) (λ n has. refl) (λ n has. has) limits (take i cs ++ (children_of copied ++ drop (i + 1) cs)) lent (with_record r rs) is whole in
            subst (λ n. Made (IsRenewed before later keep) sizes x3 n level (children_of done) (with_record r rs)) limits (made keep (with_record r rs) now.0 (with_rises r 0 rs (omega arith) rises) asked),
        node_grows sizes old.contents limit level b r rs bs cs i d above at chosen (extra copied) (extra done) here grows,
      )

  -- an inner block, where a fault came from below: Deep only where no block above has room, so that this one would become two
  pub node_fault : (M : List Child → List Record → List ℕ → Type 0) (Q : List Child → Type 0) (e : PutFault) (below_room room : ℕ) → Asked (Err e) below_room M
      → ((more : ℕ) → below_room < more → more ≤ 2 → (room ≡ 0) × (sizes.fan < length cs + more))
      → PutsBelow (Err e) room (GrowsBy sizes old.contents r level b) Q
  node_fault M Q e below_room room below full =
      let p = place r.0 in
      let at = opens sizes old.contents limit level b p rs bs cs i d above tree rises only chosen in
      let s = at.way.split in
      let c = (get_or cs i d).block in
      let child = subst (λ (m : Medium). Subtree sizes m.contents limit (level - 1) c s.sub s.own) (sym still) s.child in
      fault_below e below_room room (GrowsBy sizes mid.contents r (level - 1) c) (GrowsBy sizes old.contents r level b) (λ ds. M ds (with_record r s.sub) s.own) Q
      (below s.sub s.own child s.begins at.way.rising)
      (λ is more lt grows.
      let few = full more lt (grows_few sizes mid.contents r (level - 1) c more grows) in
      let here = subst (λ (m : Medium). GrowsBy sizes m.contents r (level - 1) c more) still grows in
      let one : 1 ≡ cond (nat_lt sizes.fan (length cs + more)) 1 0 = sym (ap (λ t. cond t 1 0) (lt-ltb sizes.fan (length cs + more) few.1)) in
      (1, omega (arith, few.0), node_grows sizes old.contents limit level b r rs bs cs i d above at chosen more 1 here one))
