-- Records and children in the bytes of blocks, one after another, and what two blocks share of them.
use Rattle.std.proofs.Common.{◌≡◌, ◌⊎◌, inl, inr, ℕ, zero, suc, ◌+◌, ◌-◌, ◌*◌, ◌<◌, ◌≤◌, subst, List, [], ◌∷◌, ◌++◌, length, get_or, take, drop, refl, sym, ap, ap₂, ◌∙◌, arith, append_assoc}
use Rattle.std.specs.List.{AllByRecursion}
use Rattle.std.proofs.Math.Seq.{drop-cons, take-add}
use Rattle.std.proofs.lemmas.List.{drop_at, drop-drop, take_at}
use Rattle.vm_types.specs.Places.{place}
use Rattle.vm_types.specs.declared.key.Key.{Key}
use Rattle.vm_block.specs.Bounds.{bound_of, bounds_of}
use Rattle.vm_block.specs.Leaf.{Record, bounds_from, size_of, values_of}
use Rattle.vm_block.specs.Node.{IsNode}
use Rattle.vm_block.specs.Padding.{zeros}
use Rattle.vm_block.specs.Row.{child_of, node_row}
use Rattle.vm_block.specs.declared.node.Child.{Child}
use Rattle.vm_block.proofs.LeafLemmas.{leaf_bounds, values_there}
use Rattle.vm_block.proofs.RowLemmas.{node_child}
use Rattle.vm_tree.specs.BlockReads.{IsLeafSize}
use Rattle.vm_diff.specs.Ahead.{PassedBoth}
use Rattle.vm_diff.specs.Cuts.{CutsChildren, FirstAt, SecondAt}
use Rattle.vm_diff.specs.Front.{first_of}
use Rattle.vm_diff.specs.Front.Front.{End, Pair}
use Rattle.vm_diff.specs.Rows.{AreSameRecords, IsLeafTo, children_from, records_from, records_of, records_with, rows_from}

module _ {X : Type 0} where
  rows_same : (f g : ℕ → X) (n i j : ℕ) → ((k : ℕ) → k < n → f (i + k) ≡ g (j + k)) → rows_from f i n ≡ rows_from g j n
  rows_same f g zero i j same = refl
  rows_same f g (suc n) i j same =
      let here : i + 0 ≡ i = omega arith in
      let there : j + 0 ≡ j = omega arith in
      let next : (k : ℕ) → k < n → f (suc i + k) ≡ g (suc j + k) = λ k lt.
      let a : suc i + k ≡ i + suc k = omega arith in
      let b : j + suc k ≡ suc j + k = omega arith in
      ap f a ∙ same (suc k) (omega arith) ∙ ap g b in
      ap₂ (λ x xs. x ∷ xs) (ap f (sym here) ∙ same 0 (omega arith) ∙ ap g there) (rows_same f g n (suc i) (suc j) next)

  rows_split : (f : ℕ → X) (n all i j m : ℕ) → all ≡ n + m → j ≡ i + n → rows_from f i all ≡ rows_from f i n ++ rows_from f j m
  rows_split f zero all i j m many far =
      let a : all ≡ m = omega arith in
      let b : i ≡ j = omega arith in
      ap (λ k. rows_from f i k) a ∙ ap (λ k. rows_from f k m) b
  rows_split f (suc n) zero i j m many far = absurd (omega arith)
  rows_split f (suc n) (suc all) i j m many far = ap (λ xs. f i ∷ xs) (rows_split f n all (suc i) j m (omega arith) (omega arith))

  rows_whole : (f : ℕ → X) (n i : ℕ) (xs : List X) → n ≡ length xs → ((k : ℕ) (d : X) → k < length xs → f (i + k) ≡ get_or xs k d) → rows_from f i n ≡ xs
  rows_whole f zero i [] many at = refl
  rows_whole f zero i (x ∷ xs) many at = absurd (omega arith)
  rows_whole f (suc n) i [] many at = absurd (omega arith)
  rows_whole f (suc n) i (x ∷ xs) many at =
      let here : i ≡ i + 0 = omega arith in
      let next : (k : ℕ) (d : X) → k < length xs → f (suc i + k) ≡ get_or xs k d = λ k d lt.
      let a : suc i + k ≡ i + suc k = omega arith in ap f a ∙ at (suc k) d (omega arith) in
      ap₂ (λ y ys. y ∷ ys) (ap f here ∙ at 0 x (omega arith)) (rows_whole f n (suc i) xs (omega arith) next)

  rows_past : (f : ℕ → X) (i n all : ℕ) → n + 1 ≡ all → rows_from f (i + 1) n ≡ drop 1 (rows_from f i all)
  rows_past f i n zero many = absurd (omega arith)
  rows_past f i n (suc all) many =
      let a : i + 1 ≡ suc i = omega arith in
      let b : n ≡ all = omega arith in
      ap₂ (rows_from f) a b

  rows_passed : (f g : ℕ → X) (i j all rest many more n : ℕ) → all ≡ n + rest → many ≡ n + more → ((k : ℕ) → k < n → f (i + k) ≡ g (j + k))
      → PassedBoth (rows_from f i all) (rows_from g j many) (rows_from f (i + n) rest) (rows_from g (j + n) more)
  rows_passed f g i j all rest many more n one other same = record {
    front = rows_from f i n;
    first = rows_split f n all i (i + n) rest one refl;
    second = rows_split g n many j (j + n) more other refl ∙ ap (λ xs. xs ++ rows_from g (j + n) more) (sym (rows_same f g n i j same));
  }

  rows_each : (P : X → Type 0) (f : ℕ → X) (n i : ℕ) → ((k : ℕ) → i ≤ k → k < i + n → P (f k)) → AllByRecursion P (rows_from f i n)
  rows_each P f zero i all = tt
  rows_each P f (suc n) i all = (all i (omega arith) (omega arith), rows_each P f n (suc i) (λ k le lt. all k (omega (arith, le)) (omega (arith, lt))))

  rows_none : (f : ℕ → X) (i n : ℕ) → n ≡ 0 → rows_from f i n ≡ []
  rows_none f i n none = ap (rows_from f i) none

  rows_some : (f : ℕ → X) (i n : ℕ) → 0 < n → rows_from f i n ≡ f i ∷ rows_from f (suc i) (n - 1)
  rows_some f i zero some = absurd (omega arith)
  rows_some f i (suc n) some = let same : n ≡ suc n - 1 = omega arith in ap (λ k. f i ∷ rows_from f (suc i) k) same

-- # Records

-- the records that were written are read
read_written : (from : ℕ) (rs : List Record) (entries tail : List ℕ) → bounds_of (length rs) entries ≡ bounds_from from rs → records_with (length rs) from entries (values_of rs ++ tail) ≡ rs
read_written from [] entries tail e = refl
read_written from (r ∷ rs) entries tail e =
    let key : (bound_of entries).key ≡ r.0 = ap (λ bs. (get_or bs 0 (bound_of [])).key) e in
    let end : (bound_of entries).end ≡ from + length r.1 = ap (λ bs. (get_or bs 0 (bound_of [])).end) e in
    let next = ap (λ bs. drop 1 bs) e in
    let vs : List ℕ = (r.1 ++ values_of rs) ++ tail in
    let n : from + length r.1 - from ≡ length r.1 = omega arith in
    let here : vs ≡ r.1 ++ (values_of rs ++ tail) = append_assoc r.1 (values_of rs) tail in
    let value : take (from + length r.1 - from) vs ≡ r.1 = ap₂ (λ k z. take k z) n here ∙ take_at r.1 (values_of rs ++ tail) (length r.1) refl in
    let rest : drop (from + length r.1 - from) vs ≡ values_of rs ++ tail = ap₂ (λ k z. drop k z) n here ∙ drop_at r.1 (values_of rs ++ tail) (length r.1) refl in
    ap₂ (λ (k : Key) m. (k, take (m - from) vs) ∷ records_with (length rs) m (drop 12 entries) (drop (m - from) vs)) key end
    ∙ ap₂ (λ (v ws : List ℕ). (r.0, v) ∷ records_with (length rs) (from + length r.1) (drop 12 entries) ws) value rest
    ∙ ap (λ (qs : List Record). r ∷ qs) (read_written (from + length r.1) rs (drop 12 entries) tail next)

-- what is read of a leaf are its records
pub records_whole : (len : ℕ) (bytes : List ℕ) (leaf : IsLeafSize bytes len) → records_of len bytes ≡ leaf.records
unfolding records_of
records_whole len bytes leaf =
    let rs = leaf.records in
    ap (λ n. records_with n 0 (drop 16 bytes) (drop (16 + 12 * n) bytes)) leaf.many
    ∙ ap (λ vs. records_with (length rs) 0 (drop 16 bytes) vs) (values_there bytes rs leaf.leaf)
    ∙ read_written 0 rs (drop 16 bytes) (zeros (4080 - size_of rs)) (leaf_bounds bytes rs leaf.leaf)

-- so many of them, from one on
pub records_part : (len : ℕ) (bytes : List ℕ) (i n : ℕ) (leaf : IsLeafSize bytes len) → take n (drop i (records_of len bytes)) ≡ take n (drop i leaf.records)
records_part len bytes i n leaf = ap (λ qs. take n (drop i qs)) (records_whole len bytes leaf)

-- none of records
pub part_none : (rs : List Record) (i n : ℕ) → n ≡ 0 → take n (drop i rs) ≡ []
part_none rs i n none = ap (λ k. take k (drop i rs)) none

-- so many of records, from one on, where there are any
pub part_some : (rs : List Record) (i n : ℕ) (d : Record) → 0 < n → i + n ≤ length rs → take n (drop i rs) ≡ get_or rs i d ∷ take (n - 1) (drop (i + 1) rs)
part_some rs i zero d some le = absurd (omega arith)
part_some rs i (suc n) d some le =
    let a : n ≡ suc n - 1 = omega arith in
    let b : suc i ≡ i + 1 = omega arith in
    ap (take (suc n)) (drop-cons rs i d (omega (arith, le))) ∙ ap₂ (λ k j. get_or rs i d ∷ take k (drop j rs)) a b

-- the first of them passed
pub part_past : (rs : List Record) (i n all : ℕ) → n + 1 ≡ all → take n (drop (i + 1) rs) ≡ drop 1 (take all (drop i rs))
part_past rs i n all many =
    ap (take n) (sym (drop-drop 1 i rs)) ∙ past n (drop i rs) ∙ ap (λ k. drop 1 (take k (drop i rs))) many
  where
    none_taken : (n : ℕ) → take {A = Record} n [] ≡ []
    none_taken zero = refl
    none_taken (suc n) = refl

    past : (n : ℕ) (ys : List Record) → take n (drop 1 ys) ≡ drop 1 (take (n + 1) ys)
    past n [] = let a : suc n ≡ n + 1 = omega arith in none_taken n ∙ ap (λ k. drop 1 (take k [])) a
    past n (y ∷ ys) = let a : suc n ≡ n + 1 = omega arith in ap (λ k. drop 1 (take k (y ∷ ys))) a

-- so many of two leaves' records are the same, where each is
parts_same : (rs qs : List Record) (i j n : ℕ) → i + n ≤ length rs → j + n ≤ length qs → ((k : ℕ) (d : Record) → k < n → get_or rs (i + k) d ≡ get_or qs (j + k) d) → take n (drop i rs) ≡ take n (drop j qs)
parts_same rs qs i j zero one other same = refl
parts_same rs qs i j (suc n) one other same =
    let d : Record = (record { table = 0; number = 0 }, []) in
    let here : i ≡ i + 0 = omega arith in
    let there : j + 0 ≡ j = omega arith in
    let first : get_or rs i d ≡ get_or qs j d = ap (λ k. get_or rs k d) here ∙ same 0 d (omega arith) ∙ ap (λ k. get_or qs k d) there in
    let next : (k : ℕ) (e : Record) → k < n → get_or rs (suc i + k) e ≡ get_or qs (suc j + k) e = λ k e lt.
    let a : suc i + k ≡ i + suc k = omega arith in
    let b : j + suc k ≡ suc j + k = omega arith in
    ap (λ m. get_or rs m e) a ∙ same (suc k) e (omega (arith, lt)) ∙ ap (λ m. get_or qs m e) b in
    ap (take (suc n)) (drop-cons rs i d (omega (arith, one)))
    ∙ ap₂ (λ r rest. r ∷ rest) first (parts_same rs qs (suc i) (suc j) n (omega (arith, one)) (omega (arith, other)) next)
    ∙ ap (take (suc n)) (sym (drop-cons qs j d (omega (arith, other))))

leaves_same : (k l : ℕ) (one other : List ℕ) (i j n count many : ℕ) → IsLeafTo k one count → IsLeafTo l other many → i + n ≤ count → j + n ≤ many → AreSameRecords one i other j n
    → take n (drop i (records_of k one)) ≡ take n (drop j (records_of l other))
leaves_same k l one other i j zero count many here there le most same = refl
leaves_same k l one other i j (suc n) count many here there le most same =
    let a = here.1 (omega (arith, le)) in
    let b = there.1 (omega (arith, most)) in
    ap (λ rs. take (suc n) (drop i rs)) (records_whole k one a)
    ∙ parts_same a.records b.records i j (suc n) (omega (arith, le, here.0, a.many)) (omega (arith, most, there.0, b.many))
    (λ m d lt. same m lt a.records b.records d a.leaf b.leaf (omega (arith, le, lt, here.0, a.many)) (omega (arith, most, lt, there.0, b.many)))
    ∙ ap (λ rs. take (suc n) (drop j rs)) (sym (records_whole l other b))

part_split : (rs : List Record) (i n all rest : ℕ) → all ≡ n + rest → take all (drop i rs) ≡ take n (drop i rs) ++ take rest (drop (i + n) rs)
part_split rs i n all rest many = ap (λ k. take k (drop i rs)) many ∙ take-add n rest (drop i rs) ∙ ap (λ ys. take n (drop i rs) ++ take rest ys) (drop-drop n i rs)

pub records_passed : (k l : ℕ) (one other : List ℕ) (i j all rest many more n : ℕ) → IsLeafTo k one (i + all) → IsLeafTo l other (j + many) → all ≡ n + rest → many ≡ n + more → AreSameRecords one i other j n
    → PassedBoth (records_from k one i all) (records_from l other j many) (records_from k one (i + n) rest) (records_from l other (j + n) more)
records_passed k l one other i j all rest many more n here there first second same = record {
  front = take n (drop i (records_of k one));
  first = part_split (records_of k one) i n all rest first;
  second =
      part_split (records_of l other) j n many more second
      ∙ ap (λ ys. ys ++ take more (drop (j + n) (records_of l other))) (sym (leaves_same k l one other i j n (i + all) (j + many) here there (omega (arith, first)) (omega (arith, second)) same));
}

-- what comes first of records is told by the first
pub first_pair : (r : Record) (rest now : List Record) (key : Key) (value : List ℕ) → r ∷ rest ≡ now → first_of now [] ≡ Pair key value → r.1 ≡ value
first_pair r rest now key value is first = let both : Pair r.0 r.1 ≡ Pair key value = ap (λ (rs : List Record). first_of rs []) is ∙ first in cc

pub none_first : (now : List Record) (key : Key) (value : List ℕ) → [] ≡ now → first_of now [] ≡ Pair key value → [] ≡ value
none_first now key value is first = let both : End ≡ Pair key value = ap (λ (rs : List Record). first_of rs []) is ∙ first in absurd cc

-- # Children

pub children_whole : (bytes : List ℕ) (level : ℕ) (cs : List Child) (n : ℕ) → IsNode bytes level cs → n ≡ length cs → children_from bytes 0 n ≡ cs
unfolding children_from
children_whole bytes level cs n node many =
    rows_whole (λ k. child_of (node_row bytes k)) n 0 cs many
    (λ k d lt. let a : 0 + k ≡ k = omega arith in ap (λ m. child_of (node_row bytes m)) a ∙ node_child bytes level cs k d node lt)

pub children_none : (bytes : List ℕ) (i n : ℕ) → n ≡ 0 → children_from bytes i n ≡ []
unfolding children_from
children_none bytes i n none = rows_none (λ k. child_of (node_row bytes k)) i n none

pub children_some : (bytes : List ℕ) (i n : ℕ) → 0 < n → children_from bytes i n ≡ child_of (node_row bytes i) ∷ children_from bytes (suc i) (n - 1)
unfolding children_from
children_some bytes i n some = rows_some (λ k. child_of (node_row bytes k)) i n some

pub children_past : (bytes : List ℕ) (i n all : ℕ) → n + 1 ≡ all → children_from bytes (i + 1) n ≡ drop 1 (children_from bytes i all)
unfolding children_from
children_past bytes i n all many = rows_past (λ k. child_of (node_row bytes k)) i n all many

pub children_count : (bytes : List ℕ) (n i : ℕ) → length (children_from bytes i n) ≡ n
unfolding children_from
children_count bytes zero i = refl
children_count bytes (suc n) i = let more = children_count bytes n (suc i) in omega (arith, more)

pub children_passed : (one other : List ℕ) (i j all rest many more n : ℕ) → all ≡ n + rest → many ≡ n + more → ((k : ℕ) → k < n → node_row one (i + k) ≡ node_row other (j + k))
    → PassedBoth (children_from one i all) (children_from other j many) (children_from one (i + n) rest) (children_from other (j + n) more)
unfolding children_from
children_passed one other i j all rest many more n first second same =
    rows_passed (λ k. child_of (node_row one k)) (λ k. child_of (node_row other k)) i j all rest many more n first second (λ k lt. ap child_of (same k lt))

-- # What of the rows of a block may lie in a part

-- rows in three
rows_in_three : {X : Type 0} (f : ℕ → X) (first end count : ℕ) → first ≤ end → end ≤ count
    → (rows_from f 0 count ≡ rows_from f 0 first ++ (rows_from f first (end - first) ++ rows_from f end (count - end))) × (rows_from f first (end - first) ++ rows_from f end (count - end) ≡ rows_from f first (count - first))
rows_in_three f first end count le few =
    let back = rows_split f (end - first) (count - first) first end (count - end) (omega (arith, le, few)) (omega (arith, le)) in
    (rows_split f first count 0 first (count - first) (omega (arith, le, few)) (omega arith) ∙ ap (λ xs. rows_from f 0 first ++ xs) back, sym back)

first_at : {X : Type 0} (key : X → Key) (P : ℕ → Type 0) (f : ℕ → X) (i n : ℕ) → (0 < n → P (place (key (f i)))) → FirstAt key P (rows_from f i n)
first_at key P f i zero at = tt
first_at key P f i (suc n) at = at (omega arith)

second_at : {X : Type 0} (key : X → Key) (P : ℕ → Type 0) (f : ℕ → X) (i n : ℕ) → (1 < n → P (place (key (f (suc i))))) → SecondAt key P (rows_from f i n)
second_at key P f i zero at = tt
second_at key P f i (suc n) at = first_at key P f (suc i) n (λ some. at (omega (arith, some)))

pub children_cuts : (low high : ℕ) (bytes : List ℕ) (first end count : ℕ) (cs : List Child) → cs ≡ children_from bytes 0 count → first ≤ end → end ≤ count
    → (0 < first → (first < count) × (place (child_of (node_row bytes first)).low ≤ low)) → (first + 1 < count → low < place (child_of (node_row bytes (first + 1))).low)
    → ((k : ℕ) → first ≤ k → k < end → place (child_of (node_row bytes k)).low ≤ high) → (end < count → high < place (child_of (node_row bytes end)).low)
    → CutsChildren low high cs (children_from bytes first (end - first))
unfolding children_from
children_cuts low high bytes first end count cs all le few passed next within above =
    let f : ℕ → Child = λ k. child_of (node_row bytes k) in
    let three = rows_in_three f first end count le few in
    record {
      before = rows_from f 0 first;
      behind = rows_from f end (count - end);
      whole = all ∙ three.0;
      passed = are_passed first passed three.1;
      reached = subst (SecondAt (λ (c : Child). c.low) (λ p. low < p)) (sym three.1) (second_at (λ (c : Child). c.low) (λ p. low < p) f first (count - first) (λ more. let same : first + 1 ≡ suc first = omega arith in subst (λ k. low < place (f k).low) same (next (omega (arith, more)))));
      within = rows_each (λ (c : Child). place c.low ≤ high) f (end - first) first (λ k least lt. within k least (omega (arith, lt, le)));
      above = first_at (λ (c : Child). c.low) (λ p. high < p) f end (count - end) (λ some. above (omega (arith, some)));
    }
  where
    are_passed : (n : ℕ) → (0 < n → (n < count) × (place (child_of (node_row bytes n)).low ≤ low)) → rows_from (λ k. child_of (node_row bytes k)) n (end - n) ++ rows_from (λ k. child_of (node_row bytes k)) end (count - end) ≡ rows_from (λ k. child_of (node_row bytes k)) n (count - n)
        → (rows_from (λ k. child_of (node_row bytes k)) 0 n ≡ []) ⊎ ((c : Child) × (rest : List Child) × (rows_from (λ k. child_of (node_row bytes k)) n (end - n) ++ rows_from (λ k. child_of (node_row bytes k)) end (count - end) ≡ c ∷ rest) × (place c.low ≤ low))
    are_passed zero at joined = inl refl
    are_passed (suc n) at joined =
        let here = at (omega arith) in
        inr (
          child_of (node_row bytes (suc n)),
          rows_from (λ k. child_of (node_row bytes k)) (suc (suc n)) (count - suc n - 1),
          joined ∙ rows_some (λ k. child_of (node_row bytes k)) (suc n) (count - suc n) (omega (arith, here.0)),
          here.1,
        )
