-- Keys in their order, and keys as numbers: for keys of the sizes that a key has, both say the same.
use Rattle.std.proofs.Common.{◌≡◌, ℕ, ◌+◌, ◌^◌, ◌<◌, ◌≤◌, ◌==◌, if◌then◌else◌, Bool, true, false, cond, not, List, [], ◌∷◌, Some, Ordering, Less, Equal, Greater, nat_cmp, refl, sym, ap, ap₂, ◌∙◌, arith, le_trans, lt_of_lt_of_le, ⊎_elim}
use Rattle.std.specs.Ordering.{ordering_then, is_eq, is_lt}
use Rattle.std.proofs.lemmas.Bool.{cases_lt, cases_eq, cases_order, and_from, and_parts, false≢true, eq-eqb, ne_eqb, lt-ltb, le-ltb}
use Rattle.std.specs.FinMap.Entries as entries
use Rattle.std.specs.FinMap.Entries.{by_order}
use Rattle.vm_types.specs.declared.key.Key.{Key}
use Rattle.vm_types.specs.Map.{key_cmp, same_key, Map, IsMap, get, with_value, without}
use Rattle.vm_types.proofs.Keys.{exact_keys}
use Rattle.vm_types.specs.Places.{place, KeyFits, FitKeys, RisesFrom, places, value_at, with_record}

cmp_less : (x y : ℕ) → x < y → nat_cmp x y ≡ Less
cmp_less x y h = ap (λ t. cond t Less (cond (x == y) Equal Greater)) (lt-ltb x y h)

cmp_equal : (x y : ℕ) → x ≡ y → nat_cmp x y ≡ Equal
cmp_equal x y h = ap (λ t. cond t Less (cond (x == y) Equal Greater)) (le-ltb x y (omega arith)) ∙ ap (λ t. cond t Equal Greater) (eq-eqb x y h)

cmp_greater : (x y : ℕ) → y < x → nat_cmp x y ≡ Greater
cmp_greater x y h = ap (λ t. cond t Less (cond (x == y) Equal Greater)) (le-ltb x y (omega arith)) ∙ ap (λ t. cond t Equal Greater) (ne_eqb x y (λ e. omega arith))

not_less : (x y : ℕ) → y ≤ x → is_lt (nat_cmp x y) ≡ false
not_less x y h =
    ⊎_elim
    (λ (e : x ≡ y). ap is_lt (cmp_equal x y e))
    (⊎_elim (λ (l : x < y). absurd (omega arith)) (λ (g : y < x). ap is_lt (cmp_greater x y g)))
    (cases_order x y)

-- where two keys stand tells their order
pub by_place : (a b : Key) → KeyFits a → KeyFits b → key_cmp a b ≡ nat_cmp (place a) (place b)
by_place a b fa fb =
    let na : a.number < 2 ^ 64 = fa.1 in
    let nb : b.number < 2 ^ 64 = fb.1 in
    ⊎_elim
    (λ (e : a.table ≡ b.table).
    ap (λ o. ordering_then o (nat_cmp a.number b.number)) (cmp_equal a.table b.table e)
    ∙ ⊎_elim
    (λ (q : a.number ≡ b.number). cmp_equal a.number b.number q ∙ sym (cmp_equal (place a) (place b) (omega arith)))
    (⊎_elim
    (λ (l : a.number < b.number). cmp_less a.number b.number l ∙ sym (cmp_less (place a) (place b) (omega arith)))
    (λ (g : b.number < a.number). cmp_greater a.number b.number g ∙ sym (cmp_greater (place a) (place b) (omega arith))))
    (cases_order a.number b.number))
    (⊎_elim
    (λ (l : a.table < b.table). ap (λ o. ordering_then o (nat_cmp a.number b.number)) (cmp_less a.table b.table l) ∙ sym (cmp_less (place a) (place b) (omega arith)))
    (λ (g : b.table < a.table). ap (λ o. ordering_then o (nat_cmp a.number b.number)) (cmp_greater a.table b.table g) ∙ sym (cmp_greater (place a) (place b) (omega arith))))
    (cases_order a.table b.table)

-- two keys are the same where they stand at one place
same_place : (a b : Key) → KeyFits a → KeyFits b → same_key a b ≡ (place b == place a)
same_place a b fa fb =
    ap is_eq (by_place a b fa fb)
    ∙ ⊎_elim
    (λ (e : place a ≡ place b). ap is_eq (cmp_equal (place a) (place b) e) ∙ sym (eq-eqb (place b) (place a) (sym e)))
    (⊎_elim
    (λ (l : place a < place b). ap is_eq (cmp_less (place a) (place b) l) ∙ sym (ne_eqb (place b) (place a) (λ e. omega arith)))
    (λ (g : place b < place a). ap is_eq (cmp_greater (place a) (place b) g) ∙ sym (ne_eqb (place b) (place a) (λ e. omega arith))))
    (cases_order (place a) (place b))

-- the value where a key stands is the value at the key
pub value_at-get : (k : Key) (m : Map) → KeyFits k → FitKeys m → value_at (place k) m ≡ get m k
value_at-get k [] fk fm = refl
value_at-get k (x ∷ m) fk fm =
    ap (λ t. cond t (Some x.1) (value_at (place k) m)) (sym (same_place k x.0 fk fm.0))
    ∙ ap (λ rest. cond (same_key k x.0) (Some x.1) rest) (value_at-get k m fk fm.1)

-- a key is in one place: where they are equal as numbers, they are equal
pub exact_places : (a b : Key) → KeyFits a → KeyFits b → place a ≡ place b → a ≡ b
exact_places a b fa fb e = exact_keys a b (by_place a b fa fb ∙ cmp_equal (place a) (place b) e)

-- a record put where its key stands is the value put at the key
pub with_record-value : (k : Key) (v : List ℕ) (m : Map) → KeyFits k → FitKeys m → with_record (k, v) m ≡ with_value m k v
with_record-value k v [] fk fm = refl
with_record-value k v (x ∷ m) fk fm =
    let all : Ordering → Map = λ (o : Ordering). by_order o ((k, v) ∷ x ∷ m) ((x.0, v) ∷ m) (x ∷ with_value m k v) in
    let tests : Bool → Bool → Map = λ (s t : Bool). cond s ((k, v) ∷ x ∷ m) (cond t ((k, v) ∷ m) (x ∷ with_record (k, v) m)) in
    ⊎_elim
    (λ (e : place k ≡ place x.0).
    ap₂ tests (le-ltb (place k) (place x.0) (omega arith)) (eq-eqb (place k) (place x.0) e)
    ∙ ap (λ (j : Key). (j, v) ∷ m) (exact_places k x.0 fk fm.0 e)
    ∙ sym (ap all (by_place k x.0 fk fm.0 ∙ cmp_equal (place k) (place x.0) e)))
    (⊎_elim
    (λ (l : place k < place x.0).
    ap (λ s. tests s (place k == place x.0)) (lt-ltb (place k) (place x.0) l)
    ∙ sym (ap all (by_place k x.0 fk fm.0 ∙ cmp_less (place k) (place x.0) l)))
    (λ (g : place x.0 < place k).
    ap₂ tests (le-ltb (place k) (place x.0) (omega arith)) (ne_eqb (place k) (place x.0) (λ e. omega arith))
    ∙ ap (λ rest. x ∷ rest) (with_record-value k v m fk fm.1)
    ∙ sym (ap all (by_place k x.0 fk fm.0 ∙ cmp_greater (place k) (place x.0) g))))
    (cases_order (place k) (place x.0))

-- a list that rises from a number rises from any lower one
pub RisesFrom-lower : (low high : ℕ) (ps : List ℕ) → low ≤ high → RisesFrom high ps → RisesFrom low ps
RisesFrom-lower low high [] h rises = tt
RisesFrom-lower low high (p ∷ ps) h rises = (le_trans h rises.0, rises.1)

-- a key whose place is below where a list rises from is below each of its keys
below_rest : (k : Key) (low : ℕ) (m : Map) → KeyFits k → FitKeys m → place k < low → RisesFrom low (places m) → entries.below_all key_cmp k m ≡ true
below_rest k low [] fk fm h rises = refl
below_rest k low (x ∷ m) fk fm h rises =
    let under : place k < place x.0 = lt_of_lt_of_le h rises.0 in
    and_from _ _ (ap is_lt (by_place k x.0 fk fm.0 ∙ cmp_less (place k) (place x.0) under))
    (below_rest k (place x.0 + 1) m fk fm.1 (omega arith) rises.1)

-- records whose places rise are a map
pub IsMap-rising_from : (low : ℕ) (m : Map) → FitKeys m → RisesFrom low (places m) → IsMap m
IsMap-rising_from low [] fm rises = refl
IsMap-rising_from low (x ∷ m) fm rises =
    and_from _ _ (below_rest x.0 (place x.0 + 1) m fm.0 fm.1 (omega arith) rises.1) (IsMap-rising_from (place x.0 + 1) m fm.1 rises.1)

-- where a key is below each key of a list, its place is below where that list rises from
rising_rest : (k : Key) (m : Map) → KeyFits k → FitKeys m → entries.below_all key_cmp k m ≡ true → IsMap m → RisesFrom (place k + 1) (places m)
rising_rest k [] fk fm below h = tt
rising_rest k (x ∷ m) fk fm below h =
    let here = and_parts _ _ below in
    let rest = and_parts _ _ h in
    let less : is_lt (nat_cmp (place k) (place x.0)) ≡ true = ap is_lt (sym (by_place k x.0 fk fm.0)) ∙ here.0 in
    let under : place k < place x.0 = ⊎_elim (λ (l : place k < place x.0). l) (λ (g : place x.0 ≤ place k). absurd (false≢true (sym (not_less (place k) (place x.0) g) ∙ less))) (cases_lt (place k) (place x.0)) in
    (omega arith, rising_rest x.0 m fm.0 fm.1 rest.0 rest.1)

-- the records without the one at a place, if there is one
abbrev pub without_place : ℕ → Map → Map
without_place p [] = []
without_place p (x ∷ m) = if place x.0 == p then m else x ∷ without_place p m

-- nothing is left out of records that stand above the key
without_above : (k : Key) (m : Map) → KeyFits k → FitKeys m → RisesFrom (place k + 1) (places m) → without m k ≡ m
without_above k [] fk fm rises = refl
without_above k (x ∷ m) fk fm rises =
    let above : place k + 1 ≤ place x.0 = rises.0 in
    ap (λ t. cond (not t) (x ∷ without m k) (without m k)) (same_place k x.0 fk fm.0 ∙ ne_eqb (place x.0) (place k) (λ e. omega arith))
    ∙ ap (λ rest. x ∷ rest) (without_above k m fk fm.1 (RisesFrom-lower (place k + 1) (place x.0 + 1) (places m) (omega arith) rises.1))

-- the one record left out where the key stands is all that leaving out the key takes
pub without_place-without : (k : Key) (low : ℕ) (m : Map) → KeyFits k → FitKeys m → RisesFrom low (places m) → without_place (place k) m ≡ without m k
without_place-without k low [] fk fm rises = refl
without_place-without k low (x ∷ m) fk fm rises =
    let left : Bool → Map = λ (t : Bool). cond t m (x ∷ without_place (place k) m) in
    let kept : Bool → Map = λ (t : Bool). cond (not t) (x ∷ without m k) (without m k) in
    ⊎_elim
    (λ (e : place x.0 ≡ place k).
    ap left (eq-eqb (place x.0) (place k) e)
    ∙ sym (without_above k m fk fm.1 (RisesFrom-lower (place k + 1) (place x.0 + 1) (places m) (omega arith) rises.1))
    ∙ sym (ap kept (same_place k x.0 fk fm.0 ∙ eq-eqb (place x.0) (place k) e)))
    (λ (n : place x.0 ≡ place k → ⊥).
    ap left (ne_eqb (place x.0) (place k) n)
    ∙ ap (λ rest. x ∷ rest) (without_place-without k (place x.0 + 1) m fk fm.1 rises.1)
    ∙ sym (ap kept (same_place k x.0 fk fm.0 ∙ ne_eqb (place x.0) (place k) n)))
    (cases_eq (place x.0) (place k))
