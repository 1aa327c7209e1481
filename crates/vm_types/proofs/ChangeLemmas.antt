-- Differences made one by one, and two maps walked side by side.
use Rattle.std.proofs.Common.{◌≡◌, ℕ, Bool, true, false, cond, not, ◌||◌, if◌then◌else◌, List, [], ◌∷◌, ◌++◌, map, filter_map, Option, Some, None, is_some, Less, Equal, Greater, ◌⊎◌, inl, inr, refl, sym, ap, ◌∙◌, subst}
use Rattle.std.specs.List.{list_any, cons_option}
use Rattle.std.specs.Cmp.{tied_itself, eq_by_cmp_equiv}
use Rattle.std.specs.Ordering.{is_lt, is_eq, ordering_reverse}
use Rattle.std.specs.FinMap.Entries as entries
use Rattle.std.specs.FinMap.Entries.{by_order}
use Rattle.std.proofs.lemmas.Bool.{and_parts, and_from}
use Rattle.vm_types.specs.declared.key.Key.{Key}
use Rattle.vm_types.specs.declared.change.Change.{Change}
use Rattle.vm_types.specs.Map.{key_cmp, same_key, Map, IsMap, get, with_value, same_value, over, keys_of, change_at, delta, put_or_taken, with_change, with_changes}
use Rattle.vm_types.proofs.Keys.{keys_total, same_key-Decides, get-with_value, get-without, IsMap-with_value, IsMap-without, same_maps, exact_keys, is_less}
use Rattle.vm_types.proofs.Maps.{same_value-Decides, keys_of-any}

-- ---- changes made

swapped_tests : (a b : Bool) (o : Option (List ℕ)) → a ≡ b → cond (not a) o None ≡ cond b None o
swapped_tests true true o h = refl
swapped_tests false false o h = refl
swapped_tests true false o h = cc
swapped_tests false true o h = cc

pub get-put_or_taken : (m : Map) (k : Key) (v : Option (List ℕ)) (q : Key) → get (put_or_taken m k v) q ≡ cond (same_key q k) v (get m q)
get-put_or_taken m k None q = get-without m k q ∙ swapped_tests (same_key k q) (same_key q k) (get m q) ((eq_by_cmp_equiv keys_total).symm k q)
get-put_or_taken m k (Some v) q = get-with_value m k v q

pub IsMap-put_or_taken : (m : Map) (k : Key) (v : Option (List ℕ)) → IsMap m → IsMap (put_or_taken m k v)
IsMap-put_or_taken m k None h = IsMap-without m k h
IsMap-put_or_taken m k (Some v) h = IsMap-with_value m k v h

pub IsMap-with_changes : (m : Map) (changes : List Change) → IsMap m → IsMap (with_changes m changes)
IsMap-with_changes m [] h = h
IsMap-with_changes m (c ∷ changes) h = IsMap-with_changes (with_change m c) changes (IsMap-put_or_taken m c.key c.after h)

-- one more change
pub with_changes-more : (m : Map) (changes : List Change) (c : Change) → with_changes m (changes ++ c ∷ []) ≡ with_change (with_changes m changes) c
with_changes-more m [] c = refl
with_changes-more m (d ∷ changes) c = with_changes-more (with_change m d) changes c

cond_alike : (t : Bool) (o p r : Option (List ℕ)) → o ≡ r → p ≡ r → cond t o p ≡ r
cond_alike true o p r h g = h
cond_alike false o p r h g = g

module _ (m n : Map) where
  -- the changes from m to n at some keys, made in a map between them, give n's values at those keys
  pub get-with_changes : (x : Map) (keys : List Key) → ((q : Key) → (get x q ≡ get m q) ⊎ (get x q ≡ get n q)) → (q : Key) → get (with_changes x (filter_map (change_at m n) keys)) q ≡ cond (list_any (same_key q) keys) (get n q) (get x q)
  get-with_changes x [] between q = refl
  get-with_changes x (k ∷ keys) between q =
      elim (same_value (get m k) (get n k)) as (λ t. same_value (get m k) (get n k) ≡ t
      → get (with_changes x (cons_option (cond {A = Option Change} t None (Some (record { key = k; before = get m k; after = get n k }))) (filter_map (change_at m n) keys))) q ≡ cond (list_any (same_key q) (k ∷ keys)) (get n q) (get x q)) [
        | true ↦ λ alike.
            get-with_changes x keys between q
            ∙ elim (same_key q k) as (λ t. same_key q k ≡ t → cond (list_any (same_key q) keys) (get n q) (get x q) ≡ cond (t || list_any (same_key q) keys) (get n q) (get x q)) [
              | false ↦ λ _. refl
              | true ↦ λ is.
                  let same : q ≡ k = (same_key-Decides q k).0 is in
                  let equal : get m q ≡ get n q = subst (λ j. get m j ≡ get n j) (sym same) ((same_value-Decides (get m k) (get n k)).0 alike) in
                  let there : get x q ≡ get n q = elim (between q) as (λ _. get x q ≡ get n q) [ inl e ↦ e ∙ equal | inr e ↦ e ] in
                  cond_alike (list_any (same_key q) keys) (get n q) (get x q) (get n q) refl there
            ] refl
        | false ↦ λ _.
            let next = put_or_taken x k (get n k) in
            let at : (j : Key) → get next j ≡ cond (same_key j k) (get n k) (get x j) = get-put_or_taken x k (get n k) in
            let still : (j : Key) → (get next j ≡ get m j) ⊎ (get next j ≡ get n j) = λ j.
            elim (same_key j k) as (λ t. same_key j k ≡ t → get next j ≡ cond t (get n k) (get x j) → (get next j ≡ get m j) ⊎ (get next j ≡ get n j)) [
              | true ↦ λ is e. inr (e ∙ ap (get n) (sym ((same_key-Decides j k).0 is)))
              | false ↦ λ _ e. elim (between j) as (λ _. (get next j ≡ get m j) ⊎ (get next j ≡ get n j)) [ inl h ↦ inl (e ∙ h) | inr h ↦ inr (e ∙ h) ]
            ] refl (at j) in
            get-with_changes next keys still q
            ∙ elim (same_key q k) as (λ t. same_key q k ≡ t → get next q ≡ cond t (get n k) (get x q) → cond (list_any (same_key q) keys) (get n q) (get next q) ≡ cond (t || list_any (same_key q) keys) (get n q) (get x q)) [
              | true ↦ λ is e. cond_alike (list_any (same_key q) keys) (get n q) (get next q) (get n q) refl (e ∙ ap (get n) (sym ((same_key-Decides q k).0 is)))
              | false ↦ λ _ e. ap (cond (list_any (same_key q) keys) (get n q)) e
            ] refl (at q)
      ] refl

  -- the differences of two maps, made in the first, give the second
  pub with_changes-delta : IsMap m → IsMap n → with_changes m (delta m n) ≡ n
  with_changes-delta g h = same_maps (with_changes m (delta m n)) n (IsMap-with_changes m (delta m n) g) h (λ q.
      get-with_changes m (keys_of m n) (λ j. inl refl) q
      ∙ ap (λ t. cond t (get n q) (get m q)) (keys_of-any m n q)
      ∙ elim (get m q) as (λ o. cond (is_some o || is_some (get n q)) (get n q) o ≡ get n q) [
        | Some v ↦ refl
        | None ↦ elim (get n q) as (λ o. cond (is_some o) o None ≡ o) [ Some v ↦ refl | None ↦ refl ]
      ])

-- ---- two maps side by side

-- whether a key is below each key of a map
abbrev pub is_below : Key → Map → Bool
is_below key m = entries.below_all key_cmp key m

-- a key below another is below what that one is below
pub is_below-lower : (k q : Key) (m : Map) → key_cmp k q ≡ Less → is_below q m ≡ true → is_below k m ≡ true
is_below-lower k q [] h below = refl
is_below-lower k q (r ∷ m) h below =
    let here = and_parts (is_lt (key_cmp q r.0)) (is_below q m) below in
    and_from (is_lt (key_cmp k r.0)) (is_below k m) (ap is_lt (keys_total.trans k q r.0 h (is_less (key_cmp q r.0) here.0))) (is_below-lower k q m h here.1)

-- the first key of a map is below the others
pub is_below-head : (r : Key × List ℕ) (m : Map) → IsMap (r ∷ m) → is_below r.0 m ≡ true
is_below-head r m h = (and_parts (is_below r.0 m) (entries.is_sorted key_cmp m) h).0

pub IsMap-tail : (r : Key × List ℕ) (m : Map) → IsMap (r ∷ m) → IsMap m
IsMap-tail r m h = (and_parts (is_below r.0 m) (entries.is_sorted key_cmp m) h).1

-- a map has no value at a key below each of its keys
pub get_below : (k : Key) (m : Map) → is_below k m ≡ true → get m k ≡ None
get_below k [] h = refl
get_below k (r ∷ m) h =
    let here = and_parts (is_lt (key_cmp k r.0)) (is_below k m) h in
    ap (λ o. cond (is_eq o) (Some r.1) (get m k)) (is_less (key_cmp k r.0) here.0) ∙ get_below k m here.1

-- the value at the first key
pub get_head : (r : Key × List ℕ) (m : Map) → get (r ∷ m) r.0 ≡ Some r.1
get_head r m = ap (λ o. cond (is_eq o) (Some r.1) (get m r.0)) (tied_itself keys_total r.0)

-- a record with a key below all stands first
pub with_value-below : (m : Map) (k : Key) (v : List ℕ) → is_below k m ≡ true → with_value m k v ≡ (k, v) ∷ m
with_value-below [] k v h = refl
with_value-below (r ∷ m) k v h =
    let here = and_parts (is_lt (key_cmp k r.0)) (is_below k m) h in
    ap (λ o. by_order o ((k, v) ∷ r ∷ m) ((r.0, v) ∷ m) (r ∷ with_value m k v)) (is_less (key_cmp k r.0) here.0)

-- records put above the first one leave it first
over-below : (x : Key × List ℕ) (m n : Map) → is_below x.0 m ≡ true → over m (x ∷ n) ≡ x ∷ over m n
over-below x [] n h = refl
over-below x (r ∷ m) n h =
    let here = and_parts (is_lt (key_cmp x.0 r.0)) (is_below x.0 m) h in
    let above : key_cmp r.0 x.0 ≡ Greater = keys_total.antisymm r.0 x.0 ∙ ap ordering_reverse (is_less (key_cmp x.0 r.0) here.0) in
    ap (λ o. over m (by_order o ((r.0, r.1) ∷ x ∷ n) ((x.0, r.1) ∷ n) (x ∷ with_value n r.0 r.1))) above
    ∙ over-below x m (with_value n r.0 r.1) here.1

-- the first key is the left map's
pub keys_of-left : (r : Key × List ℕ) (m n : Map) → is_below r.0 m ≡ true → is_below r.0 n ≡ true → keys_of (r ∷ m) n ≡ r.0 ∷ keys_of m n
keys_of-left r m n left right = ap (λ x. map (λ e. e.0) (over m x)) (with_value-below n r.0 r.1 right) ∙ ap (map (λ e. e.0)) (over-below r m n left)

-- the first key is the right map's
pub keys_of-right : (s : Key × List ℕ) (m n : Map) → is_below s.0 m ≡ true → keys_of m (s ∷ n) ≡ s.0 ∷ keys_of m n
keys_of-right s m n left = ap (map (λ e. e.0)) (over-below s m n left)

-- the first key is that of both
pub keys_of-both : (r s : Key × List ℕ) (m n : Map) → key_cmp r.0 s.0 ≡ Equal → is_below r.0 m ≡ true → keys_of (r ∷ m) (s ∷ n) ≡ s.0 ∷ keys_of m n
keys_of-both r s m n same left =
    ap (λ o. map (λ e. e.0) (over m (by_order o ((r.0, r.1) ∷ s ∷ n) ((s.0, r.1) ∷ n) (s ∷ with_value n r.0 r.1)))) same
    ∙ ap (map (λ e. e.0)) (over-below (s.0, r.1) m n (subst (λ k. is_below k m ≡ true) (exact_keys r.0 s.0 same) left))

-- ---- differences by the first records

-- a key below a map stays below it with more above the key
below_with_value : (k : Key) (m : Map) (q : Key) (v : List ℕ) → is_below k m ≡ true → key_cmp k q ≡ Less → is_below k (with_value m q v) ≡ true
below_with_value k [] q v h less = and_from (is_lt (key_cmp k q)) true (ap is_lt less) refl
below_with_value k (r ∷ m) q v h less =
    let here = and_parts (is_lt (key_cmp k r.0)) (is_below k m) h in
    elim (key_cmp q r.0) as (λ o. is_below k (by_order o ((q, v) ∷ r ∷ m) ((r.0, v) ∷ m) (r ∷ with_value m q v)) ≡ true) [
      | Less ↦ and_from (is_lt (key_cmp k q)) (is_below k (r ∷ m)) (ap is_lt less) h
      | Equal ↦ h
      | Greater ↦ and_from (is_lt (key_cmp k r.0)) (is_below k (with_value m q v)) here.0 (below_with_value k m q v here.1 less)
    ]

below_over : (k : Key) (m n : Map) → is_below k m ≡ true → is_below k n ≡ true → is_below k (over m n) ≡ true
below_over k [] n left right = right
below_over k (r ∷ m) n left right =
    let here = and_parts (is_lt (key_cmp k r.0)) (is_below k m) left in
    below_over k m (with_value n r.0 r.1) here.1 (below_with_value k n r.0 r.1 right (is_less (key_cmp k r.0) here.0))

-- a record with a lower key isn't seen above it
get_above : (r : Key × List ℕ) (m : Map) (k : Key) → key_cmp r.0 k ≡ Less → get (r ∷ m) k ≡ get m k
get_above r m k less = ap (λ o. cond (is_eq o) (Some r.1) (get m k)) (keys_total.antisymm k r.0 ∙ ap ordering_reverse less)

-- two maps have the same changes as two others at keys where they have the same values
same_changes : (m n m' n' : Map) (low : Key) (x : Map) → is_below low x ≡ true → ((k : Key) → key_cmp low k ≡ Less → get m k ≡ get m' k) → ((k : Key) → key_cmp low k ≡ Less → get n k ≡ get n' k)
    → filter_map (change_at m n) (map (λ e. e.0) x) ≡ filter_map (change_at m' n') (map (λ e. e.0) x)
same_changes m n m' n' low [] below left right = refl
same_changes m n m' n' low (r ∷ x) below left right =
    let here = and_parts (is_lt (key_cmp low r.0)) (is_below low x) below in
    let less = is_less (key_cmp low r.0) here.0 in
    let between : Option (List ℕ) → Option (List ℕ) → Option Change = λ (o p : Option (List ℕ)). cond {A = Option Change} (same_value o p) None (Some (record { key = r.0; before = o; after = p })) in
    ap (λ o. cons_option (between o (get n r.0)) (filter_map (change_at m n) (map (λ e. e.0) x))) (left r.0 less)
    ∙ ap (λ p. cons_option (between (get m' r.0) p) (filter_map (change_at m n) (map (λ e. e.0) x))) (right r.0 less)
    ∙ ap (cons_option (change_at m' n' r.0)) (same_changes m n m' n' low x here.1 left right)

-- how two values at a key differ, if they do
abbrev pub change_of : Key → Option (List ℕ) → Option (List ℕ) → Option Change
change_of k before after = if same_value before after then None else Some (record { key = k; before = before; after = after })

-- a record that only the left map has, below all others, is the first change
pub delta-left : (r : Key × List ℕ) (m n : Map) → is_below r.0 m ≡ true → is_below r.0 n ≡ true → delta (r ∷ m) n ≡ record { key = r.0; before = Some r.1; after = None } ∷ delta m n
delta-left r m n left right =
    ap (filter_map (change_at (r ∷ m) n)) (keys_of-left r m n left right)
    ∙ ap (λ o. cons_option (change_of r.0 o (get n r.0)) (filter_map (change_at (r ∷ m) n) (keys_of m n))) (get_head r m)
    ∙ ap (λ p. cons_option (change_of r.0 (Some r.1) p) (filter_map (change_at (r ∷ m) n) (keys_of m n))) (get_below r.0 n right)
    ∙ ap (λ cs. record { key = r.0; before = Some r.1; after = None } ∷ cs) (same_changes (r ∷ m) n m n r.0 (over m n) (below_over r.0 m n left right) (λ k less. get_above r m k less) (λ k less. refl))

-- a record that only the right map has, below all others, is the first change
pub delta-right : (s : Key × List ℕ) (m n : Map) → is_below s.0 m ≡ true → is_below s.0 n ≡ true → delta m (s ∷ n) ≡ record { key = s.0; before = None; after = Some s.1 } ∷ delta m n
delta-right s m n left right =
    ap (filter_map (change_at m (s ∷ n))) (keys_of-right s m n left)
    ∙ ap (λ o. cons_option (change_of s.0 o (get (s ∷ n) s.0)) (filter_map (change_at m (s ∷ n)) (keys_of m n))) (get_below s.0 m left)
    ∙ ap (λ p. cons_option (change_of s.0 None p) (filter_map (change_at m (s ∷ n)) (keys_of m n))) (get_head s n)
    ∙ ap (λ cs. record { key = s.0; before = None; after = Some s.1 } ∷ cs) (same_changes m (s ∷ n) m n s.0 (over m n) (below_over s.0 m n left right) (λ k less. refl) (λ k less. get_above s n k less))

-- records of one key, below all others, are the first change where their values differ
pub delta-both : (key : Key) (v w : List ℕ) (m n : Map) → is_below key m ≡ true → is_below key n ≡ true → delta ((key, v) ∷ m) ((key, w) ∷ n) ≡ cons_option (change_of key (Some v) (Some w)) (delta m n)
delta-both key v w m n left right =
    ap (filter_map (change_at ((key, v) ∷ m) ((key, w) ∷ n))) (keys_of-both (key, v) (key, w) m n (tied_itself keys_total key) left)
    ∙ ap (λ o. cons_option (change_of key o (get ((key, w) ∷ n) key)) (filter_map (change_at ((key, v) ∷ m) ((key, w) ∷ n)) (keys_of m n))) (get_head (key, v) m)
    ∙ ap (λ p. cons_option (change_of key (Some v) p) (filter_map (change_at ((key, v) ∷ m) ((key, w) ∷ n)) (keys_of m n))) (get_head (key, w) n)
    ∙ ap (cons_option (change_of key (Some v) (Some w))) (same_changes ((key, v) ∷ m) ((key, w) ∷ n) m n key (over m n) (below_over key m n left right) (λ k less. get_above (key, v) m k less) (λ k less. get_above (key, w) n k less))
