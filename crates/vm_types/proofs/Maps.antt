-- Maps by their values at each key: differences, conflicts and merges.
use Rattle.std.proofs.Common.{◌≡◌, ℕ, Bool, true, false, cond, ◌&&◌, ◌||◌, List, [], ◌∷◌, map, filter_map, Option, Some, None, is_some, option_map, Decides, bytes_eq, refl, sym, ap, ◌∙◌, ⊎_elim}
use Rattle.std.specs.List.{list_any, cons_option}
use Rattle.std.specs.Ordering.{is_lt}
use Rattle.std.specs.FinMap.Entries as entries
use Rattle.std.proofs.lemmas.Bool.{cases_Bool, or_parts, and_parts, and_from}
use Rattle.std.proofs.lemmas.Slice.Eq.{bytes_eq-Decides, slice_eq-Decides}
use Rattle.vm_types.specs.declared.key.Key.{Key}
use Rattle.vm_types.specs.declared.change.Change.{Change}
use Rattle.vm_types.specs.declared.command.Side.{Side}
use Rattle.vm_types.specs.Map.{key_cmp, same_key, Map, IsMap, get, with_value, same_value, over, keys_of, change_at, delta, three, side_of, settled_value, merged_at, merge, same_map}
use Rattle.vm_types.proofs.Keys.{same_key-Decides, get-with_value, IsMap-with_value, same_maps}

-- ---- tests of values and maps are equality

pub same_value-Decides : (u v : Option (List ℕ)) → Decides (same_value u v) (u ≡ v)
same_value-Decides None None = (λ h. refl, λ h. refl)
same_value-Decides None (Some y) = (λ h. cc, λ h. cc)
same_value-Decides (Some x) None = (λ h. cc, λ h. cc)
same_value-Decides (Some x) (Some y) = (λ h. ap Some ((bytes_eq-Decides x y).0 h), λ h. (bytes_eq-Decides x y).1 (cc))

same_record-Decides : (r s : Key × List ℕ) → Decides (same_key r.0 s.0 && bytes_eq r.1 s.1) (r ≡ s)
same_record-Decides r s = (
  λ h.
      let parts = and_parts (same_key r.0 s.0) (bytes_eq r.1 s.1) h in
      let keys = (same_key-Decides r.0 s.0).0 parts.0 in
      let values = (bytes_eq-Decides r.1 s.1).0 parts.1 in
      λ i. (keys i, values i),
  λ h. and_from (same_key r.0 s.0) (bytes_eq r.1 s.1) ((same_key-Decides r.0 s.0).1 (ap (λ (p : Key × List ℕ). p.0) h)) ((bytes_eq-Decides r.1 s.1).1 (ap (λ (p : Key × List ℕ). p.1) h)),
)

pub same_map-Decides : (m n : Map) → Decides (same_map m n) (m ≡ n)
same_map-Decides m n = slice_eq-Decides same_record-Decides m n (same_map m n) refl

-- ---- the keys of two maps

or_true : (b : Bool) → (b || true) ≡ true
or_true true = refl
or_true false = refl

-- a record of m or of n stands in n with m put over it
some_over : (m n : Map) (q : Key) → is_some (get (over m n) q) ≡ (is_some (get m q) || is_some (get n q))
some_over [] n q = refl
some_over (r ∷ m) n q =
    some_over m (with_value n r.0 r.1) q
    ∙ ap (λ v. is_some (get m q) || is_some v) (get-with_value n r.0 r.1 q)
    ∙ elim (same_key q r.0) as (λ t. (is_some (get m q) || is_some (cond t (Some r.1) (get n q))) ≡ (is_some (cond t (Some r.1) (get m q)) || is_some (get n q))) [
      | true ↦ or_true (is_some (get m q))
      | false ↦ refl
    ]

-- the keys of both are those that one of them has
pub keys_of-any : (m n : Map) (q : Key) → list_any (same_key q) (keys_of m n) ≡ (is_some (get m q) || is_some (get n q))
keys_of-any m n q = sym (entries.is_some-find key_cmp q (over m n)) ∙ some_over m n q

pub IsMap-over : (m n : Map) → IsMap n → IsMap (over m n)
IsMap-over [] n h = h
IsMap-over (r ∷ m) n h = IsMap-over m (with_value n r.0 r.1) (IsMap-with_value n r.0 r.1 h)

-- ---- maps made of a value for each key

cond_same : (t : Bool) (o : Option (List ℕ)) → cond t o o ≡ o
cond_same true o = refl
cond_same false o = refl

-- a record for each key that has a value
abbrev pub tabulated : (Key → Option (List ℕ)) → List Key → Map
tabulated f keys = filter_map (λ key. option_map (λ value. (key, value)) (f key)) keys

pub get-tabulated : (f : Key → Option (List ℕ)) (keys : List Key) (q : Key) → get (tabulated f keys) q ≡ cond (list_any (same_key q) keys) (f q) None
get-tabulated f [] q = refl
get-tabulated f (k ∷ keys) q =
    let rest = get-tabulated f keys q in
    let step : Option (List ℕ) → Map = λ (v : Option (List ℕ)). cons_option (option_map (λ value. (k, value)) v) (tabulated f keys) in
    elim (same_key q k) as (λ t. same_key q k ≡ t → get (step (f k)) q ≡ cond (t || list_any (same_key q) keys) (f q) None) [
      | true ↦ λ is.
          let same : f k ≡ f q = ap f (sym ((same_key-Decides q k).0 is)) in
          ap (λ v. get (step v) q) same
          ∙ elim (f q) as (λ v. get (tabulated f keys) q ≡ cond (list_any (same_key q) keys) v None → get (step v) q ≡ v) [
            | None ↦ λ e. e ∙ cond_same (list_any (same_key q) keys) None
            | Some w ↦ λ e. ap (λ t. cond t (Some w) (get (tabulated f keys) q)) is
          ] rest
      | false ↦ λ is.
          elim (f k) as (λ v. get (step v) q ≡ cond (list_any (same_key q) keys) (f q) None) [
            | None ↦ rest
            | Some w ↦ ap (λ t. cond t (Some w) (get (tabulated f keys) q)) is ∙ rest
          ]
    ] refl

-- a key that is below each key of a map is below each that has a value
below_tabulated : (f : Key → Option (List ℕ)) (k : Key) (m : Map) → entries.below_all key_cmp k m ≡ true → entries.below_all key_cmp k (tabulated f (map (λ r. r.0) m)) ≡ true
below_tabulated f k [] h = refl
below_tabulated f k (r ∷ m) h =
    let here = and_parts (is_lt (key_cmp k r.0)) (entries.below_all key_cmp k m) h in
    let rest = below_tabulated f k m here.1 in
    elim (f r.0) as (λ v. entries.below_all key_cmp k (cons_option (option_map (λ value. (r.0, value)) v) (tabulated f (map (λ r. r.0) m))) ≡ true) [
      | None ↦ rest
      | Some w ↦ and_from (is_lt (key_cmp k r.0)) (entries.below_all key_cmp k (tabulated f (map (λ r. r.0) m))) here.0 rest
    ]

pub IsMap-tabulated : (f : Key → Option (List ℕ)) (m : Map) → IsMap m → IsMap (tabulated f (map (λ r. r.0) m))
IsMap-tabulated f [] h = refl
IsMap-tabulated f (r ∷ m) h =
    let here = and_parts (entries.below_all key_cmp r.0 m) (entries.is_sorted key_cmp m) h in
    let rest = IsMap-tabulated f m here.1 in
    elim (f r.0) as (λ v. IsMap (cons_option (option_map (λ value. (r.0, value)) v) (tabulated f (map (λ r. r.0) m)))) [
      | None ↦ rest
      | Some w ↦ and_from (entries.below_all key_cmp r.0 (tabulated f (map (λ r. r.0) m))) (entries.is_sorted key_cmp (tabulated f (map (λ r. r.0) m))) (below_tabulated f r.0 m here.0) rest
    ]

-- ---- merge

-- a key that neither the parent nor the alternative has is in no conflict, and has no value
none_merged : (base : Option (List ℕ)) (side : Option Side) → settled_value (three base None None) side None None ≡ None
none_merged None side = refl
none_merged (Some v) side = refl

-- the value of the merge at each key
pub get-merge : (base parent mine : Map) (settled : List (Key × Side)) (q : Key) → get (merge base parent mine settled) q ≡ merged_at base parent mine settled q
get-merge base parent mine settled q =
    get-tabulated (merged_at base parent mine settled) (keys_of parent mine) q
    ∙ ap (λ t. cond t (merged_at base parent mine settled q) None) (keys_of-any parent mine q)
    ∙ elim (get parent q) as (λ p. cond (is_some p || is_some (get mine q)) (settled_value (three (get base q) p (get mine q)) (side_of settled q) p (get mine q)) None ≡ settled_value (three (get base q) p (get mine q)) (side_of settled q) p (get mine q)) [
      | Some v ↦ refl
      | None ↦ elim (get mine q) as (λ c. cond (is_some c) (settled_value (three (get base q) None c) (side_of settled q) None c) None ≡ settled_value (three (get base q) None c) (side_of settled q) None c) [
        | Some v ↦ refl
        | None ↦ sym (none_merged (get base q) (side_of settled q))
      ]
    ]

pub IsMap-merge : (base parent mine : Map) (settled : List (Key × Side)) → IsMap mine → IsMap (merge base parent mine settled)
IsMap-merge base parent mine settled h = IsMap-tabulated (merged_at base parent mine settled) (over parent mine) (IsMap-over parent mine h)

-- ---- differences

-- a list made of what each key gives is empty only where each gives none
none_given : {Y : Type 0} (f : Key → Option Y) (keys : List Key) → filter_map f keys ≡ [] → (q : Key) → list_any (same_key q) keys ≡ true → f q ≡ None
none_given f [] h q any = cc
none_given {Y} f (k ∷ keys) h q any =
    elim (f k) as (λ v. f k ≡ v → cons_option v (filter_map f keys) ≡ [] → f q ≡ None) [
      | Some y ↦ λ is e. cc
      | None ↦ λ is e.
          ⊎_elim
          (λ (here : same_key q k ≡ true). ap f ((same_key-Decides q k).0 here) ∙ is)
          (λ (there : same_key q k ≡ false). none_given f keys e q (ap (λ t. t || list_any (same_key q) keys) (sym there) ∙ any))
          (cases_Bool (same_key q k))
    ] refl h

-- a key with no change has equal values
unchanged_at : (m n : Map) (q : Key) → change_at m n q ≡ None → get m q ≡ get n q
unchanged_at m n q h =
    elim (same_value (get m q) (get n q)) as (λ t. same_value (get m q) (get n q) ≡ t → cond {A = Option Change} t None (Some (record { key = q; before = get m q; after = get n q })) ≡ None → get m q ≡ get n q) [
      | true ↦ λ is e. (same_value-Decides (get m q) (get n q)).0 is
      | false ↦ λ is e. cc
    ] refl h

none_from : (o : Option (List ℕ)) → is_some o ≡ false → o ≡ None
none_from None h = refl
none_from (Some v) h = cc

-- a map has no change to itself
no_change_at : (m : Map) (q : Key) → change_at m m q ≡ None
no_change_at m q = ap (λ t. cond {A = Option Change} t None (Some (record { key = q; before = get m q; after = get m q }))) ((same_value-Decides (get m q) (get m q)).1 refl)

all_none : (m : Map) (keys : List Key) → filter_map (change_at m m) keys ≡ []
all_none m [] = refl
all_none m (k ∷ keys) = ap (λ v. cons_option v (filter_map (change_at m m) keys)) (no_change_at m k) ∙ all_none m keys

-- maps that differ at no key are equal
pub delta-nil : (m n : Map) → IsMap m → IsMap n → delta m n ≡ [] → m ≡ n
delta-nil m n g h none = same_maps m n g h (λ q.
    ⊎_elim
    (λ (any : list_any (same_key q) (keys_of m n) ≡ true). unchanged_at m n q (none_given (change_at m n) (keys_of m n) none q any))
    (λ (no : list_any (same_key q) (keys_of m n) ≡ false).
    let parts = or_parts (is_some (get m q)) (is_some (get n q)) (sym (keys_of-any m n q) ∙ no) in
    none_from (get m q) parts.0 ∙ sym (none_from (get n q) parts.1))
    (cases_Bool (list_any (same_key q) (keys_of m n))))

-- and a map differs from itself at none
pub delta-same : (m n : Map) → m ≡ n → delta m n ≡ []
delta-same m n is = ap (λ x. delta m x) (sym is) ∙ all_none m (keys_of m m)
