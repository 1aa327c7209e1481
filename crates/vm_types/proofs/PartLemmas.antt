-- Parts of maps: what one has at each key, what parts of two maps have of their differences, and parts of joined records.
use Rattle.std.proofs.Common.{◌≡◌, ℕ, ◌<◌, nat_le, Bool, true, false, cond, List, [], ◌∷◌, ◌++◌, map, filter, filter_map, Option, Some, None, refl, sym, ap, ◌∙◌}
use Rattle.std.specs.List.{AllByRecursion, cons_option}
use Rattle.std.specs.FinMap.Entries as entries
use Rattle.std.proofs.lemmas.Bool.{and_left, and_right, lt-leb}
use Rattle.std.proofs.lemmas.List.Elements.{filter-append}
use Rattle.vm_types.specs.declared.key.Key.{Key}
use Rattle.vm_types.specs.declared.change.Change.{Change}
use Rattle.vm_types.specs.Map.{key_cmp, same_key, Map, IsMap, get, with_value, same_value, over, keys_of, change_at, delta}
use Rattle.vm_types.specs.Parts.{is_within, part, changes_part}
use Rattle.vm_types.specs.Places.{place}
use Rattle.vm_types.proofs.Keys.{exact_keys, get-with_value, holding, IsMap-with_value, passed, same_key-Decides, same_maps}

-- a test that passes only where another does, before it
tests_in_turn : (s p : Bool) (a b : Option (List ℕ)) → (s ≡ true → p ≡ true) → cond p (cond s a b) None ≡ cond s a (cond p b None)
tests_in_turn true true a b so = refl
tests_in_turn true false a b so = let no = so refl in cc no
tests_in_turn false p a b so = refl

-- and one that passes nowhere where another does
tests_apart : (s p : Bool) (a b : Option (List ℕ)) → (s ≡ true → p ≡ false) → cond p (cond s a b) None ≡ cond p b None
tests_apart true true a b so = let no = so refl in cc no
tests_apart true false a b so = refl
tests_apart false p a b so = refl

module _ (low high : ℕ) where
  -- at a key of the part a map's part has what the map has, and at another none
  pub get-part : (m : Map) (q : Key) → get (part low high m) q ≡ cond (is_within low high q) (get m q) None
  get-part m q = entries.find-where_key key_cmp (is_within low high) q (λ x e. ap (is_within low high) (sym (exact_keys q x e))) m

  pub IsMap-part : (m : Map) → IsMap m → IsMap (part low high m)
  IsMap-part m h = holding _ (entries.is_sorted-where_key key_cmp (is_within low high) m (passed _ h))

  -- a value that is put at a key is in the part where the key is
  part_put : (n : Map) (k : Key) (v : List ℕ) → IsMap n → part low high (with_value n k v) ≡ cond (is_within low high k) (with_value (part low high n) k v) (part low high n)
  part_put n k v h =
      let whole : (q : Key) → get (part low high (with_value n k v)) q ≡ cond (is_within low high q) (cond (same_key q k) (Some v) (get n q)) None = λ q.
      get-part (with_value n k v) q ∙ ap (λ o. cond (is_within low high q) o None) (get-with_value n k v q) in
      let is_map = IsMap-part (with_value n k v) (IsMap-with_value n k v h) in
      let here : (q : Key) → same_key q k ≡ true → is_within low high q ≡ is_within low high k = λ q is. ap (is_within low high) ((same_key-Decides q k).0 is) in
      elim (is_within low high k) as (λ t. is_within low high k ≡ t → part low high (with_value n k v) ≡ cond t (with_value (part low high n) k v) (part low high n)) [
        | true ↦ λ in_it.
            same_maps (part low high (with_value n k v)) (with_value (part low high n) k v) is_map (IsMap-with_value (part low high n) k v (IsMap-part n h))
            (λ q. whole q
            ∙ tests_in_turn (same_key q k) (is_within low high q) (Some v) (get n q) (λ is. here q is ∙ in_it)
            ∙ ap (λ o. cond (same_key q k) (Some v) o) (sym (get-part n q))
            ∙ sym (get-with_value (part low high n) k v q))
        | false ↦ λ out.
            same_maps (part low high (with_value n k v)) (part low high n) is_map (IsMap-part n h)
            (λ q. whole q
            ∙ tests_apart (same_key q k) (is_within low high q) (Some v) (get n q) (λ is. here q is ∙ out)
            ∙ sym (get-part n q))
      ] refl

  part_over : (m n : Map) → IsMap n → part low high (over m n) ≡ over (part low high m) (part low high n)
  part_over [] n h = refl
  part_over (r ∷ m) n h =
      part_over m (with_value n r.0 r.1) (IsMap-with_value n r.0 r.1 h)
      ∙ ap (over (part low high m)) (part_put n r.0 r.1 h)
      ∙ elim (is_within low high r.0) as (λ t. over (part low high m) (cond t (with_value (part low high n) r.0 r.1) (part low high n)) ≡ over (cond t (r ∷ part low high m) (part low high m)) (part low high n)) [
        | true ↦ refl
        | false ↦ refl
      ]

  keys_part : (m : Map) → map (λ r. r.0) (part low high m) ≡ filter (is_within low high) (map (λ r. r.0) m)
  keys_part [] = refl
  keys_part (r ∷ m) =
      elim (is_within low high r.0) as (λ t. map (λ (s : Key × List ℕ). s.0) (cond t (r ∷ part low high m) (part low high m)) ≡ cond t (r.0 ∷ filter (is_within low high) (map (λ s. s.0) m)) (filter (is_within low high) (map (λ s. s.0) m))) [
        | true ↦ ap (λ ks. r.0 ∷ ks) (keys_part m)
        | false ↦ keys_part m
      ]

  changes_at_part : (m n : Map) (ks : List Key) → filter_map (change_at (part low high m) (part low high n)) (filter (is_within low high) ks) ≡ changes_part low high (filter_map (change_at m n) ks)
  changes_at_part m n [] = refl
  changes_at_part m n (k ∷ ks) =
      let rest = changes_at_part m n ks in
      let between : Option (List ℕ) → Option (List ℕ) → Option Change = λ (o p : Option (List ℕ)). cond {A = Option Change} (same_value o p) None (Some (record { key = k; before = o; after = p })) in
      elim (is_within low high k) as (λ t. is_within low high k ≡ t
      → filter_map (change_at (part low high m) (part low high n)) (cond t (k ∷ filter (is_within low high) ks) (filter (is_within low high) ks)) ≡ changes_part low high (cons_option (change_at m n k) (filter_map (change_at m n) ks))) [
        | true ↦ λ is.
            let left : get (part low high m) k ≡ get m k = get-part m k ∙ ap (λ t. cond t (get m k) None) is in
            let right : get (part low high n) k ≡ get n k = get-part n k ∙ ap (λ t. cond t (get n k) None) is in
            ap (λ o. cons_option (between o (get (part low high n) k)) (filter_map (change_at (part low high m) (part low high n)) (filter (is_within low high) ks))) left
            ∙ ap (λ p. cons_option (between (get m k) p) (filter_map (change_at (part low high m) (part low high n)) (filter (is_within low high) ks))) right
            ∙ ap (cons_option (change_at m n k)) rest
            ∙ elim (same_value (get m k) (get n k)) as (λ t. cons_option (cond {A = Option Change} t None (Some (record { key = k; before = get m k; after = get n k }))) (changes_part low high (filter_map (change_at m n) ks))
            ≡ changes_part low high (cons_option (cond {A = Option Change} t None (Some (record { key = k; before = get m k; after = get n k }))) (filter_map (change_at m n) ks))) [
              | true ↦ refl
              | false ↦ sym (ap (λ t. cond t (record { key = k; before = get m k; after = get n k } ∷ changes_part low high (filter_map (change_at m n) ks)) (changes_part low high (filter_map (change_at m n) ks))) is)
            ]
        | false ↦ λ is.
            rest
            ∙ elim (same_value (get m k) (get n k)) as (λ t. changes_part low high (filter_map (change_at m n) ks)
            ≡ changes_part low high (cons_option (cond {A = Option Change} t None (Some (record { key = k; before = get m k; after = get n k }))) (filter_map (change_at m n) ks))) [
              | true ↦ refl
              | false ↦ sym (ap (λ t. cond t (record { key = k; before = get m k; after = get n k } ∷ changes_part low high (filter_map (change_at m n) ks)) (changes_part low high (filter_map (change_at m n) ks))) is)
            ]
      ] refl

  -- the part of the differences of two maps is the differences of their parts
  pub changes_part-delta : (m n : Map) → IsMap n → changes_part low high (delta m n) ≡ delta (part low high m) (part low high n)
  changes_part-delta m n h =
      sym (changes_at_part m n (keys_of m n))
      ∙ ap (filter_map (change_at (part low high m) (part low high n))) (sym (keys_part (over m n)) ∙ ap (map (λ r. r.0)) (part_over m n h))

  -- ---- parts of joined records

  pub part-append : (m n : Map) → part low high (m ++ n) ≡ part low high m ++ part low high n
  part-append m n = filter-append (λ r. is_within low high r.0) m n

  -- a record of the part, before others
  pub part_in : (r : Key × List ℕ) (m : Map) → is_within low high r.0 ≡ true → part low high (r ∷ m) ≡ r ∷ part low high m
  part_in r m is = ap (λ t. cond t (r ∷ part low high m) (part low high m)) is

  -- and one that is not
  pub part_out : (r : Key × List ℕ) (m : Map) → is_within low high r.0 ≡ false → part low high (r ∷ m) ≡ part low high m
  part_out r m is = ap (λ t. cond t (r ∷ part low high m) (part low high m)) is

  pub is_before : (key : Key) → place key < low → is_within low high key ≡ false
  is_before key lt = and_left (nat_le low (place key)) (nat_le (place key) high) (lt-leb low (place key) lt)

  pub is_behind : (key : Key) → high < place key → is_within low high key ≡ false
  is_behind key lt = and_right (nat_le low (place key)) (nat_le (place key) high) (lt-leb (place key) high lt)

  -- records before the part, and records behind it
  pub part_before : (m : Map) → AllByRecursion (λ r. place r.0 < low) m → part low high m ≡ []
  part_before [] all = refl
  part_before (r ∷ m) all = part_out r m (is_before r.0 all.0) ∙ part_before m all.1

  pub part_behind : (m : Map) → AllByRecursion (λ r. high < place r.0) m → part low high m ≡ []
  part_behind [] all = refl
  part_behind (r ∷ m) all = part_out r m (is_behind r.0 all.0) ∙ part_behind m all.1
