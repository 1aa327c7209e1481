-- Two lists of changes side by side give the conflicts of two maps, and what a merge of them changes.
use Rattle.std.proofs.Common.{◌≡◌, ℕ, ◌+◌, ◌<◌, Bool, true, false, cond, if◌then◌else◌, ◌||◌, List, [], ◌∷◌, ◌++◌, map, filter_map, take, drop, length, get_or, Option, Some, None, is_some, is_none, Less, Equal, Greater, refl, sym, ap, ◌∙◌, subst, option_map, option_to_list, append-nil, append_assoc, Result, Ok, Err, is_ok, OnOk}
use Rattle.std.specs.List.{list_any, cons_option}
use Rattle.std.specs.Option.{option_and_then, unwrap_or}
use Rattle.std.specs.Ordering.{is_lt, is_eq, ordering_reverse}
use Rattle.std.specs.Cmp.{tied_itself}
use Rattle.std.specs.FinMap.Entries as entries
use Rattle.std.specs.BTreeMap.{is_at}
use Rattle.std.specs.Map.{lookup}
use Rattle.std.proofs.lemmas.Bool.{and_parts, or_parts, false≢true}
use Rattle.std.proofs.lemmas.Bool.Decides.{same_from_decides}
use Rattle.std.proofs.lemmas.List.{drop_more, take_more, map-append}
use Rattle.vm_types.specs.declared.key.Key.{Key}
use Rattle.vm_types.specs.declared.change.Change.{Change}
use Rattle.vm_types.specs.declared.change.Conflict.{Conflict}
use Rattle.vm_types.specs.declared.command.Side.{Side}
use Rattle.vm_types.specs.declared.command.Side.TheVariants.{Mine, Theirs}
use Rattle.vm_types.specs.Map.{key_cmp, same_key, Map, IsMap, get, same_value, over, keys_of, change_at, delta, three, conflict_at, conflicts, side_of, settled_value, merge}
use Rattle.vm_types.specs.Step.{first_repeated}
use Rattle.vm_types.proofs.Keys.{keys_total, exact_keys, same_key-Decides, same_maps, is_less}
use Rattle.vm_types.proofs.Maps.{same_value-Decides, keys_of-any, tabulated, get-tabulated, IsMap-tabulated, IsMap-over, IsMap-merge, get-merge}
use Rattle.vm_types.proofs.ChangeLemmas.{is_below, is_below-lower, is_below-head, IsMap-tail, get_below, change_of}
use Rattle.vm_types.specs.Merge.{from_key, first_at, clash, chosen, taken}

pub or_true_left : (s t : Bool) → s ≡ true → (s || t) ≡ true
or_true_left true t h = refl
or_true_left false t h = cc

pub or_true_right : (s t : Bool) → t ≡ true → (s || t) ≡ true
or_true_right true t h = refl
or_true_right false t h = h

-- ---- keys in a list

-- a key that is below a map is none of its keys
not_any_below : (q : Key) (m : Map) → is_below q m ≡ true → list_any (same_key q) (map (λ r. r.0) m) ≡ false
not_any_below q m h = sym (entries.is_some-find key_cmp q m) ∙ ap is_some (get_below q m h)

-- a key that is below a map is below each of its keys
pub above_all : (k q : Key) (m : Map) → is_below k m ≡ true → list_any (same_key q) (map (λ r. r.0) m) ≡ true → key_cmp k q ≡ Less
above_all k q [] h any = cc
above_all k q (r ∷ m) h any =
    let here = and_parts (is_lt (key_cmp k r.0)) (is_below k m) h in
    elim (same_key q r.0) as (λ t. same_key q r.0 ≡ t → (t || list_any (same_key q) (map (λ r. r.0) m)) ≡ true → key_cmp k q ≡ Less) [
      | true ↦ λ is e. subst (λ j. key_cmp k j ≡ Less) (sym ((same_key-Decides q r.0).0 is)) (is_less (key_cmp k r.0) here.0)
      | false ↦ λ is e. above_all k q m here.1 e
    ] refl any

-- ---- changes at a key

-- the changes from a later key on are the same after an earlier one
from_key-later : (k q : Key) (changes : List Change) → key_cmp k q ≡ Less → from_key q (from_key k changes) ≡ from_key q changes
from_key-later k q [] h = refl
from_key-later k q (c ∷ changes) h =
    elim (key_cmp c.key k) as (λ o. key_cmp c.key k ≡ o → from_key q (cond (is_lt o) (from_key k changes) (c ∷ changes)) ≡ from_key q (c ∷ changes)) [
      | Less ↦ λ is. from_key-later k q changes h ∙ sym (ap (λ o. cond (is_lt o) (from_key q changes) (c ∷ changes)) (keys_total.trans c.key k q is h))
      | Equal ↦ λ is. refl
      | Greater ↦ λ is. refl
    ] refl

-- the change at a key, of changes by rising keys
abbrev pub at_key : Key → List Change → Option Change
at_key key changes = first_at key (from_key key changes)

-- a change has the key at which the maps differ
pub key-change_at : (m n : Map) (k : Key) (c : Change) → change_at m n k ≡ Some c → c.key ≡ k
key-change_at m n k c h =
    elim (same_value (get m k) (get n k)) as (λ t. cond {A = Option Change} t None (Some (record { key = k; before = get m k; after = get n k })) ≡ Some c → c.key ≡ k) [
      | true ↦ λ e. cc
      | false ↦ λ e. ap (λ o. unwrap_or (option_map (λ (d : Change). d.key) o) k) (sym e)
    ] h

none_from : (o : Option (List ℕ)) → is_some o ≡ false → o ≡ None
none_from None h = refl
none_from (Some v) h = cc

-- a key of neither map has no change
no_change : (m n : Map) (q : Key) → list_any (same_key q) (keys_of m n) ≡ false → (get m q ≡ None) × (get n q ≡ None)
no_change m n q absent =
    let parts = or_parts (is_some (get m q)) (is_some (get n q)) (sym (keys_of-any m n q) ∙ absent) in
    (none_from (get m q) parts.0, none_from (get n q) parts.1)

cond_none : {X : Type 0} (t : Bool) → cond {A = Option X} t None None ≡ None
cond_none true = refl
cond_none false = refl

module _ (m n : Map) where
  -- the change at a key, of the changes at the keys of a map
  at_key-listed : (x : Map) → IsMap x → (q : Key) → at_key q (filter_map (change_at m n) (map (λ r. r.0) x)) ≡ cond (list_any (same_key q) (map (λ r. r.0) x)) (change_at m n q) None
  at_key-listed [] h q = refl
  at_key-listed (r ∷ x) h q =
      let rest = filter_map (change_at m n) (map (λ r. r.0) x) in
      let any = list_any (same_key q) (map (λ r. r.0) x) in
      let later : at_key q rest ≡ cond any (change_at m n q) None = at_key-listed x (IsMap-tail r x h) q in
      elim (change_at m n r.0) as (λ o. change_at m n r.0 ≡ o → at_key q (cons_option o rest) ≡ cond (same_key q r.0 || any) (change_at m n q) None) [
        | None ↦ λ none. later ∙ elim (same_key q r.0) as (λ t. same_key q r.0 ≡ t → cond any (change_at m n q) None ≡ cond (t || any) (change_at m n q) None) [
          | true ↦ λ is.
              let here : change_at m n q ≡ None = ap (change_at m n) ((same_key-Decides q r.0).0 is) ∙ none in
              ap (λ o. cond any o None) here ∙ cond_none any ∙ sym here
          | false ↦ λ is. refl
        ] refl
        | Some c ↦ λ some.
            let key : c.key ≡ r.0 = key-change_at m n r.0 c some in
            elim (key_cmp r.0 q) as (λ o. key_cmp r.0 q ≡ o → at_key q (c ∷ rest) ≡ cond (same_key q r.0 || any) (change_at m n q) None) [
              | Less ↦ λ is.
                  ap (λ k. first_at q (cond (is_lt (key_cmp k q)) (from_key q rest) (c ∷ rest))) key
                  ∙ ap (λ o. first_at q (cond (is_lt o) (from_key q rest) (c ∷ rest))) is
                  ∙ later
                  ∙ sym (ap (λ o. cond (is_eq o || any) (change_at m n q) None) (keys_total.antisymm q r.0 ∙ ap ordering_reverse is))
              | Equal ↦ λ is.
                  ap (λ k. first_at q (cond (is_lt (key_cmp k q)) (from_key q rest) (c ∷ rest))) key
                  ∙ ap (λ o. first_at q (cond (is_lt o) (from_key q rest) (c ∷ rest))) is
                  ∙ ap (λ k. cond (same_key k q) (Some c) None) key
                  ∙ ap (λ o. cond (is_eq o) (Some c) None) is
                  ∙ sym some
                  ∙ ap (change_at m n) (exact_keys r.0 q is)
                  ∙ sym (ap (λ o. cond (is_eq o || any) (change_at m n q) None) (keys_total.antisymm q r.0 ∙ ap ordering_reverse is))
              | Greater ↦ λ is.
                  let low : key_cmp q r.0 ≡ Less = keys_total.antisymm q r.0 ∙ ap ordering_reverse is in
                  ap (λ k. first_at q (cond (is_lt (key_cmp k q)) (from_key q rest) (c ∷ rest))) key
                  ∙ ap (λ o. first_at q (cond (is_lt o) (from_key q rest) (c ∷ rest))) is
                  ∙ ap (λ k. cond (same_key k q) (Some c) None) key
                  ∙ ap (λ o. cond (is_eq o) (Some c) None) is
                  ∙ sym (ap (λ t. cond t (change_at m n q) None) (not_any_below q x (is_below-lower q r.0 x low (is_below-head r x h))))
                  ∙ sym (ap (λ o. cond (is_eq o || any) (change_at m n q) None) low)
            ] refl
      ] refl

  -- the change at a key, of all changes
  at_key-delta : IsMap n → (q : Key) → at_key q (delta m n) ≡ change_at m n q
  at_key-delta h q =
      at_key-listed (over m n) (IsMap-over m n h) q
      ∙ elim (list_any (same_key q) (keys_of m n)) as (λ t. list_any (same_key q) (keys_of m n) ≡ t → cond t (change_at m n q) None ≡ change_at m n q) [
        | true ↦ λ is. refl
        | false ↦ λ is.
            let none = no_change m n q is in
            sym (ap (λ o. change_of q o (get n q)) none.0 ∙ ap (change_of q None) none.1)
      ] refl

-- ---- two lists of changes

-- what each change of the parent gives with one's own change at its key, where both lists rise by keys
abbrev pub side_by_side : {X : Type 0} → (Change → Option Change → Option X) → List Change → List Change → List X
side_by_side give [] mine = []
side_by_side give (c ∷ theirs) mine = cons_option (give c (first_at c.key (from_key c.key mine))) (side_by_side give theirs (from_key c.key mine))

-- what may be one more stands between a list and its rest
pub appended : {X : Type 0} (found : List X) (one : Option X) (rest : List X) → found ++ cons_option one rest ≡ (found ++ option_to_list one) ++ rest
appended found None rest = ap (λ xs. xs ++ rest) (sym (append-nil found))
appended found (Some x) rest = sym (append_assoc found (x ∷ []) rest)

-- the parent's change at a place, with one's own changes from its key on, gives its part of all; then the next is ahead
pub side_by_side-goes_on : {X : Type 0} (give : Change → Option Change → Option X) (theirs mine : List Change) (all found new : List X) (i at next : ℕ) (key : Key) (d : Change) → i < length theirs → key ≡ (get_or theirs i d).key
    → drop next mine ≡ from_key key (drop at mine) → all ≡ found ++ side_by_side give (drop i theirs) (drop at mine) → new ≡ found ++ option_to_list (give (get_or theirs i d) (first_at (get_or theirs i d).key (drop next mine)))
    → all ≡ new ++ side_by_side give (drop (i + 1) theirs) (drop next mine)
side_by_side-goes_on give theirs mine all found new i at next key d lt same_key ahead so_far adds =
    let t = get_or theirs i d in
    let later = drop (i + 1) theirs in
    let here : drop next mine ≡ from_key t.key (drop at mine) = subst (λ k. drop next mine ≡ from_key k (drop at mine)) same_key ahead in
    so_far
    ∙ ap (λ changes. found ++ side_by_side give changes (drop at mine)) (drop_more theirs i d lt)
    ∙ ap (λ own. found ++ cons_option (give t (first_at t.key own)) (side_by_side give later own)) (sym here)
    ∙ appended found (give t (first_at t.key (drop next mine))) (side_by_side give later (drop next mine))
    ∙ ap (λ xs. xs ++ side_by_side give later (drop next mine)) (sym adds)

-- the key of the conflict of a change of the parent with one's own
abbrev pub key_of_clash : Change → Option Change → Option Key
key_of_clash theirs own = option_map (λ c. c.key) (clash theirs own)

-- a part of what each gives
pub side_by_side-map : {X Y : Type 0} (part : X → Y) (give : Change → Option Change → Option X) (theirs mine : List Change) → side_by_side (λ t own. option_map part (give t own)) theirs mine ≡ map part (side_by_side give theirs mine)
side_by_side-map part give [] mine = refl
side_by_side-map {X = X} part give (c ∷ theirs) mine =
    ap (cons_option (option_map part (give c (first_at c.key (from_key c.key mine))))) (side_by_side-map part give theirs (from_key c.key mine))
    ∙ one_more (give c (first_at c.key (from_key c.key mine))) (side_by_side give theirs (from_key c.key mine))
  where
    one_more : (o : Option X) (rest : List X) → cons_option (option_map part o) (map part rest) ≡ map part (cons_option o rest)
    one_more None rest = refl
    one_more (Some x) rest = refl

-- what holds where a call succeeds, and it did
pub when_ok : {T E P : Type 0} (r : Result T E) → is_ok r ≡ true → OnOk r P → P
when_ok (Ok x) is p = p
when_ok (Err e) is p = absurd (false≢true is)

-- the changes from a key on stop at one that is no lower, and go past a lower one
pub from_key-stops : (key : Key) (changes : List Change) (i : ℕ) (d : Change) → i < length changes → is_lt (key_cmp (get_or changes i d).key key) ≡ false → from_key key (drop i changes) ≡ drop i changes
from_key-stops key changes i d lt above =
    let all = drop_more changes i d lt in
    let c = get_or changes i d in
    ap (from_key key) all ∙ ap (λ t. cond t (from_key key (drop (i + 1) changes)) (c ∷ drop (i + 1) changes)) above ∙ sym all

pub from_key-passes : (key : Key) (changes : List Change) (i : ℕ) (d : Change) → i < length changes → is_lt (key_cmp (get_or changes i d).key key) ≡ true → from_key key (drop i changes) ≡ from_key key (drop (i + 1) changes)
from_key-passes key changes i d lt below =
    ap (from_key key) (drop_more changes i d lt) ∙ ap (λ t. cond t (from_key key (drop (i + 1) changes)) (get_or changes i d ∷ drop (i + 1) changes)) below

-- what a change of the parent gives with one's own
abbrev pub joined : {X : Type 0} → (Change → Option Change → Option X) → Option Change → Option Change → Option X
joined give theirs own = option_and_then (λ t. give t own) theirs

module _ {X : Type 0} (give : Change → Option Change → Option X) (m n : Map) (own : Key → Option Change) where
  -- side by side each key gives what its two changes do
  side_by_side-listed : (x : Map) (mine : List Change) → IsMap x → ((q : Key) → list_any (same_key q) (map (λ r. r.0) x) ≡ true → at_key q mine ≡ own q)
      → side_by_side give (filter_map (change_at m n) (map (λ r. r.0) x)) mine ≡ filter_map (λ k. joined give (change_at m n k) (own k)) (map (λ r. r.0) x)
  side_by_side-listed [] mine h is = refl
  side_by_side-listed (r ∷ x) mine h is =
      let keys = map (λ r. r.0) x in
      let rest = filter_map (change_at m n) keys in
      let later : (q : Key) → list_any (same_key q) keys ≡ true → at_key q mine ≡ own q = λ q any. is q (or_true_right (same_key q r.0) _ any) in
      elim (change_at m n r.0) as (λ o. change_at m n r.0 ≡ o → side_by_side give (cons_option o rest) mine ≡ cons_option (joined give o (own r.0)) (filter_map (λ k. joined give (change_at m n k) (own k)) keys)) [
        | None ↦ λ none. side_by_side-listed x mine (IsMap-tail r x h) later
        | Some c ↦ λ some.
            ap (λ k. cons_option (give c (at_key k mine)) (side_by_side give rest (from_key k mine))) (key-change_at m n r.0 c some)
            ∙ ap (λ o. cons_option (give c o) (side_by_side give rest (from_key r.0 mine))) (is r.0 (or_true_left _ _ (ap is_eq (tied_itself keys_total r.0))))
            ∙ ap (cons_option (give c (own r.0))) (side_by_side-listed x (from_key r.0 mine) (IsMap-tail r x h) (λ q any. ap (first_at q) (from_key-later r.0 q mine (above_all r.0 q x (is_below-head r x h) any)) ∙ later q any))
      ] refl

-- ---- lists by keys

filter_map_alike : {X : Type 0} (f g : Key → Option X) (keys : List Key) → ((k : Key) → f k ≡ g k) → filter_map f keys ≡ filter_map g keys
filter_map_alike f g [] is = refl
filter_map_alike f g (k ∷ keys) is = ap (λ o. cons_option o (filter_map f keys)) (is k) ∙ ap (cons_option (g k)) (filter_map_alike f g keys is)

-- each key that gives something is in the list
abbrev pub Covers : {X : Type 0} → (Key → Option X) → List Key → Type 0
Covers f keys = (q : Key) → list_any (same_key q) keys ≡ false → f q ≡ None

-- a mark at each key that gives something
abbrev mark : {X : Type 0} → Option X → Option (List ℕ)
mark o = option_map (λ _. []) o

module _ {X : Type 0} (f : Key → Option X) where
  -- the other keys may be left out
  given_at_marks : (keys : List Key) → filter_map f (map (λ r. r.0) (tabulated (λ k. mark (f k)) keys)) ≡ filter_map f keys
  given_at_marks [] = refl
  given_at_marks (k ∷ keys) =
      elim (f k) as (λ o. f k ≡ o → filter_map f (map (λ r. r.0) (cons_option (option_map (λ value. (k, value)) (mark o)) (tabulated (λ k. mark (f k)) keys))) ≡ cons_option o (filter_map f keys)) [
        | None ↦ λ is. given_at_marks keys
        | Some x ↦ λ is. ap (λ o. cons_option o (filter_map f (map (λ r. r.0) (tabulated (λ k. mark (f k)) keys)))) is ∙ ap (cons_option (Some x)) (given_at_marks keys)
      ] refl

  get-marks : (keys : List Key) → Covers f keys → (q : Key) → get (tabulated (λ k. mark (f k)) keys) q ≡ mark (f q)
  get-marks keys covers q =
      get-tabulated (λ k. mark (f k)) keys q
      ∙ elim (list_any (same_key q) keys) as (λ t. list_any (same_key q) keys ≡ t → cond t (mark (f q)) None ≡ mark (f q)) [
        | true ↦ λ is. refl
        | false ↦ λ is. sym (ap mark (covers q is))
      ] refl

  -- two lists of rising keys that have each key that gives something give the same
  same_given : (x y : Map) → IsMap x → IsMap y → Covers f (map (λ r. r.0) x) → Covers f (map (λ r. r.0) y) → filter_map f (map (λ r. r.0) x) ≡ filter_map f (map (λ r. r.0) y)
  same_given x y g h left right =
      let marks : Map → Map = λ (z : Map). tabulated (λ k. mark (f k)) (map (λ r. r.0) z) in
      sym (given_at_marks (map (λ r. r.0) x))
      ∙ ap (λ z. filter_map f (map (λ r. r.0) z)) (same_maps (marks x) (marks y) (IsMap-tabulated (λ k. mark (f k)) x g) (IsMap-tabulated (λ k. mark (f k)) y h) (λ q. get-marks _ left q ∙ sym (get-marks _ right q)))
      ∙ given_at_marks (map (λ r. r.0) y)

-- ---- at one key

pub same_value-sym : (u v : Option (List ℕ)) → same_value u v ≡ same_value v u
same_value-sym u v = same_from_decides (same_value u v) (same_value v u) (same_value-Decides u v) ((λ h. sym ((same_value-Decides v u).0 h)), (λ e. (same_value-Decides v u).1 (sym e)))

same_value-refl : (u : Option (List ℕ)) → same_value u u ≡ true
same_value-refl u = (same_value-Decides u u).1 refl

-- the conflict of three values at a key, if they are in conflict
abbrev conflict_of : Key → Option (List ℕ) → Option (List ℕ) → Option (List ℕ) → Option Conflict
conflict_of key base parent mine = if is_none (three base parent mine) then Some (record { key = key; base = base; parent = parent; mine = mine }) else None

module _ (key : Key) (base parent mine : Option (List ℕ)) where
  -- the two changes at a key are in conflict where the three values are
  clash_at : joined clash (change_of key base parent) (change_of key base mine) ≡ conflict_of key base parent mine
  clash_at =
      let conflict : Option Conflict = Some (record { key = key; base = base; parent = parent; mine = mine }) in
      ap (λ t. joined clash (cond {A = Option Change} t None (Some (record { key = key; before = base; after = parent }))) (change_of key base mine)) (same_value-sym base parent)
      ∙ ap (λ t. joined clash (cond {A = Option Change} (same_value parent base) None (Some (record { key = key; before = base; after = parent }))) (cond {A = Option Change} t None (Some (record { key = key; before = base; after = mine })))) (same_value-sym base mine)
      ∙ elim (same_value parent base) as (λ t. joined clash (cond {A = Option Change} t None (Some (record { key = key; before = base; after = parent }))) (cond {A = Option Change} (same_value mine base) None (Some (record { key = key; before = base; after = mine }))) ≡ cond (is_none (cond t (Some mine) (cond (same_value mine base) (Some parent) (cond (same_value mine parent) (Some mine) None)))) conflict None) [
        | true ↦ refl
        | false ↦ elim (same_value mine base) as (λ t. joined clash (Some (record { key = key; before = base; after = parent })) (cond {A = Option Change} t None (Some (record { key = key; before = base; after = mine }))) ≡ cond (is_none (cond t (Some parent) (cond (same_value mine parent) (Some mine) None))) conflict None) [
          | true ↦ refl
          | false ↦ elim (same_value mine parent) as (λ t. cond {A = Option Conflict} t None conflict ≡ cond (is_none (cond t (Some mine) None)) conflict None) [ true ↦ refl | false ↦ refl ]
        ]
      ]

  -- the two changes at a key give what the merge changes there
  taken_at : (settled : List (Key × Side)) → joined (taken settled) (change_of key base parent) (change_of key base mine) ≡ change_of key mine (settled_value (three base parent mine) (side_of settled key) parent mine)
  taken_at settled =
      let side = side_of settled key in
      let theirs : Change = record { key = key; before = base; after = parent } in
      let own : Change = record { key = key; before = base; after = mine } in
      let same : change_of key mine mine ≡ None = ap (λ t. cond {A = Option Change} t None (Some (record { key = key; before = mine; after = mine }))) (same_value-refl mine) in
      ap (λ t. joined (taken settled) (cond {A = Option Change} t None (Some theirs)) (change_of key base mine)) (same_value-sym base parent)
      ∙ ap (λ t. joined (taken settled) (cond {A = Option Change} (same_value parent base) None (Some theirs)) (cond {A = Option Change} t None (Some own))) (same_value-sym base mine)
      ∙ elim (same_value parent base) as (λ t. same_value parent base ≡ t → joined (taken settled) (cond {A = Option Change} t None (Some theirs)) (cond {A = Option Change} (same_value mine base) None (Some own)) ≡ change_of key mine (settled_value (cond t (Some mine) (cond (same_value mine base) (Some parent) (cond (same_value mine parent) (Some mine) None))) side parent mine)) [
        | true ↦ λ _. sym same
        | false ↦ λ apart. elim (same_value mine base) as (λ t. same_value mine base ≡ t → joined (taken settled) (Some theirs) (cond {A = Option Change} t None (Some own)) ≡ change_of key mine (settled_value (cond t (Some parent) (cond (same_value mine parent) (Some mine) None)) side parent mine)) [
          | true ↦ λ is.
              let back : mine ≡ base = (same_value-Decides mine base).0 is in
              sym (ap (λ v. change_of key v parent) back ∙ ap (λ t. cond {A = Option Change} t None (Some theirs)) (same_value-sym base parent ∙ apart))
          | false ↦ λ _. elim (same_value mine parent) as (λ t. same_value mine parent ≡ t → cond {A = Option Change} t None (chosen side theirs own) ≡ change_of key mine (settled_value (cond t (Some mine) None) side parent mine)) [
            | true ↦ λ _. sym same
            | false ↦ λ clash. elim side as (λ o. chosen o theirs own ≡ change_of key mine (settled_value None o parent mine)) [
              | None ↦ sym same
              | Some which ↦ elim which as (λ w. chosen (Some w) theirs own ≡ change_of key mine (settled_value None (Some w) parent mine)) [
                | Mine ↦ sym same
                | Theirs ↦ sym (ap (λ t. cond {A = Option Change} t None (Some (record { key = key; before = mine; after = parent }))) clash)
              ]
            ]
          ] refl
        ] refl
      ] refl

-- ---- all keys

module _ (base parent own : Map) (g : IsMap parent) (h : IsMap own) where
  -- side by side the changes of both give what their changes at each key do
  side_by_side-deltas : {X : Type 0} (give : Change → Option Change → Option X) → side_by_side give (delta base parent) (delta base own) ≡ filter_map (λ k. joined give (change_at base parent k) (change_at base own k)) (keys_of base parent)
  side_by_side-deltas give = side_by_side-listed give base parent (change_at base own) (over base parent) (delta base own) (IsMap-over base parent g) (λ q _. at_key-delta base own h q)

  conflict_covers-left : Covers (conflict_at base parent own) (keys_of base parent)
  conflict_covers-left q absent =
      let none = no_change base parent q absent in
      ap (λ v. conflict_of q v (get parent q) (get own q)) none.0 ∙ ap (λ v. conflict_of q None v (get own q)) none.1

  pub conflict_covers-right : Covers (conflict_at base parent own) (keys_of parent own)
  conflict_covers-right q absent =
      let none = no_change parent own q absent in
      ap (λ v. conflict_of q (get base q) v (get own q)) none.0
      ∙ ap (λ v. conflict_of q (get base q) None v) none.1
      ∙ elim (get base q) as (λ v. conflict_of q v None None ≡ None) [ None ↦ refl | Some v ↦ refl ]

  -- the changes of both sides tell their conflicts
  pub conflicts-deltas : side_by_side clash (delta base parent) (delta base own) ≡ conflicts base parent own
  conflicts-deltas =
      side_by_side-deltas clash
      ∙ filter_map_alike _ (conflict_at base parent own) (keys_of base parent) (λ k. clash_at k (get base k) (get parent k) (get own k))
      ∙ same_given (conflict_at base parent own) (over base parent) (over parent own) (IsMap-over base parent g) (IsMap-over parent own h) conflict_covers-left conflict_covers-right

  module _ (settled : List (Key × Side)) where
    change_covers-left : Covers (change_at own (merge base parent own settled)) (keys_of base parent)
    change_covers-left q absent =
        let none = no_change base parent q absent in
        ap (change_of q (get own q)) (get-merge base parent own settled q)
        ∙ ap (λ v. change_of q (get own q) (settled_value (three v (get parent q) (get own q)) (side_of settled q) (get parent q) (get own q))) none.0
        ∙ ap (λ v. change_of q (get own q) (settled_value (three None v (get own q)) (side_of settled q) v (get own q))) none.1
        ∙ ap (λ t. cond {A = Option Change} t None (Some (record { key = q; before = get own q; after = get own q }))) (same_value-refl (get own q))

    change_covers-right : Covers (change_at own (merge base parent own settled)) (keys_of own (merge base parent own settled))
    change_covers-right q absent =
        let none = no_change own (merge base parent own settled) q absent in
        ap (λ v. change_of q v (get (merge base parent own settled) q)) none.0 ∙ ap (change_of q None) none.1

    -- and what a merge changes
    pub merge-deltas : side_by_side (taken settled) (delta base parent) (delta base own) ≡ delta own (merge base parent own settled)
    merge-deltas =
        let merged = merge base parent own settled in
        side_by_side-deltas (taken settled)
        ∙ filter_map_alike _ (change_at own merged) (keys_of base parent) (λ k. taken_at k (get base k) (get parent k) (get own k) settled ∙ sym (ap (change_of k (get own k)) (get-merge base parent own settled k)))
        ∙ same_given (change_at own merged) (over base parent) (over own merged) (IsMap-over base parent g) (IsMap-over own merged (IsMap-merge base parent own settled h)) change_covers-left change_covers-right

-- ---- keys that are settled twice

module _ (settled : List (Key × Side)) (i : ℕ) (d : Key × Side) (lt : i < length settled) where
  -- the first key that repeats an earlier one: the key at a place, or one behind it
  first_repeated-at : (t : Bool) → is_some (side_of (take i settled) (get_or settled i d).0) ≡ t
      → first_repeated (map (λ e. e.0) (take i settled)) (map (λ e. e.0) (drop i settled))
      ≡ (if t then Some (get_or settled i d).0 else first_repeated (map (λ e. e.0) (take (i + 1) settled)) (map (λ e. e.0) (drop (i + 1) settled)))
  first_repeated-at t is =
      let keys : List (Key × Side) → List Key = map (λ e. e.0) in
      let key = (get_or settled i d).0 in
      ap (λ rest. first_repeated (keys (take i settled)) (keys rest)) (drop_more settled i d lt)
      ∙ ap (λ t. cond {A = Option Key} t (Some key) (first_repeated (keys (take i settled) ++ key ∷ []) (keys (drop (i + 1) settled)))) (sym (entries.is_some-find key_cmp key (take i settled)) ∙ is)
      ∙ ap (λ earlier. cond {A = Option Key} t (Some key) (first_repeated earlier (keys (drop (i + 1) settled)))) (sym (ap keys (take_more settled i d lt) ∙ map-append (λ (e : Key × Side). e.0) (take i settled) (get_or settled i d ∷ [])))

  pub first_repeated-here : is_some (side_of (take i settled) (get_or settled i d).0) ≡ true → first_repeated (map (λ e. e.0) (take i settled)) (map (λ e. e.0) (drop i settled)) ≡ Some (get_or settled i d).0
  first_repeated-here is = first_repeated-at true is

  pub first_repeated-later : is_some (side_of (take i settled) (get_or settled i d).0) ≡ false
      → first_repeated (map (λ e. e.0) (take i settled)) (map (λ e. e.0) (drop i settled)) ≡ first_repeated (map (λ e. e.0) (take (i + 1) settled)) (map (λ e. e.0) (drop (i + 1) settled))
  first_repeated-later is = first_repeated-at false is

-- ---- settlements by key

same_key-sym : (j k : Key) → same_key j k ≡ same_key k j
same_key-sym j k =
    elim (key_cmp j k) as (λ o. key_cmp j k ≡ o → is_eq o ≡ same_key k j) [
      | Less ↦ λ is. sym (ap is_eq (keys_total.antisymm k j ∙ ap ordering_reverse is))
      | Equal ↦ λ is. sym (ap is_eq (keys_total.antisymm k j ∙ ap ordering_reverse is))
      | Greater ↦ λ is. sym (ap is_eq (keys_total.antisymm k j ∙ ap ordering_reverse is))
    ] refl

-- a settlement of a new key, behind others, gives its side to that key alone
side_of-behind : (settled : List (Key × Side)) (e : Key × Side) → is_some (side_of settled e.0) ≡ false → (q : Key)
    → side_of (settled ++ e ∷ []) q ≡ (if same_key e.0 q then Some e.1 else side_of settled q)
side_of-behind [] e new q = ap (λ t. cond {A = Option Side} t (Some e.1) None) (same_key-sym q e.0)
side_of-behind (x ∷ settled) e new q =
    let first : same_key e.0 x.0 ≡ false = none_first (same_key e.0 x.0) x.1 (side_of settled e.0) new in
    let rest : is_some (side_of settled e.0) ≡ false = sym (ap (λ t. is_some (cond {A = Option Side} t (Some x.1) (side_of settled e.0))) first) ∙ new in
    let later = side_of-behind settled e rest q in
    elim (key_cmp q x.0) as (λ o. key_cmp q x.0 ≡ o → cond (is_eq o) (Some x.1) (side_of (settled ++ e ∷ []) q) ≡ cond (same_key e.0 q) (Some e.1) (cond (is_eq o) (Some x.1) (side_of settled q))) [
      | Less ↦ λ _. later
      | Equal ↦ λ is. sym (ap (λ t. cond {A = Option Side} t (Some e.1) (Some x.1)) (ap (same_key e.0) (exact_keys q x.0 is) ∙ first))
      | Greater ↦ λ _. later
    ] refl
  where
    none_first : (t : Bool) (side : Side) (rest : Option Side) → is_some (cond {A = Option Side} t (Some side) rest) ≡ false → t ≡ false
    none_first true side rest h = h
    none_first false side rest h = refl

-- sides with one settlement more, which is of a new key
pub side_of-more : (settled : List (Key × Side)) (i : ℕ) (d : Key × Side) → i < length settled → is_some (side_of (take i settled) (get_or settled i d).0) ≡ false → (sides more : Key → Option Side)
    → ((q : Key) → sides q ≡ side_of (take i settled) q) → ((q : Key) → more q ≡ (if same_key (get_or settled i d).0 q then Some (get_or settled i d).1 else sides q))
    → (q : Key) → more q ≡ side_of (take (i + 1) settled) q
side_of-more settled i d lt new sides more so_far one q =
    let e = get_or settled i d in
    one q
    ∙ ap (λ o. cond {A = Option Side} (same_key e.0 q) (Some e.1) o) (so_far q)
    ∙ sym (side_of-behind (take i settled) e new q)
    ∙ ap (λ earlier. side_of earlier q) (sym (take_more settled i d lt))

-- what a map by keys has at a key is what a search of its entries finds
pub side_of-entries : (sides : List (Key × Side)) (key : Key) → side_of sides key ≡ lookup (is_at (key_cmp key)) sides
side_of-entries [] key = refl
side_of-entries (e ∷ sides) key = ap (λ rest. cond (same_key key e.0) (Some e.1) rest) (side_of-entries sides key)

-- settlements that give each key the same side make the same merge
pub merge-alike : (base parent own : Map) (s t : List (Key × Side)) → ((key : Key) → side_of s key ≡ side_of t key) → merge base parent own s ≡ merge base parent own t
merge-alike base parent own s t is =
    filter_map_alike _ _ (keys_of parent own) (λ key. ap (λ side. option_map (λ value. (key, value)) (settled_value (three (get base key) (get parent key) (get own key)) side (get parent key) (get own key))) (is key))
