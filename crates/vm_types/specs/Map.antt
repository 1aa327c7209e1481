-- Maps from keys to values: what a record is, where two maps differ, how changes are made, and how three are merged.
use Rattle.std.specs.Prelude.{◌≡◌, ℕ, Bool, true, nat_le, length, is_some, not, ◌&&◌, List, [], ◌∷◌, map, filter_map, Option, Some, None, is_none, option_map, if◌then◌else◌, IsTrue, bytes_eq}
use Rattle.std.specs.Option.{option_eq}
use Rattle.std.specs.declared.cmp.Ordering.{Ordering}
use Rattle.std.specs.Ordering.{nat_cmp, ordering_then, eq_by_cmp}
use Rattle.std.specs.Cmp.Lexicographic.{pointwise}
use Rattle.std.specs.FinMap.Entries as entries
use Rattle.vm_types.specs.declared.key.Key.{Key}
use Rattle.vm_types.specs.declared.change.Change.{Change}
use Rattle.vm_types.specs.declared.change.Conflict.{Conflict}
use Rattle.vm_types.specs.declared.command.Side.{Side}
use Rattle.vm_types.specs.declared.command.Side.TheVariants.{Mine, Theirs}

-- keys go by table, then by number
abbrev pub key_cmp : Key → Key → Ordering
key_cmp a b = ordering_then (nat_cmp a.table b.table) (nat_cmp a.number b.number)

-- whether two keys have the same table and number
abbrev pub same_key : Key → Key → Bool
same_key = eq_by_cmp key_cmp

-- records, each a key with its value
abbrev pub Map : Type 0
Map = List (Key × List ℕ)

-- each key once, rising
abbrev pub IsMap : Map → Type 0
IsMap m = IsTrue (entries.is_sorted key_cmp m)

-- the value at a key, if there is one
abbrev pub get : Map → Key → Option (List ℕ)
get m key = entries.find key_cmp key m

-- the map with this value at the key
abbrev pub with_value : Map → Key → List ℕ → Map
with_value m key value = entries.put key_cmp key value m

-- the map without the key
abbrev pub without : Map → Key → Map
without m key = entries.where_key key_cmp (λ k. not (same_key key k)) m

-- whether two values are equal. Absence counts as a value
abbrev pub same_value : Option (List ℕ) → Option (List ℕ) → Bool
same_value = option_eq bytes_eq

-- n with the records of m put into it
abbrev pub over : Map → Map → Map
over [] n = n
over (r ∷ m) n = over m (with_value n r.0 r.1)

-- the keys of either map, each once, rising
abbrev pub keys_of : Map → Map → List Key
keys_of m n = map (λ r. r.0) (over m n)

-- how two maps differ at a key, if they do
abbrev pub change_at : Map → Map → Key → Option Change
change_at m n key = if same_value (get m key) (get n key) then None else Some (record { key = key; before = get m key; after = get n key })

-- where two maps differ: each such key once, rising, with both values
abbrev pub delta : Map → Map → List Change
delta m n = filter_map (change_at m n) (keys_of m n)

-- the three-way rule at one key: if the parent has the base's value, one's own; if one's own is the base's,
-- the parent's; if both are equal, that one; and None if the key is in conflict
abbrev pub three : Option (List ℕ) → Option (List ℕ) → Option (List ℕ) → Option (Option (List ℕ))
three base parent mine =
    if same_value parent base then Some mine
    else if same_value mine base then Some parent
    else if same_value mine parent then Some mine
    else None

-- the conflict at a key, if it is in conflict
abbrev pub conflict_at : Map → Map → Map → Key → Option Conflict
conflict_at base parent mine key =
    if is_none (three (get base key) (get parent key) (get mine key))
    then Some (record { key = key; base = get base key; parent = get parent key; mine = get mine key })
    else None

-- the keys in conflict, each once, rising, with the three values
abbrev pub conflicts : Map → Map → Map → List Conflict
conflicts base parent mine = filter_map (conflict_at base parent mine) (keys_of parent mine)

-- the first side that the settlements give to a key
abbrev pub side_of : List (Key × Side) → Key → Option Side
side_of settled key = entries.find key_cmp key settled

-- the other side
abbrev pub other_side : Side → Side
other_side Mine = Theirs
other_side Theirs = Mine

-- the settlements as the parent has them: each to the other side
abbrev pub turned : List (Key × Side) → List (Key × Side)
turned settled = map (λ e. (e.0, other_side e.1)) settled

-- what the three-way rule gives, and in a conflict the parent's value if the side is Theirs, else one's own
abbrev pub settled_value : Option (Option (List ℕ)) → Option Side → Option (List ℕ) → Option (List ℕ) → Option (List ℕ)
settled_value (Some value) side parent mine = value
settled_value None (Some Theirs) parent mine = parent
settled_value None (Some Mine) parent mine = mine
settled_value None None parent mine = mine

-- the value of the merge at a key
abbrev pub merged_at : Map → Map → Map → List (Key × Side) → Key → Option (List ℕ)
merged_at base parent mine settled key =
    settled_value (three (get base key) (get parent key) (get mine key)) (side_of settled key) (get parent key) (get mine key)

-- the map that has these values
abbrev pub merge : Map → Map → Map → List (Key × Side) → Map
merge base parent mine settled = filter_map (λ key. option_map (λ value. (key, value)) (merged_at base parent mine settled key)) (keys_of parent mine)

-- each key in conflict is settled
abbrev pub IsSettled : Map → Map → Map → List (Key × Side) → Type 0
IsSettled base parent mine settled = (key : Key) → three (get base key) (get parent key) (get mine key) ≡ None → is_some (side_of settled key) ≡ true

-- the side whose map a merge begins with: the parent's if no more changes lead from it to the merged map than from one's own
abbrev pub start_side : Map → Map → Map → Side
start_side own parent merged = if nat_le (length (delta parent merged)) (length (delta own merged)) then Theirs else Mine

-- the map of a side
abbrev pub map_of : Side → Map → Map → Map
map_of Mine own parent = own
map_of Theirs own parent = parent

-- the map that a merge begins with
abbrev pub merge_start : Map → Map → Map → Map
merge_start own parent merged = map_of (start_side own parent merged) own parent

-- whether two maps are equal, record by record
abbrev pub same_map : Map → Map → Bool
same_map = pointwise (λ r s. same_key r.0 s.0 && bytes_eq r.1 s.1)

-- the map with this value at the key, or without the key
abbrev pub put_or_taken : Map → Key → Option (List ℕ) → Map
put_or_taken m key None = without m key
put_or_taken m key (Some value) = with_value m key value

-- the map with a change made
abbrev pub with_change : Map → Change → Map
with_change m c = put_or_taken m c.key c.after

-- the map with changes made, one after another
abbrev pub with_changes : Map → List Change → Map
with_changes m [] = m
with_changes m (c ∷ changes) = with_changes (with_change m c) changes
