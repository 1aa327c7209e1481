-- What a change of the parent and one's own change at its key come to.
use Rattle.std.specs.Prelude.{◌≡◌, ℕ, Bool, List, [], ◌∷◌, ◌++◌, Option, Some, None, is_some, Result, Vec, IfOk, OnOk, drop, length, map, slice_index_or, option_map, option_to_list, find, not, if◌then◌else◌}
use Rattle.std.specs.List.{list_any}
use Rattle.std.specs.Ordering.{is_lt}
use Rattle.vm_types.specs.declared.key.Key.{Key}
use Rattle.vm_types.specs.declared.change.Change.{Change}
use Rattle.vm_types.specs.declared.change.Conflict.{Conflict}
use Rattle.vm_types.specs.declared.command.Side.{Side}
use Rattle.vm_types.specs.declared.command.Side.TheVariants.{Mine, Theirs}
use Rattle.vm_types.specs.declared.merge.MergePlan.{MergePlan}
use Rattle.vm_types.specs.declared.refusal.Refusal.{Refusal}
use Rattle.vm_types.specs.Map.{Map, IsMap, key_cmp, same_key, same_value, side_of, turned, IsSettled, delta, conflicts, merge, start_side, merge_start}
use Rattle.vm_types.specs.Step.{first_repeated}

-- the changes without the first ones that have lower keys
abbrev pub from_key : Key → List Change → List Change
from_key key [] = []
from_key key (c ∷ changes) = if is_lt (key_cmp c.key key) then from_key key changes else c ∷ changes

-- the first change, if it is at the key
abbrev pub first_at : Key → List Change → Option Change
first_at key [] = None
first_at key (c ∷ changes) = if same_key c.key key then Some c else None

-- the settlements without the first ones that have lower keys
abbrev pub settled_from : Key → List (Key × Side) → List (Key × Side)
settled_from key [] = []
settled_from key (e ∷ settled) = if is_lt (key_cmp e.0 key) then settled_from key settled else e ∷ settled

-- the conflict of a change of the parent with one's own
abbrev pub clash_of : Change → Change → Conflict
clash_of theirs own = record { key = theirs.key; base = theirs.before; parent = theirs.after; mine = own.after }

-- the same with one's own change at its key, if there is one and both made different values
abbrev pub clash : Change → Option Change → Option Conflict
clash theirs None = None
clash theirs (Some own) = if same_value own.after theirs.after then None else Some (clash_of theirs own)

-- what the merge changes at a key in conflict, by the side that it is settled to
abbrev pub chosen : Option Side → Change → Change → Option Change
chosen (Some Theirs) theirs own = Some (record { key = theirs.key; before = own.after; after = theirs.after })
chosen (Some Mine) theirs own = None
chosen None theirs own = None

-- the settlements where the changes of a side are taken: Theirs names this side
abbrev pub taking : Side → List (Key × Side) → List (Key × Side)
taking Theirs settled = settled
taking Mine settled = turned settled

-- what the merge changes at the key of a change of the parent
abbrev pub taken : List (Key × Side) → Change → Option Change → Option Change
taken settled theirs None = Some theirs
taken settled theirs (Some own) = if same_value own.after theirs.after then None else chosen (side_of settled theirs.key) theirs own

-- the first of the keys that is none of the others
abbrev pub first_missing : List Key → List Key → Option Key
first_missing others keys = find (λ key. not (list_any (same_key key) others)) keys

-- # Two lists of changes

-- the first change at the key of the one at i among those from one on
abbrev pub own_at : List Change → ℕ → List Change → ℕ → Change → Option Change
own_at theirs i mine at d = first_at (slice_index_or theirs i d).key (drop at mine)

-- the conflict of the change of the parent at i with one's own, if there is one
abbrev pub clash_at : List Change → ℕ → List Change → ℕ → Change → Option Conflict
clash_at theirs i mine at d = clash (slice_index_or theirs i d) (own_at theirs i mine at d)

-- it is told whether the change at a place is there, and has this key
abbrev pub TellsKey : Bool → Key → List Change → ℕ → Type 0
TellsKey answer key changes at = (d : Change) → first_at key (drop at changes) ≡ (if answer then Some (slice_index_or changes at d) else None)

-- it is told whether the changes at both places are in conflict
abbrev pub TellsClash : Bool → List Change → ℕ → List Change → ℕ → Type 0
TellsClash answer theirs i mine at =
    (d : Change) → clash_at theirs i mine at d ≡ (if answer then Some (clash_of (slice_index_or theirs i d) (slice_index_or mine at d)) else None)

-- it is told whether the merge changes something there
abbrev pub TellsTaken : Bool → List (Key × Side) → List Change → ℕ → List Change → ℕ → Type 0
TellsTaken answer settled theirs i mine at = (d : Change) → is_some (taken settled (slice_index_or theirs i d) (own_at theirs i mine at d)) ≡ answer

-- what the merge changes there is added
abbrev pub AddsTaken : {T E : Type 0} → Result T E → List (Key × Side) → List Change → ℕ → List Change → ℕ → List Change → List Change → Type 0
AddsTaken result settled theirs i mine at before after =
    (d : Change) → OnOk result (after ≡ before ++ option_to_list (taken settled (slice_index_or theirs i d) (own_at theirs i mine at d)))

-- their conflict is added, if there is one
abbrev pub AddsClash : {T E : Type 0} → Result T E → List Change → ℕ → List Change → ℕ → List Conflict → List Conflict → Type 0
AddsClash result theirs i mine at before after = (d : Change) → OnOk result (after ≡ before ++ option_to_list (clash_at theirs i mine at d))

-- its key is added
abbrev pub AddsKey : {T E : Type 0} → Result T E → List Change → ℕ → List Change → ℕ → List Key → List Key → Type 0
AddsKey result theirs i mine at before after =
    (d : Change) → OnOk result (after ≡ before ++ option_to_list (option_map (λ c. c.key) (clash_at theirs i mine at d)))

-- # Two sides that went on from one base

-- P holds of base, parent and one's own map, if these are the changes of both sides
abbrev pub OnSides : List Change → List Change → (Map → Map → Map → Type 0) → Type 0
OnSides theirs mine P = (base parent own : Map) → IsMap base → IsMap parent → IsMap own → theirs ≡ delta base parent → mine ≡ delta base own → P base parent own

-- the list is their conflicts
abbrev pub ListsConflicts : Result (List Conflict) Refusal → List Change → List Change → Type 0
ListsConflicts result theirs mine = OnSides theirs mine (λ base parent own. IfOk result (λ list. list ≡ conflicts base parent own))

-- the list is the keys of these
abbrev pub ListsKeys : {A : Type 0} → Result (Vec Key A) Refusal → List Change → List Change → Type 0
ListsKeys result theirs mine = OnSides theirs mine (λ base parent own. IfOk result (λ keys. keys.items ≡ map (λ c. c.key) (conflicts base parent own)))

-- the list is what their merge changes of one's own map
abbrev pub ListsMerge : Result (List Change) Refusal → List Change → List Change → List (Key × Side) → Type 0
ListsMerge result theirs mine settled = OnSides theirs mine (λ base parent own. IfOk result (λ list. list ≡ delta own (merge base parent own settled)))

-- their number is told
abbrev pub CountsMerge : ℕ → List Change → List Change → List (Key × Side) → Type 0
CountsMerge count theirs mine settled = OnSides theirs mine (λ base parent own. count ≡ length (delta own (merge base parent own settled)))

-- a merge is planned: the side that it begins with, the changes that it makes in that map, and how many records of one's own it changes
pub record IsPlan (plan : MergePlan) (own parent merged : Map) : Type 0 where
  pub start : plan.start ≡ start_side own parent merged
  pub changes : plan.changes ≡ delta (merge_start own parent merged) merged
  pub edits : plan.edits ≡ length (delta own merged)

-- the merge of two sides is planned, if each conflict is settled
abbrev pub PlansMerge : Result MergePlan Refusal → List Change → List Change → List (Key × Side) → Type 0
PlansMerge result theirs mine settled =
    OnSides theirs mine (λ base parent own. IsSettled base parent own settled → IfOk result (λ plan. IsPlan plan own parent (merge base parent own settled)))

-- # Settlements

-- the keys that are settled
abbrev pub settled_keys : List (Key × Side) → List Key
settled_keys settled = map (λ e. e.0) settled

-- no key is settled twice
abbrev pub IsSettledOnce : List (Key × Side) → Type 0
IsSettledOnce settled = first_repeated [] (settled_keys settled) ≡ None

-- this gives each key its side
abbrev pub HasSides : (Key → Option Side) → List (Key × Side) → Type 0
HasSides side settled = (key : Key) → side key ≡ side_of settled key

-- this key is the first that is settled twice
abbrev pub IsSettledTwice : List (Key × Side) → Key → Type 0
IsSettledTwice settled key = first_repeated [] (settled_keys settled) ≡ Some key

-- both give each key the same side
abbrev pub SameSides : List (Key × Side) → List (Key × Side) → Type 0
SameSides one other = (key : Key) → side_of one key ≡ side_of other key
