-- What one command does to a tree: a new tree with an answer, or a refusal.
use Rattle.std.specs.Prelude.{ℕ, Bool, not, List, [], ◌∷◌, ◌++◌, map, length, filter, find, nat_lt, Option, Some, None, is_some, is_none, option_map, Result, Ok, Err, if◌then◌else◌, bytes_eq}
use Rattle.std.specs.List.{list_any}
use Rattle.std.specs.Option.{option_or}
use Rattle.vm_types.specs.declared.key.Key.{Key}
use Rattle.vm_types.specs.declared.answer.Answer.{Answer}
use Rattle.vm_types.specs.declared.answer.Answer.TheVariants.{Done, Merged}
use Rattle.vm_types.specs.declared.command.Side.{Side}
use Rattle.vm_types.specs.declared.command.Command.{Command}
use Rattle.vm_types.specs.declared.command.Command.TheVariants.{New, NewAt, Drop, Put, Remove, Checkpoint, Uncheck, Back, Merge, Post, Commit, Rollback, Reclaim, Grow}
use Rattle.vm_types.specs.declared.refusal.Refusal.{Refusal}
use Rattle.vm_types.specs.declared.refusal.Refusal.TheVariants.{NoSuchAlternative, AlternativeExists, NoSuchCheckpoint, CheckpointExists, NoSuchRecord, IsTop, HasChildren, NotMerged, Unsettled, NotInConflict, SettledTwice, TooMany}
use Rattle.vm_types.specs.Map.{Map, same_key, get, with_value, without, delta, conflicts, side_of, merge, same_map}
use Rattle.vm_types.specs.Firsts.{without_first}
use Rattle.vm_types.specs.Tree.{Alternative, Tree, named, saved_as, has_children, is_full, changed}

-- a new tree with an answer, or a refusal
abbrev pub Outcome : Type 0
Outcome = Result (Tree × Answer) Refusal

-- the refusal if nothing is found, and else what follows
unfoldable pub or_refuse : {X : Type 0} → Option X → Refusal → (X → Outcome) → Outcome
or_refuse None refusal rest = Err refusal
or_refuse (Some x) refusal rest = rest x

-- the refusal, if there is one, and else what follows
unfoldable pub refuse_found : Option Refusal → Outcome → Outcome
refuse_found None rest = rest
refuse_found (Some refusal) rest = Err refusal

-- the refusal if the test holds, and else what follows
unfoldable pub refuse_if : Bool → Refusal → Outcome → Outcome
refuse_if test refusal rest = if test then Err refusal else rest

-- accepted: the new tree, and the answer Done
abbrev pub done : Tree → Outcome
done tree = Ok (tree, Done)

-- the first key of the list that is among the earlier ones, or repeats one
abbrev pub first_repeated : List Key → List Key → Option Key
first_repeated earlier [] = None
first_repeated earlier (key ∷ keys) = if list_any (same_key key) earlier then Some key else first_repeated (earlier ++ key ∷ []) keys

-- why a list of settlements is refused: a key is named twice, or is not in conflict, or conflicts are left
abbrev pub settled_refusal : List (Key × Side) → List Key → Option Refusal
settled_refusal settled in_conflict =
    let keys = map (λ e. e.0) settled in
    let unsettled = length (filter (λ key. is_none (side_of settled key)) in_conflict) in
    option_or (option_map SettledTwice (first_repeated [] keys)) (
    option_or (option_map NotInConflict (find (λ key. not (list_any (same_key key) in_conflict)) keys)) (
    if nat_lt 0 unsettled then Some (Unsettled unsettled) else None))

-- an alternative under the parent that shows these records, and has them as its base
abbrev pub new_alternative : List ℕ → Alternative → Map → Alternative
new_alternative name parent records = record { name = name; parent = Some parent.name; current = records; base = records; saved = [] }

-- a Merge into the alternative a, whose parent is p
abbrev pub merge_step : Tree → List ℕ → Alternative → Alternative → List (Key × Side) → Outcome
merge_step tree alt a p settled =
    let merged = merge a.base p.current a.current settled in
    refuse_found (settled_refusal settled (map (λ c. c.key) (conflicts a.base p.current a.current))) (
    Ok (changed tree alt (λ x. record x { current = merged; base = p.current }), Merged (length (delta a.current merged))))

-- each command, with its refusals in the order of the tests. What a Rollback goes back to is no part of the tree: the state tells it
abbrev pub step : Tree → Command → Outcome
step tree (New name parent) =
    or_refuse (named tree parent) NoSuchAlternative (λ p.
    refuse_if (is_some (named tree name)) AlternativeExists (
    refuse_if (is_full tree) TooMany (
    done (tree ++ new_alternative name p p.current ∷ []))))
step tree (NewAt name parent checkpoint) =
    or_refuse (named tree parent) NoSuchAlternative (λ p.
    refuse_if (is_some (named tree name)) AlternativeExists (
    or_refuse (saved_as p checkpoint) NoSuchCheckpoint (λ c.
    refuse_if (is_full tree) TooMany (
    done (tree ++ new_alternative name p c.current ∷ [])))))
step tree (Drop alt) =
    or_refuse (named tree alt) NoSuchAlternative (λ a.
    or_refuse a.parent IsTop (λ _.
    refuse_if (has_children tree alt) HasChildren (
    done (without_first (λ x. bytes_eq x.name alt) tree))))
step tree (Put alt key value) =
    or_refuse (named tree alt) NoSuchAlternative (λ _.
    done (changed tree alt (λ x. record x { current = with_value x.current key value })))
step tree (Remove alt key) =
    or_refuse (named tree alt) NoSuchAlternative (λ a.
    or_refuse (get a.current key) NoSuchRecord (λ _.
    done (changed tree alt (λ x. record x { current = without x.current key }))))
step tree (Checkpoint alt name) =
    or_refuse (named tree alt) NoSuchAlternative (λ a.
    refuse_if (is_some (saved_as a name)) CheckpointExists (
    refuse_if (is_full tree) TooMany (
    done (changed tree alt (λ x. record x { saved = x.saved ++ record { name = name; current = x.current; base = x.base } ∷ [] })))))
step tree (Uncheck alt name) =
    or_refuse (named tree alt) NoSuchAlternative (λ a.
    or_refuse (saved_as a name) NoSuchCheckpoint (λ _.
    done (changed tree alt (λ x. record x { saved = without_first (λ c. bytes_eq c.name name) x.saved }))))
step tree (Back alt name) =
    or_refuse (named tree alt) NoSuchAlternative (λ a.
    or_refuse (saved_as a name) NoSuchCheckpoint (λ c.
    done (changed tree alt (λ x. record x { current = c.current; base = c.base }))))
step tree (Merge alt settled) =
    or_refuse (named tree alt) NoSuchAlternative (λ a.
    or_refuse a.parent IsTop (λ parent.
    or_refuse (named tree parent) NoSuchAlternative (λ p.
    merge_step tree alt a p settled)))
step tree (Post alt) =
    or_refuse (named tree alt) NoSuchAlternative (λ a.
    or_refuse a.parent IsTop (λ parent.
    or_refuse (named tree parent) NoSuchAlternative (λ p.
    refuse_if (not (same_map a.base p.current)) NotMerged (
    done (changed (changed tree parent (λ x. record x { current = a.current })) alt (λ x. record x { base = a.current }))))))
step tree Commit = done tree
step tree Rollback = done tree
step tree Reclaim = done tree
step tree (Grow blocks) = done tree
