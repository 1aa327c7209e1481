-- Small sessions of editors, computed by the definitions: what each command is answered, and what is shown after it.
use Rattle.std.specs.Prelude.{◌≡◌, refl, ℕ, zero, suc, List, [], ◌∷◌, ◌++◌, Option, Some, None, Result, Ok, Err, codes}
use Rattle.vm_types.specs.declared.key.Key.{Key}
use Rattle.vm_types.specs.declared.answer.Answer.{Answer}
use Rattle.vm_types.specs.declared.answer.Answer.TheVariants.{Done, Merged}
use Rattle.vm_types.specs.declared.command.Side.{Side}
use Rattle.vm_types.specs.declared.command.Side.TheVariants.{Mine, Theirs}
use Rattle.vm_types.specs.declared.command.Command.{Command}
use Rattle.vm_types.specs.declared.command.Command.TheVariants.{New, NewAt, Drop, Put, Remove, Checkpoint, Uncheck, Back, Merge, Post, Commit, Rollback, Reclaim, Grow}
use Rattle.vm_types.specs.declared.refusal.Refusal.{Refusal}
use Rattle.vm_types.specs.declared.refusal.Refusal.TheVariants.{NoSuchAlternative, AlternativeExists, NoSuchCheckpoint, CheckpointExists, NoSuchRecord, IsTop, HasChildren, NotMerged, Unsettled, NotInConflict, SettledTwice, Device, Memory, BadSize}
use Rattle.vm_types.specs.declared.change.Change.{Change}
use Rattle.vm_types.specs.declared.change.Conflict.{Conflict}
use Rattle.vm_types.specs.Map.{Map, get, delta, conflicts}
use Rattle.vm_types.specs.Tree.{Alternative, Tree, top, fresh, named, current_of}
use Rattle.vm_types.specs.Step.{or_refuse, refuse_if, refuse_found}
use Rattle.vm_types.specs.State.{State, opened, committed_of, working_of, answers_to, after, edits, changes_made, merge_changes}

abbrev key : ℕ → ℕ → Key
key table number = record { table = table; number = number }

-- names and values
abbrev a : List ℕ
a = codes "a"

abbrev b : List ℕ
b = codes "b"

abbrev c : List ℕ
c = codes "c"

abbrev q : List ℕ
q = codes "q"

abbrev nope : List ℕ
nope = codes "nope"

abbrev v : List ℕ
v = codes "v"

abbrev x : List ℕ
x = codes "x"

abbrev y : List ℕ
y = codes "y"

abbrev z : List ℕ
z = codes "z"

abbrev ok : Result Answer Refusal
ok = Ok Done

abbrev no_sides : List (Key × Side)
no_sides = []

-- a new store of 64 blocks
abbrev new_store : State
new_store = opened (record { tree = fresh; blocks = 64 })

-- the answers to commands on a new store, the state after them, and its working tree
abbrev answers : List Command → List (Result Answer Refusal)
answers commands = answers_to new_store commands

abbrev state_of : List Command → State
state_of commands = after new_store commands (answers commands)

abbrev tree_of : List Command → Tree
tree_of commands = (state_of commands).working

-- the records of an alternative after the commands
abbrev records : List Command → List ℕ → Map
records commands name = current_of (tree_of commands) name

-- what `changes` and `conflicts` list for an alternative whose parent is `top`
abbrev base_of : Option Alternative → Map
base_of None = []
base_of (Some found) = found.base

abbrev changes : List Command → List ℕ → List Change
changes commands name = delta (base_of (named (tree_of commands) name)) (records commands name)

abbrev in_conflict : List Command → List ℕ → List Conflict
in_conflict commands name = conflicts (base_of (named (tree_of commands) name)) (records commands top) (records commands name)

-- two editors give one key two values: the conflict has to be settled, and Theirs takes the parent's value
abbrev both_put : List Command
both_put = New a top ∷ Put top (key 1 1) x ∷ Put a (key 1 1) y ∷ []

abbrev theirs : List Command
theirs = both_put ++ Merge a no_sides ∷ Merge a ((key 1 1, Theirs) ∷ []) ∷ []

theirs_settles : answers (theirs ++ Post a ∷ []) ≡ ok ∷ ok ∷ ok ∷ Err (Unsettled 1) ∷ Ok (Merged 1) ∷ ok ∷ []
unfolding or_refuse refuse_if refuse_found
theirs_settles = refl

theirs_is_shown : get (records theirs a) (key 1 1) ≡ Some x
unfolding or_refuse refuse_if refuse_found
theirs_is_shown = refl

theirs_is_posted : get (records (theirs ++ Post a ∷ []) top) (key 1 1) ≡ Some x
unfolding or_refuse refuse_if refuse_found
theirs_is_posted = refl

-- the parent's record is removed and one's own changed: absence is in conflict, and Mine keeps one's own value
abbrev removed_and_put : List Command
removed_and_put = Put top (key 1 1) x ∷ New a top ∷ Remove top (key 1 1) ∷ Put a (key 1 1) y ∷ []

abbrev mine : List Command
mine = removed_and_put ++ Merge a ((key 1 1, Mine) ∷ []) ∷ []

removal_is_in_conflict : in_conflict removed_and_put a ≡ record { key = key 1 1; base = Some x; parent = None; mine = Some y } ∷ []
unfolding or_refuse refuse_if refuse_found
removal_is_in_conflict = refl

mine_settles : answers (mine ++ Post a ∷ []) ≡ ok ∷ ok ∷ ok ∷ ok ∷ Ok (Merged 0) ∷ ok ∷ []
unfolding or_refuse refuse_if refuse_found
mine_settles = refl

mine_is_shown : get (records mine a) (key 1 1) ≡ Some y
unfolding or_refuse refuse_if refuse_found
mine_is_shown = refl

mine_is_posted : get (records (mine ++ Post a ∷ []) top) (key 1 1) ≡ Some y
unfolding or_refuse refuse_if refuse_found
mine_is_posted = refl

-- the same change on both sides is no conflict
same_change_is_no_conflict : answers (Put top (key 1 1) x ∷ New a top ∷ Put top (key 1 1) z ∷ Put a (key 1 1) z ∷ Merge a no_sides ∷ Post a ∷ []) ≡ ok ∷ ok ∷ ok ∷ ok ∷ Ok (Merged 0) ∷ ok ∷ []
unfolding or_refuse refuse_if refuse_found
same_change_is_no_conflict = refl

-- the parent was changed and changed back: the base equals it as a map, so a Post is accepted
abbrev changed_back : List Command
changed_back = Put top (key 1 1) x ∷ New a top ∷ Put a (key 1 2) y ∷ Put top (key 1 1) z ∷ Put top (key 1 1) x ∷ Post a ∷ []

changed_back_is_merged : answers changed_back ≡ ok ∷ ok ∷ ok ∷ ok ∷ ok ∷ ok ∷ []
unfolding or_refuse refuse_if refuse_found
changed_back_is_merged = refl

changed_back_is_posted : records changed_back top ≡ (key 1 1, x) ∷ (key 1 2, y) ∷ []
unfolding or_refuse refuse_if refuse_found
changed_back_is_posted = refl

posted_has_no_changes : changes changed_back a ≡ []
unfolding or_refuse refuse_if refuse_found
posted_has_no_changes = refl

-- Back restores the base too, so what was merged since then has to be merged again before a Post
abbrev back : List Command
back = New a top ∷ Checkpoint a c ∷ Put top (key 1 1) x ∷ Merge a no_sides ∷ Back a c ∷ []

back_takes_the_base_too : answers (back ++ Post a ∷ []) ≡ ok ∷ ok ∷ ok ∷ Ok (Merged 1) ∷ ok ∷ Err NotMerged ∷ []
unfolding or_refuse refuse_if refuse_found
back_takes_the_base_too = refl

back_shows_the_checkpoint : get (records back a) (key 1 1) ≡ None
unfolding or_refuse refuse_if refuse_found
back_shows_the_checkpoint = refl

-- an alternative from a checkpoint shows what the parent was then, has no changes, and merges what the parent changed since
abbrev from_checkpoint : List Command
from_checkpoint = Put top (key 1 1) x ∷ Checkpoint top c ∷ Put top (key 1 1) z ∷ NewAt a top c ∷ []

abbrev merged_and_posted : List Command
merged_and_posted = from_checkpoint ++ Post a ∷ Merge a no_sides ∷ Post a ∷ NewAt b top q ∷ NewAt a top q ∷ NewAt b nope c ∷ Uncheck top c ∷ Reclaim ∷ []

from_checkpoint_is_answered : answers merged_and_posted ≡ ok ∷ ok ∷ ok ∷ ok ∷ Err NotMerged ∷ Ok (Merged 1) ∷ ok ∷ Err NoSuchCheckpoint ∷ Err AlternativeExists ∷ Err NoSuchAlternative ∷ ok ∷ ok ∷ []
unfolding or_refuse refuse_if refuse_found
from_checkpoint_is_answered = refl

from_checkpoint_is_shown : get (records from_checkpoint a) (key 1 1) ≡ Some x
unfolding or_refuse refuse_if refuse_found
from_checkpoint_is_shown = refl

from_checkpoint_has_no_changes : changes from_checkpoint a ≡ []
unfolding or_refuse refuse_if refuse_found
from_checkpoint_has_no_changes = refl

what_came_since_is_merged : get (records (from_checkpoint ++ Merge a no_sides ∷ []) a) (key 1 1) ≡ Some z
unfolding or_refuse refuse_if refuse_found
what_came_since_is_merged = refl

lists_stay_without_the_checkpoint : records merged_and_posted top ++ records merged_and_posted a ≡ (key 1 1, z) ∷ (key 1 1, z) ∷ []
unfolding or_refuse refuse_if refuse_found
lists_stay_without_the_checkpoint = refl

-- one refusal after another
refusals_of_two_alternatives :
    answers (
    New a top ∷ New b a ∷ Drop a ∷ Drop top
    ∷ Merge a ((key 1 1, Mine) ∷ (key 1 1, Mine) ∷ []) ∷ Merge a ((key 1 1, Mine) ∷ [])
    ∷ Post top ∷ New a nope ∷ New a top ∷ Back a q ∷ Checkpoint a c ∷ Checkpoint a c ∷ [])
    ≡ ok ∷ ok ∷ Err HasChildren ∷ Err IsTop
    ∷ Err (SettledTwice (key 1 1)) ∷ Err (NotInConflict (key 1 1))
    ∷ Err IsTop ∷ Err NoSuchAlternative ∷ Err AlternativeExists ∷ Err NoSuchCheckpoint ∷ ok ∷ Err CheckpointExists ∷ []
unfolding or_refuse refuse_if refuse_found
refusals_of_two_alternatives = refl

-- a value written again with what it was is no change
abbrev written_again : List Command
written_again = Put top (key 1 1) x ∷ Put top (key 1 1) x ∷ New a top ∷ Put a (key 1 1) x ∷ []

written_again_is_accepted : answers written_again ≡ ok ∷ ok ∷ ok ∷ ok ∷ []
unfolding or_refuse refuse_if refuse_found
written_again_is_accepted = refl

written_again_is_no_change : changes written_again a ≡ []
unfolding or_refuse refuse_if refuse_found
written_again_is_no_change = refl

-- Puts of the value v at (table, first) and the next ones, n in all
abbrev puts : List ℕ → ℕ → ℕ → ℕ → List Command
puts name table first zero = []
puts name table first (suc n) = Put name (key table first) v ∷ puts name table (suc first) n

-- the records that they leave
abbrev rows : ℕ → ℕ → ℕ → Map
rows table first zero = []
rows table first (suc n) = (key table first, v) ∷ rows table (suc first) n

abbrev oks : ℕ → List (Result Answer Refusal)
oks zero = []
oks (suc n) = ok ∷ oks n

-- seventeen records, and a Reclaim that changes none
seventeen_are_put : answers (puts top 1 1 17 ++ Reclaim ∷ []) ≡ oks 18
unfolding or_refuse refuse_if refuse_found
seventeen_are_put = refl

seventeen_are_shown : records (puts top 1 1 17 ++ Reclaim ∷ []) top ≡ rows 1 1 17
unfolding or_refuse refuse_if refuse_found
seventeen_are_shown = refl

-- the greatest key, with the empty value; and a record that was never there
abbrev greatest_key : Key
greatest_key = key 65535 18446744073709551615

abbrev outermost : List Command
outermost = Put top greatest_key [] ∷ Remove top (key 0 0) ∷ []

outermost_keys : answers outermost ≡ ok ∷ Err NoSuchRecord ∷ []
unfolding or_refuse refuse_if refuse_found
outermost_keys = refl

empty_value_is_shown : get (records outermost top) greatest_key ≡ Some []
unfolding or_refuse refuse_if refuse_found
empty_value_is_shown = refl

-- nine records of the parent come into an alternative of eight: nine record changes
abbrev nine_beside_eight : List Command
nine_beside_eight = New a top ∷ (puts top 1 1 9 ++ puts a 2 1 8)

nine_come_in : answers (nine_beside_eight ++ Merge a no_sides ∷ []) ≡ ok ∷ (oks 17 ++ Ok (Merged 9) ∷ [])
unfolding or_refuse refuse_if refuse_found
nine_come_in = refl

nine_are_counted : edits (tree_of nine_beside_eight) (Merge a no_sides) ≡ 9
unfolding or_refuse refuse_if refuse_found
nine_are_counted = refl

-- and eight are made in the parent's records: the smaller side
eight_are_made : changes_made (tree_of nine_beside_eight) (Merge a no_sides) ≡ 8
unfolding or_refuse refuse_if refuse_found
eight_are_made = refl

-- of equal sides the parent's: its record of table 1 is there, and one's own of table 2 is put
abbrev one_of_each : List Command
one_of_each = New a top ∷ Put top (key 1 1) x ∷ Put a (key 2 1) y ∷ []

equal_sides_begin_above : merge_changes (tree_of one_of_each) a no_sides ≡ record { key = key 2 1; before = None; after = Some y } ∷ []
unfolding or_refuse refuse_if refuse_found
equal_sides_begin_above = refl

-- a design without changes of its own, and a parent without any, are merged by no change
nothing_is_made_above : changes_made (tree_of (New a top ∷ puts top 1 1 9)) (Merge a no_sides) ≡ 0
unfolding or_refuse refuse_if refuse_found
nothing_is_made_above = refl

nothing_is_made_below : changes_made (tree_of (New a top ∷ puts a 1 1 9)) (Merge a no_sides) ≡ 0
unfolding or_refuse refuse_if refuse_found
nothing_is_made_below = refl

nine_stand_before_eight : records (nine_beside_eight ++ Merge a no_sides ∷ []) a ≡ rows 1 1 9 ++ rows 2 1 8
unfolding or_refuse refuse_if refuse_found
nine_stand_before_eight = refl

-- a store of 64 blocks grows to more than it has, up to the greatest number, and no further
abbrev growths : List Command
growths = Grow 64 ∷ Grow 63 ∷ Grow 0 ∷ Grow 67108865 ∷ Grow 65 ∷ Grow 65 ∷ Grow 64 ∷ Grow 67108864 ∷ Grow 67108865 ∷ Grow 67108864 ∷ []

growths_are_answered :
    answers growths
    ≡ Err BadSize ∷ Err BadSize ∷ Err BadSize ∷ Err BadSize ∷ ok ∷ Err BadSize ∷ Err BadSize ∷ ok ∷ Err BadSize ∷ Err BadSize ∷ []
unfolding or_refuse refuse_if refuse_found
growths_are_answered = refl

growths_are_worked_on : working_of (state_of growths) ≡ record { tree = fresh; blocks = 67108864 }
unfolding or_refuse refuse_if refuse_found
growths_are_worked_on = refl

growths_are_not_committed : committed_of (state_of growths) ≡ record { tree = fresh; blocks = 64 }
unfolding or_refuse refuse_if refuse_found
growths_are_not_committed = refl

-- a Grow that is not committed is gone with the store's closing, and so is the record after it
abbrev grown : List Command
grown = Grow 64 ∷ Grow 63 ∷ Grow 67108865 ∷ Grow 128 ∷ Put top (key 1 1) x ∷ []

grown_is_answered : answers grown ≡ Err BadSize ∷ Err BadSize ∷ Err BadSize ∷ ok ∷ ok ∷ []
unfolding or_refuse refuse_if refuse_found
grown_is_answered = refl

grown_has_128_blocks : (state_of grown).blocks ≡ 128
unfolding or_refuse refuse_if refuse_found
grown_has_128_blocks = refl

grown_is_not_kept : opened (committed_of (state_of grown)) ≡ new_store
unfolding or_refuse refuse_if refuse_found
grown_is_not_kept = refl

-- a Commit keeps the number of blocks with the tree. A Grow marks nothing and changes no record, and a Reclaim no number
abbrev committed_growth : List Command
committed_growth = Grow 128 ∷ Put top (key 1 1) x ∷ Commit ∷ Grow 256 ∷ Reclaim ∷ []

committed_growth_is_answered : answers committed_growth ≡ oks 5
unfolding or_refuse refuse_if refuse_found
committed_growth_is_answered = refl

committed_growth_is_kept : committed_of (state_of committed_growth) ≡ record { tree = tree_of committed_growth; blocks = 128 }
unfolding or_refuse refuse_if refuse_found
committed_growth_is_kept = refl

committed_growth_goes_on : working_of (state_of committed_growth) ≡ record { tree = tree_of (Put top (key 1 1) x ∷ []); blocks = 256 }
unfolding or_refuse refuse_if refuse_found
committed_growth_goes_on = refl

growth_changes_no_record : edits fresh (Grow 128) ≡ 0
growth_changes_no_record = refl

-- a Grow for which there is no memory, or in which the device fails, leaves the state as it was
refused_growth_changes_nothing : after new_store (Grow 65 ∷ Grow 66 ∷ []) (Err Memory ∷ Err Device ∷ []) ≡ new_store
refused_growth_changes_nothing = refl

-- a Rollback goes back to what was committed, to its tree and to its number of blocks: the record, the alternative with its checkpoint,
-- the posted records and the growth since then are gone
abbrev committed_two : List Command
committed_two = Put top (key 1 1) x ∷ New a top ∷ Checkpoint a c ∷ Commit ∷ []

abbrev undone : List Command
undone = committed_two ++ Put a (key 1 1) y ∷ Put a (key 1 2) y ∷ Post a ∷ Uncheck a c ∷ New b a ∷ Checkpoint b q ∷ Grow 128 ∷ Rollback ∷ []

undone_is_answered : answers undone ≡ oks 12
unfolding or_refuse refuse_if refuse_found
undone_is_answered = refl

undone_is_what_was_committed : state_of undone ≡ opened (record { tree = tree_of committed_two; blocks = 64 })
unfolding or_refuse refuse_if refuse_found
undone_is_what_was_committed = refl

-- what was taken back may be made again: the growth and the alternative, and a Commit keeps them
abbrev made_again : List Command
made_again = undone ++ Grow 128 ∷ New b a ∷ Commit ∷ Rollback ∷ []

made_again_is_answered : answers made_again ≡ oks 16
unfolding or_refuse refuse_if refuse_found
made_again_is_answered = refl

made_again_is_kept : state_of made_again ≡ opened (record { tree = tree_of (committed_two ++ New b a ∷ []); blocks = 128 })
unfolding or_refuse refuse_if refuse_found
made_again_is_kept = refl

-- on a new store a Rollback goes back to `top` without a record, and twice does what once does
new_store_is_rolled_back : state_of (Put top (key 1 1) x ∷ Grow 65 ∷ Rollback ∷ Rollback ∷ []) ≡ new_store
unfolding or_refuse refuse_if refuse_found
new_store_is_rolled_back = refl

rollback_changes_no_record : edits (tree_of committed_two) Rollback ≡ 0
unfolding or_refuse refuse_if refuse_found
rollback_changes_no_record = refl
