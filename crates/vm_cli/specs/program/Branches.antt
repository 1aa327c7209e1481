-- The tree of alternatives, drawn as text.
use Rattle.std.specs.Fmt.{decimal}
use Rattle.std.specs.List.{list_any}
use Rattle.std.specs.Option.{option_eq}
use Rattle.std.specs.Prelude.{◌≡◌, ◌≢◌, ◌⊎◌, ◌-◌, ◌++◌, ℕ, Bool, true, false, not, if◌then◌else◌, List, [], ◌∷◌, flat_map, length, map, replicate, Option, Some, None, Result, Ok, Err, Vec, codes}
use Rattle.std.specs.Str.{bytes_eq}
use Rattle.vm_types.specs.Shape.{saved_names}
use Rattle.vm_types.specs.Tree.{Alternative, Tree}
use Rattle.vm_types.specs.Queries.{checkpoints_in}
use Rattle.vm_types.specs.State.{State}
use Rattle.vm_types.specs.declared.refusal.Refusal.{Refusal}
use Rattle.vm_types.specs.declared.refusal.Refusal.TheVariants.{Device, IsTop, Memory, NoSuchAlternative}
use Rattle.vm_store.specs.Tallies.{tally_in}
use Rattle.vm_store.specs.declared.tally.Tally.{Tally}

-- what is drawn of an alternative: its name, its parent's, its numbers if it has a parent, and the names of its checkpoints
pub record Branch : Type 0 where
  pub name : List ℕ
  pub parent : Option (List ℕ)
  pub tally : Option Tally
  pub checkpoints : List (List ℕ)

-- the numbers, if there are any
abbrev pub numbers : Result Tally Refusal → Option Tally
numbers (Ok tally) = Some tally
numbers (Err refusal) = None

-- what is drawn of an alternative in a tree: its numbers are those of the model
abbrev pub branch_of : Tree → Alternative → Branch
branch_of tree a = record { name = a.name; parent = a.parent; tally = numbers (tally_in tree a.name); checkpoints = saved_names a.saved }

-- the numbers are those that were told, which were not refused for the device or for memory
abbrev pub HasNumbers : Result Tally Refusal → Option Tally → Type 0
HasNumbers tallied tally = (tally ≡ numbers tallied) × (tallied ≢ Err Device) × (tallied ≢ Err Memory)

-- the numbers were refused so, and not since there are none
abbrev pub HasNoNumbers : Result Tally Refusal → Refusal → Type 0
HasNoNumbers tallied refusal = (tallied ≡ Err refusal) × (refusal ≢ IsTop) × (refusal ≢ NoSuchAlternative)

-- this is drawn in a state of the alternative of this name, whose parent is this one
abbrev pub IsDrawn : State → List ℕ → Option (List ℕ) → Branch → Type 0
IsDrawn s name parent branch =
    (branch.name ≡ name) × (branch.parent ≡ parent) × (branch.tally ≡ numbers (tally_in s.working name))
    × (Ok branch.checkpoints ≡ checkpoints_in s.working name)

-- an alternative of this name is not drawn in a state: the device failed, or memory ran out, or it has no checkpoints to tell
abbrev pub IsUndrawn : State → List ℕ → Refusal → Type 0
IsUndrawn s name refusal = (refusal ≡ Device) ⊎ ((refusal ≡ Memory) ⊎ (Err refusal ≡ checkpoints_in s.working name))

-- what is drawn of each alternative of a tree, in order of creation
abbrev pub branches_of : Tree → List Branch
branches_of tree = map (branch_of tree) tree

-- a text goes on with these bytes
abbrev pub Adds : {A : Type 0} → Vec ℕ A → Vec ℕ A → List ℕ → Type 0
Adds old new bytes = new.items ≡ old.items ++ bytes

-- ---- columns

-- a text at the right of a column of this width, which is filled with spaces (32)
abbrev pub at_right : ℕ → List ℕ → List ℕ
at_right width text = replicate (width - length text) 32 ++ text

-- whether it can be posted
abbrev pub post_text : Bool → List ℕ
post_text true = codes "yes"
post_text false = codes "no"

-- four columns, each under its heading, and two spaces
abbrev pub columns_text : List ℕ → List ℕ → List ℕ → List ℕ → List ℕ
columns_text changed unmerged conflicts post = at_right 7 changed ++ (at_right 9 unmerged ++ (at_right 10 conflicts ++ (at_right 5 post ++ codes "  ")))

-- the columns of an alternative, `-` in each if it has no numbers
abbrev pub columns_of : Option Tally → List ℕ
columns_of None = columns_text (codes "-") (codes "-") (codes "-") (codes "-")
columns_of (Some tally) = columns_text (decimal tally.changed) (decimal tally.unmerged) (decimal tally.conflicts) (post_text tally.can_post)

-- ---- lines, each with the line feed (10) at its end

-- the names of the columns
abbrev pub heading_text : List ℕ
heading_text = codes "changed unmerged conflicts post" ++ 10 ∷ []

-- the line of an alternative, with the stems of the levels above it, and its own
abbrev pub branch_line : List ℕ → List ℕ → Branch → List ℕ
branch_line stems own branch = columns_of branch.tally ++ (stems ++ (own ++ (branch.name ++ 10 ∷ [])))

-- the line of a checkpoint, with nothing in the columns
abbrev pub checkpoint_line : List ℕ → List ℕ → List ℕ
checkpoint_line stems name = replicate 33 32 ++ (stems ++ (codes "* " ++ (name ++ 10 ∷ [])))

-- the lines of checkpoints
abbrev pub checkpoint_lines : List ℕ → List (List ℕ) → List ℕ
checkpoint_lines stems names = flat_map (checkpoint_line stems) names

-- the stem of an alternative that is the last under its parent, or of another one
abbrev pub own_stem : Bool → List ℕ
own_stem true = codes "`- "
own_stem false = codes "|- "

-- the stem that stands in its place in the lines below it
abbrev pub stem_below : Bool → List ℕ
stem_below true = codes "   "
stem_below false = codes "|  "

-- ---- the drawing

-- whether an alternative is right under the one of this name
abbrev pub is_under : List ℕ → Branch → Bool
is_under parent branch = option_eq bytes_eq branch.parent (Some parent)

-- whether one of these is right under it
abbrev pub have_under : List ℕ → List Branch → Bool
have_under parent branches = list_any (is_under parent) branches

-- what stands below the alternative of this name: each of these that is right under it, in order of creation, with its checkpoints and
-- what stands below it, of those that were made later
abbrev pub lines_under : List ℕ → List ℕ → List Branch → List ℕ
lines_under stems parent [] = []
lines_under stems parent (branch ∷ later) =
    let last = not (have_under parent later) in
    let below = stems ++ stem_below last in
    let lines = branch_line stems (own_stem last) branch ++ (flat_map (checkpoint_line below) branch.checkpoints ++ lines_under below branch.name later) in
    (if is_under parent branch then lines else []) ++ lines_under stems parent later

-- the first alternative with its checkpoints, and what stands below it
abbrev pub lines_from : List Branch → List ℕ
lines_from [] = []
lines_from (first ∷ later) = branch_line [] [] first ++ (flat_map (checkpoint_line []) first.checkpoints ++ lines_under [] first.name later)

-- the whole text
abbrev pub drawing : List Branch → List ℕ
drawing branches = heading_text ++ lines_from branches

-- the text of a tree
abbrev pub tree_text : Tree → List ℕ
tree_text tree = drawing (branches_of tree)
