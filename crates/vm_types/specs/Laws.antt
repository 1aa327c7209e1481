-- Laws of the model, each a sentence about every tree, map or list of commands.
use Rattle.std.specs.Prelude.{◌≡◌, ◌≢◌, ◌↔◌, ℕ, ◌≤◌, List, [], length, Result, Ok, IsOk}
use Rattle.vm_types.specs.declared.key.Key.{Key}
use Rattle.vm_types.specs.declared.answer.Answer.{Answer}
use Rattle.vm_types.specs.declared.command.Side.{Side}
use Rattle.vm_types.specs.declared.command.Command.{Command}
use Rattle.vm_types.specs.declared.command.Command.TheVariants.{Rollback}
use Rattle.vm_types.specs.declared.refusal.Refusal.{Refusal}
use Rattle.vm_types.specs.declared.sizes.TheConstants.{MIN_BLOCKS, MAX_BLOCKS}
use Rattle.vm_types.specs.Map.{Map, IsMap, IsSettled, get, delta, merged_at, merge, merge_start, turned, with_changes}
use Rattle.vm_types.specs.Queries.{changes_in}
use Rattle.vm_types.specs.Parts.{part, diff}
use Rattle.vm_types.specs.Tree.{Tree, fresh, named, top}
use Rattle.vm_types.specs.Shape.{IsWellFormed}
use Rattle.vm_types.specs.Step.{step}
use Rattle.vm_types.specs.State.{State, tree_after, outcome, next, after}
use Rattle.vm_types.specs.Isolation.{LeavesAlone}
use Rattle.vm_types.specs.Versions.{at_base, at_current, delta_at, map_at}

-- a new store's tree is well formed, and each command leaves a well formed tree well formed
abbrev pub StepsKeepTreesWellFormed : Type 0
StepsKeepTreesWellFormed = IsWellFormed fresh × ((tree : Tree) (command : Command) → IsWellFormed tree → IsWellFormed (tree_after tree (step tree command)))

-- at each key a merge has what the three-way rule gives, and in a conflict what the settlements say; and it is a map
abbrev pub MergesAreThreeWay : Type 0
MergesAreThreeWay = (base parent mine : Map) (settled : List (Key × Side)) →
    ((key : Key) → get (merge base parent mine settled) key ≡ merged_at base parent mine settled key) × (IsMap mine → IsMap (merge base parent mine settled))

-- a merge is the same from both sides, if each conflict is settled: the own map with what the parent changed, and the parent's map with
-- what is kept of one's own
abbrev pub MergesAreSymmetric : Type 0
MergesAreSymmetric = (base parent mine : Map) (settled : List (Key × Side)) →
    IsSettled base parent mine settled
    → ((key : Key) → merged_at base parent mine settled key ≡ merged_at base mine parent (turned settled) key)
    × (IsMap parent → IsMap mine → merge base parent mine settled ≡ merge base mine parent (turned settled))

-- the changes that a merge makes lead from the map that it begins with to the merged one, and from neither side's map fewer do
abbrev pub MergesTakeTheSmallerSide : Type 0
MergesTakeTheSmallerSide = (own parent merged : Map) → IsMap own → IsMap parent → IsMap merged →
    let made = delta (merge_start own parent merged) merged in
    (with_changes (merge_start own parent merged) made ≡ merged)
    × (length made ≤ length (delta own merged))
    × (length made ≤ length (delta parent merged))

-- maps differ at no key exactly if they are equal
abbrev pub DeltasTellEquality : Type 0
DeltasTellEquality = (m n : Map) → IsMap m → IsMap n → (delta m n ≡ []) ↔ (m ≡ n)

-- the differences of two maps in a part are those of their parts
abbrev pub DiffsArePartwise : Type 0
DiffsArePartwise = (low high : ℕ) (m n : Map) → IsMap n → diff low high m n ≡ delta (part low high m) (part low high n)

-- a store has 64 to 67,108,864 blocks, and no more of them are committed than commands work on
pub record HasSizes (s : State) : Type 0 where
  pub enough : MIN_BLOCKS ≤ s.kept
  pub fewer : s.kept ≤ s.blocks
  pub few : s.blocks ≤ MAX_BLOCKS

-- no command takes blocks from what is committed, none but a Rollback takes any from what commands work on, and none gives a store too
-- many, as long as none is answered Ok that the model refuses
abbrev pub StoresOnlyGrow : Type 0
StoresOnlyGrow = (s : State) (command : Command) (answer : Result Answer Refusal) → HasSizes s → (IsOk answer → IsOk (outcome s command)) →
    HasSizes (next s command answer) × (s.kept ≤ (next s command answer).kept) × (command ≢ Rollback → s.blocks ≤ (next s command answer).blocks)

-- an alternative is as before, with its base and checkpoints, if no command worked on it and no child was posted into it
abbrev pub AlternativesAreIsolated : Type 0
AlternativesAreIsolated = (s : State) (commands : List Command) (answers : List (Result Answer Refusal)) (name : List ℕ) →
    LeavesAlone s commands answers name → named (after s commands answers).working name ≡ named s.working name

-- the changes of an alternative are those from its base to its current records; and the base of `top` has no records
abbrev pub ChangesBeginAtBases : Type 0
ChangesBeginAtBases =
    ((tree : Tree) (alt : List ℕ) → delta_at tree (at_base alt) (at_current alt) ≡ changes_in tree alt)
    × ((tree : Tree) → IsWellFormed tree → map_at tree (at_base top) ≡ Ok [])
