-- Which commands leave an alternative alone.
use Rattle.std.specs.Prelude.{◌≡◌, ℕ, Bool, true, false, List, ◌∷◌, Some, Result, option_and_then, IsOk, bytes_eq}
use Rattle.std.specs.Option.{option_eq}
use Rattle.vm_types.specs.declared.answer.Answer.{Answer}
use Rattle.vm_types.specs.declared.command.Command.{Command}
use Rattle.vm_types.specs.declared.command.Command.TheVariants.{New, NewAt, Drop, Put, Remove, Checkpoint, Uncheck, Back, Merge, Post, Commit, Rollback, Reclaim, Grow}
use Rattle.vm_types.specs.declared.refusal.Refusal.{Refusal}
use Rattle.vm_types.specs.Tree.{Tree, named}
use Rattle.vm_types.specs.State.{State, next}

-- whether a command works on the alternative: a Rollback works on every one
abbrev pub target : Command → List ℕ → Bool
target (New alt parent) name = bytes_eq alt name
target (NewAt alt parent checkpoint) name = bytes_eq alt name
target (Drop alt) name = bytes_eq alt name
target (Put alt key value) name = bytes_eq alt name
target (Remove alt key) name = bytes_eq alt name
target (Checkpoint alt checkpoint) name = bytes_eq alt name
target (Uncheck alt checkpoint) name = bytes_eq alt name
target (Back alt checkpoint) name = bytes_eq alt name
target (Merge alt settled) name = bytes_eq alt name
target (Post alt) name = bytes_eq alt name
target Commit name = false
target Rollback name = true
target Reclaim name = false
target (Grow blocks) name = false

-- whether a command is a Post of a child of the alternative
abbrev pub posts_into : Tree → Command → List ℕ → Bool
posts_into tree (Post alt) name = option_eq bytes_eq (option_and_then (λ a. a.parent) (named tree alt)) (Some name)
posts_into tree command name = false

-- no command works on the alternative, and no Post of a child of it was accepted
abbrev pub LeavesAlone : State → List Command → List (Result Answer Refusal) → List ℕ → Type 0
LeavesAlone s (command ∷ commands) (answer ∷ answers) name =
    (target command name ≡ false)
    × (IsOk answer → posts_into s.working command name ≡ false)
    × LeavesAlone (next s command answer) commands answers name
LeavesAlone s commands answers name = Unit {0}
