-- What the plain model answers.
use Rattle.std.specs.Prelude.{◌≡◌, ◌⊎◌, ℕ, ◌<◌, false, List, Option, Some, None, is_some, Result, Err, if◌then◌else◌, bytes_eq, slice_index_or}
use Rattle.vm_types.specs.declared.answer.Answer.{Answer}
use Rattle.vm_types.specs.declared.command.Command.{Command}
use Rattle.vm_types.specs.declared.refusal.Refusal.{Refusal}
use Rattle.vm_types.specs.declared.refusal.Refusal.TheVariants.{NoSuchAlternative, IsTop, Memory}
use Rattle.vm_types.specs.Firsts.{IsFirst}
use Rattle.vm_types.specs.State.{State, answer_of, outcome}
use Rattle.vm_types.specs.Tree.{Alternative, Tree, named}

-- the answer of the model, or want of memory
abbrev pub IsAnswer : State → Command → Result Answer Refusal → Type 0
IsAnswer s command answer = (answer ≡ Err Memory) ⊎ (answer ≡ answer_of (outcome s command))

-- the alternative of this name stands at i, and none before it has the name; its parent stands at j
pub record IsUnder (tree : Tree) (alt : List ℕ) (i j : ℕ) : Type 0 where
  pub parent : List ℕ
  pub child : IsFirst (λ a. bytes_eq a.name alt) tree i
  pub earlier : (k : ℕ) (d : Alternative) → k < i → bytes_eq (slice_index_or tree k d).name alt ≡ false
  pub label : (d : Alternative) → (slice_index_or tree i d).parent ≡ Some parent
  pub above : IsFirst (λ a. bytes_eq a.name parent) tree j

-- why a parent of this name can't be looked at
abbrev pub label_refusal : Tree → Option (List ℕ) → Option Refusal
label_refusal tree None = Some IsTop
label_refusal tree (Some parent) = if is_some (named tree parent) then None else Some NoSuchAlternative

-- why an alternative can't be compared with its parent: it isn't there, or it is the first one, or its parent isn't there
abbrev pub parent_refusal : Tree → Option Alternative → Option Refusal
parent_refusal tree None = Some NoSuchAlternative
parent_refusal tree (Some a) = label_refusal tree a.parent
