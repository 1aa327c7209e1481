-- What a crash leaves at each moment of a run of commands. Here `left t x` says that a crash at the moment t may leave the
-- contents x, and `shows x seen` that they show this tree and this number of blocks.
use Rattle.std.specs.Prelude.{◌≡◌, ℕ, ◌≤◌, List, [], ◌∷◌, ◌++◌, Result}
use Rattle.vm_types.specs.declared.answer.Answer.{Answer}
use Rattle.vm_types.specs.declared.command.Command.{Command}
use Rattle.vm_types.specs.declared.refusal.Refusal.{Refusal}
use Rattle.vm_types.specs.State.{Seen, State}
use Rattle.vm_types.specs.Kept.{Kept}

-- Times that never fall, from start to end, divide the moments among the commands. What a crash leaves at a moment of a call
-- is kept of the commands up to that one, which has no answer yet. The commands before these are told apart, with their answers.
abbrev pub KeptBetween : {X : Type 0} → (X → Seen → Type 0) → (ℕ → X → Type 0) → State → List Command → List (Result Answer Refusal) → ℕ → List Command → List (Result Answer Refusal) → ℕ → Type 0
KeptBetween shows left s before told start [] [] end = start ≡ end
KeptBetween {X} shows left s before told start (command ∷ commands) (answer ∷ answers) end =
    (time : ℕ) × (start ≤ time)
    × ((t : ℕ) (x : X) → start ≤ t → t ≤ time → left t x → Kept shows s (before ++ command ∷ []) told x)
    × KeptBetween shows left s (before ++ command ∷ []) (told ++ answer ∷ []) time commands answers end
KeptBetween shows left s before told start [] (answer ∷ answers) end = ⊥
KeptBetween shows left s before told start (command ∷ commands) [] end = ⊥

-- What a crash leaves is kept at each moment of a run: at the first one, before any command; within each call, whose own command has no
-- answer yet; and at the end, of all commands with all their answers, so that it holds the last commit, too, if that was acknowledged.
pub record KeptThroughout {X : Type 0} (shows : X → Seen → Type 0) (left : ℕ → X → Type 0) (s : State) (start : ℕ) (commands : List Command) (answers : List (Result Answer Refusal)) (end : ℕ) : Type 0 where
  pub first : (x : X) → left start x → Kept shows s [] [] x
  pub calls : KeptBetween shows left s [] [] start commands answers end
  pub last : (x : X) → left end x → Kept shows s commands answers x
