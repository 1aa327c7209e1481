-- Commands one after another: one more at the end.
use Rattle.std.proofs.Common.{◌≡◌, ◌≤◌, List, [], ◌∷◌, ◌++◌, length, Result, refl, arith}
use Rattle.vm_types.specs.declared.answer.Answer.{Answer}
use Rattle.vm_types.specs.declared.command.Command.{Command}
use Rattle.vm_types.specs.declared.refusal.Refusal.{Refusal}
use Rattle.vm_types.specs.State.{State, next, after}

-- the state after one more command is the next one
pub after_more : (s : State) (commands : List Command) (answers : List (Result Answer Refusal)) (command : Command) (answer : Result Answer Refusal) → length answers ≡ length commands → after s (commands ++ command ∷ []) (answers ++ answer ∷ []) ≡ next (after s commands answers) command answer
after_more s [] [] command answer h = refl
after_more s [] (a ∷ answers) command answer h = absurd (omega arith)
after_more s (c ∷ commands) [] command answer h = absurd (omega arith)
after_more s (c ∷ commands) (a ∷ answers) command answer h = after_more (next s c a) commands answers command answer (omega arith)

-- answers to later commands change nothing
pub after_fewer : (s : State) (commands : List Command) (answers more : List (Result Answer Refusal)) → length commands ≤ length answers → after s commands (answers ++ more) ≡ after s commands answers
after_fewer s [] [] [] h = refl
after_fewer s [] [] (b ∷ more) h = refl
after_fewer s [] (a ∷ answers) more h = refl
after_fewer s (c ∷ commands) [] more h = absurd (omega arith)
after_fewer s (c ∷ commands) (a ∷ answers) more h = after_fewer (next s c a) commands answers more (omega arith)
