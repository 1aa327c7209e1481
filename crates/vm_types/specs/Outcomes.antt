-- What a program that keeps trees of alternatives answers and leaves.
use Rattle.std.specs.Prelude.{◌≡◌, Option, Some, None, Result}
use Rattle.vm_types.specs.declared.answer.Answer.{Answer}
use Rattle.vm_types.specs.declared.refusal.Refusal.{Refusal}
use Rattle.vm_types.specs.State.{tree_after, answer_of}
use Rattle.vm_types.specs.Step.{Outcome}
use Rattle.vm_types.specs.Tree.{Alternative, Saved, Tree}

-- the reply and the new tree are those of the step
pub record IsOutcome (outcome : Outcome) (old new : Tree) (reply : Result Answer Refusal) : Type 0 where
  pub answer : reply ≡ answer_of outcome
  pub tree : new ≡ tree_after old outcome

-- an alternative that goes back to a checkpoint, if there is one
abbrev pub gone_back : Alternative → Option Saved → Alternative
gone_back a None = a
gone_back a (Some c) = record a { current = c.current; base = c.base }
