use Rattle.std.proofs.Common.{◌≡◌, List, false, take}
use Rattle.vm_cli.specs.session.PlannerCalls.{AreWaiting}
use Rattle.vm_cli.specs.session.Waiting.{Waiting, waits as waits_of}
use Rattle.vm_cli.proofs.session.planners.PlannersSession.waits.Given as goal

-- none of those so far is a batch of the planner's
abbrev pub invariant-loop-place : goal.invariant-loop-place
invariant-loop-place l = (waiting : List Waiting) → AreWaiting (take l.place l.self.waiting.items) waiting → waits_of l.number waiting ≡ false
