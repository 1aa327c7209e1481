use Rattle.std.proofs.Common.{List, take}
use Rattle.vm_cli.specs.session.Planners.{AreSeats, IsAbsent, Seat}
use Rattle.vm_cli.proofs.session.planners.PlannersSession.place_of.Given as goal

-- none of those so far has the number
abbrev pub invariant-loop-place : goal.invariant-loop-place
invariant-loop-place l = (seats : List Seat) → AreSeats (take l.place l.self.planners.items) seats → IsAbsent l.number seats
