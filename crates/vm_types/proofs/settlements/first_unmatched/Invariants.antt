use Rattle.std.proofs.Common.{◌≡◌, map, drop}
use Rattle.vm_types.proofs.SettledLemmas.{unmatched}
use Rattle.vm_types.proofs.settlements.first_unmatched.Given as goal

-- each settlement so far is in a conflict, and what is ahead tells the rest
abbrev pub invariant-loop-conflict : goal.invariant-loop-conflict
invariant-loop-conflict l = unmatched (map (λ e. e.0) l.settled) l.conflicts ≡ unmatched (map (λ e. e.0) l.ahead) (drop l.conflict-index l.conflicts)
