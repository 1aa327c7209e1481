use Rattle.std.proofs.Common.{◌≡◌, drop}
use Rattle.vm_types.specs.Map.{over}
use Rattle.plain_model.proofs.map.over.Given as goal

-- the records so far are put in, and the others are left
abbrev pub invariant-loop-key : goal.invariant-loop-key
invariant-loop-key l = over l.m l.n ≡ over (drop l.key-index l.m) l.all.items
