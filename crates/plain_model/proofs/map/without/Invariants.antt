use Rattle.std.proofs.Common.{◌≡◌, take}
use Rattle.vm_types.specs.Map.{without}
use Rattle.plain_model.proofs.map.without.Given as goal

-- the records so far are there, but for the key
abbrev pub invariant-loop-other : goal.invariant-loop-other
invariant-loop-other l = l.changed.items ≡ without (take l.other-index l.map) l.fn.key
