use Rattle.std.proofs.Common.{◌≡◌, drop}
use Rattle.vm_types.specs.Map.{get}
use Rattle.plain_model.proofs.map.get.Given as goal

-- the key is none of the records so far
abbrev pub invariant-loop-other : goal.invariant-loop-other
invariant-loop-other l = get l.map l.fn.key ≡ get (drop l.other-index l.map) l.fn.key
