use Rattle.std.proofs.Common.{◌≡◌, ℕ, ◌<◌, false, get_or}
use Rattle.std.specs.Prelude.{bytes_eq}
use Rattle.vm_types.specs.Tree.{Saved}
use Rattle.plain_model.proofs.alternative.position_of.Given as goal

-- none so far has this name
abbrev pub invariant-loop-i : goal.invariant-loop-i
invariant-loop-i l = (k : ℕ) (d : Saved) → k < l.i → bytes_eq (get_or l.saved k d).name l.name ≡ false
