use Rattle.std.proofs.Common.{◌≡◌, ℕ, ◌<◌, false, get_or}
use Rattle.std.specs.Prelude.{bytes_eq}
use Rattle.vm_types.specs.Tree.{Alternative}
use Rattle.plain_model.proofs.steps.position_of.Given as goal

-- none so far has this name
abbrev pub invariant-loop-i : goal.invariant-loop-i
invariant-loop-i l = (k : ℕ) (d : Alternative) → k < l.i → bytes_eq (get_or l.tree k d).name l.name ≡ false
