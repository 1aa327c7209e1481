use Rattle.std.proofs.Common.{◌≡◌, ℕ, ◌*◌, ◌<◌, true}
use Rattle.vm_alloc.specs.Words.{is_bit_set}
use Rattle.vm_alloc.proofs.words.first_clear_bit.Given as goal

abbrev pub invariant-loop-i : goal.invariant-loop-i
invariant-loop-i l = (k : ℕ) → k < 64 * l.i → is_bit_set l.words k ≡ true
