use Rattle.std.proofs.Common.{◌≡◌, ℕ, ◌*◌, ◌<◌, ◌≤◌, ◌&&◌}
use Rattle.vm_alloc.specs.Words.{is_bit_set}
use Rattle.vm_alloc.proofs.words.clear_bits_but.Given as goal

abbrev pub invariant-loop-i : goal.invariant-loop-i
invariant-loop-i l =
    ((k : ℕ) → k < 64 * l.i → is_bit_set l.words k ≡ (is_bit_set l.fn.words k && is_bit_set l.others k))
    × ((k : ℕ) → 64 * l.i ≤ k → is_bit_set l.words k ≡ is_bit_set l.fn.words k)
