-- The lanes after one more stripe.
use Rattle.std.proofs.Common.{◌≡◌, ℕ, suc, ◌+◌, ◌*◌, List, ap, arith}
use Rattle.vm_sums.specs.Hash.{after_stripe, lanes_after}

pub one_stripe_more : (bytes : List ℕ) (n : ℕ) → lanes_after bytes (n + 1) ≡ after_stripe bytes (32 * n) (lanes_after bytes n)
unfolding lanes_after
one_stripe_more bytes n = let e : n + 1 ≡ suc n = omega arith in ap (lanes_after bytes) e
