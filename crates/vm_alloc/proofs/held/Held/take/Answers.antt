use Rattle.std.proofs.Common.{◌<◌, length, arith, refl}
use Rattle.vm_alloc.proofs.HeldLemmas.{all_held, free_from}
use Rattle.vm_alloc.proofs.held.Held.take.Goals as goal

pub returns-then-n-len-clause-none : goal.returns-then-n-len-clause-none
returns-then-n-len-clause-none c = (
  (λ _. rw (← c.self.view_is) (all_held c.self.inside.flags (λ n inside. c.first_clear-n.ensures.before n (omega (arith, c.if-n-len.true, c.len.ensures.count))))),
  (λ _. refl),
)

pub returns-clause-free : goal.returns-clause-free
returns-clause-free c =
    rw (← c.self.view_is) (let inside : c.first_clear-n.result < length c.self.inside.flags = omega arith in
    free_from c.self.inside.flags c.first_clear-n.result inside (c.first_clear-n.ensures.found inside))
