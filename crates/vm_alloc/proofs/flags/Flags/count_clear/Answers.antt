use Rattle.std.proofs.Common.{◌<◌, ◌∙◌, not, false, true, length, drop, sym, arith, length-drop}
use Rattle.std.proofs.lemmas.List.Sums.{count_by-le-length}
use Rattle.vm_alloc.proofs.HeldLemmas.{free_next, free_past}
use Rattle.vm_alloc.proofs.flags.Flags.count_clear.Goals as goal
use Rattle.vm_alloc.proofs.flags.Flags.count_clear.Goals.{then-not-get, else-not-get}

pub overflow_add-clear : goal.overflow_add-clear
overflow_add-clear c =
    let flags = c.args.self.now in
    omega (arith, c.loop-n.invariant, count_by-le-length not (drop c.args.from flags), length-drop c.args.from flags, c.len-n-end.ensures.few)

pub loop-n-preserved : goal.loop-n-preserved
loop-n-preserved c =
    let flags = c.args.self.now in
    let inside : c.loop-n.n < length flags = omega (arith, c.loop-n-test.true, c.len-n-end.ensures.count) in
    elim c.if-not-get.branch [
      | then-not-get w ↦ omega (arith, w.clear-is, c.loop-n.invariant, free_next flags c.loop-n.n false inside (sym c.get.ensures ∙ w.if-not-get.true))
      | else-not-get w ↦ omega (arith, w.clear-is, c.loop-n.invariant, free_next flags c.loop-n.n true inside (sym c.get.ensures ∙ w.if-not-get.false))
    ]

pub returns : goal.returns
returns c =
    let flags = c.args.self.now in
    omega (arith, c.loop-n.invariant, free_past flags c.loop-n.n (omega (arith, c.loop-n-test.false, c.len-n-end.ensures.count)))
