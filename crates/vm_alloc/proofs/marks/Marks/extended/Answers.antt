use Rattle.std.proofs.Common.{length, ap, sym, ◌∙◌, arith}
use Rattle.vm_alloc.proofs.CountLemmas.{counted_few, counted_longer}
use Rattle.vm_alloc.proofs.marks.Marks.extended.Goals as goal

pub overflow_add-result : goal.overflow_add-result
overflow_add-result c = omega (arith, counted_few c.self.inside.flags _ c.self.invariant, c.requires.few)

pub invariant_of-result : goal.invariant_of-result
invariant_of-result c =
    let many = ap length c.self.view_is in
    counted_longer c.self.inside.flags _ _ c.args.blocks _ c.self.invariant c.in_ok-extended.ensures (omega (arith, many, c.requires.longer)) c.requires.few (omega (arith, many, c.blocks-2.ensures.count))
