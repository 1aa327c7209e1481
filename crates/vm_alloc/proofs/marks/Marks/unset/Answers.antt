use Rattle.std.proofs.Common.{◌∙◌, sym, false, arith}
use Rattle.vm_alloc.proofs.CountLemmas.{counted_few, counted_more, counted_low, counted_still}
use Rattle.vm_alloc.proofs.marks.Marks.unset.Goals as goal
use Rattle.vm_alloc.proofs.marks.Marks.unset.Goals.{then-n-ge-FIRST_DATA+then-get, else-n-ge-FIRST_DATA, else-n-ge-FIRST_DATA-via-then-n-ge-FIRST_DATA+else-get, else-n-ge-FIRST_DATA-via-else-n-ge-FIRST_DATA}

pub overflow_add-self : goal.overflow_add-self
overflow_add-self c = omega (arith, counted_few c.self.inside.flags _ c.self.invariant)

pub invariant_of-self : goal.invariant_of-self
invariant_of-self c =
    elim c.if-n-ge-FIRST_DATA.branch [
      | then-n-ge-FIRST_DATA+then-get w ↦ rw (c.unset.ensures, w.self-inside-is)
          (counted_more c.self.inside.flags _ c.args.n c.self.invariant w.if-n-ge-FIRST_DATA.true (rw c.self.view_is c.requires) (sym w.get.ensures ∙ w.if-get.true))
      | else-n-ge-FIRST_DATA w ↦ rw (c.unset.ensures, w.self-inside-is) (elim w.else-n-ge-FIRST_DATA.branch [
        | else-n-ge-FIRST_DATA-via-then-n-ge-FIRST_DATA+else-get v ↦ counted_still c.self.inside.flags _ c.args.n c.self.invariant (sym v.get.ensures ∙ v.if-get.false)
        | else-n-ge-FIRST_DATA-via-else-n-ge-FIRST_DATA v ↦ counted_low c.self.inside.flags _ c.args.n false c.self.invariant v.if-n-ge-FIRST_DATA.false
      ])
    ]
