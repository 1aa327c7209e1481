use Rattle.std.proofs.Common.{◌∙◌, sym, true}
use Rattle.vm_alloc.proofs.CountLemmas.{counted_some, counted_less, counted_low, counted_again}
use Rattle.vm_alloc.proofs.marks.Marks.set.Goals as goal
use Rattle.vm_alloc.proofs.marks.Marks.set.Goals.{then-n-ge-FIRST_DATA+then-not-get, else-n-ge-FIRST_DATA, else-n-ge-FIRST_DATA-via-then-n-ge-FIRST_DATA+else-not-get, else-n-ge-FIRST_DATA-via-else-n-ge-FIRST_DATA}

pub overflow_sub-self : goal.overflow_sub-self
overflow_sub-self c =
    counted_some c.self.inside.flags _ c.args.n c.self.invariant c.if-n-ge-FIRST_DATA.true (rw c.self.view_is c.requires) (sym c.get.ensures ∙ c.if-not-get.true)

pub invariant_of-self : goal.invariant_of-self
invariant_of-self c =
    elim c.if-n-ge-FIRST_DATA.branch [
      | then-n-ge-FIRST_DATA+then-not-get w ↦ rw (c.set.ensures, w.self-inside-is)
          (counted_less c.self.inside.flags _ c.args.n c.self.invariant w.if-n-ge-FIRST_DATA.true (rw c.self.view_is c.requires) (sym w.get.ensures ∙ w.if-not-get.true))
      | else-n-ge-FIRST_DATA w ↦ rw (c.set.ensures, w.self-inside-is) (elim w.else-n-ge-FIRST_DATA.branch [
        | else-n-ge-FIRST_DATA-via-then-n-ge-FIRST_DATA+else-not-get v ↦ counted_again c.self.inside.flags _ c.args.n c.self.invariant (sym v.get.ensures ∙ v.if-not-get.false)
        | else-n-ge-FIRST_DATA-via-else-n-ge-FIRST_DATA v ↦ counted_low c.self.inside.flags _ c.args.n true c.self.invariant v.if-n-ge-FIRST_DATA.false
      ])
    ]
