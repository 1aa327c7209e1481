use Rattle.std.proofs.Common.{sym, ap, ◌∙◌, arith}
use Rattle.vm_diff.specs.Ahead.{tops_in}
use Rattle.vm_diff.specs.Front.{front_of}
use Rattle.vm_diff.proofs.CursorLemmas.{front_key}
use Rattle.vm_diff.proofs.cursor.Cursor.value_at.Goals as goal

pub returns-in-Some-clause-none : goal.returns-in-Some-clause-none
returns-in-Some-clause-none c apart =
    let f = front_key c.self.inside.records (tops_in 0 c.self.inside.levels) c.in-Some.low c.in-Some.ensures in
    absurd (apart c.in-Some.low f.0 (sym (ap front_of c.self.view_is) ∙ f.1) (omega (arith, c.if-place.true, c.place.ensures.place)))
