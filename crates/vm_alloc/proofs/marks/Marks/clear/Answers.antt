use Rattle.std.proofs.Common.{◌≡◌, ◌∙◌, ap, sym, length}
use Rattle.vm_alloc.proofs.CountLemmas.{counted_none}
use Rattle.vm_alloc.proofs.marks.Marks.clear.Goals as goal

pub invariant_of-self : goal.invariant_of-self
invariant_of-self c =
    let many : c.blocks-blocks.result ≡ length c.self.inside.flags = c.blocks-blocks.ensures.count ∙ ap length (sym c.self.view_is) in
    rw many (counted_none (length c.self.inside.flags) _ c.self.invariant.enough c.self.invariant.few c.clear.ensures)
