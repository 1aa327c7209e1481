use Rattle.std.proofs.Common.{◌∙◌, ap, sym, length, arith}
use Rattle.vm_alloc.proofs.CountLemmas.{replaced_by, tallied_first, length_first, held_first, marked_past}
use Rattle.vm_alloc.proofs.held.Held.replace.Goals as goal

pub invariant_of-self : goal.invariant_of-self
invariant_of-self c =
    let many = c.requires ∙ ap length (sym c.self.view_is) in
    let replaced = replaced_by _ _ _ c.args.marks.now c.set_first.ensures c.copy_from.ensures c.flags.ensures in
    tallied_first _ c.args.marks.now _ replaced (omega (arith, many, c.self.invariant.enough)) (omega (arith, many, c.self.invariant.few)) c.unmarked-self-inside.ensures

pub returns-clause-count : goal.returns-clause-count
returns-clause-count c =
    let many = c.requires ∙ ap length (sym c.self.view_is) in
    let replaced = replaced_by _ _ _ c.args.marks.now c.set_first.ensures c.copy_from.ensures c.flags.ensures in
    length_first 34 _ c.args.marks.now replaced (omega (arith, many, c.self.invariant.enough)) ∙ c.requires

pub returns-clause-marked : goal.returns-clause-marked
returns-clause-marked c = marked_past 34 _ c.args.marks.now (replaced_by _ _ _ _ c.set_first.ensures c.copy_from.ensures c.flags.ensures)

pub returns-clause-system : goal.returns-clause-system
returns-clause-system c = held_first 34 _ c.args.marks.now (replaced_by _ _ _ _ c.set_first.ensures c.copy_from.ensures c.flags.ensures)
