use Rattle.std.proofs.Common.{ap, ap₂, ◌∙◌, arith, List}
use Rattle.vm_block.specs.Leaf.{Record}
use Rattle.vm_tree.specs.declared.root.Root.{Root}
use Rattle.vm_diff.specs.Walk.{Walk}
use Rattle.vm_diff.proofs.CursorLemmas.{only_top}
use Rattle.vm_diff.proofs.cursor.Cursor.begin.Goals as goal

pub returns-clause-begun : goal.returns-clause-begun
returns-clause-begun c true_is =
    let ls = c.self.inside.levels in
    let at_end = c.self.view_is ∙ c.requires in
    let top = only_top ls 0 c.args.root.level c.args.root.level (record { low = c.args.root.low; block = c.args.root.block }) c.hold.new.self (ap (λ (w : Walk). w.tops) at_end) (omega (arith, c.self.invariant, c.if-root-gt7.false)) (omega arith) c.hold.ensures in
    record {
      empty = λ none. absurd (omega (arith, none, c.if-root-eq0.false));
      above = λ lt. absurd (omega (arith, lt, c.if-place.false, c.place.ensures.place, c.place-2.ensures.place));
      some = λ some le. ap₂ (λ (ps : List Record) (ts : List Root). record { pending = ps; tops = ts }) (ap (λ (w : Walk). w.pending) at_end) top;
    }
