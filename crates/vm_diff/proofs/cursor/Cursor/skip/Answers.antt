use Rattle.std.proofs.Common.{List, drop, ap, ◌∙◌, arith}
use Rattle.vm_tree.specs.declared.root.Root.{Root}
use Rattle.vm_diff.specs.Walk.{Walk}
use Rattle.vm_diff.specs.Ahead.{tops_in}
use Rattle.vm_diff.specs.Front.{front_of}
use Rattle.vm_diff.proofs.CursorLemmas.{first_standing, top_passed}
use Rattle.vm_diff.proofs.cursor.Cursor.skip.Goals as goal

pub listed : goal.listed
listed c =
    let s = first_standing c.self.inside.records c.self.inside.levels c.args.top (ap front_of c.self.view_is ∙ c.requires) in
    omega (arith, s.level, s.within)

pub bounds-self-inside-top : goal.bounds-self-inside-top
bounds-self-inside-top c =
    let s = first_standing c.self.inside.records c.self.inside.levels c.args.top (ap front_of c.self.view_is ∙ c.requires) in
    omega (arith, s.level, s.within, c.self.invariant)

pub returns : goal.returns
returns c =
    let ls = c.self.inside.levels in
    let s = first_standing c.self.inside.records ls c.args.top (ap front_of c.self.view_is ∙ c.requires) in
    ap (λ (ts : List Root). record { pending = c.self.inside.records; tops = ts }) (top_passed ls c.args.top c.pass.new.self c.index-self-top.result (drop 1 (tops_in 0 ls)) s c.pass.ensures)
    ∙ ap (λ (w : Walk). record { pending = w.pending; tops = drop 1 w.tops }) c.self.view_is
