use Rattle.std.proofs.Common.{drop, ap, ◌∙◌, arith}
use Rattle.vm_diff.specs.Walk.{Walk}
use Rattle.vm_diff.specs.Ahead.{tops_in}
use Rattle.vm_diff.specs.Front.{front_of}
use Rattle.vm_diff.proofs.CursorLemmas.{first_standing, top_passed}
use Rattle.vm_diff.proofs.OpenLemmas.{ok_or, ok_then}
use Rattle.vm_diff.proofs.cursor.Cursor.open_leaf.Goals as goal

pub listed : goal.listed
listed g c =
    let s = first_standing c.self.inside.records c.self.inside.levels c.args.top (ap front_of c.self.view_is ∙ c.requires.front) in
    omega (arith, s.level, s.within)

pub bounds-self-inside-top : goal.bounds-self-inside-top
bounds-self-inside-top g c =
    let s = first_standing c.self.inside.records c.self.inside.levels c.args.top (ap front_of c.self.view_is ∙ c.requires.front) in
    omega (arith, s.level, s.within, c.self.invariant)

pub returns-clause-few : goal.returns-clause-few
returns-clause-few g c =
    let ls = c.self.inside.levels in
    let s = first_standing c.self.inside.records ls c.args.top (ap front_of c.self.view_is ∙ c.requires.front) in
    let left = top_passed ls c.args.top c.pass.new.self c.index-self-top.result (drop 1 (tops_in 0 ls)) s c.pass.ensures in
    ok_then c.read.result c.read.ensures.few (λ few. (few, left ∙ ap (λ (w : Walk). drop 1 w.tops) c.self.view_is))

pub returns-clause-only : goal.returns-clause-only
returns-clause-only g c honest rs at =
    let ls = c.self.inside.levels in
    let s = first_standing c.self.inside.records ls c.args.top (ap front_of c.self.view_is ∙ c.requires.front) in
    let left = top_passed ls c.args.top c.pass.new.self c.index-self-top.result (drop 1 (tops_in 0 ls)) s c.pass.ensures in
    ok_or c.read.result (c.read.ensures.only honest rs at)
    (λ cuts. (cuts, left ∙ ap (λ (w : Walk). drop 1 w.tops) c.self.view_is))
