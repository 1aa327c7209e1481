use Rattle.std.proofs.Common.{◌≡◌, ◌-◌, ◌++◌, List, length, drop, slice_set, refl, ap, ◌∙◌, arith}
use Rattle.std.proofs.lemmas.List.{length-set}
use Rattle.vm_tree.specs.declared.root.Root.{Root}
use Rattle.vm_diff.specs.Walk.{Walk, tops_of}
use Rattle.vm_diff.specs.Ahead.{tops_in}
use Rattle.vm_diff.specs.Front.{front_of}
use Rattle.vm_diff.proofs.CursorLemmas.{first_standing, top_opened}
use Rattle.vm_diff.proofs.OpenLemmas.{ok_or, ok_then}
use Rattle.vm_diff.proofs.cursor.Cursor.open_node.Goals as goal

pub listed : goal.listed
listed g c =
    let s = first_standing c.self.inside.records c.self.inside.levels c.args.top (ap front_of c.self.view_is ∙ c.requires.front) in
    omega (arith, s.level, s.within)

pub bounds-self-inside-top : goal.bounds-self-inside-top
bounds-self-inside-top g c =
    let s = first_standing c.self.inside.records c.self.inside.levels c.args.top (ap front_of c.self.view_is ∙ c.requires.front) in
    omega (arith, s.level, s.within, c.self.invariant)

pub listed-2 : goal.listed-2
listed-2 g c =
    let s = first_standing c.self.inside.records c.self.inside.levels c.args.top (ap front_of c.self.view_is ∙ c.requires.front) in
    let same : length (slice_set c.self.inside.levels c.args.top.level c.pass.new.self) ≡ length c.self.inside.levels = length-set c.self.inside.levels c.args.top.level c.pass.new.self in
    omega (arith, same, s.level, s.within)

pub bounds-self-inside-top-2 : goal.bounds-self-inside-top-2
bounds-self-inside-top-2 g c =
    let s = first_standing c.self.inside.records c.self.inside.levels c.args.top (ap front_of c.self.view_is ∙ c.requires.front) in
    omega (arith, s.level, s.within, c.self.invariant)

pub returns-clause-few : goal.returns-clause-few
returns-clause-few g c =
    let ls = c.self.inside.levels in
    let s = first_standing c.self.inside.records ls c.args.top (ap front_of c.self.view_is ∙ c.requires.front) in
    let opened = top_opened ls c.args.top (c.args.top.level - 1) c.pass.new.self c.index-self-top.result c.read.new.self (drop 1 (tops_in 0 ls)) s refl c.requires.level c.pass.ensures in
    ok_then c.read.result c.read.ensures.few
    (λ few. (c.read.new.self, few, ap (λ (ts : List Root). record { pending = c.self.inside.records; tops = ts }) opened ∙ ap (λ (w : Walk). record { pending = w.pending; tops = tops_of (c.args.top.level - 1) c.read.new.self ++ drop 1 w.tops }) c.self.view_is))

pub returns-clause-only : goal.returns-clause-only
returns-clause-only g c honest cs at =
    let ls = c.self.inside.levels in
    let s = first_standing c.self.inside.records ls c.args.top (ap front_of c.self.view_is ∙ c.requires.front) in
    let opened = top_opened ls c.args.top (c.args.top.level - 1) c.pass.new.self c.index-self-top.result c.read.new.self (drop 1 (tops_in 0 ls)) s refl c.requires.level c.pass.ensures in
    ok_or c.read.result (c.read.ensures.only honest cs at)
    (λ cuts. (
      c.read.new.self,
      cuts,
      ap (λ (ts : List Root). record { pending = c.self.inside.records; tops = ts }) opened
          ∙ ap (λ (w : Walk). record { pending = w.pending; tops = tops_of (c.args.top.level - 1) c.read.new.self ++ drop 1 w.tops }) c.self.view_is,
    ))
