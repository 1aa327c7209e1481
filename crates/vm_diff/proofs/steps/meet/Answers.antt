use Rattle.std.proofs.Common.{sym, ap, ◌∙◌}
use Rattle.vm_types.specs.Places.{place}
use Rattle.vm_diff.specs.Front.Front.{Top}
use Rattle.vm_diff.specs.Front.{front_of, next_of}
use Rattle.vm_diff.proofs.PayLemmas.{alone_first, left_read, right_read}
use Rattle.vm_diff.proofs.StepLemmas.{left_opened, right_opened, next_top, record_or_top}
use Rattle.vm_diff.proofs.steps.meet.Goals as goal

pub returns-in_default-clause-bound : goal.returns-in_default-clause-bound
returns-in_default-clause-bound g c honest sizes most changes differ =
    let at = next_top (front_of c.args.one.now) c.in-Subtree.first (sym c.requires.here ∙ c.in-Subtree.is) in
    let first = alone_first c.in-Subtree.first (front_of c.args.one.now) (front_of c.args.other.now) at c.requires.level (λ t is. c.in_default.not-Subtree t (c.requires.there ∙ ap next_of is)) in
    left_read sizes (g.D.Disk.state c.args.disk.now).now.contents c.args.blocks (place c.args.part.low) (place c.args.part.high) c.args.one.now c.args.other.now (g.D.Disk.state c.args.disk.now).reads (g.D.Disk.state c.open.new.disk).reads most changes differ (Top c.in-Subtree.first) at first c.open.ensures.once

pub returns-in-Subtree-there-2-clause-bound : goal.returns-in-Subtree-there-2-clause-bound
returns-in-Subtree-there-2-clause-bound g c honest sizes most changes differ =
    let at = next_top (front_of c.args.other.now) c.in-Subtree-there-2.second (sym c.requires.there ∙ c.in-Subtree-there-2.is) in
    let first = alone_first c.in-Subtree-there-2.second (front_of c.args.other.now) (front_of c.args.one.now) at (sym c.requires.level) (λ t is. record_or_top (front_of c.args.one.now) c.in-Record.key t (sym c.in-Record.is ∙ c.requires.here) is) in
    right_read sizes (g.D.Disk.state c.args.disk.now).now.contents c.args.blocks (place c.args.part.low) (place c.args.part.high) c.args.one.now c.args.other.now (g.D.Disk.state c.args.disk.now).reads (g.D.Disk.state c.open-in-Subtree-there-2.new.disk).reads most changes differ (Top c.in-Subtree-there-2.second) at first c.open-in-Subtree-there-2.ensures.once

pub returns-in_default-clause-steps : goal.returns-in_default-clause-steps
returns-in_default-clause-steps g c honest sizes most changes differ =
    let at = next_top (front_of c.args.one.now) c.in-Subtree.first (sym c.requires.here ∙ c.in-Subtree.is) in
    let first = alone_first c.in-Subtree.first (front_of c.args.one.now) (front_of c.args.other.now) at c.requires.level (λ t is. c.in_default.not-Subtree t (c.requires.there ∙ ap next_of is)) in
    left_opened sizes (g.D.Disk.state c.args.disk.now).now.contents c.args.blocks (place c.args.part.low) (place c.args.part.high) (g.D.Disk.state c.args.disk.now).reads most c.args.one.now c.args.other.now c.open.new.walk (g.D.Disk.state c.open.new.disk).reads (Top c.in-Subtree.first) changes c.open.result c.moved.result c.moved.ensures at first c.open.ensures.once differ
    (c.open.ensures.opens honest sizes differ.first differ.first_blocks differ.first_ahead differ.first_rising differ.first_in)

pub returns-in-Subtree-there-2-clause-steps : goal.returns-in-Subtree-there-2-clause-steps
returns-in-Subtree-there-2-clause-steps g c honest sizes most changes differ =
    let at = next_top (front_of c.args.other.now) c.in-Subtree-there-2.second (sym c.requires.there ∙ c.in-Subtree-there-2.is) in
    let first = alone_first c.in-Subtree-there-2.second (front_of c.args.other.now) (front_of c.args.one.now) at (sym c.requires.level) (λ t is. record_or_top (front_of c.args.one.now) c.in-Record.key t (sym c.in-Record.is ∙ c.requires.here) is) in
    right_opened sizes (g.D.Disk.state c.args.disk.now).now.contents c.args.blocks (place c.args.part.low) (place c.args.part.high) (g.D.Disk.state c.args.disk.now).reads most c.args.one.now c.args.other.now c.open-in-Subtree-there-2.new.walk (g.D.Disk.state c.open-in-Subtree-there-2.new.disk).reads (Top c.in-Subtree-there-2.second) changes c.open-in-Subtree-there-2.result c.moved-in-Subtree-there-2.result c.moved-in-Subtree-there-2.ensures at first c.open-in-Subtree-there-2.ensures.once differ
    (c.open-in-Subtree-there-2.ensures.opens honest sizes differ.second differ.second_blocks differ.second_ahead differ.second_rising differ.second_in)
