use Rattle.std.proofs.Common.{◌<◌, ◌∙◌, sym, subst, arith}
use Rattle.vm_types.specs.Places.{place}
use Rattle.vm_diff.specs.Front.Front.{Top}
use Rattle.vm_diff.specs.Front.{Front, front_of, place_of}
use Rattle.vm_diff.proofs.PayLemmas.{GoesFirst, lower_first, left_read, right_read}
use Rattle.vm_diff.proofs.StepLemmas.{left_opened, right_opened, next_top, place_next}
use Rattle.vm_diff.proofs.steps.step.Goals as goal

pub returns-in-Subtree-clause-bound : goal.returns-in-Subtree-clause-bound
returns-in-Subtree-clause-bound g c honest sizes most changes differ =
    let at = next_top (front_of c.args.one.now) c.in-Subtree.top (sym c.next-here.ensures ∙ c.in-Subtree.is) in
    let lt : place_of (front_of c.args.one.now) < place_of (front_of c.args.other.now) = omega (arith, c.if-near-far.true, c.place-near.ensures.place, place_next (front_of c.args.one.now) c.next-here.result c.next-here.ensures, c.place-far.ensures.place, place_next (front_of c.args.other.now) c.next-there.result c.next-there.ensures) in
    let first = subst (λ (f : Front). GoesFirst f (front_of c.args.other.now)) at (lower_first (front_of c.args.one.now) (front_of c.args.other.now) lt) in
    left_read sizes (g.D.Disk.state c.args.disk.now).now.contents c.args.blocks (place c.args.part.low) (place c.args.part.high) c.args.one.now c.args.other.now (g.D.Disk.state c.args.disk.now).reads (g.D.Disk.state c.open.new.disk).reads most changes differ (Top c.in-Subtree.top) at first c.open.ensures.once

pub returns-in-Subtree-clause-steps : goal.returns-in-Subtree-clause-steps
returns-in-Subtree-clause-steps g c honest sizes most changes differ =
    let at = next_top (front_of c.args.one.now) c.in-Subtree.top (sym c.next-here.ensures ∙ c.in-Subtree.is) in
    let lt : place_of (front_of c.args.one.now) < place_of (front_of c.args.other.now) = omega (arith, c.if-near-far.true, c.place-near.ensures.place, place_next (front_of c.args.one.now) c.next-here.result c.next-here.ensures, c.place-far.ensures.place, place_next (front_of c.args.other.now) c.next-there.result c.next-there.ensures) in
    let first = subst (λ (f : Front). GoesFirst f (front_of c.args.other.now)) at (lower_first (front_of c.args.one.now) (front_of c.args.other.now) lt) in
    left_opened sizes (g.D.Disk.state c.args.disk.now).now.contents c.args.blocks (place c.args.part.low) (place c.args.part.high) (g.D.Disk.state c.args.disk.now).reads most c.args.one.now c.args.other.now c.open.new.walk (g.D.Disk.state c.open.new.disk).reads (Top c.in-Subtree.top) changes c.open.result c.moved.result c.moved.ensures at first c.open.ensures.once differ
    (c.open.ensures.opens honest sizes differ.first differ.first_blocks differ.first_ahead differ.first_rising differ.first_in)

pub returns-in-Subtree-there-clause-bound : goal.returns-in-Subtree-there-clause-bound
returns-in-Subtree-there-clause-bound g c honest sizes most changes differ =
    let at = next_top (front_of c.args.other.now) c.in-Subtree-there.top (sym c.next-there.ensures ∙ c.in-Subtree-there.is) in
    let lt : place_of (front_of c.args.other.now) < place_of (front_of c.args.one.now) = omega (arith, c.if-far-near.true, c.place-near.ensures.place, place_next (front_of c.args.one.now) c.next-here.result c.next-here.ensures, c.place-far.ensures.place, place_next (front_of c.args.other.now) c.next-there.result c.next-there.ensures) in
    let first = subst (λ (f : Front). GoesFirst f (front_of c.args.one.now)) at (lower_first (front_of c.args.other.now) (front_of c.args.one.now) lt) in
    right_read sizes (g.D.Disk.state c.args.disk.now).now.contents c.args.blocks (place c.args.part.low) (place c.args.part.high) c.args.one.now c.args.other.now (g.D.Disk.state c.args.disk.now).reads (g.D.Disk.state c.open-in-Subtree-there.new.disk).reads most changes differ (Top c.in-Subtree-there.top) at first c.open-in-Subtree-there.ensures.once

pub returns-in-Subtree-there-clause-steps : goal.returns-in-Subtree-there-clause-steps
returns-in-Subtree-there-clause-steps g c honest sizes most changes differ =
    let at = next_top (front_of c.args.other.now) c.in-Subtree-there.top (sym c.next-there.ensures ∙ c.in-Subtree-there.is) in
    let lt : place_of (front_of c.args.other.now) < place_of (front_of c.args.one.now) = omega (arith, c.if-far-near.true, c.place-near.ensures.place, place_next (front_of c.args.one.now) c.next-here.result c.next-here.ensures, c.place-far.ensures.place, place_next (front_of c.args.other.now) c.next-there.result c.next-there.ensures) in
    let first = subst (λ (f : Front). GoesFirst f (front_of c.args.one.now)) at (lower_first (front_of c.args.other.now) (front_of c.args.one.now) lt) in
    right_opened sizes (g.D.Disk.state c.args.disk.now).now.contents c.args.blocks (place c.args.part.low) (place c.args.part.high) (g.D.Disk.state c.args.disk.now).reads most c.args.one.now c.args.other.now c.open-in-Subtree-there.new.walk (g.D.Disk.state c.open-in-Subtree-there.new.disk).reads (Top c.in-Subtree-there.top) changes c.open-in-Subtree-there.result c.moved-in-Subtree-there.result c.moved-in-Subtree-there.ensures at first c.open-in-Subtree-there.ensures.once differ
    (c.open-in-Subtree-there.ensures.opens honest sizes differ.second differ.second_blocks differ.second_ahead differ.second_rising differ.second_in)
