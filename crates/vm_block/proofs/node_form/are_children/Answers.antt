use Rattle.std.proofs.Common.{◌≡◌, ◌+◌, ◌-◌, ◌*◌, refl, take, drop, ap, sym, ◌∙◌, arith}
use Rattle.vm_types.specs.Places.{place}
use Rattle.vm_block.specs.declared.node.Child.{Child}
use Rattle.vm_block.specs.Node.{ChildFits, child_bytes}
use Rattle.vm_block.proofs.NodeLemmas.{length-child, child_one}
use Rattle.vm_block.proofs.TellingLemmas.{told_none, told_more, told_rises, follows_there, follows_more}
use Rattle.vm_block.proofs.node_form.are_children.Goals as goal

pub loop-i-init : goal.loop-i-init
loop-i-init c = record {
  told = told_none child_bytes ChildFits (λ (d : Child). place d.low) 14 c.args.bytes.now;
  follows = λ xs rest all many e rises. rises;
}

pub loop-i-preserved : goal.loop-i-preserved
loop-i-preserved c =
    let so_far = c.loop-i.invariant in
    let bytes = c.args.bytes.now in
    let i = c.loop-i.i in
    let child = c.read_child.result in
    let far : 14 * i + 14 - 14 * i ≡ 14 = omega arith in
    record {
      told = told_more child_bytes ChildFits (λ (d : Child). place d.low) 14 bytes i c.loop-i.low _ _ child so_far.told c.read_child.ensures.fits refl c.read_child.ensures.spelled (omega (arith, c.if-place-low.false, c.place-place.ensures.place)) (ap (λ n. n + 1) c.place-place.ensures.place);
      follows = follows_more child_bytes ChildFits (λ (d : Child). place d.low) 14 bytes length-child c.args.count i c.loop-i.low _ child c.loop-i-test.true so_far.follows
          (λ d fits is. let same : d ≡ child = child_one d child fits c.read_child.ensures.fits (sym is ∙ ap (λ n. take n (drop (14 * i) bytes)) (sym far) ∙ c.read_child.ensures.spelled) in
          ap (λ n. n + 1) (ap (λ (e : Child). place e.low) same ∙ sym c.place-place.ensures.place));
    }

pub returns-then-place-low-clause-only : goal.returns-then-place-low-clause-only
returns-then-place-low-clause-only c cs rest fit many e rises =
    let bytes = c.args.bytes.now in
    let i = c.loop-i.i in
    let child = c.read_child.result in
    let there = follows_there child_bytes ChildFits (λ (d : Child). place d.low) 14 bytes length-child c.args.count i c.loop-i.low child cs rest c.loop-i-test.true c.loop-i.invariant.follows fit many e rises in
    let far : 14 * i + 14 - 14 * i ≡ 14 = omega arith in
    let same : there.here ≡ child = child_one there.here child there.fits c.read_child.ensures.fits (sym there.spells ∙ ap (λ n. take n (drop (14 * i) bytes)) (sym far) ∙ c.read_child.ensures.spelled) in
    absurd (omega (arith, c.if-place-low.true, there.above, c.place-place.ensures.place, ap (λ (d : Child). place d.low) same))

pub returns-clause-found : goal.returns-clause-found
returns-clause-found c done =
    let told = c.loop-i.invariant.told in
    let same : c.loop-i.i ≡ c.args.count = omega (arith, c.loop-i-test.false, c.loop-i.auto.i-end) in (
      told.rows,
      told.fit,
      told.many ∙ same,
      ap (λ n. take (14 * n) c.args.bytes.now) (sym same) ∙ told.spells,
      told_rises child_bytes ChildFits (λ (d : Child). place d.low) 14 c.args.bytes.now c.loop-i.i c.loop-i.low told,
    )
