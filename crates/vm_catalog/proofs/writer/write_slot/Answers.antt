use Rattle.std.proofs.Common.{◌≡◌, ◌+◌, ◌<◌, length, sym, ap, ◌∙◌, arith}
use Rattle.std.proofs.lemmas.List.{take_all}
use Rattle.vm_disk.proofs.MomentLemmas.{write_on}
use Rattle.vm_block.specs.Slot.{used_blocks}
use Rattle.vm_catalog.specs.Place.{blocks_from, slot_at}
use Rattle.vm_catalog.specs.Written.{slot_blocks}
use Rattle.vm_catalog.proofs.PlaceLemmas.{in_region}
use Rattle.vm_catalog.proofs.WrittenLemmas.{written_more, length-slot_blocks}
use Rattle.vm_catalog.proofs.writer.write_slot.Goals as goal

pub returns-in_err-write-clause-moments : goal.returns-in_err-write-clause-moments
returns-in_err-write-clause-moments g c honest =
    let so_far = c.loop-index.invariant in
    let inside = in_region (slot_at c.args.slot_name) (used_blocks (length c.args.entries.now)) (c.first_block-first.result + c.loop-index.index) (omega (arith, c.first_block-first.ensures)) (omega (arith, c.first_block-first.ensures, c.used_blocks-index-end.ensures)) in
    write_on _ _ _ _ _ _ _ inside (so_far.moments (c.write.ensures.any.earlier honest)) (c.write.ensures.honest honest)

pub loop-index-preserved : goal.loop-index-preserved
loop-index-preserved g c =
    let so_far = c.loop-index.invariant in
    let any = c.write.ensures.any in
    let inside = in_region (slot_at c.args.slot_name) (used_blocks (length c.args.entries.now)) (c.first_block-first.result + c.loop-index.index) (omega (arith, c.first_block-first.ensures)) (omega (arith, c.first_block-first.ensures, c.used_blocks-index-end.ensures)) in
    let room : c.loop-index.index < length (slot_blocks c.args.blocks c.args.entries.now) = omega (arith, length-slot_blocks c.args.blocks c.args.entries.now, c.used_blocks-index-end.ensures) in
    record {
      blocks = any.same_blocks ∙ so_far.blocks;
      earlier = λ honest. so_far.earlier (any.earlier honest);
      rising = omega arith;
      written = λ honest.
          let writes = c.in_ok-write.ensures.honest honest in
          written_more _ _ (slot_at c.args.slot_name) c.loop-index.index (c.first_block-first.result + c.loop-index.index) (slot_blocks c.args.blocks c.args.entries.now) _ room (omega (arith, c.first_block-first.ensures)) (so_far.written (c.write.ensures.any.earlier honest)) writes.others writes.written c.write_block.ensures;
      moments = λ honest.
          write_on _ _ _ _ _ _ _ inside (so_far.moments (c.write.ensures.any.earlier honest)) (c.write.ensures.honest honest);
    }

pub returns-clause-written : goal.returns-clause-written
returns-clause-written g c honest =
    let so_far = c.loop-index.invariant in
    let all : c.loop-index.index ≡ used_blocks (length c.args.entries.now) = omega (arith, c.used_blocks-index-end.ensures) in
    ap (blocks_from _ (slot_at c.args.slot_name)) (sym all) ∙ so_far.written honest ∙ take_all c.loop-index.index (slot_blocks c.args.blocks c.args.entries.now) (omega (arith, length-slot_blocks c.args.blocks c.args.entries.now))
