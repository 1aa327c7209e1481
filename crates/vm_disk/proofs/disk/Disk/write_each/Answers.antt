use Rattle.std.proofs.Common.{refl, ◌∙◌, arith}
use Rattle.vm_disk.proofs.RunLemmas.{run_on, run_failed}
use Rattle.vm_disk.proofs.disk.Disk.write_each.Goals as goal

pub returns-in_err-write-clause-honest : goal.returns-in_err-write-clause-honest
returns-in_err-write-clause-honest g c honest =
    let so_far = c.loop-block.invariant in
    run_failed c.from_residual.result c.write.result c.args.n c.loop-block.block-index c.loop-block.at _ c.args.blocks.now _ _ _
    c.from_residual.ensures.0 (so_far.begun (c.write.ensures.any.earlier honest)) c.loop-block-test.true so_far.place (c.write.ensures.honest honest)

pub loop-block-preserved : goal.loop-block-preserved
loop-block-preserved g c =
    let so_far = c.loop-block.invariant in
    let any = c.in_ok-write.ensures.any in
    record {
      place = omega (arith, so_far.place);
      blocks = any.same_blocks ∙ so_far.blocks;
      earlier = λ honest. so_far.earlier (any.earlier honest);
      reads = omega (arith, any.read, so_far.reads);
      failures = any.fine ∙ so_far.failures;
      begun = λ honest. run_on c.in_ok-write.field-0 c.args.n c.loop-block.block-index c.loop-block.at _ c.args.blocks.now _ _ _
          (so_far.begun (any.earlier honest)) c.loop-block-test.true so_far.place refl (c.in_ok-write.ensures.honest honest);
    }
