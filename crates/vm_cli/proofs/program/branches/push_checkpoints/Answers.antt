use Rattle.std.proofs.Common.{◌∙◌, ◌++◌, ap, append_assoc, flat_map, sym, take}
use Rattle.vm_cli.specs.program.Branches.{checkpoint_line}
use Rattle.vm_cli.proofs.GivenLemmas.{flat_map-next}
use Rattle.vm_cli.proofs.program.branches.push_checkpoints.Goals as goal

pub loop-name-preserved : goal.loop-name-preserved
loop-name-preserved c =
    let line = checkpoint_line c.args.stems.now in
    let next = flat_map-next line c.args.names.now c.loop-name.name-index c.name-item.result c.loop-name-test.true in
    c.in_ok-push_checkpoint.ensures
    ∙ ap (λ so_far. so_far ++ line c.name-item.result) c.loop-name.invariant
    ∙ append_assoc c.args.text.now.items (flat_map line (take c.loop-name.name-index c.args.names.now)) (line c.name-item.result)
    ∙ ap (λ more. c.args.text.now.items ++ (flat_map line (take c.loop-name.name-index c.args.names.now) ++ line more)) c.name-item.is
    ∙ ap (λ more. c.args.text.now.items ++ more) (sym next)
