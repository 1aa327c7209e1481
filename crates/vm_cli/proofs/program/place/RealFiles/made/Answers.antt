use Rattle.std.proofs.Common.{ap, sym, ◌∙◌}
use Rattle.vm_disk.specs.System.{name_of, opening_of}
use Rattle.vm_cli.proofs.RealFilesLemmas.{creates}
use Rattle.vm_cli.specs.program.Progress.{file_below}
use Rattle.vm_cli.specs.program.RealFiles.MadeOrMissed.{file_made}
use Rattle.vm_cli.proofs.program.place.RealFiles.made.Goals as goal

pub returns-clause-honest : goal.returns-clause-honest
returns-clause-honest g c honest =
    let file = c.in-Some in
    let below = c.new.ensures in
    creates g.W.World.held g.W.World.torn c.args.file.now _ _ (file_below c.new.result) _ (c.of.ensures ∙ sym below) (rw below file.ensures.name) c.args.blocks
    c.note-3.ensures (rw below file.ensures.state) c.create-2.result c.create-2.ensures.made c.create-2.ensures.created _ (c.with_sums.ensures ∙ c.ok.ensures.value) honest

pub returns-clause-notes : goal.returns-clause-notes
returns-clause-notes g c =
    let file = c.in-Some in
    file_made c.of.result c.note-3.ensures (record { named = ap name_of c.of.ensures ∙ file.ensures.name; opening = ap opening_of c.of.ensures ∙ file.ensures.opening })
