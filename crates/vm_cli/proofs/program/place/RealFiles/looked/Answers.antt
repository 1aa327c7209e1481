use Rattle.std.proofs.Common.{ap, sym, ◌∙◌}
use Rattle.vm_disk.specs.System.{name_of, opening_of}
use Rattle.vm_cli.proofs.RealFilesLemmas.{finds, kept_as_is}
use Rattle.vm_cli.specs.program.Progress.{file_below}
use Rattle.vm_cli.specs.program.RealFiles.FoundOrNothing.{found_to_read}
use Rattle.vm_cli.proofs.program.place.RealFiles.looked.Goals as goal

pub returns-clause-honest : goal.returns-clause-honest
returns-clause-honest g c honest =
    let file = c.in_ok-found in
    let below = c.new.ensures in
    finds g.W.World.held g.W.World.torn c.args.file.now _ _ (file_below c.new.result) _ (c.of.ensures ∙ sym below) (rw below file.ensures.name) (file_below c.new.result) (kept_as_is _) _ (ap opening_of below ∙ file.ensures.opening)
    c.note-2.ensures (rw below file.ensures.state) c.open.result c.open.ensures.over c.open.ensures.opened _ (c.with_sums.ensures ∙ c.ok.ensures.value) honest

pub returns-clause-notes : goal.returns-clause-notes
returns-clause-notes g c =
    let file = c.in_ok-found in
    found_to_read c.of.result c.note-2.ensures (record { named = ap name_of c.of.ensures ∙ file.ensures.name; opening = ap opening_of c.of.ensures ∙ file.ensures.opening })
