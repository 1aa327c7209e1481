use Rattle.std.proofs.Common.{◌≡◌, true, ap, sym, subst, ◌∙◌}
use Rattle.vm_disk.specs.System.{KeepsState, name_of, opening_of, system_state}
use Rattle.vm_disk.specs.declared.system.SystemFile.{SystemFile}
use Rattle.vm_cli.proofs.RealFilesLemmas.{finds}
use Rattle.vm_cli.specs.program.Progress.{file_below}
use Rattle.vm_cli.specs.program.RealFiles.FoundOrMissed.{file_found}
use Rattle.vm_cli.proofs.program.place.RealFiles.found.Goals as goal

pub returns-clause-honest : goal.returns-clause-honest
returns-clause-honest g c honest =
    let file = c.in-Some in
    let held = g.W.World.held in
    let torn = g.W.World.torn in
    let kept = subst (λ (f : SystemFile _). (system_state held torn f).honest ≡ true → KeepsState (system_state held torn file.found) (system_state held torn f)) (sym c.new.ensures) c.rewrite_selector.ensures.honest in
    finds held torn c.args.file.now _ _ file.found _ c.of.ensures file.ensures.name (file_below c.new.result) kept _ file.ensures.opening
    c.note-3.ensures file.ensures.state c.open-2.result c.open-2.ensures.over c.open-2.ensures.opened _ (c.with_sums.ensures ∙ c.ok.ensures.value) honest

pub returns-clause-notes : goal.returns-clause-notes
returns-clause-notes g c =
    let file = c.in-Some in
    file_found c.of.result c.note-3.ensures (record { named = ap name_of c.of.ensures ∙ file.ensures.name; opening = ap opening_of c.of.ensures ∙ file.ensures.opening })

pub returns-in_default-rewrite_selector-clause-notes : goal.returns-in_default-rewrite_selector-clause-notes
returns-in_default-rewrite_selector-clause-notes g c =
    let file = c.in-Some in
    file_found c.of.result c.note-3.ensures (record { named = ap name_of c.of.ensures ∙ file.ensures.name; opening = ap opening_of c.of.ensures ∙ file.ensures.opening })
