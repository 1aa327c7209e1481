use Rattle.std.proofs.Common.{◌≡◌, ◌/◌, ◌∙◌, true, min, length, ap, subst}
use Rattle.vm_disk.specs.File.{file_state}
use Rattle.vm_disk.proofs.FileLemmas.{over_opened}
use Rattle.vm_disk.proofs.file.FileDisk.open.Goals as goal

pub returns-clause-opened : goal.returns-clause-opened
returns-clause-opened g c honest =
    let state = g.F.Positional.state in
    let now = subst (λ f. (state f).honest ≡ true) c.over.ensures.file honest in
    let told = c.in-Ok.ensures.honest now in
    over_opened _ (state c.args.file) (state c.len.new.self) (file_state state c.over.result) c.over.ensures.over c.len.ensures.any.earlier now told.same told.same_waiting
    (c.min-blocks.ensures ∙ ap (λ k. min (k / 4096) c.from.result) told.count ∙ ap (min (length (state c.args.file).bytes / 4096)) c.from.ensures)
