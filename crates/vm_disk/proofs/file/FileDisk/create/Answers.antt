use Rattle.std.proofs.Common.{◌≡◌, ◌*◌, true, length, sym, ap, ◌∙◌, subst, arith}
use Rattle.vm_disk.specs.File.{AddsZeros, file_state}
use Rattle.vm_disk.proofs.FileLemmas.{made_length, made_zeros}
use Rattle.vm_disk.proofs.file.FileDisk.create.Goals as goal

pub returns-in-Ok-clause-created : goal.returns-in-Ok-clause-created
returns-in-Ok-clause-created g c honest empty =
    let state = g.F.Positional.state in
    let now = subst (λ f. (state f).honest ≡ true) c.part.ensures.file honest in
    made_zeros _ (state c.args.file) (state c.write_zeros.new.file) (file_state state c.part.result) c.part.ensures.part now (subst (λ k. AddsZeros 0 k (state c.args.file) (state c.write_zeros.new.file)) c.in-Ok.ensures.all (c.in-Ok.ensures.added now (omega arith)))

pub returns-in-Ok-clause-whole : goal.returns-in-Ok-clause-whole
returns-in-Ok-clause-whole g c honest empty =
    let state = g.F.Positional.state in
    let now = subst (λ f. (state f).honest ≡ true) c.part.ensures.file honest in
    let adds = subst (λ k. AddsZeros 0 k (state c.args.file) (state c.write_zeros.new.file)) c.in-Ok.ensures.all (c.in-Ok.ensures.added now (omega arith)) in
    subst (λ f. length (state f).bytes ≡ 4096 * c.args.blocks) (sym c.part.ensures.file) (made_length c.args.blocks (state c.args.file) (state c.write_zeros.new.file) adds (c.write_zeros.ensures.behind now (omega arith)) empty)
    ∙ ap (λ n. 4096 * n) (sym c.part.ensures.part.blocks)
