use Rattle.std.proofs.Common.{◌+◌, ◌-◌, ◌*◌, drop, sym, ◌∙◌, arith}
use Rattle.std.proofs.lemmas.List.{take-take}
use Rattle.vm_block.proofs.LookLemmas.{key_at}
use Rattle.vm_block.proofs.look.record_key.Goals as goal

pub returns-clause-key : goal.returns-clause-key
returns-clause-key c rs leaf d lt =
    let i = c.args.index in
    key_at c.args.bytes.now rs i d c.read_key.result leaf lt c.read_key.ensures.fits
    (sym (take-take 10 (4096 - (16 + 12 * i)) (drop (16 + 12 * i) c.args.bytes.now) (omega arith)) ∙ c.read_key.ensures.spelled)
