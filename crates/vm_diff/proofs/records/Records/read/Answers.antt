use Rattle.std.proofs.Common.{◌-◌, List, take, drop, sym, subst}
use Rattle.vm_types.specs.Places.{place}
use Rattle.vm_block.specs.Leaf.{Record}
use Rattle.vm_diff.specs.Cuts.{CutsRecords}
use Rattle.vm_diff.proofs.CutLemmas.{cut_between}
use Rattle.vm_diff.proofs.RowLemmas.{records_whole}
use Rattle.vm_diff.proofs.records.Records.read.Goals as goal

pub returns-clause-only : goal.returns-clause-only
returns-clause-only g c honest rs at =
    let there = c.in_ok-self-inside.ensures.only honest rs at in
    let low = place c.args.part.low in
    let high = place c.args.part.high in
    let first = c.first_from-first in
    let end = c.first_after-end in
    let many = c.max-self-inside.result in
    subst (λ (qs : List Record). CutsRecords low high rs (take (many - first.result) (drop first.result qs)))
    (sym (records_whole c.in_ok-self-inside.field-0 c.leaf_into.new.bytes (record { records = rs; leaf = there.0; many = there.1 })))
    (cut_between low high first.result end.result rs there.0.rising (first.ensures.cut rs there.0) (end.ensures.cut rs there.0) many c.max-self-inside.ensures)
