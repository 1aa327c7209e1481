use Rattle.std.proofs.Common.{◌-◌, sym, ◌∙◌, arith}
use Rattle.std.proofs.lemmas.Bool.{eqb-true}
use Rattle.vm_diff.specs.Rows.{records_of}
use Rattle.vm_diff.proofs.RowLemmas.{part_none}
use Rattle.vm_diff.proofs.records.Records.is_empty.Goals as goal

pub returns : goal.returns
returns c t =
    let s = c.self.inside in
    sym (sym (part_none (records_of s.len s.bytes) s.at (s.count - s.at) (omega (arith, eqb-true s.at s.count t))) ∙ c.self.view_is)
