use Rattle.std.proofs.Common.{◌≡◌, ◌+◌, ◌-◌, List, [], drop, sym, ap, ◌∙◌, arith}
use Rattle.vm_block.specs.Leaf.{Record}
use Rattle.vm_diff.specs.Rows.{records_of}
use Rattle.vm_diff.proofs.RowLemmas.{part_none, part_past}
use Rattle.vm_diff.proofs.records.Records.pass.Goals as goal

pub returns-then-self : goal.returns-then-self
returns-then-self c =
    let s = c.self.inside in
    part_past (records_of s.len s.bytes) s.at (s.count - (s.at + 1)) (s.count - s.at) (omega (arith, c.if-self.true)) ∙ ap (λ (rs : List Record). drop 1 rs) c.self.view_is

pub returns-else-self : goal.returns-else-self
returns-else-self c =
    let s = c.self.inside in
    let none : [] ≡ c.args.self.now = sym (part_none (records_of s.len s.bytes) s.at (s.count - s.at) (omega (arith, c.if-self.false))) ∙ c.self.view_is in
    sym none ∙ ap (λ (rs : List Record). drop 1 rs) none
