use Rattle.std.proofs.Common.{◌≡◌, ◌+◌, ◌-◌, ◌≤◌, List, subst, arith}
use Rattle.vm_block.specs.Leaf.{Record}
use Rattle.vm_diff.specs.Ahead.{PassedBoth}
use Rattle.vm_diff.specs.Rows.{IsLeafTo, records_from}
use Rattle.vm_diff.proofs.RowLemmas.{records_passed}
use Rattle.vm_diff.proofs.records.Records.pass_shared.Goals as goal
use Rattle.vm_diff.proofs.records.Records.pass_shared.Goals.{then-here-there, else-here-there}

pub returns : goal.returns
returns c =
    let s = c.self.inside in
    let o = c.other.inside in
    let n = c.shared_records-shared.result in
    let few : (c.if-here-there.most ≤ s.count - s.at) × (c.if-here-there.most ≤ o.count - o.at) = elim c.if-here-there.branch [ then-here-there w ↦ (omega arith, omega arith) | else-here-there w ↦ (omega arith, omega arith) ] in
    let here : s.count ≡ s.at + (s.count - s.at) = omega (arith, c.self.invariant.0) in
    let there : o.count ≡ o.at + (o.count - o.at) = omega (arith, c.other.invariant.0) in
    let p = records_passed s.len o.len s.bytes o.bytes s.at o.at (s.count - s.at) (s.count - (s.at + n)) (o.count - o.at) (o.count - (o.at + n)) n (subst (IsLeafTo s.len s.bytes) here c.self.invariant.2) (subst (IsLeafTo o.len o.bytes) there c.other.invariant.2)
    (omega (arith, few.0, c.shared_records-shared.ensures.most)) (omega (arith, few.1, c.shared_records-shared.ensures.most)) c.shared_records-shared.ensures.same in
    let q = subst (λ (ys : List Record). PassedBoth (records_from s.len s.bytes s.at (s.count - s.at)) ys (records_from s.len s.bytes (s.at + n) (s.count - (s.at + n))) (records_from o.len o.bytes (o.at + n) (o.count - (o.at + n)))) c.other.view_is p in
    subst (λ (xs : List Record). PassedBoth xs c.args.other.now (records_from s.len s.bytes (s.at + n) (s.count - (s.at + n))) (records_from o.len o.bytes (o.at + n) (o.count - (o.at + n)))) c.self.view_is q
