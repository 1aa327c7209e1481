use Rattle.std.proofs.Common.{sym, ap₂, ◌∙◌, inr}
use Rattle.std.specs.Str.{bytes_eq}
use Rattle.vm_diff.specs.Front.{front_of}
use Rattle.vm_diff.proofs.StepLemmas.{both_same, next_pair}
use Rattle.vm_diff.proofs.steps.meet_pairs.Goals as goal

pub returns-then-eq-clause-steps : goal.returns-then-eq-clause-steps
returns-then-eq-clause-steps c sizes x limit low high reads most changes differ =
    let p = next_pair (front_of c.args.one.now) c.args.key c.requires.first in
    let own = c.requires.second.0 in
    let q = next_pair (front_of c.args.other.now) own c.requires.second.1 in
    let values = ap₂ bytes_eq (c.value.ensures.value c.args.key p.0 p.1) (c.value-2.ensures.value own q.0 q.1) in
    c.skip_shared.ensures.differ sizes x limit low high reads most changes
    (both_same sizes x limit low high reads most c.args.one.now c.args.other.now c.take.new.self c.take-then-eq.new.self c.args.key p.0 q.0 changes p.1 (own, q.1, c.requires.second.2) (sym values ∙ sym c.eq.ensures ∙ c.if-eq.true) c.take.ensures c.take-then-eq.ensures differ)

pub returns-else-eq-clause-found : goal.returns-else-eq-clause-found
returns-else-eq-clause-found c =
    let p = next_pair (front_of c.args.one.now) c.args.key c.requires.first in
    let own = c.requires.second.0 in
    let q = next_pair (front_of c.args.other.now) own c.requires.second.1 in
    let values = ap₂ bytes_eq (c.value.ensures.value c.args.key p.0 p.1) (c.value-2.ensures.value own q.0 q.1) in
    inr (inr (record {
      value = p.0;
      low = own;
      other = q.0;
      first = p.1;
      second = q.1;
      level = c.requires.second.2;
      apart = sym values ∙ sym c.eq.ensures ∙ c.if-eq.false;
    }))
