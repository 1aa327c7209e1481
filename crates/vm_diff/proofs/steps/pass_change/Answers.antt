use Rattle.vm_diff.proofs.StepLemmas.{change_taken}
use Rattle.vm_diff.proofs.steps.pass_change.Goals as goal

pub returns-clause-change : goal.returns-clause-change
returns-clause-change c before after here there sizes x limit low high reads most changes differ =
    change_taken sizes x limit low high reads most c.args.one.now c.args.other.now c.pass_at.new.self c.pass_at-2.new.self c.args.key before after changes c.requires
    (λ low value at level. (here.0 low value at level, c.pass_at.ensures.there low value at level))
    (λ apart. (here.1 apart, c.pass_at.ensures.none apart))
    (λ low value at level. (there.0 low value at level, c.pass_at-2.ensures.there low value at level))
    (λ apart. (there.1 apart, c.pass_at-2.ensures.none apart))
    differ
