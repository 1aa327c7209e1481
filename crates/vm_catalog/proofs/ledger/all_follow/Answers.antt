use Rattle.std.proofs.Common.{refl}
use Rattle.std.proofs.lemmas.Bool.{false≢true}
use Rattle.vm_catalog.proofs.LedgerLemmas.{follows_more, follows_there}
use Rattle.vm_catalog.proofs.ledger.all_follow.Goals as goal

pub returns-then-not-may_follow : goal.returns-then-not-may_follow
returns-then-not-may_follow c =
    (λ h. absurd (false≢true h), λ all. c.if-not-may_follow.ensures.1 (follows_there c.args.entries.now c.loop-i.i c.index-entries-i.result c.loop-i.auto.i c.loop-i-test.true c.index-entries-i.is all))

pub loop-i-preserved : goal.loop-i-preserved
loop-i-preserved c =
    follows_more c.args.entries.now c.loop-i.i c.index-entries-i.result c.loop-i.auto.i c.loop-i-test.true c.index-entries-i.is c.loop-i.invariant (c.if-not-may_follow.ensures.0 refl)
