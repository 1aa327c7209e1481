use Rattle.vm_types.specs.Places.{place}
use Rattle.vm_diff.proofs.LeafCuts.{found_after, missing_after}
use Rattle.vm_diff.proofs.records.first_after.Goals as goal

pub returns-in-Found-clause-cut : goal.returns-in-Found-clause-cut
returns-in-Found-clause-cut c rs leaf = found_after rs (place c.args.high) c.in-Found.index leaf.rising (c.in-Found.ensures.only rs leaf)

pub returns-in-Missing-clause-cut : goal.returns-in-Missing-clause-cut
returns-in-Missing-clause-cut c rs leaf = missing_after rs (place c.args.high) c.in-Missing.index leaf.rising (c.in-Missing.ensures.only rs leaf)
