use Rattle.vm_check.proofs.RootLemmas.{bare_marked, top_marked}
use Rattle.vm_check.proofs.OnlyLemmas.{root_top}
use Rattle.vm_check.proofs.marks.mark_root.Goals as goal

pub returns-then-root-eq0-clause-marked : goal.returns-then-root-eq0-clause-marked
returns-then-root-eq0-clause-marked g c honest sizes bs under closed = bare_marked sizes _ _ c.args.root bs _ c.if-root-eq0.true under

pub returns-clause-marked : goal.returns-clause-marked
returns-clause-marked g c honest sizes bs under closed =
    top_marked sizes _ _ c.args.root bs _ _ c.if-root-eq0.false under closed (λ rs tree here. c.mark_below.ensures.marked honest sizes rs bs tree here)

pub returns-clause-sound : goal.returns-clause-sound
returns-clause-sound g c honest sizes bs under = root_top sizes _ _ c.args.root bs _ c.if-root-eq0.false under (λ rs tree. c.mark_below.ensures.sound honest sizes rs bs tree)

pub returns-clause-only : goal.returns-clause-only
returns-clause-only g c honest sizes bs under = root_top sizes _ _ c.args.root bs _ c.if-root-eq0.false under (λ rs tree. c.mark_below.ensures.only honest sizes rs bs tree)
