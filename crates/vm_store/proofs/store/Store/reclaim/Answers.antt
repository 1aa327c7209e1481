use Rattle.std.proofs.Common.{rules, refl}
use Rattle.vm_types.specs.declared.command.Command.TheVariants.{Reclaim}
use Rattle.vm_tree.proofs.Looking.{passed_on}
use Rattle.vm_store.proofs.CarryLemmas.{looked}
use Rattle.vm_store.proofs.PerformLemmas.{performs_reclaim}
use Rattle.vm_store.proofs.SeriesLemmas.{holds_closed}
use Rattle.vm_store.proofs.VersionLemmas.{answers_reclaim}
use Rattle.vm_store.proofs.store.Store.reclaim.Goals as goal

pub returns : goal.returns
returns g c =
    let marked = c.mark_all.ensures in
    performs_reclaim _ _ _
    (λ honest s holds.
    let holds' = marked.marking.state honest s holds in
    looked _ _ s holds Reclaim _ (answers_reclaim s _ _ refl tt) (marked.marking.reads honest) holds'.rests (λ _. holds_closed holds'))
    c.in_ok-mark_all.ensures.exact marked.marking.reads (search rules) (search rules) tt tt

pub returns-in_err-mark_all : goal.returns-in_err-mark_all
returns-in_err-mark_all g c =
    let marked = c.mark_all.ensures in
    let failed = c.in_err-mark_all.ensures in
    rw (passed_on _ c.from_residual.ensures.1)
    (performs_reclaim _ _ _
    (λ honest s holds.
    let holds' = marked.marking.state honest s holds in
    looked _ _ s holds Reclaim _ (answers_reclaim s _ _ tt (failed.marking.only honest s holds)) (marked.marking.reads honest) holds'.rests (λ _. holds'))
    (λ honest s holds. tt) marked.marking.reads (search rules) (search rules, search rules) marked.marking.same (λ early. absurd (failed.marking.late early)))
