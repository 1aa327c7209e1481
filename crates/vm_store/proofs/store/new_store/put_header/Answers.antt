use Rattle.std.proofs.Common.{◌≤◌, ◌∙◌, sym, subst}
use Rattle.vm_disk.proofs.MomentLemmas.{weaken, goes_on, started}
use Rattle.vm_store.proofs.LayoutLemmas.{KeepsRest, at_header, header_written, header_synced, completes_now, rest_itself}
use Rattle.vm_store.proofs.store.new_store.put_header.Goals as goal

pub returns-in_default-clause-moments : goal.returns-in_default-clause-moments
returns-in_default-clause-moments g c honest tree blocks es ready =
    let old = (g.D.Disk.state c.args.disk.now).now in
    let clean = ready.laid.clean in
    let write = c.write.ensures.honest honest in
    weaken _ _ _ _ (λ m keeps. at_header tree blocks es old m ready keeps)
    (goes_on _ _ _ (KeepsRest old) (started _ (KeepsRest old) (rest_itself old clean)) write.time (header_written _ _ _ _ clean write))

pub returns-clause-moments : goal.returns-clause-moments
returns-clause-moments g c honest tree blocks es ready =
    let old = (g.D.Disk.state c.args.disk.now).now in
    let clean = ready.laid.clean in
    let write = c.write.ensures.honest (c.sync.ensures.any.earlier honest) in
    let sync = c.sync.ensures.honest honest in
    let written = header_written _ _ _ _ clean write in
    weaken _ _ _ _ (λ m keeps. at_header tree blocks es old m ready keeps)
    (goes_on _ _ _ (KeepsRest old) (goes_on _ _ _ (KeepsRest old) (started _ (KeepsRest old) (rest_itself old clean)) write.time written) sync.time (header_synced _ old _ _ written sync))

pub returns-clause-completed : goal.returns-clause-completed
returns-clause-completed g c honest tree blocks es ready inside =
    let clean = ready.laid.clean in
    let write = c.write.ensures.honest (c.sync.ensures.any.earlier honest) in
    let whole = g.met.D.Disk.whole c.args.disk.now (c.write.ensures.any.earlier (c.sync.ensures.any.earlier honest)) in
    completes_now tree blocks es _ _ _ _ ready (header_written _ _ _ _ clean write) ((c.in-Ok.ensures.honest (c.sync.ensures.any.earlier honest)).written ∙ c.write_header.ensures) (subst (λ n. blocks ≤ n) (sym whole) inside)
    (c.sync.ensures.honest honest)
