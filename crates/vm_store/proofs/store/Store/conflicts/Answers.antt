use Rattle.std.proofs.Common.{◌∙◌, Err, ap, inr, rules}
use Rattle.vm_tree.proofs.Looking.{passed_on}
use Rattle.vm_store.proofs.Listing.{listed}
use Rattle.vm_store.proofs.PairLemmas.{conflicts_lacking, conflicts_there, own_there, parent_there}
use Rattle.vm_store.proofs.SharedLemmas.{few_on_sides}
use Rattle.vm_store.proofs.QueryLemmas.{query_failed, query_read, query_unpaired}
use Rattle.vm_store.specs.declared.version.Version.{Version}
use Rattle.vm_store.proofs.store.Store.conflicts.Goals as goal

pub returns-in_err-ready-clause-query : goal.returns-in_err-ready-clause-query
returns-in_err-ready-clause-query g c =
    query_failed _ _ _ c.in_err-ready.ensures.err.1 (passed_on _ c.from_residual.ensures.1 ∙ ap Err c.in_err-ready.ensures.err.0)

pub returns-in_err-own-clause-query : goal.returns-in_err-own-clause-query
returns-in_err-own-clause-query g c =
    let lacks = c.in_err-own.ensures.none in
    let is = passed_on _ c.from_residual-in_err-own.ensures.1 in
    query_unpaired _ _ _ c.in_ok-ready.ensures.ok c.args.alt.now _ lacks is
    (λ s holds. rw is (inr (conflicts_lacking _ _ _ _ _ _ s holds.rests c.args.alt.now c.in_err-own.field-0.0 lacks)))

pub returns-clause-query : goal.returns-clause-query
returns-clause-query g c =
    let said = c.conflicts_of.ensures in
    query_read _ _ _ _ c.in_ok-ready.ensures.ok (search rules) said.any said.never said.reads
    (λ honest well s holds.
    let rests = holds.rests in
    let alt = c.args.alt.now in
    let pair : Version × Version = (c.in_ok-own.own, c.in_ok-own.parent) in
    let is = c.in_ok-own.ensures.found in
    let own = own_there _ _ _ _ _ _ s rests alt pair is in
    let parent = parent_there _ _ _ _ _ _ s rests alt pair is in
    listed _ _ _ (conflicts_there _ _ _ _ _ _ s rests alt pair is)
    (said.conflicts honest _ _ _ _ _ _ own.stands.base.rooted parent.stands.current.rooted own.stands.current.rooted))

pub returns-clause-bound : goal.returns-clause-bound
returns-clause-bound g c honest s holds =
    few_on_sides (g.D.Disk.state c.args.self.now.disk) (g.D.Disk.state c.conflicts_of.new.disk) _ _ _ _ _ s holds.rests c.args.alt.now (c.in_ok-own.own, c.in_ok-own.parent) c.in_ok-own.ensures.found honest c.conflicts_of.ensures.bound
