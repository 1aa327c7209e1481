use Rattle.std.proofs.Common.{rules, ◌<◌, ◌^◌, find, Err, option_copied, inl, refl, subst, sym, ap, ◌∙◌, arith}
use Rattle.vm_types.specs.declared.command.Command.TheVariants.{Put}
use Rattle.vm_disk.specs.Disk.{Medium}
use Rattle.vm_disk.proofs.MomentLemmas.{at_end, same_medium, started}
use Rattle.vm_tree.proofs.Looking.{passed_on}
use Rattle.vm_store.specs.Answers.{LacksRoom}
use Rattle.vm_store.specs.Store.{free_of, held_of, root_of}
use Rattle.vm_store.specs.Versions.{is_alternative_of}
use Rattle.vm_store.proofs.CarryLemmas.{changed, looked, stayed}
use Rattle.vm_store.proofs.FaultLemmas.{fault_spares, spares_before}
use Rattle.vm_store.proofs.FirstLemmas.{late_put, put_takes, takes_none}
use Rattle.vm_store.proofs.PerformLemmas.{performs_put}
use Rattle.vm_store.proofs.QueryLemmas.{same_store}
use Rattle.vm_store.proofs.SpareTests.{room_for, full_for}
use Rattle.vm_store.proofs.TopLemmas.{rooted_of, grown_of, lacks_under, lacks_over}
use Rattle.vm_store.proofs.RestingLemmas.{found_entry, answers_absent, answers_full, answers_done, answers_fault, deep_here, here_deep}
use Rattle.vm_store.proofs.SeriesLemmas.{went_on, in_series, holds_as, holds_more, holds_then, holds_unmarked, put_holds}
use Rattle.vm_store.specs.Rest.{before_of}
use Rattle.vm_store.proofs.store.Store.put_value.Goals as goal

pub returns-in_default : goal.returns-in_default
returns-in_default g c =
    performs_put _ _ _ _ _ _
    (λ honest s holds. stayed c.args.self.now s holds (Put c.args.alt.now c.args.key c.args.value.now) _ (answers_absent _ _ _ _ _ _ s holds.rests c.args.alt.now c.args.key c.args.value.now _ _ (sym c.in_default.ensures)))
    (λ honest first. started _ _ refl) (search rules) (search rules) (search rules) (search rules) (search rules) (search rules) refl (search rules)

pub returns-then-not-branch : goal.returns-then-not-branch
returns-then-not-branch g c =
    let spare = c.has_spare.ensures in
    let ok = c.in_ok-has_spare.ensures in
    performs_put c.args.self.now c.has_spare.new.self _ _ _ _
    (λ honest s holds.
    let holds' = spare.marking.state honest s holds in
    looked _ _ s holds (Put c.args.alt.now c.args.key c.args.value.now) _ (answers_full _ _ _ _ _ _ s holds.rests c.args.alt.now c.args.key c.args.value.now _ (sym c.in-Some.ensures) _ _ (full_for _ _ _ (ok.spare honest s holds) c.if-not-branch.true))
    (spare.marking.reads honest) holds'.rests (λ _. holds'))
    (λ honest first. spare.marking.reads honest)
    (λ enough. omega (arith, ap free_of (spare.enough enough)), λ honest few late s holds. omega (arith, ok.exact honest few s holds))
    (λ honest is s holds. ok.marked honest s holds c.if-not-branch.true) (λ honest is s holds. (ok.known c.if-not-branch.true, λ was. rw (spare.once was) (same_store _))) (search rules) (search rules) (search rules) (search rules) (search rules)

pub returns-in_err-has_spare : goal.returns-in_err-has_spare
returns-in_err-has_spare g c =
    let spare = c.has_spare.ensures in
    let failed = c.in_err-has_spare.ensures in
    rw (passed_on _ c.from_residual.ensures.1)
    (performs_put _ c.has_spare.new.self _ _ _ _
    (λ honest s holds.
    let holds' = spare.marking.state honest s holds in
    looked _ _ s holds (Put c.args.alt.now c.args.key c.args.value.now) _ (inl (ap Err (failed.marking.only honest s holds))) (spare.marking.reads honest) holds'.rests (λ _. holds'))
    (λ honest first. spare.marking.reads honest)
    (takes_none 16 _ c.args.self.now c.has_spare.new.self (λ enough. ap held_of (spare.enough enough)) failed.marking.only)
    (search rules) (search rules) (search rules) (search rules) (search rules, search rules) spare.marking.same (λ early. absurd (failed.marking.late early)))

pub returns : goal.returns
returns g c =
    let spare = c.has_spare.ensures in
    let ok = c.in_ok-has_spare.ensures in
    let done = c.in_ok-root.ensures in
    let mid = c.has_spare.new.self in
    let small : c.in_ok-root.root.block < 2 ^ 32 = omega (arith, done.root.0.inside, done.writes.still.same_length, mid.parts.bits, mid.parts.most) in
    rw (← c.as_bytes.ensures.bytes)
    (performs_put _ _ _ _ _ _
    (λ honest s holds.
    let rests = holds.rests in
    let marked = done.writes.goes.earlier honest in
    let holds' = spare.marking.state marked s holds in
    let rests' = holds'.rests in
    let read = same_medium _ _ (spare.marking.reads marked) in
    let e = c.in-Some.version in
    let is = ap (λ p. find (is_alternative_of c.args.alt.now) p.1) spare.marking.same ∙ sym c.in-Some.ensures in
    let found = found_entry _ _ _ _ _ _ s rests' c.args.alt.now e is in
    let current = found.stands.current in
    let put = done.put honest found.filed.current current.stands_in (rooted_of _ _ _ e.current _ _ mid.parts.bits current.rooted) in
    let grown = grown_of _ _ _ _ c.in_ok-root.root _ mid.parts.bits (put.0 current.each) in
    let on = went_on _ _ _ _ _ _ _ s c.args.alt.now mid.parts.before mid.parts.series _ c.go_on.ensures.series c.go_on.ensures.before (holds_unmarked holds') in
    let stays = ap (λ o. before_of o mid.parts.held) c.before_series.ensures in
    let series = in_series _ _ _ _ _ _ _ s c.args.alt.now _ _ c.go_on.ensures.series stays on in
    changed _ _ s holds (Put c.args.alt.now c.args.key c.as_bytes.result.now) _ (answers_done _ _ _ _ _ _ s rests c.args.alt.now c.args.key c.as_bytes.result.now _ (sym c.in-Some.ensures) _ _ (room_for _ _ _ (ok.spare marked s holds) c.if-not-branch.false)
    (λ deep. put.1 (lacks_over _ e.current _ (deep_here _ _ _ _ _ _ s rests' c.args.alt.now c.args.key c.as_bytes.result.now e is (g.D.Disk.state mid.disk).now.contents
    (subst (λ (m : Medium). LacksRoom m.contents (root_of mid c.args.alt.now) (c.args.key, c.as_bytes.result.now)) (sym read)
    (subst (λ f. LacksRoom (g.D.Disk.state c.args.self.now.disk).now.contents (f c.args.alt.now) (c.args.key, c.as_bytes.result.now)) (sym spare.marking.roots) deep))))))
    _ (spare.marking.reads marked) series (done.writes.moments honest _ series.wider (spares_before (option_copied c.before_series.result) mid.parts.held)) (done.writes.unsynced honest) done.writes.still
    (λ _. holds_as refl c.set_current.ensures
    (holds_then c.args.alt.now _ _ c.go_on.ensures.series stays
    (put_holds _ _ _ _ _ _ _ s rests' c.args.alt.now e is series _ c.put.new.held c.in_ok-root.root small
    (at_end _ _ _ (done.writes.moments honest _ series.wider (spares_before (option_copied c.before_series.result) mid.parts.held))) done.writes.still c.args.key holds'.keeps c.as_bytes.result.now grown))))
    (λ honest. tt)
    (λ enough. omega (arith, ap free_of (spare.enough enough), done.writes.taken), λ honest few late s holds. omega (arith, ok.exact (done.writes.goes.earlier honest) few s holds, done.writes.taken))
    (search rules) (search rules) (search rules) (search rules) (search rules) tt tt)

pub returns-in_err-root : goal.returns-in_err-root
returns-in_err-root g c =
    let spare = c.has_spare.ensures in
    let ok = c.in_ok-has_spare.ensures in
    let failed = c.in_err-root.ensures in
    let mid = c.has_spare.new.self in
    let taken = put_takes 16 mid.parts.held c.put.new.held (omega (arith, failed.writes.taken)) c.in_err-root.field-0.0 failed.refused.kept in
    rw (passed_on _ c.from_residual-in_err-root.ensures.1, ← c.as_bytes.ensures.bytes)
    (performs_put _ _ _ _ _ _
    (λ honest s holds.
    let rests = holds.rests in
    let marked = failed.writes.goes.earlier honest in
    let holds' = spare.marking.state marked s holds in
    let rests' = holds'.rests in
    let read = same_medium _ _ (spare.marking.reads marked) in
    let e = c.in-Some.version in
    let is = ap (λ p. find (is_alternative_of c.args.alt.now) p.1) spare.marking.same ∙ sym c.in-Some.ensures in
    let found = found_entry _ _ _ _ _ _ s rests' c.args.alt.now e is in
    let current = found.stands.current in
    let put = failed.put honest found.filed.current current.stands_in (rooted_of _ _ _ e.current _ _ mid.parts.bits current.rooted) in
    let on = went_on _ _ _ _ _ _ _ s c.args.alt.now mid.parts.before mid.parts.series _ c.go_on.ensures.series c.go_on.ensures.before (holds_unmarked holds') in
    let stays = ap (λ o. before_of o mid.parts.held) c.before_series.ensures in
    let series = in_series _ _ _ _ _ _ _ s c.args.alt.now _ _ c.go_on.ensures.series stays on in
    changed _ _ s holds (Put c.args.alt.now c.args.key c.as_bytes.result.now) _ (answers_fault _ _ _ _ _ _ s rests c.args.alt.now c.args.key c.as_bytes.result.now _ (sym c.in-Some.ensures) _ _ _ c.in_err-root.field-0.0 _ (room_for _ _ _ (ok.spare marked s holds) c.if-not-branch.false)
    (λ here. subst (λ f. LacksRoom (g.D.Disk.state c.args.self.now.disk).now.contents (f c.args.alt.now) (c.args.key, c.as_bytes.result.now)) spare.marking.roots
    (subst (λ (m : Medium). LacksRoom m.contents (root_of mid c.args.alt.now) (c.args.key, c.as_bytes.result.now)) read
    (here_deep _ _ _ _ _ _ s rests' c.args.alt.now c.args.key c.as_bytes.result.now e is (g.D.Disk.state mid.disk).now.contents (lacks_under _ e.current _ here))))
    put)
    _ (spare.marking.reads marked) series (failed.writes.moments honest _ series.wider (spares_before (option_copied c.before_series.result) mid.parts.held)) (failed.writes.unsynced honest) failed.writes.still
    (λ fine. holds_more _ _ _ _ _ _ _ s _ _ _ (fault_spares c.in_err-root.field-0.0 _ _ _ _ failed.refused honest fine) failed.writes.still on))
    (λ honest first. absurd (late_put c.in_err-root.field-0.0 first))
    (λ enough. omega (arith, ap free_of (spare.enough enough), taken), λ honest few late s holds. omega (arith, ok.exact (failed.writes.goes.earlier honest) few s holds, taken))
    (search rules) (search rules) (search rules) (search rules) (search rules) (search rules) (search rules))
