use Rattle.std.proofs.Common.{rules, ◌≡◌, true, inl, inr, ℕ, length, List, Result, Ok, Err, IsOk, refl, sym, ap, arith, ◌∙◌, subst}
use Rattle.std.proofs.lemmas.Bool.{false≢true}
use Rattle.vm_types.specs.declared.change.Change.{Change}
use Rattle.vm_types.specs.declared.command.Command.TheVariants.{Merge}
use Rattle.vm_types.specs.State.{State, changes_made}
use Rattle.vm_types.specs.declared.answer.Answer.{Answer}
use Rattle.vm_types.specs.declared.answer.Answer.TheVariants.{Merged}
use Rattle.vm_types.specs.declared.refusal.Refusal.{Refusal}
use Rattle.vm_disk.specs.Moments.{OnlyReads}
use Rattle.vm_disk.proofs.MomentLemmas.{at_end, reads_then, started}
use Rattle.vm_tree.specs.Faults.{refusal_of_put}
use Rattle.vm_tree.proofs.Looking.{passed_on}
use Rattle.vm_store.specs.Answers.{IsMergeAnswer}
use Rattle.vm_store.specs.Pairs.{IsPair}
use Rattle.vm_store.proofs.CarryLemmas.{looked, stayed, wrote}
use Rattle.vm_store.proofs.FirstLemmas.{late_put}
use Rattle.vm_store.proofs.MergeSteps.{merges_refused, merges_full, merges_done, merges_deep, merge_step, merge_refusal, merge_is, merge_made, merge_rests, planned, start_is, start_rooted, fault_of_changes, by_reason, by_either, made_of, meets_as}
use Rattle.vm_store.proofs.PairLemmas.{conflicts_there, lacking, own_there, parent_there}
use Rattle.vm_store.proofs.MergeTaken.{IsUnmarked, pair_unmarked, put_is_late, sides_unmarked, taken_at_fault, unmarked_not_full, unmarked_takes}
use Rattle.vm_store.proofs.PerformLemmas.{performs_merge}
use Rattle.vm_store.proofs.QueryLemmas.{same_store}
use Rattle.vm_store.proofs.Removing.{spare_after, spare_free}
use Rattle.vm_store.proofs.RestingLemmas.{rests_more, rests_as}
use Rattle.vm_store.proofs.SeriesLemmas.{holds_alone, read_holds}
use Rattle.vm_store.specs.Versions.{is_alternative_of, with_base}
use Rattle.vm_types.specs.Firsts.{change_first}
use Rattle.vm_store.proofs.SharedLemmas.{few_on_sides}
use Rattle.vm_store.proofs.SpareTests.{room_for, full_for}
use Rattle.vm_store.proofs.TopLemmas.{grown_of, grown_small}
use Rattle.vm_store.specs.Store.{Holds, IsHonest, free_of}
use Rattle.vm_store.specs.declared.sides.ThreeRoots.{ThreeRoots}
use Rattle.vm_store.specs.declared.store.Store.{Store}
use Rattle.vm_store.specs.declared.version.Version.{Version}
use Rattle.vm_store.proofs.store.Store.merge.Goals as goal

pub returns-in_err-own : goal.returns-in_err-own
returns-in_err-own g c =
    let old = c.args.self.now in
    let alt = c.args.alt.now in
    let settled = c.args.settled.now in
    let lacks = c.in_err-own.ensures.none in
    let unmarked = pair_unmarked old.parts.working alt _ lacks in
    rw (passed_on _ c.from_residual.ensures.1)
    (performs_merge old old _ alt settled
    (λ honest s holds. stayed _ s holds (Merge alt settled) _ (merges_refused s _ _ alt settled c.in_err-own.field-0.0 (lacking _ _ _ _ _ _ s holds.rests alt _ c.in_err-own.field-0.0 lacks)))
    (λ honest. (λ first. started _ _ refl, λ s holds none done. absurd (false≢true done))) (λ honest s holds none. omega arith) (λ honest s holds. unmarked_takes _ _ _ _ _ (λ enough. refl) unmarked)
    (λ honest is. absurd (unmarked_not_full _ unmarked is)) (λ honest is. absurd (unmarked_not_full _ unmarked is)) (search rules) (search rules) refl (λ early. same_store old))

pub returns-in_err-plan : goal.returns-in_err-plan
returns-in_err-plan g c =
    let old = c.args.self.now in
    let alt = c.args.alt.now in
    let settled = c.args.settled.now in
    let pair : Version × Version = (c.in_ok-own.own, c.in_ok-own.parent) in
    let is = c.in_ok-own.ensures.found in
    let failed = c.in_err-plan.ensures in
    let plan = λ (honest : (g.D.Disk.state c.plan_of_merge.new.disk).honest ≡ true) (s : State) (holds : Holds old s).
    let own = own_there _ _ _ _ _ _ s holds.rests alt pair is in
    let parent = parent_there _ _ _ _ _ _ s holds.rests alt pair is in
    failed.plan honest _ _ _ _ _ _ own.stands.base.rooted parent.stands.current.rooted own.stands.current.rooted in
    rw (passed_on _ c.from_residual-in_err-plan.ensures.1)
    (performs_merge old _ _ alt settled
    (λ honest s holds.
    let rests = holds.rests in
    let holds' = read_holds _ _ _ _ _ _ _ _ _ s (failed.reads honest) holds in
    looked _ _ s holds (Merge alt settled) _ (by_reason _ _ _ (plan honest s holds) (λ device. inl (ap Err device)) (λ memory. inr (inl (ap Err memory, subst IsOk (sym (conflicts_there _ _ _ _ _ _ s rests alt pair is)) refl))) (λ refused. merges_refused s _ _ alt settled _ (merge_refusal _ _ _ _ _ _ s rests alt pair is settled _ refused)))
    (failed.reads honest) holds'.rests (λ _. holds'))
    (λ honest. (λ first. failed.reads honest, λ s holds none done. absurd (false≢true done)))
    (λ honest s holds none. few_on_sides (g.D.Disk.state old.disk) (g.D.Disk.state c.plan_of_merge.new.disk) _ _ _ _ _ s holds.rests alt pair is honest failed.bound)
    (λ honest s holds. unmarked_takes _ _ _ _ _ (λ enough. refl) (sides_unmarked _ _ _ _ _ (plan honest s holds)))
    (λ honest is s holds. absurd (unmarked_not_full _ (sides_unmarked _ _ _ _ _ (plan honest s holds)) is))
    (λ honest is s holds. absurd (unmarked_not_full _ (sides_unmarked _ _ _ _ _ (plan honest s holds)) is))
    (search rules) (search rules) refl (λ early. record { alloc = refl; parts = refl; failed = refl }))

pub returns-then-not-branch : goal.returns-then-not-branch
returns-then-not-branch g c =
    let old = c.args.self.now in
    let alt = c.args.alt.now in
    let settled = c.args.settled.now in
    let pair : Version × Version = (c.in_ok-own.own, c.in_ok-own.parent) in
    let is = c.in_ok-own.ensures.found in
    let mid = c.has_spare.new.self in
    let spare = c.has_spare.ensures in
    let ok = c.in_ok-has_spare.ensures in
    let plan = λ (honest : IsHonest mid) (s : State) (holds : Holds old s).
    let own = own_there _ _ _ _ _ _ s holds.rests alt pair is in
    let parent = parent_there _ _ _ _ _ _ s holds.rests alt pair is in
    c.in_ok-plan.ensures.plan (spare.marking.any.earlier honest) _ _ _ _ _ _ own.stands.base.rooted parent.stands.current.rooted own.stands.current.rooted in
    let many : IsHonest mid → (s : State) → Holds old s → changes_made s.working (Merge alt settled) ≡ c.len.result =
    λ honest s holds. merge_made _ _ _ _ _ _ s holds.rests alt pair is settled (plan honest s holds).0 ∙ sym (c.len.ensures ∙ ap (λ (cs : List Change). length cs) (plan honest s holds).1.changes) in
    performs_merge old mid _ alt settled
    (λ honest s holds.
    let read = c.in_ok-plan.ensures.reads (spare.marking.any.earlier honest) in
    let holds' = spare.marking.state honest s (read_holds _ _ _ _ _ _ _ _ _ s read holds) in
    looked _ _ s holds (Merge alt settled) _ (merges_full s _ _ alt settled _ (merge_step _ _ _ _ _ _ s holds.rests alt pair is settled (plan honest s holds).0) c.len.result (many honest s holds)
    (full_for _ _ _ (spare_after _ _ _ _ _ _ _ _ _ s _ _ read (ok.spare honest) holds) c.if-not-branch.true))
    (reads_then _ _ _ read (spare.marking.reads honest)) holds'.rests (λ _. holds'))
    (λ honest. (λ first. reads_then _ _ _ (c.in_ok-plan.ensures.reads (spare.marking.any.earlier honest)) (spare.marking.reads honest), λ s holds none done. absurd (false≢true done)))
    (λ honest s holds none. absurd none)
    (λ honest s holds. (
      λ enough. omega (arith, ap free_of (spare.enough (omega (arith, many honest s holds, enough)))),
      λ few late. omega (arith, spare_free _ _ _ _ _ _ _ _ _ s _ (c.in_ok-plan.ensures.reads (spare.marking.any.earlier honest)) (ok.exact honest (omega (arith, many honest s holds, few))) holds),
    ))
    (λ honest is s holds. spare_free _ _ _ _ _ _ _ _ _ s _ (c.in_ok-plan.ensures.reads (spare.marking.any.earlier honest)) (λ s holds. ok.marked honest s holds c.if-not-branch.true) holds)
    (λ honest is s holds. (ok.known c.if-not-branch.true, λ was. rw (spare.once was) (record { alloc = refl; parts = refl; failed = refl })))
    (search rules) (search rules) (search rules) (λ early. absurd early)

pub returns-in_err-has_spare : goal.returns-in_err-has_spare
returns-in_err-has_spare g c =
    let old = c.args.self.now in
    let alt = c.args.alt.now in
    let settled = c.args.settled.now in
    let pair : Version × Version = (c.in_ok-own.own, c.in_ok-own.parent) in
    let is = c.in_ok-own.ensures.found in
    let mid = c.has_spare.new.self in
    let spare = c.has_spare.ensures in
    let failed = c.in_err-has_spare.ensures in
    let plan = λ (honest : IsHonest mid) (s : State) (holds : Holds old s).
    let own = own_there _ _ _ _ _ _ s holds.rests alt pair is in
    let parent = parent_there _ _ _ _ _ _ s holds.rests alt pair is in
    c.in_ok-plan.ensures.plan (spare.marking.any.earlier honest) _ _ _ _ _ _ own.stands.base.rooted parent.stands.current.rooted own.stands.current.rooted in
    let many : IsHonest mid → (s : State) → Holds old s → changes_made s.working (Merge alt settled) ≡ c.len.result =
    λ honest s holds. merge_made _ _ _ _ _ _ s holds.rests alt pair is settled (plan honest s holds).0 ∙ sym (c.len.ensures ∙ ap (λ (cs : List Change). length cs) (plan honest s holds).1.changes) in
    let device = λ (honest : IsHonest mid) (s : State) (holds : Holds old s). failed.marking.only honest s (read_holds _ _ _ _ _ _ _ _ _ s (c.in_ok-plan.ensures.reads (spare.marking.any.earlier honest)) holds) in
    rw (passed_on _ c.from_residual-in_err-has_spare.ensures.1)
    (performs_merge old mid _ alt settled
    (λ honest s holds.
    let read = c.in_ok-plan.ensures.reads (spare.marking.any.earlier honest) in
    let holds' = spare.marking.state honest s (read_holds _ _ _ _ _ _ _ _ _ s read holds) in
    looked _ _ s holds (Merge alt settled) _ (inl (ap Err (device honest s holds))) (reads_then _ _ _ read (spare.marking.reads honest)) holds'.rests (λ _. holds'))
    (λ honest. (λ first. reads_then _ _ _ (c.in_ok-plan.ensures.reads (spare.marking.any.earlier honest)) (spare.marking.reads honest), λ s holds none done. absurd (false≢true done)))
    (λ honest s holds none. absurd (failed.marking.late none))
    (λ honest s holds. unmarked_takes (changes_made s.working (Merge alt settled)) _ _ _ _ (λ enough. ap free_of (spare.enough (omega (arith, many honest s holds, enough)))) (subst IsUnmarked (sym (device honest s holds)) (λ late. late)))
    (search rules) (search rules) (search rules) (search rules) (search rules) (λ early. absurd (failed.marking.late early)))

pub returns : goal.returns
returns g c =
    let old = c.args.self.now in
    let alt = c.args.alt.now in
    let settled = c.args.settled.now in
    let pair : Version × Version = (c.in_ok-own.own, c.in_ok-own.parent) in
    let is = c.in_ok-own.ensures.found in
    let roots : ThreeRoots = record { base = c.in_ok-own.own.base; parent = c.in_ok-own.parent.current; own = c.in_ok-own.own.current } in
    let mid = c.has_spare.new.self in
    let spare = c.has_spare.ensures in
    let ok = c.in_ok-has_spare.ensures in
    let done = c.in_ok-root.ensures in
    let answer : ℕ → Result Answer Refusal = λ edits. Ok (Merged edits) in
    let plan = λ (honest : IsHonest mid) (s : State) (holds : Holds old s).
    let own = own_there _ _ _ _ _ _ s holds.rests alt pair is in
    let parent = parent_there _ _ _ _ _ _ s holds.rests alt pair is in
    c.in_ok-plan.ensures.plan (spare.marking.any.earlier honest) _ _ _ _ _ _ own.stands.base.rooted parent.stands.current.rooted own.stands.current.rooted in
    let many : IsHonest mid → (s : State) → Holds old s → changes_made s.working (Merge alt settled) ≡ c.len.result =
    λ honest s holds. merge_made _ _ _ _ _ _ s holds.rests alt pair is settled (plan honest s holds).0 ∙ sym (c.len.ensures ∙ ap (λ (cs : List Change). length cs) (plan honest s holds).1.changes) in
    let untouched : IsHonest mid → (s : State) → Holds old s → changes_made s.working (Merge alt settled) ≡ 0 → c.make_changes.new.disk ≡ c.plan_of_merge.new.disk =
    λ honest s holds none.
    let empty : length c.in_ok-plan.plan.changes ≡ 0 = omega (arith, many honest s holds, c.len.ensures, none) in
    (done.none empty).0 ∙ ap (λ (store : Store _ _). store.disk) (spare.enough (omega (arith, c.len.ensures, empty))) in
    performs_merge old _ _ alt settled
    (λ honest s holds.
    let rests = holds.rests in
    let marked = done.any.earlier honest in
    let read = c.in_ok-plan.ensures.reads (spare.marking.any.earlier marked) in
    let holds' = spare.marking.state marked s (read_holds _ _ _ _ _ _ _ _ _ s read holds) in
    let rests' = holds'.rests in
    let room = room_for _ _ _ (spare_after _ _ _ _ _ _ _ _ _ s _ _ read (ok.spare marked) holds) c.if-not-branch.false in
    let is' = subst (λ p. IsPair p.1 alt pair) (sym spare.marking.same) is in
    let plan' = planned _ _ _ _ _ _ s rests _ _ _ _ _ _ rests' alt pair is is' settled _ (plan marked s holds) in
    let own' = own_there _ _ _ _ _ _ s rests' alt pair is' in
    let parent' = parent_there _ _ _ _ _ _ s rests' alt pair is' in
    let begun = start_rooted _ _ _ _ _ _ s rests' alt pair is' settled _ _ _ roots _ c.start.result c.start.ensures plan'.1.start (grown_of _ _ _ _ c.in_ok-own.own.current _ (sym mid.parts.bits) own'.stands.current) (grown_of _ _ _ _ c.in_ok-own.parent.current _ (sym mid.parts.bits) parent'.stands.current) in
    let made = done.changed honest _ begun in
    let grown = made_of _ _ _ _ _ _ s rests' alt pair is' settled _ _ _ c.in_ok-root.root _ plan'.1.changes (grown_of _ _ _ _ c.in_ok-root.root _ mid.parts.bits made) in
    let both = c.set_base.ensures ∙ ap (change_first (is_alternative_of alt) (with_base c.in_ok-own.parent.current)) c.set_current.ensures in
    wrote _ _ s holds (Merge alt settled) _ (subst (IsMergeAnswer s _ _ alt settled) (sym (ap answer (plan marked s holds).1.edits)) (merges_done s _ _ alt settled _ (merge_step _ _ _ _ _ _ s rests alt pair is settled (plan marked s holds).0) c.len.result (many marked s holds) room))
    _ (reads_then _ _ _ read (spare.marking.reads marked)) rests' (done.moments honest) (done.unsynced honest) done.still
    (λ _. holds_alone holds'.keeps (rests_as _ _ _ _ _ _ _ _ (sym both)
    (merge_rests _ _ _ _ _ _ s rests' alt pair is' settled plan'.0 _ c.make_changes.new.held c.in_ok-root.root (grown_small _ _ _ _ _ mid.parts.most grown)
    (at_end _ _ _ (done.moments honest)) done.still grown))))
    (λ honest. (
      tt,
      λ s holds none _. subst (λ d. OnlyReads (g.D.Disk.state old.disk) (g.D.Disk.state d)) (sym (untouched (done.any.earlier honest) s holds none))
          (c.in_ok-plan.ensures.reads (spare.marking.any.earlier (done.any.earlier honest))),
    ))
    (λ honest s holds none.
    let marked = done.any.earlier honest in
    omega (arith, few_on_sides (g.D.Disk.state old.disk) (g.D.Disk.state c.plan_of_merge.new.disk) _ _ _ _ _ s holds.rests alt pair is (spare.marking.any.earlier marked) c.in_ok-plan.ensures.bound, ap (λ d. (g.D.Disk.state d).reads) (untouched marked s holds none)))
    (λ honest s holds.
    let marked = done.any.earlier honest in (
      λ enough. omega (arith, many marked s holds, c.len.ensures, ap free_of (spare.enough (omega (arith, many marked s holds, enough))), done.taken),
      λ few late. omega (arith, many marked s holds, c.len.ensures, spare_free _ _ _ _ _ _ _ _ _ s _ (c.in_ok-plan.ensures.reads (spare.marking.any.earlier marked)) (ok.exact marked (omega (arith, many marked s holds, few))) holds, done.taken),
    ))
    (search rules) (search rules) (search rules) (search rules) tt tt

pub returns-in_err-root : goal.returns-in_err-root
returns-in_err-root g c =
    let old = c.args.self.now in
    let alt = c.args.alt.now in
    let settled = c.args.settled.now in
    let pair : Version × Version = (c.in_ok-own.own, c.in_ok-own.parent) in
    let is = c.in_ok-own.ensures.found in
    let roots : ThreeRoots = record { base = c.in_ok-own.own.base; parent = c.in_ok-own.parent.current; own = c.in_ok-own.own.current } in
    let mid = c.has_spare.new.self in
    let spare = c.has_spare.ensures in
    let ok = c.in_ok-has_spare.ensures in
    let failed = c.in_err-root.ensures in
    let plan = λ (honest : IsHonest mid) (s : State) (holds : Holds old s).
    let own = own_there _ _ _ _ _ _ s holds.rests alt pair is in
    let parent = parent_there _ _ _ _ _ _ s holds.rests alt pair is in
    c.in_ok-plan.ensures.plan (spare.marking.any.earlier honest) _ _ _ _ _ _ own.stands.base.rooted parent.stands.current.rooted own.stands.current.rooted in
    let many : IsHonest mid → (s : State) → Holds old s → changes_made s.working (Merge alt settled) ≡ c.len.result =
    λ honest s holds. merge_made _ _ _ _ _ _ s holds.rests alt pair is settled (plan honest s holds).0 ∙ sym (c.len.ensures ∙ ap (λ (cs : List Change). length cs) (plan honest s holds).1.changes) in
    let stood = λ (honest : IsHonest mid) (s : State) (holds : Holds old s). spare.marking.state honest s (read_holds _ _ _ _ _ _ _ _ _ s (c.in_ok-plan.ensures.reads (spare.marking.any.earlier honest)) holds) in
    let is' = subst (λ p. IsPair p.1 alt pair) (sym spare.marking.same) is in
    let plan' = λ (honest : IsHonest mid) (s : State) (holds : Holds old s). planned _ _ _ _ _ _ s holds.rests _ _ _ _ _ _ (stood honest s holds).rests alt pair is is' settled _ (plan honest s holds) in
    let made = λ (honest : (g.D.Disk.state c.make_changes.new.disk).honest ≡ true) (s : State) (holds : Holds old s).
    let rests' = (stood (failed.any.earlier honest) s holds).rests in
    let own' = own_there _ _ _ _ _ _ s rests' alt pair is' in
    let parent' = parent_there _ _ _ _ _ _ s rests' alt pair is' in
    let begun = start_rooted _ _ _ _ _ _ s rests' alt pair is' settled _ _ _ roots _ c.start.result c.start.ensures (plan' (failed.any.earlier honest) s holds).1.start (grown_of _ _ _ _ c.in_ok-own.own.current _ (sym mid.parts.bits) own'.stands.current) (grown_of _ _ _ _ c.in_ok-own.parent.current _ (sym mid.parts.bits) parent'.stands.current) in
    failed.changed honest _ begun in
    rw (passed_on _ c.from_residual-in_err-root.ensures.1)
    (performs_merge old _ _ alt settled
    (λ honest s holds.
    let rests = holds.rests in
    let marked = failed.any.earlier honest in
    let read = c.in_ok-plan.ensures.reads (spare.marking.any.earlier marked) in
    let holds' = stood marked s holds in
    let rests' = holds'.rests in
    let room = room_for _ _ _ (spare_after _ _ _ _ _ _ _ _ _ s _ _ read (ok.spare marked) holds) c.if-not-branch.false in
    let found = plan' marked s holds in
    wrote _ _ s holds (Merge alt settled) _ (by_either _ _ _ (fault_of_changes c.in_err-root.field-0.0 _ _ (made honest s holds))
    (λ device. inl (ap Err (ap refusal_of_put device)))
    (λ deep. merges_deep s _ _ alt settled _ (merge_step _ _ _ _ _ _ s rests alt pair is settled (plan marked s holds).0) c.len.result (many marked s holds) _ (ap refusal_of_put deep.0) room
    (meets_as _ _ _ _ _ _ _ mid.parts.bits (sym (start_is _ _ _ _ _ _ s rests' alt pair is' settled found.0))
    (found.1.changes ∙ sym (merge_is _ _ _ _ _ _ s rests' alt pair is' settled found.0)) deep.1)))
    _ (reads_then _ _ _ read (spare.marking.reads marked)) rests' (failed.moments honest) (failed.unsynced honest) failed.still
    (λ _. holds_alone holds'.keeps (rests_more _ _ _ _ _ _ s rests' _ _ (at_end _ _ _ (failed.moments honest)) failed.still)))
    (λ honest. (λ first. absurd (late_put c.in_err-root.field-0.0 first), λ s holds none done. absurd (false≢true done)))
    (λ honest s holds early. absurd (put_is_late c.in_err-root.field-0.0 early))
    (λ honest s holds.
    let marked = failed.any.earlier honest in
    let all = taken_at_fault (changes_made s.working (Merge alt settled)) c.in_err-root.field-0.0 _ (fault_of_changes c.in_err-root.field-0.0 _ _ (made honest s holds)) in (
      λ enough. omega (arith, many marked s holds, c.len.ensures, ap free_of (spare.enough (omega (arith, many marked s holds, enough))), failed.taken, all),
      λ few late. omega (arith, many marked s holds, c.len.ensures, spare_free _ _ _ _ _ _ _ _ _ s _ (c.in_ok-plan.ensures.reads (spare.marking.any.earlier marked)) (ok.exact marked (omega (arith, many marked s holds, few))) holds, failed.taken, all),
    ))
    (search rules) (search rules) (search rules) (search rules) (search rules) (search rules))
