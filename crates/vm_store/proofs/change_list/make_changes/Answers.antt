use Rattle.std.proofs.Common.{◌∙◌, ◌<◌, List, length, get_or, None, arith, option_copied, subst, sym}
use Rattle.std.proofs.lemmas.List.{take_all}
use Rattle.std.proofs.lemmas.Result.{err_from_is_err_and}
use Rattle.vm_types.specs.declared.change.Change.{Change}
use Rattle.vm_types.specs.Map.{with_changes}
use Rattle.vm_alloc.specs.Held.{IsHeld}
use Rattle.vm_alloc.proofs.HeldLemmas.{holds_more_then}
use Rattle.vm_tree.specs.Root.{IsRootedIn}
use Rattle.vm_tree.proofs.Touching.{touches_then, unsynced_then}
use Rattle.vm_store.specs.Sizes.{sizes}
use Rattle.vm_store.proofs.ChangingLemmas.{change_at, made_more, fault_makes}
use Rattle.vm_store.proofs.SeriesLemmas.{before_stays, before_wider}
use Rattle.vm_store.proofs.TopLemmas.{grown_of}
use Rattle.vm_store.proofs.change_list.make_changes.Goals as goal

none : Change
none = record { key = record { table = 0; number = 0 }; before = None; after = None }

pub make_change-requires-clause-before : goal.make_change-requires-clause-before
make_change-requires-clause-before g c = before_wider (option_copied c.args.before) _ _ c.requires.before c.loop-i.invariant.still

pub returns-in_err-root-clause-moments : goal.returns-in_err-root-clause-moments
returns-in_err-root-clause-moments g c honest =
    let so_far = c.loop-i.invariant in
    touches_then _ _ _ _ _ (before_stays (option_copied c.args.before) _ _ c.requires.before so_far.still) (so_far.moments (c.make_change.ensures.any.earlier honest)) (c.make_change.ensures.moments honest)

pub returns-in_err-root-clause-unsynced : goal.returns-in_err-root-clause-unsynced
returns-in_err-root-clause-unsynced g c honest = unsynced_then _ _ _ (c.loop-i.invariant.unsynced (c.make_change.ensures.any.earlier honest)) (c.make_change.ensures.unsynced honest)

pub returns-in_err-root-clause-changed : goal.returns-in_err-root-clause-changed
returns-in_err-root-clause-changed g c honest m grown =
    let so_far = c.loop-i.invariant in
    let here : Change = get_or c.args.changes.now c.loop-i.i none in
    let inside : c.loop-i.i < length c.args.changes.now = omega arith in
    let p = err_from_is_err_and c.from_residual.result c.from_residual.ensures.1 in
    let before = grown_of _ _ _ _ _ _ (sym so_far.still.same_length) (so_far.changed (c.in_err-root.ensures.any.earlier honest) m grown) in
    rw (p.1, p.2)
    (fault_makes m _ _ here inside (change_at c.args.changes.now c.loop-i.i none here inside) _ _ _ _ _ _ so_far.still.same_length (c.in_err-root.ensures.changed honest _ here (sym (c.key.ensures none)) (sym (c.after.ensures.value none)) before))

pub loop-i-preserved : goal.loop-i-preserved
loop-i-preserved g c =
    let so_far = c.loop-i.invariant in
    let any = c.make_change.ensures.any in
    let here : Change = get_or c.args.changes.now c.loop-i.i none in
    let inside : c.loop-i.i < length c.args.changes.now = omega arith in
    record {
      blocks = any.same_blocks ∙ so_far.blocks;
      earlier = λ honest. so_far.earlier (any.earlier honest);
      rising = omega (arith, any.rising, so_far.rising);
      most = omega (arith, inside);
      room = omega (arith, c.make_change.ensures.taken, so_far.room);
      taken = omega (arith, c.make_change.ensures.taken, so_far.taken);
      none = λ is. absurd (omega (arith, is));
      still = holds_more_then _ _ _ so_far.still c.make_change.ensures.still;
      moments = λ honest. touches_then _ _ _ _ _ (before_stays (option_copied c.args.before) _ _ c.requires.before so_far.still) (so_far.moments (c.in_ok-root.ensures.any.earlier honest)) (c.make_change.ensures.moments honest);
      unsynced = λ honest. unsynced_then _ _ _ (so_far.unsynced (any.earlier honest)) (c.make_change.ensures.unsynced honest);
      changed = λ honest m grown.
          let before = grown_of _ _ _ _ _ _ (sym so_far.still.same_length) (so_far.changed (c.in_ok-root.ensures.any.earlier honest) m grown) in
          made_more m _ _ here inside (change_at c.args.changes.now c.loop-i.i none here inside) _ _ _ _ _ so_far.still.same_length (c.in_ok-root.ensures.changed honest _ here (sym (c.key.ensures none)) (sym (c.after.ensures.value none)) before);
    }

pub returns-clause-changed : goal.returns-clause-changed
returns-clause-changed g c honest m grown =
    let now = g.D.Disk.state c.loop-i.disk in
    subst (λ (changes : List Change). IsRootedIn sizes (IsHeld c.loop-i.held) now.now.contents (length c.args.held.now) c.loop-i.root (with_changes m changes))
    (take_all c.loop-i.i c.args.changes.now (omega arith))
    (c.loop-i.invariant.changed honest m grown)
