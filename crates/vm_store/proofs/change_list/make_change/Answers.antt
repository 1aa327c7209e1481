use Rattle.std.proofs.Common.{◌≡◌, ◌∙◌, length, None, Ok, Some, option_copied, ap, subst, sym}
use Rattle.vm_types.specs.Map.{Map, get, without}
use Rattle.vm_disk.specs.Disk.{Medium, block}
use Rattle.vm_disk.proofs.MomentLemmas.{same_medium}
use Rattle.vm_store.proofs.FaultLemmas.{spares_before}
use Rattle.vm_alloc.specs.Held.{IsHeld}
use Rattle.vm_tree.specs.Root.{IsRootedIn}
use Rattle.vm_tree.proofs.Looking.{deep_refuses, passed_on}
use Rattle.vm_tree.proofs.RemoveLemmas.{none_keeps}
use Rattle.vm_tree.specs.declared.root.Root.{Root}
use Rattle.vm_store.proofs.ChangingLemmas.{put_makes, absent_makes, rest_makes, device_makes}
use Rattle.vm_store.proofs.Removing.{removed_root}
use Rattle.vm_store.specs.Sizes.{sizes}
use Rattle.vm_store.proofs.change_list.make_change.Goals as goal

pub returns-in-Some-clause-changed : goal.returns-in-Some-clause-changed
returns-in-Some-clause-changed g c honest m change key after grown =
    put_makes _ _ _ _ _ _ m change c.in-Some.value.now _ (after ∙ ap option_copied (c.in-Some.is ∙ ap Some (sym c.in-Some.value-is))) (λ deep n has. ap (λ (medium : Medium). block medium.contents n) (same_medium _ _ (c.put.ensures.refused.reads honest (deep_refuses Root _ deep)))) grown (rw (sym key) at (c.put.ensures.put honest m grown.stands_in grown.rooted))

pub returns-in-None-2-clause-changed : goal.returns-in-None-2-clause-changed
returns-in-None-2-clause-changed g c honest m change key after grown =
    let none = c.in_ok-rest-in-None.was ∙ ap Ok c.in-None-2.is in
    let absent = rw c.in-None-2.is at (c.in_ok-rest-in-None.ensures.remove honest m grown.stands_in grown.rooted) in
    let keeps = none_keeps (option_copied c.args.before) c.args.held.now c.remove.new.held c.remove.result none in
    absent_makes _ _ _ _ _ _ m change (after ∙ ap option_copied c.in-None.is) (same_medium _ _ (c.remove.ensures.kept.reads honest keeps)) (c.remove.ensures.kept.kept keeps) (subst (λ k. get m k ≡ None) (sym key) absent) grown

pub returns-in-Some-2-clause-changed : goal.returns-in-Some-2-clause-changed
returns-in-Some-2-clause-changed g c honest m change key after grown =
    let left = removed_root _ _ _ _ c.in-Some-2.is (c.in_ok-rest-in-None.ensures.remove honest m grown.stands_in grown.rooted) grown.each in
    let P : Map → Type 0 = λ n. IsRootedIn sizes (IsHeld c.remove.new.held) (g.D.Disk.state c.remove.new.disk).now.contents (length c.args.held.now) c.in-Some-2.rest n in
    rest_makes P m change (after ∙ ap option_copied c.in-None.is) (subst (λ k. P (without m k)) (sym key) left)

pub returns-in_err-rest-in-None-clause-changed : goal.returns-in_err-rest-in-None-clause-changed
returns-in_err-rest-in-None-clause-changed g c honest m change key after grown = rw (passed_on _ c.from_residual.ensures.1) (device_makes _ _ _ (c.in_err-rest-in-None.ensures.remove honest m grown.stands_in grown.rooted))

pub returns-in-Some-clause-moments : goal.returns-in-Some-clause-moments
returns-in-Some-clause-moments g c honest = c.put.ensures.writes.moments honest _ c.requires.before (spares_before (option_copied c.args.before) c.args.held.now)

pub returns-in-None-2-clause-moments : goal.returns-in-None-2-clause-moments
returns-in-None-2-clause-moments g c honest = c.remove.ensures.writes.moments honest _ c.requires.before (spares_before (option_copied c.args.before) c.args.held.now)

pub returns-in-Some-2-clause-moments : goal.returns-in-Some-2-clause-moments
returns-in-Some-2-clause-moments g c honest = c.remove.ensures.writes.moments honest _ c.requires.before (spares_before (option_copied c.args.before) c.args.held.now)

pub returns-in_err-rest-in-None-clause-moments : goal.returns-in_err-rest-in-None-clause-moments
returns-in_err-rest-in-None-clause-moments g c honest = c.remove.ensures.writes.moments honest _ c.requires.before (spares_before (option_copied c.args.before) c.args.held.now)
