use Rattle.std.proofs.Common.{◌≡◌, ◌++◌, Option, None, Some, true, is_some, drop, get_or, option_to_list, sym, ap, subst, ◌∙◌}
use Rattle.std.proofs.lemmas.Result.{on_ok_weaker}
use Rattle.vm_types.specs.declared.change.Change.{Change}
use Rattle.vm_types.specs.Merge.{first_at, taken, taking}
use Rattle.vm_types.proofs.SmallerLemmas.{pushed, taken_over}
use Rattle.vm_types.proofs.merge.add_taken.Goals as goal

pub returns-then-has_key : goal.returns-then-has_key
returns-then-has_key c = λ d.
    let settled = taking c.args.side c.args.settled.now in
    let t = get_or c.args.theirs.now c.args.i d in
    let m = get_or c.args.mine.now c.args.at d in
    let own : first_at t.key (drop c.args.at c.args.mine.now) ≡ Some m = subst (λ k. first_at k (drop c.args.at c.args.mine.now) ≡ Some m) (c.key-key.ensures d) (c.if-has_key.ensures.first d) in
    let some : is_some (taken settled t (Some m)) ≡ true = ap (λ o. is_some (taken settled t o)) (sym own) ∙ c.if-not-is_taken.ensures d in
    let gives : taken settled t (first_at t.key (drop c.args.at c.args.mine.now)) ≡ Some (record { key = t.key; before = m.after; after = t.after }) = ap (taken settled t) own ∙ taken_over settled t m some in
    let same = pushed _ _ _ t.key m.after t.after (c.key-key.ensures d) (c.after.ensures.value d) (c.after-then-has_key.ensures.value d) in
    on_ok_weaker c.push.result (λ is. is ∙ ap (λ (o : Option Change). c.args.changes.now ++ option_to_list o) (ap Some same ∙ sym gives)) c.push.ensures.ok

pub returns : goal.returns
returns c = λ d.
    let settled = taking c.args.side c.args.settled.now in
    let t = get_or c.args.theirs.now c.args.i d in
    let own = drop c.args.at c.args.mine.now in
    let none : first_at t.key own ≡ None = subst (λ k. first_at k own ≡ None) (c.key-key.ensures d) (c.if-has_key.ensures.first d) in
    let same = pushed _ _ _ t.key t.before t.after (c.key-key.ensures d) (c.before-2.ensures.value d) (c.after-2.ensures.value d) in
    let gives : taken settled t (first_at t.key own) ≡ Some t = ap (taken settled t) none in
    on_ok_weaker c.push-2.result (λ is. is ∙ ap (λ (o : Option Change). c.args.changes.now ++ option_to_list o) (ap Some same ∙ sym gives)) c.push-2.ensures.ok
