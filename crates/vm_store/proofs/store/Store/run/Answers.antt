use Rattle.std.proofs.Common.{◌≡◌, ◌≢◌, inl, inr, ◌+◌, [], ◌∷◌, ◌++◌, length, take, Result, Err, ap, refl, sym, ◌∙◌, subst, arith}
use Rattle.std.proofs.lemmas.Bool.{false≢true}
use Rattle.std.proofs.lemmas.Grind.{common_steps}
use Rattle.std.proofs.lemmas.List.Elements.{All-nil, All-push}
use Rattle.vm_types.specs.State.{State, after}
use Rattle.vm_types.specs.declared.refusal.Refusal.TheVariants.{Device, Failed}
use Rattle.vm_types.proofs.Runs.{after_more}
use Rattle.vm_types.proofs.IsolationLemmas.{isolated}
use Rattle.vm_types.specs.declared.answer.Answer.{Answer}
use Rattle.vm_types.specs.declared.refusal.Refusal.{Refusal}
use Rattle.vm_store.specs.Commands.{EndsWithDevice}
use Rattle.vm_store.specs.Store.{disk_of, Holds, IsHonest}
use Rattle.vm_store.proofs.GuardLemmas.{guarded_at_rest}
use Rattle.vm_store.proofs.RunLemmas.{ran_none, ran_more, rests_show, guarded_none, guarded_more, in_turn_more, none_more, take_one_more, no_failure}
use Rattle.vm_store.proofs.store.Store.run.Goals as goal

pub loop-command-preserved : goal.loop-command-preserved
loop-command-preserved g c =
    let before = c.loop-command.invariant in
    let e = c.apply-answer.ensures.done before.sound in
    let goes = e.performs.goes in
    let old = g.D.Disk.state (disk_of c.args.self.now) in
    let first = c.args.self.now in
    let mid = c.loop-command.self in
    let new = c.apply-answer.new.self in
    let command = c.command-item.result in
    let sound = no_failure _ (λ is. let device = e.failed.0 is in let yes = c.is_device-failed.ensures.1 device in cc (yes, c.if-failed.false)) in
    let stands : IsHonest new → (s : State) → Holds first s → Holds new (after s (take c.loop-command.command-index c.args.commands.now ++ command ∷ []) (c.loop-command.answers.items ++ c.apply-answer.result ∷ [])) =
    λ honest s holds.
    let ok : c.apply-answer.result ≡ Err Device → ⊥ = λ is. let yes = c.is_device-failed.ensures.1 is in cc (yes, c.if-failed.false) in
    subst (λ (t : State). Holds new t) (sym (after_more s _ _ command c.apply-answer.result (before.run (goes.earlier honest) s holds).last.same)) ((e.performs.carried honest _ (before.holds (goes.earlier honest) s holds)).state ok) in
    rw (take_one_more c.args.commands.now c.loop-command.command-index c.command-item.result c.loop-command-test.true c.command-item.is, c.in-Ok-push.ensures.items) (record {
      more_blocks = omega (arith, goes.more_blocks, before.more_blocks);
      earlier = λ honest. before.earlier (goes.earlier honest);
      rising = omega (arith, goes.rising, before.rising);
      sound = sound;
      fine = none_more c.loop-command.answers.items c.apply-answer.result before.fine (λ is. let yes = c.is_device-failed.ensures.1 is in cc (yes, c.if-failed.false));
      never = All-push (λ answer. answer ≢ Err Failed) c.loop-command.answers.items c.apply-answer.result before.never e.performs.only_then;
      many = grind (arith, common_steps);
      room = grind (arith, common_steps);
      run = λ honest s holds. ran_more old (g.D.Disk.state (disk_of c.loop-command.self)) (g.D.Disk.state (disk_of c.apply-answer.new.self)) s _ _ c.command-item.result c.apply-answer.result (before.run (goes.earlier honest) s holds) (e.performs.carried honest _ (before.holds (goes.earlier honest) s holds)).crash
          (inr (rests_show _ _ _ _ _ _ _ (stands honest s holds).rests));
      holds = stands;
      guarded = λ honest s holds. guarded_more first mid new s _ _ command c.apply-answer.result (before.run (goes.earlier honest) s holds).last.same (before.told s)
          e honest (before.holds (goes.earlier honest) s holds)
          (before.guarded (goes.earlier honest) s holds);
      told = λ s. in_turn_more first mid new s _ _ command c.apply-answer.result (before.told s)
          e;
    })

pub loop-command-init : goal.loop-command-init
loop-command-init g c =
    let first = g.D.Disk.state (disk_of c.args.self.now) in
    rw (c.in-Ok.ensures.items) (record {
      more_blocks = omega arith;
      earlier = λ honest. honest;
      rising = omega arith;
      sound = c.if-self.false;
      fine = tt;
      never = All-nil (λ answer. answer ≢ Err Failed);
      many = refl;
      room = omega (arith, c.in-Ok.ensures.exact);
      run = λ honest s holds. ran_none first s (rests_show _ _ _ _ _ _ s holds.rests);
      holds = λ honest s holds. holds;
      guarded = λ honest s holds. guarded_none c.args.self.now s (guarded_at_rest _ _ _ _ _ _ s holds.rests);
      told = λ s. refl;
    })

pub returns-in_default-clause-kept : goal.returns-in_default-clause-kept
returns-in_default-clause-kept g c honest sound s holds =
    rw (c.new-in_default.ensures.items) (ran_none (g.D.Disk.state (disk_of c.args.self.now)) s (rests_show _ _ _ _ _ _ s holds.rests)).moments

pub returns-then-failed-clause-kept : goal.returns-then-failed-clause-kept
returns-then-failed-clause-kept g c honest sound s holds =
    let before = c.loop-command.invariant in
    let e = c.apply-answer.ensures.done before.sound in
    let goes = e.performs.goes in
    let old = g.D.Disk.state (disk_of c.args.self.now) in
    let count : length c.push.new.self.items ≡ c.loop-command.command-index + 1 = grind (arith, common_steps) in
    rw (count, take_one_more c.args.commands.now c.loop-command.command-index c.command-item.result c.loop-command-test.true c.command-item.is, c.in-Ok-push.ensures.items)
    (ran_more old (g.D.Disk.state (disk_of c.loop-command.self)) (g.D.Disk.state (disk_of c.apply-answer.new.self)) s _ _ c.command-item.result c.apply-answer.result (before.run (goes.earlier honest) s holds) (e.performs.carried honest _ (before.holds (goes.earlier honest) s holds)).crash (inl (c.is_device-failed.ensures.0 c.if-failed.true))).moments

pub returns-then-failed-clause-answers : goal.returns-then-failed-clause-answers
returns-then-failed-clause-answers g c sound s =
    let before = c.loop-command.invariant in
    let e = c.apply-answer.ensures.done before.sound in
    let goes = e.performs.goes in
    let count : length c.push.new.self.items ≡ c.loop-command.command-index + 1 = grind (arith, common_steps) in
    rw (count, take_one_more c.args.commands.now c.loop-command.command-index c.command-item.result c.loop-command-test.true c.command-item.is, c.in-Ok-push.ensures.items)
    (in_turn_more c.args.self.now c.loop-command.self c.apply-answer.new.self s _ _ c.command-item.result c.apply-answer.result (before.told s) e)

pub returns-then-failed-clause-isolated : goal.returns-then-failed-clause-isolated
returns-then-failed-clause-isolated g c honest fine s holds name apart =
    let is = c.is_device-failed.ensures.0 c.if-failed.true in
    absurd (false≢true (sym fine ∙ (c.apply-answer.ensures.done c.loop-command.invariant.sound).failed.1 is))

pub returns-clause-isolated : goal.returns-clause-isolated
returns-clause-isolated g c honest fine s holds name apart =
    let after = c.loop-command.invariant in
    (_, after.holds honest s holds, isolated name s _ _ (rw (after.many) at apart))

pub returns-in_default-clause-isolated : goal.returns-in_default-clause-isolated
returns-in_default-clause-isolated g c honest fine s holds name apart = (s, holds, refl)

pub returns-clause-state : goal.returns-clause-state
returns-clause-state g c honest fine s holds =
    let after = c.loop-command.invariant in
    rw (after.many) (after.holds honest s holds)

pub returns-clause-kept : goal.returns-clause-kept
returns-clause-kept g c honest sound s holds =
    let after = c.loop-command.invariant in
    rw (after.many) (after.run honest s holds).moments

pub returns-in_default-clause-guarded : goal.returns-in_default-clause-guarded
returns-in_default-clause-guarded g c honest sound s holds =
    rw (c.new-in_default.ensures.items) (guarded_none c.args.self.now s (guarded_at_rest _ _ _ _ _ _ s holds.rests))

pub returns-then-failed-clause-guarded : goal.returns-then-failed-clause-guarded
returns-then-failed-clause-guarded g c honest sound s holds =
    let before = c.loop-command.invariant in
    let e = c.apply-answer.ensures.done before.sound in
    let goes = e.performs.goes in
    let count : length c.push.new.self.items ≡ c.loop-command.command-index + 1 = grind (arith, common_steps) in
    rw (count, take_one_more c.args.commands.now c.loop-command.command-index c.command-item.result c.loop-command-test.true c.command-item.is, c.in-Ok-push.ensures.items)
    (guarded_more c.args.self.now c.loop-command.self c.apply-answer.new.self s _ _ c.command-item.result c.apply-answer.result (before.run (goes.earlier honest) s holds).last.same (before.told s)
    e honest (before.holds (goes.earlier honest) s holds)
    (before.guarded (goes.earlier honest) s holds))

pub returns-clause-guarded : goal.returns-clause-guarded
returns-clause-guarded g c honest sound s holds =
    let after = c.loop-command.invariant in
    rw (after.many) (after.guarded honest s holds)

pub returns-in_default-clause-no_failed : goal.returns-in_default-clause-no_failed
returns-in_default-clause-no_failed g c = rw (c.new-in_default.ensures.items) (All-nil (λ answer. answer ≢ Err Failed))

pub returns-then-failed-clause-no_failed : goal.returns-then-failed-clause-no_failed
returns-then-failed-clause-no_failed g c =
    let before = c.loop-command.invariant in
    rw (c.in-Ok-push.ensures.items) (All-push (λ answer. answer ≢ Err Failed) c.loop-command.answers.items c.apply-answer.result before.never (c.apply-answer.ensures.done before.sound).performs.only_then)

pub returns-then-failed-clause-device : goal.returns-then-failed-clause-device
returns-then-failed-clause-device g c stopped =
    let is = c.is_device-failed.ensures.0 c.if-failed.true in
    let ends : EndsWithDevice (c.loop-command.answers.items ++ c.apply-answer.result ∷ []) = (c.loop-command.answers.items, ap (λ (a : Result Answer Refusal). c.loop-command.answers.items ++ a ∷ []) is, c.loop-command.invariant.fine) in
    ((c.apply-answer.ensures.done c.loop-command.invariant.sound).failed.1 is, subst EndsWithDevice (sym c.in-Ok-push.ensures.items) ends)
