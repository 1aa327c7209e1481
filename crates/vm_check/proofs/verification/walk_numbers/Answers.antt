use Rattle.std.proofs.Common.{Bool, false, List, length, map, ap, ◌∙◌, arith, refl, sym}
use Rattle.std.proofs.lemmas.List.{length-map, length-replicate, take_all}
use Rattle.vm_tree.specs.declared.root.Root.{Root}
use Rattle.vm_disk.proofs.MomentLemmas.{same_medium}
use Rattle.vm_tree.proofs.Looking.{looks_none, looks_on, looks_so}
use Rattle.vm_check.specs.Marks.{unmarked}
use Rattle.vm_check.proofs.MarkLemmas.{all_unmarked}
use Rattle.vm_check.proofs.FoundLemmas.{first_found, number_more, number_fault, numbers_found, named_more, verifies_none}
use Rattle.vm_check.proofs.SurveyLemmas.{no_marks, numbers_start, numbers_more, are_damaged}
use Rattle.vm_check.proofs.verification.walk_numbers.Goals as goal

pub new-notes-requires : goal.new-notes-requires
new-notes-requires g c = no_marks _ _ c.in-Ok-Ok-Ok.ensures'

pub loop-number-init : goal.loop-number-init
loop-number-init g c = record {
  looks = looks_none _ (λ is. is);
  many = ap length c.in-Ok-Ok-Ok.ensures ∙ length-replicate c.args.blocks false;
  room = c.as_mut_slice-spans.ensures.len ∙ c.in-Ok-Ok-Ok.ensures''.len;
  noted = ap length (c.new-notes.ensures.damaged ∙ c.in-Ok-Ok-Ok.ensures') ∙ length-replicate c.args.blocks false;
  once = omega (arith, ap (λ (z : List Bool). unmarked z) c.in-Ok-Ok-Ok.ensures, all_unmarked c.args.blocks (omega (arith, c.requires.fit.least)));
  on_damage = refl;
  named = λ none. ap (map (λ (r : Root). r.block)) c.new-roots.ensures.items;
  found = λ honest none. first_found _ _ _ _ _ _ c.new-roots.ensures.items c.in-Ok-Ok-Ok.ensures;
  only = λ honest trees. c.new-notes.ensures.first;
  surveyed = λ honest on. numbers_start _ _ _ _ _ _ _ _ refl (no_marks _ _ c.in-Ok-Ok-Ok.ensures) (no_marks _ _ (c.new-notes.ensures.damaged ∙ c.in-Ok-Ok-Ok.ensures')) c.new-notes.ensures.first;
}

pub loop-number-preserved : goal.loop-number-preserved
loop-number-preserved g c =
    let so_far = c.loop-number.invariant in
    let keeps = c.visit_root.ensures.walks.keeps in
    record {
      looks = looks_on so_far.looks c.in-Ok.ensures.walks.looks (λ is. absurd is);
      many = c.visit_root.ensures.walks.growing.same_length ∙ so_far.many;
      room = c.visit_root.auto.spans ∙ so_far.room;
      noted = keeps.damaged.same_length ∙ so_far.noted;
      once = omega (arith, c.visit_root.ensures.walks.once, so_far.once);
      on_damage = keeps.on_damage ∙ so_far.on_damage;
      named = λ none. named_more _ _ _ _ _ c.loop-number-test.true c.in-Ok-push.ensures.items (so_far.named (keeps.none none)) c.in-Ok.ensures.named;
      found = λ honest none.
          let earlier = c.visit_root.ensures.walks.looks.goes.earlier honest in
          number_more _ _ _ _ _ _ _ _ _ _ _ _ _ (same_medium _ _ (so_far.looks.reads earlier)) c.loop-number-test.true c.in-Ok-push.ensures.items (so_far.found earlier (keeps.none none))
          (λ known. c.in-Ok.ensures.found honest known none);
      only = λ honest trees.
          let earlier = c.visit_root.ensures.walks.looks.goes.earlier honest in
          let none = so_far.only earlier trees in
          number_fault _ _ _ _ _ _ _ _ _ _ (same_medium _ _ (so_far.looks.reads earlier)) c.loop-number-test.true (so_far.found earlier none) trees (λ known m bs tree. c.visit_root.ensures.only honest known m bs tree none);
      surveyed = λ honest on.
          let earlier = c.visit_root.ensures.walks.looks.goes.earlier honest in
          numbers_more _ _ _ _ _ _ _ _ _ _ _ _ (same_medium _ _ (so_far.looks.reads earlier)) c.loop-number-test.true keeps.damaged (so_far.surveyed earlier on)
          (λ among s. c.in-Ok.ensures.surveyed honest (so_far.on_damage ∙ on) _ among s);
    }

pub returns-in_default-clause-verifies : goal.returns-in_default-clause-verifies
returns-in_default-clause-verifies g c = verifies_none _ (looks_none _ (λ is. cc)) (omega (arith, c.requires.fit.least)) (λ honest trees. tt)

pub returns-in-Err-clause-verifies : goal.returns-in-Err-clause-verifies
returns-in-Err-clause-verifies g c =
    let walks = c.in-Err.ensures.walks in
    verifies_none _ (looks_on c.loop-number.invariant.looks walks.looks (λ is. refl)) (omega (arith, walks.once, c.loop-number.invariant.once)) (λ honest trees. tt)

pub returns-in-Err-push-clause-verifies : goal.returns-in-Err-push-clause-verifies
returns-in-Err-push-clause-verifies g c =
    let walks = c.in-Ok.ensures.walks in
    verifies_none _ (looks_on c.loop-number.invariant.looks walks.looks (λ is. cc)) (omega (arith, walks.once, c.loop-number.invariant.once)) (λ honest trees. tt)

pub returns-in-None-clause-verifies : goal.returns-in-None-clause-verifies
returns-in-None-clause-verifies g c =
    let so_far = c.loop-number.invariant in
    let named = so_far.named c.in-None.is ∙ take_all _ _ (omega (arith, c.loop-number-test.false)) in
    record {
      looks = looks_so so_far.looks (λ is. cc);
      given = record { count = so_far.many; roots = sym (length-map _ _) ∙ ap length named; named = named };
      once = omega (arith, so_far.once);
      paid = omega (arith, so_far.once);
      found = λ honest. numbers_found _ _ _ _ c.loop-number.number-index _ _ _ (omega (arith, c.loop-number-test.false)) so_far.many (so_far.found honest c.in-None.is);
      only = λ honest trees. tt;
    }

pub returns-in-Some-clause-verifies : goal.returns-in-Some-clause-verifies
returns-in-Some-clause-verifies g c =
    let so_far = c.loop-number.invariant in
    verifies_none _ (looks_so so_far.looks (λ is. cc)) (omega (arith, so_far.once)) (λ honest trees. absurd (cc (so_far.only honest trees, c.in-Some.is)))

pub returns-in-Some-clause-damaged : goal.returns-in-Some-clause-damaged
returns-in-Some-clause-damaged g c on honest =
    let so_far = c.loop-number.invariant in
    are_damaged _ _ _ _ c.loop-number.number-index _ _ _ _ (omega (arith, c.loop-number-test.false)) so_far.noted c.in-Some.is (so_far.surveyed honest (c.new-notes.ensures.on_damage ∙ on))
