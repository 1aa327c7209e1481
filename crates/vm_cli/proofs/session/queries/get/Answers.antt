use Rattle.std.proofs.Common.{◌≡◌, ◌++◌, [], Ok, Err, length, option_copied, ap, arith, refl, ◌∙◌}
use Rattle.vm_types.specs.declared.refusal.Refusal.TheVariants.{Device, Failed}
use Rattle.vm_store.specs.Store.{has_failed}
use Rattle.vm_cli.specs.session.Feeds.{HandlesRequest}
use Rattle.vm_cli.specs.lines.Asking.{Request}
use Rattle.vm_cli.proofs.HandledLemmas.{refusal_handled, tells_nothing, told, with_nothing}
use Rattle.vm_cli.proofs.PassLemmas.{goes_any, passes_reads}
use Rattle.vm_cli.proofs.SessionLemmas.{found_alone, found_plain, was_sound}
use Rattle.vm_cli.proofs.session.queries.get.Goals as goal

pub returns-in-Ok : goal.returns-in-Ok
returns-in-Ok g c =
    let old = c.args.store.now in
    let new = c.look_at.new.self in
    let said = c.in-Ok.ensures.query in
    let found = option_copied c.in-Ok.found in
    let text = c.push_found.new.text in
    let none : length c.args.text.now ≡ 0 = rw c.requires refl in
    let alone = found_alone c.args.text.now text found c.requires c.push_found.ensures.written in
    let sound = was_sound (has_failed old) c.in-Ok.found said.refused in
    record {
      room = omega (arith, none, c.push_found.ensures.short);
      store = record {
        goes = goes_any _ _ _ said.any;
        failed = said.failed;
        last = λ sound. refl;
        left = said.no_calls;
      };
      answers = λ s.
          told old new s (Request.Get c.args.at.now c.args.key) (passes_reads old new (goes_any _ _ _ said.any) said.reads said.unchanged) said.failed said.no_calls (λ stood. said.state stood.honest s stood.holds)
          (text ++ []) sound (
            refl,
            said.failed ∙ sound,
            record {
              answer = Ok found;
              says = alone;
              device = λ is. absurd cc;
              only_then = λ is. cc;
              due = λ stood. said.value stood.honest sound s stood.holds;
            },
            tt,
          );
      tells = found_plain (text ++ []) found alone;
    }

pub returns-in-Err : goal.returns-in-Err
returns-in-Err g c =
    let old = c.args.store.now in
    let new = c.look_at.new.self in
    let said = c.in-Err.ensures.query in
    let refusal = c.in-Err.refusal in
    let none : length c.args.text.now ≡ 0 = rw c.requires refl in
    record {
      room = omega (arith, none);
      store = record {
        goes = goes_any _ _ _ said.any;
        failed = said.failed;
        last = λ sound. c.from_refusal.ensures.last (λ is. said.only_then sound (ap Err is));
        left = said.no_calls;
      };
      answers = λ s.
          with_nothing (HandlesRequest old new s (Request.Get c.args.at.now c.args.key)) c.from_refusal.result c.args.text.now c.requires
          (refusal_handled old new s (Request.Get c.args.at.now c.args.key) (passes_reads old new (goes_any _ _ _ said.any) said.reads said.unchanged) said.failed said.no_calls (λ stood. said.state stood.honest s stood.holds)
          refusal c.from_refusal.result c.from_refusal.ensures.text c.from_refusal.ensures.last c.from_refusal.ensures.failed (λ failed. let e = said.refused failed in cc) (λ sound is. said.only_then sound (ap Err is))
          (λ text ends is last. (is, last))
          (λ sound. (
            refl,
            said.failed ∙ sound,
            record {
              answer = Err refusal;
              says = c.from_refusal.ensures.text;
              device = λ is. said.any.fault (let same : refusal ≡ Device = cc in ap Err same);
              only_then = λ is. said.only_then sound (let same : refusal ≡ Failed = cc in ap Err same);
              due = λ stood. said.value stood.honest sound s stood.holds;
            },
            tt,
          )));
      tells = tells_nothing c.from_refusal.result c.args.text.now c.requires;
    }
