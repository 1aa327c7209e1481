use Rattle.std.proofs.Common.{◌≡◌, ◌∙◌, Err, Ok, ap, refl}
use Rattle.vm_types.specs.declared.refusal.Refusal.TheVariants.{Device, Failed}
use Rattle.vm_store.specs.Store.{has_failed}
use Rattle.vm_cli.specs.lines.Asking.{Request}
use Rattle.vm_cli.proofs.HandledLemmas.{refusal_handled, told}
use Rattle.vm_cli.proofs.PassLemmas.{goes_any, passes_reads}
use Rattle.vm_cli.proofs.SessionLemmas.{was_sound}
use Rattle.vm_cli.proofs.session.queries.tally.Goals as goal

pub returns-in-Ok : goal.returns-in-Ok
returns-in-Ok g c =
    let old = c.args.store.now in
    let new = c.tally.new.self in
    let said = c.in-Ok.ensures.query in
    let sound = was_sound (has_failed old) c.in-Ok.numbers said.refused in
    record {
      store = record {
        goes = goes_any _ _ _ said.any;
        failed = said.failed;
        last = λ sound. refl;
        left = said.no_calls;
      };
      answers = λ s.
          told old new s (Request.Tally c.args.alt.now) (passes_reads old new (goes_any _ _ _ said.any) said.reads said.unchanged) said.failed said.no_calls (λ stood. said.state stood.honest s stood.holds)
          _ sound (
            refl,
            said.failed ∙ sound,
            record {
              answer = Ok c.in-Ok.numbers;
              says = refl;
              device = λ is. absurd cc;
              only_then = λ is. cc;
              due = λ stood. said.value stood.honest sound s stood.holds;
            },
            c.in-Ok.ensures.bound,
          );
    }

pub returns-in-Err : goal.returns-in-Err
returns-in-Err g c =
    let old = c.args.store.now in
    let new = c.tally.new.self in
    let said = c.in-Err.ensures.query in
    let refusal = c.in-Err.refusal in
    record {
      store = record {
        goes = goes_any _ _ _ said.any;
        failed = said.failed;
        last = λ sound. c.from_refusal.ensures.last (λ is. said.only_then sound (ap Err is));
        left = said.no_calls;
      };
      answers = λ s.
          refusal_handled old new s (Request.Tally c.args.alt.now) (passes_reads old new (goes_any _ _ _ said.any) said.reads said.unchanged) said.failed said.no_calls (λ stood. said.state stood.honest s stood.holds)
          refusal c.from_refusal.result c.from_refusal.ensures.text c.from_refusal.ensures.last c.from_refusal.ensures.failed (λ failed. let e = said.refused failed in cc) (λ sound is. said.only_then sound (ap Err is))
          (λ text ends is last. (is, last))
          (λ sound. (
            refl,
            said.failed ∙ sound,
            record {
              answer = Err refusal;
              says = c.from_refusal.ensures.text;
              device = λ is. said.any.fault (let same : refusal ≡ Device = cc in ap Err same);
              only_then = λ is. said.only_then sound (let same : refusal ≡ Failed = cc in ap Err same);
              due = λ stood. said.value stood.honest sound s stood.holds;
            },
            c.in-Err.ensures.bound,
          ));
    }
