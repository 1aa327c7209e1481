use Rattle.std.proofs.Common.{◌≡◌, ◌≢◌, ◌∙◌, map, refl, rules, subst, sym}
use Rattle.std.specs.String.{string_bytes}
use Rattle.vm_cli.specs.program.Exits.{Ends, status_of}
use Rattle.vm_cli.specs.session.Known.{writer, writers}
use Rattle.vm_cli.specs.declared.program.Exit.TheVariants.{Stopped}
use Rattle.vm_cli.proofs.ExitLemmas.{is_done, is_line_refused, is_refused, is_stopped, is_wrong, small_status}
use Rattle.vm_cli.proofs.program.run_words.Goals as goal

pub returns-in_default : goal.returns-in_default
returns-in_default g c =
    let words = map string_bytes c.args.words.now in
    let exit = c.do_job.result in
    let status : c.status.result ≡ status_of exit = search rules in
    let goes_on : exit ≢ Stopped = search rules in
    let ends = c.do_job.ensures.ends in
    let to = writers (writer g.W.Write.contents c.args.output.now c.do_job.new.output) (writer g.F.Write.contents c.args.errors.now c.do_job.new.errors) in
    record {
      status = rw status (small_status exit);
      done = λ is. subst (λ e. Ends e words to) (is_done exit (sym status ∙ is)) ends;
      refused = λ is. subst (λ e. Ends e words to) (is_refused exit (sym status ∙ is)) ends;
      wrong = λ is. subst (λ e. Ends e words to) (is_wrong exit (sym status ∙ is)) ends;
      stopped = λ is. absurd (goes_on (is_stopped exit (sym status ∙ is)));
      line_refused = λ is. subst (λ e. Ends e words to) (is_line_refused exit (sym status ∙ is)) ends;
      looks = c.do_job.ensures.looks;
      files = λ honest. record { exit = exit; said = c.do_job.new.errors; is = status; end = c.do_job.ensures.files honest; last = λ going. refl; stopped = λ is. absurd (goes_on is) };
      served = record { exit = exit; said = c.do_job.new.errors; is = status; end = c.do_job.ensures.served; last = λ going. refl; stopped = λ is. absurd (goes_on is) };
    }

pub returns-in-Stopped-clause-files : goal.returns-in-Stopped-clause-files
returns-in-Stopped-clause-files g c honest =
    record { exit = c.do_job.result; said = c.do_job.new.errors; is = rw c.in-Stopped.is c.stop.ensures.status; end = c.do_job.ensures.files honest; last = λ going. absurd (going c.in-Stopped.is); stopped = λ is. c.stop.ensures.said }

pub returns-in-Stopped-clause-served : goal.returns-in-Stopped-clause-served
returns-in-Stopped-clause-served g c =
    record { exit = c.do_job.result; said = c.do_job.new.errors; is = rw c.in-Stopped.is c.stop.ensures.status; end = c.do_job.ensures.served; last = λ going. absurd (going c.in-Stopped.is); stopped = λ is. c.stop.ensures.said }
