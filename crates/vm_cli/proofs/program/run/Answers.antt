use Rattle.std.proofs.Common.{◌∙◌, ap, inl, inr, is_some, refl, sym, Some}
use Rattle.vm_disk.specs.Cached.{cached_does, cached_hand, cached_state}
use Rattle.vm_disk.specs.Delayed.{delayed_does, delayed_hand, delayed_state}
use Rattle.vm_disk.specs.declared.cached.CachedDisk.{CachedDisk}
use Rattle.vm_disk.specs.declared.delayed.DelayedDisk.{DelayedDisk}
use Rattle.vm_disk.specs.declared.disk.Disk.{Ghosts}
use Rattle.vm_cli.specs.program.Places.{KeepsOthers, WasLent}
use Rattle.vm_cli.specs.program.Files.AnswersOrDeclines.{answers, answers_none}
use Rattle.vm_cli.specs.program.Files.DeniedOr.{is_denied, is_refused}
use Rattle.vm_cli.specs.program.Runs.ServesIn.{denies, refuses, serves}
use Rattle.vm_cli.proofs.FilesLemmas.{keeps_all, kept_told, refused_told, synced_alone, was_honest}
use Rattle.vm_cli.proofs.program.run.Goals as goal

pub returns-clause-files : goal.returns-clause-files
returns-clause-files g c honest =
    let before = g.P.Place.state c.args.place.now in
    let after = g.P.Place.state c.give_back.new.self in
    let back = c.give_back.ensures.honest honest in
    let found = c.in-Some.ensures.honest (c.give_back.ensures.asked.earlier honest) in
    let lent : WasLent c.args.file.now (g.P.D.Disk.state c.in-Some.disk) (g.P.D.Disk.state c.answer_lines_in_memory-exit.result.1) after = record { fresh = found.fresh; honest = back.honest; holds = back.holds; came = back.came } in
    let others : KeepsOthers c.args.file.now before after = λ other apart. back.others other apart ∙ found.same other in
    elim c.answer_lines_in_memory-exit.ensures.served [
      | inl served ↦
          let held = found.held (was_honest g.P.D.Disk _ _ _ (λ disk. refl) (λ disk. refl) (λ disk. refl) c.args.in_memory _ _ _ _ _ served back.honest) in
          answers (record {
            found = c.in-Some.disk;
            back = c.answer_lines_in_memory-exit.result.1;
            served = served;
            held = held.0;
            clean = held.1;
            lent = lent;
            others = others;
            kept = kept_told g.P.D.Disk _ _ _ (λ disk. refl) (λ disk. refl) (λ disk. refl) c.args.in_memory _ _ _ _ _ served back.honest found.fresh held.1;
          })
      | inr refused ↦
          let cached : Ghosts (CachedDisk g.row.P-D.Denot g.P.D.Disk) = record { state = λ x. cached_state g.P.D.Disk.state x; hand = λ x. cached_hand x; does = λ call old new. cached_does g.P.D.Disk.state call old new } in
          let late : Ghosts (DelayedDisk g.row.P-D.Denot g.P.D.Disk) = record { state = λ x. delayed_state g.P.D.Disk.state x; hand = λ x. delayed_hand g.P.D.Disk.hand x; does = λ call old new. delayed_does g.P.D.Disk.state call old new } in
          let late_cached : Ghosts (DelayedDisk (CachedDisk g.row.P-D.Denot g.P.D.Disk) cached) = record { state = λ x. delayed_state cached.state x; hand = λ x. delayed_hand cached.hand x; does = λ call old new. delayed_does cached.state call old new } in
          let itself = refused_told g.P.D.Disk cached late late_cached (λ disk. refl) (λ disk. refl) (λ disk. refl) c.args.in_memory _ _ refused.why found.fresh (λ there. (found.held there).1) refused.refused in
          let held = found.held (itself.goes.earlier back.honest) in
          let same = back.holds ∙ ap Some (synced_alone _ _ (itself.moments back.honest)) ∙ sym held.0 in
          answers_none (record {
            same = keeps_all c.args.file.now before after others same;
            told = is_refused (record {
              found = c.in-Some.disk;
              back = c.answer_lines_in_memory-exit.result.1;
              held = held.0;
              lent = lent;
              why = refused.why;
              refused = itself;
              told = refused.told;
            });
          })
    ]

pub returns-in_default-clause-files : goal.returns-in_default-clause-files
returns-in_default-clause-files g c honest = answers_none (record { same = (c.opened.ensures.honest honest).same; told = is_denied (record { denied = c.opened.ensures.asked.none (ap is_some c.in_default.is); same_came = (c.opened.ensures.honest honest).same_came; told = c.no_file.ensures }) })

pub returns-clause-served : goal.returns-clause-served
returns-clause-served g c = elim c.answer_lines_in_memory-exit.ensures.served [
  | inl served ↦ serves c.in-Some.disk c.answer_lines_in_memory-exit.result.1 served
  | inr refused ↦ refuses c.in-Some.disk c.answer_lines_in_memory-exit.result.1 refused.why refused.refused refused.told
]

pub returns-in_default-clause-served : goal.returns-in_default-clause-served
returns-in_default-clause-served g c = denies (c.opened.ensures.asked.none (ap is_some c.in_default.is)) c.no_file.ensures
