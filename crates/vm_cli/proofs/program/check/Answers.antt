use Rattle.std.proofs.Common.{◌∙◌, ap, inl, inr, is_some, refl, sym, Some}
use Rattle.vm_cli.specs.program.Exits.{survey_text}
use Rattle.vm_cli.specs.program.Files.Checks.{counts, finds_fault}
use Rattle.vm_cli.specs.program.Files.DeniedOr.{is_denied, is_refused}
use Rattle.vm_cli.specs.program.Places.{KeepsOthers, WasLent}
use Rattle.vm_cli.proofs.FilesLemmas.{keeps_all, synced_alone}
use Rattle.vm_cli.proofs.program.check.Goals as goal

pub returns-clause-files : goal.returns-clause-files
returns-clause-files g c honest =
    let before = g.P.Place.state c.args.place.now in
    let after = g.P.Place.state c.give_back.new.self in
    let back = c.give_back.ensures.honest honest in
    let found = c.in-Some.ensures.honest (c.give_back.ensures.asked.earlier honest) in
    let lent : WasLent c.args.file.now (g.P.D.Disk.state c.in-Some.disk) (g.P.D.Disk.state c.check_disk-exit.result.1) after = record { fresh = found.fresh; honest = back.honest; holds = back.holds; came = back.came } in
    let others : KeepsOthers c.args.file.now before after = λ other apart. back.others other apart ∙ found.same other in
    elim c.check_disk-exit.ensures.told [
      | inl counted ↦
          let held = found.held (counted.counted.goes.earlier back.honest) in
          let same = back.holds ∙ ap Some (synced_alone _ _ (counted.counted.moments back.honest)) ∙ sym held.0 in
          counts (record {
            same = keeps_all c.args.file.now before after others same;
            found = c.in-Some.disk;
            back = c.check_disk-exit.result.1;
            held = held.0;
            lent = lent;
            alternatives = counted.alternatives;
            checkpoints = counted.checkpoints;
            free = counted.free;
            counted = counted.counted;
            told = counted.told;
          })
      | inr refused ↦
          let held = found.held (refused.refused.goes.earlier back.honest) in
          let same = back.holds ∙ ap Some (synced_alone _ _ (refused.refused.moments back.honest)) ∙ sym held.0 in
          finds_fault (record {
            same = keeps_all c.args.file.now before after others same;
            told = is_refused (record {
              found = c.in-Some.disk;
              back = c.check_disk-exit.result.1;
              held = held.0;
              lent = lent;
              why = refused.why;
              damaged = refused.damaged;
              refused = refused.refused;
              names = refused.names;
              told = refused.told;
            });
          })
    ]

pub returns-in_default-clause-files : goal.returns-in_default-clause-files
returns-in_default-clause-files g c honest = finds_fault (record { same = (c.look.ensures.honest honest).same; told = is_denied (record { denied = c.look.ensures.asked.none (ap is_some c.in_default.is); same_came = (c.look.ensures.honest honest).same_came; told = c.no_file.ensures }) })

pub returns-clause-says : goal.returns-clause-says
returns-clause-says g c = elim c.check_disk-exit.ensures.ends [
  | inl counted ↦ inl counted
  | inr refused ↦ inr (refused.0, (survey_text refused.1.0 refused.1.1, inr (refused.1.0, refused.1.1, refl), refused.1.2))
]
