use Rattle.std.proofs.Common.{◌+◌, ◌∷◌, ◌∙◌, ap, is_some, refl, sym, Some}
use Rattle.vm_cli.specs.program.Copies.TakesCopy.{makes, refuses}
use Rattle.vm_cli.specs.program.Files.CopiesOrDeclines.{copies_none, duplicates}
use Rattle.vm_cli.specs.program.Files.DeniedOr.{is_denied, is_refused}
use Rattle.vm_cli.specs.program.Places.{WasLent}
use Rattle.vm_cli.proofs.CopyingLemmas.{copied_between}
use Rattle.vm_cli.proofs.FilesLemmas.{keeps_all, synced_alone}
use Rattle.vm_cli.proofs.program.store_copy.copy.Goals as goal

pub returns-clause-files : goal.returns-clause-files
returns-clause-files g c honest =
    let before = g.P.Place.state c.args.place.now in
    let after = g.P.Place.state c.give_back.new.self in
    let back = c.give_back.ensures.honest honest in
    let mid = c.give_back.ensures.asked.earlier honest in
    let found = c.in-Some.ensures.honest (c.copy_disk-exit.ensures.earlier mid) in
    let lent : WasLent c.args.file.now (g.P.D.Disk.state c.in-Some.disk) (g.P.D.Disk.state c.copy_disk-exit.result.1) after = record { fresh = found.fresh; honest = back.honest; holds = back.holds; came = back.came } in
    elim (c.copy_disk-exit.ensures.copied mid back.honest) [
      | makes seen used shown in_use copy_made ↦
          let held = found.held (shown.goes.earlier back.honest) in
          let same = back.holds ∙ ap Some (synced_alone _ _ shown.moments) ∙ sym held.0 in
          duplicates (record {
            found = c.in-Some.disk;
            back = c.copy_disk-exit.result.1;
            held = held.0;
            lent = lent;
            seen = seen;
            used = used;
            shown = shown;
            in_use = in_use;
            makes = copied_between g.P.Place.state g.P.Place.denied g.P.Place.to_write c.args.file.now _ _ c.args.place.now _ _ c.give_back.new.self _
                (λ reads. c.give_back.ensures.asked.writes ∙ reads ∙ c.in-Some.ensures.asked.writes)
                (λ opens. c.give_back.ensures.asked.writes ∙ opens ∙ ap (λ n. n + 1) c.in-Some.ensures.asked.writes)
                (λ n denied. c.give_back.ensures.asked.some refl ∙ denied ∙ ap (λ ns. n ∷ ns) (c.in-Some.ensures.asked.some refl))
                found.same back held.0 same copy_made;
          })
      | refuses why refused left told ↦
          let held = found.held (refused.goes.earlier back.honest) in
          let same = back.holds ∙ ap Some (synced_alone _ _ (refused.moments back.honest)) ∙ sym held.0 in
          copies_none (c.give_back.ensures.asked.writes ∙ ap g.P.Place.to_write left ∙ c.in-Some.ensures.asked.writes) (record {
            same = keeps_all c.args.file.now before after (λ other apart. back.others other apart ∙ ap (λ p. (g.P.Place.state p).files other) left ∙ found.same other) same;
            told = is_refused (record {
              found = c.in-Some.disk;
              back = c.copy_disk-exit.result.1;
              held = held.0;
              lent = lent;
              why = why;
              refused = refused;
              told = told;
            });
          })
    ]

pub returns-in_default-clause-files : goal.returns-in_default-clause-files
returns-in_default-clause-files g c honest =
    copies_none c.look.ensures.asked.writes (record { same = (c.look.ensures.honest honest).same; told = is_denied (record { denied = c.look.ensures.asked.none (ap is_some c.in_default.is); same_came = (c.look.ensures.honest honest).same_came; told = c.no_file.ensures }) })
