use Rattle.std.proofs.Common.{◌∙◌, ap, inl, inr, is_some, refl, sym, Some}
use Rattle.vm_cli.specs.program.Exits.{no_store_text}
use Rattle.vm_cli.specs.program.Files.DeniedOr.{is_denied, is_refused}
use Rattle.vm_cli.specs.program.Files.DrawsOrDeclines.{draws, draws_none}
use Rattle.vm_cli.specs.program.Places.{KeepsOthers, WasLent}
use Rattle.vm_cli.proofs.FilesLemmas.{keeps_all, synced_alone}
use Rattle.vm_cli.proofs.program.tree_view.tree.Goals as goal

pub returns-clause-files : goal.returns-clause-files
returns-clause-files g c honest =
    let before = g.P.Place.state c.args.place.now in
    let after = g.P.Place.state c.give_back.new.self in
    let back = c.give_back.ensures.honest honest in
    let found = c.in-Some.ensures.honest (c.give_back.ensures.asked.earlier honest) in
    let lent : WasLent c.args.file.now (g.P.D.Disk.state c.in-Some.disk) (g.P.D.Disk.state c.show_disk-exit.result.1) after = record { fresh = found.fresh; honest = back.honest; holds = back.holds; came = back.came } in
    let others : KeepsOthers c.args.file.now before after = λ other apart. back.others other apart ∙ found.same other in
    elim (c.show_disk-exit.ensures.told back.honest) [
      | inl drawn ↦
          let held = found.held (drawn.shown.goes.earlier back.honest) in
          let same = back.holds ∙ ap Some (synced_alone _ _ drawn.shown.moments) ∙ sym held.0 in
          draws (record {
            same = keeps_all c.args.file.now before after others same;
            found = c.in-Some.disk;
            back = c.show_disk-exit.result.1;
            held = held.0;
            lent = lent;
            seen = drawn.seen;
            shown = drawn.shown;
            told = drawn.told;
          })
      | inr refused ↦
          let held = found.held (refused.refused.goes.earlier back.honest) in
          let same = back.holds ∙ ap Some (synced_alone _ _ (refused.refused.moments back.honest)) ∙ sym held.0 in
          draws_none (record {
            same = keeps_all c.args.file.now before after others same;
            told = is_refused (record {
              found = c.in-Some.disk;
              back = c.show_disk-exit.result.1;
              held = held.0;
              lent = lent;
              why = refused.why;
              refused = refused.refused;
              told = refused.told;
            });
          })
    ]

pub returns-in_default-clause-files : goal.returns-in_default-clause-files
returns-in_default-clause-files g c honest = draws_none (record { same = (c.look.ensures.honest honest).same; told = is_denied (record { denied = c.look.ensures.asked.none (ap is_some c.in_default.is); same_came = (c.look.ensures.honest honest).same_came; told = c.no_file.ensures }) })

pub returns-clause-says : goal.returns-clause-says
returns-clause-says g c = elim c.show_disk-exit.ensures.ends [
  | inl drawn ↦ inl drawn
  | inr (empty, (why, told)) ↦ inr (empty, (no_store_text why, inr (why, refl), told))
]
