use Rattle.std.proofs.Common.{◌≡◌, ◌∙◌, ap, inl, inr, is_some, option_map, sym, true, Some, None}
use Rattle.vm_cli.specs.program.Files.ToldOfFile.{laid_out, not_made}
use Rattle.vm_cli.specs.program.Files.ToldOfStore.{store_made, store_refused}
use Rattle.vm_cli.proofs.FilesLemmas.{not_done}
use Rattle.vm_cli.proofs.program.create.Goals as goal

pub returns-clause-files : goal.returns-clause-files
returns-clause-files g c honest =
    let back = c.give_back.ensures.honest honest in
    let made = c.in-Some.ensures.honest (c.give_back.ensures.asked.earlier honest) in
    let start = g.P.D.Disk.state c.in-Some.disk in
    let was : start.honest ≡ true = elim c.make_store-exit.ensures.made [
      | inl shown ↦ shown.made.goes.earlier back.honest
      | inr none ↦ none.none.goes.earlier back.honest
    ] in
    let blank = made.blank was in
    record {
      made = λ done. elim c.make_store-exit.ensures.made [
        | inl shown ↦ record { absent = made.absent; medium = (g.P.D.Disk.state c.make_store-exit.result.1).now; holds = back.holds; formatted = shown.made.shown back.honest }
        | inr none ↦ absurd (not_done _ _ _ _ none.told done)
      ];
      lays = laid_out made.absent (record {
        start = c.in-Some.disk;
        end = c.make_store-exit.result.1;
        blank = blank.1;
        lent = record { fresh = made.fresh; honest = back.honest; holds = back.holds; came = back.came };
        moments = c.make_store-exit.ensures.moments back.honest;
        told = elim c.make_store-exit.ensures.made [
          | inl shown ↦ store_made shown.made shown.told
          | inr none ↦ store_refused none.refusal none.of_format none.none none.told
        ];
      });
      stays = λ contents there. let no : None ≡ Some contents = sym made.absent ∙ there in absurd cc;
      others = λ other apart. back.others other apart ∙ made.others other apart;
    }

pub returns-in_default-clause-files : goal.returns-in_default-clause-files
returns-in_default-clause-files g c honest =
    let denied = c.create.ensures.honest honest in
    record {
      made = λ done. absurd (not_done _ _ _ _ c.no_file.ensures done);
      lays = not_made (c.create.ensures.asked.none (ap is_some c.in_default.is)) (denied.none_came (ap (option_map g.P.D.Disk.state) c.in_default.is)) c.no_file.ensures;
      stays = denied.stays;
      others = denied.others;
    }
