use Rattle.std.proofs.Common.{◌≡◌, ap, inr, length, refl, sym, ◌∙◌}
use Rattle.vm_types.specs.declared.refusal.Refusal.TheVariants.{AlreadyAStore, BadSize}
use Rattle.vm_cli.proofs.FilesLemmas.{enough_blocks}
use Rattle.vm_cli.proofs.program.make_store.Goals as goal

pub returns-in-Err-clause-made : goal.returns-in-Err-clause-made
returns-in-Err-clause-made g c =
    let old = g.D.Disk.state c.args.disk in
    let said = c.in-Err.ensures in
    inr (record {
      empty = refl;
      refusal = c.in-Err.refusal;
      of_format = said.refusals;
      none = record {
        goes = said.any;
        size = said.bad_size;
        untouched = λ is. ap (λ d. g.D.Disk.state d) (said.untouched is);
        there = λ honest is. record {
          least = enough_blocks c.args.blocks old.blocks (length old.now.contents)
              (λ bad. let no : AlreadyAStore ≡ BadSize = sym is ∙ said.bad_size.1 bad in absurd cc) (g.met.D.Disk.whole c.args.disk (said.any.earlier honest));
          header = said.spares.already honest is;
        };
        stands = λ honest store. (said.spares.was_there honest store.header).1;
      };
      told = c.refused.ensures;
    })
