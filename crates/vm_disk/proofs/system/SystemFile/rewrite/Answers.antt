use Rattle.std.proofs.Common.{◌∷◌, List, sym, ◌∙◌, ap}
use Rattle.vm_disk.specs.declared.system.Call.{Call}
use Rattle.vm_disk.specs.declared.system.Call.TheVariants.{Rewritten}
use Rattle.vm_disk.proofs.system.SystemFile.rewrite.Goals as goal

pub returns-clause-rewritten : goal.returns-clause-rewritten
returns-clause-rewritten g c =
    record {
      found = c.of.result;
      written = c.of-2.result;
      same = c.of-2.ensures ∙ sym c.of.ensures;
      calls = c.note-3.ensures ∙ ap (λ (calls : List Call). Rewritten c.args.offset c.of-2.result ∷ calls) c.note-2.ensures;
    }
