use Rattle.std.proofs.Common.{◌≡◌, Some, refl, sym, ap, ◌∙◌, rules}
use Rattle.std.specs.BTreeMap.{get_by_text}
use Rattle.std.specs.Option.{option_copied_mut}
use Rattle.vm_cli.proofs.MemFilesLemmas.{stays}
use Rattle.vm_cli.proofs.program.mem_files.MemFiles.taken.Goals as goal

pub returns-clause-stays : goal.returns-clause-stays
returns-clause-stays c =
    let there : get_by_text c.args.self.now.slots c.args.file.now ≡ Some c.in_ok-slot.slot.now = sym c.get_mut.ensures.value ∙ ap option_copied_mut c.in_ok-slot.was in
    stays c.args.self.now.honest c.args.file.now c.args.self.now.slots (c.get_mut.follows.lender _) _ c.args.file.now refl
    ((c.get_mut.follows.holds _).3 (search rules)) c.in_ok-slot.slot.now there refl refl
