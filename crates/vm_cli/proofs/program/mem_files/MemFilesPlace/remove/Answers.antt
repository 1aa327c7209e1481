use Rattle.std.proofs.Common.{refl, rules}
use Rattle.vm_cli.proofs.MemFilesLemmas.{removes}
use Rattle.vm_cli.proofs.program.mem_files.MemFilesPlace.remove.Goals as goal

pub returns-in-Some-clause-honest : goal.returns-in-Some-clause-honest
returns-in-Some-clause-honest c honest =
    removes c.args.self.now.honest c.args.file.now c.args.self.now.slots (c.get_mut.follows.lender _) _ c.args.file.now refl
    ((c.get_mut.follows.holds _).3 (search rules)) c.in-Some.slot.now (search rules) refl refl
