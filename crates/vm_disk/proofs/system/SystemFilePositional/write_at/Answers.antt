use Rattle.std.proofs.Common.{rules}
use Rattle.vm_disk.specs.Past.{noted}
use Rattle.vm_disk.specs.System.{held_bytes, name_of, opening_of, is_read_alone}
use Rattle.vm_disk.proofs.SystemLemmas.{torn_there}
use Rattle.vm_disk.proofs.system.SystemFilePositional.write_at.Goals as goal

pub returns-then-is_err-clause-honest : goal.returns-then-is_err-clause-honest
returns-then-is_err-clause-honest g c honest inside =
    let name = name_of c.args.self.now in
    let opening = opening_of c.args.self.now in
    torn_there (is_read_alone c.args.self.now) (held_bytes (g.W.World.held opening name)) (g.W.World.torn opening name) c.args.offset 4096 c.args.from.now (noted c.args.self.now.calls) (noted c.note-then-is_err.new.self) _ (search rules) c.note-then-is_err.ensures
