use Rattle.std.proofs.Common.{refl}
use Rattle.vm_disk.proofs.FileLemmas.{disk_reads}
use Rattle.vm_disk.proofs.file.FileDiskDisk.load.Goals as goal

pub returns-clause-honest : goal.returns-clause-honest
returns-clause-honest g c =
    let was = c.args.self.now in
    disk_reads g.F.Positional.state _ _ _ c.read_block.new.into was (record { room = c.read_block.new.into; file = _; blocks = _; sure = _; past = _; reads = c.note.new.self; small = was.small; known = was.known }) _
    (record { is = refl; earlier = _; told = c.earlier-was.ensures; past = c.note-2.ensures })
    c.requires refl c.read_block.ensures.full c.read_block.ensures.honest
