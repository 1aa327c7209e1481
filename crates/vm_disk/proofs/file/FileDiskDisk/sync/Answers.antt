use Rattle.std.proofs.Common.{refl}
use Rattle.std.proofs.Math.Nat.{le_refl}
use Rattle.vm_disk.proofs.FileLemmas.{disk_synced}
use Rattle.vm_disk.proofs.file.FileDiskDisk.sync.Goals as goal

pub returns-clause-honest : goal.returns-clause-honest
returns-clause-honest g c =
    let was = c.args.self.now in
    disk_synced g.F.Positional.state _ was (record { room = was.room; file = _; blocks = _; sure = was.blocks; past = _; reads = was.reads; small = was.small; known = le_refl was.blocks }) c.sync.new.self
    (record { is = refl; earlier = _; told = c.earlier-was.ensures; past = c.note.ensures })
    c.in_ok-sync.ensures.honest
