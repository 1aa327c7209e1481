use Rattle.std.proofs.Common.{refl, rules}
use Rattle.vm_disk.proofs.FileLemmas.{disk_reads, same_part, same_stays}
use Rattle.vm_disk.proofs.file.FileDiskDisk.read.Goals as goal

pub returns-clause-honest : goal.returns-clause-honest
returns-clause-honest g c =
    let was = c.args.self.now in
    disk_reads g.F.Positional.state _ _ _ _ was (record { room = was.room; file = _; blocks = _; sure = _; past = _; reads = c.note.new.self; small = was.small; known = was.known }) _
    (record { is = refl; earlier = _; told = c.earlier-was.ensures; past = c.note-2.ensures })
    c.requires c.offset_of.ensures (search rules) c.read_at.ensures.honest

pub returns-clause-does : goal.returns-clause-does
returns-clause-does g c =
    let was = c.args.self.now in
    same_stays g.F.Positional.state was (record { room = was.room; file = _; blocks = _; sure = _; past = _; reads = c.note.new.self; small = was.small; known = was.known }) (same_part g.F.Positional.state was c.read_at.new.self)
    (record { is = refl; earlier = _; told = c.earlier-was.ensures; past = c.note-2.ensures })
    refl (λ good. let done = c.read_at.ensures.honest good in done.same)
