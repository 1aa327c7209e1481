use Rattle.std.proofs.Common.{refl, rules, arith}
use Rattle.vm_disk.proofs.FileLemmas.{disk_writes, write_stays}
use Rattle.vm_disk.proofs.FileRunLemmas.{write_keeps_behind}
use Rattle.vm_disk.specs.declared.file.FileDisk.{FileDisk}
use Rattle.vm_disk.proofs.file.FileDiskDisk.write.Goals as goal

pub returns-clause-honest : goal.returns-clause-honest
returns-clause-honest g c =
    let was = c.args.self.now in
    disk_writes g.F.Positional.state _ _ _ _ was (record { room = was.room; file = _; blocks = _; sure = _; past = _; reads = was.reads; small = was.small; known = was.known }) _
    (record { is = refl; earlier = _; told = c.earlier-was.ensures; past = c.note.ensures })
    c.requires c.offset_of.ensures (search rules) c.write_at.ensures.honest

pub returns-clause-does : goal.returns-clause-does
returns-clause-does g c =
    let was = c.args.self.now in
    let now : FileDisk _ = record { room = was.room; file = c.write_at.new.self; blocks = was.blocks; sure = was.sure; past = c.note.new.self; reads = was.reads; small = was.small; known = was.known } in
    record {
      behind =
          write_keeps_behind g.F.Positional.state _ _ 1 _ _ was now _
          (record { is = refl; earlier = _; told = c.earlier-was.ensures; past = c.note.ensures })
          (omega (arith, c.requires)) c.offset_of.ensures (search rules) c.write_at.ensures.honest;
      stays =
          write_stays g.F.Positional.state _ _ _ _ was now _
          (record { is = refl; earlier = _; told = c.earlier-was.ensures; past = c.note.ensures })
          (omega (arith, c.requires)) c.offset_of.ensures c.write_at.ensures.honest;
    }
