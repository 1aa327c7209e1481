use Rattle.std.proofs.Common.{refl, arith}
use Rattle.vm_disk.proofs.FileLemmas.{disk_extends, disk_adds, extend_stays}
use Rattle.vm_disk.specs.declared.file.FileDisk.{FileDisk}
use Rattle.vm_disk.proofs.file.FileDiskDisk.extend.Goals as goal

pub returns-clause-honest : goal.returns-clause-honest
returns-clause-honest g c =
    let was = c.args.self.now in
    disk_extends g.F.Positional.state was (record { room = was.room; file = _; blocks = _; sure = was.sure; past = _; reads = was.reads; small = omega (arith, c.write_zeros.ensures.most, c.ranges.blocks); known = omega (arith, was.known, c.write_zeros.ensures.least) }) c.write_zeros.new.file c.write_zeros.new.done
    (record { is = refl; earlier = _; told = c.earlier-was.ensures; past = c.note.ensures })
    c.write_zeros.ensures.least c.write_zeros.ensures.added

pub returns-clause-does : goal.returns-clause-does
returns-clause-does g c =
    let was = c.args.self.now in
    let told = c.earlier-was.ensures in
    let past = c.note.ensures in
    let new : FileDisk _ = record { room = was.room; file = c.write_zeros.new.file; blocks = c.write_zeros.new.done; sure = was.sure; past = c.note.new.self; reads = was.reads; small = omega (arith, c.write_zeros.ensures.most, c.ranges.blocks); known = omega (arith, was.known, c.write_zeros.ensures.least) } in
    record {
      zero = disk_adds g.F.Positional.state _ was new _ _ (record { is = refl; earlier = _; told = told; past = past }) c.write_zeros.ensures.added;
      within = record {
        behind = disk_adds g.F.Positional.state _ was new _ _ (record { is = refl; earlier = _; told = told; past = past }) c.write_zeros.ensures.behind;
        stays = extend_stays g.F.Positional.state was new _ _ (record { is = refl; earlier = _; told = told; past = past }) c.write_zeros.ensures.added;
      };
    }
