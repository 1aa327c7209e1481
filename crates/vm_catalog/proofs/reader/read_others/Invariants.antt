use Rattle.std.proofs.Common.{◌≡◌, ◌+◌, ◌≤◌, true, vec_capacity}
use Rattle.vm_disk.specs.Moments.{OnlyReads}
use Rattle.vm_catalog.specs.Place.{blocks_from, slot_at}
use Rattle.vm_catalog.specs.SlotReads.{FitsSoFar, BeginsSlot}
use Rattle.vm_catalog.proofs.reader.read_others.Given as goal

-- the blocks so far were read, and their entries fit
abbrev pub invariant-loop-index : goal.invariant-loop-index
invariant-loop-index g l =
    let old = g.D.Disk.state l.initial.disk in
    let now = g.D.Disk.state l.disk in record {
      blocks : now.blocks ≡ old.blocks;
      earlier : now.honest ≡ true → old.honest ≡ true;
      rising : old.failures ≤ now.failures;
      once : now.reads + 1 ≡ old.reads + l.index;
      reads : now.honest ≡ true → OnlyReads old now;
      room : vec_capacity l.entries ≡ vec_capacity l.fn.entries;
      fits : FitsSoFar l.head.blocks l.head.entries l.index l.entries.items;
      found : now.honest ≡ true → BeginsSlot (blocks_from old.now.contents (slot_at l.fn.slot_name) l.index) l.head.blocks l.head.entries l.entries.items;
    }
