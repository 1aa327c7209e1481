use Rattle.std.proofs.Common.{◌≡◌, ◌≤◌, true, length, take}
use Rattle.vm_disk.specs.Moments.{Throughout, TouchesOnly}
use Rattle.vm_block.specs.Slot.{used_blocks}
use Rattle.vm_catalog.specs.Place.{blocks_from, region, slot_at}
use Rattle.vm_catalog.specs.Written.{slot_blocks}
use Rattle.vm_catalog.proofs.writer.write_slot.Given as goal

-- the blocks so far are written, and none outside the slot
abbrev pub invariant-loop-index : goal.invariant-loop-index
invariant-loop-index g l =
    let old = g.D.Disk.state l.initial.disk in
    let now = g.D.Disk.state l.disk in record {
      blocks : now.blocks ≡ old.blocks;
      earlier : now.honest ≡ true → old.honest ≡ true;
      rising : old.failures ≤ now.failures;
      written : now.honest ≡ true → blocks_from now.now.contents (slot_at l.fn.slot_name) l.index ≡ take l.index (slot_blocks l.blocks l.entries);
      moments : now.honest ≡ true → Throughout old now (TouchesOnly (region (slot_at l.fn.slot_name) (used_blocks (length l.entries))) old.now);
    }
