use Rattle.std.proofs.Common.{◌≡◌, ◌*◌, ◌+◌, ◌-◌, ◌≤◌, true, length, take}
use Rattle.vm_types.specs.Map.{Map, with_changes}
use Rattle.vm_disk.specs.Moments.{Throughout, TouchesOnly}
use Rattle.vm_alloc.specs.Held.{IsHeld, HoldsMore, free_count}
use Rattle.vm_tree.specs.Unsynced.{NeverSyncs}
use Rattle.vm_tree.specs.Free.{is_free}
use Rattle.vm_tree.specs.Root.{IsRootedIn}
use Rattle.vm_store.specs.Sizes.{sizes}
use Rattle.vm_store.proofs.change_list.make_changes.Given as goal

abbrev pub invariant-loop-i : goal.invariant-loop-i
invariant-loop-i g l =
    let old = g.D.Disk.state l.fn.disk in
    let now = g.D.Disk.state l.disk in record {
      blocks : now.blocks ≡ old.blocks;
      earlier : now.honest ≡ true → old.honest ≡ true;
      rising : old.failures ≤ now.failures;
      most : l.i ≤ length l.changes;
      room : 17 * length l.changes ≤ free_count l.held + 17 * l.i;
      taken : free_count l.fn.held ≤ free_count l.held + 16 * l.i;
      none : l.i ≡ 0 → (l.disk ≡ l.fn.disk) × (l.held ≡ l.fn.held);
      still : HoldsMore l.fn.held l.held;
      moments : now.honest ≡ true → Throughout old now (TouchesOnly (is_free l.fn.held) old.now);
      unsynced : now.honest ≡ true → NeverSyncs old now;
      changed : now.honest ≡ true → (m : Map) → IsRootedIn sizes (IsHeld l.fn.held) old.now.contents (length l.fn.held) l.fn.root m
          → IsRootedIn sizes (IsHeld l.held) now.now.contents (length l.fn.held) l.root (with_changes m (take l.i l.changes));
    }

abbrev pub decreases-loop-i : goal.decreases-loop-i
decreases-loop-i g l = length l.changes - l.i
