use Rattle.std.proofs.Common.{◌≡◌, true, length, Ok}
use Rattle.vm_tree.specs.Calls.{OnlyLooks}
use Rattle.vm_store.proofs.ReachLemmas.{ReachedSoFar}
use Rattle.vm_store.proofs.store.spare.mark_versions.Given as goal

abbrev pub invariant-loop-version : goal.invariant-loop-version
invariant-loop-version g l =
    let old = g.D.Disk.state l.fn.disk in
    let now = g.D.Disk.state l.disk in record {
      looks : OnlyLooks {T = Unit {0}} (Ok tt) old now;
      many : length l.marks ≡ length l.fn.marks;
      marked : now.honest ≡ true → ReachedSoFar old.now.contents (length l.fn.marks) l.versions l.version-index l.fn.marks l.marks;
    }
