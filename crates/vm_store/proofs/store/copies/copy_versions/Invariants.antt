use Rattle.std.proofs.Common.{◌≡◌, ◌≤◌, Ok, length, take, vec_capacity}
use Rattle.vm_check.specs.TreeCopy.{AreCopied, Paired, StepsTo, WhereCopied}
use Rattle.vm_store.specs.Copies.{ReachedVersionsCopy, VersionCopied}
use Rattle.vm_store.proofs.store.copies.copy_versions.Given as goal

abbrev pub invariant-loop-version : goal.invariant-loop-version
invariant-loop-version g l =
    let s = g.S.Disk.state l.fn.source in
    let t = g.T.Disk.state l.fn.target in
    let s' = g.S.Disk.state l.source in
    let t' = g.T.Disk.state l.target in record {
      step : StepsTo {T = Unit {0}} (Ok tt) l.limit s t l.fn.numbers s' t' l.numbers;
      reached : ReachedVersionsCopy {T = Unit {0}} (Ok tt) l.blocks l.versions s l.fn.numbers s' l.numbers;
      many : length l.copies.items ≡ l.version-index;
      room : length l.versions ≤ vec_capacity l.copies;
      copied : WhereCopied l.limit s t l.fn.numbers s' t' (AreCopied s.now.contents t'.now.contents l.limit l.numbers × Paired (VersionCopied l.numbers) (take l.version-index l.versions) l.copies.items);
    }
