use Rattle.std.proofs.Common.{◌≡◌, ◌+◌, true}
use Rattle.vm_disk.proofs.RunLemmas.{IsBegun}
use Rattle.vm_disk.proofs.disk.Disk.write_each.Given as goal

abbrev pub invariant-loop-block : goal.invariant-loop-block
invariant-loop-block g l =
    let old = g.Self.Disk.state l.initial.self in
    let now = g.Self.Disk.state l.self in record {
      place : l.at ≡ l.n + l.block-index;
      blocks : now.blocks ≡ old.blocks;
      earlier : now.honest ≡ true → old.honest ≡ true;
      reads : now.reads ≡ old.reads;
      failures : now.failures ≡ old.failures;
      begun : now.honest ≡ true → IsBegun l.n l.blocks l.block-index old now;
    }
