use Rattle.std.proofs.Common.{◌∙◌, ap, length, List, sym}
use Rattle.vm_disk.proofs.DelayedLemmas.{covered_first, idle_now, idle_past}
use Rattle.vm_disk.proofs.delayed.DelayedDisk.new.Goals as goal

pub invariant_of-result : goal.invariant_of-result
invariant_of-result g c =
    record { covered = λ honest. covered_first g.D.Disk.state c.of-first.result.value c.in_ok-layers.layers _ (c.of-first.ensures ∙ sym c.in_ok-layers.ensures.ok) c.new-3.ensures }

pub returns-clause-ok : goal.returns-clause-ok
returns-clause-ok g c =
    record {
      inner = c.in_ok-layers.ensures.ok;
      capacity = c.in_ok-layers.ensures.limit ∙ c.in-Some.ensures;
      waiting = c.in_ok-layers.ensures.empty;
      reads = ap (λ (reads : List (Unit {0})). length reads) c.new-4.ensures;
      now = idle_now g.D.Disk.state c.args.inner c.in_ok-layers.layers c.in_ok-layers.ensures.ok c.in_ok-layers.ensures.empty;
      past = idle_past g.D.Disk.state c.args.inner c.of-first.result.value _ c.of-first.ensures c.new-3.ensures;
    }
