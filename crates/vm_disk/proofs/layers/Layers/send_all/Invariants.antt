use Rattle.std.proofs.Common.{Ok}
use Rattle.vm_disk.specs.Waiting.{count_of}
use Rattle.vm_disk.specs.Layers.{waiting_of, MaySend}
use Rattle.vm_disk.proofs.layers.Layers.send_all.Given as goal

abbrev pub invariant-loop-n : goal.invariant-loop-n
invariant-loop-n g l = MaySend {T = Unit {0}} g.D.Disk.state (Ok tt) l.initial.self l.self

abbrev pub decreases-loop-n : goal.decreases-loop-n
decreases-loop-n g l = count_of (waiting_of l.self)
