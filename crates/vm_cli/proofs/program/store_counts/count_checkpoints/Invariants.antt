use Rattle.std.proofs.Common.{◌≡◌, false, take}
use Rattle.vm_types.specs.Shape.{shape}
use Rattle.vm_types.specs.State.{State}
use Rattle.vm_store.specs.Store.{Holds, has_failed}
use Rattle.vm_cli.specs.program.StoreCounts.{checkpoint_count}
use Rattle.vm_cli.proofs.program.store_counts.count_checkpoints.Given as goal

-- the checkpoints of the alternatives so far are counted
abbrev pub invariant-loop-alternative : goal.invariant-loop-alternative
invariant-loop-alternative g l =
    has_failed l.fn.store ≡ false → (s : State) → Holds l.fn.store s → l.fn.listed ≡ shape s.working
    → l.count ≡ checkpoint_count (take l.alternative-index s.working)
