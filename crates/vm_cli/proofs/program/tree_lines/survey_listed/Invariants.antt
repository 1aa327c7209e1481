use Rattle.std.proofs.Common.{◌≡◌, true, false, None, take}
use Rattle.vm_types.specs.Shape.{shape}
use Rattle.vm_types.specs.State.{State}
use Rattle.vm_store.specs.Store.{Holds, disk_of, has_failed}
use Rattle.vm_cli.specs.program.Branches.{branches_of}
use Rattle.vm_cli.specs.session.Session.{Passes}
use Rattle.vm_cli.proofs.program.tree_lines.survey_listed.Given as goal

-- the store was only read, and the alternatives so far are there
abbrev pub invariant-loop-alternative : goal.invariant-loop-alternative
invariant-loop-alternative g l =
    Passes l.fn.store l.store None
    × ((g.D.Disk.state (disk_of l.store)).honest ≡ true → has_failed l.fn.store ≡ false → (s : State) → Holds l.fn.store s → l.fn.listed ≡ shape s.working
    → l.branches.items ≡ take l.alternative-index (branches_of s.working))
