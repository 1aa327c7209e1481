use Rattle.std.proofs.Common.{◌≡◌, ◌≢◌, ◌≤◌, All, true, false, Err, length, take, vec_capacity}
use Rattle.vm_types.specs.State.{State, after}
use Rattle.vm_disk.specs.Moments.{Throughout}
use Rattle.vm_types.specs.declared.refusal.Refusal.TheVariants.{Failed}
use Rattle.vm_store.specs.Commands.{AnswersInTurn, IsGuardedOnTheWay, NoneIsDevice}
use Rattle.vm_store.specs.Store.{disk_of, has_failed, Holds}
use Rattle.vm_store.proofs.RunLemmas.{Ran}
use Rattle.vm_store.proofs.store.Store.run.Given as goal

-- the commands so far were run, none was failed by the device, and room is left
abbrev pub invariant-loop-command : goal.invariant-loop-command
invariant-loop-command g l =
    let old = g.D.Disk.state (disk_of l.fn.self) in
    let now = g.D.Disk.state (disk_of l.self) in record {
      more_blocks : old.blocks ≤ now.blocks;
      earlier : now.honest ≡ true → old.honest ≡ true;
      rising : old.failures ≤ now.failures;
      sound : has_failed l.self ≡ false;
      fine : NoneIsDevice l.answers.items;
      never : All (λ answer. answer ≢ Err Failed) l.answers.items;
      many : length l.answers.items ≡ l.command-index;
      room : length l.commands ≤ vec_capacity l.answers;
      run : now.honest ≡ true → (s : State) → Holds l.fn.self s → Ran old now s (take l.command-index l.commands) l.answers.items;
      holds : now.honest ≡ true → (s : State) → Holds l.fn.self s → Holds l.self (after s (take l.command-index l.commands) l.answers.items);
      guarded : now.honest ≡ true → (s : State) → Holds l.fn.self s → Throughout old now (IsGuardedOnTheWay l.fn.self l.self s (take l.command-index l.commands) l.answers.items);
      told : (s : State) → AnswersInTurn l.fn.self l.self s (take l.command-index l.commands) l.answers.items;
    }
