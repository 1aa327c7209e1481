-- What holds for each state that a store stands for.
use Rattle.std.specs.Prelude.{◌≡◌, ◌⊎◌, ℕ, List, Option, Result, IfOk, Vec, false}
use Rattle.vm_types.specs.Shape.{shape}
use Rattle.vm_types.specs.State.{State}
use Rattle.vm_types.specs.declared.refusal.Refusal.{Refusal}
use Rattle.vm_types.specs.declared.refusal.Refusal.TheVariants.{Device, Memory}
use Rattle.vm_cli.specs.program.StoreCounts.{checkpoint_count}
use Rattle.vm_cli.specs.program.Branches.{Branch, branches_of, tree_text}
use Rattle.vm_store.specs.Store.{Holds, IsHonest, has_failed}
use Rattle.vm_store.specs.declared.store.Store.{Store}

-- the device failed, or memory ran out
abbrev pub IsDeviceOrMemory : Refusal → Type 0
IsDeviceOrMemory refusal = (refusal ≡ Device) ⊎ (refusal ≡ Memory)

-- memory ran out
abbrev pub IsMemory : Refusal → Type 0
IsMemory refusal = refusal ≡ Memory

-- what is drawn of each alternative of a state is given, unless it is refused
abbrev pub GivesBranches : {A : Type 0} → Result (Vec Branch A) Refusal → State → Type 0
GivesBranches result s = IfOk result (λ branches. branches.items ≡ branches_of s.working)

-- the drawing of a state is given, unless it is refused
abbrev pub GivesTree : {A : Type 0} → Result (Vec ℕ A) Refusal → State → Type 0
GivesTree result s = IfOk result (λ text. text.items ≡ tree_text s.working)

-- the number of a state's checkpoints is given, unless it is refused
abbrev pub GivesCheckpoints : Result ℕ Refusal → State → Type 0
GivesCheckpoints result s = IfOk result (λ count. count ≡ checkpoint_count s.working)

module _ {D : Type 0} {members : _} where
  -- Q holds for each state that a store stands for which has not failed, where these are the names of its alternatives and of their parents
  abbrev pub InListed : Store D members → List (List ℕ × Option (List ℕ)) → (State → Type 0) → Type 0
  InListed store listed Q = has_failed store ≡ false → (s : State) → Holds store s → listed ≡ shape s.working → Q s

  -- Q holds for each state that the old store stood for, which had not failed, if the disk is honest under the new one and these were the names of its alternatives and of their parents
  abbrev pub FromListed : Store D members → Store D members → List (List ℕ × Option (List ℕ)) → (State → Type 0) → Type 0
  FromListed old new listed Q = IsHonest new → has_failed old ≡ false → (s : State) → Holds old s → listed ≡ shape s.working → Q s
