-- What the calls of C do.
use Rattle.std.specs.Prelude.{◌≡◌, ◌⊎◌, ℕ, Bool, IfSome, IsSome, List, None, Option, Result, Some}
use Rattle.vm_cli.specs.answers.Carried.{Gains}
use Rattle.vm_cli.specs.declared.session.OnRefusal.{OnRefusal}
use Rattle.vm_cli.specs.declared.session.ServeFault.{ServeFault}
use Rattle.vm_types.specs.declared.refusal.Refusal.{Refusal}
use Rattle.altstore.specs.declared.outcome.TheConstants.{CLOSED, DONE, MEMORY, OPEN, UNREAD, UNWRITTEN}
use Rattle.altstore.specs.declared.session.Session.{Session}
use Rattle.altstore.specs.declared.slot.Slot.{Slot}
use Rattle.altstore.specs.Lines.{Asks}
use Rattle.altstore.specs.Handles.{KeepsOpened, behind}
use Rattle.altstore.specs.Images.{Loads, OpensBlocks, blocks_of, image_of}
use Rattle.altstore.specs.Outcomes.{asked_code}

-- a session is opened behind a closed handle; behind one that is open nothing changes
pub record OpensHandle (Opens : Result Session Refusal → Type 0) (old : Slot) (code : ℕ) (new : Slot) : Type 0 where
  pub busy : IsSome (behind old) → (code ≡ OPEN) × (behind new ≡ behind old)
  pub opens : behind old ≡ None → (opened : Result Session Refusal) × Opens opened × KeepsOpened opened code new

-- an image is read to its end and loaded behind a closed handle; or it could not be read, and the handle is still closed
pub record LoadsHandle (old : Slot) (code : ℕ) (new : Slot) : Type 0 where
  pub busy : IsSome (behind old) → (code ≡ OPEN) × (behind new ≡ behind old)
  pub opens : behind old ≡ None
      → ((image : List ℕ) × (opened : Result Session Refusal) × Loads image opened × KeepsOpened opened code new)
      ⊎ (((code ≡ MEMORY) ⊎ (code ≡ UNREAD)) × (behind new ≡ None))

-- the session behind a handle is asked lines, if there is one
pub record AsksBehind (lines : List ℕ) (on_refusal : OnRefusal) (old : Slot) (code : ℕ) (new : Slot) : Type 0 where
  pub closed : behind old ≡ None → (code ≡ CLOSED) × (behind new ≡ None)
  pub asks : (session : Session) → behind old ≡ Some session
      → (after : Session) × (result : Result Bool ServeFault) × Asks lines on_refusal result session after × (behind new ≡ Some after) × (code ≡ asked_code result)

-- the blocks of the store behind a handle are opened again, once they were written, if there is one
pub record SavesBehind (old : Slot) (code : ℕ) (new : Slot) : Type 0 where
  pub closed : behind old ≡ None → (code ≡ CLOSED) × (behind new ≡ None)
  pub saves : (session : Session) → behind old ≡ Some session
      → (opened : Result Session Refusal) × OpensBlocks (blocks_of session) opened
      × (KeepsOpened opened code new ⊎ ((code ≡ UNWRITTEN) × KeepsOpened opened 0 new))

-- if the number tells that all was done, all blocks of the store behind the handle were written, one after another
abbrev pub SavesTo : {W : Type 0} → (W → Option (List ℕ)) → Slot → ℕ → W → W → Type 0
SavesTo contents old code writer writer' = code ≡ DONE → IfSome (behind old) (λ session. Gains contents (image_of (blocks_of session)) writer writer')
