-- What is behind a handle.
use Rattle.std.specs.Prelude.{◌≡◌, ◌⊎◌, ℕ, if◌then◌else◌, None, Option, Some, Result, Ok, Err}
use Rattle.std.specs.Global.{Box}
use Rattle.vm_types.specs.Codes.{code_of}
use Rattle.vm_types.specs.declared.refusal.Refusal.{Refusal}
use Rattle.altstore.specs.declared.outcome.TheConstants.{DONE, MEMORY}
use Rattle.altstore.specs.declared.session.Session.{Session}
use Rattle.altstore.specs.declared.slot.Slot.{Slot}

-- the session behind a handle, if it is open
abbrev pub behind : Slot → Option Session
behind slot = if slot.is_open then slot.held.value else None

-- the session in a box, if there is one
abbrev pub boxed_session : Option (Box Session) → Option Session
boxed_session None = None
boxed_session (Some box) = Some box.value

-- the session that was opened, if one was
abbrev pub opened_session : Result Session Refusal → Option Session
opened_session (Ok session) = Some session
opened_session (Err refusal) = None

-- the number that tells how an opening ended
abbrev pub opened_code : Result Session Refusal → ℕ
opened_code (Ok session) = DONE
opened_code (Err refusal) = code_of refusal

-- what was opened is behind a handle, with the number that tells it; or there was no memory for that, and the handle is closed
abbrev pub KeepsOpened : Result Session Refusal → ℕ → Slot → Type 0
KeepsOpened opened code slot =
    ((code ≡ opened_code opened) × (behind slot ≡ opened_session opened)) ⊎ ((code ≡ MEMORY) × (behind slot ≡ None))
