-- The numbers by which calls tell how they ended.
use Rattle.std.specs.Prelude.{ℕ, Bool, false, true, Result, Ok, Err}
use Rattle.vm_cli.specs.declared.session.ServeFault.{ServeFault}
use Rattle.vm_cli.specs.declared.session.ServeFault.TheVariants as fault
use Rattle.altstore.specs.declared.outcome.TheConstants.{DONE, FAILED, LINE_REFUSED, MEMORY, UNREAD}

-- of one that asked lines
abbrev pub asked_code : Result Bool ServeFault → ℕ
asked_code (Ok false) = DONE
asked_code (Ok true) = LINE_REFUSED
asked_code (Err fault.Refused) = LINE_REFUSED
asked_code (Err fault.Write) = MEMORY
asked_code (Err fault.Store) = FAILED
asked_code (Err fault.Read) = UNREAD
asked_code (Err fault.Unsure) = FAILED
