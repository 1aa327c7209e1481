-- Whether a file of the system is synced, by what the system answered.
use Rattle.std.specs.Prelude.{◌&&◌, pos, Bool, true, Some, Result, Ok, Err}
use Rattle.std.specs.IoError.{raw_os_error}
use Rattle.std.specs.Option.{option_eq}
use Rattle.std.specs.Ordering.{int_eq}
use Rattle.std.specs.declared.io.Error.{Error}

-- a sync that the system answered so made all writes durable: it succeeded, or the file was opened for reading only, so that there is
-- nothing to sync, and the system says that it has no such call of it (EINVAL, 22)
abbrev pub counts_as_synced : Bool → Result (Unit {0}) Error → Bool
counts_as_synced reads_alone (Ok t) = true
counts_as_synced reads_alone (Err error) = reads_alone && option_eq int_eq (raw_os_error error) (Some (pos 22))
