-- What lies below a file that is watched, and below a stream over which a line is cleared.
use Rattle.vm_cli.specs.declared.program.progress.Cleared.{Cleared}
use Rattle.vm_cli.specs.declared.program.progress.Watched.{Watched}

-- the file that the calls are handed on to
abbrev pub file_below : {F : Type 0} → Watched F → F
file_below watched = watched.file

-- the stream that is read or written
abbrev pub stream_below : {S : Type 0} → Cleared S → S
stream_below cleared = cleared.stream
