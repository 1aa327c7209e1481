-- The lock that the words of a command line ask for.
use Rattle.std.specs.Prelude.{◌≡◌, Bool, List, Option, Some, None, codes, if◌then◌else◌, option_map, option_and_then}
use Rattle.std.specs.Str.{bytes_eq}
use Rattle.clap.specs.Words.{Row, Text, first_of, subcommand_of}
use Rattle.vm_cli.specs.program.Words.{altctl, is_set}
use Rattle.vm_cli.specs.declared.program.file_lock.Access.{Access}
use Rattle.vm_cli.specs.declared.program.file_lock.Access.TheVariants.{Read, Write}
use Rattle.vm_cli.specs.declared.program.file_lock.LockWanted.{LockWanted}

-- the file to be locked, what is done with it, and whether a lock of another process is waited for
abbrev pub Lock : Type 0
Lock = Text × Access × Bool

-- the lock that is wanted
abbrev pub lock_of_wanted : LockWanted → Lock
lock_of_wanted wanted = (wanted.file.now, wanted.access, wanted.waits)

-- a session may change its file, unless it only reads
abbrev pub access_with : Bool → Access
access_with read_only = if read_only then Read else Write

-- what a task of this name does with a file that is there before it: `create` has none
abbrev pub access_by : Text → List Row → Option Access
access_by name rows =
    if bytes_eq name (codes "run") then Some (access_with (is_set (first_of (codes "read-only") rows)))
    else (if bytes_eq name (codes "serve") then Some (access_with (is_set (first_of (codes "read-only") rows)))
    else (if bytes_eq name (codes "do") then Some (access_with (is_set (first_of (codes "read-only") rows)))
    else (if bytes_eq name (codes "check") then Some Read
    else (if bytes_eq name (codes "tree") then Some Read
    else (if bytes_eq name (codes "copy") then Some Read else None)))))

-- the lock that a task takes on this file: none with `--no-lock`
abbrev pub lock_by : Text → List Row → Text → Option Lock
lock_by name rows file =
    if is_set (first_of (codes "no-lock") rows) then None
    else option_map (λ access. (file, access, is_set (first_of (codes "wait") rows))) (access_by name rows)

-- the lock that the matches of a subcommand ask for
abbrev pub lock_of : Option (Text × List Row) → Option Lock
lock_of None = None
lock_of (Some p) = option_and_then (lock_by p.0 p.1) (first_of (codes "file") p.1)

-- the lock that is wanted, if there is one, is the one that the matches of a subcommand ask for
abbrev pub IsLockOf : Option (Text × List Row) → Option LockWanted → Type 0
IsLockOf matched wanted = option_map lock_of_wanted wanted ≡ lock_of matched

-- the lock that is wanted, if there is one, is the one that these words ask for
abbrev pub WordsLock : List Text → Option LockWanted → Type 0
WordsLock words wanted = IsLockOf (subcommand_of altctl words) wanted
