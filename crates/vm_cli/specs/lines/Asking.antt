-- What a line may ask for.
use Rattle.std.specs.Prelude.{ℕ, List as ListOf, Option}
use Rattle.vm_types.specs.declared.at.At.{At}
use Rattle.vm_types.specs.declared.command.Command.{Command as TheCommand}
use Rattle.vm_types.specs.declared.command.Side.{Side}
use Rattle.vm_types.specs.declared.key.Key.{Key}
use Rattle.vm_cli.specs.declared.lines.mistake.Mistake.{Mistake}

-- what a line asks for
pub data Request : Type 0 where
  -- the line has no words, or is a comment: it has no answer
  Nothing : Request
  Command : TheCommand → Request
  -- the value of a record of a version
  Get : At → Key → Request
  -- all records of a version
  List : At → Request
  -- those from one key to another, both included
  Part : At → Key → Key → Request
  -- the first ones at a key and after it, at most this many
  Page : At → Key → ℕ → Request
  -- all alternatives, with their parents
  Alternatives : Request
  -- the checkpoints of an alternative
  Checkpoints : ListOf ℕ → Request
  -- what changed in an alternative since its base
  Changes : ListOf ℕ → Request
  -- the changes from one version to another
  Diff : At → At → Request
  -- those from one key to another, both included
  DiffPart : At → At → Key → Key → Request
  -- the conflicts of an alternative with its parent
  Conflicts : ListOf ℕ → Request
  -- how far an alternative has gone from its base and from its parent
  Tally : ListOf ℕ → Request
  -- the number of free blocks
  Free : Request
  -- the number of blocks
  Blocks : Request
  -- a command for which the store may grow, to this many blocks at most
  Growing : ℕ → TheCommand → Request
  -- a merge of an alternative with these settlements, and with this side for each other conflict; the store may grow for it if a number
  -- of blocks is given, to that many
  MergeAll : Option ℕ → ListOf ℕ → Side → ListOf (Key × Side) → Request
  -- the line is none of the known ones, and this is wrong with it
  Bad : Mistake → Request
  -- the line is a command, but the store is only read
  Forbidden : Request
