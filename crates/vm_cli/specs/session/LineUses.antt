-- What a line is in a session with batches.
use Rattle.std.specs.Prelude.{◌≡◌, ◌⊎◌, ℕ, Bool, false, List, [], ◌∷◌, codes, length, nat_lt, if◌then◌else◌}
use Rattle.std.specs.Str.{bytes_eq}
use Rattle.vm_types.specs.declared.command.Command.{Command}
use Rattle.vm_types.specs.declared.command.Command.TheVariants.{Commit, Rollback}
use Rattle.vm_types.specs.declared.refusal.Refusal.TheVariants.{Memory}
use Rattle.vm_cli.specs.lines.Asking.{Request}
use Rattle.vm_cli.specs.lines.Input.{without_return}
use Rattle.vm_cli.specs.lines.Requests.{request_of}
use Rattle.vm_cli.specs.lines.Spaces.{words_of}
use Rattle.vm_cli.specs.declared.answers.reply.Reply.TheVariants as reply
use Rattle.vm_cli.specs.declared.lines.line.TheConstants.{MAX_BYTES}
use Rattle.vm_cli.specs.declared.session.OnCommand.{OnCommand}
use Rattle.vm_cli.specs.declared.session.OnCommand.TheVariants.{Refuse}
use Rattle.vm_cli.specs.declared.session.line_use.LineUse.{LineUse}
use Rattle.vm_cli.specs.declared.session.line_use.LineUse.TheVariants as line

-- a line that changes the store, if commands are not refused
abbrev pub change_use : OnCommand → LineUse
change_use Refuse = line.Refused reply.ReadOnly
change_use on = line.Change

-- a line that is this command
abbrev pub use_of_command : OnCommand → Command → LineUse
use_of_command on Commit = line.Commit
use_of_command on Rollback = line.Abort
use_of_command on command = change_use on

-- a line that asks for this
abbrev pub use_of_request : OnCommand → Request → LineUse
use_of_request on Request.Nothing = line.Nothing
use_of_request on (Request.Bad mistake) = line.Refused (reply.BadLine mistake)
use_of_request on (Request.Command command) = use_of_command on command
use_of_request on (Request.Growing most command) = use_of_command on command
use_of_request on (Request.MergeAll limit alt side settled) = change_use on
use_of_request on request = line.Query

-- this is the only word
abbrev pub is_alone : List ℕ → List (List ℕ) → Bool
is_alone word (first ∷ []) = bytes_eq first word
is_alone word words = false

-- a line of these words: `rollback` is the same as `abort`
abbrev pub use_of_words : OnCommand → List (List ℕ) → LineUse
use_of_words on words =
    if is_alone (codes "begin") words then line.Begin
    else (if is_alone (codes "abort") words then line.Abort else use_of_request on (request_of words))

-- a line
abbrev pub use_of : OnCommand → List ℕ → LineUse
use_of on bytes = if nat_lt MAX_BYTES (length bytes) then line.Refused reply.LongLine else use_of_words on (words_of (without_return bytes))

-- the line is refused since memory ran out
abbrev pub no_memory : LineUse
no_memory = line.Refused (reply.Refused Memory)

-- it is taken for this, or memory ran out
abbrev pub IsUse : OnCommand → List ℕ → LineUse → Type 0
IsUse on bytes was = (was ≡ no_memory) ⊎ (was ≡ use_of on bytes)

abbrev pub IsUseOfWords : OnCommand → List (List ℕ) → LineUse → Type 0
IsUseOfWords on words was = (was ≡ no_memory) ⊎ (was ≡ use_of_words on words)
