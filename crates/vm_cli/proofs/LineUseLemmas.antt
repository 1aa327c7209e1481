-- What the lines of a session with batches are.
use Rattle.std.proofs.Common.{◌≡◌, ℕ, Bool, true, false, List, codes, length, nat_lt, if◌then◌else◌, None, ap, ◌∙◌, refl}
use Rattle.vm_types.specs.State.{State}
use Rattle.vm_types.specs.declared.command.Command.{Command}
use Rattle.vm_types.specs.declared.command.Command.TheVariants.{Commit, Rollback}
use Rattle.vm_store.specs.declared.store.Store.{Store}
use Rattle.vm_cli.specs.lines.Asking.{Request}
use Rattle.vm_cli.specs.lines.Input.{without_return}
use Rattle.vm_cli.specs.session.LineUses.{change_use, is_alone, use_of, use_of_command, use_of_request, use_of_words}
use Rattle.vm_cli.specs.lines.Requests.{asked_in, request_of}
use Rattle.vm_cli.specs.lines.Spaces.{words_of}
use Rattle.vm_cli.specs.session.Session.{Answered, Done}
use Rattle.vm_cli.specs.session.Session.Answered.{as_asked, too_long, wanting}
use Rattle.vm_cli.specs.declared.lines.line.TheConstants.{MAX_BYTES}
use Rattle.vm_cli.specs.declared.session.Manner.{Manner}
use Rattle.vm_cli.specs.declared.session.OnCommand.{OnCommand}
use Rattle.vm_cli.specs.declared.session.OnCommand.TheVariants.{CarryOut, GrowIfFull, Refuse}
use Rattle.vm_cli.specs.declared.session.line_use.LineUse.{LineUse}
use Rattle.vm_cli.specs.declared.session.line_use.LineUse.TheVariants as line
use Rattle.vm_cli.proofs.ReadOnlyLemmas.{request_none}
use Rattle.vm_cli.proofs.RequestLemmas.{is_reading, reads_alone}

-- a line is this, and not that
abbrev Is : LineUse → LineUse → Type 0
Is used found = used ≡ found

no_query : (on : OnCommand) → Is (change_use on) line.Query → ⊥
no_query Refuse is = cc
no_query CarryOut is = cc
no_query (GrowIfFull most) is = cc

command_no_query : (on : OnCommand) (command : Command) → Is (use_of_command on command) line.Query → ⊥
command_no_query on Commit is = cc
command_no_query on Rollback is = cc
command_no_query on command is = no_query on is

-- what is asked for by a line that is a query is no command
query_reads : (on : OnCommand) (request : Request) → Is (use_of_request on request) line.Query → is_reading request ≡ true
query_reads on (Request.Command command) is = absurd (command_no_query on command is)
query_reads on (Request.Growing most command) is = absurd (command_no_query on command is)
query_reads on (Request.MergeAll limit alt side settled) is = absurd (no_query on is)
query_reads on request is = refl

-- the first of two is not what a line is
pub other_use : (b : Bool) (first second found : LineUse) → Is (if b then first else second) found → (Is first found → ⊥) → Is second found
other_use true first second found is never = absurd (never is)
other_use false first second found is never = is

-- what is asked for by a line that is a query
query_request : (on : OnCommand) (part : List ℕ) → Is (use_of on part) line.Query → is_reading (request_of (words_of (without_return part))) ≡ true
query_request on part is =
    let words = words_of (without_return part) in
    let asked = use_of_request on (request_of words) in
    let spoken = if is_alone (codes "abort") words then line.Abort else asked in
    let short : Is (use_of_words on words) line.Query = other_use (nat_lt MAX_BYTES (length part)) _ (use_of_words on words) line.Query is (λ e. cc) in
    let begun : Is spoken line.Query = other_use (is_alone (codes "begin") words) line.Begin spoken line.Query short (λ e. cc) in
    query_reads on (request_of words) (other_use (is_alone (codes "abort") words) line.Abort asked line.Query begun (λ e. cc))

-- a line that is a query carries out no command
pub query_none : {D : Type 0} {members : _} (old new : Store D members) (s : State) (on : Manner) (part text : List ℕ) (ends : Bool) (done : Done) → Is (use_of on.on_command part) line.Query
    → Answered old new s on part text ends done → done ≡ None
query_none old new s on part text ends done is (wanting nothing says) = nothing.none
query_none old new s on part text ends done is (too_long long nothing says) = nothing.none
query_none old new s on part text ends done is (as_asked short answered) =
    let asked = request_of (words_of (without_return part)) in
    let reads = query_request on.on_command part is in
    request_none old new s (asked_in on.on_command asked) text ends done (ap is_reading (reads_alone on.on_command asked reads) ∙ reads) answered
