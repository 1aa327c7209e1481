-- How a session goes on inside: answers that are written in part, and bytes that are fed to it.
use Rattle.std.specs.Prelude.{◌≡◌, ◌≢◌, ◌+◌, ◌≤◌, ℕ, Bool, true, false, List, [], ◌++◌, Option, Result, Ok, Err, IfErr, IfOk, OnErr, OnOk, flat_map, length}
use Rattle.std.specs.Io.KnownBytes.{Appends, IsAtEnd}
use Rattle.vm_types.specs.State.{State}
use Rattle.vm_types.specs.declared.answer.Answer.{Answer}
use Rattle.vm_types.specs.declared.command.Command.{Command}
use Rattle.vm_types.specs.declared.refusal.Refusal.{Refusal}
use Rattle.vm_types.specs.declared.refusal.Refusal.TheVariants.{Device, Failed, Memory}
use Rattle.vm_store.specs.declared.store.Store.{Store}
use Rattle.vm_cli.specs.declared.answers.text.TheConstants.Text.{MAX_LEN}
use Rattle.vm_cli.specs.answers.Carried.{WritesStart, Carries}
use Rattle.vm_cli.specs.lines.Lines.{lines_of}
use Rattle.vm_cli.specs.answers.Replies.{ends_session, is_error, reply_text}
use Rattle.vm_store.specs.Store.{GoesOn, GrowsOn, has_failed}
use Rattle.vm_cli.specs.lines.Input.{HoldsLine}
use Rattle.vm_cli.specs.session.Known.{SessionStreams, Written, streams_of, written_to}
use Rattle.vm_cli.specs.session.Session.{AnsweredRequest, DoesNothing, Done, EndsBy, FailsByDevice, Handled, HandlesLine, HasAnswered, Serves, ServesLines, StoreFails, Tries, error_text}
use Rattle.vm_cli.specs.declared.lines.line.Line.{Line}
use Rattle.vm_cli.specs.declared.answers.reply.Reply.{Reply}
use Rattle.vm_cli.specs.declared.answers.reply.Reply.TheVariants.{End}
use Rattle.vm_cli.specs.lines.Asking.{Request}
use Rattle.vm_cli.specs.declared.session.Manner.{Manner}
use Rattle.vm_cli.specs.declared.session.OnRefusal.TheVariants.{Stop}
use Rattle.vm_cli.specs.declared.session.ServeFault.{ServeFault}
use Rattle.vm_cli.specs.declared.session.Session.{Session}
use Rattle.vm_cli.specs.declared.session.ServeFault.TheVariants as fault
use Rattle.vm_cli.specs.declared.answers.output.WriteFault.{WriteFault}

-- an answer ends with this reply, and what stands before the reply was written, except for the rest, which is still to be.
-- `IsAnswer` says of a text, and of whether the session ends with it, that it is the answer. The answer is a refusal exactly if the reply is
pub record Replied (IsAnswer : List ℕ → Bool → Type 0) (reply : Reply) (output : Written) (rest : List ℕ) : Type 0 where
  pub whole : List ℕ
  pub says : IsAnswer (whole ++ reply_text reply) (ends_session reply)
  pub tells : is_error (whole ++ reply_text reply) ≡ is_error (reply_text reply)
  pub carries : Carries output.before output.after rest whole

-- the writer failed after the beginning of an answer
pub record Halted (IsAnswer : List ℕ → Bool → Type 0) (output : Written) : Type 0 where
  pub whole : List ℕ
  pub ends : Bool
  pub says : IsAnswer whole ends
  pub begins : WritesStart output.before output.after whole

-- what a call that gives a reply wrote, by its result: it fails only if the writer does
abbrev pub Replies : (List ℕ → Bool → Type 0) → Result Reply WriteFault → Written → List ℕ → Type 0
Replies IsAnswer (Ok reply) output rest = Replied IsAnswer reply output rest
Replies IsAnswer (Err fault) output rest = Halted IsAnswer output

-- the reply says why there is no answer, and ends the session exactly if the store had failed before
pub record Refuses (refusal : Refusal) (reply : Reply) : Type 0 where
  pub text : reply_text reply ≡ error_text refusal
  pub last : refusal ≢ Failed → ends_session reply ≡ false
  pub failed : refusal ≡ Failed → ends_session reply ≡ true

-- lines, one after another
abbrev pub joined : List (List ℕ) → List ℕ
joined lines = flat_map (λ line. line) lines

-- a list is answered by its lines and its end, and the rest of the lines is still to be written
pub record RepliesWithLines (lines : List (List ℕ)) (reply : Reply) (output : Written) (rest : List ℕ) : Type 0 where
  pub end : reply ≡ End (length lines)
  pub carries : Carries output.before output.after rest (joined lines)

-- the reply says why there is no list, and stands alone: nothing was written before it, and nothing is still to be
pub record RepliesWithoutList (refusal : Refusal) (reply : Reply) (output : Written) (rest : List ℕ) : Type 0 where
  pub refuses : Refuses refusal reply
  pub unwritten : output.after ≡ output.before
  pub alone : rest ≡ []

-- a query for a list is answered by the lines of the list, or by why there is none; if the writer failed, a beginning of the lines was
-- written
abbrev pub RepliesWithList : {T : Type 0} → (T → List (List ℕ)) → Result T Refusal → Result Reply WriteFault → Written → List ℕ → Type 0
RepliesWithList lines (Ok list) (Ok reply) output rest = RepliesWithLines (lines list) reply output rest
RepliesWithList lines (Ok list) (Err fault) output rest = WritesStart output.before output.after (joined (lines list))
RepliesWithList lines (Err refusal) (Ok reply) output rest = RepliesWithoutList refusal reply output rest
RepliesWithList lines (Err refusal) (Err fault) output rest = ⊥

-- an answer was written whole, and the session goes on: this says whether a line was refused
pub record WritesOn (on : Manner) (IsAnswer : List ℕ → Bool → Type 0) (refused : Bool) (output : Written) : Type 0 where
  pub text : List ℕ
  pub says : IsAnswer text false
  pub told : refused ≡ is_error text
  pub goes_on : on.on_refusal ≡ Stop → refused ≡ false
  pub written : Appends output.before output.after text

-- an answer was written whole, which ends the session
pub record WritesLast (IsAnswer : List ℕ → Bool → Type 0) (output : Written) : Type 0 where
  pub text : List ℕ
  pub says : IsAnswer text true
  pub written : Appends output.before output.after text

-- an answer was written whole, that a line was refused, which is to end the session
pub record WritesRefusal (on : Manner) (IsAnswer : List ℕ → Bool → Type 0) (output : Written) : Type 0 where
  pub text : List ℕ
  pub says : IsAnswer text false
  pub refused : is_error text ≡ true
  pub stop : on.on_refusal ≡ Stop
  pub written : Appends output.before output.after text

-- what a call that answers wrote, by its result
abbrev pub Writes : Manner → (List ℕ → Bool → Type 0) → Result Bool ServeFault → Written → Type 0
Writes on IsAnswer (Ok refused) output = WritesOn on IsAnswer refused output
Writes on IsAnswer (Err fault.Read) output = ⊥
Writes on IsAnswer (Err fault.Unsure) output = ⊥
Writes on IsAnswer (Err fault.Store) output = WritesLast IsAnswer output
Writes on IsAnswer (Err fault.Refused) output = WritesRefusal on IsAnswer output
Writes on IsAnswer (Err fault.Write) output = Halted IsAnswer output

-- a chunk of the input: its bytes, and what is held of a line before it and after it
pub record Chunk : Type 0 where
  pub line_before : List ℕ
  pub bytes : List ℕ
  pub line_after : List ℕ

abbrev pub chunk : List ℕ → List ℕ → List ℕ → Chunk
chunk line_before bytes line_after = record { line_before = line_before; bytes = bytes; line_after = line_after }

module _ {D : Type 0} {members : _} where
  -- a request was answered so
  abbrev pub HandlesRequest : Store D members → Store D members → State → Request → List ℕ → Bool → Type 0
  HandlesRequest old new s request text ends = Handled old new s ends (AnsweredRequest old new s request text ends)

  -- what a request is answered for which memory may run out
  pub data AnsweredOrWanting (old new : Store D members) (s : State) (request : Request) (text : List ℕ) (ends : Bool) (done : Done) : Type 0 where
    -- that memory ran out
    out_of_memory : DoesNothing old new ends done → text ≡ error_text Memory → AnsweredOrWanting old new s request text ends done
    -- or else what it asks for
    request_answered : AnsweredRequest old new s request text ends done → AnsweredOrWanting old new s request text ends done

  -- a request was answered, or memory ran out
  abbrev pub HandlesOrWants : Store D members → Store D members → State → Request → List ℕ → Bool → Type 0
  HandlesOrWants old new s request text ends = Handled old new s ends (AnsweredOrWanting old new s request text ends)

  -- a chunk was fed: the lines that end in it were answered, and it is said whether one was refused
  pub record Fed (old new : Store D members) (s : State) (on : Manner) (refused : Bool) (chunk : Chunk) (output : Written) : Type 0 where
    pub lines : List (List ℕ)
    pub text : List ℕ
    pub cut : (more : List ℕ) → lines_of (chunk.line_before ++ (chunk.bytes ++ more)) ≡ lines ++ lines_of (chunk.line_after ++ more)
    pub answered : HasAnswered old new s on lines text
    pub told : refused ≡ answered.refused
    pub written : Appends output.before output.after text

  -- a chunk of these bytes was fed to a session that held the start of a line, and this line is held then
  pub record FedUpTo (line : Line) (old new : Store D members) (s : State) (on : Manner) (refused : Bool) (start bytes : List ℕ)
      (output : Written) : Type 0 where
    pub to : List ℕ
    pub held : HoldsLine line to
    pub fed : Fed old new s on refused (chunk start bytes to) output

  -- a command was carried out, and the store grew if that was needed: these are the commands, each with its answer
  pub record TriesSome (left most : ℕ) (command : Command) (old new : Store D members) (text : List ℕ) : Type 0 where
    pub each : List (Command × Result Answer Refusal)
    pub tries : Tries left most command old new text each

  -- for each state, the request is answered by this reply
  abbrev pub AnswersBy : Request → Reply → Store D members → Store D members → Type 0
  AnswersBy request reply old new = (s : State) → HandlesRequest old new s request (reply_text reply) (ends_session reply)

  -- for each state, the request is answered by what the text has and this reply
  abbrev pub AnswersWith : Request → Reply → List ℕ → Store D members → Store D members → Type 0
  AnswersWith request reply text old new = (s : State) → HandlesRequest old new s request (text ++ reply_text reply) (ends_session reply)

  -- on any disk the reply ends the session exactly if the store fails in it, which only a failed device call brings about; a store
  -- that had failed is left as it was
  pub record EndsIfFailed (result : Result Reply WriteFault) (old new : Store D members) : Type 0 where
    pub goes : GrowsOn ⊥ old new
    pub last : has_failed old ≡ false → IfOk result (λ reply. ends_session reply ≡ has_failed new)
    pub failing : FailsByDevice old new
    pub left : has_failed old ≡ true → new ≡ old

  -- a request is handled, and this reply is the answer
  pub record AsksBy (request : Request) (reply : Reply) (old new : Store D members) : Type 0 where
    pub store : EndsIfFailed (Ok reply) old new
    pub answers : AnswersBy request reply old new

  -- a command is carried out, for which the store may grow `left` times; one that had failed answers Failed
  pub record TriesBy (left most : ℕ) (command : Command) (reply : Reply) (old new : Store D members) : Type 0 where
    pub store : EndsIfFailed (Ok reply) old new
    pub refused : has_failed old ≡ true → (reply_text reply ≡ error_text Failed) × (ends_session reply ≡ true)
    pub tried : has_failed old ≡ false → TriesSome left most command old new (reply_text reply)

  -- on any disk the reply to a query ends no session, and the store fails in none; one that had failed is left as it was
  pub record NeverEnds (reply : Reply) (old new : Store D members) : Type 0 where
    pub goes : GoesOn ⊥ old new
    pub failed : has_failed new ≡ has_failed old
    pub last : has_failed old ≡ false → ends_session reply ≡ false
    pub left : has_failed old ≡ true → new ≡ old

  -- a query is handled, and this reply is the answer
  pub record QueriesBy (request : Request) (reply : Reply) (old new : Store D members) : Type 0 where
    pub store : NeverEnds reply old new
    pub answers : AnswersBy request reply old new

  -- a query is handled, and its answer is what the text has, which has room for a last line, and this reply. The answer is a refusal exactly
  -- if the reply is
  pub record QueriesWith (request : Request) (reply : Reply) (text : List ℕ) (old new : Store D members) : Type 0 where
    pub room : length text + 1024 ≤ MAX_LEN
    pub store : NeverEnds reply old new
    pub answers : AnswersWith request reply text old new
    pub tells : is_error (text ++ reply_text reply) ≡ is_error (reply_text reply)

  -- on any disk bytes of a session end it with Store only if the store failed in them, as a device call did; one that had failed is
  -- left as it was
  pub record FeedsOn (result : Result Bool ServeFault) (old new : Store D members) : Type 0 where
    pub goes : GrowsOn ⊥ old new
    pub ok : has_failed old ≡ false → OnOk result (has_failed new ≡ false)
    pub err : has_failed old ≡ false → IfErr result (EndsBy old new)
    pub failing : FailsByDevice old new
    pub left : has_failed old ≡ true → new ≡ old

  -- so does a whole session, which may also end since the reader failed
  pub record ServesOn (result : Result Bool ServeFault) (old new : Store D members) : Type 0 where
    pub goes : GrowsOn ⊥ old new
    pub ok : has_failed old ≡ false → OnOk result (has_failed new ≡ false)
    pub err : has_failed old ≡ false → IfErr result (StoreFails old new)
    pub left : has_failed old ≡ true → new ≡ old

-- a reply ends no session if a command was answered neither that the device failed nor that the store had
abbrev pub SessionGoesOn : Result Answer Refusal → Reply → Type 0
SessionGoesOn answer reply = answer ≢ Err Device → answer ≢ Err Failed → ends_session reply ≡ false

module _ {D : Type 0} {members : _} where
  -- for each state, a request is handled, and the rest of its answer, after which there is room for a last line, is still to be written
  pub record AsksInto (request : Request) (result : Result Reply WriteFault) (old new : Store D members) (output : Written)
      (rest : List ℕ) : Type 0 where
    pub room : OnOk result (length rest + 1024 ≤ MAX_LEN)
    pub store : EndsIfFailed result old new
    pub answers : (s : State) → Replies (HandlesOrWants old new s request) result output rest

  -- for each state, a session over what the reader has to give
  abbrev pub ServesEach : Manner → Result Bool ServeFault → Store D members → Store D members → SessionStreams → Type 0
  ServesEach on result old new known = (s : State) → Serves old new s on result known

module _ {D W : Type 0} {members : _} where
  -- a session goes on with the same store, writer and manner
  pub record Stays (old new : Session W D members) : Type 0 where
    pub store : new.store.ghost_name ≡ old.store.ghost_name
    pub writer : new.writer.ghost_name ≡ old.writer.ghost_name
    pub manner : new.manner ≡ old.manner

  -- what a session wrote in a call
  abbrev pub written_in : (W → Option (List ℕ)) → Session W D members → Session W D members → Written
  written_in contents old new = written_to contents old.writer.now new.writer.now

-- what a session did in a call, for each state, and the bytes of a line so far
module _ {D W : Type 0} {members : _} (contents : W → Option (List ℕ)) where
  -- a request is handled
  pub record Asks (request : Request) (result : Result Reply WriteFault) (old new : Session W D members) : Type 0 where
    pub same : Stays old new
    pub asks : AsksInto request result old.store.now new.store.now (written_in contents old new) new.text

  -- the line is handled, and the rest of its answer, after which there is room for a last line, is still to be written
  pub record RepliesToLine (on : Manner) (line : Line) (result : Result Reply WriteFault) (old new : Session W D members) : Type 0 where
    pub same : Stays old new
    pub room : OnOk result (length new.text + 1024 ≤ MAX_LEN)
    pub store : EndsIfFailed result old.store.now new.store.now
    pub answer : (s : State) → (part : List ℕ) → HoldsLine line part
        → Replies (HandlesLine old.store.now new.store.now s on part) result (written_in contents old new) new.text

  -- the line is handled, and its answer written
  pub record AnswersLine (on : Manner) (line : Line) (result : Result Bool ServeFault) (old new : Session W D members) : Type 0 where
    pub same : Stays old new
    pub store : FeedsOn result old.store.now new.store.now
    pub answer : (s : State) → (part : List ℕ) → HoldsLine line part
        → Writes on (HandlesLine old.store.now new.store.now s on part) result (written_in contents old new)

  -- these bytes are fed after the start of a line, and another line is held then; or a session over them and any more ends among them
  pub record FeedsLine (on : Manner) (bytes : List ℕ) (line line' : Line) (result : Result Bool ServeFault) (old new : Session W D members) : Type 0 where
    pub same : Stays old new
    pub store : FeedsOn result old.store.now new.store.now
    pub fed : (s : State) → (start : List ℕ) → HoldsLine line start
        → IfOk result (λ refused. FedUpTo line' old.store.now new.store.now s on refused start bytes (written_in contents old new))
    pub ended : (s : State) → (start : List ℕ) → HoldsLine line start → (more : List ℕ)
        → OnErr result (ServesLines old.store.now new.store.now s on result (written_in contents old new) (lines_of (start ++ (bytes ++ more))))

  -- the lines of the input are answered, as far as the session goes on: what the reader had to give, and has left, are these
  pub record RunsToEnd (on : Manner) (result : Result Bool ServeFault) (old new : Session W D members) (input left : Option (List ℕ)) : Type 0 where
    pub same : Stays old new
    pub end : OnOk result (IsAtEnd left)
    pub store : ServesOn result old.store.now new.store.now
    pub answers : ServesEach on result old.store.now new.store.now
        (streams_of input (contents old.writer.now) (contents new.writer.now))
