-- What a session promises: what each line is answered, and what the store is after it.
use Rattle.std.specs.Prelude.{◌≡◌, ◌≢◌, ◌⊎◌, ◌||◌, ◌+◌, ◌<◌, ◌≤◌, ◌*◌, ◌/◌, ℕ, zero, suc, Bool, true, false, List, [], ◌∷◌, ◌++◌, Option, Some, None, Result, Ok, Err, IfSome, flat_map, if◌then◌else◌, length, nat_le}
use Rattle.std.specs.Io.KnownBytes.{Appends}
use Rattle.vm_types.specs.declared.answer.Answer.{Answer}
use Rattle.vm_types.specs.declared.answer.Answer.TheVariants as answer
use Rattle.vm_types.specs.declared.command.Command.{Command}
use Rattle.vm_types.specs.declared.command.Command.TheVariants.{Grow, Merge}
use Rattle.vm_types.specs.declared.command.Side.{Side}
use Rattle.vm_types.specs.declared.change.Conflict.{Conflict}
use Rattle.vm_types.specs.declared.key.Key.{Key}
use Rattle.vm_types.specs.declared.refusal.Refusal.{Refusal}
use Rattle.vm_types.specs.declared.refusal.Refusal.TheVariants.{Device, Failed, Full, Memory}
use Rattle.vm_types.specs.Shape.{shape}
use Rattle.vm_types.specs.State.{State, after, next}
use Rattle.vm_disk.specs.Moments.{OnlyReads}
use Rattle.vm_types.specs.Queries.{IsListing, changes_in, checkpoints_in, conflicts_in}
use Rattle.vm_types.specs.Versions.{delta_at, map_at, value_at}
use Rattle.vm_store.specs.Answers.{IsDueOrDevice, IsDueOrWanting}
use Rattle.vm_store.specs.Rest.{spare_of}
use Rattle.vm_store.specs.Commands.{CarriesOut}
use Rattle.vm_store.specs.Parts.{diff_at, from_at, part_at}
use Rattle.vm_store.specs.Shared.{blocks_at, blocks_of_page, blocks_of_part, unshared_at, unshared_of, unshared_on_sides, unshared_part}
use Rattle.vm_store.specs.Store.{GrowsOn, Holds, IsSameButDisk, ReadsAtMost, blocks_of, free_of, has_failed, disk_of}
use Rattle.vm_store.specs.Tallies.{tally_in}
use Rattle.vm_store.specs.declared.store.Store.{Store}
use Rattle.vm_store.specs.declared.tally.Tally.{Tally}
use Rattle.vm_cli.specs.declared.lines.line.TheConstants.{MAX_BYTES}
use Rattle.vm_cli.specs.answers.Carried.{WritesStart}
use Rattle.vm_cli.specs.session.Known.{SessionStreams, Written}
use Rattle.vm_cli.specs.lines.Lines.{lines_of}
use Rattle.vm_cli.specs.answers.Listings.{alternative_text, change_text, checkpoint_text, conflict_text, record_text}
use Rattle.vm_cli.specs.lines.Input.{without_return}
use Rattle.vm_cli.specs.answers.Replies.{found_text, is_error, reply_text}
use Rattle.vm_cli.specs.lines.Requests.{asked_in, request_of}
use Rattle.vm_cli.specs.lines.Settlements.{for_all}
use Rattle.vm_cli.specs.lines.Spaces.{words_of}
use Rattle.vm_cli.specs.declared.answers.reply.Reply.TheVariants as reply
use Rattle.vm_cli.specs.lines.Asking.{Request}
use Rattle.vm_cli.specs.declared.session.Manner.{Manner}
use Rattle.vm_cli.specs.declared.session.growth.TheConstants.{GROWTHS}
use Rattle.vm_cli.specs.declared.session.OnRefusal.TheVariants.{Stop}
use Rattle.vm_cli.specs.declared.session.ServeFault.{ServeFault}
use Rattle.vm_cli.specs.declared.session.ServeFault.TheVariants as fault

-- the line of a refusal
abbrev pub error_text : Refusal → List ℕ
error_text refusal = reply_text (reply.Refused refusal)

-- the line of a command's answer
abbrev pub answer_text : Result Answer Refusal → List ℕ
answer_text (Ok answer.Done) = reply_text reply.Done
answer_text (Ok (answer.Merged changes)) = reply_text (reply.Merged changes)
answer_text (Err refusal) = error_text refusal

-- the line of a record's value, or of the refusal
abbrev pub value_line : Result (Option (List ℕ)) Refusal → List ℕ
value_line (Ok value) = found_text value
value_line (Err refusal) = error_text refusal

-- the line of a tally, or of the refusal
abbrev pub tally_line : Result Tally Refusal → List ℕ
tally_line (Ok tally) = reply_text (reply.Tally tally)
tally_line (Err refusal) = error_text refusal

-- the lines of a list, and its end with their number
abbrev pub list_text : {X : Type 0} → (X → List ℕ) → List X → List ℕ
list_text line list = flat_map line list ++ reply_text (reply.End (length list))

-- the lines of a list, or of the refusal
abbrev pub list_lines : {X : Type 0} → (X → List ℕ) → Result (List X) Refusal → List ℕ
list_lines line (Ok list) = list_text line list
list_lines line (Err refusal) = error_text refusal

-- the text is that of an answer to a query by a store that had not failed: it is Device only if `Fails`, it is never Failed, and
-- `IsDue` holds of it
pub record SaysAnswer {T : Type 0} (Fails : Type 0) (text_of : Result T Refusal → List ℕ) (IsDue : Result T Refusal → Type 0) (text : List ℕ) : Type 0 where
  pub answer : Result T Refusal
  pub says : text ≡ text_of answer
  pub device : answer ≡ Err Device → Fails
  pub only_then : answer ≢ Err Failed
  pub due : IsDue answer

-- what a store that had failed answers, and whether the session ends with it
abbrev pub SaysFailed : Request → List ℕ → Bool → Type 0
SaysFailed Request.Nothing text ends = (text ≡ []) × (ends ≡ false)
SaysFailed (Request.Bad mistake) text ends = (text ≡ reply_text (reply.BadLine mistake)) × (ends ≡ false)
SaysFailed Request.Forbidden text ends = (text ≡ reply_text reply.ReadOnly) × (ends ≡ false)
SaysFailed request text ends = (text ≡ error_text Failed) × (ends ≡ true)

-- the commands that a line was, each with its answer, in the order in which they were carried out; or that it was none
abbrev pub Done : Type 0
Done = Option (List (Command × Result Answer Refusal))

-- the state after commands
abbrev pub after_each : State → List (Command × Result Answer Refusal) → State
after_each s [] = s
after_each s ((command, answer) ∷ more) = after_each (next s command answer) more

-- these commands in front of later ones
abbrev pub each_command : List (Command × Result Answer Refusal) → List Command → List Command
each_command [] commands = commands
each_command ((command, answer) ∷ more) commands = command ∷ each_command more commands

-- their answers in front of later ones
abbrev pub each_answer : List (Command × Result Answer Refusal) → List (Result Answer Refusal) → List (Result Answer Refusal)
each_answer [] answers = answers
each_answer ((command, answer) ∷ more) answers = answer ∷ each_answer more answers

-- the state after a line, which only commands change
abbrev pub after_line : State → Done → State
after_line s None = s
after_line s (Some each) = after_each s each

-- the commands that a line was, if it was any, in front of later ones
abbrev pub with_command : Done → List Command → List Command
with_command None commands = commands
with_command (Some each) commands = each_command each commands

-- their answers in front of later ones
abbrev pub with_answer : Done → List (Result Answer Refusal) → List (Result Answer Refusal)
with_answer None answers = answers
with_answer (Some each) answers = each_answer each answers

-- the blocks of a store that grows: twice as many as it has, but no more than the most
abbrev pub larger : ℕ → ℕ → ℕ
larger most blocks = if nat_le blocks (most / 2) then blocks * 2 else most

module _ {D : Type 0} {members : _} where
  -- a device call failed on the way from the one store to the other
  abbrev pub Failing : Store D members → Store D members → Type 0
  Failing old new = (members.state (disk_of old)).failures < (members.state (disk_of new)).failures

  -- if the store had not failed before and has now, a device call failed on the way
  abbrev pub FailsByDevice : Store D members → Store D members → Type 0
  FailsByDevice old new = has_failed old ≡ false → has_failed new ≡ true → Failing old new

  -- bytes of a session end it with this fault: they could not be answered, or a line was refused, or the store failed, as a device call did
  abbrev pub EndsBy : Store D members → Store D members → ServeFault → Type 0
  EndsBy old new fault.Read = ⊥
  EndsBy old new fault.Write = Unit {0}
  EndsBy old new fault.Refused = Unit {0}
  EndsBy old new fault.Unsure = Unit {0}
  EndsBy old new fault.Store = (has_failed new ≡ true) × Failing old new

  -- a session that ends with Store does so since the store failed, as a device call did
  abbrev pub StoreFails : Store D members → Store D members → ServeFault → Type 0
  StoreFails old new why = why ≡ fault.Store → (has_failed new ≡ true) × Failing old new

  -- the store stood for this state before, and its disk is honest after: as long as that is so, each step keeps what it promises
  pub record Stood (old new : Store D members) (s : State) : Type 0 where
    pub honest : (members.state (disk_of new)).honest ≡ true
    pub holds : Holds old s

  -- what a line did on any disk, and what it asked of the device: any but a command left the number of blocks, changed nothing of the
  -- store but its disk, and, if the disk is honest after it, only read
  pub record Passes (old new : Store D members) (done : Done) : Type 0 where
    pub goes : GrowsOn ⊥ old new
    pub as_long : done ≡ None → (members.state (disk_of new)).blocks ≡ (members.state (disk_of old)).blocks
    pub reads : (members.state (disk_of new)).honest ≡ true → done ≡ None → OnlyReads (members.state (disk_of old)) (members.state (disk_of new))
    pub unchanged : done ≡ None → IsSameButDisk old new

  -- calls led to a store that has not failed, and in a command it failed then
  abbrev pub FailsInLast : Store D members → Store D members → Type 0
  FailsInLast old new =
      (mid : Store D members) × (command : Command) × GrowsOn ⊥ old mid × (has_failed mid ≡ false) × CarriesOut mid new command (Err Device)

  -- the store failed in a command, the last one of a line, and a crash at any moment of it leaves what was committed before it, or what it
  -- commits; or it had failed before, and was left as it was
  abbrev pub Stops : Store D members → Store D members → Type 0
  Stops old new =
      ((has_failed old ≡ false) × FailsInLast old new)
      ⊎ ((has_failed old ≡ true) × (new ≡ old))

  -- the number of blocks that are not held is answered; if the store stands for the state, all of them are spare
  abbrev pub SaysFree : Store D members → State → List ℕ → Type 0
  SaysFree store s text = (text ≡ reply_text (reply.Free (free_of store))) × ((holds : Holds store s) → free_of store ≤ spare_of holds.rests)

  -- the number of blocks is answered, which is that of the state for which the store stands
  abbrev pub SaysBlocks : Store D members → State → List ℕ → Type 0
  SaysBlocks store s text = (text ≡ reply_text (reply.Blocks (blocks_of store))) × (Holds store s → blocks_of store ≡ s.blocks)

  -- the text of the answer to a query that reads: on any disk it is Device only if a device call failed, and never Failed; and it is
  -- due if the store stood for the state and the disk is honest after it
  abbrev pub SaysRead : {T : Type 0} → Store D members → Store D members → State → (Result T Refusal → List ℕ) → (Result T Refusal → Type 0) → List ℕ → Type 0
  SaysRead old new s text_of IsDue text = SaysAnswer (Failing old new) text_of (λ answer. Stood old new s → IsDue answer) text

  -- the text of the answer to a query for a list that makes no device call and leaves the store as it was, on any disk: it is never Device
  -- nor Failed, and due if the store stood for the state
  abbrev pub SaysNames : {X : Type 0} → Store D members → Store D members → State → (X → List ℕ) → Result (List X) Refusal → List ℕ → Type 0
  SaysNames old new s line due text = (new ≡ old) × SaysAnswer ⊥ (list_lines line) (λ answer. Holds old s → IsListing answer due) text

  -- the text of the answer to what is no command. Any but those that read leave the store as it was, on any disk
  abbrev pub Says : Store D members → Store D members → State → Request → List ℕ → Type 0
  Says old new s (Request.Get at key) text = SaysRead old new s value_line (λ answer. IsDueOrDevice answer (value_at s.working at key)) text
  Says old new s (Request.List at) text =
      SaysRead old new s (list_lines (λ (r : Key × List ℕ). record_text r.0 r.1)) (λ answer. IsListing answer (map_at s.working at)) text
  Says old new s (Request.Part at low high) text =
      SaysRead old new s (list_lines (λ (r : Key × List ℕ). record_text r.0 r.1)) (λ answer. IsListing answer (part_at s.working at low high)) text
  Says old new s (Request.Page at low count) text =
      SaysRead old new s (list_lines (λ (r : Key × List ℕ). record_text r.0 r.1)) (λ answer. IsListing answer (from_at s.working at low count)) text
  Says old new s (Request.Changes alt) text = SaysRead old new s (list_lines change_text) (λ answer. IsListing answer (changes_in s.working alt)) text
  Says old new s (Request.Diff first second) text =
      SaysRead old new s (list_lines change_text) (λ answer. IsListing answer (delta_at s.working first second)) text
  Says old new s (Request.DiffPart first second low high) text =
      SaysRead old new s (list_lines change_text) (λ answer. IsListing answer (diff_at s.working first second low high)) text
  Says old new s (Request.Conflicts alt) text =
      SaysRead old new s (list_lines conflict_text) (λ answer. IsListing answer (conflicts_in s.working alt)) text
  Says old new s (Request.Tally alt) text = SaysRead old new s tally_line (λ answer. IsDueOrWanting answer (tally_in s.working alt)) text
  Says old new s Request.Alternatives text =
      SaysNames old new s (λ (a : List ℕ × Option (List ℕ)). alternative_text a.0 a.1) (Ok (shape s.working)) text
  Says old new s (Request.Checkpoints alt) text = SaysNames old new s checkpoint_text (checkpoints_in s.working alt) text
  Says old new s Request.Free text = (new ≡ old) × SaysFree old s text
  Says old new s Request.Blocks text = (new ≡ old) × SaysBlocks old s text
  Says old new s Request.Nothing text = (new ≡ old) × (text ≡ [])
  Says old new s (Request.Bad mistake) text = (new ≡ old) × (text ≡ reply_text (reply.BadLine mistake))
  Says old new s Request.Forbidden text = (new ≡ old) × (text ≡ reply_text reply.ReadOnly)
  Says old new s (Request.Command command) text = ⊥
  Says old new s (Request.Growing most command) text = ⊥
  Says old new s (Request.MergeAll limit alt side settled) text = ⊥

  -- a list makes no more reads than the tree of its version has blocks, one of a part or a page no more than it has blocks with a record of
  -- that under them, and 8 more;
  -- a query for changes makes no more reads than there are blocks that only one of the base and the current tree of its alternative has,
  -- one for a difference no more than there are that only one of its two trees has, one for a part of it no more than there are of these
  -- with a record of the part under them, and 16 more, and one for conflicts or a tally no more than those of
  -- the changes and the blocks that only one of its base and its parent's current tree has
  abbrev pub ReadsFew : Store D members → Store D members → Request → Type 0
  ReadsFew old new (Request.List at) = ReadsAtMost old new (λ s holds. length (blocks_at holds.rests at))
  ReadsFew old new (Request.Part at low high) = ReadsAtMost old new (λ s holds. length (blocks_of_part holds.rests low high at) + 8)
  ReadsFew old new (Request.Page at low count) = ReadsAtMost old new (λ s holds. length (blocks_of_page holds.rests low count at) + 8)
  ReadsFew old new (Request.Changes alt) = ReadsAtMost old new (λ s holds. unshared_of holds.rests alt)
  ReadsFew old new (Request.Diff first second) = ReadsAtMost old new (λ s holds. unshared_at holds.rests first second)
  ReadsFew old new (Request.DiffPart first second low high) = ReadsAtMost old new (λ s holds. unshared_part holds.rests low high first second + 16)
  ReadsFew old new (Request.Conflicts alt) = ReadsAtMost old new (λ s holds. unshared_on_sides holds.rests alt)
  ReadsFew old new (Request.Tally alt) = ReadsAtMost old new (λ s holds. unshared_on_sides holds.rests alt)
  ReadsFew old new request = Unit {0}

  -- a command is answered as the store carried it out
  abbrev pub AnswersCommand : Store D members → Store D members → Command → List ℕ → Done → Type 0
  AnswersCommand old new command text (Some ((asked, answer) ∷ [])) = (asked ≡ command) × CarriesOut old new command answer × (text ≡ answer_text answer)
  AnswersCommand old new command text was = ⊥

  -- a command was answered Full by a store of fewer blocks than the most, and a Grow of it was answered so
  pub record GrowsFirst (most : ℕ) (command : Command) (old new : Store D members) (asked grow : Command) (answer grown : Result Answer Refusal) : Type 0 where
    pub full : Store D members
    pub same : asked ≡ command
    pub is_full : answer ≡ Err Full
    pub tried : CarriesOut old full command answer
    pub fewer : blocks_of full < most
    pub size : grow ≡ Grow (larger most (blocks_of full))
    pub carries : CarriesOut full new grow grown

  -- a command is carried out, and if it is answered Full the store grows and it is carried out again, this many times at most: the text is
  -- that of its last answer, which is Full only if the store has the most blocks that it may have, or has grown that many times; or that of the
  -- refusal of a Grow
  abbrev pub Tries : ℕ → ℕ → Command → Store D members → Store D members → List ℕ → List (Command × Result Answer Refusal) → Type 0
  Tries left most command old new text [] = ⊥
  Tries left most command old new text ((asked, answer) ∷ []) =
      (asked ≡ command) × CarriesOut old new command answer × (text ≡ answer_text answer) × (answer ≡ Err Full → (most ≤ blocks_of new) ⊎ (left ≡ 0))
  Tries zero most command old new text (first ∷ (second ∷ more)) = ⊥
  Tries (suc left) most command old new text ((asked, answer) ∷ ((grow, Err refusal) ∷ [])) =
      GrowsFirst most command old new asked grow answer (Err refusal) × (text ≡ error_text refusal)
  Tries (suc left) most command old new text ((asked, answer) ∷ ((grow, Err refusal) ∷ (other ∷ more))) = ⊥
  Tries (suc left) most command old new text ((asked, answer) ∷ ((grow, Ok done) ∷ more)) =
      (mid : Store D members) × GrowsFirst most command old mid asked grow answer (Ok done) × Tries left most command mid new text more

  -- a command for which the store may grow is answered so
  abbrev pub AnswersGrowing : Store D members → Store D members → ℕ → Command → List ℕ → Done → Type 0
  AnswersGrowing old new most command text None = ⊥
  AnswersGrowing old new most command text (Some each) = Tries GROWTHS most command old new text each

  -- a command is answered so, for which the store may grow if a number of blocks is given
  abbrev pub AnswersWithin : Option ℕ → Store D members → Store D members → Command → List ℕ → Done → Type 0
  AnswersWithin None old new command text done = AnswersCommand old new command text done
  AnswersWithin (Some most) old new command text done = AnswersGrowing old new most command text done

  -- a merge with a side for all conflicts is refused before it begins, but not since the device failed: they could not be told, or there was
  -- no memory for their settlements
  pub record RefusesMerge (old new : Store D members) (s : State) (alt text : List ℕ) : Type 0 where
    pub refusal : Refusal
    pub says : text ≡ error_text refusal
    pub no_device : refusal ≢ Device
    pub only_then : refusal ≢ Failed
    pub due : Stood old new s → IsListing (Err refusal) (conflicts_in s.working alt)

  -- the conflicts of an alternative were told, or the device failed in that and none is known; and with a settlement for each that is known
  -- a Merge of it was answered
  pub record SettlesAll (limit : Option ℕ) (old new : Store D members) (s : State) (alt : List ℕ) (side : Side) (settled : List (Key × Side)) (text : List ℕ) (each : List (Command × Result Answer Refusal)) : Type 0 where
    pub mid : Store D members
    pub conflicts : List Conflict
    pub asks : Passes old mid None
    pub still : has_failed mid ≡ has_failed old
    pub told : (Stood old mid s → conflicts_in s.working alt ≡ Ok conflicts) ⊎ (Failing old mid × (conflicts ≡ []))
    pub merges : AnswersWithin limit mid new (Merge alt (for_all side settled conflicts)) text (Some each)

  -- a merge with a side for all conflicts is answered so
  abbrev pub AnswersMerge : Option ℕ → Store D members → Store D members → State → List ℕ → Side → List (Key × Side) → List ℕ → Done → Type 0
  AnswersMerge limit old new s alt side settled text None = (has_failed new ≡ false) × RefusesMerge old new s alt text
  AnswersMerge limit old new s alt side settled text (Some each) = SettlesAll limit old new s alt side settled text each

  -- what a request is answered by a store that had not failed: no query makes it fail
  abbrev pub Meets : Store D members → Store D members → State → Request → List ℕ → Done → Type 0
  Meets old new s (Request.Command command) text done = AnswersCommand old new command text done
  Meets old new s (Request.Growing most command) text done = AnswersGrowing old new most command text done
  Meets old new s (Request.MergeAll limit alt side settled) text done = AnswersMerge limit old new s alt side settled text done
  Meets old new s query text done = (done ≡ None) × (has_failed new ≡ false) × Says old new s query text × ReadsFew old new query

  -- a request is answered
  pub data AnsweredRequest (old new : Store D members) (s : State) (request : Request) (text : List ℕ) (ends : Bool) (done : Done) : Type 0 where
    -- by a store that had not failed: the session ends with it if the device fails in a command
    met : has_failed old ≡ false → ends ≡ has_failed new → Meets old new s request text done → AnsweredRequest old new s request text ends done
    -- by one that had, which is left as it was
    had_failed : has_failed old ≡ true → new ≡ old → done ≡ None → SaysFailed request text ends → AnsweredRequest old new s request text ends done

  -- a line was no command, left the store as it was, and ends no session
  pub record DoesNothing (old new : Store D members) (ends : Bool) (done : Done) : Type 0 where
    pub same : new ≡ old
    pub none : done ≡ None
    pub goes_on : ends ≡ false

  -- a line is answered in a session of this manner
  pub data Answered (old new : Store D members) (s : State) (on : Manner) (line text : List ℕ) (ends : Bool) (done : Done) : Type 0 where
    -- that memory ran out
    wanting : DoesNothing old new ends done → text ≡ error_text Memory → Answered old new s on line text ends done
    -- as too long if it has more than 1,048,576 bytes
    too_long : MAX_BYTES < length line → DoesNothing old new ends done → text ≡ reply_text reply.LongLine → Answered old new s on line text ends done
    -- or else as its words ask
    as_asked : length line ≤ MAX_BYTES → AnsweredRequest old new s (asked_in on.on_command (request_of (words_of (without_return line)))) text ends done
        → Answered old new s on line text ends done

  -- something was answered so: a store that hasn't failed stands for what is left, if it stood for the state before and the disk is
  -- honest after it; and it fails only if the session ends
  pub record Handled (old new : Store D members) (s : State) (ends : Bool) (IsAnswer : Done → Type 0) : Type 0 where
    pub done : Done
    pub answers : IsAnswer done
    pub passes : Passes old new done
    pub still : ends ≡ false → has_failed new ≡ has_failed old
    pub holds : Stood old new s → has_failed new ≡ false → Holds new (after_line s done)

  -- a line was answered so
  abbrev pub HandlesLine : Store D members → Store D members → State → Manner → List ℕ → List ℕ → Bool → Type 0
  HandlesLine old new s on line text ends = Handled old new s ends (Answered old new s on line text ends)

  -- no line was answered
  pub record AnswersNone (old new : Store D members) (text : List ℕ) (commands : List Command) (answers : List (Result Answer Refusal)) (refused : Bool) : Type 0 where
    pub same : new ≡ old
    pub silent : text ≡ []
    pub no_commands : commands ≡ []
    pub no_answers : answers ≡ []
    pub fine : refused ≡ false

  -- a line was answered, which ends no session, and then others were, by the store that it left, as `AreOthers` tells: their texts joined,
  -- the commands among the lines with their answers, and whether a line was refused
  pub record AnswersNext (AreOthers : Store D members → State → List ℕ → List Command → List (Result Answer Refusal) → Bool → Type 0)
      (old : Store D members) (s : State) (on : Manner) (line text : List ℕ) (commands : List Command) (answers : List (Result Answer Refusal)) (refused : Bool) : Type 0 where
    pub mid : Store D members
    pub first : List ℕ
    pub rest : List ℕ
    pub later : List Command
    pub others : List (Result Answer Refusal)
    pub again : Bool
    pub step : HandlesLine old mid s on line first false
    pub texts : text ≡ first ++ rest
    pub carried : commands ≡ with_command step.done later
    pub given : answers ≡ with_answer step.done others
    pub told : refused ≡ (is_error first || again)
    pub more : AreOthers mid (after_line s step.done) rest later others again

  -- lines are answered one after another
  abbrev pub AnswersEach : Store D members → Store D members → State → Manner → List (List ℕ) → List ℕ → List Command → List (Result Answer Refusal) → Bool → Type 0
  AnswersEach old new s on [] text commands answers refused = AnswersNone old new text commands answers refused
  AnswersEach old new s on (line ∷ lines) text commands answers refused =
      AnswersNext (λ mid t rest later others again. AnswersEach mid new t on lines rest later others again) old s on line text commands answers refused

  -- lines were answered so, and the store, if it hasn't failed, stands for what their commands leave, if it stood for the state before
  -- and the disk is honest after them. If a refusal is to end the session, none of them was refused
  pub record HasAnswered (old new : Store D members) (s : State) (on : Manner) (lines : List (List ℕ)) (text : List ℕ) : Type 0 where
    pub commands : List Command
    pub answers : List (Result Answer Refusal)
    pub refused : Bool
    pub each : AnswersEach old new s on lines text commands answers refused
    pub goes_on : on.on_refusal ≡ Stop → refused ≡ false
    pub still : has_failed new ≡ has_failed old
    pub holds : Stood old new s → has_failed new ≡ false → Holds new (after s commands answers)

  -- a session over all these lines that ended with one of them: those before it were answered, then it was, and no other. If its
  -- answer ends the session, the store failed in it, from the state that the answers before it leave, or had failed before
  pub record EndsSession (old new : Store D members) (s : State) (on : Manner) (ends : Bool) (all : List (List ℕ)) (text : List ℕ) : Type 0 where
    pub mid : Store D members
    pub lines : List (List ℕ)
    pub line : List ℕ
    pub others : List (List ℕ)
    pub earlier : List ℕ
    pub last : List ℕ
    pub cut : all ≡ lines ++ line ∷ others
    pub texts : text ≡ earlier ++ last
    pub answered : HasAnswered old mid s on lines earlier
    pub handled : HandlesLine mid new (after s answered.commands answered.answers) on line last ends
    pub stops : ends ≡ true → Stops mid new

  -- all these lines were answered, and it is said whether one was refused
  pub record AnswersAll (old new : Store D members) (s : State) (on : Manner) (refused : Bool) (all : List (List ℕ)) (output : Written) : Type 0 where
    pub text : List ℕ
    pub answered : HasAnswered old new s on all text
    pub told : refused ≡ answered.refused
    pub written : Appends output.before output.after text

  -- the first of these lines were answered
  pub record AnswersFirst (old new : Store D members) (s : State) (on : Manner) (all : List (List ℕ)) (output : Written) : Type 0 where
    pub text : List ℕ
    pub lines : List (List ℕ)
    pub others : List (List ℕ)
    pub cut : all ≡ lines ++ others
    pub answered : HasAnswered old new s on lines text
    pub written : Appends output.before output.after text

  -- the answer to one of these lines ended the session
  pub record EndsFailed (old new : Store D members) (s : State) (on : Manner) (all : List (List ℕ)) (output : Written) : Type 0 where
    pub text : List ℕ
    pub ended : EndsSession old new s on true all text
    pub written : Appends output.before output.after text

  -- one of these lines was refused, which was to end the session
  pub record EndsRefused (old new : Store D members) (s : State) (on : Manner) (all : List (List ℕ)) (output : Written) : Type 0 where
    pub text : List ℕ
    pub ended : EndsSession old new s on false all text
    pub refused : is_error ended.last ≡ true
    pub stop : on.on_refusal ≡ Stop
    pub written : Appends output.before output.after text

  -- the writer failed in the answer to one of these lines, and only a beginning of the texts was written
  pub record EndsUnwritten (old new : Store D members) (s : State) (on : Manner) (all : List (List ℕ)) (output : Written) : Type 0 where
    pub text : List ℕ
    pub ends : Bool
    pub ended : EndsSession old new s on ends all text
    pub begun : WritesStart output.before output.after text

  -- a session over all these lines came to this end
  abbrev pub ServesLines : Store D members → Store D members → State → Manner → Result Bool ServeFault → Written → List (List ℕ) → Type 0
  ServesLines old new s on (Ok refused) output all = AnswersAll old new s on refused all output
  ServesLines old new s on (Err fault.Read) output all = AnswersFirst old new s on all output
  ServesLines old new s on (Err fault.Store) output all = EndsFailed old new s on all output
  ServesLines old new s on (Err fault.Refused) output all = EndsRefused old new s on all output
  ServesLines old new s on (Err fault.Write) output all = EndsUnwritten old new s on all output
  ServesLines old new s on (Err fault.Unsure) output all = ⊥

  -- a session over some input, which is what the reader had to give, if that is known
  pub record Serves (old new : Store D members) (s : State) (on : Manner) (result : Result Bool ServeFault) (known : SessionStreams) : Type 0 where
    pub input : List ℕ
    pub own : IfSome known.input (λ bytes. bytes ≡ input)
    pub served : ServesLines old new s on result known.output (lines_of input)
