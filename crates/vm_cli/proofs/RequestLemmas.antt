-- How a request is handled.
use Rattle.std.proofs.Common.{◌≡◌, ◌≤◌, ◌+◌, ◌++◌, ℕ, Bool, List, [], Option, None, Result, Err, Ok, IfOk, OnOk, true, false, length, map, refl, sym, subst, ◌∙◌, arith}
use Rattle.vm_types.specs.State.{State}
use Rattle.vm_types.specs.declared.answer.Answer.{Answer}
use Rattle.vm_types.specs.declared.command.Command.{Command}
use Rattle.vm_types.specs.declared.refusal.Refusal.{Refusal}
use Rattle.vm_types.specs.declared.refusal.Refusal.TheVariants.{Device, Failed, Memory}
use Rattle.vm_types.specs.Queries.{IsListing}
use Rattle.vm_store.specs.Queries.{Queries}
use Rattle.vm_store.specs.Store.{has_failed}
use Rattle.vm_store.specs.declared.store.Store.{Store}
use Rattle.vm_cli.specs.lines.Asking.{Request}
use Rattle.vm_cli.specs.session.Feeds.{Asks, AsksBy, AsksInto, HandlesRequest, HandlesOrWants, QueriesBy, QueriesWith, Replies, RepliesWithList, Stays, SessionGoesOn, written_in}
use Rattle.vm_cli.specs.session.Known.{Written, between}
use Rattle.vm_cli.specs.answers.Replies.{ends_session, is_error, reply_text}
use Rattle.vm_cli.specs.lines.Requested.{list_for}
use Rattle.vm_cli.specs.lines.Requests.{asked_in}
use Rattle.vm_cli.specs.session.Session.{Failing, Meets, Passes, SaysAnswer, SaysFailed, Stood, answer_text, error_text, list_lines}
use Rattle.vm_cli.specs.declared.lines.list_query.ListQuery.{ListQuery}
use Rattle.vm_cli.specs.declared.lines.list_query.ListQuery.TheVariants as listed
use Rattle.vm_cli.specs.declared.lines.mistake.Mistake.{Mistake}
use Rattle.vm_cli.specs.declared.session.OnCommand.{OnCommand}
use Rattle.vm_cli.specs.declared.session.OnCommand.TheVariants.{CarryOut, GrowIfFull, Refuse}
use Rattle.vm_cli.specs.declared.session.Session.{Session}
use Rattle.vm_cli.specs.declared.answers.reply.Reply.{Reply}
use Rattle.vm_cli.specs.declared.answers.reply.Reply.TheVariants as reply
use Rattle.vm_cli.specs.declared.answers.output.WriteFault.{WriteFault}
use Rattle.vm_cli.proofs.EndLemmas.{applied_ends, nothing_asked, query_ends}
use Rattle.vm_cli.proofs.HandledLemmas.{Applied, asked_replied, bad_handled, carried, forbidden_handled, memory_told, nothing_handled, replied_whole, replied_with}
use Rattle.vm_cli.proofs.ListedLemmas.{list_goes_on, list_handled}
use Rattle.vm_cli.proofs.PassLemmas.{goes_any, never_both, passes_reads}

-- what is asked for is no command
abbrev pub is_reading : Request → Bool
is_reading (Request.Command command) = false
is_reading (Request.Growing most command) = false
is_reading (Request.MergeAll limit alt side settled) = false
is_reading request = true

-- and so it is the same in each session
pub reads_alone : (on : OnCommand) (request : Request) → is_reading request ≡ true → asked_in on request ≡ request
reads_alone Refuse (Request.Command command) reads = cc
reads_alone Refuse (Request.Growing most command) reads = cc
reads_alone Refuse (Request.MergeAll limit alt side settled) reads = cc
reads_alone (GrowIfFull most) (Request.MergeAll limit alt side settled) reads = cc
reads_alone (GrowIfFull most) (Request.Command command) reads = cc
reads_alone CarryOut request reads = refl
reads_alone Refuse request reads = refl
reads_alone (GrowIfFull most) request reads = refl

-- a query for a list is none
pub list_reads : (query : ListQuery) → is_reading (list_for query) ≡ true
list_reads (listed.Records at) = refl
list_reads (listed.Part at low high) = refl
list_reads (listed.Page at low count) = refl
list_reads (listed.Diff first second) = refl
list_reads (listed.DiffPart first second low high) = refl
list_reads listed.Alternatives = refl
list_reads (listed.Checkpoints alt) = refl
list_reads (listed.Changes alt) = refl
list_reads (listed.Conflicts alt) = refl

module _ {D : Type 0} {members : _} where
  -- a query
  pub query_by : (old new : Store D members) (query : Request) (reply : Reply) → QueriesBy query reply old new → AsksBy query reply old new
  query_by old new query reply by = record { store = query_ends old new reply by.store; answers = by.answers }

  -- what is asked for is this
  pub asked_as : (old new : Store D members) (asked query : Request) → asked ≡ query → (reply : Reply) → AsksBy query reply old new → AsksBy asked reply old new
  asked_as old new asked query is reply by = subst (λ (request : Request). AsksBy request reply old new) (sym is) by

  -- a command, where the store is only read
  pub forbidden_by : (store : Store D members) → AsksBy Request.Forbidden reply.ReadOnly store store
  forbidden_by store = record { store = nothing_asked store reply.ReadOnly refl; answers = λ s. forbidden_handled store s }

  -- a command that was carried out
  pub carried_by : (old new : Store D members) (command : Command) (answer : Result Answer Refusal) → Applied old new command answer → (reply : Reply) → reply_text reply ≡ answer_text answer
      → SessionGoesOn answer reply → (answer ≡ Err Device → ends_session reply ≡ true) → (answer ≡ Err Failed → ends_session reply ≡ true) → AsksBy (Request.Command command) reply old new
  carried_by old new command answer applied reply text goes_on device failed =
      let by = applied_ends old new command answer applied reply goes_on device in
      record { store = by; answers = λ s. carried old new s command answer applied (reply_text reply) (ends_session reply) text by.last failed }

  -- a line that asks for nothing that there is
  pub bad_asked : (store : Store D members) (mistake : Mistake) → AsksBy (Request.Bad mistake) (reply.BadLine mistake) store store
  bad_asked store mistake = record { store = nothing_asked store (reply.BadLine mistake) refl; answers = λ s. bad_handled store s mistake }

  -- a request that has no answer
  pub nothing_by : (store : Store D members) (asked : Request) → asked ≡ Request.Nothing → AsksBy asked reply.Nothing store store
  nothing_by store asked nothing =
      asked_as store store asked Request.Nothing nothing reply.Nothing (record { store = nothing_asked store reply.Nothing refl; answers = λ s. nothing_handled store s })

-- a request that a session handled
pub in_session : {D W : Type 0} {members : _} (contents : W → Option (List ℕ)) (request : Request) (result : Result Reply WriteFault) (old new : Session W D members) → Stays old new
    → AsksInto request result old.store.now new.store.now (written_in contents old new) new.text → Asks contents request result old new
in_session contents request result old new same asks = record { same = same; asks = asks }

module _ {D : Type 0} {members : _} where
  -- a reply alone
  pub reply_into : (old new : Store D members) (request : Request) (reply : Reply) (a : Option (List ℕ)) (text : List ℕ) → text ≡ [] → AsksBy request reply old new
      → AsksInto request (Ok reply) old new (between a a) text
  reply_into old new request reply a text none by =
      let short : length text ≡ 0 = rw none refl in
      record {
        room = omega (arith, short);
        store = by.store;
        answers = λ s. asked_replied old new s request (Ok reply) (between a a) text (replied_whole (HandlesRequest old new s request) reply a text none (by.answers s));
      }

  -- a query whose answer the text has
  pub query_with : (old new : Store D members) (query : Request) (reply : Reply) (a : Option (List ℕ)) (text : List ℕ) → QueriesWith query reply text old new → AsksInto query (Ok reply) old new (between a a) text
  query_with old new query reply a text by = record {
    room = by.room;
    store = query_ends old new reply by.store;
    answers = λ s. asked_replied old new s query (Ok reply) (between a a) text (replied_with (HandlesRequest old new s query) reply a text (by.answers s) by.tells);
  }

  -- a request for which there was no memory
  pub memory_into : (store : Store D members) (request : Request) (a : Option (List ℕ)) (text : List ℕ) → text ≡ [] → AsksInto request (Ok (reply.Refused Memory)) store store (between a a) text
  memory_into store request a text none =
      let short : length text ≡ 0 = rw none refl in
      record {
        room = omega (arith, short);
        store = nothing_asked store (reply.Refused Memory) refl;
        answers = λ s. replied_whole (HandlesOrWants store store s request) (reply.Refused Memory) a text none (memory_told store s request);
      }

  -- a request that only reads, in a session where this is done with commands
  pub reads_in : (on : OnCommand) (old new : Store D members) (request : Request) → is_reading request ≡ true → (r : Result Reply WriteFault) (output : Written) (text : List ℕ) → AsksInto request r old new output text
      → AsksInto (asked_in on request) r old new output text
  reads_in on old new request reads r output text into =
      subst (λ (asked : Request). AsksInto asked r old new output text) (sym (reads_alone on request reads)) into

  -- a query that only reads, with an answer that may be written in part
  pub query_into : (old new : Store D members) (query : Request) → Passes old new None → has_failed new ≡ has_failed old → (has_failed old ≡ true → new ≡ old)
      → (r : Result Reply WriteFault) (output : Written) (text : List ℕ) → OnOk r (length text + 1024 ≤ 65536) → (has_failed old ≡ false → IfOk r (λ reply. ends_session reply ≡ has_failed new))
      → ((s : State) → Replies (HandlesRequest old new s query) r output text) → AsksInto query r old new output text
  query_into old new query passes same left r output text room last replies = record {
    room = room;
    store = record {
      goes = passes.goes;
      last = last;
      failing = λ sound failed. absurd (never_both _ (same ∙ sound) failed);
      left = left;
    };
    answers = λ s. asked_replied old new s query r output text (replies s);
  }

  -- one whose answer is a list that the store read
  pub listed_into : {X : Type 0} (old new : Store D members) (query : Request) (line : X → List ℕ) (due : State → Result (List X) Refusal) (answer : Result (List X) Refusal) → Queries old new answer (λ s. IsListing answer (due s))
      → ((x : X) (rest : List ℕ) → is_error (line x ++ rest) ≡ false)
      → ((s : State) (text : List ℕ) → has_failed new ≡ false → SaysAnswer (Failing old new) (list_lines line) (λ answer. Stood old new s → IsListing answer (due s)) text → Meets old new s query text None)
      → ((text : List ℕ) (ends : Bool) → text ≡ error_text Failed → ends ≡ true → SaysFailed query text ends)
      → (r : Result Reply WriteFault) (output : Written) (text : List ℕ) → OnOk r (length text + 1024 ≤ 65536) → RepliesWithList (λ list. map line list) answer r output text
      → AsksInto query r old new output text
  listed_into old new query line due answer said plain meets fails r output text room list =
      let passes = passes_reads old new (goes_any _ _ _ said.any) said.reads said.unchanged in
      query_into old new query passes said.failed said.no_calls r output text room
      (λ sound. list_goes_on _ answer r output text _ (said.failed ∙ sound) (said.only_then sound) list)
      (λ s.
      list_handled old new s query passes said.failed said.no_calls (λ stood. said.state stood.honest s stood.holds)
      (Stood old new s) (Failing old new) line (λ list. list) (due s) plain (λ text sound says. meets s text (said.failed ∙ sound) says) fails
      answer (λ sound. said.any.fault) said.refused said.only_then (λ sound stood. said.value stood.honest sound s stood.holds) r output text list)
