-- A session in which commands are refused only reads.
use Rattle.std.proofs.Common.{◌≡◌, ℕ, Bool, true, false, List, [], ◌∷◌, None, Result, Ok, Err, refl, ◌∙◌, subst}
use Rattle.vm_types.specs.declared.answer.Answer.{Answer}
use Rattle.vm_types.specs.declared.command.Command.{Command}
use Rattle.vm_types.specs.declared.refusal.Refusal.{Refusal}
use Rattle.vm_types.specs.State.{State}
use Rattle.vm_disk.proofs.MomentLemmas.{reads_then}
use Rattle.vm_store.specs.Store.{IsSameButDisk}
use Rattle.vm_store.specs.declared.store.Store.{Store}
use Rattle.vm_cli.specs.lines.Asking.{Request}
use Rattle.vm_cli.specs.lines.Input.{without_return}
use Rattle.vm_cli.specs.session.Known.{SessionStreams}
use Rattle.vm_cli.specs.lines.Requests.{asked_in, request_of}
use Rattle.vm_cli.specs.lines.Spaces.{words_of}
use Rattle.vm_cli.specs.session.Session.{Answered, AnsweredRequest, Done, EndsSession, HandlesLine, Meets, Passes, Serves, AnswersEach, after_line}
use Rattle.vm_cli.specs.session.Session.Answered.{as_asked, too_long, wanting}
use Rattle.vm_cli.specs.session.Session.AnsweredRequest.{had_failed, met}
use Rattle.vm_cli.specs.declared.session.Manner.{Manner}
use Rattle.vm_cli.specs.declared.session.OnCommand.{OnCommand}
use Rattle.vm_cli.specs.declared.session.OnCommand.TheVariants.{Refuse}
use Rattle.vm_cli.specs.declared.session.ServeFault.{ServeFault}
use Rattle.vm_cli.specs.declared.session.ServeFault.TheVariants as fault
use Rattle.vm_cli.proofs.PassLemmas.{grows_both, passes_left}
use Rattle.vm_cli.proofs.RequestLemmas.{is_reading}

-- what is asked for there is no command
refused_reads : (on : OnCommand) (request : Request) → on ≡ Refuse → is_reading (asked_in on request) ≡ true
refused_reads on (Request.Command command) is = rw is refl
refused_reads on (Request.Growing most command) is = rw is refl
refused_reads on (Request.MergeAll limit alt side settled) is = rw is refl
refused_reads on request is = rw is refl

module _ {D : Type 0} {members : _} where
  -- a store that is as before but for its disk, and again
  same_again : (old mid new : Store D members) → IsSameButDisk old mid → IsSameButDisk mid new → IsSameButDisk old new
  same_again old mid new first second = record {
    alloc = second.alloc ∙ first.alloc;
    parts = second.parts ∙ first.parts;
    failed = second.failed ∙ first.failed;
  }

  pub passes_both : (old mid new : Store D members) → Passes old mid None → Passes mid new None → Passes old new None
  passes_both old mid new first second = record {
    goes = grows_both _ _ _ first.goes second.goes;
    as_long = λ none. second.as_long refl ∙ first.as_long refl;
    reads = λ honest none. reads_then _ _ _ (first.reads (second.goes.earlier honest) refl) (second.reads honest refl);
    unchanged = λ none. same_again old mid new (first.unchanged refl) (second.unchanged refl);
  }

  module _ (old new : Store D members) (s : State) where
    -- a line that is no command
    meets_none : (request : Request) (text : List ℕ) (was : Done) → is_reading request ≡ true → Meets old new s request text was → was ≡ None
    meets_none (Request.Command command) text was reads meets = cc
    meets_none (Request.Growing most command) text was reads meets = cc
    meets_none (Request.MergeAll limit alt side settled) text was reads meets = cc
    meets_none (Request.Get at key) text was reads meets = meets.0
    meets_none (Request.List at) text was reads meets = meets.0
    meets_none (Request.Part at low high) text was reads meets = meets.0
    meets_none (Request.Page at low count) text was reads meets = meets.0
    meets_none Request.Alternatives text was reads meets = meets.0
    meets_none (Request.Checkpoints alt) text was reads meets = meets.0
    meets_none (Request.Changes alt) text was reads meets = meets.0
    meets_none (Request.Diff first second) text was reads meets = meets.0
    meets_none (Request.DiffPart first second low high) text was reads meets = meets.0
    meets_none (Request.Conflicts alt) text was reads meets = meets.0
    meets_none (Request.Tally alt) text was reads meets = meets.0
    meets_none Request.Free text was reads meets = meets.0
    meets_none Request.Blocks text was reads meets = meets.0
    meets_none Request.Nothing text was reads meets = meets.0
    meets_none (Request.Bad mistake) text was reads meets = meets.0
    meets_none Request.Forbidden text was reads meets = meets.0

    pub request_none : (request : Request) (text : List ℕ) (ends : Bool) (was : Done) → is_reading request ≡ true → AnsweredRequest old new s request text ends was → was ≡ None
    request_none request text ends was reads (met sound last meets) = meets_none request text was reads meets
    request_none request text ends was reads (had_failed failed same none says) = none

    module _ (on : Manner) (refuses : on.on_command ≡ Refuse) where
      line_none : (line text : List ℕ) (ends : Bool) (was : Done) → Answered old new s on line text ends was → was ≡ None
      line_none line text ends was (wanting nothing says) = nothing.none
      line_none line text ends was (too_long long nothing says) = nothing.none
      line_none line text ends was (as_asked short answered) =
          let asked = request_of (words_of (without_return line)) in
          request_none (asked_in on.on_command asked) text ends was (refused_reads on.on_command asked refuses) answered

      pub line_passes : (line text : List ℕ) (ends : Bool) → HandlesLine old new s on line text ends → Passes old new None
      line_passes line text ends handled = subst (λ (was : Done). Passes old new was) (line_none line text ends handled.done handled.answers) handled.passes

  module _ (on : Manner) (refuses : on.on_command ≡ Refuse) where
    -- lines one after another
    lines_pass : (lines : List (List ℕ)) (old new : Store D members) (s : State) (text : List ℕ) (commands : List Command) (answers : List (Result Answer Refusal)) (refused : Bool)
        → AnswersEach old new s on lines text commands answers refused → Passes old new None
    lines_pass [] old new s text commands answers refused none = passes_left old new none.same
    lines_pass (line ∷ lines) old new s text commands answers refused it =
        passes_both old it.mid new (line_passes old it.mid s on refuses line it.first false it.step)
        (lines_pass lines it.mid new (after_line s it.step.done) it.rest it.later it.others it.again it.more)

    ended_passes : (old new : Store D members) (s : State) (ends : Bool) (all : List (List ℕ)) (text : List ℕ) → EndsSession old new s on ends all text → Passes old new None
    ended_passes old new s ends all text ended =
        passes_both old ended.mid new
        (lines_pass ended.lines old ended.mid s ended.earlier ended.answered.commands ended.answered.answers ended.answered.refused ended.answered.each)
        (line_passes ended.mid new _ on refuses ended.line ended.last ends ended.handled)

    pub serves_pass : (old new : Store D members) (s : State) (result : Result Bool ServeFault) (known : SessionStreams) → Serves old new s on result known → Passes old new None
    serves_pass old new s (Ok refused) known serves =
        let answered = serves.served.answered in lines_pass _ old new s serves.served.text answered.commands answered.answers answered.refused answered.each
    serves_pass old new s (Err fault.Read) known serves =
        let answered = serves.served.answered in lines_pass serves.served.lines old new s serves.served.text answered.commands answered.answers answered.refused answered.each
    serves_pass old new s (Err fault.Unsure) known serves = absurd serves.served
    serves_pass old new s (Err fault.Store) known serves = ended_passes old new s true _ serves.served.text serves.served.ended
    serves_pass old new s (Err fault.Refused) known serves = ended_passes old new s false _ serves.served.text serves.served.ended
    serves_pass old new s (Err fault.Write) known serves = ended_passes old new s serves.served.ends _ serves.served.text serves.served.ended
