-- What a crash leaves at each moment of a session: one line after another.
use Rattle.std.proofs.Common.{◌≡◌, ◌⊎◌, inl, inr, ℕ, Bool, true, false, List, [], ◌∷◌, ◌++◌, length, Some, None, Result, Ok, Err, refl, sym, ap, ◌∙◌, subst, append_assoc, append-nil, arith}
use Rattle.std.proofs.lemmas.List.{length-append}
use Rattle.vm_types.specs.declared.answer.Answer.{Answer}
use Rattle.vm_types.specs.declared.command.Command.{Command}
use Rattle.vm_types.specs.declared.refusal.Refusal.{Refusal}
use Rattle.vm_types.specs.State.{State, after}
use Rattle.vm_types.proofs.Runs.{after_more}
use Rattle.vm_disk.specs.Disk.{DiskState}
use Rattle.vm_disk.proofs.MomentLemmas.{weaken}
use Rattle.vm_store.specs.Commands.{CarriesOut}
use Rattle.vm_store.specs.Store.{Holds, has_failed, disk_of}
use Rattle.vm_store.specs.declared.store.Store.{Store}
use Rattle.vm_store.proofs.RunLemmas.{ShowsCommitted, rests_show}
use Rattle.vm_cli.specs.session.Keeps.{Keeps, answers_of, commands_of}
use Rattle.vm_cli.specs.lines.Input.{without_return}
use Rattle.vm_cli.specs.session.Known.{SessionStreams}
use Rattle.vm_cli.specs.lines.Requests.{asked_in, request_of}
use Rattle.vm_cli.specs.lines.Spaces.{words_of}
use Rattle.vm_cli.specs.session.Session.{Answered, AnsweredRequest, Done, EndsSession, HasAnswered, Passes, Serves, AnswersEach, after_each, after_line, each_answer, each_command, with_answer, with_command}
use Rattle.vm_cli.specs.session.Session.Answered.{as_asked, too_long, wanting}
use Rattle.vm_cli.specs.session.Session.AnsweredRequest.{had_failed, met}
use Rattle.vm_cli.specs.lines.Asking.{Request}
use Rattle.vm_cli.specs.declared.session.Manner.{Manner}
use Rattle.vm_cli.specs.declared.session.ServeFault.{ServeFault}
use Rattle.vm_cli.specs.declared.session.ServeFault.TheVariants as fault
use Rattle.vm_cli.proofs.ChainLemmas.{Chain, Led, chain_earlier, chain_sound, led_earlier, led_stands}
use Rattle.vm_cli.proofs.HandledLemmas.{meets_led}
use Rattle.vm_cli.proofs.KeepLemmas.{Keeping, keeping_more, keeping_quiet, keeps, keeps_failed}
use Rattle.vm_cli.proofs.PassLemmas.{failed_or, never_both}

-- the commands of a line are in front of the later ones
each_command-before : (each : List (Command × Result Answer Refusal)) (commands : List Command) → each_command each [] ++ commands ≡ each_command each commands
each_command-before [] commands = refl
each_command-before ((command, answer) ∷ each) commands = ap (λ cs. command ∷ cs) (each_command-before each commands)

with_command-append : (done : Done) (commands : List Command) → with_command done [] ++ commands ≡ with_command done commands
with_command-append None commands = refl
with_command-append (Some each) commands = each_command-before each commands

each_answer-before : (each : List (Command × Result Answer Refusal)) (answers : List (Result Answer Refusal)) → each_answer each [] ++ answers ≡ each_answer each answers
each_answer-before [] answers = refl
each_answer-before ((command, answer) ∷ each) answers = ap (λ rs. answer ∷ rs) (each_answer-before each answers)

with_answer-append : (done : Done) (answers : List (Result Answer Refusal))
    → with_answer done [] ++ answers ≡ with_answer done answers
with_answer-append None answers = refl
with_answer-append (Some each) answers = each_answer-before each answers

-- the state after commands
after_each-is : (s : State) (commands : List Command) (answers : List (Result Answer Refusal)) (each : List (Command × Result Answer Refusal))
    → length answers ≡ length commands
    → after s (commands ++ each_command each []) (answers ++ each_answer each []) ≡ after_each (after s commands answers) each
after_each-is s commands answers [] same = rw (append-nil commands, append-nil answers) refl
after_each-is s commands answers ((c, a) ∷ more) same =
    let further = after_each-is s (commands ++ c ∷ []) (answers ++ a ∷ []) more (omega (arith, same, length-append commands (c ∷ []), length-append answers (a ∷ []))) in
    ap (λ cs. after s cs (answers ++ a ∷ each_answer more [])) (sym (append_assoc commands (c ∷ []) (each_command more [])))
    ∙ ap (λ rs. after s ((commands ++ c ∷ []) ++ each_command more []) rs) (sym (append_assoc answers (a ∷ []) (each_answer more [])))
    ∙ further ∙ ap (λ t. after_each t more) (after_more s commands answers c a same)

-- the state after a line
pub after_line-is : (s : State) (commands : List Command) (answers : List (Result Answer Refusal)) (done : Done)
    → length answers ≡ length commands
    → after s (commands ++ with_command done []) (answers ++ with_answer done []) ≡ after_line (after s commands answers) done
after_line-is s commands answers None same = rw (append-nil commands, append-nil answers) refl
after_line-is s commands answers (Some each) same = after_each-is s commands answers each same

module _ {D : Type 0} {members : _} (old new : Store D members) (s : State) (each : List (Command × Result Answer Refusal)) where
  -- the commands of a line were carried out one after another
  request_led : (asked : Request) (text : List ℕ) (ends : Bool) → AnsweredRequest old new s asked text ends (Some each) → Led old new each
  request_led asked text ends answered = elim answered [
    | met sound last meets ↦ meets_led old new s asked text each meets
    | had_failed failed same none says ↦ let no = none in cc
  ]

  pub line_led : (on : Manner) (line text : List ℕ) (ends : Bool) → Answered old new s on line text ends (Some each) → Led old new each
  line_led on line text ends answered = elim answered [
    | wanting nothing says ↦ let none = nothing.none in cc
    | too_long long nothing says ↦ let none = nothing.none in cc
    | as_asked short asked ↦ request_led (asked_in on.on_command (request_of (words_of (without_return line)))) text ends asked
  ]

module _ {D : Type 0} {members : _} where
  -- a disk that is honest after lines was so before them
  pub lines_earlier : (on : Manner) (lines : List (List ℕ)) (old new : Store D members) (s : State) (text : List ℕ) (commands : List Command) (answers : List (Result Answer Refusal)) (refused : Bool)
      → AnswersEach old new s on lines text commands answers refused
      → (members.state (disk_of new)).honest ≡ true → (members.state (disk_of old)).honest ≡ true
  lines_earlier on [] old new s text commands answers refused none honest = subst (λ (t : Store D members). (members.state (disk_of t)).honest ≡ true) none.same honest
  lines_earlier on (line ∷ lines) old new s text commands answers refused it honest = it.step.passes.goes.earlier (lines_earlier on lines it.mid new _ it.rest it.later it.others it.again it.more honest)

  -- before a command a crash shows what is committed
  stands_show : (store : Store D members) (s : State) → Holds store s → ShowsCommitted s (members.state (disk_of store)).now
  stands_show store s holds = rests_show (members.state (disk_of store)).now store.parts.blocks store.parts.slot_name store.parts.held store.parts.committed store.parts.working s holds.rests

  module _ (start : DiskState) (s : State) where
    -- the lines so far, up to this store
    abbrev pub SoFar : Store D members → List Command → List (Result Answer Refusal) → Type 0
    SoFar store commands answers = Keeping start (members.state (disk_of store)) s commands answers

    -- one line more: a command, or none
    module _ (old new : Store D members) (commands : List Command) (answers : List (Result Answer Refusal)) (so_far : SoFar old commands answers) (honest : (members.state (disk_of new)).honest ≡ true) (holds : Holds old (after s commands answers)) where
      -- it was no command
      line_reads : Passes old new None → SoFar new (commands ++ []) (answers ++ [])
      line_reads passes =
          rw (append-nil commands, append-nil answers)
          (keeping_quiet start (members.state (disk_of old)) s commands answers so_far (members.state (disk_of new))
          (weaken (members.state (disk_of old)) (members.state (disk_of new)) (λ m. m ≡ (members.state (disk_of old)).now) (ShowsCommitted (after s commands answers))
          (λ m same. subst (ShowsCommitted (after s commands answers)) (sym same) (stands_show old (after s commands answers) holds))
          (passes.reads honest refl)))

      -- it was a command, in which the device didn't fail
      pub line_runs : (c : Command) (a : Result Answer Refusal) → CarriesOut old new c a
          → has_failed new ≡ false → SoFar new (commands ++ c ∷ []) (answers ++ a ∷ [])
      line_runs c a carries sound =
          keeping_more start (members.state (disk_of old)) s commands answers so_far (members.state (disk_of new)) c a (carries.performs.carried honest _ holds).crash
          (stands_show new _ ((carries.performs.carried honest _ holds).state (λ device. never_both _ sound (carries.failed.1 device))))

      -- the device failed in it
      pub command_fails : (c : Command) (a : Result Answer Refusal) → CarriesOut old new c a
          → has_failed new ≡ true → Keeps start (members.state (disk_of new)) s (commands ++ c ∷ []) (answers ++ a ∷ [])
      command_fails c a carries failed = keeps_failed start (members.state (disk_of old)) s commands answers so_far (members.state (disk_of new)) c a (carries.performs.carried honest _ holds).crash (carries.failed.0 failed)

      -- the store stands for what it leaves
      pub command_stands : (c : Command) (a : Result Answer Refusal) → CarriesOut old new c a
          → has_failed new ≡ false → Holds new (after s (commands ++ c ∷ []) (answers ++ a ∷ []))
      command_stands c a carries sound =
          subst (λ t. Holds new t) (sym (after_more s commands answers c a so_far.run.last.same))
          ((carries.performs.carried honest _ holds).state (λ device. never_both _ sound (carries.failed.1 device)))

    -- commands one after another
    chain_keeping : (each : List (Command × Result Answer Refusal)) (old new : Store D members) (commands : List Command) (answers : List (Result Answer Refusal)) → SoFar old commands answers
        → Chain old new each → (members.state (disk_of new)).honest ≡ true → Holds old (after s commands answers) → has_failed new ≡ false
        → SoFar new (commands ++ each_command each []) (answers ++ each_answer each [])
    chain_keeping [] old new commands answers so_far chain honest holds sound = rw (chain, append-nil commands, append-nil answers) so_far
    chain_keeping ((c, a) ∷ more) old new commands answers so_far (mid, carries, last, chain) honest holds sound =
        let honest_mid = chain_earlier more mid new chain honest in
        let sound_mid = chain_sound old mid new c a more carries last chain sound in
        let here = line_runs old mid commands answers so_far honest_mid holds c a carries sound_mid in
        let stands = command_stands old mid commands answers so_far honest_mid holds c a carries sound_mid in
        let all = chain_keeping more mid new (commands ++ c ∷ []) (answers ++ a ∷ []) here chain honest stands sound in
        subst (λ cs. SoFar new cs (answers ++ a ∷ each_answer more [])) (append_assoc commands (c ∷ []) (each_command more []))
        (subst (λ rs. SoFar new ((commands ++ c ∷ []) ++ each_command more []) rs) (append_assoc answers (a ∷ []) (each_answer more [])) all)

    -- the last of them may fail
    chain_keeps : (each : List (Command × Result Answer Refusal)) (old new : Store D members) (commands : List Command) (answers : List (Result Answer Refusal)) → SoFar old commands answers
        → Chain old new each → (members.state (disk_of new)).honest ≡ true → Holds old (after s commands answers)
        → Keeps start (members.state (disk_of new)) s (commands ++ each_command each []) (answers ++ each_answer each [])
    chain_keeps [] old new commands answers so_far chain honest holds = rw (chain, append-nil commands, append-nil answers) (keeps start (members.state (disk_of old)) s commands answers so_far)
    chain_keeps ((c, a) ∷ more) old new commands answers so_far (mid, carries, last, chain) honest holds =
        let honest_mid = chain_earlier more mid new chain honest in
        either (failed_or (has_failed mid))
        (λ sound_mid.
        chain_keeps more mid new (commands ++ c ∷ []) (answers ++ a ∷ []) (line_runs old mid commands answers so_far honest_mid holds c a carries sound_mid) chain honest
        (command_stands old mid commands answers so_far honest_mid holds c a carries sound_mid))
      where
        either : (has_failed mid ≡ false) ⊎ (has_failed mid ≡ true)
            → (has_failed mid ≡ false → Keeps start (members.state (disk_of new)) s ((commands ++ c ∷ []) ++ each_command more []) ((answers ++ a ∷ []) ++ each_answer more []))
            → Keeps start (members.state (disk_of new)) s (commands ++ c ∷ each_command more []) (answers ++ a ∷ each_answer more [])
        either (inl sound_mid) further =
            subst (λ cs. Keeps start (members.state (disk_of new)) s cs (answers ++ a ∷ each_answer more [])) (append_assoc commands (c ∷ []) (each_command more []))
            (subst (λ rs. Keeps start (members.state (disk_of new)) s ((commands ++ c ∷ []) ++ each_command more []) rs) (append_assoc answers (a ∷ []) (each_answer more [])) (further sound_mid))
        either (inr failed) further =
            let honest_mid = chain_earlier more mid new chain honest in
            let none : more ≡ [] = last (carries.failed.0 failed) in
            let same : new ≡ mid = subst (λ rest. Chain mid new rest) none chain in
            subst (λ rest. Keeps start (members.state (disk_of new)) s (commands ++ c ∷ each_command rest []) (answers ++ a ∷ each_answer rest [])) (sym none)
            (subst (λ (t : Store D members). Keeps start (members.state (disk_of t)) s (commands ++ c ∷ []) (answers ++ a ∷ [])) (sym same)
            (command_fails old mid commands answers so_far honest_mid holds c a carries failed))

    -- a line
    module _ (old new : Store D members) (commands : List Command) (answers : List (Result Answer Refusal)) (so_far : SoFar old commands answers) (honest : (members.state (disk_of new)).honest ≡ true) (holds : Holds old (after s commands answers)) where
      -- the query before its commands
      led_so_far : (begun : Store D members) → (members.state (disk_of begun)).honest ≡ true → Passes old begun None → SoFar begun commands answers
      led_so_far begun there asks =
          subst (λ cs. SoFar begun cs answers) (append-nil commands)
          (subst (λ rs. SoFar begun (commands ++ []) rs) (append-nil answers) (line_reads old begun commands answers so_far there holds asks))

      pub line_keeping : (on : Manner) (line text : List ℕ) (ends : Bool) (done : Done)
          → Answered old new (after s commands answers) on line text ends done → Passes old new done → has_failed new ≡ false
          → SoFar new (commands ++ with_command done []) (answers ++ with_answer done [])
      line_keeping on line text ends None answered passes sound = line_reads old new commands answers so_far honest holds passes
      line_keeping on line text ends (Some each) answered passes sound =
          let led = line_led old new (after s commands answers) each on line text ends answered in
          let there = led_earlier old new each led honest in
          chain_keeping each led.begun new commands answers (led_so_far led.begun there led.asks) led.chain honest (led_stands old new each led honest _ holds) sound

      -- it may end the session
      pub line_keeps : (on : Manner) (line text : List ℕ) (ends : Bool) (done : Done)
          → Answered old new (after s commands answers) on line text ends done → Passes old new done
          → Keeps start (members.state (disk_of new)) s (commands ++ with_command done []) (answers ++ with_answer done [])
      line_keeps on line text ends None answered passes = keeps start (members.state (disk_of new)) s _ _ (line_reads old new commands answers so_far honest holds passes)
      line_keeps on line text ends (Some each) answered passes =
          let led = line_led old new (after s commands answers) each on line text ends answered in
          let there = led_earlier old new each led honest in
          chain_keeps each led.begun new commands answers (led_so_far led.begun there led.asks) led.chain honest (led_stands old new each led honest _ holds)

    -- lines that end no session
    pub lines_keeping : (on : Manner) (lines : List (List ℕ)) (old new : Store D members) (commands : List Command) (answers : List (Result Answer Refusal)) (text : List ℕ) (later : List Command) (others : List (Result Answer Refusal)) (refused : Bool)
        → AnswersEach old new (after s commands answers) on lines text later others refused → SoFar old commands answers
        → (members.state (disk_of new)).honest ≡ true → has_failed old ≡ false → Holds old (after s commands answers)
        → SoFar new (commands ++ later) (answers ++ others)
    lines_keeping on [] old new commands answers text later others refused none so_far honest sound holds =
        rw (none.same, none.no_commands, none.no_answers, append-nil commands, append-nil answers) so_far
    lines_keeping on (line ∷ lines) old new commands answers text later others refused it so_far honest sound holds =
        let mid = it.mid in
        let step = it.step in
        let done = step.done in
        let honest_mid = lines_earlier on lines mid new _ it.rest it.later it.others it.again it.more honest in
        let sound_mid = step.still refl ∙ sound in
        let state : after s (commands ++ with_command done []) (answers ++ with_answer done []) ≡ after_line (after s commands answers) done = after_line-is s commands answers done so_far.run.last.same in
        let stands : Holds mid (after_line (after s commands answers) done) = step.holds record { honest = honest_mid; holds = holds } sound_mid in
        let all = lines_keeping on lines mid new (commands ++ with_command done []) (answers ++ with_answer done []) it.rest it.later it.others it.again
        (subst (λ t. AnswersEach mid new t on lines it.rest it.later it.others it.again) (sym state) it.more)
        (line_keeping old mid commands answers so_far honest_mid holds on line it.first false done step.answers step.passes sound_mid)
        honest sound_mid (subst (λ t. Holds mid t) (sym state) stands) in
        let these : (commands ++ with_command done []) ++ it.later ≡ commands ++ later = append_assoc commands (with_command done []) it.later ∙ ap (λ cs. commands ++ cs) (with_command-append done it.later ∙ sym it.carried) in
        let those : (answers ++ with_answer done []) ++ it.others ≡ answers ++ others = append_assoc answers (with_answer done []) it.others ∙ ap (λ rs. answers ++ rs) (with_answer-append done it.others ∙ sym it.given) in
        subst (λ cs. SoFar new cs (answers ++ others)) these (subst (λ rs. SoFar new ((commands ++ with_command done []) ++ it.later) rs) those all)

    module _ (old new : Store D members) (so_far : SoFar old [] []) (honest : (members.state (disk_of new)).honest ≡ true) (sound : has_failed old ≡ false) (holds : Holds old s) where
      answered_keeping : (on : Manner) (lines : List (List ℕ)) (text : List ℕ) (answered : HasAnswered old new s on lines text)
          → SoFar new answered.commands answered.answers
      answered_keeping on lines text answered = lines_keeping on lines old new [] [] text answered.commands answered.answers answered.refused answered.each so_far honest sound holds

    -- a session that ended with a line
    ended_keeps : (old new : Store D members) → SoFar old [] [] → (members.state (disk_of new)).honest ≡ true
        → has_failed old ≡ false → Holds old s
        → (on : Manner) (ends : Bool) (all : List (List ℕ)) (text : List ℕ) (ended : EndsSession old new s on ends all text)
        → Keeps start (members.state (disk_of new)) s (ended.answered.commands ++ with_command ended.handled.done []) (ended.answered.answers ++ with_answer ended.handled.done [])
    ended_keeps old new so_far honest sound holds on ends all text ended =
        let mid = ended.mid in
        let answered = ended.answered in
        let handled = ended.handled in
        let honest_mid = handled.passes.goes.earlier honest in
        let stands : Holds mid (after s answered.commands answered.answers) = answered.holds record { honest = honest_mid; holds = holds } (answered.still ∙ sound) in
        line_keeps mid new answered.commands answered.answers (answered_keeping old mid so_far honest_mid sound holds on ended.lines ended.earlier answered) honest stands on ended.line ended.last ends handled.done handled.answers handled.passes

    -- each session
    pub serves_keeps : (old new : Store D members) → SoFar old [] [] → (members.state (disk_of new)).honest ≡ true
        → has_failed old ≡ false → Holds old s
        → (on : Manner) (result : Result Bool ServeFault) (known : SessionStreams) (serves : Serves old new s on result known)
        → Keeps start (members.state (disk_of new)) s (commands_of serves) (answers_of serves)
    serves_keeps old new so_far honest sound holds on (Ok refused) known serves = keeps start (members.state (disk_of new)) s _ _ (answered_keeping old new so_far honest sound holds on _ serves.served.text serves.served.answered)
    serves_keeps old new so_far honest sound holds on (Err fault.Read) known serves = keeps start (members.state (disk_of new)) s _ _ (answered_keeping old new so_far honest sound holds on serves.served.lines serves.served.text serves.served.answered)
    serves_keeps old new so_far honest sound holds on (Err fault.Unsure) known serves = absurd serves.served
    serves_keeps old new so_far honest sound holds on (Err fault.Store) known serves = ended_keeps old new so_far honest sound holds on true _ serves.served.text serves.served.ended
    serves_keeps old new so_far honest sound holds on (Err fault.Refused) known serves = ended_keeps old new so_far honest sound holds on false _ serves.served.text serves.served.ended
    serves_keeps old new so_far honest sound holds on (Err fault.Write) known serves = ended_keeps old new so_far honest sound holds on serves.served.ends _ serves.served.text serves.served.ended
