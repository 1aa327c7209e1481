-- What holds of a session if it holds of each line.
use Rattle.std.proofs.Common.{◌≡◌, ◌∙◌, ℕ, Bool, true, false, List, [], ◌∷◌, ◌++◌, None, Result, Ok, Err, refl, sym, ap, subst, append_assoc, append-nil}
use Rattle.vm_types.specs.declared.answer.Answer.{Answer}
use Rattle.vm_types.specs.declared.command.Command.{Command}
use Rattle.vm_types.specs.declared.refusal.Refusal.{Refusal}
use Rattle.vm_types.specs.State.{State, after}
use Rattle.vm_disk.specs.Disk.{DiskState}
use Rattle.vm_disk.specs.declared.disk.Disk.{Ghosts}
use Rattle.vm_store.specs.Store.{Holds, has_failed, disk_of}
use Rattle.vm_store.specs.declared.store.Store.{Store}
use Rattle.vm_cli.specs.session.SessionKinds.{Course, EndsInput, EndsWithLine, HasTaken, LastAnswered, LastRefused, ServesStream, SessionKind, TakesEach}
use Rattle.vm_cli.specs.session.SessionKinds.LastAnswered.{end_answered, line_answered}
use Rattle.vm_cli.specs.session.SessionKinds.LastRefused.{end_refuses, line_refused}
use Rattle.vm_cli.specs.session.Known.{SessionStreams}
use Rattle.vm_cli.specs.session.SessionKinds.Course.{over, proceeds, unwritten}
use Rattle.vm_cli.specs.session.Keeps.{Keeps}
use Rattle.vm_cli.specs.session.Rounds.{AllWhole, AreWholeBatches, Round, after_rounds, all_answers, all_commands}
use Rattle.vm_cli.specs.session.StreamKeeps.{answers_streamed, commands_streamed, rounds_ended, rounds_of, rounds_taken}
use Rattle.vm_cli.specs.session.Session.{Passes}
use Rattle.vm_cli.specs.declared.session.Manner.{Manner}
use Rattle.vm_cli.specs.declared.session.OnCommand.{OnCommand}
use Rattle.vm_cli.specs.declared.session.OnCommand.TheVariants.{Refuse}
use Rattle.vm_cli.specs.declared.session.ServeFault.{ServeFault}
use Rattle.vm_cli.specs.declared.session.ServeFault.TheVariants as fault
use Rattle.vm_cli.proofs.KeepLemmas.{keeps}
use Rattle.vm_cli.proofs.PassLemmas.{passes_none}
use Rattle.vm_cli.proofs.ReadOnlyLemmas.{passes_both}
use Rattle.vm_cli.proofs.RoundLemmas.{rounds_append, rounds_are, whole_append}
use Rattle.vm_cli.proofs.SessionKeepLemmas.{SoFar}

-- ---- what a crash leaves

module _ {D : Type 0} {members : Ghosts D} (start : DiskState) (s : State) where
  -- the session so far: commands were carried out and answered so, what a crash leaves they keep, and the store stands for the state that
  -- they leave, which is this
  pub record IsKept (store : Store D members) (t : State) (commands : List Command) (answers : List (Result Answer Refusal)) : Type 0 where
    pub so_far : SoFar start s store commands answers
    pub sound : has_failed store ≡ false
    pub stands : Holds store (after s commands answers)
    pub state : t ≡ after s commands answers

  -- the session so far, by its rounds
  abbrev pub KeepsOn : Store D members → List Round → Type 0
  KeepsOn store rounds = IsKept store (after_rounds s rounds) (all_commands rounds) (all_answers rounds)

  -- what a crash leaves its rounds keep, also if it is over
  abbrev pub EndsKept : Store D members → List Round → Type 0
  EndsKept store rounds = Keeps start (members.state (disk_of store)) s (all_commands rounds) (all_answers rounds)

  -- so it is after a line
  abbrev pub KeptSo : Course → Store D members → List Round → Type 0
  KeptSo (proceeds refused) store rounds = KeepsOn store rounds
  KeptSo over store rounds = EndsKept store rounds
  KeptSo unwritten store rounds = EndsKept store rounds

  ends_kept : (store : Store D members) (rounds : List Round) → KeepsOn store rounds → EndsKept store rounds
  ends_kept store rounds kept = keeps start (members.state (disk_of store)) s (all_commands rounds) (all_answers rounds) kept.so_far

  pub kept_so : (course : Course) (store : Store D members) (rounds : List Round) → KeepsOn store rounds → KeptSo course store rounds
  kept_so (proceeds refused) store rounds kept = kept
  kept_so over store rounds kept = ends_kept store rounds kept
  kept_so unwritten store rounds kept = ends_kept store rounds kept

  last_kept : (course : Course) (store : Store D members) (rounds : List Round) → KeptSo course store rounds → EndsKept store rounds
  last_kept (proceeds refused) store rounds kept = ends_kept store rounds kept
  last_kept over store rounds kept = kept
  last_kept unwritten store rounds kept = kept

-- ---- what holds of each line

module _ {D : Type 0} {members : Ghosts D} where
  -- this holds of each line that is taken on this state
  abbrev pub EachLine : (kind : SessionKind D members) → State → Manner → Course → (Store D members → Store D members → kind.Stage → kind.Stage → List Round → Type 0) → Type 0
  EachLine kind t how course P =
      (old new : Store D members) (stage : kind.Stage) (part text : List ℕ) (stage' : kind.Stage) (rounds : List Round)
      → kind.Takes old new t how stage part text course stage' rounds → P old new stage stage' rounds

  pub record IsSound (kind : SessionKind D members) : Type 1 where
    -- a disk that is honest after a line was so before it
    pub earlier : (t : State) (how : Manner) (course : Course)
        → EachLine kind t how course (λ old new stage stage' rounds. (members.state (disk_of new)).honest ≡ true → (members.state (disk_of old)).honest ≡ true)
    -- what a crash leaves is kept after a line, if it was before it
    pub keeps : (start : DiskState) (s : State) (before : List Round) (how : Manner) (course : Course)
        → EachLine kind (after_rounds s before) how course (λ old new stage stage' rounds. (members.state (disk_of new)).honest ≡ true → KeepsOn start s old before → KeptSo start s course new (before ++ rounds))
    -- the rounds of a line are whole, if this is true of what is held
    pub HoldsChanges : OnCommand → kind.Stage → Type 0
    pub starts_whole : (on : OnCommand) → HoldsChanges on kind.start
    pub whole : (t : State) (how : Manner) (course : Course)
        → EachLine kind t how course (λ old new stage stage' rounds. HoldsChanges how.on_command stage → AllWhole rounds × HoldsChanges how.on_command stage')
    -- if commands are refused, the store is only asked, if this is true of what is held
    pub IsReading : kind.Stage → Type 0
    pub starts_reading : IsReading kind.start
    pub passes : (t : State) (how : Manner) (course : Course) → how.on_command ≡ Refuse
        → EachLine kind t how course (λ old new stage stage' rounds. IsReading stage → Passes old new None × IsReading stage')

-- ---- what holds of all of them

module _ {D : Type 0} {members : Ghosts D} (kind : SessionKind D members) (s : State) (how : Manner)
    (SoLong : Store D members → kind.Stage → List Round → Type 0) (AtEnd : Store D members → List Round → Type 0)
    (stop : (store : Store D members) (stage : kind.Stage) (rounds : List Round) → SoLong store stage rounds → AtEnd store rounds)
    (step : (before : List Round) (refused : Bool) → EachLine kind (after_rounds s before) how (proceeds refused) (λ old new stage stage' rounds. SoLong old stage before → SoLong new stage' (before ++ rounds)))
    (last : (before : List Round) (course : Course) → EachLine kind (after_rounds s before) how course (λ old new stage stage' rounds. SoLong old stage before → AtEnd new (before ++ rounds))) where
  -- lines one after another
  each_leads : (parts : List (List ℕ)) (old new : Store D members) (before : List Round) (stage : kind.Stage) (text : List ℕ) (stage' : kind.Stage) (rounds : List Round) (again : Bool)
      → TakesEach kind old new (after_rounds s before) how stage parts text stage' rounds again → SoLong old stage before → SoLong new stage' (before ++ rounds)
  each_leads [] old new before stage text stage' rounds again none so =
      subst (λ (x : Store D members). SoLong x stage' (before ++ rounds)) (sym none.same)
      (subst (λ st. SoLong old st (before ++ rounds)) (sym none.held) (subst (λ rs. SoLong old stage rs) (sym (ap (λ rs. before ++ rs) none.idle ∙ append-nil before)) so))
  each_leads (part ∷ parts) old new before stage text stage' rounds again it so =
      let one = step before it.refused old it.mid stage part it.said it.next it.first it.takes so in
      let on = subst (λ t. TakesEach kind it.mid new t how it.next parts it.rest stage' it.later it.others) (sym (rounds_append s before it.first)) it.more in
      subst (λ rs. SoLong new stage' rs) (append_assoc before it.first it.later ∙ ap (λ rs. before ++ rs) (sym it.came)) (each_leads parts it.mid new (before ++ it.first) it.next it.rest stage' it.later it.others on one)

  module _ (old new : Store D members) (begins : SoLong old kind.start []) where
    line_leads : (course : Course) (input text : List ℕ) (ended : EndsWithLine kind old new s how course input text) → AtEnd new (rounds_ended ended)
    line_leads course input text ended =
        let before = each_leads ended.parts old ended.mid [] kind.start ended.earlier ended.stage ended.taken.rounds ended.again ended.taken.each begins in
        last ended.taken.rounds course ended.mid new ended.stage ended.part ended.last ended.stage' ended.rounds ended.takes before

    taken_leads : (parts : List (List ℕ)) (text : List ℕ) (stage : kind.Stage) (again : Bool) (taken : HasTaken kind old new s how parts text stage again) → AtEnd new taken.rounds
    taken_leads parts text stage again taken = stop new stage taken.rounds (each_leads parts old new [] kind.start text stage taken.rounds again taken.each begins)

    input_leads : (input text : List ℕ) (again last : Bool) (ended : EndsInput kind old new s how input text again last) → AtEnd new (rounds_taken ended)
    input_leads input text again last ended = taken_leads ended.parts ended.earlier ended.stage again ended.taken

    -- a whole session
    stream_leads : (result : Result Bool ServeFault) (known : SessionStreams) (serves : ServesStream kind old new s how result known) → AtEnd new (rounds_of serves)
    stream_leads (Ok refused) known serves = let it = serves.served in input_leads serves.input it.text it.again it.last it.ended
    stream_leads (Err fault.Read) known serves = let it = serves.served in taken_leads it.parts it.text it.stage it.again it.taken
    stream_leads (Err fault.Store) known serves = line_leads over serves.input serves.served.text serves.served.ended
    stream_leads (Err fault.Unsure) known serves = line_leads over serves.input serves.served.text serves.served.ended
    stream_leads (Err fault.Refused) known serves = by serves.served.last
      where
        by : (all : LastRefused kind old new s how serves.input serves.served.text)
            → AtEnd new (elim all [ line_refused ended ↦ rounds_ended ended | end_refuses again ended ↦ rounds_taken ended ])
        by (line_refused ended) = line_leads (proceeds true) serves.input serves.served.text ended
        by (end_refuses again ended) = input_leads serves.input serves.served.text again true ended
    stream_leads (Err fault.Write) known serves = by serves.served.last
      where
        by : (all : LastAnswered kind old new s how serves.input serves.served.text)
            → AtEnd new (elim all [ line_answered course ended ↦ rounds_ended ended | end_answered again last ended ↦ rounds_taken ended ])
        by (line_answered course ended) = line_leads course serves.input serves.served.text ended
        by (end_answered again ends ended) = input_leads serves.input serves.served.text again ends ended

module _ {D : Type 0} {members : Ghosts D} {kind : SessionKind D members} (each : IsSound kind) where
  -- what a crash leaves at each moment of a session, its rounds keep
  pub stream_keeps : (start : DiskState) (s : State) (old new : Store D members) → SoFar start s old [] [] → (members.state (disk_of new)).honest ≡ true → has_failed old ≡ false → Holds old s
      → (how : Manner) (result : Result Bool ServeFault) (known : SessionStreams) (serves : ServesStream kind old new s how result known)
      → Keeps start (members.state (disk_of new)) s (commands_streamed serves) (answers_streamed serves)
  stream_keeps start s old new so_far honest sound stands how result known serves =
      stream_leads kind s how (λ store stage rounds. (members.state (disk_of store)).honest ≡ true → KeepsOn start s store rounds) (λ store rounds. (members.state (disk_of store)).honest ≡ true → EndsKept start s store rounds)
      (λ store stage rounds so here. ends_kept start s store rounds (so here))
      (λ before refused from to stage part text stage' rounds takes so here.
      each.keeps start s before how (proceeds refused) from to stage part text stage' rounds takes here (so (each.earlier (after_rounds s before) how (proceeds refused) from to stage part text stage' rounds takes here)))
      (λ before course from to stage part text stage' rounds takes so here.
      last_kept start s course to (before ++ rounds) (each.keeps start s before how course from to stage part text stage' rounds takes here (so (each.earlier (after_rounds s before) how course from to stage part text stage' rounds takes here))))
      old new (λ here. record { so_far = so_far; sound = sound; stands = stands; state = refl }) result known serves honest

  -- its batches are whole
  pub stream_is_whole : (how : Manner) (old new : Store D members) (s : State) (result : Result Bool ServeFault) (known : SessionStreams) (serves : ServesStream kind old new s how result known) → AreWholeBatches s (rounds_of serves)
  stream_is_whole how old new s result known serves = record { whole = all; state = rounds_are s (rounds_of serves) all }
    where
      step : (before : List Round) (course : Course)
          → EachLine kind (after_rounds s before) how course (λ from to stage stage' rounds. AllWhole before × each.HoldsChanges how.on_command stage → AllWhole (before ++ rounds) × each.HoldsChanges how.on_command stage')
      step before course from to stage part text stage' rounds takes so =
          let one = each.whole (after_rounds s before) how course from to stage part text stage' rounds takes so.1 in (whole_append before rounds so.0 one.0, one.1)

      all : AllWhole (rounds_of serves)
      all =
          stream_leads kind s how (λ store stage rounds. AllWhole rounds × each.HoldsChanges how.on_command stage) (λ store rounds. AllWhole rounds) (λ store stage rounds so. so.0)
          (λ before refused. step before (proceeds refused)) (λ before course from to stage part text stage' rounds takes so. (step before course from to stage part text stage' rounds takes so).0)
          old new (tt, each.starts_whole how.on_command) result known serves

  -- if commands are refused, it only reads
  pub stream_passes : (how : Manner) → how.on_command ≡ Refuse → (old new : Store D members) (s : State) (result : Result Bool ServeFault) (known : SessionStreams) → ServesStream kind old new s how result known → Passes old new None
  stream_passes how refuses old new s result known serves =
      stream_leads kind s how (λ store stage rounds. Passes old store None × each.IsReading stage) (λ store rounds. Passes old store None) (λ store stage rounds so. so.0)
      (λ before refused. step before (proceeds refused)) (λ before course from to stage part text stage' rounds takes so. (step before course from to stage part text stage' rounds takes so).0)
      old new (passes_none old, each.starts_reading) result known serves
    where
      step : (before : List Round) (course : Course)
          → EachLine kind (after_rounds s before) how course (λ from to stage stage' rounds. Passes old from None × each.IsReading stage → Passes old to None × each.IsReading stage')
      step before course from to stage part text stage' rounds takes so =
          let one = each.passes (after_rounds s before) how course refuses from to stage part text stage' rounds takes so.1 in (passes_both old from to so.0 one.0, one.1)
