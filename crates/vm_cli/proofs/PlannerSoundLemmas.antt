-- What holds of each line of a stream in which many planners speak.
use Rattle.std.proofs.Common.{◌≡◌, ◌⊎◌, inl, inr, ◌++◌, ℕ, Bool, true, false, List, [], ◌∷◌, Option, Some, None, refl, sym, subst, ap, ◌∙◌, append-nil, append_assoc}
use Rattle.vm_types.specs.State.{State}
use Rattle.vm_disk.specs.Disk.{DiskState}
use Rattle.vm_disk.specs.declared.disk.Disk.{Ghosts}
use Rattle.vm_store.specs.Store.{disk_of}
use Rattle.vm_store.specs.declared.store.Store.{Store}
use Rattle.vm_cli.specs.session.SessionKinds.{Course}
use Rattle.vm_cli.specs.session.SessionKinds.Course.{proceeds}
use Rattle.vm_cli.specs.lines.Input.{without_return}
use Rattle.vm_cli.specs.session.LineUses.{use_of}
use Rattle.vm_cli.specs.session.PlannerLines.{Saying, saying_of}
use Rattle.vm_cli.specs.session.PlannerLines.Saying.{joins, leaves, nothing, releases, says, strange}
use Rattle.vm_cli.specs.session.Planners.{EndsSettling, Gathering, IsLastOf, IsUnwritten, Joins, Leaves, SaysIt, Seat, TakesAlone, TakesBehind, TakesIts, TakesLater, TakesOne, TakesWhen, planners, seat, settles_first, with_none_waiting}
use Rattle.vm_cli.specs.session.Planners.IsSpoken.{line_said, not_joined}
use Rattle.vm_cli.specs.session.Planners.Joins.{no_memory_for_seat, seated_before, welcomed}
use Rattle.vm_cli.specs.session.Planners.Leaves.{parted, unknown_planner}
use Rattle.vm_cli.specs.session.Planners.TakesIts.{taken_for_use, taken_without_memory, unlabelled}
use Rattle.vm_cli.specs.session.Planners.TakesLater.{put_off, taken_at_once}
use Rattle.vm_cli.specs.session.Planners.TakesOne.{line_taken, line_too_long, no_memory_for_line}
use Rattle.vm_cli.specs.session.Planners.TakesSettled.{ended_settling, settled_first}
use Rattle.vm_cli.specs.session.Rounds.{AllWhole, IsWholeRound, Round, after_rounds}
use Rattle.vm_cli.specs.session.Streams.{Held, Takes}
use Rattle.vm_cli.specs.session.Streams.Held.{holds, lost}
use Rattle.vm_cli.specs.session.Streams.Takes.{for_its_use, without_memory}
use Rattle.vm_cli.specs.session.Session.{Passes}
use Rattle.vm_cli.specs.session.Waiting.{SettlesWaiting, Waiting, then_course}
use Rattle.vm_cli.specs.declared.session.Manner.{Manner}
use Rattle.vm_cli.specs.declared.session.OnCommand.{OnCommand}
use Rattle.vm_cli.specs.declared.session.OnCommand.TheVariants.{Refuse}
use Rattle.vm_cli.specs.declared.session.line_use.LineUse.{LineUse}
use Rattle.vm_cli.specs.declared.session.line_use.LineUse.TheVariants as line
use Rattle.vm_cli.specs.declared.session.planner_line.When.{When}
use Rattle.vm_cli.specs.declared.session.planner_line.When.TheVariants.{Later, Now}
use Rattle.vm_cli.proofs.KindLemmas.{IsSound, KeepsOn, KeptSo, kept_so}
use Rattle.vm_cli.proofs.PassLemmas.{passes_left}
use Rattle.vm_cli.proofs.ReadOnlyLemmas.{passes_both}
use Rattle.vm_cli.proofs.RoundLemmas.{rounds_append, whole_append}
use Rattle.vm_cli.proofs.StreamKeepLemmas.{keeps_idle, takes_earlier, takes_kept}
use Rattle.vm_cli.proofs.StreamPassLemmas.{IsOther, IsReading, takes_passes, use_other}
use Rattle.vm_cli.proofs.WaitingSoundLemmas.{AllWaiting, none_settles, then_kept, waiting_earlier, waiting_kept, waiting_more, waiting_whole}
use Rattle.vm_cli.proofs.WholeLemmas.{AllChanges, StageChanges, idle_whole, takes_whole}

-- ---- what is true of each seat

-- this is true of what each planner holds
abbrev AllSeats : (Option Held → Type 0) → List Seat → Type 0
AllSeats P [] = Unit {0}
AllSeats P (it ∷ seats) = P it.stage × AllSeats P seats

-- how seats change in a line that the store is not asked: not at all, or a planner without a batch joins, or one leaves
abbrev StaySeated : List Seat → List Seat → Type 0
StaySeated seats seats' =
    (seats' ≡ seats)
    ⊎ (((number : ℕ) × (seats' ≡ seats ++ seat number None ∷ []))
    ⊎ ((before : List Seat) × (it : Seat) × (behind : List Seat) × (seats ≡ before ++ it ∷ behind) × (seats' ≡ before ++ behind)))

joins_seated : (number : ℕ) (seats : List Seat) (text : List ℕ) (count : ℕ) (seats' : List Seat) → Joins number seats text count seats' → StaySeated seats seats'
joins_seated number seats text count seats' (welcomed it) = inr (inl (number, it.seated))
joins_seated number seats text count seats' (no_memory_for_seat told) = inl told.seated
joins_seated number seats text count seats' (seated_before present told) = inl told.seated

leaves_seated : (number : ℕ) (seats : List Seat) (text : List ℕ) (count : ℕ) (seats' : List Seat) → Leaves number seats text count seats' → StaySeated seats seats'
leaves_seated number seats text count seats' (parted parts) = inr (inr (parts.before, seat number parts.stage, parts.behind, parts.sits.cut, parts.seated))
leaves_seated number seats text count seats' (unknown_planner unknown) = inl unknown.told.seated

module _ (P : Option Held → Type 0) where
  -- of some, and of others
  all_joined : (before behind : List Seat) → AllSeats P before → AllSeats P behind → AllSeats P (before ++ behind)
  all_joined [] behind first last = last
  all_joined (it ∷ before) behind first last = (first.0, all_joined before behind first.1 last)

  -- of those before one of them, of that one, and of those behind it
  all_cut : (before : List Seat) (it : Seat) (behind : List Seat) → AllSeats P (before ++ it ∷ behind) → AllSeats P before × P it.stage × AllSeats P behind
  all_cut [] it behind all = (tt, all.0, all.1)
  all_cut (one ∷ before) it behind all = let rest = all_cut before it behind all.1 in ((all.0, rest.0), rest.1, rest.2)

  -- it stays true, if it is of a planner without a batch
  all_stay : P None → (seats seats' : List Seat) → StaySeated seats seats' → AllSeats P seats → AllSeats P seats'
  all_stay bare seats seats' (inl same) all = subst (AllSeats P) (sym same) all
  all_stay bare seats seats' (inr (inl (number, more))) all = subst (AllSeats P) (sym more) (all_joined seats (seat number None ∷ []) all (bare, tt))
  all_stay bare seats seats' (inr (inr (before, it, behind, cut, fewer))) all =
      let parts = all_cut before it behind (subst (AllSeats P) cut all) in
      subst (AllSeats P) (sym fewer) (all_joined before behind parts.0 parts.2)

-- ---- what is true of what is held

-- each planner holds only changes, and so do the batches that wait
abbrev HoldChanges : OnCommand → Gathering → Type 0
HoldChanges on at = AllSeats (StageChanges on) at.seats × AllWaiting on at.waiting

-- no planner holds a line, and no batch waits
abbrev AreReading : Gathering → Type 0
AreReading at = AllSeats IsReading at.seats × (at.waiting ≡ [])

-- a batch that ends with a line holds only changes
last_changes : (on : OnCommand) (part : List ℕ) (used : LineUse) (stage : Option Held) (it : Waiting) → used ≡ use_of on part → StageChanges on stage → IsLastOf used stage part it → AllChanges on it.lines
last_changes on part line.Commit (Some (holds (first ∷ lines))) it is all last = subst (AllChanges on) (sym last.1) all
last_changes on part line.Change None it is all last = subst (AllChanges on) (sym last.1) (sym is, tt)
last_changes on part line.Commit None it is all last = absurd last
last_changes on part line.Commit (Some (holds [])) it is all last = absurd last
last_changes on part line.Commit (Some (lost place answer count)) it is all last = absurd last
last_changes on part line.Change (Some held) it is all last = absurd last
last_changes on part line.Nothing stage it is all last = absurd last
last_changes on part line.Begin stage it is all last = absurd last
last_changes on part line.Abort stage it is all last = absurd last
last_changes on part line.Query stage it is all last = absurd last
last_changes on part (line.Refused said) stage it is all last = absurd last

-- there is none if no line is a change, and none is held
never_last : (part : List ℕ) (used : LineUse) (stage : Option Held) (it : Waiting) → IsOther used → IsReading stage → IsLastOf used stage part it → ⊥
never_last part line.Commit (Some (holds (first ∷ lines))) it other reading last = reading
never_last part line.Change stage it other reading last = other
never_last part line.Commit None it other reading last = last
never_last part line.Commit (Some (holds [])) it other reading last = last
never_last part line.Commit (Some (lost place answer count)) it other reading last = last
never_last part line.Nothing stage it other reading last = last
never_last part line.Begin stage it other reading last = last
never_last part line.Abort stage it other reading last = last
never_last part line.Query stage it other reading last = last
never_last part (line.Refused said) stage it other reading last = last

-- ---- what came of a line

module _ {D : Type 0} {members : Ghosts D} where
  -- the store was not asked
  record IsUnasked (old new : Store D members) (at at' : Gathering) (rounds : List Round) : Type 0 where
    pub same : new ≡ old
    pub came_so : rounds ≡ []
    pub seated : StaySeated at.seats at'.seats
    pub waiting : at'.waiting ≡ at.waiting

  -- or a planner said a line
  record HasSpoken (old new : Store D members) (s : State) (how : Manner) (course : Course) (at at' : Gathering) (rounds : List Round) : Type 0 where
    pub when : When
    pub number : ℕ
    pub part : List ℕ
    pub text : List ℕ
    pub line : SaysIt old new s how when number part text course at at' rounds

  abbrev CameOf : Store D members → Store D members → State → Manner → Course → Gathering → Gathering → List Round → Type 0
  CameOf old new s how course at at' rounds = IsUnasked old new at at' rounds ⊎ HasSpoken old new s how course at at' rounds

  came_alone : (old new : Store D members) (s : State) (how : Manner) (saying : Saying) (text : List ℕ) (course : Course) (at at' : Gathering) (rounds : List Round)
      → TakesAlone old new s how saying text course at at' rounds → CameOf old new s how course at at' rounds
  came_alone old new s how nothing text course at at' rounds takes = inl (record { same = takes.same; came_so = takes.came_so; seated = inl takes.answer.seated; waiting = takes.waiting })
  came_alone old new s how strange text course at at' rounds takes = inl (record { same = takes.same; came_so = takes.came_so; seated = inl takes.answer.seated; waiting = takes.waiting })
  came_alone old new s how releases text course at at' rounds takes = inl (record { same = takes.same; came_so = takes.came_so; seated = inl takes.answer.seated; waiting = takes.waiting })
  came_alone old new s how (joins number) text course at at' rounds takes =
      inl (record { same = takes.same; came_so = takes.came_so; seated = joins_seated number at.seats text takes.count at'.seats takes.answer; waiting = takes.waiting })
  came_alone old new s how (leaves number) text course at at' rounds takes =
      inl (record { same = takes.same; came_so = takes.came_so; seated = leaves_seated number at.seats text takes.count at'.seats takes.answer; waiting = takes.waiting })
  came_alone old new s how (says when number part) text course at at' rounds (line_said line) = inr (record { when = when; number = number; part = part; text = text; line = line })
  came_alone old new s how (says when number part) text course at at' rounds (not_joined unknown) =
      inl (record { same = unknown.same; came_so = unknown.came_so; seated = inl unknown.answer.told.seated; waiting = unknown.waiting })

  -- what waits was carried out before the line was taken
  record HasSettled (old new : Store D members) (s : State) (how : Manner) (course : Course) (at at' : Gathering) (rounds : List Round) : Type 0 where
    pub mid : Store D members
    pub said : List ℕ
    pub first : List Round
    pub later : List Round
    pub refused : Bool
    pub next : Course
    pub settles : SettlesWaiting old mid s how at.waiting said (proceeds refused) first
    pub came : CameOf mid new (after_rounds s first) how next (with_none_waiting at) at' later
    pub goes : course ≡ then_course refused next
    pub came_so : rounds ≡ first ++ later

  -- or the session ended in that
  record HasEnded (old new : Store D members) (s : State) (how : Manner) (course : Course) (at at' : Gathering) (rounds : List Round) : Type 0 where
    pub text : List ℕ
    pub ends : EndsSettling old new s how text course at at' rounds

  abbrev CameOfLine : Store D members → Store D members → State → Manner → Course → Gathering → Gathering → List Round → Type 0
  CameOfLine old new s how course at at' rounds = CameOf old new s how course at at' rounds ⊎ (HasSettled old new s how course at at' rounds ⊎ HasEnded old new s how course at at' rounds)

  came_behind : (first : Bool) (old new : Store D members) (s : State) (how : Manner) (saying : Saying) (text : List ℕ) (course : Course) (at at' : Gathering) (rounds : List Round)
      → TakesBehind first old new s how saying text course at at' rounds → CameOfLine old new s how course at at' rounds
  came_behind false old new s how saying text course at at' rounds takes = inl (came_alone old new s how saying text course at at' rounds takes)
  came_behind true old new s how saying text course at at' rounds (settled_first it) =
      inr
      (inl
      (record {
        mid = it.mid;
        said = it.said;
        first = it.first;
        later = it.later;
        refused = it.refused;
        next = it.next;
        settles = it.settles;
        came = came_alone it.mid new (after_rounds s it.first) how saying it.more it.next (with_none_waiting at) at' it.later it.takes;
        goes = it.goes;
        came_so = it.came_so;
      }))
  came_behind true old new s how saying text course at at' rounds (ended_settling ends) = inr (inr (record { text = text; ends = ends }))

  came_of : (old new : Store D members) (s : State) (how : Manner) (at : Gathering) (part text : List ℕ) (course : Course) (at' : Gathering) (rounds : List Round)
      → TakesOne old new s how at part text course at' rounds → CameOfLine old new s how course at at' rounds
  came_of old new s how at part text course at' rounds (no_memory_for_line wanting) =
      inl (inl (record { same = wanting.same; came_so = wanting.came_so; seated = inl wanting.answer.seated; waiting = wanting.waiting }))
  came_of old new s how at part text course at' rounds (line_too_long long told) = inl (inl (record { same = told.same; came_so = told.came_so; seated = inl told.answer.seated; waiting = told.waiting }))
  came_of old new s how at part text course at' rounds (line_taken short takes) =
      let saying = saying_of (without_return part) in
      came_behind (settles_first saying at.waiting) old new s how saying text course at at' rounds takes

  -- a line of a planner's own session is one of a session with batches, if its label could be written
  taken_alone : (old new : Store D members) (s : State) (how : Manner) (number : ℕ) (stage : Option Held) (part text : List ℕ) (course : Course) (stage' : Option Held) (round : Round)
      → TakesIts old new s how number stage part text course stage' round
      → IsUnwritten old new number stage text course stage' round ⊎ ((said : List ℕ) × Takes old new s how stage part said course stage' round)
  taken_alone old new s how number stage part text course stage' round (unlabelled unsaid) = inl unsaid
  taken_alone old new s how number stage part text course stage' round (taken_without_memory wanting) = inr (wanting.said, without_memory wanting.takes)
  taken_alone old new s how number stage part text course stage' round (taken_for_use found) = inr (found.said, for_its_use found.takes)

  -- it was taken at once, or the batch that ends with it waits
  taken_when : (when : When) (old new : Store D members) (s : State) (how : Manner) (number : ℕ) (stage : Option Held) (part text : List ℕ) (course : Course) (stage' : Option Held) (round : Round) (more : List Waiting)
      → TakesWhen when old new s how number stage part text course stage' round more
      → TakesLater old new s how number stage part text course stage' round more
  taken_when Now old new s how number stage part text course stage' round more takes = taken_at_once takes
  taken_when Later old new s how number stage part text course stage' round more takes = takes

  -- ---- a disk that is honest after a line was so before it

  module _ (old new : Store D members) (t : State) (how : Manner) (honest : (members.state (disk_of new)).honest ≡ true) where
    abbrev WasHonest : Type 0
    WasHonest = (members.state (disk_of old)).honest ≡ true

    same_honest : new ≡ old → WasHonest
    same_honest same = subst (λ (x : Store D members). (members.state (disk_of x)).honest ≡ true) same honest

    its_earlier : (course : Course) (number : ℕ) (stage : Option Held) (part text : List ℕ) (stage' : Option Held) (round : Round) → TakesIts old new t how number stage part text course stage' round → WasHonest
    its_earlier course number stage part text stage' round takes =
        elim (taken_alone old new t how number stage part text course stage' round takes) [
          | inl unsaid ↦ same_honest unsaid.same
          | inr alone ↦ takes_earlier old new t how stage part alone.0 course stage' round alone.1 honest
        ]

    alone_earlier : (course : Course) (at at' : Gathering) (rounds : List Round) → CameOf old new t how course at at' rounds → WasHonest
    alone_earlier course at at' rounds (inl unasked) = same_honest unasked.same
    alone_earlier course at at' rounds (inr it) =
        elim (taken_when it.when old new t how it.number it.line.stage it.part it.text course it.line.stage' it.line.round it.line.more it.line.takes) [
          | taken_at_once taken ↦ its_earlier course it.number it.line.stage it.part it.text it.line.stage' it.line.round taken.takes
          | put_off off ↦ same_honest off.same
        ]

  one_earlier : (old new : Store D members) (t : State) (how : Manner) (honest : (members.state (disk_of new)).honest ≡ true) (course : Course) (at at' : Gathering) (rounds : List Round) → CameOfLine old new t how course at at' rounds
      → (members.state (disk_of old)).honest ≡ true
  one_earlier old new t how honest course at at' rounds (inl alone) = alone_earlier old new t how honest course at at' rounds alone
  one_earlier old new t how honest course at at' rounds (inr (inl it)) =
      let there = alone_earlier it.mid new (after_rounds t it.first) how honest it.next (with_none_waiting at) at' it.later it.came in
      waiting_earlier it.first old it.mid t how at.waiting it.said (proceeds it.refused) it.settles there
  one_earlier old new t how honest course at at' rounds (inr (inr it)) = waiting_earlier rounds old new t how at.waiting it.text course it.ends.settles honest

  -- ---- what a crash leaves is kept

  module _ (start : DiskState) (s : State) (before : List Round) (old new : Store D members) (kept : KeepsOn start s old before) (honest : (members.state (disk_of new)).honest ≡ true) (how : Manner) where
    its_kept : (course : Course) (number : ℕ) (stage : Option Held) (part text : List ℕ) (stage' : Option Held) (round : Round) → TakesIts old new (after_rounds s before) how number stage part text course stage' round
        → KeptSo start s course new (before ++ round ∷ [])
    its_kept course number stage part text stage' round takes =
        elim (taken_alone old new (after_rounds s before) how number stage part text course stage' round takes) [
          | inl unsaid ↦ keeps_idle start s before old new kept honest how course round unsaid.came_so unsaid.same
          | inr alone ↦ takes_kept start s before old new kept honest how stage part alone.0 course stage' round alone.1
        ]

    alone_kept : (course : Course) (at at' : Gathering) (rounds : List Round) → CameOf old new (after_rounds s before) how course at at' rounds → KeptSo start s course new (before ++ rounds)
    alone_kept course at at' rounds (inl unasked) =
        subst (λ rs. KeptSo start s course new (before ++ rs)) (sym unasked.came_so)
        (subst (KeptSo start s course new) (sym (append-nil before))
        (kept_so start s course new before (subst (λ (x : Store D members). KeepsOn start s x before) (sym unasked.same) kept)))
    alone_kept course at at' rounds (inr it) =
        subst (λ rs. KeptSo start s course new (before ++ rs)) (sym it.line.came_so)
        (elim (taken_when it.when old new (after_rounds s before) how it.number it.line.stage it.part it.text course it.line.stage' it.line.round it.line.more it.line.takes) [
          | taken_at_once taken ↦ its_kept course it.number it.line.stage it.part it.text it.line.stage' it.line.round taken.takes
          | put_off off ↦ keeps_idle start s before old new kept honest how course it.line.round off.came_so off.same
        ])

  one_kept : (start : DiskState) (s : State) (before : List Round) (old new : Store D members) → KeepsOn start s old before → (members.state (disk_of new)).honest ≡ true → (how : Manner) (course : Course) (at at' : Gathering) (rounds : List Round)
      → CameOfLine old new (after_rounds s before) how course at at' rounds → KeptSo start s course new (before ++ rounds)
  one_kept start s before old new kept honest how course at at' rounds (inl alone) = alone_kept start s before old new kept honest how course at at' rounds alone
  one_kept start s before old new kept honest how course at at' rounds (inr (inl it)) =
      let there = alone_earlier it.mid new (after_rounds (after_rounds s before) it.first) how honest it.next (with_none_waiting at) at' it.later it.came in
      let settled = waiting_kept start s how it.first old it.mid before at.waiting it.said (proceeds it.refused) it.settles there kept in
      let came = subst (λ u. CameOf it.mid new u how it.next (with_none_waiting at) at' it.later) (sym (rounds_append s before it.first)) it.came in
      let all = alone_kept start s (before ++ it.first) it.mid new settled honest how it.next (with_none_waiting at) at' it.later came in
      subst (λ c. KeptSo start s c new (before ++ rounds)) (sym it.goes)
      (then_kept start s how it.refused it.next new (before ++ rounds)
      (subst (KeptSo start s it.next new) (append_assoc before it.first it.later ∙ ap (λ rs. before ++ rs) (sym it.came_so)) all))
  one_kept start s before old new kept honest how course at at' rounds (inr (inr it)) = waiting_kept start s how rounds old new before at.waiting it.text course it.ends.settles honest kept

  -- ---- its rounds are whole

  module _ (old new : Store D members) (t : State) (how : Manner) where
    its_whole : (course : Course) (number : ℕ) (stage : Option Held) (part text : List ℕ) (stage' : Option Held) (round : Round) → TakesIts old new t how number stage part text course stage' round
        → StageChanges how.on_command stage → IsWholeRound round × StageChanges how.on_command stage'
    its_whole course number stage part text stage' round takes all =
        elim (taken_alone old new t how number stage part text course stage' round takes) [
          | inl unsaid ↦ (idle_whole round unsaid.came_so, subst (StageChanges how.on_command) (sym unsaid.held) all)
          | inr alone ↦ takes_whole how old new t part alone.0 course stage' round stage all alone.1
        ]

    -- also if the batch that ends with it waits
    when_whole : (course : Course) (when : When) (number : ℕ) (stage : Option Held) (part text : List ℕ) (stage' : Option Held) (round : Round) (more : List Waiting) → TakesWhen when old new t how number stage part text course stage' round more
        → StageChanges how.on_command stage → IsWholeRound round × StageChanges how.on_command stage' × AllWaiting how.on_command more
    when_whole course when number stage part text stage' round more takes all =
        elim (taken_when when old new t how number stage part text course stage' round more takes) [
          | taken_at_once taken ↦
              let one = its_whole course number stage part text stage' round taken.takes all in
              (one.0, one.1, subst (AllWaiting how.on_command) (sym taken.none) tt)
          | put_off off ↦
              let only = last_changes how.on_command part (use_of how.on_command part) stage off.it refl all off.last in
              (idle_whole round off.came_so, subst (StageChanges how.on_command) (sym off.outside) tt, subst (AllWaiting how.on_command) (sym off.waits) (only, tt))
        ]

    alone_whole : (course : Course) (at at' : Gathering) (rounds : List Round) → CameOf old new t how course at at' rounds → HoldChanges how.on_command at → AllWhole rounds × HoldChanges how.on_command at'
    alone_whole course at at' rounds (inl unasked) all = (
      subst AllWhole (sym unasked.came_so) tt,
      (all_stay (StageChanges how.on_command) tt at.seats at'.seats unasked.seated all.0, subst (AllWaiting how.on_command) (sym unasked.waiting) all.1),
    )
    alone_whole course at at' rounds (inr it) all =
        let P : Option Held → Type 0 = StageChanges how.on_command in
        let line = it.line in
        let parts = all_cut P line.before (seat it.number line.stage) line.behind (subst (AllSeats P) line.sits.cut all.0) in
        let one = when_whole course it.when it.number line.stage it.part it.text line.stage' line.round line.more line.takes parts.1 in (
          subst AllWhole (sym line.came_so) (one.0, tt),
          (
            subst (AllSeats P) (sym line.seated) (all_joined P line.before (seat it.number line.stage' ∷ line.behind) parts.0 (one.1, parts.2)),
            subst (AllWaiting how.on_command) (sym line.waiting) (waiting_more how.on_command at.waiting line.more all.1 one.2),
          ),
        )

  one_whole : (old new : Store D members) (t : State) (how : Manner) (course : Course) (at at' : Gathering) (rounds : List Round) → CameOfLine old new t how course at at' rounds
      → HoldChanges how.on_command at → AllWhole rounds × HoldChanges how.on_command at'
  one_whole old new t how course at at' rounds (inl alone) all = alone_whole old new t how course at at' rounds alone all
  one_whole old new t how course at at' rounds (inr (inl it)) all =
      let first = waiting_whole it.first old it.mid t how at.waiting it.said (proceeds it.refused) it.settles all.1 in
      let rest = alone_whole it.mid new (after_rounds t it.first) how it.next (with_none_waiting at) at' it.later it.came (all.0, tt) in
      (subst AllWhole (sym it.came_so) (whole_append it.first it.later first rest.0), rest.1)
  one_whole old new t how course at at' rounds (inr (inr it)) all =
      (waiting_whole rounds old new t how at.waiting it.text course it.ends.settles all.1, subst (HoldChanges how.on_command) (sym it.ends.held) (all.0, tt))

  -- ---- it only reads, if commands are refused

  module _ (old new : Store D members) (t : State) (how : Manner) (refuses : how.on_command ≡ Refuse) where
    its_passes : (course : Course) (number : ℕ) (stage : Option Held) (part text : List ℕ) (stage' : Option Held) (round : Round) → TakesIts old new t how number stage part text course stage' round
        → IsReading stage → Passes old new None × IsReading stage'
    its_passes course number stage part text stage' round takes reading =
        elim (taken_alone old new t how number stage part text course stage' round takes) [
          | inl unsaid ↦ (passes_left old new unsaid.same, subst IsReading (sym unsaid.held) reading)
          | inr alone ↦ takes_passes how refuses old new t stage reading part alone.0 course stage' round alone.1
        ]

    -- and no batch is put off
    when_passes : (course : Course) (when : When) (number : ℕ) (stage : Option Held) (part text : List ℕ) (stage' : Option Held) (round : Round) (more : List Waiting) → TakesWhen when old new t how number stage part text course stage' round more
        → IsReading stage → Passes old new None × IsReading stage' × (more ≡ [])
    when_passes course when number stage part text stage' round more takes reading =
        elim (taken_when when old new t how number stage part text course stage' round more takes) [
          | taken_at_once taken ↦ let one = its_passes course number stage part text stage' round taken.takes reading in (one.0, one.1, taken.none)
          | put_off off ↦ absurd (never_last part (use_of how.on_command part) stage off.it (subst (λ on. IsOther (use_of on part)) (sym refuses) (use_other part)) reading off.last)
        ]

    alone_passes : (course : Course) (at at' : Gathering) (rounds : List Round) → CameOf old new t how course at at' rounds → AreReading at → Passes old new None × AreReading at'
    alone_passes course at at' rounds (inl unasked) all = (passes_left old new unasked.same, (all_stay IsReading tt at.seats at'.seats unasked.seated all.0, unasked.waiting ∙ all.1))
    alone_passes course at at' rounds (inr it) all =
        let line = it.line in
        let parts = all_cut IsReading line.before (seat it.number line.stage) line.behind (subst (AllSeats IsReading) line.sits.cut all.0) in
        let one = when_passes course it.when it.number line.stage it.part it.text line.stage' line.round line.more line.takes parts.1 in (
          one.0,
          (
            subst (AllSeats IsReading) (sym line.seated) (all_joined IsReading line.before (seat it.number line.stage' ∷ line.behind) parts.0 (one.1, parts.2)),
            line.waiting ∙ ap (λ ws. ws ++ line.more) all.1 ∙ one.2,
          ),
        )

  one_passes : (old new : Store D members) (t : State) (how : Manner) → how.on_command ≡ Refuse → (course : Course) (at at' : Gathering) (rounds : List Round) → CameOfLine old new t how course at at' rounds
      → AreReading at → Passes old new None × AreReading at'
  one_passes old new t how refuses course at at' rounds (inl alone) all = alone_passes old new t how refuses course at at' rounds alone all
  one_passes old new t how refuses course at at' rounds (inr (inl it)) all =
      let same = none_settles it.first old it.mid t how it.said (proceeds it.refused) (subst (λ ws. SettlesWaiting old it.mid t how ws it.said (proceeds it.refused) it.first) all.1 it.settles) in
      let rest = alone_passes it.mid new (after_rounds t it.first) how refuses it.next (with_none_waiting at) at' it.later it.came (all.0, refl) in
      (passes_both old it.mid new (passes_left old it.mid same) rest.0, rest.1)
  one_passes old new t how refuses course at at' rounds (inr (inr it)) all =
      let same = none_settles rounds old new t how it.text course (subst (λ ws. SettlesWaiting old new t how ws it.text course rounds) all.1 it.ends.settles) in
      (passes_left old new same, subst AreReading (sym it.ends.held) (all.0, refl))

-- ---- all of this

pub planners_sound : {D : Type 0} {members : Ghosts D} → IsSound (planners {D = D} {members = members})
planners_sound = record {
  earlier = λ t how course old new at part text at' rounds takes honest. one_earlier old new t how honest course at at' rounds (came_of old new t how at part text course at' rounds takes);
  keeps = λ start s before how course old new at part text at' rounds takes honest kept.
      one_kept start s before old new kept honest how course at at' rounds (came_of old new (after_rounds s before) how at part text course at' rounds takes);
  HoldsChanges = HoldChanges;
  starts_whole = λ on. (tt, tt);
  whole = λ t how course old new at part text at' rounds takes all. one_whole old new t how course at at' rounds (came_of old new t how at part text course at' rounds takes) all;
  IsReading = AreReading;
  starts_reading = (tt, refl);
  passes = λ t how course refuses old new at part text at' rounds takes reading.
      one_passes old new t how refuses course at at' rounds (came_of old new t how at part text course at' rounds takes) reading;
}
