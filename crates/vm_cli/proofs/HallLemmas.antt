-- A line of a stream in which many planners speak.
use Rattle.std.proofs.Common.{◌≡◌, ◌+◌, ◌++◌, ◌∙◌, ◌≤◌, ℕ, zero, suc, Bool, true, false, List, [], ◌∷◌, Option, None, Result, Ok, Err, ap, sym, refl, subst, arith, length, take, ◌-◌, if◌then◌else◌}
use Rattle.std.specs.Io.KnownBytes.{Appends}
use Rattle.vm_types.specs.State.{State}
use Rattle.vm_disk.specs.declared.disk.Disk.{Ghosts}
use Rattle.vm_store.specs.declared.store.Store.{Store}
use Rattle.vm_cli.specs.session.SessionKinds.{Course, Tells, some_lines}
use Rattle.vm_cli.specs.session.SessionKinds.AnswersThen.{answered_so}
use Rattle.vm_cli.specs.session.SessionKinds.Course.{over, proceeds, unwritten}
use Rattle.vm_cli.specs.lines.Input.{KindHolds, ends_with_return, without_return}
use Rattle.vm_cli.specs.lines.Lines.{IsPart}
use Rattle.vm_cli.specs.declared.lines.line.LineKind.{LineKind}
use Rattle.vm_cli.specs.declared.lines.line.LineKind.TheVariants.{Kept}
use Rattle.vm_cli.specs.declared.lines.line.TheConstants.{MAX_BYTES}
use Rattle.vm_cli.specs.session.Feeds.{FeedsOn}
use Rattle.vm_cli.specs.session.PlannerLines.{Saying}
use Rattle.vm_cli.specs.session.PlannerLines.Saying.{says}
use Rattle.vm_cli.specs.session.PlannerCalls.{AnswerGiven, AnswersSeats, AreWaiting, AreWithin, Hall, IsGathering, SettlesQueue, TakesInHall, hall}
use Rattle.vm_cli.specs.session.Known.{Written, between, written_to}
use Rattle.vm_cli.specs.session.Planners.{AreSeats, Gathering, IsAnswered, IsLast, IsPassedBy, Seat, Sits, TakesAlone, TakesBehind, TakesSaying, TakesWhen, gathering, seat, settles_first, with_none_waiting}
use Rattle.vm_cli.specs.session.Planners.IsSpoken.{line_said}
use Rattle.vm_cli.specs.session.Planners.TakesSettled.{ended_settling, settled_first}
use Rattle.vm_cli.specs.session.Rounds.{Round, after_round, after_rounds}
use Rattle.vm_cli.specs.session.StreamCalls.{scene}
use Rattle.vm_cli.specs.session.Streams.{Held, IsStage}
use Rattle.vm_cli.specs.session.Waiting.{HasNoRound, SettlesWaiting, Waiting, then_course}
use Rattle.vm_cli.specs.session.Waiting.HasNoRound.{none_left, writer_failed}
use Rattle.vm_cli.specs.session.Waiting.SettlesSome.{further_rounds, last_round}
use Rattle.vm_cli.specs.declared.session.Manner.{Manner}
use Rattle.vm_cli.specs.declared.session.OnRefusal.TheVariants.{Stop, Tell}
use Rattle.vm_cli.specs.declared.session.ServeFault.{ServeFault}
use Rattle.vm_cli.specs.declared.session.ServeFault.TheVariants as fault
use Rattle.vm_cli.specs.declared.session.planner_line.When.{When}
use Rattle.vm_cli.specs.declared.session.planners.Planner.{Planner}
use Rattle.vm_cli.specs.declared.session.planners.PlannersSession.{PlannersSession}
use Rattle.vm_cli.proofs.CarriedLemmas.{begins-then}
use Rattle.vm_cli.proofs.EndLemmas.{feeds_then}
use Rattle.vm_cli.proofs.FeedLemmas.{joined}
use Rattle.vm_cli.proofs.Known.{Appends-nil, Appends-then}
use Rattle.vm_cli.proofs.SeatLemmas.{within_first, within_joined, within_last, within_more}
use Rattle.vm_cli.proofs.StreamLemmas.{counted_feeds, tells_as, tells_counted}

-- one of them has a batch with at most a line more
pub within_around : (n : ℕ) (before : List Planner) (planner : Planner) (behind : List Planner) (other : Planner) → AreWithin n (before ++ planner ∷ behind) → ((m : ℕ) → planner.batch.count ≤ m → other.batch.count ≤ m + 1)
    → AreWithin (n + 1) (before ++ other ∷ behind)
within_around n before planner behind other within more =
    let last = within_last n before (planner ∷ behind) within in
    within_joined (n + 1) before (other ∷ behind) (within_more n (n + 1) (omega arith) before (within_first n before (planner ∷ behind) within))
    (more n last.0, within_more n (n + 1) (omega arith) behind last.1)

-- ---- the stream

module _ {D : Type 0} {members : Ghosts D} (old new : Store D members) (s : State) (how : Manner) where
  -- a planner said a line, who sits there
  pub said_told : (own : Manner) → own ≡ how → (when : When) (number : ℕ) (part : List ℕ) (at : Gathering) (earlier later : List Seat) (stage : Option Held) → Sits number stage earlier later at.seats
      → (P : Option Held → Type 0) (R : List Waiting → Type 0) (Q : Gathering → Type 0)
      → ((stage' : Option Held) (more : List Waiting) → P stage' → R more → Q (gathering (earlier ++ seat number stage' ∷ later) (at.waiting ++ more)))
      → (result : Result Bool ServeFault) (a b : Option (List ℕ))
      → Tells own (λ text course. (stage' : Option Held) × (round : Round) × (more : List Waiting) × P stage' × R more × TakesWhen when old new s own number stage part text course stage' round more) result (between a b)
      → Tells how (λ text course. (at' : Gathering) × (rounds : List Round) × Q at' × TakesAlone old new s how (says when number part) text course at at' rounds) result (between a b)
  said_told own same when number part at earlier later stage sits P R Q of result a b told =
      tells_as how
      (λ text course. (stage' : Option Held) × (round : Round) × (more : List Waiting) × P stage' × R more × TakesWhen when old new s how number stage part text course stage' round more)
      (λ text course. (at' : Gathering) × (rounds : List Round) × Q at' × TakesAlone old new s how (says when number part) text course at at' rounds)
      (λ text course it. (
        gathering (earlier ++ seat number it.0 ∷ later) (at.waiting ++ it.2),
        it.1 ∷ [],
        of it.0 it.2 it.3 it.4,
        line_said (record { stage = stage; stage' = it.0; before = earlier; behind = later; round = it.1; more = it.2; sits = sits; takes = it.5; seated = refl; waiting = refl; came_so = refl }),
      ))
      result a b
      (subst (λ m. Tells m (λ text course. (stage' : Option Held) × (round : Round) × (more : List Waiting) × P stage' × R more × TakesWhen when old new s m number stage part text course stage' round more) result (between a b)) same told)

-- the store was not asked
answered_told : {D : Type 0} {members : Ghosts D} (store : Store D members) (how : Manner) (IsAnswer : List Seat → List ℕ → ℕ → List Seat → Type 0) (at : Gathering) (planners : List Planner) (Q : Gathering → Type 0)
    (IsSaid : List ℕ → Course → Gathering → List Round → Type 0) → ((seats' : List Seat) → AreSeats planners seats' → Q (gathering seats' at.waiting))
    → ((text : List ℕ) (course : Course) (at' : Gathering) (rounds : List Round) → IsAnswered IsAnswer store store text course at at' rounds → IsSaid text course at' rounds)
    → (result : Result Bool ServeFault) (output : Written) → AnswerGiven IsAnswer how result planners at.seats output
    → Tells how (λ text course. (at' : Gathering) × (rounds : List Round) × Q at' × IsSaid text course at' rounds) result output
answered_told store how IsAnswer at planners Q IsSaid held of result output given =
    tells_counted how (λ text course. (at' : Gathering) × (rounds : List Round) × Q at' × IsSaid text course at' rounds) given.text output.before output.after given.count result (
      gathering given.seats' at.waiting,
      [],
      held given.seats' given.seated,
      of given.text (proceeds (some_lines given.count)) (gathering given.seats' at.waiting) [] (record { count = given.count; answer = given.answer; waiting = refl; same = refl; goes = refl; came_so = refl }),
    ) given.said

-- so it is as it was
answered_feeds : {D : Type 0} {members : Ghosts D} (store : Store D members) (how : Manner) (IsAnswer : List Seat → List ℕ → ℕ → List Seat → Type 0) (planners : List Planner) (seats : List Seat) (result : Result Bool ServeFault) (output : Written)
    → AnswerGiven IsAnswer how result planners seats output → FeedsOn result store store
answered_feeds store how IsAnswer planners seats result output given = counted_feeds store given.text output.before output.after how.on_refusal given.count result given.said

-- what waits is as it was
waits_on : (old new : PlannersSession) → new.waiting.items ≡ old.waiting.items → (at : Gathering) → IsGathering old at → (seats' : List Seat) → AreSeats new.planners.items seats' → IsGathering new (gathering seats' at.waiting)
waits_on old new same at held seats' are = record { seats = are; waiting = subst (λ queue. AreWaiting queue at.waiting) (sym same) held.waiting }

-- what was answered by nobody but the session, as a line of the stream is
pub answered_hall : {D W : Type 0} {members : Ghosts D} (contents : W → Option (List ℕ)) (IsAnswer : List Seat → List ℕ → ℕ → List Seat → Type 0) (store : Store D members)
    (IsSaid : State → Gathering → List ℕ → Course → Gathering → List Round → Type 0) (result : Result Bool ServeFault) (old new : PlannersSession)
    → ((s : State) (at : Gathering) → IsGathering old at → (text : List ℕ) (course : Course) (at' : Gathering) (rounds : List Round) → IsAnswered IsAnswer store store text course at at' rounds → IsSaid s at text course at' rounds)
    → (writer writer' : W) → AnswersSeats IsAnswer result old new (written_to contents writer writer')
    → TakesInHall contents IsSaid result (hall old store writer) (hall new store writer')
answered_hall contents IsAnswer store IsSaid result old new of writer writer' done = record {
  stays = done.stays;
  store = λ at held. answered_feeds store old.session.manner IsAnswer new.planners.items at.seats result (written_to contents writer writer') (done.answered at.seats held.seats);
  taken = λ s at closed held.
      answered_told store old.session.manner IsAnswer at new.planners.items (IsGathering new) (IsSaid s at) (waits_on old new done.waiting at held) (of s at held) result (written_to contents writer writer') (done.answered at.seats held.seats);
}

-- nothing was done
pub passed_by : (session : PlannersSession) (a : Option (List ℕ)) → AnswersSeats IsPassedBy (Ok false) session session (between a a)
passed_by session a = record {
  stays = record { manner = refl; closed = λ is. is; count = λ n within. within_more n (n + 1) (omega arith) session.planners.items within };
  waiting = refl;
  answered = λ seats seated. record { text = []; count = 0; seats' = seats; seated = seated; answer = record { says = refl; refused = refl; seated = refl }; said = answered_so refl (Appends-nil a) };
}

-- what is told of a line is told of the line of the stream
pub hall_as : {D W : Type 0} {members : Ghosts D} (contents : W → Option (List ℕ)) (P Q : State → Gathering → List ℕ → Course → Gathering → List Round → Type 0) (result : Result Bool ServeFault) (old new : Hall D W members)
    → ((s : State) (at : Gathering) → IsGathering old.session at → (text : List ℕ) (course : Course) (at' : Gathering) (rounds : List Round) → P s at text course at' rounds → Q s at text course at' rounds)
    → TakesInHall contents P result old new → TakesInHall contents Q result old new
hall_as contents P Q result old new of done = record {
  stays = done.stays;
  store = done.store;
  taken = λ s at closed held.
      tells_as old.session.session.manner
      (λ text course. (at' : Gathering) × (rounds : List Round) × IsGathering new.session at' × P s at text course at' rounds)
      (λ text course. (at' : Gathering) × (rounds : List Round) × IsGathering new.session at' × Q s at text course at' rounds)
      (λ text course it. (it.0, it.1, it.2, of s at held text course it.0 it.1 it.3)) result _ _ (done.taken s at closed held);
}

-- ---- all that waits is carried out before it

-- where a session ends that writes no more
ended : Course → Course
ended (proceeds refused) = unwritten
ended over = over
ended unwritten = unwritten

ended-last : (course : Course) → IsLast (ended course)
unfolding ended
ended-last (proceeds refused) = tt
ended-last over = tt
ended-last unwritten = tt

ended-then : (refused : Bool) (course : Course) → ended (then_course refused course) ≡ then_course refused (ended course)
unfolding ended
ended-then refused (proceeds again) = refl
ended-then refused over = refl
ended-then refused unwritten = refl

-- no further round comes
no_round_ended : (waiting : List Waiting) (course : Course) → HasNoRound waiting course → HasNoRound waiting (ended course)
unfolding ended
no_round_ended waiting course (none_left empty goes) = writer_failed (ap ended goes)
no_round_ended waiting course (writer_failed goes) = writer_failed (ap ended goes)

-- the writer may have failed in any answer
settles_ended : {D : Type 0} {members : Ghosts D} (how : Manner) (rounds : List Round) (old new : Store D members) (s : State) (waiting : List Waiting) (text : List ℕ) (course : Course) → SettlesWaiting old new s how waiting text course rounds
    → SettlesWaiting old new s how waiting text (ended course) rounds
unfolding ended
settles_ended how [] old new s waiting text course none = record { same = none.same; silent = none.silent; since = no_round_ended waiting course none.since }
settles_ended how (round ∷ rounds) old new s waiting text course (last_round it) = last_round (record { ends = it.ends; last = it.last; goes = ap ended it.goes })
settles_ended how (round ∷ rounds) old new s waiting text course (further_rounds it) = further_rounds (record {
  mid = it.mid;
  rest = it.rest;
  said = it.said;
  more = it.more;
  refused = it.refused;
  next = ended it.next;
  takes = it.takes;
  texts = it.texts;
  goes = ap ended it.goes ∙ ended-then it.refused it.next;
  others = settles_ended how rounds it.mid new (after_round s round) it.rest it.more it.next it.others;
})

-- no line that is refused ends such a session
never_stops : (how : Manner) → how.on_refusal ≡ Tell → how.on_refusal ≡ Stop → ⊥
never_stops how tells stops = let bad : Tell ≡ Stop = sym tells ∙ stops in cc

-- a first text was written, and behind it what is told
tells_then : (how : Manner) → how.on_refusal ≡ Tell → (P Q : List ℕ → Course → Type 0) (refused : Bool) (first : List ℕ) → ((said : List ℕ) (course : Course) → P said course → Q (first ++ said) (then_course refused course))
    → (a b c : Option (List ℕ)) → Appends a b first → (result : Result Bool ServeFault) → Tells how P result (between b c) → Tells how Q (joined refused result) (between a c)
tells_then how tells P Q refused first of a b c all (Ok last) it =
    record { text = first ++ it.text; says = of it.text (proceeds last) it.says; goes_on = λ stops. absurd (never_stops how tells stops); written = Appends-then a b c first it.text all it.written }
tells_then how tells P Q refused first of a b c all (Err fault.Read) told = told
tells_then how tells P Q refused first of a b c all (Err fault.Store) it = record { text = first ++ it.text; says = of it.text over it.says; written = Appends-then a b c first it.text all it.written }
tells_then how tells P Q refused first of a b c all (Err fault.Unsure) it = record { text = first ++ it.text; says = of it.text over it.says; written = Appends-then a b c first it.text all it.written }
tells_then how tells P Q refused first of a b c all (Err fault.Refused) it = absurd (never_stops how tells it.stop)
tells_then how tells P Q refused first of a b c all (Err fault.Write) it = record {
  text = first ++ it.text;
  course = then_course refused it.course;
  says = of it.text it.course it.says;
  begun = begins-then a b c it.text (first ++ it.text) (record { sent = first; split = refl; written = all }) it.begun;
}

-- the session ends in it
tells_last : (how : Manner) → how.on_refusal ≡ Tell → (P Q : List ℕ → Course → Type 0) → ((text : List ℕ) (course : Course) → P text course → Q text (ended course))
    → (why : ServeFault) (a b : Option (List ℕ)) → Tells how P (Err why) (between a b) → Tells how Q (Err why) (between a b)
unfolding ended
tells_last how tells P Q of fault.Read a b told = told
tells_last how tells P Q of fault.Store a b it = record { text = it.text; says = of it.text over it.says; written = it.written }
tells_last how tells P Q of fault.Unsure a b it = record { text = it.text; says = of it.text over it.says; written = it.written }
tells_last how tells P Q of fault.Refused a b it = absurd (never_stops how tells it.stop)
tells_last how tells P Q of fault.Write a b it = record { text = it.text; course = ended it.course; says = of it.text it.course it.says; begun = it.begun }

module _ {D W : Type 0} {members : Ghosts D} (contents : W → Option (List ℕ)) (saying : Saying) (old mid : PlannersSession) (tells : old.session.manner.on_refusal ≡ Tell) (store between : Store D members) (writer writer' : W)
    (first : (at : Gathering) → IsGathering old at → settles_first saying at.waiting ≡ true) (planners : mid.planners.items ≡ old.planners.items) (none : mid.waiting.items ≡ []) where
  abbrev Said : Store D members → State → Gathering → List ℕ → Course → Gathering → List Round → Type 0
  Said new s at text course at' rounds = TakesSaying store new s old.session.manner saying text course at at' rounds

  -- none waits any more
  settled_at : (at : Gathering) → IsGathering old at → IsGathering mid (with_none_waiting at)
  settled_at at held = record { seats = subst (λ them. AreSeats them at.seats) (sym planners) held.seats; waiting = subst (λ queue. AreWaiting queue []) (sym none) tt }

  behind : (new : Store D members) (s : State) (at : Gathering) → IsGathering old at → (text : List ℕ) (course : Course) (at' : Gathering) (rounds : List Round)
      → TakesBehind true store new s old.session.manner saying text course at at' rounds → Said new s at text course at' rounds
  behind new s at held text course at' rounds takes = subst (λ b. TakesBehind b store new s old.session.manner saying text course at at' rounds) (sym (first at held)) takes

  -- the session ends in what waits
  pub hall_ends : (why : ServeFault) → SettlesQueue contents old.waiting.items (Err why) (scene old.session store writer) (scene mid.session between writer')
      → TakesInHall contents (Said between) (Err why) (hall old store writer) (hall mid between writer')
  hall_ends why settled = record {
    stays = record {
      manner = settled.manner;
      closed = λ is. subst (λ batch. IsStage batch None) (sym settled.batch) is;
      count = λ n all. subst (AreWithin (n + 1)) (sym planners) (within_more n (n + 1) (omega arith) old.planners.items all);
    };
    store = λ at held. settled.store;
    taken = λ s at closed held.
        tells_last old.session.manner tells
        (λ text course. (rounds : List Round) × SettlesWaiting store between s old.session.manner at.waiting text course rounds)
        (λ text course. (at' : Gathering) × (rounds : List Round) × IsGathering mid at' × Said between s at text course at' rounds)
        (λ text course it. (
          with_none_waiting at,
          it.0,
          settled_at at held,
          behind between s at held text (ended course) (with_none_waiting at) it.0
              (ended_settling (record { settles = settles_ended old.session.manner it.0 store between s at.waiting text course it.1; last = ended-last course; held = refl })),
        )) why _ _ (settled.settled s at.waiting held.waiting);
  }

  -- or a line is taken behind it
  pub hall_then : (new : PlannersSession) (after : Store D members) (writer'' : W) (refused : Bool) → SettlesQueue contents old.waiting.items (Ok refused) (scene old.session store writer) (scene mid.session between writer')
      → (result : Result Bool ServeFault) → TakesInHall contents (λ s at text course at' rounds. TakesAlone between after s mid.session.manner saying text course at at' rounds) result (hall mid between writer') (hall new after writer'')
      → TakesInHall contents (Said after) (joined refused result) (hall old store writer) (hall new after writer'')
  hall_then new after writer'' refused settled result done = record {
    stays = record {
      manner = done.stays.manner ∙ settled.manner;
      closed = λ is. done.stays.closed (subst (λ batch. IsStage batch None) (sym settled.batch) is);
      count = λ n all. done.stays.count n (subst (AreWithin n) (sym planners) all);
    };
    store = λ at held. feeds_then store between after refused settled.store result (done.store (with_none_waiting at) (settled_at at held));
    taken = λ s at closed held.
        let first_told = settled.settled s at.waiting held.waiting in
        let said = first_told.text in
        let rounds = first_told.says.0 in
        let here = after_rounds s rounds in
        tells_then old.session.manner tells
        (λ text course. (at' : Gathering) × (later : List Round) × IsGathering new at' × TakesAlone between after here old.session.manner saying text course (with_none_waiting at) at' later)
        (λ text course. (at' : Gathering) × (later : List Round) × IsGathering new at' × Said after s at text course at' later)
        refused said
        (λ more course it. (
          it.0,
          rounds ++ it.1,
          it.2,
          behind after s at held (said ++ more) (then_course refused course) it.0 (rounds ++ it.1)
              (settled_first (record {
                mid = between;
                said = said;
                more = more;
                first = rounds;
                later = it.1;
                refused = refused;
                next = course;
                settles = first_told.says.1;
                takes = it.3;
                texts = refl;
                goes = refl;
                came_so = refl;
              })),
        ))
        _ (contents writer') _ first_told.written result
        (subst (λ m. Tells m (λ text course. (at' : Gathering) × (later : List Round) × IsGathering new at' × TakesAlone between after here m saying text course (with_none_waiting at) at' later) result (written_to contents writer' writer'')) settled.manner
        (done.taken here (with_none_waiting at) (subst (λ batch. IsStage batch None) (sym settled.batch) closed) (settled_at at held)));
  }

-- ---- a line without its carriage return

first_part : (n : ℕ) (bytes : List ℕ) → IsPart bytes → IsPart (take n bytes)
first_part zero bytes part = tt
first_part (suc n) [] part = tt
first_part (suc n) (b ∷ bytes) part = (part.0, first_part n bytes part.1)

either_part : (b : Bool) (first second : List ℕ) → IsPart first → IsPart second → IsPart (if b then first else second)
either_part true first second p q = p
either_part false first second p q = q

pub part_kept : (kind : LineKind) → kind ≡ Kept → (bytes part : List ℕ) → KindHolds kind bytes part → (without_return bytes ≡ without_return part) × (length part ≤ MAX_BYTES)
part_kept kind is bytes part holds_so = let kept = subst (λ k. KindHolds k bytes part) is holds_so in (ap without_return kept.0, kept.1)

pub part_text : (part : List ℕ) → IsPart part → IsPart (without_return part)
part_text part unbroken = either_part (ends_with_return part) _ part (first_part (length part - 1) part unbroken) unbroken
