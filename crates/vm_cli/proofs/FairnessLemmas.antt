-- At most one batch of each planner waits.
use Rattle.std.proofs.Common.{◌≡◌, ◌==◌, ◌||◌, ◌++◌, ◌∙◌, ℕ, Bool, true, false, List, [], ◌∷◌, Option, Result, Ok, Err, ap, sym, refl, subst, append-nil, arith}
use Rattle.std.proofs.lemmas.Bool.Decides.{nat_tests}
use Rattle.vm_types.specs.State.{State}
use Rattle.vm_disk.specs.declared.disk.Disk.{Ghosts}
use Rattle.vm_store.specs.declared.store.Store.{Store}
use Rattle.vm_cli.specs.session.SessionKinds.{Course, HasTaken, LastAnswered, LastRefused, ServesStream, TakesEach}
use Rattle.vm_cli.specs.session.SessionKinds.LastAnswered.{end_answered, line_answered}
use Rattle.vm_cli.specs.session.SessionKinds.LastRefused.{end_refuses, line_refused}
use Rattle.vm_cli.specs.session.SessionKinds.Course.{proceeds}
use Rattle.vm_cli.specs.session.Fairness.{AllWaitOnce, WaitOnce, gatherings_after, gatherings_in, gatherings_of}
use Rattle.vm_cli.specs.lines.Input.{without_return}
use Rattle.vm_cli.specs.session.Known.{SessionStreams}
use Rattle.vm_cli.specs.session.PlannerLines.{Saying, saying_of}
use Rattle.vm_cli.specs.session.PlannerLines.Saying.{joins, leaves, nothing, releases, says, strange}
use Rattle.vm_cli.specs.session.Planners.{Gathering, TakesAlone, TakesBehind, TakesOne, TakesWhen, gathering, planners, settles_first, with_none_waiting}
use Rattle.vm_cli.specs.session.Planners.IsSpoken.{line_said, not_joined}
use Rattle.vm_cli.specs.session.Planners.TakesLater.{put_off, taken_at_once}
use Rattle.vm_cli.specs.session.Planners.TakesOne.{line_taken, line_too_long, no_memory_for_line}
use Rattle.vm_cli.specs.session.Planners.TakesSettled.{ended_settling, settled_first}
use Rattle.vm_cli.specs.session.Rounds.{Round, after_rounds}
use Rattle.vm_cli.specs.session.Streams.{Held}
use Rattle.vm_cli.specs.session.Waiting.{Waiting, waits}
use Rattle.vm_cli.specs.declared.session.Manner.{Manner}
use Rattle.vm_cli.specs.declared.session.ServeFault.{ServeFault}
use Rattle.vm_cli.specs.declared.session.ServeFault.TheVariants as fault
use Rattle.vm_cli.specs.declared.session.planner_line.When.{When}
use Rattle.vm_cli.specs.declared.session.planner_line.When.TheVariants.{Later, Now}

-- ---- one more batch waits

same_numbers : (a b : ℕ) → (a == b) ≡ (b == a)
same_numbers a b = grind (arith, nat_tests)

neither : (a b : Bool) → (a || b) ≡ false → (a ≡ false) × (b ≡ false)
neither false b none = (refl, none)
neither true b none = cc

-- another planner's batch is put behind them
waits_behind : (number : ℕ) (waiting : List Waiting) (it : Waiting) → waits number waiting ≡ false → (it.number == number) ≡ false → waits number (waiting ++ it ∷ []) ≡ false
waits_behind number [] it none other = ap (λ b. b || false) other
waits_behind number (first ∷ waiting) it none other =
    let apart = neither (first.number == number) (waits number waiting) none in
    ap (λ b. b || waits number (waiting ++ it ∷ [])) apart.0 ∙ waits_behind number waiting it apart.1 other

once_behind : (waiting : List Waiting) (it : Waiting) → WaitOnce waiting → waits it.number waiting ≡ false → WaitOnce (waiting ++ it ∷ [])
once_behind [] it once none = (refl, tt)
once_behind (first ∷ waiting) it once none =
    let apart = neither (first.number == it.number) (waits it.number waiting) none in
    (waits_behind first.number waiting it once.0 (same_numbers it.number first.number ∙ apart.0), once_behind waiting it once.1 apart.1)

-- ---- a line

-- the planner who says a line has none that waits
abbrev IsFree : Saying → List Waiting → Type 0
IsFree (says when number part) waiting = waits number waiting ≡ false
IsFree saying waiting = Unit {0}

free_unsettled : (saying : Saying) (waiting : List Waiting) → settles_first saying waiting ≡ false → IsFree saying waiting
free_unsettled nothing waiting none = tt
free_unsettled strange waiting none = tt
free_unsettled releases waiting none = tt
free_unsettled (joins number) waiting none = tt
free_unsettled (leaves number) waiting none = tt
free_unsettled (says when number part) waiting none = none

free_settled : (saying : Saying) → IsFree saying []
free_settled nothing = tt
free_settled strange = tt
free_settled releases = tt
free_settled (joins number) = tt
free_settled (leaves number) = tt
free_settled (says when number part) = refl

module _ {D : Type 0} {members : Ghosts D} (old new : Store D members) (s : State) (how : Manner) where
  put_once : (when : When) (number : ℕ) (stage : Option Held) (part text : List ℕ) (course : Course) (stage' : Option Held) (round : Round) (waiting more : List Waiting)
      → TakesWhen when old new s how number stage part text course stage' round more → waits number waiting ≡ false → WaitOnce waiting → WaitOnce (waiting ++ more)
  put_once Now number stage part text course stage' round waiting more its free once = subst (λ m. WaitOnce (waiting ++ m)) (sym its.none) (subst WaitOnce (sym (append-nil waiting)) once)
  put_once Later number stage part text course stage' round waiting more (taken_at_once its) free once = subst (λ m. WaitOnce (waiting ++ m)) (sym its.none) (subst WaitOnce (sym (append-nil waiting)) once)
  put_once Later number stage part text course stage' round waiting more (put_off off) free once =
      subst (λ m. WaitOnce (waiting ++ m)) (sym off.waits) (once_behind waiting off.it once (ap (λ n. waits n waiting) off.own ∙ free))

  alone_once : (saying : Saying) (text : List ℕ) (course : Course) (at at' : Gathering) (rounds : List Round) → TakesAlone old new s how saying text course at at' rounds
      → IsFree saying at.waiting → WaitOnce at.waiting → WaitOnce at'.waiting
  alone_once nothing text course at at' rounds takes free once = subst WaitOnce (sym takes.waiting) once
  alone_once strange text course at at' rounds takes free once = subst WaitOnce (sym takes.waiting) once
  alone_once releases text course at at' rounds takes free once = subst WaitOnce (sym takes.waiting) once
  alone_once (joins number) text course at at' rounds takes free once = subst WaitOnce (sym takes.waiting) once
  alone_once (leaves number) text course at at' rounds takes free once = subst WaitOnce (sym takes.waiting) once
  alone_once (says when number part) text course at at' rounds (line_said said) free once =
      subst WaitOnce (sym said.waiting) (put_once when number said.stage part text course said.stage' said.round at.waiting said.more said.takes free once)
  alone_once (says when number part) text course at at' rounds (not_joined unknown) free once = subst WaitOnce (sym unknown.waiting) once

module _ {D : Type 0} {members : Ghosts D} (old new : Store D members) (s : State) (how : Manner) where
  behind_once : (settles : Bool) (saying : Saying) (text : List ℕ) (course : Course) (at at' : Gathering) (rounds : List Round) → settles_first saying at.waiting ≡ settles
      → TakesBehind settles old new s how saying text course at at' rounds → WaitOnce at.waiting → WaitOnce at'.waiting
  behind_once false saying text course at at' rounds is takes once = alone_once old new s how saying text course at at' rounds takes (free_unsettled saying at.waiting is) once
  behind_once true saying text course at at' rounds is (settled_first first) once =
      alone_once first.mid new (after_rounds s first.first) how saying first.more first.next (with_none_waiting at) at' first.later first.takes (free_settled saying) tt
  behind_once true saying text course at at' rounds is (ended_settling ends) once = subst (λ (it : Gathering). WaitOnce it.waiting) (sym ends.held) tt

  -- a line leaves at most one batch of each planner waiting, if no more than that waited before it
  line_once : (at : Gathering) (part text : List ℕ) (course : Course) (at' : Gathering) (rounds : List Round) → TakesOne old new s how at part text course at' rounds
      → WaitOnce at.waiting → WaitOnce at'.waiting
  line_once at part text course at' rounds (no_memory_for_line wanting) once = subst WaitOnce (sym wanting.waiting) once
  line_once at part text course at' rounds (line_too_long long told) once = subst WaitOnce (sym told.waiting) once
  line_once at part text course at' rounds (line_taken short takes) once =
      behind_once (settles_first (saying_of (without_return part)) at.waiting) (saying_of (without_return part)) text course at at' rounds refl takes once

-- ---- all lines

module _ {D : Type 0} {members : Ghosts D} where
  each_once : (old new : Store D members) (s : State) (how : Manner) (at : Gathering) (parts : List (List ℕ)) (text : List ℕ) (at' : Gathering) (rounds : List Round) (again : Bool)
      (each : TakesEach planners old new s how at parts text at' rounds again) → WaitOnce at.waiting → AllWaitOnce (gatherings_after old new s how at parts text at' rounds again each)
  each_once old new s how at [] text at' rounds again each once = tt
  each_once old new s how at (part ∷ parts) text at' rounds again it once =
      let here = line_once old it.mid s how at part it.said (proceeds it.refused) it.next it.first it.takes once in
      (here, each_once it.mid new (after_rounds s it.first) how it.next parts it.rest at' it.later it.others it.more here)

module _ {D : Type 0} {members : Ghosts D} (old new : Store D members) (s : State) (how : Manner) where
  taken_once : (mid : Store D members) (parts : List (List ℕ)) (text : List ℕ) (at : Gathering) (again : Bool) (taken : HasTaken planners old mid s how parts text at again) → AllWaitOnce (gatherings_in taken)
  taken_once mid parts text at again taken = each_once old mid s how (gathering [] []) parts text at taken.rounds again taken.each tt

  -- so it is in a whole session
  pub stream_once : (result : Result Bool ServeFault) (known : SessionStreams) (serves : ServesStream planners old new s how result known) → AllWaitOnce (gatherings_of serves)
  stream_once (Ok refused) known serves = let it = serves.served.ended in taken_once new it.parts it.earlier it.stage serves.served.again it.taken
  stream_once (Err fault.Read) known serves = let it = serves.served in taken_once new it.parts it.text it.stage it.again it.taken
  stream_once (Err fault.Store) known serves = let it = serves.served.ended in taken_once it.mid it.parts it.earlier it.stage it.again it.taken
  stream_once (Err fault.Unsure) known serves = let it = serves.served.ended in taken_once it.mid it.parts it.earlier it.stage it.again it.taken
  stream_once (Err fault.Refused) known serves = by serves.served.last
    where
      by : (all : LastRefused planners old new s how serves.input serves.served.text)
          → AllWaitOnce (elim all [ line_refused ended ↦ gatherings_in ended.taken | end_refuses again ended ↦ gatherings_in ended.taken ])
      by (line_refused it) = taken_once it.mid it.parts it.earlier it.stage it.again it.taken
      by (end_refuses again it) = taken_once new it.parts it.earlier it.stage again it.taken
  stream_once (Err fault.Write) known serves = by serves.served.last
    where
      by : (all : LastAnswered planners old new s how serves.input serves.served.text)
          → AllWaitOnce (elim all [ line_answered course ended ↦ gatherings_in ended.taken | end_answered again last ended ↦ gatherings_in ended.taken ])
      by (line_answered course it) = taken_once it.mid it.parts it.earlier it.stage it.again it.taken
      by (end_answered again last it) = taken_once new it.parts it.earlier it.stage again it.taken
