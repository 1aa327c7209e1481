-- A batch that ends with a line, and waits, or is carried out at once.
use Rattle.std.proofs.Common.{◌≡◌, ◌∙◌, inl, inr, ◌+◌, ◌<◌, ◌≤◌, ◌++◌, ℕ, Bool, true, false, List, [], ◌∷◌, Option, None, Some, Result, Ok, length, ap, sym, refl, subst, arith}
use Rattle.std.specs.Io.KnownBytes.{Appends}
use Rattle.vm_types.specs.State.{State}
use Rattle.vm_disk.specs.declared.disk.Disk.{Ghosts}
use Rattle.vm_store.specs.declared.store.Store.{Store}
use Rattle.vm_cli.specs.session.Known.{between, written_to}
use Rattle.vm_cli.specs.session.SessionKinds.{Course, Tells}
use Rattle.vm_cli.specs.lines.Input.{HoldsLine}
use Rattle.vm_cli.specs.session.LineUses.{IsUse, use_of}
use Rattle.vm_cli.specs.session.PlannerCalls.{AreWaiting, IsWaiting, PutsBehind, WaitsBehind}
use Rattle.vm_cli.specs.session.Planners.{IsLastOf, TakesIts, TakesWhen, is_heard, is_last_in, is_some}
use Rattle.vm_cli.specs.session.Planners.TakesLater.{put_off, taken_at_once}
use Rattle.vm_cli.specs.session.Rounds.{Round}
use Rattle.vm_cli.specs.session.Rounds.Round.{idle}
use Rattle.vm_cli.specs.session.StreamCalls.{SaysThen, SettlesBatch, scene}
use Rattle.vm_cli.specs.session.Streams.{Adds, Held, IsHeld, IsHeldBy, IsStage, SettlesHeld, TakesAs, Verdict, batch_course, batch_text, count_of, settled_text, verdict_result}
use Rattle.vm_cli.specs.session.Streams.AddsTo.{batch_too_large, line_added, no_memory_for_change}
use Rattle.vm_cli.specs.session.Streams.Held.{holds, lost}
use Rattle.vm_cli.specs.session.Waiting.{Waiting, label}
use Rattle.vm_cli.specs.declared.lines.line.Line.{Line}
use Rattle.vm_cli.specs.declared.session.Manner.{Manner}
use Rattle.vm_cli.specs.declared.session.OnCommand.{OnCommand}
use Rattle.vm_cli.specs.declared.session.ServeFault.{ServeFault}
use Rattle.vm_cli.specs.declared.session.batch.Batch.{Batch}
use Rattle.vm_cli.specs.declared.session.batch.Lost.{Lost}
use Rattle.vm_cli.specs.declared.session.batches.BatchSession.{BatchSession}
use Rattle.vm_cli.specs.declared.session.line_use.LineUse.{LineUse}
use Rattle.vm_cli.specs.declared.session.line_use.LineUse.TheVariants as line
use Rattle.vm_cli.specs.declared.session.planner_line.When.{When}
use Rattle.vm_cli.specs.declared.session.planner_line.When.TheVariants.{Later, Now}
use Rattle.vm_cli.specs.declared.session.waiting.WaitingBatch.{WaitingBatch}
use Rattle.vm_cli.proofs.BatchLemmas.{held_length}
use Rattle.vm_cli.proofs.Known.{Appends-nil}
use Rattle.vm_cli.proofs.PassLemmas.{never_both}
use Rattle.vm_cli.proofs.QueueLemmas.{queue_more, queue_same}
use Rattle.vm_cli.proofs.PlannerLemmas.{told_as}
use Rattle.vm_cli.proofs.StreamLemmas.{tells_as, tells_verdict}

-- ---- a batch is put behind those that wait

-- it has lines, and none is lost
some_held : (was : Option Lost) (lines : List Line) (count bytes : ℕ) (held : Held) → IsHeldBy was lines count bytes held → was ≡ None → 0 < length lines → (first : List ℕ) × (others : List (List ℕ)) × (held ≡ holds (first ∷ others))
some_held was lines count bytes (holds []) is none some = absurd (omega (arith, some, held_length lines [] is.1))
some_held was lines count bytes (holds (first ∷ others)) is none some = (first, others, refl)
some_held was lines count bytes (lost place answer all) is none some = let found : was ≡ Some is.0 = is.1 in cc

pub queue_put : (number : ℕ) (batch : Batch) (own : WaitingBatch) → own.number ≡ number → own.batch ≡ batch → batch.lost ≡ None → 0 < length batch.lines.items → (queue queue' : List WaitingBatch) → queue' ≡ queue ++ own ∷ []
    → (held : Held) → IsHeld batch held → WaitsBehind number batch.is_open queue queue' held
queue_put number batch own named same none some queue queue' more held is =
    let lines = some_held batch.lost batch.lines.items batch.count batch.bytes held is none some in
    let it : Waiting = record { number = number; is_begun = batch.is_open; lines = lines.0 ∷ lines.1 } in
    let waits : IsWaiting own it = record {
      number = named;
      begun = ap (λ (b : Batch). b.is_open) same;
      lines = subst (λ (b : Batch). IsHeld b (holds (lines.0 ∷ lines.1))) (sym same) (subst (IsHeld batch) lines.2 is);
    } in
    record { first = lines.0; lines = lines.1; some = lines.2; waits = λ waiting are. subst (λ them. AreWaiting them (waiting ++ it ∷ [])) (sym more) (queue_more queue waiting own it are waits) }

-- ---- a line with which a batch ends

-- memory did not run out in it
pub use_found : (on : OnCommand) (part : List ℕ) (in_batch : Bool) (used : LineUse) → is_last_in in_batch used ≡ true → IsUse on part used → used ≡ use_of on part
use_found on part in_batch used last (inr is) = is
use_found on part true used last (inl is) = let bad : false ≡ true = ap (is_last_in true) (sym is) ∙ last in cc
use_found on part false used last (inl is) = let bad : false ≡ true = ap (is_last_in false) (sym is) ∙ last in cc

pub heard_last : (in_batch : Bool) (used : LineUse) → is_last_in in_batch used ≡ true → is_heard in_batch used ≡ true
heard_last in_batch line.Commit last = refl
heard_last false line.Change last = refl
heard_last in_batch used last = cc

-- as the batch is held that ends with it
abbrev pub IsEnding : LineUse → Option Held → List ℕ → Held → Type 0
IsEnding line.Commit (Some held) part whole = whole ≡ held
IsEnding line.Change None part whole = Adds part (holds []) whole
IsEnding used stage part whole = ⊥

ending_last : (used : LineUse) (stage : Option Held) (part : List ℕ) (whole : Held) → IsEnding used stage part whole → (first : List ℕ) (lines : List (List ℕ)) → whole ≡ holds (first ∷ lines)
    → (it : Waiting) → it.is_begun ≡ is_some stage → it.lines ≡ first ∷ lines → IsLastOf used stage part it
ending_last line.Commit (Some (holds [])) part whole is first lines some it begun them = cc
ending_last line.Commit (Some (holds (f ∷ others))) part whole is first lines some it begun them = (begun, cc)
ending_last line.Commit (Some (lost place answer count)) part whole is first lines some it begun them = cc
ending_last line.Change None part whole (line_added is) first lines some it begun them = (begun, cc)
ending_last line.Change None part whole (no_memory_for_change is) first lines some it begun them = cc
ending_last line.Change None part whole (batch_too_large is large) first lines some it begun them = cc
ending_last used stage part whole is first lines some it begun them = absurd is

-- it is carried out
pub ending_settles : {D : Type 0} {members : Ghosts D} (old new : Store D members) (s : State) (how : Manner) (used : LineUse) (stage : Option Held) (part : List ℕ) (whole : Held) → IsEnding used stage part whole
    → (verdict : Verdict) (round : Round) → SettlesHeld old new s how whole verdict round → TakesAs old new s how used stage part (settled_text (is_some stage) (count_of whole) verdict) (batch_course verdict) None round
ending_settles old new s how line.Commit (Some held) part whole is verdict round settles = record {
  verdict = verdict;
  settles = subst (λ h. SettlesHeld old new s how h verdict round) is settles;
  says = ap (λ h. batch_text (count_of h) verdict) is;
  goes = refl;
  outside = refl;
}
ending_settles old new s how line.Change None part whole is verdict round settles = record { held = whole; adds = is; verdict = verdict; settles = settles; says = refl; goes = refl; outside = refl }
ending_settles old new s how used stage part whole is verdict round settles = absurd is

-- whether it was begun
pub stage_begun : (batch : Batch) (stage : Option Held) → IsStage batch stage → batch.is_open ≡ is_some stage
stage_begun batch None is = is.0
stage_begun batch (Some held) is = is.0

-- the batch is held so, and ends with the line
pub record IsReady (used : LineUse) (said : Line) (old new : Batch) : Type 0 where
  pub begun : new.is_open ≡ old.is_open
  pub ending : (stage : Option Held) (part : List ℕ) → IsStage old stage → HoldsLine said part → (whole : Held) × IsHeld new whole × IsEnding used stage part whole

-- one that was begun
pub ready_begun : (used : LineUse) (said : Line) (old new : Batch) → new ≡ old → old.is_open ≡ true → is_last_in true used ≡ true → IsReady used said old new
ready_begun used said old new same begun last = record {
  begun = ap (λ (b : Batch). b.is_open) same;
  ending = by;
}
  where
    commits : (used : LineUse) → is_last_in true used ≡ true → (part : List ℕ) (held : Held) → IsEnding used (Some held) part held
    commits line.Commit last part held = refl
    commits used last part held = cc

    by : (stage : Option Held) (part : List ℕ) → IsStage old stage → HoldsLine said part → (whole : Held) × IsHeld new whole × IsEnding used stage part whole
    by None part is holding = absurd (never_both _ is.0 begun)
    by (Some held) part is holding = (held, subst (λ (b : Batch). IsHeld b held) (sym same) is.1, commits used last part held)

-- or a change that is one of its own
pub ready_alone : (used : LineUse) (said : Line) (old new : Batch) → new.is_open ≡ old.is_open → old.is_open ≡ false → is_last_in false used ≡ true
    → ((held : Held) (part : List ℕ) → IsHeld old held → HoldsLine said part → (held' : Held) × IsHeld new held' × Adds part held held') → IsReady used said old new
ready_alone used said old new same closed last adds = record { begun = same; ending = by }
  where
    changes : (used : LineUse) → is_last_in false used ≡ true → (part : List ℕ) (whole : Held) → Adds part (holds []) whole → IsEnding used None part whole
    changes line.Change last part whole added = added
    changes used last part whole added = cc

    by : (stage : Option Held) (part : List ℕ) → IsStage old stage → HoldsLine said part → (whole : Held) × IsHeld new whole × IsEnding used stage part whole
    by None part is holding = let added = adds (holds []) part is.1 holding in (added.0, added.1, changes used last part added.0 added.2)
    by (Some held) part is holding = absurd (never_both _ closed is.0)

-- ---- it is taken

module _ {D : Type 0} {members : Ghosts D} (old new : Store D members) (s : State) (how : Manner) (number : ℕ) (stage : Option Held) (part : List ℕ) where
  at_once : (when : When) (text : List ℕ) (course : Course) (stage' : Option Held) (round : Round) → TakesIts old new s how number stage part text course stage' round → TakesWhen when old new s how number stage part text course stage' round []
  at_once Now text course stage' round takes = record { takes = takes; none = refl }
  at_once Later text course stage' round takes = taken_at_once (record { takes = takes; none = refl })

  -- at once
  pub told_at_once : (when : When) (queue queue' : List WaitingBatch) → queue' ≡ queue → (P : Option Held → Type 0) (result : Result Bool ServeFault) (a b : Option (List ℕ))
      → Tells how (λ text course. (stage' : Option Held) × (round : Round) × P stage' × TakesIts old new s how number stage part text course stage' round) result (between a b)
      → Tells how (λ text course. (stage' : Option Held) × (round : Round) × (more : List Waiting) × P stage' × ((waiting : List Waiting) → AreWaiting queue waiting → AreWaiting queue' (waiting ++ more))
      × TakesWhen when old new s how number stage part text course stage' round more) result (between a b)
  told_at_once when queue queue' same P result a b told =
      tells_as how
      (λ text course. (stage' : Option Held) × (round : Round) × P stage' × TakesIts old new s how number stage part text course stage' round)
      (λ text course. (stage' : Option Held) × (round : Round) × (more : List Waiting) × P stage' × ((waiting : List Waiting) → AreWaiting queue waiting → AreWaiting queue' (waiting ++ more))
      × TakesWhen when old new s how number stage part text course stage' round more)
      (λ text course it. (it.0, it.1, [], it.2, (λ waiting are. subst (λ them. AreWaiting them (waiting ++ [])) (sym same) (queue_same queue waiting are)), at_once when text course it.0 it.1 it.3)) result a b told

-- or it waits
pub told_later : {D : Type 0} {members : Ghosts D} (store : Store D members) (s : State) (how : Manner) (number : ℕ) (stage : Option Held) (part : List ℕ) (used : LineUse) (said : Line) (queue queue' : List WaitingBatch) (before after held : BatchSession)
    → IsReady used said before.batch held.batch → is_last_in before.batch.is_open used ≡ true → IsUse how.on_command part used → PutsBehind number queue queue' held after → IsStage before.batch stage → HoldsLine said part → (a : Option (List ℕ))
    → Tells how (λ text course. (stage' : Option Held) × (round : Round) × (more : List Waiting) × IsStage after.batch stage' × ((waiting : List Waiting) → AreWaiting queue waiting → AreWaiting queue' (waiting ++ more))
    × TakesWhen Later store store s how number stage part text course stage' round more) (Ok false) (between a a)
told_later store s how number stage part used said queue queue' before after held ready last is put staged holding a =
    let whole = ready.ending stage part staged holding in
    let waits = put.waits whole.0 whole.1 in
    let it : Waiting = record { number = number; is_begun = held.batch.is_open; lines = waits.first ∷ waits.lines } in
    let ends : IsLastOf used stage part it = ending_last used stage part whole.0 whole.2 waits.first waits.lines waits.some it (ready.begun ∙ stage_begun before.batch stage staged) refl in
    record {
      text = [];
      says = (
        None,
        idle,
        it ∷ [],
        put.closed,
        waits.waits,
        put_off (record {
          it = it;
          own = refl;
          last = subst (λ u. IsLastOf u stage part it) (use_found how.on_command part before.batch.is_open used last is) ends;
          same = refl;
          says = refl;
          goes = refl;
          outside = refl;
          came_so = refl;
          waits = refl;
        }),
      );
      goes_on = λ stop. refl;
      written = Appends-nil a;
    }

-- or it is carried out, behind its label
pub told_settled : {D W : Type 0} {members : Ghosts D} (contents : W → Option (List ℕ)) (old new : Store D members) (s : State) (how : Manner) (number : ℕ) (stage : Option Held) (part : List ℕ) (used : LineUse) (said : Line) (before : Batch) (labelled after : BatchSession) (begin middle end : W)
    → IsReady used said before labelled.batch → is_last_in before.is_open used ≡ true → IsUse how.on_command part used → labelled.manner ≡ how → Appends (contents begin) (contents middle) (label number)
    → (result : Result Bool ServeFault) → SettlesBatch contents before.is_open result (scene labelled old middle) (scene after new end) → IsStage before stage → HoldsLine said part
    → Tells how (λ text course. (stage' : Option Held) × (round : Round) × IsStage after.batch stage' × TakesIts old new s how number stage part text course stage' round) result (written_to contents begin end)
told_settled contents old new s how number stage part used said before labelled after begin middle end ready last is same written result settles staged holding =
    let whole = ready.ending stage part staged holding in
    let settled = settles.settled s whole.0 whole.1 in
    let begun = stage_begun before stage staged in
    told_as old new s how used number part is labelled.manner same (IsStage after.batch) result (contents begin) (contents middle) (contents end) true written stage
    (sym (heard_last before.is_open used last) ∙ ap (λ b. is_heard b used) begun)
    (tells_verdict labelled.manner
    (λ text course. (stage' : Option Held) × (round : Round) × IsStage after.batch stage' × TakesAs old new s labelled.manner used stage part text course stage' round)
    (settled_text (is_some stage) (count_of whole.0) settled.verdict) (contents middle) (contents end) settled.verdict result
    (None, settled.round, settles.closed, ending_settles old new s labelled.manner used stage part whole.0 whole.2 settled.verdict settled.round settled.settles)
    (subst (λ b. SaysThen contents (settled_text b (count_of whole.0) settled.verdict) (verdict_result labelled.manner settled.verdict) result middle end) begun settled.said))

-- ---- the session in which it is taken

-- a change that is one of its own is held, or nothing is done
pub record IsHeldFor (used : LineUse) (said : Line) (old new : BatchSession) : Type 0 where
  pub manner : new.manner ≡ old.manner
  pub count : new.batch.count ≤ old.batch.count + 1
  pub begun : old.batch.is_open ≡ true → new.batch ≡ old.batch
  pub ready : IsReady used said old.batch new.batch

-- a session holds no batch that held none
pub left_alone : (before after : Batch) → before.is_open ≡ false → IsStage after None → (stage : Option Held) → IsStage before stage → IsStage after stage
left_alone before after closed none None staged = none
left_alone before after closed none (Some held) staged = absurd (never_both _ closed staged.0)
