-- Many planners in one stream.
use Rattle.std.proofs.Common.{◌≡◌, inl, inr, ◌+◌, ◌++◌, ◌∙◌, ℕ, Bool, true, false, List, [], Option, None, Some, Result, Ok, Err, ap, sym, refl, subst, arith, length}
use Rattle.std.specs.Int.{from_bool}
use Rattle.std.specs.Io.KnownBytes.{Appends}
use Rattle.vm_types.specs.State.{State}
use Rattle.vm_disk.specs.declared.disk.Disk.{Ghosts}
use Rattle.vm_store.specs.declared.store.Store.{Store}
use Rattle.vm_cli.specs.answers.Carried.{WritesStart}
use Rattle.vm_cli.specs.session.Known.{between}
use Rattle.vm_cli.specs.session.SessionKinds.{AnswersThen, Course, Puts, Tells}
use Rattle.vm_cli.specs.session.SessionKinds.AnswersThen.{answer_cut}
use Rattle.vm_cli.specs.session.SessionKinds.Course.{over, proceeds, unwritten}
use Rattle.vm_cli.specs.session.LineUses.{IsUse}
use Rattle.vm_cli.specs.session.Planners.{Seat, TakesIts, is_heard, is_some, label_if, parting_text, seat}
use Rattle.vm_cli.specs.session.Planners.TakesIts.{taken_for_use, taken_without_memory, unlabelled}
use Rattle.vm_cli.specs.answers.Replies.{reply_text}
use Rattle.vm_cli.specs.session.Rounds.{Round}
use Rattle.vm_cli.specs.session.Rounds.Round.{idle}
use Rattle.vm_cli.specs.session.PlannerCalls.{IsWaiting}
use Rattle.vm_cli.specs.session.Streams.{Held, IsStage, TakesAs, TakesInside, TakesOutside, forgotten_text, repeated}
use Rattle.vm_cli.specs.session.Streams.Held.{holds}
use Rattle.vm_cli.specs.session.Waiting.{Waiting, label, owed}
use Rattle.vm_cli.specs.declared.answers.reply.Reply.TheVariants as reply
use Rattle.vm_cli.specs.declared.session.Manner.{Manner}
use Rattle.vm_cli.specs.declared.session.ServeFault.{ServeFault}
use Rattle.vm_cli.specs.declared.session.ServeFault.TheVariants as fault
use Rattle.vm_cli.specs.declared.session.batch.Batch.{Batch}
use Rattle.vm_cli.specs.declared.session.line_use.LineUse.{LineUse}
use Rattle.vm_cli.specs.declared.session.planners.Planner.{Planner}
use Rattle.vm_cli.specs.declared.session.waiting.WaitingBatch.{WaitingBatch}
use Rattle.vm_cli.proofs.BatchLemmas.{held_count}
use Rattle.vm_cli.proofs.CarriedLemmas.{begins-more, begins-then}
use Rattle.vm_cli.proofs.Known.{Appends-then}
use Rattle.vm_cli.proofs.PassLemmas.{never_both}
use Rattle.vm_cli.proofs.RepeatedLemmas.{repeated-sum}

-- ---- what is written

-- the second is put behind the first
pub puts_behind : {T : Type 0} (a b c : Option (List ℕ)) (first second : List ℕ) (result : Result T ServeFault) → Appends a b first → Puts second result (between b c) → Puts (first ++ second) result (between a c)
puts_behind a b c first second (Ok u) all put = Appends-then a b c first second all put
puts_behind a b c first second (Err why) all put = (put.0, begins-then a b c second (first ++ second) (record { sent = first; split = refl; written = all }) put.1)

-- only a beginning of the first was
pub puts_short : (a b : Option (List ℕ)) (first second : List ℕ) (why : ServeFault) → (why ≡ fault.Write) × WritesStart a b first → (why ≡ fault.Write) × WritesStart a b (first ++ second)
puts_short a b first second why h = (h.0, begins-more a b first second h.1)

-- a text was put, and then the session goes on
pub says_put : (a b : Option (List ℕ)) (text : List ℕ) (then : Result Bool ServeFault) (why : ServeFault) → (why ≡ fault.Write) × WritesStart a b text → AnswersThen text then (Err why) (between a b)
says_put a b text then why h = answer_cut (ap Err h.0) h.1

-- ---- who leaves

module _ (it : Seat) (planner : Planner) (named : planner.number ≡ it.number) where
  -- what is held of a batch
  parts_some : planner.batch.is_open ≡ true → (stage : Option Held) → IsStage planner.batch stage
      → label planner.number ++ repeated planner.batch.count (reply_text reply.Aborted) ≡ parting_text (seat it.number stage)
  parts_some opened None is = absurd (never_both _ is.0 opened)
  parts_some opened (Some held) is = ap (λ n. label n ++ repeated planner.batch.count (reply_text reply.Aborted)) named ∙ ap (λ n. label it.number ++ forgotten_text n) (held_count _ _ _ _ held is.1)

  pub parts_text : planner.batch.is_open ≡ true → IsStage planner.batch it.stage → label planner.number ++ repeated planner.batch.count (reply_text reply.Aborted) ≡ parting_text it
  parts_text opened is = parts_some opened it.stage is

-- ---- whose batch waits

owed_of : (number count : ℕ) (begun : Bool) (lines : List (List ℕ)) → count ≡ length lines → owed (record { number = number; is_begun = begun; lines = lines }) ≡ count + from_bool begun
owed_of number count true lines is = ap (λ n. n + 1) (sym is)
owed_of number count false lines is = omega (arith, is)

-- what is held of it is forgotten
pub waiting_text : (own : WaitingBatch) (it : Waiting) → IsWaiting own it → (n : ℕ) → n ≡ from_bool own.batch.is_open
    → label own.number ++ (repeated own.batch.count (reply_text reply.Aborted) ++ repeated n (reply_text reply.Aborted)) ≡ label it.number ++ forgotten_text (owed it)
waiting_text own it is n n_is =
    let all : owed it ≡ own.batch.count + n = owed_of it.number own.batch.count it.is_begun it.lines (held_count _ _ _ _ (holds it.lines) is.lines)
    ∙ ap (λ k. own.batch.count + k) (ap from_bool (sym is.begun) ∙ sym n_is) in
    ap (λ text. label own.number ++ text) (sym (repeated-sum own.batch.count n (reply_text reply.Aborted)) ∙ ap forgotten_text (sym all)) ∙ ap (λ k. label k ++ forgotten_text (owed it)) is.number

-- ---- a line of a planner

-- a label was written, and behind it what is told
tells_behind : (how : Manner) (P Q : List ℕ → Course → Type 0) (first : List ℕ) → ((said : List ℕ) (course : Course) → P said course → Q (first ++ said) course)
    → (a b c : Option (List ℕ)) → Appends a b first → (result : Result Bool ServeFault) → Tells how P result (between b c) → Tells how Q result (between a c)
tells_behind how P Q first of a b c all (Ok refused) it = record { text = first ++ it.text; says = of it.text (proceeds refused) it.says; goes_on = it.goes_on; written = Appends-then a b c first it.text all it.written }
tells_behind how P Q first of a b c all (Err fault.Read) tells = tells
tells_behind how P Q first of a b c all (Err fault.Store) it = record { text = first ++ it.text; says = of it.text over it.says; written = Appends-then a b c first it.text all it.written }
tells_behind how P Q first of a b c all (Err fault.Unsure) it = record { text = first ++ it.text; says = of it.text over it.says; written = Appends-then a b c first it.text all it.written }
tells_behind how P Q first of a b c all (Err fault.Refused) it = record { text = first ++ it.text; says = of it.text (proceeds true) it.says; stop = it.stop; written = Appends-then a b c first it.text all it.written }
tells_behind how P Q first of a b c all (Err fault.Write) it = record {
  text = first ++ it.text;
  course = it.course;
  says = of it.text it.course it.says;
  begun = begins-then a b c it.text (first ++ it.text) (record { sent = first; split = refl; written = all }) it.begun;
}

-- what was taken, behind its label
module _ {D : Type 0} {members : Ghosts D} (old new : Store D members) (s : State) (how : Manner) (used : LineUse) (number : ℕ) (part : List ℕ) (is : IsUse how.on_command part used) where
  taken_for : (stage : Option Held) (said text : List ℕ) (course : Course) (stage' : Option Held) (round : Round) → TakesAs old new s how used stage part said course stage' round
      → text ≡ label_if (is_heard (is_some stage) used) number ++ said → TakesIts old new s how number stage part text course stage' round
  taken_for stage said text course stage' round takes labelled = by is
    where
      by : IsUse how.on_command part used → TakesIts old new s how number stage part text course stage' round
      by (inl wanting) = taken_without_memory (record {
        said = said;
        takes = subst (λ u. TakesAs old new s how u stage part said course stage' round) wanting takes;
        labelled = labelled ∙ ap (λ u. label_if (is_heard (is_some stage) u) number ++ said) wanting;
      })
      by (inr found) = taken_for_use (record {
        said = said;
        takes = subst (λ u. TakesAs old new s how u stage part said course stage' round) found takes;
        labelled = labelled ∙ ap (λ u. label_if (is_heard (is_some stage) u) number ++ said) found;
      })

  module _ (own : Manner) (same : own ≡ how) (P : Option Held → Type 0) (result : Result Bool ServeFault) (a b c : Option (List ℕ)) (heard : Bool) (labelled : Appends a b (label_if heard number)) where
    abbrev Told : Option Held → Type 0
    Told stage = Tells how (λ text course. (stage' : Option Held) × (round : Round) × P stage' × TakesIts old new s how number stage part text course stage' round) result (between a c)

    -- a line
    pub told_as : (stage : Option Held) → heard ≡ is_heard (is_some stage) used
        → Tells own (λ text course. (stage' : Option Held) × (round : Round) × P stage' × TakesAs old new s own used stage part text course stage' round) result (between b c) → Told stage
    told_as stage heard_is told =
        tells_behind how
        (λ text course. (stage' : Option Held) × (round : Round) × P stage' × TakesAs old new s how used stage part text course stage' round)
        (λ text course. (stage' : Option Held) × (round : Round) × P stage' × TakesIts old new s how number stage part text course stage' round)
        (label_if heard number)
        (λ said course it. (it.0, it.1, it.2, taken_for stage said (label_if heard number ++ said) course it.0 it.1 it.3 (ap (λ h. label_if h number ++ said) heard_is)))
        a b c labelled result
        (subst (λ m. Tells m (λ text course. (stage' : Option Held) × (round : Round) × P stage' × TakesAs old new s m used stage part text course stage' round) result (between b c)) same told)

    -- within a batch
    pub inside_told : (batch : Batch) → batch.is_open ≡ true → heard ≡ is_heard true used → (stage : Option Held) → IsStage batch stage
        → ((held : Held) → IsStage batch (Some held) → Tells own (λ text course. (stage' : Option Held) × (round : Round) × P stage' × TakesInside old new s own used held part text course stage' round) result (between b c))
        → Told stage
    inside_told batch begun heard_is None held told = absurd (never_both _ held.0 begun)
    inside_told batch begun heard_is (Some h) held told = told_as (Some h) heard_is (told h held)

    -- or outside of one
    pub outside_told : (batch : Batch) → batch.is_open ≡ false → heard ≡ is_heard false used → (stage : Option Held) → IsStage batch stage
        → (IsStage batch None → Tells own (λ text course. (stage' : Option Held) × (round : Round) × P stage' × TakesOutside old new s own used part text course stage' round) result (between b c))
        → Told stage
    outside_told batch closed heard_is None held told = told_as None heard_is (told held)
    outside_told batch closed heard_is (Some h) held told = absurd (never_both _ closed held.0)

-- a label was not written whole
label_begun : (heard : Bool) (number : ℕ) (a b : Option (List ℕ)) → WritesStart a b (label_if heard number) → WritesStart a b (label number)
label_begun true number a b begun = begun
label_begun false number a b begun = begins-more a b [] (label number) begun

pub tells_unwritten : {D : Type 0} {members : Ghosts D} (store : Store D members) (s : State) (how : Manner) (number : ℕ) (part : List ℕ) (P : Option Held → Type 0) (stage : Option Held) → P stage → (heard : Bool) (why : ServeFault) (a b : Option (List ℕ))
    → (why ≡ fault.Write) × WritesStart a b (label_if heard number)
    → Tells how (λ text course. (stage' : Option Held) × (round : Round) × P stage' × TakesIts store store s how number stage part text course stage' round) (Err why) (between a b)
tells_unwritten store s how number part P stage stays heard why a b (is, begun) =
    rw is (record {
      text = label number;
      course = unwritten;
      says = (stage, idle, stays, unlabelled (record { same = refl; labelled = refl; goes = refl; held = refl; came_so = refl }));
      begun = label_begun heard number a b begun;
    })
