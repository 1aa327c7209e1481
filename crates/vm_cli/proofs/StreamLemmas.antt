-- What a session with batches answers.
use Rattle.std.proofs.Common.{◌≡◌, inl, inr, ◌++◌, ◌∙◌, ℕ, zero, suc, Bool, true, false, List, [], ◌∷◌, Option, None, Some, Result, Ok, Err, OnErr, OnOk, ap, sym, refl, subst, append-nil, take}
use Rattle.std.specs.Io.KnownBytes.{Appends}
use Rattle.vm_types.specs.State.{State}
use Rattle.vm_store.specs.declared.store.Store.{Store}
use Rattle.vm_cli.specs.answers.Carried.{WritesStart}
use Rattle.vm_cli.specs.session.SessionKinds.{AnswersThen, Course, Puts, TakesTo, Tells, counted_result, refused_result, said_result, some_lines}
use Rattle.vm_cli.specs.session.SessionKinds.AnswersThen.{answer_cut, answered_so}
use Rattle.vm_cli.specs.session.SessionKinds.Course.{over, proceeds}
use Rattle.vm_cli.specs.session.Feeds.{FeedsOn, Writes}
use Rattle.vm_cli.specs.session.Known.{between}
use Rattle.vm_cli.specs.session.LineUses.{IsUse}
use Rattle.vm_cli.specs.session.Rounds.{Round}
use Rattle.vm_cli.specs.session.Streams.{Held, IsStage, Takes, TakesAs, TakesInside, TakesOutside, Verdict, batch_course, batches, course_of, repeated, result_of, verdict_result}
use Rattle.vm_cli.specs.session.Streams.Takes.{for_its_use, without_memory}
use Rattle.vm_cli.specs.session.Streams.Verdict.{fails, succeeds}
use Rattle.vm_cli.specs.declared.answers.output.WriteFault.{WriteFault}
use Rattle.vm_cli.specs.declared.session.Manner.{Manner}
use Rattle.vm_cli.specs.declared.session.batch.Batch.{Batch}
use Rattle.vm_cli.specs.declared.session.OnRefusal.{OnRefusal}
use Rattle.vm_cli.specs.declared.session.OnRefusal.TheVariants.{Ignore, Stop, Tell}
use Rattle.vm_cli.specs.declared.session.ServeFault.{ServeFault}
use Rattle.vm_cli.specs.declared.session.ServeFault.TheVariants as fault
use Rattle.vm_cli.specs.declared.session.line_use.LineUse.{LineUse}
use Rattle.vm_cli.specs.declared.session.carrying.Then.TheVariants.{GoOn, Failed as AsFailed, Unsure as AsUnsure}
use Rattle.vm_cli.proofs.CarriedLemmas.{begins-cut, begins-more, begins-then}
use Rattle.vm_cli.proofs.EndLemmas.{feeds_none}
use Rattle.vm_cli.proofs.PassLemmas.{never_both}
use Rattle.vm_cli.specs.session.Session.{EndsBy}
use Rattle.vm_cli.proofs.Known.{Appends-then}

-- or its first bytes
pub puts_put : {T : Type 0} (text : List ℕ) (written : Result T WriteFault) (a b : Option (List ℕ)) → OnOk written (Appends a b text) → OnErr written ((k : ℕ) × Appends a b (take k text)) → Puts text (said_result written) (between a b)
puts_put text (Ok u) a b ok err = ok
puts_put text (Err failed) a b ok err = (refl, begins-cut a b text err.0 err.1)

-- once
pub repeated-one : (text : List ℕ) → repeated 1 text ≡ text
repeated-one text = append-nil text

-- the writer failed in the first of two texts
pub cut_short : (a b : Option (List ℕ)) (first second : List ℕ) (then : Result Bool ServeFault) (why : ServeFault) → (why ≡ fault.Write) × WritesStart a b first → AnswersThen (first ++ second) then (Err why) (between a b)
cut_short a b first second then why h = answer_cut (ap Err h.0) (begins-more a b first second h.1)

-- the second is written behind the first
pub written_behind : (a b c : Option (List ℕ)) (first second : List ℕ) (then result : Result Bool ServeFault) → Appends a b first → AnswersThen second then result (between b c) → AnswersThen (first ++ second) then result (between a c)
written_behind a b c first second then result all (answered_so came wrote) = answered_so came (Appends-then a b c first second all wrote)
written_behind a b c first second then result all (answer_cut came begun) = answer_cut came (begins-then a b c second (first ++ second) (record { sent = first; split = refl; written = all }) begun)

-- what an answer of the store is to a session with batches
pub tells_writes : (how : Manner) (P : List ℕ → Bool → Type 0) (Q : List ℕ → Course → Type 0) → ((text : List ℕ) (ends : Bool) → P text ends → Q text (course_of ends text))
    → (result : Result Bool ServeFault) (a b : Option (List ℕ)) → Writes how P result (between a b) → Tells how Q result (between a b)
tells_writes how P Q of (Ok refused) a b it = record { text = it.text; says = subst (λ r. Q it.text (proceeds r)) (sym it.told) (of it.text false it.says); goes_on = it.goes_on; written = it.written }
tells_writes how P Q of (Err fault.Read) a b writes = writes
tells_writes how P Q of (Err fault.Unsure) a b writes = absurd writes
tells_writes how P Q of (Err fault.Store) a b it = record { text = it.text; says = of it.text true it.says; written = it.written }
tells_writes how P Q of (Err fault.Refused) a b it = record { text = it.text; says = subst (λ r. Q it.text (proceeds r)) it.refused (of it.text false it.says); stop = it.stop; written = it.written }
tells_writes how P Q of (Err fault.Write) a b it = record { text = it.whole; course = course_of it.ends it.whole; says = of it.whole it.ends it.says; begun = it.begins }

-- an answer that was written
module _ (how : Manner) (P : List ℕ → Course → Type 0) (text : List ℕ) (a b : Option (List ℕ)) where
  refused_by : (on_refusal : OnRefusal) → how.on_refusal ≡ on_refusal → P text (proceeds true) → Appends a b text → Tells how P (refused_result on_refusal) (between a b)
  refused_by Stop is says written = record { text = text; says = says; stop = is; written = written }
  refused_by Ignore is says written = record { text = text; says = says; goes_on = λ stop. let bad : Ignore ≡ Stop = sym is ∙ stop in cc; written = written }
  refused_by Tell is says written = record { text = text; says = says; goes_on = λ stop. let bad : Tell ≡ Stop = sym is ∙ stop in cc; written = written }

  -- by which some lines were refused, or none
  pub tells_counted : (count : ℕ) (result : Result Bool ServeFault) → P text (proceeds (some_lines count)) → AnswersThen text (counted_result how.on_refusal count) result (between a b) → Tells how P result (between a b)
  tells_counted count result says (answer_cut came begun) = subst (λ r. Tells how P r (between a b)) (sym came) (record { text = text; course = proceeds (some_lines count); says = says; begun = begun })
  tells_counted zero result says (answered_so came wrote) = subst (λ r. Tells how P r (between a b)) (sym came) (record { text = text; says = says; goes_on = λ stop. refl; written = wrote })
  tells_counted (suc n) result says (answered_so came wrote) = subst (λ r. Tells how P r (between a b)) (sym came) (refused_by how.on_refusal refl says wrote)

  -- the answer to a batch
  pub tells_verdict : (verdict : Verdict) (result : Result Bool ServeFault) → P text (batch_course verdict) → AnswersThen text (verdict_result how verdict) result (between a b) → Tells how P result (between a b)
  tells_verdict verdict result says (answer_cut came begun) = subst (λ r. Tells how P r (between a b)) (sym came) (record { text = text; course = batch_course verdict; says = says; begun = begun })
  tells_verdict (succeeds answers) result says (answered_so came wrote) = subst (λ r. Tells how P r (between a b)) (sym came) (record { text = text; says = says; goes_on = λ stop. refl; written = wrote })
  tells_verdict (fails place answer GoOn) result says (answered_so came wrote) = subst (λ r. Tells how P r (between a b)) (sym came) (refused_by how.on_refusal refl says wrote)
  tells_verdict (fails place answer AsFailed) result says (answered_so came wrote) = subst (λ r. Tells how P r (between a b)) (sym came) (record { text = text; says = says; written = wrote })
  tells_verdict (fails place answer AsUnsure) result says (answered_so came wrote) = subst (λ r. Tells how P r (between a b)) (sym came) (record { text = text; says = says; written = wrote })

-- what is told is told of more
pub tells_as : (how : Manner) (P Q : List ℕ → Course → Type 0) → ((text : List ℕ) (course : Course) → P text course → Q text course)
    → (result : Result Bool ServeFault) (a b : Option (List ℕ)) → Tells how P result (between a b) → Tells how Q result (between a b)
tells_as how P Q of (Ok refused) a b it = record { text = it.text; says = of it.text (proceeds refused) it.says; goes_on = it.goes_on; written = it.written }
tells_as how P Q of (Err fault.Read) a b tells = tells
tells_as how P Q of (Err fault.Store) a b it = record { text = it.text; says = of it.text over it.says; written = it.written }
tells_as how P Q of (Err fault.Unsure) a b it = record { text = it.text; says = of it.text over it.says; written = it.written }
tells_as how P Q of (Err fault.Refused) a b it = record { text = it.text; says = of it.text (proceeds true) it.says; stop = it.stop; written = it.written }
tells_as how P Q of (Err fault.Write) a b it = record { text = it.text; course = it.course; says = of it.text it.course it.says; begun = it.begun }

-- a line is taken for what it is
module _ {D : Type 0} {members : _} (old new : Store D members) (s : State) (how : Manner) (used : LineUse) (part : List ℕ) (is : IsUse how.on_command part used) (P : Option Held → Type 0) (result : Result Bool ServeFault) (a b : Option (List ℕ)) where
  taken_as : (stage : Option Held) (text : List ℕ) (course : Course) (stage' : Option Held) (round : Round) → TakesAs old new s how used stage part text course stage' round → Takes old new s how stage part text course stage' round
  taken_as stage text course stage' round takes = by is
    where
      by : IsUse how.on_command part used → Takes old new s how stage part text course stage' round
      by (inl wanting) = without_memory (subst (λ u. TakesAs old new s how u stage part text course stage' round) wanting takes)
      by (inr found) = for_its_use (subst (λ u. TakesAs old new s how u stage part text course stage' round) found takes)

  tells_taken : (stage : Option Held) → Tells how (λ text course. (stage' : Option Held) × (round : Round) × P stage' × TakesAs old new s how used stage part text course stage' round) result (between a b) → Tells how (TakesTo batches P old new s how stage part) result (between a b)
  tells_taken stage =
      tells_as how
      (λ text course. (stage' : Option Held) × (round : Round) × P stage' × TakesAs old new s how used stage part text course stage' round) (TakesTo batches P old new s how stage part)
      (λ text course said. (said.0, said.1 ∷ [], said.2, (said.1, taken_as stage text course said.0 said.1 said.3, refl))) result a b

  -- within a batch
  pub inside_taken : (batch : Batch) → batch.is_open ≡ true → (stage : Option Held) → IsStage batch stage
      → ((held : Held) → IsStage batch (Some held) → Tells how (λ text course. (stage' : Option Held) × (round : Round) × P stage' × TakesInside old new s how used held part text course stage' round) result (between a b))
      → Tells how (TakesTo batches P old new s how stage part) result (between a b)
  inside_taken batch begun None held told = absurd (never_both _ held.0 begun)
  inside_taken batch begun (Some h) held told = tells_taken (Some h) (told h held)

  -- or outside of one
  pub outside_taken : (batch : Batch) → batch.is_open ≡ false → (stage : Option Held) → IsStage batch stage
      → (IsStage batch None → Tells how (λ text course. (stage' : Option Held) × (round : Round) × P stage' × TakesOutside old new s how used part text course stage' round) result (between a b))
      → Tells how (TakesTo batches P old new s how stage part) result (between a b)
  outside_taken batch closed None held told = tells_taken None (told held)
  outside_taken batch closed (Some h) held told = absurd (never_both _ closed held.0)

module _ {D : Type 0} {members : _} where
  -- the store after a batch that was answered
  pub verdict_feeds : (how : Manner) (old new : Store D members) (text : List ℕ) (a b : Option (List ℕ)) (verdict : Verdict) (result : Result Bool ServeFault) → AnswersThen text (verdict_result how verdict) result (between a b)
      → FeedsOn (result_of verdict) old new → FeedsOn result old new
  verdict_feeds how old new text a b verdict result (answer_cut came begun) feeds =
      subst (λ r. FeedsOn r old new) (sym came) (record { goes = feeds.goes; ok = λ sound. tt; err = λ sound. tt; failing = feeds.failing; left = feeds.left })
  verdict_feeds how old new text a b (succeeds answers) result (answered_so came wrote) feeds = subst (λ r. FeedsOn r old new) (sym came) feeds
  verdict_feeds how old new text a b (fails place answer AsFailed) result (answered_so came wrote) feeds = subst (λ r. FeedsOn r old new) (sym came) feeds
  verdict_feeds how old new text a b (fails place answer AsUnsure) result (answered_so came wrote) feeds = subst (λ r. FeedsOn r old new) (sym came) feeds
  verdict_feeds how old new text a b (fails place answer GoOn) result (answered_so came wrote) feeds = subst (λ r. FeedsOn r old new) (sym came) (by how.on_refusal)
    where
      by : (on_refusal : OnRefusal) → FeedsOn (refused_result on_refusal) old new
      by Stop = record { goes = feeds.goes; ok = λ sound. tt; err = λ sound. tt; failing = feeds.failing; left = feeds.left }
      by Ignore = feeds
      by Tell = feeds

  -- the store was asked nothing
  pub counted_feeds : (store : Store D members) (text : List ℕ) (a b : Option (List ℕ)) (on_refusal : OnRefusal) (count : ℕ) (result : Result Bool ServeFault) → AnswersThen text (counted_result on_refusal count) result (between a b) → FeedsOn result store store
  counted_feeds store text a b on_refusal count result (answer_cut came begun) = subst (λ r. FeedsOn r store store) (sym came) (stopped fault.Write tt)
    where
      stopped : (why : ServeFault) → EndsBy store store why → FeedsOn (Err why) store store
      stopped why ends = let none = feeds_none store false in record { goes = none.goes; ok = λ sound. tt; err = λ sound. ends; failing = none.failing; left = none.left }
  counted_feeds store text a b on_refusal zero result (answered_so came wrote) = subst (λ r. FeedsOn r store store) (sym came) (feeds_none store false)
  counted_feeds store text a b Stop (suc n) result (answered_so came wrote) =
      let none = feeds_none store false in
      subst (λ r. FeedsOn r store store) (sym came) (record { goes = none.goes; ok = λ sound. tt; err = λ sound. tt; failing = none.failing; left = none.left })
  counted_feeds store text a b Ignore (suc n) result (answered_so came wrote) = subst (λ r. FeedsOn r store store) (sym came) (feeds_none store true)
  counted_feeds store text a b Tell (suc n) result (answered_so came wrote) = subst (λ r. FeedsOn r store store) (sym came) (feeds_none store true)
