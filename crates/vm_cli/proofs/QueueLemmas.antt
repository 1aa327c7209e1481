-- Batches that wait: in parts, by whose they are, and as they are forgotten.
use Rattle.std.proofs.Common.{◌≡◌, ◌||◌, ◌==◌, ◌+◌, ◌<◌, ◌++◌, ◌∙◌, ℕ, zero, suc, Bool, true, false, if◌then◌else◌, List, [], ◌∷◌, Option, Result, not, Ok, Err, ap, sym, refl, subst, append_assoc, append-nil, length, take, drop, get_or, arith}
use Rattle.std.proofs.lemmas.List.{drop_more, take-append-drop, take_more}
use Rattle.std.specs.Io.KnownBytes.{Appends}
use Rattle.vm_cli.specs.answers.Carried.{WritesStart}
use Rattle.vm_cli.specs.session.Known.{between}
use Rattle.vm_cli.specs.session.SessionKinds.{AnswersThen, counted_result, some_lines}
use Rattle.vm_cli.specs.session.SessionKinds.AnswersThen.{answer_cut, answered_so}
use Rattle.vm_cli.specs.session.PlannerCalls.{AreWaiting, IsWaiting}
use Rattle.vm_cli.specs.session.Planners.{wait_some}
use Rattle.vm_cli.specs.session.Streams.{forgotten_text}
use Rattle.vm_cli.specs.session.Waiting.{Waiting, forgotten_texts, label, owed, waits}
use Rattle.vm_cli.specs.declared.session.OnRefusal.{OnRefusal}
use Rattle.vm_cli.specs.declared.session.OnRefusal.TheVariants.{Tell}
use Rattle.vm_cli.specs.declared.session.ServeFault.{ServeFault}
use Rattle.vm_cli.specs.declared.session.ServeFault.TheVariants as fault
use Rattle.vm_cli.specs.declared.session.waiting.WaitingBatch.{WaitingBatch}
use Rattle.vm_cli.proofs.CarriedLemmas.{begins-then}
use Rattle.vm_cli.proofs.Known.{Appends-nil, Appends-then}
use Rattle.vm_cli.proofs.PlannerLemmas.{puts_behind, puts_short}
use Rattle.vm_cli.proofs.StreamLemmas.{cut_short}

-- ---- what waits, in parts

-- none waits
pub none_waits : (waiting : List Waiting) → AreWaiting [] waiting → waiting ≡ []
none_waits [] are = refl
none_waits (it ∷ waiting) are = absurd are

-- one of them, between those before it and those behind it
pub record QueueCut (before : List WaitingBatch) (own : WaitingBatch) (behind : List WaitingBatch) (waiting : List Waiting) : Type 0 where
  pub earlier : List Waiting
  pub it : Waiting
  pub later : List Waiting
  pub cut : waiting ≡ earlier ++ it ∷ later
  pub first : AreWaiting before earlier
  pub is : IsWaiting own it
  pub last : AreWaiting behind later

pub queue_cut : (before : List WaitingBatch) (own : WaitingBatch) (behind : List WaitingBatch) (waiting : List Waiting) → AreWaiting (before ++ own ∷ behind) waiting → QueueCut before own behind waiting
queue_cut [] own behind [] are = absurd are
queue_cut [] own behind (it ∷ waiting) are = record { earlier = []; it = it; later = waiting; cut = refl; first = tt; is = are.0; last = are.1 }
queue_cut (one ∷ before) own behind [] are = absurd are
queue_cut (one ∷ before) own behind (it ∷ waiting) are =
    let rest = queue_cut before own behind waiting are.1 in
    record { earlier = it ∷ rest.earlier; it = rest.it; later = rest.later; cut = ap (λ them. it ∷ them) rest.cut; first = (are.0, rest.first); is = rest.is; last = rest.last }

-- one more waits
pub queue_more : (queue : List WaitingBatch) (waiting : List Waiting) (own : WaitingBatch) (it : Waiting) → AreWaiting queue waiting → IsWaiting own it → AreWaiting (queue ++ own ∷ []) (waiting ++ it ∷ [])
queue_more [] [] own it are is = (is, tt)
queue_more [] (w ∷ waiting) own it are is = absurd are
queue_more (q ∷ queue) [] own it are is = absurd are
queue_more (q ∷ queue) (w ∷ waiting) own it are is = (are.0, queue_more queue waiting own it are.1 is)

-- or none does
pub queue_same : (queue : List WaitingBatch) (waiting : List Waiting) → AreWaiting queue waiting → AreWaiting queue (waiting ++ [])
queue_same queue waiting are = subst (AreWaiting queue) (sym (append-nil waiting)) are

-- some wait
pub some_wait : (queue : List WaitingBatch) (waiting : List Waiting) → AreWaiting queue waiting → (some : Bool) → some ≡ (length queue == 0) → wait_some waiting ≡ not some
some_wait [] [] are some is = rw is refl
some_wait [] (it ∷ waiting) are some is = absurd are
some_wait (own ∷ queue) [] are some is = absurd are
some_wait (own ∷ queue) (it ∷ waiting) are some is = go some is
  where
    go : (some : Bool) → some ≡ (suc (length queue) == 0) → true ≡ not some
    go true is = absurd (grind (arith, is))
    go false is = refl

-- ---- the one at a place

module _ (queue : List WaitingBatch) (place : ℕ) (own : WaitingBatch) (is : own ≡ get_or queue place own) (within : place < length queue) where
  queue_so_far : take (place + 1) queue ≡ take place queue ++ own ∷ []
  queue_so_far = take_more queue place own within ∙ ap (λ it. take place queue ++ it ∷ []) (sym is)

  queue_parts : queue ≡ take place queue ++ own ∷ drop (place + 1) queue
  queue_parts = sym (take-append-drop place queue) ∙ ap (λ them. take place queue ++ them) (drop_more queue place own within) ∙ ap (λ it. take place queue ++ it ∷ drop (place + 1) queue) (sym is)

  -- those up to it
  pub cut_to : (waiting : List Waiting) → AreWaiting (take (place + 1) queue) waiting → QueueCut (take place queue) own [] waiting
  cut_to waiting are = queue_cut (take place queue) own [] waiting (subst (λ them. AreWaiting them waiting) queue_so_far are)

  -- all of them
  pub cut_at : (waiting : List Waiting) → AreWaiting queue waiting → QueueCut (take place queue) own (drop (place + 1) queue) waiting
  cut_at waiting are = queue_cut (take place queue) own (drop (place + 1) queue) waiting (subst (λ them. AreWaiting them waiting) queue_parts are)

-- ---- whose batches wait

waits_joined : (number : ℕ) (earlier later : List Waiting) → waits number (earlier ++ later) ≡ (waits number earlier || waits number later)
waits_joined number [] later = refl
waits_joined number (it ∷ earlier) later = go (it.number == number) (waits_joined number earlier later)
  where
    go : (b : Bool) → waits number (earlier ++ later) ≡ (waits number earlier || waits number later) → (b || waits number (earlier ++ later)) ≡ ((b || waits number earlier) || waits number later)
    go true rest = refl
    go false rest = rest

or_both : (a b c d : Bool) → a ≡ c → b ≡ d → (a || b) ≡ (c || d)
or_both a b c d e f = rw (e, f) refl

module _ (number : ℕ) (queue : List WaitingBatch) (place : ℕ) (own : WaitingBatch) (is : own ≡ get_or queue place own) (within : place < length queue)
    (none : (waiting : List Waiting) → AreWaiting (take place queue) waiting → waits number waiting ≡ false) where
  -- the one at the place is not theirs either
  pub waits_more : (own.number == number) ≡ false → (waiting : List Waiting) → AreWaiting (take (place + 1) queue) waiting → waits number waiting ≡ false
  waits_more other waiting are =
      let cut = cut_to queue place own is within waiting are in
      let one : waits number (cut.it ∷ cut.later) ≡ false =
      or_both (cut.it.number == number) (waits number cut.later) false false (ap (λ n. n == number) (sym cut.is.number) ∙ other) (ap (waits number) (none_waits cut.later cut.last)) in
      ap (waits number) cut.cut ∙ waits_joined number cut.earlier (cut.it ∷ cut.later) ∙ or_both (waits number cut.earlier) (waits number (cut.it ∷ cut.later)) false false (none cut.earlier cut.first) one

  -- it is theirs
  pub waits_one : (own.number == number) ≡ true → (waiting : List Waiting) → AreWaiting queue waiting → waits number waiting ≡ true
  waits_one same waiting are =
      let cut = cut_at queue place own is within waiting are in
      let one : waits number (cut.it ∷ cut.later) ≡ true = ap (λ b. b || waits number cut.later) (ap (λ n. n == number) (sym cut.is.number) ∙ same) in
      ap (waits number) cut.cut ∙ waits_joined number cut.earlier (cut.it ∷ cut.later) ∙ or_both (waits number cut.earlier) (waits number (cut.it ∷ cut.later)) false true (none cut.earlier cut.first) one

-- ---- all of them are forgotten

forgotten_joined : (earlier later : List Waiting) → forgotten_texts (earlier ++ later) ≡ forgotten_texts earlier ++ forgotten_texts later
forgotten_joined [] later = refl
forgotten_joined (it ∷ earlier) later =
    let own = label it.number ++ forgotten_text (owed it) in
    ap (λ text. own ++ text) (forgotten_joined earlier later) ∙ sym (append_assoc own (forgotten_texts earlier) (forgotten_texts later))

-- these were
abbrev pub AreForgotten : List WaitingBatch → Option (List ℕ) → Option (List ℕ) → Type 0
AreForgotten queue before after = (waiting : List Waiting) → AreWaiting queue waiting → Appends before after (forgotten_texts waiting)

pub forgotten_none : (a : Option (List ℕ)) → AreForgotten [] a a
forgotten_none a waiting are = subst (λ them. Appends a a (forgotten_texts them)) (sym (none_waits waiting are)) (Appends-nil a)

module _ (queue : List WaitingBatch) (place : ℕ) (own : WaitingBatch) (is : own ≡ get_or queue place own) (within : place < length queue) (a b c : Option (List ℕ)) (so_far : AreForgotten (take place queue) a b) where
  -- one more is
  pub forgotten_more : ((it : Waiting) → IsWaiting own it → Appends b c (label it.number ++ forgotten_text (owed it))) → AreForgotten (take (place + 1) queue) a c
  forgotten_more put waiting are =
      let cut = cut_to queue place own is within waiting are in
      let text = label cut.it.number ++ forgotten_text (owed cut.it) in
      let last : forgotten_texts (cut.it ∷ cut.later) ≡ text = ap (λ them. text ++ forgotten_texts them) (none_waits cut.later cut.last) ∙ append-nil text in
      subst (Appends a c) (sym (ap forgotten_texts cut.cut ∙ forgotten_joined cut.earlier (cut.it ∷ cut.later) ∙ ap (λ t. forgotten_texts cut.earlier ++ t) last))
      (Appends-then a b c (forgotten_texts cut.earlier) text (so_far cut.earlier cut.first) (put cut.it cut.is))

  -- the writer fails in one
  pub forgotten_short : (why : ServeFault) → ((it : Waiting) → IsWaiting own it → (why ≡ fault.Write) × WritesStart b c (label it.number ++ forgotten_text (owed it)))
      → (waiting : List Waiting) → AreWaiting queue waiting → (behind : List ℕ) (goes : Result Bool ServeFault) → AnswersThen (forgotten_texts waiting ++ behind) goes (Err why) (between a c)
  forgotten_short why put waiting are behind goes =
      let cut = cut_at queue place own is within waiting are in
      let text = label cut.it.number ++ forgotten_text (owed cut.it) in
      let texts : forgotten_texts waiting ≡ forgotten_texts cut.earlier ++ (text ++ forgotten_texts cut.later) = ap forgotten_texts cut.cut ∙ forgotten_joined cut.earlier (cut.it ∷ cut.later) in
      let begun = puts_behind {T = Bool} a b c (forgotten_texts cut.earlier) (text ++ forgotten_texts cut.later) (Err why) (so_far cut.earlier cut.first)
      (puts_short b c text (forgotten_texts cut.later) why (put cut.it cut.is)) in
      cut_short a c (forgotten_texts waiting) behind goes why (subst (λ t. (why ≡ fault.Write) × WritesStart a c t) (sym texts) begun)

-- ---- and then all planners leave

tell_counted : (n : ℕ) → counted_result Tell n ≡ Ok (some_lines n)
tell_counted zero = refl
tell_counted (suc n) = refl

counted_then : (some : Bool) (n : ℕ) (last : Bool) → counted_result Tell n ≡ Ok last → counted_result Tell (if some then 1 else n) ≡ Ok (some || last)
counted_then true n last is = refl
counted_then false n last is = is

module _ (queue : List WaitingBatch) (a b c : Option (List ℕ)) (all : AreForgotten queue a b) (on old_on : OnRefusal) (same : on ≡ old_on) (tells : old_on ≡ Tell) (waiting : List Waiting) (are : AreWaiting queue waiting) (text : List ℕ) (count : ℕ) where
  -- the end was answered
  pub end_then : (empty : Bool) → empty ≡ (length queue == 0) → (last : Bool) → AnswersThen text (counted_result on count) (Ok last) (between b c)
      → AnswersThen (forgotten_texts waiting ++ text) (counted_result old_on (if wait_some waiting then 1 else count)) (Ok (not empty || last)) (between a c)
  end_then empty is last (answered_so came wrote) =
      let goes : counted_result Tell count ≡ Ok last = sym (came ∙ ap (λ (o : OnRefusal). counted_result o count) (same ∙ tells)) in
      let both = counted_then (wait_some waiting) count last goes in
      answered_so
      (ap (λ some. Ok (some || last)) (sym (some_wait queue waiting are empty is)) ∙ sym (ap (λ (o : OnRefusal). counted_result o (if wait_some waiting then 1 else count)) tells ∙ both))
      (Appends-then a b c (forgotten_texts waiting) text (all waiting are) wrote)
  end_then empty is last (answer_cut came begun) = let bad = came in cc

  -- or the writer failed in that
  pub end_short : (why : ServeFault) (goes : Result Bool ServeFault) → AnswersThen text (counted_result on count) (Err why) (between b c) → AnswersThen (forgotten_texts waiting ++ text) goes (Err why) (between a c)
  end_short why goes (answered_so came wrote) = let goes_on : Err why ≡ Ok (some_lines count) = came ∙ ap (λ (o : OnRefusal). counted_result o count) (same ∙ tells) ∙ tell_counted count in cc
  end_short why goes (answer_cut came begun) = answer_cut came (begins-then a b c text (forgotten_texts waiting ++ text) (record { sent = forgotten_texts waiting; split = refl; written = all waiting are }) begun)
