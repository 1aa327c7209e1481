-- Batches that wait, and are carried out together.
use Rattle.std.proofs.Common.{◌≡◌, ◌≢◌, ◌<◌, ◌≤◌, ◌+◌, ◌-◌, ◌||◌, ◌++◌, ◌∙◌, ℕ, zero, suc, Bool, true, false, List, [], ◌∷◌, Option, Result, Ok, Err, ap, sym, refl, subst, arith, add-one, append-nil, append_assoc, get_or, length, set, take, drop, take-append-drop}
use Rattle.std.proofs.lemmas.List.{drop-drop, drop-set, drop-set-add, drop-take, drop_more, length-drop, length-take, map-append, take-set, take-take}
use Rattle.std.specs.Io.KnownBytes.{Appends}
use Rattle.std.specs.Prelude.{slice_range}
use Rattle.vm_types.specs.State.{State, after}
use Rattle.vm_store.specs.declared.store.Store.{Store}
use Rattle.vm_cli.specs.answers.Carried.{WritesStart}
use Rattle.vm_cli.specs.session.Known.{between}
use Rattle.vm_cli.specs.session.SessionKinds.{AnswersThen, Course, Tells}
use Rattle.vm_cli.specs.session.SessionKinds.AnswersThen.{answer_cut, answered_so}
use Rattle.vm_cli.specs.session.SessionKinds.Course.{over, proceeds, unwritten}
use Rattle.vm_cli.specs.session.Feeds.{FeedsOn}
use Rattle.vm_cli.specs.session.PlannerCalls.{AreWaiting, IsWaiting}
use Rattle.vm_cli.specs.answers.Replies.{reply_text}
use Rattle.vm_cli.specs.session.Rounds.{Batch as Commanded, Round, after_round, after_rounds}
use Rattle.vm_cli.specs.session.Rounds.Round.{committed, unsure}
use Rattle.vm_cli.specs.session.Streams.{CommitsOrNot, Undoes, Verdict, carried_by, trying, verdict_of, why_text}
use Rattle.vm_cli.specs.session.Streams.Verdict.{fails, succeeds}
use Rattle.vm_cli.specs.session.Session.{EndsBy, HasAnswered}
use Rattle.vm_cli.specs.session.Waiting.{CarriesAll, EndsInRound, RefusesOne, SettlesWaiting, TakesRound, Waiting, both, committed_texts, then_course, unsure_texts, waiting_text}
use Rattle.vm_cli.specs.session.Waiting.EndsInRound.{commit_unsure, store_failed}
use Rattle.vm_cli.specs.session.Waiting.HasNoRound.{none_left, writer_failed}
use Rattle.vm_cli.specs.session.Waiting.SettlesSome.{further_rounds, last_round}
use Rattle.vm_cli.specs.session.Waiting.TakesRound.{alone_refused, group_committed, group_undone}
use Rattle.vm_cli.specs.session.WaitingCalls.{KeepsWaiting, StayWaiting, StopsAt, TriesRange, first_left, is_refused, kept_answers, own_text, placed_behind, round_result, shared_texts, shared_verdict, sure_result}
use Rattle.vm_cli.specs.declared.answers.reply.Reply.TheVariants as reply
use Rattle.vm_cli.specs.declared.session.Manner.{Manner}
use Rattle.vm_cli.specs.declared.session.OnRefusal.TheVariants.{Stop}
use Rattle.vm_cli.specs.declared.session.ServeFault.{ServeFault}
use Rattle.vm_cli.specs.declared.session.ServeFault.TheVariants as fault
use Rattle.vm_cli.specs.declared.session.batches.BatchSession.{BatchSession}
use Rattle.vm_cli.specs.declared.session.carrying.Stop.{Stop as LastLine}
use Rattle.vm_cli.specs.declared.session.carrying.Then.{Then}
use Rattle.vm_cli.specs.declared.session.carrying.Then.TheVariants.{GoOn, Failed as AsFailed, Unsure as AsUnsure}
use Rattle.vm_cli.specs.declared.session.waiting.Tried.{Tried}
use Rattle.vm_cli.specs.declared.session.waiting.Tried.TheVariants.{Committed, Refused, Undone}
use Rattle.vm_cli.specs.declared.session.waiting.WaitingBatch.{WaitingBatch}
use Rattle.vm_cli.proofs.BatchLemmas.{held_length}
use Rattle.vm_cli.proofs.CarriedLemmas.{begins-then}
use Rattle.vm_cli.proofs.EndLemmas.{feeds_fine}
use Rattle.vm_cli.proofs.FeedLemmas.{after-join}
use Rattle.vm_cli.proofs.Known.{Appends-nil, Appends-then}
use Rattle.vm_cli.proofs.RoundLemmas.{rounds_append}
use Rattle.vm_cli.proofs.SettleLemmas.{commit_feeds, undo_feeds}

-- ---- ranges of a list

module _ {X : Type 0} where
  take_behind : (xs : List X) (k : ℕ) (x : X) (behind : List X) → drop k xs ≡ x ∷ behind → take (k + 1) xs ≡ take k xs ++ x ∷ []
  take_behind [] zero x behind e = cc
  take_behind [] (suc k) x behind e = cc
  take_behind (y ∷ xs) zero x behind e = let same : y ≡ x = cc in ap (λ z. z ∷ []) same
  take_behind (y ∷ xs) (suc k) x behind e =
      ap (λ n. take n (y ∷ xs)) (add-one (suc k)) ∙ ap (λ ys. y ∷ ys) (ap (λ n. take n xs) (sym (add-one k)) ∙ take_behind xs k x behind e)

  -- one more of them
  pub range_more : (xs : List X) (from i : ℕ) (x : X) (behind : List X) → drop i xs ≡ x ∷ behind → from ≤ i → slice_range xs from (i + 1) ≡ slice_range xs from i ++ x ∷ []
  range_more xs from i x behind e order =
      let ends : i + 1 - from ≡ (i - from) + 1 = omega arith in
      let place : from + (i - from) ≡ i = omega arith in
      ap (λ n. take n (drop from xs)) ends ∙ take_behind (drop from xs) (i - from) x behind (drop-drop (i - from) from xs ∙ ap (λ n. drop n xs) place ∙ e)

  -- and those behind them
  pub range_split : (xs : List X) (from i : ℕ) → from ≤ i → drop from xs ≡ slice_range xs from i ++ drop i xs
  range_split xs from i order =
      let place : from + (i - from) ≡ i = omega arith in
      sym (take-append-drop (i - from) (drop from xs)) ∙ ap (λ ys. slice_range xs from i ++ ys) (drop-drop (i - from) from xs ∙ ap (λ n. drop n xs) place)

  -- none of them
  pub range_none : (xs : List X) (from : ℕ) → slice_range xs from from ≡ []
  range_none xs from = let none : from - from ≡ 0 = omega arith in ap (λ n. take n (drop from xs)) none

  -- some of them
  pub range_some : (xs : List X) (from to : ℕ) → from < to → to ≤ length xs → slice_range xs from to ≢ []
  range_some xs from to few within e = omega (arith, ap length e, length-take (to - from) (drop from xs), length-drop from xs)

  -- another one behind them
  pub range_set : (xs : List X) (from i : ℕ) (y : X) → from ≤ i → slice_range (set xs i y) from i ≡ slice_range xs from i
  range_set xs from i y order =
      let place : i ≡ from + (i - from) = omega arith in
      ap (λ n. slice_range (set xs n y) from i) place ∙ ap (take (i - from)) (drop-set-add from xs (i - from) y) ∙ take-set (drop from xs) (i - from) y

  -- those up to a place, and those from it on
  pub range_cut : (xs : List X) (from i to : ℕ) → from ≤ i → i ≤ to → slice_range xs from to ≡ slice_range xs from i ++ slice_range xs i to
  range_cut xs from i to first second =
      let count : to - from ≡ (i - from) + (to - i) = omega arith in
      let few : i - from ≤ to - from = omega arith in
      let place : from + (i - from) ≡ i = omega arith in
      let ys = drop from xs in
      sym (take-append-drop (i - from) (take (to - from) ys))
      ∙ ap (λ zs. zs ++ drop (i - from) (take (to - from) ys)) (take-take (i - from) (to - from) ys few)
      ∙ ap (λ zs. take (i - from) ys ++ zs) (ap (λ n. drop (i - from) (take n ys)) count ∙ drop-take (i - from) (to - i) ys ∙ ap (take (to - i)) (drop-drop (i - from) from xs ∙ ap (λ n. drop n xs) place))

  -- something stands at a place
  pub behind_some : (xs : List X) (i : ℕ) → i < length xs → (x : X) × (behind : List X) × (drop i xs ≡ x ∷ behind)
  behind_some [] i lt = absurd (omega arith)
  behind_some (x ∷ xs) zero lt = (x, xs, refl)
  behind_some (x ∷ xs) (suc i) lt = behind_some xs i (omega (arith, lt))

  -- what stands at a place
  pub first_behind : (xs : List X) (i : ℕ) (x d : X) (behind : List X) → drop i xs ≡ x ∷ behind → get_or xs i d ≡ x
  first_behind [] zero x d behind e = cc
  first_behind [] (suc i) x d behind e = cc
  first_behind (y ∷ xs) zero x d behind e = cc
  first_behind (y ∷ xs) (suc i) x d behind e = first_behind xs i x d behind e

  pub behind_read : (xs : List X) (i : ℕ) (x : X) → x ≡ get_or xs i x → i < length xs → drop i xs ≡ x ∷ drop (i + 1) xs
  behind_read xs i x read lt = drop_more xs i x lt ∙ ap (λ y. y ∷ drop (i + 1) xs) (sym read)

-- ---- what waits

are_drop : (n : ℕ) (queue : List WaitingBatch) (waiting : List Waiting) → AreWaiting queue waiting → AreWaiting (drop n queue) (drop n waiting)
are_drop zero queue waiting h = h
are_drop (suc n) [] [] h = tt
are_drop (suc n) [] (it ∷ waiting) h = absurd h
are_drop (suc n) (own ∷ queue) [] h = absurd h
are_drop (suc n) (own ∷ queue) (it ∷ waiting) h = are_drop n queue waiting h.1

are_take : (n : ℕ) (queue : List WaitingBatch) (waiting : List Waiting) → AreWaiting queue waiting → AreWaiting (take n queue) (take n waiting)
are_take zero queue waiting h = tt
are_take (suc n) [] [] h = tt
are_take (suc n) [] (it ∷ waiting) h = absurd h
are_take (suc n) (own ∷ queue) [] h = absurd h
are_take (suc n) (own ∷ queue) (it ∷ waiting) h = (h.0, are_take n queue waiting h.1)

pub are_range : (queue : List WaitingBatch) (waiting : List Waiting) (from to : ℕ) → AreWaiting queue waiting → AreWaiting (slice_range queue from to) (slice_range waiting from to)
are_range queue waiting from to h = are_take (to - from) (drop from queue) (drop from waiting) (are_drop from queue waiting h)

pub are_count : (queue : List WaitingBatch) (waiting : List Waiting) → AreWaiting queue waiting → length waiting ≡ length queue
are_count [] [] h = refl
are_count [] (it ∷ waiting) h = absurd h
are_count (own ∷ queue) [] h = absurd h
are_count (own ∷ queue) (it ∷ waiting) h = ap suc (are_count queue waiting h.1)

-- one that waits, at its place
pub record IsFirst (own : WaitingBatch) (waiting : List Waiting) : Type 0 where
  pub it : Waiting
  pub behind : List Waiting
  pub is : IsWaiting own it
  pub first : waiting ≡ it ∷ behind

pub are_first : (own : WaitingBatch) (others : List WaitingBatch) (queue : List WaitingBatch) (waiting : List Waiting) (i : ℕ) → AreWaiting queue waiting → drop i queue ≡ own ∷ others → IsFirst own (drop i waiting)
are_first own others queue waiting i h e = by (drop i waiting) (subst (λ q. AreWaiting q (drop i waiting)) e (are_drop i queue waiting h))
  where
    by : (those : List Waiting) → AreWaiting (own ∷ others) those → IsFirst own those
    by [] are = absurd are
    by (it ∷ behind) are = record { it = it; behind = behind; is = are.0; first = refl }

-- the same waits with other answers
pub stay_set : (queue : List WaitingBatch) (i : ℕ) (own other : WaitingBatch) → ((it : Waiting) → IsWaiting own it → IsWaiting other it) → own ≡ get_or queue i own → StayWaiting queue (set queue i other)
stay_set [] i own other alike read waiting h = h
stay_set (first ∷ queue) zero own other alike read [] h = absurd h
stay_set (first ∷ queue) zero own other alike read (it ∷ waiting) h = (alike it (subst (λ o. IsWaiting o it) (sym read) h.0), h.1)
stay_set (first ∷ queue) (suc i) own other alike read [] h = absurd h
stay_set (first ∷ queue) (suc i) own other alike read (it ∷ waiting) h = (h.0, stay_set queue i own other alike read waiting h.1)

-- what it is answered
pub own_is : (own : WaitingBatch) (it : Waiting) (verdict : Verdict) → IsWaiting own it → own_text own verdict ≡ waiting_text it verdict
own_is own it verdict is = rw (is.number, is.begun, is.lines.2) refl

-- ---- what is done

module _ {D : Type 0} {members : _} where
  -- one more was carried out
  pub carries_more : (old mid new : Store D members) (s : State) (how : Manner) (before : List Waiting) (it : Waiting) (answers : List (List ℕ)) (text : List ℕ) (earlier : Commanded) → CarriesAll old mid s how before answers earlier
      → HasAnswered mid new (after s earlier.commands earlier.answers) (trying how) it.lines text → (batch : Commanded) × CarriesAll old new s how (before ++ it ∷ []) (answers ++ text ∷ []) batch
  carries_more old mid new s how [] it answers text earlier none answered =
      let here : HasAnswered old new s (trying how) it.lines text =
      subst (λ (m : Store D members). HasAnswered m new s (trying how) it.lines text) none.same (subst (λ (b : Commanded). HasAnswered mid new (after s b.commands b.answers) (trying how) it.lines text) none.nothing answered) in (
        both (record { commands = here.commands; answers = here.answers }) (record { commands = []; answers = [] }),
        record {
          mid = new;
          first = text;
          others = [];
          later = record { commands = []; answers = [] };
          carried = here;
          texts = ap (λ xs. xs ++ text ∷ []) none.silent;
          came = refl;
          more = record { same = refl; silent = refl; nothing = refl };
        },
      )
  carries_more old mid new s how (first ∷ before) it answers text earlier those answered =
      let carried = those.carried in
      let later = those.later in
      let state : after s earlier.commands earlier.answers ≡ after (after s carried.commands carried.answers) later.commands later.answers =
      ap (λ (b : Commanded). after s b.commands b.answers) those.came
      ∙ after-join (trying how) old those.mid s first.lines those.first carried.commands later.commands carried.answers later.answers carried.refused carried.each in
      let more = carries_more those.mid mid new (after s carried.commands carried.answers) how before it those.others text later those.more (subst (λ t. HasAnswered mid new t (trying how) it.lines text) state answered) in (
        both (record { commands = carried.commands; answers = carried.answers }) more.0,
        record {
          mid = those.mid;
          first = those.first;
          others = those.others ++ text ∷ [];
          later = more.0;
          carried = carried;
          texts = ap (λ xs. xs ++ text ∷ []) those.texts;
          came = refl;
          more = more.1;
        },
      )

-- the answers that are kept, with those to one more
pub kept_more : (queue : List WaitingBatch) (from i : ℕ) (other : WaitingBatch) → from ≤ i → i < length queue
    → kept_answers (slice_range (set queue i other) from (i + 1)) ≡ kept_answers (slice_range queue from i) ++ other.answers.items ∷ []
kept_more queue from i other order lt =
    let range : slice_range (set queue i other) from (i + 1) ≡ slice_range queue from i ++ other ∷ [] =
    range_more (set queue i other) from i other (drop (i + 1) queue) (drop-set queue i other lt) order ∙ ap (λ ys. ys ++ other ∷ []) (range_set queue from i other order) in
    ap kept_answers range ∙ map-append (λ (own : WaitingBatch). own.answers.items) (slice_range queue from i) (other ∷ [])

-- ---- what is answered

module _ {T : Type 0} (acknowledged : Result T LastLine) where
  pub shared-append : (first second : List WaitingBatch) → shared_texts acknowledged (first ++ second) ≡ shared_texts acknowledged first ++ shared_texts acknowledged second
  shared-append [] second = refl
  shared-append (own ∷ first) second =
      let text = own_text own (shared_verdict acknowledged own) in
      ap (λ t. text ++ t) (shared-append first second) ∙ sym (append_assoc text (shared_texts acknowledged first) (shared_texts acknowledged second))

  -- one more is answered
  pub shared_more : (queue : List WaitingBatch) (from i : ℕ) (own : WaitingBatch) (others : List WaitingBatch) → drop i queue ≡ own ∷ others → from ≤ i
      → shared_texts acknowledged (slice_range queue from (i + 1)) ≡ shared_texts acknowledged (slice_range queue from i) ++ own_text own (shared_verdict acknowledged own)
  shared_more queue from i own others e order =
      ap (shared_texts acknowledged) (range_more queue from i own others e order) ∙ shared-append (slice_range queue from i) (own ∷ [])
      ∙ ap (λ t. shared_texts acknowledged (slice_range queue from i) ++ t) (append-nil (own_text own (shared_verdict acknowledged own)))

  pub shared_cut : (queue : List WaitingBatch) (from i to : ℕ) → from ≤ i → i ≤ to
      → shared_texts acknowledged (slice_range queue from to) ≡ shared_texts acknowledged (slice_range queue from i) ++ shared_texts acknowledged (slice_range queue i to)
  shared_cut queue from i to first second = ap (shared_texts acknowledged) (range_cut queue from i to first second) ∙ shared-append (slice_range queue from i) (slice_range queue i to)

-- one of them, at its place, and how it came out
pub record ComesOut {T : Type 0} (acknowledged settled : Result T LastLine) (queue : List WaitingBatch) (at : ℕ) : Type 0 where
  pub own : WaitingBatch
  pub others : List WaitingBatch
  pub place : drop at queue ≡ own ∷ others
  pub verdict : verdict_of settled own.answers.items ≡ shared_verdict acknowledged own

pub comes_out : {T : Type 0} (acknowledged settled : Result T LastLine) (queue : List WaitingBatch) (at : ℕ) (own : WaitingBatch) (count : ℕ) → own ≡ get_or queue at own → at < length queue
    → count ≡ length own.batch.lines.items → settled ≡ placed_behind count acknowledged → ComesOut acknowledged settled queue at
comes_out {T} acknowledged settled queue at own count read lt counted is = record {
  own = own;
  others = drop (at + 1) queue;
  place = behind_read queue at own read lt;
  verdict = ap (λ r. verdict_of r own.answers.items) is ∙ ap (λ n. verdict_of (placed_behind n acknowledged) own.answers.items) counted ∙ by acknowledged;
}
  where
    by : (found : Result T LastLine) → verdict_of (placed_behind (length own.batch.lines.items) found) own.answers.items ≡ shared_verdict found own
    by (Ok u) = refl
    by (Err stop) = refl

pub next_behind : (queue queue' : List WaitingBatch) (at : ℕ) → drop at queue ≡ drop at queue' → drop (at + 1) queue ≡ drop (at + 1) queue'
next_behind queue queue' at same = sym (drop-drop 1 at queue) ∙ ap (drop 1) same ∙ drop-drop 1 at queue'

pub keeps_both : (queue queue' queue'' : List WaitingBatch) (old mid new : BatchSession) → KeepsWaiting queue queue' old mid → KeepsWaiting queue' queue'' mid new → KeepsWaiting queue queue'' old new
keeps_both queue queue' queue'' old mid new first second = record {
  manner = second.manner ∙ first.manner;
  batch = second.batch ∙ first.batch;
  count = second.count ∙ first.count;
  waits = λ waiting are. second.waits waiting (first.waits waiting are);
}

-- they were committed
committed_is : {T : Type 0} (u : T) (queue : List WaitingBatch) (waiting : List Waiting) → AreWaiting queue waiting → shared_texts {T = T} (Ok u) queue ≡ committed_texts waiting (kept_answers queue)
committed_is u [] [] h = refl
committed_is u [] (it ∷ waiting) h = absurd h
committed_is u (own ∷ queue) [] h = absurd h
committed_is {T} u (own ∷ queue) (it ∷ waiting) h =
    let first = succeeds own.answers.items in
    ap (λ t. t ++ shared_texts {T = T} (Ok u) queue) (own_is own it first h.0) ∙ ap (λ t. waiting_text it first ++ t) (committed_is {T = T} u queue waiting h.1)

-- or their commit was not acknowledged
unsure_is : (T : Type 0) (stop : LastLine) → ((answers : List ℕ) → why_text stop.why answers ≡ reply_text reply.Unsure) → stop.then ≡ AsUnsure → (queue : List WaitingBatch) (waiting : List Waiting) → AreWaiting queue waiting
    → shared_texts {T = T} (Err stop) queue ≡ unsure_texts waiting
unsure_is T stop why_is then_is [] [] h = refl
unsure_is T stop why_is then_is [] (it ∷ waiting) h = absurd h
unsure_is T stop why_is then_is (own ∷ queue) [] h = absurd h
unsure_is T stop why_is then_is (own ∷ queue) (it ∷ waiting) h =
    let lines : length own.batch.lines.items ≡ length it.lines = held_length own.batch.lines.items it.lines h.0.lines.1 in
    let verdict : ◌≡◌ {A = Verdict} (shared_verdict {T = T} (Err stop) own) (fails (length it.lines) (reply_text reply.Unsure) AsUnsure) =
    ap (λ n. fails n (why_text stop.why own.answers.items) stop.then) lines
    ∙ ap (λ t. fails (length it.lines) t stop.then) (why_is own.answers.items)
    ∙ ap (λ then. fails (length it.lines) (reply_text reply.Unsure) then) then_is in
    let text : own_text own (shared_verdict {T = T} (Err stop) own) ≡ waiting_text it (fails (length it.lines) (reply_text reply.Unsure) AsUnsure) = ap (own_text own) verdict ∙ own_is own it _ h.0 in
    ap (λ t. t ++ shared_texts {T = T} (Err stop) queue) text ∙ ap (λ t. waiting_text it (fails (length it.lines) (reply_text reply.Unsure) AsUnsure) ++ t) (unsure_is T stop why_is then_is queue waiting h.1)

-- ---- a round

module _ {D : Type 0} {members : _} where
  -- the session ends, whatever was told of the store
  pub feeds_over : (old new : Store D members) (result : Result Bool ServeFault) → FeedsOn result old new → (why : ServeFault) → EndsBy old new why → FeedsOn (Err why) old new
  feeds_over old new result feeds why ends = record { goes = feeds.goes; ok = λ sound. tt; err = λ sound. ends; failing = feeds.failing; left = feeds.left }

-- all of them were committed, or their commit was not acknowledged
abbrev pub shared_tried : {T : Type 0} → Result T ServeFault → Result Tried ServeFault
shared_tried (Ok u) = Ok Committed
shared_tried (Err why) = Err why

module _ {D T : Type 0} {members : _} (old mid new : Store D members) (acknowledged : Result T LastLine) (place : ℕ) (commits : CommitsOrNot mid new place acknowledged) (text : List ℕ) (result : Result T ServeFault) (a b : Option (List ℕ))
    (said : AnswersThen text (sure_result acknowledged) result (between a b)) where
  pub shared_feeds : FeedsOn (Ok false) old mid → FeedsOn (round_result (shared_tried result)) old new
  shared_feeds first = by acknowledged commits said
    where
      by : (found : Result T LastLine) → CommitsOrNot mid new place found → AnswersThen text (sure_result found) result (between a b) → FeedsOn (round_result (shared_tried result)) old new
      by (Ok u) came (answered_so is written) = subst (λ r. FeedsOn (round_result (shared_tried r)) old new) (sym is) (commit_feeds old mid new {T = T} (Ok u) place [] came first)
      by (Ok u) came (answer_cut is begun) =
          subst (λ r. FeedsOn (round_result (shared_tried r)) old new) (sym is) (feeds_over old new (Ok false) (commit_feeds old mid new {T = T} (Ok u) place [] came first) fault.Write tt)
      by (Err stop) came (answered_so is written) =
          subst (λ r. FeedsOn (round_result (shared_tried r)) old new) (sym is) (feeds_over old new _ (commit_feeds old mid new {T = T} (Err stop) place [] came first) fault.Unsure tt)
      by (Err stop) came (answer_cut is begun) =
          subst (λ r. FeedsOn (round_result (shared_tried r)) old new) (sym is) (feeds_over old new _ (commit_feeds old mid new {T = T} (Err stop) place [] came first) fault.Write tt)

module _ {D : Type 0} {members : _} (old new : Store D members) (s : State) (how : Manner) (waiting : List Waiting) (text : List ℕ) (round : Round) where
  -- a round was the last, as the writer failed behind it
  pub settles_cut : (rest : List Waiting) (refused : Bool) → TakesRound old new s how waiting rest text refused round → SettlesWaiting old new s how waiting text unwritten (round ∷ [])
  settles_cut rest refused takes = further_rounds (record {
    mid = new;
    rest = rest;
    said = text;
    more = [];
    refused = refused;
    next = unwritten;
    takes = takes;
    texts = sym (append-nil text);
    goes = refl;
    others = record { same = refl; silent = refl; since = writer_failed refl };
  })

  -- or the session ended in it
  pub settles_over : EndsInRound old new s how waiting text round → SettlesWaiting old new s how waiting text over (round ∷ [])
  settles_over ends = last_round (record { ends = ends; last = refl; goes = refl })

module _ {D : Type 0} {members : _} (old mid new : Store D members) (s : State) (how : Manner) (from to : ℕ) (few : from < to) (queue : List WaitingBatch) (within : to ≤ length queue) (waiting : List Waiting) (are : AreWaiting queue waiting) (batch : Commanded)
    (carried : CarriesAll old mid s how (slice_range waiting from to) (kept_answers (slice_range queue from to)) batch) (a b : Option (List ℕ)) where
  some_there : slice_range waiting from to ≢ []
  some_there = range_some waiting from to few (omega (arith, within, are_count queue waiting are))

  pub shared_round : {T : Type 0} (acknowledged : Result T LastLine) (place : ℕ) → CommitsOrNot mid new place acknowledged → (result : Result T ServeFault)
      → AnswersThen (shared_texts acknowledged (slice_range queue from to)) (sure_result acknowledged) result (between a b) → TriesRange old new s how from to waiting (shared_tried result) (between a b)
  shared_round {T} (Ok u) place (answer, applies) result said = by said
    where
      takes : TakesRound old new s how (drop from waiting) (drop to waiting) (shared_texts {T = T} (Ok u) (slice_range queue from to)) false (committed batch answer)
      takes = group_committed (record {
        group = slice_range waiting from to;
        some = some_there;
        cut = range_split waiting from to (omega (arith, few));
        commits = record {
          mid = mid;
          answers = kept_answers (slice_range queue from to);
          batch = batch;
          answer = answer;
          carried = carried;
          applies = applies;
          says = committed_is {T = T} u (slice_range queue from to) (slice_range waiting from to) (are_range queue waiting from to are);
          came_so = refl;
        };
        refuses = refl;
      })

      by : AnswersThen (shared_texts {T = T} (Ok u) (slice_range queue from to)) (Ok u) result (between a b) → TriesRange old new s how from to waiting (shared_tried result) (between a b)
      by (answered_so is written) = subst (λ r. TriesRange old new s how from to waiting (shared_tried {T = T} r) (between a b)) (sym is) (record { text = shared_texts {T = T} (Ok u) (slice_range queue from to); round = committed batch answer; takes = takes; written = written })
      by (answer_cut is begun) =
          subst (λ r. TriesRange old new s how from to waiting (shared_tried {T = T} r) (between a b)) (sym is)
          (record { text = shared_texts {T = T} (Ok u) (slice_range queue from to); course = unwritten; says = (committed batch answer ∷ [], settles_cut old new s how (drop from waiting) _ _ (drop to waiting) false takes); begun = begun })
  shared_round {T} (Err stop) place (refusal, applies, at, why_is, then_is) result said = by said
    where
      ends : EndsInRound old new s how (drop from waiting) (shared_texts {T = T} (Err stop) (slice_range queue from to)) (unsure batch refusal)
      ends = commit_unsure (record {
        group = slice_range waiting from to;
        rest = drop to waiting;
        some = some_there;
        cut = range_split waiting from to (omega (arith, few));
        leaves = record {
          mid = mid;
          answers = kept_answers (slice_range queue from to);
          batch = batch;
          refusal = refusal;
          carried = carried;
          applies = applies;
          says = unsure_is T stop (λ answers. ap (λ w. why_text w answers) why_is) then_is (slice_range queue from to) (slice_range waiting from to) (are_range queue waiting from to are);
          came_so = refl;
        };
      })

      by : AnswersThen (shared_texts {T = T} (Err stop) (slice_range queue from to)) (Err fault.Unsure) result (between a b) → TriesRange old new s how from to waiting (shared_tried result) (between a b)
      by (answered_so is written) =
          subst (λ r. TriesRange old new s how from to waiting (shared_tried {T = T} r) (between a b)) (sym is)
          (record { text = shared_texts {T = T} (Err stop) (slice_range queue from to); says = (unsure batch refusal ∷ [], settles_over old new s how (drop from waiting) _ _ ends); written = written })
      by (answer_cut is begun) =
          subst (λ r. TriesRange old new s how from to waiting (shared_tried {T = T} r) (between a b)) (sym is)
          (record { text = shared_texts {T = T} (Err stop) (slice_range queue from to); course = over; says = (unsure batch refusal ∷ [], settles_over old new s how (drop from waiting) _ _ ends); begun = begun })

-- a line of one was refused, and all was undone or the store had failed
module _ {D : Type 0} {members : _} (old last new : Store D members) (s : State) (how : Manner) (from at : ℕ) (order : from ≤ at) (queue : List WaitingBatch) (waiting : List Waiting) (are : AreWaiting queue waiting) (stop : LastLine)
    (stopped : StopsAt old last s how (slice_range waiting from at) (drop at waiting) stop (drop at queue)) where
  abbrev carried_there : Commanded
  carried_there = both stopped.earlier (carried_by stopped.stops)

  -- what its planner is answered, if it is told so
  abbrev pub stopped_text : Then → List ℕ
  stopped_text then = own_text stopped.own (fails stop.place (why_text stop.why stopped.own.answers.items) then)

  refuses_there : (then : Then) (round : Round) → Undoes last new carried_there then round → RefusesOne old new s how (slice_range waiting from at) stopped.it (stopped_text then) then round
  refuses_there then round undoes = record {
    mid = stopped.mid;
    last = last;
    answers = stopped.answers;
    earlier = stopped.earlier;
    place = stop.place;
    why = why_text stop.why stopped.own.answers.items;
    carried = stopped.carried;
    stops = stopped.stops;
    undoes = undoes;
    says = own_is stopped.own stopped.it (fails stop.place (why_text stop.why stopped.own.answers.items) then) alike;
  }
    where
      alike : IsWaiting stopped.own stopped.it
      alike = waits_as (subst (λ q. AreWaiting q (stopped.it ∷ stopped.behind)) stopped.own_first (subst (AreWaiting (drop at queue)) stopped.first (are_drop at queue waiting are)))
        where
          waits_as : AreWaiting (stopped.own ∷ stopped.others) (stopped.it ∷ stopped.behind) → IsWaiting stopped.own stopped.it
          waits_as both_are = both_are.0

  cut_there : drop from waiting ≡ slice_range waiting from at ++ stopped.it ∷ stopped.behind
  cut_there = range_split waiting from at order ∙ ap (λ ws. slice_range waiting from at ++ ws) stopped.first

  -- those before it are tried again
  pub again_there : from < at → (to : ℕ) (a : Option (List ℕ)) → ((batch : Commanded) → (round : Round) × Undoes last new batch GoOn round) → TriesRange old new s how from to waiting (Ok (Undone at)) (between a a)
  again_there few to a undoes =
      let undone = undoes carried_there in
      record {
        text = [];
        round = undone.0;
        takes = group_undone (record {
          before = slice_range waiting from at;
          it = stopped.it;
          behind = stopped.behind;
          unsaid = stopped_text GoOn;
          some = range_some waiting from at few (omega (arith, length-drop at waiting, ap length stopped.first));
          cut = cut_there;
          stops = refuses_there GoOn undone.0 undone.1;
          stays = refl;
          says = refl;
          refuses = refl;
        });
        written = Appends-nil a;
      }

  -- it is the first of them
  first_there : at ≤ from → (round : Round) → Undoes last new carried_there GoOn round → TakesRound old new s how (drop from waiting) (drop (from + 1) waiting) (stopped_text GoOn) true round
  first_there less round undoes =
      let same : at ≡ from = omega (arith, order, less) in
      let none : slice_range waiting from at ≡ [] = ap (slice_range waiting from) same ∙ range_none waiting from in
      let first : drop from waiting ≡ stopped.it ∷ stopped.behind = ap (λ n. drop n waiting) (sym same) ∙ stopped.first in
      let rest : stopped.behind ≡ drop (from + 1) waiting = next_there first in
      alone_refused (record {
        it = stopped.it;
        cut = first ∙ ap (λ ws. stopped.it ∷ ws) rest;
        stops = subst (λ ws. RefusesOne old new s how ws stopped.it (stopped_text GoOn) GoOn round) none (refuses_there GoOn round undoes);
        refuses = refl;
      })
    where
      next_there : drop from waiting ≡ stopped.it ∷ stopped.behind → stopped.behind ≡ drop (from + 1) waiting
      next_there first = ap (drop 1) (sym first) ∙ drop-drop 1 from waiting

  pub first_refused : (to : ℕ) → at ≤ from → ((batch : Commanded) → (round : Round) × Undoes last new batch GoOn round) → (a b : Option (List ℕ)) → Appends a b (stopped_text GoOn)
      → TriesRange old new s how from to waiting (Ok Refused) (between a b)
  first_refused to less undoes a b written = let undone = undoes carried_there in record { text = stopped_text GoOn; round = undone.0; takes = first_there less undone.0 undone.1; written = written }

  pub first_unwritten : (to : ℕ) → at ≤ from → ((batch : Commanded) → (round : Round) × Undoes last new batch GoOn round) → (a b : Option (List ℕ)) → WritesStart a b (stopped_text GoOn)
      → TriesRange old new s how from to waiting (Err fault.Write) (between a b)
  first_unwritten to less undoes a b begun =
      let undone = undoes carried_there in
      record { text = stopped_text GoOn; course = unwritten; says = (undone.0 ∷ [], settles_cut old new s how (drop from waiting) _ _ (drop (from + 1) waiting) true (first_there less undone.0 undone.1)); begun = begun }

  -- the store had failed
  failed_there : (then : Then) → (then ≡ GoOn → ⊥) → (round : Round) → Undoes last new carried_there then round → EndsInRound old new s how (drop from waiting) (stopped_text then) round
  failed_there GoOn other round undoes = absurd (other refl)
  failed_there AsUnsure other round undoes = absurd undoes
  failed_there AsFailed other round undoes = store_failed (record {
    before = slice_range waiting from at;
    it = stopped.it;
    behind = stopped.behind;
    cut = cut_there;
    stops = refuses_there AsFailed round undoes;
  })

  pub failed_told : (to : ℕ) (then : Then) → (then ≡ GoOn → ⊥) → ((batch : Commanded) → (round : Round) × Undoes last new batch then round) → (a b : Option (List ℕ)) → Appends a b (stopped_text then)
      → TriesRange old new s how from to waiting (Err fault.Store) (between a b)
  failed_told to then other undoes a b written =
      let undone = undoes carried_there in
      record { text = stopped_text then; says = (undone.0 ∷ [], settles_over old new s how (drop from waiting) _ _ (failed_there then other undone.0 undone.1)); written = written }

  pub failed_unwritten : (to : ℕ) (then : Then) → (then ≡ GoOn → ⊥) → ((batch : Commanded) → (round : Round) × Undoes last new batch then round) → (a b : Option (List ℕ)) → WritesStart a b (stopped_text then)
      → TriesRange old new s how from to waiting (Err fault.Write) (between a b)
  failed_unwritten to then other undoes a b begun =
      let undone = undoes carried_there in
      record { text = stopped_text then; course = over; says = (undone.0 ∷ [], settles_over old new s how (drop from waiting) _ _ (failed_there then other undone.0 undone.1)); begun = begun }

-- what is told of the store then
module _ {D : Type 0} {members : _} (old last new : Store D members) (first : FeedsOn (Err fault.Refused) old last) where
  pub undone_fine : ((batch : Commanded) → (round : Round) × Undoes last new batch GoOn round) → FeedsOn (Ok false) old new
  undone_fine undoes =
      let nothing : Commanded = record { commands = []; answers = [] } in
      let undone = undoes nothing in
      feeds_fine old new true (undo_feeds old last new first 0 [] GoOn undone.0 nothing undone.1) false

  pub failed_over : (then : Then) → (then ≡ GoOn → ⊥) → ((batch : Commanded) → (round : Round) × Undoes last new batch then round) → FeedsOn (Err fault.Store) old new
  failed_over GoOn other undoes = absurd (other refl)
  failed_over AsUnsure other undoes = let nothing : Commanded = record { commands = []; answers = [] } in absurd (undoes nothing).1
  failed_over AsFailed other undoes =
      let nothing : Commanded = record { commands = []; answers = [] } in
      let undone = undoes nothing in
      undo_feeds old last new first 0 [] AsFailed undone.0 nothing undone.1

-- ---- round by round

pub or-true : (again : Bool) → true ≡ (again || true)
or-true true = refl
or-true false = refl

again_then : (again refused : Bool) (course : Course) → then_course again (then_course refused course) ≡ then_course (again || refused) course
again_then false refused (proceeds more) = refl
again_then true refused (proceeds more) = refl
again_then again refused over = refl
again_then again refused unwritten = refl

again_refused : (again : Bool) → then_course again (proceeds true) ≡ proceeds true
again_refused true = refl
again_refused false = refl

again_none : (again : Bool) → then_course again (proceeds false) ≡ proceeds again
again_none true = refl
again_none false = refl

module _ {D : Type 0} {members : _} (old : Store D members) (s : State) (how : Manner) (waiting : List Waiting) where
  -- the rounds so far, the first of those that wait on, whether one was refused, and what was answered
  pub record SettlesSoFar (now : Store D members) (rest : List Waiting) (refused : Bool) (before after : Option (List ℕ)) : Type 0 where
    pub text : List ℕ
    pub rounds : List Round
    pub written : Appends before after text
    pub on : (new : Store D members) (more : List ℕ) (course : Course) (later : List Round) → SettlesWaiting now new (after_rounds s rounds) how rest more course later
        → SettlesWaiting old new s how waiting (text ++ more) (then_course refused course) (rounds ++ later)

  pub settles_none_yet : (a : Option (List ℕ)) → SettlesSoFar old waiting false a a
  settles_none_yet a = record {
    text = [];
    rounds = [];
    written = Appends-nil a;
    on = λ new more course later settles. subst (λ c. SettlesWaiting old new s how waiting more c later) (as_it_is course) settles;
  }
    where
      as_it_is : (course : Course) → course ≡ then_course false course
      as_it_is (proceeds again) = refl
      as_it_is over = refl
      as_it_is unwritten = refl

  module _ (now mid : Store D members) (rest left : List Waiting) (refused one again : Bool) (is : again ≡ (refused || one)) (a b c : Option (List ℕ)) (so_far : SettlesSoFar now rest refused a b) (said : List ℕ) (round : Round) where
    -- one more round
    pub settles_more : TakesRound now mid (after_rounds s so_far.rounds) how rest left said one round → Appends b c said → SettlesSoFar mid left again a c
    settles_more takes written = record {
      text = so_far.text ++ said;
      rounds = so_far.rounds ++ round ∷ [];
      written = Appends-then a b c so_far.text said so_far.written written;
      on = λ new more course later settles.
          let state : after_rounds s (so_far.rounds ++ round ∷ []) ≡ after_round (after_rounds s so_far.rounds) round = rounds_append s so_far.rounds (round ∷ []) in
          let here : SettlesWaiting now new (after_rounds s so_far.rounds) how rest (said ++ more) (then_course one course) (round ∷ later) =
          further_rounds (record {
            mid = mid;
            rest = left;
            said = said;
            more = more;
            refused = one;
            next = course;
            takes = takes;
            texts = refl;
            goes = refl;
            others = subst (λ t. SettlesWaiting mid new t how left more course later) state settles;
          }) in
          let all = so_far.on new (said ++ more) (then_course one course) (round ∷ later) here in
          subst (λ t. SettlesWaiting old new s how waiting t (then_course again course) ((so_far.rounds ++ round ∷ []) ++ later)) (sym (append_assoc so_far.text said more))
          (subst (λ k. SettlesWaiting old new s how waiting (so_far.text ++ (said ++ more)) k ((so_far.rounds ++ round ∷ []) ++ later)) (again_then refused one course ∙ ap (λ r. then_course r course) (sym is))
          (subst (SettlesWaiting old new s how waiting (so_far.text ++ (said ++ more)) (then_course refused (then_course one course))) (sym (append_assoc so_far.rounds (round ∷ []) later)) all));
    }

  -- some were tried together
  pub settles_tried : (now mid : Store D members) (from to : ℕ) (own : Manner) → own ≡ how → (found tried : Tried) → found ≡ tried → (refused again : Bool) → again ≡ (refused || is_refused tried) → (a b c : Option (List ℕ))
      → (so_far : SettlesSoFar now (drop from waiting) refused a b) → TriesRange now mid (after_rounds s so_far.rounds) own from to waiting (Ok found) (between b c) → SettlesSoFar mid (drop (first_left from to tried) waiting) again a c
  settles_tried now mid from to own same found tried is refused again told a b c so_far tries =
      let here : TriesRange now mid (after_rounds s so_far.rounds) how from to waiting (Ok tried) (between b c) =
      subst (λ m. TriesRange now mid (after_rounds s so_far.rounds) m from to waiting (Ok tried) (between b c)) same (subst (λ t. TriesRange now mid (after_rounds s so_far.rounds) own from to waiting (Ok t) (between b c)) is tries) in
      settles_more now mid (drop from waiting) (drop (first_left from to tried) waiting) refused (is_refused tried) again told a b c so_far here.text here.round here.takes here.written

  -- what is told of a session that answers so
  abbrev pub IsSettled : Store D members → List ℕ → Course → Type 0
  IsSettled new text course = (rounds : List Round) × SettlesWaiting old new s how waiting text course rounds

  module _ (now : Store D members) (rest : List Waiting) (refused : Bool) (a b : Option (List ℕ)) (so_far : SettlesSoFar now rest refused a b) where
    -- none is left
    pub settles_all : rest ≡ [] → (how.on_refusal ≡ Stop → ⊥) → Tells how (IsSettled now) (Ok refused) (between a b)
    settles_all none telling =
        let last : SettlesWaiting now now (after_rounds s so_far.rounds) how rest [] (proceeds false) [] = record { same = refl; silent = refl; since = none_left none refl } in
        let all = so_far.on now [] (proceeds false) [] last in
        record {
          text = so_far.text;
          says = (
            so_far.rounds,
            subst (λ rs. SettlesWaiting old now s how waiting so_far.text (proceeds refused) rs) (append-nil so_far.rounds)
                (subst (λ k. SettlesWaiting old now s how waiting so_far.text k (so_far.rounds ++ [])) (again_none refused)
                (subst (λ t. SettlesWaiting old now s how waiting t (then_course refused (proceeds false)) (so_far.rounds ++ [])) (append-nil so_far.text) all)),
          );
          goes_on = λ stop. absurd (telling stop);
          written = so_far.written;
        }

    -- the session ends
    pub settles_last : (new : Store D members) (why : ServeFault) (c : Option (List ℕ)) → Tells how (λ text course. (rounds : List Round) × SettlesWaiting now new (after_rounds s so_far.rounds) how rest text course rounds) (Err why) (between b c)
        → Tells how (IsSettled new) (Err why) (between a c)
    settles_last new fault.Read c tells = tells
    settles_last new fault.Store c it = record {
      text = so_far.text ++ it.text;
      says = (so_far.rounds ++ it.says.0, so_far.on new it.text over it.says.0 it.says.1);
      written = Appends-then a b c so_far.text it.text so_far.written it.written;
    }
    settles_last new fault.Unsure c it = record {
      text = so_far.text ++ it.text;
      says = (so_far.rounds ++ it.says.0, so_far.on new it.text over it.says.0 it.says.1);
      written = Appends-then a b c so_far.text it.text so_far.written it.written;
    }
    settles_last new fault.Refused c it = record {
      text = so_far.text ++ it.text;
      says = (
        so_far.rounds ++ it.says.0,
        subst (λ k. SettlesWaiting old new s how waiting (so_far.text ++ it.text) k (so_far.rounds ++ it.says.0)) (again_refused refused) (so_far.on new it.text (proceeds true) it.says.0 it.says.1),
      );
      stop = it.stop;
      written = Appends-then a b c so_far.text it.text so_far.written it.written;
    }
    settles_last new fault.Write c it = record {
      text = so_far.text ++ it.text;
      course = then_course refused it.course;
      says = (so_far.rounds ++ it.says.0, so_far.on new it.text it.course it.says.0 it.says.1);
      begun = begins-then a b c it.text (so_far.text ++ it.text) (record { sent = so_far.text; split = refl; written = so_far.written }) it.begun;
    }
