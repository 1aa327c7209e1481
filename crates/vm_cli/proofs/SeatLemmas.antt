-- Planners and their seats: those who have joined, in parts, and how one of them is found.
use Rattle.std.proofs.Common.{◌≡◌, ◌≢◌, ◌||◌, ◌+◌, ◌<◌, ◌≤◌, ◌++◌, ◌∙◌, ℕ, zero, suc, Bool, true, false, if◌then◌else◌, is_some, List, [], ◌∷◌, Option, None, Some, Result, Err, ap, sym, refl, subst, arith, append-nil, append_assoc, length, take, drop, get_or}
use Rattle.std.proofs.lemmas.List.{drop_at, drop_more, get_or_at, length-append, take-append-drop, take_all, take_at, take_more}
use Rattle.std.specs.Io.KnownBytes.{Appends}
use Rattle.vm_cli.specs.answers.Carried.{WritesStart}
use Rattle.vm_cli.specs.session.SessionKinds.{AnswersThen, counted_result, some_lines}
use Rattle.vm_cli.specs.session.SessionKinds.AnswersThen.{answered_so}
use Rattle.vm_cli.specs.session.PlannerCalls.{AnswersSeats, AreWithin, IsPlaceOf, StaysAtRest}
use Rattle.vm_cli.specs.session.Known.{between}
use Rattle.vm_cli.specs.session.Planners.{AreSeats, IsAbsent, IsDone, IsPresent, IsTold, Joins, Leaves, Seat, Sits, half_text, hold_some, parting_count, parting_text, partings, seat, seats_end_count, seats_end_text}
use Rattle.vm_cli.specs.session.Planners.Joins.{welcomed}
use Rattle.vm_cli.specs.session.Planners.Leaves.{parted}
use Rattle.vm_cli.specs.answers.Replies.{reply_text}
use Rattle.vm_cli.specs.session.StreamCalls.{KeepsSession}
use Rattle.vm_cli.specs.session.Streams.{Held, IsStage, ok_text}
use Rattle.vm_cli.specs.session.Waiting.{label}
use Rattle.vm_cli.specs.declared.answers.reply.Reply.TheVariants as reply
use Rattle.vm_cli.specs.declared.session.Manner.{Manner}
use Rattle.vm_cli.specs.declared.session.ServeFault.{ServeFault}
use Rattle.vm_cli.specs.declared.session.ServeFault.TheVariants as fault
use Rattle.vm_cli.specs.declared.session.batch.Batch.{Batch}
use Rattle.vm_cli.specs.declared.session.batches.BatchSession.{BatchSession}
use Rattle.vm_cli.specs.declared.session.planners.Planner.{Planner}
use Rattle.vm_cli.specs.declared.session.planners.PlannersSession.{PlannersSession}
use Rattle.vm_cli.proofs.BatchLemmas.{held_count}
use Rattle.vm_cli.proofs.Known.{Appends-nil, Appends-then}
use Rattle.vm_cli.proofs.PlannerLemmas.{puts_behind, puts_short}
use Rattle.vm_cli.proofs.StreamLemmas.{cut_short, written_behind}

-- ---- seats in parts

-- the seat of a planner, between the seats of those before it and of those behind it
pub record SeatsCut (before : List Planner) (planner : Planner) (behind : List Planner) (seats : List Seat) : Type 0 where
  pub stage : Option Held
  pub earlier : List Seat
  pub later : List Seat
  pub cut : seats ≡ earlier ++ seat planner.number stage ∷ later
  pub first : AreSeats before earlier
  pub held : IsStage planner.batch stage
  pub last : AreSeats behind later

pub seats_cut : (before : List Planner) (planner : Planner) (behind : List Planner) (seats : List Seat) → AreSeats (before ++ planner ∷ behind) seats → SeatsCut before planner behind seats
seats_cut [] planner behind [] are = absurd are
seats_cut [] planner behind (it ∷ seats) are = record {
  stage = it.stage;
  earlier = [];
  later = seats;
  cut = ap (λ n. seat n it.stage ∷ seats) (sym are.0);
  first = tt;
  held = are.1;
  last = are.2;
}
seats_cut (one ∷ before) planner behind [] are = absurd are
seats_cut (one ∷ before) planner behind (it ∷ seats) are =
    let rest = seats_cut before planner behind seats are.2 in
    record {
      stage = rest.stage;
      earlier = it ∷ rest.earlier;
      later = rest.later;
      cut = ap (λ them. it ∷ them) rest.cut;
      first = (are.0, are.1, rest.first);
      held = rest.held;
      last = rest.last;
    }

-- the seats of some, and then of others
seats_joined : (before behind : List Planner) (earlier later : List Seat) → AreSeats before earlier → AreSeats behind later → AreSeats (before ++ behind) (earlier ++ later)
seats_joined [] behind [] later first last = last
seats_joined [] behind (it ∷ earlier) later first last = absurd first
seats_joined (one ∷ before) behind [] later first last = absurd first
seats_joined (one ∷ before) behind (it ∷ earlier) later first last = (first.0, first.1, seats_joined before behind earlier later first.2 last)

-- a planner and its seat, between others and theirs
pub seats_around : (before : List Planner) (planner : Planner) (behind : List Planner) (earlier : List Seat) (number : ℕ) (stage : Option Held) (later : List Seat)
    → AreSeats before earlier → planner.number ≡ number → IsStage planner.batch stage → AreSeats behind later
    → AreSeats (before ++ planner ∷ behind) (earlier ++ seat number stage ∷ later)
seats_around before planner behind earlier number stage later first named held last =
    seats_joined before (planner ∷ behind) earlier (seat number stage ∷ later) first (named, held, last)

-- none of some has a number, and none of others
absent_joined : (number : ℕ) (earlier later : List Seat) → IsAbsent number earlier → IsAbsent number later → IsAbsent number (earlier ++ later)
absent_joined number [] later first last = last
absent_joined number (it ∷ earlier) later first last = (first.0, absent_joined number earlier later first.1 last)

pub absent_none : (number : ℕ) (seats : List Seat) → AreSeats [] seats → IsAbsent number seats
absent_none number [] are = tt
absent_none number (it ∷ seats) are = absurd are

-- nor has one more planner
pub absent_more : (number : ℕ) (before : List Planner) (planner : Planner) → ((seats : List Seat) → AreSeats before seats → IsAbsent number seats) → planner.number ≢ number
    → (seats : List Seat) → AreSeats (before ++ planner ∷ []) seats → IsAbsent number seats
absent_more number before planner so_far other seats are =
    let cut = seats_cut before planner [] seats are in
    subst (IsAbsent number) (sym cut.cut) (absent_joined number cut.earlier (seat planner.number cut.stage ∷ cut.later) (so_far cut.earlier cut.first) (other, absent_none number cut.later cut.last))

-- ---- where one of them stands

-- those before a place, the planner at it, and those behind it
pub parted_at : (planners : List Planner) (place : ℕ) (other : Planner) → place < length planners → planners ≡ take place planners ++ get_or planners place other ∷ drop (place + 1) planners
parted_at planners place other lt = sym (take-append-drop place planners) ∙ ap (λ them. take place planners ++ them) (drop_more planners place other lt)

-- the planner of this number has a seat, and none before it has that number
pub record SitsAt (number : ℕ) (before : List Planner) (planner : Planner) (behind : List Planner) (seats : List Seat) : Type 0 where
  pub stage : Option Held
  pub earlier : List Seat
  pub later : List Seat
  pub sits : Sits number stage earlier later seats
  pub first : AreSeats before earlier
  pub held : IsStage planner.batch stage
  pub last : AreSeats behind later

sits_at : (number : ℕ) (before : List Planner) (planner : Planner) (behind : List Planner) → planner.number ≡ number → ((seats : List Seat) → AreSeats before seats → IsAbsent number seats)
    → (planners : List Planner) → planners ≡ before ++ planner ∷ behind → (seats : List Seat) → AreSeats planners seats → SitsAt number before planner behind seats
sits_at number before planner behind named only planners split seats are =
    let cut = seats_cut before planner behind seats (subst (λ them. AreSeats them seats) split are) in
    record {
      stage = cut.stage;
      earlier = cut.earlier;
      later = cut.later;
      sits = record { only = only cut.earlier cut.first; cut = cut.cut ∙ ap (λ n. cut.earlier ++ seat n cut.stage ∷ cut.later) named };
      first = cut.first;
      held = cut.held;
      last = cut.last;
    }

-- the planner at a place
planner_at : (before : List Planner) (planner : Planner) (behind : List Planner) (planners : List Planner) (place : ℕ) → planners ≡ before ++ planner ∷ behind → place ≡ length before
    → (other : Planner) → get_or planners place other ≡ planner
planner_at before planner behind planners place split at other = ap (λ them. get_or them place other) split ∙ get_or_at before planner behind other place (sym at)

-- it is taken from there
planner_cut : (before : List Planner) (planner : Planner) (behind : List Planner) (planners : List Planner) (place : ℕ) → planners ≡ before ++ planner ∷ behind → place ≡ length before
    → take place planners ++ drop (place + 1) planners ≡ before ++ behind
planner_cut before planner behind planners place split at =
    let regrouped : planners ≡ (before ++ planner ∷ []) ++ behind = split ∙ sym (append_assoc before (planner ∷ []) behind) in
    ap (λ them. take place them ++ drop (place + 1) planners) split ∙ ap (λ them. them ++ drop (place + 1) planners) (take_at before (planner ∷ behind) place (sym at))
    ∙ ap (λ them. before ++ drop (place + 1) them) regrouped ∙ ap (λ them. before ++ them) (drop_at (before ++ planner ∷ []) behind (place + 1) (omega (arith, at, length-append before (planner ∷ []))))

-- ---- how many lines their batches have

pub within_more : (n m : ℕ) → n ≤ m → (planners : List Planner) → AreWithin n planners → AreWithin m planners
within_more n m le [] all = tt
within_more n m le (planner ∷ planners) all = (omega (arith, all.0), within_more n m le planners all.1)

pub within_joined : (n : ℕ) (before behind : List Planner) → AreWithin n before → AreWithin n behind → AreWithin n (before ++ behind)
within_joined n [] behind first last = last
within_joined n (planner ∷ before) behind first last = (first.0, within_joined n before behind first.1 last)

pub within_first : (n : ℕ) (before behind : List Planner) → AreWithin n (before ++ behind) → AreWithin n before
within_first n [] behind all = tt
within_first n (planner ∷ before) behind all = (all.0, within_first n before behind all.1)

pub within_last : (n : ℕ) (before behind : List Planner) → AreWithin n (before ++ behind) → AreWithin n behind
within_last n [] behind all = all
within_last n (planner ∷ before) behind all = within_last n before behind all.1

-- ---- who has joined, and who has not

-- one has this number
pub present_at : (number : ℕ) (planners : List Planner) (place : Option ℕ) → is_some place ≡ true → IsPlaceOf number planners place → (seats : List Seat) → AreSeats planners seats → IsPresent number seats
present_at number planners None some at seats are = cc
present_at number planners (Some place) some stands seats are =
    let sat = sits_at number stands.before stands.planner stands.behind stands.named stands.only planners stands.cut seats are in
    record { stage = sat.stage; before = sat.earlier; behind = sat.later; sits = sat.sits }

-- none has
pub absent_at : (number : ℕ) (planners : List Planner) (place : Option ℕ) → is_some place ≡ false → IsPlaceOf number planners place → (seats : List Seat) → AreSeats planners seats → IsAbsent number seats
absent_at number planners None none at = at
absent_at number planners (Some place) none at = cc

-- how many lines are forgotten when a planner leaves
stage_count : (batch : Batch) (stage : Option Held) → IsStage batch stage → batch.count ≡ parting_count stage
stage_count batch None is = is.1.2
stage_count batch (Some held) is = held_count _ _ _ _ held is.1

-- ---- what a call of a session of planners leaves

-- and what one after it does
pub keeps_then : (old mid new : BatchSession) → KeepsSession old mid → KeepsSession mid new → KeepsSession old new
keeps_then old mid new first second = record { batch = second.batch ∙ first.batch; answers = second.answers ∙ first.answers; manner = second.manner ∙ first.manner }

-- its own session holds what it held
rests_kept : (old new : PlannersSession) → KeepsSession old.session new.session → ((n : ℕ) → AreWithin n old.planners.items → AreWithin (n + 1) new.planners.items) → StaysAtRest old new
rests_kept old new same count = record {
  manner = same.manner;
  closed = λ is. subst (λ batch. IsStage batch None) (sym same.batch) is;
  count = count;
}

-- nobody joins or leaves
pub rests_same : (old new : PlannersSession) → KeepsSession old.session new.session → new.planners.items ≡ old.planners.items → StaysAtRest old new
rests_same old new same planners = rests_kept old new same (λ n all. within_more n (n + 1) (omega arith) new.planners.items (subst (AreWithin n) (sym planners) all))

module _ (old new : PlannersSession) (result : Result Bool ServeFault) (before after : Option (List ℕ)) where
  -- what is an answer of one kind is one of another
  pub seats_as : (P Q : List Seat → List ℕ → ℕ → List Seat → Type 0)
      → ((seats : List Seat) → AreSeats old.planners.items seats → (text : List ℕ) (count : ℕ) (seats' : List Seat) → P seats text count seats' → Q seats text count seats')
      → AnswersSeats P result old new (between before after) → AnswersSeats Q result old new (between before after)
  seats_as P Q of answers = record {
    stays = answers.stays;
    waiting = answers.waiting;
    answered = λ seats are.
        let told = answers.answered seats are in
        record { text = told.text; count = told.count; seats' = told.seats'; seated = told.seated; answer = of seats are told.text told.count told.seats' told.answer; said = told.said };
  }

  -- a planner is told a refusal
  pub seats_told : (number : ℕ) (said : List ℕ) → KeepsSession old.session new.session → new.planners.items ≡ old.planners.items → new.waiting.items ≡ old.waiting.items
      → AnswersThen (label number ++ said) (counted_result old.session.manner.on_refusal 1) result (between before after) → AnswersSeats (IsTold number said) result old new (between before after)
  seats_told number said same planners waiting answers = record {
    stays = rests_same old new same planners;
    waiting = waiting;
    answered = λ seats are. record { text = label number ++ said; count = 1; seats' = seats; seated = subst (λ them. AreSeats them seats) (sym planners) are; answer = record { says = refl; refused = refl; seated = refl }; said = answers };
  }

  -- or that all is done
  pub seats_done : KeepsSession old.session new.session → new.planners.items ≡ old.planners.items → new.waiting.items ≡ old.waiting.items
      → AnswersThen (label 0 ++ ok_text) (counted_result old.session.manner.on_refusal 0) result (between before after) → AnswersSeats IsDone result old new (between before after)
  seats_done same planners waiting answers = record {
    stays = rests_same old new same planners;
    waiting = waiting;
    answered = λ seats are. record { text = label 0 ++ ok_text; count = 0; seats' = seats; seated = subst (λ them. AreSeats them seats) (sym planners) are; answer = record { says = refl; refused = refl; seated = refl }; said = answers };
  }

  -- the same session, as far as anybody asks
  pub seats_from : (mid : PlannersSession) (P : List Seat → List ℕ → ℕ → List Seat → Type 0) → mid.planners.items ≡ old.planners.items → mid.waiting.items ≡ old.waiting.items → mid.session ≡ old.session
      → AnswersSeats P result mid new (between before after) → AnswersSeats P result old new (between before after)
  seats_from mid P planners waiting session answers = record {
    stays = record {
      manner = answers.stays.manner ∙ ap (λ (it : BatchSession). it.manner) session;
      closed = λ is. answers.stays.closed (subst (λ (it : BatchSession). IsStage it.batch None) (sym session) is);
      count = λ n all. answers.stays.count n (subst (AreWithin n) (sym planners) all);
    };
    waiting = answers.waiting ∙ waiting;
    answered = λ seats are.
        let told = answers.answered seats (subst (λ them. AreSeats them seats) (sym planners) are) in
        record {
          text = told.text;
          count = told.count;
          seats' = told.seats';
          seated = told.seated;
          answer = told.answer;
          said = subst (λ (it : BatchSession). AnswersThen told.text (counted_result it.manner.on_refusal told.count) result (between before after)) session told.said;
        };
  }

  -- ---- a planner joins

  -- it is new
  pub seats_more : (number : ℕ) (planner : Planner) → ((seats : List Seat) → AreSeats old.planners.items seats → IsAbsent number seats) → planner.number ≡ number → IsStage planner.batch None → planner.batch.count ≡ 0
      → KeepsSession old.session new.session → new.planners.items ≡ old.planners.items ++ planner ∷ [] → new.waiting.items ≡ old.waiting.items
      → AnswersThen (label number ++ ok_text) (counted_result old.session.manner.on_refusal 0) result (between before after) → AnswersSeats (Joins number) result old new (between before after)
  seats_more number planner absent named none empty same planners waiting answers = record {
    stays = rests_kept old new same (λ n all.
        subst (AreWithin (n + 1)) (sym planners)
        (within_joined (n + 1) old.planners.items (planner ∷ []) (within_more n (n + 1) (omega arith) old.planners.items all) (omega (arith, empty), tt)));
    waiting = waiting;
    answered = λ seats are. record {
      text = label number ++ ok_text;
      count = 0;
      seats' = seats ++ seat number None ∷ [];
      seated = subst (λ them. AreSeats them (seats ++ seat number None ∷ [])) (sym planners) (seats_around old.planners.items planner [] seats number None [] are named none tt);
      answer = welcomed (record { absent = absent seats are; says = refl; refused = refl; seated = refl });
      said = answers;
    };
  }

  -- ---- a planner leaves

  pub seats_less : (number place : ℕ) → IsPlaceOf number old.planners.items (Some place) → (left : Planner) → left ≡ get_or old.planners.items place left
      → KeepsSession old.session new.session → new.planners.items ≡ take place old.planners.items ++ drop (place + 1) old.planners.items → new.waiting.items ≡ old.waiting.items
      → ((it : Seat) → left.number ≡ it.number → IsStage left.batch it.stage → AnswersThen (parting_text it) (counted_result old.session.manner.on_refusal left.batch.count) result (between before after))
      → AnswersSeats (Leaves number) result old new (between before after)
  seats_less number place stands left is same planners waiting answers =
      let earlier = stands.before in
      let planner = stands.planner in
      let later = stands.behind in
      let split = stands.cut in
      let at = stands.at in
      let named = stands.named in
      let only = stands.only in
      let found : left ≡ planner = is ∙ planner_at earlier planner later old.planners.items place split at left in
      let rest : new.planners.items ≡ earlier ++ later = planners ∙ planner_cut earlier planner later old.planners.items place split at in
      record {
        stays = rests_kept old new same (λ n all.
            let parts = subst (AreWithin n) split all in
            subst (AreWithin (n + 1)) (sym rest)
            (within_more n (n + 1) (omega arith) (earlier ++ later) (within_joined n earlier later (within_first n earlier (planner ∷ later) parts) (within_last n earlier (planner ∷ later) parts).1)));
        waiting = waiting;
        answered = λ seats are.
            let sat = sits_at number earlier planner later named only old.planners.items split seats are in
            let held = subst (λ it. IsStage it.batch sat.stage) (sym found) sat.held in
            record {
              text = parting_text (seat number sat.stage);
              count = parting_count sat.stage;
              seats' = sat.earlier ++ sat.later;
              seated = subst (λ them. AreSeats them (sat.earlier ++ sat.later)) (sym rest) (seats_joined earlier later sat.earlier sat.later sat.first sat.last);
              answer = parted (record { stage = sat.stage; before = sat.earlier; behind = sat.later; sits = sat.sits; says = refl; refused = refl; seated = refl });
              said = subst (λ n. AnswersThen (parting_text (seat number sat.stage)) (counted_result old.session.manner.on_refusal n) result (between before after)) (stage_count left.batch sat.stage held)
                  (answers (seat number sat.stage) (ap (λ it. it.number) found ∙ named) held);
            };
      }

-- ---- all of them leave

or-assoc : (a b c : Bool) → ((a || b) || c) ≡ (a || (b || c))
or-assoc true b c = refl
or-assoc false b c = refl

partings_joined : (earlier later : List Seat) → partings (earlier ++ later) ≡ partings earlier ++ partings later
partings_joined [] later = refl
partings_joined (it ∷ earlier) later = ap (λ text. parting_text it ++ text) (partings_joined earlier later) ∙ sym (append_assoc (parting_text it) (partings earlier) (partings later))

hold_joined : (earlier later : List Seat) → hold_some (earlier ++ later) ≡ (hold_some earlier || hold_some later)
hold_joined [] later = refl
hold_joined (it ∷ earlier) later = ap (λ some. some_lines (parting_count it.stage) || some) (hold_joined earlier later) ∙ sym (or-assoc (some_lines (parting_count it.stage)) (hold_some earlier) (hold_some later))

none_sit : (seats : List Seat) → AreSeats [] seats → seats ≡ []
none_sit [] are = refl
none_sit (it ∷ seats) are = absurd are

-- what one more of them adds to how many lines are refused
refused_more : (n : ℕ) (some : Bool) (half refused refused' : ℕ) → refused ≡ (if some then 1 else half) → (n ≡ 0 → refused' ≡ refused) → (0 < n → refused' ≡ 1) → refused' ≡ (if some || (some_lines n || false) then 1 else half)
refused_more zero true half refused refused' so_far same one = same refl ∙ so_far
refused_more zero false half refused refused' so_far same one = same refl ∙ so_far
refused_more (suc n) true half refused refused' so_far same one = one (omega arith)
refused_more (suc n) false half refused refused' so_far same one = one (omega arith)

-- these have left: how many lines are refused at the end of the input by then, and what was written
pub record HaveLeft (planners : List Planner) (half refused : ℕ) (before after : Option (List ℕ)) : Type 0 where
  pub count : (seats : List Seat) → AreSeats planners seats → refused ≡ (if hold_some seats then 1 else half)
  pub said : (seats : List Seat) → AreSeats planners seats → Appends before after (partings seats)

pub left_none : (half : ℕ) (a : Option (List ℕ)) → HaveLeft [] half half a a
left_none half a = record {
  count = λ seats are. ap (λ them. if hold_some them then 1 else half) (sym (none_sit seats are));
  said = λ seats are. subst (λ them. Appends a a (partings them)) (sym (none_sit seats are)) (Appends-nil a);
}

module _ (planners : List Planner) (place : ℕ) (half refused : ℕ) (a b c : Option (List ℕ)) (so_far : HaveLeft (take place planners) half refused a b)
    (planner : Planner) (is : planner ≡ get_or planners place planner) (within : place < length planners) where
  -- one more of them has left
  pub left_more : (refused' : ℕ) → (planner.batch.count ≡ 0 → refused' ≡ refused) → (0 < planner.batch.count → refused' ≡ 1)
      → ((it : Seat) → planner.number ≡ it.number → IsStage planner.batch it.stage → Appends b c (parting_text it)) → HaveLeft (take (place + 1) planners) half refused' a c
  left_more refused' same one put = record {
    count = λ seats are.
        let cut = cut_of seats are in
        let counted = stage_count planner.batch cut.stage cut.held in
        refused_more (parting_count cut.stage) (hold_some cut.earlier) half refused refused' (so_far.count cut.earlier cut.first) (λ none. same (counted ∙ none)) (λ some. one (omega (arith, counted, some)))
        ∙ ap (λ some. if some then 1 else half) (sym (ap hold_some (whole seats cut) ∙ hold_joined cut.earlier (seat planner.number cut.stage ∷ [])));
    said = λ seats are.
        let cut = cut_of seats are in
        let it : Seat = seat planner.number cut.stage in
        subst (Appends a c) (sym (ap partings (whole seats cut) ∙ partings_joined cut.earlier (it ∷ []) ∙ ap (λ text. partings cut.earlier ++ text) (append-nil (parting_text it))))
        (Appends-then a b c (partings cut.earlier) (parting_text it) (so_far.said cut.earlier cut.first) (put it refl cut.held));
  }
    where
      more : take (place + 1) planners ≡ take place planners ++ planner ∷ []
      more = take_more planners place planner within ∙ ap (λ it. take place planners ++ it ∷ []) (sym is)

      cut_of : (seats : List Seat) → AreSeats (take (place + 1) planners) seats → SeatsCut (take place planners) planner [] seats
      cut_of seats are = seats_cut (take place planners) planner [] seats (subst (λ them. AreSeats them seats) more are)

      whole : (seats : List Seat) (cut : SeatsCut (take place planners) planner [] seats) → seats ≡ cut.earlier ++ seat planner.number cut.stage ∷ []
      whole seats cut = cut.cut ∙ ap (λ them. cut.earlier ++ seat planner.number cut.stage ∷ them) (none_sit cut.later cut.last)

  -- the writer fails in what one of them is told
  pub left_short : (why : ServeFault) → ((it : Seat) → planner.number ≡ it.number → IsStage planner.batch it.stage → (why ≡ fault.Write) × WritesStart b c (parting_text it))
      → (seats : List Seat) → AreSeats planners seats → (goes : Result Bool ServeFault) → AnswersThen (seats_end_text seats half) goes (Err why) (between a c)
  left_short why put seats are goes =
      let split = parted_at planners place planner within ∙ ap (λ it. take place planners ++ it ∷ drop (place + 1) planners) (sym is) in
      let cut = seats_cut (take place planners) planner (drop (place + 1) planners) seats (subst (λ them. AreSeats them seats) split are) in
      let it : Seat = seat planner.number cut.stage in
      let texts : partings seats ≡ partings cut.earlier ++ (parting_text it ++ partings cut.later) = ap partings cut.cut ∙ partings_joined cut.earlier (it ∷ cut.later) in
      let begun = puts_short b c (parting_text it) (partings cut.later) why (put it refl cut.held) in
      cut_short a c (partings seats) (half_text half) goes why
      (subst (λ text. (why ≡ fault.Write) × WritesStart a c text) (sym texts)
      (puts_behind {T = Bool} a b c (partings cut.earlier) (parting_text it ++ partings cut.later) (Err why) (so_far.said cut.earlier cut.first) begun))

-- all of them have left
module _ (planners : List Planner) (place : ℕ) (half refused : ℕ) (a b c : Option (List ℕ)) (left : HaveLeft (take place planners) half refused a b) (whole : length planners ≤ place)
    (old new : Manner) (same : new ≡ old) (result : Result Bool ServeFault) (seats : List Seat) (are : AreSeats planners seats) where
  left_then : AnswersThen (half_text half) (counted_result new.on_refusal refused) result (between b c) → AnswersThen (seats_end_text seats half) (counted_result old.on_refusal (seats_end_count seats half)) result (between a c)
  left_then answers =
      let taken = subst (λ them. AreSeats them seats) (sym (take_all place planners whole)) are in
      subst (λ (manner : Manner). AnswersThen (seats_end_text seats half) (counted_result manner.on_refusal (seats_end_count seats half)) result (between a c)) same
      (subst (λ n. AnswersThen (seats_end_text seats half) (counted_result new.on_refusal n) result (between a c)) (left.count seats taken)
      (written_behind a b c (partings seats) (half_text half) (counted_result new.on_refusal refused) result (left.said seats taken) answers))

  -- the input ends in the middle of a line
  pub left_within : 0 < half → AnswersThen (label 0 ++ reply_text reply.HalfLine) (counted_result new.on_refusal refused) result (between b c)
      → AnswersThen (seats_end_text seats half) (counted_result old.on_refusal (seats_end_count seats half)) result (between a c)
  left_within some answers = left_then (subst (λ text. AnswersThen text (counted_result new.on_refusal refused) result (between b c)) (sym (of half some)) answers)
    where
      of : (n : ℕ) → 0 < n → half_text n ≡ label 0 ++ reply_text reply.HalfLine
      of zero lt = absurd (omega arith)
      of (suc n) lt = refl

  -- or behind one
  pub left_whole : half ≡ 0 → b ≡ c → result ≡ counted_result new.on_refusal refused → AnswersThen (seats_end_text seats half) (counted_result old.on_refusal (seats_end_count seats half)) result (between a c)
  left_whole none still is = left_then (answered_so is (subst (Appends b c) (ap half_text (sym none)) (subst (λ end. Appends b end []) still (Appends-nil b))))
