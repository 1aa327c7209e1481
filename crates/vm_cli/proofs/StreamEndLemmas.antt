-- How a session ends in which lines are answered one after another.
use Rattle.std.proofs.Common.{◌≡◌, ◌||◌, ◌++◌, ◌∙◌, ℕ, zero, suc, Bool, true, false, List, [], ◌∷◌, Option, IfSome, Result, Ok, Err, ap, sym, refl, subst, append_assoc, append-nil}
use Rattle.std.proofs.KnownBytes.{Consumes-nil, Consumes-whole}
use Rattle.std.specs.Io.KnownBytes.{Appends, IsAtEnd}
use Rattle.vm_types.specs.State.{State, opened}
use Rattle.vm_disk.specs.declared.disk.Disk.{Ghosts}
use Rattle.vm_store.specs.Shown.{new_store}
use Rattle.vm_store.specs.declared.store.Store.{Store}
use Rattle.vm_cli.specs.answers.Carried.{WritesStart}
use Rattle.vm_cli.specs.session.SessionKinds.{AnswersThen, Course, EndsInput, EndsWithLine, HasTaken, RunsStream, ServesInput, SessionKind, TakesEach, TakesTo, Tells, counted_result, ended_lines, half_lines, some_lines}
use Rattle.vm_cli.specs.session.SessionKinds.AnswersThen.{answer_cut, answered_so}
use Rattle.vm_cli.specs.session.SessionKinds.LastAnswered.{end_answered, line_answered}
use Rattle.vm_cli.specs.session.SessionKinds.LastRefused.{end_refuses, line_refused}
use Rattle.vm_cli.specs.session.Known.{SessionStreams, between, streams_of}
use Rattle.vm_cli.specs.session.SessionKinds.Course.{over, proceeds}
use Rattle.vm_cli.specs.session.Feeds.{FeedsOn}
use Rattle.vm_cli.specs.lines.Input.{is_nil}
use Rattle.vm_cli.specs.session.LineReading.{ReadsLine, Took}
use Rattle.vm_cli.specs.lines.Lines.{IsPart}
use Rattle.vm_cli.specs.session.Rounds.{Round, after_rounds}
use Rattle.vm_cli.specs.declared.lines.line.Line.{Line}
use Rattle.vm_cli.specs.declared.session.Manner.{Manner}
use Rattle.vm_cli.specs.declared.session.OnRefusal.{OnRefusal}
use Rattle.vm_cli.specs.declared.session.OnRefusal.TheVariants.{Ignore, Stop, Tell}
use Rattle.vm_cli.specs.declared.session.ServeFault.{ServeFault}
use Rattle.vm_cli.specs.declared.session.ServeFault.TheVariants as fault
use Rattle.vm_cli.proofs.CarriedLemmas.{begins-then}
use Rattle.vm_cli.proofs.EndLemmas.{serves_on, serves_unread, feeds_none, feeds_then}
use Rattle.vm_cli.proofs.FeedLemmas.{joined}
use Rattle.vm_cli.proofs.Known.{Appends-nil, Appends-then}
use Rattle.vm_cli.proofs.ReadingLemmas.{ended-more, took_then}
use Rattle.vm_cli.proofs.RoundLemmas.{rounds_append}
use Rattle.vm_cli.proofs.ServeLemmas.{read-some}
use Rattle.vm_cli.proofs.StreamLemmas.{counted_feeds}

or-assoc : (a b c : Bool) → ((a || b) || c) ≡ (a || (b || c))
or-assoc true b c = refl
or-assoc false b c = refl

or-false : (a : Bool) → (a || false) ≡ a
or-false true = refl
or-false false = refl

neither : (a b : Bool) → a ≡ false → b ≡ false → (a || b) ≡ false
neither a b e f = rw (e, f) refl

-- a beginning of a second text, behind a first
begins-behind : (a b c : Option (List ℕ)) (first second : List ℕ) → Appends a b first → WritesStart b c second → WritesStart a c (first ++ second)
begins-behind a b c first second written begun = begins-then a b c second (first ++ second) (record { sent = first; split = refl; written = written }) begun

-- the reader had these bytes, and has no more
all_read : (known rest : Option (List ℕ)) (bytes : List ℕ) → Took known rest [] bytes [] → IsAtEnd rest → IfSome known (λ own. own ≡ bytes)
all_read known rest bytes took end = Consumes-whole known rest took.read (λ own. own ≡ bytes) took.consumed end (took.split ∙ append-nil bytes)

-- or may have more
more_read : (known rest : Option (List ℕ)) (taken unread : List ℕ) → Took known rest [] taken unread → (more : List ℕ) × IfSome known (λ own. own ≡ taken ++ more)
more_read known rest taken unread took =
    let some = read-some known rest took.read took.consumed in
    (unread ++ some.0, subst (λ bs. IfSome known (λ own. own ≡ bs)) (ap (λ bs. bs ++ some.0) took.split ∙ append_assoc taken unread some.0) some.1)

-- the reader failed, in whatever it was asked for
pub read_fails : (why : ServeFault) (from : List ℕ) (known rest : Option (List ℕ)) (before after : List ℕ) (line : Line) → ReadsLine (Err why) from known rest before after line → why ≡ fault.Read
read_fails fault.Read from known rest before after line reads = refl
read_fails fault.Write from known rest before after line reads = absurd reads
read_fails fault.Store from known rest before after line reads = absurd reads
read_fails fault.Refused from known rest before after line reads = absurd reads
read_fails fault.Unsure from known rest before after line reads = absurd reads

-- whether the input ended within a line
pub one_half : (half : List ℕ) → is_nil half ≡ false → 1 ≡ half_lines half
one_half [] some = cc
one_half (b ∷ half) some = refl

pub no_half : (half : List ℕ) → is_nil half ≡ true → 0 ≡ half_lines half
no_half [] none = refl
no_half (b ∷ half) none = cc

-- ---- what was taken so far

module _ {D : Type 0} {members : Ghosts D} (kind : SessionKind D members) where
  -- one more line was taken
  each_more : (how : Manner) (parts : List (List ℕ)) (old mid new : Store D members) (s : State) (stage : kind.Stage) (text : List ℕ) (next : kind.Stage) (rounds : List Round) (again : Bool)
      → TakesEach kind old mid s how stage parts text next rounds again
      → (part said : List ℕ) (refused : Bool) (stage' : kind.Stage) (more : List Round) → kind.Takes mid new (after_rounds s rounds) how next part said (proceeds refused) stage' more
      → TakesEach kind old new s how stage (parts ++ part ∷ []) (text ++ said) stage' (rounds ++ more) (again || refused)
  each_more how [] old mid new s stage text next rounds again none part said refused stage' more takes =
      let from_old = subst (λ (x : Store D members). kind.Takes x new (after_rounds s rounds) how next part said (proceeds refused) stage' more) none.same takes in
      let from_here = subst (λ rs. kind.Takes old new (after_rounds s rs) how next part said (proceeds refused) stage' more) none.idle from_old in
      record {
        mid = new;
        next = stage';
        said = said;
        rest = [];
        first = more;
        later = [];
        refused = refused;
        others = false;
        takes = subst (λ st. kind.Takes old new s how st part said (proceeds refused) stage' more) none.held from_here;
        texts = ap (λ t. t ++ said) none.silent ∙ sym (append-nil said);
        came = ap (λ rs. rs ++ more) none.idle ∙ sym (append-nil more);
        told = ap (λ b. b || refused) none.fine ∙ sym (or-false refused);
        more = record { same = refl; silent = refl; held = refl; idle = refl; fine = refl };
      }
  each_more how (p ∷ parts) old mid new s stage text next rounds again it part said refused stage' more takes = record {
    mid = it.mid;
    next = it.next;
    said = it.said;
    rest = it.rest ++ said;
    first = it.first;
    later = it.later ++ more;
    refused = it.refused;
    others = it.others || refused;
    takes = it.takes;
    texts = ap (λ t. t ++ said) it.texts ∙ append_assoc it.said it.rest said;
    came = ap (λ rs. rs ++ more) it.came ∙ append_assoc it.first it.later more;
    told = ap (λ b. b || refused) it.told ∙ or-assoc it.refused it.others refused;
    more = each_more how parts it.mid mid new (after_rounds s it.first) it.next it.rest next it.later it.others it.more part said refused stage' more
        (subst (λ t. kind.Takes mid new t how next part said (proceeds refused) stage' more) (ap (λ rs. after_rounds s rs) it.came ∙ rounds_append s it.first it.later) takes);
  }

  -- lines of an input were read, taken and answered, and this is true of what is held
  pub record HasServed (IsHeld : kind.Stage → Type 0) (old mid : Store D members) (s : State) (how : Manner) (known : SessionStreams) (rest : Option (List ℕ)) (unread : List ℕ) (again : Bool) : Type 0 where
    pub parts : List (List ℕ)
    pub text : List ℕ
    pub stage : kind.Stage
    pub held : IsHeld stage
    pub took : Took known.input rest [] (ended_lines parts) unread
    pub taken : HasTaken kind old mid s how parts text stage again
    pub written : Appends known.output.before known.output.after text

  -- however the session is told
  pub record RunsSoFar (IsHeld : kind.Stage → Type 0) (old mid : Store D members) (how : Manner) (known : SessionStreams) (rest : Option (List ℕ)) (unread : List ℕ) (again : Bool) : Type 0 where
    pub store : FeedsOn (Ok again) old mid
    pub served : (s : State) → HasServed IsHeld old mid s how known rest unread again

  -- no line yet
  pub runs_none : (IsHeld : kind.Stage → Type 0) (store : Store D members) (how : Manner) (input output : Option (List ℕ)) (unread : List ℕ) → IsHeld kind.start → unread ≡ []
      → RunsSoFar IsHeld store store how (streams_of input output output) input unread false
  runs_none IsHeld store how input output unread held none = record {
    store = feeds_none store false;
    served = λ s. record {
      parts = [];
      text = [];
      stage = kind.start;
      held = held;
      took = record { read = []; consumed = Consumes-nil input; split = sym none };
      taken = record { rounds = []; each = record { same = refl; silent = refl; held = refl; idle = refl; fine = refl }; goes_on = λ stop. refl };
      written = Appends-nil output;
    };
  }

-- ---- how it goes on, or ends

module _ {D : Type 0} {members : Ghosts D} {kind : SessionKind D members} {IsHeld : kind.Stage → Type 0} {old mid : Store D members} {s : State} {how : Manner} {input a b rest : Option (List ℕ)} {unread : List ℕ} {again : Bool}
    (so_far : HasServed kind IsHeld old mid s how (streams_of input a b) rest unread again) where
  -- the bytes so far, and more
  abbrev ended_with : List ℕ → List ℕ
  ended_with more = ended_lines so_far.parts ++ more

  some_read : (more : List ℕ) × IfSome input (λ own. own ≡ ended_with more)
  some_read = more_read input rest (ended_lines so_far.parts) unread so_far.took

  -- a line was read, and taken
  module _ (new : Store D members) (c rest' : Option (List ℕ)) (part after : List ℕ) (took : Took rest rest' unread (part ++ 10 ∷ []) after) (IsHeld' : kind.Stage → Type 0) where
    abbrev Answered : List ℕ → Course → Type 0
    Answered = TakesTo kind IsHeld' mid new (after_rounds s so_far.taken.rounds) how so_far.stage part

    line_took : Took input rest' [] (ended_with (part ++ 10 ∷ [])) after
    line_took = took_then input rest rest' [] (ended_lines so_far.parts) unread (part ++ 10 ∷ []) after so_far.took took

    more_behind : (more : List ℕ) × IfSome input (λ own. own ≡ ended_with (part ++ (10 ∷ more)))
    more_behind =
        let all = more_read input rest' (ended_with (part ++ 10 ∷ [])) after line_took in
        let cut : ended_with (part ++ 10 ∷ []) ++ all.0 ≡ ended_with (part ++ (10 ∷ all.0)) =
        append_assoc (ended_lines so_far.parts) (part ++ 10 ∷ []) all.0 ∙ ap ended_with (append_assoc part (10 ∷ []) all.0) in
        (all.0, subst (λ bs. IfSome input (λ own. own ≡ bs)) cut all.1)

    -- with it the session ends
    ends_line : (more : List ℕ) (course : Course) (said : List ℕ) → Answered said course → EndsWithLine kind old new s how course (ended_with (part ++ (10 ∷ more))) (so_far.text ++ said)
    ends_line more course said (stage', rounds, held, takes) = record {
      mid = mid;
      parts = so_far.parts;
      part = part;
      more = more;
      earlier = so_far.text;
      last = said;
      stage = so_far.stage;
      stage' = stage';
      rounds = rounds;
      again = again;
      cut = refl;
      texts = refl;
      taken = so_far.taken;
      takes = takes;
    }

    serves_stop : (more : List ℕ) (why : ServeFault) → Tells how Answered (Err why) (between b c) → ServesInput kind old new s how (Err why) (between a c) (ended_with (part ++ (10 ∷ more)))
    serves_stop more fault.Read tells = absurd tells
    serves_stop more fault.Store it =
        record { text = so_far.text ++ it.text; ended = ends_line more over it.text it.says; written = Appends-then a b c so_far.text it.text so_far.written it.written }
    serves_stop more fault.Unsure it =
        record { text = so_far.text ++ it.text; ended = ends_line more over it.text it.says; written = Appends-then a b c so_far.text it.text so_far.written it.written }
    serves_stop more fault.Refused it =
        record { text = so_far.text ++ it.text; stop = it.stop; last = line_refused (ends_line more (proceeds true) it.text it.says); written = Appends-then a b c so_far.text it.text so_far.written it.written }
    serves_stop more fault.Write it =
        record { text = so_far.text ++ it.text; last = line_answered it.course (ends_line more it.course it.text it.says); begun = begins-behind a b c so_far.text it.text so_far.written it.begun }

    -- or it goes on
    line_more : (refused : Bool) → Tells how Answered (Ok refused) (between b c) → HasServed kind IsHeld' old new s how (streams_of input a c) rest' after (again || refused)
    line_more refused it =
        let said = it.text in
        let stage' = it.says.0 in
        let rounds = it.says.1 in
        record {
          parts = so_far.parts ++ part ∷ [];
          text = so_far.text ++ said;
          stage = stage';
          held = it.says.2;
          took = subst (λ bs. Took input rest' [] bs after) (sym (ended-more so_far.parts part)) line_took;
          taken = record {
            rounds = so_far.taken.rounds ++ rounds;
            each = each_more kind how so_far.parts old mid new s kind.start so_far.text so_far.stage so_far.taken.rounds again so_far.taken.each part said refused stage' rounds it.says.3;
            goes_on = λ stop. neither again refused (so_far.taken.goes_on stop) (it.goes_on stop);
          };
          written = Appends-then a b c so_far.text said so_far.written it.written;
        }

  -- the end of the input was answered
  module _ (c : Option (List ℕ)) (half : List ℕ) (unbroken : IsPart half) where
    abbrev said : List ℕ
    said = kind.end_text so_far.stage (half_lines half)

    abbrev count : ℕ
    count = kind.end_count so_far.stage (half_lines half)

    ends_input : EndsInput kind old mid s how (ended_with half) (so_far.text ++ said) again (some_lines count)
    ends_input = record {
      parts = so_far.parts;
      half = half;
      unbroken = unbroken;
      earlier = so_far.text;
      stage = so_far.stage;
      cut = refl;
      texts = refl;
      refuses = refl;
      taken = so_far.taken;
    }

    ends_so : (n : ℕ) → count ≡ n → EndsInput kind old mid s how (ended_with half) (so_far.text ++ said) again (some_lines n)
    ends_so n is = subst (λ k. EndsInput kind old mid s how (ended_with half) (so_far.text ++ said) again (some_lines k)) is ends_input

    counted : (n : ℕ) → count ≡ n → (on_refusal : OnRefusal) → how.on_refusal ≡ on_refusal → Appends a c (so_far.text ++ said)
        → ServesInput kind old mid s how (joined again (counted_result on_refusal n)) (between a c) (ended_with half)
    counted zero is on_refusal stops written = record { text = so_far.text ++ said; again = again; last = false; ended = ends_so 0 is; told = refl; written = written }
    counted (suc n) is Stop stops written = record { text = so_far.text ++ said; stop = stops; last = end_refuses again (ends_so (suc n) is); written = written }
    counted (suc n) is Ignore stops written = record { text = so_far.text ++ said; again = again; last = true; ended = ends_so (suc n) is; told = refl; written = written }
    counted (suc n) is Tell stops written = record { text = so_far.text ++ said; again = again; last = true; ended = ends_so (suc n) is; told = refl; written = written }

    serves_end : (result : Result Bool ServeFault) → AnswersThen said (counted_result how.on_refusal count) result (between b c) → ServesInput kind old mid s how (joined again result) (between a c) (ended_with half)
    serves_end result (answer_cut came begun) =
        subst (λ r. ServesInput kind old mid s how (joined again r) (between a c) (ended_with half)) (sym came)
        (record { text = so_far.text ++ said; last = end_answered again (some_lines count) ends_input; begun = begins-behind a b c so_far.text said so_far.written begun })
    serves_end result (answered_so came wrote) =
        subst (λ r. ServesInput kind old mid s how (joined again r) (between a c) (ended_with half)) (sym came)
        (counted count refl how.on_refusal refl (Appends-then a b c so_far.text said so_far.written wrote))

-- ---- so does a session, however it is told

module _ {D : Type 0} {members : Ghosts D} {kind : SessionKind D members} {IsHeld : kind.Stage → Type 0} {old mid : Store D members} {how : Manner} {input a b rest : Option (List ℕ)} {unread : List ℕ} {again : Bool}
    (so_far : RunsSoFar kind IsHeld old mid how (streams_of input a b) rest unread again) where
  -- the reader failed
  pub serves_reader : RunsStream kind how (Err fault.Read) old mid (streams_of input a b)
  serves_reader = record {
    store = serves_unread old mid again so_far.store;
    answers = λ s.
        let p = so_far.served s in
        let more = some_read p in
        record { input = ended_with p more.0; own = more.1; served = record { text = p.text; parts = p.parts; more = more.0; stage = p.stage; again = again; cut = refl; taken = p.taken; written = p.written } };
  }

  -- a line was read, and taken in the manner of the session
  module _ (now : Manner) (same : now ≡ how) (new : Store D members) (c rest' : Option (List ℕ)) (part after : List ℕ) (took : Took rest rest' unread (part ++ 10 ∷ []) after) (IsHeld' : kind.Stage → Type 0) where
    abbrev IsTaken : Result Bool ServeFault → Manner → Type 0
    IsTaken result m = (s : State) (stage : kind.Stage) → IsHeld stage → Tells m (TakesTo kind IsHeld' mid new s m stage part) result (between b c)

    -- with it the session ends
    pub serves_line : (why : ServeFault) → FeedsOn (Err why) mid new → IsTaken (Err why) now → RunsStream kind how (Err why) old new (streams_of input a c)
    serves_line why feeds taken = record {
      store = serves_on old new (Err why) (feeds_then old mid new again so_far.store (Err why) feeds);
      answers = λ s.
          let p = so_far.served s in
          let more = more_behind p new c rest' part after took IsHeld' in
          record {
            input = ended_with p (part ++ (10 ∷ more.0));
            own = more.1;
            served = serves_stop p new c rest' part after took IsHeld' more.0 why (subst (IsTaken (Err why)) same taken (after_rounds s p.taken.rounds) p.stage p.held);
          };
    }

    -- or it goes on
    pub takes_on : (refused : Bool) → FeedsOn (Ok refused) mid new → IsTaken (Ok refused) now → RunsSoFar kind IsHeld' old new how (streams_of input a c) rest' after (again || refused)
    takes_on refused feeds taken = record {
      store = feeds_then old mid new again so_far.store (Ok refused) feeds;
      served = λ s. let p = so_far.served s in line_more p new c rest' part after took IsHeld' refused (subst (IsTaken (Ok refused)) same taken (after_rounds s p.taken.rounds) p.stage p.held);
    }

  -- the end of the input was answered, in so many lines
  module _ (now : Manner) (same : now ≡ how) (c rest' : Option (List ℕ)) (half after : List ℕ) (took : Took rest rest' unread half after) (none : after ≡ []) (end : IsAtEnd rest') (unbroken : IsPart half) (result : Result Bool ServeFault) where
    abbrev IsAnswered : Manner → ℕ → Type 0
    IsAnswered m n = (stage : kind.Stage) → IsHeld stage → AnswersThen (kind.end_text stage n) (counted_result m.on_refusal (kind.end_count stage n)) result (between b c)

    pub serves_rest : (n : ℕ) → n ≡ half_lines half → IsAnswered now n → RunsStream kind how (joined again result) old mid (streams_of input a c)
    serves_rest n is answered = record {
      store =
          let p = so_far.served (opened (new_store 64)) in
          serves_on old mid (joined again result)
          (feeds_then old mid mid again so_far.store result (counted_feeds mid (kind.end_text p.stage n) b c now.on_refusal (kind.end_count p.stage n) result (answered p.stage p.held)));
      answers = λ s.
          let p = so_far.served s in
          record {
            input = ended_with p half;
            own = all_read input rest' (ended_with p half) (subst (Took input rest' [] (ended_with p half)) none (took_then input rest rest' [] (ended_lines p.parts) unread half after p.took took)) end;
            served = serves_end p c half unbroken result (subst (λ m. IsAnswered m (half_lines half)) same (subst (IsAnswered now) is answered) p.stage p.held);
          };
    }
