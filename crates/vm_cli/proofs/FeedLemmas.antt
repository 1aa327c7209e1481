-- Lines that are answered one after another, and bytes that are fed to a session.
use Rattle.std.proofs.Common.{◌≡◌, ◌≢◌, ◌==◌, ◌||◌, ◌≤◌, ◌++◌, ◌∙◌, ℕ, zero, suc, add-one, Bool, true, false, List, [], ◌∷◌, Option, Some, None, Result, Ok, Err, OnOk, refl, ap, sym, subst, arith, append-nil, append_assoc, ◌<◌, ◌+◌, length, take, drop, slice_index, take-append-drop}
use Rattle.std.proofs.lemmas.List.{take_all, take_more}
use Rattle.std.proofs.lemmas.Bool.Decides.{nat_tests}
use Rattle.std.specs.Io.KnownBytes.{Appends}
use Rattle.std.specs.Prelude.{IsNone}
use Rattle.memchr.specs.Find.{IsFirstByte, is_byte}
use Rattle.vm_types.specs.declared.answer.Answer.{Answer}
use Rattle.vm_types.specs.declared.command.Command.{Command}
use Rattle.vm_types.specs.declared.refusal.Refusal.{Refusal}
use Rattle.vm_types.specs.State.{State, after, next}
use Rattle.vm_store.specs.Store.{Holds, has_failed, disk_of}
use Rattle.vm_store.specs.declared.store.Store.{Store}
use Rattle.vm_cli.specs.answers.Carried.{WritesStart}
use Rattle.vm_cli.specs.session.Feeds.{Fed, Writes, chunk}
use Rattle.vm_cli.specs.session.Known.{between}
use Rattle.vm_cli.specs.lines.Lines.{IsPart, lines_of, onto_first}
use Rattle.vm_cli.specs.session.Session.{Done, EndsSession, HandlesLine, HasAnswered, ServesLines, Stood, AnswersEach, after_each, after_line, each_answer, each_command, with_answer, with_command}
use Rattle.vm_cli.specs.answers.Replies.{is_error}
use Rattle.vm_cli.specs.declared.session.Manner.{Manner}
use Rattle.vm_cli.specs.declared.session.OnRefusal.TheVariants.{Stop}
use Rattle.vm_cli.specs.declared.session.ServeFault.{ServeFault}
use Rattle.vm_cli.specs.declared.session.ServeFault.TheVariants as fault
use Rattle.vm_cli.proofs.HandledLemmas.{handled_stops}
use Rattle.vm_cli.proofs.Known.{Appends-nil, Appends-then}
use Rattle.vm_cli.proofs.Parts.{IsPart-append}

each-after : (s : State) (each : List (Command × Result Answer Refusal)) (later : List Command) (others : List (Result Answer Refusal)) → after s (each_command each later) (each_answer each others) ≡ after (after_each s each) later others
each-after s [] later others = refl
each-after s ((command, answer) ∷ more) later others = each-after (next s command answer) more later others

pub after-with : (s : State) (done : Done) (later : List Command) (others : List (Result Answer Refusal)) → after s (with_command done later) (with_answer done others) ≡ after (after_line s done) later others
after-with s None later others = refl
after-with s (Some each) later others = each-after s each later others

each_command-append : (each : List (Command × Result Answer Refusal)) (later more : List Command) → each_command each later ++ more ≡ each_command each (later ++ more)
each_command-append [] later more = refl
each_command-append ((command, answer) ∷ each) later more = ap (λ cs. command ∷ cs) (each_command-append each later more)

command-append : (done : Done) (later more : List Command) → with_command done later ++ more ≡ with_command done (later ++ more)
command-append None later more = refl
command-append (Some each) later more = each_command-append each later more

each_answer-append : (each : List (Command × Result Answer Refusal)) (others more : List (Result Answer Refusal)) → each_answer each others ++ more ≡ each_answer each (others ++ more)
each_answer-append [] others more = refl
each_answer-append ((command, answer) ∷ each) others more = ap (λ rs. answer ∷ rs) (each_answer-append each others more)

answer-append : (done : Done) (others more : List (Result Answer Refusal)) → with_answer done others ++ more ≡ with_answer done (others ++ more)
answer-append None others more = refl
answer-append (Some each) others more = each_answer-append each others more

or-assoc : (a b c : Bool) → ((a || b) || c) ≡ (a || (b || c))
or-assoc true b c = refl
or-assoc false b c = refl

pub or-false : (a : Bool) → (a || false) ≡ a
or-false true = refl
or-false false = refl

-- neither was refused
neither : (a b : Bool) → a ≡ false → b ≡ false → (a || b) ≡ false
neither a b e f = rw (e, f) refl

-- what is told of lines after others, of which some were refused or none
abbrev pub joined : Bool → Result Bool ServeFault → Result Bool ServeFault
joined refused (Ok again) = Ok (refused || again)
joined refused (Err fault) = Err fault

module _ {D : Type 0} {members : _} where
  -- the state after further commands
  pub after-join : (on : Manner) (old new : Store D members) (s : State) (lines : List (List ℕ)) (text : List ℕ) (commands later : List Command) (answers others : List (Result Answer Refusal)) (refused : Bool) → AnswersEach old new s on lines text commands answers refused
      → after s (commands ++ later) (answers ++ others) ≡ after (after s commands answers) later others
  after-join on old new s [] text commands later answers others refused none = rw (none.no_commands, none.no_answers) refl
  after-join on old new s (line ∷ lines) text commands later answers others refused it =
      let done = it.step.done in
      rw (it.carried, it.given, command-append done it.later later, answer-append done it.others others, after-with s done (it.later ++ later) (it.others ++ others), after-with s done it.later it.others)
      (after-join on it.mid new (after_line s done) lines it.rest it.later later it.others others it.again it.more)

  -- further lines
  lines-join : (on : Manner) (old mid new : Store D members) (s : State) (lines more : List (List ℕ)) (text second : List ℕ) (commands later : List Command) (answers others : List (Result Answer Refusal)) (refused again : Bool)
      → AnswersEach old mid s on lines text commands answers refused → AnswersEach mid new (after s commands answers) on more second later others again
      → AnswersEach old new s on (lines ++ more) (text ++ second) (commands ++ later) (answers ++ others) (refused || again)
  lines-join on old mid new s [] more text second commands later answers others refused again none q =
      let text_is : second ≡ text ++ second = rw none.silent refl in
      let commands_are : later ≡ commands ++ later = rw none.no_commands refl in
      let answers_are : others ≡ answers ++ others = rw none.no_answers refl in
      let state : after s commands answers ≡ s = rw none.no_commands refl in
      let refusals_are : again ≡ (refused || again) = rw none.fine refl in
      let from_old : AnswersEach old new (after s commands answers) on more second later others again = subst (λ (t : Store D members). AnswersEach t new (after s commands answers) on more second later others again) none.same q in
      let from_here : AnswersEach old new s on more second later others again = subst (λ t. AnswersEach old new t on more second later others again) state from_old in
      let a : AnswersEach old new s on more (text ++ second) later others again = subst (λ t. AnswersEach old new s on more t later others again) text_is from_here in
      let b : AnswersEach old new s on more (text ++ second) (commands ++ later) others again = subst (λ t. AnswersEach old new s on more (text ++ second) t others again) commands_are a in
      let c : AnswersEach old new s on more (text ++ second) (commands ++ later) (answers ++ others) again = subst (λ t. AnswersEach old new s on more (text ++ second) (commands ++ later) t again) answers_are b in
      subst (λ t. AnswersEach old new s on more (text ++ second) (commands ++ later) (answers ++ others) t) refusals_are c
  lines-join on old mid new s (line ∷ lines) more text second commands later answers others refused again it q =
      let done = it.step.done in
      let state : after s commands answers ≡ after (after_line s done) it.later it.others = rw (it.carried, it.given) (after-with s done it.later it.others) in
      record {
        mid = it.mid;
        first = it.first;
        rest = it.rest ++ second;
        later = it.later ++ later;
        others = it.others ++ others;
        again = it.again || again;
        step = it.step;
        texts = rw it.texts (append_assoc it.first it.rest second);
        carried = rw it.carried (command-append done it.later later);
        given = rw it.given (answer-append done it.others others);
        told = rw it.told (or-assoc (is_error it.first) it.again again);
        more = lines-join on it.mid mid new (after_line s done) lines more it.rest second it.later later it.others others it.again again it.more (subst (λ t. AnswersEach mid new t on more second later others again) state q);
      }

  -- a disk that is honest after a session was so before it
  lines-back : (on : Manner) (old new : Store D members) (s : State) (lines : List (List ℕ)) (text : List ℕ) (commands : List Command) (answers : List (Result Answer Refusal)) (refused : Bool) → AnswersEach old new s on lines text commands answers refused
      → (members.state (disk_of new)).honest ≡ true → (members.state (disk_of old)).honest ≡ true
  lines-back on old new s [] text commands answers refused none honest = subst (λ (t : Store D members). (members.state (disk_of t)).honest ≡ true) none.same honest
  lines-back on old new s (line ∷ lines) text commands answers refused it honest =
      it.step.passes.goes.earlier (lines-back on it.mid new (after_line s it.step.done) lines it.rest it.later it.others it.again it.more honest)

  -- no line
  abbrev pub answered-none : (store : Store D members) (s : State) (on : Manner) → HasAnswered store store s on [] []
  answered-none store s on = record {
    commands = [];
    answers = [];
    refused = false;
    each = record { same = refl; silent = refl; no_commands = refl; no_answers = refl; fine = refl };
    goes_on = λ stop. refl;
    still = refl;
    holds = λ stood fine. stood.holds;
  }

  -- one line
  abbrev pub answered-line : (old new : Store D members) (s : State) (on : Manner) (part text : List ℕ) → HandlesLine old new s on part text false
      → (on.on_refusal ≡ Stop → is_error text ≡ false) → HasAnswered old new s on (part ∷ []) text
  answered-line old new s on part text handled goes_on = record {
    commands = with_command handled.done [];
    answers = with_answer handled.done [];
    refused = is_error text;
    each = record {
      mid = new;
      first = text;
      rest = [];
      later = [];
      others = [];
      again = false;
      step = handled;
      texts = sym (append-nil text);
      carried = refl;
      given = refl;
      told = sym (or-false (is_error text));
      more = record { same = refl; silent = refl; no_commands = refl; no_answers = refl; fine = refl };
    };
    goes_on = goes_on;
    still = handled.still refl;
    holds = λ stood fine. subst (λ t. Holds new t) (sym (after-with s handled.done [] [])) (handled.holds stood fine);
  }

  -- further lines
  module _ (old mid new : Store D members) (s : State) (on : Manner) (lines : List (List ℕ)) (text : List ℕ) (first : HasAnswered old mid s on lines text) where
    pub state-then : (more : List (List ℕ)) (second : List ℕ) (then : HasAnswered mid new (after s first.commands first.answers) on more second) → after s (first.commands ++ then.commands) (first.answers ++ then.answers) ≡ after (after s first.commands first.answers) then.commands then.answers
    state-then more second then = after-join on old mid s lines text first.commands then.commands first.answers then.answers first.refused first.each

    -- the store between stood for what the first lines leave, where this one did for what came before
    stood-then : (more : List (List ℕ)) (second : List ℕ) (then : HasAnswered mid new (after s first.commands first.answers) on more second) → Stood old new s → has_failed new ≡ false → Stood mid new (after s first.commands first.answers)
    stood-then more second then stood fine =
        let back = lines-back on mid new (after s first.commands first.answers) more second then.commands then.answers then.refused then.each stood.honest in
        record { honest = stood.honest; holds = first.holds (record { honest = back; holds = stood.holds }) (sym then.still ∙ fine) }

    pub answered-join : (more : List (List ℕ)) (second : List ℕ) → HasAnswered mid new (after s first.commands first.answers) on more second → HasAnswered old new s on (lines ++ more) (text ++ second)
    answered-join more second then = record {
      commands = first.commands ++ then.commands;
      answers = first.answers ++ then.answers;
      refused = first.refused || then.refused;
      each = lines-join on old mid new s lines more text second first.commands then.commands first.answers then.answers first.refused then.refused first.each then.each;
      goes_on = λ stop. neither first.refused then.refused (first.goes_on stop) (then.goes_on stop);
      still = then.still ∙ first.still;
      holds = λ stood fine. subst (λ t. Holds new t) (sym (state-then more second then)) (then.holds (stood-then more second then stood fine) fine);
    }

    -- what all of them carried out
    pub commands-joined : (more : List (List ℕ)) (second : List ℕ) (then : HasAnswered mid new (after s first.commands first.answers) on more second) → (answered-join more second then).commands ≡ first.commands ++ then.commands
    unfolding answered-join
    commands-joined more second then = refl

    pub answers-joined : (more : List (List ℕ)) (second : List ℕ) (then : HasAnswered mid new (after s first.commands first.answers) on more second) → (answered-join more second then).answers ≡ first.answers ++ then.answers
    unfolding answered-join
    answers-joined more second then = refl

  -- a session that ends after further lines
  module _ (old mid new : Store D members) (s : State) (on : Manner) (lines : List (List ℕ)) (text : List ℕ) (first : HasAnswered old mid s on lines text) where
    ends-after : (ends : Bool) (all : List (List ℕ)) (second : List ℕ) → EndsSession mid new (after s first.commands first.answers) on ends all second → EndsSession old new s on ends (lines ++ all) (text ++ second)
    unfolding answered-join
    ends-after ends all second e =
        let then = e.answered in
        let state : after s (first.commands ++ then.commands) (first.answers ++ then.answers) ≡ after (after s first.commands first.answers) then.commands then.answers =
        after-join on old mid s lines text first.commands then.commands first.answers then.answers first.refused first.each in
        record {
          mid = e.mid;
          lines = lines ++ e.lines;
          line = e.line;
          others = e.others;
          earlier = text ++ e.earlier;
          last = e.last;
          cut = ap (λ ls. lines ++ ls) e.cut ∙ sym (append_assoc lines e.lines (e.line ∷ e.others));
          texts = ap (λ bs. text ++ bs) e.texts ∙ sym (append_assoc text e.earlier e.last);
          answered = answered-join old mid e.mid s on lines text first e.lines e.earlier then;
          handled = subst (λ t. HandlesLine e.mid new t on e.line e.last ends) (sym state) e.handled;
          stops = e.stops;
        }

    begins-after : (a b c : Option (List ℕ)) (second : List ℕ) → Appends a b text → WritesStart b c second → WritesStart a c (text ++ second)
    begins-after a b c second written p = record {
      rest = p.rest;
      carries = record {
        sent = text ++ p.carries.sent;
        split = ap (λ bs. text ++ bs) p.carries.split ∙ sym (append_assoc text p.carries.sent p.rest);
        written = Appends-then a b c text p.carries.sent written p.carries.written;
      };
    }

    -- how a session goes on after lines
    pub serves-after : (result : Result Bool ServeFault) (a b c : Option (List ℕ)) (all : List (List ℕ)) → Appends a b text
        → ServesLines mid new (after s first.commands first.answers) on result (between b c) all → ServesLines old new s on (joined first.refused result) (between a c) (lines ++ all)
    unfolding answered-join ends-after
    serves-after (Ok again) a b c all written it = record {
      text = text ++ it.text;
      answered = answered-join old mid new s on lines text first all it.text it.answered;
      told = ap (λ (r : Bool). first.refused || r) it.told;
      written = Appends-then a b c text it.text written it.written;
    }
    serves-after (Err fault.Read) a b c all written it = record {
      text = text ++ it.text;
      lines = lines ++ it.lines;
      others = it.others;
      cut = ap (λ ls. lines ++ ls) it.cut ∙ sym (append_assoc lines it.lines it.others);
      answered = answered-join old mid new s on lines text first it.lines it.text it.answered;
      written = Appends-then a b c text it.text written it.written;
    }
    serves-after (Err fault.Unsure) a b c all written serves = absurd serves
    serves-after (Err fault.Store) a b c all written it = record {
      text = text ++ it.text;
      ended = ends-after true all it.text it.ended;
      written = Appends-then a b c text it.text written it.written;
    }
    serves-after (Err fault.Refused) a b c all written it = record {
      text = text ++ it.text;
      ended = ends-after false all it.text it.ended;
      refused = it.refused;
      stop = it.stop;
      written = Appends-then a b c text it.text written it.written;
    }
    serves-after (Err fault.Write) a b c all written it = record {
      text = text ++ it.text;
      ends = it.ends;
      ended = ends-after it.ends all it.text it.ended;
      begun = begins-after a b c it.text written it.begun;
    }

  -- a session of one line
  module _ (old new : Store D members) (s : State) (on : Manner) (line : List ℕ) where
    abbrev ends-line : (ends : Bool) (text : List ℕ) (others : List (List ℕ)) → HandlesLine old new s on line text ends → EndsSession old new s on ends (line ∷ others) text
    ends-line ends text others handled = record {
      mid = old;
      lines = [];
      line = line;
      others = others;
      earlier = [];
      last = text;
      cut = refl;
      texts = refl;
      answered = answered-none old s on;
      handled = handled;
      stops = handled_stops old new s on line text ends handled;
    }

    pub serves-line : (result : Result Bool ServeFault) (a b : Option (List ℕ)) (others : List (List ℕ)) → OnOk result (others ≡ [])
        → Writes on (HandlesLine old new s on line) result (between a b) → ServesLines old new s on result (between a b) (line ∷ others)
    serves-line (Ok refused) a b others none it =
        subst (λ ls. ServesLines old new s on (Ok refused) (between a b) (line ∷ ls)) (sym none)
        (record { text = it.text; answered = answered-line old new s on line it.text it.says (λ stop. sym it.told ∙ it.goes_on stop); told = it.told; written = it.written })
    serves-line (Err fault.Read) a b others none writes = absurd writes
    serves-line (Err fault.Unsure) a b others none writes = absurd writes
    serves-line (Err fault.Store) a b others none it = record { text = it.text; ended = ends-line true it.text others it.says; written = it.written }
    serves-line (Err fault.Refused) a b others none it = record { text = it.text; ended = ends-line false it.text others it.says; refused = it.refused; stop = it.stop; written = it.written }
    serves-line (Err fault.Write) a b others none it = record { text = it.whole; ends = it.ends; ended = ends-line it.ends it.whole others it.says; begun = it.begins }

-- no line feed stands before a place
pub part_before : (bytes : List ℕ) (n : ℕ) → n ≤ length bytes → ((k : ℕ) → k < n → ¬ (slice_index bytes k == 10) ≡ true) → IsPart (take n bytes)
part_before bytes zero le none = tt
part_before bytes (suc n) le none =
    let lt : n < length bytes = omega (arith, le) in
    let here : slice_index bytes n ≢ 10 = grind (arith, nat_tests, none n (omega arith)) in
    let front = part_before bytes n (omega (arith, le)) (λ k below. none k (omega (arith, below))) in
    let more : take (n + 1) bytes ≡ take n bytes ++ slice_index bytes n ∷ [] = take_more bytes n 0 lt in
    rw (← add-one n, more) (IsPart-append (take n bytes) (slice_index bytes n ∷ []) front (here, tt))

-- no line feed stands in the bytes
pub whole_part : (bytes : List ℕ) (found : Option ℕ) → IsFirstByte (is_byte 10) bytes found → IsNone found → IsPart bytes
whole_part bytes (Some place) first none = cc
whole_part bytes None first none =
    subst IsPart (take_all (length bytes) bytes (omega arith)) (part_before bytes (length bytes) (omega arith) (λ k lt. first k (omega arith) lt))

-- a line feed stands at a place: the bytes up to it
pub line_is : (bytes : List ℕ) (n : ℕ) → n < length bytes → (slice_index bytes n == 10) ≡ true → take (n + 1) bytes ≡ take n bytes ++ 10 ∷ []
line_is bytes n lt is =
    let here : slice_index bytes n ≡ 10 = grind (arith, nat_tests, is) in
    take_more bytes n 0 lt ∙ ap (λ (b : ℕ). take n bytes ++ b ∷ []) here

-- and those after it
pub line_split : (bytes done rest more : List ℕ) (n : ℕ) → bytes ≡ done ++ rest → n < length rest → (slice_index rest n == 10) ≡ true
    → bytes ++ more ≡ (done ++ (take n rest ++ 10 ∷ [])) ++ (drop (n + 1) rest ++ more)
line_split bytes done rest more n split lt is =
    let line : List ℕ = take n rest ++ 10 ∷ [] in
    let rest_is : rest ≡ line ++ drop (n + 1) rest = sym (take-append-drop (n + 1) rest) ∙ ap (λ bs. bs ++ drop (n + 1) rest) (line_is rest n lt is) in
    ap (λ bs. bs ++ more) (split ∙ ap (λ bs. done ++ bs) rest_is ∙ sym (append_assoc done line (drop (n + 1) rest))) ∙ append_assoc (done ++ line) (drop (n + 1) rest) more

-- a line ends
pub lines-end : (from more : List ℕ) → IsPart from → lines_of (from ++ 10 ∷ more) ≡ from ∷ lines_of more
lines-end [] more part = refl
lines-end (b ∷ from) more part =
    let other : (b == 10) ≡ false = grind (arith, nat_tests, part.0) in
    rw other (ap (onto_first b) (lines-end from more part.1))

module _ {D : Type 0} {members : _} where
  module _ (store : Store D members) (s : State) (on : Manner) (from : List ℕ) where
    -- no byte
    pub fed-nothing : (a : Option (List ℕ)) → Fed store store s on false (chunk from [] from) (between a a)
    fed-nothing a = record {
      lines = [];
      text = [];
      cut = λ more. refl;
      answered = answered-none store s on;
      told = refl;
      written = Appends-nil a;
    }

    -- bytes of the line
    pub fed-part : (bytes : List ℕ) (a : Option (List ℕ)) → Fed store store s on false (chunk from bytes (from ++ bytes)) (between a a)
    fed-part bytes a = record {
      lines = [];
      text = [];
      cut = λ more. ap lines_of (sym (append_assoc from bytes more));
      answered = answered-none store s on;
      told = refl;
      written = Appends-nil a;
    }

  -- the last bytes of the line, and its line feed
  module _ (old new : Store D members) (s : State) (on : Manner) (from bytes : List ℕ) (part : IsPart (from ++ bytes)) (a b : Option (List ℕ)) where
    cut-line : (more : List ℕ) → lines_of (from ++ ((bytes ++ 10 ∷ []) ++ more)) ≡ (from ++ bytes) ∷ lines_of more
    cut-line more =
        ap (λ bs. lines_of (from ++ bs)) (append_assoc bytes (10 ∷ []) more) ∙ ap lines_of (sym (append_assoc from bytes (10 ∷ more))) ∙ lines-end (from ++ bytes) more part

    pub fed-line : (refused : Bool) → Writes on (HandlesLine old new s on (from ++ bytes)) (Ok refused) (between a b) → Fed old new s on refused (chunk from (bytes ++ 10 ∷ []) []) (between a b)
    fed-line refused it = record {
      lines = (from ++ bytes) ∷ [];
      text = it.text;
      cut = cut-line;
      answered = answered-line old new s on (from ++ bytes) it.text it.says (λ stop. sym it.told ∙ it.goes_on stop);
      told = it.told;
      written = it.written;
    }

    pub ended-line : (why : ServeFault) (more : List ℕ) → Writes on (HandlesLine old new s on (from ++ bytes)) (Err why) (between a b)
        → ServesLines old new s on (Err why) (between a b) (lines_of (from ++ ((bytes ++ 10 ∷ []) ++ more)))
    ended-line why more writes =
        subst (λ ls. ServesLines old new s on (Err why) (between a b) ls) (sym (cut-line more)) (serves-line old new s on (from ++ bytes) (Err why) a b (lines_of more) tt writes)

  -- further bytes
  module _ (old mid new : Store D members) (s : State) (on : Manner) (refused : Bool) (bytes then from middle : List ℕ) (a b c : Option (List ℕ)) (first : Fed old mid s on refused (chunk from bytes middle) (between a b)) where
    cut-join : (more : List ℕ) → lines_of (from ++ ((bytes ++ then) ++ more)) ≡ first.lines ++ lines_of (middle ++ (then ++ more))
    cut-join more = ap (λ bs. lines_of (from ++ bs)) (append_assoc bytes then more) ∙ first.cut (then ++ more)

    pub fed-join : (again : Bool) (to : List ℕ) → Fed mid new (after s first.answered.commands first.answered.answers) on again (chunk middle then to) (between b c)
        → Fed old new s on (refused || again) (chunk from (bytes ++ then) to) (between a c)
    unfolding answered-join
    fed-join again to second = record {
      lines = first.lines ++ second.lines;
      text = first.text ++ second.text;
      cut = λ more. cut-join more ∙ ap (λ ls. first.lines ++ ls) (second.cut more) ∙ sym (append_assoc first.lines second.lines (lines_of (to ++ more)));
      answered = answered-join old mid new s on first.lines first.text first.answered second.lines second.text second.answered;
      told = rw (first.told, second.told) refl;
      written = Appends-then a b c first.text second.text first.written second.written;
    }

    -- the session ended there
    pub ended-join : (why : ServeFault) (more : List ℕ) → ServesLines mid new (after s first.answered.commands first.answered.answers) on (Err why) (between b c) (lines_of (middle ++ (then ++ more)))
        → ServesLines old new s on (Err why) (between a c) (lines_of (from ++ ((bytes ++ then) ++ more)))
    ended-join why more ended =
        subst (λ ls. ServesLines old new s on (Err why) (between a c) ls) (sym (cut-join more)) (serves-after old mid new s on first.lines first.text first.answered (Err why) a b c (lines_of (middle ++ (then ++ more))) first.written ended)
