-- What a crash leaves is kept, one call after another.
use Rattle.std.proofs.Common.{◌≡◌, ◌⊎◌, ℕ, zero, suc, ◌<◌, ◌≤◌, Bool, true, false, List, [], ◌∷◌, ◌++◌, length, take, slice_get, Some, None, Result, Ok, Err, refl, sym, ap, ◌∙◌, subst, arith, ⊎_elim, inl, inr, length-append, if◌then◌else◌}
use Rattle.std.proofs.lemmas.Bool.{cases_lt}
use Rattle.std.proofs.lemmas.List.{take-append-le, take_all, length-take-le}
use Rattle.std.proofs.lemmas.Option.{slice_get_within, slice_get_past}
use Rattle.vm_types.specs.declared.answer.Answer.{Answer}
use Rattle.vm_types.specs.declared.command.Command.{Command}
use Rattle.vm_types.specs.declared.command.Command.TheVariants.{Commit}
use Rattle.vm_types.specs.declared.refusal.Refusal.{Refusal}
use Rattle.vm_types.specs.declared.refusal.Refusal.TheVariants.{Device}
use Rattle.vm_types.specs.State.{Seen, State, committed_of, working_of, next, after, is_commit}
use Rattle.vm_types.specs.Kept.{MayHaveHappened, committed_by, EndsInCommit, Kept, LeftBy}
use Rattle.vm_types.proofs.Runs.{after_more, after_fewer}

-- the elements before the last one stay
before_last : {X : Type 0} (xs : List X) (x : X) (i : ℕ) → i < length xs → slice_get (xs ++ x ∷ []) i ≡ slice_get xs i
before_last [] x i h = absurd (omega arith)
before_last (y ∷ ys) x zero h = refl
before_last (y ∷ ys) x (suc i) h = before_last ys x i (omega arith)

-- the last one
at_last : {X : Type 0} (xs : List X) (x : X) (i : ℕ) → i ≡ length xs → slice_get (xs ++ x ∷ []) i ≡ Some x
at_last [] x zero h = refl
at_last [] x (suc i) h = absurd (omega arith)
at_last (y ∷ ys) x zero h = absurd (omega arith)
at_last (y ∷ ys) x (suc i) h = at_last ys x i (omega arith)

same_Some : {X : Type 0} (x y : X) → Some x ≡ Some y → x ≡ y
same_Some x y h = cc

not_none : (a : Result Answer Refusal) → None ≡ Some a → ⊥
not_none a h = cc

not_device : (answer : Answer) → Some (Err Device) ≡ Some (Ok answer) → ⊥
not_device answer h = cc

-- a command is a Commit, or its test says no
commit_cases : (c : Command) → (c ≡ Commit) ⊎ (is_commit c ≡ false)
commit_cases Commit = inl refl
commit_cases c = inr refl

not_commit : (c : Command) → is_commit c ≡ false → c ≡ Commit → ⊥
not_commit c h e = let f : is_commit c ≡ true = ap is_commit e in cc

-- every answered command is behind us: the last commit that was acknowledged gives what is committed now
pub record LastCommit (s : State) (commands : List Command) (answers : List (Result Answer Refusal)) : Type 0 where
  pub same : length answers ≡ length commands
  pub beginning : ℕ
  pub within : beginning ≤ length commands
  pub ends : EndsInCommit commands answers beginning
  pub acknowledged : (i : ℕ) (answer : Answer) → slice_get commands i ≡ Some Commit → slice_get answers i ≡ Some (Ok answer) → i < beginning
  pub committed : committed_by s commands answers beginning ≡ committed_of (after s commands answers)

pub LastCommit-none : (s : State) → LastCommit s [] []
LastCommit-none s = record { same = refl; beginning = 0; within = omega arith; ends = tt; acknowledged = λ i answer is ok. cc; committed = refl }

-- a list of answers that begins with these
pub record Continues (s : State) (commands : List Command) (answers told : List (Result Answer Refusal)) : Type 0 where
  pub same : length answers ≡ length commands
  pub old : (i : ℕ) → i < length commands → slice_get told i ≡ slice_get answers i
  pub past : (cs : List Command) → length cs ≤ length answers → after s cs told ≡ after s cs answers

-- they themselves do
Continues-same : (s : State) (commands : List Command) (answers : List (Result Answer Refusal)) → length answers ≡ length commands → Continues s commands answers answers
Continues-same s commands answers same = record { same = same; old = λ i h. refl; past = λ cs h. refl }

-- and so do they with one more
Continues-more : (s : State) (commands : List Command) (answers : List (Result Answer Refusal)) (a : Result Answer Refusal) → length answers ≡ length commands → Continues s commands answers (answers ++ a ∷ [])
Continues-more s commands answers a same = record {
  same = same;
  old = λ i h. before_last answers a i (omega arith);
  past = λ cs h. after_fewer s cs answers (a ∷ []) h;
}

module _ {s : State} {commands : List Command} {answers told : List (Result Answer Refusal)} (more : Continues s commands answers told) (c : Command) where
  -- a beginning that ends in a commit stays one when a command is added
  ends_kept : (n : ℕ) → n ≤ length commands → EndsInCommit commands answers n → EndsInCommit (commands ++ c ∷ []) told n
  ends_kept zero h ends = tt
  ends_kept (suc n) h ends = (before_last commands c n (omega arith) ∙ ends.0, subst MayHaveHappened (sym (more.old n (omega arith))) ends.1)

  -- and commits the same
  committed_kept : (n : ℕ) → n ≤ length commands → committed_by s (commands ++ c ∷ []) told n ≡ committed_by s commands answers n
  committed_kept zero h = refl
  committed_kept (suc n) h =
      let few : n ≤ length commands = omega arith in
      let many : length (take n commands) ≤ length answers = omega (arith, length-take-le n commands few, more.same) in
      ap (λ (cs : List Command). working_of (after s cs told)) (take-append-le n commands (c ∷ []) few)
      ∙ ap working_of (more.past (take n commands) many)

  -- where the last command is a commit that may have happened, it commits what commands worked on before it
  committed_last : committed_by s (commands ++ c ∷ []) told (suc (length commands)) ≡ working_of (after s commands answers)
  committed_last =
      let few : length commands ≤ length commands = omega arith in
      let same : length answers ≡ length commands = more.same in
      ap (λ (cs : List Command). working_of (after s cs told)) (take-append-le (length commands) commands (c ∷ []) few ∙ take_all (length commands) commands few)
      ∙ ap working_of (more.past commands (omega arith))

  -- what was acknowledged so far stands before the last command, if that isn't acknowledged
  acknowledged_kept : (n : ℕ) → ((answer : Answer) → c ≡ Commit → slice_get told (length commands) ≡ Some (Ok answer) → ⊥)
      → ((i : ℕ) (answer : Answer) → slice_get commands i ≡ Some Commit → slice_get answers i ≡ Some (Ok answer) → i < n)
      → (i : ℕ) (answer : Answer) → slice_get (commands ++ c ∷ []) i ≡ Some Commit → slice_get told i ≡ Some (Ok answer) → i < n
  acknowledged_kept n silent before i answer is ok =
      let w : i < length (commands ++ c ∷ []) = slice_get_within (commands ++ c ∷ []) i Commit is in
      let le : i < suc (length commands) = omega (arith, w, length-append commands (c ∷ [])) in
      ⊎_elim
      (λ (lt : i < length commands). before i answer (sym (before_last commands c i lt) ∙ is) (sym (more.old i lt) ∙ ok))
      (λ (ge : length commands ≤ i).
      let at : i ≡ length commands = omega arith in
      absurd (silent answer (same_Some c Commit (sym (at_last commands c i at) ∙ is)) (ap (slice_get told) (sym at) ∙ ok)))
      (cases_lt i (length commands))

  -- all commands are before the next one
  all_before : (i : ℕ) → slice_get (commands ++ c ∷ []) i ≡ Some Commit → i < suc (length commands)
  all_before i is = let w : i < length (commands ++ c ∷ []) = slice_get_within (commands ++ c ∷ []) i Commit is in omega (arith, w, length-append commands (c ∷ []))

-- one more command that was accepted as a Commit
accepted_commit : (s : State) (commands : List Command) (answers : List (Result Answer Refusal)) (answer : Answer) → LastCommit s commands answers → LastCommit s (commands ++ Commit ∷ []) (answers ++ Ok answer ∷ [])
accepted_commit s commands answers answer last =
    let more = Continues-more s commands answers (Ok answer) last.same in
    record {
      same = omega (arith, length-append commands (Commit ∷ []), length-append answers (Ok answer ∷ []), last.same);
      beginning = suc (length commands);
      within = omega (arith, length-append commands (Commit ∷ []));
      ends = (at_last commands Commit (length commands) refl, subst MayHaveHappened (sym (at_last answers (Ok answer) (length commands) (sym last.same))) tt);
      acknowledged = λ i _ is _. all_before more Commit i is;
      committed = committed_last more Commit ∙ sym (ap committed_of (after_more s commands answers Commit (Ok answer) last.same));
    }

-- one more command that commits nothing
no_commit : (s : State) (commands : List Command) (answers : List (Result Answer Refusal)) (c : Command) (a : Result Answer Refusal) → ((answer : Answer) → c ≡ Commit → a ≡ Ok answer → ⊥) → committed_of (next (after s commands answers) c a) ≡ committed_of (after s commands answers) → LastCommit s commands answers → LastCommit s (commands ++ c ∷ []) (answers ++ a ∷ [])
no_commit s commands answers c a none stays last =
    let more = Continues-more s commands answers a last.same in
    record {
      same = omega (arith, length-append commands (c ∷ []), length-append answers (a ∷ []), last.same);
      beginning = last.beginning;
      within = omega (arith, length-append commands (c ∷ []), last.within);
      ends = ends_kept more c last.beginning last.within last.ends;
      acknowledged = acknowledged_kept more c last.beginning (λ answer is ok. none answer is (same_Some a (Ok answer) (sym (at_last answers a (length commands) (sym last.same)) ∙ ok))) last.acknowledged;
      committed = committed_kept more c last.beginning last.within ∙ last.committed ∙ sym stays ∙ sym (ap committed_of (after_more s commands answers c a last.same));
    }

-- an accepted command that is no Commit leaves what is committed
uncommitted : (s : State) (c : Command) (answer : Answer) → is_commit c ≡ false → committed_of (next s c (Ok answer)) ≡ committed_of s
uncommitted s c answer other =
    let left : Bool → Seen = λ t. record { tree = if t then s.working else s.committed; blocks = if t then s.blocks else s.kept } in
    ap left other

-- one more command, whatever it was answered
pub LastCommit-more : (s : State) (commands : List Command) (answers : List (Result Answer Refusal)) (c : Command) (a : Result Answer Refusal) → LastCommit s commands answers → LastCommit s (commands ++ c ∷ []) (answers ++ a ∷ [])
LastCommit-more s commands answers c (Err refusal) last = no_commit s commands answers c (Err refusal) (λ answer is ok. cc) refl last
LastCommit-more s commands answers c (Ok answer) last =
    ⊎_elim
    (λ (is : c ≡ Commit). subst (λ (d : Command). LastCommit s (commands ++ d ∷ []) (answers ++ Ok answer ∷ [])) (sym is) (accepted_commit s commands answers answer last))
    (λ (no : is_commit c ≡ false). no_commit s commands answers c (Ok answer) (λ _ is _. not_commit c no is) (uncommitted (after s commands answers) c answer no) last)
    (commit_cases c)

module _ {X : Type 0} (shows : X → Seen → Type 0) (s : State) (commands : List Command) (answers : List (Result Answer Refusal)) where
  -- between two calls, what was committed last is shown
  pub kept_rest : (x : X) → LastCommit s commands answers → shows x (committed_of (after s commands answers)) → Kept shows s commands answers x
  kept_rest x last is = record {
    beginning = last.beginning;
    within = last.within;
    ends = last.ends;
    acknowledged = last.acknowledged;
    shown = subst (shows x) (sym last.committed) is;
  }

  -- in a call that isn't acknowledged, what was committed last, or what the call commits
  left_in_call : (c : Command) (told : List (Result Answer Refusal)) (x : X) → LastCommit s commands answers → Continues s commands answers told
      → MayHaveHappened (slice_get told (length commands)) → ((answer : Answer) → c ≡ Commit → slice_get told (length commands) ≡ Some (Ok answer) → ⊥)
      → LeftBy shows (after s commands answers) c x → Kept shows s (commands ++ c ∷ []) told x
  left_in_call c told x last more may silent left =
      elim left as (λ _. Kept shows s (commands ++ c ∷ []) told x) [
        | inl is ↦ record {
          beginning = last.beginning;
          within = omega (arith, length-append commands (c ∷ []), last.within);
          ends = ends_kept more c last.beginning last.within last.ends;
          acknowledged = acknowledged_kept more c last.beginning silent last.acknowledged;
          shown = subst (shows x) (sym (committed_kept more c last.beginning last.within ∙ last.committed)) is;
        }
        | inr is ↦ record {
          beginning = suc (length commands);
          within = omega (arith, length-append commands (c ∷ []));
          ends = (at_last commands c (length commands) refl ∙ ap (λ (d : Command). Some d) is.0, may);
          acknowledged = λ i _ at _. all_before more c i at;
          shown = subst (shows x) (sym (committed_last more c)) is.1;
        }
      ]

  -- in a call that has no answer yet
  pub kept_call : (c : Command) (x : X) → LastCommit s commands answers → LeftBy shows (after s commands answers) c x → Kept shows s (commands ++ c ∷ []) answers x
  kept_call c x last left =
      let none : slice_get answers (length commands) ≡ None = slice_get_past answers (length commands) (omega (arith, last.same)) in
      left_in_call c answers x last (Continues-same s commands answers last.same)
      (subst MayHaveHappened (sym none) tt)
      (λ answer _ ok. not_none (Ok answer) (sym none ∙ ok))
      left

  -- in a call in which the device failed
  pub kept_device : (c : Command) (x : X) → LastCommit s commands answers → LeftBy shows (after s commands answers) c x → Kept shows s (commands ++ c ∷ []) (answers ++ Err Device ∷ []) x
  kept_device c x last left =
      let device : slice_get (answers ++ Err Device ∷ []) (length commands) ≡ Some (Err Device) = at_last answers (Err Device) (length commands) (sym last.same) in
      left_in_call c (answers ++ Err Device ∷ []) x last (Continues-more s commands answers (Err Device) last.same)
      (subst MayHaveHappened (sym device) refl)
      (λ answer _ ok. not_device answer (sym device ∙ ok))
      left
