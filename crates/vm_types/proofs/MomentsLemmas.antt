-- A run of commands, one call after another: what its loop keeps.
use Rattle.std.proofs.Common.{◌≡◌, ◌⊎◌, inl, inr, ℕ, ◌≤◌, List, [], ◌∷◌, ◌++◌, Result, Err, refl, sym, ap, ◌∙◌, subst, arith, append_assoc, append-nil, le_trans}
use Rattle.vm_types.specs.declared.answer.Answer.{Answer}
use Rattle.vm_types.specs.declared.command.Command.{Command}
use Rattle.vm_types.specs.declared.refusal.Refusal.{Refusal}
use Rattle.vm_types.specs.declared.refusal.Refusal.TheVariants.{Device}
use Rattle.vm_types.specs.State.{Seen, State, committed_of, next, after}
use Rattle.vm_types.specs.Kept.{Kept, LeftBy}
use Rattle.vm_types.specs.Moments.{KeptBetween, KeptThroughout}
use Rattle.vm_types.proofs.Runs.{after_more}
use Rattle.vm_types.proofs.KeptLemmas.{LastCommit, LastCommit-none, LastCommit-more, kept_call, kept_device, kept_rest}

module _ {X : Type 0} (shows : X → Seen → Type 0) (s : State) where
  -- the end is not before the start
  pub KeptBetween-onward : (left : ℕ → X → Type 0) (before : List Command) (told : List (Result Answer Refusal)) (start : ℕ) (commands : List Command) (answers : List (Result Answer Refusal)) (end : ℕ)
      → KeptBetween shows left s before told start commands answers end → start ≤ end
  KeptBetween-onward left before told start [] [] end kept = omega arith
  KeptBetween-onward left before told start [] (b ∷ answers) end kept = absurd kept
  KeptBetween-onward left before told start (d ∷ commands) [] end kept = absurd kept
  KeptBetween-onward left before told start (d ∷ commands) (b ∷ answers) end kept = le_trans kept.1 (KeptBetween-onward left (before ++ d ∷ []) (told ++ b ∷ []) kept.0 commands answers end kept.3)

  -- one more call at the end. What may be left at a moment before it is not more than it was
  pub KeptBetween-more : (left left' : ℕ → X → Type 0) (before : List Command) (told : List (Result Answer Refusal)) (start : ℕ) (commands : List Command) (answers : List (Result Answer Refusal)) (end : ℕ)
      → KeptBetween shows left s before told start commands answers end
      → ((t : ℕ) (x : X) → t ≤ end → left' t x → left t x)
      → (c : Command) (a : Result Answer Refusal) (later : ℕ) → end ≤ later
      → (all : List Command) (given : List (Result Answer Refusal)) → all ≡ before ++ commands → given ≡ told ++ answers
      → ((t : ℕ) (x : X) → end ≤ t → t ≤ later → left' t x → Kept shows s (all ++ c ∷ []) given x)
      → KeptBetween shows left' s before told start (commands ++ c ∷ []) (answers ++ a ∷ []) later
  KeptBetween-more left left' before told start [] [] end kept past c a later goes all given is said crash =
      let same : all ≡ before = is ∙ append-nil before in
      let heard : given ≡ told = said ∙ append-nil told in (
        later,
        subst (λ t. t ≤ later) (sym kept) goes,
        (λ t x from to was. subst (λ (cs : List Command). Kept shows s (cs ++ c ∷ []) told x) same (subst (λ (rs : List (Result Answer Refusal)). Kept shows s (all ++ c ∷ []) rs x) heard (crash t x (subst (λ e. e ≤ t) kept from) to was))),
        refl,
      )
  KeptBetween-more left left' before told start [] (b ∷ answers) end kept past c a later goes all given is said crash = absurd kept
  KeptBetween-more left left' before told start (d ∷ commands) [] end kept past c a later goes all given is said crash = absurd kept
  KeptBetween-more left left' before told start (d ∷ commands) (b ∷ answers) end kept past c a later goes all given is said crash =
      let onward = KeptBetween-onward left (before ++ d ∷ []) (told ++ b ∷ []) kept.0 commands answers end kept.3 in (
        kept.0,
        kept.1,
        (λ t x from to was. kept.2 t x from to (past t x (le_trans to onward) was)),
        KeptBetween-more left left' (before ++ d ∷ []) (told ++ b ∷ []) kept.0 commands answers end kept.3 past c a later goes all given (is ∙ sym (append_assoc before (d ∷ []) commands)) (said ∙ sym (append_assoc told (b ∷ []) answers)) crash,
      )

-- commands that were run: the state after them, and what a crash at each moment so far keeps
pub record HasRun {X : Type 0} (shows : X → Seen → Type 0) (left : ℕ → X → Type 0) (s : State) (start : ℕ) (commands : List Command) (answers : List (Result Answer Refusal)) (now : State) (end : ℕ) : Type 0 where
  pub state : now ≡ after s commands answers
  pub last : LastCommit s commands answers
  pub moments : KeptThroughout shows left s start commands answers end

-- at the first moment, where what may be left shows what is committed
pub HasRun-none : {X : Type 0} (shows : X → Seen → Type 0) (left : ℕ → X → Type 0) (s : State) (start : ℕ) → ((x : X) → left start x → shows x (committed_of s)) → HasRun shows left s start [] [] s start
HasRun-none {X} shows left s start first =
    let kept : (x : X) → left start x → Kept shows s [] [] x = λ x was. kept_rest shows s [] [] x (LastCommit-none s) (first x was) in
    record {
      state = refl;
      last = LastCommit-none s;
      moments = record { first = kept; calls = refl; last = kept };
    }

-- what one more call may leave, where the device failed in it
kept_failed : {X : Type 0} (shows : X → Seen → Type 0) (s : State) (commands : List Command) (answers : List (Result Answer Refusal)) (c : Command) (a : Result Answer Refusal) (x : X) → LastCommit s commands answers
    → a ≡ Err Device → LeftBy shows (after s commands answers) c x → Kept shows s (commands ++ c ∷ []) (answers ++ a ∷ []) x
kept_failed shows s commands answers c a x last failed left = subst (λ (b : Result Answer Refusal). Kept shows s (commands ++ c ∷ []) (answers ++ b ∷ []) x) (sym failed) (kept_device shows s commands answers c x last left)

-- One more, by what is proved of one call: at its moments, and at its end. There, unless the device failed in it, a crash shows what is
-- committed after it.
pub HasRun-more : {X : Type 0} {shows : X → Seen → Type 0} {left : ℕ → X → Type 0} {s : State} {start : ℕ} {commands : List Command} {answers : List (Result Answer Refusal)} {now : State} {end : ℕ} → HasRun shows left s start commands answers now end
    → (left' : ℕ → X → Type 0) (c : Command) (a : Result Answer Refusal) (now' : State) (later : ℕ) → now' ≡ next now c a → end ≤ later
    → ((t : ℕ) (x : X) → t ≤ end → left' t x → left t x)
    → ((t : ℕ) (x : X) → end ≤ t → t ≤ later → left' t x → LeftBy shows now c x)
    → (a ≡ Err Device) ⊎ ((x : X) → left' later x → shows x (committed_of now'))
    → HasRun shows left' s start (commands ++ c ∷ []) (answers ++ a ∷ []) now' later
HasRun-more {X} {shows} {left} {s} {start} {commands} {answers} {now} {end} run left' c a now' later is goes past crash ends =
    let onward = KeptBetween-onward shows s left [] [] start commands answers end run.moments.calls in
    let reached : now' ≡ after s (commands ++ c ∷ []) (answers ++ a ∷ []) = is ∙ ap (λ (t : State). next t c a) run.state ∙ sym (after_more s commands answers c a run.last.same) in
    let after_it : LastCommit s (commands ++ c ∷ []) (answers ++ a ∷ []) = LastCommit-more s commands answers c a run.last in
    let in_it : (t : ℕ) (x : X) → end ≤ t → t ≤ later → left' t x → LeftBy shows (after s commands answers) c x =
    λ t x from to was. subst (λ (w : State). LeftBy shows w c x) run.state (crash t x from to was) in
    record {
      state = reached;
      last = after_it;
      moments = record {
        first = λ x was. run.moments.first x (past start x onward was);
        calls = KeptBetween-more shows s left left' [] [] start commands answers end run.moments.calls past c a later goes commands answers refl refl
            (λ t x from to was. kept_call shows s commands answers c x run.last (in_it t x from to was));
        last = elim ends as (λ _. (x : X) → left' later x → Kept shows s (commands ++ c ∷ []) (answers ++ a ∷ []) x) [
          | inl failed ↦ λ x was. kept_failed shows s commands answers c a x run.last failed (in_it later x goes (omega arith) was)
          | inr shown ↦ λ x was. kept_rest shows s (commands ++ c ∷ []) (answers ++ a ∷ []) x after_it (subst (λ (w : State). shows x (committed_of w)) reached (shown x was))
        ];
      };
    }
