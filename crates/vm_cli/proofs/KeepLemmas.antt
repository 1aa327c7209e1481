-- What a crash leaves at each moment so far, where between two commands the disk was only read or synced.
use Rattle.std.proofs.Common.{◌≡◌, ◌⊎◌, inl, inr, ℕ, ◌<◌, ◌≤◌, List, [], ◌∷◌, ◌++◌, Result, Err, refl, sym, subst, arith, ⊎_elim, le_trans}
use Rattle.std.proofs.lemmas.Bool.{cases_lt}
use Rattle.vm_types.specs.declared.answer.Answer.{Answer}
use Rattle.vm_types.specs.declared.command.Command.{Command}
use Rattle.vm_types.specs.declared.refusal.Refusal.{Refusal}
use Rattle.vm_types.specs.declared.refusal.Refusal.TheVariants.{Device}
use Rattle.vm_types.specs.Kept.{Kept, LeftBy}
use Rattle.vm_types.specs.Moments.{KeptBetween}
use Rattle.vm_types.specs.State.{Seen, State, after, committed_of, next}
use Rattle.vm_types.proofs.KeptLemmas.{kept_rest}
use Rattle.vm_types.proofs.MomentsLemmas.{HasRun, HasRun-more, HasRun-none, KeptBetween-onward}
use Rattle.vm_types.proofs.Runs.{after_more}
use Rattle.vm_disk.specs.Disk.{Contents, DiskState, LeftAt, moment}
use Rattle.vm_disk.specs.Moments.{Leaves, Throughout}
use Rattle.vm_disk.proofs.MomentLemmas.{leaves_only, moment_rises, past_stays, started}
use Rattle.vm_store.specs.Shown.{Shows}
use Rattle.vm_store.proofs.RunLemmas.{ShowsCommitted, ends_shown}
use Rattle.vm_cli.specs.session.Keeps.{Keeps}

module _ {X : Type 0} (shows : X → Seen → Type 0) (s : State) where
  -- it is kept where no more may be left
  pub KeptBetween-past : (left left' : ℕ → X → Type 0) (before : List Command) (told : List (Result Answer Refusal)) (start : ℕ) (commands : List Command) (answers : List (Result Answer Refusal)) (end : ℕ)
      → KeptBetween shows left s before told start commands answers end
      → ((t : ℕ) (x : X) → t ≤ end → left' t x → left t x)
      → KeptBetween shows left' s before told start commands answers end
  KeptBetween-past left left' before told start [] [] end kept past = kept
  KeptBetween-past left left' before told start [] (b ∷ answers) end kept past = absurd kept
  KeptBetween-past left left' before told start (d ∷ commands) [] end kept past = absurd kept
  KeptBetween-past left left' before told start (d ∷ commands) (b ∷ answers) end kept past =
      let onward = KeptBetween-onward shows s left (before ++ d ∷ []) (told ++ b ∷ []) kept.0 commands answers end kept.3 in (
        kept.0,
        kept.1,
        (λ t x from to was. kept.2 t x from to (past t x (le_trans to onward) was)),
        KeptBetween-past left left' (before ++ d ∷ []) (told ++ b ∷ []) kept.0 commands answers end kept.3 past,
      )

  -- and so of a run
  pub HasRun-past : (left left' : ℕ → X → Type 0) (start : ℕ) (commands : List Command) (answers : List (Result Answer Refusal)) (now : State) (end : ℕ)
      → HasRun shows left s start commands answers now end
      → ((t : ℕ) (x : X) → t ≤ end → left' t x → left t x) → HasRun shows left' s start commands answers now end
  HasRun-past left left' start commands answers now end run past =
      let onward = KeptBetween-onward shows s left [] [] start commands answers end run.moments.calls in
      record {
        state = run.state;
        last = run.last;
        moments = record {
          first = λ x was. run.moments.first x (past start x onward was);
          calls = KeptBetween-past left left' [] [] start commands answers end run.moments.calls past;
          last = λ x was. run.moments.last x (past end x (omega arith) was);
        };
      }

-- what a disk holds is among what a crash may leave of it
pub left_held : (now : DiskState) → LeftAt now (moment now) now.now.contents
left_held now = inl (refl, record { least = now.now.within; most = omega arith; clean = λ n clean. refl })

-- the device failed in no command, and since the last of them a crash shows what is committed
pub record Keeping (old now : DiskState) (s : State) (commands : List Command) (answers : List (Result Answer Refusal)) : Type 0 where
  pub time : ℕ
  pub within : time ≤ moment now
  pub run : HasRun Shows (LeftAt now) s (moment old) commands answers (after s commands answers) time
  pub rest : (t : ℕ) (x : Contents) → time ≤ t → t ≤ moment now → LeftAt now t x
      → Shows x (committed_of (after s commands answers))

-- at first
pub keeping_none : (old : DiskState) (s : State) → ShowsCommitted s old.now → Keeping old old s [] []
keeping_none old s shows =
    let first : (t : ℕ) (x : Contents) → moment old ≤ t → LeftAt old t x → Shows x (committed_of s) = leaves_only old old (λ x. Shows x (committed_of s)) (started old (ShowsCommitted s) shows) in
    record {
      time = moment old;
      within = omega arith;
      run = HasRun-none Shows (LeftAt old) s (moment old) (λ x was. first (moment old) x (omega arith) was);
      rest = λ t x from to was. first t x from was;
    }

module _ (old mid : DiskState) (s : State) (commands : List Command) (answers : List (Result Answer Refusal)) (keeping : Keeping old mid s commands answers) where
  -- what is committed so far
  abbrev reached : State
  reached = after s commands answers

  -- at the end
  pub keeps : Keeps old mid s commands answers
  keeps =
      let told : (t : ℕ) (x : Contents) → keeping.time ≤ t → t ≤ moment mid → LeftAt mid t x → Kept Shows s commands answers x = λ t x from to was. kept_rest Shows s commands answers x keeping.run.last (keeping.rest t x from to was) in
      record {
        time = keeping.time;
        within = keeping.within;
        calls = keeping.run.moments;
        rest = told;
        held = told (moment mid) mid.now.contents keeping.within (omega arith) (left_held mid);
      }

  -- a crash shows what is committed, also at each moment that comes to it
  pub keeping_quiet : (new : DiskState) → Throughout mid new (ShowsCommitted reached) → Keeping old new s commands answers
  keeping_quiet new quiet = record {
    time = keeping.time;
    within = le_trans keeping.within (moment_rises mid new _ quiet);
    run = HasRun-past Shows s (LeftAt mid) (LeftAt new) (moment old) commands answers reached keeping.time keeping.run (λ t x to was. past_stays mid new _ quiet t x (le_trans to keeping.within) was);
    rest = λ t x from to was.
        ⊎_elim
        (λ (lt : t < moment mid). let le : t ≤ moment mid = omega (arith, lt) in keeping.rest t x from le (past_stays mid new _ quiet t x le was))
        (λ (ge : moment mid ≤ t). leaves_only mid new _ quiet t x ge was)
        (cases_lt t (moment mid));
  }

  -- one command more
  module _ (new : DiskState) (c : Command) (a : Result Answer Refusal) (crash : Throughout mid new (Leaves (LeftBy Shows reached c))) where
    call_since : (t : ℕ) (x : Contents) → keeping.time ≤ t → LeftAt new t x → LeftBy Shows reached c x
    call_since t x from was =
        ⊎_elim
        (λ (lt : t < moment mid). let le : t ≤ moment mid = omega (arith, lt) in inl (keeping.rest t x from le (past_stays mid new _ crash t x le was)))
        (λ (ge : moment mid ≤ t). leaves_only mid new _ crash t x ge was)
        (cases_lt t (moment mid))

    has_run : (a ≡ Err Device) ⊎ ShowsCommitted (after s (commands ++ c ∷ []) (answers ++ a ∷ [])) new.now
        → HasRun Shows (LeftAt new) s (moment old) (commands ++ c ∷ []) (answers ++ a ∷ []) (after s (commands ++ c ∷ []) (answers ++ a ∷ [])) (moment new)
    has_run ends =
        HasRun-more keeping.run (LeftAt new) c a _ (moment new) (after_more s commands answers c a keeping.run.last.same) (le_trans keeping.within (moment_rises mid new _ crash))
        (λ t x to was. past_stays mid new _ crash t x (le_trans to keeping.within) was)
        (λ t x from to was. call_since t x from was)
        (ends_shown new (after s (commands ++ c ∷ []) (answers ++ a ∷ [])) a ends)

    -- after it a crash shows what is committed then
    pub keeping_more : ShowsCommitted (next reached c a) new.now → Keeping old new s (commands ++ c ∷ []) (answers ++ a ∷ [])
    keeping_more shows =
        let then : ShowsCommitted (after s (commands ++ c ∷ []) (answers ++ a ∷ [])) new.now = subst (λ (t : State). ShowsCommitted t new.now) (sym (after_more s commands answers c a keeping.run.last.same)) shows in
        record {
          time = moment new;
          within = omega arith;
          run = has_run (inr then);
          rest = λ t x from to was. leaves_only new new _ (started new _ then) t x from was;
        }

    -- the device failed in it
    pub keeps_failed : a ≡ Err Device → Keeps old new s (commands ++ c ∷ []) (answers ++ a ∷ [])
    keeps_failed failed =
        let run = has_run (inl failed) in
        record {
          time = moment new;
          within = omega arith;
          calls = run.moments;
          rest = λ t x from to was. run.moments.last x (subst (λ (u : ℕ). LeftAt new u x) (omega (arith, from, to)) was);
          held = run.moments.last new.now.contents (left_held new);
        }
