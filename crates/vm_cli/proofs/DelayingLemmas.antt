-- What holds of a late disk over a disk holds of the disk.
use Rattle.std.proofs.Common.{◌≡◌, ◌<◌, ◌≤◌, ◌+◌, ◌-◌, ◌++◌, ◌∙◌, ℕ, zero, suc, true, List, [], ◌∷◌, length, Result, inl, inr, refl, sym, ap, subst, arith}
use Rattle.std.proofs.lemmas.Bool.{cases_lt}
use Rattle.vm_types.specs.declared.answer.Answer.{Answer}
use Rattle.vm_types.specs.declared.command.Command.{Command}
use Rattle.vm_types.specs.declared.refusal.Refusal.{Refusal}
use Rattle.vm_types.specs.Kept.{Kept}
use Rattle.vm_types.specs.Moments.{KeptBetween}
use Rattle.vm_types.specs.State.{State}
use Rattle.vm_disk.specs.Delayed.{FollowsBelow, IsIdleOver, delayed_state, inner_of}
use Rattle.vm_disk.specs.Disk.{Contents, DiskState, IsClean, LeftAt, Medium, moment}
use Rattle.vm_disk.specs.Following.{Follows, HeldAt, HeldPast, IsMeanwhile}
use Rattle.vm_disk.specs.Moments.{AtEach, Throughout}
use Rattle.vm_disk.specs.declared.delayed.DelayedDisk.{DelayedDisk}
use Rattle.vm_disk.specs.declared.disk.Disk.{Ghosts}
use Rattle.vm_disk.proofs.FollowingLemmas.{held_before, held_only, left_above}
use Rattle.vm_disk.proofs.LaidLemmas.{clean_same}
use Rattle.vm_disk.proofs.MomentLemmas.{weaken}
use Rattle.vm_store.specs.Refused.{IsAtMostSynced, IsRefused}
use Rattle.vm_store.specs.Shown.{Shows}
use Rattle.vm_cli.specs.session.Keeps.{Keeps}
use Rattle.vm_cli.specs.program.Openings.{HasRefused, TellsEarlier, refusal_of}
use Rattle.vm_cli.specs.declared.program.opening.NoStore.{NoStore}

-- what was made for some blocks was made for more than none
pub some : (n : ℕ) → (n ≡ 0 → ⊥) → 0 < n
some zero none = absurd (none refl)
some (suc n) none = omega arith

-- times that divide moments never fall
between_rises : (left : ℕ → Contents → Type 0) (s : State) (before : List Command) (told : List (Result Answer Refusal)) (start : ℕ) (commands : List Command) (answers : List (Result Answer Refusal)) (end : ℕ)
    → KeptBetween Shows left s before told start commands answers end → start ≤ end
between_rises left s before told start [] [] end kept = omega (arith, kept)
between_rises left s before told start (command ∷ commands) (answer ∷ answers) end kept =
    let first = kept.1 in
    let more = between_rises left s (before ++ command ∷ []) (told ++ answer ∷ []) kept.0 commands answers end kept.3 in omega (arith, first, more)
between_rises left s before told start [] (answer ∷ answers) end kept = absurd kept
between_rises left s before told start (command ∷ commands) [] end kept = absurd kept

-- all that was held was the same: then it was so throughout
all_same : (base : Medium) (m : Medium) (ms : List Medium) → ((t : ℕ) (n : Medium) → HeldPast (m ∷ ms) t n → n ≡ base)
    → (since : List Medium) × (m ∷ ms ≡ since ++ base ∷ []) × AtEach (λ n. n ≡ base) since
all_same base m [] each = ([], ap (λ (n : Medium). n ∷ []) (each 0 m (inl (refl, refl))), tt)
all_same base m (n ∷ ms) each =
    let rest = all_same base n ms (λ t x held. each t x (inr held)) in
    (m ∷ rest.0, ap (λ (ns : List Medium). m ∷ ns) rest.1, (each (length (n ∷ ms)) m (inl (refl, refl)), rest.2))

module _ (above below : DiskState) (follows : Follows above below) where
  later : (d a b : ℕ) → b ≡ a + d → b ≤ moment above → follows.time a ≤ follows.time b
  later zero a b same within = let here : b ≡ a = omega (arith, same) in subst (λ (n : ℕ). follows.time a ≤ follows.time n) (sym here) (omega arith)
  later (suc d) a b same within =
      let here : b ≡ a + d + 1 = omega (arith, same) in
      let before = later d a (a + d) refl (omega (arith, within, here)) in
      let one = follows.rising (a + d) (omega (arith, within, here)) in
      subst (λ (n : ℕ). follows.time a ≤ follows.time n) (sym here) (omega (arith, before, one))

  -- the moments below never fall
  rises : (a b : ℕ) → a ≤ b → b ≤ moment above → follows.time a ≤ follows.time b
  rises a b order within = later (b - a) a b (omega (arith, order)) within

  search_from : (d a b : ℕ) → b ≡ a + d → (t : ℕ) → follows.time a ≤ t → t ≤ follows.time b → (k : ℕ) × (a ≤ k) × (k ≤ b) × IsMeanwhile follows.time k t
  search_from zero a b same t from until =
      let here : b ≡ a = omega (arith, same) in
      let most : t ≤ follows.time a = subst (λ (n : ℕ). t ≤ follows.time n) here until in
      (a, omega arith, omega (arith, here), record { from = from; until = inl (omega (arith, from, most)) })
  search_from (suc d) a b same t from until = elim (cases_lt t (follows.time (a + 1))) [
    | inl less ↦ (a, omega arith, omega (arith, same), record { from = from; until = inr less })
    | inr more ↦
        let found = search_from d (a + 1) b (omega (arith, same)) t more until in
        let beyond = found.1 in
        (found.0, omega (arith, beyond), found.2, found.3)
  ]

  -- a moment below falls to one above
  between : (a b : ℕ) → a ≤ b → (t : ℕ) → follows.time a ≤ t → t ≤ follows.time b → (k : ℕ) × (a ≤ k) × (k ≤ b) × IsMeanwhile follows.time k t
  between a b order t from until = search_from (b - a) a b (omega (arith, order)) t from until

  -- what a crash below leaves between two moments, has what all has that a crash above leaves there
  left_between : (P : Contents → Type 0) (a b : ℕ) → a ≤ b → b ≤ moment above → ((k : ℕ) (x : Contents) → a ≤ k → k ≤ b → LeftAt above k x → P x)
      → (t : ℕ) (x : Contents) → follows.time a ≤ t → t ≤ follows.time b → LeftAt below t x → P x
  left_between P a b order within each t x from until at =
      let found = between a b order t from until in
      let few = found.2 in
      each found.0 x found.1 found.2 (left_above above below follows found.0 t x (omega (arith, few, within)) found.3 at)

  -- the first moment below falls to the first one above
  at_first : IsMeanwhile follows.time 0 0
  at_first = let first = follows.first in record { from = omega (arith, first); until = inl (sym first) }

  -- each call of a session keeps below what it keeps above
  kept_below : (s : State) (before : List Command) (told : List (Result Answer Refusal)) (start : ℕ) (commands : List Command) (answers : List (Result Answer Refusal)) (end : ℕ)
      → end ≤ moment above → KeptBetween Shows (LeftAt above) s before told start commands answers end
      → KeptBetween Shows (LeftAt below) s before told (follows.time start) commands answers (follows.time end)
  kept_below s before told start [] [] end within kept = ap follows.time kept
  kept_below s before told start (command ∷ commands) (answer ∷ answers) end within kept =
      let few = between_rises (LeftAt above) s (before ++ command ∷ []) (told ++ answer ∷ []) kept.0 commands answers end kept.3 in
      let inside : kept.0 ≤ moment above = omega (arith, few, within) in (
        follows.time kept.0,
        rises start kept.0 kept.1 inside,
        left_between (Kept Shows s (before ++ command ∷ []) told) start kept.0 kept.1 inside kept.2,
        kept_below s (before ++ command ∷ []) (told ++ answer ∷ []) kept.0 commands answers end within kept.3,
      )
  kept_below s before told start [] (answer ∷ answers) end within kept = absurd kept
  kept_below s before told start (command ∷ commands) [] end within kept = absurd kept

  -- what a session keeps above from the first moment on, it keeps below
  pub keeps_follows : (old old' : DiskState) → moment old ≡ 0 → moment old' ≡ 0 → (s : State) (commands : List Command) (answers : List (Result Answer Refusal))
      → Keeps old above s commands answers → Keeps old' below s commands answers
  keeps_follows old old' none none' s commands answers kept =
      let last = follows.last in
      let end = rises kept.time (moment above) kept.within (omega arith) in
      let start : follows.time (moment old) ≡ moment old' = ap follows.time none ∙ follows.first ∙ sym none' in
      record {
        time = follows.time kept.time;
        within = omega (arith, last, end);
        calls = record {
          first = λ x at.
              kept.calls.first x (subst (λ (k : ℕ). LeftAt above k x) (sym none)
              (left_above above below follows 0 0 x (omega arith) at_first (subst (λ (t : ℕ). LeftAt below t x) none' at)));
          calls = subst (λ (t : ℕ). KeptBetween Shows (LeftAt below) s [] [] t commands answers (follows.time kept.time)) start
              (kept_below s [] [] (moment old) commands answers kept.time kept.within kept.calls.calls);
          last = λ x at. left_between (Kept Shows s commands answers) kept.time (moment above) kept.within (omega arith) kept.rest (follows.time kept.time) x (omega arith) end at;
        };
        rest = λ t x from until at.
            left_between (Kept Shows s commands answers) kept.time (moment above) kept.within (omega arith) kept.rest t x from (omega (arith, until, last)) at;
        held = kept.rest (moment above) below.now.contents kept.within (omega arith)
            (left_above above below follows (moment above) (moment below) below.now.contents (omega arith)
            (record { from = omega (arith, last); until = inl (sym last) })
            (inl (refl, record { least = below.now.within; most = omega arith; clean = λ n clean. refl })));
      }

  -- a clean disk that was at most synced above was not changed below
  pub synced_follows : (old old' : DiskState) → moment old ≡ 0 → old'.past ≡ [] → old.now ≡ old'.now → IsClean old'.now
      → Throughout old above (IsAtMostSynced old.now) → Throughout old' below (IsAtMostSynced old'.now)
  synced_follows old old' none none' same clean synced =
      let whole = all_same old'.now below.now below.past each in
      weaken old' below (λ m. m ≡ old'.now) (IsAtMostSynced old'.now) (λ m is. inl is) (record {
        since = whole.0;
        goes_on = subst (λ (ms : List Medium). below.now ∷ below.past ≡ whole.0 ++ old'.now ∷ ms) (sym none') whole.1;
        each = whole.2;
        first = refl;
      })
    where
      clean_above : IsClean old.now
      clean_above = subst (λ (m : Medium). IsClean m) (sym same) clean

      unchanged : (m : Medium) → IsAtMostSynced old.now m → IsClean m × (m ≡ old.now)
      unchanged m (inl is) = (subst (λ (n : Medium). IsClean n) (sym is) clean_above, is)
      unchanged m (inr synced) = (synced.clean, clean_same m old.now synced.same synced.clean clean_above)

      each : (t : ℕ) (m : Medium) → HeldAt below t m → m ≡ old'.now
      each t m at =
          let before = held_before (below.now ∷ below.past) t m at in
          let first = follows.first in
          let last = follows.last in
          let found = between 0 (moment above) (omega arith) t (omega (arith, first)) (omega (arith, last, before)) in
          let over = follows.under found.0 t m found.2 found.3 at in
          let is = unchanged over.0 (held_only old above (IsAtMostSynced old.now) synced found.0 over.0 (omega (arith, none)) over.1) in
          over.2.clean is.0 ∙ is.1 ∙ same

module _ {D : Type 0} (members : Ghosts D) (first last : DelayedDisk D members) (limit : ℕ) (idle : IsIdleOver members.state (inner_of first) limit first)
    (fresh : (members.state (inner_of first)).past ≡ []) (follows : (delayed_state members.state last).honest ≡ true → FollowsBelow members.state last) where
  none_above : moment (delayed_state members.state first) ≡ 0
  none_above = ap (λ (ms : List Medium). length ms) (idle.past ∙ fresh)

  none_below : moment (members.state (inner_of first)) ≡ 0
  none_below = ap (λ (ms : List Medium). length ms) fresh

  -- what a session keeps
  pub keeps_late : (s : State) (commands : List Command) (answers : List (Result Answer Refusal)) → (delayed_state members.state last).honest ≡ true
      → Keeps (delayed_state members.state first) (delayed_state members.state last) s commands answers
      → Keeps (members.state (inner_of first)) (members.state (inner_of last)) s commands answers
  keeps_late s commands answers honest kept =
      keeps_follows (delayed_state members.state last) (members.state (inner_of last)) (follows honest)
      (delayed_state members.state first) (members.state (inner_of first)) none_above none_below s commands answers kept

  -- why a disk was refused
  pub refused_late : (why : NoStore) → ((members.state (inner_of first)).honest ≡ true → IsClean (members.state (inner_of first)).now)
      → HasRefused (delayed_state members.state first) (delayed_state members.state last) why
      → HasRefused (members.state (inner_of first)) (members.state (inner_of last)) why
  refused_late why clean refused = record {
    goes = record { same_blocks = refused.goes.same_blocks; earlier = refused.goes.earlier; rising = refused.goes.rising; fault = refused.goes.fault };
    why = λ honest. subst (λ (m : Medium). IsRefused m.contents (refusal_of why)) idle.now (refused.why honest);
    earlier = λ honest. subst (λ (m : Medium). TellsEarlier m.contents why) idle.now (refused.earlier honest);
    moments = λ honest.
        synced_follows (delayed_state members.state last) (members.state (inner_of last)) (follows honest)
        (delayed_state members.state first) (members.state (inner_of first)) none_above fresh idle.now (clean (refused.goes.earlier honest)) (refused.moments honest);
  }
