-- A run so far: what it answered, and what a crash leaves at each moment of it.
use Rattle.std.proofs.Common.{◌≡◌, ◌⊎◌, inl, inr, ℕ, ◌+◌, ◌<◌, ◌≤◌, Bool, true, false, List, [], ◌∷◌, ◌++◌, drop, length, take, get_or, Result, Err, refl, sym, ap, ◌∙◌, subst, arith}
use Rattle.std.proofs.lemmas.List.{drop-append-le, drop_all, length-append, take-append-le, take_all, take_more}
use Rattle.vm_types.specs.declared.answer.Answer.{Answer}
use Rattle.vm_types.specs.declared.command.Command.{Command}
use Rattle.vm_types.specs.declared.command.Command.TheVariants.{New, NewAt, Drop, Put, Remove, Checkpoint, Uncheck, Back, Merge, Post, Commit, Rollback, Reclaim, Grow}
use Rattle.vm_types.specs.declared.refusal.Refusal.{Refusal}
use Rattle.vm_types.specs.declared.refusal.Refusal.TheVariants.{Device}
use Rattle.vm_types.specs.Kept.{LeftBy}
use Rattle.vm_types.specs.State.{State, committed_of, next, after, merge_changes, start_of}
use Rattle.vm_types.proofs.MomentsLemmas.{HasRun, HasRun-none, HasRun-more}
use Rattle.vm_types.proofs.Runs.{after_more}
use Rattle.vm_disk.specs.Disk as disk
use Rattle.vm_disk.specs.Disk.{Contents, DiskState, Medium}
use Rattle.vm_disk.specs.Moments.{Throughout, Leaves}
use Rattle.vm_disk.proofs.MomentLemmas.{started, and_then, weaken, past_stays, moment_rises, leaves_only, touches_nothing}
use Rattle.vm_block.specs.declared.selector.SlotName.{SlotName}
use Rattle.vm_store.specs.declared.version.Version.{Version}
use Rattle.vm_store.specs.Answers.{IsMergeAnswer}
use Rattle.vm_store.specs.ChangeList.{MeetsFullPath}
use Rattle.vm_store.specs.Store.{Answers, Holds, disk_of, held_of}
use Rattle.vm_store.specs.declared.store.Store.{Store}
use Rattle.vm_tree.specs.Free.{is_free}
use Rattle.vm_store.specs.Guarded.{IsGuarded}
use Rattle.vm_store.specs.Rest.{Rests, spare_of}
use Rattle.vm_store.specs.Commands.{AnswersInTurn, CarriesOut, IsGuardedOnTheWay, IsOnTheWay, NoneIsDevice}
use Rattle.vm_store.specs.Shown.{Shows}
use Rattle.vm_store.proofs.RestingLemmas.{shows_old}

-- commands that were run, from s on, while the disk went from old to now
abbrev pub Ran : DiskState → DiskState → State → List Command → List (Result Answer Refusal) → Type 0
Ran old now s commands answers = HasRun Shows (disk.LeftAt now) s (disk.moment old) commands answers (after s commands answers) (disk.moment now)

-- what a crash shows once a state is committed
abbrev pub ShowsCommitted : State → Medium → Type 0
ShowsCommitted s = Leaves (λ x. Shows x (committed_of s))

-- so of one at the last moment
shown_last : (now : DiskState) (s : State) → ShowsCommitted s now.now → (x : Contents) → disk.LeftAt now (disk.moment now) x → Shows x (committed_of s)
shown_last now s shows x was = leaves_only now now (λ y. Shows y (committed_of s)) (started now (ShowsCommitted s) shows) (disk.moment now) x (omega arith) was

-- at the last moment of a call: the device failed in it, or a crash shows what is committed after it
pub ends_shown : (now : DiskState) (s : State) (a : Result Answer Refusal) → (a ≡ Err Device) ⊎ ShowsCommitted s now.now
    → (a ≡ Err Device) ⊎ ((x : Contents) → disk.LeftAt now (disk.moment now) x → Shows x (committed_of s))
ends_shown now s a (inl failed) = inl failed
ends_shown now s a (inr shows) = inr (shown_last now s shows)

-- before the first command, where a crash shows what is committed
pub ran_none : (old : DiskState) (s : State) → ShowsCommitted s old.now → Ran old old s [] []
ran_none old s shows = HasRun-none Shows (disk.LeftAt old) s (disk.moment old) (shown_last old s shows)

-- one command more
pub ran_more : (old mid new : DiskState) (s : State) (commands : List Command) (answers : List (Result Answer Refusal)) (c : Command) (a : Result Answer Refusal) → Ran old mid s commands answers
    → Throughout mid new (Leaves (LeftBy Shows (after s commands answers) c))
    → (a ≡ Err Device) ⊎ ShowsCommitted (after s (commands ++ c ∷ []) (answers ++ a ∷ [])) new.now
    → Ran old new s (commands ++ c ∷ []) (answers ++ a ∷ [])
ran_more old mid new s commands answers c a ran crash ends =
    HasRun-more ran (disk.LeftAt new) c a _ _ (after_more s commands answers c a ran.last.same) (moment_rises mid new _ crash)
    (λ t x le was. past_stays mid new _ crash t x le was)
    (λ t x from to was. leaves_only mid new _ crash t x from was)
    (ends_shown new (after s (commands ++ c ∷ []) (answers ++ a ∷ [])) a ends)

-- a crash before the first command shows what is committed
pub rests_show : (m : Medium) (limit : ℕ) (slot_name : SlotName) (bits : List Bool) (committed working : List Version) (s : State) → Rests m limit slot_name bits committed working s → Leaves (λ x. Shows x (committed_of s)) m
rests_show m limit slot_name bits committed working s rests left may = shows_old m limit slot_name bits committed working s rests m (touches_nothing (is_free bits) m) left may

-- one answer of a run
module _ {D : Type 0} {members : _} (old new : Store D members) (s : State) (holds : Holds old s) (r : Result Answer Refusal) where
  -- what is answered is told by the disk of the store and its size
  pub answers_on : (other : Store D members) (command : Command) → members.state (disk_of other) ≡ members.state (disk_of new) → other.parts.blocks ≡ new.parts.blocks → Answers old new s holds command r → Answers old other s holds command r
  answers_on other (New name parent) same size answer = answer
  answers_on other (NewAt name parent checkpoint) same size answer = answer
  answers_on other (Drop alt) same size answer = answer
  answers_on other (Put alt key value) same size answer = answer
  answers_on other (Remove alt key) same size answer = answer
  answers_on other (Checkpoint alt name) same size answer = answer
  answers_on other (Uncheck alt name) same size answer = answer
  answers_on other (Back alt name) same size answer = answer
  answers_on other (Merge alt settled) same size answer =
      let told : DiskState → ℕ → Type 0 = λ t n. IsMergeAnswer s (spare_of holds.rests) (MeetsFullPath t.now.contents n (start_of s.working alt settled) (merge_changes s.working alt settled)) alt settled r in
      subst (λ n. told (members.state (disk_of other)) n) (sym size) (subst (λ (t : DiskState). told t new.parts.blocks) (sym same) answer)
  answers_on other (Post alt) same size answer = answer
  answers_on other Commit same size answer = answer
  answers_on other Rollback same size answer = answer
  answers_on other Reclaim same size answer = answer
  answers_on other (Grow blocks) same size answer = answer

module _ {D : Type 0} {members : _} where
  -- one command more
  pub in_turn_more : (old mid new : Store D members) (s : State) (commands : List Command) (answers : List (Result Answer Refusal)) (c : Command) (a : Result Answer Refusal) → AnswersInTurn old mid s commands answers
      → CarriesOut mid new c a → AnswersInTurn old new s (commands ++ c ∷ []) (answers ++ a ∷ [])
  in_turn_more old mid new s [] [] c a so_far last = (new, subst (λ (t : Store D members). CarriesOut t new c a) so_far last, refl)
  in_turn_more old mid new s [] (b ∷ answers) c a so_far last = absurd so_far
  in_turn_more old mid new s (d ∷ commands) [] c a so_far last = absurd so_far
  in_turn_more old mid new s (d ∷ commands) (b ∷ answers) c a so_far last =
      (so_far.0, so_far.1, in_turn_more so_far.0 mid new (next s d b) commands answers c a so_far.2 last)

  -- the last store is on the way
  way_last : (old new : Store D members) (s : State) (commands : List Command) (answers : List (Result Answer Refusal)) → length answers ≡ length commands → AnswersInTurn old new s commands answers
      → IsOnTheWay old new s commands answers new
  way_last old new s commands answers same told =
      let all : take (length commands) commands ≡ commands = take_all (length commands) commands (omega arith) in
      let each : take (length commands) answers ≡ answers = take_all (length commands) answers (omega arith) in
      let none : drop (length commands) commands ≡ [] = drop_all (length commands) commands (omega arith) in
      let no_answer : drop (length commands) answers ≡ [] = drop_all (length commands) answers (omega arith) in
      record {
        beginning = length commands;
        within = omega arith;
        before = rw (all, each) told;
        behind = rw (none, no_answer) refl;
      }

  -- a store on the way stays there
  way_more : (old mid new : Store D members) (s : State) (commands : List Command) (answers : List (Result Answer Refusal)) (c : Command) (a : Result Answer Refusal) → length answers ≡ length commands
      → CarriesOut mid new c a → (store : Store D members) → IsOnTheWay old mid s commands answers store → IsOnTheWay old new s (commands ++ c ∷ []) (answers ++ a ∷ []) store
  way_more old mid new s commands answers c a same last store way =
      let n = way.beginning in
      let inner : n ≤ length commands = way.within in
      record {
        beginning = n;
        within = rw (length-append commands (c ∷ [])) (omega (arith, inner));
        before = rw (take-append-le n commands (c ∷ []) inner, take-append-le n answers (a ∷ []) (omega (arith, inner, same))) way.before;
        behind = rw (take-append-le n commands (c ∷ []) inner, take-append-le n answers (a ∷ []) (omega (arith, inner, same)), drop-append-le n commands (c ∷ []) inner, drop-append-le n answers (a ∷ []) (omega (arith, inner, same)))
            (in_turn_more store mid new (after s (take n commands) (take n answers)) (drop n commands) (drop n answers) c a way.behind last);
      }

  -- the slots are guarded before the first command
  pub guarded_none : (store : Store D members) (s : State) → IsGuarded (held_of store) (members.state (disk_of store)).now → Throughout (members.state (disk_of store)) (members.state (disk_of store)) (IsGuardedOnTheWay store store s [] [])
  guarded_none store s guarded =
      started (members.state (disk_of store)) (IsGuardedOnTheWay store store s [] []) (store, way_last store store s [] [] refl refl, guarded)

  -- and through one more
  pub guarded_more : (old mid new : Store D members) (s : State) (commands : List Command) (answers : List (Result Answer Refusal)) (c : Command) (a : Result Answer Refusal) → length answers ≡ length commands
      → AnswersInTurn old mid s commands answers → CarriesOut mid new c a
      → (members.state (disk_of new)).honest ≡ true → Holds mid (after s commands answers)
      → Throughout (members.state (disk_of old)) (members.state (disk_of mid)) (IsGuardedOnTheWay old mid s commands answers)
      → Throughout (members.state (disk_of old)) (members.state (disk_of new)) (IsGuardedOnTheWay old new s (commands ++ c ∷ []) (answers ++ a ∷ []))
  guarded_more old mid new s commands answers c a same told last honest holds so_far =
      let Q = IsGuardedOnTheWay old new s (commands ++ c ∷ []) (answers ++ a ∷ []) in
      let ends : length (answers ++ a ∷ []) ≡ length (commands ++ c ∷ []) = rw (length-append answers (a ∷ []), length-append commands (c ∷ []), same) refl in
      let here : IsOnTheWay old new s (commands ++ c ∷ []) (answers ++ a ∷ []) new = way_last old new s _ _ ends (in_turn_more old mid new s commands answers c a told last) in
      and_then (members.state (disk_of old)) (members.state (disk_of mid)) (members.state (disk_of new)) Q
      (weaken (members.state (disk_of old)) (members.state (disk_of mid)) (IsGuardedOnTheWay old mid s commands answers) Q (λ m was. (was.0, way_more old mid new s commands answers c a same last was.0 was.1, was.2)) so_far)
      (weaken (members.state (disk_of mid)) (members.state (disk_of new)) (IsGuarded (held_of new)) Q (λ m guarded. (new, here, guarded)) (last.performs.carried honest _ holds).guarded)

-- one more answer that is no failure of the device
pub none_more : (answers : List (Result Answer Refusal)) (a : Result Answer Refusal) → NoneIsDevice answers → (a ≡ Err Device → ⊥) → NoneIsDevice (answers ++ a ∷ [])
none_more [] a none last = (last, tt)
none_more (b ∷ answers) a none last = (none.0, none_more answers a none.1 last)

-- the first n commands, and the one at n
pub take_one_more : (cs : List Command) (n : ℕ) (c : Command) → n < length cs → c ≡ get_or cs n c → take (n + 1) cs ≡ take n cs ++ c ∷ []
take_one_more cs n c lt is = take_more cs n c lt ∙ ap (λ (x : Command). take n cs ++ x ∷ []) (sym is)

pub no_failure : (b : Bool) → (b ≡ true → ⊥) → b ≡ false
no_failure true h = absurd (h refl)
no_failure false h = refl
