-- What a store stands for, through the commands that change its entries alone.
use Rattle.std.proofs.Common.{◌≡◌, inl, inr, ℕ, ◌+◌, ◌*◌, ◌≤◌, nat_lt, Bool, false, List, Result, Ok, Err, IfOk, IfErr, IsOk, OnOk, refl, sym, ap, ◌∙◌, subst, arith}
use Rattle.std.proofs.lemmas.Bool.Decides.{nat_tests}
use Rattle.vm_types.specs.Tree.{Tree, changed}
use Rattle.vm_types.specs.Step.{Outcome, done, step}
use Rattle.vm_types.specs.State.{State, accepted, answer_of, next, tree_after, changes_made, outcome}
use Rattle.vm_types.specs.declared.answer.Answer.{Answer}
use Rattle.vm_types.specs.declared.answer.Answer.TheVariants.{Done}
use Rattle.vm_types.specs.declared.command.Command.{Command}
use Rattle.vm_types.specs.declared.command.Command.TheVariants.{Back, Checkpoint, Commit, Drop, Grow, Merge, New, NewAt, Post, Put, Reclaim, Remove, Uncheck}
use Rattle.vm_types.specs.declared.refusal.Refusal.{Refusal}
use Rattle.vm_types.specs.declared.refusal.Refusal.TheVariants.{Device}
use Rattle.vm_disk.specs.Disk.{Medium}
use Rattle.vm_disk.proofs.MomentLemmas.{touches_nothing}
use Rattle.vm_alloc.specs.Held.{IsHeld, free_count}
use Rattle.vm_block.specs.Slot.{SlotFits}
use Rattle.vm_block.specs.declared.selector.SlotName.{SlotName}
use Rattle.vm_store.specs.declared.version.Version.{Version}
use Rattle.vm_store.specs.Answers.{IsDue, IsAnswer}
use Rattle.vm_store.specs.Versions.{slot_entries}
use Rattle.vm_store.specs.Filed.{Filed, Standing, tree_of}
use Rattle.vm_store.specs.Rest.{Rests, spare_of}
use Rattle.vm_store.proofs.FirstLemmas.{unread}
use Rattle.vm_store.proofs.RestingLemmas.{rests_on}
use Rattle.vm_store.specs.Answers.{ChangesEntriesAlone, HasMarked, TakesForChanges, most_taken}
use Rattle.vm_store.specs.Store.{Answers, Holds, IsHonest, KeepsFree, MarksOnce, ReadsFew, ReadsOnly, TakesUpTo, disk_of, free_of, held_of}
use Rattle.vm_store.specs.declared.store.Store.{Store}
use Rattle.vm_store.specs.Turns.{StandFor, Turns}

none_less : (n : ℕ) → nat_lt n 0 ≡ false
none_less n = grind (arith, nat_tests)

-- a command that the model refuses
pub answers_refused : (s : State) (spare : ℕ) (deep : Type 0) (command : Command) (r : Refusal) → outcome s command ≡ Err r → IsAnswer s spare deep command (Err r)
answers_refused s spare deep command r is = inr (subst (λ (o : Outcome). IsDue o (nat_lt spare (17 * changes_made s.working command)) deep (Err r)) (sym is) refl)

-- a command without record changes that the model accepts
pub answers_done : (s : State) (spare : ℕ) (deep : Type 0) (command : Command) (tree : Tree) → changes_made s.working command ≡ 0 → (deep → ⊥) → outcome s command ≡ done tree → IsAnswer s spare deep command (Ok Done)
answers_done s spare deep command tree none shallow is =
    inr (subst (λ (o : Outcome). IsDue o (nat_lt spare (17 * changes_made s.working command)) deep (Ok Done)) (sym is)
    (subst (λ (b : Bool). IsDue (done tree) b deep (Ok Done)) (sym (ap (λ n. nat_lt spare (17 * n)) none ∙ none_less spare)) (inl (refl, shallow))))

-- a Reclaim
pub answers_reclaim : (s : State) (spare : ℕ) (r : Result Answer Refusal) → IfOk r (λ a. a ≡ Done) → IfErr r (λ e. e ≡ Device) → IsAnswer s spare ⊥ Reclaim r
answers_reclaim s spare (Ok a) done_is device = subst (λ (b : Answer). IsAnswer s spare ⊥ Reclaim (Ok b)) (sym done_is) (answers_done s spare ⊥ Reclaim s.working refl (λ d. d) refl)
answers_reclaim s spare (Err e) done_is device = inl (ap Err device)

-- the answer of the model, to a command without record changes
due : (s : State) (spare : ℕ) (command : Command) (r : Result Answer Refusal) (o : Outcome) → outcome s command ≡ o → changes_made s.working command ≡ 0 → r ≡ answer_of o → IsAnswer s spare ⊥ command r
due s spare command r (Err refusal) is none same = subst (IsAnswer s spare ⊥ command) (sym same) (answers_refused s spare ⊥ command refusal is)
due s spare command r (Ok o) is none same =
    inr (subst (λ (o : Outcome). IsDue o (nat_lt spare (17 * changes_made s.working command)) ⊥ r) (sym is)
    (subst (λ (b : Bool). IsDue (Ok o) b ⊥ r) (sym (ap (λ n. nat_lt spare (17 * n)) none ∙ none_less spare)) (inl (same, λ never. never))))

-- what the working versions of a store stand for
abbrev pub standing : {m : Medium} {limit : ℕ} {slot_name : SlotName} {bits : List Bool} {committed working : List Version} {s : State} → Rests m limit slot_name bits committed working s → StandFor bits m.contents limit working s.working
standing rests = record { filed = rests.new; fits = rests.fits; stands = rests.stands; gives = rests.gives_new }

module _ (m : Medium) (limit : ℕ) (slot_name : SlotName) (bits : List Bool) (committed working : List Version) (s : State)
    (rests : Rests m limit slot_name bits committed working s) where
  -- other entries, which stand in blocks that are held, without a device call
  pub stepped : (command : Command) (changed : List Version) (new : List Filed) (tree : Tree) → next s command (Ok Done) ≡ record s { working = tree_after s.working (step s.working command) } → step s.working command ≡ done tree → SlotFits limit (slot_entries changed)
      → Standing (IsHeld bits) m.contents limit changed new → tree_of new ≡ tree → Rests m limit slot_name bits committed changed (next s command (Ok Done))
  stepped command changed new tree plain is fits stands gives =
      subst (λ (t : State). Rests m limit slot_name bits committed changed t) (sym (plain ∙ ap (λ (o : Outcome). record s { working = tree_after s.working o }) is))
      (rests_on m limit slot_name bits committed working s rests m bits changed new tree (touches_nothing _ m) (record { same_length = refl; still = λ n h. h }) fits stands gives)

  -- other entries, as a command that changes entries alone leaves them
  pub turned_rests : (command : Command) (r : Result Answer Refusal) (changed : List Version) → ChangesEntriesAlone command → Turns working changed command r → Rests m limit slot_name bits committed changed (next s command r)
  turned_rests command (Err refusal) changed alone turned = subst (λ (es : List Version). Rests m limit slot_name bits committed es s) (sym turned.kept) rests
  turned_rests command (Ok answer) changed alone turned =
      let left = turned.stand bits m.contents limit s.working (standing rests) in
      subst (Rests m limit slot_name bits committed changed) (sym (plain command alone))
      (rests_on m limit slot_name bits committed working s rests m bits changed left.filed _ (touches_nothing _ m) (record { same_length = refl; still = λ n h. h }) left.fits left.stands left.gives)
    where
      plain : (command : Command) → ChangesEntriesAlone command → accepted s command ≡ record s { working = tree_after s.working (step s.working command) }
      plain (New name parent) alone = refl
      plain (NewAt name parent checkpoint) alone = refl
      plain (Drop alt) alone = refl
      plain (Checkpoint alt name) alone = refl
      plain (Uncheck alt name) alone = refl
      plain (Back alt name) alone = refl
      plain command alone = absurd alone

-- such a command commits no other number of blocks
pub turned_kept : (s : State) (command : Command) → ChangesEntriesAlone command → s.kept ≡ (accepted s command).kept
turned_kept s (New name parent) alone = refl
turned_kept s (NewAt name parent checkpoint) alone = refl
turned_kept s (Drop alt) alone = refl
turned_kept s (Checkpoint alt name) alone = refl
turned_kept s (Uncheck alt name) alone = refl
turned_kept s (Back alt name) alone = refl
turned_kept s command alone = absurd alone

-- the answer is the one that is due
module _ {D : Type 0} {members : _} (old new : Store D members) (s : State) (holds : Holds old s) (r : Result Answer Refusal) where
  pub turned_answers : (command : Command) → ChangesEntriesAlone command → Turns old.parts.working new.parts.working command r → Answers old new s holds command r
  turned_answers (New name parent) alone turned = due s _ (New name parent) r _ refl refl (turned.answers _ _ _ _ (standing holds.rests))
  turned_answers (NewAt name parent checkpoint) alone turned = due s _ (NewAt name parent checkpoint) r _ refl refl (turned.answers _ _ _ _ (standing holds.rests))
  turned_answers (Drop alt) alone turned = due s _ (Drop alt) r _ refl refl (turned.answers _ _ _ _ (standing holds.rests))
  turned_answers (Checkpoint alt name) alone turned = due s _ (Checkpoint alt name) r _ refl refl (turned.answers _ _ _ _ (standing holds.rests))
  turned_answers (Uncheck alt name) alone turned = due s _ (Uncheck alt name) r _ refl refl (turned.answers _ _ _ _ (standing holds.rests))
  turned_answers (Back alt name) alone turned = due s _ (Back alt name) r _ refl refl (turned.answers _ _ _ _ (standing holds.rests))
  turned_answers command alone turned = absurd alone

-- what is known where something was served, of what was
pub when_ok : {T E : Type 0} (result : Result T E) (P : Type 0) → OnOk result P → IsOk result → P
when_ok (Ok x) P known is = known
when_ok (Err e) P known is = cc

-- a command that changes entries alone marks no blocks
pub entries_unmarked : (c : Command) (a : Result Answer Refusal) → ChangesEntriesAlone c → HasMarked c a → ⊥
entries_unmarked (Put alt key value) a alone marked = alone
entries_unmarked (Remove alt key) a alone marked = alone
entries_unmarked (Merge alt settled) a alone marked = alone
entries_unmarked Reclaim a alone marked = alone
entries_unmarked c a alone marked = marked

-- nothing is said of the free blocks of such a command
pub entries_keep : {D : Type 0} {members : _} (c : Command) (a : Result Answer Refusal) (old new : Store D members) → ChangesEntriesAlone c → KeepsFree c a old new
entries_keep (Put alt key value) a old new alone = absurd alone
entries_keep (Remove alt key) a old new alone = absurd alone
entries_keep (Merge alt settled) a old new alone = absurd alone
entries_keep (Post alt) a old new alone = absurd alone
entries_keep Commit a old new alone = absurd alone
entries_keep c a old new alone = tt

-- whether the store has failed says nothing of them
module _ {D : Type 0} {members : _} (a : Result Answer Refusal) (old new other : Store D members) (honest : IsHonest other → IsHonest new) (held : held_of other ≡ held_of new) where
  same_free : free_of other ≡ free_of new
  same_free = ap free_count held

  takes_on : (most : ℕ) → TakesUpTo most a old new → TakesUpTo most a old other
  takes_on most keeps = (
    λ enough. subst (λ n. free_of old ≤ n + most_taken most a) (sym same_free) (keeps.0 enough),
    λ is few comes s holds. subst (λ n. spare_of holds.rests ≤ n + most_taken most a) (sym same_free) (keeps.1 (honest is) few comes s holds),
  )

  pub keeps_on : (c : Command) → KeepsFree c a old new → KeepsFree c a old other
  keeps_on (Put alt key value) keeps = takes_on 16 keeps
  keeps_on (Remove alt key) keeps = takes_on 8 keeps
  keeps_on (Merge alt settled) keeps = λ is s holds.
      subst (λ n. TakesForChanges (changes_made s.working (Merge alt settled)) a (free_of old) n (spare_of holds.rests)) (sym same_free) (keeps (honest is) s holds)
  keeps_on (Post alt) keeps = held ∙ keeps
  keeps_on Commit keeps = held ∙ keeps
  keeps_on c keeps = tt

-- nor of the reads of a command that changes entries alone
pub entries_few : {D : Type 0} {members : _} (c : Command) (a : Result Answer Refusal) (old new : Store D members) → ChangesEntriesAlone c → ReadsFew c a old new
entries_few (Merge alt settled) a old new alone = absurd alone
entries_few (Post alt) a old new alone = absurd alone
entries_few c a old new alone = tt

-- nor of what follows a marking
pub entries_once : {D : Type 0} {members : _} (c : Command) (a : Result Answer Refusal) (old new : Store D members) → ChangesEntriesAlone c → MarksOnce c a old new
entries_once (Put alt key value) a old new alone = absurd alone
entries_once (Remove alt key) a old new alone = absurd alone
entries_once (Merge alt settled) a old new alone = absurd alone
entries_once c a old new alone = tt

-- it does not read
pub entries_read : {D : Type 0} {members : _} (c : Command) (a : Result Answer Refusal) (old new : Store D members) → ChangesEntriesAlone c → disk_of new ≡ disk_of old → ReadsOnly c a old new
entries_read (Merge alt settled) a old new alone same = absurd alone
entries_read (Post alt) a old new alone same = absurd alone
entries_read Reclaim a old new alone same = absurd alone
entries_read (Grow blocks) a old new alone same = absurd alone
entries_read c a old new alone same = unread a old new same
