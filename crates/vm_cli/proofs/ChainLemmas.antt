-- Commands that a store carried out one after another.
use Rattle.std.proofs.Common.{◌≡◌, ◌⊎◌, inl, inr, ℕ, zero, suc, true, false, List, [], ◌∷◌, None, Result, Ok, Err, refl, sym, ap, subst, ◌∙◌, ◌<◌, ◌≤◌}
use Rattle.vm_types.specs.declared.answer.Answer.{Answer}
use Rattle.vm_types.specs.declared.command.Command.{Command}
use Rattle.vm_types.specs.declared.command.Command.TheVariants.{Grow}
use Rattle.vm_types.specs.declared.refusal.Refusal.{Refusal}
use Rattle.vm_types.specs.declared.refusal.Refusal.TheVariants.{Device, Full}
use Rattle.vm_types.specs.State.{State}
use Rattle.vm_store.specs.Commands.{CarriesOut}
use Rattle.vm_store.specs.Store.{Holds, blocks_of, disk_of, has_failed}
use Rattle.vm_store.specs.declared.store.Store.{Store}
use Rattle.vm_store.proofs.QueryLemmas.{still_holds}
use Rattle.vm_cli.specs.session.Feeds.{TriesSome}
use Rattle.vm_cli.specs.session.Session.{FailsInLast, GrowsFirst, Passes, Tries, after_each, answer_text, error_text, larger}
use Rattle.vm_cli.proofs.PassLemmas.{failed_or, grows_any, grows_both, grows_none, never_both, passes_none}

-- the number that was given is the one that is counted
pub counted_blocks : (result : Result ℕ Refusal) (given counted : ℕ) → result ≡ Ok given → result ≡ Ok counted → given ≡ counted
counted_blocks result given counted is was = let same : Ok given ≡ Ok counted = sym is ∙ was in cc

module _ {D : Type 0} {members : _} where
  -- each was carried out by the store that the one before left, and where the device failed in one it was the last
  abbrev pub Chain : Store D members → Store D members → List (Command × Result Answer Refusal) → Type 0
  Chain old new [] = new ≡ old
  Chain old new ((command, answer) ∷ more) = (mid : Store D members) × CarriesOut old mid command answer × (answer ≡ Err Device → more ≡ []) × Chain mid new more

  -- one command
  pub chain_one : (old new : Store D members) (asked command : Command) (answer : Result Answer Refusal) → asked ≡ command → CarriesOut old new command answer → Chain old new ((asked, answer) ∷ [])
  chain_one old new asked command answer is carries = (new, subst (λ d. CarriesOut old new d answer) (sym is) carries, (λ e. refl), refl)

  -- a store that has not failed after commands had not failed in the first of them
  pub chain_sound : (old mid new : Store D members) (command : Command) (answer : Result Answer Refusal) (more : List (Command × Result Answer Refusal))
      → CarriesOut old mid command answer → (answer ≡ Err Device → more ≡ []) → Chain mid new more → has_failed new ≡ false → has_failed mid ≡ false
  chain_sound old mid new command answer more carries last chain sound = either (failed_or (has_failed mid))
    where
      either : (has_failed mid ≡ false) ⊎ (has_failed mid ≡ true) → has_failed mid ≡ false
      either (inl fine) = fine
      either (inr failed) =
          let same : new ≡ mid = subst (λ rest. Chain mid new rest) (last (carries.failed.0 failed)) chain in
          absurd (never_both _ sound (ap (λ (t : Store D members). has_failed t) same ∙ failed))

  -- a disk that is honest after commands was so before them
  pub chain_earlier : (each : List (Command × Result Answer Refusal)) (old new : Store D members) → Chain old new each
      → (members.state (disk_of new)).honest ≡ true → (members.state (disk_of old)).honest ≡ true
  chain_earlier [] old new chain honest = subst (λ (t : Store D members). (members.state (disk_of t)).honest ≡ true) chain honest
  chain_earlier ((command, answer) ∷ more) old new (mid, carries, last, chain) honest = carries.performs.goes.earlier (chain_earlier more mid new chain honest)

  -- a store stands for what they leave
  pub chain_holds : (each : List (Command × Result Answer Refusal)) (old new : Store D members) (s : State) → Chain old new each
      → (members.state (disk_of new)).honest ≡ true → has_failed new ≡ false → Holds old s → Holds new (after_each s each)
  chain_holds [] old new s chain honest sound holds = subst (λ (t : Store D members). Holds t s) (sym chain) holds
  chain_holds ((command, answer) ∷ more) old new s (mid, carries, last, chain) honest sound holds =
      let fine = chain_sound old mid new command answer more carries last chain sound in
      let stands = (carries.performs.carried (chain_earlier more mid new chain honest) s holds).state (λ device. never_both _ fine (carries.failed.1 device)) in
      chain_holds more mid new _ chain honest sound stands

  -- a store that failed in them did so in the last
  pub chain_fails : (each : List (Command × Result Answer Refusal)) (old new : Store D members) → Chain old new each → has_failed old ≡ false → has_failed new ≡ true → FailsInLast old new
  chain_fails [] old new chain sound failed = absurd (never_both _ sound (sym (ap (λ (t : Store D members). has_failed t) chain) ∙ failed))
  chain_fails ((command, answer) ∷ more) old new (mid, carries, last, chain) sound failed = either (failed_or (has_failed mid)) (λ fine. chain_fails more mid new chain fine failed)
    where
      either : (has_failed mid ≡ false) ⊎ (has_failed mid ≡ true) → (has_failed mid ≡ false → FailsInLast mid new) → FailsInLast old new
      either (inl fine) rest =
          let further = rest fine in
          (further.0, further.1, grows_both _ _ _ (grows_any _ _ _ carries.performs.goes) further.2, further.3, further.4)
      either (inr broken) rest =
          let device = carries.failed.0 broken in
          let same : new ≡ mid = subst (λ rest. Chain mid new rest) (last device) chain in
          let fails : CarriesOut old mid command (Err Device) = subst (λ (a : Result Answer Refusal). CarriesOut old mid command a) device carries in
          (old, command, grows_none _, sound, subst (λ (t : Store D members). CarriesOut old t command (Err Device)) (sym same) fails)

  -- a command for which the store grew
  grown_chain : (most : ℕ) (command : Command) (old mid new : Store D members) (asked grow : Command) (answer grown : Result Answer Refusal) (more : List (Command × Result Answer Refusal))
      → GrowsFirst most command old mid asked grow answer grown → (grown ≡ Err Device → more ≡ []) → Chain mid new more → Chain old new ((asked, answer) ∷ ((grow, grown) ∷ more))
  grown_chain most command old mid new asked grow answer grown more first last chain = (
    first.full,
    subst (λ d. CarriesOut old first.full d answer) (sym first.same) first.tried,
    (λ device. let never = sym first.is_full ∙ device in absurd cc),
    (mid, first.carries, last, chain),
  )

  pub tries_chain : (left most : ℕ) (command : Command) (old new : Store D members) (text : List ℕ) (each : List (Command × Result Answer Refusal)) → Tries left most command old new text each → Chain old new each
  tries_chain left most command old new text [] tries = absurd tries
  tries_chain left most command old new text ((asked, answer) ∷ []) tries = chain_one old new asked command answer tries.0 tries.1
  tries_chain zero most command old new text (first ∷ (second ∷ more)) tries = absurd tries
  tries_chain (suc left) most command old new text ((asked, answer) ∷ ((grow, Err refusal) ∷ [])) tries =
      grown_chain most command old new new asked grow answer (Err refusal) [] tries.0 (λ e. refl) refl
  tries_chain (suc left) most command old new text ((asked, answer) ∷ ((grow, Err refusal) ∷ (other ∷ more))) tries = absurd tries
  tries_chain (suc left) most command old new text ((asked, answer) ∷ ((grow, Ok done) ∷ more)) tries =
      grown_chain most command old tries.0 new asked grow answer (Ok done) more tries.1 (λ e. cc) (tries_chain left most command tries.0 new text more tries.2)

  -- a command was answered Full, and a Grow of the store
  pub grows_first : (most : ℕ) (command : Command) (old full new : Store D members) (answer grown : Result Answer Refusal) (blocks size : ℕ) → answer ≡ Err Full → CarriesOut old full command answer → blocks ≡ blocks_of full
      → blocks < most → size ≡ larger most blocks → CarriesOut full new (Grow size) grown → GrowsFirst most command old new command (Grow size) answer grown
  grows_first most command old full new answer grown blocks size is_full tried counted fewer sized carries = record {
    full = full;
    same = refl;
    is_full = is_full;
    tried = tried;
    fewer = subst (λ (b : ℕ). b < most) counted fewer;
    size = ap Grow (sized ∙ ap (larger most) counted);
    carries = carries;
  }

  -- a command whose answer was the last
  pub tries_once : (left most : ℕ) (command : Command) (old new : Store D members) (answer : Result Answer Refusal) (text : List ℕ) → CarriesOut old new command answer → text ≡ answer_text answer
      → (answer ≡ Err Full → (most ≤ blocks_of new) ⊎ (left ≡ 0)) → TriesSome left most command old new text
  tries_once left most command old new answer text carries says full = record { each = (command, answer) ∷ []; tries = (refl, carries, says, full) }

  -- one before which the store grew
  pub tries_again : (left growths most : ℕ) → growths ≡ suc left → (command : Command) (old mid new : Store D members) (grow : Command) (answer : Result Answer Refusal) (done : Answer) (text : List ℕ)
      → GrowsFirst most command old mid command grow answer (Ok done) → TriesSome left most command mid new text → TriesSome growths most command old new text
  tries_again left growths most is command old mid new grow answer done text first further =
      rw is (record { each = (command, answer) ∷ ((grow, Ok done) ∷ further.each); tries = (mid, first, further.tries) })

  -- one for which it could not
  pub tries_no_more : (left growths most : ℕ) → growths ≡ suc left → (command : Command) (old new : Store D members) (grow : Command) (answer : Result Answer Refusal) (refusal : Refusal) (text : List ℕ)
      → GrowsFirst most command old new command grow answer (Err refusal) → text ≡ error_text refusal → TriesSome growths most command old new text
  tries_no_more left growths most is command old new grow answer refusal text first says = rw is (record { each = (command, answer) ∷ ((grow, Err refusal) ∷ []); tries = (first, says) })

  -- a store whose command was answered Full has not failed
  pub full_sound : (old new : Store D members) (command : Command) (answer : Result Answer Refusal) → CarriesOut old new command answer → answer ≡ Err Full → has_failed new ≡ false
  full_sound old new command answer carries full = either (failed_or (has_failed new))
    where
      either : (has_failed new ≡ false) ⊎ (has_failed new ≡ true) → has_failed new ≡ false
      either (inl sound) = sound
      either (inr failed) = let never = sym full ∙ carries.failed.0 failed in absurd cc

  -- nor has one that was made larger
  pub grown_sound : (old new : Store D members) (command : Command) (done : Answer) → CarriesOut old new command (Ok done) → has_failed new ≡ false
  grown_sound old new command done carries = either (failed_or (has_failed new))
    where
      either : (has_failed new ≡ false) ⊎ (has_failed new ≡ true) → has_failed new ≡ false
      either (inl sound) = sound
      either (inr failed) = let never = carries.failed.0 failed in absurd cc

-- commands that followed a query, or nothing
pub record Led {D : Type 0} {members : _} (old new : Store D members) (each : List (Command × Result Answer Refusal)) : Type 0 where
  pub begun : Store D members
  pub asks : Passes old begun None
  pub still : has_failed begun ≡ has_failed old
  pub chain : Chain begun new each

module _ {D : Type 0} {members : _} where
  pub led_at_once : (old new : Store D members) (each : List (Command × Result Answer Refusal)) → Chain old new each → Led old new each
  led_at_once old new each chain = record { begun = old; asks = passes_none old; still = refl; chain = chain }

  -- a disk that is honest after them was so where they began
  pub led_earlier : (old new : Store D members) (each : List (Command × Result Answer Refusal)) (led : Led old new each) → (members.state (disk_of new)).honest ≡ true → (members.state (disk_of led.begun)).honest ≡ true
  led_earlier old new each led honest = chain_earlier each led.begun new led.chain honest

  -- and the store stood for the same there
  pub led_stands : (old new : Store D members) (each : List (Command × Result Answer Refusal)) (led : Led old new each) → (members.state (disk_of new)).honest ≡ true → (s : State) → Holds old s → Holds led.begun s
  led_stands old new each led honest s holds = still_holds old led.begun (led.asks.unchanged refl) (led.asks.reads (led_earlier old new each led honest) refl) s holds

  pub led_fails : (old new : Store D members) (each : List (Command × Result Answer Refusal)) → Led old new each → has_failed old ≡ false → has_failed new ≡ true → FailsInLast old new
  led_fails old new each led sound failed =
      let further = chain_fails each led.begun new led.chain (led.still ∙ sound) failed in
      (further.0, further.1, grows_both _ _ _ led.asks.goes further.2, further.3, further.4)
