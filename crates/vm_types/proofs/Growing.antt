-- A store that grows: what a Grow comes to, and that no command takes blocks away.
use Rattle.std.proofs.Common.{◌≡◌, ◌≢◌, ℕ, ◌<◌, ◌≤◌, Bool, true, false, Result, Ok, Err, refl, arith}
use Rattle.std.specs.Prelude.{IsOk}
use Rattle.std.proofs.lemmas.Bool.{leb-false, ltb-false, le-leb, le-ltb, lt-leb, lt-ltb, or_parts, or_from, or_left, or_right}
use Rattle.vm_types.specs.declared.answer.Answer.{Answer}
use Rattle.vm_types.specs.declared.command.Command.{Command}
use Rattle.vm_types.specs.declared.command.Command.TheVariants.{Commit, Rollback, Grow}
use Rattle.vm_types.specs.declared.refusal.Refusal.{Refusal}
use Rattle.vm_types.specs.declared.refusal.Refusal.TheVariants.{BadSize}
use Rattle.vm_types.specs.Laws.{HasSizes}
use Rattle.vm_types.specs.State.{State, is_bad_size, outcome, next}
use Rattle.vm_types.specs.Step.{Outcome, refuse_if, done}
use Rattle.vm_types.proofs.Steps.{refuse_if-true, refuse_if-false}

-- a size is not bad where it is more, and no more than a store may have
pub good_size : (blocks more : ℕ) → blocks < more → more ≤ 67108864 → is_bad_size blocks more ≡ false
good_size blocks more larger few = or_from _ _ (lt-leb more blocks larger) (le-ltb 67108864 more few)

-- and bad where it is no more, or more than a store may have
pub no_more_is_bad : (blocks more : ℕ) → more ≤ blocks → is_bad_size blocks more ≡ true
no_more_is_bad blocks more none = or_left _ _ (le-leb more blocks none)

pub too_many_is_bad : (blocks more : ℕ) → 67108864 < more → is_bad_size blocks more ≡ true
too_many_is_bad blocks more many = or_right _ _ (lt-ltb 67108864 more many)

pub size_is_good : (blocks more : ℕ) → is_bad_size blocks more ≡ false → (blocks < more) × (more ≤ 67108864)
size_is_good blocks more good =
    let parts = or_parts _ _ good in
    (leb-false more blocks parts.0, ltb-false 67108864 more parts.1)

pub grow_accepted : (s : State) (more : ℕ) → is_bad_size s.blocks more ≡ false → outcome s (Grow more) ≡ done s.working
grow_accepted s more good = refuse_if-false _ _ _ good

pub grow_refused : (s : State) (more : ℕ) → is_bad_size s.blocks more ≡ true → outcome s (Grow more) ≡ Err BadSize
grow_refused s more bad = refuse_if-true _ _ _ bad

-- what is accepted is not refused by the test
passes : (test : Bool) (r : Refusal) (rest : Outcome) → IsOk (refuse_if test r rest) → test ≡ false
unfolding refuse_if
passes true r rest h = cc
passes false r rest h = refl

-- no command takes blocks away but a Rollback, and it takes none that are committed
pub only_grows : (s : State) (command : Command) (answer : Result Answer Refusal) → HasSizes s → (IsOk answer → IsOk (outcome s command))
    → HasSizes (next s command answer) × (s.kept ≤ (next s command answer).kept) × (command ≢ Rollback → s.blocks ≤ (next s command answer).blocks)
only_grows s command (Err refusal) sizes accepts = (sizes, omega arith, λ _. omega arith)
only_grows s (Grow more) (Ok answer) sizes accepts =
    let larger = size_is_good s.blocks more (passes _ _ _ (accepts refl)) in (
      record { enough = sizes.enough; fewer = omega (arith, sizes.fewer, larger.0); few = larger.1 },
      omega arith,
      λ _. omega (arith, larger.0),
    )
only_grows s Commit (Ok answer) sizes accepts = (
  record { enough = omega (arith, sizes.enough, sizes.fewer); fewer = omega arith; few = sizes.few },
  sizes.fewer,
  λ _. omega arith,
)
only_grows s Rollback (Ok answer) sizes accepts = (
  record { enough = sizes.enough; fewer = omega arith; few = omega (arith, sizes.fewer, sizes.few) },
  omega arith,
  λ other. absurd (other refl),
)
only_grows s command (Ok answer) sizes accepts = (record { enough = sizes.enough; fewer = sizes.fewer; few = sizes.few }, omega arith, λ _. omega arith)
