-- What a query does to a store.
use Rattle.std.specs.Prelude.{◌≡◌, ◌≢◌, true, false, Result, Err}
use Rattle.vm_types.specs.declared.refusal.Refusal.{Refusal}
use Rattle.vm_types.specs.declared.refusal.Refusal.TheVariants.{Device, Failed}
use Rattle.vm_types.specs.State.{State}
use Rattle.vm_store.specs.Store.{FromState, GoesOn, Holds, IsHonest, IsSameButDisk, ReadsAlone, has_failed}
use Rattle.vm_store.specs.declared.store.Store.{Store}

module _ {D : Type 0} {members : _} where
  -- a query with this result, which is due of a state of which `IsDue` holds
  pub record Queries {T : Type 0} (old new : Store D members) (result : Result T Refusal) (IsDue : State → Type 0) : Type 0 where
    -- it is Device only if a device call failed
    pub any : GoesOn (result ≡ Err Device) old new
    -- no query makes a store fail
    pub failed : has_failed new ≡ has_failed old
    -- Failed is the answer of a store that had failed before, which makes no device call, and of no other
    pub refused : has_failed old ≡ true → result ≡ Err Failed
    pub no_calls : has_failed old ≡ true → new ≡ old
    pub only_then : has_failed old ≡ false → result ≢ Err Failed
    -- nothing but the disk is changed, so no block is held, taken or given back
    pub unchanged : IsSameButDisk old new
    -- the answer is due of the state that the store stood for
    pub value : FromState old new IsDue
    -- on an honest disk the store stands for the same, and at each moment the disk held what it held before
    pub state : IsHonest new → (s : State) → Holds old s → Holds new s
    pub reads : IsHonest new → ReadsAlone old new
