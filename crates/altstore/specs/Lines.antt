-- What asking a session does.
use Rattle.std.specs.Prelude.{◌≡◌, ℕ, Bool, false, true, List, [], Some, Result, IfErr, OnOk}
use Rattle.vm_types.specs.State.{State}
use Rattle.vm_store.specs.Store.{has_failed, GrowsOn}
use Rattle.vm_cli.specs.session.Known.{streams_of}
use Rattle.vm_cli.specs.session.Session.{Serves, StoreFails}
use Rattle.vm_cli.specs.declared.session.Grouping.TheVariants.{Lines}
use Rattle.vm_cli.specs.declared.session.Manner.{Manner}
use Rattle.vm_cli.specs.declared.session.OnCommand.TheVariants.{CarryOut}
use Rattle.vm_cli.specs.declared.session.OnRefusal.{OnRefusal}
use Rattle.vm_cli.specs.declared.session.OnRefusal.TheVariants.{Ignore, Stop}
use Rattle.vm_cli.specs.declared.session.ServeFault.{ServeFault}
use Rattle.altstore.specs.declared.session.Session.{Session}

-- commands are carried out, and a refused line means this
abbrev pub carrying_out : OnRefusal → Manner
carrying_out on_refusal = record { on_command = CarryOut; on_refusal = on_refusal; grouping = Lines }

-- a session was asked these lines, and ended so
pub record Asks (lines : List ℕ) (on_refusal : OnRefusal) (result : Result Bool ServeFault) (old new : Session) : Type 0 where
  -- The lines are answered one after another, as the program answers them, from each state that the store stood for; and their answers
  -- are all that is kept.
  pub answers : (s : State) → Serves old.store new.store s (carrying_out on_refusal) result (streams_of (Some lines) (Some []) (Some new.answers.items))
  -- The store gets no blocks but by a Grow that is carried out.
  pub goes : GrowsOn ⊥ old.store new.store
  -- It has not failed after a call that ends well. One that ends with Store has met a device call that failed; one that ends with Write may
  -- have, too.
  pub ok : has_failed old.store ≡ false → OnOk result (has_failed new.store ≡ false)
  pub err : has_failed old.store ≡ false → IfErr result (StoreFails old.store new.store)
  -- One that had failed is left as it was.
  pub left : has_failed old.store ≡ true → new.store ≡ old.store

-- what a refused line means
abbrev pub on_refusal : Bool → OnRefusal
on_refusal true = Stop
on_refusal false = Ignore
