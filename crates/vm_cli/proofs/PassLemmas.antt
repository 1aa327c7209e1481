-- How a store goes over into another, and what became of its device.
use Rattle.std.proofs.Common.{◌≡◌, ◌⊎◌, inl, inr, List, Bool, true, false, Some, None, Result, refl, ap, sym, subst, ◌∙◌, arith}
use Rattle.vm_types.specs.declared.answer.Answer.{Answer}
use Rattle.vm_types.specs.declared.command.Command.{Command}
use Rattle.vm_types.specs.declared.refusal.Refusal.{Refusal}
use Rattle.vm_disk.specs.Disk.{DiskState, Goes}
use Rattle.vm_disk.specs.Moments.{OnlyReads}
use Rattle.vm_disk.proofs.GoesLemmas.{goes_at, goes_nowhere, goes_then}
use Rattle.vm_disk.proofs.MomentLemmas.{started}
use Rattle.vm_store.specs.Growth.{Grows}
use Rattle.vm_store.specs.Store.{GoesOn, GrowsOn, IsSameButDisk, has_failed, disk_of}
use Rattle.vm_store.specs.declared.store.Store.{Store}
use Rattle.vm_store.proofs.LongerLemmas.{goes_grow}
use Rattle.vm_store.proofs.QueryLemmas.{same_store}
use Rattle.vm_cli.specs.session.Session.{Passes}

-- a store has failed or it hasn't
pub failed_or : (b : Bool) → (b ≡ false) ⊎ (b ≡ true)
failed_or false = inl refl
failed_or true = inr refl

pub never_both : (b : Bool) → b ≡ false → b ≡ true → ⊥
never_both b e f = cc

-- whatever failed
pub goes_any : (fails : Type 0) (old new : DiskState) → Goes fails old new → Goes ⊥ old new
goes_any fails old new goes = goes_at fails ⊥ old new goes (λ no. absurd no)

-- no call
pub goes_none : (now : DiskState) → Goes ⊥ now now
goes_none now = goes_nowhere ⊥ now now refl (λ no. no)

-- further calls
pub goes_both : (old mid new : DiskState) → Goes ⊥ old mid → Goes ⊥ mid new → Goes ⊥ old new
goes_both old mid new first second = goes_then ⊥ ⊥ ⊥ old mid new first second (λ no. no)

-- the same where calls may make the disk longer
pub grows_any : (fails : Type 0) (old new : DiskState) → Grows fails old new → Grows ⊥ old new
grows_any fails old new grows = record { more_blocks = grows.more_blocks; earlier = grows.earlier; rising = grows.rising; fault = λ no. absurd no }

pub grows_none : (now : DiskState) → Grows ⊥ now now
grows_none now = goes_grow ⊥ now now (goes_none now)

pub grows_both : (old mid new : DiskState) → Grows ⊥ old mid → Grows ⊥ mid new → Grows ⊥ old new
grows_both old mid new first second = record {
  more_blocks = omega (arith, first.more_blocks, second.more_blocks);
  earlier = λ honest. first.earlier (second.earlier honest);
  rising = omega (arith, first.rising, second.rising);
  fault = λ no. absurd no;
}

module _ {D : Type 0} {members : _} where
  -- a store passes into itself
  pub passes_none : (store : Store D members) → Passes store store None
  passes_none store = record {
    goes = grows_none (members.state (disk_of store));
    as_long = λ e. refl;
    reads = λ honest e. started (members.state (disk_of store)) (λ m. m ≡ (members.state (disk_of store)).now) refl;
    unchanged = λ e. same_store store;
  }

  -- into one that only read
  pub passes_reads : (old new : Store D members) → GoesOn ⊥ old new → ((members.state (disk_of new)).honest ≡ true → OnlyReads (members.state (disk_of old)) (members.state (disk_of new))) → IsSameButDisk old new → Passes old new None
  passes_reads old new goes reads unchanged = record { goes = goes_grow ⊥ _ _ goes; as_long = λ e. goes.same_blocks; reads = λ honest e. reads honest; unchanged = λ e. unchanged }

  -- into one that carried out commands
  pub passes_command : (old new : Store D members) (each : List (Command × Result Answer Refusal)) → GrowsOn ⊥ old new → Passes old new (Some each)
  passes_command old new each goes = record { goes = goes; as_long = λ e. cc; reads = λ honest e. cc; unchanged = λ e. cc }

  -- no command makes the disk longer
  pub passes_goes : (old new : Store D members) → Passes old new None → GoesOn ⊥ old new
  passes_goes old new passes = record { same_blocks = passes.as_long refl; earlier = passes.goes.earlier; rising = passes.goes.rising; fault = λ no. absurd no }

  -- into one that was left as it was
  pub passes_left : (old new : Store D members) → new ≡ old → Passes old new None
  passes_left old new same = subst (λ (t : Store D members). Passes old t None) (sym same) (passes_none old)

  -- a store that had failed is left as it was, and again
  pub left_again : (old mid new : Store D members) → (has_failed old ≡ true → mid ≡ old) → (has_failed mid ≡ true → new ≡ mid) → has_failed old ≡ true → new ≡ old
  left_again old mid new first second failed =
      let same = first failed in
      second (ap (λ (t : Store D members). has_failed t) same ∙ failed) ∙ same
