-- What holds of a cache over a disk holds of the disk.
use Rattle.std.proofs.Common.{◌≡◌, List, Result, subst, sym}
use Rattle.vm_types.specs.declared.answer.Answer.{Answer}
use Rattle.vm_types.specs.declared.command.Command.{Command}
use Rattle.vm_types.specs.declared.refusal.Refusal.{Refusal}
use Rattle.vm_types.specs.State.{State}
use Rattle.vm_disk.specs.Cached.{cached_state, inner_of}
use Rattle.vm_disk.specs.declared.cached.CachedDisk.{CachedDisk}
use Rattle.vm_disk.specs.declared.disk.Disk.{Ghosts}
use Rattle.vm_cli.specs.session.Keeps.{Keeps}
use Rattle.vm_cli.specs.program.Openings.{HasRefused}
use Rattle.vm_cli.specs.declared.program.opening.NoStore.{NoStore}

module _ {D : Type 0} (members : Ghosts D) (first last : CachedDisk D members) where
  -- what a session keeps
  pub keeps_below : (s : State) (commands : List Command) (answers : List (Result Answer Refusal))
      → Keeps (cached_state members.state first) (cached_state members.state last) s commands answers
      → Keeps (members.state (inner_of first)) (members.state (inner_of last)) s commands answers
  keeps_below s commands answers kept = record { time = kept.time; within = kept.within; calls = kept.calls; rest = kept.rest; held = kept.held }

  -- why a disk was refused
  pub refused_below : (why : NoStore) → HasRefused (cached_state members.state first) (cached_state members.state last) why
      → HasRefused (members.state (inner_of first)) (members.state (inner_of last)) why
  refused_below why refused = record {
    goes = record { same_blocks = refused.goes.same_blocks; earlier = refused.goes.earlier; rising = refused.goes.rising; fault = refused.goes.fault };
    why = refused.why;
    earlier = refused.earlier;
    moments = λ honest.
        let moments = refused.moments honest in
        record { since = moments.since; goes_on = moments.goes_on; each = moments.each; first = moments.first };
  }

-- the disks below are these
pub refused_there : {D : Type 0} (members : Ghosts D) (old new first last : D) (why : NoStore) → first ≡ old → new ≡ last
    → HasRefused (members.state first) (members.state last) why → HasRefused (members.state old) (members.state new) why
refused_there {D} members old new first last why was is refused =
    subst (λ (d : D). HasRefused (members.state old) (members.state d) why) (sym is)
    (subst (λ (d : D). HasRefused (members.state d) (members.state last) why) was refused)
