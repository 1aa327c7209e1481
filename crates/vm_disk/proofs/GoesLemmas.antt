-- How what any number of device calls does is carried over one call more.
use Rattle.std.proofs.Common.{ℕ, ◌<◌, Result, Ok, Err, IsErr, OnErr, refl, sym, ◌∙◌, subst, arith}
use Rattle.vm_disk.specs.declared.disk.DeviceFault.{DeviceFault}
use Rattle.vm_disk.specs.Disk.{DiskState, Goes, NoCalls}

-- no device call, so none failed
pub goes_nowhere : (fails : Type 0) (old new : DiskState) → NoCalls old new → (fails → ⊥) → Goes fails old new
goes_nowhere fails old new same fine =
    let R : DiskState → Type 0 = λ s. Goes fails old s in subst R (sym same) record {
      same_blocks = refl;
      earlier = λ honest. honest;
      rising = omega arith;
      fault = λ failed. absurd (fine failed);
    }

counted : {T : Type 0} (result : Result T DeviceFault) (old new : ℕ) → OnErr result (old < new) → IsErr result → old < new
counted (Ok x) old new fault failed = cc
counted (Err e) old new fault failed = fault

-- one call of a function more, in which the device failed
pub goes_then : (before more fails : Type 0) (old mid new : DiskState) → Goes before old mid → Goes more mid new → (fails → more) → Goes fails old new
goes_then before more fails old mid new so_far next cause =
    record {
      same_blocks = next.same_blocks ∙ so_far.same_blocks;
      earlier = λ honest. so_far.earlier (next.earlier honest);
      rising = omega (arith, so_far.rising, next.rising);
      fault = λ failed. let rose = next.fault (cause failed) in omega (arith, so_far.rising, rose);
    }

-- the same calls, at which less is a failure
pub goes_at : (fails less : Type 0) (old new : DiskState) → Goes fails old new → (less → fails) → Goes less old new
goes_at fails less old new goes cause =
    record {
      same_blocks = goes.same_blocks;
      earlier = goes.earlier;
      rising = goes.rising;
      fault = λ failed. goes.fault (cause failed);
    }
