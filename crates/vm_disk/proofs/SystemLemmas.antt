-- What a write that failed leaves in a file of the system.
use Rattle.std.proofs.Common.{◌≡◌, ℕ, Bool, List, ◌∷◌, length, take, Err, sym, ◌∙◌, ap, arith, length-take}
use Rattle.vm_disk.specs.declared.disk.DeviceFault.{DeviceFault}
use Rattle.vm_disk.specs.declared.system.Call.{Call}
use Rattle.vm_disk.specs.declared.system.Call.TheVariants.{Torn}
use Rattle.vm_disk.specs.Positional.{WritesAt}
use Rattle.vm_disk.specs.System.{bytes_after, waiting_after, state_after}

-- it may leave any bytes, at most as many as were to be written
pub torn_there : (reads_alone : Bool) (first : List ℕ) (torn : ℕ → List ℕ) (offset count : ℕ) (bytes : List ℕ) (calls after : List Call) (fault : DeviceFault)
    → length bytes ≡ count
    → after ≡ Torn offset count ∷ calls
    → WritesAt {T = Unit {0}} offset bytes (Err fault) (state_after reads_alone first torn calls) (state_after reads_alone first torn after)
torn_there reads_alone first torn offset count bytes calls after fault size is =
    record {
      written = tt;
      torn = record {
        bytes = take count (torn (length calls));
        few = omega (arith, length-take count (torn (length calls)));
        written = ap (bytes_after first torn) is;
      };
      waiting = ap (waiting_after reads_alone) is ∙ ap (λ k. (offset, k) ∷ waiting_after reads_alone calls) (sym size);
    }
