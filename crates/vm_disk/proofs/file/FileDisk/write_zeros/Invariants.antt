use Rattle.std.proofs.Common.{◌≡◌, ◌-◌, ◌*◌, ◌≤◌, true, length}
use Rattle.vm_disk.specs.File.{AddsZeros, KeepsBehind}
use Rattle.vm_disk.proofs.file.FileDisk.write_zeros.Given as goal

abbrev pub invariant-loop-done : goal.invariant-loop-done
invariant-loop-done g l =
    let state = g.F.Positional.state in record {
      least : l.initial.done ≤ l.done;
      most : l.done ≤ l.blocks;
      fine : (state l.file).failures ≡ (state l.initial.file).failures;
      earlier : (state l.file).honest ≡ true → (state l.initial.file).honest ≡ true;
      added : (state l.file).honest ≡ true → 4096 * l.initial.done ≤ length (state l.initial.file).bytes → AddsZeros l.initial.done l.done (state l.initial.file) (state l.file);
      behind : (state l.file).honest ≡ true → 4096 * l.initial.done ≤ length (state l.initial.file).bytes → KeepsBehind l.blocks (state l.initial.file) (state l.file);
    }

abbrev pub decreases-loop-done : goal.decreases-loop-done
decreases-loop-done g l = l.blocks - l.done
