-- What an opening for writing does to the selector of a store.
use Rattle.std.specs.Prelude.{◌≡◌, ℕ, ◌*◌, ◌≤◌, true, List, Option, OnOk, Result, length, take}
use Rattle.vm_types.specs.declared.sizes.TheConstants.{BLOCK_SIZE}
use Rattle.vm_block.specs.Header.{IsHeader}
use Rattle.vm_disk.specs.Past.{noted}
use Rattle.vm_disk.specs.System.{IsRewritten, system_state}
use Rattle.vm_disk.specs.declared.system.Call.{Call}
use Rattle.vm_disk.specs.declared.system.SystemFile.{SystemFile}
use Rattle.vm_disk.specs.declared.disk.DeviceFault.{DeviceFault}

-- the last that was done with a file is that the block at this offset was read, and written again as it was read
pub record IsRewrittenLast {W : Type 0} (offset : ℕ) (file : SystemFile W) : Type 0 where
  pub earlier : List Call
  pub last : IsRewritten offset earlier (noted file.calls)

-- if a file is honest after it and holds a header and a block after that, this block was written again as it stood, if there was no fault
abbrev pub RewritesSelector : {T W : Type 0} → (ℕ → List ℕ → Option (List ℕ)) → (ℕ → List ℕ → ℕ → List ℕ) → Result T DeviceFault → SystemFile W → SystemFile W → Type 0
RewritesSelector held torn result old new =
    (system_state held torn new).honest ≡ true
    → OnOk result (2 * BLOCK_SIZE ≤ length (system_state held torn old).bytes → IsHeader (take BLOCK_SIZE (system_state held torn old).bytes) → IsRewrittenLast BLOCK_SIZE new)
