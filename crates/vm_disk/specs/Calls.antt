-- The calls of a disk that may change it, and those of a file.
use Rattle.std.specs.Prelude.{ℕ, List, Result}
use Rattle.vm_disk.specs.declared.disk.DeviceFault.{DeviceFault}
use Rattle.vm_disk.specs.declared.disk.Need.{Need}

-- what the device says of a call
abbrev DeviceResult : Type 0
DeviceResult = Result (Unit {0}) DeviceFault

-- a call of a disk, with what it was given and what it gave back
pub data DiskCall : Type 0 where
  -- block n was read, as these bytes
  Read : ℕ → List ℕ → DeviceResult → DiskCall
  -- block n was loaded, with this need
  Load : ℕ → Need → DeviceResult → DiskCall
  -- these bytes were written to block n
  Write : ℕ → List ℕ → DeviceResult → DiskCall
  -- these blocks were written in a row, from block n on
  WriteRun : ℕ → List (List ℕ) → DeviceResult → DiskCall
  Sync : DeviceResult → DiskCall
  -- the disk was lengthened to this many blocks
  Extend : ℕ → DeviceResult → DiskCall

-- a call of a file, with what it was given and what it gave back
pub data FileCall : Type 0 where
  Measure : Result ℕ DeviceFault → FileCall
  -- these bytes were read, from an offset on
  ReadAt : ℕ → List ℕ → DeviceResult → FileCall
  -- these bytes were written, from an offset on: those of a block, those of blocks one after another, or zeros
  WriteAt : ℕ → List ℕ → DeviceResult → FileCall
  SyncFile : DeviceResult → FileCall
