-- What a store does to a disk that it may make longer.
use Rattle.std.specs.Prelude.{◌≡◌, ◌<◌, ◌≤◌, true}
use Rattle.vm_disk.specs.Disk.{DiskState}

-- what any number of device calls does, extensions among them, on any disk, where `fails` says that the device failed in one of them
pub record Grows (fails : Type 0) (old new : DiskState) : Type 0 where
  pub more_blocks : old.blocks ≤ new.blocks
  pub earlier : new.honest ≡ true → old.honest ≡ true
  pub rising : old.failures ≤ new.failures
  pub fault : fails → old.failures < new.failures
