-- The blocks that versions reach.
use Rattle.std.specs.Prelude.{◌≡◌, ℕ, List, ◌++◌}
use Rattle.vm_disk.specs.Disk.{Contents}
use Rattle.vm_check.specs.Marks.{IsUnder, Joined}
use Rattle.vm_store.specs.Sizes.{sizes}
use Rattle.vm_store.specs.declared.version.Version.{Version}

-- under both roots of the version lie maps, in these blocks together
abbrev pub IsReached : Contents → ℕ → Version → List ℕ → Type 0
IsReached x limit v bs = (current : List ℕ) × (base : List ℕ) × IsUnder sizes x limit v.current current × IsUnder sizes x limit v.base base × (bs ≡ current ++ base)

-- under the roots of the versions lie maps, in these blocks all together
abbrev pub AreReached : Contents → ℕ → List Version → List ℕ → Type 0
AreReached x limit vs bs = Joined (IsReached x limit) vs bs
