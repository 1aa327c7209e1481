-- What a call did, by what is known of a disk before and after it.
use Rattle.std.specs.Prelude.{◌≡◌, true}
use Rattle.vm_disk.specs.Disk.{DiskState}

-- R holds between what is known before and what is known after
abbrev pub Between : {T S : Type 0} → (T → S) → (S → S → Type 0) → T → T → Type 0
Between state R old new = R (state old) (state new)

-- if the disk is honest after it, R holds between what is known before and what is known after
abbrev pub IfHonest : {T : Type 0} → (T → DiskState) → (DiskState → DiskState → Type 0) → T → T → Type 0
IfHonest state R old new = (state new).honest ≡ true → R (state old) (state new)
