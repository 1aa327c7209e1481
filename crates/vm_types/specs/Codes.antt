-- The numbers and names of the refusals.
use Rattle.std.specs.Prelude.{ℕ, List, codes}
use Rattle.vm_types.specs.declared.refusal.Refusal.{Refusal}
use Rattle.vm_types.specs.declared.refusal.Refusal.TheVariants.{NoSuchAlternative, AlternativeExists, NoSuchCheckpoint, CheckpointExists, NoSuchRecord, IsTop, HasChildren, NotMerged, Unsettled, NotInConflict, SettledTwice, TooMany, Full, Deep, Device, Memory, Failed, Damaged, NotAStore, AlreadyAStore, BadSize}

-- the number of a refusal
abbrev pub code_of : Refusal → ℕ
code_of NoSuchAlternative = 1
code_of AlternativeExists = 2
code_of NoSuchCheckpoint = 3
code_of CheckpointExists = 4
code_of NoSuchRecord = 5
code_of IsTop = 6
code_of HasChildren = 7
code_of NotMerged = 8
code_of (Unsettled count) = 9
code_of (NotInConflict key) = 10
code_of (SettledTwice key) = 11
code_of TooMany = 12
code_of Full = 13
code_of Deep = 14
code_of Device = 15
code_of Memory = 16
code_of Failed = 17
code_of (Damaged block) = 18
code_of NotAStore = 19
code_of AlreadyAStore = 20
code_of BadSize = 21

-- the name of a refusal
abbrev pub name_of : Refusal → List ℕ
name_of NoSuchAlternative = codes "NoSuchAlternative"
name_of AlternativeExists = codes "AlternativeExists"
name_of NoSuchCheckpoint = codes "NoSuchCheckpoint"
name_of CheckpointExists = codes "CheckpointExists"
name_of NoSuchRecord = codes "NoSuchRecord"
name_of IsTop = codes "IsTop"
name_of HasChildren = codes "HasChildren"
name_of NotMerged = codes "NotMerged"
name_of (Unsettled count) = codes "Unsettled"
name_of (NotInConflict key) = codes "NotInConflict"
name_of (SettledTwice key) = codes "SettledTwice"
name_of TooMany = codes "TooMany"
name_of Full = codes "Full"
name_of Deep = codes "Deep"
name_of Device = codes "Device"
name_of Memory = codes "Memory"
name_of Failed = codes "Failed"
name_of (Damaged block) = codes "Damaged"
name_of NotAStore = codes "NotAStore"
name_of AlreadyAStore = codes "AlreadyAStore"
name_of BadSize = codes "BadSize"
