-- How keys and refusals are written.
use Rattle.std.specs.Prelude.{ℕ, List, [], ◌++◌, codes, decimal}
use Rattle.vm_types.specs.declared.key.Key.{Key}
use Rattle.vm_types.specs.declared.refusal.Refusal.{Refusal}
use Rattle.vm_types.specs.declared.refusal.Refusal.TheVariants.{Unsettled, NotInConflict, SettledTwice, Damaged}
use Rattle.vm_types.specs.Codes.{code_of, name_of}

-- the table and the number, with a colon between them
abbrev pub key_text : Key → List ℕ
key_text key = decimal key.table ++ codes ":" ++ decimal key.number

-- what a refusal has beside its name: a number of conflicts, a key, or a block
abbrev pub detail_text : Refusal → List ℕ
detail_text (Unsettled count) = codes " " ++ decimal count
detail_text (NotInConflict key) = codes " " ++ key_text key
detail_text (SettledTwice key) = codes " " ++ key_text key
detail_text (Damaged block) = codes " " ++ decimal block
detail_text refusal = []

-- its number, its name, and what it has beside them
abbrev pub refusal_text : Refusal → List ℕ
refusal_text refusal = decimal (code_of refusal) ++ codes " " ++ name_of refusal ++ detail_text refusal
