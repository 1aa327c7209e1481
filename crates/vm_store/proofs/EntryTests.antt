-- Entries of a slot: which belong to an alternative.
use Rattle.std.specs.Prelude.{ℕ, Bool, ◌&&◌, ◌||◌, not, List, Some}
use Rattle.std.specs.Option.{option_eq}
use Rattle.std.specs.Str.{bytes_eq}
use Rattle.vm_block.specs.Slot.{is_alternative, is_alternative_of}
use Rattle.vm_block.specs.declared.slot.Entry.{Entry}

-- whether the entry is a checkpoint of the alternative
abbrev pub is_checkpoint_under : List ℕ → Entry → Bool
is_checkpoint_under alt e = not (is_alternative e.kind) && option_eq bytes_eq e.owner (Some alt)

-- whether the entry is the checkpoint of this name of the alternative
abbrev pub is_checkpoint_of : List ℕ → List ℕ → Entry → Bool
is_checkpoint_of alt name e = is_checkpoint_under alt e && bytes_eq e.name name

-- whether the entry is an alternative whose parent is this one
abbrev pub is_child_of : List ℕ → Entry → Bool
is_child_of alt e = is_alternative e.kind && option_eq bytes_eq e.owner (Some alt)

-- whether the entry is neither the alternative nor one of its checkpoints
abbrev pub is_apart : List ℕ → Entry → Bool
is_apart alt e = not (is_alternative_of alt e || is_checkpoint_under alt e)
