-- The roots of versions.
use Rattle.std.specs.Prelude.{ℕ, List, find, Option, Some, None, ok_or, option_map, Result, Err}
use Rattle.vm_types.specs.declared.at.At.{At}
use Rattle.vm_types.specs.declared.at.Of.{Of}
use Rattle.vm_types.specs.declared.at.Of.TheVariants.{Base, Checkpoint, Current}
use Rattle.vm_types.specs.declared.refusal.Refusal.{Refusal}
use Rattle.vm_types.specs.declared.refusal.Refusal.TheVariants.{NoSuchAlternative, NoSuchCheckpoint}
use Rattle.vm_tree.specs.declared.root.Root.{Root}
use Rattle.vm_store.specs.Versions.{is_alternative_of, is_checkpoint_of}
use Rattle.vm_store.specs.declared.version.Version.{Version}

-- the block of the current root of a version that was found, and 0 if none was
abbrev pub current_root : Option Version → ℕ
current_root None = 0
current_root (Some v) = v.current.block

-- the root of a checkpoint of an alternative, which may not be there
abbrev pub saved_root : List Version → List ℕ → List ℕ → Option Version → Result Root Refusal
saved_root vs alt name None = Err NoSuchAlternative
saved_root vs alt name (Some own) = ok_or (option_map (λ v. v.current) (find (is_checkpoint_of alt name) vs)) NoSuchCheckpoint

-- the root of the records of an alternative that are meant
abbrev pub root_meant : List Version → List ℕ → Of → Result Root Refusal
root_meant vs alt Current = ok_or (option_map (λ v. v.current) (find (is_alternative_of alt) vs)) NoSuchAlternative
root_meant vs alt Base = ok_or (option_map (λ v. v.base) (find (is_alternative_of alt) vs)) NoSuchAlternative
root_meant vs alt (Checkpoint name) = saved_root vs alt name (find (is_alternative_of alt) vs)

-- the root of a version, or that there is no such alternative, and else that there is no such checkpoint
abbrev pub root_at : List Version → At → Result Root Refusal
root_at vs at = root_meant vs at.alt at.of
