-- What a walk has noted of damaged blocks.
use Rattle.std.specs.Prelude.{◌≡◌, ℕ, true, Some, IsSome, slice_set, unwrap_or}
use Rattle.vm_check.specs.declared.notes.Notes.{Notes}
use Rattle.vm_check.specs.declared.notes.OnDamage.TheVariants.{Stop}

-- something was noted, and the walk stops there
abbrev pub IsOver : Notes → Type 0
IsOver notes = (notes.on_damage ≡ Stop) × IsSome notes.first

-- this number was noted: it is the first, if there was none
pub record NotesNumber (n : ℕ) (old new : Notes) : Type 0 where
  pub on_damage : new.on_damage ≡ old.on_damage
  pub first : new.first ≡ Some (unwrap_or old.first n)
  pub damaged : new.damaged ≡ old.damaged

-- block b was noted, for number n
pub record NotesListing (b n : ℕ) (old new : Notes) : Type 0 where
  pub on_damage : new.on_damage ≡ old.on_damage
  pub first : new.first ≡ Some (unwrap_or old.first n)
  pub damaged : new.damaged ≡ slice_set old.damaged b true

-- block b was noted
abbrev pub NotesBlock : ℕ → Notes → Notes → Type 0
NotesBlock b old new = NotesListing b b old new
