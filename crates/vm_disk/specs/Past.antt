-- The values that a `History` has noted.
use Rattle.std.specs.Prelude.{List, [], ◌∷◌, Option, Some, None}
use Rattle.vm_disk.specs.declared.history.Past.{Past, Past', Held-Past-before-1, None', Some'}
use Rattle.vm_disk.specs.declared.history.History.{History}

abbrev mutual
  -- a value and those before it
  pub values : {T : Type 0} → Past T → List T
  values (Past' last shape before) = last.value ∷ values_before before

  -- those before it
  pub values_before : {T : Type 0} → Held-Past-before-1 T → List T
  values_before None' = []
  values_before (Some' past) = values past

-- the values, if there are any
abbrev pub values_of : {T : Type 0} → Option (Past T) → List T
values_of None = []
values_of (Some past) = values past

-- the values that were noted, the newest first
abbrev pub noted : {T : Type 0} → History T → List T
noted h = values_of h.newest.value
