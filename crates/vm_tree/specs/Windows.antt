-- What a walk is asked for: the records of a part of a map, and of these the first ones.
use Rattle.std.specs.Prelude.{◌≡◌, ◌⊎◌, ℕ, ◌+◌, ◌-◌, ◌<◌, ◌≤◌, ◌&&◌, not, nat_le, Bool, true, false, List, take, length, Option, None, Some, slice_index_or}
use Rattle.vm_types.specs.declared.key.Key.{Key}
use Rattle.vm_types.specs.Map.{Map}
use Rattle.vm_types.specs.Parts.{is_within, part}
use Rattle.vm_types.specs.Places.{place}
use Rattle.vm_block.specs.declared.node.Child.{Child}
use Rattle.vm_tree.specs.declared.window.Window.{Window}

-- this many of the records at most, the first ones
abbrev pub first_ones : Option ℕ → Map → Map
first_ones None m = m
first_ones (Some most) m = take most m

-- as many less
abbrev pub less : Option ℕ → ℕ → Option ℕ
less None n = None
less (Some most) n = Some (most - n)

-- whether this many are all
abbrev pub is_full : Option ℕ → ℕ → Bool
is_full None n = false
is_full (Some most) n = nat_le most n

-- what a window gives of records, after this many that it gave before
abbrev pub given_of : Window → ℕ → Map → Map
given_of w n rs = first_ones (less w.most n) (part (place w.low) (place w.high) rs)

-- whether it gives a record of this key, after this many
abbrev pub gives : Window → Key → ℕ → Bool
gives w key n = not (is_full w.most n) && is_within (place w.low) (place w.high) key

-- it may give a record under the child at i of these, after this many: not all are given, the child's lowest key is not above the part, and
-- the next child's is above the lower end
pub record MayGive (w : Window) (n : ℕ) (cs : List Child) (i : ℕ) : Type 0 where
  pub more : is_full w.most n ≡ false
  pub reached : (d : Child) → place (slice_index_or cs i d).low ≤ place w.high
  pub last : i + 1 < length cs → (d : Child) → place w.low < place (slice_index_or cs (i + 1) d).low

-- it gives none: all are given, or the child's lowest key is above the part, or the next child's is not above the lower end
abbrev pub GivesNone : Window → ℕ → List Child → ℕ → Type 0
GivesNone w n cs i =
    (is_full w.most n ≡ true) ⊎ (((d : Child) → place w.high < place (slice_index_or cs i d).low) ⊎ ((i + 1 < length cs) × ((d : Child) → place (slice_index_or cs (i + 1) d).low ≤ place w.low)))
