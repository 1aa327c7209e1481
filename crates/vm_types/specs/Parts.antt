-- Parts of a map, and of the difference of two. A part goes from one place to another, both included.
use Rattle.std.specs.Prelude.{ℕ, Bool, ◌&&◌, nat_le, List, filter, take}
use Rattle.vm_types.specs.declared.change.Change.{Change}
use Rattle.vm_types.specs.declared.key.Key.{Key}
use Rattle.vm_types.specs.Map.{Map, delta}
use Rattle.vm_types.specs.Places.{place}

-- whether a key stands in the part
abbrev pub is_within : ℕ → ℕ → Key → Bool
is_within low high key = nat_le low (place key) && nat_le (place key) high

-- the records of the part
abbrev pub part : ℕ → ℕ → Map → Map
part low high m = filter (λ r. is_within low high r.0) m

-- the first records that stand at a place or after it, this many at most
abbrev pub from : ℕ → ℕ → Map → Map
from low count m = take count (filter (λ r. nat_le low (place r.0)) m)

-- the changes of the part
abbrev pub changes_part : ℕ → ℕ → List Change → List Change
changes_part low high changes = filter (λ c. is_within low high c.key) changes

-- where two maps differ in the part, with both values
abbrev pub diff : ℕ → ℕ → Map → Map → List Change
diff low high m n = changes_part low high (delta m n)
