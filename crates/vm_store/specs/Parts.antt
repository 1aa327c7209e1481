-- What the queries for a part of a version give.
use Rattle.std.specs.Prelude.{ℕ, List, Result, Ok, Err}
use Rattle.vm_types.specs.declared.at.At.{At}
use Rattle.vm_types.specs.declared.change.Change.{Change}
use Rattle.vm_types.specs.declared.key.Key.{Key}
use Rattle.vm_types.specs.declared.refusal.Refusal.{Refusal}
use Rattle.vm_types.specs.Map.{Map}
use Rattle.vm_types.specs.Parts.{changes_part, from, part}
use Rattle.vm_types.specs.Places.{place}
use Rattle.vm_types.specs.Tree.{Tree}
use Rattle.vm_types.specs.Versions.{delta_at, map_at}

-- some of what is there, or why nothing is
abbrev pub some_of : {T : Type 0} → (T → T) → Result T Refusal → Result T Refusal
some_of choose (Ok x) = Ok (choose x)
some_of choose (Err refusal) = Err refusal

-- the records of a version from one key to another, both included, or why there is no such version
abbrev pub part_at : Tree → At → Key → Key → Result Map Refusal
part_at tree at low high = some_of (part (place low) (place high)) (map_at tree at)

-- the first records of a version at a key and after it, at most this many
abbrev pub from_at : Tree → At → Key → ℕ → Result Map Refusal
from_at tree at low count = some_of (from (place low) count) (map_at tree at)

-- the changes from one version to another at the keys from one to another, both included
abbrev pub diff_at : Tree → At → At → Key → Key → Result (List Change) Refusal
diff_at tree first second low high = some_of (changes_part (place low) (place high)) (delta_at tree first second)
