-- The entries of a leaf, as they are read from its bytes, whatever these are.
use Rattle.std.specs.Prelude.{ℕ, zero, suc, ◌+◌, ◌-◌, ◌<◌, ◌≤◌, ◌^◌, List, [], ◌∷◌, drop, min}
use Rattle.byteorder.specs.Endian.{little_number}
use Rattle.vm_types.specs.Bytes.{longest}
use Rattle.vm_types.specs.Places.{KeyFits, place}
use Rattle.vm_block.specs.declared.bounds.Bound.{Bound}
use Rattle.vm_block.specs.Row.{key_of}

-- the entry in the first 12 bytes
abbrev pub bound_of : List ℕ → Bound
bound_of row = record { key = key_of row; end = little_number 2 (drop 10 row) }

-- this many entries, one after the other
abbrev pub bounds_of : ℕ → List ℕ → List Bound
bounds_of zero bytes = []
bounds_of (suc n) bytes = bound_of bytes ∷ bounds_of n (drop 12 bytes)

-- an entry whose numbers have their sizes
abbrev pub BoundFits : Bound → Type 0
BoundFits b = KeyFits b.key × (b.end < 2 ^ 16)

-- an entry may follow: its key is not below a place, and its value begins here and is not too long
abbrev pub IsNext : ℕ → ℕ → Bound → Type 0
IsNext low from b = (low ≤ place b.key) × (from ≤ b.end) × (b.end ≤ from + longest)

-- each entry may follow those before it
abbrev pub IsSound : ℕ → ℕ → List Bound → Type 0
IsSound low from [] = Unit {0}
IsSound low from (b ∷ bs) = IsNext low from b × IsSound (place b.key + 1) b.end bs

-- where the last value ends
abbrev pub last_end : ℕ → List Bound → ℕ
last_end from [] = from
last_end from (b ∷ bs) = last_end b.end bs

-- an entry whose value is moved: it stood after this many bytes of values, and now stands after that many
abbrev pub moved : ℕ → ℕ → Bound → Bound
moved from to b = record { key = b.key; end = min (b.end - from + to) 65535 }
