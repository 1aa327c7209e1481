-- A line that is being read.
use Rattle.std.specs.Prelude.{◌≡◌, ◌<◌, ◌≤◌, ◌-◌, ◌==◌, ◌&&◌, ℕ, Bool, true, false, List, [], ◌∷◌, length, take, nat_lt, slice_index, if◌then◌else◌}
use Rattle.vm_cli.specs.declared.lines.line.TheConstants.{MAX_BYTES}
use Rattle.vm_cli.specs.lines.Lines.{IsPart}
use Rattle.vm_cli.specs.declared.lines.line.LineKind.{LineKind}
use Rattle.vm_cli.specs.declared.lines.line.LineKind.TheVariants.{Kept, Long, NoMemory}
use Rattle.vm_cli.specs.declared.lines.line.Line.{Line}

-- there are no bytes
abbrev pub is_nil : List ℕ → Bool
is_nil [] = true
is_nil (b ∷ bytes) = false

-- a line's bytes are kept whole, or there are too many, or memory was refused
abbrev pub KindHolds : LineKind → List ℕ → List ℕ → Type 0
KindHolds Kept bytes part = (bytes ≡ part) × (length part ≤ MAX_BYTES)
KindHolds Long bytes part = MAX_BYTES < length part
KindHolds NoMemory bytes part = Unit {0}

-- the bytes of a line so far
pub record HoldsLine (line : Line) (part : List ℕ) : Type 0 where
  pub unbroken : IsPart part
  pub kind : KindHolds line.kind line.bytes.items part
  pub empty : line.is_empty ≡ is_nil part

-- the bytes end with a carriage return (13)
abbrev pub ends_with_return : List ℕ → Bool
ends_with_return bytes = nat_lt 0 (length bytes) && slice_index bytes (length bytes - 1) == 13

-- the bytes without one carriage return at their end
abbrev pub without_return : List ℕ → List ℕ
without_return bytes = if ends_with_return bytes then take (length bytes - 1) bytes else bytes
