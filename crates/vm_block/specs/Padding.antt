-- Bytes with zero bytes after them.
use Rattle.std.specs.Prelude.{◌≡◌, ℕ, ◌-◌, List, ◌++◌, length, take, drop, replicate}

-- this many zero bytes
unfoldable pub zeros : ℕ → List ℕ
zeros n = replicate n 0

-- the bytes, and zero bytes after them, n in all
abbrev pub padded : ℕ → List ℕ → List ℕ
padded n bytes = bytes ++ zeros (n - length bytes)

-- the bytes begin with the head, and are zero from `end` on
abbrev pub IsFramed : List ℕ → List ℕ → ℕ → Type 0
IsFramed bytes head end = (take (length head) bytes ≡ head) × (drop end bytes ≡ zeros (length bytes - end))
