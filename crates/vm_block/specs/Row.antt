-- What stands in a row of a block's bytes, whatever they are.
use Rattle.std.specs.Prelude.{ℕ, ◌+◌, ◌*◌, List, take, drop}
use Rattle.byteorder.specs.Endian.{little_number}
use Rattle.vm_types.specs.declared.key.Key.{Key}
use Rattle.vm_block.specs.declared.node.Child.{Child}

-- the key in the first 10 bytes of a row
abbrev pub key_of : List ℕ → Key
key_of row = record { table = little_number 2 row; number = little_number 8 (drop 2 row) }

-- the child in a row: its lowest key and its block
unfoldable pub child_of : List ℕ → Child
child_of row = record { low = key_of row; block = little_number 4 (drop 10 row) }

-- and of an inner block
abbrev pub node_row : List ℕ → ℕ → List ℕ
node_row bytes i = take 14 (drop (16 + 14 * i) bytes)
