-- What stands in the rows of leaves and inner blocks.
use Rattle.std.proofs.Common.{◌≡◌, ℕ, ◌<◌, List, [], ◌++◌, length, take, drop, get_or, sym, ap, ◌∙◌}
use Rattle.std.proofs.lemmas.List.{take-append-drop}
use Rattle.byteorder.specs.Endian.{little_bytes, little_number}
use Rattle.byteorder.specs.Numbers.{little_number-reads_back}
use Rattle.vm_types.specs.declared.key.Key.{Key}
use Rattle.vm_types.specs.Places.{KeyFits}
use Rattle.vm_block.specs.declared.node.Child.{Child}
use Rattle.vm_block.specs.Leaf.{key_bytes}
use Rattle.vm_block.specs.Node.{ChildFits, IsNode, child_bytes}
use Rattle.vm_block.specs.Row.{key_of, child_of, node_row}
use Rattle.vm_block.proofs.RecordLemmas.{key_is}
use Rattle.vm_block.proofs.WayLemmas.{node_piece}

pub key_read : (key : Key) (rest : List ℕ) → KeyFits key → key_of (key_bytes key ++ rest) ≡ key
key_read key rest fits =
    key_is (key_of (key_bytes key ++ rest)) key
    (little_number-reads_back 2 key.table (little_bytes 8 key.number ++ rest) fits.0)
    (little_number-reads_back 8 key.number rest fits.1)

-- a row that begins with a key has it
pub row_key : (row : List ℕ) (key : Key) → KeyFits key → take 10 row ≡ key_bytes key → key_of row ≡ key
row_key row key fits begins =
    ap key_of (sym (take-append-drop 10 row) ∙ ap (λ z. z ++ drop 10 row) begins) ∙ key_read key (drop 10 row) fits

-- and a child in its own
pub row_child : (row : List ℕ) (c : Child) → ChildFits c → row ≡ child_bytes c → child_of row ≡ c
unfolding child_of child_bytes
row_child row c fits is =
    let low : key_of row ≡ c.low = ap key_of is ∙ key_read c.low (little_bytes 4 c.block) fits.0 in
    let block : little_number 4 (drop 10 row) ≡ c.block = ap (λ z. little_number 4 (drop 10 z)) is ∙ little_number-reads_back 4 c.block [] fits.1 in
    λ i. record { low = low i; block = block i }

-- the children of an inner block
pub node_child : (bytes : List ℕ) (level : ℕ) (cs : List Child) (i : ℕ) (d : Child) → IsNode bytes level cs → i < length cs → child_of (node_row bytes i) ≡ get_or cs i d
node_child bytes level cs i d node lt =
    let piece = node_piece bytes level cs i d node lt in
    row_child (node_row bytes i) (get_or cs i d) piece.1 piece.0

-- # Links
