-- Block 0, by which a store is known.
use Rattle.std.specs.Prelude.{◌≡◌, ◌⊎◌, ℕ, List, ◌++◌, codes}
use Rattle.byteorder.specs.Endian.{little_bytes}
use Rattle.vm_types.specs.declared.sizes.TheConstants.{BLOCK_SIZE}
use Rattle.vm_block.specs.declared.header.TheConstants.{FORMAT}
use Rattle.vm_block.specs.Padding.{padded}

-- the letters ALTSTORE, the number of a format, the size of a block, and zero bytes
unfoldable pub header_bytes_of : ℕ → List ℕ
header_bytes_of format = padded BLOCK_SIZE (codes "ALTSTORE" ++ (little_bytes 4 format ++ little_bytes 4 BLOCK_SIZE))

-- the header of a store
abbrev pub header_bytes : List ℕ
header_bytes = header_bytes_of FORMAT

-- these bytes are a header
abbrev pub IsHeader : List ℕ → Type 0
IsHeader bytes = bytes ≡ header_bytes

-- these bytes are the header of a store of an earlier format
abbrev pub IsEarlierHeader : List ℕ → Type 0
IsEarlierHeader bytes = (bytes ≡ header_bytes_of 1) ⊎ (bytes ≡ header_bytes_of 2)
