-- Records as a part of a leaf has them, and leaves that are written from such parts.
use Rattle.std.specs.Prelude.{◌≡◌, ℕ, ◌+◌, ◌*◌, ◌<◌, ◌≤◌, Bool, true, false, List, ◌++◌, length}
use Rattle.vm_types.specs.declared.sizes.TheConstants.{BLOCK_SIZE}
use Rattle.vm_block.specs.declared.sizes.TheConstants.{LEAF_ROOM, MAX_RECORDS}
use Rattle.vm_block.specs.declared.parts.Part.{Part}
use Rattle.vm_block.specs.Bounds.{bounds_of}
use Rattle.vm_block.specs.Leaf.{Record}
use Rattle.vm_block.specs.Leaf.{bounds_from, leaf_bytes, size_of, values_of}

-- the part has these records
pub record IsPart (part : Part) (rs : List Record) : Type 0 where
  pub many : length rs ≡ part.count
  pub bounds : bounds_of part.count part.bounds.now ≡ bounds_from part.before rs
  pub values : part.values.now ≡ values_of rs

-- the part has an entry for each of its records
abbrev pub HasBounds : Part → Type 0
HasBounds part = 12 * part.count ≤ length part.bounds.now

-- it does, and has no more than a leaf
abbrev pub PartFits : Part → Type 0
PartFits part = HasBounds part × (part.count ≤ MAX_RECORDS) × (length part.values.now ≤ BLOCK_SIZE)

-- how many bytes of a leaf the part takes
abbrev pub part_size : Part → ℕ
part_size part = 12 * part.count + length part.values.now

-- P holds of the records of three parts, one after the other
abbrev pub IfParts : Part → Part → Part → (List Record → Type 0) → Type 0
IfParts front middle back P = (xs ys zs : List Record) → IsPart front xs → IsPart middle ys → IsPart back zs → P (xs ++ (ys ++ zs))

-- whether these records were written, and the bytes: written if they have room
abbrev pub IsWritten : Bool → List Record → List ℕ → Type 0
IsWritten true all new = (size_of all ≤ LEAF_ROOM) × (new ≡ leaf_bytes all)
IsWritten false all new = LEAF_ROOM < size_of all
