-- The head of a block of a tree: its first sixteen bytes.
use Rattle.std.specs.Prelude.{◌≡◌, ℕ, ◌<◌, ◌≤◌, List, ◌++◌, take}
use Rattle.byteorder.specs.Endian.{little_bytes}
use Rattle.vm_block.specs.declared.sizes.TheConstants.{MAX_CHILDREN, MAX_RECORDS}
use Rattle.vm_block.specs.Node.{node_head}
use Rattle.vm_block.specs.declared.head.Head.{Head}

-- a head in its sixteen bytes: four numbers
abbrev pub head_numbers : Head → List ℕ
head_numbers head = little_bytes 4 head.letters ++ (little_bytes 4 head.level ++ (little_bytes 4 head.count ++ little_bytes 4 head.zero))

-- it has the letters of an inner block, and is the head of one
abbrev pub IsHeadOfNode : ℕ → Head → Type 0
IsHeadOfNode letters head = (head.letters ≡ letters) × (0 < head.level) × (head.level ≤ 7) × (0 < head.count) × (head.count ≤ MAX_CHILDREN) × (head.zero ≡ 0)

-- it has the letters of a leaf, and is the head of one
abbrev pub IsHeadOfLeaf : ℕ → Head → Type 0
IsHeadOfLeaf letters head = (head.letters ≡ letters) × (head.level ≡ 0) × (0 < head.count) × (head.count ≤ MAX_RECORDS) × (head.zero ≡ 0)

-- the bytes begin with the head of an inner block of this level, from one to seven, with this many children, from one to 256
pub record IsNodeHead (bytes : List ℕ) (level n : ℕ) : Type 0 where
  pub begins : take 16 bytes ≡ node_head level n
  pub above : 0 < level
  pub low : level ≤ 7
  pub some : 0 < n
  pub few : n ≤ MAX_CHILDREN
