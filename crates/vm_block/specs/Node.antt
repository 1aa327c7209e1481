-- An inner block of a tree: it holds the numbers of blocks one level below.
use Rattle.std.specs.Prelude.{◌≡◌, ℕ, ◌<◌, ◌≤◌, ◌^◌, List, ◌++◌, length, map, codes}
use Rattle.std.specs.List.{AllByRecursion, flat_map}
use Rattle.byteorder.specs.Endian.{little_bytes}
use Rattle.vm_types.specs.Places.{KeyFits, RisesFrom, place}
use Rattle.vm_types.specs.declared.sizes.TheConstants.{BLOCK_SIZE}
use Rattle.vm_block.specs.declared.sizes.TheConstants.{MAX_CHILDREN}
use Rattle.vm_block.specs.Padding.{padded}
use Rattle.vm_block.specs.Leaf.{key_bytes}
use Rattle.vm_block.specs.declared.node.Child.{Child}

-- a child in its 14 bytes: the lowest key under it, and its block
unfoldable pub child_bytes : Child → List ℕ
child_bytes c = key_bytes c.low ++ little_bytes 4 c.block

-- the letters NODE, the level, how many children, and zero
unfoldable pub node_head : ℕ → ℕ → List ℕ
node_head level count = codes "NODE" ++ (little_bytes 4 level ++ (little_bytes 4 count ++ little_bytes 4 0))

-- the inner block of this level and these children, as it is written
unfoldable pub node_bytes : ℕ → List Child → List ℕ
node_bytes level cs = padded BLOCK_SIZE (node_head level (length cs) ++ flat_map child_bytes cs)

-- a child whose numbers have their sizes
abbrev pub ChildFits : Child → Type 0
ChildFits c = KeyFits c.low × (c.block < 2 ^ 32)

-- where the lowest keys stand
abbrev pub lows : List Child → List ℕ
lows cs = map (λ c. place c.low) cs

-- these bytes are the inner block of this level and these children
pub record IsNode (bytes : List ℕ) (level : ℕ) (cs : List Child) : Type 0 where
  pub spelled : bytes ≡ node_bytes level cs
  pub above : 0 < level
  pub low : level ≤ 7
  pub some : 0 < length cs
  pub few : length cs ≤ MAX_CHILDREN
  pub fit : AllByRecursion ChildFits cs
  pub rising : RisesFrom 0 (lows cs)
