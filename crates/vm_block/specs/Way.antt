-- The way down to a key, in the bytes of blocks.
use Rattle.std.specs.Prelude.{◌≡◌, ℕ, ◌+◌, ◌*◌, ◌<◌, ◌≤◌, List, [], ◌∷◌, length, take, drop, Option, IsSomeAnd, slice_index, slice_index_or}
use Rattle.vm_types.specs.declared.key.Key.{Key}
use Rattle.vm_types.specs.Places.{KeyFits, place}
use Rattle.vm_block.specs.declared.sizes.TheConstants.{MAX_CHILDREN}
use Rattle.vm_block.specs.Head.{IsNodeHead}
use Rattle.vm_block.specs.Leaf.{key_bytes}
use Rattle.vm_block.specs.Node.{lows}
use Rattle.vm_block.specs.declared.node.Child.{Child}
use Rattle.vm_block.specs.declared.way.Way.{Way}

-- which child a descent to place p takes: the last whose lowest key is not above it, or else the first
pub record IsChosen (places : List ℕ) (p i : ℕ) : Type 0 where
  pub within : i < length places
  pub reached : 0 < i → slice_index places i ≤ p
  pub last : i + 1 < length places → p < slice_index places (i + 1)

-- after the head of a block stand rows of one size, which begin with the keys of these places
abbrev pub KeysStand : List ℕ → ℕ → List ℕ → Type 0
KeysStand bytes size ps = (i : ℕ) (key : Key) → i < length ps → KeyFits key → take 10 (drop (16 + size * i) bytes) ≡ key_bytes key → slice_index ps i ≡ place key

-- of these children a descent to place p takes this one, at i
pub record Takes (cs : List Child) (p i : ℕ) (c : Child) : Type 0 where
  pub chosen : IsChosen (lows cs) p i
  pub child : slice_index_or cs i c ≡ c

-- this is the lowest key of these children: that of the first
abbrev pub Lowest : Key → List Child → Type 0
Lowest key [] = ⊥
Lowest key (c ∷ cs) = c.low ≡ key

-- a way in an inner block of a level from 1 to 7 and of 256 children at most, to one of these
abbrev pub IsWay : Way → Type 0
IsWay way = (0 < way.level) × (way.level ≤ 7) × (way.index < way.count) × (way.count ≤ MAX_CHILDREN)

-- a way in an inner block of this level with these children, to the one where a descent to place p goes
abbrev pub IsWayTo : ℕ → ℕ → List Child → Way → Type 0
IsWayTo p level cs way = (way.level ≡ level) × (way.count ≡ length cs) × Takes cs p way.index way.child

-- if the bytes begin with the head of an inner block, a way tells the level and the count of it
abbrev pub TellsHead : List ℕ → Option Way → Type 0
TellsHead bytes result = (level n : ℕ) → IsNodeHead bytes level n → IsSomeAnd result (λ way. (way.level ≡ level) × (way.count ≡ n))

-- of this many rows of one size this is the one that a descent to place p takes, whatever their keys are
abbrev pub ChoosesAmong : List ℕ → ℕ → ℕ → ℕ → ℕ → Type 0
ChoosesAmong bytes size count p i = (ps : List ℕ) → length ps ≡ count → KeysStand bytes size ps → IsChosen ps p i
