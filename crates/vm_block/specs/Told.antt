-- What is told of a leaf or an inner block, and of its rows, by their bytes.
use Rattle.std.specs.Prelude.{◌≡◌, ℕ, ◌*◌, List, ◌++◌, length, take}
use Rattle.std.specs.List.{AllByRecursion, flat_map}
use Rattle.vm_types.specs.Places.{RisesFrom}
use Rattle.vm_block.specs.Node.{ChildFits, IsNode, lows, child_bytes}
use Rattle.vm_block.specs.declared.node.Child.{Child}
use Rattle.vm_block.specs.declared.node.Node.{Node}

-- P holds of the level and the children, if the bytes are an inner block
abbrev pub IfNode : List ℕ → (ℕ → List Child → Type 0) → Type 0
IfNode bytes P = (level : ℕ) (cs : List Child) → IsNode bytes level cs → P level cs

-- the block is of this level, and has these children
abbrev pub IsNodeWith : ℕ → List Child → Node → Type 0
IsNodeWith level cs node = (node.level ≡ level) × (node.children.items ≡ cs)

-- the bytes are an inner block of this level with this many children
abbrev pub IsNodeSize : List ℕ → (ℕ × ℕ) → Type 0
IsNodeSize bytes size = (cs : List Child) × IsNode bytes size.0 cs × (length cs ≡ size.1)

-- the bytes begin with this many children, whose lowest keys rise strictly
abbrev pub HaveChildren : List ℕ → ℕ → Type 0
HaveChildren bytes count =
    (cs : List Child) × AllByRecursion ChildFits cs × (length cs ≡ count) × (take (14 * count) bytes ≡ flat_map child_bytes cs) × RisesFrom 0 (lows cs)

-- P holds of the children, if the bytes begin with this many
abbrev pub IfChildren : List ℕ → ℕ → (List Child → Type 0) → Type 0
IfChildren bytes count P =
    (cs : List Child) (rest : List ℕ) → AllByRecursion ChildFits cs → length cs ≡ count → bytes ≡ flat_map child_bytes cs ++ rest → P cs
