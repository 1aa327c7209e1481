-- The level of a block, and the highest key of records.
use Rattle.std.specs.Prelude.{ℕ, zero, suc, ◌<◌, List}
use Rattle.std.specs.List.{AllByRecursion}
use Rattle.vm_types.specs.declared.key.Key.{Key}
use Rattle.vm_types.specs.Places.{place}
use Rattle.vm_block.specs.Leaf.{HasRecords, Record}
use Rattle.vm_block.specs.Node.{IsNode}
use Rattle.vm_block.specs.declared.node.Child.{Child}

-- the records have this highest key: they stand below a place exactly if it does
pub record IsHighest (high : Key) (rs : List Record) : Type 0 where
  pub above : (p : ℕ) → place high < p → AllByRecursion (λ r. place r.0 < p) rs
  pub least : (p : ℕ) → AllByRecursion (λ r. place r.0 < p) rs → place high < p

-- the bytes are a leaf, or an inner block of this level
abbrev pub HasLevel : List ℕ → ℕ → Type 0
HasLevel bytes zero = (rs : List Record) × HasRecords bytes rs
HasLevel bytes (suc l) = (cs : List Child) × IsNode bytes (suc l) cs
