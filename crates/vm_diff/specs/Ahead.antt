-- What comes next in lists, and what two of them share.
use Rattle.std.specs.Prelude.{◌≡◌, ℕ, suc, List, [], ◌∷◌, ◌++◌, Option, Some, None}
use Rattle.vm_types.specs.declared.key.Key.{Key}
use Rattle.vm_block.specs.Leaf.{Record}
use Rattle.vm_block.specs.declared.node.Child.{Child}
use Rattle.vm_tree.specs.declared.root.Root.{Root}
use Rattle.vm_diff.specs.Walk.{tops_of}

-- the key of the first record
abbrev pub first_key : List Record → Option Key
first_key [] = None
first_key (r ∷ rs) = Some r.0

-- the first child
abbrev pub first_child : List Child → Option Child
first_child [] = None
first_child (c ∷ cs) = Some c

-- the first top
abbrev pub first_top : List Root → Option Root
first_top [] = None
first_top (t ∷ ts) = Some t

-- the tops of subtrees of rising levels, from this one on
abbrev pub tops_in : ℕ → List (List Child) → List Root
tops_in level [] = []
tops_in level (cs ∷ css) = tops_of level cs ++ tops_in (suc level) css

-- the same front was passed of two lists
pub record PassedBoth {X : Type 0} (one other one_now other_now : List X) : Type 0 where
  pub front : List X
  pub first : one ≡ front ++ one_now
  pub second : other ≡ front ++ other_now
