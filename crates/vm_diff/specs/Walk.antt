-- Walks through trees: what lies ahead of one, and how much that is.
use Rattle.std.specs.Prelude.{◌≡◌, ℕ, zero, suc, ◌+◌, ◌*◌, Bool, List, [], ◌∷◌, ◌++◌, length, map, drop}
use Rattle.vm_disk.specs.Disk.{Contents}
use Rattle.vm_block.specs.declared.sizes.TheConstants.{MAX_CHILDREN, MAX_RECORDS}
use Rattle.vm_block.specs.Leaf.{Record, BeginsWith}
use Rattle.vm_block.specs.declared.node.Child.{Child}
use Rattle.vm_tree.specs.Over.{subtree_over}
use Rattle.vm_tree.specs.Tree.{Sizes, Subtree}
use Rattle.vm_tree.specs.declared.root.Root.{Root}

-- a walk through a tree
pub record Walk : Type 0 where
  -- the records that come next, from a leaf that is open
  pub pending : List Record
  -- the tops of the subtrees that come then
  pub tops : List Root

-- a walk that stands before these tops
abbrev pub walk_of : List Root → Walk
walk_of tops = record { pending = []; tops = tops }

-- the tops of subtrees of this level
abbrev pub tops_of : ℕ → List Child → List Root
tops_of level cs = map (λ c. record { block = c.block; level = level; low = c.low }) cs

-- the walk past its first record
abbrev pub past_record : Walk → Walk
past_record walk = record { pending = drop 1 walk.pending; tops = walk.tops }

-- the walk with these tops in place of its first one
abbrev pub into_tops : List Root → Walk → Walk
into_tops tops walk = record { pending = walk.pending; tops = tops ++ drop 1 walk.tops }

-- more than all that a top of this level is opened into, whatever the blocks hold
unfoldable pub weight : ℕ → ℕ
weight zero = MAX_RECORDS + 1
weight (suc level) = (MAX_CHILDREN + 1) * weight level

abbrev pub weight_of : List Root → ℕ
weight_of [] = 0
weight_of (t ∷ ts) = weight t.level + weight_of ts

-- how much is ahead of a walk at most
abbrev pub size : Walk → ℕ
size walk = length walk.pending + weight_of walk.tops

-- under these tops lie these records, joined, and these are the blocks there that have a record under them whose place passes the test
abbrev pub Under : (ℕ → Bool) → Sizes → Contents → ℕ → List Root → List Record → List ℕ → Type 0
Under test sizes x limit [] rs bs = (rs ≡ []) × (bs ≡ [])
Under test sizes x limit (t ∷ ts) rs bs =
    (first : List Record) × (rest : List Record) × (own : List ℕ) × (others : List ℕ)
    × (tree : Subtree sizes x limit t.level t.block first own) × BeginsWith t.low first × Under test sizes x limit ts rest others
    × (rs ≡ first ++ rest) × (bs ≡ subtree_over test sizes x limit t.level t.block first own tree ++ others)

-- these records are ahead of the walk, and these are the blocks of the subtrees that it has not opened with a record under them whose place
-- passes the test
pub record IsAhead (test : ℕ → Bool) (sizes : Sizes) (x : Contents) (limit : ℕ) (walk : Walk) (rs : List Record) (bs : List ℕ) : Type 0 where
  pub later : List Record
  pub under : Under test sizes x limit walk.tops later bs
  pub records : rs ≡ walk.pending ++ later
