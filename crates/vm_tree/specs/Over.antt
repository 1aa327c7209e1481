-- Which blocks of a tree have records of a part under them.
use Rattle.std.specs.Prelude.{◌≡◌, ℕ, zero, suc, ◌+◌, ◌≤◌, nat_le, ◌&&◌, Bool, true, List, [], ◌∷◌, ◌++◌, length, is_some, if◌then◌else◌}
use Rattle.std.specs.List.{list_any}
use Rattle.std.proofs.Common.{inl, inr}
use Rattle.vm_types.specs.Map.{Map}
use Rattle.vm_types.specs.Places.{place, value_at}
use Rattle.vm_disk.specs.Disk.{Contents, DiskState}
use Rattle.vm_block.specs.Leaf.{Record}
use Rattle.vm_block.specs.declared.node.Child.{Child}
use Rattle.vm_tree.specs.Tree.{Sizes, Children, Subtree}
use Rattle.vm_tree.specs.Root.{IsRooted}
use Rattle.vm_tree.specs.declared.root.Root.{Root}

-- these blocks, or none
abbrev pub only_if : Bool → List ℕ → List ℕ
only_if test bs = if test then bs else []

-- the top of a subtree, if one of the records under it stands at a place that passes the test
abbrev pub top_over : (ℕ → Bool) → ℕ → List Record → List ℕ
top_over test b rs = only_if (list_any (λ r. test (place r.0)) rs) (b ∷ [])

-- the blocks under children, where `over` tells those under one of them
abbrev pub children_over : (T : ℕ → List Record → List ℕ → Type 0) → ((b : ℕ) (rs : List Record) (bs : List ℕ) → T b rs bs → List ℕ)
    → (cs : List Child) (rs : List Record) (bs : List ℕ) → Children T cs rs bs → List ℕ
children_over T over [] rs bs t = []
children_over T over (c ∷ cs) rs bs t = over c.block t.0 t.2 t.4 ++ children_over T over cs t.1 t.3 t.6

-- the blocks of a subtree that have a record under them at a place that passes the test
unfoldable pub subtree_over : (ℕ → Bool) → (sizes : Sizes) (x : Contents) (limit l b : ℕ) (rs : List Record) (bs : List ℕ) → Subtree sizes x limit l b rs bs → List ℕ
unfolding Subtree
subtree_over test sizes x limit zero b rs bs t = top_over test b rs
subtree_over test sizes x limit (suc l) b rs bs t =
    top_over test b rs ++ children_over (Subtree sizes x limit l) (subtree_over test sizes x limit l) t.1 rs t.2 t.5

-- the same of the tree under a root
abbrev pub tree_over : (ℕ → Bool) → (sizes : Sizes) (x : Contents) (limit : ℕ) (root : Root) (m : Map) (bs : List ℕ) → IsRooted sizes x limit root m bs → List ℕ
tree_over test sizes x limit root m bs (inl bare) = []
tree_over test sizes x limit root m bs (inr top) = subtree_over test sizes x limit root.level root.block m bs top.subtree

-- whether a place is one of the part
abbrev pub is_between : ℕ → ℕ → ℕ → Bool
is_between low high p = nat_le low p && nat_le p high

-- whether one of the records stands at a place
abbrev pub stands_at : Map → ℕ → Bool
stands_at m p = is_some (value_at p m)

-- no more reads were made than there are blocks of the tree with a record under them at a place that passes the test, and 8 more
abbrev pub ReadsOver : DiskState → DiskState → ℕ → Root → (Map → ℕ → Bool) → Type 0
ReadsOver old new limit root test =
    new.honest ≡ true → (sizes : Sizes) (m : Map) (bs : List ℕ) → (tree : IsRooted sizes old.now.contents limit root m bs)
    → new.reads ≤ old.reads + (length (tree_over (test m) sizes old.now.contents limit root m bs tree) + 8)

-- no more reads were made than the tree has blocks
abbrev pub ReadsTree : DiskState → DiskState → ℕ → Root → Type 0
ReadsTree old new limit root =
    new.honest ≡ true → (sizes : Sizes) (m : Map) (bs : List ℕ) → IsRooted sizes old.now.contents limit root m bs → new.reads ≤ old.reads + length bs
