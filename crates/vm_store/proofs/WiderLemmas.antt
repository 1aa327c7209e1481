-- A tree that stands within so many blocks stands within more of them, with the same records and blocks.
use Rattle.std.proofs.Common.{inl, inr, ℕ, zero, suc, ◌≤◌, List, [], ◌∷◌, arith}
use Rattle.vm_types.specs.Map.{Map}
use Rattle.vm_disk.specs.Disk.{Contents}
use Rattle.vm_block.specs.Leaf.{Record}
use Rattle.vm_block.specs.declared.node.Child.{Child}
use Rattle.vm_tree.specs.Tree.{IsData, Children, Subtree}
use Rattle.vm_tree.specs.Root.{IsRootedIn, IsRooted}
use Rattle.vm_tree.specs.declared.root.Root.{Root}
use Rattle.vm_store.specs.Filed.{Filed, Standing}
use Rattle.vm_store.specs.Sizes.{sizes}
use Rattle.vm_store.specs.declared.version.Version.{Version}

-- what holds under each child
children_so : (T U : ℕ → List Record → List ℕ → Type 0) → ((b : ℕ) (rs : List Record) (bs : List ℕ) → T b rs bs → U b rs bs)
    → (cs : List Child) (rs : List Record) (bs : List ℕ) → Children T cs rs bs → Children U cs rs bs
children_so T U so [] rs bs t = t
children_so T U so (c ∷ cs) rs bs t =
    (t.0, t.1, t.2, t.3, so c.block t.0 t.2 t.4, t.5, children_so T U so cs t.1 t.3 t.6, t.7, t.8)

-- a block for data
data_wider : (limit more b : ℕ) → limit ≤ more → IsData limit b → IsData more b
data_wider limit more b few place = (place.0, omega (arith, place.1))

-- a subtree
subtree_wider : (x : Contents) (limit more : ℕ) → limit ≤ more
    → (l b : ℕ) (rs : List Record) (bs : List ℕ) → Subtree sizes x limit l b rs bs → Subtree sizes x more l b rs bs
unfolding Subtree
subtree_wider x limit more few zero b rs bs t = (data_wider limit more b few t.0, t.1, t.2)
subtree_wider x limit more few (suc l) b rs bs t = (
  data_wider limit more b few t.0,
  t.1,
  t.2,
  t.3,
  t.4,
  children_so (Subtree sizes x limit l) (Subtree sizes x more l) (subtree_wider x limit more few l) t.1 rs t.2 t.5,
  t.6,
)

-- what lies under a root
pub rooted_wider : (x : Contents) (limit more : ℕ) → limit ≤ more → (root : Root) (m : Map) (bs : List ℕ) → IsRooted sizes x limit root m bs → IsRooted sizes x more root m bs
rooted_wider x limit more few root m bs (inl bare) = inl bare
rooted_wider x limit more few root m bs (inr top) =
    inr (record { level = top.level; subtree = subtree_wider x limit more few root.level root.block m bs top.subtree; rising = top.rising; lowest = top.lowest })

-- a map in blocks of a kind
grown_wider : (P : ℕ → Type 0) (x : Contents) (limit more : ℕ) → limit ≤ more → (root : Root) (m : Map) → IsRootedIn sizes P x limit root m → IsRootedIn sizes P x more root m
grown_wider P x limit more few root m grown = record {
  stands_in = grown.stands_in;
  rooted = rooted_wider x limit more few root m grown.stands_in grown.rooted;
  each = grown.each;
}

-- what versions stand for
pub standing_wider : (P : ℕ → Type 0) (x : Contents) (limit more : ℕ) → limit ≤ more → (vs : List Version) (fs : List Filed) → Standing P x limit vs fs → Standing P x more vs fs
standing_wider P x limit more few [] [] s = tt
standing_wider P x limit more few (v ∷ vs) (f ∷ fs) s = (
  record {
    kind = s.0.kind;
    name = s.0.name;
    owner = s.0.owner;
    current = grown_wider P x limit more few v.current f.current s.0.current;
    base = grown_wider P x limit more few v.base f.base s.0.base;
  },
  standing_wider P x limit more few vs fs s.1,
)
standing_wider P x limit more few [] (f ∷ fs) s = absurd s
standing_wider P x limit more few (v ∷ vs) [] s = absurd s
