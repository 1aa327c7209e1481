-- Which blocks are damaged of the trees under numbers.
use Rattle.std.specs.Prelude.{◌≡◌, ◌≢◌, ◌⊎◌, ℕ, zero, suc, ◌+◌, ◌<◌, ◌≤◌, Bool, List, length, slice_index_or, Contains}
use Rattle.vm_types.specs.declared.key.Key.{Key}
use Rattle.vm_types.specs.Places.{place}
use Rattle.vm_disk.specs.Disk.{Contents, block}
use Rattle.vm_alloc.specs.Marks.{IsMarked}
use Rattle.vm_block.specs.Leaf.{BeginsWith, HasRecords, Record}
use Rattle.vm_block.specs.Node.{IsNode, lows}
use Rattle.vm_block.specs.Way.{Lowest}
use Rattle.vm_block.specs.declared.node.Child.{Child}
use Rattle.vm_tree.specs.Tree.{Sizes, IsData}
use Rattle.vm_check.specs.Keys.{HasLevel, IsHighest}

-- the bytes are a leaf, or an inner block of this level, and begin with this key
abbrev pub StartsWith : List ℕ → ℕ → Key → Type 0
StartsWith bytes zero low = (rs : List Record) × HasRecords bytes rs × BeginsWith low rs
StartsWith bytes (suc l) low = (cs : List Child) × IsNode bytes (suc l) cs × Lowest low cs

-- the highest key known under block b, of this level, where these blocks are damaged: that of its last record, or the one known under its
-- last child; if that is damaged, the one listed for it
unfoldable pub LastKey : Contents → List Bool → ℕ → ℕ → Key → Type 0
LastKey x damaged zero b key = (rs : List Record) × HasRecords (block x b) rs × IsHighest key rs
LastKey x damaged (suc l) b key =
    (cs : List Child) × (i : ℕ) × (c : Child) × IsNode (block x b) (suc l) cs × (i + 1 ≡ length cs) × (slice_index_or cs i c ≡ c)
    × ((IsMarked damaged c.block × (key ≡ c.low)) ⊎ LastKey x damaged l c.block key)

-- this inner block lists this child at i, among these of level l
pub record Entry (x : Contents) (parent l i : ℕ) (cs : List Child) (c : Child) : Type 0 where
  pub above : ℕ
  pub node : IsNode (block x parent) above cs
  pub level : above ≡ l + 1
  pub within : i < length cs
  pub child : slice_index_or cs i c ≡ c

-- block n is one of these, or is listed by an inner block that is, and so on down, this many times
unfoldable pub ReachesIn : Contents → List ℕ → ℕ → ℕ → Type 0
ReachesIn x ns zero n = Contains ns n
ReachesIn x ns (suc d) n = (parent : ℕ) × (l : ℕ) × (i : ℕ) × (cs : List Child) × (c : Child) × ReachesIn x ns d parent × Entry x parent l i cs c × (c.block ≡ n)

-- block n is reached from these
pub record Reaches (x : Contents) (ns : List ℕ) (n : ℕ) : Type 0 where
  pub depth : ℕ
  pub path : ReachesIn x ns depth n

-- # Why block n is damaged, one that is reached from these numbers

-- an inner block that is reached lists it as this child at i, among these of level l
pub record IsListed (x : Contents) (ns : List ℕ) (n l i : ℕ) (cs : List Child) (c : Child) : Type 0 where
  pub parent : ℕ
  pub reached : Reaches x ns parent
  pub entry : Entry x parent l i cs c
  pub names : c.block ≡ n

-- it is no leaf, and no inner block of so many children at most
pub record HasNoForm (fan : ℕ) (x : Contents) (n : ℕ) : Type 0 where
  pub leaf : (rs : List Record) → HasRecords (block x n) rs → ⊥
  pub node : (level : ℕ) (cs : List Child) → IsNode (block x n) level cs → length cs ≤ fan → ⊥

-- it lists a number that is none of a data block
abbrev pub ListsNumber : Contents → ℕ → ℕ → ℕ → Type 0
ListsNumber x limit n number = (l : ℕ) × (i : ℕ) × (cs : List Child) × (c : Child) × Entry x n l i cs c × (c.block ≡ number) × ¬ IsData limit number

-- it has another level than it has where it is listed, or too high a one for the top of a tree
abbrev pub HasWrongLevel : ℕ → Contents → List ℕ → ℕ → Type 0
HasWrongLevel levels x ns n =
    (k : ℕ) × HasLevel (block x n) k
    × ((Contains ns n × (levels ≤ k)) ⊎ ((l : ℕ) × (i : ℕ) × (cs : List Child) × (c : Child) × IsListed x ns n l i cs c × (k ≢ l)))

-- it begins with another key than is listed for it
pub record BeginsWrong (x : Contents) (n l : ℕ) (c : Child) : Type 0 where
  pub low : Key
  pub starts : StartsWith (block x n) l low
  pub other : low ≢ c.low

-- the highest key known under it is not below the one listed for the next child
pub record EndsWrong (x : Contents) (damaged : List Bool) (n l i : ℕ) (cs : List Child) : Type 0 where
  pub high : Key
  pub last : LastKey x damaged l n high
  pub more : i + 1 < length cs
  pub reaches : slice_index_or (lows cs) (i + 1) 0 ≤ place high

-- its keys are not those of where it is listed
abbrev pub HasWrongKeys : Contents → List ℕ → List Bool → ℕ → Type 0
HasWrongKeys x ns damaged n =
    (l : ℕ) × (i : ℕ) × (cs : List Child) × (c : Child) × IsListed x ns n l i cs c × (BeginsWrong x n l c ⊎ EndsWrong x damaged n l i cs)

-- it is a data block, and one of these holds
pub record IsDamaged (sizes : Sizes) (x : Contents) (limit : ℕ) (ns : List ℕ) (damaged : List Bool) (n : ℕ) : Type 0 where
  pub inside : IsData limit n
  pub why : HasNoForm sizes.fan x n ⊎ (((number : ℕ) × ListsNumber x limit n number) ⊎ (HasWrongLevel sizes.levels x ns n ⊎ HasWrongKeys x ns damaged n))

-- # Blocks that are whole

-- the child at i begins with the key that is listed for it, and the highest key known under it is below that of the next one
pub record Fits (x : Contents) (damaged : List Bool) (l i : ℕ) (cs : List Child) (c : Child) : Type 0 where
  pub starts : StartsWith (block x c.block) l c.low
  pub high : Key
  pub last : LastKey x damaged l c.block high
  pub below : i + 1 < length cs → place high < slice_index_or (lows cs) (i + 1) 0

-- it is a data block that was met, and it is damaged, or fits
pub record IsMet (x : Contents) (limit : ℕ) (met damaged : List Bool) (l i : ℕ) (cs : List Child) (c : Child) : Type 0 where
  pub inside : IsData limit c.block
  pub met_is : IsMarked met c.block
  pub fits : IsMarked damaged c.block ⊎ Fits x damaged l i cs c

-- block n is a leaf, or an inner block of this level whose children were met
abbrev pub IsWhole : Sizes → Contents → ℕ → List Bool → List Bool → ℕ → ℕ → Type 0
IsWhole sizes x limit met damaged zero n = (rs : List Record) × HasRecords (block x n) rs
IsWhole sizes x limit met damaged (suc l) n =
    (cs : List Child) × IsNode (block x n) (suc l) cs × (length cs ≤ sizes.fan)
    × ((i : ℕ) (c : Child) → i < length cs → slice_index_or cs i c ≡ c → IsMet x limit met damaged l i cs c)

-- the first number that is told is one of a damaged block, or none of a data block: it is one of these, or a damaged block lists it
abbrev pub IsFirst : Contents → ℕ → List ℕ → List Bool → ℕ → Type 0
IsFirst x limit ns damaged first =
    IsMarked damaged first ⊎ ((¬ IsData limit first × Contains ns first) ⊎ ((n : ℕ) × IsMarked damaged n × ListsNumber x limit n first))

-- these blocks are damaged of the trees under these numbers, and no other that is reached by whole blocks
pub record AreDamaged (sizes : Sizes) (x : Contents) (limit : ℕ) (ns : List ℕ) (first : ℕ) (damaged : List Bool) : Type 0 where
  pub count : length damaged ≡ limit
  pub told : IsFirst x limit ns damaged first
  pub each : (n : ℕ) → IsMarked damaged n → IsDamaged sizes x limit ns damaged n
  -- the blocks that were met: the numbers are among them, and what whole ones among them list
  pub met : List Bool
  pub tops : (n : ℕ) → Contains ns n → IsData limit n → IsMarked met n × (IsMarked damaged n ⊎ ((l : ℕ) × (l < sizes.levels) × HasLevel (block x n) l))
  pub others : (n : ℕ) → IsMarked met n → IsMarked damaged n ⊎ ((l : ℕ) × IsWhole sizes x limit met damaged l n)
