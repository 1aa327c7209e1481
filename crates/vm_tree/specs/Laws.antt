-- Laws of trees, each a sentence about all contents.
use Rattle.std.specs.Prelude.{◌≡◌, ℕ, List}
use Rattle.std.specs.List.{AllByRecursion}
use Rattle.vm_types.specs.Places.{RisesFrom, places}
use Rattle.vm_disk.specs.Disk.{Contents, block}
use Rattle.vm_block.specs.Leaf.{Record, RecordFits}
use Rattle.vm_tree.specs.Tree.{Sizes, IsData, IsTree}

-- under one root lies one map, in one list of blocks
abbrev pub RootsHaveOneMap : Type 0
RootsHaveOneMap =
    (sizes : Sizes) (x : Contents) (limit b : ℕ) (m n : List Record) (bs ds : List ℕ) →
    IsTree sizes x limit b m bs → IsTree sizes x limit b n ds → (m ≡ n) × (bs ≡ ds)

-- all blocks of a tree are for data
abbrev pub TreesStandInData : Type 0
TreesStandInData =
    (sizes : Sizes) (x : Contents) (limit b : ℕ) (m : List Record) (bs : List ℕ) →
    IsTree sizes x limit b m bs → AllByRecursion (IsData limit) bs

-- the keys of a tree rise strictly, and its records are within their limits
abbrev pub TreesRise : Type 0
TreesRise =
    (sizes : Sizes) (x : Contents) (limit b : ℕ) (m : List Record) (bs : List ℕ) →
    IsTree sizes x limit b m bs → RisesFrom 0 (places m) × AllByRecursion RecordFits m

-- contents that agree on the blocks of a tree have the same tree
abbrev pub TreesLieInTheirBlocks : Type 0
TreesLieInTheirBlocks =
    (sizes : Sizes) (x y : Contents) (limit b : ℕ) (m : List Record) (bs : List ℕ) →
    IsTree sizes x limit b m bs → AllByRecursion (λ n. block y n ≡ block x n) bs → IsTree sizes y limit b m bs
