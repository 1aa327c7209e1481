-- What is given of the map under a root, if the disk is honest after the call.
use Rattle.std.specs.Prelude.{◌≡◌, ℕ, List, ◌++◌, length, Bool, Option, is_some, option_copied, Result}
use Rattle.std.specs.Borrow.{Bor}
use Rattle.vm_types.specs.declared.key.Key.{Key}
use Rattle.vm_types.specs.Map.{Map, get}
use Rattle.vm_types.specs.Places.{RisesFrom, place, places, value_at}
use Rattle.vm_disk.specs.Disk.{Contents, DiskState}
use Rattle.vm_block.specs.Leaf.{BeginsWith, HasRecords, Record}
use Rattle.vm_block.specs.declared.node.Child.{Child}
use Rattle.vm_tree.specs.Tree.{Sizes, Subtree}
use Rattle.vm_tree.specs.Answers.{Lists, OkOrDevice}
use Rattle.vm_tree.specs.Root.{IfUnder, IfWhole}
use Rattle.vm_tree.specs.Spent.{OnSubtree}
use Rattle.vm_tree.specs.Windows.{given_of}
use Rattle.vm_tree.specs.declared.root.Root.{Root}
use Rattle.vm_tree.specs.declared.faults.ListFault.{ListFault}
use Rattle.vm_tree.specs.declared.faults.TreeFault.{TreeFault}
use Rattle.vm_tree.specs.declared.window.Window.{Window}

-- the value of the key in the map, which is lent, whatever the sizes of the tree's blocks, unless the device fails
abbrev pub GivesValue : Result (Option (Bor (List ℕ))) TreeFault → DiskState → DiskState → ℕ → Root → Key → Type 0
GivesValue result old new limit root key =
    (sizes : Sizes) → IfWhole old new sizes limit root (λ m bs. OkOrDevice result (λ value. option_copied value ≡ get m key))

-- whether the map has a record of the key, whatever the sizes of the tree's blocks, unless the device fails
abbrev pub TellsRecord : Result Bool TreeFault → DiskState → DiskState → ℕ → Root → Key → Type 0
TellsRecord result old new limit root key =
    (sizes : Sizes) → IfWhole old new sizes limit root (λ m bs. OkOrDevice result (λ found. found ≡ is_some (get m key)))

-- the value of the key in the records of a leaf
abbrev pub GivesValueUnder : Result (Option (Bor (List ℕ))) TreeFault → DiskState → DiskState → ℕ → Child → Key → Type 0
GivesValueUnder result old new limit top key =
    (sizes : Sizes) → IfUnder old new sizes limit 0 top (λ rs bs. OkOrDevice result (λ value. option_copied value ≡ value_at (place key) rs))

-- whether the records of a leaf have one of the key
abbrev pub TellsRecordUnder : Result Bool TreeFault → DiskState → DiskState → ℕ → Child → Key → Type 0
TellsRecordUnder result old new limit top key =
    (sizes : Sizes) → IfUnder old new sizes limit 0 top (λ rs bs. OkOrDevice result (λ found. found ≡ is_some (value_at (place key) rs)))

-- this child is a leaf whose records have this value at place p, or none
pub record IsLeafWith (sizes : Sizes) (x : Contents) (limit p : ℕ) (value : Option (List ℕ)) (leaf : Child) : Type 0 where
  pub records : List Record
  pub blocks : List ℕ
  pub subtree : Subtree sizes x limit 0 leaf.block records blocks
  pub begins : BeginsWith leaf.low records
  pub rises : RisesFrom 0 (places records)
  pub same : value_at p records ≡ value

-- the leaf that has at the key's place what the records under a child have there
abbrev pub GivesLeaf : Result Child TreeFault → DiskState → DiskState → ℕ → ℕ → Child → Key → Type 0
GivesLeaf result old new limit level top key =
    (sizes : Sizes) → IfUnder old new sizes limit level top (λ rs bs. OkOrDevice result (IsLeafWith sizes old.now.contents limit (place key) (value_at (place key) rs)))

-- this part of the map, whatever the sizes of the tree's blocks, unless the device fails or no memory is found
abbrev pub GivesPart : Result Map ListFault → DiskState → DiskState → ℕ → Root → (Map → Map) → Type 0
GivesPart result old new limit root part = (sizes : Sizes) → IfWhole old new sizes limit root (λ m bs. Lists result (λ records. records ≡ part m))

-- the whole map
abbrev pub GivesMap : Result Map ListFault → DiskState → DiskState → ℕ → Root → Type 0
GivesMap result old new limit root = GivesPart result old new limit root (λ m. m)

-- what a window gives of it
abbrev pub GivesWindow : Result Map ListFault → DiskState → DiskState → ℕ → Root → Window → Type 0
GivesWindow result old new limit root w = GivesPart result old new limit root (given_of w 0)

-- what a window gives of the records under a child, after those that were there before
abbrev pub AddsUnder : {T : Type 0} → Result T ListFault → DiskState → DiskState → ℕ → ℕ → Child → Window → Map → Map → Type 0
AddsUnder result old new limit level top w before after =
    OnSubtree old new limit level top (λ sizes x rs bs tree. Lists result (λ _. after ≡ before ++ given_of w (length before) rs))

-- and of the records of a leaf, this many
abbrev pub AddsLeaf : {T : Type 0} → Result T ListFault → List ℕ → ℕ → Window → Map → Map → Type 0
AddsLeaf result bytes count w before after =
    (rs : List Record) → HasRecords bytes rs → count ≡ length rs
    → Lists result (λ _. after ≡ before ++ given_of w (length before) rs)
