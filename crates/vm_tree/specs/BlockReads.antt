-- Blocks of a tree as they are read.
use Rattle.std.specs.Prelude.{◌≡◌, ℕ, zero, suc, ◌+◌, ◌*◌, ◌<◌, ◌≤◌, true, List, length, take, drop, Result, Err, IfOk}
use Rattle.vm_types.specs.declared.key.Key.{Key}
use Rattle.arrayvec.specs.ArrayVec.{ArrayVec}
use Rattle.vm_disk.specs.Disk.{Contents, DiskState, Goes, block}
use Rattle.vm_disk.specs.Moments.{OnlyReads}
use Rattle.vm_block.specs.declared.sizes.TheConstants.{MAX_CHILDREN}
use Rattle.vm_block.specs.Head.{IsNodeHead}
use Rattle.vm_block.specs.Leaf.{BeginsWith, HasRecords, Record, key_bytes}
use Rattle.vm_block.specs.Node.{IsNode, child_bytes}
use Rattle.vm_block.specs.declared.node.Child.{Child}
use Rattle.vm_tree.specs.declared.root.Root.{Root}
use Rattle.vm_tree.specs.declared.faults.TreeFault.{TreeFault}
use Rattle.vm_tree.specs.declared.faults.TreeFault.TheVariants.{Device}
use Rattle.vm_block.specs.Way.{ChoosesAmong, Lowest, Takes}
use Rattle.vm_block.specs.declared.way.Way.{Way}
use Rattle.vm_tree.specs.Tree.{IsData}
use Rattle.vm_tree.specs.Answers.{OkOrDevice}

-- of these two counts of reads on a disk, the later one is one more for a block for data, and the same for another
pub record ReadsOne (limit b old new : ℕ) : Type 0 where
  pub most : new ≤ old + 1
  pub one : IsData limit b → new ≡ old + 1
  pub none : (IsData limit b → ⊥) → new ≡ old

-- a call that answers that the device failed exactly if `fails` holds only looked at the disk, and read this block once, if it is for data
pub record LooksOnce (limit b : ℕ) (fails : Type 0) (old new : DiskState) : Type 0 where
  pub goes : Goes fails old new
  pub reads : new.honest ≡ true → OnlyReads old new
  pub once : ReadsOne limit b old.reads new.reads

-- a call with this result did
abbrev pub ReadsOnce : {T : Type 0} → Result T TreeFault → ℕ → ℕ → DiskState → DiskState → Type 0
ReadsOnce result limit b old new = LooksOnce limit b (result ≡ Err Device) old new

-- this block is for data, and has these bytes
pub record IsDataAt (x : Contents) (limit b : ℕ) (bytes : List ℕ) : Type 0 where
  pub inside : IsData limit b
  pub bytes_are : bytes ≡ block x b

-- this block is for data, has these bytes, and begins with this key
pub record IsBlockAt (x : Contents) (limit b : ℕ) (low : Key) (bytes : List ℕ) : Type 0 where
  pub inside : IsData limit b
  pub bytes_are : bytes ≡ block x b
  pub first : take 10 (drop 16 bytes) ≡ key_bytes low

-- this block is for data, and is a leaf of these records
pub record IsLeafAt (x : Contents) (limit b : ℕ) (rs : List Record) : Type 0 where
  pub inside : IsData limit b
  pub leaf : HasRecords (block x b) rs

-- this block is for data, and is an inner block of this level with these children
pub record IsNodeAt (x : Contents) (limit level b : ℕ) (cs : List Child) : Type 0 where
  pub inside : IsData limit b
  pub node : IsNode (block x b) level cs

-- these bytes, of this block, are a leaf
pub record IsLeafOf (x : Contents) (b : ℕ) (bytes : List ℕ) : Type 0 where
  pub records : List Record
  pub bytes_are : bytes ≡ block x b
  pub leaf : HasRecords bytes records

-- these bytes are a leaf of this many records
pub record IsLeafSize (bytes : List ℕ) (count : ℕ) : Type 0 where
  pub records : List Record
  pub leaf : HasRecords bytes records
  pub many : count ≡ length records

-- these bytes are an inner block of this level with this many children
pub record IsNodeOf (bytes : List ℕ) (level count : ℕ) : Type 0 where
  pub children : List Child
  pub node : IsNode bytes level children
  pub many : count ≡ length children

-- this block is for data, and is a leaf of records that begin with this key
pub record EndsAt (x : Contents) (limit b : ℕ) (low : Key) : Type 0 where
  pub records : List Record
  pub inside : IsData limit b
  pub leaf : HasRecords (block x b) records
  pub begins : BeginsWith low records

-- this block is for data, has the head of an inner block of this level, begins with this key, and has this child where a
-- descent to place p goes
pub record StepsTo (x : Contents) (limit p level b : ℕ) (low : Key) (child : Child) : Type 0 where
  pub count : ℕ
  pub index : ℕ
  pub inside : IsData limit b
  pub head : IsNodeHead (block x b) level count
  pub first : take 10 (drop 16 (block x b)) ≡ key_bytes low
  pub within : index < count
  pub spelled : take 14 (drop (16 + 14 * index) (block x b)) ≡ child_bytes child
  pub chosen : ChoosesAmong (block x b) 14 count p index

-- from block b, this many levels above the leaves, the descent to place p leads to a leaf: each block on it has the head of
-- its level, and begins with the key that was said of it
unfoldable pub LeadsDown : Contents → ℕ → ℕ → ℕ → ℕ → Key → Type 0
LeadsDown x limit p zero b low = EndsAt x limit b low
LeadsDown x limit p (suc l) b low = (child : Child) × StepsTo x limit p (suc l) b low child × LeadsDown x limit p l child.block child.low

-- from one to this many
abbrev pub IsCount : ℕ → ℕ → Type 0
IsCount most n = (0 < n) × (n ≤ most)

-- a way in an inner block with this many children at most
abbrev pub IsWayAmong : ℕ → Way → Type 0
IsWayAmong most way = (way.index < way.count) × (way.count ≤ most) × (way.count ≤ MAX_CHILDREN)

-- these bytes have the head of an inner block of this level, and this is a way in it
pub record IsWayIn (most level : ℕ) (bytes : List ℕ) (way : Way) : Type 0 where
  pub level_is : way.level ≡ level
  pub low : level ≤ 7
  pub within : IsWayAmong most way
  pub head : IsNodeHead bytes way.level way.count

-- # What a call found, if the disk is honest after it, of the contents before it

-- a value was answered, and P holds of it and of these contents
abbrev pub Finds : {T E : Type 0} → Result T E → DiskState → DiskState → (Contents → T → Type 0) → Type 0
Finds result old new P = new.honest ≡ true → IfOk result (P old.now.contents)

-- the block is for data, and has these bytes
abbrev pub FindsData : {T : Type 0} → Result T TreeFault → DiskState → DiskState → ℕ → ℕ → List ℕ → Type 0
FindsData result old new limit b bytes = Finds result old new (λ x answer. IsDataAt x limit b bytes)

-- this child's block is for data, has these bytes, and begins with its key
abbrev pub FindsBlock : {T : Type 0} → Result T TreeFault → DiskState → DiskState → ℕ → Child → List ℕ → Type 0
FindsBlock result old new limit top bytes = Finds result old new (λ x answer. IsBlockAt x limit top.block top.low bytes)

-- the block is an inner block of this level, and its children are answered
abbrev pub FindsNode : Result (ArrayVec Child) TreeFault → DiskState → DiskState → ℕ → ℕ → ℕ → Type 0
FindsNode result old new limit level b = Finds result old new (λ x children. IsNodeAt x limit level b children.items)

-- this child's block is a leaf, and has these bytes
abbrev pub FindsLeafBytes : {T : Type 0} → Result T TreeFault → DiskState → DiskState → Child → List ℕ → Type 0
FindsLeafBytes result old new top bytes = Finds result old new (λ x answer. IsLeafOf x top.block bytes)

-- this child's block is a leaf that begins with its key
abbrev pub FindsEnd : {T : Type 0} → Result T TreeFault → DiskState → DiskState → ℕ → Child → Type 0
FindsEnd result old new limit top = Finds result old new (λ x answer. EndsAt x limit top.block top.low)

-- this child's block has the head of an inner block of this level, begins with its key, and has the child that is answered
abbrev pub FindsStep : Result Way TreeFault → DiskState → DiskState → ℕ → ℕ → ℕ → Child → Type 0
FindsStep result old new limit p level top = Finds result old new (λ x way. StepsTo x limit p level top.block top.low way.child)

-- this child's block, of this level, leads down if the child that is answered ends a descent
abbrev pub FindsLeaf : Result Child TreeFault → DiskState → DiskState → ℕ → ℕ → ℕ → Child → Type 0
FindsLeaf result old new limit p level top =
    Finds result old new (λ x leaf. EndsAt x limit leaf.block leaf.low → LeadsDown x limit p level top.block top.low)

-- from this child's block, of this level, the descent to place p leads to a leaf
abbrev pub FindsPath : {T E : Type 0} → Result T E → DiskState → DiskState → ℕ → ℕ → ℕ → Child → Type 0
FindsPath result old new limit p level top = Finds result old new (λ x answer. LeadsDown x limit p level top.block top.low)

-- from a root that has a block the descent to place p leads to a leaf
abbrev pub FindsPathFrom : {T E : Type 0} → Root → Result T E → DiskState → DiskState → ℕ → ℕ → Type 0
FindsPathFrom root result old new limit p =
    Finds result old new (λ x answer. 0 < root.block → LeadsDown x limit p root.level root.block root.low)

-- # What a call gives, if the disk is honest after it, unless the device fails

-- the bytes of a block for data
abbrev pub GivesData : {T : Type 0} → Result T TreeFault → DiskState → DiskState → ℕ → ℕ → List ℕ → Type 0
GivesData result old new limit b bytes = new.honest ≡ true → IsData limit b → OkOrDevice result (λ done. bytes ≡ block old.now.contents b)

-- the bytes of a child's block that is a leaf and begins with the child's key
abbrev pub GivesLeafUnder : {T : Type 0} → Result T TreeFault → DiskState → DiskState → ℕ → Child → List ℕ → Type 0
GivesLeafUnder result old new limit top bytes =
    new.honest ≡ true → (rs : List Record) → IsLeafAt old.now.contents limit top.block rs → BeginsWith top.low rs
    → OkOrDevice result (λ done. HasRecords bytes rs)

-- the bytes of a child's block that is an inner block and begins with the child's key
abbrev pub GivesNodeUnder : {T : Type 0} → Result T TreeFault → DiskState → DiskState → ℕ → Child → List ℕ → Type 0
GivesNodeUnder result old new limit top bytes =
    new.honest ≡ true → (level : ℕ) (cs : List Child) → IsNodeAt old.now.contents limit level top.block cs → Lowest top.low cs
    → OkOrDevice result (λ done. IsNode bytes level cs)

-- the bytes of a child's block that is an inner block of this level with this many children at most, and the way to place p in it
abbrev pub GivesWay : Result Way TreeFault → DiskState → DiskState → ℕ → ℕ → Child → ℕ → ℕ → List ℕ → Type 0
GivesWay result old new limit level top most p bytes =
    new.honest ≡ true → (cs : List Child) → IsNodeAt old.now.contents limit level top.block cs → Lowest top.low cs → length cs ≤ most
    → OkOrDevice result (λ way. IsNode bytes level cs × (way.count ≡ length cs) × Takes cs p way.index way.child)

-- the children of an inner block of this level
abbrev pub GivesNode : Result (ArrayVec Child) TreeFault → DiskState → DiskState → ℕ → ℕ → ℕ → Type 0
GivesNode result old new limit level b =
    new.honest ≡ true → (cs : List Child) → IsNodeAt old.now.contents limit level b cs → OkOrDevice result (λ children. children.items ≡ cs)

-- the bytes of a leaf, and how many records it has
abbrev pub ReadsLeaf : Result ℕ TreeFault → DiskState → DiskState → ℕ → ℕ → List ℕ → Type 0
ReadsLeaf result old new limit b bytes =
    new.honest ≡ true → (rs : List Record) → IsLeafAt old.now.contents limit b rs → OkOrDevice result (λ count. HasRecords bytes rs × (count ≡ length rs))

-- the bytes of an inner block of this level, and how many children it has
abbrev pub ReadsNode : Result ℕ TreeFault → DiskState → DiskState → ℕ → ℕ → ℕ → List ℕ → Type 0
ReadsNode result old new limit level b bytes =
    new.honest ≡ true → (cs : List Child) → IsNodeAt old.now.contents limit level b cs
    → OkOrDevice result (λ count. IsNode bytes level cs × (count ≡ length cs))
