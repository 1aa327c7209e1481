-- A block that is read, and what it holds comes next.
use Rattle.std.specs.Prelude.{◌≡◌, ◌≢◌, ℕ, ◌-◌, ◌<◌, ◌≤◌, true, List, [], ◌∷◌, length, drop, Option, Some, None, Result}
use Rattle.vm_types.specs.declared.key.Key.{Key}
use Rattle.vm_types.specs.Places.{place}
use Rattle.vm_disk.specs.Disk.{DiskState}
use Rattle.vm_block.specs.declared.sizes.TheConstants.{MAX_CHILDREN, MAX_RECORDS}
use Rattle.vm_block.specs.Leaf.{Record}
use Rattle.vm_diff.specs.Cuts.{CutsChildren, CutsRecords}
use Rattle.vm_block.specs.declared.node.Child.{Child}
use Rattle.vm_tree.specs.Answers.{OkOrDevice}
use Rattle.vm_tree.specs.BlockReads.{IsLeafAt, IsNodeAt}
use Rattle.vm_tree.specs.declared.root.Root.{Root}
use Rattle.vm_tree.specs.declared.faults.TreeFault.{TreeFault}
use Rattle.vm_diff.specs.Front.{first_of, front_of, next_of}
use Rattle.vm_diff.specs.Front.Front.{Pair}
use Rattle.vm_diff.specs.Walk.{Walk, into_tops, past_record, tops_of, walk_of}
use Rattle.vm_diff.specs.declared.front.Next.TheVariants.{Record as OneRecord}

-- if the disk is honest after the call, these are those of the records of a leaf that lie in the part, unless the device failed
abbrev pub HoldsLeaf : {T : Type 0} → Result T TreeFault → DiskState → DiskState → (limit low high : ℕ) → ℕ → List Record → Type 0
HoldsLeaf result old new limit low high b records =
    new.honest ≡ true → (rs : List Record) → IsLeafAt old.now.contents limit b rs → OkOrDevice result (λ _. CutsRecords low high rs records)

-- these are those of the children of an inner block of this level under which something may lie in the part
abbrev pub HoldsNode : {T : Type 0} → Result T TreeFault → DiskState → DiskState → (limit low high : ℕ) → ℕ → ℕ → List Child → Type 0
HoldsNode result old new limit low high level b children =
    new.honest ≡ true → (cs : List Child) → IsNodeAt old.now.contents limit level b cs → OkOrDevice result (λ _. CutsChildren low high cs children)

-- a walk has of the records of a leaf those of the part in place of the leaf
abbrev pub OpensLeaf : {T : Type 0} → Result T TreeFault → DiskState → DiskState → (limit low high : ℕ) → Root → Walk → Walk → Type 0
OpensLeaf result old new limit low high top walk later =
    new.honest ≡ true → (rs : List Record) → IsLeafAt old.now.contents limit top.block rs
    → OkOrDevice result (λ _. CutsRecords low high rs later.pending × (later.tops ≡ drop 1 walk.tops))

-- it has of the tops under an inner block those that may have records of the part in place of the block
abbrev pub OpensNode : {T : Type 0} → Result T TreeFault → DiskState → DiskState → (limit low high : ℕ) → Root → Walk → Walk → Type 0
OpensNode result old new limit low high top walk later =
    new.honest ≡ true → (cs : List Child) → IsNodeAt old.now.contents limit top.level top.block cs
    → OkOrDevice result (λ _. (kept : List Child) × CutsChildren low high cs kept × (later ≡ into_tops (tops_of (top.level - 1) kept) walk))

-- a walk that has begun stands before this root, or at its end if the root has no block, or begins above a place
pub record Begins (high : ℕ) (root : Root) (walk : Walk) : Type 0 where
  pub empty : root.block ≡ 0 → walk ≡ walk_of []
  pub above : high < place root.low → walk ≡ walk_of []
  pub some : root.block ≢ 0 → place root.low ≤ high → walk ≡ walk_of (root ∷ [])

-- it has no more records in place of a leaf than a leaf has room for
abbrev pub IsIntoRecords : Walk → Walk → Type 0
IsIntoRecords walk later = (length later.pending ≤ MAX_RECORDS) × (later.tops ≡ drop 1 walk.tops)

-- this is the value of the first of these records
abbrev pub IsFirstValue : List ℕ → List Record → Type 0
IsFirstValue bytes records = (key : Key) (value : List ℕ) → first_of records [] ≡ Pair key value → bytes ≡ value

-- it has no more tops in place of one of this level than an inner block has room for
abbrev pub IsIntoTops : ℕ → Walk → Walk → Type 0
IsIntoTops level walk later = (cs : List Child) × (length cs ≤ MAX_CHILDREN) × (later ≡ into_tops (tops_of (level - 1) cs) walk)

-- a record at the place of this key, before which the walk stands, has this value
abbrev pub HasValue : Option (List ℕ) → Key → Walk → Type 0
HasValue value key walk = (low : Key) (bytes : List ℕ) → front_of walk ≡ Pair low bytes → place low ≡ place key → value ≡ Some bytes

-- if it stands before none, there is no value
abbrev pub HasNoValue : Option (List ℕ) → Key → Walk → Type 0
HasNoValue value key walk = ((low : Key) (bytes : List ℕ) → front_of walk ≡ Pair low bytes → place low ≢ place key) → value ≡ None

-- the walk goes past a record at the place of this key, before which it stands
abbrev pub GoesPast : Key → Walk → Walk → Type 0
GoesPast key walk later = (low : Key) (bytes : List ℕ) → front_of walk ≡ Pair low bytes → place low ≡ place key → later ≡ past_record walk

-- if it stands before none, it stays
abbrev pub Stays : Key → Walk → Walk → Type 0
Stays key walk later = ((low : Key) (bytes : List ℕ) → front_of walk ≡ Pair low bytes → place low ≢ place key) → later ≡ walk

-- if the walk stands before a record, this is its value
abbrev pub IsNextValue : List ℕ → Walk → Type 0
IsNextValue bytes walk = (key : Key) (value : List ℕ) → front_of walk ≡ Pair key value → bytes ≡ value

-- the walk stands before a record at the place of this key
abbrev pub StandsAt : Key → Walk → Type 0
StandsAt key walk = (low : Key) × (next_of (front_of walk) ≡ OneRecord low) × (place key ≡ place low)
