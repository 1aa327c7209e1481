-- Blocks of a tree, told by their bytes.
use Rattle.std.specs.Prelude.{◌≡◌, ℕ, ◌<◌, ◌≤◌, true, List, length, Result}
use Rattle.vm_disk.specs.Disk.{DiskState, block}
use Rattle.vm_block.specs.declared.sizes.TheConstants.{MAX_CHILDREN, MAX_RECORDS}
use Rattle.vm_block.specs.Leaf.{HasRecords, Record}
use Rattle.vm_block.specs.Node.{IsNode}
use Rattle.vm_block.specs.declared.node.Child.{Child}
use Rattle.vm_tree.specs.Answers.{OkOrDevice}
use Rattle.vm_tree.specs.BlockReads.{Finds, IsLeafAt, IsNodeAt}
use Rattle.vm_tree.specs.declared.faults.TreeFault.{TreeFault}
use Rattle.vm_check.specs.declared.form.Form.{Form}
use Rattle.vm_check.specs.declared.form.Form.TheVariants.{Leaf, Node}

-- these bytes are a leaf of this many records, or an inner block of this level with this many children
abbrev pub IsForm : List ℕ → Form → Type 0
IsForm bytes (Leaf count) = (rs : List Record) × HasRecords bytes rs × (length rs ≡ count)
IsForm bytes (Node level count) = (cs : List Child) × IsNode bytes level cs × (length cs ≡ count)

-- it has records, or a level above that of leaves and children, and no more than a block has room for
abbrev pub IsFilled : Form → Type 0
IsFilled (Leaf count) = (0 < count) × (count ≤ MAX_RECORDS)
IsFilled (Node level count) = (0 < level) × (level ≤ 7) × (0 < count) × (count ≤ MAX_CHILDREN)

-- the answer is Ok, unless the device failed
abbrev pub OkUnlessDevice : {T : Type 0} → Result T TreeFault → Type 0
OkUnlessDevice result = OkOrDevice result (λ _. Unit {0})

-- if the disk is honest after the call, the bytes are those of this block
abbrev pub HasRead : {T : Type 0} → Result T TreeFault → DiskState → DiskState → ℕ → List ℕ → Type 0
HasRead result old new b bytes = Finds result old new (λ x answer. bytes ≡ block x b)

-- there a leaf is taken for one
abbrev pub AcceptsLeaf : {T : Type 0} → Result T TreeFault → DiskState → DiskState → ℕ → ℕ → Type 0
AcceptsLeaf result old new limit b =
    new.honest ≡ true → (rs : List Record) → IsLeafAt old.now.contents limit b rs → OkUnlessDevice result

-- an inner block of any level is
abbrev pub AcceptsNode : {T : Type 0} → Result T TreeFault → DiskState → DiskState → ℕ → ℕ → Type 0
AcceptsNode result old new limit b =
    new.honest ≡ true → (level : ℕ) (cs : List Child) → IsNodeAt old.now.contents limit level b cs → OkUnlessDevice result
