-- What is known of the block at hand, of a copy of its bytes.
use Rattle.std.proofs.Common.{◌≡◌, ℕ, List, subst}
use Rattle.vm_types.specs.declared.key.Key.{Key}
use Rattle.vm_disk.specs.Disk.{Contents}
use Rattle.vm_block.specs.Leaf.{HasRecords, Record}
use Rattle.vm_block.specs.Node.{IsNode}
use Rattle.vm_block.specs.declared.node.Child.{Child}
use Rattle.vm_tree.specs.BlockReads.{IsBlockAt}

-- it is this block
pub hand_block : {x : Contents} {limit b : ℕ} {low : Key} {hand bytes : List ℕ} → hand ≡ bytes → IsBlockAt x limit b low hand → IsBlockAt x limit b low bytes
hand_block {x} {limit} {b} {low} {hand} {bytes} is at = subst (IsBlockAt x limit b low) is at

-- it has these records
pub hand_records : {hand bytes : List ℕ} {rs : List Record} → hand ≡ bytes → HasRecords hand rs → HasRecords bytes rs
hand_records {hand} {bytes} {rs} is leaf = subst (λ b. HasRecords b rs) is leaf

-- it has these children
pub hand_node : {hand bytes : List ℕ} {level : ℕ} {cs : List Child} → hand ≡ bytes → IsNode hand level cs → IsNode bytes level cs
hand_node {hand} {bytes} {level} {cs} is node = subst (λ b. IsNode b level cs) is node
