-- No block has two forms.
use Rattle.std.proofs.Common.{◌≡◌, ℕ, List, get_or, sym, ap, ◌∙◌, refl, arith}
use Rattle.vm_block.specs.declared.node.Child.{Child}
use Rattle.vm_block.specs.Leaf.{HasRecords, Record, leaf_bytes, leaf_head}
use Rattle.vm_block.specs.Node.{IsNode, node_bytes, node_head}

-- the second letters: E and O
leaf_letter : (rs : List Record) → get_or (leaf_bytes rs) 1 0 ≡ 69
unfolding leaf_bytes leaf_head
leaf_letter rs = refl

node_letter : (level : ℕ) (cs : List Child) → get_or (node_bytes level cs) 1 0 ≡ 79
unfolding node_bytes node_head
node_letter level cs = refl

pub leaf_or_node : (bytes : List ℕ) (rs : List Record) (level : ℕ) (cs : List Child) → HasRecords bytes rs → IsNode bytes level cs → ⊥
leaf_or_node bytes rs level cs leaf node =
    let letters : 69 ≡ 79 = sym (leaf_letter rs) ∙ ap (λ z. get_or z 1 0) (sym leaf.spelled ∙ node.spelled) ∙ node_letter level cs in
    omega (arith, letters)
