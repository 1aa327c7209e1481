-- What the records of a window are of a whole map, and what reading them costs at most.
use Rattle.std.proofs.Common.{◌≡◌, inl, inr, ℕ, zero, suc, ◌≤◌, List, Result, Ok, Err, sym, subst, arith}
use Rattle.vm_types.specs.Map.{Map}
use Rattle.vm_types.specs.Places.{FitKeys, KeyFits}
use Rattle.vm_disk.specs.Disk.{Contents}
use Rattle.vm_block.proofs.EachLemmas.{each_so}
use Rattle.vm_tree.specs.Answers.{Lists}
use Rattle.vm_tree.specs.Root.{IsRooted}
use Rattle.vm_tree.specs.Spent.{tree_aside}
use Rattle.vm_tree.specs.Tree.{Sizes, Subtree}
use Rattle.vm_block.specs.Leaf.{RecordFits}
use Rattle.vm_tree.specs.declared.faults.ListFault.{ListFault}
use Rattle.vm_tree.specs.declared.faults.ListFault.TheVariants as list
use Rattle.vm_tree.specs.declared.faults.TreeFault.TheVariants.{Device, Damaged}
use Rattle.vm_tree.specs.declared.root.Root.{Root}
use Rattle.vm_tree.proofs.Descent.{node_read}
use Rattle.vm_tree.proofs.OverLemmas.{aside_few, aside_none}
use Rattle.vm_tree.proofs.TreeLemmas.{subtree_fit}

-- what follows from an answer follows from it under the same faults
pub lists_map : {T : Type 0} (result : Result T ListFault) (P Q : T → Type 0) → Lists result P → ((y : T) → P y → Q y) → Lists result Q
lists_map (Ok y) P Q is so = so y is
lists_map (Err (list.Tree Device)) P Q is so = tt
lists_map (Err (list.Tree (Damaged b))) P Q is so = is
lists_map (Err list.Memory) P Q is so = tt

module _ (sizes : Sizes) (x : Contents) (limit : ℕ) (root : Root) (m : Map) (bs : List ℕ) where
  pub rooted_fits : IsRooted sizes x limit root m bs → FitKeys m
  rooted_fits (inl bare) = subst FitKeys (sym bare.empty) tt
  rooted_fits (inr top) = each_so RecordFits (λ r. KeyFits r.0) (λ r fits. fits.0) m (subtree_fit sizes x limit root.level root.block m bs top.subtree)

  level_low : (level : ℕ) → Subtree sizes x limit level root.block m bs → level ≤ 7
  level_low zero tree = omega arith
  level_low (suc level) tree = (node_read sizes x limit (suc level) root.block m bs (omega arith) tree).1.node.low

  -- a tree has eight levels at most
  pub few_aside : (low : ℕ) (tree : IsRooted sizes x limit root m bs) → tree_aside low sizes x limit root m bs tree ≤ 8
  few_aside low (inl bare) = omega arith
  few_aside low (inr top) = omega (arith, aside_few low root.level root.low, level_low root.level top.subtree)

  -- none begins below the lowest key
  pub none_aside : (tree : IsRooted sizes x limit root m bs) → tree_aside 0 sizes x limit root m bs tree ≡ 0
  none_aside (inl bare) = omega arith
  none_aside (inr top) = aside_none 0 root.level root.low (omega arith)
