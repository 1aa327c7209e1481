use Rattle.std.proofs.Common.{◌≡◌}
use Rattle.vm_disk.specs.Disk.{block}
use Rattle.vm_tree.proofs.TreeLemmas.{tree_one, tree_data, tree_rises, tree_fit, tree_in}
use Rattle.vm_tree.proofs.laws.one_tree.Goals as goal

pub returns : goal.returns
returns c = record {
  one = tree_one;
  placed = tree_data;
  rising = λ sizes x limit b m bs t. ((tree_rises sizes x limit b m bs t).0, tree_fit sizes x limit b m bs t);
  frame = λ sizes x y limit b m bs t same. tree_in (λ n. block y n ≡ block x n) sizes x y limit (λ n e. e) b m bs t same;
}
