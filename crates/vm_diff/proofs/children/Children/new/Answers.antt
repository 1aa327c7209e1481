use Rattle.std.proofs.Common.{refl}
use Rattle.vm_diff.proofs.RowLemmas.{children_none}
use Rattle.vm_diff.proofs.children.Children.new.Goals as goal

pub returns : goal.returns
returns c = children_none _ _ _ refl
