use Rattle.vm_store.proofs.ShownLemmas.{shown_one}
use Rattle.vm_store.proofs.laws.one_tree_shown.Goals as goal

pub returns : goal.returns
returns c = shown_one
