use Rattle.vm_types.proofs.SmallerLemmas.{merged_at-turned, merge-turned}
use Rattle.vm_types.proofs.laws.merges_are_symmetric.Goals as goal

pub returns : goal.returns
returns c = λ base parent mine settled all. (merged_at-turned base parent mine settled all, merge-turned base parent mine settled all)
