use Rattle.std.proofs.Common.{max, ap, ◌∙◌}
use Rattle.vm_block.specs.Split.{with_coming}
use Rattle.vm_block.proofs.SplitLemmas.{larger_is}
use Rattle.vm_block.proofs.split.larger_size.Goals as goal

pub returns : goal.returns
returns c = record {
  only = λ rs r leaf many long total.
      c.max.ensures
      ∙ ap (max c.front_size-front.result) c.saturating_sub.ensures
      ∙ larger_is (with_coming c.args.coming.now r rs) c.args.h c.args.total c.front_size-front.result total (c.front_size-front.ensures.only rs r leaf many long);
}
