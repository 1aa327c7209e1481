use Rattle.std.proofs.Common.{◌∙◌}
use Rattle.vm_disk.specs.Kept.{entries_of}
use Rattle.vm_disk.proofs.KeptRunLemmas.{gone_stays, without_one_more}
use Rattle.vm_disk.proofs.kept.Kept.forget_run.Goals as goal

pub loop-i-preserved : goal.loop-i-preserved
loop-i-preserved c =
    let so_far = c.loop-i.invariant in
    record {
      entries = without_one_more c.args.first c.loop-i.i (entries_of c.args.self.now) (entries_of c.loop-i.self) (entries_of c.forget.new.self) so_far.entries c.forget.ensures.entries;
      gone = gone_stays c.args.first c.loop-i.i (entries_of c.loop-i.self) (entries_of c.forget.new.self) c.forget.ensures.entries so_far.gone c.forget.ensures.gone;
      settings = record { limit = c.forget.ensures.settings.limit ∙ so_far.settings.limit; refusals = c.forget.ensures.settings.refusals ∙ so_far.settings.refusals };
    }
