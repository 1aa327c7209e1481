use Rattle.std.proofs.Common.{◌-◌, sym, ◌∙◌, arith}
use Rattle.vm_disk.proofs.WaitingLemmas.{kept_same}
use Rattle.vm_disk.proofs.waiting.Waiting.begin_run.Goals as goal

pub loop-first-preserved : goal.loop-first-preserved
loop-first-preserved c =
    let order = c.loop-first.invariant.order in
    record {
      order = omega (arith, order);
      waits = λ there. kept_same (λ room. room.value) (c.loop-first.first - 1) c.args.self.now.rooms.entries ∙ sym c.contains.ensures ∙ c.if-contains.true;
    }
