use Rattle.std.proofs.Common.{◌∙◌, arith}
use Rattle.std.proofs.lemmas.Grind.{common_steps}
use Rattle.vm_disk.proofs.LayersLemmas.{sends_then}
use Rattle.vm_disk.proofs.layers.Layers.send_all.Goals as goal

pub returns-in_err-send-clause-sends : goal.returns-in_err-send-clause-sends
returns-in_err-send-clause-sends g c =
    let so_far = c.loop-n.invariant in
    let sends = c.send.ensures.sends in
    record {
      any = grind (arith, common_steps);
      honest = λ honest. sends_then g.D.Disk.state c.args.self.now c.loop-n.self c.send.new.self (so_far.honest (sends.any.earlier honest)) (sends.honest honest);
      limit = sends.limit ∙ so_far.limit;
    }

pub loop-n-preserved : goal.loop-n-preserved
loop-n-preserved g c =
    let so_far = c.loop-n.invariant in
    let sends = c.in_ok-send.ensures.sends in
    record {
      any = grind (arith, common_steps);
      honest = λ honest. sends_then g.D.Disk.state c.args.self.now c.loop-n.self c.send.new.self (so_far.honest (sends.any.earlier honest)) (sends.honest honest);
      limit = sends.limit ∙ so_far.limit;
    }
