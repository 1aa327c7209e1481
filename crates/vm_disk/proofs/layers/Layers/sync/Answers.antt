use Rattle.std.proofs.Common.{◌≡◌, true, refl, inr, arith}
use Rattle.std.proofs.lemmas.Grind.{common_steps}
use Rattle.vm_disk.specs.Waiting.{bytes_for}
use Rattle.vm_disk.proofs.LaidLemmas.{synced_under, unsynced}
use Rattle.vm_disk.proofs.layers.Layers.sync.Goals as goal

pub returns-in_err-send_all : goal.returns-in_err-send_all
returns-in_err-send_all g c =
    record {
      any = grind (arith, common_steps);
      honest = λ honest. unsynced c.from_residual.result _ _ c.from_residual.ensures.0 (c.send_all.ensures.sends.honest honest).same refl;
      below = λ honest. record { before_last = g.D.Disk.state c.send_all.new.self.inner; touches = (c.send_all.ensures.sends.honest honest).touches; last = record { step = inr (refl, refl) } };
      limit = c.send_all.ensures.sends.limit;
    }

pub returns : goal.returns
returns g c =
    let state = g.D.Disk.state in
    let sent = λ (honest : (state c.sync.new.self).honest ≡ true). c.send_all.ensures.sends.honest (c.sync.ensures.any.earlier honest) in
    record {
      any = grind (arith, common_steps);
      honest = λ honest. synced_under c.sync.result (bytes_for c.send_all.new.self.waiting) (state c.send_all.new.self.inner) (state c.sync.new.self) _ _ (sent honest).same refl refl c.in_ok-send_all.ensures.none (c.sync.ensures.honest honest);
      below = λ honest. record { before_last = state c.send_all.new.self.inner; touches = (sent honest).touches; last = (c.sync.ensures.honest honest).time };
      limit = c.send_all.ensures.sends.limit;
    }
