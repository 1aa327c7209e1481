use Rattle.std.proofs.Common.{refl, inl, arith}
use Rattle.std.proofs.lemmas.Grind.{common_steps}
use Rattle.vm_disk.specs.Waiting.{bytes_for}
use Rattle.vm_disk.proofs.LaidLemmas.{lengthened, touched_last}
use Rattle.vm_disk.proofs.layers.Layers.extend.Goals as goal

pub returns : goal.returns
returns g c =
    record {
      any = grind (arith, common_steps);
      honest = λ honest. record { longer = lengthened (bytes_for c.args.self.now.waiting) _ _ (c.extend.ensures.honest honest).longer; time = record { step = inl refl } };
      below = λ honest. touched_last _ _ _ (c.extend.ensures.honest honest).time;
      limit = refl;
    }
