use Rattle.std.proofs.Common.{ℕ, List, Option, is_some, option_copied, refl, inl, sym, ap, ◌∙◌, arith}
use Rattle.std.proofs.lemmas.Bool.{false≢true}
use Rattle.std.proofs.lemmas.Grind.{common_steps}
use Rattle.vm_disk.specs.Waiting.{bytes_for}
use Rattle.vm_disk.proofs.LaidLemmas.{read_under, untouched, touched_last}
use Rattle.vm_disk.proofs.WrittenLemmas.{known_shown, unknown_waits}
use Rattle.vm_disk.proofs.layers.Layers.read.Goals as goal

pub returns-in-Some-clause-acts : goal.returns-in-Some-clause-acts
returns-in-Some-clause-acts g c =
    let was = c.args.self.now in
    record {
      any = grind (arith, common_steps);
      honest = λ honest. record {
        bytes_are = sym (known_shown (g.D.Disk.state was.inner) was.waiting c.args.n c.in-Some.bytes.now honest was.right (omega (arith, g.met.D.Disk.whole was.inner honest, c.requires)) (sym c.known.ensures ∙ ap option_copied c.in-Some.is));
        same = refl;
        time = record { step = inl refl };
      };
      below = λ honest. untouched _ _;
      limit = refl;
    }

pub returns-in-None-clause-acts : goal.returns-in-None-clause-acts
returns-in-None-clause-acts g c =
    let was = c.args.self.now in
    record {
      any = grind (arith, common_steps);
      honest = λ honest.
          read_under c.read.result (bytes_for was.waiting) (g.D.Disk.state was.inner) (g.D.Disk.state c.read.new.self) c.args.n c.read.new.into _ _ refl refl refl (omega (arith, g.met.D.Disk.whole was.inner (c.read.ensures.any.earlier honest), c.requires))
          (unknown_waits was.waiting c.args.n (sym c.known.ensures ∙ ap option_copied c.in-None.is)) (c.read.ensures.honest honest);
      below = λ honest. touched_last _ _ _ (c.read.ensures.honest honest).time;
      limit = refl;
    }

pub returns-in-None-clause-hit : goal.returns-in-None-clause-hit
returns-in-None-clause-hit g c waiting =
    let none = unknown_waits c.args.self.now.waiting c.args.n (sym c.known.ensures ∙ ap option_copied c.in-None.is) in
    absurd (false≢true (sym (ap (λ (o : Option (List ℕ)). is_some o) none) ∙ waiting))
