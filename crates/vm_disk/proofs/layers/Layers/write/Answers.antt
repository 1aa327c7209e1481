use Rattle.std.proofs.Common.{◌≡◌, true, false, refl, inr, sym, ap, ◌∙◌, arith}
use Rattle.std.proofs.lemmas.Grind.{common_steps}
use Rattle.vm_disk.specs.declared.waiting.Waiting.{Waiting}
use Rattle.vm_disk.specs.Layers.{Sends}
use Rattle.vm_disk.specs.Waiting.{bytes_for, waits}
use Rattle.vm_disk.proofs.LaidLemmas.{put_over, untouched, written_under, fine_write}
use Rattle.vm_disk.proofs.LayersLemmas.{sends_from}
use Rattle.vm_disk.proofs.WrittenLemmas.{same_bytes, same_shown}
use Rattle.vm_disk.proofs.layers.Layers.write.Goals as goal

pub returns-then-put : goal.returns-then-put
returns-then-put g c =
    let was = c.args.self.now in
    let below = g.D.Disk.state was.inner in
    record {
      any = grind (arith, common_steps);
      honest = λ honest. put_over _ (bytes_for was.waiting) (bytes_for c.put.new.self) below.now c.args.n c.args.from.now _ _ refl refl refl c.if-put.ensures.placed (omega (arith, g.met.D.Disk.whole was.inner honest, c.requires));
      below = λ honest. untouched _ _;
      limit = c.if-put.ensures.limit;
    }

pub returns-then-change : goal.returns-then-change
returns-then-change g c =
    let was = c.args.self.now in
    let below = g.D.Disk.state was.inner in
    record {
      any = grind (arith, common_steps);
      honest = λ honest.
          put_over _ (bytes_for c.put.new.self) (bytes_for c.change.new.self) below.now c.args.n c.args.from.now _ _
          (same_shown was.waiting c.put.new.self c.if-put.ensures.refused below.now) refl refl c.if-change.ensures.changed (omega (arith, g.met.D.Disk.whole was.inner honest, c.requires));
      below = λ honest. untouched _ _;
      limit = c.if-change.ensures.limit ∙ c.if-put.ensures.limit;
    }

pub returns-in-Err : goal.returns-in-Err
returns-in-Err g c =
    let state = g.D.Disk.state in
    let mid = c.make_place.new.self in
    let now = c.forget_all_written in
    let sends : (state c.write.new.self).honest ≡ true → Sends state c.args.self.now mid =
    λ honest. sends_from state c.args.self.now mid (c.make_place.ensures.sends.honest (c.write.ensures.any.earlier honest)) refl (ap (λ (w : Waiting). w.rooms) c.if-change.ensures.missed ∙ c.if-put.ensures.refused) in
    record {
      any = grind (arith, common_steps);
      honest = λ honest.
          written_under _ c.write.result (bytes_for mid.waiting) (bytes_for now.new.self) (state mid.inner) (state c.write.new.self) c.args.n c.args.from.now _ _ (sends honest).same refl refl (same_bytes mid.waiting now.new.self now.ensures.rooms)
          (omega (arith, g.met.D.Disk.whole mid.inner (c.write.ensures.any.earlier honest), c.requires, c.make_place.ensures.sends.any.same_blocks)) (c.write.ensures.honest honest) tt;
      below = λ honest. record { before_last = state mid.inner; touches = (sends honest).touches; last = (c.write.ensures.honest honest).time };
      limit = grind (arith, common_steps);
    }

pub returns-then-put-2 : goal.returns-then-put-2
returns-then-put-2 g c =
    let state = g.D.Disk.state in
    let mid = c.make_place.new.self in
    let sends : (state mid.inner).honest ≡ true → Sends state c.args.self.now mid =
    λ honest. sends_from state c.args.self.now mid (c.make_place.ensures.sends.honest honest) refl (ap (λ (w : Waiting). w.rooms) c.if-change.ensures.missed ∙ c.if-put.ensures.refused) in
    record {
      any = grind (arith, common_steps);
      honest = λ honest.
          put_over _ (bytes_for mid.waiting) (bytes_for c.put-2.new.self) (state mid.inner).now c.args.n c.args.from.now _ _
          (sends honest).same refl refl c.if-put-2.ensures.placed (omega (arith, g.met.D.Disk.whole mid.inner honest, c.requires, c.make_place.ensures.sends.any.same_blocks));
      below = λ honest. record { before_last = state mid.inner; touches = (sends honest).touches; last = record { step = inr (refl, refl) } };
      limit = grind (arith, common_steps);
    }

pub returns : goal.returns
returns g c =
    let state = g.D.Disk.state in
    let mid = c.make_place.new.self in
    let now = c.forget_all_written-2 in
    let sends : (state c.write-2.new.self).honest ≡ true → Sends state c.args.self.now mid =
    λ honest. sends_from state c.args.self.now mid (c.make_place.ensures.sends.honest (c.write-2.ensures.any.earlier honest)) refl (ap (λ (w : Waiting). w.rooms) c.if-change.ensures.missed ∙ c.if-put.ensures.refused) in
    let new : waits mid.waiting c.args.n ≡ false = c.make_place.ensures.no_more c.args.n (ap (λ (w : Waiting). waits w c.args.n) c.if-change.ensures.missed ∙ sym c.if-change.ensures.answer) in
    record {
      any = grind (arith, common_steps);
      honest = λ honest.
          let writes = c.write-2.ensures.honest honest in
          written_under c.write-2.result c.write-2.result (bytes_for mid.waiting) (bytes_for now.new.self) (state mid.inner) (state c.write-2.new.self) c.args.n c.args.from.now _ _
          (sends honest).same refl refl (same_bytes mid.waiting now.new.self (now.ensures.rooms ∙ c.if-put-2.ensures.refused))
          (omega (arith, g.met.D.Disk.whole mid.inner (c.write-2.ensures.any.earlier honest), c.requires, c.make_place.ensures.sends.any.same_blocks)) writes
          (fine_write _ _ c.write-2.result new writes.written);
      below = λ honest. record { before_last = state mid.inner; touches = (sends honest).touches; last = (c.write-2.ensures.honest honest).time };
      limit = grind (arith, common_steps);
    }
