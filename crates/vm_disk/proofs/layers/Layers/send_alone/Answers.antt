use Rattle.std.proofs.Common.{option_copied, sym, ap, ◌∙◌, is_some, nat_eq, Option, List, ℕ, arith}
use Rattle.std.proofs.lemmas.Bool.{or_right}
use Rattle.std.proofs.lemmas.Grind.{common_steps}
use Rattle.vm_disk.specs.Waiting.{bytes_for}
use Rattle.vm_disk.specs.Layers.{medium_of}
use Rattle.vm_disk.proofs.LaidLemmas.{sent_same, unsent_same, touched_once}
use Rattle.vm_disk.proofs.WaitingLemmas.{none_left}
use Rattle.vm_disk.proofs.WrittenLemmas.{right_none, right_settled, same_shown}
use Rattle.vm_disk.proofs.layers.Layers.send_alone.Goals as goal

pub returns-in-Err-clause-sends : goal.returns-in-Err-clause-sends
returns-in-Err-clause-sends g c =
    let state = g.D.Disk.state in
    let was = c.args.self.now in
    let waits = sym c.bytes.ensures ∙ ap option_copied c.in-Some.is in
    record {
      any = grind (arith, common_steps);
      honest = λ honest. let writes = c.write.ensures.honest honest in record {
        same = same_shown was.waiting c.forget_all_written.new.self c.forget_all_written.ensures.rooms (state c.write.new.self).now ∙ unsent_same (bytes_for was.waiting) c.args.n c.in-Some.bytes.now c.in-Some.bytes.now c.write.result (state was.inner) (state c.write.new.self) waits writes;
        touches = touched_once c.args.n c.in-Some.bytes.now c.write.result (medium_of state was).dirty (state was.inner) (state c.write.new.self) (or_right _ _ (ap (λ (o : Option (List ℕ)). is_some o) waits)) writes;
      };
      limit = grind (arith, common_steps);
    }

pub returns-in-Ok-clause-sends : goal.returns-in-Ok-clause-sends
returns-in-Ok-clause-sends g c =
    let state = g.D.Disk.state in
    let was = c.args.self.now in
    let waits = sym c.bytes.ensures ∙ ap option_copied c.in-Some.is in
    record {
      any = grind (arith, common_steps);
      honest = λ honest. let writes = c.write.ensures.honest honest in record {
        same = sent_same (bytes_for was.waiting) (bytes_for c.settle.new.self) c.args.n c.in-Some.bytes.now _ c.write.result (state was.inner) (state c.write.new.self) c.in-Ok.is waits c.settle.ensures.stops.gone writes;
        touches = touched_once c.args.n c.in-Some.bytes.now c.write.result (medium_of state was).dirty (state was.inner) (state c.write.new.self) (or_right _ _ (ap (λ (o : Option (List ℕ)). is_some o) waits)) writes;
      };
      limit = c.settle.ensures.stops.limit;
    }

pub returns-in-Ok-clause-no_more : goal.returns-in-Ok-clause-no_more
returns-in-Ok-clause-no_more g c n before =
    ap (λ (o : Option (List ℕ)). is_some o) (c.settle.ensures.stops.gone n) ∙ none_left (nat_eq c.args.n n) (bytes_for c.args.self.now.waiting n) before

pub invariant_of-self-in-Ok-clause-right : goal.invariant_of-self-in-Ok-clause-right
invariant_of-self-in-Ok-clause-right g c =
    let state = g.D.Disk.state in
    let old = c.args.self.now in
    let waits = sym c.bytes.ensures ∙ ap option_copied c.in-Some.is in
    right_settled c.write.result _ (state old.inner) (state c.write.new.self) c.args.n c.in-Some.bytes.now old.waiting c.settle.new.self c.in-Ok.is waits c.settle.ensures.settles
    (old.inside c.args.n (ap (λ (o : Option (List ℕ)). is_some o) waits)) (g.met.D.Disk.whole old.inner) c.write.ensures.any c.write.ensures.honest old.right

pub invariant_of-self-in-Err-clause-right : goal.invariant_of-self-in-Err-clause-right
invariant_of-self-in-Err-clause-right g c = right_none (g.D.Disk.state c.write.new.self) c.forget_all_written.new.self c.forget_all_written.ensures.none
