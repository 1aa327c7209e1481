use Rattle.std.proofs.Common.{◌≡◌, ◌≤◌, ◌<◌, ap, sym, arith}
use Rattle.vm_types.specs.State.{State, answer_of}
use Rattle.vm_types.proofs.Growing.{good_size, no_more_is_bad, too_many_is_bad, grow_accepted, grow_refused}
use Rattle.plain_model.proofs.plain.Plain.grow.Goals as goal
use Rattle.plain_model.proofs.plain.Plain.grow.Goals.{then-blocks-self-via-then-blocks-self, then-blocks-self-via-else-blocks-self+then-blocks-gt-MAX_BLOCKS}

pub returns-then-blocks-self-clause-answer : goal.returns-then-blocks-self-clause-answer
returns-then-blocks-self-clause-answer c =
    let own : c.self.inside.blocks ≡ c.args.self.now.blocks = ap (λ (s : State). s.blocks) c.self.view_is in
    elim c.then-blocks-self.branch [
      | then-blocks-self-via-then-blocks-self w ↦
          sym (ap answer_of (grow_refused c.args.self.now c.args.blocks (no_more_is_bad c.args.self.now.blocks c.args.blocks (omega (arith, w.if-blocks-self.true)))))
      | then-blocks-self-via-else-blocks-self+then-blocks-gt-MAX_BLOCKS w ↦
          sym (ap answer_of (grow_refused c.args.self.now c.args.blocks (too_many_is_bad c.args.self.now.blocks c.args.blocks (omega (arith, w.if-blocks-gt-MAX_BLOCKS.true)))))
    ]

pub returns-clause-answer : goal.returns-clause-answer
returns-clause-answer c =
    let own : c.self.inside.blocks ≡ c.args.self.now.blocks = ap (λ (s : State). s.blocks) c.self.view_is in
    let larger : c.args.self.now.blocks < c.args.blocks = omega (arith, c.if-blocks-self.false) in
    let few : c.args.blocks ≤ 67108864 = omega (arith, c.if-blocks-gt-MAX_BLOCKS.false) in
    sym (ap answer_of (grow_accepted c.args.self.now c.args.blocks (good_size c.args.self.now.blocks c.args.blocks larger few)))
