use Rattle.std.proofs.Common.{◌≤◌, refl, arith}
use Rattle.vm_types.specs.declared.sizes.TheConstants.{MIN_BLOCKS}
use Rattle.altstore.proofs.MakingLemmas.{blank_header, creates_opened, creates_refused, good_size}
use Rattle.altstore.proofs.lifetime.create.Goals as goal

pub returns-in-Ok-format : goal.returns-in-Ok-format
returns-in-Ok-format c =
    let low = c.if-blocks-lt-MIN_BLOCKS.false in let high = c.if-blocks-gt-MAX_BLOCKS.false in
    creates_opened c.args.blocks _ (good_size c.args.blocks (omega arith) (omega arith)) (c.in-Ok-format.ensures.formatted refl).shown _ c.open_session.ensures

pub returns : goal.returns
returns c =
    let low = c.if-blocks-lt-MIN_BLOCKS.false in let high = c.if-blocks-gt-MAX_BLOCKS.false in
    let least : MIN_BLOCKS ≤ c.args.blocks = omega arith in
    creates_refused c.args.blocks c.in-Err.refusal (good_size c.args.blocks least (omega arith)) c.in-Err.ensures.refusals
    (λ size. rw c.in-Ok.ensures.blank.blocks at (c.in-Err.ensures.bad_size.0 size))
    (λ already. blank_header c.args.blocks _ least c.in-Ok.ensures.blank.zero (c.in-Err.ensures.spares.already refl already))
