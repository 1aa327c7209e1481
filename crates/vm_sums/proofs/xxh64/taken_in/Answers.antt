use Rattle.std.proofs.Common.{◌*◌, ap, ◌∙◌, sym}
use Rattle.vm_sums.specs.Hash.{after_stripe, lanes_after}
use Rattle.vm_sums.proofs.HashLemmas.{one_stripe_more}
use Rattle.vm_sums.proofs.xxh64.taken_in.Goals as goal

pub loop-stripe-init : goal.loop-stripe-init
unfolding lanes_after
loop-stripe-init c = c.new-lanes.ensures

pub loop-stripe-preserved : goal.loop-stripe-preserved
loop-stripe-preserved c =
    c.take-lanes.ensures ∙ ap (after_stripe c.args.bytes.now (32 * c.loop-stripe.stripe)) c.loop-stripe.invariant ∙ sym (one_stripe_more c.args.bytes.now c.loop-stripe.stripe)
