-- What blocks that were written out leave, one after another.
use Rattle.std.proofs.Common.{◌≡◌, ℕ, Bool, ap, ◌∙◌, subst}
use Rattle.vm_disk.specs.declared.layers.Layers.{Layers}
use Rattle.vm_disk.specs.Disk.{DiskState, Medium}
use Rattle.vm_disk.specs.Moments.{Throughout, TouchesOnly}
use Rattle.vm_disk.specs.Laid.{laid}
use Rattle.vm_disk.specs.Waiting.{bytes_for}
use Rattle.vm_disk.specs.Layers.{lower_of, medium_of, waiting_of, Sends}
use Rattle.vm_disk.proofs.MomentLemmas.{and_then, weaken, at_end}
use Rattle.vm_disk.proofs.LaidLemmas.{touches_then}
use Rattle.vm_disk.proofs.WrittenLemmas.{same_shown}

module _ {D : Type 0} {members : _} (state : D → DiskState) where
  -- some were written out, and then more
  pub sends_then : (old mid new : Layers D members) → Sends state old mid → Sends state mid new → Sends state old new
  sends_then old mid new first second =
      let lower = state (lower_of old) in
      let lower_mid = state (lower_of mid) in
      let lower_new = state (lower_of new) in
      let touched = (medium_of state old).dirty in
      let so_far = at_end lower lower_mid (TouchesOnly touched lower.now) first.touches in
      let R : (ℕ → Bool) → Type 0 = λ dirty. Throughout lower_mid lower_new (TouchesOnly dirty lower_mid.now) in
      let more : Throughout lower_mid lower_new (TouchesOnly touched lower_mid.now) = subst R (ap (λ (m : Medium). m.dirty) first.same) second.touches in
      record {
        same = second.same ∙ first.same;
        touches = and_then lower lower_mid lower_new (TouchesOnly touched lower.now) first.touches
            (weaken lower_mid lower_new (TouchesOnly touched lower_mid.now) (TouchesOnly touched lower.now) (λ m spares. touches_then touched lower.now lower_mid.now m so_far spares) more);
      }

  -- before that there were the same blocks over the same disk
  pub sends_from : {mid : Layers D members} (old new : Layers D members) → Sends state mid new → lower_of mid ≡ lower_of old → (waiting_of mid).rooms ≡ (waiting_of old).rooms → Sends state old new
  sends_from {mid} old new sends lower waiting =
      let shown : medium_of state mid ≡ medium_of state old =
      same_shown (waiting_of old) (waiting_of mid) waiting (state (lower_of mid)).now ∙ ap (λ (d : D). laid (bytes_for (waiting_of old)) (state d).now) lower in
      let R : Medium → Type 0 = λ m. Throughout (state (lower_of mid)) (state (lower_of new)) (TouchesOnly m.dirty (state (lower_of mid)).now) in
      let S : D → Type 0 = λ d. Throughout (state d) (state (lower_of new)) (TouchesOnly (medium_of state old).dirty (state d).now) in
      record { same = sends.same ∙ shown; touches = subst S lower (subst R shown sends.touches) }
