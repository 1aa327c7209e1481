use Rattle.std.proofs.Common.{◌≡◌, ◌↔◌, ◌-◌, ℕ, drop, nat_eq, true, sym, ap, ◌∙◌, eq-eqb, eqb-true, arith}
use Rattle.std.proofs.lemmas.List.{length-drop, take_all}
use Rattle.byteorder.specs.Endian.{little_number}
use Rattle.vm_sums.specs.Sums.{number_at, sum_place}
use Rattle.vm_sums.proofs.sum.is_without_sum.Goals as goal

-- a number that was read is zero exactly where the one that is there is
zero_as : (read there : ℕ) → read ≡ there → (nat_eq read 0 ≡ true) ↔ (there ≡ 0)
zero_as read there same = (λ is. sym same ∙ eqb-true read 0 is, λ zero. eq-eqb read 0 (same ∙ zero))

pub returns : goal.returns
returns c =
    let p = c.place.result in
    let below = c.exchange_sum.new.block in
    let read : c.read_u32.result ≡ number_at p below =
    c.read_u32.ensures ∙ ap (little_number 4) (take_all (4096 - p) (drop p below) (omega (arith, length-drop p below))) in
    zero_as c.read_u32.result _ (read ∙ ap (λ q. number_at q below) c.place.ensures.place ∙ ap (number_at (sum_place c.args.n)) c.exchange_sum.ensures)
