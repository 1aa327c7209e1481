-- A text that is written several times.
use Rattle.std.proofs.Common.{◌≡◌, ◌≤◌, ◌+◌, ◌-◌, ◌++◌, ◌∙◌, ℕ, zero, suc, add-one, List, Option, ap, sym, subst, arith, append-nil, append_assoc}
use Rattle.vm_cli.specs.answers.Carried.{WritesStart}
use Rattle.vm_cli.specs.session.Streams.{repeated}
use Rattle.vm_cli.proofs.CarriedLemmas.{begins-more}

-- one time more
repeated-suc : (n : ℕ) (text : List ℕ) → repeated (suc n) text ≡ repeated n text ++ text
repeated-suc zero text = append-nil text
repeated-suc (suc n) text = ap (λ t. text ++ t) (repeated-suc n text) ∙ sym (append_assoc text (repeated n text) text)

pub repeated-more : (n : ℕ) (text : List ℕ) → repeated (n + 1) text ≡ repeated n text ++ text
repeated-more n text = ap (λ k. repeated k text) (add-one n) ∙ repeated-suc n text

-- and more times
pub repeated-sum : (n k : ℕ) (text : List ℕ) → repeated (n + k) text ≡ repeated n text ++ repeated k text
repeated-sum n zero text = ap (λ m. repeated m text) (omega arith) ∙ sym (append-nil (repeated n text))
repeated-sum n (suc k) text =
    let last : n + suc k ≡ suc (n + k) = omega arith in
    ap (λ m. repeated m text) last ∙ repeated-suc (n + k) text ∙ ap (λ t. t ++ text) (repeated-sum n k text) ∙ append_assoc (repeated n text) (repeated k text) text
    ∙ ap (λ t. repeated n text ++ t) (sym (repeated-suc k text))

-- the beginning of fewer is one of more
pub begins-repeated : (n m : ℕ) (text : List ℕ) → n ≤ m → (a b : Option (List ℕ)) → WritesStart a b (repeated n text) → WritesStart a b (repeated m text)
begins-repeated n m text le a b h =
    let split : n + (m - n) ≡ m = omega (arith, le) in
    subst (λ k. WritesStart a b (repeated k text)) split
    (subst (WritesStart a b) (sym (repeated-sum n (m - n) text)) (begins-more a b (repeated n text) (repeated (m - n) text) h))
