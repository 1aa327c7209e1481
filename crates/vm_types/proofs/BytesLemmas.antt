-- Bytes in an array, written at its front.
use Rattle.std.proofs.Common.{◌≡◌, ℕ, ◌-◌, ◌≤◌, List, ◌++◌, length, take, drop, replicate, ap, ◌∙◌, arith, length-append}
use Rattle.std.proofs.lemmas.List.{drop-replicate, length-replicate}
use Rattle.std.proofs.Math.Seq.{drop-append_seam, take-append_seam}
use Rattle.vm_types.specs.Bytes.{IsPadded}

-- bytes written at the front of n zero bytes are padded
pub IsPadded-written : (n : ℕ) (bytes front held : List ℕ) → length bytes ≤ n → front ≡ bytes → held ≡ front ++ drop (length bytes) (replicate n 0) → IsPadded n (length bytes) held
IsPadded-written n bytes front held le is written =
    let whole : held ≡ bytes ++ replicate (n - length bytes) 0 = written ∙ ap (λ x. x ++ drop (length bytes) (replicate n 0)) is ∙ ap (λ x. bytes ++ x) (drop-replicate (length bytes) n 0) in
    record {
      whole = ap length whole ∙ length-append bytes (replicate (n - length bytes) 0) ∙ omega (arith, length-replicate {A = ℕ} (n - length bytes) 0, le);
      fits = le;
      zeros = ap (drop (length bytes)) whole ∙ drop-append_seam bytes (replicate (n - length bytes) 0);
    }

-- the bytes written there count
pub take-written : (bytes front rest held : List ℕ) → front ≡ bytes → held ≡ front ++ rest → take (length bytes) held ≡ bytes
take-written bytes front rest held is written = ap (take (length bytes)) (written ∙ ap (λ x. x ++ rest) is) ∙ take-append_seam bytes rest
