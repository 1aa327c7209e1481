-- Blocks that are written one after another.
use Rattle.std.proofs.Common.{◌≡◌, ◌≢◌, inl, inr, ◌<◌, ◌≤◌, ◌+◌, ◌-◌, ◌*◌, ◌++◌, ℕ, suc, List, [], ◌∷◌, length, take, refl, ap, ◌∙◌, append-nil, arith}
use Rattle.std.specs.Prelude.{drop}
use Rattle.std.proofs.Math.Nat.{eq-or-lt_of_le}
use Rattle.std.proofs.Math.Seq.{take-suc}
use Rattle.std.proofs.lemmas.Grind.{flat_map-append}
use Rattle.vm_types.specs.declared.sizes.TheConstants.{BLOCK_SIZE}
use Rattle.vm_disk.specs.Disk.{Contents, block}
use Rattle.altstore.specs.Images.{joined}

-- the blocks up to one, and that one
pub joined-next : (xs : Contents) (n : ℕ) → n < length xs → joined (take (n + 1) xs) ≡ joined (take n xs) ++ block xs n
joined-next xs n lt =
    let one : n + 1 ≡ suc n = omega arith in
    rw (one, take-suc xs n [] lt) (flat_map-append (λ b. b) (take n xs) (block xs n ∷ []) ∙ ap (λ (ys : List ℕ). joined (take n xs) ++ ys) (append-nil (block xs n)))

-- where the blocks before one are as is due, and that one is written so, the blocks up to it are
pub one_more : (old new : Contents) (n : ℕ) (bytes : List ℕ) (due : ℕ → List ℕ) → block new n ≡ bytes → ((k : ℕ) → k ≢ n → block new k ≡ block old k)
    → ((k : ℕ) → k < n → block old k ≡ due k) → bytes ≡ due n → (k : ℕ) → k < n + 1 → block new k ≡ due k
one_more old new n bytes due written others filled is_due k lt =
    let most : k ≤ n = omega arith in
    elim (eq-or-lt_of_le most) [
      | inl is ↦ rw is (written ∙ is_due)
      | inr less ↦ let other : k ≢ n = λ e. (let none : ⊥ = omega arith in none) in others k other ∙ filled k less
    ]

-- a block of an image, where its first byte is named
pub block_at : (image : List ℕ) (n : ℕ) → take (n * 4096 + 4096 - n * 4096) (drop (n * 4096) image) ≡ take BLOCK_SIZE (drop (BLOCK_SIZE * n) image)
block_at image n =
    let size : n * 4096 + 4096 - n * 4096 ≡ BLOCK_SIZE = omega arith in let first : n * 4096 ≡ BLOCK_SIZE * n = omega arith in
    rw (size, first) refl
