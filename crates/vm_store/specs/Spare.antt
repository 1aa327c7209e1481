-- Spare blocks: those for data that no version needs.
use Rattle.std.specs.Prelude.{ℕ, zero, suc, ◌+◌, ◌==◌, ◌&&◌, not, nat_le, Bool, List, if◌then◌else◌}
use Rattle.std.specs.List.{list_any}
use Rattle.vm_types.specs.declared.sizes.TheConstants.{FIRST_DATA}

-- whether block n is for data, and is none of these
abbrev pub is_spare : List ℕ → ℕ → Bool
is_spare reached n = nat_le FIRST_DATA n && not (list_any (λ b. b == n) reached)

-- how many of the numbers below n pass
unfoldable pub count_below : (ℕ → Bool) → ℕ → ℕ
count_below test zero = 0
count_below test (suc n) = (if test 0 then 1 else 0) + count_below (λ k. test (suc k)) n

-- how many of this many blocks are for data, and are none of these
abbrev pub spare : ℕ → List ℕ → ℕ
spare limit reached = count_below (is_spare reached) limit
