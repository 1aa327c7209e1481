-- Blocks that were copied, and the numbers of their copies.
use Rattle.std.specs.Prelude.{◌≡◌, ℕ, ◌+◌, ◌<◌, ◌≤◌, nat_lt, length, replicate, count_by, slice_index, slice_set}
use Rattle.vm_types.specs.declared.sizes.TheConstants.{FIRST_DATA}
use Rattle.vm_check.specs.declared.renumbering.Renumbering.{Renumbering}

-- the number of the copy of block n, and 0 if it was not copied
abbrev pub number_at : Renumbering → ℕ → ℕ
number_at numbers n = slice_index numbers.numbers.items n

-- block n was copied
abbrev pub IsCopied : Renumbering → ℕ → Type 0
IsCopied numbers n = 0 < number_at numbers n

-- of how many blocks it tells the number
abbrev pub count_of : Renumbering → ℕ
count_of numbers = length numbers.numbers.items

-- how many blocks were copied
abbrev pub copies_of : Renumbering → ℕ
copies_of numbers = count_by (λ n. nat_lt 0 n) numbers.numbers.items

-- the number of the next copy
abbrev pub next_of : Renumbering → ℕ
next_of numbers = numbers.next

-- none of this many blocks was copied, and the first copy gets the number of the first data block
abbrev pub IsUnused : ℕ → Renumbering → Type 0
IsUnused blocks numbers = (numbers.numbers.items ≡ replicate blocks 0) × (next_of numbers ≡ FIRST_DATA)

-- the next number is that of the copy of block n
pub record Assigns (n : ℕ) (old new : Renumbering) : Type 0 where
  pub numbers : new.numbers.items ≡ slice_set old.numbers.items n (next_of old)
  pub next : next_of new ≡ next_of old + 1

-- each copy has kept its number, the next number has not fallen, and it rose by one for each block that was copied
pub record GoesOn (old new : Renumbering) : Type 0 where
  pub same_count : count_of new ≡ count_of old
  pub kept : (n : ℕ) → IsCopied old n → number_at new n ≡ number_at old n
  pub rising : next_of old ≤ next_of new
  pub counted : next_of new + copies_of old ≡ next_of old + copies_of new

-- copies have numbers of data blocks below the next one, and no two have the same
pub record AreGiven (numbers : Renumbering) : Type 0 where
  pub least : FIRST_DATA ≤ next_of numbers
  pub low : (n : ℕ) → IsCopied numbers n → FIRST_DATA ≤ number_at numbers n
  pub high : (n : ℕ) → IsCopied numbers n → number_at numbers n < next_of numbers
  pub once : (n m : ℕ) → IsCopied numbers n → number_at numbers n ≡ number_at numbers m → n ≡ m
