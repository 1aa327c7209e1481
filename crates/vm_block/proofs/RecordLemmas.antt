-- A key in its 10 bytes.
use Rattle.std.proofs.Common.{◌≡◌, ℕ, List, ◌++◌, drop, ap}
use Rattle.byteorder.specs.Endian.{little_bytes}
use Rattle.vm_types.specs.declared.key.Key.{Key}
use Rattle.vm_types.specs.Places.{KeyFits}
use Rattle.vm_block.specs.Leaf.{key_bytes}
use Rattle.vm_block.proofs.Pieces.{number_one}

pub key_is : (k l : Key) → k.table ≡ l.table → k.number ≡ l.number → k ≡ l
key_is k l a b = λ i. record { table = a i; number = b i }

-- keys of one spelling are one
pub key_one : (k l : Key) (xs ys : List ℕ) → KeyFits k → KeyFits l → key_bytes k ++ xs ≡ key_bytes l ++ ys → k ≡ l
key_one k l xs ys hk hl e =
    key_is k l
    (number_one 2 k.table l.table (little_bytes 8 k.number ++ xs) (little_bytes 8 l.number ++ ys) hk.0 hl.0 e)
    (number_one 8 k.number l.number xs ys hk.1 hl.1 (ap (drop 2) e))
