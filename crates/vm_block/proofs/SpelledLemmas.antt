-- The same bytes are one leaf.
use Rattle.std.proofs.Common.{◌≡◌, ℕ, ◌+◌, ◌-◌, ◌*◌, List, [], ◌∷◌, ◌++◌, length, take, drop, refl, sym, ap, ap₂, ◌∙◌, arith, append_assoc}
use Rattle.std.proofs.lemmas.List.{drop_at, take_at}
use Rattle.vm_block.specs.Bounds.{bounds_of}
use Rattle.vm_block.specs.Leaf.{Record}
use Rattle.vm_block.specs.Leaf.{HasRecords, bounds_from, size_of, values_of}
use Rattle.vm_block.specs.Padding.{zeros}
use Rattle.byteorder.specs.Endian.{little_number}
use Rattle.vm_block.proofs.BoundLemmas.{records_from}
use Rattle.vm_block.proofs.LeafLemmas.{head_counted, leaf_bounds, leaf_headed, length-leaf, values_there}

-- records are read back from their entries and their values
read_back : (from : ℕ) (rs : List Record) (rest : List ℕ) → records_from from (bounds_from from rs) (values_of rs ++ rest) ≡ rs
read_back from [] rest = refl
read_back from (r ∷ rs) rest =
    let n = from + length r.1 - from in
    let long : length r.1 ≡ n = omega arith in
    let whole : values_of (r ∷ rs) ++ rest ≡ r.1 ++ (values_of rs ++ rest) = append_assoc r.1 (values_of rs) rest in
    ap (λ z. (r.0, take n z) ∷ records_from (from + length r.1) (bounds_from (from + length r.1) rs) (drop n z)) whole
    ∙ ap₂ (λ v z. (r.0, v) ∷ records_from (from + length r.1) (bounds_from (from + length r.1) rs) z) (take_at r.1 (values_of rs ++ rest) n long) (drop_at r.1 (values_of rs ++ rest) n long)
    ∙ ap (λ xs. r ∷ xs) (read_back (from + length r.1) rs rest)

-- the records that are read from the bytes alone
abbrev pub records_in : List ℕ → List Record
records_in bytes = let n = little_number 4 (take 4088 (drop 8 bytes)) in records_from 0 (bounds_of n (drop 16 bytes)) (drop (16 + 12 * n) bytes)

pub records_read : (bytes : List ℕ) (rs : List Record) → HasRecords bytes rs → records_in bytes ≡ rs
records_read bytes rs leaf =
    let n = little_number 4 (take 4088 (drop 8 bytes)) in
    let same : n ≡ length rs = head_counted bytes (length rs) n 4088 (omega (arith, length-leaf bytes rs leaf)) (leaf_headed bytes rs leaf) refl in
    ap (λ m. records_from 0 (bounds_of m (drop 16 bytes)) (drop (16 + 12 * m) bytes)) same
    ∙ ap₂ (records_from 0) (leaf_bounds bytes rs leaf) (values_there bytes rs leaf)
    ∙ read_back 0 rs (zeros (4080 - size_of rs))

pub records_one : (bytes : List ℕ) (rs qs : List Record) → HasRecords bytes rs → HasRecords bytes qs → rs ≡ qs
records_one bytes rs qs a b = sym (records_read bytes rs a) ∙ records_read bytes qs b
