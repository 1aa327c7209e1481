-- What stands in a file after some bytes were written over those from an offset on.
use Rattle.std.proofs.Common.{◌≡◌, ℕ, ◌+◌, ◌-◌, ◌≤◌, List, ◌++◌, length, take, drop, refl, sym, ◌∙◌, ap, arith, append_assoc, length-append, length-drop}
use Rattle.std.proofs.lemmas.List.{take_at, take-take, take-append-le, drop_at, drop-append-le, drop-drop, drop-take, length-take-le}
use Rattle.vm_disk.specs.Positional.{overwritten}

front : (offset : ℕ) (bytes old : List ℕ) → offset ≤ length old → length (take offset old ++ bytes) ≡ offset + length bytes
front offset bytes old inside =
    length-append (take offset old) bytes ∙ ap (λ k. k + length bytes) (length-take-le offset old inside)

-- the bytes that were written
pub overwritten_at : (offset : ℕ) (bytes old : List ℕ) → offset ≤ length old → take (length bytes) (drop offset (overwritten offset bytes old)) ≡ bytes
overwritten_at offset bytes old inside =
    let rest = drop (offset + length bytes) old in
    let from : drop offset (overwritten offset bytes old) ≡ bytes ++ rest = ap (drop offset) (append_assoc (take offset old) bytes rest) ∙ drop_at (take offset old) (bytes ++ rest) offset (length-take-le offset old inside) in
    ap (take (length bytes)) from ∙ take_at bytes rest (length bytes) refl

-- some of the bytes that were written
pub overwritten_inside : (offset a count : ℕ) (bytes old : List ℕ) → offset ≤ length old → a + count ≤ length bytes → take count (drop (offset + a) (overwritten offset bytes old)) ≡ take count (drop a bytes)
overwritten_inside offset a count bytes old inside few =
    let rest = drop (offset + length bytes) old in
    let from : drop offset (overwritten offset bytes old) ≡ bytes ++ rest = ap (drop offset) (append_assoc (take offset old) bytes rest) ∙ drop_at (take offset old) (bytes ++ rest) offset (length-take-le offset old inside) in
    let left : count ≤ length (drop a bytes) = omega (arith, length-drop a bytes) in
    ap (take count) (sym (drop-drop a offset (overwritten offset bytes old)) ∙ ap (drop a) from ∙ drop-append-le a bytes rest (omega arith)) ∙ take-append-le count (drop a bytes) rest left

-- what ends before them
pub overwritten_before : (offset a count : ℕ) (bytes old : List ℕ) → offset ≤ length old → a + count ≤ offset → take count (drop a (overwritten offset bytes old)) ≡ take count (drop a old)
overwritten_before offset a count bytes old inside before =
    let rest = drop (offset + length bytes) old in
    let known = length-take-le offset old inside in
    let head : take (a + count) (overwritten offset bytes old) ≡ take (a + count) old = ap (take (a + count)) (append_assoc (take offset old) bytes rest) ∙ take-append-le (a + count) (take offset old) (bytes ++ rest) (omega arith) ∙ take-take (a + count) offset old before in
    sym (drop-take a count (overwritten offset bytes old)) ∙ ap (drop a) head ∙ drop-take a count old

after_by : (offset more : ℕ) (bytes old : List ℕ) → offset ≤ length old → drop (offset + length bytes + more) (overwritten offset bytes old) ≡ drop (offset + length bytes + more) old
after_by offset more bytes old inside =
    let end = offset + length bytes in
    sym (drop-drop more end (overwritten offset bytes old)) ∙ ap (drop more) (drop_at (take offset old ++ bytes) (drop end old) end (front offset bytes old inside)) ∙ drop-drop more end old

-- what begins after them
pub overwritten_after : (offset a : ℕ) (bytes old : List ℕ) → offset ≤ length old → offset + length bytes ≤ a → drop a (overwritten offset bytes old) ≡ drop a old
overwritten_after offset a bytes old inside after =
    let more = a - (offset + length bytes) in
    let sum : offset + length bytes + more ≡ a = omega arith in
    ap (λ k. drop k (overwritten offset bytes old)) (sym sum) ∙ after_by offset more bytes old inside ∙ ap (λ k. drop k old) sum

-- a file is at least as long as what was written
pub overwritten_length : (offset : ℕ) (bytes old : List ℕ) → offset ≤ length old → offset + length bytes ≤ length (overwritten offset bytes old)
overwritten_length offset bytes old inside =
    let end = offset + length bytes in
    omega (arith, length-append (take offset old ++ bytes) (drop end old), front offset bytes old inside)

-- a file gets no shorter
pub overwritten_no_shorter : (offset : ℕ) (bytes old : List ℕ) → offset ≤ length old → length old ≤ length (overwritten offset bytes old)
overwritten_no_shorter offset bytes old inside =
    let end = offset + length bytes in
    omega (arith, length-append (take offset old ++ bytes) (drop end old), front offset bytes old inside, length-drop end old)
