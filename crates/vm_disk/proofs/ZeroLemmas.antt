-- A file that gets zero blocks at its end.
use Rattle.std.proofs.Common.{◌≡◌, ◌⊎◌, inl, inr, ℕ, ◌+◌, ◌-◌, ◌*◌, ◌<◌, ◌≤◌, ◌||◌, List, [], ◌∷◌, length, take, drop, replicate, Result, Ok, Err, sym, ◌∙◌, ap, arith}
use Rattle.std.proofs.lemmas.Bool.{and_left, le-ltb, cases_lt}
use Rattle.std.proofs.lemmas.List.{length-replicate, get_or-replicate, take-replicate, drop-replicate}
use Rattle.std.proofs.lemmas.List.FromFn.{fill_by_all}
use Rattle.vm_disk.specs.declared.disk.DeviceFault.{DeviceFault}
use Rattle.vm_disk.specs.Positional.{FileState, overwritten, IsTorn, WritesAt}
use Rattle.vm_disk.specs.File.{file_block, file_blocks, is_touched, AddsZeros, KeepsBehind}
use Rattle.vm_disk.proofs.OverwrittenLemmas.{overwritten_after, overwritten_inside, overwritten_before, overwritten_length, overwritten_no_shorter}

-- blocks that are all zero
pub zero_blocks : (count : ℕ) (bytes : List ℕ) → ((n : ℕ) → n < count → file_block bytes n ≡ replicate 4096 0) → file_blocks count bytes ≡ replicate count (replicate 4096 0)
zero_blocks count bytes zero =
    let zeros = replicate count (replicate 4096 0) in
    sym (fill_by_all (file_block bytes) zeros count [] (length-replicate count (replicate 4096 0)) (λ k inside. get_or-replicate count k (replicate 4096 0) [] inside ∙ sym (zero k inside)))

-- a write behind a block leaves it as it was
before_torn : (n offset count : ℕ) (old new : List ℕ) → IsTorn offset count old new → offset ≤ length old → 4096 * n + 4096 ≤ offset → file_block new n ≡ file_block old n
before_torn n offset count old new torn within before =
    ap (λ xs. file_block xs n) torn.written ∙ overwritten_before offset (4096 * n) 4096 torn.bytes old within before

untouched_before : (n offset count : ℕ) (writes : List (ℕ × ℕ)) → 4096 * n + 4096 ≤ offset → is_touched ((offset, count) ∷ writes) n ≡ is_touched writes n
untouched_before n offset count writes before =
    ap (λ t. t || is_touched writes n) (and_left _ _ (le-ltb offset (4096 * n + 4096) before))

-- a write at their end that left any bytes there
pub adds_torn : (from mid offset count : ℕ) (old file new : FileState) → AddsZeros from mid old file → from ≤ mid → offset ≡ 4096 * mid
    → IsTorn offset count file.bytes new.bytes → new.waiting ≡ (offset, count) ∷ file.waiting
    → AddsZeros from mid old new
adds_torn from mid offset count old file new so_far order at torn waiting =
    let long = so_far.long in
    let within : offset ≤ length file.bytes = omega arith in
    let longer = overwritten_no_shorter offset torn.bytes file.bytes within in
    record {
      long = omega (arith, longer, ap length torn.written);
      same = λ n before. before_torn n offset count file.bytes new.bytes torn within (omega arith) ∙ so_far.same n before;
      zero = λ n after before. before_torn n offset count file.bytes new.bytes torn within (omega arith) ∙ so_far.zero n after before;
      same_waiting = λ n before. ap (λ ws. is_touched ws n) waiting ∙ untouched_before n offset count file.waiting (omega arith) ∙ so_far.same_waiting n before;
    }

-- zero bytes that were written behind them
abbrev pub zeros_of : ℕ → List ℕ
zeros_of more = replicate (more * 4096) 0

-- one write of zero blocks more
pub adds_more : {T : Type 0} (x : T) (from mid more offset : ℕ) (old file new : FileState) → AddsZeros from mid old file → from ≤ mid → offset ≡ 4096 * mid
    → WritesAt {T = T} offset (zeros_of more) (Ok x) file new
    → AddsZeros from (mid + more) old new
adds_more x from mid more offset old file new so_far order at writes =
    record {
      long = omega (arith, overwritten_length offset (zeros_of more) file.bytes within, ap length writes.written, size);
      same = as_before.same;
      zero = λ n after before. by_order n after before (cases_lt n mid);
      same_waiting = as_before.same_waiting;
    }
  where
    size : length (zeros_of more) ≡ more * 4096
    size = length-replicate (more * 4096) 0

    within : offset ≤ length file.bytes
    within = let long = so_far.long in omega arith

    torn : IsTorn offset (length (zeros_of more)) file.bytes new.bytes
    torn = record { bytes = zeros_of more; few = omega arith; written = writes.written }

    as_before : AddsZeros from mid old new
    as_before = adds_torn from mid offset (length (zeros_of more)) old file new so_far order at torn writes.waiting

    by_order : (n : ℕ) → from ≤ n → n < mid + more → (n < mid) ⊎ (mid ≤ n) → file_block new.bytes n ≡ replicate 4096 0
    by_order n after before (inl early) = as_before.zero n after early
    by_order n after before (inr late) =
        let a = 4096 * (n - mid) in
        let place : 4096 * n ≡ offset + a = omega arith in
        let few : a + 4096 ≤ length (zeros_of more) = omega (arith, size) in
        ap (λ xs. file_block xs n) writes.written
        ∙ ap (λ k. take 4096 (drop k (overwritten offset (zeros_of more) file.bytes))) place
        ∙ overwritten_inside offset a 4096 (zeros_of more) file.bytes within few
        ∙ ap (take 4096) (drop-replicate a (more * 4096) 0)
        ∙ take-replicate 4096 (more * 4096 - a) 0 (omega arith)

-- one that failed
pub adds_some : {T : Type 0} (e : DeviceFault) (from mid offset : ℕ) (zeros : List ℕ) (old file new : FileState) → AddsZeros from mid old file → from ≤ mid → offset ≡ 4096 * mid
    → WritesAt {T = T} offset zeros (Err e) file new
    → AddsZeros from mid old new
adds_some e from mid offset zeros old file new so_far order at writes =
    adds_torn from mid offset (length zeros) old file new so_far order at writes.torn writes.waiting

-- a write that ends before so many blocks do leaves what stands behind them
pub behind_torn : (offset count blocks : ℕ) (old new : List ℕ) → IsTorn offset count old new → offset ≤ length old → offset + count ≤ 4096 * blocks
    → drop (4096 * blocks) new ≡ drop (4096 * blocks) old
behind_torn offset count blocks old new torn within before =
    ap (drop (4096 * blocks)) torn.written ∙ overwritten_after offset (4096 * blocks) torn.bytes old within (omega (arith, torn.few))

pub behind_more : {T : Type 0} (result : Result T DeviceFault) (mid more offset blocks : ℕ) (old file new : FileState) → KeepsBehind blocks old file → offset ≡ 4096 * mid
    → mid + more ≤ blocks → offset ≤ length file.bytes → WritesAt {T = T} offset (zeros_of more) result file new → KeepsBehind blocks old new
behind_more (Ok x) mid more offset blocks old file new so_far at before within writes =
    let size : length (zeros_of more) ≡ more * 4096 = length-replicate (more * 4096) 0 in
    behind_torn offset (length (zeros_of more)) blocks file.bytes new.bytes (record { bytes = zeros_of more; few = omega arith; written = writes.written }) within (omega (arith, size)) ∙ so_far
behind_more (Err e) mid more offset blocks old file new so_far at before within writes =
    let size : length (zeros_of more) ≡ more * 4096 = length-replicate (more * 4096) 0 in
    behind_torn offset (length (zeros_of more)) blocks file.bytes new.bytes writes.torn within (omega (arith, size)) ∙ so_far
