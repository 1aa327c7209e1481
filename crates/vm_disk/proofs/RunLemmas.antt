-- How the writes of blocks in a row come together, one after another.
use Rattle.std.proofs.Common.{◌≡◌, ◌≢◌, ◌⊎◌, inl, inr, ℕ, ◌+◌, ◌<◌, ◌≤◌, true, false, List, [], length, slice_index_or, Result, Ok, Err, IsErr, sym, ◌∙◌, ap, arith}
use Rattle.std.proofs.lemmas.Bool.{and_from, le-leb, lt-ltb, cases_lt}
use Rattle.vm_disk.specs.declared.disk.DeviceFault.{DeviceFault}
use Rattle.vm_disk.specs.Disk.{block, DiskState, Writes}
use Rattle.vm_disk.specs.Moments.{Throughout, TouchesOnly, CleanAsBefore, in_run, WritesRun}
use Rattle.vm_disk.proofs.MomentLemmas.{write_on, dirt_on}

-- a block of the row is in it
pub run_has : (first count k : ℕ) → first ≤ k → k < first + count → in_run first count k ≡ true
run_has first count k from before = and_from _ _ (le-leb first k from) (lt-ltb k (first + count) before)

apart : (first count k at : ℕ) → in_run first count k ≡ false → in_run first count at ≡ true → k ≢ at
apart first count k at out inside same = let clash : true ≡ false = sym inside ∙ ap (in_run first count) (sym same) ∙ out in cc

-- the first so many blocks of a row were written
pub record IsBegun (first : ℕ) (blocks : List (List ℕ)) (count : ℕ) (old new : DiskState) : Type 0 where
  pub written : (i : ℕ) → i < count → block new.now.contents (first + i) ≡ slice_index_or blocks i []
  pub dirty : (i : ℕ) → i < count → new.now.dirty (first + i) ≡ true
  pub others_dirty : (k : ℕ) → in_run first (length blocks) k ≡ false → new.now.dirty k ≡ old.now.dirty k
  pub sure : new.now.sure ≡ old.now.sure
  pub moments : Throughout old new (TouchesOnly (in_run first (length blocks)) old.now)
  pub clean : Throughout old new (CleanAsBefore old.now)

-- one more
pub run_on : {T : Type 0} (x : T) (first count at : ℕ) (bytes : List ℕ) (blocks : List (List ℕ)) (old mid new : DiskState)
    → IsBegun first blocks count old mid → count < length blocks → at ≡ first + count → bytes ≡ slice_index_or blocks count []
    → Writes at bytes (Ok x) mid new → IsBegun first blocks (count + 1) old new
run_on x first count at bytes blocks old mid new so_far inside here is writes =
    record {
      written = λ i before. by_order i (cases_lt i count) before;
      dirty = λ i before. dirt i (cases_lt i count) before;
      others_dirty = λ k out. writes.others_dirty k (apart first (length blocks) k at out there) ∙ so_far.others_dirty k out;
      sure = writes.sure ∙ so_far.sure;
      moments = write_on at bytes (Ok x) (in_run first (length blocks)) old mid new there so_far.moments writes;
      clean = dirt_on at bytes (Ok x) old mid new so_far.clean writes;
    }
  where
    there : in_run first (length blocks) at ≡ true
    there = run_has first (length blocks) at (omega (arith, here)) (omega (arith, here, inside))

    by_order : (i : ℕ) → (i < count) ⊎ (count ≤ i) → i < count + 1 → block new.now.contents (first + i) ≡ slice_index_or blocks i []
    by_order i (inl less) before = writes.others (first + i) (λ same. omega (arith, same, here, less)) ∙ so_far.written i less
    by_order i (inr more) before =
        let last : i ≡ count = omega (arith, more, before) in
        let place : first + i ≡ at = omega (arith, last, here) in
        ap (block new.now.contents) place ∙ writes.written ∙ is ∙ ap (λ j. slice_index_or blocks j []) (sym last)

    dirt : (i : ℕ) → (i < count) ⊎ (count ≤ i) → i < count + 1 → new.now.dirty (first + i) ≡ true
    dirt i (inl less) before = writes.others_dirty (first + i) (λ same. omega (arith, same, here, less)) ∙ so_far.dirty i less
    dirt i (inr more) before = let place : first + i ≡ at = omega (arith, more, before, here) in ap new.now.dirty place ∙ writes.dirty

-- one of them failed
pub run_failed : {T U : Type 0} (answer : Result T DeviceFault) (result : Result U DeviceFault) (first count at : ℕ) (bytes : List ℕ) (blocks : List (List ℕ)) (old mid new : DiskState)
    → IsErr answer → IsBegun first blocks count old mid → count < length blocks → at ≡ first + count → Writes at bytes result mid new → WritesRun first blocks answer old new
run_failed (Ok x) result first count at bytes blocks old mid new failed so_far inside here writes = cc
run_failed (Err e) result first count at bytes blocks old mid new failed so_far inside here writes =
    record {
      written = tt;
      dirty = tt;
      others_dirty = λ k out. writes.others_dirty k (apart first (length blocks) k at out there) ∙ so_far.others_dirty k out;
      sure = writes.sure ∙ so_far.sure;
      moments = write_on at bytes result (in_run first (length blocks)) old mid new there so_far.moments writes;
      clean = dirt_on at bytes result old mid new so_far.clean writes;
    }
  where
    there : in_run first (length blocks) at ≡ true
    there = run_has first (length blocks) at (omega (arith, here)) (omega (arith, here, inside))
