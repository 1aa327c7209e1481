-- How one write of blocks in a row to a file shows as one to a disk over it.
use Rattle.std.proofs.Common.{◌≡◌, ◌⊎◌, inl, inr, ℕ, zero, suc, ◌+◌, ◌-◌, ◌*◌, ◌<◌, ◌≤◌, ◌||◌, nat_le, nat_lt, Bool, true, false, List, [], ◌∷◌, ◌++◌, length, take, drop, slice_index_or, Result, Ok, Err, OnOk, refl, sym, ◌∙◌, ap, subst, arith, length-append}
use Rattle.std.proofs.lemmas.Bool.{and_from, and_parts, and_left, and_right, or_left, lt-ltb, le-ltb, leb-true, ltb-true, cases_lt}
use Rattle.std.proofs.lemmas.List.{take_at, drop_at, drop-drop}
use Rattle.std.proofs.lemmas.List.Concat.{flat_map-cons}
use Rattle.std.proofs.lemmas.List.FromFn.{length-map-range_with_len}
use Rattle.vm_disk.specs.declared.disk.DeviceFault.{DeviceFault}
use Rattle.vm_disk.specs.declared.file.FileDisk.{FileDisk}
use Rattle.vm_disk.specs.Disk.{block, Medium, Elapses}
use Rattle.vm_disk.specs.Moments.{TouchesOnly, CleanAsBefore, in_run, WritesRun}
use Rattle.vm_disk.specs.Positional.{FileState, joined, overwritten, IsTorn, WritesAt}
use Rattle.vm_disk.specs.File.{KeepsBehind, file_state, file_block, touches, is_touched, is_unsure}
use Rattle.vm_disk.proofs.OverwrittenLemmas.{overwritten_inside, overwritten_before, overwritten_after}
use Rattle.vm_disk.proofs.ZeroLemmas.{behind_torn}
use Rattle.vm_disk.proofs.KeptLemmas.{by_answer}
use Rattle.vm_disk.proofs.MomentLemmas.{started, goes_on, touches_nothing, as_itself}
use Rattle.vm_disk.proofs.RunLemmas.{run_has}
use Rattle.vm_disk.proofs.FileLemmas.{block_is, same_block, some_written, IsCalled, same_part, now_shown, past_shown, good_file, long_file}

-- each of them has the bytes of a block
abbrev pub AreFull : List (List ℕ) → Type 0
AreFull blocks = (i : ℕ) → i < length blocks → length (slice_index_or blocks i []) ≡ 4096

-- so many bytes they have
pub joined_length : (blocks : List (List ℕ)) → AreFull blocks → length (joined blocks) ≡ 4096 * length blocks
joined_length [] full = refl
joined_length (b ∷ blocks) full =
    let one = full 0 (omega arith) in
    let rest = joined_length blocks (λ i inside. full (suc i) (omega (arith, inside))) in
    let all = ap (λ (bs : List ℕ). length bs) (flat_map-cons (λ bytes. bytes) b blocks) ∙ length-append b (joined blocks) in
    omega (arith, one, rest, all)

-- one of them
joined_block : (blocks : List (List ℕ)) → AreFull blocks → (i : ℕ) → i < length blocks → take 4096 (drop (4096 * i) (joined blocks)) ≡ slice_index_or blocks i []
joined_block [] full i inside = absurd (omega (arith, inside))
joined_block (b ∷ blocks) full zero inside =
    ap (take 4096) (flat_map-cons (λ bytes. bytes) b blocks) ∙ take_at b (joined blocks) 4096 (full 0 inside)
joined_block (b ∷ blocks) full (suc i) inside =
    let place : 4096 * suc i ≡ 4096 + 4096 * i = omega arith in
    ap (λ (bytes : List ℕ). take 4096 (drop (4096 * suc i) bytes)) (flat_map-cons (λ bytes. bytes) b blocks)
    ∙ ap (λ (k : ℕ). take 4096 (drop k (b ++ joined blocks))) place
    ∙ ap (take 4096) (sym (drop-drop (4096 * i) 4096 (b ++ joined blocks)) ∙ ap (drop (4096 * i)) (drop_at b (joined blocks) 4096 (full 0 (omega arith))))
    ∙ joined_block blocks (λ j within. full (suc j) (omega (arith, within))) i (omega (arith, inside))

-- a block that is not in the row
out_of_run : (first count k : ℕ) → in_run first count k ≡ false → (k < first) ⊎ (first + count ≤ k)
out_of_run first count k out = before (cases_lt k first)
  where
    after : first ≤ k → (k < first + count) ⊎ (first + count ≤ k) → (k < first) ⊎ (first + count ≤ k)
    after from (inl less) = let clash : true ≡ false = sym (run_has first count k from less) ∙ out in cc
    after from (inr more) = inr more

    before : (k < first) ⊎ (first ≤ k) → (k < first) ⊎ (first + count ≤ k)
    before (inl less) = inl less
    before (inr from) = after from (cases_lt k (first + count))

-- a clean one, where each in the row is dirty
clean_is_out : (first count : ℕ) (dirty : ℕ → Bool) → ((i : ℕ) → i < count → dirty (first + i) ≡ true) → (k : ℕ) → dirty k ≡ false → in_run first count k ≡ false
clean_is_out first count dirty are k clean = by_answer (in_run first count k)
    (λ y.
    let parts = and_parts (nat_le first k) (nat_lt k (first + count)) y in
    let from = leb-true first k parts.0 in
    let before = ltb-true k (first + count) parts.1 in
    let place : first + (k - first) ≡ k = omega (arith, from) in
    let clash : true ≡ false = sym (are (k - first) (omega (arith, from, before))) ∙ ap dirty place ∙ clean in cc)
    (λ z. z)

-- stays as it was
others_stay : (n count k offset : ℕ) (old new : List ℕ) → offset ≡ 4096 * n → offset ≤ length old → in_run n count k ≡ false → IsTorn offset (4096 * count) old new → file_block new k ≡ file_block old k
others_stay n count k offset old new at within out torn =
    ap (λ xs. file_block xs k) torn.written ∙ by_order (out_of_run n count k out)
  where
    by_order : (k < n) ⊎ (n + count ≤ k) → file_block (overwritten offset torn.bytes old) k ≡ file_block old k
    by_order (inl before) = overwritten_before offset (4096 * k) 4096 torn.bytes old within (omega arith)
    by_order (inr after) =
        let few = torn.few in ap (take 4096) (overwritten_after offset (4096 * k) torn.bytes old within (omega arith))

-- and no write waits for it
others_wait : (n count k offset size : ℕ) (writes : List (ℕ × ℕ)) → offset ≡ 4096 * n → size ≡ 4096 * count → in_run n count k ≡ false → is_touched ((offset, size) ∷ writes) k ≡ is_touched writes k
others_wait n count k offset size writes at full out =
    ap (λ t. t || is_touched writes k) (untouched (out_of_run n count k out))
  where
    untouched : (k < n) ⊎ (n + count ≤ k) → touches (offset, size) k ≡ false
    untouched (inl before) = and_left _ _ (le-ltb offset (4096 * k + 4096) (omega arith))
    untouched (inr after) = and_right _ _ (le-ltb (4096 * k) (offset + size) (omega arith))

-- as one does for each of the row
run_waits : (n count i offset size : ℕ) (writes : List (ℕ × ℕ)) → offset ≡ 4096 * n → size ≡ 4096 * count → i < count → is_touched ((offset, size) ∷ writes) (n + i) ≡ true
run_waits n count i offset size writes at full inside =
    or_left (touches (offset, size) (n + i)) (is_touched writes (n + i)) (and_from _ _ (lt-ltb offset (4096 * (n + i) + 4096) (omega arith)) (lt-ltb (4096 * (n + i)) (offset + size) (omega arith)))

on_success : {T P Q : Type 0} (answer : Result T DeviceFault) → (P → Q) → OnOk answer P → OnOk answer Q
on_success (Ok x) f p = f p
on_success (Err e) f p = tt

always : {T P : Type 0} (answer : Result T DeviceFault) → P → OnOk answer P
always (Ok x) p = p
always (Err e) p = tt

module _ {F : Type 0} (state : F → FileState) where
  -- a write of them to the file, as one to the disk
  pub disk_writes_run : {T : Type 0} (answer : Result T DeviceFault) (n offset : ℕ) (blocks : List (List ℕ)) (was now : FileDisk F) (file : F)
      → IsCalled state was now (same_part state was file) → n + length blocks ≤ was.blocks → offset ≡ 4096 * n → AreFull blocks
      → ((state file).honest ≡ true → offset ≤ length (state was.file).bytes → WritesAt offset (joined blocks) answer (state was.file) (state file))
      → (file_state state now).honest ≡ true
      → WritesRun n blocks answer (file_state state was) (file_state state now)
  disk_writes_run answer n offset blocks was now file called inside at full law honest =
      let count = was.blocks in
      let size = length blocks in
      let many = joined_length blocks full in
      let part = same_part state was file in
      let long = long_file state was now part called honest in
      let old = state was.file in
      let new = state file in
      let within : offset ≤ length old.bytes = omega (arith, long, at, inside) in
      let writes = law (good_file state was now part called honest) within in
      let torn = subst (λ k. IsTorn offset k old.bytes new.bytes) many (some_written answer offset (joined blocks) old new writes) in
      let is = now_shown state was now part called in
      let lengths = ap (λ m. length m.contents) is ∙ length-map-range_with_len (file_block new.bytes) 0 count ∙ sym (length-map-range_with_len (file_block old.bytes) 0 count) in
      let others : (k : ℕ) → in_run n size k ≡ false → block (file_state state now).now.contents k ≡ block (file_state state was).now.contents k =
      λ k out. ap (λ m. block m.contents k) is ∙ same_block count k old.bytes new.bytes (others_stay n size k offset old.bytes new.bytes at within out torn) in
      let others_dirty : (k : ℕ) → in_run n size k ≡ false → (file_state state now).now.dirty k ≡ (file_state state was).now.dirty k =
      λ k out.
      let same = ap (λ ws. is_touched ws k) writes.waiting ∙ others_wait n size k offset (length (joined blocks)) old.waiting at many out in
      ap (λ m. m.dirty k) is ∙ ap (λ t. t || is_unsure was.sure count k) same in
      let sure = ap (λ m. m.sure) is in
      let time : Elapses (file_state state was) (file_state state now) = record { step = inl (past_shown state was now part called) } in
      let dirty : (i : ℕ) → i < size → (file_state state now).now.dirty (n + i) ≡ true =
      λ i before.
      ap (λ m. m.dirty (n + i)) is
      ∙ or_left _ _ (ap (λ ws. is_touched ws (n + i)) writes.waiting ∙ run_waits n size i offset (length (joined blocks)) old.waiting at many before) in
      let out : (k : ℕ) → (file_state state now).now.dirty k ≡ false → in_run n size k ≡ false =
      λ k clean. clean_is_out n size (file_state state now).now.dirty dirty k clean in
      record {
        written = on_success answer (λ done i before.
            ap (λ m. block m.contents (n + i)) is ∙ block_is count (n + i) new.bytes (omega (arith, inside, before))
            ∙ ap (λ xs. file_block xs (n + i)) done
            ∙ ap (λ k. take 4096 (drop k (overwritten offset (joined blocks) old.bytes))) (omega (arith, at))
            ∙ overwritten_inside offset (4096 * i) 4096 (joined blocks) old.bytes within (omega (arith, many, before))
            ∙ joined_block blocks full i before) writes.written;
        dirty = always answer dirty;
        others_dirty = others_dirty;
        sure = sure;
        moments =
            let Q : Medium → Type 0 = TouchesOnly (in_run n size) (file_state state was).now in
            goes_on (file_state state was) (file_state state was) (file_state state now) Q
            (started (file_state state was) Q (touches_nothing (in_run n size) (file_state state was).now))
            time
            (record { count = lengths; same = others; clean = λ k out clean. others_dirty k out ∙ clean; sure = omega (arith, sure) });
        clean =
            let Q : Medium → Type 0 = CleanAsBefore (file_state state was).now in
            goes_on (file_state state was) (file_state state was) (file_state state now) Q
            (started (file_state state was) Q (as_itself (file_state state was).now))
            time
            (record { same = λ k clean. others k (out k clean); clean = λ k clean. sym (others_dirty k (out k clean)) ∙ clean });
      }

  -- what stands in the file behind the disk is as it was
  pub write_keeps_behind : {T : Type 0} (answer : Result T DeviceFault) (n size offset : ℕ) (bytes : List ℕ) (was now : FileDisk F) (file : F)
      → IsCalled state was now (same_part state was file) → n + size ≤ was.blocks → offset ≡ 4096 * n → length bytes ≡ 4096 * size
      → ((state file).honest ≡ true → offset ≤ length (state was.file).bytes → WritesAt offset bytes answer (state was.file) (state file))
      → (file_state state now).honest ≡ true
      → KeepsBehind was.blocks (state was.file) (state file)
  write_keeps_behind answer n size offset bytes was now file called inside at many law honest =
      let part = same_part state was file in
      let long = long_file state was now part called honest in
      let within : offset ≤ length (state was.file).bytes = omega (arith, long, at, inside) in
      let writes = law (good_file state was now part called honest) within in
      behind_torn offset (length bytes) was.blocks (state was.file).bytes (state file).bytes (some_written answer offset bytes (state was.file) (state file) writes) within (omega (arith, at, inside, many))
