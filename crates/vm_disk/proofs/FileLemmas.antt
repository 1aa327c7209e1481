-- How the calls of a file show as calls of a disk over it.
use Rattle.std.proofs.Common.{◌≡◌, ◌≢◌, ◌⊎◌, inl, inr, ℕ, ◌+◌, ◌-◌, ◌*◌, ◌/◌, ◌^◌, min, ◌<◌, ◌≤◌, ◌&&◌, ◌||◌, nat_lt, nat_le, Bool, true, false, List, [], ◌∷◌, length, map, replicate, take, drop, Result, Ok, Err, OnOk, refl, sym, ◌∙◌, ap, subst, arith, length-drop}
use Rattle.std.proofs.lemmas.Bool.{and_parts, and_from, and_left, and_right, or_left, lt-ltb, le-ltb, leb-true, le-leb, lt-leb, cases_order, cases_lt}
use Rattle.std.proofs.Math.Nat.{le_refl, min-eq_left}
use Rattle.std.proofs.lemmas.List.{get_or_past}
use Rattle.std.proofs.lemmas.List.FromFn.{length-map-range_with_len, get_or-map-range_with_len}
use Rattle.vm_disk.specs.declared.disk.DeviceFault.{DeviceFault}
use Rattle.vm_disk.specs.Disk.{block, Medium, DiskState, IsClean, Reads, Writes, Syncs, Lengthens, Enlarges}
use Rattle.vm_disk.specs.Positional.{FileState, overwritten, IsTorn, ReadsAt, WritesAt, SyncsFile}
use Rattle.vm_disk.specs.Past.{noted}
use Rattle.vm_disk.specs.declared.file.Earlier.{Earlier}
use Rattle.vm_disk.specs.declared.file.FileDisk.{FileDisk}
use Rattle.vm_disk.specs.File.{Part, file_state, file_block, file_blocks, touches, is_touched, is_unsure, file_medium, was_whole, part_of, part_then, IsPart, IsOver, IsMade, IsOpened, IsZero, AddsZeros, KeepsBehind, StaysHonest, unsure_dirty}
use Rattle.vm_disk.proofs.OverwrittenLemmas.{overwritten_at, overwritten_before, overwritten_after, overwritten_no_shorter}
use Rattle.vm_disk.proofs.ZeroLemmas.{zero_blocks}

-- the file is honest after the call
pub file_is_honest : (now : Part) (past : List Part) → (now.file.honest && was_whole (now ∷ past)) ≡ true → now.file.honest ≡ true
file_is_honest now past honest =
    let parts = and_parts now.file.honest (was_whole (now ∷ past)) honest in parts.0

-- the file was long enough before the call
pub long_before : (now old : Part) (past : List Part) → (now.file.honest && was_whole (now ∷ old ∷ past)) ≡ true → 4096 * old.blocks ≤ length old.file.bytes
long_before now old past honest =
    let parts = and_parts now.file.honest (was_whole (now ∷ old ∷ past)) honest in
    let before = and_parts (nat_le (4096 * now.blocks) (length now.file.bytes)) (was_whole (old ∷ past)) parts.1 in
    let then = and_parts (nat_le (4096 * old.blocks) (length old.file.bytes)) (was_whole past) before.1 in
    leb-true (4096 * old.blocks) (length old.file.bytes) then.0

-- a file that stays as it was shows what it showed
pub same_shown : (count sure : ℕ) (old new : FileState) → new.bytes ≡ old.bytes → new.waiting ≡ old.waiting
    → file_medium (record { file = new; blocks = count; sure = sure }) ≡ file_medium (record { file = old; blocks = count; sure = sure })
same_shown count sure old new bytes waiting =
    let shown : List ℕ → List (ℕ × ℕ) → Medium = λ bs ws. file_medium (record { file = record { honest = true; bytes = bs; waiting = ws; failures = 0 }; blocks = count; sure = sure }) in
    ap (λ bs. shown bs new.waiting) bytes ∙ ap (λ ws. shown old.bytes ws) waiting

-- where all blocks are sure and no write waits, none is dirty
pub sure_is_clean : (count : ℕ) (file : FileState) → file.waiting ≡ [] → IsClean (file_medium (record { file = file; blocks = count; sure = count }))
sure_is_clean count file none n =
    ap (λ ws. is_touched ws n || is_unsure count count n) none ∙ by_order (cases_lt n count)
  where
    by_order : (n < count) ⊎ (count ≤ n) → is_unsure count count n ≡ false
    by_order (inl before) = and_left _ _ (lt-leb (min count count) n (omega arith))
    by_order (inr past) = and_right _ _ (le-ltb n count past)

-- block n of the disk
pub block_is : (count n : ℕ) (bytes : List ℕ) → n < count → block (file_blocks count bytes) n ≡ file_block bytes n
block_is count n bytes inside = get_or-map-range_with_len (file_block bytes) 0 count n n [] inside (omega arith)

-- what was read is the block
pub read_is : {T : Type 0} (result : Result T DeviceFault) (count n offset : ℕ) (bytes file : List ℕ) → n < count → offset ≡ 4096 * n → length bytes ≡ 4096
    → OnOk result (bytes ≡ take (length bytes) (drop offset file))
    → OnOk result (bytes ≡ block (file_blocks count file) n)
read_is (Ok x) count n offset bytes file inside at full read =
    read ∙ ap (λ k. take k (drop offset file)) full ∙ ap (λ k. take 4096 (drop k file)) at ∙ sym (block_is count n file inside)
read_is (Err e) count n offset bytes file inside at full read = tt

-- the block that was written
pub write_is : {T : Type 0} (result : Result T DeviceFault) (count n offset : ℕ) (bytes old new : List ℕ) → n < count → offset ≡ 4096 * n → length bytes ≡ 4096 → offset ≤ length old
    → OnOk result (new ≡ overwritten offset bytes old)
    → OnOk result (block (file_blocks count new) n ≡ bytes)
write_is (Ok x) count n offset bytes old new inside at full within written =
    block_is count n new inside ∙ ap (λ k. take 4096 (drop k new)) (sym at) ∙ ap (λ xs. take 4096 (drop offset xs)) written ∙ ap (λ k. take k (drop offset (overwritten offset bytes old))) (sym full) ∙ overwritten_at offset bytes old within
write_is (Err e) count n offset bytes old new inside at full within written = tt

-- whatever was written, it was at most so many bytes
pub some_written : {T : Type 0} (result : Result T DeviceFault) (offset : ℕ) (bytes : List ℕ) (old new : FileState) → WritesAt offset bytes result old new → IsTorn offset (length bytes) old.bytes new.bytes
some_written (Ok x) offset bytes old new writes = record { bytes = bytes; few = omega arith; written = writes.written }
some_written (Err e) offset bytes old new writes = writes.torn

-- every other block
pub others_are : (count n k offset : ℕ) (old new : List ℕ) → offset ≡ 4096 * n → offset ≤ length old → k ≢ n → IsTorn offset 4096 old new → file_block new k ≡ file_block old k
others_are count n k offset old new at within apart torn =
    ap (λ xs. file_block xs k) torn.written ∙ by_order (cases_order k n)
  where
    by_order : (k ≡ n) ⊎ ((k < n) ⊎ (n < k)) → file_block (overwritten offset torn.bytes old) k ≡ file_block old k
    by_order (inl same) = absurd (apart same)
    by_order (inr (inl before)) = overwritten_before offset (4096 * k) 4096 torn.bytes old within (omega arith)
    by_order (inr (inr after)) =
        let few = torn.few in ap (take 4096) (overwritten_after offset (4096 * k) torn.bytes old within (omega arith))

-- the same block of two files
pub same_block : (count k : ℕ) (old new : List ℕ) → file_block new k ≡ file_block old k → block (file_blocks count new) k ≡ block (file_blocks count old) k
same_block count k old new same = by_order (cases_lt k count)
  where
    by_order : (k < count) ⊎ (count ≤ k) → block (file_blocks count new) k ≡ block (file_blocks count old) k
    by_order (inl inside) = block_is count k new inside ∙ same ∙ sym (block_is count k old inside)
    by_order (inr past) = past_end new past ∙ sym (past_end old past)
      where
        past_end : (bytes : List ℕ) → count ≤ k → block (file_blocks count bytes) k ≡ []
        past_end bytes past =
            let many = length-map-range_with_len (file_block bytes) 0 count in get_or_past (file_blocks count bytes) k [] (omega arith)

-- a write touches its own block
pub touched_itself : (n offset size : ℕ) (writes : List (ℕ × ℕ)) → offset ≡ 4096 * n → size ≡ 4096 → is_touched ((offset, size) ∷ writes) n ≡ true
touched_itself n offset size writes at full =
    or_left (touches (offset, size) n) (is_touched writes n) (and_from _ _ (lt-ltb offset (4096 * n + 4096) (omega arith)) (lt-ltb (4096 * n) (offset + size) (omega arith)))

-- and no other
pub others_touched : (n k offset size : ℕ) (writes : List (ℕ × ℕ)) → offset ≡ 4096 * n → size ≡ 4096 → k ≢ n → is_touched ((offset, size) ∷ writes) k ≡ is_touched writes k
others_touched n k offset size writes at full apart =
    ap (λ t. t || is_touched writes k) (untouched (cases_order k n))
  where
    untouched : (k ≡ n) ⊎ ((k < n) ⊎ (n < k)) → touches (offset, size) k ≡ false
    untouched (inl same) = absurd (apart same)
    untouched (inr (inl before)) = and_left _ _ (le-ltb offset (4096 * k + 4096) (omega arith))
    untouched (inr (inr after)) = and_right _ _ (le-ltb (4096 * k) (offset + size) (omega arith))

-- a disk that a file is long enough for
pub part_whole : (part : Part) (s : DiskState) → IsPart part s → part.file.honest ≡ true → 4096 * part.blocks ≤ length part.file.bytes → s.honest ≡ true
part_whole part s is honest long =
    is.honest ∙ and_from _ _ honest (and_from _ _ (le-leb (4096 * part.blocks) (length part.file.bytes) long) refl)

-- a disk of the whole blocks of a file
pub over_opened : (count : ℕ) (was file : FileState) (s : DiskState) → IsOver count file s → (file.honest ≡ true → was.honest ≡ true) → file.honest ≡ true → file.bytes ≡ was.bytes → file.waiting ≡ was.waiting
    → count ≡ min (length was.bytes / 4096) (2 ^ 32 - 1)
    → IsOpened was s
over_opened count was file s over earlier honest bytes waiting size =
    let same : length file.bytes ≡ length was.bytes = ap length bytes in
    let whole : ℕ → Part = λ k. record { file = was; blocks = k; sure = k } in
    record {
      file_honest = earlier honest;
      honest = part_whole (record { file = file; blocks = count; sure = count }) s over honest (omega arith);
      blocks = over.blocks ∙ size;
      now = over.now ∙ same_shown count count was file bytes waiting ∙ ap (λ k. file_medium (whole k)) (sym over.blocks);
    }

-- a disk of a file of zeros
pub made_zeros : (count : ℕ) (was file : FileState) (s : DiskState) → IsMade count file s → file.honest ≡ true → AddsZeros 0 count was file → IsZero s
made_zeros count was file s made honest zeros =
    record {
      honest = part_whole (record { file = file; blocks = count; sure = 0 }) s made honest zeros.long;
      zero = ap (λ m. m.contents) made.now ∙ zero_blocks count file.bytes (λ n inside. zeros.zero n (omega arith) inside) ∙ ap (λ k. replicate k (replicate 4096 0)) (sym made.blocks);
    }

-- it ends with them, where the file had no bytes before
pub made_length : (count : ℕ) (was file : FileState) → AddsZeros 0 count was file → KeepsBehind count was file → was.bytes ≡ [] → length file.bytes ≡ 4096 * count
made_length count was file zeros behind empty =
    let none : length (drop (4096 * count) file.bytes) ≡ length (drop (4096 * count) was.bytes) = ap length behind in
    let short : length was.bytes ≡ 0 = ap length empty in
    omega (arith, zeros.long, none, short, length-drop (4096 * count) file.bytes, length-drop (4096 * count) was.bytes)

-- a part of a file that got zero blocks
part_longer : (from to sure : ℕ) (old new : FileState) → from ≤ to → sure ≤ from → AddsZeros from to old new
    → Lengthens (file_medium (record { file = old; blocks = from; sure = sure })) (file_medium (record { file = new; blocks = to; sure = sure }))
part_longer from to sure old new order known adds =
    let had = length-map-range_with_len (file_block old.bytes) 0 from in
    let has = length-map-range_with_len (file_block new.bytes) 0 to in
    let least : min sure to ≡ min sure from = omega arith in
    record {
      more = omega arith;
      same = λ n before.
          let here : n < from = omega arith in
          block_is to n new.bytes (omega arith) ∙ adds.same n here ∙ sym (block_is from n old.bytes here);
      same_dirty = λ n before.
          let here : n < from = omega arith in
          let there : n < to = omega arith in
          ap (λ t. t || is_unsure sure to n) (adds.same_waiting n here)
          ∙ ap (λ k. is_touched old.waiting n || nat_le k n && nat_lt n to) least
          ∙ ap (λ t. is_touched old.waiting n || nat_le (min sure from) n && t) (lt-ltb n to there ∙ sym (lt-ltb n from here));
      dirty = λ n after before. unsure_dirty sure to new.bytes new.waiting n (omega arith) before;
      sure = least;
    }

module _ {F : Type 0} (state : F → FileState) where
  -- what it was before, and before that
  abbrev parts_before : FileDisk F → List Part
  parts_before was = part_of state was ∷ map (part_then state) (noted was.past)

  -- one call more was made of the file, and the disk is now this part of it
  pub record IsCalled (was now : FileDisk F) (part : Part) : Type 0 where
    pub is : part_of state now ≡ part
    pub earlier : Earlier F
    pub told : part_then state earlier ≡ part_of state was
    pub past : noted now.past ≡ earlier ∷ noted was.past

  -- the file of an honest disk is honest
  pub disk_file_is_honest : (disk : FileDisk F) → (file_state state disk).honest ≡ true → (state disk.file).honest ≡ true
  disk_file_is_honest disk honest = file_is_honest (part_of state disk) (map (part_then state) (noted disk.past)) honest

  past_is : (was now : FileDisk F) (part : Part) → IsCalled was now part → map (part_then state) (noted now.past) ≡ parts_before was
  past_is was now part called =
      ap (map (part_then state)) called.past ∙ ap (λ p. p ∷ map (part_then state) (noted was.past)) called.told

  still_honest : (was now : FileDisk F) (part : Part) → IsCalled was now part → (file_state state now).honest ≡ true
      → (part.file.honest && was_whole (part ∷ parts_before was)) ≡ true
  still_honest was now part called honest =
      let shown : Part → List Part → Bool = λ p ps. p.file.honest && was_whole (p ∷ ps) in
      ap (λ p. shown p (parts_before was)) (sym called.is) ∙ ap (λ ps. shown (part_of state now) ps) (sym (past_is was now part called)) ∙ honest

  pub now_shown : (was now : FileDisk F) (part : Part) → IsCalled was now part → (file_state state now).now ≡ file_medium part
  now_shown was now part called = ap file_medium called.is

  pub past_shown : (was now : FileDisk F) (part : Part) → IsCalled was now part → (file_state state now).past ≡ (file_state state was).now ∷ (file_state state was).past
  past_shown was now part called = ap (map file_medium) (past_is was now part called)

  pub good_file : (was now : FileDisk F) (part : Part) → IsCalled was now part → (file_state state now).honest ≡ true → part.file.honest ≡ true
  good_file was now part called honest =
      file_is_honest part (parts_before was) (still_honest was now part called honest)

  pub long_file : (was now : FileDisk F) (part : Part) → IsCalled was now part → (file_state state now).honest ≡ true → 4096 * was.blocks ≤ length (state was.file).bytes
  long_file was now part called honest =
      long_before part (part_of state was) (map (part_then state) (noted was.past)) (still_honest was now part called honest)

  -- the same part of the file, which is now this one
  abbrev pub same_part : FileDisk F → F → Part
  same_part was file = record { file = state file; blocks = was.blocks; sure = was.sure }

  -- the same blocks of it, all of them sure
  abbrev pub sure_part : FileDisk F → F → Part
  sure_part was file = record { file = state file; blocks = was.blocks; sure = was.blocks }

  -- more blocks of it
  abbrev pub grown_part : FileDisk F → F → ℕ → Part
  grown_part was file blocks = record { file = state file; blocks = blocks; sure = was.sure }

  -- a read of the file, as a read of the disk
  pub disk_reads : {T : Type 0} (answer : Result T DeviceFault) (n offset : ℕ) (bytes : List ℕ) (was now : FileDisk F) (file : F)
      → IsCalled was now (same_part was file) → n < was.blocks → offset ≡ 4096 * n → length bytes ≡ 4096
      → ((state file).honest ≡ true → ReadsAt offset bytes answer (state was.file) (state file))
      → (file_state state now).honest ≡ true
      → Reads n bytes answer (file_state state was) (file_state state now)
  disk_reads answer n offset bytes was now file called inside at full law honest =
      let reads = law (good_file was now (same_part was file) called honest) in
      record {
        bytes_are = read_is answer was.blocks n offset bytes (state was.file).bytes inside at full reads.bytes_are;
        same = now_shown was now (same_part was file) called ∙ same_shown was.blocks was.sure (state was.file) (state file) reads.same reads.same_waiting;
        time = record { step = inl (past_shown was now (same_part was file) called) };
      }

  -- a write to the file, as a write to the disk
  pub disk_writes : {T : Type 0} (answer : Result T DeviceFault) (n offset : ℕ) (bytes : List ℕ) (was now : FileDisk F) (file : F)
      → IsCalled was now (same_part was file) → n < was.blocks → offset ≡ 4096 * n → length bytes ≡ 4096
      → ((state file).honest ≡ true → offset ≤ length (state was.file).bytes → WritesAt offset bytes answer (state was.file) (state file))
      → (file_state state now).honest ≡ true
      → Writes n bytes answer (file_state state was) (file_state state now)
  disk_writes answer n offset bytes was now file called inside at full law honest =
      let count = was.blocks in
      let long = long_file was now (same_part was file) called honest in
      let old = state was.file in
      let new = state file in
      let within : offset ≤ length old.bytes = omega arith in
      let writes = law (good_file was now (same_part was file) called honest) within in
      let some = some_written answer offset bytes old new writes in
      let torn = subst (λ k. IsTorn offset k old.bytes new.bytes) full some in
      let is = now_shown was now (same_part was file) called in
      let touched = ap (λ ws. is_touched ws n) writes.waiting ∙ touched_itself n offset (length bytes) old.waiting at full in
      let W : Medium → Type 0 = λ m. OnOk answer (block m.contents n ≡ bytes) in record {
        written = subst W (sym is) (write_is answer count n offset bytes old.bytes new.bytes inside at full within writes.written);
        dirty = ap (λ m. m.dirty n) is ∙ or_left _ _ touched;
        count = ap (λ m. length m.contents) is ∙ length-map-range_with_len (file_block new.bytes) 0 count ∙ sym (length-map-range_with_len (file_block old.bytes) 0 count);
        others = λ k apart. ap (λ m. block m.contents k) is ∙ same_block count k old.bytes new.bytes (others_are count n k offset old.bytes new.bytes at within apart torn);
        others_dirty = λ k apart.
            let same = ap (λ ws. is_touched ws k) writes.waiting ∙ others_touched n k offset (length bytes) old.waiting at full apart in
            ap (λ m. m.dirty k) is ∙ ap (λ t. t || is_unsure was.sure count k) same;
        sure = ap (λ m. m.sure) is;
        time = record { step = inl (past_shown was now (same_part was file) called) };
      }

  -- a sync of the file that succeeded, as one of the disk
  pub disk_synced : {T : Type 0} (x : T) (was now : FileDisk F) (file : F)
      → IsCalled was now (sure_part was file)
      → ((state file).honest ≡ true → SyncsFile (Ok x) (state was.file) (state file))
      → (file_state state now).honest ≡ true
      → Syncs (Ok x) (file_state state was) (file_state state now)
  disk_synced x was now file called law honest =
      let syncs = law (good_file was now (sure_part was file) called honest) in
      let is = now_shown was now (sure_part was file) called in
      record {
        synced = λ n. ap (λ m. m.dirty n) is ∙ sure_is_clean was.blocks (state file) syncs.synced n;
        failed = tt;
        same = ap (λ m. m.contents) is ∙ ap (file_blocks was.blocks) syncs.same;
        sure = ap (λ m. m.sure) is ∙ min-eq_left (le_refl was.blocks) ∙ sym (length-map-range_with_len (file_block (state file).bytes) 0 was.blocks) ∙ ap (λ m. length m.contents) (sym is);
        time = record { step = inl (past_shown was now (sure_part was file) called) };
      }

  -- a growing of the file, as one of the disk
  pub disk_extends : (was now : FileDisk F) (file : F) (blocks : ℕ)
      → IsCalled was now (grown_part was file blocks) → was.blocks ≤ blocks
      → ((state file).honest ≡ true → 4096 * was.blocks ≤ length (state was.file).bytes → AddsZeros was.blocks blocks (state was.file) (state file))
      → (file_state state now).honest ≡ true
      → Enlarges (file_state state was) (file_state state now)
  disk_extends was now file blocks called order law honest =
      let part = grown_part was file blocks in
      let adds = law (good_file was now part called honest) (long_file was now part called honest) in
      let R : Medium → Type 0 = λ m. Lengthens (file_state state was).now m in
      record {
        longer = subst R (sym (now_shown was now part called))
            (part_longer was.blocks blocks was.sure (state was.file) (state file) order was.known adds);
        time = record { step = inl (past_shown was now part called) };
      }

  -- what is known of the file of an honest disk that got blocks
  pub disk_adds : (R : Type 0) (was now : FileDisk F) (file : F) (blocks : ℕ)
      → IsCalled was now (grown_part was file blocks)
      → ((state file).honest ≡ true → 4096 * was.blocks ≤ length (state was.file).bytes → R)
      → (file_state state now).honest ≡ true
      → R
  disk_adds R was now file blocks called law honest =
      law (good_file was now (grown_part was file blocks) called honest) (long_file was now (grown_part was file blocks) called honest)

  -- the disk is honest after the call where its file is, and is long enough
  pub stays : (was now : FileDisk F) (part : Part)
      → IsCalled was now part
      → (part.file.honest ≡ true → 4096 * was.blocks ≤ length (state was.file).bytes → 4096 * part.blocks ≤ length part.file.bytes)
      → StaysHonest state was now
  stays was now part called longer before good =
      let shown : Part → List Part → Bool = λ p ps. p.file.honest && was_whole (p ∷ ps) in
      let kept : part.file.honest ≡ true = ap (λ p. p.file.honest) (sym called.is) ∙ good in
      let old = and_parts (state was.file).honest (was_whole (parts_before was)) before in
      let parts = and_parts (nat_le (4096 * was.blocks) (length (state was.file).bytes)) (was_whole (map (part_then state) (noted was.past))) old.1 in
      let long = leb-true (4096 * was.blocks) (length (state was.file).bytes) parts.0 in
      let end : shown part (parts_before was) ≡ true = and_from _ _ kept (and_from _ _ (le-leb (4096 * part.blocks) (length part.file.bytes) (longer kept long)) old.1) in
      ap (λ ps. shown (part_of state now) ps) (past_is was now part called) ∙ ap (λ p. shown p (parts_before was)) called.is ∙ end

  -- after a call that leaves the bytes as they were
  pub same_stays : (was now : FileDisk F) (part : Part) → IsCalled was now part → part.blocks ≡ was.blocks → (part.file.honest ≡ true → part.file.bytes ≡ (state was.file).bytes) → StaysHonest state was now
  same_stays was now part called count same =
      stays was now part called (λ good long. let e : length part.file.bytes ≡ length (state was.file).bytes = ap length (same good) in omega arith)

  -- after a write
  pub write_stays : {T : Type 0} (answer : Result T DeviceFault) (n offset : ℕ) (bytes : List ℕ) (was now : FileDisk F) (file : F)
      → IsCalled was now (same_part was file) → n ≤ was.blocks → offset ≡ 4096 * n
      → ((state file).honest ≡ true → offset ≤ length (state was.file).bytes → WritesAt offset bytes answer (state was.file) (state file))
      → StaysHonest state was now
  write_stays answer n offset bytes was now file called inside at law =
      stays was now (same_part was file) called (λ good long.
      let old = (state was.file).bytes in
      let within : offset ≤ length old = omega arith in
      let torn = some_written answer offset bytes (state was.file) (state file) (law good within) in
      omega (arith, ap length torn.written, overwritten_no_shorter offset torn.bytes old within))

  -- after a growing
  pub extend_stays : (was now : FileDisk F) (file : F) (blocks : ℕ)
      → IsCalled was now (grown_part was file blocks)
      → ((state file).honest ≡ true → 4096 * was.blocks ≤ length (state was.file).bytes → AddsZeros was.blocks blocks (state was.file) (state file))
      → StaysHonest state was now
  extend_stays was now file blocks called law = stays was now (grown_part was file blocks) called (λ good long. (law good long).long)
