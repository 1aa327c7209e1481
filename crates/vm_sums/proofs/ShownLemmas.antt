-- A disk that shows another one keeps the rules of a disk.
use Rattle.std.proofs.Common.{◌≡◌, ◌⊎◌, inl, inr, ℕ, ◌<◌, ◌≤◌, true, false, List, [], ◌∷◌, length, map, Result, Ok, Err, OnOk, OnErr, sym, ap, ◌∙◌, arith}
use Rattle.std.proofs.lemmas.Bool.{cases_lt}
use Rattle.std.proofs.lemmas.List.{get_or_past, length-map}
use Rattle.std.proofs.lemmas.List.FromFn.{get_or-map-range_with_len}
use Rattle.vm_disk.specs.declared.disk.DeviceFault.{DeviceFault}
use Rattle.vm_disk.specs.Disk.{Contents, block, Medium, DiskState, MayLeave, LeftPast, Elapses, Reads, Writes, Syncs, Lengthens, Enlarges}
use Rattle.vm_sums.specs.Sums.{summed}
use Rattle.vm_sums.specs.Summed.{shown_contents, shown_length, shown, shown_state, CrashesShow}

-- a block that is there
pub shown_block : (contents : Contents) (n : ℕ) → n < length contents → block (shown_contents contents) n ≡ summed n (block contents n)
shown_block contents n inside = get_or-map-range_with_len (λ k. summed k (block contents k)) 0 (length contents) n n [] inside (omega arith)

-- one that is not
shown_past : (contents : Contents) (n : ℕ) → length contents ≤ n → block (shown_contents contents) n ≡ []
shown_past contents n past = get_or_past (shown_contents contents) n [] (omega (arith, shown_length contents, past))

-- the same block shows the same
same_shown : (c c' : Contents) (n : ℕ) → length c' ≡ length c → block c' n ≡ block c n → block (shown_contents c') n ≡ block (shown_contents c) n
same_shown c c' n count same = by_place (cases_lt n (length c))
  where
    by_place : (n < length c) ⊎ (length c ≤ n) → block (shown_contents c') n ≡ block (shown_contents c) n
    by_place (inl inside) = shown_block c' n (omega (arith, count, inside)) ∙ ap (summed n) same ∙ sym (shown_block c n inside)
    by_place (inr past) = shown_past c' n (omega (arith, count, past)) ∙ sym (shown_past c n past)

on_ok : {T P Q : Type 0} (r : Result T DeviceFault) → (P → Q) → OnOk r P → OnOk r Q
on_ok (Ok x) more p = more p
on_ok (Err e) more p = p

on_err : {T P Q : Type 0} (r : Result T DeviceFault) → (P → Q) → OnErr r P → OnErr r Q
on_err (Ok x) more p = p
on_err (Err e) more p = more p

elapses_show : (old new : DiskState) → Elapses old new → Elapses (shown_state old) (shown_state new)
elapses_show old new e = record { step = by_step e.step }
  where
    by_step : (new.past ≡ old.now ∷ old.past) ⊎ ((new.past ≡ old.past) × (new.now ≡ old.now))
        → ((shown_state new).past ≡ (shown_state old).now ∷ (shown_state old).past) ⊎ (((shown_state new).past ≡ (shown_state old).past) × ((shown_state new).now ≡ (shown_state old).now))
    by_step (inl past) = inl (ap (map shown) past)
    by_step (inr same) = inr (ap (map shown) same.0, ap shown same.1)

-- a block was read, and exchanged
pub reads_show : {T : Type 0} (n : ℕ) (bytes given : List ℕ) (r : Result T DeviceFault) (old new : DiskState) → n < length old.now.contents
    → OnOk r (given ≡ summed n bytes) → Reads n bytes r old new → Reads n given r (shown_state old) (shown_state new)
reads_show {T} n bytes given r old new inside gives reads = record { bytes_are = by_result r gives reads.bytes_are; same = ap shown reads.same; time = elapses_show old new reads.time }
  where
    by_result : (r : Result T DeviceFault) → OnOk r (given ≡ summed n bytes) → OnOk r (bytes ≡ block old.now.contents n) → OnOk r (given ≡ block (shown_contents old.now.contents) n)
    by_result (Ok x) gives are = gives ∙ ap (summed n) are ∙ sym (shown_block old.now.contents n inside)
    by_result (Err e) gives are = are

-- a block was exchanged, and written
pub writes_show : {T : Type 0} (n : ℕ) (bytes given : List ℕ) (r : Result T DeviceFault) (old new : DiskState) → n < length old.now.contents
    → summed n bytes ≡ given → Writes n bytes r old new → Writes n given r (shown_state old) (shown_state new)
writes_show n bytes given r old new inside back writes = record {
  written = on_ok r (λ is. shown_block new.now.contents n (omega (arith, inside, writes.count)) ∙ ap (summed n) is ∙ back) writes.written;
  dirty = writes.dirty;
  count = shown_length new.now.contents ∙ writes.count ∙ sym (shown_length old.now.contents);
  others = λ k apart. same_shown old.now.contents new.now.contents k writes.count (writes.others k apart);
  others_dirty = writes.others_dirty;
  sure = writes.sure;
  time = elapses_show old new writes.time;
}

-- all was synced
pub syncs_show : {T : Type 0} (r : Result T DeviceFault) (old new : DiskState) → Syncs r old new → Syncs r (shown_state old) (shown_state new)
syncs_show r old new syncs = record {
  synced = syncs.synced;
  failed = on_err r (ap shown) syncs.failed;
  same = ap shown_contents syncs.same;
  sure = on_ok r (λ is. is ∙ sym (shown_length new.now.contents)) syncs.sure;
  time = elapses_show old new syncs.time;
}

lengthens_show : (old new : Medium) → Lengthens old new → Lengthens (shown old) (shown new)
lengthens_show old new longer = record {
  more = omega (arith, shown_length old.contents, shown_length new.contents, longer.more);
  same = λ n inside.
      let there : n < length old.contents = omega (arith, inside, shown_length old.contents) in
      shown_block new.contents n (omega (arith, there, longer.more)) ∙ ap (summed n) (longer.same n there) ∙ sym (shown_block old.contents n there);
  same_dirty = λ n inside. longer.same_dirty n (omega (arith, inside, shown_length old.contents));
  dirty = λ n past inside. longer.dirty n (omega (arith, past, shown_length old.contents)) (omega (arith, inside, shown_length new.contents));
  sure = longer.sure;
}

-- the disk grew
pub enlarges_show : (old new : DiskState) → Enlarges old new → Enlarges (shown_state old) (shown_state new)
enlarges_show old new enlarges = record { longer = lengthens_show old.now new.now enlarges.longer; time = elapses_show old new enlarges.time }

-- what a crash may leave shows as what a crash may leave
may_show : (m : Medium) (left : Contents) → MayLeave m left → MayLeave (shown m) (shown_contents left)
may_show m left may = record {
  least = omega (arith, may.least, shown_length left);
  most = omega (arith, may.most, shown_length left, shown_length m.contents);
  clean = λ n clean. by_place n clean (cases_lt n (length left)) (cases_lt n (length m.contents));
}
  where
    by_place : (n : ℕ) → m.dirty n ≡ false → (n < length left) ⊎ (length left ≤ n) → (n < length m.contents) ⊎ (length m.contents ≤ n) → block (shown_contents left) n ≡ block (shown_contents m.contents) n
    by_place n clean (inl inside) (inl there) = shown_block left n inside ∙ ap (summed n) (may.clean n clean) ∙ sym (shown_block m.contents n there)
    by_place n clean (inl inside) (inr past) = let e : ⊥ = omega (arith, inside, past, may.most) in absurd e
    by_place n clean (inr gone) (inl there) = let e : true ≡ false = sym (m.unsure n (omega (arith, gone, may.least)) there) ∙ clean in cc
    by_place n clean (inr gone) (inr past) = shown_past left n gone ∙ sym (shown_past m.contents n past)

left_show : (ms : List Medium) (t : ℕ) (left : Contents) → LeftPast ms t left → LeftPast (map shown ms) t (shown_contents left)
left_show [] t left never = never
left_show (m ∷ earlier) t left (inl now) = inl (now.0 ∙ sym (length-map earlier shown), may_show m left now.1)
left_show (m ∷ earlier) t left (inr before) = inr (left_show earlier t left before)

pub crashes_show : (s : DiskState) → CrashesShow (shown_state s) s
crashes_show s t left may = left_show (s.now ∷ s.past) t left may
