-- What the calls leave of the written blocks that are kept: the disk below holds them.
use Rattle.std.proofs.Common.{◌≡◌, ◌≢◌, ◌⊎◌, inl, inr, ℕ, ◌+◌, ◌<◌, ◌≤◌, ◌&&◌, ◌||◌, true, false, if◌then◌else◌, List, [], length, is_some, slice_index_or, Option, Some, None, nat_eq, nat_le, nat_lt, Box, Global, Result, Ok, refl, sym, ap, ◌∙◌, subst, eqb-true, eq-eqb, arith}
use Rattle.lru.specs.LruCache.{LruCache}
use Rattle.std.specs.Map.{lookup}
use Rattle.vm_disk.specs.declared.disk.DeviceFault.{DeviceFault}
use Rattle.vm_disk.specs.declared.waiting.Waiting.{Waiting}
use Rattle.vm_disk.specs.Disk.{DiskState, Medium, block, Counts, Writes}
use Rattle.vm_disk.specs.Kept.{rooms_in}
use Rattle.vm_disk.specs.Laid.{laid, over}
use Rattle.vm_disk.specs.Layers.{some_or}
use Rattle.vm_disk.specs.Moments.{TouchesOnly, WritesRun, in_run}
use Rattle.vm_disk.specs.Waiting.{bytes_for, first_of, known_for, waits, written_for, written_in, Drops, Gains, IsRun, Settles}
use Rattle.vm_disk.proofs.CachedLemmas.{AreRight}
use Rattle.vm_disk.proofs.KeptLemmas.{cond_no}
use Rattle.vm_disk.proofs.LaidLemmas.{found, laid_block, laid_same}
use Rattle.vm_disk.proofs.MomentLemmas.{at_end}

-- after block n was dropped
pub gains_over : (n : ℕ) (bytes : List ℕ) (old mid : Waiting) → Drops n old mid
    → (k : ℕ) (kept : List ℕ) → ((nat_eq n k ≡ true) × (kept ≡ bytes)) ⊎ ((nat_eq n k ≡ false) × (written_for mid k ≡ Some kept))
    → ((nat_eq n k ≡ true) × (kept ≡ bytes)) ⊎ ((nat_eq n k ≡ false) × (written_for old k ≡ Some kept))
gains_over n bytes old mid drops k kept (inl w) = inl w
gains_over n bytes old mid drops k kept (inr w) = inr (w.0, (drops k kept w.1).1)

-- the same written ones are kept
pub same_written : (old new : Waiting) → new.written ≡ old.written → (k : ℕ) → written_for new k ≡ written_for old k
same_written old new same k = ap (λ (rooms : LruCache ℕ (Box (List ℕ) Global)). lookup (nat_eq k) (rooms_in rooms)) same

-- block n was settled
pub settles_one : (n : ℕ) (bytes : List ℕ) (old mid new : Waiting) → bytes_for old n ≡ Some bytes → mid.written ≡ old.written → Gains n bytes mid new → Settles (nat_eq n) old new
settles_one n bytes old mid new waited same gains k kept h = by_case (gains k kept h)
  where
    by_case : ((nat_eq n k ≡ true) × (kept ≡ bytes)) ⊎ ((nat_eq n k ≡ false) × (written_for mid k ≡ Some kept))
        → ((nat_eq n k ≡ true) × (bytes_for old k ≡ Some kept)) ⊎ ((nat_eq n k ≡ false) × (written_for old k ≡ Some kept))
    by_case (inl w) = inl (w.0, ap (bytes_for old) (sym (eqb-true n k w.0)) ∙ waited ∙ ap Some (sym w.1))
    by_case (inr w) = inr (w.0, sym (same_written old mid same k) ∙ w.1)

-- block n did not wait
pub settles_none : (n : ℕ) (old mid new : Waiting) → mid.written ≡ old.written → Drops n mid new → Settles (nat_eq n) old new
settles_none n old mid new same drops k kept h =
    let left = drops k kept h in inr (left.0, sym (same_written old mid same k) ∙ left.1)

row_longer : (first n k : ℕ) → (nat_le first k && nat_lt k n) ≡ true → (nat_le first k && nat_lt k (n + 1)) ≡ true
row_longer first n k inside = grind arith

row_same : (first n k : ℕ) → nat_eq n k ≡ false → (nat_le first k && nat_lt k n) ≡ false → (nat_le first k && nat_lt k (n + 1)) ≡ false
row_same first n k apart outside = grind arith

row_last : (first n k : ℕ) → first ≤ n → nat_eq n k ≡ true → (nat_le first k && nat_lt k (n + 1)) ≡ true
row_last first n k from here = grind arith

row_ends : (first n k : ℕ) → nat_eq n k ≡ true → (nat_le first k && nat_lt k n) ≡ false
row_ends first n k here = grind arith

-- one more of a row was settled
pub settles_one_more : (first n : ℕ) (old mid new : Waiting) → first ≤ n
    → ((k : ℕ) → bytes_for mid k ≡ (if nat_le first k && nat_lt k n then None else bytes_for old k))
    → Settles (λ k. nat_le first k && nat_lt k n) old mid → Settles (nat_eq n) mid new → Settles (λ k. nat_le first k && nat_lt k (n + 1)) old new
settles_one_more first n old mid new from gone so_far last k bytes h = by_last (last k bytes h)
  where
    by_so_far : nat_eq n k ≡ false → (((nat_le first k && nat_lt k n) ≡ true) × (bytes_for old k ≡ Some bytes)) ⊎ (((nat_le first k && nat_lt k n) ≡ false) × (written_for old k ≡ Some bytes))
        → (((nat_le first k && nat_lt k (n + 1)) ≡ true) × (bytes_for old k ≡ Some bytes)) ⊎ (((nat_le first k && nat_lt k (n + 1)) ≡ false) × (written_for old k ≡ Some bytes))
    by_so_far z (inl w) = inl (row_longer first n k w.0, w.1)
    by_so_far z (inr w) = inr (row_same first n k z w.0, w.1)

    by_last : ((nat_eq n k ≡ true) × (bytes_for mid k ≡ Some bytes)) ⊎ ((nat_eq n k ≡ false) × (written_for mid k ≡ Some bytes))
        → (((nat_le first k && nat_lt k (n + 1)) ≡ true) × (bytes_for old k ≡ Some bytes)) ⊎ (((nat_le first k && nat_lt k (n + 1)) ≡ false) × (written_for old k ≡ Some bytes))
    by_last (inl w) = inl (row_last first n k from w.0, sym (cond_no _ _ (row_ends first n k w.0)) ∙ sym (gone k) ∙ w.1)
    by_last (inr w) = by_so_far w.0 (so_far k bytes w.1)

-- the same blocks wait, so the same is shown
pub same_shown : (old new : Waiting) → new.rooms ≡ old.rooms → (m : Medium) → laid (bytes_for new) m ≡ laid (bytes_for old) m
same_shown old new same m = ap (λ (rooms : LruCache ℕ (Box (List ℕ) Global)). laid (λ n. lookup (nat_eq n) (rooms_in rooms)) m) same

pub same_bytes : (old new : Waiting) → new.rooms ≡ old.rooms → (k : ℕ) → bytes_for new k ≡ bytes_for old k
same_bytes old new same k = ap (λ (rooms : LruCache ℕ (Box (List ℕ) Global)). lookup (nat_eq k) (rooms_in rooms)) same

other : (n k : ℕ) → nat_eq n k ≡ false → k ≢ n
other n k z same = let clash : true ≡ false = sym (eq-eqb n k (sym same)) ∙ z in cc

-- a block that is known is shown so
pub known_shown : (s : DiskState) (waiting : Waiting) (n : ℕ) (bytes : List ℕ) → s.honest ≡ true → AreRight s (written_in waiting) → n < length s.now.contents
    → known_for waiting n ≡ Some bytes → block (laid (bytes_for waiting) s.now).contents n ≡ bytes
known_shown s waiting n bytes honest right inside known =
    laid_block (bytes_for waiting) s.now.contents n inside ∙ by (bytes_for waiting n) (written_for waiting n) known (right honest n)
  where
    by : (o written : Option (List ℕ)) → first_of o written ≡ Some bytes → ((kept : List ℕ) → written ≡ Some kept → (n < length s.now.contents) × (kept ≡ block s.now.contents n))
        → over o (block s.now.contents n) ≡ bytes
    by (Some waiting) written h held = cc
    by None written h held = sym (held bytes h).1

-- the same bytes wait for each block, so the same is shown
pub alike_shown : (old new : Waiting) → ((k : ℕ) → bytes_for new k ≡ bytes_for old k) → (m : Medium) → laid (bytes_for new) m ≡ laid (bytes_for old) m
alike_shown old new same m =
    laid_same (bytes_for old) (bytes_for new) m m refl refl
    (λ n. ap (λ o. over o (block m.contents n)) (same n))
    (λ n. ap (λ (o : Option (List ℕ)). m.dirty n || is_some o) (same n))

-- what is there are its bytes, or else those
pub some_there : (o first : Option (List ℕ)) (below : List ℕ) → is_some o ≡ true → first ≡ o → o ≡ Some (some_or first below)
some_there None first below there is = cc
some_there (Some bytes) first below there is = ap (λ o. Some (some_or o below)) (sym is)

-- one that does not wait, and is kept as a written one, is known
pub known_written : (waiting : Waiting) (n : ℕ) (bytes : List ℕ) → waits waiting n ≡ false → written_for waiting n ≡ Some bytes → known_for waiting n ≡ Some bytes
known_written waiting n bytes gone kept = by (bytes_for waiting n) gone
  where
    by : (o : Option (List ℕ)) → is_some o ≡ false → first_of o (written_for waiting n) ≡ Some bytes
    by None h = kept
    by (Some other) h = cc

-- none waits where it does not
pub none_for : (waiting : Waiting) (n : ℕ) → waits waiting n ≡ false → bytes_for waiting n ≡ None
none_for waiting n gone = by (bytes_for waiting n) gone
  where
    by : (o : Option (List ℕ)) → is_some o ≡ false → o ≡ None
    by None h = refl
    by (Some bytes) h = cc

-- one that is not known does not wait
pub unknown_waits : (waiting : Waiting) (n : ℕ) → known_for waiting n ≡ None → bytes_for waiting n ≡ None
unknown_waits waiting n unknown = by (bytes_for waiting n) unknown
  where
    by : (o : Option (List ℕ)) → first_of o (written_for waiting n) ≡ None → o ≡ None
    by None h = refl
    by (Some bytes) h = cc

-- none is kept
pub right_none : (s : DiskState) (waiting : Waiting) → written_in waiting ≡ [] → AreRight s (written_in waiting)
right_none s waiting none honest n bytes found =
    let clash : None ≡ Some bytes = sym (ap (lookup (nat_eq n)) none) ∙ found in absurd cc

-- block n was written, and settled
pub right_settled : {T : Type 0} (result : Result T DeviceFault) (x : T) (old new : DiskState) (n : ℕ) (bytes : List ℕ) (was is : Waiting)
    → result ≡ Ok x → bytes_for was n ≡ Some bytes → Settles (nat_eq n) was is
    → n < old.blocks → (old.honest ≡ true → length old.now.contents ≡ old.blocks)
    → Counts 0 result old new → (new.honest ≡ true → Writes n bytes result old new)
    → AreRight old (written_in was) → AreRight new (written_in is)
right_settled {T} result x old new n bytes was is ok waited settles inside whole counts writes right honest k kept there = by_case (settles k kept there)
  where
    written : Writes n bytes (Ok x) old new
    written = let R : Result T DeviceFault → Type 0 = λ r. Writes n bytes r old new in subst R ok (writes honest)

    by_case : ((nat_eq n k ≡ true) × (bytes_for was k ≡ Some kept)) ⊎ ((nat_eq n k ≡ false) × (written_for was k ≡ Some kept))
        → (k < length new.now.contents) × (kept ≡ block new.now.contents k)
    by_case (inl w) =
        let here = eqb-true n k w.0 in
        let same : Some bytes ≡ Some kept = sym waited ∙ ap (bytes_for was) here ∙ w.1 in
        let bytes_are : kept ≡ bytes = cc in
        let all = whole (counts.earlier honest) in
        let count = written.count in
        (omega (arith, inside, all, count, here), bytes_are ∙ sym written.written ∙ ap (block new.now.contents) here)
    by_case (inr w) =
        let held = right (counts.earlier honest) k kept w.1 in
        let count = written.count in
        (omega (arith, held.0, count), held.1 ∙ sym (written.others k (other n k w.0)))

-- blocks of a row were written, and settled
pub right_run_settled : {T : Type 0} (result : Result T DeviceFault) (x : T) (old new : DiskState) (first : ℕ) (blocks : List (List ℕ)) (was is : Waiting)
    → result ≡ Ok x → IsRun first blocks was → Settles (in_run first (length blocks)) was is
    → ((n : ℕ) → waits was n ≡ true → n < old.blocks) → (old.honest ≡ true → length old.now.contents ≡ old.blocks)
    → Counts 0 result old new → (new.honest ≡ true → WritesRun first blocks result old new)
    → AreRight old (written_in was) → AreRight new (written_in is)
right_run_settled {T} result x old new first blocks was is ok run settles inside whole counts writes right honest k kept there = by_case (settles k kept there)
  where
    written : WritesRun first blocks (Ok x) old new
    written = let R : Result T DeviceFault → Type 0 = λ r. WritesRun first blocks r old new in subst R ok (writes honest)

    touches : TouchesOnly (in_run first (length blocks)) old.now new.now
    touches = at_end old new (TouchesOnly (in_run first (length blocks)) old.now) written.moments

    by_case : ((in_run first (length blocks) k ≡ true) × (bytes_for was k ≡ Some kept)) ⊎ ((in_run first (length blocks) k ≡ false) × (written_for was k ≡ Some kept))
        → (k < length new.now.contents) × (kept ≡ block new.now.contents k)
    by_case (inl w) =
        let at = found (bytes_for was) first blocks old new run k w.0 in
        let same : Some (slice_index_or blocks at.0 []) ≡ Some kept = sym (run at.0 at.1) ∙ ap (bytes_for was) at.2 ∙ w.1 in
        let bytes_are : kept ≡ slice_index_or blocks at.0 [] = cc in
        let few = inside k (ap (λ (o : Option (List ℕ)). is_some o) w.1) in
        let all = whole (counts.earlier honest) in
        let count = touches.count in
        (omega (arith, few, all, count), bytes_are ∙ sym (written.written at.0 at.1) ∙ ap (block new.now.contents) at.2)
    by_case (inr w) =
        let held = right (counts.earlier honest) k kept w.1 in
        let count = touches.count in
        (omega (arith, held.0, count), held.1 ∙ sym (touches.same k w.0))
