-- The kept blocks have the bytes of the disk below, after each way through a call.
use Rattle.std.proofs.Common.{◌≡◌, ◌⊎◌, ℕ, ◌+◌, ◌<◌, ◌≤◌, Bool, true, false, List, length, nat_eq, Some, Result, Ok, refl, sym, ap, ◌∙◌, subst, inl, inr, arith}
use Rattle.std.specs.Bool.{OnTrue, OnFalse}
use Rattle.std.specs.Map.{lookup, remove_entry}
use Rattle.vm_disk.specs.declared.disk.DeviceFault.{DeviceFault}
use Rattle.vm_disk.specs.Disk.{DiskState, Medium, Contents, block, Counts, Reads, Writes, Extends, Enlarges}
use Rattle.vm_disk.specs.Moments.{TouchesOnly, WritesRun, in_run}
use Rattle.vm_disk.specs.declared.kept.Kept.{Kept}
use Rattle.vm_disk.specs.Kept.{Entries, keeps, with_first, without_run, entries_of, AreOf, UsesBlock, UsesBlocks}
use Rattle.vm_disk.proofs.KeptLemmas.{first_are_by, rest_are_by, used_are_by}
use Rattle.vm_disk.proofs.MomentLemmas.{at_end}
use Rattle.vm_disk.proofs.KeptRunLemmas.{lost_run_are_by, run_are_by}

-- the kept blocks are right while the disk is honest
abbrev pub AreRight : DiskState → Entries → Type 0
AreRight s es = s.honest ≡ true → AreOf s.now.contents es

on_true : (P : Type 0) (b : Bool) → b ≡ true → OnTrue b P → P
on_true P b hits h = let R : Bool → Type 0 = λ x. OnTrue x P in subst R hits h

on_false : (P : Type 0) (b : Bool) → b ≡ false → OnFalse b P → P
on_false P b misses h = let R : Bool → Type 0 = λ x. OnFalse x P in subst R misses h

same_right : (contents : Contents) (es es' : Entries) → es' ≡ es → AreOf contents es → AreOf contents es'
same_right contents es es' is right = subst (AreOf contents) (sym is) right

-- block n was one of the disk's, which then holds each of its blocks where it is honest
pub record IsInside (n : ℕ) (old new : DiskState) : Type 0 where
  pub there : n < old.blocks
  pub whole : new.honest ≡ true → length new.now.contents ≡ new.blocks

is_inside : {T : Type 0} (reads : ℕ) (result : Result T DeviceFault) (old new : DiskState) (n : ℕ) → IsInside n old new → Counts reads result old new → new.honest ≡ true → n < length new.now.contents
is_inside reads result old new n inside counts honest =
    let all = inside.whole honest in
    omega (arith, all, inside.there, counts.same_blocks)

-- a kept block was read
pub right_after_hit : (s : DiskState) (n limit : ℕ) (bytes : List ℕ) (es es' : Entries) (hit : Bool) → hit ≡ true
    → OnTrue hit (lookup (nat_eq n) es ≡ Some bytes) → OnTrue hit (es' ≡ with_first limit n bytes es)
    → AreRight s es → AreRight s es'
right_after_hit s n limit bytes es es' hit hits found is right honest =
    let contents = s.now.contents in
    let there = on_true (lookup (nat_eq n) es ≡ Some bytes) hit hits found in
    same_right contents _ es' (on_true (es' ≡ with_first limit n bytes es) hit hits is)
    (first_are_by (block contents) (block contents) (length contents) (length contents) n refl (λ k apart. refl) limit bytes es (right honest n bytes there).0 (sym (right honest n bytes there).1) (right honest))

either_right : (contents : Contents) (first es es' : Entries) (kept refused : Type 0) → ((kept × (es' ≡ first)) ⊎ (refused × (es' ≡ es)))
    → AreOf contents first → AreOf contents es → AreOf contents es'
either_right contents first es es' kept refused (inl w) right_first right = same_right contents first es' w.1 right_first
either_right contents first es es' kept refused (inr w) right_first right = same_right contents es es' w.1 right

-- whether it was kept or refused
pub kept_or_not : {kept first refused same : Type 0} (b : Bool) → OnTrue b (kept × first) → OnFalse b (refused × same) → (kept × first) ⊎ (refused × same)
kept_or_not true h m = inl h
kept_or_not false h m = inr m

-- another block was read below
pub right_after_miss : {T : Type 0} (result : Result T DeviceFault) (x : T) (old new : DiskState) (n limit : ℕ) (bytes : List ℕ) (es mid es' : Entries) (hit : Bool) (kept refused : Type 0)
    → result ≡ Ok x → hit ≡ false → OnFalse hit (mid ≡ es) → IsInside n old new
    → Counts 1 result old new → (new.honest ≡ true → Reads n bytes result old new)
    → ((kept × (es' ≡ with_first limit n bytes mid)) ⊎ (refused × (es' ≡ mid)))
    → AreRight old es → AreRight new es'
right_after_miss {T} result x old new n limit bytes es mid es' hit kept refused ok misses missed inside counts reads is right honest =
    let before = on_false (mid ≡ es) hit misses missed in
    let R : Result T DeviceFault → Type 0 = λ r. Reads n bytes r old new in
    let read : Reads n bytes (Ok x) old new = subst R ok (reads honest) in
    let same : new.now.contents ≡ old.now.contents = ap (λ (m : Medium). m.contents) read.same in
    let was : AreOf old.now.contents mid = same_right old.now.contents es mid before (right (counts.earlier honest)) in
    let now : AreOf new.now.contents mid = subst (λ c. AreOf c mid) (sym same) was in
    let contents = new.now.contents in
    either_right contents _ mid es' kept refused is
    (first_are_by (block contents) (block contents) (length contents) (length contents) n refl (λ k apart. refl) limit bytes mid (is_inside 1 result old new n inside counts honest) (ap (λ c. block c n) same ∙ sym read.bytes_are) now) now

-- a block was written
pub right_after_write : {T : Type 0} (result : Result T DeviceFault) (x : T) (old new : DiskState) (n : ℕ) (bytes : List ℕ) (was is : Kept)
    → result ≡ Ok x → UsesBlock n bytes was is → IsInside n old new
    → Counts 0 result old new → (new.honest ≡ true → Writes n bytes result old new)
    → AreRight old (entries_of was) → AreRight new (entries_of is)
right_after_write {T} result x old new n bytes was is ok uses inside counts writes right honest =
    let R : Result T DeviceFault → Type 0 = λ r. Writes n bytes r old new in
    let written : Writes n bytes (Ok x) old new = subst R ok (writes honest) in
    used_are_by (block old.now.contents) (block new.now.contents) (length old.now.contents) (length new.now.contents) n written.count written.others bytes was is
    (is_inside 0 result old new n inside counts honest) written.written uses (right (counts.earlier honest))

-- blocks in a row were written
pub right_after_run : {T : Type 0} (result : Result T DeviceFault) (x : T) (old new : DiskState) (n : ℕ) (blocks : List (List ℕ)) (was is : Kept)
    → result ≡ Ok x → UsesBlocks n blocks (length blocks) was is
    → n + length blocks ≤ old.blocks → (new.honest ≡ true → length new.now.contents ≡ new.blocks)
    → Counts 0 result old new → (new.honest ≡ true → WritesRun n blocks result old new)
    → AreRight old (entries_of was) → AreRight new (entries_of is)
right_after_run {T} result x old new n blocks was is ok uses inside whole counts writes right honest =
    let R : Result T DeviceFault → Type 0 = λ r. WritesRun n blocks r old new in
    let written : WritesRun n blocks (Ok x) old new = subst R ok (writes honest) in
    let touches = at_end old new (TouchesOnly (in_run n (length blocks)) old.now) written.moments in
    let all = whole honest in
    run_are_by n blocks (block old.now.contents) (length old.now.contents) (length new.now.contents) touches.count (omega (arith, all, inside, counts.same_blocks))
    (block new.now.contents) written.written touches.same was is uses (right (counts.earlier honest))

-- a write of blocks in a row failed
pub right_after_lost_run : {T : Type 0} (result : Result T DeviceFault) (old new : DiskState) (n : ℕ) (blocks : List (List ℕ)) (es es' : Entries)
    → es' ≡ without_run n (length blocks) es → ((i : ℕ) → i < length blocks → keeps (n + i) es' ≡ false)
    → Counts 0 result old new → (new.honest ≡ true → WritesRun n blocks result old new)
    → AreRight old es → AreRight new es'
right_after_lost_run result old new n blocks es es' is gone counts writes right honest =
    let touches = at_end old new (TouchesOnly (in_run n (length blocks)) old.now) (writes honest).moments in
    lost_run_are_by n (length blocks) (block old.now.contents) (block new.now.contents) (length old.now.contents) (length new.now.contents) touches.count
    touches.same es es' is gone (right (counts.earlier honest))

-- a write failed
pub right_after_fault : {T : Type 0} (result : Result T DeviceFault) (old new : DiskState) (n : ℕ) (bytes : List ℕ) (es es' : Entries)
    → es' ≡ remove_entry (nat_eq n) es → keeps n es' ≡ false
    → Counts 0 result old new → (new.honest ≡ true → Writes n bytes result old new)
    → AreRight old es → AreRight new es'
right_after_fault result old new n bytes es es' is gone counts writes right honest =
    same_right new.now.contents _ es' is
    (rest_are_by (block old.now.contents) (block new.now.contents) (length old.now.contents) (length new.now.contents) n (writes honest).count (writes honest).others es (sym (ap (keeps n) is) ∙ gone) (right (counts.earlier honest)))

-- the disk grew
pub right_after_growing : {T : Type 0} (blocks : ℕ) (result : Result T DeviceFault) (old new : DiskState) (es : Entries)
    → Extends blocks result old new → (new.honest ≡ true → Enlarges old new)
    → AreRight old es → AreRight new es
right_after_growing blocks result old new es extends enlarges right honest n bytes found =
    let longer = (enlarges honest).longer in
    let was = right (extends.earlier honest) n bytes found in
    (omega (arith, was.0, longer.more), was.1 ∙ sym (longer.same n was.0))
