-- Blocks that are held keep their bytes, and dirty ones stay dirty, over one call and over two.
use Rattle.std.proofs.Common.{◌≡◌, ◌≢◌, ◌⊎◌, inl, inr, ℕ, Bool, true, false, not, List, [], ◌∷◌, ◌++◌, length, ◌&&◌, ◌<◌, ◌≤◌, nat_lt, None, Some, Option, Result, refl, ap, sym, ◌∙◌, subst, arith, append_assoc}
use Rattle.std.proofs.lemmas.Bool.{cases_eq, cases_lt, lt-ltb}
use Rattle.vm_disk.specs.Disk.{Medium, DiskState, block, Elapses, Writes}
use Rattle.vm_disk.specs.declared.disk.DeviceFault.{DeviceFault}
use Rattle.vm_types.specs.declared.sizes.TheConstants.{FIRST_DATA}
use Rattle.vm_alloc.proofs.HeldLemmas.{free_inside, free_is, holds_same, others_as_before, taken_is_held}
use Rattle.std.specs.Prelude.{slice_get, slice_set, IfSome}
use Rattle.std.proofs.Math.ListN.{length-set}
use Rattle.std.proofs.lemmas.List.{get_or-set_other, get_or-set_same}
use Rattle.vm_disk.specs.Moments.{AtEach, OnlyReads, Throughout, TouchesOnly}
use Rattle.vm_disk.proofs.MomentLemmas.{started, touches_nothing, write_on, at_end, weaken, and_then}
use Rattle.vm_alloc.specs.Held.{is_held, IsHeld, HoldsMore}
use Rattle.vm_tree.specs.Unsynced.{DirtyGrows, LeavesDirty, NeverSyncs, latest}
use Rattle.vm_tree.specs.Calls as calls
use Rattle.vm_tree.specs.Free.{IsBeside, IsTaken, SparesOwn, TakesLowest, is_free}

-- a block that is held is not free
pub held_not_free : (held : List Bool) (n : ℕ) → IsHeld held n → is_free held n ≡ false
held_not_free held n is = ap (λ b. not b && nat_lt n (length held)) is

-- and one that is counted and not held is
pub counted_free : (held : List Bool) (n : ℕ) → n < length held → is_held held n ≡ false → is_free held n ≡ true
counted_free held n inside is = ap (λ b. not b && nat_lt n (length held)) is ∙ lt-ltb n (length held) inside

-- where more is held, none is free that was not
pub not_freed : (a b : List Bool) (n : ℕ) → HoldsMore a b → is_free a n ≡ false → is_free b n ≡ false
not_freed a b n more out = by_mark (is_held a n) refl (is_held b n) refl
  where
    by_mark : (had : Bool) → is_held a n ≡ had → (has : Bool) → is_held b n ≡ has → is_free b n ≡ false
    by_mark had was true is = held_not_free b n is
    by_mark true was false is = held_not_free b n (more.still n was)
    by_mark false was false is =
        let behind : nat_lt n (length a) ≡ false = sym (ap (λ t. not t && nat_lt n (length a)) was) ∙ out in
        ap (λ t. not t && nat_lt n (length b)) is ∙ ap (λ count. nat_lt n count) more.same_length ∙ behind

-- a block that is held keeps its bytes
pub held_same : (held : List Bool) (old new : Medium) (n : ℕ) → TouchesOnly (is_free held) old new → IsHeld held n → block new.contents n ≡ block old.contents n
held_same held old new n spares is = spares.same n (held_not_free held n is)

-- what spares the blocks held before, and then those held by then
pub touches_more : (a b : List Bool) (old mid new : Medium) → HoldsMore a b → TouchesOnly (is_free a) old mid → TouchesOnly (is_free b) mid new → TouchesOnly (is_free a) old new
touches_more a b old mid new more first then = record {
  count = then.count ∙ first.count;
  sure = omega (arith, first.sure, then.sure);
  same = λ n out. then.same n (not_freed a b n more out) ∙ first.same n out;
  clean = λ n out clean. then.clean n (not_freed a b n more out) (first.clean n out clean);
}

pub touches_then : (a b : List Bool) (old mid new : DiskState) → HoldsMore a b → Throughout old mid (TouchesOnly (is_free a) old.now) → Throughout mid new (TouchesOnly (is_free b) mid.now)
    → Throughout old new (TouchesOnly (is_free a) old.now)
touches_then a b old mid new more first then =
    let so_far = at_end old mid (TouchesOnly (is_free a) old.now) first in
    and_then old mid new (TouchesOnly (is_free a) old.now) first
    (weaken mid new (TouchesOnly (is_free b) mid.now) (TouchesOnly (is_free a) old.now) (λ m spares. touches_more a b old.now mid.now m more so_far spares) then)

-- the blocks that are held have the same bytes at the end
pub held_kept : (held : List Bool) (old new : DiskState) → Throughout old new (TouchesOnly (is_free held) old.now) → (n : ℕ) → IsHeld held n → block new.now.contents n ≡ block old.now.contents n
held_kept held old new moments n is = held_same held old.now new.now n (at_end old new (TouchesOnly (is_free held) old.now) moments) is

-- so do fewer of them
pub spared_kept : (spared held : List Bool) (old new : DiskState) → HoldsMore spared held → Throughout old new (TouchesOnly (is_free held) old.now) → Throughout old new (TouchesOnly (is_free spared) old.now)
spared_kept spared held old new wider moments =
    touches_then spared held old old new wider (started old (TouchesOnly (is_free spared) old.now) (touches_nothing (is_free spared) old.now)) moments

-- where the own block, or if there is none free blocks alone were written, each other one that was held has the same bytes at the end
pub others_kept : {fails : Type 0} {n most : ℕ} {held later : List Bool} {old new : DiskState} (own : Option ℕ) → IfSome own (IsTaken held) → calls.Writes fails (SparesOwn own) n most held later old new
    → new.honest ≡ true → (k : ℕ) → IsHeld held k → IsBeside own k → block new.now.contents k ≡ block old.now.contents k
others_kept {held = held} None mine writes honest k is beside = held_kept held _ _ (writes.moments honest held (holds_same held) tt) k is
others_kept {held = held} (Some b) mine writes honest k is beside =
    let spared = slice_set held b false in
    let other = λ (n : ℕ) (ne : n ≢ b). get_or-set_other held b n false false ne in
    let none : is_held spared b ≡ false = get_or-set_same held b false false mine.inside in
    let fewer : HoldsMore spared held = record {
      same_length = sym (length-set held b false);
      still = λ n has. by_place n has (cases_eq n b);
    } in
    held_kept spared _ _ (writes.moments honest spared fewer (counted_free spared b (omega (arith, mine.inside, length-set held b false)) none)) k (other k beside ∙ is)
  where
    by_place : (n : ℕ) → IsHeld (slice_set held b false) n → (n ≡ b) ⊎ (n ≢ b) → IsHeld held n
    by_place n has (inl same) = ap (is_held held) same ∙ mine.held_now
    by_place n has (inr ne) = sym (get_or-set_other held b n false false ne) ∙ has

-- a write to a block spares those of which it is none
pub own_written : {T : Type 0} (spared : List Bool) (n : ℕ) (bytes : List ℕ) (result : Result T DeviceFault) (old new : DiskState) → is_free spared n ≡ true → Writes n bytes result old new
    → Throughout old new (TouchesOnly (is_free spared) old.now)
own_written spared n bytes result old new free writes =
    write_on n bytes result (is_free spared) old old new free (started old (TouchesOnly (is_free spared) old.now) (touches_nothing (is_free spared) old.now)) writes

-- a write to a block that was free spares those that are held
pub free_written : {T : Type 0} (held : List Bool) (n : ℕ) (bytes : List ℕ) (result : Result T DeviceFault) (old new : DiskState) → slice_get held n ≡ Some false → Writes n bytes result old new
    → Throughout old new (TouchesOnly (is_free held) old.now)
free_written held n bytes result old new free writes =
    write_on n bytes result (is_free held) old old new (counted_free held n (free_inside held n free) (free_is held n free)) (started old (TouchesOnly (is_free held) old.now) (touches_nothing (is_free held) old.now)) writes

-- where no block was taken
pub lowest_none : (held : List Bool) → TakesLowest held held
lowest_none held n k out is lt = let e : true ≡ false = sym is ∙ out in cc

-- where the lowest were taken twice
pub lowest_then : (a b c : List Bool) → HoldsMore b c → TakesLowest a b → TakesLowest b c → TakesLowest a c
lowest_then a b c more first then n k out is lt = by_mark (is_held b n) refl
  where
    by_mark : (had : Bool) → is_held b n ≡ had → IsHeld c k
    by_mark true was = more.still k (first n k out was lt)
    by_mark false was = then n k was is lt

-- where the block below which all are held was taken
pub lowest_taken : (held later : List Bool) (n : ℕ) → n < length held → ((k : ℕ) → k < n → IsHeld held k) → later ≡ slice_set held n true → HoldsMore held later → TakesLowest held later
lowest_taken held later n inside below taken more j k out is lt = by_place (cases_eq j n)
  where
    by_place : (j ≡ n) ⊎ (j ≢ n) → IsHeld later k
    by_place (inl same) = more.still k (below k (omega (arith, lt, same)))
    by_place (inr other) =
        let here : is_held later j ≡ is_held held j = ap (λ (bs : List Bool). is_held bs j) taken ∙ others_as_before held n j other in
        let e : true ≡ false = sym is ∙ here ∙ out in cc

-- where nothing was done
pub all_dirty : (m : Medium) → LeavesDirty m m
all_dirty m = record { more = omega arith; dirty = λ n inside dirty. dirty; sure = refl }

-- one device call after which what was dirty is so still
pub stays_dirty : (old new : DiskState) → Elapses old new → LeavesDirty old.now new.now → NeverSyncs old new
stays_dirty old new time leaves = by_step time.step
  where
    by_step : (new.past ≡ old.now ∷ old.past) ⊎ ((new.past ≡ old.past) × (new.now ≡ old.now)) → NeverSyncs old new
    by_step (inl past) = record { since = new.now ∷ []; goes_on = ap (λ (ms : List Medium). new.now ∷ ms) past; each = (leaves, tt) }
    by_step (inr same) = record { since = []; goes_on = ap (λ (m : Medium). m ∷ new.past) same.1 ∙ ap (λ (ms : List Medium). old.now ∷ ms) same.0; each = tt }

latest_same : (first : Medium) (ms : List Medium) → AtEach (λ m. m ≡ first) ms → latest first ms ≡ first
latest_same first [] each = refl
latest_same first (m ∷ ms) each = each.0

same_grows : (first : Medium) (ms : List Medium) → AtEach (λ m. m ≡ first) ms → DirtyGrows first ms
same_grows first [] each = tt
same_grows first (m ∷ ms) each =
    let R : Medium → Type 0 = λ k. LeavesDirty k m in (subst R (each.0 ∙ sym (latest_same first ms each.1)) (all_dirty m), same_grows first ms each.1)

-- reads sync nothing
pub reads_unsynced : (old new : DiskState) → OnlyReads old new → NeverSyncs old new
reads_unsynced old new reads = record { since = reads.since; goes_on = reads.goes_on; each = same_grows old.now reads.since reads.each }

latest_is : (first now : Medium) (ms past later : List Medium) → now ∷ later ≡ ms ++ first ∷ past → now ≡ latest first ms
latest_is first now [] past later e = cc
latest_is first now (m ∷ ms) past later e = cc

latest_on : (first mid : Medium) (ms ns : List Medium) → mid ≡ latest first ns → latest mid ms ≡ latest first (ms ++ ns)
latest_on first mid [] ns same = same
latest_on first mid (m ∷ ms) ns same = refl

grows_on : (first mid : Medium) (ms ns : List Medium) → mid ≡ latest first ns → DirtyGrows mid ms → DirtyGrows first ns → DirtyGrows first (ms ++ ns)
grows_on first mid [] ns same more so_far = so_far
grows_on first mid (m ∷ ms) ns same more so_far =
    let R : Medium → Type 0 = λ k. LeavesDirty k m in (subst R (latest_on first mid ms ns same) more.0, grows_on first mid ms ns same more.1 so_far)

-- nor does one call more that does not
pub unsynced_then : (old mid new : DiskState) → NeverSyncs old mid → NeverSyncs mid new → NeverSyncs old new
unsynced_then old mid new first then = record {
  since = then.since ++ first.since;
  goes_on = then.goes_on ∙ ap (λ (ms : List Medium). then.since ++ ms) first.goes_on ∙ sym (append_assoc then.since first.since (old.now ∷ old.past));
  each = grows_on old.now mid.now then.since first.since (latest_is old.now mid.now first.since old.past mid.past first.goes_on) then.each first.each;
}

-- nor does a device call after which its block is dirty, and all others are as they were
pub dirtied : (n : ℕ) (old new : DiskState) → Elapses old new → new.now.dirty n ≡ true → length new.now.contents ≡ length old.now.contents
    → ((k : ℕ) → k ≢ n → new.now.dirty k ≡ old.now.dirty k) → new.now.sure ≡ old.now.sure → NeverSyncs old new
dirtied n old new time is count others sure =
    stays_dirty old new time record {
      more = omega (arith, count);
      dirty = λ k inside dirty. by_place k (cases_eq k n) dirty;
      sure = sure;
    }
  where
    by_place : (k : ℕ) → (k ≡ n) ⊎ (k ≢ n) → old.now.dirty k ≡ true → new.now.dirty k ≡ true
    by_place k (inl same) dirty = ap new.now.dirty same ∙ is
    by_place k (inr other) dirty = others k other ∙ dirty
