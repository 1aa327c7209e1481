-- How a fact about each moment is carried over device calls, and what follows of a crash.
use Rattle.std.proofs.Common.{◌≡◌, ◌≢◌, ℕ, ◌<◌, ◌≤◌, ◌⊎◌, inl, inr, Bool, true, false, List, [], ◌∷◌, ◌++◌, length, Result, Ok, Err, refl, sym, ◌∙◌, ap, subst, arith, append_assoc, length-append}
use Rattle.std.proofs.lemmas.Bool.{cases_lt, false≢true}
use Rattle.vm_disk.specs.declared.disk.DeviceFault.{DeviceFault}
use Rattle.vm_disk.specs.Disk.{Contents, block, Medium, DiskState, MayLeave, IsClean, moment, LeftPast, LeftAt, NoCalls, Elapses, Reads, Writes, Syncs}
use Rattle.vm_disk.specs.Moments.{AtEach, Throughout, OnlyReads, Leaves, LeavesOnly, TouchesOnly, CleanAsBefore}

-- before the first call
pub started : (s : DiskState) (Q : Medium → Type 0) → Q s.now → Throughout s s Q
started s Q q = record { since = []; goes_on = refl; each = tt; first = q }

one_more : (old mid new : DiskState) (Q : Medium → Type 0) → Throughout old mid Q → (new.past ≡ mid.now ∷ mid.past) ⊎ ((new.past ≡ mid.past) × (new.now ≡ mid.now)) → Q new.now → Throughout old new Q
one_more old mid new Q so_far (inl past) q =
    record {
      since = new.now ∷ so_far.since;
      goes_on = ap (λ (ms : List Medium). new.now ∷ ms) (past ∙ so_far.goes_on);
      each = (q, so_far.each);
      first = so_far.first;
    }
one_more old mid new Q so_far (inr same) q =
    record {
      since = so_far.since;
      goes_on = ap (λ (m : Medium). m ∷ new.past) same.1 ∙ ap (λ (ms : List Medium). mid.now ∷ ms) same.0 ∙ so_far.goes_on;
      each = so_far.each;
      first = so_far.first;
    }

-- one device call more
pub goes_on : (old mid new : DiskState) (Q : Medium → Type 0) → Throughout old mid Q → Elapses mid new → Q new.now → Throughout old new Q
goes_on old mid new Q so_far time q = one_more old mid new Q so_far time.step q

at_each_joined : (Q : Medium → Type 0) (ms ns : List Medium) → AtEach Q ms → AtEach Q ns → AtEach Q (ms ++ ns)
at_each_joined Q [] ns h k = k
at_each_joined Q (m ∷ ms) ns h k = (h.0, at_each_joined Q ms ns h.1 k)

-- one call of a function more
pub and_then : (old mid new : DiskState) (Q : Medium → Type 0) → Throughout old mid Q → Throughout mid new Q → Throughout old new Q
and_then old mid new Q so_far more =
    record {
      since = more.since ++ so_far.since;
      goes_on = more.goes_on ∙ ap (λ (ms : List Medium). more.since ++ ms) so_far.goes_on ∙ sym (append_assoc more.since so_far.since (old.now ∷ old.past));
      each = at_each_joined Q more.since so_far.since more.each so_far.each;
      first = so_far.first;
    }

at_each_weaker : (P Q : Medium → Type 0) (ms : List Medium) → ((m : Medium) → P m → Q m) → AtEach P ms → AtEach Q ms
at_each_weaker P Q [] f h = tt
at_each_weaker P Q (m ∷ ms) f h = (f m h.0, at_each_weaker P Q ms f h.1)

-- what follows from P holds wherever P does
pub weaken : (old new : DiskState) (P Q : Medium → Type 0) → ((m : Medium) → P m → Q m) → Throughout old new P → Throughout old new Q
weaken old new P Q f h =
    record {
      since = h.since;
      goes_on = h.goes_on;
      each = at_each_weaker P Q h.since f h.each;
      first = f old.now h.first;
    }

-- what holds throughout holds at the end
pub at_end : (old new : DiskState) (Q : Medium → Type 0) → Throughout old new Q → Q new.now
at_end old new Q h = last_of h.since old.now old.past new.now new.past h.goes_on h.each h.first
  where
    last_of : (ms : List Medium) (m : Medium) (past : List Medium) (n : Medium) (later : List Medium) → n ∷ later ≡ ms ++ m ∷ past → AtEach Q ms → Q m → Q n
    last_of [] m past n later e each q = let same : n ≡ m = cc in subst Q (sym same) q
    last_of (k ∷ ms) m past n later e each q = let same : n ≡ k = cc in subst Q (sym same) each.0

-- a moment that is past is before the present one
pub left_before : (ms : List Medium) (t : ℕ) (left : Contents) → LeftPast ms t left → t < length ms
left_before [] t left h = absurd h
left_before (m ∷ ms) t left (inl h) = let e : t ≡ length ms = h.0 in omega arith
left_before (m ∷ ms) t left (inr h) = let below : t < length ms = left_before ms t left h in omega arith

left_since : (P : Contents → Type 0) (ms : List Medium) (m : Medium) (past : List Medium) (t : ℕ) (left : Contents) → AtEach (Leaves P) ms → Leaves P m → length past ≤ t → LeftPast (ms ++ m ∷ past) t left → P left
left_since P [] m past t left each first late (inl h) = first left h.1
left_since P [] m past t left each first late (inr h) =
    let below : t < length past = left_before past t left h in absurd (omega arith)
left_since P (k ∷ ms) m past t left each first late (inl h) = each.0 left h.1
left_since P (k ∷ ms) m past t left each first late (inr h) = left_since P ms m past t left each.1 first late h

-- the statement by moments
pub leaves_only : (old new : DiskState) (P : Contents → Type 0) → Throughout old new (Leaves P) → LeavesOnly old new P
leaves_only old new P h t left late at =
    left_since P h.since old.now old.past t left h.each h.first late (let R : List Medium → Type 0 = λ ms. LeftPast ms t left in subst R h.goes_on at)

left_as_before : (ms : List Medium) (m : Medium) (past : List Medium) (t : ℕ) (left : Contents) → t ≤ length past → LeftPast (ms ++ m ∷ past) t left → LeftPast (m ∷ past) t left
left_as_before [] m past t left early h = h
left_as_before (k ∷ ms) m past t left early (inl h) =
    let e : t ≡ length (ms ++ m ∷ past) = h.0 in absurd (omega (arith, length-append ms (m ∷ past)))
left_as_before (k ∷ ms) m past t left early (inr h) = left_as_before ms m past t left early h

-- what is past stays as it was
pub past_stays : (old new : DiskState) (Q : Medium → Type 0) → Throughout old new Q → (t : ℕ) (left : Contents) → t ≤ moment old → LeftAt new t left → LeftAt old t left
past_stays old new Q h t left early at =
    left_as_before h.since old.now old.past t left early (let R : List Medium → Type 0 = λ ms. LeftPast ms t left in subst R h.goes_on at)

-- the number of the present moment never falls
pub moment_rises : (old new : DiskState) (Q : Medium → Type 0) → Throughout old new Q → moment old ≤ moment new
moment_rises old new Q h =
    let count : length (new.now ∷ new.past) ≡ length (h.since ++ old.now ∷ old.past) = ap length h.goes_on in omega (arith, length-append h.since (old.now ∷ old.past))

-- a crash leaves each block of a medium that is clean
pub clean_sure : (m : Medium) → IsClean m → m.sure ≡ length m.contents
clean_sure m clean = by_order (cases_lt m.sure (length m.contents))
  where
    by_order : (m.sure < length m.contents) ⊎ (length m.contents ≤ m.sure) → m.sure ≡ length m.contents
    by_order (inl less) =
        let dirty : m.dirty m.sure ≡ true = m.unsure m.sure (omega arith) less in
        absurd (false≢true (sym (clean m.sure) ∙ dirty))
    by_order (inr all) = omega (arith, m.within)

-- where nothing was done, nothing was touched
pub touches_nothing : (touched : ℕ → Bool) (m : Medium) → TouchesOnly touched m m
touches_nothing touched m = record { count = refl; same = λ n out. refl; clean = λ n out clean. clean; sure = omega arith }

-- a crash keeps each clean block that is untouched
pub left_untouched : (touched : ℕ → Bool) (old new : Medium) → TouchesOnly touched old new → (left : Contents) → MayLeave new left → (n : ℕ) → touched n ≡ false → old.dirty n ≡ false → block left n ≡ block old.contents n
left_untouched touched old new spares left may n out clean =
    may.clean n (spares.clean n out clean) ∙ spares.same n out

-- one read more
pub read_on : {T : Type 0} (n : ℕ) (bytes : List ℕ) (result : Result T DeviceFault) (old mid new : DiskState) (Q : Medium → Type 0) → Throughout old mid Q → Reads n bytes result mid new → Throughout old new Q
read_on n bytes result old mid new Q so_far reads =
    goes_on old mid new Q so_far reads.time (subst Q (sym reads.same) (at_end old mid Q so_far))

apart : (touched : ℕ → Bool) (k n : ℕ) → touched n ≡ true → touched k ≡ false → k ≢ n
apart touched k n inside out same =
    let e : true ≡ false = sym inside ∙ ap touched (sym same) ∙ out in cc

-- one write more, to a block that may be touched
pub write_on : {T : Type 0} (n : ℕ) (bytes : List ℕ) (result : Result T DeviceFault) (touched : ℕ → Bool) (old mid new : DiskState) → touched n ≡ true → Throughout old mid (TouchesOnly touched old.now) → Writes n bytes result mid new → Throughout old new (TouchesOnly touched old.now)
write_on n bytes result touched old mid new inside so_far writes =
    let before = at_end old mid (TouchesOnly touched old.now) so_far in
    goes_on old mid new (TouchesOnly touched old.now) so_far writes.time record {
      count = writes.count ∙ before.count;
      same = λ k out. writes.others k (apart touched k n inside out) ∙ before.same k out;
      clean = λ k out clean. writes.others_dirty k (apart touched k n inside out) ∙ before.clean k out clean;
      sure = omega (arith, writes.sure, before.sure);
    }

-- a medium is as it was where nothing was done
pub as_itself : (m : Medium) → CleanAsBefore m m
as_itself m = record { same = λ n clean. refl; clean = λ n clean. clean }

-- one write more leaves its block dirty
pub dirt_on : {T : Type 0} (n : ℕ) (bytes : List ℕ) (result : Result T DeviceFault) (old mid new : DiskState) → Throughout old mid (CleanAsBefore old.now) → Writes n bytes result mid new → Throughout old new (CleanAsBefore old.now)
dirt_on n bytes result old mid new so_far writes =
    goes_on old mid new (CleanAsBefore old.now) so_far writes.time record {
      same = λ k clean. writes.others k (other k clean) ∙ before.same k (was k clean);
      clean = λ k clean. before.clean k (was k clean);
    }
  where
    before : CleanAsBefore old.now mid.now
    before = at_end old mid (CleanAsBefore old.now) so_far

    other : (k : ℕ) → new.now.dirty k ≡ false → k ≢ n
    other k clean same = let e : true ≡ false = sym writes.dirty ∙ ap new.now.dirty (sym same) ∙ clean in cc

    was : (k : ℕ) → new.now.dirty k ≡ false → mid.now.dirty k ≡ false
    was k clean = sym (writes.others_dirty k (other k clean)) ∙ clean

-- a sync touches nothing but what was touched before it
pub sync_touches : {T : Type 0} (result : Result T DeviceFault) (touched : ℕ → Bool) (old : Medium) (mid new : DiskState) → Syncs result mid new → TouchesOnly touched old mid.now → TouchesOnly touched old new.now
sync_touches (Ok x) touched old mid new sync spares =
    record {
      count = ap (λ (x : Contents). length x) sync.same ∙ spares.count;
      same = λ n out. ap (λ (x : Contents). block x n) sync.same ∙ spares.same n out;
      clean = λ n out clean. sync.synced n;
      sure = let few = mid.now.within in let kept = spares.sure in let all = sync.sure in let same = ap (λ (x : Contents). length x) sync.same in omega arith;
    }
sync_touches (Err e) touched old mid new sync spares =
    let R : Medium → Type 0 = λ m. TouchesOnly touched old m in subst R (sym sync.failed) spares

-- no device call, so what holds at the start holds throughout
pub still : (old new : DiskState) (Q : Medium → Type 0) → NoCalls old new → Q old.now → Throughout old new Q
still old new Q same q = let R : DiskState → Type 0 = λ s. Throughout old s Q in subst R (sym same) (started old Q q)

-- one read alone
pub read_once : {T : Type 0} (n : ℕ) (bytes : List ℕ) (result : Result T DeviceFault) (old new : DiskState) → Reads n bytes result old new → OnlyReads old new
read_once n bytes result old new reads =
    read_on n bytes result old old new (λ m. m ≡ old.now) (started old (λ m. m ≡ old.now) refl) reads

-- what only reads leaves the disk as it was
pub same_medium : (old new : DiskState) → OnlyReads old new → new.now ≡ old.now
same_medium old new reads = at_end old new (λ m. m ≡ old.now) reads

-- what holds before reads holds throughout them
pub reads_keep : (old new : DiskState) (Q : Medium → Type 0) → OnlyReads old new → Q old.now → Throughout old new Q
reads_keep old new Q reads q = weaken old new (λ m. m ≡ old.now) Q (λ m same. subst Q (sym same) q) reads

-- reads after what holds throughout
pub then_reads : (old mid new : DiskState) (Q : Medium → Type 0) → Throughout old mid Q → OnlyReads mid new → Throughout old new Q
then_reads old mid new Q so_far reads =
    and_then old mid new Q so_far (reads_keep mid new Q reads (at_end old mid Q so_far))

-- what holds throughout, after reads
pub reads_first : (old mid new : DiskState) (Q : Medium → Type 0) → OnlyReads old mid → Throughout mid new Q → Throughout old new Q
reads_first old mid new Q reads more =
    and_then old mid new Q (reads_keep old mid Q reads (subst Q (same_medium old mid reads) more.first)) more

-- reads after reads
pub reads_then : (old mid new : DiskState) → OnlyReads old mid → OnlyReads mid new → OnlyReads old new
reads_then old mid new first second = then_reads old mid new (λ m. m ≡ old.now) first second

-- what touches certain blocks alone, after reads
pub after_reads : (touched : ℕ → Bool) (old mid new : DiskState) → OnlyReads old mid → Throughout mid new (TouchesOnly touched mid.now) → Throughout old new (TouchesOnly touched old.now)
after_reads touched old mid new reads more =
    let R : Medium → Type 0 = λ m. Throughout mid new (TouchesOnly touched m) in reads_first old mid new (TouchesOnly touched old.now) reads (subst R (same_medium old mid reads) more)
