-- What waiting blocks over a medium show, when one is written out, and after each call of the disk below.
use Rattle.std.proofs.Common.{◌≡◌, ◌≢◌, ℕ, zero, suc, ◌+◌, ◌<◌, ◌≤◌, ◌||◌, ◌⊎◌, inl, inr, max, Bool, true, false, List, [], ◌∷◌, length, map, is_some, slice_get, slice_index_or, if◌then◌else◌, ◌-◌, nat_le, nat_lt, Option, Some, None, nat_eq, Result, Ok, Err, IsErr, OnOk, refl, sym, ap, ◌∙◌, subst, eqb-true, eq-eqb, ne_eqb, arith}
use Rattle.std.specs.Map.{update}
use Rattle.std.proofs.Math.Bool.{Bool-set}
use Rattle.std.proofs.Math.Path.{fun_ext}
use Rattle.std.specs.Coded.{le_prop}
use Rattle.std.proofs.lemmas.Bool.{cases_lt, and_parts, or_from, or_parts, or_left, or_right, leb-true, ltb-true}
use Rattle.std.proofs.lemmas.List.{ext_get_or, get_or_past, length-map}
use Rattle.std.proofs.lemmas.List.FromFn.{get_or-map-range_with_len}
use Rattle.vm_disk.specs.declared.disk.DeviceFault.{DeviceFault}
use Rattle.vm_disk.specs.Disk.{Contents, block, Medium, DiskState, IsClean, MayLeave, moment, Elapses, Reads, Writes, Syncs, Lengthens}
use Rattle.vm_disk.specs.Following.{HeldPast, HeldAt, IsUnder, IsMeanwhile}
use Rattle.vm_disk.specs.Moments.{Throughout, Leaves, TouchesOnly, in_run, WritesRun}
use Rattle.vm_disk.specs.Laid.{Held, over, laid_contents, laid_length, laid, TouchesDirty, Rest, Covers, IsCovered, time_at, rests_before}
use Rattle.vm_disk.proofs.KeptLemmas.{by_answer, cond_yes, cond_no}
use Rattle.vm_disk.proofs.MomentLemmas.{clean_sure, moment_rises, weaken, started, write_on, touches_nothing, at_end}
use Rattle.vm_disk.proofs.FollowingLemmas.{held_before, held_only, held_stays}

abbrev medium : (contents : Contents) (dirty : ℕ → Bool) (sure : ℕ) → sure ≤ length contents → ((n : ℕ) → sure ≤ n → n < length contents → dirty n ≡ true) → Medium
medium contents dirty sure within unsure = record { contents = contents; dirty = dirty; sure = sure; within = within; unsure = unsure }

same_medium : (c c' : Contents) (d d' : ℕ → Bool) (s s' : ℕ) (w : s ≤ length c) (w' : s' ≤ length c')
    (u : (n : ℕ) → s ≤ n → n < length c → d n ≡ true) (u' : (n : ℕ) → s' ≤ n → n < length c' → d' n ≡ true)
    → c ≡ c' → d ≡ d' → s ≡ s' → medium c d s w u ≡ medium c' d' s' w' u'
same_medium c c' d d' s s' w w' u u' contents dirty sure = by_contents w' u'
  where
    by_proofs : (w' : s ≤ length c) (u' : (n : ℕ) → s ≤ n → n < length c → d n ≡ true) → medium c d s w u ≡ medium c d s w' u'
    by_proofs w' u' =
        let within : w ≡ w' = le_prop w w' in
        let unsure : u ≡ u' = fun_ext (λ n. fun_ext (λ from. fun_ext (λ inside. Bool-set (d n) true (u n from inside) (u' n from inside)))) in
        ap (λ (x : s ≤ length c). medium c d s x u) within ∙ ap (λ (x : (n : ℕ) → s ≤ n → n < length c → d n ≡ true). medium c d s w' x) unsure

    by_sure : (w' : s' ≤ length c) (u' : (n : ℕ) → s' ≤ n → n < length c → d n ≡ true) → medium c d s w u ≡ medium c d s' w' u'
    by_sure = let R : ℕ → Type 0 = λ x. (w' : x ≤ length c) (u' : (n : ℕ) → x ≤ n → n < length c → d n ≡ true) → medium c d s w u ≡ medium c d x w' u' in subst R sure by_proofs

    by_dirty : (w' : s' ≤ length c) (u' : (n : ℕ) → s' ≤ n → n < length c → d' n ≡ true) → medium c d s w u ≡ medium c d' s' w' u'
    by_dirty = let R : (ℕ → Bool) → Type 0 = λ x. (w' : s' ≤ length c) (u' : (n : ℕ) → s' ≤ n → n < length c → x n ≡ true) → medium c d s w u ≡ medium c x s' w' u' in subst R dirty by_sure

    by_contents : (w' : s' ≤ length c') (u' : (n : ℕ) → s' ≤ n → n < length c' → d' n ≡ true) → medium c d s w u ≡ medium c' d' s' w' u'
    by_contents = let R : Contents → Type 0 = λ x. (w' : s' ≤ length x) (u' : (n : ℕ) → s' ≤ n → n < length x → d' n ≡ true) → medium c d s w u ≡ medium x d' s' w' u' in subst R contents by_dirty

-- a block of the laid contents
pub laid_block : (held : Held) (contents : Contents) (n : ℕ) → n < length contents → block (laid_contents held contents) n ≡ over (held n) (block contents n)
laid_block held contents n inside = get_or-map-range_with_len (λ k. over (held k) (block contents k)) 0 (length contents) n n [] inside (omega arith)

laid_past : (held : Held) (contents : Contents) (n : ℕ) → length contents ≤ n → block (laid_contents held contents) n ≡ []
laid_past held contents n past = let many = laid_length held contents in get_or_past (laid_contents held contents) n [] (omega (arith, many))

-- the same block shows where the same waits, or stands below
pub same_laid : (held held' : Held) (c c' : Contents) (n : ℕ) → length c' ≡ length c → over (held' n) (block c' n) ≡ over (held n) (block c n)
    → block (laid_contents held' c') n ≡ block (laid_contents held c) n
same_laid held held' c c' n count same = by_order (cases_lt n (length c))
  where
    by_order : (n < length c) ⊎ (length c ≤ n) → block (laid_contents held' c') n ≡ block (laid_contents held c) n
    by_order (inl inside) = laid_block held' c' n (omega (arith, count)) ∙ same ∙ sym (laid_block held c n inside)
    by_order (inr past) = laid_past held' c' n (omega (arith, count)) ∙ sym (laid_past held c n past)

-- what is shown is the same, as each block and its dirt are
pub laid_same : (held held' : Held) (m m' : Medium) → length m'.contents ≡ length m.contents → m'.sure ≡ m.sure
    → ((n : ℕ) → over (held' n) (block m'.contents n) ≡ over (held n) (block m.contents n))
    → ((n : ℕ) → (m'.dirty n || is_some (held' n)) ≡ (m.dirty n || is_some (held n)))
    → laid held' m' ≡ laid held m
laid_same held held' m m' count sure blocks dirty =
    same_medium _ _ _ _ _ _ _ _ _ _
    (ext_get_or [] (laid_contents held' m'.contents) (laid_contents held m.contents)
    (laid_length held' m'.contents ∙ count ∙ sym (laid_length held m.contents))
    (λ n inside. same_laid held held' m.contents m'.contents n count (blocks n)))
    (fun_ext dirty) sure

other : (n k : ℕ) → nat_eq n k ≡ false → k ≢ n
other n k z same = let clash : true ≡ false = sym (eq-eqb n k (sym same)) ∙ z in cc

-- a waiting block that could not be written out still waits
pub unsent_same : {T : Type 0} (held : Held) (n : ℕ) (bytes written : List ℕ) (result : Result T DeviceFault) (old new : DiskState)
    → held n ≡ Some bytes → Writes n written result old new → laid held new.now ≡ laid held old.now
unsent_same held n bytes written result old new waits writes =
    laid_same held held old.now new.now writes.count writes.sure
    (λ k. by_answer (nat_eq n k)
    (λ y. let here = eqb-true n k y in let there : held k ≡ Some bytes = ap held (sym here) ∙ waits in ap (λ o. over o (block new.now.contents k)) there ∙ sym (ap (λ o. over o (block old.now.contents k)) there))
    (λ z. ap (over (held k)) (writes.others k (other n k z))))
    (λ k. by_answer (nat_eq n k)
    (λ y. let here = eqb-true n k y in let there : is_some (held k) ≡ true = ap (λ o. is_some o) (ap held (sym here) ∙ waits) in or_right _ _ there ∙ sym (or_right _ _ there))
    (λ z. ap (λ b. b || is_some (held k)) (writes.others_dirty k (other n k z))))

-- one that was written out waits no longer
pub sent_same : {T : Type 0} (held held' : Held) (n : ℕ) (bytes : List ℕ) (x : T) (result : Result T DeviceFault) (old new : DiskState)
    → result ≡ Ok x → held n ≡ Some bytes → ((k : ℕ) → held' k ≡ update nat_eq held n None k) → Writes n bytes result old new → laid held' new.now ≡ laid held old.now
sent_same {T} held held' n bytes x result old new ok waits gone any =
    laid_same held held' old.now new.now writes.count writes.sure
    (λ k. by_answer (nat_eq n k)
    (λ y. let here = eqb-true n k y in
    ap (λ o. over o (block new.now.contents k)) (gone k ∙ cond_yes _ _ y) ∙ ap (block new.now.contents) (sym here) ∙ writes.written ∙ sym (ap (λ o. over o (block old.now.contents k)) (ap held (sym here) ∙ waits)))
    (λ z. ap (λ o. over o (block new.now.contents k)) (gone k ∙ cond_no _ _ z) ∙ ap (over (held k)) (writes.others k (other n k z))))
    (λ k. by_answer (nat_eq n k)
    (λ y. let here = eqb-true n k y in
    or_left _ _ (ap new.now.dirty (sym here) ∙ writes.dirty) ∙ sym (or_right _ _ (ap (λ o. is_some o) (ap held (sym here) ∙ waits))))
    (λ z. ap (λ o. new.now.dirty k || is_some o) (gone k ∙ cond_no _ _ z) ∙ ap (λ b. b || is_some (held k)) (writes.others_dirty k (other n k z))))
  where
    writes : Writes n bytes (Ok x) old new
    writes = let R : Result T DeviceFault → Type 0 = λ r. Writes n bytes r old new in subst R ok any

-- what is touched just where a write may, and again
pub touches_then : (touched : ℕ → Bool) (a b c : Medium) → TouchesOnly touched a b → TouchesOnly touched b c → TouchesOnly touched a c
touches_then touched a b c first second =
    record {
      count = second.count ∙ first.count;
      same = λ n out. second.same n out ∙ first.same n out;
      clean = λ n out clean. second.clean n out (first.clean n out clean);
      sure = let few = first.sure in let more = second.sure in omega (arith, few, more);
    }

-- one write of a block that may be touched
pub touched_once : {T : Type 0} (n : ℕ) (bytes : List ℕ) (result : Result T DeviceFault) (touched : ℕ → Bool) (old new : DiskState) → touched n ≡ true → Writes n bytes result old new → Throughout old new (TouchesOnly touched old.now)
touched_once n bytes result touched old new inside writes =
    write_on n bytes result touched old old new inside (started old (TouchesOnly touched old.now) (touches_nothing touched old.now)) writes

-- no call below
pub untouched : (above : Medium) (s : DiskState) → TouchesDirty above s s
untouched above s =
    record { before_last = s; touches = started s (TouchesOnly above.dirty s.now) (touches_nothing above.dirty s.now); last = record { step = inr (refl, refl) } }

-- one call below
pub touched_last : (above : Medium) (old new : DiskState) → Elapses old new → TouchesDirty above old new
touched_last above old new time =
    record { before_last = old; touches = started old (TouchesOnly above.dirty old.now) (touches_nothing above.dirty old.now); last = time }

-- what holds, holds where a call succeeds
pub on_ok : {T P : Type 0} (result : Result T DeviceFault) → P → OnOk result P
on_ok (Ok x) p = p
on_ok (Err e) p = tt

-- a block was put among those that wait
pub put_over : {T : Type 0} (result : Result T DeviceFault) (held held' : Held) (m : Medium) (n : ℕ) (bytes : List ℕ) (old new : DiskState)
    → laid held m ≡ old.now → new.now ≡ laid held' m → new.past ≡ old.now ∷ old.past → ((k : ℕ) → held' k ≡ update nat_eq held n (Some bytes) k) → n < length m.contents
    → Writes n bytes result old new
put_over result held held' m n bytes old new was is past put inside =
    record {
      written = on_ok result (ap (λ m. block m.contents n) is ∙ laid_block held' m.contents n inside ∙ ap (λ o. over o (block m.contents n)) here);
      dirty = ap (λ m. m.dirty n) is ∙ or_right _ _ (ap (λ o. is_some o) here);
      count = ap (λ m. length m.contents) is ∙ laid_length held' m.contents ∙ sym (laid_length held m.contents) ∙ ap (λ m. length m.contents) was;
      others = λ k apart. ap (λ m. block m.contents k) is ∙ same_laid held held' m.contents m.contents k refl (ap (λ o. over o (block m.contents k)) (there k apart)) ∙ ap (λ m. block m.contents k) was;
      others_dirty = λ k apart. ap (λ m. m.dirty k) is ∙ ap (λ o. m.dirty k || is_some o) (there k apart) ∙ ap (λ m. m.dirty k) was;
      sure = ap (λ m. m.sure) is ∙ ap (λ m. m.sure) was;
      time = record { step = inl past };
    }
  where
    here : held' n ≡ Some bytes
    here = put n ∙ cond_yes _ _ (eq-eqb n n refl)

    there : (k : ℕ) → k ≢ n → held' k ≡ held k
    there k apart = put k ∙ cond_no _ _ (ne_eqb n k (λ same. apart (sym same)))

none_waits : (o : Option (List ℕ)) → is_some o ≡ false → o ≡ None
none_waits None h = refl
none_waits (Some bytes) h = cc

-- a block was written below that does not wait, or the call fails
pub written_under : {T U : Type 0} (result : Result T DeviceFault) (below : Result U DeviceFault) (held held' : Held) (lower lower' : DiskState) (n : ℕ) (bytes : List ℕ) (old new : DiskState)
    → laid held lower.now ≡ old.now → new.now ≡ laid held' lower'.now → new.past ≡ old.now ∷ old.past → ((k : ℕ) → held' k ≡ held k)
    → n < length lower.now.contents → Writes n bytes below lower lower'
    → OnOk result ((is_some (held n) ≡ false) × (block lower'.now.contents n ≡ bytes)) → Writes n bytes result old new
written_under {T} {U} result below held held' lower lower' n bytes old new was is past waits inside writes done =
    record {
      written = on_fine result (λ fine. ap (λ m. block m.contents n) is ∙ laid_block held' lower'.now.contents n (omega (arith, inside, count)) ∙ ap (λ o. over o (block lower'.now.contents n)) (waits n ∙ none_waits (held n) fine.0) ∙ fine.1) done;
      dirty = ap (λ m. m.dirty n) is ∙ or_left _ _ writes.dirty;
      count = ap (λ m. length m.contents) is ∙ laid_length held' lower'.now.contents ∙ writes.count ∙ sym (laid_length held lower.now.contents) ∙ ap (λ m. length m.contents) was;
      others = λ k apart. ap (λ m. block m.contents k) is ∙ same_laid held held' lower.now.contents lower'.now.contents k writes.count (ap (λ o. over o (block lower'.now.contents k)) (waits k) ∙ ap (over (held k)) (writes.others k apart)) ∙ ap (λ m. block m.contents k) was;
      others_dirty = λ k apart. ap (λ m. m.dirty k) is ∙ ap (λ o. lower'.now.dirty k || is_some o) (waits k) ∙ ap (λ b. b || is_some (held k)) (writes.others_dirty k apart) ∙ ap (λ m. m.dirty k) was;
      sure = ap (λ m. m.sure) is ∙ writes.sure ∙ ap (λ m. m.sure) was;
      time = record { step = inl past };
    }
  where
    count : length lower'.now.contents ≡ length lower.now.contents
    count = writes.count

    on_fine : {P Q : Type 0} (r : Result T DeviceFault) → (P → Q) → OnOk r P → OnOk r Q
    on_fine (Ok x) f p = f p
    on_fine (Err e) f p = tt

-- a disk below that grew
pub lengthened : (held : Held) (m m' : Medium) → Lengthens m m' → Lengthens (laid held m) (laid held m')
lengthened held m m' longer =
    record {
      more = omega (arith, few, many, longer.more);
      same = λ n inside. laid_block held m'.contents n (omega (arith, inside, few, longer.more)) ∙ ap (over (held n)) (longer.same n (omega (arith, inside, few))) ∙ sym (laid_block held m.contents n (omega (arith, inside, few)));
      same_dirty = λ n inside. ap (λ b. b || is_some (held n)) (longer.same_dirty n (omega (arith, inside, few)));
      dirty = λ n past inside. or_left _ _ (longer.dirty n (omega (arith, past, few)) (omega (arith, inside, many)));
      sure = longer.sure;
    }
  where
    few : length (laid_contents held m.contents) ≡ length m.contents
    few = laid_length held m.contents

    many : length (laid_contents held m'.contents) ≡ length m'.contents
    many = laid_length held m'.contents

-- the disk below was synced, and no block waits
pub synced_under : {T : Type 0} (result : Result T DeviceFault) (held : Held) (lower lower' old new : DiskState)
    → laid held lower.now ≡ old.now → new.now ≡ laid held lower'.now → new.past ≡ old.now ∷ old.past → ((n : ℕ) → is_some (held n) ≡ false)
    → Syncs result lower lower' → Syncs result old new
synced_under (Ok x) held lower lower' old new was is past none syncs =
    record {
      synced = λ n. ap (λ m. m.dirty n) is ∙ or_from _ _ (syncs.synced n) (none n);
      failed = tt;
      same = ap (λ m. m.contents) is ∙ ap (laid_contents held) syncs.same ∙ ap (λ m. m.contents) was;
      sure = ap (λ m. m.sure) is ∙ syncs.sure ∙ sym (laid_length held lower'.now.contents) ∙ ap (λ m. length m.contents) (sym is);
      time = record { step = inl past };
    }
synced_under (Err e) held lower lower' old new was is past none syncs =
    record {
      synced = tt;
      failed = is ∙ ap (laid held) syncs.failed ∙ was;
      same = ap (λ m. m.contents) is ∙ ap (laid_contents held) syncs.same ∙ ap (λ m. m.contents) was;
      sure = tt;
      time = record { step = inl past };
    }

-- a block that waits was read
pub read_over : (held : Held) (m : Medium) (n : ℕ) (bytes : List ℕ) (old new : DiskState) → laid held m ≡ old.now → new.now ≡ laid held m → new.past ≡ old.now ∷ old.past
    → n < length m.contents → held n ≡ Some bytes → Reads n bytes (Ok (tt {0})) old new
read_over held m n bytes old new was is past inside waits =
    record {
      bytes_are = sym (ap (λ o. over o (block m.contents n)) waits) ∙ sym (laid_block held m.contents n inside) ∙ ap (λ m. block m.contents n) was;
      same = is ∙ was;
      time = record { step = inl past };
    }

-- another was read below
pub read_under : {T : Type 0} (result : Result T DeviceFault) (held : Held) (lower lower' : DiskState) (n : ℕ) (bytes : List ℕ) (old new : DiskState)
    → laid held lower.now ≡ old.now → new.now ≡ laid held lower'.now → new.past ≡ old.now ∷ old.past
    → n < length lower.now.contents → held n ≡ None → Reads n bytes result lower lower' → Reads n bytes result old new
read_under {T} result held lower lower' n bytes old new was is past inside gone reads =
    record {
      bytes_are = on result reads.bytes_are;
      same = is ∙ ap (laid held) reads.same ∙ was;
      time = record { step = inl past };
    }
  where
    on : (r : Result T DeviceFault) → OnOk r (bytes ≡ block lower.now.contents n) → OnOk r (bytes ≡ block old.now.contents n)
    on (Ok x) same = same ∙ sym (ap (λ o. over o (block lower.now.contents n)) gone) ∙ sym (laid_block held lower.now.contents n inside) ∙ ap (λ m. block m.contents n) was
    on (Err e) same = tt

-- of a write that succeeds, both are known
pub fine_write : {T : Type 0} (P Q : Type 0) (result : Result T DeviceFault) → P → OnOk result Q → OnOk result (P × Q)
fine_write P Q (Ok x) p q = (p, q)
fine_write P Q (Err e) p q = tt

-- a sync failed before the disk below was synced
pub unsynced : {T : Type 0} (result : Result T DeviceFault) (old new : DiskState) → IsErr result → new.now ≡ old.now → new.past ≡ old.now ∷ old.past → Syncs result old new
unsynced (Ok x) old new failed same past = cc
unsynced (Err e) old new failed same past =
    record { synced = tt; failed = same; same = ap (λ m. m.contents) same; sure = tt; time = record { step = inl past } }

-- a block that does not wait is shown as it stands below
bare : (held : Held) (m : Medium) (n : ℕ) → is_some (held n) ≡ false → block (laid_contents held m.contents) n ≡ block m.contents n
bare held m n gone = by_order (cases_lt n (length m.contents))
  where
    by_order : (n < length m.contents) ⊎ (length m.contents ≤ n) → block (laid_contents held m.contents) n ≡ block m.contents n
    by_order (inl inside) = laid_block held m.contents n inside ∙ ap (λ o. over o (block m.contents n)) (none_waits (held n) gone)
    by_order (inr past) = laid_past held m.contents n past ∙ sym (get_or_past m.contents n [] past)

-- what a crash leaves where just dirty blocks were touched, it may leave above
touched_leaves : (held : Held) (m m' : Medium) → TouchesOnly (laid held m).dirty m m' → Leaves (MayLeave (laid held m)) m'
touched_leaves held m m' spares left may =
    record {
      least = let few = spares.sure in let more = may.least in omega (arith, few, more);
      most = let count = laid_length held m.contents in let same = spares.count in let most = may.most in omega (arith, count, same, most);
      clean = λ n out.
          let parts = or_parts (m.dirty n) (is_some (held n)) out in may.clean n (spares.clean n out parts.0) ∙ spares.same n out ∙ sym (bare held m n parts.1);
    }

-- media that are clean are the same where their contents are
pub clean_same : (m m' : Medium) → m.contents ≡ m'.contents → IsClean m → IsClean m' → m ≡ m'
clean_same m m' same clean clean' =
    same_medium _ _ _ _ _ _ _ _ _ _ same (fun_ext (λ n. clean n ∙ sym (clean' n)))
    (clean_sure m clean ∙ ap (λ (c : Contents). length c) same ∙ sym (clean_sure m' clean'))

-- where just dirty blocks were touched, it is under what stands above
pub touched_under : (held : Held) (m m' : Medium) → TouchesOnly (laid held m).dirty m m' → IsUnder (laid held m) m'
touched_under held m m' spares =
    record {
      left = touched_leaves held m m' spares;
      clean = λ all.
          clean_same m' (laid held m)
          (ext_get_or [] m'.contents (laid_contents held m.contents) (spares.count ∙ sym (laid_length held m.contents))
          (λ n inside. spares.same n (all n) ∙ sym (bare held m n (or_parts (m.dirty n) (is_some (held n)) (all n)).1)))
          (λ n. spares.clean n (all n) (or_parts (m.dirty n) (is_some (held n)) (all n)).0)
          all;
    }

-- where no block waits, what is shown is what stands below
pub laid_none : (held : Held) (m : Medium) → ((n : ℕ) → held n ≡ None) → laid held m ≡ m
laid_none held m none =
    same_medium _ _ _ _ _ _ _ _ _ _
    (ext_get_or [] (laid_contents held m.contents) m.contents (laid_length held m.contents)
    (λ n inside. bare held m n (ap (λ o. is_some o) (none n))))
    (fun_ext (λ n. by_dirt n (m.dirty n) (is_some (held n)) (ap (λ o. is_some o) (none n))))
    refl
  where
    by_dirt : (n : ℕ) (d w : Bool) → w ≡ false → (d || w) ≡ d
    by_dirt n true w none = refl
    by_dirt n false w none = none

-- what a disk held before its last call, it held after it
held_earlier : (old new : DiskState) (t : ℕ) (m : Medium) → Elapses old new → (t < moment new) ⊎ (moment new ≤ moment old) → HeldAt new t m → HeldAt old t m
held_earlier old new t m time early at = by_step time.step
  where
    by_past : new.past ≡ old.now ∷ old.past → (t < moment new) ⊎ (moment new ≤ moment old) → HeldAt new t m → HeldAt old t m
    by_past past (inl before) (inl now) = let same : t ≡ length new.past = now.0 in absurd (omega arith)
    by_past past (inl before) (inr past_one) = let R : List Medium → Type 0 = λ ms. HeldPast ms t m in subst R past past_one
    by_past past (inr still) now = let longer : length new.past ≡ length (old.now ∷ old.past) = ap (λ (ms : List Medium). length ms) past in absurd (omega (arith, longer))

    by_step : (new.past ≡ old.now ∷ old.past) ⊎ ((new.past ≡ old.past) × (new.now ≡ old.now)) → HeldAt old t m
    by_step (inl past) = by_past past early at
    by_step (inr same) =
        let R : List Medium → Type 0 = λ ms. HeldPast (new.now ∷ ms) t m in
        let S : Medium → Type 0 = λ n. HeldPast (n ∷ old.past) t m in subst S same.1 (subst R same.0 at)

moment_after : (old new : DiskState) → Elapses old new → moment old ≤ moment new
moment_after old new time = by_step time.step
  where
    by_step : (new.past ≡ old.now ∷ old.past) ⊎ ((new.past ≡ old.past) × (new.now ≡ old.now)) → moment old ≤ moment new
    by_step (inl past) = let longer : length new.past ≡ length (old.now ∷ old.past) = ap (λ (ms : List Medium). length ms) past in omega (arith, longer)
    by_step (inr same) = let equal : length new.past ≡ length old.past = ap (λ (ms : List Medium). length ms) same.0 in omega (arith, equal)

some_equal : (a b : Rest) → Some a ≡ Some b → a ≡ b
some_equal a b same = cc

-- one call above more is covered
pub covered_after : (held : Held) (lower lower' : DiskState) (medium : Medium) (rests : List Rest)
    → IsCovered lower (record { time = moment lower; medium = laid held lower.now }) rests → TouchesDirty (laid held lower.now) lower lower'
    → IsCovered lower' (record { time = moment lower'; medium = medium }) (record { time = moment lower; medium = laid held lower.now } ∷ rests)
covered_after held lower lower' medium rests so_far apart =
    record { first = cond_no _ _ (ne_eqb 0 (length (record { time = moment lower; medium = laid held lower.now } ∷ rests)) (λ same. omega (arith, same))) ∙ so_far.first; each = by_number }
  where
    mid : DiskState
    mid = apart.before_last

    above : Medium
    above = laid held lower.now

    before : moment lower ≤ moment apart.before_last
    before = moment_rises lower apart.before_last (TouchesOnly (laid held lower.now).dirty lower.now) apart.touches

    after : moment apart.before_last ≤ moment lower'
    after = moment_after apart.before_last lower' apart.last

    newest : Covers lower' (record { time = moment lower; medium = laid held lower.now }) (record { time = moment lower'; medium = medium })
    newest =
        record {
          past = omega arith;
          rising = omega (arith, before, after);
          under = λ t m from until at.
              held_only lower apart.before_last (IsUnder (laid held lower.now))
              (weaken lower apart.before_last (TouchesOnly (laid held lower.now).dirty lower.now) (IsUnder (laid held lower.now)) (λ m spares. touched_under held lower.now m spares) apart.touches)
              t m from (held_earlier apart.before_last lower' t m apart.last (early t from until) at);
        }
      where
        early : (t : ℕ) → moment lower ≤ t → t < max (moment lower') (moment lower + 1) → (t < moment lower') ⊎ (moment lower' ≤ moment apart.before_last)
        early t from until = by_order (cases_lt t (moment lower'))
          where
            by_order : (t < moment lower') ⊎ (moment lower' ≤ t) → (t < moment lower') ⊎ (moment lower' ≤ moment apart.before_last)
            by_order (inl less) = inl less
            by_order (inr more) = inr (omega (arith, before, after, from, until, more))

    earlier : (rest next : Rest) → Covers lower rest next → Covers lower' rest next
    earlier rest next covers =
        record {
          past = let some = covers.past in omega (arith, some, before, after);
          rising = covers.rising;
          under = λ t m from until at.
              covers.under t m from until
              (held_stays lower apart.before_last (TouchesOnly (laid held lower.now).dirty lower.now) apart.touches t m (low t until)
              (held_earlier apart.before_last lower' t m apart.last (early t until) at));
        }
      where
        low : (t : ℕ) → t < max next.time (rest.time + 1) → t ≤ moment lower
        low t until = let some = covers.past in let more = covers.rising in omega (arith, some, more, until)

        early : (t : ℕ) → t < max next.time (rest.time + 1) → (t < moment lower') ⊎ (moment lower' ≤ moment apart.before_last)
        early t until = by_order (cases_lt t (moment lower'))
          where
            by_order : (t < moment lower') ⊎ (moment lower' ≤ t) → (t < moment lower') ⊎ (moment lower' ≤ moment apart.before_last)
            by_order (inl less) = inl less
            by_order (inr more) = inr (let few = low t until in omega (arith, few, more, before, after))

    by_number : (i : ℕ) (rest next : Rest) → slice_get (record { time = moment lower; medium = laid held lower.now } ∷ rests) i ≡ Some rest
        → slice_get (record { time = moment lower'; medium = medium } ∷ record { time = moment lower; medium = laid held lower.now } ∷ rests) i ≡ Some next → Covers lower' rest next
    by_number zero rest next here there =
        let first : record { time = moment lower; medium = laid held lower.now } ≡ rest = some_equal _ _ here in
        let second : record { time = moment lower'; medium = medium } ≡ next = some_equal _ _ there in
        let R : Rest → Type 0 = λ r. Covers lower' r next in
        let S : Rest → Type 0 = λ r. Covers lower' (record { time = moment lower; medium = laid held lower.now }) r in
        subst R first (subst S second newest)
    by_number (suc i) rest next here there = earlier rest next (so_far.each i rest next here there)

-- one of these media was held at moment k, and this one is under it
abbrev pub UnderPast : List Medium → ℕ → Medium → Type 0
UnderPast ms k m = (held : Medium) × HeldPast ms k held × IsUnder held m

-- each of these moments above is covered up to the next
abbrev AreCovered : DiskState → Rest → List Rest → Type 0
AreCovered lower now rests = (i : ℕ) (rest next : Rest) → slice_get rests i ≡ Some rest → slice_get (now ∷ rests) i ≡ Some next → Covers lower rest next

-- the last of them, or one before it
less_than : (k n : ℕ) → k < n + 1 → nat_eq k n ≡ false → k < n
less_than k n few other = by_order (cases_lt k n)
  where
    by_order : (k < n) ⊎ (n ≤ k) → k < n
    by_order (inl less) = less
    by_order (inr more) = let same : k ≡ n = omega (arith, few, more) in let clash : true ≡ false = sym (eq-eqb k n same) ∙ other in cc

-- the moment below at the last moment above, and at an earlier one
pub time_newest : (rest : Rest) (rests : List Rest) (k : ℕ) → k ≡ length rests → time_at (rest ∷ rests) k ≡ rest.time
time_newest rest rests k same = cond_yes _ _ (eq-eqb k (length rests) same)

time_earlier : (rest : Rest) (rests : List Rest) (k : ℕ) → k < length rests → time_at (rest ∷ rests) k ≡ time_at rests k
time_earlier rest rests k less = cond_no _ _ (ne_eqb k (length rests) (λ same. omega (arith, same, less)))

-- the moments below never fall
pub time_rises : (lower : DiskState) (next : Rest) (rests : List Rest) → AreCovered lower next rests → (k : ℕ) → k < length rests
    → time_at (next ∷ rests) k ≤ time_at (next ∷ rests) (k + 1)
time_rises lower next [] covered k there = absurd (omega (arith, there))
time_rises lower next (rest ∷ rests) covered k there = by_answer (nat_eq k (length rests)) newest
    (λ other. earlier (less_than k (length rests) (omega (arith, there)) other) (time_rises lower rest rests (λ i. covered (suc i)) k))
  where
    here : time_at (next ∷ rest ∷ rests) k ≡ time_at (rest ∷ rests) k
    here = time_earlier next (rest ∷ rests) k there

    newest : nat_eq k (length rests) ≡ true → time_at (next ∷ rest ∷ rests) k ≤ time_at (next ∷ rest ∷ rests) (k + 1)
    newest last =
        let same = eqb-true k (length rests) last in
        let at = time_newest rest rests k same in
        let then_at = time_newest next (rest ∷ rests) (k + 1) (omega (arith, same)) in
        let rising = (covered 0 rest next refl refl).rising in omega (arith, here, at, then_at, rising)

    earlier : k < length rests → (k < length rests → time_at (rest ∷ rests) k ≤ time_at (rest ∷ rests) (k + 1)) → time_at (next ∷ rest ∷ rests) k ≤ time_at (next ∷ rest ∷ rests) (k + 1)
    earlier less again =
        let then_at = time_earlier next (rest ∷ rests) (k + 1) (omega (arith, less)) in
        let rising = again less in omega (arith, here, then_at, rising)

-- at a moment that is past, or on the way to the next
meanwhile_past : (lower : DiskState) (next : Rest) (rests : List Rest) → AreCovered lower next rests → (k t : ℕ) (m : Medium) → k < length rests
    → IsMeanwhile (time_at (next ∷ rests)) k t → HeldAt lower t m → UnderPast (map (λ rest. rest.medium) rests) k m
meanwhile_past lower next [] covered k t m there meanwhile at = absurd (omega (arith, there))
meanwhile_past lower next (rest ∷ rests) covered k t m there meanwhile at = by_answer (nat_eq k (length rests)) newest
    (λ other. earlier (less_than k (length rests) (omega (arith, there)) other) (λ less again. meanwhile_past lower rest rests (λ i. covered (suc i)) k t m less again at))
  where
    here : time_at (next ∷ rest ∷ rests) k ≡ time_at (rest ∷ rests) k
    here = time_earlier next (rest ∷ rests) k there

    from : time_at (rest ∷ rests) k ≤ t
    from = let some = meanwhile.from in omega (arith, some, here)

    newest : nat_eq k (length rests) ≡ true → UnderPast (map (λ rest. rest.medium) (rest ∷ rests)) k m
    newest last = (rest.medium, inl (same ∙ sym (length-map rests (λ rest. rest.medium)), refl), (covered 0 rest next refl refl).under t m begun (until meanwhile.until) at)
      where
        same : k ≡ length rests
        same = eqb-true k (length rests) last

        time : time_at (rest ∷ rests) k ≡ rest.time
        time = time_newest rest rests k same

        begun : rest.time ≤ t
        begun = omega (arith, from, time)

        following : time_at (next ∷ rest ∷ rests) (k + 1) ≡ next.time
        following = time_newest next (rest ∷ rests) (k + 1) (omega (arith, same))

        until : (t ≡ time_at (next ∷ rest ∷ rests) k) ⊎ (t < time_at (next ∷ rest ∷ rests) (k + 1)) → t < max next.time (rest.time + 1)
        until (inl is) = omega (arith, is, here, time)
        until (inr less) = omega (arith, less, following)

    earlier : k < length rests → (k < length rests → IsMeanwhile (time_at (rest ∷ rests)) k t → UnderPast (map (λ rest. rest.medium) rests) k m)
        → UnderPast (map (λ rest. rest.medium) (rest ∷ rests)) k m
    earlier less below = let found = below less (record { from = from; until = until meanwhile.until }) in (found.0, inr found.1, found.2)
      where
        until : (t ≡ time_at (next ∷ rest ∷ rests) k) ⊎ (t < time_at (next ∷ rest ∷ rests) (k + 1)) → (t ≡ time_at (rest ∷ rests) k) ⊎ (t < time_at (rest ∷ rests) (k + 1))
        until (inl is) = inl (is ∙ here)
        until (inr before) = let R : ℕ → Type 0 = λ time. t < time in inr (subst R (time_earlier next (rest ∷ rests) (k + 1) (omega (arith, less))) before)

-- at any moment, or on the way to the next
pub under_meanwhile : (held : Held) (lower : DiskState) (rests : List Rest) → AreCovered lower (record { time = moment lower; medium = laid held lower.now }) rests
    → (k t : ℕ) (m : Medium) → k ≤ length rests → IsMeanwhile (time_at (record { time = moment lower; medium = laid held lower.now } ∷ rests)) k t → HeldAt lower t m
    → UnderPast (laid held lower.now ∷ map (λ rest. rest.medium) rests) k m
under_meanwhile held lower rests covered k t m within meanwhile at = by_answer (nat_eq k (length rests)) present past
  where
    past : nat_eq k (length rests) ≡ false → UnderPast (laid held lower.now ∷ map (λ rest. rest.medium) rests) k m
    past other = let found = meanwhile_past lower (record { time = moment lower; medium = laid held lower.now }) rests covered k t m (less_than k (length rests) (omega (arith, within)) other) meanwhile at in (found.0, inr found.1, found.2)

    present : nat_eq k (length rests) ≡ true → UnderPast (laid held lower.now ∷ map (λ rest. rest.medium) rests) k m
    present here = (laid held lower.now, inl (same ∙ sym (length-map rests (λ rest. rest.medium)), refl), now at)
      where
        same : k ≡ length rests
        same = eqb-true k (length rests) here

        time : moment lower ≤ t
        time = let R : ℕ → Type 0 = λ time. time ≤ t in subst R (time_newest (record { time = moment lower; medium = laid held lower.now }) rests k same) meanwhile.from

        now : HeldAt lower t m → IsUnder (laid held lower.now) m
        now (inl is) =
            let R : Medium → Type 0 = IsUnder (laid held lower.now) in
            subst R (sym is.1) (touched_under held lower.now lower.now (touches_nothing (laid held lower.now).dirty lower.now))
        now (inr earlier) = let before = held_before lower.past t m earlier in absurd (omega (arith, before, time))

-- ---- the moments before a late disk was made

-- their media
pub media_before : (ms : List Medium) → map (λ rest. rest.medium) (rests_before ms) ≡ ms
media_before [] = refl
media_before (m ∷ ms) = ap (λ (earlier : List Medium). m ∷ earlier) (media_before ms)

-- the first one is the first one below
first_before : (ms : List Medium) (next : Rest) → next.time ≡ length ms → time_at (next ∷ rests_before ms) 0 ≡ 0
first_before [] next time = time
first_before (m ∷ ms) next time =
    cond_no _ _ (ne_eqb 0 (length (rests_before (m ∷ ms))) (λ same. omega (arith, same))) ∙ first_before ms (record { time = length ms; medium = m }) refl

-- each is under itself
each_before : (lower : DiskState) (ms : List Medium) (next : Rest) → next.time ≡ length ms → length ms ≤ moment lower
    → ((t : ℕ) (m : Medium) → t < length ms → HeldAt lower t m → HeldPast ms t m) → AreCovered lower next (rests_before ms)
each_before lower [] next time within kept i rest after here there = cc
each_before lower (m ∷ ms) next time within kept zero rest after here there =
    let first : record { time = length ms; medium = m } ≡ rest = some_equal _ _ here in
    let second : next ≡ after = some_equal _ _ there in
    let R : Rest → Type 0 = λ r. Covers lower r after in
    let S : Rest → Type 0 = λ r. Covers lower (record { time = length ms; medium = m }) r in
    subst R first (subst S second (record {
      past = omega (arith, time, within);
      rising = omega (arith, time);
      under = λ t n from until at. by_moment t n (omega (arith, until, time)) from (kept t n (omega (arith, until, time)) at);
    }))
  where
    by_moment : (t : ℕ) (n : Medium) → t ≤ length ms → length ms ≤ t → HeldPast (m ∷ ms) t n → IsUnder m n
    by_moment t n few many (inl is) = let R : Medium → Type 0 = IsUnder m in subst R (sym is.1) (record { left = λ left may. may; clean = λ clean. refl })
    by_moment t n few many (inr earlier) = let before = held_before ms t n earlier in absurd (omega (arith, before, many))
each_before lower (m ∷ ms) next time within kept (suc i) rest after here there =
    each_before lower ms (record { time = length ms; medium = m }) refl (omega (arith, within)) (λ t n less at. by_moment t n less (kept t n (omega (arith, less)) at)) i rest after here there
  where
    by_moment : (t : ℕ) (n : Medium) → t < length ms → HeldPast (m ∷ ms) t n → HeldPast ms t n
    by_moment t n less (inl is) = let same = is.0 in absurd (omega (arith, same, less))
    by_moment t n less (inr earlier) = earlier

-- so they are covered where it was made
pub covered_before : (lower : DiskState) (medium : Medium) → IsCovered lower (record { time = moment lower; medium = medium }) (rests_before lower.past)
covered_before lower medium =
    record {
      first = first_before lower.past (record { time = moment lower; medium = medium }) refl;
      each = each_before lower lower.past (record { time = moment lower; medium = medium }) refl (omega arith) by_moment;
    }
  where
    by_moment : (t : ℕ) (m : Medium) → t < moment lower → HeldAt lower t m → HeldPast lower.past t m
    by_moment t m less (inl is) = let same = is.0 in absurd (omega (arith, same, less))
    by_moment t m less (inr earlier) = earlier

-- blocks in a row
module _ (held : Held) (first : ℕ) (blocks : List (List ℕ)) (old new : DiskState)
    (waits : (i : ℕ) → i < length blocks → held (first + i) ≡ Some (slice_index_or blocks i [])) where
  -- where one of them stands
  pub found : (k : ℕ) → in_run first (length blocks) k ≡ true → (i : ℕ) × (i < length blocks) × (first + i ≡ k)
  found k inside =
      let parts = and_parts (nat_le first k) (nat_lt k (first + length blocks)) inside in
      let from = leb-true first k parts.0 in
      let before = ltb-true k (first + length blocks) parts.1 in (k - first, omega (arith, from, before), omega (arith, from))

  some_waits : (k : ℕ) → in_run first (length blocks) k ≡ true → is_some (held k) ≡ true
  some_waits k inside = let place = found k inside in ap (λ o. is_some o) (ap held (sym place.2) ∙ waits place.0 place.1)

  -- they could not all be written out, and still wait
  pub run_unsent_same : {T : Type 0} (result : Result T DeviceFault) → WritesRun first blocks result old new → laid held new.now ≡ laid held old.now
  run_unsent_same result writes =
      let touches = at_end old new (TouchesOnly (in_run first (length blocks)) old.now) writes.moments in
      laid_same held held old.now new.now touches.count writes.sure
      (λ k. by_answer (in_run first (length blocks) k)
      (λ y. same_over (held k) (some_waits k y) (block new.now.contents k) (block old.now.contents k))
      (λ z. ap (over (held k)) (touches.same k z)))
      (λ k. by_answer (in_run first (length blocks) k)
      (λ y. or_right _ _ (some_waits k y) ∙ sym (or_right _ _ (some_waits k y)))
      (λ z. ap (λ b. b || is_some (held k)) (writes.others_dirty k z)))
    where
      same_over : (o : Option (List ℕ)) → is_some o ≡ true → (a b : List ℕ) → over o a ≡ over o b
      same_over None some a b = cc
      same_over (Some bytes) some a b = refl

  -- they were, and wait no longer
  pub run_sent_same : {T : Type 0} (x : T) (result : Result T DeviceFault) (held' : Held) → result ≡ Ok x
      → ((k : ℕ) → held' k ≡ (if in_run first (length blocks) k then None else held k)) → WritesRun first blocks result old new → laid held' new.now ≡ laid held old.now
  run_sent_same {T} x result held' ok gone any =
      let touches = at_end old new (TouchesOnly (in_run first (length blocks)) old.now) writes.moments in
      laid_same held held' old.now new.now touches.count writes.sure
      (λ k. by_answer (in_run first (length blocks) k)
      (λ y. let place = found k y in
      ap (λ o. over o (block new.now.contents k)) (gone k ∙ cond_yes _ _ y) ∙ ap (block new.now.contents) (sym place.2) ∙ writes.written place.0 place.1
      ∙ sym (ap (λ o. over o (block old.now.contents k)) (ap held (sym place.2) ∙ waits place.0 place.1)))
      (λ z. ap (λ o. over o (block new.now.contents k)) (gone k ∙ cond_no _ _ z) ∙ ap (over (held k)) (touches.same k z)))
      (λ k. by_answer (in_run first (length blocks) k)
      (λ y. let place = found k y in
      or_left _ _ (ap new.now.dirty (sym place.2) ∙ writes.dirty place.0 place.1) ∙ sym (or_right _ _ (some_waits k y)))
      (λ z. ap (λ o. new.now.dirty k || is_some o) (gone k ∙ cond_no _ _ z) ∙ ap (λ b. b || is_some (held k)) (writes.others_dirty k z)))
    where
      writes : WritesRun first blocks (Ok x) old new
      writes = let R : Result T DeviceFault → Type 0 = λ r. WritesRun first blocks r old new in subst R ok any

  -- just blocks that are dirty above were touched below
  pub run_touches : {T : Type 0} (result : Result T DeviceFault) → WritesRun first blocks result old new → Throughout old new (TouchesOnly (laid held old.now).dirty old.now)
  run_touches result writes =
      weaken old new (TouchesOnly (in_run first (length blocks)) old.now) (TouchesOnly (laid held old.now).dirty old.now) (λ m touches. wider m touches) writes.moments
    where
      outside : (k : ℕ) → (laid held old.now).dirty k ≡ false → in_run first (length blocks) k ≡ false
      outside k clean = by_answer (in_run first (length blocks) k)
          (λ y. let clash : true ≡ false = sym (or_right (old.now.dirty k) (is_some (held k)) (some_waits k y)) ∙ clean in cc)
          (λ z. z)

      wider : (m : Medium) → TouchesOnly (in_run first (length blocks)) old.now m → TouchesOnly (laid held old.now).dirty old.now m
      wider m touches =
          record {
            count = touches.count;
            same = λ k out. touches.same k (outside k out);
            clean = λ k out clean. touches.clean k (outside k out) clean;
            sure = touches.sure;
          }
