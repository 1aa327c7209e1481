-- How steps of copying follow one another.
use Rattle.std.proofs.Common.{◌≡◌, ℕ, ◌+◌, ◌<◌, ◌≤◌, Bool, true, false, IsErrAnd, List, [], Ok, Err, Result, refl, ap, arith}
use Rattle.std.proofs.lemmas.Bool.Decides.{nat_tests}
use Rattle.vm_disk.specs.Disk.{DiskState, Medium, Writes}
use Rattle.vm_disk.specs.Moments.{Throughout, TouchesOnly}
use Rattle.vm_disk.specs.declared.disk.DeviceFault.{DeviceFault}
use Rattle.vm_disk.proofs.GoesLemmas.{goes_at, goes_nowhere, goes_then}
use Rattle.vm_disk.proofs.LaidLemmas.{touches_then}
use Rattle.vm_disk.proofs.MomentLemmas.{and_then, at_end, started, touches_nothing, weaken, write_on}
use Rattle.vm_tree.specs.Calls.{Looks}
use Rattle.vm_tree.proofs.Looking.{looks_none, looks_on, looks_so}
use Rattle.vm_tree.proofs.Touching.{unsynced_then}
use Rattle.vm_check.specs.Renumbering.{next_of}
use Rattle.vm_check.specs.TreeCopy.{Puts, StaysUnsynced, Steps, TouchesCopies, is_for_copies}
use Rattle.vm_check.specs.declared.renumbering.Renumbering.{Renumbering}
use Rattle.vm_check.proofs.RenumberLemmas.{goes_same, goes_then as numbers_then}

is_next : (n first last limit : ℕ) → n ≡ first → first ≤ last → n < limit → is_for_copies first last limit n ≡ true
is_next n first last limit is le lt = grind (arith, nat_tests)

-- the blocks of the store's own are not among those of copies
pub first_apart : (first last limit n : ℕ) → n < first → is_for_copies first last limit n ≡ false
first_apart first last limit n lt = grind (arith, nat_tests)

-- of fewer numbers there are fewer blocks
apart_still : (a b c d limit n : ℕ) → a ≤ b → c ≤ d → is_for_copies a d limit n ≡ false → is_for_copies b c limit n ≡ false
apart_still a b c d limit n low high out = grind (arith, nat_tests)

-- where more may be touched
touches_wider : (few many : ℕ → Bool) (old new : Medium) → ((n : ℕ) → many n ≡ false → few n ≡ false) → TouchesOnly few old new → TouchesOnly many old new
touches_wider few many old new so touches = record {
  count = touches.count;
  same = λ n out. touches.same n (so n out);
  clean = λ n out clean. touches.clean n (so n out) clean;
  sure = touches.sure;
}

-- a write to the block of the next number touches no other
pub next_written : {T : Type 0} (n : ℕ) (bytes : List ℕ) (result : Result T DeviceFault) (first last limit : ℕ) (old new : DiskState) → n ≡ first → first ≤ last → n < limit → Writes n bytes result old new
    → Throughout old new (TouchesOnly (is_for_copies first last limit) old.now)
next_written n bytes result first last limit old new is le lt writes =
    let touched = is_for_copies first last limit in
    write_on n bytes result touched old old new (is_next n first last limit is le lt) (started old (TouchesOnly touched old.now) (touches_nothing touched old.now)) writes

-- where nothing was done
pub untouched : (limit : ℕ) (s : DiskState) (numbers : Renumbering) → TouchesCopies limit s numbers s numbers
untouched limit s numbers honest =
    let touched = is_for_copies (next_of numbers) (next_of numbers) limit in started s (TouchesOnly touched s.now) (touches_nothing touched s.now)

pub never_synced : (s : DiskState) → StaysUnsynced s s
never_synced s honest = record { since = []; goes_on = refl; each = tt }

copies_then : (limit : ℕ) (a b c : Renumbering) (old mid new : DiskState) → next_of a ≤ next_of b → next_of b ≤ next_of c → (new.honest ≡ true → mid.honest ≡ true) → TouchesCopies limit old a mid b → TouchesCopies limit mid b new c → TouchesCopies limit old a new c
copies_then limit a b c old mid new low high earlier first more honest =
    let all = is_for_copies (next_of a) (next_of c) limit in
    let before = is_for_copies (next_of a) (next_of b) limit in
    let after = is_for_copies (next_of b) (next_of c) limit in
    let here : next_of a ≤ next_of a = omega arith in
    let there : next_of c ≤ next_of c = omega arith in
    let so_far = weaken old mid (TouchesOnly before old.now) (TouchesOnly all old.now) (λ m touches. touches_wider before all old.now m (λ n. apart_still (next_of a) (next_of a) (next_of b) (next_of c) limit n here high) touches) (first (earlier honest)) in
    and_then old mid new (TouchesOnly all old.now) so_far
    (weaken mid new (TouchesOnly after mid.now) (TouchesOnly all old.now)
    (λ m touches. touches_then all old.now mid.now m (at_end old mid (TouchesOnly all old.now) so_far) (touches_wider after all mid.now m (λ n. apart_still (next_of a) (next_of b) (next_of c) (next_of c) limit n low there) touches)) (more honest))

unsynced_on : (old mid new : DiskState) → (new.honest ≡ true → mid.honest ≡ true) → StaysUnsynced old mid → StaysUnsynced mid new → StaysUnsynced old new
unsynced_on old mid new earlier first more honest = unsynced_then old mid new (first (earlier honest)) (more honest)

module _ {source target none_left done : Type 0} {limit : ℕ} where
  module _ {a b c d : Type 0} where
    -- one step more
    pub step_on : {a' b' c' d' : Type 0} {s t s1 t1 s2 t2 : DiskState} {old mid new : Renumbering} → Steps a' b' c' d' limit s t old s1 t1 mid → d' → Steps a b c d limit s1 t1 mid s2 t2 new
        → (source → a) → (target → b) → (none_left → c) → (done → d) → Steps source target none_left done limit s t old s2 t2 new
    step_on {a'} {b'} {c'} {d'} {s} {t} {s1} {t1} {s2} {t2} {old} {mid} {new} so_far fine more source_so target_so none_so done_so = record {
      looks = looks_on so_far.looks more.looks source_so;
      goes = goes_then _ b target _ _ _ so_far.goes more.goes target_so;
      touches = copies_then limit old mid new t t1 t2 so_far.numbers.rising more.numbers.rising more.goes.earlier so_far.touches more.touches;
      unsynced = unsynced_on t t1 t2 more.goes.earlier so_far.unsynced more.unsynced;
      numbers = numbers_then so_far.numbers more.numbers;
      full = λ is. more.full (none_so is);
      paid = λ is. omega (arith, so_far.paid fine, more.paid (done_so is));
    }

    -- a step after a read, which was not done
    pub step_fails : {reads : Type 0} {s t s1 s2 t2 : DiskState} {old new : Renumbering} → Looks reads s s1 → Steps a b c d limit s1 t old s2 t2 new
        → (source → a) → (target → b) → (none_left → c) → (done → ⊥) → Steps source target none_left done limit s t old s2 t2 new
    step_fails look more source_so target_so none_so fails = record {
      looks = looks_on look more.looks source_so;
      goes = goes_at b target _ _ more.goes target_so;
      touches = more.touches;
      unsynced = more.unsynced;
      numbers = more.numbers;
      full = λ is. more.full (none_so is);
      paid = λ is. absurd (fails is);
    }

  -- no call of either disk
  pub step_none : (s t : DiskState) (numbers : Renumbering) → (source → ⊥) → (target → ⊥) → (none_left → ⊥) → Steps source target none_left done limit s t numbers s t numbers
  step_none s t numbers a b c = record {
    looks = looks_none s a;
    goes = goes_nowhere target t t refl b;
    touches = untouched limit t numbers;
    unsynced = never_synced t;
    numbers = goes_same numbers;
    full = λ is. absurd (c is);
    paid = λ is. refl;
  }

  -- a read alone, after which nothing was done
  pub step_read : {reads : Type 0} {s s' : DiskState} (t : DiskState) (numbers : Renumbering) → Looks reads s s' → (source → reads) → (target → ⊥) → (none_left → ⊥) → (done → ⊥)
      → Steps source target none_left done limit s t numbers s' t numbers
  step_read t numbers look source_so b c fails = record {
    looks = looks_so look source_so;
    goes = goes_nowhere target t t refl b;
    touches = untouched limit t numbers;
    unsynced = never_synced t;
    numbers = goes_same numbers;
    full = λ is. absurd (c is);
    paid = λ is. absurd (fails is);
  }

  -- a block was read, and then copied
  pub step_leaf : {reads puts none put : Type 0} {damaged : ℕ → Type 0} {n : ℕ} {s t s1 t1 : DiskState} {old new : Renumbering} → Looks reads s s1 → s1.reads ≡ s.reads + 1 → Puts puts none put damaged limit n t old t1 new
      → (source → ⊥) → (target → puts) → (none_left → none) → (done → put) → Steps source target none_left done limit s t old s1 t1 new
  step_leaf {reads} {puts} look once last source_so target_so none_so done_so = record {
    looks = looks_so look (λ is. absurd (source_so is));
    goes = goes_at puts target _ _ last.goes target_so;
    touches = last.touches;
    unsynced = last.unsynced;
    numbers = last.numbers;
    full = λ is. last.full (none_so is);
    paid = λ is. omega (arith, once, (last.assigned (done_so is)).next);
  }

  -- a block was read, what lies under it was copied, and then the block
  pub step_put : {reads a b c d puts none put : Type 0} {damaged : ℕ → Type 0} {n : ℕ} {s t s1 s2 t2 t3 : DiskState} {old mid new : Renumbering} → Looks reads s s1 → s1.reads ≡ s.reads + 1
      → Steps a b c d limit s1 t old s2 t2 mid → d → Puts puts none put damaged limit n t2 mid t3 new
      → (source → a) → (target → puts) → (none_left → none) → (done → put) → Steps source target none_left done limit s t old s2 t3 new
  step_put {reads} {a} {b} {c} {d} {puts} {none} {put} {damaged} {n} {s} {t} {s1} {s2} {t2} {t3} {old} {mid} {new} look once so_far fine last source_so target_so none_so done_so = record {
    looks = looks_on look so_far.looks source_so;
    goes = goes_then _ _ target _ _ _ so_far.goes last.goes target_so;
    touches = copies_then limit old mid new t t2 t3 so_far.numbers.rising last.numbers.rising last.goes.earlier so_far.touches last.touches;
    unsynced = unsynced_on t t2 t3 last.goes.earlier so_far.unsynced last.unsynced;
    numbers = numbers_then so_far.numbers last.numbers;
    full = λ is. last.full (none_so is);
    paid = λ is. omega (arith, once, so_far.paid fine, (last.assigned (done_so is)).next);
  }

-- one fault, passed on under another type
pub same_fault : {T U E : Type 0} (result : Result T E) (e f : E) → IsErrAnd result (λ fault. fault ≡ e) → result ≡ Err f → ◌≡◌ {A = Result U E} (Err e) (Err f)
same_fault (Ok x) e f is same = absurd is
same_fault (Err fault) e f is same = let one : e ≡ f = cc in ap Err one
