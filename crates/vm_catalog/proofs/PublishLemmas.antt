-- How each moment of a publish follows from the one before it.
use Rattle.std.proofs.Common.{◌≡◌, ◌≢◌, ◌⊎◌, inl, inr, ⊎_elim, ℕ, ◌+◌, ◌<◌, ◌≤◌, Bool, true, false, List, length, refl, sym, ap, ◌∙◌, subst, Result, Ok, Err, OnOk, arith}
use Rattle.std.proofs.lemmas.Bool.{false≢true}
use Rattle.std.proofs.lemmas.Bool.Decides.{nat_tests}
use Rattle.vm_disk.specs.Disk.{Contents, block, Medium, MayLeave, IsClean, DiskState, Syncs}
use Rattle.vm_disk.specs.Moments.{Throughout, TouchesOnly}
use Rattle.vm_disk.proofs.MomentLemmas.{at_end, clean_sure, goes_on, sync_touches, weaken}
use Rattle.vm_disk.specs.declared.disk.DeviceFault.{DeviceFault}
use Rattle.vm_block.specs.Header.{IsHeader}
use Rattle.vm_block.specs.Selector.{named_slot, other_slot, selector_bytes}
use Rattle.vm_block.specs.Slot.{IsSlot, SlotFits, used_blocks}
use Rattle.vm_block.specs.declared.slot.Entry.{Entry}
use Rattle.vm_block.specs.declared.selector.SlotName.{SlotName}
use Rattle.vm_block.specs.declared.selector.SlotName.TheVariants.{A, B}
use Rattle.vm_catalog.specs.Place.{blocks_from, region, slot_at, selected, is_turned, is_used}
use Rattle.vm_catalog.specs.Written.{IsAsWritten, slot_blocks}
use Rattle.vm_catalog.specs.Catalog.{SlotAt, Names, AtRest}
use Rattle.vm_catalog.specs.Publication.{IsPublished, PublishLeaves, IsTurning, IsSafelyPublishing}
use Rattle.vm_catalog.proofs.SlotLaw.{written_slot}
use Rattle.vm_catalog.proofs.PlaceLemmas.{blocks_same, apart, no_data, used_front, used_slot, slot_high}

-- what is written is named by the selector
pub written_selector : (slot_name : SlotName) → named_slot (selector_bytes slot_name) ≡ slot_name
unfolding selector_bytes
written_selector A = refl
written_selector B = refl

-- contents with the same used blocks of a slot hold the same entries there
pub slot_in : (x y : Contents) (slot_name : SlotName) (limit : ℕ) (es : List Entry) → ((n : ℕ) → slot_at slot_name ≤ n → n < slot_at slot_name + used_blocks (length es) → block y n ≡ block x n) → SlotAt x slot_name limit es → SlotAt y slot_name limit es
slot_in x y slot_name limit es same held =
    let P : List (List ℕ) → Type 0 = λ blocks. IsSlot blocks limit es in
    subst P (sym (blocks_same x y (slot_at slot_name) (used_blocks (length es)) same)) held

-- contents with the same used blocks name the same entries
pub names_in : (x y : Contents) (slot_name : SlotName) (limit : ℕ) (es : List Entry) → ((n : ℕ) → is_used slot_name (length es) n ≡ true → block y n ≡ block x n) → selected x ≡ slot_name → Names x limit es → Names y limit es
names_in x y slot_name limit es same in_use names =
    let chosen : selected y ≡ selected x = ap named_slot (same 1 (used_front slot_name (length es) 1 (omega arith))) in
    let P : SlotName → Type 0 = λ b. SlotAt y b limit es in
    let Q : SlotName → Type 0 = λ b. SlotAt x b limit es in
    record {
      header = same 0 (used_front slot_name (length es) 0 (omega arith)) ∙ names.header;
      slot = subst P (sym (chosen ∙ in_use)) (slot_in x y slot_name limit es (λ n low high. same n (used_slot slot_name (length es) n low high)) (subst Q in_use names.slot));
    }

-- a slot whose selector names it
pub names_slot : (x : Contents) (slot_name : SlotName) (limit : ℕ) (es : List Entry) → IsHeader (block x 0) → selected x ≡ slot_name → SlotAt x slot_name limit es → Names x limit es
names_slot x slot_name limit es header in_use slot =
    let P : SlotName → Type 0 = λ b. SlotAt x b limit es in
    record { header = header; slot = subst P (sym in_use) slot }

-- the slot that the selector names
pub slot_of : (x : Contents) (slot_name : SlotName) (limit : ℕ) (es : List Entry) → selected x ≡ slot_name → Names x limit es → SlotAt x slot_name limit es
slot_of x slot_name limit es in_use names =
    let P : SlotName → Type 0 = λ b. SlotAt x b limit es in subst P in_use names.slot

-- what a call did to the blocks of a slot, under another of its names
pub touches_other : (old new : DiskState) (n : ℕ) {one other : SlotName} → one ≡ other → Throughout old new (TouchesOnly (region (slot_at one) n) old.now)
    → Throughout old new (TouchesOnly (region (slot_at other) n) old.now)
touches_other old new n same touches =
    let P : SlotName → Type 0 = λ b. Throughout old new (TouchesOnly (region (slot_at b) n) old.now) in subst P same touches

-- what a slot holds, under another of its names
pub in_other_slot : (x : Contents) (n : ℕ) {blocks : List (List ℕ)} {one other : SlotName} → one ≡ other → blocks_from x (slot_at one) n ≡ blocks → blocks_from x (slot_at other) n ≡ blocks
in_other_slot x n {blocks} same holds = let P : SlotName → Type 0 = λ b. blocks_from x (slot_at b) n ≡ blocks in subst P same holds

-- a block that a publish leaves is none of the slot's
left_out : (slot_name : SlotName) (count n : ℕ) → is_turned slot_name count n ≡ false → region (slot_at slot_name) (used_blocks count) n ≡ false
left_out slot_name count n out = grind (arith, nat_tests)

-- a call that touched the blocks of a slot alone, under another of its names, touched none but them and the selector
pub touches_turned : (old new : DiskState) (count : ℕ) {one other : SlotName} → one ≡ other → Throughout old new (TouchesOnly (region (slot_at one) (used_blocks count)) old.now) → Throughout old new (TouchesOnly (is_turned other count) old.now)
touches_turned old new count {one} {other} same touches =
    weaken _ _ _ _ (λ m is. record { count = is.count; same = λ n out. is.same n (left_out other count n out); clean = λ n out. is.clean n (left_out other count n out); sure = is.sure }) (touches_other old new (used_blocks count) same touches)

-- one sync more touches nothing more
pub sync_on : {T : Type 0} (result : Result T DeviceFault) (touched : ℕ → Bool) (old mid new : DiskState) → Throughout old mid (TouchesOnly touched old.now) → Syncs result mid new → Throughout old new (TouchesOnly touched old.now)
sync_on result touched old mid new so_far sync = goes_on _ _ _ _ so_far sync.time (sync_touches _ _ _ _ _ sync (at_end _ _ _ so_far))

-- a slot was written, then the selector, and both have stayed so
pub stays_written : {T : Type 0} (result : Result T DeviceFault) (written turned last : Contents) (slot_name : SlotName) (limit : ℕ) (es : List Entry) → blocks_from written (slot_at slot_name) (used_blocks (length es)) ≡ slot_blocks limit es → ((n : ℕ) → n ≢ 1 → block turned n ≡ block written n) → block turned 1 ≡ selector_bytes slot_name → last ≡ turned → OnOk result (IsAsWritten last slot_name limit es)
stays_written (Ok x) written turned last slot_name limit es slot others chosen same = record {
  slot = ap (λ (y : Contents). blocks_from y (slot_at slot_name) (used_blocks (length es))) same ∙ blocks_same written turned (slot_at slot_name) (used_blocks (length es)) (λ n low high. others n (slot_high slot_name n low)) ∙ slot;
  selector = ap (λ (y : Contents). block y 1) same ∙ chosen;
}
stays_written (Err e) written turned last slot_name limit es slot others chosen same = tt

-- from the entries in use, and others that a slot may have
module _ (slot_name : SlotName) (old : Medium) (limit : ℕ) (es : List Entry) (new_limit : ℕ) (new : List Entry) (rest : AtRest slot_name old limit es) (fits : SlotFits new_limit new) where
  few : length es ≤ 511
  few = rest.names.slot.fits.head.few

  less : length new ≤ 511
  less = fits.head.few

  -- the blocks that name the old entries are spared where only the other slot is written
  kept : (m : Medium) → TouchesOnly (region (slot_at (other_slot slot_name)) (used_blocks (length new))) old m → (n : ℕ) → is_used slot_name (length es) n ≡ true → (block m.contents n ≡ block old.contents n) × (m.dirty n ≡ false)
  kept m spares n used =
      let out = apart slot_name (length es) (length new) n few less used in
      (spares.same n out, spares.clean n out (rest.clean n used))

  -- the old entries are named still
  still_named : (m : Medium) → TouchesOnly (region (slot_at (other_slot slot_name)) (used_blocks (length new))) old m → AtRest slot_name m limit es
  still_named m spares =
      record {
        names = names_in old.contents m.contents slot_name limit es (λ n used. (kept m spares n used).0) rest.in_use rest.names;
        in_use = ap named_slot (kept m spares 1 (used_front slot_name (length es) 1 (omega arith))).0 ∙ rest.in_use;
        clean = λ n used. (kept m spares n used).1;
      }

  -- while the other slot is written
  pub before_selector : (m : Medium) → TouchesOnly (region (slot_at (other_slot slot_name)) (used_blocks (length new))) old m → IsSafelyPublishing slot_name old limit es new_limit new m
  before_selector m spares =
      let named = still_named m spares in
      record {
        count = spares.count;
        sure = spares.sure;
        same = λ n far. spares.same n (no_data (other_slot slot_name) (length new) n less far);
        still_clean = λ n far clean. spares.clean n (no_data (other_slot slot_name) (length new) n less far) clean;
        spared = λ n other used. kept m spares n used;
        settled = λ clean. inl named;
        turning = λ dirty. absurd (false≢true (sym (named.clean 1 (used_front slot_name (length es) 1 (omega arith))) ∙ dirty));
      }

  -- the new entries stand in the other slot, whole and clean, and the old ones are named still
  pub record IsReady (m : Medium) : Type 0 where
    pub spares : TouchesOnly (region (slot_at (other_slot slot_name)) (used_blocks (length new))) old m
    pub clean : IsClean m
    pub slot : SlotAt m.contents (other_slot slot_name) new_limit new

  -- while the selector is dirty
  pub at_selector : (ready m : Medium) → IsReady ready → m.dirty 1 ≡ true → length m.contents ≡ length ready.contents → m.sure ≡ ready.sure → ((n : ℕ) → n ≢ 1 → block m.contents n ≡ block ready.contents n) → ((n : ℕ) → n ≢ 1 → m.dirty n ≡ ready.dirty n) → IsSafelyPublishing slot_name old limit es new_limit new m
  at_selector ready m is dirty count sure others others_dirty =
      let named = still_named ready is.spares in
      let clean : (n : ℕ) → n ≢ 1 → m.dirty n ≡ false = λ n other. others_dirty n other ∙ is.clean n in
      record {
        count = count ∙ is.spares.count;
        sure = omega (arith, sure, is.spares.sure);
        same = λ n far. others n (omega arith) ∙ is.spares.same n (no_data (other_slot slot_name) (length new) n less far);
        still_clean = λ n far was. clean n (omega arith);
        spared = λ n other used. (others n other ∙ (kept ready is.spares n used).0, clean n other);
        settled = λ not_dirty. absurd (false≢true (sym not_dirty ∙ dirty));
        turning = λ _. record {
          header = others 0 (omega arith) ∙ named.names.header;
          old = slot_in ready.contents m.contents slot_name limit es (λ n low high. others n (slot_high slot_name n low)) (slot_of ready.contents slot_name limit es named.in_use named.names);
          new_slot = slot_in ready.contents m.contents (other_slot slot_name) new_limit new (λ n low high. others n (slot_high (other_slot slot_name) n low)) is.slot;
          clean = clean;
          sure = sure ∙ clean_sure ready is.clean ∙ sym count;
        };
      }

  -- after the last sync
  pub after_selector : (ready turned m : Medium) → IsReady ready → ((n : ℕ) → n ≢ 1 → block turned.contents n ≡ block ready.contents n) → length turned.contents ≡ length ready.contents → block turned.contents 1 ≡ selector_bytes (other_slot slot_name) → m.contents ≡ turned.contents → IsClean m → IsPublished (other_slot slot_name) old m new_limit new
  after_selector ready turned m is others count chosen same clean =
      let one : (n : ℕ) → block m.contents n ≡ block turned.contents n = λ n. ap (λ (x : Contents). block x n) same in
      let now : (n : ℕ) → n ≢ 1 → block m.contents n ≡ block ready.contents n = λ n other. one n ∙ others n other in
      let in_use : selected m.contents ≡ other_slot slot_name = ap named_slot (one 1 ∙ chosen) ∙ written_selector (other_slot slot_name) in
      let named = still_named ready is.spares in
      record {
        rest = record {
          names = names_slot m.contents (other_slot slot_name) new_limit new (now 0 (omega arith) ∙ named.names.header) in_use (slot_in ready.contents m.contents (other_slot slot_name) new_limit new (λ n low high. now n (slot_high (other_slot slot_name) n low)) is.slot);
          in_use = in_use;
          clean = λ n used. clean n;
        };
        clean = clean;
        same = λ n far. now n (omega arith) ∙ is.spares.same n (no_data (other_slot slot_name) (length new) n less far);
        count = ap (λ (x : Contents). length x) same ∙ count ∙ is.spares.count;
      }

  -- at the end
  pub when_published : (ready m : Medium) → IsReady ready → ((n : ℕ) → n ≢ 1 → block m.contents n ≡ block ready.contents n) → IsPublished (other_slot slot_name) old m new_limit new → IsSafelyPublishing slot_name old limit es new_limit new m
  when_published ready m is now published =
      record {
        count = published.count;
        sure = omega (arith, clean_sure m published.clean, published.count, old.within);
        same = published.same;
        still_clean = λ n far was. published.clean n;
        spared = λ n other used. (now n other ∙ (kept ready is.spares n used).0, published.clean n);
        settled = λ clean. inr (published.rest, published.clean);
        turning = λ dirty. absurd (false≢true (sym (published.clean 1) ∙ dirty));
      }

  -- the slot that is not in use is written, and synced
  pub ready_by : (written : Contents) (ready : Medium) → TouchesOnly (region (slot_at (other_slot slot_name)) (used_blocks (length new))) old ready → IsClean ready → ready.contents ≡ written → blocks_from written (slot_at (other_slot slot_name)) (used_blocks (length new)) ≡ slot_blocks new_limit new → IsReady ready
  ready_by written ready spares clean same blocks =
      let P : List (List ℕ) → Type 0 = λ bs. IsSlot bs new_limit new in
      let there : blocks_from ready.contents (slot_at (other_slot slot_name)) (used_blocks (length new)) ≡ slot_blocks new_limit new = ap (λ (x : Contents). blocks_from x (slot_at (other_slot slot_name)) (used_blocks (length new))) same ∙ blocks in
      record { spares = spares; clean = clean; slot = subst P (sym there) (written_slot new_limit new fits) }

  -- the selector is written, and names the other slot
  pub record IsTurned (ready turned : Medium) : Type 0 where
    pub is_ready : IsReady ready
    pub chosen : block turned.contents 1 ≡ selector_bytes (other_slot slot_name)
    pub count : length turned.contents ≡ length ready.contents
    pub others : (n : ℕ) → n ≢ 1 → block turned.contents n ≡ block ready.contents n

  -- the last sync is done
  pub ends_published : {T : Type 0} (result : Result T DeviceFault) (ready : Medium) (turned last : DiskState) → IsTurned ready turned.now → Syncs result turned last → OnOk result (IsPublished (other_slot slot_name) old last.now new_limit new)
  ends_published (Ok x) ready turned last is sync =
      after_selector ready turned.now last.now is.is_ready is.others is.count is.chosen sync.same sync.synced
  ends_published (Err e) ready turned last is sync = tt

  pub ends_safely : {T : Type 0} (result : Result T DeviceFault) (ready : Medium) (turned last : DiskState) → IsTurned ready turned.now → IsSafelyPublishing slot_name old limit es new_limit new turned.now → Syncs result turned last → IsSafelyPublishing slot_name old limit es new_limit new last.now
  ends_safely (Ok x) ready turned last is safe sync =
      when_published ready last.now is.is_ready (λ n other. ap (λ (x : Contents). block x n) sync.same ∙ is.others n other) (ends_published (Ok x) ready turned last is sync)
  ends_safely (Err e) ready turned last is safe sync =
      let P : Medium → Type 0 = λ m. IsSafelyPublishing slot_name old limit es new_limit new m in subst P (sym sync.failed) safe

-- what a crash leaves at a moment of a publish
module _ (slot_name : SlotName) (old : Medium) (limit : ℕ) (es : List Entry) (new_limit : ℕ) (new : List Entry) (m : Medium) (safe : IsSafelyPublishing slot_name old limit es new_limit new m) (left : Contents) (may : MayLeave m left) where
  whole : m.sure ≡ length m.contents → length left ≡ length old.contents
  whole sure = omega (arith, may.least, may.most, sure, safe.count)

  still : (b : SlotName) → selected left ≡ b → IsTurning slot_name m limit es new_limit new → (b ≡ slot_name) ⊎ (b ≡ other_slot slot_name) → (Names left limit es × ((n : ℕ) → 34 ≤ n → old.dirty n ≡ false → block left n ≡ block old.contents n)) ⊎ (Names left new_limit new × (length left ≡ length old.contents) × ((n : ℕ) → 34 ≤ n → block left n ≡ block old.contents n))
  still b chosen both (inl was) =
      inl (names_slot left slot_name limit es (may.clean 0 (both.clean 0 (omega arith)) ∙ both.header) (chosen ∙ was) (slot_in m.contents left slot_name limit es (λ n low high. may.clean n (both.clean n (slot_high slot_name n low))) both.old), λ n far clean. may.clean n (both.clean n (omega arith)) ∙ safe.same n far)
  still b chosen both (inr is) =
      inr (names_slot left (other_slot slot_name) new_limit new (may.clean 0 (both.clean 0 (omega arith)) ∙ both.header) (chosen ∙ is) (slot_in m.contents left (other_slot slot_name) new_limit new (λ n low high. may.clean n (both.clean n (slot_high (other_slot slot_name) n low))) both.new_slot), whole both.sure, λ n far. may.clean n (both.clean n (omega arith)) ∙ safe.same n far)

  named_left : AtRest slot_name m limit es → Names left limit es
  named_left rest = names_in m.contents left slot_name limit es (λ n used. may.clean n (rest.clean n used)) rest.in_use rest.names

  one_of : (b c : SlotName) → (b ≡ c) ⊎ (b ≡ other_slot c)
  one_of A A = inl refl
  one_of A B = inr refl
  one_of B A = inr refl
  one_of B B = inl refl

  by_selector : (d : Bool) → m.dirty 1 ≡ d → (Names left limit es × ((n : ℕ) → 34 ≤ n → old.dirty n ≡ false → block left n ≡ block old.contents n)) ⊎ (Names left new_limit new × (length left ≡ length old.contents) × ((n : ℕ) → 34 ≤ n → block left n ≡ block old.contents n))
  by_selector true dirty = still (selected left) refl (safe.turning dirty) (one_of (selected left) slot_name)
  by_selector false clean =
      ⊎_elim
      (λ (rest : AtRest slot_name m limit es). inl (named_left rest, λ n far was. may.clean n (safe.still_clean n far was) ∙ safe.same n far))
      (λ (done : AtRest (other_slot slot_name) m new_limit new × IsClean m). inr (names_in m.contents left (other_slot slot_name) new_limit new (λ n used. may.clean n (done.1 n)) done.0.in_use done.0.names, whole (clean_sure m done.1), λ n far. may.clean n (done.1 n) ∙ safe.same n far))
      (safe.settled clean)

  pub left_by_publish : PublishLeaves old limit es new_limit new left
  left_by_publish = (omega (arith, may.least, safe.sure), omega (arith, may.most, safe.count), by_selector (m.dirty 1) refl)
