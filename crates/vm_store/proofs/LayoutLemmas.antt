-- How a store is put on a disk, moment by moment.
use Rattle.std.proofs.Common.{◌≡◌, ◌≢◌, ℕ, ◌≤◌, Bool, false, List, length, Result, Ok, Err, OnOk, refl, sym, ap, ◌∙◌, subst, arith}
use Rattle.vm_types.specs.State.{Seen}
use Rattle.vm_types.specs.Tree.{Tree}
use Rattle.vm_types.specs.declared.sizes.TheConstants.{FIRST_DATA}
use Rattle.vm_disk.specs.Disk.{Contents, DiskState, IsClean, Medium, Syncs, Writes, block}
use Rattle.vm_disk.specs.declared.disk.DeviceFault.{DeviceFault}
use Rattle.vm_disk.specs.Moments.{Leaves, TouchesOnly}
use Rattle.vm_block.specs.Header.{IsHeader}
use Rattle.vm_block.specs.Selector.{named_slot, selector_bytes}
use Rattle.vm_block.specs.declared.selector.SlotName.TheVariants.{A}
use Rattle.vm_block.specs.Slot.{SlotFits, IsSlot, used_blocks}
use Rattle.vm_block.specs.declared.slot.Entry.{Entry}
use Rattle.vm_catalog.specs.Place.{selected, blocks_from, region}
use Rattle.vm_catalog.specs.Written.{slot_blocks}
use Rattle.vm_catalog.specs.Catalog.{SlotAt}
use Rattle.vm_catalog.proofs.PlaceLemmas.{blocks_same, no_data}
use Rattle.vm_catalog.proofs.PublishLemmas.{slot_in, stays_written, written_selector}
use Rattle.vm_catalog.proofs.SlotLaw.{written_slot}
use Rattle.vm_catalog.proofs.SlotOne.{slot_one}
use Rattle.vm_tree.specs.Tree.{IsData}
use Rattle.vm_store.specs.Filed.{Anywhere, Filed, Standing, tree_of}
use Rattle.vm_store.specs.Layout.{HasMaps, IsLaidOut, IsPutDown, IsReady}
use Rattle.vm_store.specs.Shown.{ShowsAtMost, ShowsNothing}
use Rattle.vm_store.specs.Versions.{slot_entries}
use Rattle.vm_store.specs.declared.version.Version.{Version}
use Rattle.vm_store.proofs.ShownLemmas.{all_filed_one}
use Rattle.vm_store.proofs.StandingLemmas.{standing_data, standing_in}

-- # Until the header is written

-- block 0 is as it was, and clean
pub record KeepsFirst (old m : Medium) : Type 0 where
  pub same : block m.contents 0 ≡ block old.contents 0
  pub clean : m.dirty 0 ≡ false

-- without a header nothing is shown
pub no_header : (old m : Medium) → (IsHeader (block old.contents 0) → ⊥) → KeepsFirst old m → Leaves ShowsNothing m
no_header old m none keeps left may seen shown = none (subst IsHeader (may.clean 0 keeps.clean ∙ keeps.same) shown.names.header)

-- and so at most this
pub nothing_most : (wanted : Seen) (m : Medium) → Leaves ShowsNothing m → Leaves (ShowsAtMost wanted) m
nothing_most wanted m nothing left may seen shown = absurd (nothing left may seen shown)

pub first_untouched : (touched : ℕ → Bool) (old m : Medium) → touched 0 ≡ false → old.dirty 0 ≡ false → TouchesOnly touched old m → KeepsFirst old m
first_untouched touched old m out clean spares = record { same = spares.same 0 out; clean = spares.clean 0 out clean }

pub first_kept : {T : Type 0} (bytes : List ℕ) (result : Result T DeviceFault) (old : Medium) (mid new : DiskState) → KeepsFirst old mid.now → Writes 1 bytes result mid new → KeepsFirst old new.now
first_kept bytes result old mid new keeps writes = record {
  same = writes.others 0 (λ (e : 0 ≡ 1). omega arith) ∙ keeps.same;
  clean = writes.others_dirty 0 (λ (e : 0 ≡ 1). omega arith) ∙ keeps.clean;
}

pub first_synced : {T : Type 0} (result : Result T DeviceFault) (old : Medium) (mid new : DiskState) → KeepsFirst old mid.now → Syncs result mid new → KeepsFirst old new.now
first_synced (Ok x) old mid new keeps sync = record { same = ap (λ (x : Contents). block x 0) sync.same ∙ keeps.same; clean = sync.synced 0 }
first_synced (Err e) old mid new keeps sync = record { same = ap (λ (x : Contents). block x 0) sync.same ∙ keeps.same; clean = ap (λ (m : Medium). m.dirty 0) sync.failed ∙ keeps.clean }

-- the slot and the selector are written, and synced
pub laid_now : {T : Type 0} (blocks : ℕ) (es : List Entry) (result : Result T DeviceFault) (old : Medium) (written chosen new : DiskState) {U : Type 0} (select : Result U DeviceFault) (u : U) → SlotFits blocks es
    → TouchesOnly (region 2 (used_blocks (length es))) old written.now
    → blocks_from written.now.contents 2 (used_blocks (length es)) ≡ slot_blocks blocks es → select ≡ Ok u → Writes 1 (selector_bytes A) select written chosen → Syncs result chosen new → OnOk result (IsLaidOut blocks es old new.now)
laid_now blocks es (Err e) old written chosen new select u fits touches slot ok writes sync = tt
laid_now blocks es (Ok y) old written chosen new (Err e) u fits touches slot ok writes sync = cc
laid_now blocks es (Ok y) old written chosen new (Ok v) u fits touches slot ok writes sync =
    let x = new.now.contents in
    let same : (n : ℕ) → n ≢ 1 → block x n ≡ block written.now.contents n = λ n other. ap (λ (x : Contents). block x n) sync.same ∙ writes.others n other in
    let there : SlotAt written.now.contents A blocks es = subst (λ (bs : List (List ℕ)). IsSlot bs blocks es) (sym slot) (written_slot blocks es fits) in
    record {
      count = ap length sync.same ∙ writes.count ∙ touches.count;
      same = λ n far. same n (λ (e : n ≡ 1). omega (arith, far)) ∙ touches.same n (no_data A (length es) n fits.head.few far);
      selected = ap (λ b. named_slot b) (ap (λ (x : Contents). block x 1) sync.same ∙ writes.written) ∙ written_selector A;
      slot = slot_in written.now.contents x A blocks es (λ n low high. same n (λ (e : n ≡ 1). omega (arith, low))) there;
      written = stays_written (Ok y) written.now.contents chosen.now.contents x A blocks es slot writes.others writes.written sync.same;
      clean = sync.synced;
    }

-- # What is shown

-- where slot A is named, and under its entries lie the maps of a tree, only that tree can be shown
only_tree : (x : Contents) (tree : Tree) (blocks : ℕ) (vs : List Version) (fs : List Filed) → selected x ≡ A → SlotAt x A blocks (slot_entries vs) → Standing Anywhere x blocks vs fs → tree_of fs ≡ tree
    → ShowsAtMost (record { tree = tree; blocks = blocks }) x
only_tree x tree blocks vs fs in_use slot stands gives seen shown =
    let same = slot_one x A seen.blocks blocks (slot_entries shown.versions) (slot_entries vs) (subst (λ b. SlotAt x b seen.blocks (slot_entries shown.versions)) in_use shown.names.slot) slot in
    let there = subst (λ l. Standing Anywhere x l shown.versions shown.filed) same.0 shown.stands in
    let one = all_filed_one Anywhere x blocks shown.versions vs shown.filed fs same.1 there stands in
    let is : seen.tree ≡ tree = sym shown.gives ∙ ap tree_of one ∙ gives in
    ap (λ (t : Tree). record { tree = t; blocks = seen.blocks }) is ∙ ap (λ n. record { tree = tree; blocks = n }) same.0

module _ (tree : Tree) (blocks : ℕ) (es : List Entry) where
  -- the maps lie wherever the data blocks are the same
  maps_in : (m : Medium) (x : Contents) (maps : HasMaps tree blocks es m) → ((n : ℕ) → FIRST_DATA ≤ n → block x n ≡ block m.contents n) → Standing Anywhere x blocks maps.versions maps.filed
  maps_in m x maps same =
      standing_in (λ n. Anywhere n × IsData blocks n) Anywhere m.contents x blocks (λ n is. same n is.1.0) (λ n is. tt) maps.versions maps.filed
      (standing_data Anywhere m.contents blocks maps.versions maps.filed maps.stands)

  -- the entries are laid out over the maps, so all is there but the header
  pub ready_now : (old m : Medium) → HasMaps tree blocks es old → IsLaidOut blocks es old m → IsReady tree blocks es m
  ready_now old m maps laid = record {
    maps = record { versions = maps.versions; filed = maps.filed; named = maps.named; fits = maps.fits; stands = maps_in old m.contents maps laid.same; gives = maps.gives };
    laid = record { count = refl; same = λ n far. refl; selected = laid.selected; slot = laid.slot; written = laid.written; clean = laid.clean };
  }

  -- the entries, where all but block 0 is as it was
  slot_still : (old : Medium) (x : Contents) (ready : IsReady tree blocks es old) → ((n : ℕ) → n ≢ 0 → block x n ≡ block old.contents n) → SlotAt x A blocks (slot_entries ready.maps.versions)
  slot_still old x ready same =
      subst (λ (l : List Entry). SlotAt x A blocks l) (sym ready.maps.named) (slot_in old.contents x A blocks es (λ n low high. same n (λ (e : n ≡ 0). omega (arith, low))) ready.laid.slot)

  named_still : (old : Medium) (x : Contents) → IsReady tree blocks es old → ((n : ℕ) → n ≢ 0 → block x n ≡ block old.contents n) → selected x ≡ A
  named_still old x ready same = ap (λ b. named_slot b) (same 1 (λ (e : 1 ≡ 0). omega arith)) ∙ ready.laid.selected

  stands_still : (old : Medium) (x : Contents) (ready : IsReady tree blocks es old) → ((n : ℕ) → n ≢ 0 → block x n ≡ block old.contents n) → Standing Anywhere x blocks ready.maps.versions ready.maps.filed
  stands_still old x ready same = maps_in old x ready.maps (λ n far. same n (λ (e : n ≡ 0). omega (arith, far)))

-- # While the header is written

-- all but block 0 is as it was, and clean
pub record KeepsRest (old m : Medium) : Type 0 where
  pub count : length m.contents ≡ length old.contents
  pub same : (n : ℕ) → n ≢ 0 → block m.contents n ≡ block old.contents n
  pub clean : (n : ℕ) → n ≢ 0 → m.dirty n ≡ false

pub rest_itself : (old : Medium) → IsClean old → KeepsRest old old
rest_itself old clean = record { count = refl; same = λ n other. refl; clean = λ n other. clean n }

pub header_written : {T : Type 0} (bytes : List ℕ) (result : Result T DeviceFault) (old new : DiskState) → IsClean old.now → Writes 0 bytes result old new → KeepsRest old.now new.now
header_written bytes result old new clean writes = record { count = writes.count; same = writes.others; clean = λ n other. writes.others_dirty n other ∙ clean n }

pub header_synced : {T : Type 0} (result : Result T DeviceFault) (old : Medium) (mid new : DiskState) → KeepsRest old mid.now → Syncs result mid new → KeepsRest old new.now
header_synced (Ok x) old mid new keeps sync = record { count = ap length sync.same ∙ keeps.count; same = λ n other. ap (λ (x : Contents). block x n) sync.same ∙ keeps.same n other; clean = λ n other. sync.synced n }
header_synced (Err e) old mid new keeps sync = record { count = ap length sync.same ∙ keeps.count; same = λ n other. ap (λ (x : Contents). block x n) sync.same ∙ keeps.same n other; clean = λ n other. ap (λ (m : Medium). m.dirty n) sync.failed ∙ keeps.clean n other }

module _ (tree : Tree) (blocks : ℕ) (es : List Entry) where
  pub at_header : (old m : Medium) → IsReady tree blocks es old → KeepsRest old m → Leaves (ShowsAtMost (record { tree = tree; blocks = blocks })) m
  at_header old m ready keeps left may =
      let same : (n : ℕ) → n ≢ 0 → block left n ≡ block old.contents n = λ n other. may.clean n (keeps.clean n other) ∙ keeps.same n other in
      only_tree left tree blocks ready.maps.versions ready.maps.filed (named_still tree blocks es old left ready same) (slot_still tree blocks es old left ready same) (stands_still tree blocks es old left ready same) ready.maps.gives

  -- the header is there, and so the tree is shown
  pub completes_now : {T : Type 0} (result : Result T DeviceFault) (old : Medium) (mid new : DiskState) → IsReady tree blocks es old → KeepsRest old mid.now → IsHeader (block mid.now.contents 0) → blocks ≤ length old.contents
      → Syncs result mid new → OnOk result (IsPutDown tree blocks es new.now)
  completes_now (Err e) old mid new ready keeps header inside sync = tt
  completes_now (Ok y) old mid new ready keeps header inside sync =
      let x = new.now.contents in
      let same : (n : ℕ) → n ≢ 0 → block x n ≡ block old.contents n = λ n other. ap (λ (x : Contents). block x n) sync.same ∙ keeps.same n other in
      let es' = slot_entries ready.maps.versions in
      record {
        shown = record {
          versions = ready.maps.versions;
          filed = ready.maps.filed;
          names = record { header = ap (λ (x : Contents). block x 0) sync.same ∙ header; slot = subst (λ b. SlotAt x b blocks es') (sym (named_still tree blocks es old x ready same)) (slot_still tree blocks es old x ready same) };
          inside = subst (λ n. blocks ≤ n) (sym (ap length sync.same ∙ keeps.count)) inside;
          stands = stands_still tree blocks es old x ready same;
          gives = ready.maps.gives;
        };
        written = record { slot = blocks_same old.contents x 2 (used_blocks (length es)) (λ n low high. same n (λ (e : n ≡ 0). omega (arith, low))) ∙ ready.laid.written.slot; selector = same 1 (λ (e : 1 ≡ 0). omega arith) ∙ ready.laid.written.selector };
        clean = sync.synced;
      }
