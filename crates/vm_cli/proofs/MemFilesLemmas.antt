-- Files in memory keep the rules of a place.
use Rattle.std.proofs.Common.{◌≡◌, ◌≢◌, ℕ, Bool, true, false, if◌then◌else◌, List, [], length, Option, Some, None, Result, Ok, Err, IfOk, String, string_bytes, option_and_then, option_map, inl, inr, is_some, refl, sym, ap, ◌∙◌, subst}
use Rattle.std.proofs.lemmas.Bool.{false_from_ne_true}
use Rattle.std.proofs.lemmas.List.{ext_get_or}
use Rattle.std.proofs.lemmas.Map.Text.{btree_map_updates_text}
use Rattle.std.proofs.lemmas.Slice.Eq.{bytes_eq-Decides}
use Rattle.std.specs.BTreeMap.{BTreeMap, UpdatesBy, get_by_text}
use Rattle.std.specs.Cmp.Lexicographic.{slice_cmp}
use Rattle.std.specs.Map.{update}
use Rattle.std.specs.Ordering.{nat_cmp}
use Rattle.std.specs.Result.{result_ok}
use Rattle.std.specs.Str.{bytes_eq}
use Rattle.std.specs.String.{string_cmp}
use Rattle.vm_disk.specs.Disk.{IsClean, Medium, DiskState, block}
use Rattle.vm_disk.specs.Memory.{IsBlank, filled, memory_state}
use Rattle.vm_disk.specs.declared.memory.MemDisk.{MemDisk}
use Rattle.vm_cli.proofs.PlaceLemmas.{zeros_are_new}
use Rattle.vm_cli.specs.program.MemFiles.{IsLast, IsSameState, slot_file, slot_state}
use Rattle.vm_cli.specs.program.Places.{Creates, Finds, Links, PlaceState, Removes, TakesBack}
use Rattle.vm_cli.specs.declared.program.mem_files.Slot.{Slot}

-- a crash that takes each block as it is keeps what a disk holds
pub crash_keeps : (old new : Medium) → length new.contents ≡ length old.contents
    → ((n : ℕ) → block new.contents n ≡ (if old.dirty n then filled [] n (block old.contents n) else block old.contents n)) → new.contents ≡ old.contents
crash_keeps old new count is = ext_get_or [] new.contents old.contents count (λ n inside. is n ∙ either (old.dirty n) (block old.contents n))
  where
    either : (b : Bool) (bytes : List ℕ) → (if b then bytes else bytes) ≡ bytes
    either true bytes = refl
    either false bytes = refl

-- what is said of a result that is Ok, where it was made an option
pub ok_is : {T E : Type 0} (P : T → Type 0) (result : Result T E) (x : T) → result_ok result ≡ Some x → IfOk result P → P x
ok_is P (Ok y) x e p = let same : y ≡ x = cc in subst P same p
ok_is P (Err y) x e p = absurd cc

-- what is not there is None
no_slot : {X : Type 0} (found : Option X) → is_some found ≡ false → found ≡ None
no_slot None e = refl
no_slot (Some x) e = absurd cc

-- the file of a slot that is there holds what its disk held
holds_disk : (slot : Slot) (disk : MemDisk) → slot.held.value ≡ disk → slot.is_there ≡ true → slot_file slot ≡ Some (memory_state disk).now.contents
holds_disk slot disk is there = rw there (ap (λ (d : MemDisk). Some (memory_state d).now.contents) is)

-- that of a removed one is not there
no_file : (slot : Slot) → slot.is_there ≡ false → slot_file slot ≡ None
no_file slot gone = rw gone refl

-- what was found of a file, from the disk that came back last
pub finds : (path : List ℕ) (old new : PlaceState) → IsSameState old new → (last : DiskState) → IsLast path last old → (found : DiskState)
    → found.now.contents ≡ last.now.contents → IsClean found.now → found.past ≡ [] → Finds path (Some found) old new
finds path old new same last held found kept clean past = record {
  held = λ honest. (held.held ∙ ap Some (sym kept), clean);
  fresh = past;
  same = same.files;
  same_came = same.came;
}

module _ {Y : Type 0} (honest : Bool) (path : List ℕ) (old new : BTreeMap (String Y) Slot) where
  -- what is known of files in these slots
  abbrev known : BTreeMap (String Y) Slot → PlaceState
  known slots = record {
    honest = honest;
    files = λ name. option_and_then slot_file (get_by_text slots name);
    came = λ name. option_map slot_state (get_by_text slots name);
  }

  -- a slot was put under a name
  module _ (slot : Slot) (bytes : List ℕ) (named : bytes ≡ path) (updates : UpdatesBy string_cmp (λ k. slice_cmp nat_cmp bytes (string_bytes k)) old new (Some slot)) where
    sets : (name : List ℕ) → get_by_text new name ≡ update bytes_eq (get_by_text old) path (Some slot) name
    sets name = rw named at (btree_map_updates_text bytes old new (Some slot) updates name)

    here : get_by_text new path ≡ Some slot
    here = rw ((bytes_eq-Decides path path).1 refl) at (sets path)

    others : (other : List ℕ) → other ≢ path → get_by_text new other ≡ get_by_text old other
    others other differ =
        let is_other : bytes_eq path other ≡ false = false_from_ne_true (bytes_eq path other) (λ e. differ (sym ((bytes_eq-Decides path other).0 e))) in
        rw is_other at (sets other)

    -- a disk was made under a name that was not there
    pub creates : (blocks : ℕ) → is_some (option_and_then slot_file (get_by_text old path)) ≡ false → (disk : MemDisk) → IsBlank blocks (memory_state disk)
        → Creates path blocks (Some (memory_state disk)) (known old) (known new)
    creates blocks absent disk blank =
        let none = no_slot (option_and_then slot_file (get_by_text old path)) absent in
        record {
          absent = none;
          blank = λ honest. (blank.blocks, zeros_are_new blocks _ blank.zero);
          fresh = blank.past;
          stays = λ contents there. let no : None ≡ Some contents = sym none ∙ there in absurd cc;
          others = λ other differ. ap (option_and_then slot_file) (others other differ);
          others_came = λ other differ. ap (option_map slot_state) (others other differ);
          none_came = λ none. absurd cc;
        }

    -- what is the same of the two slots of this name is the same of each name
    pub keeps : {X : Type 0} (f : Option Slot → X) (was : Slot) → get_by_text old path ≡ Some was → f (Some slot) ≡ f (Some was)
        → (other : List ℕ) → f (get_by_text new other) ≡ f (get_by_text old other)
    keeps f was there same other = go (bytes_eq path other) refl
      where
        go : (b : Bool) → bytes_eq path other ≡ b → f (get_by_text new other) ≡ f (get_by_text old other)
        go true e =
            let is : path ≡ other = (bytes_eq-Decides path other).0 e in
            let at_path : f (get_by_text new path) ≡ f (get_by_text old path) = ap f here ∙ same ∙ ap f (sym there) in
            subst (λ name. f (get_by_text new name) ≡ f (get_by_text old name)) is at_path
        go false e = ap f (others other (λ same. let yes : bytes_eq path other ≡ true = (bytes_eq-Decides path other).1 (sym same) in absurd cc))

    -- a disk was taken out of its slot
    pub stays : (was : Slot) → get_by_text old path ≡ Some was → slot_state slot ≡ slot_state was → slot_file slot ≡ slot_file was → IsSameState (known old) (known new)
    stays was there same same_file = record {
      honest = refl;
      files = keeps (option_and_then slot_file) was there same_file;
      came = keeps (option_map slot_state) was there (ap Some same);
    }

    -- the file of a slot that was removed is not there
    none : slot.is_there ≡ false → option_and_then slot_file (get_by_text new path) ≡ None
    none gone = ap (option_and_then slot_file) here ∙ no_file slot gone

    -- a file was removed
    pub removes : (was : Slot) → get_by_text old path ≡ Some was → slot_state slot ≡ slot_state was → slot.is_there ≡ false → Removes path (known old) (known new)
    removes was there same gone = record {
      left = inl (none gone);
      others = λ other differ. ap (option_and_then slot_file) (others other differ);
      same_came = keeps (option_map slot_state) was there (ap Some same);
    }

    -- a disk came back into its slot
    pub takes_back : (disk : MemDisk) → slot.held.value ≡ disk → slot.is_there ≡ true → TakesBack path (memory_state disk) (known old) (known new)
    takes_back disk is there = record {
      honest = refl;
      holds = ap (option_and_then slot_file) here ∙ holds_disk slot disk is there;
      came = ap (option_map slot_state) here ∙ ap (λ (d : MemDisk). Some (memory_state d)) is;
      others = λ other differ. ap (option_and_then slot_file) (others other differ);
      others_came = λ other differ. ap (option_map slot_state) (others other differ);
    }

    -- a file got this name, too
    pub links : (from : List ℕ) (first : PlaceState) → IsSameState first (known old) → (last : DiskState) → IsLast from last first
        → is_some (first.files path) ≡ false → slot_state slot ≡ last → slot_file slot ≡ Some last.now.contents → Links from path true first (known new)
    links from first same last held absent state file =
        let none = no_slot (first.files path) absent in
        let apart : from ≢ path = λ is. let no : None ≡ Some last.now.contents = sym none ∙ ap first.files (sym is) ∙ held.held in cc in
        record {
          absent = λ yes. none;
          named = λ yes. ap (option_and_then slot_file) here ∙ file ∙ sym held.held;
          named_came = λ yes. ap (option_map slot_state) here ∙ ap Some state ∙ sym held.came;
          left = inr (ap (option_and_then slot_file) (others from apart) ∙ same.files from);
          stays = λ no. absurd cc;
          others = λ other off_from off_to. ap (option_and_then slot_file) (others other off_to) ∙ same.files other;
          others_came = λ other off_to. ap (option_map slot_state) (others other off_to) ∙ same.came other;
        }
