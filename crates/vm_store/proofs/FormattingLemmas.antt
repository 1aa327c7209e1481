-- A formatting, moment by moment.
use Rattle.std.proofs.Common.{◌≡◌, inl, inr, ℕ, ◌≤◌, ◌^◌, Bool, false, List, [], ◌∷◌, None, Result, Ok, Err, OnOk, IsTrue, refl, sym, ap, ◌∙◌, subst, arith}
use Rattle.std.proofs.lemmas.Bool.{false≢true}
use Rattle.std.proofs.lemmas.List.Elements.{All-from_recursion}
use Rattle.vm_types.specs.Name.{IsName, IsNameByte}
use Rattle.vm_types.specs.Tree.{fresh}
use Rattle.vm_disk.specs.Disk.{Contents, Medium, block}
use Rattle.vm_disk.specs.declared.disk.DeviceFault.{DeviceFault}
use Rattle.vm_disk.specs.Moments.{Leaves}
use Rattle.vm_block.specs.Header.{IsHeader}
use Rattle.vm_block.specs.declared.selector.SlotName.TheVariants.{A}
use Rattle.vm_block.specs.Slot.{SlotFits}
use Rattle.vm_tree.specs.Root.{IsRootedIn}
use Rattle.vm_tree.specs.declared.root.Root.{Root}
use Rattle.vm_block.specs.declared.slot.Kind.TheVariants as kind
use Rattle.vm_block.specs.declared.slot.Entry.{Entry}
use Rattle.vm_catalog.specs.Written.{IsAsWritten}
use Rattle.vm_store.specs.Sizes.{sizes}
use Rattle.vm_store.specs.Filed.{Anywhere}
use Rattle.vm_store.specs.Shown.{ShowsAtMostNew}
use Rattle.vm_store.specs.Layout.{HasMaps, IsPutDown}
use Rattle.vm_store.specs.Refused.{IsSynced, IsAtMostSynced}
use Rattle.vm_store.specs.NewStore.{fresh_entry, IsAnyHeader, IsFormatted, IsFormatting}
use Rattle.vm_store.specs.declared.version.Version.{Version}
use Rattle.vm_store.proofs.TopLemmas.{none_grown}

-- no tree
abbrev no_root : Root
no_root = record { block = 0; level = 0; low = record { table = 0; number = 0 } }

-- `top` without a record, in memory
abbrev fresh_version : Version
fresh_version = record { kind = kind.Alternative; name = fresh_entry.name; owner = None; current = no_root; base = no_root }

-- the one entry of a new store may stand in a slot
pub fresh_fits : (blocks : ℕ) → 64 ≤ blocks → blocks ≤ 2 ^ 26 → IsName fresh_entry.name → SlotFits blocks (fresh_entry ∷ [])
fresh_fits blocks least most name = record {
  head = record { least = least; most = most; some = omega arith; few = omega arith };
  each = (record { name = name; owner = tt; current = omega arith; base = omega arith }, tt);
  ledger = (record { kind = refl; name = refl; owner = refl; base = refl }, tt);
}

-- `top` is a name
pub top_is_name : IsName fresh_entry.name
top_is_name = record {
  some = omega arith;
  few = omega arith;
  each = All-from_recursion IsNameByte fresh_entry.name (inl (omega arith, omega arith), (inl (omega arith, omega arith), (inl (omega arith, omega arith), tt)));
}

-- under the one entry of a new store lie no maps
pub fresh_maps : (blocks : ℕ) (es : List Entry) (m : Medium) → es ≡ fresh_entry ∷ [] → 64 ≤ blocks → blocks ≤ 2 ^ 26 → HasMaps fresh blocks es m
fresh_maps blocks es m is least most = record {
  versions = fresh_version ∷ [];
  filed = record { kind = kind.Alternative; name = fresh_entry.name; owner = None; current = []; base = [] } ∷ [];
  named = sym is;
  fits = subst (SlotFits blocks) (sym is) (fresh_fits blocks least most top_is_name);
  stands = (record { kind = refl; name = refl; owner = refl; current = empty; base = empty }, tt);
  gives = refl;
}
  where
    empty : IsRootedIn sizes Anywhere m.contents blocks no_root []
    empty = none_grown Anywhere m.contents blocks no_root refl

-- what was put down is a new store, where it was done
pub formatted_now : {T : Type 0} (blocks : ℕ) (es : List Entry) (result : Result T DeviceFault) (m : Medium) (x : T) → es ≡ fresh_entry ∷ [] → result ≡ Ok x → OnOk result (IsPutDown fresh blocks es m) → IsFormatted blocks m
formatted_now blocks es (Err e) m x is ok down = cc
formatted_now blocks es (Ok y) m x is ok down = record { shown = down.shown; written = subst (λ (l : List Entry). IsAsWritten m.contents A blocks l) is down.written; clean = down.clean }

-- nothing has changed in what the disk holds
pub still_there : (old m : Medium) → IsAtMostSynced old m → m.contents ≡ old.contents
still_there old m (inl same) = ap (λ (n : Medium). n.contents) same
still_there old m (inr synced) = synced.same

-- a part of a formatting in which nothing is written
pub not_yet : (blocks : ℕ) (old m : Medium) → IsAtMostSynced old m → IsFormatting blocks old m
not_yet blocks old m so_far = inl so_far

pub formatting : (blocks : ℕ) (old m : Medium) → (IsAnyHeader (block old.contents 0) → ⊥) → Leaves (ShowsAtMostNew blocks) m → IsFormatting blocks old m
formatting blocks old m none leaves = inr (none, leaves)

-- no header stands in what a sync left
pub none_synced : (old mid : Medium) → IsSynced old mid → (IsHeader (block old.contents 0) → ⊥) → IsHeader (block mid.contents 0) → ⊥
none_synced old mid synced none header = none (subst (λ (x : Contents). IsHeader (block x 0)) synced.same header)

-- a test that failed says that the fact does not hold
pub not_true : {P : Type 0} (b : Bool) → b ≡ false → (IsTrue b → P) × (P → IsTrue b) → P → ⊥
not_true b is test p = false≢true (sym is ∙ test.1 p)
