-- The maps of versions stand under the copies of their roots, and how a copy is put on a disk.
use Rattle.std.proofs.Common.{◌≡◌, inl, inr, ℕ, zero, suc, ◌+◌, ◌<◌, ◌≤◌, ◌^◌, Bool, false, Option, IfSome, Result, Ok, Err, IfErr, IsOk, OnOk, List, [], ◌∷◌, ◌++◌, length, take, get_or, map, replicate, refl, sym, ap, subst, ◌∙◌, arith}
use Rattle.std.specs.List.{AllByRecursion}
use Rattle.std.proofs.lemmas.List.{take_more}
use Rattle.vm_types.specs.Map.{Map}
use Rattle.vm_types.specs.State.{State}
use Rattle.vm_types.specs.Tree.{Tree}
use Rattle.vm_alloc.specs.Held.{IsHeld, free_count}
use Rattle.vm_block.specs.Slot.{SlotFits}
use Rattle.vm_block.specs.declared.slot.Entry.{Entry}
use Rattle.vm_block.specs.declared.selector.SlotName.{SlotName}
use Rattle.vm_types.specs.declared.refusal.Refusal.{Refusal}
use Rattle.vm_types.specs.declared.refusal.Refusal.TheVariants as refusal
use Rattle.vm_disk.specs.Disk.{Contents, DiskState, Goes, Medium}
use Rattle.vm_disk.specs.declared.disk.DeviceFault.{DeviceFault}
use Rattle.vm_disk.proofs.GoesLemmas.{goes_at, goes_nowhere, goes_then}
use Rattle.vm_tree.specs.declared.faults.TreeFault.TheVariants as of_tree
use Rattle.vm_check.specs.Marks.{IsUnder}
use Rattle.vm_check.specs.declared.tree_copy.CopyFault.{CopyFault}
use Rattle.vm_check.specs.declared.tree_copy.CopyFault.TheVariants as of_copy
use Rattle.vm_tree.specs.Root.{IsRootedIn}
use Rattle.vm_tree.specs.declared.root.Root.{Root}
use Rattle.vm_types.specs.Name.{IsName}
use Rattle.vm_check.specs.TreeCopy.{AreCopied, IsUndamaged, Paired, RootCopied, Steps, StepsTo, is_for_copies}
use Rattle.vm_check.specs.Renumbering.{AreGiven, GoesOn, IsCopied, IsUnused, next_of, number_at}
use Rattle.vm_check.specs.declared.renumbering.Renumbering.{Renumbering}
use Rattle.vm_check.proofs.CopySteps.{first_apart}
use Rattle.vm_check.proofs.CopyLemmas.{paired_join, paired_so, root_on, rooted_copied}
use Rattle.vm_store.specs.Copies.{ComesBefore, EntriesCopied, FillsFrom, GoesOnBoth, HasVersions, HoldsVersions, IsCopy, IsOfFill, IsOfTarget, VersionCopied, refusal_of_copy}
use Rattle.vm_store.specs.Filed.{Anywhere, Filed, Standing, StandsAs}
use Rattle.vm_store.specs.Layout.{HasMaps, IsPutDown}
use Rattle.vm_store.specs.Rest.{IsSafe, Rests}
use Rattle.vm_store.specs.Sizes.{sizes}
use Rattle.vm_store.specs.Versions.{entry_of, slot_entries}
use Rattle.vm_store.specs.declared.version.Version.{Version}
use Rattle.vm_store.proofs.LedgerLemmas.{AreAlike, IsAlike, fits_alike}
use Rattle.vm_store.proofs.StandingLemmas.{standing_in}

-- the copy of a version stays one
pub version_on : {old new : Renumbering} → GoesOn old new → (v w : Version) → VersionCopied old v w → VersionCopied new v w
version_on on v w is = record { kind = is.kind; name = is.name; owner = is.owner; current = root_on on v.current w.current is.current; base = root_on on v.base w.base is.base }

all_anywhere : (bs : List ℕ) → AllByRecursion Anywhere bs
all_anywhere [] = tt
all_anywhere (b ∷ bs) = (tt, all_anywhere bs)

module _ (P : ℕ → Type 0) (x y : Contents) (kept limit : ℕ) (numbers : Renumbering) (all : AreCopied x y limit numbers) where
  root_stands : (root copy : Root) (m : Map) → RootCopied numbers root copy → IsRootedIn sizes P x kept root m → IsRootedIn sizes Anywhere y limit copy m
  root_stands root copy m is stands = record {
    stands_in = map (number_at numbers) stands.stands_in;
    rooted = rooted_copied x y kept limit numbers all sizes root copy m stands.stands_in is stands.rooted;
    each = all_anywhere (map (number_at numbers) stands.stands_in);
  }

  version_stands : (v w : Version) (f : Filed) → VersionCopied numbers v w → StandsAs P x kept v f → StandsAs Anywhere y limit w f
  version_stands v w f is stands = record {
    kind = stands.kind ∙ sym is.kind;
    name = stands.name ∙ sym is.name;
    owner = stands.owner ∙ sym is.owner;
    current = root_stands v.current w.current f.current is.current stands.current;
    base = root_stands v.base w.base f.base is.base stands.base;
  }

  -- the same maps stand under the copies of all versions
  pub versions_stand : (vs ws : List Version) (fs : List Filed) → Paired (VersionCopied numbers) vs ws → Standing P x kept vs fs → Standing Anywhere y limit ws fs
  versions_stand [] [] [] pairs stands = tt
  versions_stand [] [] (f ∷ fs) pairs stands = absurd stands
  versions_stand (v ∷ vs) (w ∷ ws) [] pairs stands = absurd stands
  versions_stand (v ∷ vs) (w ∷ ws) (f ∷ fs) pairs stands = (version_stands v w f pairs.0 stands.0, versions_stand vs ws fs pairs.1 stands.1)
  versions_stand [] (w ∷ ws) fs pairs stands = absurd pairs
  versions_stand (v ∷ vs) [] fs pairs stands = absurd pairs

-- the copy of one version more
pub versions_next : {old new : Renumbering} → GoesOn old new → (vs : List Version) (i : ℕ) (v copy : Version) (copies later : List Version) → i < length vs → get_or vs i v ≡ v → Paired (VersionCopied old) (take i vs) copies
    → VersionCopied new v copy → later ≡ copies ++ copy ∷ [] → Paired (VersionCopied new) (take (i + 1) vs) later
versions_next {old} {new} on vs i v copy copies later lt here so_far is added =
    let whole : take (i + 1) vs ≡ take i vs ++ v ∷ [] = take_more vs i v lt ∙ ap (λ (w : Version). take i vs ++ w ∷ []) here in
    let pairs = paired_join (VersionCopied new) (take i vs) copies (v ∷ []) (copy ∷ []) (paired_so (VersionCopied old) (VersionCopied new) (version_on on) (take i vs) copies so_far) (is, tt) in
    subst (λ (ws : List Version). Paired (VersionCopied new) ws later) (sym whole) (subst (Paired (VersionCopied new) (take i vs ++ v ∷ [])) (sym added) pairs)

-- # Before the first copy

zeros : (k n : ℕ) → ◌≡◌ {A = ℕ} (get_or (replicate k 0) n 0) 0
zeros zero n = refl
zeros (suc k) zero = refl
zeros (suc k) (suc n) = zeros k n

pub unused_none : (kept : ℕ) (numbers : Renumbering) → IsUnused kept numbers → (n : ℕ) → IsCopied numbers n → ⊥
unused_none kept numbers unused n is =
    let zero_there : number_at numbers n ≡ 0 = ap (λ (xs : List ℕ). get_or xs n 0) unused.0 ∙ zeros kept n in
    omega (arith, is, zero_there)

-- where no number is given, all that was copied stands there
pub unused_copied : (x y : Contents) (kept limit : ℕ) (numbers : Renumbering) → IsUnused kept numbers → 34 ≤ limit → AreCopied x y limit numbers
unused_copied x y kept limit numbers unused room = record {
  given = record {
    least = omega (arith, unused.1);
    low = λ n is. absurd (none n is);
    high = λ n is. absurd (none n is);
    once = λ n m is same. absurd (none n is);
  };
  within = omega (arith, unused.1, room);
  each = λ n is. absurd (none n is);
}
  where
    none : (n : ℕ) → IsCopied numbers n → ⊥
    none = unused_none kept numbers unused

-- # The entries of the copies

module _ (limit : ℕ) (numbers : Renumbering) (given : AreGiven numbers) (within : next_of numbers ≤ limit) (most : limit ≤ 2 ^ 26) where
  copy_small : (root copy : Root) → RootCopied numbers root copy → copy.block < 2 ^ 32
  copy_small root copy (inl none) = omega (arith, none.0, ap (λ (r : Root). r.block) none.1)
  copy_small root copy (inr some) = omega (arith, given.high root.block some.1, ap (λ (r : Root). r.block) some.2)

  copy_none : (root copy : Root) → RootCopied numbers root copy → root.block ≡ 0 → copy.block ≡ 0
  copy_none root copy (inl none) is = ap (λ (r : Root). r.block) none.1 ∙ is
  copy_none root copy (inr some) is = absurd (omega (arith, some.0, is))

  version_alike : (v w : Version) → VersionCopied numbers v w → IsAlike (entry_of v) (entry_of w)
  version_alike v w is = record {
    kind = is.kind;
    name = is.name;
    owner = is.owner;
    base = λ unbased. copy_none v.base w.base is.base;
    fits = λ fits. record {
      name = subst IsName (sym is.name) fits.name;
      owner = subst (λ (o : Option (List ℕ)). IfSome o IsName) (sym is.owner) fits.owner;
      current = copy_small v.current w.current is.current;
      base = copy_small v.base w.base is.base;
    };
  }

  versions_alike : (vs ws : List Version) → Paired (VersionCopied numbers) vs ws → AreAlike (slot_entries vs) (slot_entries ws)
  versions_alike [] [] pairs = tt
  versions_alike (v ∷ vs) (w ∷ ws) pairs = (version_alike v w pairs.0, versions_alike vs ws pairs.1)
  versions_alike [] (w ∷ ws) pairs = absurd pairs
  versions_alike (v ∷ vs) [] pairs = absurd pairs

  entries_fit : (kept : ℕ) (vs ws : List Version) → 64 ≤ limit → Paired (VersionCopied numbers) vs ws → SlotFits kept (slot_entries vs) → SlotFits limit (slot_entries ws)
  entries_fit kept vs ws least pairs fits =
      let alike = fits_alike kept (slot_entries vs) (slot_entries ws) (versions_alike vs ws pairs) fits in
      record { head = record { least = least; most = most; some = alike.head.some; few = alike.head.few }; each = alike.each; ledger = alike.ledger }

-- the maps of the tree lie under the entries of the copies
pub maps_copied : (tree : Tree) (x : Contents) (m : Medium) (kept limit : ℕ) (numbers : Renumbering) (vs : List Version) (es : List Entry) → 64 ≤ limit → limit ≤ 2 ^ 26 → HasVersions tree kept vs x
    → EntriesCopied x m.contents limit numbers vs es → HasMaps tree limit es m
maps_copied tree x m kept limit numbers vs es least most has copied = record {
  versions = copied.copies;
  filed = has.filed;
  named = copied.named;
  fits = subst (SlotFits limit) copied.named (entries_fit limit numbers copied.copied.given copied.copied.within most kept vs copied.copies least copied.each has.fits);
  stands = versions_stand Anywhere x m.contents kept limit numbers copied.copied vs copied.copies has.filed copied.each has.stands;
  gives = has.gives;
}

-- # What a store has committed

pub has_versions : (m : Medium) (limit : ℕ) (slot_name : SlotName) (bits : List Bool) (committed working : List Version) (s : State) → Rests m limit slot_name bits committed working s → HasVersions s.committed s.kept committed m.contents
has_versions m limit slot_name bits committed working s rests = record {
  filed = rests.old;
  fits = rests.rest.names.slot.fits;
  stands = standing_in (IsSafe bits m) Anywhere m.contents m.contents s.kept (λ n is. refl) (λ n is. tt) committed rests.old rests.safe;
  gives = rests.gives_old;
}

-- of a store of so many blocks, counted otherwise
pub versions_kept : (m : Medium) (limit kept : ℕ) (slot_name : SlotName) (bits : List Bool) (committed working : List Version) (s : State) → kept ≡ s.kept → Rests m limit slot_name bits committed working s
    → HasVersions s.committed kept committed m.contents
versions_kept m limit kept slot_name bits committed working s same rests =
    subst (λ n. HasVersions s.committed n committed m.contents) (sym same) (has_versions m limit slot_name bits committed working s rests)

-- the blocks under its roots are held, and the first ones
pub versions_held : (m : Medium) (limit kept : ℕ) (slot_name : SlotName) (bits : List Bool) (committed working : List Version) (s : State) → kept ≡ s.kept → Rests m limit slot_name bits committed working s
    → HoldsVersions bits kept committed m.contents
versions_held m limit kept slot_name bits committed working s same rests = record {
  first = rests.system;
  filed = rests.old;
  stands = subst (λ n. Standing (IsHeld bits) m.contents n committed rests.old) (sym same) (standing_in (IsSafe bits m) (IsHeld bits) m.contents m.contents s.kept (λ n is. refl) (λ n is. is.held) committed rests.old rests.safe);
}

-- what a copy reads is held, where it was done
pub held_reads : {T : Type 0} (s s' : DiskState) (held : List Bool) (blocks many : ℕ) (full : Type 0) (result : Result T Refusal) → FillsFrom held full (IsOk result) s s' blocks → length held ≡ many → OnOk result (s'.reads + 34 + free_count held ≤ s.reads + many)
held_reads s s' held blocks many full (Ok x) from same = omega (arith, from.reads refl, same)
held_reads s s' held blocks many full (Err r) from same = tt

-- # On a source that was only read

-- the maps of one version
pub version_at : (P : ℕ → Type 0) (x : Contents) (kept : ℕ) (vs : List Version) (fs : List Filed) (i : ℕ) (d : Version) → i < length vs → Standing P x kept vs fs → (f : Filed) × StandsAs P x kept (get_or vs i d) f
version_at P x kept [] fs i d lt stands = absurd (omega (arith, lt))
version_at P x kept (v ∷ vs) [] i d lt stands = absurd stands
version_at P x kept (v ∷ vs) (f ∷ fs) zero d lt stands = (f, stands.0)
version_at P x kept (v ∷ vs) (f ∷ fs) (suc i) d lt stands = version_at P x kept vs fs i d (omega (arith, lt)) stands.1

module _ {n m : Medium} (same : m ≡ n) where
  pub under_here : (kept : ℕ) (root : Root) (bs : List ℕ) → IsUnder sizes n.contents kept root bs → IsUnder sizes m.contents kept root bs
  under_here kept root bs under = subst (λ (l : Medium). IsUnder sizes l.contents kept root bs) (sym same) under

  pub version_here : (P : ℕ → Type 0) (kept : ℕ) (v w : Version) (f : Filed) → v ≡ w → StandsAs P n.contents kept v f → StandsAs P m.contents kept w f
  version_here P kept v w f is stands =
      subst (λ (l : Medium). StandsAs P l.contents kept w f) (sym same) (subst (λ (u : Version). StandsAs P n.contents kept u f) is stands)

-- # Faults

-- block 0 is none of a copy's
pub first_of_none : (kept limit : ℕ) (numbers new : Renumbering) → IsUnused kept numbers → is_for_copies (next_of numbers) (next_of new) limit 0 ≡ false
first_of_none kept limit numbers new unused = first_apart (next_of numbers) (next_of new) limit 0 (omega (arith, unused.1))

-- a step that failed, as its refusal
pub step_both : {T fails : Type 0} {limit : ℕ} {s t s' t' : DiskState} {old new : Renumbering} (fault : CopyFault) → StepsTo {T = T} (Err fault) limit s t old s' t' new → (fails → refusal_of_copy fault ≡ refusal.Device)
    → GoesOnBoth fails s t s' t'
step_both {T} {fails} {limit} {s} {t} {s'} {t'} {old} {new} fault step so = record {
  source = goes_at _ ⊥ s s' step.looks.goes (λ none. absurd none);
  target = goes_at _ ⊥ t t' step.goes (λ none. absurd none);
  fault = λ is. by_fault fault (so is) step;
}
  where
    by_fault : (fault : CopyFault) → refusal_of_copy fault ≡ refusal.Device → StepsTo {T = T} (Err fault) limit s t old s' t' new → s.failures + t.failures < s'.failures + t'.failures
    by_fault (of_copy.Source of_tree.Device) is step = omega (arith, step.looks.goes.fault refl, step.goes.rising)
    by_fault (of_copy.Source (of_tree.Damaged b)) is step = cc
    by_fault of_copy.Target is step = omega (arith, step.looks.goes.rising, step.goes.fault refl)
    by_fault of_copy.Full is step = cc

-- calls of the target after a step that was done
pub both_then : {a b c put fails : Type 0} {d : Type 0} {limit : ℕ} {s t s1 t1 t2 : DiskState} {old new : Renumbering} → Steps a b c d limit s t old s1 t1 new → Goes put t1 t2 → (fails → put) → GoesOnBoth fails s t s1 t2
both_then {a} {b} {c} {put} {fails} {d} {limit} {s} {t} {s1} {t1} {t2} step more so = record {
  source = goes_at a ⊥ s s1 step.looks.goes (λ none. absurd none);
  target = goes_then b put ⊥ t t1 t2 step.goes more (λ none. absurd none);
  fault = λ is. omega (arith, step.looks.goes.rising, step.goes.rising, more.fault (so is));
}

-- calls of the target before both
pub both_after : {before more fails : Type 0} {s t t1 s2 t2 : DiskState} → Goes before t t1 → GoesOnBoth more s t1 s2 t2 → (fails → more) → GoesOnBoth fails s t s2 t2
both_after {before} {more} {fails} {s} {t} {t1} {s2} {t2} first both so = record {
  source = both.source;
  target = goes_then before ⊥ ⊥ t t1 t2 first both.target (λ none. none);
  fault = λ is. omega (arith, first.rising, both.fault (so is));
}

-- calls of the target alone
pub both_target : {more fails : Type 0} (s : DiskState) {t t' : DiskState} → Goes more t t' → (fails → more) → GoesOnBoth fails s t s t'
both_target {more} {fails} s {t} {t'} goes so = record {
  source = goes_nowhere ⊥ s s refl (λ none. none);
  target = goes_at more ⊥ t t' goes (λ none. absurd none);
  fault = λ is. omega (arith, goes.fault (so is));
}

-- a fault that is no damage
pub sound_fault : {T : Type 0} (fault : CopyFault) → IsUndamaged {T = T} (Err fault) → IsOfTarget (refusal_of_copy fault)
sound_fault (of_copy.Source of_tree.Device) sound = inl refl
sound_fault (of_copy.Source (of_tree.Damaged b)) sound = absurd (sound b refl)
sound_fault of_copy.Target sound = inl refl
sound_fault of_copy.Full sound = inr refl

pub fill_fault : (fault : CopyFault) → IsOfFill (refusal_of_copy fault)
fill_fault (of_copy.Source of_tree.Device) = inl (inl refl)
fill_fault (of_copy.Source (of_tree.Damaged b)) = inr (b, refl)
fill_fault of_copy.Target = inl (inl refl)
fill_fault of_copy.Full = inl (inr refl)

-- no refusal of a fill comes before a call, or for a store that is there
pub fill_late : (r : Refusal) → IsOfFill r → ComesBefore r → ⊥
fill_late r (inl (inl is)) (inl before) = cc
fill_late r (inl (inl is)) (inr (inl before)) = cc
fill_late r (inl (inl is)) (inr (inr before)) = cc
fill_late r (inl (inr is)) (inl before) = cc
fill_late r (inl (inr is)) (inr (inl before)) = cc
fill_late r (inl (inr is)) (inr (inr before)) = cc
fill_late r (inr damaged) (inl before) = let is = damaged.1 in cc
fill_late r (inr damaged) (inr (inl before)) = let is = damaged.1 in cc
fill_late r (inr damaged) (inr (inr before)) = let is = damaged.1 in cc

pub fill_blank : {T : Type 0} (result : Result T Refusal) → IfErr result IsOfFill → result ≡ Err refusal.AlreadyAStore → ⊥
fill_blank (Ok x) fills is = cc
fill_blank (Err r) (inl (inl device)) is = cc
fill_blank (Err r) (inl (inr full)) is = cc
fill_blank (Err r) (inr damaged) is = let b = damaged.1 in cc

-- what each refusal of a kind is
pub refused_so : {T : Type 0} (result : Result T Refusal) (P Q : Refusal → Type 0) → ((r : Refusal) → P r → Q r) → IfErr result P → IfErr result Q
refused_so (Ok x) P Q so refused = tt
refused_so (Err r) P Q so refused = so r refused

-- what was put down is a copy
pub copied_now : {T : Type 0} (tree : Tree) (blocks : ℕ) (es : List Entry) (result : Result T DeviceFault) (m : Medium) → OnOk result (IsPutDown tree blocks es m) → (x : T) → result ≡ Ok x → IsCopy (record { tree = tree; blocks = blocks }) m
copied_now tree blocks es (Err e) m down x is = cc
copied_now tree blocks es (Ok y) m down x is = record { shown = down.shown; clean = down.clean }
