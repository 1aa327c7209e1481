-- What a store stands for while a series of changes goes on.
use Rattle.std.proofs.Common.{◌≡◌, ◌⊎◌, inl, inr, ℕ, ◌<◌, ◌^◌, ◌&&◌, Bool, true, false, cond, length, List, [], ◌∷◌, find, Option, Some, None, Ok, refl, sym, ap, ◌∙◌, subst, arith}
use Rattle.std.proofs.lemmas.Bool.{false≢true}
use Rattle.std.specs.Str.{bytes_eq}
use Rattle.vm_types.specs.Firsts.{change_first}
use Rattle.vm_types.specs.Map.{Map, with_value, without}
use Rattle.vm_types.specs.Queries.{value_in}
use Rattle.vm_types.specs.declared.answer.Answer.TheVariants.{Done}
use Rattle.vm_types.specs.declared.command.Command.TheVariants.{Put, Remove}
use Rattle.vm_types.specs.declared.key.Key.{Key}
use Rattle.vm_types.specs.State.{State, next, tree_after}
use Rattle.vm_types.specs.Tree.{Tree, Alternative, named, changed}
use Rattle.vm_disk.specs.Disk.{DiskState, Medium}
use Rattle.vm_disk.specs.Moments.{OnlyReads, TouchesOnly}
use Rattle.vm_disk.proofs.MomentLemmas.{same_medium, touches_nothing}
use Rattle.vm_block.specs.declared.selector.SlotName.{SlotName}
use Rattle.vm_alloc.specs.Held.{HoldsMore, IsHeld, free_count, is_held}
use Rattle.vm_alloc.proofs.HeldLemmas.{holds_more_then, holds_same}
use Rattle.vm_tree.specs.Free.{is_free}
use Rattle.vm_tree.specs.Root.{IsRootedIn}
use Rattle.vm_tree.specs.declared.root.Root.{Root}
use Rattle.vm_tree.proofs.Touching.{touches_more}
use Rattle.vm_store.specs.Rest.{HoldsWith, IsInSeries, IsSafe, KeepsSeries, Rests, before_of, before_series, no_root, set_aside, spare_of, state_aside}
use Rattle.vm_store.specs.Sizes.{sizes}
use Rattle.vm_store.specs.Versions.{is_alternative_of, with_current}
use Rattle.vm_store.specs.declared.version.Version.{Version}
use Rattle.vm_store.proofs.FiledLemmas.{recurrent}
use Rattle.vm_store.proofs.RestingLemmas.{current_rests, found_entry, named_as, put_step, rests_more}
use Rattle.vm_store.proofs.Removing.{step_there}
use Rattle.vm_store.proofs.StandingLemmas.{standing_both, standing_in}
use Rattle.vm_store.proofs.TopLemmas.{none_grown}

-- the current root that was set last is the one that stands
pub set_again : (alt : List ℕ) (root other : Root) (vs : List Version)
    → change_first (is_alternative_of alt) (with_current root) (change_first (is_alternative_of alt) (with_current other) vs) ≡ change_first (is_alternative_of alt) (with_current root) vs
set_again alt root other [] = refl
set_again alt root other (v ∷ vs) =
    let set : Root → List Version → List Version = λ r ws. change_first (is_alternative_of alt) (with_current r) ws in
    elim (is_alternative_of alt v) as (λ b. is_alternative_of alt v ≡ b → set root (cond b (with_current other v ∷ vs) (v ∷ set other vs)) ≡ cond b (with_current root v ∷ vs) (v ∷ set root vs)) [
      | true ↦ λ test. ap (λ b. cond b (with_current root v ∷ vs) (with_current other v ∷ set root vs)) test
      | false ↦ λ test. ap (λ b. cond b (with_current root v ∷ set other vs) (v ∷ set root (set other vs))) test ∙ ap (λ ws. v ∷ ws) (set_again alt root other vs)
    ] refl

-- the records of an alternative, changed twice, and changed once to the same
pub changed_again : (t : Tree) (name : List ℕ) (f g h : Map → Map) → ((a : Alternative) → named t name ≡ Some a → g (f a.current) ≡ h a.current)
    → changed (changed t name (recurrent f)) name (recurrent g) ≡ changed t name (recurrent h)
changed_again [] name f g h same = refl
changed_again (a ∷ t) name f g h same =
    elim (bytes_eq a.name name) as (λ b. bytes_eq a.name name ≡ b → changed (cond b (recurrent f a ∷ t) (a ∷ changed t name (recurrent f))) name (recurrent g) ≡ cond b (recurrent h a ∷ t) (a ∷ changed t name (recurrent h))) [
      | true ↦ λ is. ap (λ b. cond b (recurrent g (recurrent f a) ∷ t) (recurrent f a ∷ changed t name (recurrent g))) is
          ∙ ap (λ (m : Map). record a { current = m } ∷ t) (same a (ap (λ b. cond b (Some a) (named t name)) is))
      | false ↦ λ is. ap (λ b. cond b (recurrent g a ∷ changed t name (recurrent f)) (a ∷ changed (changed t name (recurrent f)) name (recurrent g))) is
          ∙ ap (λ u. a ∷ u) (changed_again t name f g h (λ c found. same c (ap (λ b. cond b (Some a) (named t name)) is ∙ found)))
    ] refl

module _ (m : Medium) (limit : ℕ) (slot_name : SlotName) (bits before : List Bool) (committed working : List Version) (s : State) where
  -- all trees but that of the alternative's records stand in the held blocks
  all_held : (alt : List ℕ) → Rests m limit slot_name bits committed working s → IsInSeries alt m limit slot_name bits bits committed working s
  all_held alt rests = record {
    wider = holds_same bits;
    others = current_rests m limit slot_name bits committed working s rests alt (λ _. []) m bits no_root (omega arith) (touches_nothing (is_free bits) m) (holds_same bits)
        (λ f found. none_grown (IsHeld bits) m.contents limit no_root refl);
  }

  -- it goes on, or begins
  pub gone_on : {kept : ℕ} {marked : Bool} (alt : List ℕ) (old : List Bool) (series : Option (List ℕ)) → (series ≡ Some alt × before ≡ old) ⊎ (before ≡ bits) → HoldsWith m limit kept slot_name bits old series marked committed working s
      → IsInSeries alt m limit slot_name bits before committed working s
  gone_on alt old series (inl same) holds =
      subst (λ held. IsInSeries alt m limit slot_name bits held committed working s) (sym same.1)
      (subst (λ o. KeepsSeries o m limit slot_name bits old committed working s) same.0 holds.series_kept)
  gone_on alt old series (inr same) holds =
      subst (λ held. IsInSeries alt m limit slot_name bits held committed working s) (sym same) (all_held alt holds.rests)

  -- it goes on, or begins, or none goes on
  pub went_on : {kept : ℕ} {marked : Bool} (alt : List ℕ) (old : List Bool) (series next : Option (List ℕ)) → (next ≡ Some alt) ⊎ (next ≡ None) → (next ≡ Some alt → (series ≡ Some alt × before ≡ old) ⊎ (before ≡ bits)) → HoldsWith m limit kept slot_name bits old series marked committed working s
      → HoldsWith m limit kept slot_name bits before next marked committed working s
  went_on alt old series next (inl is) on holds = record {
    rests = holds.rests;
    keeps = holds.keeps;
    series_kept = subst (λ o. KeepsSeries o m limit slot_name bits before committed working s) (sym is) (gone_on alt old series (on is) holds);
    known = holds.known;
  }
  went_on alt old series next (inr none) on holds = record {
    rests = holds.rests;
    keeps = holds.keeps;
    series_kept = subst (λ o. KeepsSeries o m limit slot_name bits before committed working s) (sym none) tt;
    known = holds.known;
  }

  -- the trees beside that of the alternative stand in blocks that a change of it may not touch
  pub in_series : {kept : ℕ} {marked : Bool} (alt : List ℕ) (series : Option (List ℕ)) (stays : List Bool) → (series ≡ Some alt) ⊎ (series ≡ None) → stays ≡ before_of (before_series series before) bits → HoldsWith m limit kept slot_name bits before series marked committed working s
      → IsInSeries alt m limit slot_name bits stays committed working s
  in_series alt series stays (inl is) same holds =
      subst (λ b. IsInSeries alt m limit slot_name bits b committed working s) (sym (same ∙ ap (λ o. before_of (before_series o before) bits) is))
      (subst (λ o. KeepsSeries o m limit slot_name bits before committed working s) is holds.series_kept)
  in_series alt series stays (inr none) same holds =
      subst (λ b. IsInSeries alt m limit slot_name bits b committed working s) (sym (same ∙ ap (λ o. before_of (before_series o before) bits) none))
      (all_held alt holds.rests)

  -- other trees stand after calls that write free blocks alone
  series_more : (series : Option (List ℕ)) (now : Medium) (after : List Bool) → TouchesOnly (is_free bits) m now → HoldsMore bits after
      → KeepsSeries series m limit slot_name bits before committed working s → KeepsSeries series now limit slot_name after before committed working s
  series_more None now after spares more kept = tt
  series_more (Some alt) now after spares more kept = record {
    wider = holds_more_then _ _ _ kept.wider more;
    others = rests_more m limit slot_name before committed (set_aside alt working) (state_aside alt s) kept.others now before
        (touches_more before bits m m now kept.wider (touches_nothing (is_free before) m) spares) (holds_same before);
  }

  -- the store stands for the same, after calls that write free blocks alone
  pub holds_more : {kept : ℕ} {marked : Bool} (series : Option (List ℕ)) (now : Medium) (after : List Bool) → TouchesOnly (is_free bits) m now → HoldsMore bits after
      → HoldsWith m limit kept slot_name bits before series marked committed working s → HoldsWith now limit kept slot_name after before series false committed working s
  holds_more series now after spares more holds = record {
    rests = rests_more m limit slot_name bits committed working s holds.rests now after spares more;
    keeps = holds.keeps;
    series_kept = series_more series now after spares more holds.series_kept;
    known = λ is. absurd (false≢true is);
  }

  module _ (alt : List ℕ) (series : IsInSeries alt m limit slot_name bits before committed working s) (g : Map → Map) (now : Medium) (after : List Bool) (root : Root)
      (spares : TouchesOnly (is_free before) m now) (more : HoldsMore bits after) where
    abbrev set : List Version → List Version
    set vs = change_first (is_alternative_of alt) (with_current root) vs

    -- a change of the series leaves other records in its alternative, and all other trees as they were
    pub series_rests : (records : Map) → root.block < 2 ^ 32 → ((a : Alternative) → named s.working alt ≡ Some a → records ≡ g a.current) → IsRootedIn sizes (IsHeld after) now.contents limit root records
        → Rests now limit slot_name after committed (set working) (record s { working = changed s.working alt (recurrent g) })
    series_rests records small are new =
        subst (λ vs. Rests now limit slot_name after committed vs (record s { working = changed s.working alt (recurrent g) })) (set_again alt root no_root working)
        (subst (λ (t : Tree). Rests now limit slot_name after committed (set (set_aside alt working)) (record s { working = t })) (changed_again s.working alt (λ _. []) (λ _. records) g are)
        (current_rests m limit slot_name before committed (set_aside alt working) (state_aside alt s) series.others alt (λ _. records) now after root small spares (holds_more_then _ _ _ series.wider more) (λ f found. new)))

    -- and the series goes on
    pub series_on : IsInSeries alt now limit slot_name after before committed (set working) (record s { working = changed s.working alt (recurrent g) })
    series_on = record {
      wider = holds_more_then _ _ _ series.wider more;
      others =
          subst (λ vs. Rests now limit slot_name before committed vs (state_aside alt (record s { working = changed s.working alt (recurrent g) }))) (sym (set_again alt no_root root working))
          (subst (λ (t : Tree). Rests now limit slot_name before committed (set_aside alt working) (record s { working = t })) (sym (changed_again s.working alt g (λ _. []) (λ _. []) (λ a is. refl)))
          (rests_more m limit slot_name before committed (set_aside alt working) (state_aside alt s) series.others now before spares (holds_same before)));
    }

-- reads change nothing
pub read_holds : {kept : ℕ} {marked : Bool} (old new : DiskState) (limit : ℕ) (slot_name : SlotName) (bits before : List Bool) (series : Option (List ℕ)) (committed working : List Version) (s : State) → OnlyReads old new
    → HoldsWith old.now limit kept slot_name bits before series marked committed working s → HoldsWith new.now limit kept slot_name bits before series marked committed working s
read_holds {kept} {marked} old new limit slot_name bits before series committed working s reads holds =
    subst (λ (m : Medium). HoldsWith m limit kept slot_name bits before series marked committed working s) (sym (same_medium old new reads)) holds

and_second : (x y : Bool) → (x && y) ≡ true → y ≡ true
and_second true y is = is
and_second false y is = absurd (false≢true is)

-- it stands for the same in blocks of which it is known twice that they are held
rests_both : (m : Medium) (limit : ℕ) (slot_name : SlotName) (one other both : List Bool) (committed working : List Version) (s : State) → ((n : ℕ) → IsHeld one n → IsHeld other n → IsHeld both n)
    → Rests m limit slot_name one committed working s → Rests m limit slot_name other committed working s → Rests m limit slot_name both committed working s
rests_both m limit slot_name one other both committed working s so rests rests' = record {
  old = rests.old;
  new = rests.new;
  blocks = rests.blocks;
  fewer = rests.fewer;
  inside = rests.inside;
  sure = rests.sure;
  system = λ n low. so n (rests.system n low) (rests'.system n low);
  rest = rests.rest;
  fits = rests.fits;
  safe = standing_in (λ n. IsSafe one m n × IsSafe other m n) (IsSafe both m) m.contents m.contents s.kept (λ n h. refl) (λ n h. record { held = so n h.0.held h.1.held; clean = h.0.clean }) committed rests.old
      (standing_both (IsSafe one m) (IsSafe other m) m.contents s.kept committed rests.old rests'.old rests.safe rests'.safe);
  stands = standing_in (λ n. IsHeld one n × IsHeld other n) (IsHeld both) m.contents m.contents limit (λ n h. refl) (λ n h. so n h.0 h.1) working rests.new
      (standing_both (IsHeld one) (IsHeld other) m.contents limit working rests.new rests'.new rests.stands rests'.stands);
  gives_old = rests.gives_old;
  gives_new = rests.gives_new;
}

-- a series goes on over a marking, after which other blocks are held: of those that were held before it, those that are held still
kept_marked : (m : Medium) (limit : ℕ) (slot_name : SlotName) (bits before after narrowed : List Bool) (series : Option (List ℕ)) (committed working : List Version) (s : State) → length after ≡ length narrowed
    → ((n : ℕ) → is_held narrowed n ≡ (is_held before n && is_held after n)) → Rests m limit slot_name after committed working s
    → KeepsSeries series m limit slot_name bits before committed working s → KeepsSeries series m limit slot_name after narrowed committed working s
kept_marked m limit slot_name bits before after narrowed None committed working s many both rests kept = tt
kept_marked m limit slot_name bits before after narrowed (Some alt) committed working s many both rests kept = record {
  wider = record { same_length = many; still = λ n is. and_second (is_held before n) (is_held after n) (sym (both n) ∙ is) };
  others = rests_both m limit slot_name before after narrowed committed (set_aside alt working) (state_aside alt s) (λ n is is'. both n ∙ ap (λ b. b && is_held after n) is ∙ is') kept.others
      (all_held m limit slot_name after after committed working s alt rests).others;
}

-- the store stands for the same after a marking, after which just the spare blocks are free, and the series goes on
pub holds_marked : {kept : ℕ} {marked : Bool} (m now : Medium) (limit : ℕ) (slot_name : SlotName) (bits before after narrowed : List Bool) (series : Option (List ℕ)) (committed working : List Version) (s : State) → now ≡ m → length after ≡ length narrowed
    → ((n : ℕ) → is_held narrowed n ≡ (is_held before n && is_held after n)) → (rests : Rests m limit slot_name after committed working s) → free_count after ≡ spare_of rests
    → HoldsWith m limit kept slot_name bits before series marked committed working s → HoldsWith now limit kept slot_name after narrowed series true committed working s
holds_marked {kept} {marked} m now limit slot_name bits before after narrowed series committed working s read many both rests exact holds =
    subst (λ (x : Medium). HoldsWith x limit kept slot_name after narrowed series true committed working s) (sym read)
    (record { rests = rests; keeps = holds.keeps; series_kept = kept_marked m limit slot_name bits before after narrowed series committed working s many both rests holds.series_kept; known = λ is. exact })

-- no series goes on
pub holds_alone : {m : Medium} {limit kept : ℕ} {slot_name : SlotName} {bits before : List Bool} {committed working : List Version} {s : State} → kept ≡ s.kept → Rests m limit slot_name bits committed working s
    → HoldsWith m limit kept slot_name bits before None false committed working s
holds_alone keeps rests = record { rests = rests; keeps = keeps; series_kept = tt; known = λ is. absurd (false≢true is) }

-- no series goes on any more
pub holds_closed : {m : Medium} {limit kept : ℕ} {marked : Bool} {slot_name : SlotName} {bits before after : List Bool} {series : Option (List ℕ)} {committed working : List Version} {s : State}
    → HoldsWith m limit kept slot_name bits before series marked committed working s → HoldsWith m limit kept slot_name bits after None marked committed working s
holds_closed holds = record { rests = holds.rests; keeps = holds.keeps; series_kept = tt; known = holds.known }

-- it is no longer said that just the spare blocks are free
pub holds_unmarked : {m : Medium} {limit kept : ℕ} {marked : Bool} {slot_name : SlotName} {bits before : List Bool} {series : Option (List ℕ)} {committed working : List Version} {s : State}
    → HoldsWith m limit kept slot_name bits before series marked committed working s → HoldsWith m limit kept slot_name bits before series false committed working s
holds_unmarked holds = record { rests = holds.rests; keeps = holds.keeps; series_kept = holds.series_kept; known = λ is. absurd (false≢true is) }

-- reads change nothing, where the same blocks are held
pub looked_holds : {kept : ℕ} {marked : Bool} (old new : DiskState) (limit : ℕ) (slot_name : SlotName) (bits after before : List Bool) (series : Option (List ℕ)) (committed working : List Version) (s : State) → OnlyReads old new → after ≡ bits
    → HoldsWith old.now limit kept slot_name bits before series marked committed working s → HoldsWith new.now limit kept slot_name after before series marked committed working s
looked_holds {kept} {marked} old new limit slot_name bits after before series committed working s reads same holds =
    subst (λ (held : List Bool). HoldsWith new.now limit kept slot_name held before series marked committed working s) (sym same)
    (read_holds old new limit slot_name bits before series committed working s reads holds)

-- after a change the series goes on as before it, if one did
pub holds_then : {m : Medium} {limit kept : ℕ} {marked : Bool} {slot_name : SlotName} {bits before marks : List Bool} {committed working : List Version} {s : State} (alt : List ℕ) (series : Option (List ℕ)) (held : List Bool)
    → (series ≡ Some alt) ⊎ (series ≡ None) → before ≡ before_of (before_series series marks) held
    → HoldsWith m limit kept slot_name bits before (Some alt) marked committed working s → HoldsWith m limit kept slot_name bits marks series marked committed working s
holds_then {m} {limit} {kept} {marked} {slot_name} {bits} {before} {marks} {committed} {working} {s} alt series held (inl is) same holds =
    subst (λ o. HoldsWith m limit kept slot_name bits marks o marked committed working s) (sym is)
    (subst (λ b. HoldsWith m limit kept slot_name bits b (Some alt) marked committed working s) (same ∙ ap (λ o. before_of (before_series o marks) held) is) holds)
holds_then {m} {limit} {kept} {marked} {slot_name} {bits} {before} {marks} {committed} {working} {s} alt series held (inr none) same holds =
    subst (λ o. HoldsWith m limit kept slot_name bits marks o marked committed working s) (sym none) (holds_closed holds)

-- a store with a series and entries that are known by other names
pub holds_as : {m : Medium} {limit kept : ℕ} {marked : Bool} {slot_name : SlotName} {bits before : List Bool} {series other : Option (List ℕ)} {committed working changed : List Version} {s : State} → other ≡ series → changed ≡ working
    → HoldsWith m limit kept slot_name bits before series marked committed working s → HoldsWith m limit kept slot_name bits before other marked committed changed s
holds_as {m} {limit} {kept} {marked} {slot_name} {bits} {before} {series} {other} {committed} {working} {changed} {s} same alike holds =
    subst (λ o. HoldsWith m limit kept slot_name bits before o marked committed changed s) (sym same) (subst (λ (vs : List Version). HoldsWith m limit kept slot_name bits before series marked committed vs s) (sym alike) holds)

module _ (m : Medium) (limit : ℕ) (slot_name : SlotName) (bits before : List Bool) (committed working : List Version) (s : State) (rests : Rests m limit slot_name bits committed working s)
    (name : List ℕ) (e : Version) (is : find (is_alternative_of name) working ≡ Some e) (series : IsInSeries name m limit slot_name bits before committed working s)
    (now : Medium) (after : List Bool) (root : Root) (small : root.block < 2 ^ 32) (spares : TouchesOnly (is_free before) m now) (more : HoldsMore bits after) (key : Key) where
  -- the store stands for other records of the alternative, and the series goes on
  series_holds : {kept : ℕ} → kept ≡ s.kept → (g : Map → Map) (tree : Tree) → changed s.working name (recurrent g) ≡ tree → IsRootedIn sizes (IsHeld after) now.contents limit root (g (found_entry m limit slot_name bits committed working s rests name e is).filed.current)
      → HoldsWith now limit kept slot_name after before (Some name) false committed (change_first (is_alternative_of name) (with_current root) working) (record s { working = tree })
  series_holds {kept} keeps g tree same new =
      let found = found_entry m limit slot_name bits committed working s rests name e is in
      let as_named = named_as m limit slot_name bits committed working s rests name found.filed found.found in
      subst (λ (t : Tree). HoldsWith now limit kept slot_name after before (Some name) false committed (change_first (is_alternative_of name) (with_current root) working) (record s { working = t })) same
      (record {
        rests = series_rests m limit slot_name bits before committed working s name series g now after root spares more (g found.filed.current) small
            (λ a there. let one : a ≡ as_named.alternative = cc (there, as_named.named) in sym (ap (λ (a : Alternative). g a.current) one ∙ ap g as_named.current)) new;
        keeps = keeps;
        series_kept = series_on m limit slot_name bits before committed working s name series g now after root spares more;
        known = λ is. absurd (false≢true is);
      })

  -- after a Put of the series
  pub put_holds : {kept : ℕ} → kept ≡ s.kept → (value : List ℕ) → IsRootedIn sizes (IsHeld after) now.contents limit root (with_value (found_entry m limit slot_name bits committed working s rests name e is).filed.current key value)
      → HoldsWith now limit kept slot_name after before (Some name) false committed (change_first (is_alternative_of name) (with_current root) working) (next s (Put name key value) (Ok Done))
  put_holds keeps value new = series_holds keeps (λ m. with_value m key value) _ (sym (ap (tree_after s.working) (put_step m limit slot_name bits committed working s rests name e is key value))) new

  -- after a Remove of the series
  pub remove_holds : {kept : ℕ} → kept ≡ s.kept → (value : List ℕ) → Ok (Some value) ≡ value_in s.working name key → IsRootedIn sizes (IsHeld after) now.contents limit root (without (found_entry m limit slot_name bits committed working s rests name e is).filed.current key)
      → HoldsWith now limit kept slot_name after before (Some name) false committed (change_first (is_alternative_of name) (with_current root) working) (next s (Remove name key) (Ok Done))
  remove_holds keeps value there new = series_holds keeps (λ m. without m key) _ (sym (ap (tree_after s.working) (step_there s.working name key value there))) new

-- the blocks that a change may not touch, where those of the first one are held: they still are, and none of the first one's is missing
pub before_wider : (before : Option (List Bool)) (first bits : List Bool) → before_of before first ≡ first → HoldsMore first bits → HoldsMore (before_of before bits) bits
before_wider None first bits same more = holds_same bits
before_wider (Some held) first bits same more = subst (λ b. HoldsMore b bits) (sym same) more

pub before_stays : (before : Option (List Bool)) (first bits : List Bool) → before_of before first ≡ first → HoldsMore first bits → HoldsMore first (before_of before bits)
before_stays None first bits same more = more
before_stays (Some held) first bits same more = subst (λ b. HoldsMore first b) (sym same) (holds_same first)
