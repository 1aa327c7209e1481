-- What a Merge answers, and what the store stands for after it.
use Rattle.std.proofs.Common.{◌≡◌, ◌⊎◌, inl, inr, ℕ, ◌*◌, ◌<◌, ◌^◌, nat_lt, Bool, true, false, cond, List, [], ◌∷◌, length, Option, Some, None, option_map, unwrap_or, Result, Ok, Err, refl, sym, ap, ◌∙◌, subst}
use Rattle.std.specs.Option.{option_and_then}
use Rattle.std.specs.Str.{bytes_eq}
use Rattle.vm_types.specs.declared.answer.Answer.{Answer}
use Rattle.vm_types.specs.declared.answer.Answer.TheVariants.{Merged}
use Rattle.vm_types.specs.declared.change.Change.{Change}
use Rattle.vm_types.specs.declared.command.Side.{Side}
use Rattle.vm_types.specs.declared.command.Side.TheVariants.{Mine, Theirs}
use Rattle.vm_types.specs.declared.merge.MergePlan.{MergePlan}
use Rattle.vm_types.specs.declared.command.Command.TheVariants.{Merge}
use Rattle.vm_types.specs.declared.key.Key.{Key}
use Rattle.vm_types.specs.declared.refusal.Refusal.{Refusal}
use Rattle.vm_types.specs.declared.refusal.Refusal.TheVariants.{Full, Deep, Device, Memory}
use Rattle.vm_types.specs.Firsts.{change_first}
use Rattle.vm_types.specs.Map.{Map, IsMap, delta, map_of, merge, merge_start, start_side, with_changes}
use Rattle.vm_types.specs.Merge.{IsPlan}
use Rattle.vm_types.specs.State.{State, changes_made, merge_changes, merged_of, next, start_of, tree_after}
use Rattle.vm_types.specs.Step.{Outcome, step}
use Rattle.vm_types.specs.Tree.{Tree, Alternative, named, changed, current_of, parent_current_of}
use Rattle.vm_types.proofs.Steps.{merge_accepted, merge_refused}
use Rattle.vm_types.proofs.Maps.{IsMap-merge}
use Rattle.vm_types.proofs.SmallerLemmas.{smaller}
use Rattle.vm_disk.specs.Disk.{Contents, Medium}
use Rattle.vm_disk.specs.Moments.{TouchesOnly}
use Rattle.vm_alloc.specs.Held.{IsHeld, HoldsMore}
use Rattle.vm_block.specs.Slot as slot
use Rattle.vm_block.specs.Slot.{SlotFits}
use Rattle.vm_block.specs.declared.selector.SlotName.{SlotName}
use Rattle.vm_tree.specs.Free.{is_free}
use Rattle.vm_tree.specs.Root.{IsRootedIn}
use Rattle.vm_tree.specs.declared.root.Root.{Root}
use Rattle.vm_tree.specs.declared.faults.PutFault.{PutFault}
use Rattle.vm_tree.specs.declared.faults.PutFault.TheVariants as put
use Rattle.vm_tree.specs.declared.faults.TreeFault.TheVariants as fault
use Rattle.vm_tree.proofs.Touching.{held_not_free}
use Rattle.vm_store.specs.Answers.{IsMergeDue, IsMergeAnswer}
use Rattle.vm_store.specs.ChangeList.{MeetsFullPath, Makes}
use Rattle.vm_store.specs.Pairs.{IsPair}
use Rattle.vm_store.specs.Rest.{Rests}
use Rattle.vm_store.specs.Sides.{refusal_in, root_from}
use Rattle.vm_store.specs.Sizes.{sizes}
use Rattle.vm_store.specs.Versions.{slot_entries, is_alternative_of, with_current, with_base}
use Rattle.vm_store.specs.declared.sides.ThreeRoots.{ThreeRoots}
use Rattle.vm_store.specs.declared.version.Version.{Version}
use Rattle.vm_store.proofs.FiledLemmas.{is_filed, refiled, recurrent, refiled_both, with_maps, grown_turned, grown_changed}
use Rattle.vm_store.proofs.GrownLemmas.{whole}
use Rattle.vm_store.proofs.LedgerLemmas as ledger
use Rattle.vm_store.proofs.LedgerLemmas.{alike_turned, alike_based, fits_alike}
use Rattle.vm_store.proofs.MovedLemmas.{agree_alternative, standing_first}
use Rattle.vm_store.proofs.PairLemmas.{own_there, parent_there, base_map, parent_map, own_map, under, not_top}
use Rattle.vm_store.proofs.RestingLemmas.{rests_on, stands_on}
use Rattle.vm_store.proofs.SidesLemmas.{rooted_map}
use Rattle.vm_store.proofs.SlotLemmas.{slot_changed}
use Rattle.vm_store.proofs.TopLemmas.{grown_in}
use Rattle.vm_store.proofs.TurnLemmas.{fits_of}
use Rattle.vm_store.proofs.VersionLemmas.{standing}

-- ---- an alternative that is changed

named_turned : (t : Tree) (n : List ℕ) (f : Alternative → Alternative) (a : Alternative) → ((x : Alternative) → (f x).name ≡ x.name) → named t n ≡ Some a → named (changed t n f) n ≡ Some (f a)
named_turned [] n f a keeps is = cc
named_turned (x ∷ t) n f a keeps is =
    elim (bytes_eq x.name n) as (λ b. bytes_eq x.name n ≡ b → cond b (Some x) (named t n) ≡ Some a → named (cond b (f x ∷ t) (x ∷ changed t n f)) n ≡ Some (f a)) [
      | true ↦ λ here is.
          let same : x ≡ a = cc in
          ap (λ b. cond b (Some (f x)) (named t n)) (ap (λ k. bytes_eq k n) (keeps x) ∙ here) ∙ ap (λ y. Some (f y)) same
      | false ↦ λ here is. ap (λ b. cond b (Some x) (named (changed t n f) n)) here ∙ named_turned t n f a keeps is
    ] refl is

-- the first that passes, changed twice
changed_twice : {X : Type 0} (test : X → Bool) (f g : X → X) (xs : List X) → ((x : X) → test (f x) ≡ test x) → change_first test g (change_first test f xs) ≡ change_first test (λ x. g (f x)) xs
changed_twice test f g [] keeps = refl
changed_twice test f g (x ∷ xs) keeps =
    elim (test x) as (λ b. test x ≡ b → change_first test g (cond b (f x ∷ xs) (x ∷ change_first test f xs)) ≡ cond b (g (f x) ∷ xs) (x ∷ change_first test (λ y. g (f y)) xs)) [
      | true ↦ λ is. ap (λ b. cond b (g (f x) ∷ xs) (f x ∷ change_first test g xs)) (keeps x ∙ is)
      | false ↦ λ is. ap (λ b. cond b (g x ∷ change_first test f xs) (x ∷ change_first test g (change_first test f xs))) is ∙ ap (λ ys. x ∷ ys) (changed_twice test f g xs keeps)
    ] refl

-- ---- answers

module _ (s : State) (spare : ℕ) (deep : Type 0) (alt : List ℕ) (settled : List (Key × Side)) where
  pub merges_refused : (r : Refusal) → step s.working (Merge alt settled) ≡ Err r → IsMergeAnswer s spare deep alt settled (Err r)
  merges_refused r is = inr (inr (subst (λ (o : Outcome). IsMergeDue o (nat_lt spare (17 * changes_made s.working (Merge alt settled))) deep (Err r)) (sym is) refl))

  module _ (accepted : Tree × Answer) (is : step s.working (Merge alt settled) ≡ Ok accepted) (count : ℕ) (many : changes_made s.working (Merge alt settled) ≡ count) where
    due : (r : Result Answer Refusal) (full : Bool) → nat_lt spare (17 * count) ≡ full → IsMergeDue (Ok accepted) full deep r → IsMergeAnswer s spare deep alt settled r
    due r full test h =
        inr (inr (subst (λ (o : Outcome). IsMergeDue o (nat_lt spare (17 * changes_made s.working (Merge alt settled))) deep r) (sym is)
        (subst (λ b. IsMergeDue (Ok accepted) b deep r) (sym (ap (λ n. nat_lt spare (17 * n)) many ∙ test)) h)))

    pub merges_full : nat_lt spare (17 * count) ≡ true → IsMergeAnswer s spare deep alt settled (Err Full)
    merges_full full = due (Err Full) true full refl

    pub merges_done : nat_lt spare (17 * count) ≡ false → IsMergeAnswer s spare deep alt settled (Ok accepted.1)
    merges_done room = due (Ok accepted.1) false room (inl refl)

    pub merges_deep : (refusal : Refusal) → refusal ≡ Deep → nat_lt spare (17 * count) ≡ false → deep → IsMergeAnswer s spare deep alt settled (Err refusal)
    merges_deep refusal same room is_deep = due (Err refusal) false room (inr (ap Err same, is_deep))

-- ---- a Merge of an alternative that has a parent

-- what an alternative shows, if there is one
abbrev current_in : Option Alternative → Map
current_in o = unwrap_or (option_map (λ (a : Alternative). a.current) o) []

module _ (m : Medium) (limit : ℕ) (slot_name : SlotName) (bits : List Bool) (committed working : List Version) (s : State)
    (rests : Rests m limit slot_name bits committed working s) (alt : List ℕ) (pair : Version × Version) (is : IsPair working alt pair) (settled : List (Key × Side)) where
  abbrev own : Map
  own = own_map m limit slot_name bits committed working s rests alt pair is

  abbrev parent : Map
  parent = parent_map m limit slot_name bits committed working s rests alt pair is

  abbrev base : Map
  base = base_map m limit slot_name bits committed working s rests alt pair is

  abbrev pub merged : Map
  merged = merge base parent own settled

  abbrev pub merged_tree : Tree
  merged_tree = changed s.working alt (λ x. record x { current = merged; base = parent })

  own_is : named s.working alt ≡ Some (whole alt rests.new (own_there m limit slot_name bits committed working s rests alt pair is).filed)
  own_is = (own_there m limit slot_name bits committed working s rests alt pair is).is

  pub merge_refusal : (r : Refusal) → refusal_in base parent own settled ≡ Some r → step s.working (Merge alt settled) ≡ Err r
  merge_refusal r one =
      merge_refused s.working alt _ own_is pair.1.name _ (under m limit slot_name bits committed working s rests alt pair is) (parent_there m limit slot_name bits committed working s rests alt pair is).is settled r one

  own_rises : IsMap own
  own_rises = let at = (own_there m limit slot_name bits committed working s rests alt pair is).stands.current in rooted_map m.contents limit pair.0.current own at.stands_in at.rooted

  parent_rises : IsMap parent
  parent_rises = let at = (parent_there m limit slot_name bits committed working s rests alt pair is).stands.current in rooted_map m.contents limit pair.1.current parent at.stands_in at.rooted

  -- the map that it begins with
  abbrev pub start : Map
  start = merge_start own parent merged

  -- it lies under the root of the side that is planned
  pub start_rooted : (P : ℕ → Type 0) (x : Contents) (size : ℕ) (roots : ThreeRoots) (side : Side) (root : Root) → root ≡ root_from side roots → side ≡ start_side own parent merged
      → IsRootedIn sizes P x size roots.own own → IsRootedIn sizes P x size roots.parent parent → IsRootedIn sizes P x size root start
  start_rooted P x size roots side root at same below above =
      subst (λ (r : Root). IsRootedIn sizes P x size r start) (sym at) (subst (λ (t : Side). IsRootedIn sizes P x size (root_from side roots) (map_of t own parent)) same (by_side side))
    where
      by_side : (t : Side) → IsRootedIn sizes P x size (root_from t roots) (map_of t own parent)
      by_side Mine = below
      by_side Theirs = above

  -- a tree of this map with the changes made is one of the merged map
  pub made_of : (P : ℕ → Type 0) (x : Contents) (size : ℕ) (root : Root) (changes : List Change) → changes ≡ delta start merged → IsRootedIn sizes P x size root (with_changes start changes) → IsRootedIn sizes P x size root merged
  made_of P x size root changes same grown =
      subst (λ (n : Map). IsRootedIn sizes P x size root n) (ap (with_changes start) same ∙ (smaller own parent merged own_rises parent_rises (IsMap-merge base parent own settled own_rises)).0) grown

  module _ (all : refusal_in base parent own settled ≡ None) where
    pub merge_step : step s.working (Merge alt settled) ≡ Ok (merged_tree, Merged (length (delta own merged)))
    merge_step =
        merge_accepted s.working alt _ own_is pair.1.name _ (under m limit slot_name bits committed working s rests alt pair is) (parent_there m limit slot_name bits committed working s rests alt pair is).is settled all

    pub current_is : current_of s.working alt ≡ own
    current_is = ap (λ o. unwrap_or (option_map (λ (a : Alternative). a.current) o) []) own_is

    current_then : current_of merged_tree alt ≡ merged
    current_then = ap (λ o. unwrap_or (option_map (λ (a : Alternative). a.current) o) []) (named_turned s.working alt (λ x. record x { current = merged; base = parent }) _ (λ x. refl) own_is)

    above_is : parent_current_of s.working alt ≡ parent
    above_is =
        ap (λ (o : Option Alternative). current_in (option_and_then (λ n. named s.working n) (option_and_then (λ (a : Alternative). a.parent) o))) own_is
        ∙ ap (λ o. current_in (option_and_then (λ n. named s.working n) o)) (under m limit slot_name bits committed working s rests alt pair is)
        ∙ ap current_in (parent_there m limit slot_name bits committed working s rests alt pair is).is

    merged_is : merged_of s.working alt settled ≡ merged
    merged_is = ap (λ (t : Tree). current_of t alt) (ap (tree_after s.working) merge_step) ∙ current_then

    pub start_is : start_of s.working alt settled ≡ start
    start_is =
        ap (λ c. merge_start c (parent_current_of s.working alt) (merged_of s.working alt settled)) current_is
        ∙ ap (λ p. merge_start own p (merged_of s.working alt settled)) above_is
        ∙ ap (merge_start own parent) merged_is

    -- the changes that it makes
    pub merge_is : merge_changes s.working alt settled ≡ delta start merged
    merge_is = ap (λ (b : Map). delta b (merged_of s.working alt settled)) start_is ∙ ap (delta start) merged_is

    pub merge_made : changes_made s.working (Merge alt settled) ≡ length (delta start merged)
    merge_made = ap (λ (cs : List Change). length cs) merge_is

    parent_small : pair.1.current.block < 2 ^ 32
    parent_small = (fits_of (standing rests) (is_alternative_of pair.1.name) (slot.is_alternative_of pair.1.name) (λ v. refl) pair.1 is.parent).current

    pub merge_rests : (now : Medium) (after : List Bool) (root : Root) → root.block < 2 ^ 32 → TouchesOnly (is_free bits) m now → HoldsMore bits after → IsRootedIn sizes (IsHeld after) now.contents limit root merged
        → Rests now limit slot_name after committed (change_first (is_alternative_of alt) (with_base pair.1.current) (change_first (is_alternative_of alt) (with_current root) working)) (next s (Merge alt settled) (Ok (Merged (length (delta own merged)))))
    merge_rests now after root small spares more new =
        let first = change_first (is_filed alt) (refiled (λ _. merged)) rests.new in
        let turned = change_first (is_alternative_of alt) (with_current root) working in
        let both = change_first (is_alternative_of alt) (with_base pair.1.current) turned in
        let above = grown_in (IsHeld bits) (IsHeld after) m.contents now.contents limit (λ n held. spares.same n (held_not_free bits n held)) more.still pair.1.current parent (parent_there m limit slot_name bits committed working s rests alt pair is).stands.current in
        subst (λ (t : Tree). Rests now limit slot_name after committed both (record s { working = t })) (sym (ap (tree_after s.working) merge_step))
        (rests_on m limit slot_name bits committed working s rests now after both (change_first (is_filed alt) (refiled_both (λ c. c) (λ _. parent)) first) merged_tree spares more
        (subst (SlotFits limit) (sym (slot_changed (is_alternative_of alt) (slot.is_alternative_of alt) (λ v. refl) (with_base pair.1.current) (ledger.with_base pair.1.current.block) (λ v. refl) turned))
        (fits_alike limit (slot_entries turned) _ (alike_based alt pair.1.current.block parent_small (not_top m limit slot_name bits committed working s rests alt pair is) (slot_entries turned))
        (subst (SlotFits limit) (sym (slot_changed (is_alternative_of alt) (slot.is_alternative_of alt) (λ v. refl) (with_current root) (ledger.with_current root.block) (λ v. refl) working))
        (fits_alike limit (slot_entries working) _ (alike_turned (slot.is_alternative_of alt) root.block small (slot_entries working)) rests.fits))))
        (standing_first (IsHeld after) now.contents limit (is_alternative_of alt) (is_filed alt) (agree_alternative (IsHeld after) now.contents limit alt) (with_base pair.1.current) (refiled_both (λ c. c) (λ _. parent)) turned first
        (standing_first (IsHeld after) now.contents limit (is_alternative_of alt) (is_filed alt) (agree_alternative (IsHeld after) now.contents limit alt) (with_current root) (refiled (λ _. merged)) working rests.new
        (stands_on m limit slot_name bits committed working s rests now after spares more)
        (λ d f stands. record { kind = stands.kind; name = stands.name; owner = stands.owner; current = new; base = stands.base }))
        (λ d f stands. record { kind = stands.kind; name = stands.name; owner = stands.owner; current = stands.current; base = above }))
        (grown_turned alt (λ c. c) (λ _. parent) [] first refl
        ∙ ap (λ (t : Tree). changed t alt (with_maps (λ c. c) (λ _. parent))) (grown_changed alt (λ _. merged) [] rests.new refl ∙ ap (λ (t : Tree). changed t alt (recurrent (λ _. merged))) rests.gives_new)
        ∙ changed_twice (λ (a : Alternative). bytes_eq a.name alt) (recurrent (λ _. merged)) (with_maps (λ c. c) (λ _. parent)) s.working (λ x. refl)))

-- ---- what is known between the reading and the changes

module _ (m : Medium) (limit : ℕ) (slot_name : SlotName) (bits : List Bool) (committed working : List Version) (s : State) (rests : Rests m limit slot_name bits committed working s)
    (m' : Medium) (limit' : ℕ) (slot_name' : SlotName) (bits' : List Bool) (committed' working' : List Version) (rests' : Rests m' limit' slot_name' bits' committed' working' s)
    (alt : List ℕ) (pair : Version × Version) (is : IsPair working alt pair) (is' : IsPair working' alt pair) (settled : List (Key × Side)) (plan : MergePlan) where
  abbrev own_before : Map
  own_before = own_map m limit slot_name bits committed working s rests alt pair is

  abbrev own_after : Map
  own_after = own_map m' limit' slot_name' bits' committed' working' s rests' alt pair is'

  abbrev base_before : Map
  base_before = base_map m limit slot_name bits committed working s rests alt pair is

  abbrev base_after : Map
  base_after = base_map m' limit' slot_name' bits' committed' working' s rests' alt pair is'

  abbrev parent_before : Map
  parent_before = parent_map m limit slot_name bits committed working s rests alt pair is

  abbrev parent_after : Map
  parent_after = parent_map m' limit' slot_name' bits' committed' working' s rests' alt pair is'

  some_same : {X : Type 0} {a b : X} → Some a ≡ Some b → a ≡ b
  some_same h = cc

  own_same : whole alt rests.new (own_there m limit slot_name bits committed working s rests alt pair is).filed ≡ whole alt rests'.new (own_there m' limit' slot_name' bits' committed' working' s rests' alt pair is').filed
  own_same = some_same (sym (own_there m limit slot_name bits committed working s rests alt pair is).is ∙ (own_there m' limit' slot_name' bits' committed' working' s rests' alt pair is').is)

  parent_same : whole pair.1.name rests.new (parent_there m limit slot_name bits committed working s rests alt pair is).filed ≡ whole pair.1.name rests'.new (parent_there m' limit' slot_name' bits' committed' working' s rests' alt pair is').filed
  parent_same = some_same (sym (parent_there m limit slot_name bits committed working s rests alt pair is).is ∙ (parent_there m' limit' slot_name' bits' committed' working' s rests' alt pair is').is)

  -- what was planned holds of the same maps in the store that they are made in
  pub planned : (refusal_in base_before parent_before own_before settled ≡ None) × IsPlan plan own_before parent_before (merge base_before parent_before own_before settled)
      → (refusal_in base_after parent_after own_after settled ≡ None) × IsPlan plan own_after parent_after (merge base_after parent_after own_after settled)
  planned found =
      let P : Map → Map → Map → Type 0 = λ b p o. (refusal_in b p o settled ≡ None) × IsPlan plan o p (merge b p o settled) in
      subst (λ (a : Alternative). P a.base parent_after a.current) own_same (subst (λ (p : Alternative). P base_before p.current own_before) parent_same found)

-- which fault changes answer
pub fault_of_changes : (f : PutFault) (deep : Type 0) (P : Root → Type 0) → Makes (Err f) deep P → (f ≡ put.Tree fault.Device) ⊎ ((f ≡ put.Deep) × deep)
fault_of_changes (put.Tree fault.Device) deep P h = inl refl
fault_of_changes (put.Tree (fault.Damaged b)) deep P h = absurd h
fault_of_changes put.Deep deep P h = inr (refl, h)

-- why changes were refused
pub by_reason : (r : Refusal) (due Q : Type 0) → (r ≡ Device) ⊎ ((r ≡ Memory) ⊎ due) → (r ≡ Device → Q) → (r ≡ Memory → Q) → (due → Q) → Q
by_reason r due Q (inl device) one two three = one device
by_reason r due Q (inr (inl memory)) one two three = two memory
by_reason r due Q (inr (inr refused)) one two three = three refused

-- what is met in the changes of a Merge
pub meets_as : (x : Contents) (limit other : ℕ) (m k : Map) (changes due : List Change) → limit ≡ other → m ≡ k → changes ≡ due → MeetsFullPath x limit m changes → MeetsFullPath x other k due
meets_as x limit other m k changes due size same are meets =
    subst (λ n. MeetsFullPath x n k due) size (subst (λ (j : Map). MeetsFullPath x limit j due) same (subst (λ (cs : List Change). MeetsFullPath x limit m cs) are meets))

pub by_either : (one two Q : Type 0) → one ⊎ two → (one → Q) → (two → Q) → Q
by_either one two Q (inl a) f g = f a
by_either one two Q (inr b) f g = g b
