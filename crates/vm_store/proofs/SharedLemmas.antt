-- The blocks of the trees of an alternative that was found.
use Rattle.std.proofs.Common.{◌≡◌, ℕ, ◌+◌, ◌≤◌, Bool, true, false, cond, List, [], ◌∷◌, find, Option, Some, unwrap_or, refl, sym, ap, ◌∙◌, subst, arith}
use Rattle.vm_types.specs.Map.{Map}
use Rattle.vm_types.specs.State.{State}
use Rattle.vm_disk.specs.Disk.{Contents, DiskState, Medium}
use Rattle.vm_block.specs.declared.selector.SlotName.{SlotName}
use Rattle.vm_alloc.specs.Held.{IsHeld}
use Rattle.vm_diff.specs.Differ.{ReadsUnshared}
use Rattle.vm_tree.specs.Root.{IsRooted, IsRootedIn}
use Rattle.vm_tree.specs.declared.root.Root.{Root}
use Rattle.vm_store.specs.Filed.{Filed, Standing}
use Rattle.vm_store.specs.Pairs.{IsPair}
use Rattle.vm_store.specs.Rest.{Rests}
use Rattle.vm_store.specs.Shared.{base_blocks, base_chosen, current_blocks, current_chosen, parent_name, saved_chosen, unshared_from, unshared_on_sides, unshared_with_parent}
use Rattle.vm_store.specs.Sides.{ReadsSides}
use Rattle.vm_store.specs.Sizes.{sizes}
use Rattle.vm_store.specs.Versions.{is_alternative_of, is_checkpoint_of}
use Rattle.vm_store.specs.declared.version.Version.{Version}

module _ (P : ℕ → Type 0) (x : Contents) (limit : ℕ) (choose : (root : Root) (m : Map) → IsRootedIn sizes P x limit root m → List ℕ) where
  -- these are chosen of the tree under a root
  abbrev pub Chosen : Root → List ℕ → Type 0
  Chosen root bs = (m : Map) × (lies : IsRootedIn sizes P x limit root m) × (bs ≡ choose root m lies)

  module _ (alt : List ℕ) where
    pub current_under : (vs : List Version) (fs : List Filed) (s : Standing P x limit vs fs) (e : Version) → find (is_alternative_of alt) vs ≡ Some e → Chosen e.current (current_chosen P x limit choose vs fs s alt)
    current_under [] [] s e found = cc
    current_under [] (f ∷ fs) s e found = absurd s
    current_under (v ∷ vs) [] s e found = absurd s
    current_under (v ∷ vs) (f ∷ fs) s e found =
        elim (is_alternative_of alt v) as (λ b. cond b (Some v) (find (is_alternative_of alt) vs) ≡ Some e → Chosen e.current (cond b (choose v.current f.current s.0.current) (current_chosen P x limit choose vs fs s.1 alt))) [
          | true ↦ λ h. let same : v ≡ e = cc in subst (λ (w : Version). Chosen w.current (choose v.current f.current s.0.current)) same (f.current, s.0.current, refl)
          | false ↦ λ h. current_under vs fs s.1 e h
        ] found

    pub base_under : (vs : List Version) (fs : List Filed) (s : Standing P x limit vs fs) (e : Version) → find (is_alternative_of alt) vs ≡ Some e → Chosen e.base (base_chosen P x limit choose vs fs s alt)
    base_under [] [] s e found = cc
    base_under [] (f ∷ fs) s e found = absurd s
    base_under (v ∷ vs) [] s e found = absurd s
    base_under (v ∷ vs) (f ∷ fs) s e found =
        elim (is_alternative_of alt v) as (λ b. cond b (Some v) (find (is_alternative_of alt) vs) ≡ Some e → Chosen e.base (cond b (choose v.base f.base s.0.base) (base_chosen P x limit choose vs fs s.1 alt))) [
          | true ↦ λ h. let same : v ≡ e = cc in subst (λ (w : Version). Chosen w.base (choose v.base f.base s.0.base)) same (f.base, s.0.base, refl)
          | false ↦ λ h. base_under vs fs s.1 e h
        ] found

    pub saved_under : (name : List ℕ) (vs : List Version) (fs : List Filed) (s : Standing P x limit vs fs) (e : Version) → find (is_checkpoint_of alt name) vs ≡ Some e → Chosen e.current (saved_chosen P x limit choose vs fs s alt name)
    saved_under name [] [] s e found = cc
    saved_under name [] (f ∷ fs) s e found = absurd s
    saved_under name (v ∷ vs) [] s e found = absurd s
    saved_under name (v ∷ vs) (f ∷ fs) s e found =
        elim (is_checkpoint_of alt name v) as (λ b. cond b (Some v) (find (is_checkpoint_of alt name) vs) ≡ Some e → Chosen e.current (cond b (choose v.current f.current s.0.current) (saved_chosen P x limit choose vs fs s.1 alt name))) [
          | true ↦ λ h. let same : v ≡ e = cc in subst (λ (w : Version). Chosen w.current (choose v.current f.current s.0.current)) same (f.current, s.0.current, refl)
          | false ↦ λ h. saved_under name vs fs s.1 e h
        ] found

-- where all blocks are chosen, what lies under the root lies in them
pub rooted_in : (P : ℕ → Type 0) (x : Contents) (limit : ℕ) (root : Root) (bs : List ℕ) → Chosen P x limit (λ root m lies. lies.stands_in) root bs → (m : Map) × IsRooted sizes x limit root m bs
rooted_in P x limit root bs chosen = (chosen.0, subst (λ (cs : List ℕ). IsRooted sizes x limit root chosen.0 cs) (sym chosen.2) chosen.1.rooted)

module _ (m : Medium) (limit : ℕ) (slot_name : SlotName) (bits : List Bool) (committed working : List Version) (s : State)
    (rests : Rests m limit slot_name bits committed working s) where
  -- what lies under the roots of an alternative lies in its blocks
  pub current_rooted : (alt : List ℕ) (e : Version) → find (is_alternative_of alt) working ≡ Some e → (n : Map) × IsRooted sizes m.contents limit e.current n (current_blocks (IsHeld bits) m.contents limit working rests.new rests.stands alt)
  current_rooted alt e found = rooted_in _ _ _ _ _ (current_under (IsHeld bits) m.contents limit (λ root n lies. lies.stands_in) alt working rests.new rests.stands e found)

  pub base_rooted : (alt : List ℕ) (e : Version) → find (is_alternative_of alt) working ≡ Some e → (n : Map) × IsRooted sizes m.contents limit e.base n (base_blocks (IsHeld bits) m.contents limit working rests.new rests.stands alt)
  base_rooted alt e found = rooted_in _ _ _ _ _ (base_under (IsHeld bits) m.contents limit (λ root n lies. lies.stands_in) alt working rests.new rests.stands e found)

  -- the parent of an alternative is the one of this pair
  pub pair_counts : (alt : List ℕ) (pair : Version × Version) → IsPair working alt pair → unshared_with_parent rests alt ≡ unshared_from rests alt pair.1.name
  pair_counts alt pair is =
      let name : parent_name (find (is_alternative_of alt) working) ≡ pair.1.name = ap parent_name is.own ∙ ap (λ (o : Option (List ℕ)). unwrap_or o []) is.owner in
      ap (unshared_from rests alt) name

-- no more blocks are read than the compared trees do not share, of an alternative and its parent in what the store stands for
module _ (old new : DiskState) (limit : ℕ) (slot_name : SlotName) (bits : List Bool) (committed working : List Version) (s : State) (rests : Rests old.now limit slot_name bits committed working s)
    (alt : List ℕ) (pair : Version × Version) (is : IsPair working alt pair) (honest : new.honest ≡ true) where
  pub few_with_parent : ReadsUnshared old new limit pair.0.base pair.1.current → new.reads ≤ old.reads + unshared_with_parent rests alt
  few_with_parent bound =
      let base = base_rooted _ _ _ _ _ _ s rests alt pair.0 is.own in
      let parent = current_rooted _ _ _ _ _ _ s rests pair.1.name pair.1 is.parent in
      omega (arith, bound honest sizes base.0 parent.0 _ _ base.1 parent.1, pair_counts _ _ _ _ _ _ s rests alt pair is)

  pub few_on_sides : ReadsSides old new limit (record { base = pair.0.base; parent = pair.1.current; own = pair.0.current }) → new.reads ≤ old.reads + unshared_on_sides rests alt
  few_on_sides bound =
      let base = base_rooted _ _ _ _ _ _ s rests alt pair.0 is.own in
      let current = current_rooted _ _ _ _ _ _ s rests alt pair.0 is.own in
      let parent = current_rooted _ _ _ _ _ _ s rests pair.1.name pair.1 is.parent in
      omega (arith, bound honest base.0 parent.0 current.0 _ _ _ base.1 parent.1 current.1, pair_counts _ _ _ _ _ _ s rests alt pair is)
