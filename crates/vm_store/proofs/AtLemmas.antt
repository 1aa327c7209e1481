-- The records and the blocks of a version whose root was found, and why one was not.
use Rattle.std.proofs.Common.{◌≡◌, ℕ, Bool, List, find, Option, Some, None, ok_or, option_map, Ok, Err, refl, ap, ◌∙◌, subst}
use Rattle.vm_types.specs.declared.at.At.{At}
use Rattle.vm_types.specs.declared.at.Of.{Of}
use Rattle.vm_types.specs.declared.at.Of.TheVariants.{Base, Checkpoint, Current}
use Rattle.vm_types.specs.declared.refusal.Refusal.{Refusal}
use Rattle.vm_types.specs.declared.refusal.Refusal.TheVariants.{NoSuchAlternative, NoSuchCheckpoint}
use Rattle.vm_types.specs.Map.{Map}
use Rattle.vm_types.specs.State.{State}
use Rattle.vm_types.specs.Versions.{map_at, map_found, map_saved}
use Rattle.vm_disk.specs.Disk.{Medium}
use Rattle.vm_alloc.specs.Held.{IsHeld}
use Rattle.vm_block.specs.declared.selector.SlotName.{SlotName}
use Rattle.vm_tree.specs.Root.{IsRooted, IsRootedIn}
use Rattle.vm_tree.specs.declared.root.Root.{Root}
use Rattle.vm_store.specs.Rest.{Rests}
use Rattle.vm_store.specs.Roots.{root_at, root_meant, saved_root}
use Rattle.vm_store.specs.Shared.{blocks_at, meant_chosen}
use Rattle.vm_store.specs.Sizes.{sizes}
use Rattle.vm_store.specs.Versions.{is_alternative_of, is_checkpoint_of}
use Rattle.vm_store.specs.declared.version.Version.{Version}
use Rattle.vm_store.proofs.SharedLemmas.{Chosen, base_under, current_under, rooted_in, saved_under}
use Rattle.vm_store.proofs.TurnLemmas.{absent, saved_absent, saved_there, there}
use Rattle.vm_store.proofs.VersionLemmas.{standing}

-- a root that was found is that of a version
root_found : (o : Option Version) (root_of : Version → Root) (refusal : Refusal) (root : Root) → ok_or (option_map root_of o) refusal ≡ Ok root → (v : Version) × (o ≡ Some v) × (root_of v ≡ root)
root_found None root_of refusal root is = absurd (cc is)
root_found (Some v) root_of refusal root is = (v, refl, cc is)

-- and where there is none, no version was found
root_lacking : (o : Option Version) (root_of : Version → Root) (due refusal : Refusal) → ok_or (option_map root_of o) due ≡ Err refusal → (o ≡ None) × (due ≡ refusal)
root_lacking None root_of due refusal is = (refl, cc is)
root_lacking (Some v) root_of due refusal is = absurd (cc is)

module _ (m : Medium) (limit : ℕ) (slot_name : SlotName) (bits : List Bool) (committed working : List Version) (s : State)
    (rests : Rests m limit slot_name bits committed working s) where
  -- the records of a version, which lie under this root
  pub record IsAt (at : At) (root : Root) : Type 0 where
    pub records : Map
    pub is : map_at s.working at ≡ Ok records
    pub stands : IsRootedIn sizes (IsHeld bits) m.contents limit root records

  there_meant : (alt : List ℕ) (of : Of) (root : Root) → root_meant working alt of ≡ Ok root → IsAt (record { alt = alt; of = of }) root
  there_meant alt Current root is =
      let found = root_found (find (is_alternative_of alt) working) (λ v. v.current) NoSuchAlternative root is in
      let own = there (standing rests) alt found.0 found.1 in
      record {
        records = own.filed.current;
        is = ap (λ o. map_found o Current) own.is;
        stands = subst (λ (r : Root). IsRootedIn sizes (IsHeld bits) m.contents limit r own.filed.current) found.2 own.stands.current;
      }
  there_meant alt Base root is =
      let found = root_found (find (is_alternative_of alt) working) (λ v. v.base) NoSuchAlternative root is in
      let own = there (standing rests) alt found.0 found.1 in
      record {
        records = own.filed.base;
        is = ap (λ o. map_found o Base) own.is;
        stands = subst (λ (r : Root). IsRootedIn sizes (IsHeld bits) m.contents limit r own.filed.base) found.2 own.stands.base;
      }
  there_meant alt (Checkpoint name) root is = saved (find (is_alternative_of alt) working) refl is
    where
      saved : (o : Option Version) → find (is_alternative_of alt) working ≡ o → saved_root working alt name o ≡ Ok root → IsAt (record { alt = alt; of = Checkpoint name }) root
      saved None none is = absurd (cc is)
      saved (Some e) one is =
          let found = root_found (find (is_checkpoint_of alt name) working) (λ v. v.current) NoSuchCheckpoint root is in
          let own = there (standing rests) alt e one in
          let kept = saved_there (standing rests) alt name own.filed found.0 found.1 in
          record {
            records = kept.filed.current;
            is = ap (λ o. map_found o (Checkpoint name)) own.is ∙ ap map_saved kept.is;
            stands = subst (λ (r : Root). IsRootedIn sizes (IsHeld bits) m.contents limit r kept.filed.current) found.2 kept.stands.current;
          }

  lacking_meant : (alt : List ℕ) (of : Of) (refusal : Refusal) → root_meant working alt of ≡ Err refusal → map_at s.working (record { alt = alt; of = of }) ≡ Err refusal
  lacking_meant alt Current refusal is =
      let lacks = root_lacking (find (is_alternative_of alt) working) (λ v. v.current) NoSuchAlternative refusal is in
      ap (λ o. map_found o Current) (absent (standing rests) alt lacks.0) ∙ ap Err lacks.1
  lacking_meant alt Base refusal is =
      let lacks = root_lacking (find (is_alternative_of alt) working) (λ v. v.base) NoSuchAlternative refusal is in
      ap (λ o. map_found o Base) (absent (standing rests) alt lacks.0) ∙ ap Err lacks.1
  lacking_meant alt (Checkpoint name) refusal is = saved (find (is_alternative_of alt) working) refl is
    where
      saved : (o : Option Version) → find (is_alternative_of alt) working ≡ o → saved_root working alt name o ≡ Err refusal → map_at s.working (record { alt = alt; of = Checkpoint name }) ≡ Err refusal
      saved None none is =
          let same : NoSuchAlternative ≡ refusal = cc is in
          ap (λ o. map_found o (Checkpoint name)) (absent (standing rests) alt none) ∙ ap Err same
      saved (Some e) one is =
          let lacks = root_lacking (find (is_checkpoint_of alt name) working) (λ v. v.current) NoSuchCheckpoint refusal is in
          let own = there (standing rests) alt e one in
          ap (λ o. map_found o (Checkpoint name)) own.is ∙ ap map_saved (saved_absent (standing rests) alt name own.filed lacks.0) ∙ ap Err lacks.1

  module _ (choose : (root : Root) (n : Map) → IsRootedIn sizes (IsHeld bits) m.contents limit root n → List ℕ) where
    -- the blocks that are chosen of the tree of a version
    abbrev pub chosen_at : At → List ℕ
    chosen_at at = meant_chosen (IsHeld bits) m.contents limit choose working rests.new rests.stands at.alt at.of

    chosen_meant : (alt : List ℕ) (of : Of) (root : Root) → root_meant working alt of ≡ Ok root → Chosen (IsHeld bits) m.contents limit choose root (chosen_at (record { alt = alt; of = of }))
    chosen_meant alt Current root is =
        let found = root_found (find (is_alternative_of alt) working) (λ v. v.current) NoSuchAlternative root is in
        subst (λ (r : Root). Chosen (IsHeld bits) m.contents limit choose r (chosen_at (record { alt = alt; of = Current }))) found.2 (current_under (IsHeld bits) m.contents limit choose alt working rests.new rests.stands found.0 found.1)
    chosen_meant alt Base root is =
        let found = root_found (find (is_alternative_of alt) working) (λ v. v.base) NoSuchAlternative root is in
        subst (λ (r : Root). Chosen (IsHeld bits) m.contents limit choose r (chosen_at (record { alt = alt; of = Base }))) found.2 (base_under (IsHeld bits) m.contents limit choose alt working rests.new rests.stands found.0 found.1)
    chosen_meant alt (Checkpoint name) root is = saved (find (is_alternative_of alt) working) is
      where
        saved : (o : Option Version) → saved_root working alt name o ≡ Ok root → Chosen (IsHeld bits) m.contents limit choose root (chosen_at (record { alt = alt; of = Checkpoint name }))
        saved None is = absurd (cc is)
        saved (Some e) is =
            let found = root_found (find (is_checkpoint_of alt name) working) (λ v. v.current) NoSuchCheckpoint root is in
            subst (λ (r : Root). Chosen (IsHeld bits) m.contents limit choose r (chosen_at (record { alt = alt; of = Checkpoint name }))) found.2 (saved_under (IsHeld bits) m.contents limit choose alt name working rests.new rests.stands found.0 found.1)

    -- under the root of a version lies the tree of which they are chosen
    pub at_chosen : (at : At) (root : Root) → root_at working at ≡ Ok root → Chosen (IsHeld bits) m.contents limit choose root (chosen_at at)
    at_chosen at root is = chosen_meant at.alt at.of root is

  module _ (at : At) where
    -- the records of a version whose root was found
    pub at_there : (root : Root) → root_at working at ≡ Ok root → IsAt at root
    at_there root is = there_meant at.alt at.of root is

    -- a version without a root is not there
    pub at_lacking : (refusal : Refusal) → root_at working at ≡ Err refusal → map_at s.working at ≡ Err refusal
    at_lacking refusal is = lacking_meant at.alt at.of refusal is

    -- what lies under its root lies in its blocks
    pub at_rooted : (root : Root) → root_at working at ≡ Ok root → (n : Map) × IsRooted sizes m.contents limit root n (blocks_at rests at)
    at_rooted root is = rooted_in _ _ _ _ _ (at_chosen (λ r n lies. lies.stands_in) at root is)

-- a version without a root is refused for its alternative or its checkpoint, and for nothing else
pub not_of_versions : (vs : List Version) (at : At) (refusal other : Refusal) → (NoSuchAlternative ≡ other → ⊥) → (NoSuchCheckpoint ≡ other → ⊥) → root_at vs at ≡ Err refusal → refusal ≡ other → ⊥
not_of_versions vs at refusal other none nor is same = meant at.of is
  where
    saved : (o : Option Version) (name : List ℕ) → saved_root vs at.alt name o ≡ Err refusal → ⊥
    saved None name is = none ((let due : NoSuchAlternative ≡ refusal = cc is in due) ∙ same)
    saved (Some e) name is = nor ((root_lacking (find (is_checkpoint_of at.alt name) vs) (λ v. v.current) NoSuchCheckpoint refusal is).1 ∙ same)

    meant : (of : Of) → root_meant vs at.alt of ≡ Err refusal → ⊥
    meant Current is = none ((root_lacking (find (is_alternative_of at.alt) vs) (λ v. v.current) NoSuchAlternative refusal is).1 ∙ same)
    meant Base is = none ((root_lacking (find (is_alternative_of at.alt) vs) (λ v. v.base) NoSuchAlternative refusal is).1 ∙ same)
    meant (Checkpoint name) is = saved (find (is_alternative_of at.alt) vs) name is
