-- What a slot says of versions, where one is added, changed or taken out.
use Rattle.std.proofs.Common.{◌≡◌, suc, Bool, true, false, ◌||◌, cond, List, [], ◌∷◌, ◌++◌, filter, find, length, Some, None, refl, sym, ap, ◌∙◌}
use Rattle.std.specs.List.{list_any}
use Rattle.vm_types.specs.Firsts.{change_first, without_first}
use Rattle.vm_block.specs.declared.slot.Entry.{Entry}
use Rattle.vm_store.specs.Versions.{entry_of, slot_entries}
use Rattle.vm_store.specs.declared.version.Version.{Version}

-- there are as many
pub slot-length : (vs : List Version) → length (slot_entries vs) ≡ length vs
slot-length [] = refl
slot-length (v ∷ vs) = ap suc (slot-length vs)

pub slot_more : (vs : List Version) (v : Version) → slot_entries (vs ++ v ∷ []) ≡ slot_entries vs ++ entry_of v ∷ []
slot_more [] v = refl
slot_more (u ∷ vs) v = ap (λ es. entry_of u ∷ es) (slot_more vs v)

module _ (test : Version → Bool) (asked : Entry → Bool) (same : (v : Version) → asked (entry_of v) ≡ test v) where
  pub slot_any : (vs : List Version) → list_any asked (slot_entries vs) ≡ list_any test vs
  slot_any [] = refl
  slot_any (v ∷ vs) = ap (λ b. b || list_any asked (slot_entries vs)) (same v) ∙ ap (λ b. test v || b) (slot_any vs)

  pub slot_filter : (vs : List Version) → slot_entries (filter test vs) ≡ filter asked (slot_entries vs)
  slot_filter [] = refl
  slot_filter (v ∷ vs) =
      elim (test v) as (λ b. slot_entries (cond b (v ∷ filter test vs) (filter test vs)) ≡ cond b (entry_of v ∷ filter asked (slot_entries vs)) (filter asked (slot_entries vs))) [
        | true ↦ ap (λ es. entry_of v ∷ es) (slot_filter vs)
        | false ↦ slot_filter vs
      ] ∙ ap (λ b. cond b (entry_of v ∷ filter asked (slot_entries vs)) (filter asked (slot_entries vs))) (sym (same v))

  pub slot_without : (vs : List Version) → slot_entries (without_first test vs) ≡ without_first asked (slot_entries vs)
  slot_without [] = refl
  slot_without (v ∷ vs) =
      elim (test v) as (λ b. slot_entries (cond b vs (v ∷ without_first test vs)) ≡ cond b (slot_entries vs) (entry_of v ∷ without_first asked (slot_entries vs))) [
        | true ↦ refl
        | false ↦ ap (λ es. entry_of v ∷ es) (slot_without vs)
      ] ∙ ap (λ b. cond b (slot_entries vs) (entry_of v ∷ without_first asked (slot_entries vs))) (sym (same v))

  pub slot_found : (vs : List Version) (v : Version) → find test vs ≡ Some v → find asked (slot_entries vs) ≡ Some (entry_of v)
  slot_found [] v is = cc
  slot_found (u ∷ vs) v is =
      ap (λ b. cond b (Some (entry_of u)) (find asked (slot_entries vs))) (same u)
      ∙ elim (test u) as (λ b. cond b (Some u) (find test vs) ≡ Some v → cond b (Some (entry_of u)) (find asked (slot_entries vs)) ≡ Some (entry_of v)) [
        | true ↦ λ is. let it : u ≡ v = cc in ap (λ (w : Version). Some (entry_of w)) it
        | false ↦ λ is. slot_found vs v is
      ] is

  pub slot_none : (vs : List Version) → find test vs ≡ None → find asked (slot_entries vs) ≡ None
  slot_none [] is = refl
  slot_none (u ∷ vs) is =
      ap (λ b. cond b (Some (entry_of u)) (find asked (slot_entries vs))) (same u)
      ∙ elim (test u) as (λ b. cond b (Some u) (find test vs) ≡ None → cond b (Some (entry_of u)) (find asked (slot_entries vs)) ≡ None) [
        | true ↦ λ is. cc
        | false ↦ λ is. slot_none vs is
      ] is

  module _ (φ : Version → Version) (ψ : Entry → Entry) (alike : (v : Version) → entry_of (φ v) ≡ ψ (entry_of v)) where
    pub slot_changed : (vs : List Version) → slot_entries (change_first test φ vs) ≡ change_first asked ψ (slot_entries vs)
    slot_changed [] = refl
    slot_changed (v ∷ vs) =
        elim (test v) as (λ b. slot_entries (cond b (φ v ∷ vs) (v ∷ change_first test φ vs)) ≡ cond b (ψ (entry_of v) ∷ slot_entries vs) (entry_of v ∷ change_first asked ψ (slot_entries vs))) [
          | true ↦ ap (λ e. e ∷ slot_entries vs) (alike v)
          | false ↦ ap (λ es. entry_of v ∷ es) (slot_changed vs)
        ] ∙ ap (λ b. cond b (ψ (entry_of v) ∷ slot_entries vs) (entry_of v ∷ change_first asked ψ (slot_entries vs))) (sym (same v))
