-- The tree that entries give: looking an alternative up, and changing one.
use Rattle.std.proofs.Common.{◌≡◌, ℕ, Bool, true, false, ◌&&◌, cond, List, [], ◌∷◌, ◌++◌, find, Option, Some, None, is_some, option_map, unwrap_or, refl, sym, ap, ◌∙◌}
use Rattle.std.specs.Str.{bytes_eq}
use Rattle.vm_types.specs.Map.{Map}
use Rattle.vm_types.specs.Firsts.{change_first}
use Rattle.vm_types.specs.Tree.{Tree, Alternative, Saved, named, changed}
use Rattle.vm_block.specs.Slot.{is_alternative}
use Rattle.vm_store.specs.Filed.{Filed, saved_of, bare, with_saved, add, with_filed}

-- whether it is the alternative of this name
abbrev pub is_filed : List ℕ → Filed → Bool
is_filed n f = is_alternative f.kind && bytes_eq f.name n

-- with other records
abbrev pub refiled : (Map → Map) → Filed → Filed
refiled g f = record f { current = g f.current }

abbrev pub recurrent : (Map → Map) → Alternative → Alternative
recurrent g a = record a { current = g a.current }

-- with other records, and others in the base
abbrev pub refiled_both : (Map → Map) → (Map → Map) → Filed → Filed
refiled_both g h f = record f { current = g f.current; base = h f.base }

abbrev pub with_maps : (Map → Map) → (Map → Map) → Alternative → Alternative
with_maps g h a = record a { current = g a.current; base = h a.base }

-- the two maps of an alternative
abbrev pub maps_of : Alternative → Map × Map
maps_of a = (a.current, a.base)

abbrev pub filed_maps : Filed → Map × Map
filed_maps f = (f.current, f.base)

module _ (n : List ℕ) where
  -- an alternative that is there is changed where it stands
  pub changed_front : (t u : Tree) (c : Alternative → Alternative) → is_some (named t n) ≡ true → changed (t ++ u) n c ≡ changed t n c ++ u
  changed_front [] u c h = cc
  changed_front (a ∷ t) u c h =
      elim (bytes_eq a.name n) as (λ b. is_some (cond b (Some a) (named t n)) ≡ true → cond b (c a ∷ (t ++ u)) (a ∷ changed (t ++ u) n c) ≡ cond b (c a ∷ t) (a ∷ changed t n c) ++ u) [
        | true ↦ λ h. refl
        | false ↦ λ h. ap (λ v. a ∷ v) (changed_front t u c h)
      ] h

  -- one that is absent there is changed behind
  pub changed_back : (t u : Tree) (c : Alternative → Alternative) → is_some (named t n) ≡ false → changed (t ++ u) n c ≡ t ++ changed u n c
  changed_back [] u c h = refl
  changed_back (a ∷ t) u c h =
      elim (bytes_eq a.name n) as (λ b. is_some (cond b (Some a) (named t n)) ≡ false → cond b (c a ∷ (t ++ u)) (a ∷ changed (t ++ u) n c) ≡ a ∷ (t ++ changed u n c)) [
        | true ↦ λ h. cc
        | false ↦ λ h. ap (λ v. a ∷ v) (changed_back t u c h)
      ] h

  pub named_front : (t u : Tree) → is_some (named t n) ≡ true → named (t ++ u) n ≡ named t n
  named_front [] u h = cc
  named_front (a ∷ t) u h =
      elim (bytes_eq a.name n) as (λ b. is_some (cond b (Some a) (named t n)) ≡ true → cond b (Some a) (named (t ++ u) n) ≡ cond b (Some a) (named t n)) [
        | true ↦ λ h. refl
        | false ↦ λ h. named_front t u h
      ] h

  pub named_back : (t u : Tree) → is_some (named t n) ≡ false → named (t ++ u) n ≡ named u n
  named_back [] u h = refl
  named_back (a ∷ t) u h =
      elim (bytes_eq a.name n) as (λ b. is_some (cond b (Some a) (named t n)) ≡ false → cond b (Some a) (named (t ++ u) n) ≡ named u n) [
        | true ↦ λ h. cc
        | false ↦ λ h. named_back t u h
      ] h

  -- a checkpoint more changes no map and no name
  saved_maps : (t : Tree) (o : List ℕ) (c : Saved) → option_map maps_of (named (changed t o (with_saved c)) n) ≡ option_map maps_of (named t n)
  saved_maps [] o c = refl
  saved_maps (a ∷ t) o c =
      elim (bytes_eq a.name o) as (λ b. option_map maps_of (named (cond b (with_saved c a ∷ t) (a ∷ changed t o (with_saved c))) n) ≡ option_map maps_of (named (a ∷ t) n)) [
        | true ↦ elim (bytes_eq a.name n) as (λ b. option_map maps_of (cond b (Some (with_saved c a)) (named t n)) ≡ option_map maps_of (cond b (Some a) (named t n))) [
          | true ↦ refl
          | false ↦ refl
        ]
        | false ↦ elim (bytes_eq a.name n) as (λ b. option_map maps_of (cond b (Some a) (named (changed t o (with_saved c)) n)) ≡ option_map maps_of (cond b (Some a) (named t n))) [
          | true ↦ refl
          | false ↦ saved_maps t o c
        ]
      ]

  -- other records and one checkpoint more, in either order
  commute : (t : Tree) (o : List ℕ) (c : Saved) (g h : Map → Map) → changed (changed t n (with_maps g h)) o (with_saved c) ≡ changed (changed t o (with_saved c)) n (with_maps g h)
  commute [] o c g h = refl
  commute (a ∷ t) o c g h =
      elim (bytes_eq a.name n) as (λ b. bytes_eq a.name n ≡ b → changed (cond b (with_maps g h a ∷ t) (a ∷ changed t n (with_maps g h))) o (with_saved c) ≡ changed (changed (a ∷ t) o (with_saved c)) n (with_maps g h)) [
        | true ↦ λ is. elim (bytes_eq a.name o) as (λ b. cond b (with_saved c (with_maps g h a) ∷ t) (with_maps g h a ∷ changed t o (with_saved c)) ≡ changed (cond b (with_saved c a ∷ t) (a ∷ changed t o (with_saved c))) n (with_maps g h)) [
          | true ↦ sym (ap (λ b. cond b (with_maps g h (with_saved c a) ∷ t) (with_saved c a ∷ changed t n (with_maps g h))) is)
          | false ↦ sym (ap (λ b. cond b (with_maps g h a ∷ changed t o (with_saved c)) (a ∷ changed (changed t o (with_saved c)) n (with_maps g h))) is)
        ]
        | false ↦ λ is. elim (bytes_eq a.name o) as (λ b. cond b (with_saved c a ∷ changed t n (with_maps g h)) (a ∷ changed (changed t n (with_maps g h)) o (with_saved c)) ≡ changed (cond b (with_saved c a ∷ t) (a ∷ changed t o (with_saved c))) n (with_maps g h)) [
          | true ↦ sym (ap (λ b. cond b (with_maps g h (with_saved c a) ∷ t) (with_saved c a ∷ changed t n (with_maps g h))) is)
          | false ↦ ap (λ v. a ∷ v) (commute t o c g h) ∙ sym (ap (λ b. cond b (with_maps g h a ∷ changed t o (with_saved c)) (a ∷ changed (changed t o (with_saved c)) n (with_maps g h))) is)
        ]
      ] refl

some_maps : (o p : Option Alternative) → option_map maps_of o ≡ option_map maps_of p → is_some o ≡ is_some p
some_maps None None e = refl
some_maps None (Some a) e = cc
some_maps (Some a) None e = cc
some_maps (Some a) (Some b) e = refl

-- one entry more at the end
pub grown_more : (t : Tree) (fs : List Filed) (f : Filed) → with_filed t (fs ++ f ∷ []) ≡ add (with_filed t fs) f
grown_more t [] f = refl
grown_more t (g ∷ fs) f = grown_more (add t g) fs f

module _ (n : List ℕ) where
  -- an entry more leaves the maps of an alternative that is there
  add_present : (t : Tree) (f : Filed) → is_some (named t n) ≡ true → option_map maps_of (named (add t f) n) ≡ option_map maps_of (named t n)
  add_present t f h =
      elim (is_alternative f.kind) as (λ b. option_map maps_of (named (cond b (t ++ bare f ∷ []) (changed t (unwrap_or f.owner []) (with_saved (saved_of f)))) n) ≡ option_map maps_of (named t n)) [
        | true ↦ ap (option_map maps_of) (named_front n t (bare f ∷ []) h)
        | false ↦ saved_maps n t (unwrap_or f.owner []) (saved_of f)
      ]

  -- an entry more brings in an alternative that was absent, if it is that one
  add_absent : (t : Tree) (f : Filed) → is_some (named t n) ≡ false → option_map maps_of (named (add t f) n) ≡ cond (is_filed n f) (Some (filed_maps f)) None
  add_absent t f h =
      elim (is_alternative f.kind) as (λ b. option_map maps_of (named (cond b (t ++ bare f ∷ []) (changed t (unwrap_or f.owner []) (with_saved (saved_of f)))) n) ≡ cond (b && bytes_eq f.name n) (Some (filed_maps f)) None) [
        | true ↦ ap (option_map maps_of) (named_back n t (bare f ∷ []) h) ∙ elim (bytes_eq f.name n) as (λ b. option_map maps_of (cond b (Some (bare f)) None) ≡ cond b (Some (filed_maps f)) None) [
          | true ↦ refl
          | false ↦ refl
        ]
        | false ↦ saved_maps n t (unwrap_or f.owner []) (saved_of f) ∙ none (named t n) h
      ]
    where
      none : (o : Option Alternative) → is_some o ≡ false → option_map maps_of o ≡ None
      none None e = refl
      none (Some a) e = cc

  pub there : (t : Tree) (f : Filed) → is_some (named t n) ≡ true → is_some (named (add t f) n) ≡ true
  there t f h = some_maps _ _ (add_present t f h) ∙ h

  pub now_there : (t : Tree) (f : Filed) → is_some (named t n) ≡ false → is_filed n f ≡ true → is_some (named (add t f) n) ≡ true
  now_there t f h is_it = maps_some (named (add t f) n) (add_absent t f h ∙ ap (λ b. cond b (Some (filed_maps f)) None) is_it)
    where
      maps_some : (o : Option Alternative) → option_map maps_of o ≡ Some (filed_maps f) → is_some o ≡ true
      maps_some None e = cc
      maps_some (Some a) e = refl

  pub not_there : (t : Tree) (f : Filed) → is_some (named t n) ≡ false → is_filed n f ≡ false → is_some (named (add t f) n) ≡ false
  not_there t f h not_it = maps_none (named (add t f) n) (add_absent t f h ∙ ap (λ b. cond b (Some (filed_maps f)) None) not_it)
    where
      maps_none : (o : Option Alternative) → option_map maps_of o ≡ None → is_some o ≡ false
      maps_none None e = refl
      maps_none (Some a) e = cc

  grown_present : (t : Tree) (fs : List Filed) → is_some (named t n) ≡ true → option_map maps_of (named (with_filed t fs) n) ≡ option_map maps_of (named t n)
  grown_present t [] h = refl
  grown_present t (f ∷ fs) h = grown_present (add t f) fs (there t f h) ∙ add_present t f h

  -- the maps of an alternative are those of the first entry that is it
  pub grown_named : (t : Tree) (fs : List Filed) → is_some (named t n) ≡ false → option_map maps_of (named (with_filed t fs) n) ≡ option_map filed_maps (find (is_filed n) fs)
  grown_named t [] h = add_nothing (named t n) h
    where
      add_nothing : (o : Option Alternative) → is_some o ≡ false → option_map maps_of o ≡ None
      add_nothing None e = refl
      add_nothing (Some a) e = cc
  grown_named t (f ∷ fs) h =
      elim (is_filed n f) as (λ b. is_filed n f ≡ b → option_map maps_of (named (with_filed (add t f) fs) n) ≡ option_map filed_maps (cond b (Some f) (find (is_filed n) fs))) [
        | true ↦ λ is. grown_present (add t f) fs (now_there t f h is) ∙ add_absent t f h ∙ ap (λ b. cond b (Some (filed_maps f)) None) is
        | false ↦ λ is. grown_named (add t f) fs (not_there t f h is)
      ] refl

  module _ (g h : Map → Map) where
    add_commute : (t : Tree) (f : Filed) → is_some (named t n) ≡ true → add (changed t n (with_maps g h)) f ≡ changed (add t f) n (with_maps g h)
    add_commute t f is_there =
        elim (is_alternative f.kind) as (λ b. cond b (changed t n (with_maps g h) ++ bare f ∷ []) (changed (changed t n (with_maps g h)) (unwrap_or f.owner []) (with_saved (saved_of f))) ≡ changed (cond b (t ++ bare f ∷ []) (changed t (unwrap_or f.owner []) (with_saved (saved_of f)))) n (with_maps g h)) [
          | true ↦ sym (changed_front n t (bare f ∷ []) (with_maps g h) is_there)
          | false ↦ commute n t (unwrap_or f.owner []) (saved_of f) g h
        ]

    grown_commute : (t : Tree) (fs : List Filed) → is_some (named t n) ≡ true → with_filed (changed t n (with_maps g h)) fs ≡ changed (with_filed t fs) n (with_maps g h)
    grown_commute t [] is_there = refl
    grown_commute t (f ∷ fs) is_there = ap (λ t. with_filed t fs) (add_commute t f is_there) ∙ grown_commute (add t f) fs (there t f is_there)

    -- the first entry of the name, where it is added to a tree without one, with other maps
    add_changed : (t : Tree) (f : Filed) → is_some (named t n) ≡ false → is_filed n f ≡ true → add t (refiled_both g h f) ≡ changed (add t f) n (with_maps g h)
    add_changed t f none is_it =
        elim (is_alternative f.kind) as (λ b. b && bytes_eq f.name n ≡ true → cond b (t ++ bare (refiled_both g h f) ∷ []) (changed t (unwrap_or f.owner []) (with_saved (saved_of (refiled_both g h f)))) ≡ changed (cond b (t ++ bare f ∷ []) (changed t (unwrap_or f.owner []) (with_saved (saved_of f)))) n (with_maps g h)) [
          | true ↦ λ is. sym (changed_back n t (bare f ∷ []) (with_maps g h) none ∙ ap (λ b. t ++ cond b (with_maps g h (bare f) ∷ []) (bare f ∷ [])) is)
          | false ↦ λ is. cc
        ] is_it

    -- other maps of the first entry of the name are other maps of that alternative
    pub grown_turned : (t : Tree) (fs : List Filed) → is_some (named t n) ≡ false → with_filed t (change_first (is_filed n) (refiled_both g h) fs) ≡ changed (with_filed t fs) n (with_maps g h)
    grown_turned t [] none = sym (absent t none)
      where
        absent : (t : Tree) → is_some (named t n) ≡ false → changed t n (with_maps g h) ≡ t
        absent [] none = refl
        absent (a ∷ t) none =
            elim (bytes_eq a.name n) as (λ b. is_some (cond b (Some a) (named t n)) ≡ false → cond b (with_maps g h a ∷ t) (a ∷ changed t n (with_maps g h)) ≡ a ∷ t) [
              | true ↦ λ none. cc
              | false ↦ λ none. ap (λ v. a ∷ v) (absent t none)
            ] none
    grown_turned t (f ∷ fs) none =
        elim (is_filed n f) as (λ b. is_filed n f ≡ b → with_filed t (cond b (refiled_both g h f ∷ fs) (f ∷ change_first (is_filed n) (refiled_both g h) fs)) ≡ changed (with_filed (add t f) fs) n (with_maps g h)) [
          | true ↦ λ is. ap (λ t. with_filed t fs) (add_changed t f none is) ∙ grown_commute (add t f) fs (now_there t f none is)
          | false ↦ λ is. grown_turned (add t f) fs (not_there t f none is)
        ] refl

  -- other records of the first entry of the name are other records of that alternative
  pub grown_changed : (g : Map → Map) (t : Tree) (fs : List Filed) → is_some (named t n) ≡ false → with_filed t (change_first (is_filed n) (refiled g) fs) ≡ changed (with_filed t fs) n (recurrent g)
  grown_changed g t fs absent = grown_turned g (λ b. b) t fs absent
