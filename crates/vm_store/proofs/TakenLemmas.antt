-- Entries taken out of those that give a tree: a checkpoint, or an alternative with its checkpoints.
use Rattle.std.proofs.Common.{◌≡◌, ℕ, Bool, true, false, not, ◌&&◌, ◌||◌, cond, List, [], ◌∷◌, ◌++◌, map, filter, find, Option, Some, None, is_some, unwrap_or, option_map, refl, sym, ap, ◌∙◌}
use Rattle.std.specs.Option.{option_eq}
use Rattle.std.specs.Str.{bytes_eq}
use Rattle.std.proofs.lemmas.Slice.Eq.{bytes_eq-Decides}
use Rattle.vm_types.specs.Firsts.{without_first}
use Rattle.vm_types.specs.Tree.{Tree, Alternative, Saved, named, saved_as, changed}
use Rattle.vm_block.specs.Slot.{is_alternative}
use Rattle.vm_store.specs.Filed.{Filed, saved_of, bare, with_saved, add, with_filed}
use Rattle.vm_store.proofs.FiledLemmas.{is_filed, there, now_there, not_there, changed_front}
use Rattle.vm_store.proofs.GrownLemmas.{is_filed_under, MayBeAdded, InOrder, not_eq, some_is, not_under, under_owner, named_add, bare_added}

-- whether it is the checkpoint of this name of the alternative
abbrev pub is_filed_saved : List ℕ → List ℕ → Filed → Bool
is_filed_saved n m f = is_filed_under n f && bytes_eq f.name m

-- whether it is neither the alternative of this name nor one of its checkpoints
abbrev pub is_filed_apart : List ℕ → Filed → Bool
is_filed_apart n f = not (is_filed n f || is_filed_under n f)

-- the alternative without the checkpoint of this name
abbrev pub unsaved : List ℕ → Alternative → Alternative
unsaved m a = record a { saved = without_first (λ c. bytes_eq c.name m) a.saved }

-- a checkpoint that an alternative has is one among the entries
pub saved_found : (n m : List ℕ) (fs : List Filed) → find (λ (c : Saved). bytes_eq c.name m) (map saved_of (filter (is_filed_under n) fs)) ≡ option_map saved_of (find (is_filed_saved n m) fs)
saved_found n m [] = refl
saved_found n m (f ∷ fs) = elim (is_filed_under n f) as (λ b. find (λ (c : Saved). bytes_eq c.name m) (map saved_of (cond b (f ∷ filter (is_filed_under n) fs) (filter (is_filed_under n) fs))) ≡ option_map saved_of (cond (b && bytes_eq f.name m) (Some f) (find (is_filed_saved n m) fs))) [
  | true ↦ elim (bytes_eq f.name m) as (λ b. cond b (Some (saved_of f)) (find (λ (c : Saved). bytes_eq c.name m) (map saved_of (filter (is_filed_under n) fs))) ≡ option_map saved_of (cond b (Some f) (find (is_filed_saved n m) fs))) [
    | true ↦ refl
    | false ↦ saved_found n m fs
  ]
  | false ↦ saved_found n m fs
]

-- ---- an alternative with its checkpoints

module _ (n : List ℕ) where
  abbrev cut : Tree → Tree
  cut t = without_first (λ a. bytes_eq a.name n) t

  cut_absent : (t : Tree) → is_some (named t n) ≡ false → cut t ≡ t
  cut_absent [] h = refl
  cut_absent (a ∷ t) h = elim (bytes_eq a.name n) as (λ b. is_some (cond b (Some a) (named t n)) ≡ false → cond b t (a ∷ cut t) ≡ a ∷ t) [
    | true ↦ λ h. cc
    | false ↦ λ h. ap (λ v. a ∷ v) (cut_absent t h)
  ] h

  cut_front : (t u : Tree) → is_some (named t n) ≡ true → cut (t ++ u) ≡ cut t ++ u
  cut_front [] u h = cc
  cut_front (a ∷ t) u h = elim (bytes_eq a.name n) as (λ b. is_some (cond b (Some a) (named t n)) ≡ true → cond b (t ++ u) (a ∷ cut (t ++ u)) ≡ cond b t (a ∷ cut t) ++ u) [
    | true ↦ λ h. refl
    | false ↦ λ h. ap (λ v. a ∷ v) (cut_front t u h)
  ] h

  cut_back : (t : Tree) (a : Alternative) → is_some (named t n) ≡ false → bytes_eq a.name n ≡ true → cut (t ++ a ∷ []) ≡ t
  cut_back [] a h is = ap (λ b. cond b [] (a ∷ [])) is
  cut_back (b ∷ t) a h is = elim (bytes_eq b.name n) as (λ x. is_some (cond x (Some b) (named t n)) ≡ false → cond x (t ++ a ∷ []) (b ∷ cut (t ++ a ∷ [])) ≡ b ∷ t) [
    | true ↦ λ h. cc
    | false ↦ λ h. ap (λ v. b ∷ v) (cut_back t a h is)
  ] h

  -- a checkpoint goes with its alternative, and one of another stays
  cut_saved : (t : Tree) (o : List ℕ) (c : Saved) → cut (changed t o (with_saved c)) ≡ cond (bytes_eq o n) (cut t) (changed (cut t) o (with_saved c))
  cut_saved [] o c = let none : Tree = [] in elim (bytes_eq o n) as (λ b. none ≡ cond b none none) [
    | true ↦ refl
    | false ↦ refl
  ]
  cut_saved (a ∷ t) o c =
      elim (bytes_eq a.name n) as (λ b. bytes_eq a.name n ≡ b → cut (changed (a ∷ t) o (with_saved c)) ≡ cond (bytes_eq o n) (cond b t (a ∷ cut t)) (changed (cond b t (a ∷ cut t)) o (with_saved c))) [
        | true ↦ λ is. elim (bytes_eq a.name o) as (λ b. bytes_eq a.name o ≡ b → cut (cond b (with_saved c a ∷ t) (a ∷ changed t o (with_saved c))) ≡ cond (bytes_eq o n) t (changed t o (with_saved c))) [
          | true ↦ λ owner.
              let same : bytes_eq o n ≡ true = ap (λ k. bytes_eq k n) (sym ((bytes_eq-Decides a.name o).0 owner)) ∙ is in
              ap (λ b. cond b t (with_saved c a ∷ cut t)) is ∙ sym (ap (λ b. cond b t (changed t o (with_saved c))) same)
          | false ↦ λ owner.
              let apart : bytes_eq o n ≡ false = not_eq o n (λ same. cc (owner, (bytes_eq-Decides a.name o).1 ((bytes_eq-Decides a.name n).0 is ∙ sym same))) in
              ap (λ b. cond b (changed t o (with_saved c)) (a ∷ cut (changed t o (with_saved c)))) is ∙ sym (ap (λ b. cond b t (changed t o (with_saved c))) apart)
        ] refl
        | false ↦ λ is. elim (bytes_eq a.name o) as (λ b. bytes_eq a.name o ≡ b → cut (cond b (with_saved c a ∷ t) (a ∷ changed t o (with_saved c))) ≡ cond (bytes_eq o n) (a ∷ cut t) (cond b (with_saved c a ∷ cut t) (a ∷ changed (cut t) o (with_saved c)))) [
          | true ↦ λ owner.
              let apart : bytes_eq o n ≡ false = ap (λ k. bytes_eq k n) (sym ((bytes_eq-Decides a.name o).0 owner)) ∙ is in
              ap (λ b. cond b t (with_saved c a ∷ cut t)) is ∙ sym (ap (λ b. cond b (a ∷ cut t) (with_saved c a ∷ cut t)) apart)
          | false ↦ λ owner.
              ap (λ b. cond b (changed t o (with_saved c)) (a ∷ cut (changed t o (with_saved c)))) is ∙ ap (λ v. a ∷ v) (cut_saved t o c)
              ∙ elim (bytes_eq o n) as (λ b. a ∷ cond b (cut t) (changed (cut t) o (with_saved c)) ≡ cond b (a ∷ cut t) (a ∷ changed (cut t) o (with_saved c))) [
                | true ↦ refl
                | false ↦ refl
              ]
        ] refl
      ] refl

  -- an entry that may be added to a tree with the alternative is not that alternative
  new_name : (t : Tree) (f : Filed) → MayBeAdded t f → is_some (named t n) ≡ true → is_filed n f ≡ false
  new_name t f may h = elim (is_alternative f.kind) as (λ b. is_alternative f.kind ≡ b → (b && bytes_eq f.name n) ≡ false) [
    | true ↦ λ is. not_eq f.name n (λ same. let there : is_some (named t f.name) ≡ true = ap (λ k. is_some (named t k)) same ∙ h in cc (there, may.new is))
    | false ↦ λ is. refl
  ] refl

  -- one entry more, and the alternative taken out
  cut_add : (t : Tree) (f : Filed) → MayBeAdded t f → is_some (named t n) ≡ true → cut (add t f) ≡ cond (is_filed_under n f) (cut t) (add (cut t) f)
  cut_add t f may h = elim (is_alternative f.kind) as (λ b. is_alternative f.kind ≡ b → cut (cond b (t ++ bare f ∷ []) (changed t (unwrap_or f.owner []) (with_saved (saved_of f)))) ≡ cond (is_filed_under n f) (cut t) (cond b (cut t ++ bare f ∷ []) (changed (cut t) (unwrap_or f.owner []) (with_saved (saved_of f))))) [
    | true ↦ λ is. cut_front t (bare f ∷ []) h ∙ sym (ap (λ b. cond (not b && option_eq bytes_eq f.owner (Some n)) (cut t) (cut t ++ bare f ∷ [])) is)
    | false ↦ λ is. cut_saved t (unwrap_or f.owner []) (saved_of f) ∙ sym (ap (λ b. cond b (cut t) (changed (cut t) (unwrap_or f.owner []) (with_saved (saved_of f)))) (under_owner n t f may is))
  ] refl

  kept_if : (f : Filed) (fs : List Filed) (a b : Bool) → is_filed n f ≡ a → is_filed_under n f ≡ b → filter (is_filed_apart n) (f ∷ fs) ≡ cond (a || b) (filter (is_filed_apart n) fs) (f ∷ filter (is_filed_apart n) fs)
  kept_if f fs a b is under = ap (λ x. cond (not (x || is_filed_under n f)) (f ∷ filter (is_filed_apart n) fs) (filter (is_filed_apart n) fs)) is ∙ ap (λ y. cond (not (a || y)) (f ∷ filter (is_filed_apart n) fs) (filter (is_filed_apart n) fs)) under ∙ turned a b
    where
      turned : (a b : Bool) → cond (not (a || b)) (f ∷ filter (is_filed_apart n) fs) (filter (is_filed_apart n) fs) ≡ cond (a || b) (filter (is_filed_apart n) fs) (f ∷ filter (is_filed_apart n) fs)
      turned true b = refl
      turned false true = refl
      turned false false = refl

  cut_behind : (t : Tree) (fs : List Filed) → InOrder t fs → is_some (named t n) ≡ true → with_filed (cut t) (filter (is_filed_apart n) fs) ≡ cut (with_filed t fs)
  cut_behind t [] h is = refl
  cut_behind t (f ∷ fs) h is =
      elim (is_filed_under n f) as (λ b. is_filed_under n f ≡ b → with_filed (cut t) (filter (is_filed_apart n) (f ∷ fs)) ≡ cut (with_filed (add t f) fs)) [
        | true ↦ λ under.
            ap (with_filed (cut t)) (kept_if f fs false true (new_name t f h.0 is) under)
            ∙ ap (λ u. with_filed u (filter (is_filed_apart n) fs)) (sym (cut_add t f h.0 is ∙ ap (λ b. cond b (cut t) (add (cut t) f)) under))
            ∙ cut_behind (add t f) fs h.1 (there n t f is)
        | false ↦ λ under.
            ap (with_filed (cut t)) (kept_if f fs false false (new_name t f h.0 is) under)
            ∙ ap (λ u. with_filed u (filter (is_filed_apart n) fs)) (sym (cut_add t f h.0 is ∙ ap (λ b. cond b (cut t) (add (cut t) f)) under))
            ∙ cut_behind (add t f) fs h.1 (there n t f is)
      ] refl

  -- without the entries of an alternative and of its checkpoints the tree is without the alternative
  pub grown_apart : (t : Tree) (fs : List Filed) → InOrder t fs → is_some (named t n) ≡ false → with_filed t (filter (is_filed_apart n) fs) ≡ without_first (λ a. bytes_eq a.name n) (with_filed t fs)
  grown_apart t [] h absent = sym (cut_absent t absent)
  grown_apart t (f ∷ fs) h absent =
      let under = not_under n t f h.0 absent in
      elim (is_filed n f) as (λ b. is_filed n f ≡ b → with_filed t (filter (is_filed_apart n) (f ∷ fs)) ≡ cut (with_filed (add t f) fs)) [
        | true ↦ λ is.
            ap (with_filed t) (kept_if f fs true false is under)
            ∙ ap (λ u. with_filed u (filter (is_filed_apart n) fs)) (sym (brought t f absent is))
            ∙ cut_behind (add t f) fs h.1 (present t f absent is)
        | false ↦ λ is. ap (with_filed t) (kept_if f fs false false is under) ∙ grown_apart (add t f) fs h.1 (not_there n t f absent is)
      ] refl
    where
      brought : (t : Tree) (f : Filed) → is_some (named t n) ≡ false → is_filed n f ≡ true → cut (add t f) ≡ t
      brought t f absent is = elim (is_alternative f.kind) as (λ b. (b && bytes_eq f.name n) ≡ true → cut (cond b (t ++ bare f ∷ []) (changed t (unwrap_or f.owner []) (with_saved (saved_of f)))) ≡ t) [
        | true ↦ λ is. cut_back t (bare f) absent is
        | false ↦ λ is. cc
      ] is

      present : (t : Tree) (f : Filed) → is_some (named t n) ≡ false → is_filed n f ≡ true → is_some (named (add t f) n) ≡ true
      present t f absent is = now_there n t f absent is

-- ---- a checkpoint

some_same : {X : Type 0} {a b : X} → Some a ≡ Some b → a ≡ b
some_same h = cc

and_first : (a b : Bool) → (a && b) ≡ true → a ≡ true
and_first true b h = refl
and_first false b h = cc

and_second : (a b : Bool) → (a && b) ≡ true → b ≡ true
and_second true b h = h
and_second false b h = cc

-- an alternative whose checkpoint may be added is there
owner_there : (n : List ℕ) (t : Tree) (f : Filed) → MayBeAdded t f → is_filed_under n f ≡ true → is_some (named t n) ≡ true
owner_there n t f may under = elim (is_some (named t n)) as (λ b. is_some (named t n) ≡ b → b ≡ true) [
  | true ↦ λ is. refl
  | false ↦ λ is. let apart = not_under n t f may is in cc
] refl

-- and its entry adds the checkpoint to it
saved_add : (n : List ℕ) (t : Tree) (f : Filed) → MayBeAdded t f → is_filed_under n f ≡ true → add t f ≡ changed t n (with_saved (saved_of f))
saved_add n t f may under = elim (is_alternative f.kind) as (λ b. is_alternative f.kind ≡ b → cond b (t ++ bare f ∷ []) (changed t (unwrap_or f.owner []) (with_saved (saved_of f))) ≡ changed t n (with_saved (saved_of f))) [
  | true ↦ λ is. let none : is_filed_under n f ≡ false = ap (λ b. not b && option_eq bytes_eq f.owner (Some n)) is in cc
  | false ↦ λ is. ap (λ o. changed t o (with_saved (saved_of f))) ((bytes_eq-Decides (unwrap_or f.owner []) n).0 (sym (under_owner n t f may is) ∙ under))
] refl

module _ (m : List ℕ) where
  abbrev is_m : Saved → Bool
  is_m c = bytes_eq c.name m

  -- a checkpoint that is there is left out where it stands
  left_front : (cs : List Saved) (c : Saved) → is_some (find is_m cs) ≡ true → without_first is_m (cs ++ c ∷ []) ≡ without_first is_m cs ++ c ∷ []
  left_front [] c h = cc
  left_front (d ∷ cs) c h = elim (bytes_eq d.name m) as (λ b. is_some (cond b (Some d) (find is_m cs)) ≡ true → cond b (cs ++ c ∷ []) (d ∷ without_first is_m (cs ++ c ∷ [])) ≡ cond b cs (d ∷ without_first is_m cs) ++ c ∷ []) [
    | true ↦ λ h. refl
    | false ↦ λ h. ap (λ v. d ∷ v) (left_front cs c h)
  ] h

  -- and the last one where none before it is it
  left_back : (cs : List Saved) (c : Saved) → is_some (find is_m cs) ≡ false → is_m c ≡ true → without_first is_m (cs ++ c ∷ []) ≡ cs
  left_back [] c h is = ap (λ b. cond b [] (c ∷ [])) is
  left_back (d ∷ cs) c h is = elim (bytes_eq d.name m) as (λ b. is_some (cond b (Some d) (find is_m cs)) ≡ false → cond b (cs ++ c ∷ []) (d ∷ without_first is_m (cs ++ c ∷ [])) ≡ d ∷ cs) [
    | true ↦ λ h. cc
    | false ↦ λ h. ap (λ v. d ∷ v) (left_back cs c h is)
  ] h

  found_more : (cs : List Saved) (c : Saved) → is_some (find is_m (cs ++ c ∷ [])) ≡ (is_some (find is_m cs) || is_m c)
  found_more [] c = elim (bytes_eq c.name m) as (λ b. is_some (cond b (Some c) None) ≡ b) [
    | true ↦ refl
    | false ↦ refl
  ]
  found_more (d ∷ cs) c = elim (bytes_eq d.name m) as (λ b. is_some (cond b (Some d) (find is_m (cs ++ c ∷ []))) ≡ (is_some (cond b (Some d) (find is_m cs)) || is_m c)) [
    | true ↦ refl
    | false ↦ found_more cs c
  ]

  or_true : (a b : Bool) → a ≡ true → (a || b) ≡ true
  or_true true b h = refl
  or_true false b h = cc

  or_last : (a b : Bool) → b ≡ true → (a || b) ≡ true
  or_last true b h = refl
  or_last false b h = h

  neither : (a b : Bool) → a ≡ false → b ≡ false → (a || b) ≡ false
  neither true b h k = cc
  neither false b h k = k

  module _ (n : List ℕ) where
    -- one checkpoint is left out and another is added, in either order
    unsaved_saved : (t : Tree) (o : List ℕ) (c : Saved) (a : Alternative) → named t n ≡ Some a → is_some (saved_as a m) ≡ true
        → changed (changed t n (unsaved m)) o (with_saved c) ≡ changed (changed t o (with_saved c)) n (unsaved m)
    unsaved_saved [] o c a is has = cc
    unsaved_saved (b ∷ t) o c a is has =
        elim (bytes_eq b.name n) as (λ x. bytes_eq b.name n ≡ x → cond x (Some b) (named t n) ≡ Some a → changed (cond x (unsaved m b ∷ t) (b ∷ changed t n (unsaved m))) o (with_saved c) ≡ changed (changed (b ∷ t) o (with_saved c)) n (unsaved m)) [
          | true ↦ λ it is.
              let same : b ≡ a = cc in
              let here : is_some (saved_as b m) ≡ true = ap (λ (d : Alternative). is_some (saved_as d m)) same ∙ has in
              elim (bytes_eq b.name o) as (λ x. cond x (with_saved c (unsaved m b) ∷ t) (unsaved m b ∷ changed t o (with_saved c)) ≡ changed (cond x (with_saved c b ∷ t) (b ∷ changed t o (with_saved c))) n (unsaved m)) [
                | true ↦
                    ap (λ (cs : List Saved). record b { saved = cs } ∷ t) (sym (left_front b.saved c here))
                    ∙ sym (ap (λ x. cond x (unsaved m (with_saved c b) ∷ t) (with_saved c b ∷ changed t n (unsaved m))) it)
                | false ↦ sym (ap (λ x. cond x (unsaved m b ∷ changed t o (with_saved c)) (b ∷ changed (changed t o (with_saved c)) n (unsaved m))) it)
              ]
          | false ↦ λ it is.
              elim (bytes_eq b.name o) as (λ x. cond x (with_saved c b ∷ changed t n (unsaved m)) (b ∷ changed (changed t n (unsaved m)) o (with_saved c)) ≡ changed (cond x (with_saved c b ∷ t) (b ∷ changed t o (with_saved c))) n (unsaved m)) [
                | true ↦ sym (ap (λ x. cond x (unsaved m (with_saved c b) ∷ t) (with_saved c b ∷ changed t n (unsaved m))) it)
                | false ↦ ap (λ v. b ∷ v) (unsaved_saved t o c a is has) ∙ sym (ap (λ x. cond x (unsaved m b ∷ changed t o (with_saved c)) (b ∷ changed (changed t o (with_saved c)) n (unsaved m))) it)
              ]
        ] refl is

    -- a checkpoint is added and left out again
    undone : (t : Tree) (c : Saved) (a : Alternative) → named t n ≡ Some a → is_some (saved_as a m) ≡ false → is_m c ≡ true → changed (changed t n (with_saved c)) n (unsaved m) ≡ t
    undone [] c a is has it = cc
    undone (b ∷ t) c a is has it =
        elim (bytes_eq b.name n) as (λ x. bytes_eq b.name n ≡ x → cond x (Some b) (named t n) ≡ Some a → changed (cond x (with_saved c b ∷ t) (b ∷ changed t n (with_saved c))) n (unsaved m) ≡ b ∷ t) [
          | true ↦ λ here is.
              let same : b ≡ a = cc in
              let lacks : is_some (saved_as b m) ≡ false = ap (λ (d : Alternative). is_some (saved_as d m)) same ∙ has in
              ap (λ x. cond x (unsaved m (with_saved c b) ∷ t) (with_saved c b ∷ changed t n (unsaved m))) here ∙ ap (λ (cs : List Saved). record b { saved = cs } ∷ t) (left_back b.saved c lacks it)
          | false ↦ λ here is.
              ap (λ x. cond x (unsaved m b ∷ changed t n (with_saved c)) (b ∷ changed (changed t n (with_saved c)) n (unsaved m))) here ∙ ap (λ v. b ∷ v) (undone t c a is has it)
        ] refl is

    unsaved_add : (t : Tree) (f : Filed) (a : Alternative) → named t n ≡ Some a → is_some (saved_as a m) ≡ true → add (changed t n (unsaved m)) f ≡ changed (add t f) n (unsaved m)
    unsaved_add t f a is has = elim (is_alternative f.kind) as (λ b. cond b (changed t n (unsaved m) ++ bare f ∷ []) (changed (changed t n (unsaved m)) (unwrap_or f.owner []) (with_saved (saved_of f))) ≡ changed (cond b (t ++ bare f ∷ []) (changed t (unwrap_or f.owner []) (with_saved (saved_of f)))) n (unsaved m)) [
      | true ↦ sym (changed_front n t (bare f ∷ []) (unsaved m) (ap is_some is))
      | false ↦ unsaved_saved t (unwrap_or f.owner []) (saved_of f) a is has
    ]

    still_saved : (f : Filed) (a : Alternative) (b : Bool) → is_some (saved_as a m) ≡ true → is_some (saved_as (cond b (with_saved (saved_of f) a) a) m) ≡ true
    still_saved f a true has = found_more a.saved (saved_of f) ∙ or_true (is_some (saved_as a m)) (is_m (saved_of f)) has
    still_saved f a false has = has

    unsaved_grown : (t : Tree) (fs : List Filed) (a : Alternative) → InOrder t fs → named t n ≡ Some a → is_some (saved_as a m) ≡ true → with_filed (changed t n (unsaved m)) fs ≡ changed (with_filed t fs) n (unsaved m)
    unsaved_grown t [] a h is has = refl
    unsaved_grown t (f ∷ fs) a h is has =
        ap (λ u. with_filed u fs) (unsaved_add t f a is has)
        ∙ unsaved_grown (add t f) fs (cond (is_filed_under n f) (with_saved (saved_of f) a) a) h.1 (named_add n t f a h.0 is) (still_saved f a (is_filed_under n f) has)

    -- the alternative, if it is there, lacks the checkpoint
    abbrev Lacks : Tree → Type 0
    Lacks t = (a : Alternative) → named t n ≡ Some a → is_some (saved_as a m) ≡ false

    still_lacks : (t : Tree) (f : Filed) → MayBeAdded t f → Lacks t → is_filed_saved n m f ≡ false → Lacks (add t f)
    still_lacks t f may lacks other = by_old (named t n) refl
      where
        lacking : (a : Alternative) (b : Bool) → is_some (saved_as a m) ≡ false → (b && bytes_eq f.name m) ≡ false → is_some (saved_as (cond b (with_saved (saved_of f) a) a) m) ≡ false
        lacking a true none apart = found_more a.saved (saved_of f) ∙ neither (is_some (saved_as a m)) (bytes_eq f.name m) none apart
        lacking a false none apart = none

        -- an alternative that was not there comes without checkpoints
        brought : is_some (named t n) ≡ false → Lacks (add t f)
        brought absent a = elim (is_filed n f) as (λ b. is_filed n f ≡ b → named (add t f) n ≡ Some a → is_some (saved_as a m) ≡ false) [
          | true ↦ λ is now. let same : bare f ≡ a = some_same (sym (bare_added n t f absent is) ∙ now) in ap (λ (d : Alternative). is_some (saved_as d m)) (sym same)
          | false ↦ λ is now. let gone = not_there n t f absent is in let here : is_some (named (add t f) n) ≡ true = ap is_some now in cc
        ] refl

        by_old : (o : Option Alternative) → named t n ≡ o → Lacks (add t f)
        by_old None is = brought (ap is_some is)
        by_old (Some a) is = λ b now.
            let same : cond (is_filed_under n f) (with_saved (saved_of f) a) a ≡ b = some_same (sym (named_add n t f a may is) ∙ now) in
            ap (λ (d : Alternative). is_some (saved_as d m)) (sym same) ∙ lacking a (is_filed_under n f) (lacks a is) other

    -- without the entry of a checkpoint the alternative is without it
    pub grown_unsaved : (t : Tree) (fs : List Filed) → InOrder t fs → Lacks t → is_some (find (is_filed_saved n m) fs) ≡ true → with_filed t (without_first (is_filed_saved n m) fs) ≡ changed (with_filed t fs) n (unsaved m)
    grown_unsaved t [] h lacks some = cc
    grown_unsaved t (f ∷ fs) h lacks some =
        elim (is_filed_saved n m f) as (λ b. is_filed_saved n m f ≡ b → is_some (cond b (Some f) (find (is_filed_saved n m) fs)) ≡ true → with_filed t (cond b fs (f ∷ without_first (is_filed_saved n m) fs)) ≡ changed (with_filed (add t f) fs) n (unsaved m)) [
          | true ↦ λ it some.
              let under : is_filed_under n f ≡ true = and_first (is_filed_under n f) (bytes_eq f.name m) it in
              let name : bytes_eq f.name m ≡ true = and_second (is_filed_under n f) (bytes_eq f.name m) it in
              let present = some_is (named t n) (owner_there n t f h.0 under) in
              let a = present.0 in
              let now : named (add t f) n ≡ Some (with_saved (saved_of f) a) = named_add n t f a h.0 present.1 ∙ ap (λ b. Some (cond b (with_saved (saved_of f) a) a)) under in
              let has : is_some (saved_as (with_saved (saved_of f) a) m) ≡ true = found_more a.saved (saved_of f) ∙ or_last (is_some (saved_as a m)) (bytes_eq f.name m) name in
              ap (λ u. with_filed u fs) (sym (ap (λ u. changed u n (unsaved m)) (saved_add n t f h.0 under) ∙ undone t (saved_of f) a present.1 (lacks a present.1) name))
              ∙ unsaved_grown (add t f) fs (with_saved (saved_of f) a) h.1 now has
          | false ↦ λ other some. grown_unsaved (add t f) fs h.1 (still_lacks t f h.0 lacks other) some
        ] refl some
