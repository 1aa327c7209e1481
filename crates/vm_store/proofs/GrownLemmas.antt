-- What stands in the tree that entries give: its names, its alternatives with their checkpoints, and how many there are.
use Rattle.std.proofs.Common.{◌≡◌, ℕ, ◌+◌, Bool, true, false, not, ◌&&◌, ◌||◌, cond, List, [], ◌∷◌, ◌++◌, map, filter, find, length, Option, Some, None, is_some, unwrap_or, refl, sym, ap, ◌∙◌, subst, arith, append_assoc, append-nil}
use Rattle.std.specs.List.{list_any}
use Rattle.std.specs.Option.{option_eq}
use Rattle.std.specs.Str.{bytes_eq}
use Rattle.std.proofs.lemmas.List.{map-append}
use Rattle.std.proofs.lemmas.List.Sums.{sum_by-append, sum_by-cons}
use Rattle.std.proofs.lemmas.Slice.Eq.{bytes_eq-Decides}
use Rattle.vm_types.specs.Tree.{Tree, Alternative, Saved, named, changed, has_children, entry_count}
use Rattle.vm_types.specs.Shape.{shape}
use Rattle.vm_types.proofs.ShapeLemmas.{shape_changed}
use Rattle.vm_block.specs.Slot.{is_alternative}
use Rattle.vm_store.specs.Filed.{Filed, saved_of, bare, with_saved, add, with_filed}
use Rattle.vm_store.proofs.FiledLemmas.{is_filed, there, now_there, not_there, named_front, named_back}

-- whether it is a checkpoint of the alternative of this name
abbrev pub is_filed_under : List ℕ → Filed → Bool
is_filed_under n f = not (is_alternative f.kind) && option_eq bytes_eq f.owner (Some n)

-- the entry may be added to the tree: an alternative brings a new name, and a checkpoint has its owner there
pub record MayBeAdded (t : Tree) (f : Filed) : Type 0 where
  pub new : is_alternative f.kind ≡ true → is_some (named t f.name) ≡ false
  pub owned : is_alternative f.kind ≡ false → (o : List ℕ) × (f.owner ≡ Some o) × (is_some (named t o) ≡ true)

-- the entries may be added, one after another
abbrev pub InOrder : Tree → List Filed → Type 0
InOrder t [] = Unit {0}
InOrder t (f ∷ fs) = MayBeAdded t f × InOrder (add t f) fs

pub not_eq : (a b : List ℕ) → (a ≡ b → ⊥) → bytes_eq a b ≡ false
not_eq a b apart = elim (bytes_eq a b) as (λ x. bytes_eq a b ≡ x → x ≡ false) [
  | true ↦ λ is. absurd (apart ((bytes_eq-Decides a b).0 is))
  | false ↦ λ is. refl
] refl

-- ---- names

module _ (n : List ℕ) where
  there_add : (t : Tree) (f : Filed) → is_some (named (add t f) n) ≡ (is_some (named t n) || is_filed n f)
  there_add t f = elim (is_some (named t n)) as (λ b. is_some (named t n) ≡ b → is_some (named (add t f) n) ≡ (b || is_filed n f)) [
    | true ↦ λ is. there n t f is
    | false ↦ λ is. elim (is_filed n f) as (λ b. is_filed n f ≡ b → is_some (named (add t f) n) ≡ b) [
      | true ↦ λ is_it. now_there n t f is is_it
      | false ↦ λ is_it. not_there n t f is is_it
    ] refl
  ] refl

  -- an alternative is there where it was, or where an entry is it
  pub there_grown : (t : Tree) (fs : List Filed) → is_some (named (with_filed t fs) n) ≡ (is_some (named t n) || list_any (is_filed n) fs)
  there_grown t [] = or_none (is_some (named t n))
    where
      or_none : (b : Bool) → b ≡ (b || false)
      or_none true = refl
      or_none false = refl
  there_grown t (f ∷ fs) = there_grown (add t f) fs ∙ ap (λ b. b || list_any (is_filed n) fs) (there_add t f) ∙ or_or (is_some (named t n)) (is_filed n f) (list_any (is_filed n) fs)
    where
      or_or : (a b c : Bool) → ((a || b) || c) ≡ (a || (b || c))
      or_or true b c = refl
      or_or false b c = refl

-- names and parents of the alternatives among entries
abbrev pub filed_shape : List Filed → List (List ℕ × Option (List ℕ))
filed_shape fs = map (λ f. (f.name, f.owner)) (filter (λ f. is_alternative f.kind) fs)

shape_saved : (t : Tree) (o : List ℕ) (c : Saved) → shape (changed t o (with_saved c)) ≡ shape t
shape_saved t o c = shape_changed t o (with_saved c) (record { name = λ x. refl; parent = λ x. refl })

pub grown_shape : (t : Tree) (fs : List Filed) → shape (with_filed t fs) ≡ shape t ++ filed_shape fs
grown_shape t [] = sym (append-nil (shape t))
grown_shape t (f ∷ fs) = grown_shape (add t f) fs ∙ elim (is_alternative f.kind) as (λ b. shape (cond b (t ++ bare f ∷ []) (changed t (unwrap_or f.owner []) (with_saved (saved_of f)))) ++ filed_shape fs ≡ shape t ++ map (λ (f : Filed). (f.name, f.owner)) (cond b (f ∷ filter (λ f. is_alternative f.kind) fs) (filter (λ f. is_alternative f.kind) fs))) [
  | true ↦ ap (λ s. s ++ filed_shape fs) (map-append (λ (a : Alternative). (a.name, a.parent)) t (bare f ∷ [])) ∙ append_assoc (shape t) ((f.name, f.owner) ∷ []) (filed_shape fs)
  | false ↦ ap (λ s. s ++ filed_shape fs) (shape_saved t (unwrap_or f.owner []) (saved_of f))
]

-- whether it is an alternative under the one of this name
abbrev pub is_filed_child : List ℕ → Filed → Bool
is_filed_child n f = is_alternative f.kind && option_eq bytes_eq f.owner (Some n)

children_of_shape : (t : Tree) (n : List ℕ) → list_any (λ (e : List ℕ × Option (List ℕ)). option_eq bytes_eq e.1 (Some n)) (shape t) ≡ has_children t n
children_of_shape [] n = refl
children_of_shape (a ∷ t) n = ap (λ b. option_eq bytes_eq a.parent (Some n) || b) (children_of_shape t n)

pub children_filed : (n : List ℕ) (fs : List Filed) → has_children (with_filed [] fs) n ≡ list_any (is_filed_child n) fs
children_filed n fs = sym (children_of_shape (with_filed [] fs) n) ∙ ap (list_any (λ (e : List ℕ × Option (List ℕ)). option_eq bytes_eq e.1 (Some n))) (grown_shape [] fs) ∙ of_entries fs
  where
    of_entries : (fs : List Filed) → list_any (λ (e : List ℕ × Option (List ℕ)). option_eq bytes_eq e.1 (Some n)) (filed_shape fs) ≡ list_any (is_filed_child n) fs
    of_entries [] = refl
    of_entries (f ∷ fs) = elim (is_alternative f.kind) as (λ b. list_any (λ (e : List ℕ × Option (List ℕ)). option_eq bytes_eq e.1 (Some n)) (map (λ (f : Filed). (f.name, f.owner)) (cond b (f ∷ filter (λ f. is_alternative f.kind) fs) (filter (λ f. is_alternative f.kind) fs))) ≡ ((b && option_eq bytes_eq f.owner (Some n)) || list_any (is_filed_child n) fs)) [
      | true ↦ ap (λ b. option_eq bytes_eq f.owner (Some n) || b) (of_entries fs)
      | false ↦ of_entries fs
    ]

-- ---- how many there are

abbrev size : Alternative → ℕ
size a = 1 + length a.saved

length_more : (cs : List Saved) (c : Saved) → length (cs ++ c ∷ []) ≡ length cs + 1
length_more [] c = omega arith
length_more (d ∷ cs) c = let more = length_more cs c in omega arith

count_saved : (t : Tree) (o : List ℕ) (c : Saved) → is_some (named t o) ≡ true → entry_count (changed t o (with_saved c)) ≡ entry_count t + 1
count_saved [] o c h = cc
count_saved (a ∷ t) o c h =
    let old : entry_count (a ∷ t) ≡ (1 + length a.saved) + entry_count t = sum_by-cons size a t in
    elim (bytes_eq a.name o) as (λ b. is_some (cond b (Some a) (named t o)) ≡ true → entry_count (cond b (with_saved c a ∷ t) (a ∷ changed t o (with_saved c))) ≡ entry_count (a ∷ t) + 1) [
      | true ↦ λ h.
          let here : entry_count (with_saved c a ∷ t) ≡ (1 + length (a.saved ++ c ∷ [])) + entry_count t = sum_by-cons size (with_saved c a) t in
          let more = length_more a.saved c in
          let counted : entry_count (with_saved c a ∷ t) ≡ entry_count (a ∷ t) + 1 = omega arith in
          counted
      | false ↦ λ h.
          let behind : entry_count (a ∷ changed t o (with_saved c)) ≡ (1 + length a.saved) + entry_count (changed t o (with_saved c)) = sum_by-cons size a (changed t o (with_saved c)) in
          let more = count_saved t o c h in
          let counted : entry_count (a ∷ changed t o (with_saved c)) ≡ entry_count (a ∷ t) + 1 = omega arith in
          counted
    ] h

count_add : (t : Tree) (f : Filed) → MayBeAdded t f → entry_count (add t f) ≡ entry_count t + 1
count_add t f may = elim (is_alternative f.kind) as (λ b. is_alternative f.kind ≡ b → entry_count (cond b (t ++ bare f ∷ []) (changed t (unwrap_or f.owner []) (with_saved (saved_of f)))) ≡ entry_count t + 1) [
  | true ↦ λ is.
      let both : entry_count (t ++ bare f ∷ []) ≡ entry_count t + entry_count (bare f ∷ []) = sum_by-append size t (bare f ∷ []) in
      let last : entry_count (bare f ∷ []) ≡ 1 = refl in
      let counted : entry_count (t ++ bare f ∷ []) ≡ entry_count t + 1 = omega arith in
      counted
  | false ↦ λ is.
      let owned = may.owned is in
      subst (λ o. entry_count (changed t (unwrap_or o []) (with_saved (saved_of f))) ≡ entry_count t + 1) (sym owned.1) (count_saved t owned.0 (saved_of f) owned.2)
] refl

pub count_grown : (t : Tree) (fs : List Filed) → InOrder t fs → entry_count (with_filed t fs) ≡ entry_count t + length fs
count_grown t [] h = omega arith
count_grown t (f ∷ fs) h = let one = count_add t f h.0 in let more = count_grown (add t f) fs h.1 in omega arith

-- ---- an alternative with its checkpoints

-- the alternative that an entry is, with the checkpoints among these entries
abbrev pub whole : List ℕ → List Filed → Filed → Alternative
whole n fs f = record { name = f.name; parent = f.owner; current = f.current; base = f.base; saved = map saved_of (filter (is_filed_under n) fs) }

-- the alternative with these checkpoints more
abbrev more_saved : List Saved → Alternative → Alternative
more_saved cs a = record a { saved = a.saved ++ cs }

pub some_is : (o : Option Alternative) → is_some o ≡ true → (a : Alternative) × (o ≡ Some a)
some_is None h = cc
some_is (Some a) h = (a, refl)

module _ (n : List ℕ) where
  -- a checkpoint more of an alternative
  named_saved : (t : Tree) (o : List ℕ) (c : Saved) (a : Alternative) → named t n ≡ Some a → named (changed t o (with_saved c)) n ≡ Some (cond (bytes_eq o n) (with_saved c a) a)
  named_saved [] o c a h = cc
  named_saved (b ∷ t) o c a h =
      elim (bytes_eq b.name n) as (λ x. bytes_eq b.name n ≡ x → cond x (Some b) (named t n) ≡ Some a → named (changed (b ∷ t) o (with_saved c)) n ≡ Some (cond (bytes_eq o n) (with_saved c a) a)) [
        | true ↦ λ is h.
            let same : b ≡ a = cc in
            let name : b.name ≡ n = (bytes_eq-Decides b.name n).0 is in
            elim (bytes_eq b.name o) as (λ x. bytes_eq b.name o ≡ x → named (cond x (with_saved c b ∷ t) (b ∷ changed t o (with_saved c))) n ≡ Some (cond (bytes_eq o n) (with_saved c a) a)) [
              | true ↦ λ owner.
                  let o_is : b.name ≡ o = (bytes_eq-Decides b.name o).0 owner in
                  let here : bytes_eq o n ≡ true = (bytes_eq-Decides o n).1 (sym o_is ∙ name) in
                  ap (λ x. cond x (Some (with_saved c b)) (named t n)) is ∙ ap (λ d. Some (with_saved c d)) same ∙ sym (ap (λ x. Some (cond x (with_saved c a) a)) here)
              | false ↦ λ owner.
                  let apart : bytes_eq o n ≡ false = not_eq o n (λ same_name. cc (owner, (bytes_eq-Decides b.name o).1 (name ∙ sym same_name))) in
                  ap (λ x. cond x (Some b) (named (changed t o (with_saved c)) n)) is ∙ ap (λ d. Some d) same ∙ sym (ap (λ x. Some (cond x (with_saved c a) a)) apart)
            ] refl
        | false ↦ λ is h.
            elim (bytes_eq b.name o) as (λ x. bytes_eq b.name o ≡ x → named (cond x (with_saved c b ∷ t) (b ∷ changed t o (with_saved c))) n ≡ Some (cond (bytes_eq o n) (with_saved c a) a)) [
              | true ↦ λ owner.
                  let o_is : b.name ≡ o = (bytes_eq-Decides b.name o).0 owner in
                  let apart : bytes_eq o n ≡ false = ap (λ m. bytes_eq m n) (sym o_is) ∙ is in
                  ap (λ x. cond x (Some (with_saved c b)) (named t n)) is ∙ h ∙ sym (ap (λ x. Some (cond x (with_saved c a) a)) apart)
              | false ↦ λ owner. ap (λ x. cond x (Some b) (named (changed t o (with_saved c)) n)) is ∙ named_saved t o c a h
            ] refl
      ] refl h

  -- whether an entry is a checkpoint of n, where it may be added
  pub under_owner : (t : Tree) (f : Filed) → MayBeAdded t f → is_alternative f.kind ≡ false → is_filed_under n f ≡ bytes_eq (unwrap_or f.owner []) n
  under_owner t f may is =
      ap (λ b. not b && option_eq bytes_eq f.owner (Some n)) is ∙ subst (λ o. option_eq bytes_eq o (Some n) ≡ bytes_eq (unwrap_or o []) n) (sym (may.owned is).1) refl

  -- an alternative that is there, with one entry more
  pub named_add : (t : Tree) (f : Filed) (a : Alternative) → MayBeAdded t f → named t n ≡ Some a → named (add t f) n ≡ Some (cond (is_filed_under n f) (with_saved (saved_of f) a) a)
  named_add t f a may h = elim (is_alternative f.kind) as (λ b. is_alternative f.kind ≡ b → named (cond b (t ++ bare f ∷ []) (changed t (unwrap_or f.owner []) (with_saved (saved_of f)))) n ≡ Some (cond (is_filed_under n f) (with_saved (saved_of f) a) a)) [
    | true ↦ λ is. named_front n t (bare f ∷ []) (ap is_some h) ∙ h ∙ sym (ap (λ b. Some (cond (not b && option_eq bytes_eq f.owner (Some n)) (with_saved (saved_of f) a) a)) is)
    | false ↦ λ is. named_saved t (unwrap_or f.owner []) (saved_of f) a h ∙ sym (ap (λ b. Some (cond b (with_saved (saved_of f) a) a)) (under_owner t f may is))
  ] refl

  -- an alternative that is there gets the checkpoints among the entries
  named_there : (t : Tree) (fs : List Filed) (a : Alternative) → InOrder t fs → named t n ≡ Some a → named (with_filed t fs) n ≡ Some (more_saved (map saved_of (filter (is_filed_under n) fs)) a)
  named_there t [] a h is = is ∙ ap (λ cs. Some (record a { saved = cs })) (sym (append-nil a.saved))
  named_there t (f ∷ fs) a h is =
      elim (is_filed_under n f) as (λ b. named (add t f) n ≡ Some (cond b (with_saved (saved_of f) a) a) → named (with_filed (add t f) fs) n ≡ Some (more_saved (map saved_of (cond b (f ∷ filter (is_filed_under n) fs) (filter (is_filed_under n) fs))) a)) [
        | true ↦ λ now. named_there (add t f) fs (with_saved (saved_of f) a) h.1 now ∙ ap (λ cs. Some (record a { saved = cs })) (append_assoc a.saved (saved_of f ∷ []) (map saved_of (filter (is_filed_under n) fs)))
        | false ↦ λ now. named_there (add t f) fs a h.1 now
      ] (named_add t f a h.0 is)

  -- a checkpoint of an alternative that is not there can't be added
  pub not_under : (t : Tree) (f : Filed) → MayBeAdded t f → is_some (named t n) ≡ false → is_filed_under n f ≡ false
  not_under t f may absent = elim (is_alternative f.kind) as (λ b. is_alternative f.kind ≡ b → (not b && option_eq bytes_eq f.owner (Some n)) ≡ false) [
    | true ↦ λ is. refl
    | false ↦ λ is.
        let owned = may.owned is in
        subst (λ o. option_eq bytes_eq o (Some n) ≡ false) (sym owned.1) (not_eq owned.0 n (λ same. let gone : is_some (named t owned.0) ≡ false = ap (λ m. is_some (named t m)) same ∙ absent in cc (owned.2, gone)))
  ] refl

  -- an alternative that an entry brings in has no checkpoint yet
  pub bare_added : (t : Tree) (g : Filed) → is_some (named t n) ≡ false → is_filed n g ≡ true → named (add t g) n ≡ Some (bare g)
  bare_added t g absent it = elim (is_alternative g.kind) as (λ b. (b && bytes_eq g.name n) ≡ true → named (cond b (t ++ bare g ∷ []) (changed t (unwrap_or g.owner []) (with_saved (saved_of g)))) n ≡ Some (bare g)) [
    | true ↦ λ it. named_back n t (bare g ∷ []) absent ∙ ap (λ b. cond b (Some (bare g)) None) it
    | false ↦ λ it. cc
  ] it

  -- an alternative that an entry brings in, with its checkpoints
  pub named_whole : (t : Tree) (fs : List Filed) (f : Filed) → InOrder t fs → is_some (named t n) ≡ false → find (is_filed n) fs ≡ Some f → named (with_filed t fs) n ≡ Some (whole n fs f)
  named_whole t [] f h absent is = cc
  named_whole t (g ∷ gs) f h absent is =
      let under : is_filed_under n g ≡ false = not_under t g h.0 absent in
      let rest : filter (is_filed_under n) (g ∷ gs) ≡ filter (is_filed_under n) gs = ap (λ b. cond b (g ∷ filter (is_filed_under n) gs) (filter (is_filed_under n) gs)) under in
      elim (is_filed n g) as (λ b. is_filed n g ≡ b → cond b (Some g) (find (is_filed n) gs) ≡ Some f → named (with_filed (add t g) gs) n ≡ Some (whole n (g ∷ gs) f)) [
        | true ↦ λ it is.
            let same : g ≡ f = cc in
            named_there (add t g) gs (bare g) h.1 (bare_added t g absent it) ∙ ap (λ (d : Filed). Some (more_saved (map saved_of (filter (is_filed_under n) gs)) (bare d))) same
            ∙ sym (ap (λ (us : List Filed). Some (record { name = f.name; parent = f.owner; current = f.current; base = f.base; saved = map saved_of us })) rest)
        | false ↦ λ it is.
            named_whole (add t g) gs f h.1 (not_there n t g absent it) is
            ∙ sym (ap (λ (us : List Filed). Some (record { name = f.name; parent = f.owner; current = f.current; base = f.base; saved = map saved_of us })) rest)
      ] refl is
