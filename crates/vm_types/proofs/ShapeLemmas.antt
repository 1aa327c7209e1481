-- The shape of a tree, that is its names and parents, through a New, a Drop and a change of what an alternative holds.
use Rattle.std.proofs.Common.{◌≡◌, ℕ, Bool, true, false, cond, ◌||◌, List, [], ◌∷◌, ◌++◌, map, Option, Some, None, is_some, option_map, IsSomeAnd, bytes_eq, refl, sym, ap, ◌∙◌, subst, append_assoc, append-nil, inl, inr, true≢false}
use Rattle.std.specs.List.{list_any}
use Rattle.std.specs.Option.{option_eq}
use Rattle.std.proofs.lemmas.Bool.{or_parts, or_cases}
use Rattle.std.proofs.lemmas.List.{map-append}
use Rattle.std.proofs.lemmas.List.Folds.{list_any-append}
use Rattle.std.proofs.lemmas.Slice.Eq.{bytes_eq-Decides}
use Rattle.vm_types.specs.Map.{Map}
use Rattle.vm_types.specs.Firsts.{without_first}
use Rattle.vm_types.specs.Tree.{Alternative, Tree, named, has_children, changed}
use Rattle.vm_types.specs.Shape.{is_among, shape, HasGrown, HasShape}
use Rattle.vm_types.specs.Step.{new_alternative}

abbrev Entry : Type 0
Entry = List ℕ × Option (List ℕ)

-- a name is among those of a tree where an alternative of it is found
pub is_among-named : (tree : Tree) (name : List ℕ) → is_among (map (λ a. a.name) tree) name ≡ is_some (named tree name)
is_among-named [] name = refl
is_among-named (a ∷ tree) name = elim (bytes_eq a.name name) as (λ t. (t || is_among (map (λ a. a.name) tree) name) ≡ is_some (cond t (Some a) (named tree name))) [
  | true ↦ refl
  | false ↦ is_among-named tree name
]

-- the names of a shape are those of the tree
names_of_shape : (tree : Tree) → map (λ (e : Entry). e.0) (shape tree) ≡ map (λ a. a.name) tree
names_of_shape [] = refl
names_of_shape (a ∷ tree) = ap (λ names. a.name ∷ names) (names_of_shape tree)

-- what is found has the name
pub name_of_found : (tree : Tree) (name : List ℕ) (a : Alternative) → named tree name ≡ Some a → a.name ≡ name
name_of_found [] name a h = cc
name_of_found (x ∷ tree) name a h =
    elim (bytes_eq x.name name) as (λ t. bytes_eq x.name name ≡ t → cond t (Some x) (named tree name) ≡ Some a → a.name ≡ name) [
      | true ↦ λ is e. let same : x ≡ a = cc in ap (λ (y : Alternative). y.name) (sym same) ∙ (bytes_eq-Decides x.name name).0 is
      | false ↦ λ is e. name_of_found tree name a e
    ] refl h

-- a name among two lists is among one of them
among_both : (xs ys : List (List ℕ)) (n : List ℕ) → is_among (xs ++ ys) n ≡ (is_among xs n || is_among ys n)
among_both xs ys n = list_any-append (λ x. bytes_eq x n) xs ys

or_left_true : (x y : Bool) → x ≡ true → (x || y) ≡ true
or_left_true x y h = ap (λ t. t || y) h

or_right_true : (x y : Bool) → y ≡ true → (x || y) ≡ true
or_right_true true y h = refl
or_right_true false y h = h

-- a name that differs from another isn't the only one of a list with that one
not_both : (n alt x : List ℕ) → bytes_eq n alt ≡ false → x ≡ alt → is_among (x ∷ []) n ≡ true → ⊥
not_both n alt x other same here =
    elim (or_cases (bytes_eq x n) false here) as (λ _. ⊥) [
      | inl is ↦ let e : n ≡ alt = sym ((bytes_eq-Decides x n).0 is) ∙ same in true≢false (sym ((bytes_eq-Decides n alt).1 e) ∙ other)
      | inr is ↦ true≢false (sym is)
    ]

-- ---- an entry is added

HasGrown-more : (earlier : List (List ℕ)) (es : List Entry) (name parent : List ℕ) → HasGrown earlier es
    → is_among (earlier ++ map (λ (e : Entry). e.0) es) name ≡ false → is_among (earlier ++ map (λ (e : Entry). e.0) es) parent ≡ true → HasGrown earlier (es ++ (name, Some parent) ∷ [])
HasGrown-more earlier [] name parent grown new old = (subst (λ ns. is_among ns name ≡ false) (append-nil earlier) new, subst (λ ns. is_among ns parent ≡ true) (append-nil earlier) old, tt)
HasGrown-more earlier (e ∷ es) name parent grown new old =
    let names = map (λ (e : Entry). e.0) es in
    let same : earlier ++ e.0 ∷ names ≡ (earlier ++ e.0 ∷ []) ++ names = sym (append_assoc earlier (e.0 ∷ []) names) in
    (grown.0, grown.1, HasGrown-more (earlier ++ e.0 ∷ []) es name parent grown.2 (subst (λ ns. is_among ns name ≡ false) same new) (subst (λ ns. is_among ns parent ≡ true) same old))

-- a new alternative under one that is there
pub HasShape-new : (tree : Tree) (name parent : List ℕ) (p : Alternative) (records : Map) → HasShape (shape tree) → named tree parent ≡ Some p → is_some (named tree name) ≡ false → HasShape (shape (tree ++ new_alternative name p records ∷ []))
HasShape-new [] name parent p records has found free = absurd has
HasShape-new (x ∷ tree) name parent p records has found free =
    let same : map (λ (e : Entry). e.0) (shape (x ∷ tree)) ≡ map (λ a. a.name) (x ∷ tree) = names_of_shape (x ∷ tree) in
    let new : is_among (map (λ (e : Entry). e.0) (shape (x ∷ tree))) name ≡ false = ap (λ ns. is_among ns name) same ∙ is_among-named (x ∷ tree) name ∙ free in
    let old : is_among (map (λ (e : Entry). e.0) (shape (x ∷ tree))) p.name ≡ true =
    ap (λ ns. is_among ns p.name) same ∙ is_among-named (x ∷ tree) p.name ∙ ap (λ n. is_some (named (x ∷ tree) n)) (name_of_found (x ∷ tree) parent p found) ∙ ap is_some found in
    (has.0, has.1, subst (HasGrown (x.name ∷ [])) (sym (map-append (λ (a : Alternative). (a.name, a.parent)) tree (new_alternative name p records ∷ []))) (HasGrown-more (x.name ∷ []) (shape tree) name p.name has.2 new old))

-- ---- an entry that is no parent is left out

-- whether an entry has this parent
abbrev is_child : List ℕ → Entry → Bool
is_child alt e = option_eq bytes_eq e.1 (Some alt)

-- fewer names, of which only one that is no parent is missing
HasGrown-fewer : (alt : List ℕ) (more fewer : List (List ℕ)) → ((n : List ℕ) → is_among more n ≡ false → is_among fewer n ≡ false)
    → ((n : List ℕ) → bytes_eq n alt ≡ false → is_among more n ≡ true → is_among fewer n ≡ true)
    → (es : List Entry) → list_any (is_child alt) es ≡ false → HasGrown more es → HasGrown fewer es
HasGrown-fewer alt more fewer new old [] alone grown = tt
HasGrown-fewer alt more fewer new old (e ∷ es) alone grown =
    let parts = or_parts (is_child alt e) (list_any (is_child alt) es) alone in (
      new e.0 grown.0,
      elim e.1 as (λ p. option_eq bytes_eq p (Some alt) ≡ false → IsSomeAnd p (λ p. is_among more p ≡ true) → IsSomeAnd p (λ p. is_among fewer p ≡ true)) [
        | None ↦ λ other is. is
        | Some p ↦ λ other is. old p other is
      ] parts.0 grown.1,
      HasGrown-fewer alt (more ++ e.0 ∷ []) (fewer ++ e.0 ∷ [])
          (λ n h. let both = or_parts (is_among more n) (is_among (e.0 ∷ []) n) (sym (among_both more (e.0 ∷ []) n) ∙ h) in among_both fewer (e.0 ∷ []) n ∙ ap (λ t. t || is_among (e.0 ∷ []) n) (new n both.0) ∙ both.1)
          (λ n other h. elim (or_cases (is_among more n) (is_among (e.0 ∷ []) n) (sym (among_both more (e.0 ∷ []) n) ∙ h)) as (λ _. is_among (fewer ++ e.0 ∷ []) n ≡ true) [
            | inl is ↦ among_both fewer (e.0 ∷ []) n ∙ or_left_true (is_among fewer n) (is_among (e.0 ∷ []) n) (old n other is)
            | inr is ↦ among_both fewer (e.0 ∷ []) n ∙ or_right_true (is_among fewer n) (is_among (e.0 ∷ []) n) is
          ])
          es parts.1 grown.2,
    )

HasGrown-without : (alt : List ℕ) (earlier : List (List ℕ)) (es : List Entry) → list_any (is_child alt) es ≡ false → HasGrown earlier es → HasGrown earlier (without_first (λ (e : Entry). bytes_eq e.0 alt) es)
HasGrown-without alt earlier [] alone grown = tt
HasGrown-without alt earlier (e ∷ es) alone grown =
    let parts = or_parts (is_child alt e) (list_any (is_child alt) es) alone in
    elim (bytes_eq e.0 alt) as (λ t. bytes_eq e.0 alt ≡ t → HasGrown earlier (cond t es (e ∷ without_first (λ (e : Entry). bytes_eq e.0 alt) es))) [
      | true ↦ λ is. HasGrown-fewer alt (earlier ++ e.0 ∷ []) earlier
          (λ n h. (or_parts (is_among earlier n) (is_among (e.0 ∷ []) n) (sym (among_both earlier (e.0 ∷ []) n) ∙ h)).0)
          (λ n other h. elim (or_cases (is_among earlier n) (is_among (e.0 ∷ []) n) (sym (among_both earlier (e.0 ∷ []) n) ∙ h)) as (λ _. is_among earlier n ≡ true) [
            | inl is_there ↦ is_there
            | inr is_here ↦ absurd (not_both n alt e.0 other ((bytes_eq-Decides e.0 alt).0 is) is_here)
          ])
          es parts.1 grown.2
      | false ↦ λ is. (grown.0, grown.1, HasGrown-without alt (earlier ++ e.0 ∷ []) es parts.1 grown.2)
    ] refl

-- the shape of what is left is what is left of the shape
shape_without : (tree : Tree) (alt : List ℕ) → shape (without_first (λ x. bytes_eq x.name alt) tree) ≡ without_first (λ (e : Entry). bytes_eq e.0 alt) (shape tree)
shape_without [] alt = refl
shape_without (x ∷ tree) alt =
    elim (bytes_eq x.name alt) as (λ t. shape (cond t tree (x ∷ without_first (λ x. bytes_eq x.name alt) tree)) ≡ cond t (shape tree) ((x.name, x.parent) ∷ without_first (λ (e : Entry). bytes_eq e.0 alt) (shape tree))) [
      | true ↦ refl
      | false ↦ ap (λ es. (x.name, x.parent) ∷ es) (shape_without tree alt)
    ]

shape_children : (tree : Tree) (alt : List ℕ) → list_any (is_child alt) (shape tree) ≡ has_children tree alt
shape_children [] alt = refl
shape_children (x ∷ tree) alt = ap (λ t. option_eq bytes_eq x.parent (Some alt) || t) (shape_children tree alt)

-- the first alternative has no parent, so one with a parent isn't the first
first_is_other : (x : Alternative) (tree : Tree) (alt parent : List ℕ) (a : Alternative) → x.parent ≡ None → named (x ∷ tree) alt ≡ Some a → a.parent ≡ Some parent → bytes_eq x.name alt ≡ false
first_is_other x tree alt parent a none found under =
    elim (bytes_eq x.name alt) as (λ t. cond t (Some x) (named tree alt) ≡ Some a → t ≡ false) [
      | false ↦ λ e. refl
      | true ↦ λ e. let same : x ≡ a = cc in let both : None ≡ Some parent = sym none ∙ ap (λ (y : Alternative). y.parent) same ∙ under in cc
    ] found

-- an alternative with a parent and without children is taken out
pub HasShape-drop : (tree : Tree) (alt parent : List ℕ) (a : Alternative) → HasShape (shape tree) → named tree alt ≡ Some a → a.parent ≡ Some parent → has_children tree alt ≡ false → HasShape (shape (without_first (λ x. bytes_eq x.name alt) tree))
HasShape-drop [] alt parent a has found under alone = absurd has
HasShape-drop (x ∷ tree) alt parent a has found under alone =
    let other = first_is_other x tree alt parent a has.1 found under in
    let parts = or_parts (option_eq bytes_eq x.parent (Some alt)) (has_children tree alt) alone in
    let rest : HasGrown (x.name ∷ []) (shape (without_first (λ x. bytes_eq x.name alt) tree)) =
    subst (HasGrown (x.name ∷ [])) (sym (shape_without tree alt)) (HasGrown-without alt (x.name ∷ []) (shape tree) (shape_children tree alt ∙ parts.1) has.2) in
    subst (λ (t : Bool). HasShape (shape (cond t tree (x ∷ without_first (λ x. bytes_eq x.name alt) tree)))) (sym other) (has.0, has.1, rest)

-- ---- what an alternative holds is changed

-- names and parents stay
pub record KeepsPlace (f : Alternative → Alternative) : Type 0 where
  pub name : (x : Alternative) → (f x).name ≡ x.name
  pub parent : (x : Alternative) → (f x).parent ≡ x.parent

pub shape_changed : (tree : Tree) (alt : List ℕ) (f : Alternative → Alternative) → KeepsPlace f → shape (changed tree alt f) ≡ shape tree
shape_changed [] alt f keeps = refl
shape_changed (x ∷ tree) alt f keeps =
    elim (bytes_eq x.name alt) as (λ t. shape (cond t (f x ∷ tree) (x ∷ changed tree alt f)) ≡ shape (x ∷ tree)) [
      | true ↦ λ i. (keeps.name x i, keeps.parent x i) ∷ shape tree
      | false ↦ ap (λ es. (x.name, x.parent) ∷ es) (shape_changed tree alt f keeps)
    ]

-- and so does the parent of each alternative
pub parent_changed : (tree : Tree) (alt name : List ℕ) (f : Alternative → Alternative) → KeepsPlace f → option_map (λ a. a.parent) (named (changed tree alt f) name) ≡ option_map (λ a. a.parent) (named tree name)
parent_changed [] alt name f keeps = refl
parent_changed (x ∷ tree) alt name f keeps =
    elim (bytes_eq x.name alt) as (λ t. option_map (λ a. a.parent) (named (cond t (f x ∷ tree) (x ∷ changed tree alt f)) name) ≡ option_map (λ a. a.parent) (named (x ∷ tree) name)) [
      | true ↦
          ap (λ n. option_map (λ a. a.parent) (cond (bytes_eq n name) (Some (f x)) (named tree name))) (keeps.name x)
          ∙ elim (bytes_eq x.name name) as (λ t. option_map (λ a. a.parent) (cond t (Some (f x)) (named tree name)) ≡ option_map (λ a. a.parent) (cond t (Some x) (named tree name))) [
            | true ↦ ap (λ p. Some p) (keeps.parent x)
            | false ↦ refl
          ]
      | false ↦ elim (bytes_eq x.name name) as (λ t. option_map (λ a. a.parent) (cond t (Some x) (named (changed tree alt f) name)) ≡ option_map (λ a. a.parent) (cond t (Some x) (named tree name))) [
        | true ↦ refl
        | false ↦ parent_changed tree alt name f keeps
      ]
    ]
