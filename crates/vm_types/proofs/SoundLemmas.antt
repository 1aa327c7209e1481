-- What each alternative keeps: rising maps, distinct names of checkpoints, and the empty base where there is no parent.
use Rattle.std.proofs.Common.{◌≡◌, ℕ, Bool, true, false, cond, ◌||◌, List, [], ◌∷◌, ◌++◌, find, Some, None, is_some, bytes_eq, refl, sym, ap, ◌∙◌, subst, append_assoc, append-nil}
use Rattle.std.specs.List.{AllByRecursion}
use Rattle.std.proofs.lemmas.Bool.{or_parts}
use Rattle.std.proofs.lemmas.List.{map-append}
use Rattle.std.proofs.lemmas.List.Folds.{list_any-append}
use Rattle.vm_types.specs.Map.{Map, IsMap}
use Rattle.vm_types.specs.Firsts.{change_first, without_first}
use Rattle.vm_types.specs.Tree.{Saved, Alternative, saved_as}
use Rattle.vm_types.specs.Shape.{IsRisingSaved, is_among, AreNew, saved_names, IsUnbasedSaved, IsSound}

-- ---- what holds of each item

pub each_append : {X : Type 0} (P : X → Type 0) (xs : List X) (x : X) → AllByRecursion P xs → P x → AllByRecursion P (xs ++ x ∷ [])
each_append P [] x all here = (here, tt)
each_append P (y ∷ ys) x all here = (all.0, each_append P ys x all.1 here)

pub each_without : {X : Type 0} (P : X → Type 0) (test : X → Bool) (xs : List X) → AllByRecursion P xs → AllByRecursion P (without_first test xs)
each_without P test [] all = tt
each_without P test (x ∷ xs) all = elim (test x) as (λ t. AllByRecursion P (cond t xs (x ∷ without_first test xs))) [
  | true ↦ all.1
  | false ↦ (all.0, each_without P test xs all.1)
]

pub each_found : {X : Type 0} (P : X → Type 0) (test : X → Bool) (xs : List X) (a : X) → AllByRecursion P xs → find test xs ≡ Some a → P a
each_found P test [] a all found = cc
each_found P test (x ∷ xs) a all found = elim (test x) as (λ t. cond t (Some x) (find test xs) ≡ Some a → P a) [
  | true ↦ λ e. let same : x ≡ a = cc in subst P same all.0
  | false ↦ λ e. each_found P test xs a all.1 e
] found

pub each_changed : {X : Type 0} (P : X → Type 0) (test : X → Bool) (f : X → X) (xs : List X) (a : X) → AllByRecursion P xs → find test xs ≡ Some a → P (f a) → AllByRecursion P (change_first test f xs)
each_changed P test f [] a all found new = tt
each_changed P test f (x ∷ xs) a all found new = elim (test x) as (λ t. cond t (Some x) (find test xs) ≡ Some a → AllByRecursion P (cond t (f x ∷ xs) (x ∷ change_first test f xs))) [
  | true ↦ λ e. let same : a ≡ x = cc in (subst (λ y. P (f y)) same new, all.1)
  | false ↦ λ e. (all.0, each_changed P test f xs a all.1 e new)
] found

-- ---- names of checkpoints

AreNew-more : (earlier names : List (List ℕ)) (name : List ℕ) → AreNew earlier names → is_among (earlier ++ names) name ≡ false → AreNew earlier (names ++ name ∷ [])
AreNew-more earlier [] name new free = (subst (λ ns. is_among ns name ≡ false) (append-nil earlier) free, tt)
AreNew-more earlier (n ∷ names) name new free = (new.0, AreNew-more (earlier ++ n ∷ []) names name new.1 (subst (λ ns. is_among ns name ≡ false) (sym (append_assoc earlier (n ∷ []) names)) free))

AreNew-fewer : (more fewer names : List (List ℕ)) → ((n : List ℕ) → is_among more n ≡ false → is_among fewer n ≡ false) → AreNew more names → AreNew fewer names
AreNew-fewer more fewer [] less new = tt
AreNew-fewer more fewer (name ∷ names) less new = (
  less name new.0,
  AreNew-fewer (more ++ name ∷ []) (fewer ++ name ∷ []) names (λ n h.
      let both = or_parts (is_among more n) (is_among (name ∷ []) n) (sym (list_any-append (λ x. bytes_eq x n) more (name ∷ [])) ∙ h) in
      list_any-append (λ x. bytes_eq x n) fewer (name ∷ []) ∙ ap (λ t. t || is_among (name ∷ []) n) (less n both.0) ∙ both.1) new.1,
)

AreNew-without : (test : Saved → Bool) (earlier : List (List ℕ)) (saved : List Saved) → AreNew earlier (saved_names saved) → AreNew earlier (saved_names (without_first test saved))
AreNew-without test earlier [] new = tt
AreNew-without test earlier (c ∷ saved) new = elim (test c) as (λ t. AreNew earlier (saved_names (cond t saved (c ∷ without_first test saved)))) [
  | true ↦ AreNew-fewer (earlier ++ c.name ∷ []) earlier (saved_names saved) (λ n h. (or_parts (is_among earlier n) (is_among (c.name ∷ []) n) (sym (list_any-append (λ x. bytes_eq x n) earlier (c.name ∷ [])) ∙ h)).0) new.1
  | false ↦ (new.0, AreNew-without test (earlier ++ c.name ∷ []) saved new.1)
]

-- a name is among those of the checkpoints where one of it is found
is_among-saved : (saved : List Saved) (name : List ℕ) → is_among (saved_names saved) name ≡ is_some (find (λ c. bytes_eq c.name name) saved)
is_among-saved [] name = refl
is_among-saved (c ∷ saved) name = elim (bytes_eq c.name name) as (λ t. (t || is_among (saved_names saved) name) ≡ is_some (cond t (Some c) (find (λ c. bytes_eq c.name name) saved))) [
  | true ↦ refl
  | false ↦ is_among-saved saved name
]

-- ---- what commands make of one alternative

module _ (a : Alternative) (sound : IsSound a) where
  pub IsSound-current : (m : Map) → IsMap m → IsSound (record a { current = m })
  IsSound-current m h = record { rising = (h, sound.rising.1, sound.rising.2); distinct = sound.distinct; unbased = sound.unbased }

  pub IsSound-maps : (m b : Map) → IsMap m → IsMap b → (a.parent ≡ None → b ≡ []) → IsSound (record a { current = m; base = b })
  IsSound-maps m b h g empty = record { rising = (h, g, sound.rising.2); distinct = sound.distinct; unbased = λ none. (empty none, (sound.unbased none).1) }

  pub IsSound-saved : (name : List ℕ) → is_some (saved_as a name) ≡ false → IsSound (record a { saved = a.saved ++ record { name = name; current = a.current; base = a.base } ∷ [] })
  IsSound-saved name free = record {
    rising = (sound.rising.0, sound.rising.1, each_append IsRisingSaved a.saved (record { name = name; current = a.current; base = a.base }) sound.rising.2 (sound.rising.0, sound.rising.1));
    distinct =
        let new = AreNew-more [] (saved_names a.saved) name sound.distinct (is_among-saved a.saved name ∙ free) in
        subst (AreNew []) (sym (map-append (λ (c : Saved). c.name) a.saved (record { name = name; current = a.current; base = a.base } ∷ []))) new;
    unbased = λ none. ((sound.unbased none).0, each_append IsUnbasedSaved a.saved (record { name = name; current = a.current; base = a.base }) (sound.unbased none).1 (sound.unbased none).0);
  }

  pub IsSound-unsaved : (test : Saved → Bool) → IsSound (record a { saved = without_first test a.saved })
  IsSound-unsaved test = record {
    rising = (sound.rising.0, sound.rising.1, each_without IsRisingSaved test a.saved sound.rising.2);
    distinct = AreNew-without test [] a.saved sound.distinct;
    unbased = λ none. ((sound.unbased none).0, each_without IsUnbasedSaved test a.saved (sound.unbased none).1);
  }

  pub IsSound-back : (name : List ℕ) (c : Saved) → saved_as a name ≡ Some c → IsSound (record a { current = c.current; base = c.base })
  IsSound-back name c found =
      let rising = each_found IsRisingSaved (λ x. bytes_eq x.name name) a.saved c sound.rising.2 found in
      IsSound-maps c.current c.base rising.0 rising.1 (λ none. each_found IsUnbasedSaved (λ x. bytes_eq x.name name) a.saved c (sound.unbased none).1 found)
