-- Entries that a slot may have stay so where only roots change.
use Rattle.std.proofs.Common.{◌≡◌, ◌⊎◌, inl, inr, codes, true≢false, ℕ, suc, ◌<◌, ◌^◌, Bool, true, false, ◌&&◌, ◌||◌, cond, List, [], ◌∷◌, ◌++◌, length, Option, Some, None, IsSomeAnd, refl, sym, ap, ◌∙◌, subst}
use Rattle.std.specs.List.{AllByRecursion, list_any}
use Rattle.std.specs.Option.{option_eq}
use Rattle.std.specs.Str.{bytes_eq}
use Rattle.std.proofs.lemmas.Slice.Eq.{bytes_eq-Decides}
use Rattle.vm_types.specs.Firsts.{change_first}
use Rattle.vm_block.specs.Slot.{EntryFits, HeadFits, SlotFits, IsLedger, Follows, MayFollow, is_alternative, is_alternative_of, is_called_as, is_same_kind}
use Rattle.vm_block.specs.declared.slot.Kind.{Kind}
use Rattle.vm_block.specs.declared.slot.Entry.{Entry}

-- the base has to be empty: that of `top`, and that of a checkpoint, which may be one of `top`
abbrev pub IsUnbasedKind : Entry → Type 0
IsUnbasedKind e = (is_alternative e.kind ≡ false) ⊎ (e.name ≡ codes "top")

-- the entry with another current root
abbrev pub with_current : ℕ → Entry → Entry
with_current root e = record e { current = root }

-- two entries that differ in their roots alone
pub record IsAlike (e f : Entry) : Type 0 where
  pub kind : f.kind ≡ e.kind
  pub name : f.name ≡ e.name
  pub owner : f.owner ≡ e.owner
  pub base : IsUnbasedKind e → e.base ≡ 0 → f.base ≡ 0
  pub fits : EntryFits e → EntryFits f

abbrev pub AreAlike : List Entry → List Entry → Type 0
AreAlike [] [] = Unit {0}
AreAlike (e ∷ es) (f ∷ fs) = IsAlike e f × AreAlike es fs
AreAlike [] (f ∷ fs) = ⊥
AreAlike (e ∷ es) [] = ⊥

alike_itself : (es : List Entry) → AreAlike es es
alike_itself [] = tt
alike_itself (e ∷ es) = (record { kind = refl; name = refl; owner = refl; base = λ kind empty. empty; fits = λ fits. fits }, alike_itself es)

-- the first entry that passes has another current root
pub alike_turned : (test : Entry → Bool) (root : ℕ) → root < 2 ^ 32 → (es : List Entry) → AreAlike es (change_first test (with_current root) es)
alike_turned test root small [] = tt
alike_turned test root small (e ∷ es) =
    elim (test e) as (λ b. AreAlike (e ∷ es) (cond b (with_current root e ∷ es) (e ∷ change_first test (with_current root) es))) [
      | true ↦ (
        record {
          kind = refl;
          name = refl;
          owner = refl;
          base = λ kind empty. empty;
          fits = λ fits. record { name = fits.name; owner = fits.owner; current = small; base = fits.base };
        },
        alike_itself es,
      )
      | false ↦ (record { kind = refl; name = refl; owner = refl; base = λ kind empty. empty; fits = λ fits. fits }, alike_turned test root small es)
    ]

-- an alternative that has to have no base is the first one
alt_is_top : (alt : List ℕ) (e : Entry) → is_alternative_of alt e ≡ true → IsUnbasedKind e → alt ≡ codes "top"
alt_is_top alt e is (inl checkpoint) = let none : is_alternative_of alt e ≡ false = ap (λ b. b && bytes_eq e.name alt) checkpoint in absurd (true≢false (sym is ∙ none))
alt_is_top alt e is (inr named) = sym ((bytes_eq-Decides e.name alt).0 (last (is_alternative e.kind) (bytes_eq e.name alt) is)) ∙ named
  where
    last : (a b : Bool) → (a && b) ≡ true → b ≡ true
    last true b h = h
    last false b h = absurd (true≢false (sym h))

-- the entry with other roots
abbrev pub with_roots : ℕ → ℕ → Entry → Entry
with_roots current base e = record e { current = current; base = base }

-- the first entry of an alternative has other roots; if it is `top`, the base stays empty
pub alike_back : (alt : List ℕ) (current base : ℕ) → current < 2 ^ 32 → base < 2 ^ 32 → (alt ≡ codes "top" → base ≡ 0) → (es : List Entry) → AreAlike es (change_first (is_alternative_of alt) (with_roots current base) es)
alike_back alt current base small small_base unbased [] = tt
alike_back alt current base small small_base unbased (e ∷ es) =
    elim (is_alternative_of alt e) as (λ b. is_alternative_of alt e ≡ b → AreAlike (e ∷ es) (cond b (with_roots current base e ∷ es) (e ∷ change_first (is_alternative_of alt) (with_roots current base) es))) [
      | true ↦ λ is. (
        record {
          kind = refl;
          name = refl;
          owner = refl;
          base = λ kind empty. unbased (alt_is_top alt e is kind);
          fits = λ fits. record { name = fits.name; owner = fits.owner; current = small; base = small_base };
        },
        alike_itself es,
      )
      | false ↦ λ is. (record { kind = refl; name = refl; owner = refl; base = λ kind empty. empty; fits = λ fits. fits }, alike_back alt current base small small_base unbased es)
    ] refl

-- the entry with another base
abbrev pub with_base : ℕ → Entry → Entry
with_base root e = record e { base = root }

-- the first entry of an alternative that is not `top` has another base
pub alike_based : (alt : List ℕ) (base : ℕ) → base < 2 ^ 32 → (alt ≡ codes "top" → ⊥) → (es : List Entry) → AreAlike es (change_first (is_alternative_of alt) (with_base base) es)
alike_based alt base small not_top [] = tt
alike_based alt base small not_top (e ∷ es) =
    elim (is_alternative_of alt e) as (λ b. is_alternative_of alt e ≡ b → AreAlike (e ∷ es) (cond b (with_base base e ∷ es) (e ∷ change_first (is_alternative_of alt) (with_base base) es))) [
      | true ↦ λ is. (
        record {
          kind = refl;
          name = refl;
          owner = refl;
          base = λ kind empty. absurd (not_top (alt_is_top alt e is kind));
          fits = λ fits. record { name = fits.name; owner = fits.owner; current = fits.current; base = small };
        },
        alike_itself es,
      )
      | false ↦ λ is. (record { kind = refl; name = refl; owner = refl; base = λ kind empty. empty; fits = λ fits. fits }, alike_based alt base small not_top es)
    ] refl

length-alike : (es fs : List Entry) → AreAlike es fs → length fs ≡ length es
length-alike [] [] a = refl
length-alike (e ∷ es) (f ∷ fs) a = ap suc (length-alike es fs a.1)
length-alike [] (f ∷ fs) a = absurd a
length-alike (e ∷ es) [] a = absurd a

each_fits : (es fs : List Entry) → AreAlike es fs → AllByRecursion EntryFits es → AllByRecursion EntryFits fs
each_fits [] [] a all = tt
each_fits (e ∷ es) (f ∷ fs) a all = (a.0.fits all.0, each_fits es fs a.1 all.1)
each_fits [] (f ∷ fs) a all = absurd a
each_fits (e ∷ es) [] a all = absurd a

-- two questions that alike entries answer alike
any-alike : (ask asked : Entry → Bool) → ((e f : Entry) → IsAlike e f → asked f ≡ ask e) → (es fs : List Entry) → AreAlike es fs → list_any asked fs ≡ list_any ask es
any-alike ask asked same [] [] a = refl
any-alike ask asked same (e ∷ es) (f ∷ fs) a =
    ap (λ b. b || list_any asked fs) (same e f a.0) ∙ ap (λ b. ask e || b) (any-alike ask asked same es fs a.1)
any-alike ask asked same [] (f ∷ fs) a = absurd a
any-alike ask asked same (e ∷ es) [] a = absurd a

alternative-alike : (name : List ℕ) (e f : Entry) → IsAlike e f → is_alternative_of name f ≡ is_alternative_of name e
alternative-alike name e f a = ap (λ k. is_alternative k && bytes_eq f.name name) a.kind ∙ ap (λ n. is_alternative e.kind && bytes_eq n name) a.name

called-alike : (e f : Entry) → IsAlike e f → (e' f' : Entry) → IsAlike e' f' → is_called_as f f' ≡ is_called_as e e'
called-alike e f a e' f' a' =
    let called : Kind → List ℕ → Option (List ℕ) → Kind → List ℕ → Option (List ℕ) → Bool =
    λ k n o k' n' o'. (is_same_kind k k' && bytes_eq n n') && (is_alternative k || option_eq bytes_eq o o') in
    ap (λ k. called k f.name f.owner f'.kind f'.name f'.owner) a.kind
    ∙ ap (λ n. called e.kind n f.owner f'.kind f'.name f'.owner) a.name
    ∙ ap (λ o. called e.kind e.name o f'.kind f'.name f'.owner) a.owner
    ∙ ap (λ k. called e.kind e.name e.owner k f'.name f'.owner) a'.kind
    ∙ ap (λ n. called e.kind e.name e.owner e'.kind n f'.owner) a'.name
    ∙ ap (λ o. called e.kind e.name e.owner e'.kind e'.name o) a'.owner

some_so : (o : Option (List ℕ)) (P Q : List ℕ → Type 0) → ((x : List ℕ) → P x → Q x) → IsSomeAnd o P → IsSomeAnd o Q
some_so None P Q so h = h
some_so (Some x) P Q so h = so x h

may_follow : (earlier before : List Entry) → AreAlike earlier before → (e f : Entry) → IsAlike e f → MayFollow earlier e → MayFollow before f
may_follow earlier before alike e f a may = record {
  owned = subst (λ o. IsSomeAnd o (λ owner. list_any (is_alternative_of owner) before ≡ true)) (sym a.owner)
      (some_so e.owner _ _ (λ owner is. any-alike (is_alternative_of owner) (is_alternative_of owner) (alternative-alike owner) earlier before alike ∙ is) may.owned);
  new = any-alike (is_called_as e) (is_called_as f) (λ e' f' a'. called-alike e f a e' f' a') earlier before alike ∙ may.new;
  top = λ checkpoint of_top. let was = sym (ap is_alternative a.kind) ∙ checkpoint in a.base (inl was) (may.top was (sym a.owner ∙ of_top));
}

alike_more : (earlier before : List Entry) → AreAlike earlier before → (e f : Entry) → IsAlike e f → AreAlike (earlier ++ e ∷ []) (before ++ f ∷ [])
alike_more [] [] alike e f a = (a, tt)
alike_more (x ∷ earlier) (y ∷ before) alike e f a = (alike.0, alike_more earlier before alike.1 e f a)
alike_more [] (y ∷ before) alike e f a = absurd alike
alike_more (x ∷ earlier) [] alike e f a = absurd alike

follows : (earlier before : List Entry) → AreAlike earlier before → (es fs : List Entry) → AreAlike es fs → Follows earlier es → Follows before fs
follows earlier before alike [] [] a h = tt
follows earlier before alike (e ∷ es) (f ∷ fs) a h =
    (may_follow earlier before alike e f a.0 h.0, follows (earlier ++ e ∷ []) (before ++ f ∷ []) (alike_more earlier before alike e f a.0) es fs a.1 h.1)
follows earlier before alike [] (f ∷ fs) a h = absurd a
follows earlier before alike (e ∷ es) [] a h = absurd a

ledger : (es fs : List Entry) → AreAlike es fs → IsLedger es → IsLedger fs
ledger [] [] a h = h
ledger (e ∷ es) (f ∷ fs) a h = (
  record { kind = a.0.kind ∙ h.0.kind; name = a.0.name ∙ h.0.name; owner = a.0.owner ∙ h.0.owner; base = a.0.base (inr h.0.name) h.0.base },
  follows (e ∷ []) (f ∷ []) (a.0, tt) es fs a.1 h.1,
)
ledger [] (f ∷ fs) a h = absurd a
ledger (e ∷ es) [] a h = absurd a

-- a slot may have entries that differ in their roots alone
pub fits_alike : (limit : ℕ) (es fs : List Entry) → AreAlike es fs → SlotFits limit es → SlotFits limit fs
fits_alike limit es fs a fits = record {
  head = subst (HeadFits limit) (sym (length-alike es fs a)) fits.head;
  each = each_fits es fs a fits.each;
  ledger = ledger es fs a fits.ledger;
}
