-- Entries that a slot may have stay so where an entry is added, or taken out.
use Rattle.std.proofs.Common.{◌≡◌, ℕ, ◌<◌, Bool, true, false, not, ◌&&◌, ◌||◌, cond, List, [], ◌∷◌, ◌++◌, filter, find, length, Option, Some, None, IsSomeAnd, codes, refl, sym, ap, ◌∙◌, subst, arith, length-append, append-nil, append_assoc}
use Rattle.std.specs.List.{list_any}
use Rattle.std.specs.Option.{option_eq}
use Rattle.std.specs.Str.{bytes_eq}
use Rattle.std.proofs.lemmas.Bool.{or_parts}
use Rattle.std.proofs.lemmas.List.Folds.{list_any-append}
use Rattle.std.proofs.lemmas.Slice.Eq.{bytes_eq-Decides}
use Rattle.vm_types.specs.Firsts.{without_first}
use Rattle.vm_types.proofs.SoundLemmas.{each_append, each_without}
use Rattle.vm_block.specs.Slot.{EntryFits, SlotFits, IsLedger, IsTopEntry, Follows, MayFollow, is_alternative, is_alternative_of, is_called_as, is_same_kind}
use Rattle.vm_block.specs.declared.slot.Kind.{Kind}
use Rattle.vm_block.specs.declared.slot.Kind.TheVariants.{Alternative, Checkpoint}
use Rattle.vm_block.specs.declared.slot.Entry.{Entry}
use Rattle.vm_store.proofs.EntryTests.{is_checkpoint_under, is_checkpoint_of, is_child_of, is_apart}
use Rattle.vm_store.proofs.FoundLemmas.{any_found, any_none, any_same, each_filter, length-filtered, length-without}
use Rattle.vm_store.proofs.GrownLemmas.{not_eq}

-- ---- an entry is added

bytes_either : (a b : List ℕ) → bytes_eq a b ≡ bytes_eq b a
bytes_either a b = elim (bytes_eq a b) as (λ t. bytes_eq a b ≡ t → t ≡ bytes_eq b a) [
  | true ↦ λ is. sym ((bytes_eq-Decides b a).1 (sym ((bytes_eq-Decides a b).0 is)))
  | false ↦ λ is. sym (not_eq b a (λ same. cc (is, (bytes_eq-Decides a b).1 (sym same))))
] refl

and_true : (b : Bool) → b ≡ (b && true)
and_true true = refl
and_true false = refl

-- among entries the one that is called as an alternative is the alternative of its name
pub called_alternative : (e : Entry) → is_alternative e.kind ≡ true → (d : Entry) → is_alternative_of e.name d ≡ is_called_as e d
called_alternative e is d =
    ap (λ b. is_alternative d.kind && b) (bytes_either d.name e.name)
    ∙ by_kind e.kind is (bytes_eq e.name d.name) (option_eq bytes_eq e.owner d.owner)
  where
    by_kind : (k : Kind) → is_alternative k ≡ true → (n o : Bool) → (is_alternative d.kind && n) ≡ ((is_same_kind k d.kind && n) && (is_alternative k || o))
    by_kind Alternative is n o = and_true (is_alternative d.kind && n)
    by_kind Checkpoint is n o = cc

owner_either : (o : Option (List ℕ)) (n : List ℕ) → option_eq bytes_eq o (Some n) ≡ option_eq bytes_eq (Some n) o
owner_either None n = refl
owner_either (Some m) n = bytes_either m n

-- and the one that is called as a checkpoint is the checkpoint of its name and owner
pub called_checkpoint : (e : Entry) (alt : List ℕ) → is_alternative e.kind ≡ false → e.owner ≡ Some alt → (d : Entry) → is_checkpoint_of alt e.name d ≡ is_called_as e d
called_checkpoint e alt is owner d =
    ap (λ b. (not (is_alternative d.kind) && option_eq bytes_eq d.owner (Some alt)) && b) (bytes_either d.name e.name)
    ∙ ap (λ b. (not (is_alternative d.kind) && b) && bytes_eq e.name d.name) (owner_either d.owner alt ∙ ap (λ o. option_eq bytes_eq o d.owner) (sym owner))
    ∙ by_kind e.kind is (not (is_alternative d.kind)) (option_eq bytes_eq e.owner d.owner) (bytes_eq e.name d.name) refl
  where
    shuffle : (k o n : Bool) → ((k && o) && n) ≡ ((k && n) && o)
    shuffle true true true = refl
    shuffle true true false = refl
    shuffle true false true = refl
    shuffle true false false = refl
    shuffle false o n = refl

    by_kind : (k : Kind) → is_alternative k ≡ false → (c o n : Bool) → c ≡ not (is_alternative d.kind) → ((c && o) && n) ≡ ((is_same_kind k d.kind && n) && (is_alternative k || o))
    by_kind Alternative is c o n same = cc
    by_kind Checkpoint is c o n same = ap (λ k. (k && o) && n) same ∙ shuffle (not (is_alternative d.kind)) o n

-- a new alternative under one that is there
pub alternative_follows : (es : List Entry) (e p : Entry) (parent : List ℕ) → is_alternative e.kind ≡ true → e.owner ≡ Some parent → find (is_alternative_of parent) es ≡ Some p → find (is_alternative_of e.name) es ≡ None → MayFollow es e
alternative_follows es e p parent is owner there new = record {
  owned = subst (λ o. IsSomeAnd o (λ owner. list_any (is_alternative_of owner) es ≡ true)) (sym owner) (any_found (is_alternative_of parent) es p there);
  new = sym (any_same (is_alternative_of e.name) (is_called_as e) es (called_alternative e is)) ∙ any_none (is_alternative_of e.name) es new;
  top = λ not_one. cc;
}

-- a new checkpoint of an alternative that is there
pub checkpoint_follows : (es : List Entry) (e a : Entry) (alt : List ℕ) → is_alternative e.kind ≡ false → e.owner ≡ Some alt → find (is_alternative_of alt) es ≡ Some a → find (is_checkpoint_of alt e.name) es ≡ None
    → (alt ≡ codes "top" → e.base ≡ 0) → MayFollow es e
checkpoint_follows es e a alt is owner there new unbased = record {
  owned = subst (λ o. IsSomeAnd o (λ owner. list_any (is_alternative_of owner) es ≡ true)) (sym owner) (any_found (is_alternative_of alt) es a there);
  new = sym (any_same (is_checkpoint_of alt e.name) (is_called_as e) es (called_checkpoint e alt is owner)) ∙ any_none (is_checkpoint_of alt e.name) es new;
  top = λ _ of_top. let same : alt ≡ codes "top" = some_same (sym owner ∙ of_top) in unbased same;
}
  where
    some_same : {X : Type 0} {a b : X} → Some a ≡ Some b → a ≡ b
    some_same h = cc

-- `top` itself has the empty base
pub top_unbased : (es : List Entry) (alt : List ℕ) (e : Entry) → IsLedger es → find (is_alternative_of alt) es ≡ Some e → alt ≡ codes "top" → e.base ≡ 0
top_unbased [] alt e h is same = absurd h
top_unbased (top ∷ es) alt e h is same =
    let here : is_alternative_of alt top ≡ true = ap (λ k. is_alternative k && bytes_eq top.name alt) h.0.kind ∙ (bytes_eq-Decides top.name alt).1 (h.0.name ∙ sym same) in
    let it : Some top ≡ Some e = sym (ap (λ b. cond b (Some top) (find (is_alternative_of alt) es)) here) ∙ is in
    let top_is : top ≡ e = cc in
    ap (λ (d : Entry). d.base) (sym top_is) ∙ h.0.base

follows_push : (earlier xs : List Entry) (e : Entry) → Follows earlier xs → MayFollow (earlier ++ xs) e → Follows earlier (xs ++ e ∷ [])
follows_push earlier [] e so_far may = (subst (λ (es : List Entry). MayFollow es e) (append-nil earlier) may, tt)
follows_push earlier (x ∷ xs) e so_far may =
    (so_far.0, follows_push (earlier ++ x ∷ []) xs e so_far.1 (subst (λ (es : List Entry). MayFollow es e) (sym (append_assoc earlier (x ∷ []) xs)) may))

ledger_more : (es : List Entry) (e : Entry) → IsLedger es → MayFollow es e → IsLedger (es ++ e ∷ [])
ledger_more [] e h may = absurd h
ledger_more (top ∷ es) e h may = (h.0, follows_push (top ∷ []) es e h.1 may)

-- an alternative of an entry with an owner is not the first one
pub owned_not_top : (es : List Entry) (alt : List ℕ) (e : Entry) (parent : List ℕ) → IsLedger es → find (is_alternative_of alt) es ≡ Some e → e.owner ≡ Some parent → alt ≡ codes "top" → ⊥
owned_not_top [] alt e parent h is owner same = absurd h
owned_not_top (top ∷ es) alt e parent h is owner same =
    let here : is_alternative_of alt top ≡ true = ap (λ k. is_alternative k && bytes_eq top.name alt) h.0.kind ∙ (bytes_eq-Decides top.name alt).1 (h.0.name ∙ sym same) in
    let it : Some top ≡ Some e = sym (ap (λ b. cond b (Some top) (find (is_alternative_of alt) es)) here) ∙ is in
    let top_is : top ≡ e = cc in
    let none : Some parent ≡ None = sym owner ∙ ap (λ (d : Entry). d.owner) (sym top_is) ∙ h.0.owner in
    cc

pub fits_more : (limit : ℕ) (es : List Entry) (e : Entry) → SlotFits limit es → length es < 511 → EntryFits e → MayFollow es e → SlotFits limit (es ++ e ∷ [])
fits_more limit es e fits few own may =
    let count = length-append es (e ∷ []) in
    let head = fits.head in record {
      head = record { least = head.least; most = head.most; some = omega (arith, count); few = omega (arith, count) };
      each = each_append EntryFits es e fits.each own;
      ledger = ledger_more es e fits.ledger may;
    }

-- ---- entries are taken out

-- whatever may follow some entries may follow fewer of them, where the owners that have P stay
record Serves (P : List ℕ → Type 0) (earlier fewer : List Entry) : Type 0 where
  owners : (o : List ℕ) → P o → list_any (is_alternative_of o) earlier ≡ true → list_any (is_alternative_of o) fewer ≡ true
  names : (test : Entry → Bool) → list_any test earlier ≡ false → list_any test fewer ≡ false

serves_itself : (P : List ℕ → Type 0) (es : List Entry) → Serves P es es
serves_itself P es = record { owners = λ o p h. h; names = λ test h. h }

or_either : (a b c d : Bool) → (a ≡ true → c ≡ true) → (b ≡ true → d ≡ true) → (a || b) ≡ true → (c || d) ≡ true
or_either true b c d f g h = ap (λ x. x || d) (f refl)
or_either false true true d f g h = refl
or_either false true false d f g h = g refl
or_either false false c d f g h = cc

or_neither : (a b : Bool) → a ≡ false → b ≡ false → (a || b) ≡ false
or_neither true b h k = cc
or_neither false b h k = k

serves_both : (P : List ℕ → Type 0) (earlier fewer : List Entry) (e : Entry) → Serves P earlier fewer → Serves P (earlier ++ e ∷ []) (fewer ++ e ∷ [])
serves_both P earlier fewer e s = record {
  owners = λ o p h.
      list_any-append (is_alternative_of o) fewer (e ∷ [])
      ∙ or_either (list_any (is_alternative_of o) earlier) (list_any (is_alternative_of o) (e ∷ [])) _ _ (s.owners o p) (λ k. k) (sym (list_any-append (is_alternative_of o) earlier (e ∷ [])) ∙ h);
  names = λ test h.
      let parts = or_parts (list_any test earlier) (list_any test (e ∷ [])) (sym (list_any-append test earlier (e ∷ [])) ∙ h) in
      list_any-append test fewer (e ∷ []) ∙ or_neither (list_any test fewer) (list_any test (e ∷ [])) (s.names test parts.0) parts.1;
}

serves_less : (P : List ℕ → Type 0) (earlier fewer : List Entry) (e : Entry) → Serves P earlier fewer → ((o : List ℕ) → P o → is_alternative_of o e ≡ false) → Serves P (earlier ++ e ∷ []) fewer
serves_less P earlier fewer e s other = record {
  owners = λ o p h.
      s.owners o p (first_or (list_any (is_alternative_of o) earlier) (is_alternative_of o e) (other o p) (sym (list_any-append (is_alternative_of o) earlier (e ∷ [])) ∙ h));
  names = λ test h. s.names test (or_parts (list_any test earlier) (list_any test (e ∷ [])) (sym (list_any-append test earlier (e ∷ [])) ∙ h)).0;
}
  where
    first_or : (a b : Bool) → b ≡ false → (a || (b || false)) ≡ true → a ≡ true
    first_or true b not_b h = refl
    first_or false true not_b h = cc
    first_or false false not_b h = cc

-- an owner and a fact about it
pub some_parts : (o : Option (List ℕ)) (Q : List ℕ → Type 0) → IsSomeAnd o Q → (n : List ℕ) × (o ≡ Some n) × Q n
some_parts None Q h = absurd h
some_parts (Some n) Q h = (n, refl, h)

may_serve : (P : List ℕ → Type 0) (earlier fewer : List Entry) (e : Entry) → Serves P earlier fewer → ((o : List ℕ) → e.owner ≡ Some o → P o) → MayFollow earlier e → MayFollow fewer e
may_serve P earlier fewer e s has may =
    let owned = some_parts e.owner (λ owner. list_any (is_alternative_of owner) earlier ≡ true) may.owned in record {
      owned = subst (λ o. IsSomeAnd o (λ owner. list_any (is_alternative_of owner) fewer ≡ true)) (sym owned.1) (s.owners owned.0 (has owned.0 owned.1) owned.2);
      new = s.names (is_called_as e) may.new;
      top = may.top;
    }

abbrev Any : List ℕ → Type 0
Any o = Unit {0}

follows_served : (earlier fewer es : List Entry) → Serves Any earlier fewer → Follows earlier es → Follows fewer es
follows_served earlier fewer [] s h = tt
follows_served earlier fewer (e ∷ es) s h =
    (may_serve Any earlier fewer e s (λ o is. tt) h.0, follows_served (earlier ++ e ∷ []) (fewer ++ e ∷ []) es (serves_both Any earlier fewer e s) h.1)

-- an entry that is no alternative is taken out
follows_without : (test : Entry → Bool) → ((e : Entry) → test e ≡ true → is_alternative e.kind ≡ false) → (earlier es : List Entry) → Follows earlier es → Follows earlier (without_first test es)
follows_without test other earlier [] h = tt
follows_without test other earlier (e ∷ es) h =
    elim (test e) as (λ b. test e ≡ b → Follows earlier (cond b es (e ∷ without_first test es))) [
      | true ↦ λ is.
          let none : (o : List ℕ) → Any o → is_alternative_of o e ≡ false = λ o any. ap (λ b. b && bytes_eq e.name o) (other e is) in
          follows_served (earlier ++ e ∷ []) earlier es (serves_less Any earlier earlier e (serves_itself Any earlier) none) h.1
      | false ↦ λ is. (h.0, follows_without test other (earlier ++ e ∷ []) es h.1)
    ] refl

-- an entry that is found and is no alternative
checkpoint_is_other : (alt name : List ℕ) (e : Entry) → is_checkpoint_of alt name e ≡ true → is_alternative e.kind ≡ false
checkpoint_is_other alt name e = by_kind (is_alternative e.kind) (option_eq bytes_eq e.owner (Some alt)) (bytes_eq e.name name)
  where
    by_kind : (k o n : Bool) → ((not k && o) && n) ≡ true → k ≡ false
    by_kind true o n h = cc
    by_kind false o n h = refl

-- a checkpoint of `top` has the empty base
follows_unbased : (earlier es : List Entry) (alt name : List ℕ) (c : Entry) → Follows earlier es → find (is_checkpoint_of alt name) es ≡ Some c → alt ≡ codes "top" → c.base ≡ 0
follows_unbased earlier [] alt name c h is same = cc
follows_unbased earlier (e ∷ es) alt name c h is same =
    elim (is_checkpoint_of alt name e) as (λ b. is_checkpoint_of alt name e ≡ b → cond b (Some e) (find (is_checkpoint_of alt name) es) ≡ Some c → c.base ≡ 0) [
      | true ↦ λ it is.
          let here : e ≡ c = cc in
          ap (λ (d : Entry). d.base) (sym here) ∙ h.0.top (checkpoint_is_other alt name e it) (owner_is e.owner (middle (not (is_alternative e.kind)) (option_eq bytes_eq e.owner (Some alt)) (bytes_eq e.name name) it) ∙ ap (λ n. Some n) same)
      | false ↦ λ it is. follows_unbased (earlier ++ e ∷ []) es alt name c h.1 is same
    ] refl is
  where
    middle : (a b d : Bool) → ((a && b) && d) ≡ true → b ≡ true
    middle true true d h = refl
    middle true false d h = cc
    middle false b d h = cc

    owner_is : (o : Option (List ℕ)) → option_eq bytes_eq o (Some alt) ≡ true → o ≡ Some alt
    owner_is None h = cc
    owner_is (Some n) h = ap (λ k. Some k) ((bytes_eq-Decides n alt).0 h)

pub checkpoint_unbased : (es : List Entry) (alt name : List ℕ) (c : Entry) → IsLedger es → find (is_checkpoint_of alt name) es ≡ Some c → alt ≡ codes "top" → c.base ≡ 0
checkpoint_unbased [] alt name c h is same = absurd h
checkpoint_unbased (top ∷ es) alt name c h is same =
    let stays : is_checkpoint_of alt name top ≡ false = ap (λ k. (not (is_alternative k) && option_eq bytes_eq top.owner (Some alt)) && bytes_eq top.name name) h.0.kind in
    follows_unbased (top ∷ []) es alt name c h.1 (ap (λ b. cond b (Some top) (find (is_checkpoint_of alt name) es)) (sym stays) ∙ is) same

ledger_without : (alt name : List ℕ) (es : List Entry) → IsLedger es → IsLedger (without_first (is_checkpoint_of alt name) es)
ledger_without alt name [] h = absurd h
ledger_without alt name (top ∷ es) h =
    let test = is_checkpoint_of alt name in
    let stays : test top ≡ false = ap (λ k. (not (is_alternative k) && option_eq bytes_eq top.owner (Some alt)) && bytes_eq top.name name) h.0.kind in
    subst (λ b. IsLedger (cond b es (top ∷ without_first test es))) (sym stays) (h.0, follows_without test (checkpoint_is_other alt name) (top ∷ []) es h.1)

some_ledger : (es : List Entry) → IsLedger es → 0 < length es
some_ledger [] h = absurd h
some_ledger (e ∷ es) h = omega arith

pub fits_without : (limit : ℕ) (alt name : List ℕ) (es : List Entry) → SlotFits limit es → SlotFits limit (without_first (is_checkpoint_of alt name) es)
fits_without limit alt name es fits =
    let ledger = ledger_without alt name es fits.ledger in
    let fewer = length-without (is_checkpoint_of alt name) es in
    let head = fits.head in record {
      head = record { least = head.least; most = head.most; some = some_ledger _ ledger; few = omega (arith, fewer) };
      each = each_without EntryFits (is_checkpoint_of alt name) es fits.each;
      ledger = ledger;
    }

module _ (alt : List ℕ) where
  abbrev Other : List ℕ → Type 0
  Other o = bytes_eq o alt ≡ false

  -- an entry that stays has another owner, where none is a child
  apart_owner : (e : Entry) → is_apart alt e ≡ true → is_child_of alt e ≡ false → (o : List ℕ) → e.owner ≡ Some o → Other o
  apart_owner e stays childless o owner =
      ap (λ w. option_eq bytes_eq w (Some alt)) (sym owner) ∙ by_kind (is_alternative e.kind) (bytes_eq e.name alt) (option_eq bytes_eq e.owner (Some alt)) stays childless
    where
      by_kind : (k n w : Bool) → not ((k && n) || (not k && w)) ≡ true → (k && w) ≡ false → w ≡ false
      by_kind true n w h c = c
      by_kind false n true h c = cc
      by_kind false n false h c = refl

  -- and one that goes is no other alternative
  gone_other : (e : Entry) → is_apart alt e ≡ false → (o : List ℕ) → Other o → is_alternative_of o e ≡ false
  gone_other e goes o other =
      elim (is_alternative e.kind) as (λ k. not ((k && bytes_eq e.name alt) || (not k && option_eq bytes_eq e.owner (Some alt))) ≡ false → (k && bytes_eq e.name o) ≡ false) [
        | true ↦ λ goes. not_eq e.name o (λ same.
            let apart : bytes_eq e.name alt ≡ false = ap (λ n. bytes_eq n alt) same ∙ other in
            let stays : true ≡ false = sym (ap (λ b. not (b || false)) apart) ∙ goes in
            cc)
        | false ↦ λ goes. refl
      ] goes

  follows_apart : (earlier fewer es : List Entry) → Serves Other earlier fewer → Follows earlier es → list_any (is_child_of alt) es ≡ false → Follows fewer (filter (is_apart alt) es)
  follows_apart earlier fewer [] s h childless = tt
  follows_apart earlier fewer (e ∷ es) s h childless =
      let parts = or_parts (is_child_of alt e) (list_any (is_child_of alt) es) childless in
      elim (is_apart alt e) as (λ b. is_apart alt e ≡ b → Follows fewer (cond b (e ∷ filter (is_apart alt) es) (filter (is_apart alt) es))) [
        | true ↦ λ is. (may_serve Other earlier fewer e s (apart_owner e is parts.0) h.0, follows_apart (earlier ++ e ∷ []) (fewer ++ e ∷ []) es (serves_both Other earlier fewer e s) h.1 parts.1)
        | false ↦ λ is. follows_apart (earlier ++ e ∷ []) fewer es (serves_less Other earlier fewer e s (gone_other e is)) h.1 parts.1
      ] refl

  -- an alternative with an owner is not the first entry
  not_top : (top : Entry) (es : List Entry) (e : Entry) (parent : List ℕ) → IsTopEntry top → find (is_alternative_of alt) (top ∷ es) ≡ Some e → e.owner ≡ Some parent → is_alternative_of alt top ≡ false
  not_top top es e parent h is owner = elim (is_alternative_of alt top) as (λ b. cond b (Some top) (find (is_alternative_of alt) es) ≡ Some e → b ≡ false) [
    | true ↦ λ is. let same : top ≡ e = cc in let both : None ≡ Some parent = sym h.owner ∙ ap (λ (d : Entry). d.owner) same ∙ owner in cc
    | false ↦ λ is. refl
  ] is

  ledger_apart : (es : List Entry) (e : Entry) (parent : List ℕ) → IsLedger es → find (is_alternative_of alt) es ≡ Some e → e.owner ≡ Some parent → list_any (is_child_of alt) es ≡ false → IsLedger (filter (is_apart alt) es)
  ledger_apart [] e parent h is owner childless = absurd h
  ledger_apart (top ∷ es) e parent h is owner childless =
      let stays : is_apart alt top ≡ true =
      ap (λ b. not (b || is_checkpoint_under alt top)) (not_top top es e parent h.0 is owner) ∙ ap (λ k. not (not (is_alternative k) && option_eq bytes_eq top.owner (Some alt))) h.0.kind in
      let parts = or_parts (is_child_of alt top) (list_any (is_child_of alt) es) childless in
      subst (λ b. IsLedger (cond b (top ∷ filter (is_apart alt) es) (filter (is_apart alt) es))) (sym stays) (h.0, follows_apart (top ∷ []) (top ∷ []) es (serves_itself Other (top ∷ [])) h.1 parts.1)

  pub fits_apart : (limit : ℕ) (es : List Entry) (e : Entry) (parent : List ℕ) → SlotFits limit es → find (is_alternative_of alt) es ≡ Some e → e.owner ≡ Some parent → list_any (is_child_of alt) es ≡ false
      → SlotFits limit (filter (is_apart alt) es)
  fits_apart limit es e parent fits is owner childless =
      let ledger = ledger_apart es e parent fits.ledger is owner childless in
      let fewer = length-filtered (is_apart alt) es in
      let head = fits.head in record {
        head = record { least = head.least; most = head.most; some = some_ledger _ ledger; few = omega (arith, fewer) };
        each = each_filter EntryFits (is_apart alt) es fits.each;
        ledger = ledger;
      }
