-- Texts that are written in part.
use Rattle.std.proofs.Common.{◌≡◌, ◌<◌, ◌+◌, ◌++◌, ◌∙◌, ℕ, zero, suc, List, [], ◌∷◌, Option, Result, Ok, Err, IsErrAnd, OnErr, OnOk, flat_map, slice_index_or, ap, sym, refl, arith, add-one, subst, append-nil, append_assoc, length, take, drop, take-append-drop}
use Rattle.std.specs.Io.KnownBytes.{Appends}
use Rattle.vm_cli.specs.answers.Carried.{WritesStart, Carries}
use Rattle.vm_cli.proofs.Known.{Appends-nil, Appends-then}

-- nothing was written
pub carries-nothing : (a : Option (List ℕ)) (text : List ℕ) → Carries a a text text
carries-nothing a text = record { sent = []; split = refl; written = Appends-nil a }

-- all was written
pub carries-all : (a b : Option (List ℕ)) (text : List ℕ) → Appends a b text → Carries a b [] text
carries-all a b text p = record { sent = text; split = sym (append-nil text); written = p }

-- what was left was written in part
pub carries-then : (a b c : Option (List ℕ)) (rest left whole : List ℕ) → Carries a b rest whole → Carries b c left rest → Carries a c left whole
carries-then a b c rest left whole p q = record {
  sent = p.sent ++ q.sent;
  split = p.split ∙ rw q.split (sym (append_assoc p.sent q.sent left));
  written = Appends-then a b c p.sent q.sent p.written q.written;
}

-- the text grows
pub carries-more : (a b : Option (List ℕ)) (rest grown whole more : List ℕ) → Carries a b rest whole → grown ≡ rest ++ more → Carries a b grown (whole ++ more)
carries-more a b rest grown whole more p e = record {
  sent = p.sent;
  split = rw (p.split, e) (append_assoc p.sent rest more);
  written = p.written;
}

-- the rest was written
pub carries-end : (a b c : Option (List ℕ)) (rest whole : List ℕ) → Carries a b rest whole → Appends b c rest → Appends a c whole
carries-end a b c rest whole p q = rw p.split (Appends-then a b c p.sent rest p.written q)

-- a write failed
pub begins-cut : (a b : Option (List ℕ)) (text : List ℕ) (k : ℕ) → Appends a b (take k text) → WritesStart a b text
begins-cut a b text k p = record {
  rest = drop k text;
  carries = record { sent = take k text; split = sym (take-append-drop k text); written = p };
}

-- what was left was begun
pub begins-then : (a b c : Option (List ℕ)) (rest whole : List ℕ) → Carries a b rest whole → WritesStart b c rest → WritesStart a c whole
begins-then a b c rest whole p q = record { rest = q.rest; carries = carries-then a b c rest q.rest whole p q.carries }

-- a beginning of more
pub begins-more : (a b : Option (List ℕ)) (whole more : List ℕ) → WritesStart a b whole → WritesStart a b (whole ++ more)
begins-more a b whole more p = record { rest = p.rest ++ more; carries = carries-more a b p.rest (p.rest ++ more) whole more p.carries refl }

pub on_err : {T E P : Type 0} (r : Result T E) → P → OnErr r P
on_err (Ok x) p = tt
on_err (Err e) p = p

-- a fault that is passed on is the answer
pub passed_on : {T E : Type 0} {e : E} (r : Result T E) → IsErrAnd r (λ fault. fault ≡ e) → r ≡ Err e
passed_on (Ok x) is = absurd is
passed_on (Err fault) is = ap Err is

-- one more line of a list
pub flat_map-more : {X : Type 0} (f : X → List ℕ) (xs : List X) (i : ℕ) (x : X) → i < length xs → slice_index_or xs i x ≡ x → flat_map f (take (i + 1) xs) ≡ flat_map f (take i xs) ++ f x
flat_map-more f [] i x lt e = absurd (omega arith)
flat_map-more f (y ∷ xs) zero x lt e = rw (sym e) (append-nil (f y))
flat_map-more f (y ∷ xs) (suc i) x lt e =
    let rest : flat_map f (take (suc i) xs) ≡ flat_map f (take i xs) ++ f x = rw (← add-one i) (flat_map-more f xs i x (omega arith) e) in
    rw (add-one (suc i), rest) (sym (append_assoc (f y) (flat_map f (take i xs)) (f x)))

-- the beginning of a list is the beginning of its lines
pub begins-list : {X : Type 0} (f : X → List ℕ) (xs : List X) (i : ℕ) (a b : Option (List ℕ)) → WritesStart a b (flat_map f (take i xs)) → WritesStart a b (flat_map f xs)
begins-list f xs i a b h =
    subst (WritesStart a b) (sym (flat_map-split f xs i)) (begins-more a b (flat_map f (take i xs)) (flat_map f (drop i xs)) h)
  where
    flat_map-split : {X : Type 0} (f : X → List ℕ) (xs : List X) (i : ℕ) → flat_map f xs ≡ flat_map f (take i xs) ++ flat_map f (drop i xs)
    flat_map-split f xs zero = refl
    flat_map-split f [] (suc i) = refl
    flat_map-split f (y ∷ xs) (suc i) = rw (flat_map-split f xs i) (sym (append_assoc (f y) (flat_map f (take i xs)) (flat_map f (drop i xs))))

pub on_ok : {T E P : Type 0} (r : Result T E) → P → OnOk r P
on_ok (Ok t) p = p
on_ok (Err e) p = tt

-- the whole is a beginning
pub begins-whole : (a b : Option (List ℕ)) (whole : List ℕ) → Appends a b whole → WritesStart a b whole
begins-whole a b whole p = record { rest = []; carries = carries-all a b whole p }
