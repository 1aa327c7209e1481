-- How entries follow one another, one more at a time.
use Rattle.std.proofs.Common.{◌≡◌, ℕ, zero, suc, ◌+◌, ◌<◌, ◌≤◌, List, [], ◌∷◌, ◌++◌, length, take, drop, get_or, sym, ap, ◌∙◌, subst, arith, add-one, append_assoc}
use Rattle.std.proofs.lemmas.List.{append-nil, take_more, take-append-drop, drop_more}
use Rattle.vm_block.specs.Slot.{MayFollow, Follows}
use Rattle.vm_block.specs.declared.slot.Entry.{Entry}

-- the last one may follow too
follows_push : (earlier xs : List Entry) (e : Entry) → Follows earlier xs → MayFollow (earlier ++ xs) e → Follows earlier (xs ++ e ∷ [])
follows_push earlier [] e so_far may =
    let P : List Entry → Type 0 = λ es. MayFollow es e in (subst P (append-nil earlier) may, tt)
follows_push earlier (x ∷ xs) e so_far may =
    let P : List Entry → Type 0 = λ es. MayFollow es e in
    (so_far.0, follows_push (earlier ++ x ∷ []) xs e so_far.1 (subst P (sym (append_assoc earlier (x ∷ []) xs)) may))

-- one among them
follows_at : (earlier xs ys : List Entry) (e : Entry) → Follows earlier (xs ++ e ∷ ys) → MayFollow (earlier ++ xs) e
follows_at earlier [] ys e all =
    let P : List Entry → Type 0 = λ es. MayFollow es e in subst P (sym (append-nil earlier)) all.0
follows_at earlier (x ∷ xs) ys e all =
    let P : List Entry → Type 0 = λ es. MayFollow es e in
    subst P (append_assoc earlier (x ∷ []) xs) (follows_at (earlier ++ x ∷ []) xs ys e all.1)

-- entry i may follow those before it
pub follows_more : (es : List Entry) (i : ℕ) (e : Entry) → 1 ≤ i → i < length es → e ≡ get_or es i e → Follows (take 1 es) (drop 1 (take i es)) → MayFollow (take i es) e → Follows (take 1 es) (drop 1 (take (i + 1) es))
follows_more [] i e low high is so_far may = absurd (omega arith)
follows_more (x ∷ xs) zero e low high is so_far may = absurd (omega arith)
follows_more (x ∷ xs) (suc j) e low high is so_far may =
    let more : take (suc j) xs ≡ take j xs ++ e ∷ [] = rw (add-one) at (take_more xs j e (omega arith)) ∙ ap (λ (y : Entry). take j xs ++ y ∷ []) (sym is) in
    let P : List Entry → Type 0 = λ es. Follows (x ∷ []) es in
    rw add-one (subst P (sym more) (follows_push (x ∷ []) (take j xs) e so_far may))

pub follows_there : (es : List Entry) (i : ℕ) (e : Entry) → 1 ≤ i → i < length es → e ≡ get_or es i e → Follows (take 1 es) (drop 1 es) → MayFollow (take i es) e
follows_there [] i e low high is all = absurd (omega arith)
follows_there (x ∷ xs) zero e low high is all = absurd (omega arith)
follows_there (x ∷ xs) (suc j) e low high is all =
    let split : xs ≡ take j xs ++ e ∷ drop (j + 1) xs = sym (take-append-drop j xs) ∙ ap (λ (ys : List Entry). take j xs ++ ys) (drop_more xs j e (omega arith) ∙ ap (λ (y : Entry). y ∷ drop (j + 1) xs) (sym is)) in
    let P : List Entry → Type 0 = λ es. Follows (x ∷ []) es in
    follows_at (x ∷ []) (take j xs) (drop (j + 1) xs) e (subst P split all)
