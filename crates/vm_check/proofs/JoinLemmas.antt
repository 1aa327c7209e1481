-- Lists of blocks that are joined, one for each element of another list.
use Rattle.std.proofs.Common.{◌≡◌, ℕ, zero, suc, ◌+◌, ◌<◌, List, [], ◌∷◌, ◌++◌, length, get_or, take, refl, sym, ap, ◌∙◌, subst, arith, append_assoc, append-nil, add-one}
use Rattle.vm_check.specs.Marks.{Joined}

module _ {X : Type 0} (T : X → List ℕ → Type 0) where
  -- the blocks of the elements before one, and its own
  pub record LastOf (xs : List X) (i : ℕ) (d : X) (bs : List ℕ) : Type 0 where
    pub before : List ℕ
    pub own : List ℕ
    pub front : Joined T (take i xs) before
    pub last : T (get_or xs i d) own
    pub blocks : bs ≡ before ++ own

  last_at : (xs : List X) (i : ℕ) (d : X) (bs : List ℕ) → i < length xs → Joined T (take (suc i) xs) bs → LastOf xs i d bs
  last_at [] i d bs lt t = absurd (omega arith)
  last_at (x ∷ xs) zero d bs lt t = record {
    before = [];
    own = t.0;
    front = refl;
    last = t.2;
    blocks = t.4 ∙ ap (λ z. t.0 ++ z) t.3 ∙ append-nil t.0;
  }
  last_at (x ∷ xs) (suc i) d bs lt t =
      let s = last_at xs i d t.1 (omega arith) t.3 in
      record {
        before = t.0 ++ s.before;
        own = s.own;
        front = (t.0, s.before, t.2, s.front, refl);
        last = s.last;
        blocks = t.4 ∙ ap (λ z. t.0 ++ z) s.blocks ∙ sym (append_assoc t.0 s.before s.own);
      }

  pub last_of : (xs : List X) (i : ℕ) (d : X) (bs : List ℕ) → i < length xs → Joined T (take (i + 1) xs) bs → LastOf xs i d bs
  last_of xs i d bs lt t = last_at xs i d bs lt (subst (λ n. Joined T (take n xs) bs) (add-one i) t)

  -- the blocks of the first elements
  pub joined_front : (xs : List X) (i : ℕ) (bs : List ℕ) → Joined T xs bs → (ds : List ℕ) × Joined T (take i xs) ds
  joined_front xs zero bs t = ([], refl)
  joined_front [] (suc i) bs t = ([], refl)
  joined_front (x ∷ xs) (suc i) bs t = let rest = joined_front xs i t.1 t.3 in (t.0 ++ rest.0, (t.0, rest.0, t.2, rest.1, refl))
