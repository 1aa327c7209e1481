-- What lies under a list of children: taken apart at one of them, and joined.
use Rattle.std.proofs.Common.{◌≡◌, ℕ, zero, suc, ◌<◌, List, [], ◌∷◌, ◌++◌, length, get_or, take, drop, refl, sym, ap, ◌∙◌, subst, arith, append_assoc, append-nil}
use Rattle.std.specs.List.{AllByRecursion}
use Rattle.vm_block.proofs.EachLemmas.{each_front, each_back}
use Rattle.vm_block.specs.Leaf.{Record, BeginsWith}
use Rattle.vm_block.specs.declared.node.Child.{Child}
use Rattle.vm_tree.specs.Tree.{Children}

module _ (T : ℕ → List Record → List ℕ → Type 0) where
  -- what lies under the children before one of them, under it, and under those after it
  pub record SplitAt (cs : List Child) (i : ℕ) (d : Child) (rs : List Record) (bs : List ℕ) : Type 0 where
    pub before : List Record
    pub sub : List Record
    pub after : List Record
    pub left : List ℕ
    pub own : List ℕ
    pub right : List ℕ
    pub child : T (get_or cs i d).block sub own
    pub begins : BeginsWith (get_or cs i d).low sub
    pub front : Children T (take i cs) before left
    pub back : Children T (drop (suc i) cs) after right
    pub records : rs ≡ before ++ (sub ++ after)
    pub blocks : bs ≡ left ++ (own ++ right)

  pub split_at : (cs : List Child) (i : ℕ) (d : Child) (rs : List Record) (bs : List ℕ) → i < length cs → Children T cs rs bs → SplitAt cs i d rs bs
  split_at [] i d rs bs lt t = absurd (omega arith)
  split_at (c ∷ cs) zero d rs bs lt t = record {
    before = [];
    sub = t.0;
    after = t.1;
    left = [];
    own = t.2;
    right = t.3;
    child = t.4;
    begins = t.5;
    front = (refl, refl);
    back = t.6;
    records = t.7;
    blocks = t.8;
  }
  split_at (c ∷ cs) (suc i) d rs bs lt t =
      let s = split_at cs i d t.1 t.3 (omega arith) t.6 in
      record {
        before = t.0 ++ s.before;
        sub = s.sub;
        after = s.after;
        left = t.2 ++ s.left;
        own = s.own;
        right = s.right;
        child = s.child;
        begins = s.begins;
        front = (t.0, s.before, t.2, s.left, t.4, t.5, s.front, refl, refl);
        back = s.back;
        records = t.7 ∙ ap (λ z. t.0 ++ z) s.records ∙ sym (append_assoc t.0 s.before (s.sub ++ s.after));
        blocks = t.8 ∙ ap (λ z. t.2 ++ z) s.blocks ∙ sym (append_assoc t.2 s.left (s.own ++ s.right));
      }

  pub children_join : (cs ds : List Child) (rs qs : List Record) (bs es : List ℕ) → Children T cs rs bs → Children T ds qs es → Children T (cs ++ ds) (rs ++ qs) (bs ++ es)
  children_join [] ds rs qs bs es t u =
      subst (λ (z : List Record). Children T ds (z ++ qs) (bs ++ es)) (sym t.0) (subst (λ (z : List ℕ). Children T ds qs (z ++ es)) (sym t.1) u)
  children_join (c ∷ cs) ds rs qs bs es t u =
      (t.0, t.1 ++ qs, t.2, t.3 ++ es, t.4, t.5, children_join cs ds t.1 qs t.3 es t.6 u, ap (λ z. z ++ qs) t.7 ∙ append_assoc t.0 t.1 qs, ap (λ z. z ++ es) t.8 ∙ append_assoc t.2 t.3 es)

  -- one child alone
  pub child_alone : (c : Child) (rs : List Record) (bs : List ℕ) → T c.block rs bs → BeginsWith c.low rs → Children T (c ∷ []) rs bs
  child_alone c rs bs t begins = (rs, [], bs, [], t, begins, (refl, refl), sym (append-nil rs), sym (append-nil bs))

  -- a list of children cut in two
  pub record CutAt (cs : List Child) (i : ℕ) (rs : List Record) (bs : List ℕ) : Type 0 where
    pub before : List Record
    pub after : List Record
    pub left : List ℕ
    pub right : List ℕ
    pub front : Children T (take i cs) before left
    pub back : Children T (drop i cs) after right
    pub records : rs ≡ before ++ after
    pub blocks : bs ≡ left ++ right

  pub cut_at : (cs : List Child) (i : ℕ) (rs : List Record) (bs : List ℕ) → Children T cs rs bs → CutAt cs i rs bs
  cut_at cs zero rs bs t = record {
    before = [];
    after = rs;
    left = [];
    right = bs;
    front = (refl, refl);
    back = t;
    records = refl;
    blocks = refl;
  }
  cut_at [] (suc i) rs bs t = record {
    before = [];
    after = rs;
    left = [];
    right = bs;
    front = (refl, refl);
    back = t;
    records = refl;
    blocks = refl;
  }
  cut_at (c ∷ cs) (suc i) rs bs t =
      let s = cut_at cs i t.1 t.3 t.6 in
      record {
        before = t.0 ++ s.before;
        after = s.after;
        left = t.2 ++ s.left;
        right = s.right;
        front = (t.0, s.before, t.2, s.left, t.4, t.5, s.front, refl, refl);
        back = s.back;
        records = t.7 ∙ ap (λ z. t.0 ++ z) s.records ∙ sym (append_assoc t.0 s.before s.after);
        blocks = t.8 ∙ ap (λ z. t.2 ++ z) s.blocks ∙ sym (append_assoc t.2 s.left s.right);
      }

-- what lies under children, in other contents
pub children_in : (P : ℕ → Type 0) (T U : ℕ → List Record → List ℕ → Type 0) → ((b : ℕ) (rs : List Record) (bs : List ℕ) → T b rs bs → AllByRecursion P bs → U b rs bs)
    → (cs : List Child) (rs : List Record) (bs : List ℕ) → Children T cs rs bs → AllByRecursion P bs → Children U cs rs bs
children_in P T U so [] rs bs t all = t
children_in P T U so (c ∷ cs) rs bs t all =
    let own = t.2 in
    let others = t.3 in
    let whole = subst (AllByRecursion P) t.8 all in
    (t.0, t.1, own, others, so c.block t.0 own t.4 (each_front P own others whole), t.5, children_in P T U so cs t.1 others t.6 (each_back P own others whole), t.7, t.8)
