-- The tops of subtrees at rising levels: the first of them, and what is left where its level changes.
use Rattle.std.proofs.Common.{◌≡◌, ℕ, zero, suc, ◌+◌, ◌-◌, ◌<◌, List, [], ◌∷◌, ◌++◌, length, get_or, drop, Some, refl, sym, ap, ap₂, ◌∙◌, arith, length-append}
use Rattle.std.proofs.Math.ListN.{set}
use Rattle.std.proofs.lemmas.List.{length-map}
use Rattle.vm_types.specs.declared.key.Key.{Key}
use Rattle.vm_block.specs.Leaf.{Record}
use Rattle.vm_block.specs.declared.node.Child.{Child}
use Rattle.vm_tree.specs.declared.root.Root.{Root}
use Rattle.vm_diff.specs.Walk.{tops_of}
use Rattle.vm_diff.specs.Ahead.{PassedBoth, first_key, first_top, tops_in}
use Rattle.vm_diff.specs.Front.{first_of}
use Rattle.vm_diff.specs.Front.Front.{Pair, Top}

-- the top of one subtree
abbrev pub top_of : ℕ → Child → Root
top_of level c = record { block = c.block; level = level; low = c.low }

-- where the first of these tops stands, and what comes where its level, or the one below it, has other children
pub record Standing (j : ℕ) (ls : List (List Child)) (top : Root) (ts : List Root) : Type 0 where
  pub index : ℕ
  pub level : top.level ≡ j + index
  pub within : index < length ls
  pub child : Child
  pub rest : List Child
  pub here : (d : List Child) → get_or ls index d ≡ child ∷ rest
  pub after : List Root
  pub left : ts ≡ tops_of top.level rest ++ after
  pub whole : tops_in j ls ≡ tops_of top.level (child ∷ rest) ++ after
  pub put : (cs : List Child) → tops_in j (set ls index cs) ≡ tops_of top.level cs ++ after
  pub under : (i : ℕ) (cs ds : List Child) → suc i ≡ index → tops_in j (set (set ls index cs) i ds) ≡ tops_of (top.level - 1) ds ++ (tops_of top.level cs ++ after)

pub standing : (ls : List (List Child)) (j : ℕ) (top : Root) (ts : List Root) → tops_in j ls ≡ top ∷ ts → Standing j ls top ts
standing [] j top ts is = cc
standing ([] ∷ css) j top ts is =
    let s = standing css (suc j) top ts is in
    record {
      index = suc s.index;
      level = omega (arith, s.level);
      within = omega (arith, s.within);
      child = s.child;
      rest = s.rest;
      here = s.here;
      after = s.after;
      left = s.left;
      whole = s.whole;
      put = s.put;
      under = below s;
    }
  where
    below : (s : Standing (suc j) css top ts) (i : ℕ) (cs ds : List Child) → suc i ≡ suc s.index → tops_in j (set (set ([] ∷ css) (suc s.index) cs) i ds) ≡ tops_of (top.level - 1) ds ++ (tops_of top.level cs ++ s.after)
    below s zero cs ds e =
        let same : j ≡ top.level - 1 = omega (arith, s.level, e) in
        ap₂ (λ l ts. tops_of l ds ++ ts) same (s.put cs)
    below s (suc i) cs ds e = s.under i cs ds (omega (arith, e))
standing ((c ∷ cs) ∷ css) j top ts is =
    let first : top_of j c ≡ top = cc in
    let next : tops_of j cs ++ tops_in (suc j) css ≡ ts = cc in
    let at : j ≡ top.level = ap (λ (t : Root). t.level) first in
    record {
      index = 0;
      level = omega (arith, at);
      within = omega arith;
      child = c;
      rest = cs;
      here = λ d. refl;
      after = tops_in (suc j) css;
      left = sym next ∙ ap (λ l. tops_of l cs ++ tops_in (suc j) css) at;
      whole = ap (λ l. tops_of l (c ∷ cs) ++ tops_in (suc j) css) at;
      put = λ es. ap (λ l. tops_of l es ++ tops_in (suc j) css) at;
      under = λ i es ds e. absurd (omega (arith, e));
    }

-- # What a walk stands before

pub tops_first : (ps : List Record) (ts : List Root) (top : Root) → first_of ps ts ≡ Top top → ts ≡ top ∷ drop 1 ts
tops_first [] [] top e = cc
tops_first [] (t ∷ ts) top e = let same : t ≡ top = cc in ap (λ (u : Root). u ∷ ts) same
tops_first (r ∷ ps) ts top e = cc

-- the top that a walk stands before
pub first_standing : (ps : List Record) (ls : List (List Child)) (top : Root) → first_of ps (tops_in 0 ls) ≡ Top top → Standing 0 ls top (drop 1 (tops_in 0 ls))
first_standing ps ls top front = standing ls 0 top (drop 1 (tops_in 0 ls)) (tops_first ps (tops_in 0 ls) top front)

-- past it
pub top_passed : (ls : List (List Child)) (top : Root) (cs d : List Child) (ts : List Root) (s : Standing 0 ls top ts) → cs ≡ drop 1 (get_or ls top.level d) → tops_in 0 (set ls top.level cs) ≡ ts
top_passed ls top cs d ts s is =
    let same : top.level ≡ s.index = omega (arith, s.level) in
    let rest : cs ≡ s.rest = is ∙ ap (λ m. drop 1 (get_or ls m d)) same ∙ ap (λ (ds : List Child). drop 1 ds) (s.here d) in
    ap₂ (λ m ds. tops_in 0 (set ls m ds)) same rest ∙ s.put s.rest ∙ sym s.left

-- and where the inner block under it was opened
pub top_opened : (ls : List (List Child)) (top : Root) (m : ℕ) (cs d ds : List Child) (ts : List Root) (s : Standing 0 ls top ts) → m ≡ top.level - 1 → 0 < top.level → cs ≡ drop 1 (get_or ls top.level d)
    → tops_in 0 (set (set ls top.level cs) m ds) ≡ tops_of (top.level - 1) ds ++ ts
top_opened ls top m cs d ds ts s below some is =
    let same : top.level ≡ s.index = omega (arith, s.level) in
    let rest : cs ≡ s.rest = is ∙ ap (λ k. drop 1 (get_or ls k d)) same ∙ ap (λ (es : List Child). drop 1 es) (s.here d) in
    ap₂ (λ k es. tops_in 0 (set (set ls k es) m ds)) same rest ∙ s.under m s.rest ds (omega (arith, same, below, some)) ∙ ap (λ us. tops_of (top.level - 1) ds ++ us) (sym s.left)

-- where no level had a child, one child is the only top
pub only_top : (ls : List (List Child)) (j index level : ℕ) (c : Child) (cs : List Child) → tops_in j ls ≡ [] → index < length ls → level ≡ j + index → cs ≡ c ∷ [] → tops_in j (set ls index cs) ≡ top_of level c ∷ []
only_top [] j index level c cs none within at is = absurd (omega (arith, within))
only_top ([] ∷ css) j zero level c cs none within at is =
    ap (λ (ds : List Child). tops_of j ds ++ tops_in (suc j) css) is ∙ ap₂ (λ l ts. top_of l c ∷ ts) (omega (arith, at)) none
only_top ([] ∷ css) j (suc index) level c cs none within at is = only_top css (suc j) index level c cs none (omega (arith, within)) (omega (arith, at)) is
only_top ((d ∷ ds) ∷ css) j index level c cs none within at is = cc

-- # What two walks share at one level

tops_front : (level : ℕ) (front cs : List Child) (after : List Root) → tops_of level (front ++ cs) ++ after ≡ tops_of level front ++ (tops_of level cs ++ after)
tops_front level [] cs after = refl
tops_front level (c ∷ front) cs after = ap (λ ts. top_of level c ∷ ts) (tops_front level front cs after)

-- one side of two that pass the same children
tops_left : (ls : List (List Child)) (top : Root) (n : ℕ) (front cs d : List Child) (ts : List Root) (s : Standing 0 ls top ts) → n ≡ top.level → get_or ls n d ≡ front ++ cs → tops_in 0 ls ≡ tops_of n front ++ tops_in 0 (set ls n cs)
tops_left ls top n front cs d ts s at is =
    let same : n ≡ s.index = omega (arith, at, s.level) in
    let held : s.child ∷ s.rest ≡ front ++ cs = sym (s.here d) ∙ ap (λ m. get_or ls m d) (sym same) ∙ is in
    s.whole
    ∙ ap (λ ds. tops_of top.level ds ++ s.after) held
    ∙ tops_front top.level front cs s.after
    ∙ ap (λ us. tops_of top.level front ++ us) (sym (ap (λ m. tops_in 0 (set ls m cs)) same ∙ s.put cs))
    ∙ ap (λ l. tops_of l front ++ tops_in 0 (set ls n cs)) (sym at)

-- where a top comes first, it stands at its level
pub named_standing : (ls : List (List Child)) (top : Root) → Some top ≡ first_top (tops_in 0 ls) → Standing 0 ls top (drop 1 (tops_in 0 ls))
named_standing ls top is = standing ls 0 top (drop 1 (tops_in 0 ls)) (first_is (tops_in 0 ls) is)
  where
    first_is : (ts : List Root) → Some top ≡ first_top ts → ts ≡ top ∷ drop 1 ts
    first_is [] e = cc
    first_is (t ∷ ts) e = let same : t ≡ top = cc in ap (λ (u : Root). u ∷ ts) same

-- both sides pass the same children
pub tops_both : (ls ks : List (List Child)) (here there : Root) (cs ds d e : List Child) → Standing 0 ls here (drop 1 (tops_in 0 ls)) → Standing 0 ks there (drop 1 (tops_in 0 ks)) → here.level ≡ there.level
    → PassedBoth (get_or ls here.level d) (get_or ks here.level e) cs ds → PassedBoth (tops_in 0 ls) (tops_in 0 ks) (tops_in 0 (set ls here.level cs)) (tops_in 0 (set ks here.level ds))
tops_both ls ks here there cs ds d e s t level p = record {
  front = tops_of here.level p.front;
  first = tops_left ls here here.level p.front cs d (drop 1 (tops_in 0 ls)) s refl p.first;
  second = tops_left ks there here.level p.front ds e (drop 1 (tops_in 0 ks)) t level p.second;
}

-- and where that were some, fewer tops are left
pub tops_fewer : (ls : List (List Child)) (here : Root) (front cs d : List Child) → Standing 0 ls here (drop 1 (tops_in 0 ls)) → get_or ls here.level d ≡ front ++ cs → length cs < length (get_or ls here.level d)
    → length (tops_in 0 (set ls here.level cs)) < length (tops_in 0 ls)
tops_fewer ls here front cs d s is lt =
    let left = tops_left ls here here.level front cs d (drop 1 (tops_in 0 ls)) s refl is in
    omega (
      arith,
      lt,
      ap (λ (es : List Child). length es) is,
      length-append front cs,
      ap (λ (ts : List Root). length ts) left,
      length-append (tops_of here.level front) (tops_in 0 (set ls here.level cs)),
      length-map front (top_of here.level),
    )

-- a walk whose first record has a key stands before it
pub front_key : (ps : List Record) (ts : List Root) (key : Key) → Some key ≡ first_key ps → (value : List ℕ) × (first_of ps ts ≡ Pair key value)
front_key [] ts key e = cc
front_key (r ∷ ps) ts key e = let same : r.0 ≡ key = cc in (r.1, ap (λ l. Pair l r.1) same)
