-- Blocks of a tree that were written anew: a leaf, an inner block over what was made before, and both of two.
use Rattle.std.proofs.Common.{◌≡◌, ℕ, suc, ◌+◌, ◌-◌, ◌<◌, ◌≤◌, ◌^◌, List, [], ◌∷◌, ◌++◌, length, take, drop, refl, sym, ap, subst, arith, take-append-drop}
use Rattle.std.specs.Prelude.{slice_index_or}
use Rattle.std.specs.List.{AllByRecursion}
use Rattle.vm_types.specs.declared.key.Key.{Key}
use Rattle.vm_types.specs.Places.{place, KeyFits, RisesFrom, places}
use Rattle.vm_disk.specs.Disk.{Contents, block}
use Rattle.vm_block.specs.Leaf.{HasRecords, Record, BeginsWith}
use Rattle.vm_block.specs.Node.{ChildFits, IsNode, lows, node_bytes}
use Rattle.vm_block.specs.Way.{Lowest}
use Rattle.vm_block.specs.declared.node.Child.{Child}
use Rattle.vm_block.proofs.EachLemmas.{each_front, each_back, each_join, each_so}
use Rattle.vm_tree.specs.Tree.{Sizes, IsData, Children, Subtree}
use Rattle.vm_tree.specs.Splits.{Made}
use Rattle.vm_tree.proofs.TreeLemmas.{subtree_in, leaf_closes, node_closes}
use Rattle.vm_tree.proofs.Rising.{rises_back}
use Rattle.vm_tree.proofs.Splitting.{children_in, children_join, child_alone, cut_at}

-- lowest keys rise as the records under them do
pub lows_rise : (T : ℕ → List Record → List ℕ → Type 0) (cs : List Child) (low : ℕ) (rs : List Record) (bs : List ℕ) → Children T cs rs bs → RisesFrom low (places rs) → RisesFrom low (lows cs)
lows_rise T [] low rs bs t rises = tt
lows_rise T (c ∷ cs) low rs bs t rises =
    let R : List Record → Type 0 = λ qs. RisesFrom low (places qs) in
    from_first t.0 t.5 (subst R t.7 rises) (λ from rest. lows_rise T cs from t.1 t.3 t.6 rest)
  where
    from_first : (first : List Record) → BeginsWith c.low first → RisesFrom low (places (first ++ t.1)) → ((from : ℕ) → RisesFrom from (places t.1) → RisesFrom from (lows cs)) → RisesFrom low (lows (c ∷ cs))
    from_first [] begins rising more = absurd begins
    from_first (y ∷ first) begins rising more =
        let here : place y.0 ≡ place c.low = ap place begins in
        (omega (arith, rising.0, here), subst (λ p. RisesFrom (p + 1) (lows cs)) here (more (place y.0 + 1) (rises_back (place y.0 + 1) first t.1 rising.1)))

-- records that begin with a key begin with it, whatever follows
pub begins_more : (low : Key) (xs ys : List Record) → BeginsWith low xs → BeginsWith low (xs ++ ys)
begins_more low [] ys begins = absurd begins
begins_more low (x ∷ xs) ys begins = begins

-- what lies under children begins with the first lowest key
pub children_begin : (T : ℕ → List Record → List ℕ → Type 0) (cs : List Child) (d : Child) (rs : List Record) (bs : List ℕ) → 0 < length cs → Children T cs rs bs → BeginsWith (slice_index_or cs 0 d).low rs
children_begin T [] d rs bs some t = absurd (omega arith)
children_begin T (c ∷ cs) d rs bs some t = subst (BeginsWith c.low) (sym t.7) (begins_more c.low t.0 t.1 t.5)

-- the first of them
first_of_each : {X : Type 0} (P : X → Type 0) (xs : List X) (d : X) → 0 < length xs → AllByRecursion P xs → P (slice_index_or xs 0 d)
first_of_each P [] d some all = absurd (omega arith)
first_of_each P (x ∷ xs) d some all = all.0

-- what was made can stand under an inner block
pub node_is : (P : ℕ → Type 0) (sizes : Sizes) (x : Contents) (limit level : ℕ) (bytes : List ℕ) (cs : List Child) (rs : List Record) → bytes ≡ node_bytes level cs → 0 < level → level ≤ 7 → 0 < length cs → length cs ≤ 256
    → RisesFrom 0 (places rs) → Made P sizes x limit (level - 1) cs rs → IsNode bytes level cs
node_is P sizes x limit level bytes cs rs spelled above low some few rises made = record {
  spelled = spelled;
  above = above;
  low = low;
  some = some;
  few = few;
  fit = made.fit;
  rising = lows_rise (Subtree sizes x limit (level - 1)) cs 0 rs made.blocks made.under rises;
}

-- the lowest key that was read is that of the first child
pub lowest_low : (cs : List Child) (d : Child) (key : Key) → Lowest key cs → (slice_index_or cs 0 d).low ≡ key
lowest_low [] d key lowest = absurd lowest
lowest_low (c ∷ cs) d key lowest = lowest

module _ (P Q : ℕ → Type 0) (sizes : Sizes) (x y : Contents) (limit : ℕ) where
  -- what was made stands in other contents that have the same bytes in its blocks
  pub made_in : ((n : ℕ) → P n → block y n ≡ block x n) → ((n : ℕ) → P n → Q n) → (l : ℕ) (cs : List Child) (rs : List Record) → Made P sizes x limit l cs rs → Made Q sizes y limit l cs rs
  made_in same so l cs rs made = record {
    blocks = made.blocks;
    under = children_in P (Subtree sizes x limit l) (Subtree sizes y limit l) (subtree_in P sizes x y limit same l) cs rs made.blocks made.under made.each;
    each = each_so P Q so made.blocks made.each;
    fit = made.fit;
  }

  -- an inner block was written over what was made
  pub node_made : ((n : ℕ) → P n → block y n ≡ block x n) → ((n : ℕ) → P n → Q n) → (level n : ℕ) (cs : List Child) (d : Child) (rs : List Record) → 0 < level → level ≤ 7 → 0 < length cs → length cs ≤ 256 → length cs ≤ sizes.fan
      → IsData limit n → n < 2 ^ 32 → Q n → block y n ≡ node_bytes level cs → RisesFrom 0 (places rs) → Made P sizes x limit (level - 1) cs rs
      → Made Q sizes y limit level (record { low = (slice_index_or cs 0 d).low; block = n } ∷ []) rs
  node_made same so level n cs d rs above low some few fan inside small is spelled rises made =
      let up : suc (level - 1) ≡ level = omega arith in
      let now = made_in same so (level - 1) cs rs made in
      let below = Subtree sizes y limit (level - 1) in
      let node : IsNode (block y n) level cs = record {
        spelled = spelled;
        above = above;
        low = low;
        some = some;
        few = few;
        fit = made.fit;
        rising = lows_rise below cs 0 rs now.blocks now.under rises;
      } in
      let top : Subtree sizes y limit (suc (level - 1)) n rs (n ∷ now.blocks) = node_closes sizes y limit (level - 1) n rs (n ∷ now.blocks) (record {
        place = inside;
        children = cs;
        under = now.blocks;
        node = subst (λ l. IsNode (block y n) l cs) (sym up) node;
        few = fan;
        below = now.under;
        first = refl;
      }) in
      let child : Child = record { low = (slice_index_or cs 0 d).low; block = n } in
      record {
        blocks = n ∷ now.blocks;
        under = child_alone (Subtree sizes y limit level) child rs (n ∷ now.blocks) (subst (λ l. Subtree sizes y limit l n rs (n ∷ now.blocks)) up top) (children_begin below cs d rs now.blocks some now.under);
        each = (is, now.each);
        fit = (((first_of_each ChildFits cs d some made.fit).0, small), tt);
      }

-- a leaf was written
pub leaf_made : (Q : ℕ → Type 0) (sizes : Sizes) (y : Contents) (limit n : ℕ) (low : Key) (bytes : List ℕ) (rs : List Record) → HasRecords bytes rs
    → IsData limit n → n < 2 ^ 32 → Q n → block y n ≡ bytes → KeyFits low → BeginsWith low rs → Made Q sizes y limit 0 (record { low = low; block = n } ∷ []) rs
leaf_made Q sizes y limit n low bytes rs leaf inside small is spelled fits begins =
    let top : Subtree sizes y limit 0 n rs (n ∷ []) = leaf_closes sizes y limit n rs (n ∷ []) (record {
      place = inside;
      leaf = subst (λ (b : List ℕ). HasRecords b rs) (sym spelled) leaf;
      first = refl;
    }) in
    record {
      blocks = n ∷ [];
      under = child_alone (Subtree sizes y limit 0) (record { low = low; block = n }) rs (n ∷ []) top begins;
      each = (is, tt);
      fit = ((fits, small), tt);
    }

module _ (P : ℕ → Type 0) (sizes : Sizes) (x : Contents) (limit : ℕ) where
  -- what was made, side by side
  pub made_join : (l : ℕ) (cs ds : List Child) (rs qs : List Record) → Made P sizes x limit l cs rs → Made P sizes x limit l ds qs → Made P sizes x limit l (cs ++ ds) (rs ++ qs)
  made_join l cs ds rs qs a b = record {
    blocks = a.blocks ++ b.blocks;
    under = children_join (Subtree sizes x limit l) cs ds rs qs a.blocks b.blocks a.under b.under;
    each = each_join P a.blocks b.blocks a.each b.each;
    fit = each_join ChildFits cs ds a.fit b.fit;
  }

  -- what was made, cut in two
  pub record Halves (l i : ℕ) (cs : List Child) (rs : List Record) : Type 0 where
    pub before : List Record
    pub after : List Record
    pub front : Made P sizes x limit l (take i cs) before
    pub back : Made P sizes x limit l (drop i cs) after
    pub records : rs ≡ before ++ after

  pub made_halves : (l i : ℕ) (cs : List Child) (rs : List Record) → Made P sizes x limit l cs rs → Halves l i cs rs
  made_halves l i cs rs made =
      let cut = cut_at (Subtree sizes x limit l) cs i rs made.blocks made.under in
      let all = subst (AllByRecursion P) cut.blocks made.each in
      let fit = subst (AllByRecursion ChildFits) (sym (take-append-drop i cs)) made.fit in
      record {
        before = cut.before;
        after = cut.after;
        front = record { blocks = cut.left; under = cut.front; each = each_front P cut.left cut.right all; fit = each_front ChildFits (take i cs) (drop i cs) fit };
        back = record { blocks = cut.right; under = cut.back; each = each_back P cut.left cut.right all; fit = each_back ChildFits (take i cs) (drop i cs) fit };
        records = cut.records;
      }

-- what was made stands in later contents, where it is named otherwise
pub made_moved : (P Q : ℕ → Type 0) (sizes : Sizes) (x y : Contents) (limit other l : ℕ) → ((n : ℕ) → P n → block y n ≡ block x n) → ((n : ℕ) → P n → Q n) → other ≡ limit
    → (cs ds : List Child) (rs : List Record) → ds ≡ cs → Made P sizes x limit l cs rs → Made Q sizes y other l ds rs
made_moved P Q sizes x y limit other l same so limits cs ds rs is made =
    let now = made_in P Q sizes x y limit same so l cs rs made in
    subst (λ n. Made Q sizes y n l ds rs) (sym limits) (subst (λ (es : List Child). Made Q sizes y limit l es rs) (sym is) now)

-- what was made, and what was made beside it later
pub both_made : (P Q : ℕ → Type 0) (sizes : Sizes) (x y : Contents) (limit other l : ℕ) → ((n : ℕ) → P n → block y n ≡ block x n) → ((n : ℕ) → P n → Q n) → other ≡ limit
    → (cs ds : List Child) (rs qs all : List Record) → all ≡ rs ++ qs → Made P sizes x limit l cs rs → Made Q sizes y other l ds qs → Made Q sizes y limit l (cs ++ ds) all
both_made P Q sizes x y limit other l same so limits cs ds rs qs all is first then =
    let a = made_in P Q sizes x y limit same so l cs rs first in
    let b = subst (λ n. Made Q sizes y n l ds qs) limits then in
    subst (λ (z : List Record). Made Q sizes y limit l (cs ++ ds) z) (sym is) (made_join Q sizes y limit l cs ds rs qs a b)
