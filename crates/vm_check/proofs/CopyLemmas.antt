-- Copies of blocks, and what lies under the copy of a block.
use Rattle.std.proofs.Common.{◌≡◌, ◌≢◌, ◌⊎◌, inl, inr, ℕ, zero, suc, ◌+◌, ◌<◌, ◌≤◌, ◌^◌, Ok, Err, List, [], ◌∷◌, ◌++◌, length, take, drop, get_or, Result, map, refl, sym, ap, ◌∙◌, subst, arith}
use Rattle.std.specs.Prelude.{IfOk, OnOk}
use Rattle.std.proofs.lemmas.Bool.{cases_eq}
use Rattle.std.proofs.lemmas.List.{map-append}
use Rattle.vm_types.specs.declared.key.Key.{Key}
use Rattle.vm_disk.specs.Disk.{Contents, DiskState, Medium, block}
use Rattle.vm_block.specs.Leaf.{BeginsWith, HasRecords, Record}
use Rattle.vm_block.specs.Changed.{with_at}
use Rattle.vm_block.specs.Node.{ChildFits, IsNode, lows, node_bytes}
use Rattle.vm_types.specs.Places.{KeyFits, RisesFrom, place}
use Rattle.vm_block.proofs.DividingLemmas.{set_fit, set_length}
use Rattle.vm_block.proofs.EachLemmas.{each_at}
use Rattle.vm_block.specs.declared.node.Child.{Child}
use Rattle.vm_block.proofs.FormLemmas.{leaf_or_node}
use Rattle.vm_block.proofs.NodeLemmas.{node_one}
use Rattle.vm_types.specs.Map.{Map}
use Rattle.vm_tree.proofs.Descent.{subtree_top}
use Rattle.vm_tree.specs.Root.{IsRooted, IsTop}
use Rattle.vm_tree.specs.declared.root.Root.{Root}
use Rattle.vm_tree.specs.Tree.{Children, IsData, Sizes, Subtree}
use Rattle.vm_check.specs.TreeCopy.{AreCopied, ChildCopied, CopiesOnly, IsCopyOf, IsNumberOf, IsPut, IsUpTo, Paired, PutsTo, RootCopied}
use Rattle.vm_check.specs.Renumbering.{GoesOn, IsCopied, count_of, next_of, number_at}
use Rattle.vm_check.specs.declared.tree_copy.CopyFault.{CopyFault}
use Rattle.vm_check.specs.declared.renumbering.Renumbering.{Renumbering}
use Rattle.vm_check.proofs.RenumberLemmas.{assigned_given, assigned_here, assigned_on, assigned_other, still_copied}

-- # Pairs

pub paired_so : {X : Type 0} (R S : X → X → Type 0) → ((x y : X) → R x y → S x y) → (xs ys : List X) → Paired R xs ys → Paired S xs ys
paired_so R S so [] [] all = tt
paired_so R S so (x ∷ xs) (y ∷ ys) all = (so x y all.0, paired_so R S so xs ys all.1)
paired_so R S so [] (y ∷ ys) all = absurd all
paired_so R S so (x ∷ xs) [] all = absurd all

pub paired_length : {X : Type 0} (R : X → X → Type 0) (xs ys : List X) → Paired R xs ys → length ys ≡ length xs
paired_length R [] [] all = refl
paired_length R (x ∷ xs) (y ∷ ys) all = ap suc (paired_length R xs ys all.1)
paired_length R [] (y ∷ ys) all = absurd all
paired_length R (x ∷ xs) [] all = absurd all

pub paired_join : {X : Type 0} (R : X → X → Type 0) (xs ys us vs : List X) → Paired R xs ys → Paired R us vs → Paired R (xs ++ us) (ys ++ vs)
paired_join R [] [] us vs a b = b
paired_join R (x ∷ xs) (y ∷ ys) us vs a b = (a.0, paired_join R xs ys us vs a.1 b)
paired_join R [] (y ∷ ys) us vs a b = absurd a
paired_join R (x ∷ xs) [] us vs a b = absurd a

-- # More numbers

module _ {old new : Renumbering} (on : GoesOn old new) where
  pub child_on : (c d : Child) → ChildCopied old c d → ChildCopied new c d
  child_on c d is =
      let C : ℕ → Child = λ b. record { low = c.low; block = b } in
      (still_copied on c.block is.0, is.1 ∙ ap C (sym (on.kept c.block is.0)))

  pub root_on : (root copy : Root) → RootCopied old root copy → RootCopied new root copy
  root_on root copy (inl none) = inl none
  root_on root copy (inr some) =
      let R : ℕ → Root = λ b. record { block = b; level = root.level; low = root.low } in
      inr (some.0, still_copied on root.block some.1, some.2 ∙ ap R (sym (on.kept root.block some.1)))

  pub copy_on : (bytes copy : List ℕ) → IsCopyOf old bytes copy → IsCopyOf new bytes copy
  copy_on bytes copy (inl leaf) = inl leaf
  copy_on bytes copy (inr node) =
      inr record { level = node.level; children = node.children; copies = node.copies; was = node.was; is = node.is; each = paired_so (ChildCopied old) (ChildCopied new) child_on node.children node.copies node.each }

-- one copy more
pub copied_put : (x y z : Contents) (limit n : ℕ) (bytes : List ℕ) (old new : Renumbering) (number : ℕ) → n < count_of old → AreCopied x y limit old
    → IsPut limit n bytes y z old new number → IsCopyOf old (block x n) bytes → AreCopied x z limit new × IsNumberOf new n number
copied_put x y z limit n bytes old new number inside so_far put is = (
  record {
    given = assigned_given n old new put.assigned inside put.fresh so_far.given;
    within = omega (arith, put.assigned.next, put.next, put.room);
    each = λ k copied. by_case k copied (cases_eq k n);
  },
  (omega (arith, put.next, so_far.given.least), put.next ∙ sym here),
)
  where
    here : number_at new n ≡ next_of old
    here = assigned_here n old new put.assigned inside

    on : GoesOn old new
    on = assigned_on n old new put.assigned inside (omega (arith, so_far.given.least)) put.fresh

    by_case : (k : ℕ) → IsCopied new k → (k ≡ n) ⊎ (k ≢ n) → IsCopyOf new (block x k) (block z (number_at new k))
    by_case k copied (inl same) =
        let to : bytes ≡ block z (number_at new n) = sym put.written ∙ ap (block z) (put.next ∙ sym here) in
        let P : ℕ → Type 0 = λ m. IsCopyOf new (block x m) (block z (number_at new m)) in
        subst P (sym same) (subst (IsCopyOf new (block x n)) to (copy_on on (block x n) bytes is))
    by_case k copied (inr other) =
        let kept = assigned_other n old new put.assigned k other in
        let was : IsCopied old k = omega (arith, copied, kept) in
        let apart : number_at old k ≢ number = λ e. omega (arith, e, put.next, so_far.given.high k was) in
        let to : block y (number_at old k) ≡ block z (number_at new k) = sym (put.others (number_at old k) apart) ∙ ap (block z) (sym kept) in
        subst (IsCopyOf new (block x k)) to (copy_on on (block x k) (block y (number_at old k)) (so_far.each k was))

-- # What lies under the copy of a block

module _ (x y : Contents) (limit most : ℕ) (numbers : Renumbering) (all : AreCopied x y most numbers) where
  -- the copy stands in a block for data
  copy_data : (n : ℕ) → IsCopied numbers n → IsData most (number_at numbers n)
  copy_data n is = (all.given.low n is, omega (arith, all.given.high n is, all.within))

  leaf_holds : (b : ℕ) (rs : List Record) → IsCopied numbers b → HasRecords (block x b) rs → HasRecords (block y (number_at numbers b)) rs
  leaf_holds b rs is here = by_form (all.each b is)
    where
      by_form : IsCopyOf numbers (block x b) (block y (number_at numbers b)) → HasRecords (block y (number_at numbers b)) rs
      by_form (inl leaf) = subst (λ (bytes : List ℕ). HasRecords bytes rs) (sym leaf.is) here
      by_form (inr node) = absurd (leaf_or_node (block x b) rs node.level node.children here node.was)

  node_stands : (b level : ℕ) (cs : List Child) → IsCopied numbers b → IsNode (block x b) level cs → (ds : List Child) × IsNode (block y (number_at numbers b)) level ds × Paired (ChildCopied numbers) cs ds
  node_stands b level cs is here = by_form (all.each b is)
    where
      by_form : IsCopyOf numbers (block x b) (block y (number_at numbers b)) → (ds : List Child) × IsNode (block y (number_at numbers b)) level ds × Paired (ChildCopied numbers) cs ds
      by_form (inl leaf) = absurd (leaf_or_node (block x b) leaf.records level cs leaf.was here)
      by_form (inr node) =
          let one = node_one (block x b) node.level level node.children cs node.was here in (
            node.copies,
            subst (λ (l : ℕ). IsNode (block y (number_at numbers b)) l node.copies) one.0 node.is,
            subst (λ (es : List Child). Paired (ChildCopied numbers) es node.copies) one.1 node.each,
          )

  children_stand : (T U : ℕ → List Record → List ℕ → Type 0) → ((b : ℕ) (rs : List Record) (bs : List ℕ) → IsCopied numbers b → T b rs bs → U (number_at numbers b) rs (map (number_at numbers) bs))
      → (cs ds : List Child) (rs : List Record) (bs : List ℕ) → Paired (ChildCopied numbers) cs ds → Children T cs rs bs → Children U ds rs (map (number_at numbers) bs)
  children_stand T U so [] [] rs bs pairs t = (t.0, ap (map (number_at numbers)) t.1)
  children_stand T U so (c ∷ cs) (d ∷ ds) rs bs pairs t =
      let first = t.0 in
      let own = map (number_at numbers) t.2 in
      (first, t.1, own, map (number_at numbers) t.3, subst (λ (e : Child). U e.block first own) (sym pairs.0.1) (so c.block first t.2 pairs.0.0 t.4), subst (λ (e : Child). BeginsWith e.low first) (sym pairs.0.1) t.5, children_stand T U so cs ds t.1 t.3 pairs.1 t.6, t.7, ap (map (number_at numbers)) t.8 ∙ map-append (number_at numbers) t.2 t.3)
  children_stand T U so [] (d ∷ ds) rs bs pairs t = absurd pairs
  children_stand T U so (c ∷ cs) [] rs bs pairs t = absurd pairs

  -- under the copy of a block lies what lies under the block, in the copies of its blocks
  pub subtree_copied : (sizes : Sizes) (l b : ℕ) (rs : List Record) (bs : List ℕ) → IsCopied numbers b → Subtree sizes x limit l b rs bs → Subtree sizes y most l (number_at numbers b) rs (map (number_at numbers) bs)
  unfolding Subtree
  subtree_copied sizes zero b rs bs is t =
      (copy_data b is, leaf_holds b rs is t.1, ap (map (number_at numbers)) t.2)
  subtree_copied sizes (suc l) b rs bs is t =
      let at = node_stands b (suc l) t.1 is t.3 in
      let count = paired_length (ChildCopied numbers) t.1 at.0 at.2 in (
        copy_data b is,
        at.0,
        map (number_at numbers) t.2,
        at.1,
        omega (arith, count, t.4),
        children_stand (Subtree sizes x limit l) (Subtree sizes y most l) (subtree_copied sizes l) t.1 at.0 rs t.2 at.2 t.5,
        ap (map (number_at numbers)) t.6,
      )

  -- under the copy of a root lies the same map
  pub rooted_copied : (sizes : Sizes) (root copy : Root) (m : Map) (bs : List ℕ) → RootCopied numbers root copy → IsRooted sizes x limit root m bs → IsRooted sizes y most copy m (map (number_at numbers) bs)
  rooted_copied sizes root copy m bs (inl none) (inl bare) =
      inl record { none = ap (λ (r : Root). r.block) none.1 ∙ bare.none; empty = bare.empty; blocks = ap (map (number_at numbers)) bare.blocks }
  rooted_copied sizes root copy m bs (inl none) (inr top) = absurd (omega (arith, none.0, (subtree_top sizes x limit root.level root.block m bs top.subtree).0))
  rooted_copied sizes root copy m bs (inr some) (inl bare) = absurd (omega (arith, some.0, bare.none))
  rooted_copied sizes root copy m bs (inr some) (inr top) =
      let T : Root → Type 0 = λ r. IsTop sizes y most r m (map (number_at numbers) bs) in
      inr (subst T (sym some.2) record {
        level = top.level;
        subtree = subtree_copied sizes root.level root.block m bs some.1 top.subtree;
        rising = top.rising;
        lowest = top.lowest;
      })

-- # What a write of a copy leaves

pub copies_block : (x y z : Contents) (limit n : ℕ) (bytes : List ℕ) (old new : Renumbering) (result : Result ℕ CopyFault) → n < count_of old → AreCopied x y limit old
    → IfOk result (IsPut limit n bytes y z old new) → IsCopyOf old (block x n) bytes → IfOk result (λ number. AreCopied x z limit new × IsNumberOf new n number)
copies_block x y z limit n bytes old new (Ok number) inside so_far put is = copied_put x y z limit n bytes old new number inside so_far put is
copies_block x y z limit n bytes old new (Err fault) inside so_far put is = tt

-- no block was copied but this one
pub only_put : (P : ℕ → Type 0) (limit n : ℕ) (t t' : DiskState) (old new : Renumbering) (result : Result ℕ CopyFault) → PutsTo result limit n t old t' new → P n → OnOk result (CopiesOnly P old new)
only_put P limit n t t' old new (Ok number) puts here = λ k is. by_case k is (cases_eq k n)
  where
    by_case : (k : ℕ) → IsCopied new k → (k ≡ n) ⊎ (k ≢ n) → IsCopied old k ⊎ P k
    by_case k is (inl same) = inr (subst P (sym same) here)
    by_case k is (inr other) = inl (omega (arith, is, assigned_other n old new (puts.assigned refl) k other))
only_put P limit n t t' old new (Err fault) puts here = tt

pub only_so : (P Q : ℕ → Type 0) (old new : Renumbering) → ((n : ℕ) → P n → Q n) → CopiesOnly P old new → CopiesOnly Q old new
only_so P Q old new so only n is = elim (only n is) [ inl was ↦ inl was | inr here ↦ inr (so n here) ]

pub only_then : (P : ℕ → Type 0) (a b c : Renumbering) → CopiesOnly P a b → CopiesOnly P b c → CopiesOnly P a c
only_then P a b c first more n is = elim (more n is) [ inl was ↦ first n was | inr here ↦ inr here ]

pub only_after : (P : ℕ → Type 0) (a b c : Renumbering) (result : Result ℕ CopyFault) → CopiesOnly P a b → OnOk result (CopiesOnly P b c) → OnOk result (CopiesOnly P a c)
only_after P a b c (Ok number) first more = only_then P a b c first more
only_after P a b c (Err fault) first more = tt

-- # On a disk that was only read

up_more : (bytes : List ℕ) (low level : ℕ) → low ≤ level → IsUpTo low bytes → IsUpTo level bytes
up_more bytes low level le (inl leaf) = inl leaf
up_more bytes low level le (inr node) = inr (node.0, node.1, omega (arith, node.2, le), node.3)

module _ {m n : Medium} (same : m ≡ n) where
  pub copied_in : (y : Contents) (limit : ℕ) (numbers : Renumbering) → AreCopied n.contents y limit numbers → AreCopied m.contents y limit numbers
  copied_in y limit numbers copied = subst (λ (k : Medium). AreCopied k.contents y limit numbers) (sym same) copied

  pub copied_back : (y : Contents) (limit : ℕ) (numbers : Renumbering) → AreCopied m.contents y limit numbers → AreCopied n.contents y limit numbers
  copied_back y limit numbers copied = subst (λ (k : Medium). AreCopied k.contents y limit numbers) same copied

  pub ups_up : (low level : ℕ) (a b : Renumbering) → low ≤ level → CopiesOnly (λ k. IsUpTo low (block m.contents k)) a b → CopiesOnly (λ k. IsUpTo level (block n.contents k)) a b
  ups_up low level a b le only =
      only_so (λ k. IsUpTo low (block n.contents k)) (λ k. IsUpTo level (block n.contents k)) a b (λ k at. up_more (block n.contents k) low level le at) (subst (λ (o : Medium). CopiesOnly (λ k. IsUpTo low (block o.contents k)) a b) same only)

  pub ups_then : (level : ℕ) (a b c : Renumbering) → CopiesOnly (λ k. IsUpTo level (block n.contents k)) a b → CopiesOnly (λ k. IsUpTo level (block m.contents k)) b c → CopiesOnly (λ k. IsUpTo level (block n.contents k)) a c
  ups_then level a b c first more = only_then (λ k. IsUpTo level (block n.contents k)) a b c first (subst (λ (o : Medium). CopiesOnly (λ k. IsUpTo level (block o.contents k)) b c) same more)

  -- an inner block is none of a lower level, and no leaf
  pub node_here : (b low level : ℕ) (cs : List Child) → low < level → IsNode (block n.contents b) level cs → IsUpTo low (block m.contents b) → ⊥
  node_here b low level cs less node up = by_form (subst (λ (k : Medium). IsUpTo low (block k.contents b)) same up)
    where
      by_form : IsUpTo low (block n.contents b) → ⊥
      by_form (inl leaf) = leaf_or_node (block n.contents b) leaf.0 level cs leaf.1 node
      by_form (inr other) = omega (arith, (node_one (block n.contents b) level other.0 cs other.1 node other.3).0, other.2, less)

  pub child_here : (sizes : Sizes) (limit level : ℕ) (c d : Child) (rs : List Record) (bs : List ℕ) → d ≡ c → Subtree sizes n.contents limit level c.block rs bs → Subtree sizes m.contents limit level d.block rs bs
  child_here sizes limit level c d rs bs is tree =
      subst (λ (k : Medium). Subtree sizes k.contents limit level d.block rs bs) (sym same) (subst (λ (e : Child). Subtree sizes n.contents limit level e.block rs bs) (sym is) tree)

  pub children_here : (sizes : Sizes) (limit level : ℕ) (cs : List Child) (rs : List Record) (bs : List ℕ) → Children (Subtree sizes n.contents limit level) cs rs bs → Children (Subtree sizes m.contents limit level) cs rs bs
  children_here sizes limit level cs rs bs below = subst (λ (k : Medium). Children (Subtree sizes k.contents limit level) cs rs bs) (sym same) below

-- what lies under the child at i
pub child_under : (T : ℕ → List Record → List ℕ → Type 0) (cs : List Child) (rs : List Record) (bs : List ℕ) (i : ℕ) (d : Child) → i < length cs → Children T cs rs bs → (first : List Record) × (own : List ℕ) × T (get_or cs i d).block first own
child_under T [] rs bs i d lt all = absurd (omega arith)
child_under T (c ∷ cs) rs bs zero d lt all = (all.0, all.2, all.4)
child_under T (c ∷ cs) rs bs (suc i) d lt all = child_under T cs all.1 all.3 i d (omega arith) all.6

-- # Children

lows_kept : (cs : List Child) (i : ℕ) (c d : Child) → i < length cs → c.low ≡ (get_or cs i d).low → lows (take i cs ++ c ∷ drop (suc i) cs) ≡ lows cs
lows_kept [] i c d lt e = absurd (omega arith)
lows_kept (b ∷ cs) zero c d lt e = ap (λ (k : Key). place k ∷ lows cs) e
lows_kept (b ∷ cs) (suc i) c d lt e = ap (λ (ps : List ℕ). place b.low ∷ ps) (lows_kept cs i c d (omega arith) e)

-- an inner block with another child of the same lowest key in the place of the one at i
pub node_over : (old new : List ℕ) (level : ℕ) (cs : List Child) (i : ℕ) (c d : Child) → IsNode old level cs → i < length cs → c.low ≡ (get_or cs i d).low → c.block < 2 ^ 32 → new ≡ node_bytes level (with_at i c cs) → IsNode new level (with_at i c cs)
node_over old new level cs i c d node lt same fits wrote =
    let one : suc i ≡ i + 1 = omega arith in
    let many = set_length cs i c lt in
    let key : KeyFits c.low = subst KeyFits (sym same) (each_at ChildFits cs i d node.fit lt).0 in
    let R : List ℕ → Type 0 = RisesFrom 0 in
    let kept : lows (with_at i c cs) ≡ lows cs = ap (λ n. lows (take i cs ++ c ∷ drop n cs)) (sym one) ∙ lows_kept cs i c d lt same in
    record {
      spelled = wrote;
      above = node.above;
      low = node.low;
      some = omega (arith, many, node.some);
      few = omega (arith, many, node.few);
      fit = set_fit cs i c node.fit (key, fits);
      rising = subst R (sym kept) node.rising;
    }

-- a block that was not copied before is not copied now, if only others were
pub fresh_still : (P : ℕ → Type 0) (old mid : Renumbering) (n : ℕ) → CopiesOnly P old mid → number_at old n ≡ 0 → (P n → ⊥) → IsCopied mid n → ⊥
fresh_still P old mid n only none out is = elim (only n is) [ inl was ↦ omega (arith, was, none) | inr here ↦ out here ]
