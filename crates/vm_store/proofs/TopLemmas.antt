-- Trees under tops: contents that agree on the blocks of a tree have the same tree, and all blocks of a tree are for data.
use Rattle.std.proofs.Common.{◌≡◌, inl, inr, ℕ, ◌<◌, ◌≤◌, ◌^◌, List, [], refl, sym, subst, arith}
use Rattle.std.specs.List.{AllByRecursion}
use Rattle.vm_types.specs.Map.{Map}
use Rattle.vm_disk.specs.Disk.{Contents, block}
use Rattle.vm_block.specs.Leaf.{Record}
use Rattle.vm_block.proofs.EachLemmas.{each_so, each_both}
use Rattle.vm_tree.specs.Tree.{IsData, IsTree}
use Rattle.vm_tree.proofs.TreeLemmas.{subtree_in, tree_data, tree_none, tree_closes, tree_one}
use Rattle.vm_tree.proofs.Descent.{subtree_top}
use Rattle.vm_tree.specs.Answers as tree
use Rattle.vm_tree.specs.Root.{IsRooted, IsRootedIn}
use Rattle.vm_tree.specs.declared.root.Root.{Root}
use Rattle.vm_store.specs.Answers.{LacksRoom}
use Rattle.vm_store.specs.Sizes.{sizes}

-- what lies under a root is the tree of its block
pub rooted_tree : (x : Contents) (limit : ℕ) (root : Root) (m : Map) (bs : List ℕ) → IsRooted sizes x limit root m bs → IsTree sizes x limit root.block m bs
rooted_tree x limit root m bs (inl bare) =
    let T : ℕ → Map → List ℕ → Type 0 = λ b k cs. IsTree sizes x limit b k cs in
    subst (λ b. T b m bs) (sym bare.none) (subst (λ k. T 0 k bs) (sym bare.empty) (subst (λ cs. T 0 [] cs) (sym bare.blocks) (tree_none sizes x limit)))
rooted_tree x limit root m bs (inr top) =
    let inside = subtree_top sizes x limit root.level root.block m bs top.subtree in
    tree_closes sizes x limit root.block m bs (omega (arith, inside.0)) (record { level = root.level; low = top.level; subtree = top.subtree; rising = top.rising })

-- under one root lie one map and one list of blocks
pub rooted_one : (x : Contents) (limit : ℕ) (r : Root) (m n : Map) (bs ds : List ℕ) → IsRooted sizes x limit r m bs → IsRooted sizes x limit r n ds → bs ≡ ds
rooted_one x limit r m n bs ds one other = (tree_one sizes x limit r.block m n bs ds (rooted_tree x limit r m bs one) (rooted_tree x limit r n ds other)).1

-- what is known of its blocks from two sides
pub grown_both : (P Q : ℕ → Type 0) (x : Contents) (limit : ℕ) (root : Root) (m n : Map) → IsRootedIn sizes P x limit root m → IsRootedIn sizes Q x limit root n → IsRootedIn sizes (λ b. P b × Q b) x limit root m
grown_both P Q x limit root m n one other = record {
  stands_in = one.stands_in;
  rooted = one.rooted;
  each = each_both P Q one.stands_in one.each (subst (AllByRecursion Q) (rooted_one x limit root n m other.stands_in one.stands_in other.rooted one.rooted) other.each);
}

-- the frame law for a map under a root
rooted_in : (P : ℕ → Type 0) (x y : Contents) (limit : ℕ) → ((n : ℕ) → P n → block y n ≡ block x n)
    → (root : Root) (m : Map) (bs : List ℕ) → IsRooted sizes x limit root m bs → AllByRecursion P bs → IsRooted sizes y limit root m bs
rooted_in P x y limit same root m bs (inl bare) all = inl bare
rooted_in P x y limit same root m bs (inr top) all =
    inr (record { level = top.level; subtree = subtree_in P sizes x y limit same root.level root.block m bs top.subtree all; rising = top.rising; lowest = top.lowest })

-- and its blocks have another property as well
pub grown_in : (P Q : ℕ → Type 0) (x y : Contents) (limit : ℕ) → ((n : ℕ) → P n → block y n ≡ block x n) → ((n : ℕ) → P n → Q n)
    → (root : Root) (m : Map) → IsRootedIn sizes P x limit root m → IsRootedIn sizes Q y limit root m
grown_in P Q x y limit same so root m grown = record {
  stands_in = grown.stands_in;
  rooted = rooted_in P x y limit same root m grown.stands_in grown.rooted grown.each;
  each = each_so P Q so grown.stands_in grown.each;
}

-- all its blocks are for data
pub grown_data : (P : ℕ → Type 0) (x : Contents) (limit : ℕ) (root : Root) (m : Map) → IsRootedIn sizes P x limit root m → IsRootedIn sizes (λ n. P n × IsData limit n) x limit root m
grown_data P x limit root m grown = record {
  stands_in = grown.stands_in;
  rooted = grown.rooted;
  each = each_both P (IsData limit) grown.stands_in grown.each (tree_data sizes x limit root.block m grown.stands_in (rooted_tree x limit root m grown.stands_in grown.rooted));
}

-- in a store of so many blocks, counted otherwise
pub grown_of : (P : ℕ → Type 0) (x : Contents) (limit other : ℕ) (root : Root) (m : Map) → limit ≡ other → IsRootedIn sizes P x limit root m → IsRootedIn sizes P x other root m
grown_of P x limit other root m same grown = subst (λ n. IsRootedIn sizes P x n root m) same grown

-- the empty map stands under no block
pub none_grown : (P : ℕ → Type 0) (x : Contents) (limit : ℕ) (root : Root) → root.block ≡ 0 → IsRootedIn sizes P x limit root []
none_grown P x limit root none = record { stands_in = []; rooted = inl (record { none = none; empty = refl; blocks = refl }); each = tt }

-- ---- room for one more record

pub lacks_under : (x : Contents) (root : Root) (r : Record) → tree.LacksRoom sizes x root r → LacksRoom x root.block r
lacks_under x root r lacks = (lacks.some, lacks.full)

pub lacks_over : (x : Contents) (root : Root) (r : Record) → LacksRoom x root.block r → tree.LacksRoom sizes x root r
lacks_over x root r lacks = record { some = lacks.0; full = lacks.1 }

-- the same tree, in a store of so many blocks, counted otherwise
pub rooted_of : (x : Contents) (limit other : ℕ) (root : Root) (m : Map) (bs : List ℕ) → other ≡ limit → IsRooted sizes x limit root m bs → IsRooted sizes x other root m bs
rooted_of x limit other root m bs same rooted = subst (λ n. IsRooted sizes x n root m bs) (sym same) rooted

-- the block of a root is a small number
pub grown_small : (P : ℕ → Type 0) (x : Contents) (limit : ℕ) (root : Root) (m : Map) → limit ≤ 2 ^ 26 → IsRootedIn sizes P x limit root m → root.block < 2 ^ 32
grown_small P x limit root m most grown = by_case grown.rooted
  where
    by_case : IsRooted sizes x limit root m grown.stands_in → root.block < 2 ^ 32
    by_case (inl bare) = omega (arith, bare.none)
    by_case (inr top) = let inside = subtree_top sizes x limit root.level root.block m grown.stands_in top.subtree in omega (arith, inside.1)
