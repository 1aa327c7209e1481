-- What the top block of a tree tells of its root, and how trees are found by their roots.
use Rattle.std.proofs.Common.{◌≡◌, inl, inr, ℕ, zero, suc, ◌+◌, ◌<◌, ◌≤◌, Bool, false, List, [], ◌∷◌, ◌++◌, length, map, get_or, take, drop, replicate, refl, sym, ap, ◌∙◌, subst, arith}
use Rattle.std.proofs.lemmas.Bool.{false≢true}
use Rattle.std.proofs.lemmas.List.{length-replicate}
use Rattle.vm_types.specs.declared.key.Key.{Key}
use Rattle.vm_types.specs.Map.{Map}
use Rattle.vm_disk.specs.Disk.{Contents, Medium, block}
use Rattle.vm_alloc.specs.Marks.{IsMarked}
use Rattle.vm_alloc.proofs.HeldLemmas.{no_mark}
use Rattle.vm_block.specs.Leaf.{BeginsWith, key_bytes}
use Rattle.vm_block.proofs.EachLemmas.{each_join, each_so}
use Rattle.vm_block.specs.Look.{IfRecords}
use Rattle.vm_block.specs.Node.{IsNode}
use Rattle.vm_block.specs.Way.{Lowest}
use Rattle.vm_block.specs.declared.node.Child.{Child}
use Rattle.vm_tree.specs.Tree.{Sizes, IsData, IsTree, Subtree}
use Rattle.vm_tree.specs.Root.{IsRooted}
use Rattle.vm_tree.specs.declared.root.Root.{Root}
use Rattle.vm_tree.proofs.TreeLemmas.{leaf_opens, node_opens, tree_opens}
use Rattle.vm_check.specs.Form.{IsForm}
use Rattle.vm_check.specs.Marks.{AreUnder, IsClosed, MarksMore, unmarked_inner}
use Rattle.vm_check.specs.Trees.{AreFound, AreTopped, IsFound, IsTop, IsTopped, level_of}
use Rattle.vm_check.specs.Verification.{AreRoots, Found, HaveTrees}
use Rattle.vm_check.specs.Keys.{HasLevel}
use Rattle.vm_check.specs.declared.form.Form.{Form}
use Rattle.vm_check.specs.declared.form.Form.TheVariants.{Leaf, Node}
use Rattle.vm_check.proofs.FoundLemmas.{each_at}
use Rattle.vm_check.proofs.KnownLemmas.{children_begin, level_one, node_level, subtree_level}
use Rattle.vm_check.proofs.WalkLemmas.{lowest_first}

-- under number 0 lies the empty map
pub bare_rooted : (sizes : Sizes) (x : Contents) (limit : ℕ) (root : Root) (n : ℕ) (m : Map) (bs : List ℕ) → root.block ≡ 0 → n ≡ 0 → IsTree sizes x limit n m bs → IsRooted sizes x limit root m bs
unfolding IsTree
bare_rooted sizes x limit root zero m bs none is tree = inl (record { none = none; empty = tree.0; blocks = tree.1 })
bare_rooted sizes x limit root (suc n) m bs none is tree = absurd (omega arith)

-- bytes of a form have its level
pub form_level : (bytes : List ℕ) (form : Form) → IsForm bytes form → HasLevel bytes (level_of form)
form_level bytes (Leaf count) is = (is.0, is.1)
form_level bytes (Node level count) is = node_level bytes level is.0 is.1

-- what is read at a top
pub record TopRead (x : Contents) (limit n : ℕ) (form : Form) (low : Key) (bytes : List ℕ) : Type 0 where
  pub inside : IsData limit n
  pub bytes_are : bytes ≡ block x n
  pub formed : IsForm bytes form
  pub first : take 10 (drop 16 bytes) ≡ key_bytes low
  pub node : (level : ℕ) (cs : List Child) → IsNode bytes level cs → Lowest low cs
  pub leaf : IfRecords bytes (BeginsWith low)

-- it is told of the bytes at hand, which are these
pub top_read : {x : Contents} {limit n : ℕ} {form : Form} {low : Key} {bytes hand : List ℕ} → bytes ≡ hand → IsData limit n → bytes ≡ block x n → IsForm bytes form → take 10 (drop 16 hand) ≡ key_bytes low
    → ((level : ℕ) (cs : List Child) → IsNode hand level cs → Lowest low cs) → IfRecords hand (BeginsWith low) → TopRead x limit n form low bytes
top_read {x} {limit} {n} {form} {low} {bytes} {hand} same inside is formed first node leaf = record {
  inside = inside;
  bytes_are = is;
  formed = formed;
  first = subst (λ (z : List ℕ). take 10 (drop 16 z) ≡ key_bytes low) (sym same) first;
  node = subst (λ (z : List ℕ). (level : ℕ) (cs : List Child) → IsNode z level cs → Lowest low cs) (sym same) node;
  leaf = subst (λ (z : List ℕ). IfRecords z (BeginsWith low)) (sym same) leaf;
}

module _ (x : Contents) (limit n : ℕ) (form : Form) (low : Key) (bytes : List ℕ) (top : TopRead x limit n form low bytes) where
  level_here : HasLevel (block x n) (level_of form)
  level_here = subst (λ (z : List ℕ). HasLevel z (level_of form)) top.bytes_are (form_level bytes form top.formed)

  -- the root of that block is a top
  top_is : IsTop x limit (record { block = n; level = level_of form; low = low })
  top_is = record {
    inside = top.inside;
    form = level_here;
    first = subst (λ (z : List ℕ). take 10 (drop 16 z) ≡ key_bytes low) top.bytes_are top.first;
  }

  -- the records of a subtree there begin with its lowest key
  top_begins : (sizes : Sizes) (l : ℕ) (m : Map) (bs : List ℕ) → Subtree sizes x limit l n m bs → BeginsWith low m
  top_begins sizes zero m bs t =
      let at = leaf_opens sizes x limit zero n m bs refl t in
      subst (λ (z : List ℕ). IfRecords z (BeginsWith low)) top.bytes_are top.leaf m at.leaf
  top_begins sizes (suc l) m bs t =
      let at = node_opens sizes x limit (suc l) l n m bs refl t in
      let here = subst (λ (z : List ℕ). (level : ℕ) (cs : List Child) → IsNode z level cs → Lowest low cs) top.bytes_are top.node (suc l) at.children at.node in
      let none : Child = record { low = low; block = 0 } in
      subst (λ (k : Key). BeginsWith k m) (sym (lowest_first low at.children none here)) (children_begin (Subtree sizes x limit l) at.children none m at.under at.node.some at.below)

  -- it is the root of the tree there
  top_rooted : (sizes : Sizes) (m : Map) (bs : List ℕ) → 0 < n → IsTree sizes x limit n m bs → IsRooted sizes x limit (record { block = n; level = level_of form; low = low }) m bs
  top_rooted sizes m bs some tree =
      let at = tree_opens sizes x limit n m bs some tree in
      let same : at.level ≡ level_of form = level_one (block x n) at.level (level_of form) (subtree_level sizes x limit at.level n m bs at.subtree) level_here in
      let low_level : level_of form < sizes.levels = omega (arith, same, at.low) in
      inr (record {
        level = low_level;
        subtree = subst (λ l. Subtree sizes x limit l n m bs) same at.subtree;
        rising = at.rising;
        lowest = top_begins sizes at.level m bs at.subtree;
      })

  -- so it was found
  pub top_found : 0 < n → IsFound x limit (record { block = n; level = level_of form; low = low })
  top_found some = record { topped = inr top_is; of_any = λ sizes m bs tree. top_rooted sizes m bs some tree }

-- roots that were found, of trees, are roots of maps
record FoundRoots (sizes : Sizes) (x : Contents) (limit : ℕ) (ns : List ℕ) (roots : List Root) : Type 0 where
  pub blocks : List ℕ
  pub are : AreRoots sizes x limit ns roots blocks

found_roots : (sizes : Sizes) (x : Contents) (limit : ℕ) (roots : List Root) → AreFound x limit roots → HaveTrees sizes x limit (map (λ (r : Root). r.block) roots) → FoundRoots sizes x limit (map (λ (r : Root). r.block) roots) roots
found_roots sizes x limit [] found trees = record { blocks = []; are = refl }
found_roots sizes x limit (r ∷ roots) found trees =
    let tree = trees.0 in
    let rest = found_roots sizes x limit roots found.1 trees.1 in
    record { blocks = tree.1 ++ rest.blocks; are = (tree.0, tree.1, rest.blocks, refl, found.0.of_any sizes tree.0 tree.1 tree.2, rest.are, refl) }

-- roots of maps are roots with maps under them
roots_under : (sizes : Sizes) (x : Contents) (limit : ℕ) (ns : List ℕ) (roots : List Root) (bs : List ℕ) → AreRoots sizes x limit ns roots bs → AreUnder sizes x limit roots bs
roots_under sizes x limit [] [] bs are = are
roots_under sizes x limit [] (r ∷ roots) bs are = absurd are
roots_under sizes x limit (n ∷ ns) [] bs are = absurd are
roots_under sizes x limit (n ∷ ns) (r ∷ roots) bs are = (are.1, are.2, (are.0, are.4), roots_under sizes x limit ns roots are.2 are.5, are.6)

-- no block is marked, so all that are have their children marked
none_closed : (x : Contents) (limit : ℕ) → IsClosed x (replicate limit false)
none_closed x limit = record { closed = λ n level cs is low node. absurd (false≢true (sym (no_mark limit n) ∙ is)) }

module _ (sizes : Sizes) (limit : ℕ) (old mid : Medium) (same : mid ≡ old) (ns : List ℕ) (first : List Bool) (clear : first ≡ replicate limit false) where
  -- what of trees is to be marked, where no block is marked
  pub record ToMark (roots taken : List Root) : Type 0 where
    pub blocks : List ℕ
    pub are : AreRoots sizes old.contents limit ns roots blocks
    pub under : AreUnder sizes mid.contents (length first) taken blocks
    pub closed : IsClosed mid.contents first

  pub to_mark : (roots taken : List Root) → taken ≡ roots → map (λ (r : Root). r.block) roots ≡ ns → AreFound old.contents limit roots → HaveTrees sizes old.contents limit ns → ToMark roots taken
  to_mark roots taken is named found trees =
      let have = subst (λ (ks : List ℕ). FoundRoots sizes old.contents limit ks roots) named (found_roots sizes old.contents limit roots found (subst (HaveTrees sizes old.contents limit) (sym named) trees)) in
      let under = subst (λ (m : Medium). AreUnder sizes m.contents limit roots have.blocks) (sym same) (roots_under sizes old.contents limit ns roots have.blocks have.are) in
      let many : length first ≡ limit = ap length clear ∙ length-replicate limit false in
      record {
        blocks = have.blocks;
        are = have.are;
        under = subst (λ l. AreUnder sizes mid.contents l taken have.blocks) (sym many) (subst (λ (rs : List Root). AreUnder sizes mid.contents limit rs have.blocks) (sym is) under);
        closed = subst (λ (z : List Bool). IsClosed mid.contents z) (sym clear) (none_closed mid.contents limit);
      }

  -- what was marked of them
  pub trees_found : (roots taken : List Root) (marks : List Bool) (t : ToMark roots taken) → length marks ≡ length first → MarksMore t.blocks first marks → Found sizes old.contents limit ns roots marks
  trees_found roots taken marks t count more = record {
    blocks = t.blocks;
    are = t.are;
    count = count ∙ ap length clear ∙ length-replicate limit false;
    each = more.each;
    only = λ n is. elim (more.only n is) [
      | inl was ↦ absurd (false≢true (sym (no_mark limit n) ∙ subst (λ (z : List Bool). IsMarked z n) clear was))
      | inr new ↦ new
    ];
  }

-- reads of as many inner blocks as were marked, after those of so many tops
pub inner_behind : (old mid : Medium) (first clear marks : List Bool) (before between after tops : ℕ) → mid ≡ old → first ≡ clear → between ≤ before + tops
    → after + unmarked_inner mid.contents marks ≤ between + unmarked_inner mid.contents first → after + unmarked_inner old.contents marks ≤ before + tops + unmarked_inner old.contents clear
inner_behind old mid first clear marks before between after tops same is few paid =
    let here = subst (λ (m : Medium). after + unmarked_inner m.contents marks ≤ between + unmarked_inner m.contents first) same paid in
    let there = subst (λ (z : List Bool). after + unmarked_inner old.contents marks ≤ between + unmarked_inner old.contents z) is here in omega (arith, there, few)

-- before the first number
pub no_roots : (x : Contents) (limit : ℕ) (roots : List Root) → roots ≡ [] → AreFound x limit roots
no_roots x limit roots none = subst (AreFound x limit) (sym none) tt

-- a root without a block
pub none_found : (x : Contents) (limit : ℕ) (root : Root) → root.block ≡ 0 → IsFound x limit root
none_found x limit root none = record { topped = inl none; of_any = λ sizes m bs tree. bare_rooted sizes x limit root root.block m bs none none tree }

-- the first roots, and one more
pub more_found : (limit : ℕ) (x : Contents) (roots pushed : List Root) (root : Root) → pushed ≡ roots ++ root ∷ [] → AreFound x limit roots → IsFound x limit root → AreFound x limit pushed
more_found limit x roots pushed root push found one = subst (AreFound x limit) (sym push) (each_join (IsFound x limit) roots (root ∷ []) found (one, tt))

-- a root that was found after another one
pub found_here : (limit : ℕ) (old mid : Medium) (last root : Root) → mid ≡ old → IsFound old.contents limit last → (IsFound mid.contents limit last → IsFound mid.contents limit root) → IsFound old.contents limit root
found_here limit old mid last root same before step =
    subst (λ (m : Medium). IsFound m.contents limit root) same (step (subst (λ (m : Medium). IsFound m.contents limit last) (sym same) before))

-- a fault at a number, where each has a tree
pub root_lacking : (sizes : Sizes) (limit : ℕ) (old mid : Medium) (ns : List ℕ) (i : ℕ) (F : Type 0) → mid ≡ old → i < length ns → HaveTrees sizes old.contents limit ns
    → ((m : Map) (bs : List ℕ) → IsTree sizes mid.contents limit (get_or ns i 0) m bs → F) → F
root_lacking sizes limit old mid ns i F same lt trees step =
    let tree = each_at (λ n. (m : Map) × (bs : List ℕ) × IsTree sizes old.contents limit n m bs) ns i 0 lt trees in
    step tree.0 tree.1 (subst (λ (m : Medium). IsTree sizes m.contents limit (get_or ns i 0) tree.0 tree.1) (sym same) tree.2)

-- the tops of roots that were found
pub found_topped : (x : Contents) (limit : ℕ) (roots : List Root) → AreFound x limit roots → AreTopped x limit roots
found_topped x limit roots found = each_so (IsFound x limit) (IsTopped x limit) (λ root is. is.topped) roots found
