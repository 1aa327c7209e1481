-- Which blocks are copied, and that they are marked.
use Rattle.std.proofs.Common.{◌≡◌, inl, inr, ℕ, zero, suc, ◌-◌, ◌<◌, Bool, List, [], ◌∷◌, length, get_or, sym, subst, arith}
use Rattle.std.specs.List.{AllByRecursion}
use Rattle.vm_disk.specs.Disk.{Contents, DiskState, block}
use Rattle.vm_block.specs.Leaf.{Record}
use Rattle.vm_block.specs.declared.node.Child.{Child}
use Rattle.vm_block.proofs.EachLemmas.{each_back, each_front}
use Rattle.vm_block.specs.Node.{IsNode}
use Rattle.vm_tree.specs.BlockReads.{IsNodeAt}
use Rattle.vm_tree.specs.Tree.{Children, Sizes, Subtree}
use Rattle.vm_tree.specs.declared.root.Root.{Root}
use Rattle.vm_tree.proofs.TreeLemmas.{node_opens}
use Rattle.vm_check.specs.Marks.{IsUnder}
use Rattle.vm_check.specs.TreeCopy.{CopiesMarked, IsMarkedData, Puts}
use Rattle.vm_check.specs.declared.renumbering.Renumbering.{Renumbering}
use Rattle.vm_check.proofs.CopyLemmas.{only_then}

-- nothing was copied
pub none_copied : {none_left : Type 0} (marks : List Bool) (numbers : Renumbering) → (none_left → ⊥) → CopiesMarked none_left marks numbers numbers
none_copied marks numbers some = record { only = λ n is. inl is; lacks = λ is. absurd (some is) }

-- a step more
pub marked_then : {first_none more_none none_left : Type 0} (marks : List Bool) (a b c : Renumbering) → CopiesMarked first_none marks a b → CopiesMarked more_none marks b c → (none_left → more_none) → CopiesMarked none_left marks a c
marked_then marks a b c first more so = record { only = only_then (IsMarkedData marks) a b c first.only more.only; lacks = λ is. more.lacks (so is) }

-- the same step, with a result that lacks numbers only if that of the step does
pub marked_so : {some_none none_left : Type 0} (marks : List Bool) (a b : Renumbering) → CopiesMarked some_none marks a b → (none_left → some_none) → CopiesMarked none_left marks a b
marked_so marks a b step so = record { only = step.only; lacks = λ is. step.lacks (so is) }

-- no block was copied but a marked one
pub marked_put : {target none_left done : Type 0} {damaged : ℕ → Type 0} {limit n : ℕ} {t t' : DiskState} {old new : Renumbering} (marks : List Bool) → Puts target none_left done damaged limit n t old t' new → IsMarkedData marks n → CopiesMarked none_left marks old new
marked_put marks puts here = record {
  only = λ k is. elim (puts.only k is) [ inl was ↦ inl was | inr same ↦ inr (subst (IsMarkedData marks) (sym same) here) ];
  lacks = λ is. (_, here, puts.lacks is);
}

-- what lies under the child at i, in some of the blocks that lie under all children
pub child_each : (P : ℕ → Type 0) (T : ℕ → List Record → List ℕ → Type 0) (cs : List Child) (rs : List Record) (bs : List ℕ) (i : ℕ) (d : Child) → i < length cs → Children T cs rs bs → AllByRecursion P bs
    → (first : List Record) × (own : List ℕ) × T (get_or cs i d).block first own × AllByRecursion P own
child_each P T [] rs bs i d lt all each = absurd (omega arith)
child_each P T (c ∷ cs) rs bs zero d lt all each = (all.0, all.2, all.4, each_front P all.2 all.3 (subst (AllByRecursion P) all.8 each))
child_each P T (c ∷ cs) rs bs (suc i) d lt all each = child_each P T cs all.1 all.3 i d (omega arith) all.6 (each_back P all.2 all.3 (subst (AllByRecursion P) all.8 each))

-- what lies under an inner block that was read, if P holds of all blocks of the subtree
pub node_each : (P : ℕ → Type 0) (sizes : Sizes) (x : Contents) (limit level b : ℕ) (rs : List Record) (bs : List ℕ) (cs : List Child) → 0 < level → Subtree sizes x limit level b rs bs → ((ds : List Child) → IsNodeAt x limit level b ds → cs ≡ ds)
    → AllByRecursion P bs → (under : List ℕ) × Children (Subtree sizes x limit (level - 1)) cs rs under × P b × AllByRecursion P under
node_each P sizes x limit level b rs bs cs above tree only each =
    let up : suc (level - 1) ≡ level = omega arith in
    let at = node_opens sizes x limit level (level - 1) b rs bs (sym up) tree in
    let same = only at.children (record { inside = at.place; node = subst (λ n. IsNode (block x b) n at.children) up at.node }) in
    let all = subst (AllByRecursion P) at.first each in
    (at.under, subst (λ (ds : List Child). Children (Subtree sizes x limit (level - 1)) ds rs at.under) (sym same) at.below, all.0, all.1)

-- under a root that has a block lies a subtree
pub root_top : (sizes : Sizes) (x : Contents) (limit : ℕ) (root : Root) (bs : List ℕ) → (root.block ≡ 0 → ⊥) → IsUnder sizes x limit root bs → (rs : List Record) × Subtree sizes x limit root.level root.block rs bs
root_top sizes x limit root bs some (m, inl bare) = absurd (some bare.none)
root_top sizes x limit root bs some (m, inr top) = (m, top.subtree)
