-- What a change under the chosen child of an inner block leaves as it is, and what stands over it then.
use Rattle.std.proofs.Common.{◌≡◌, ℕ, suc, ◌+◌, ◌-◌, ◌<◌, ◌≤◌, Bool, true, List, ◌++◌, length, get_or, take, drop, Option, sym, ap, ◌∙◌, subst, arith, take-append-drop}
use Rattle.std.specs.Prelude.{◌≢◌, IfSome}
use Rattle.std.specs.List.{AllByRecursion}
use Rattle.vm_types.specs.Places.{RisesFrom, places}
use Rattle.vm_disk.specs.Disk.{Contents, block, Medium}
use Rattle.vm_alloc.specs.Held.{HoldsMore, IsHeld}
use Rattle.vm_block.specs.Leaf.{Record, BeginsWith}
use Rattle.vm_block.specs.Node.{ChildFits, lows}
use Rattle.vm_block.specs.Way.{IsChosen}
use Rattle.vm_block.specs.declared.node.Child.{Child}
use Rattle.vm_block.proofs.EachLemmas.{each_both, each_front, each_back, each_so}
use Rattle.vm_tree.specs.Tree.{Sizes, Children, Subtree}
use Rattle.vm_tree.specs.BlockReads.{IsNodeAt}
use Rattle.vm_tree.specs.Replacement.{IsRenewed, KeepsOwn, Lacks, Replaces, without_own}
use Rattle.vm_tree.specs.Splits.{Made}
use Rattle.vm_tree.proofs.Beside.{left_apart, once_left, once_own, once_right, parts_of, right_apart}
use Rattle.vm_tree.proofs.Descent.{Opened, opens}
use Rattle.vm_tree.proofs.Growing.{made_join}
use Rattle.vm_tree.proofs.Renewing.{keeps_own, kept_without, renewed_more, renewed_old}
use Rattle.vm_tree.proofs.Splitting.{children_in}
use Rattle.vm_tree.proofs.TreeLemmas.{subtree_in}

-- the chosen child replaced by what was made in its place
pub replaced_made : (P Q : ℕ → Type 0) (sizes : Sizes) (x y : Contents) (limit level b p : ℕ) (rs : List Record) (bs : List ℕ) (cs : List Child) (i : ℕ) (d : Child) → ((n : ℕ) → P n → block y n ≡ block x n) → ((n : ℕ) → P n → Q n)
    → (at : Opened sizes x limit level b p rs bs cs i d) → AllByRecursion P at.way.split.left → AllByRecursion P at.way.split.right → (now : List Child) (subs : List Record) → Made Q sizes y limit (level - 1) now subs
    → Made Q sizes y limit (level - 1) (take i cs ++ (now ++ drop (i + 1) cs)) (at.way.split.before ++ (subs ++ at.way.split.after))
replaced_made P Q sizes x y limit level b p rs bs cs i d same so at left right now subs made =
    let s = at.way.split in
    let below = Subtree sizes x limit (level - 1) in
    let later = Subtree sizes y limit (level - 1) in
    let moved = subtree_in P sizes x y limit same (level - 1) in
    let one : suc i ≡ i + 1 = omega arith in
    let next : drop (suc i) cs ≡ drop (i + 1) cs = ap (λ n. drop n cs) one in
    let back = subst (λ (ds : List Child). Children below ds s.after s.right) next s.back in
    let fit = λ (n : ℕ). subst (AllByRecursion ChildFits) (sym (take-append-drop n cs)) at.node.fit in
    made_join Q sizes y limit (level - 1) (take i cs) (now ++ drop (i + 1) cs) s.before (subs ++ s.after)
    (record { blocks = s.left; under = children_in P below later moved (take i cs) s.before s.left s.front left; each = each_so P Q so s.left left; fit = each_front ChildFits (take i cs) (drop i cs) (fit i) })
    (made_join Q sizes y limit (level - 1) now (drop (i + 1) cs) subs s.after made
    (record { blocks = s.right; under = children_in P below later moved (drop (i + 1) cs) s.after s.right back right; each = each_so P Q so s.right right; fit = each_back ChildFits (take (i + 1) cs) (drop (i + 1) cs) (fit (i + 1)) }))

module _ (sizes : Sizes) (old mid : Medium) (limit level b p : ℕ) (rs : List Record) (bs : List ℕ) (cs : List Child) (i : ℕ) (d : Child) (still : mid ≡ old) (above : 0 < level)
    (tree : Subtree sizes old.contents limit level b rs bs) (rises : RisesFrom 0 (places rs)) (only : (ds : List Child) → IsNodeAt old.contents limit level b ds → length ds ≤ sizes.fan → cs ≡ ds) (chosen : IsChosen (lows cs) p i) where
  -- what is asked of the blocks that a change under the chosen child leaves as they are
  abbrev pub Frames : Child → List Bool → Contents → Type 0
  Frames c before y = (sub : List Record) (own : List ℕ) → Subtree sizes mid.contents limit (level - 1) c.block sub own → BeginsWith c.low sub → RisesFrom 0 (places sub)
      → (n : ℕ) → IsHeld before n → Lacks n own → block y n ≡ block mid.contents n

  pub opened : Opened sizes old.contents limit level b p rs bs cs i d
  opened = opens sizes old.contents limit level b p rs bs cs i d above tree rises only chosen

  -- those beside it keep their bytes
  pub framed : (c : Child) (before : List Bool) (y : Contents) → get_or cs i d ≡ c → Frames c before y → (n : ℕ) → IsHeld before n → Lacks n opened.way.split.own → block y n ≡ block old.contents n
  framed c before y is frames n had lacks =
      let s = opened.way.split in
      let child = subst (λ (m : Medium). Subtree sizes m.contents limit (level - 1) (get_or cs i d).block s.sub s.own) (sym still) s.child in
      frames s.sub s.own (subst (λ (e : Child). Subtree sizes mid.contents limit (level - 1) e.block s.sub s.own) is child) (subst (λ (e : Child). BeginsWith e.low s.sub) is s.begins) opened.way.rising n had lacks
      ∙ ap (λ (m : Medium). block m.contents n) still

  -- and so do those beside the block itself
  pub framed_beside : (c : Child) (before : List Bool) (y : Contents) → get_or cs i d ≡ c → Frames c before y → (n : ℕ) → IsHeld before n → Lacks n bs → block y n ≡ block old.contents n
  framed_beside c before y is frames n had lacks =
      framed c before y is frames n had (parts_of sizes old.contents limit level b p rs bs cs i d above tree rises opened (λ k. k ≢ n) lacks).own

  -- the block itself, too
  pub framed_top : (c : Child) (before : List Bool) (y : Contents) → get_or cs i d ≡ c → Frames c before y → IsHeld before b → block y b ≡ block old.contents b
  framed_top c before y is frames had =
      framed c before y is frames b had (once_own sizes old.contents limit level b p rs bs cs i d above tree rises opened)

  -- the children, with those in place of the chosen one that were made of it, where the own block is to be written over them
  pub renews : (before between : List Bool) (own : Option ℕ) (keep : ℕ → Bool) (c : Child) (y : Contents) (now : List Child) (subs : List Record)
      → IfSome own (λ n. n ≡ b) → get_or cs i d ≡ c → Frames c before y → HoldsMore before between
      → AllByRecursion (IsHeld before) bs → AllByRecursion (λ n. keep n ≡ true) bs
      → Replaces before between opened.way.split.own (λ P. Made P sizes y limit (level - 1) now subs)
      → KeepsOwn own before keep × Made (IsRenewed before between (without_own own keep)) sizes y limit (level - 1) (take i cs ++ (now ++ drop (i + 1) cs)) (opened.way.split.before ++ (subs ++ opened.way.split.after))
  renews before between own keep c y now subs mine is frames more all keeps made =
      let s = opened.way.split in
      let inner = without_own own keep in
      let held = parts_of sizes old.contents limit level b p rs bs cs i d above tree rises opened (IsHeld before) all in
      let kept = parts_of sizes old.contents limit level b p rs bs cs i d above tree rises opened (λ n. keep n ≡ true) keeps in
      let P : ℕ → Type 0 = λ n. IsRenewed before before inner n × Lacks n s.own in
      let left = renewed_old before inner s.left held.left (kept_without own keep b s.left mine kept.left (once_left sizes old.contents limit level b p rs bs cs i d above tree rises opened)) in
      let right = renewed_old before inner s.right held.right (kept_without own keep b s.right mine kept.right (once_right sizes old.contents limit level b p rs bs cs i d above tree rises opened)) in
      let below = made inner held.own (kept_without own keep b s.own mine kept.own (once_own sizes old.contents limit level b p rs bs cs i d above tree rises opened)) in (
        keeps_own own before keep b mine held.top kept.top,
        replaced_made P (IsRenewed before between inner) sizes old.contents y limit level b p rs bs cs i d (λ n has. framed c before y is frames n has.0.now has.1) (λ n has. renewed_more before before between inner more n has.0) opened
            (each_both (IsRenewed before before inner) (λ n. Lacks n s.own) s.left left (left_apart sizes old.contents limit level b p rs bs cs i d above tree rises opened))
            (each_both (IsRenewed before before inner) (λ n. Lacks n s.own) s.right right (right_apart sizes old.contents limit level b p rs bs cs i d above tree rises opened)) now subs below,
      )
