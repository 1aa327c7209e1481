-- Roots: the top of what was made, and what a Put at a root answers.
use Rattle.std.proofs.Common.{◌≡◌, ℕ, ◌+◌, ◌-◌, ◌<◌, List, [], ◌∷◌, ◌++◌, Ok, Err, refl, sym, ap, ◌∙◌, subst, arith, inr, append-nil}
use Rattle.vm_types.specs.declared.key.Key.{Key}
use Rattle.vm_types.specs.Map.{Map, with_value}
use Rattle.vm_types.specs.Places.{KeyFits, FitKeys, RisesFrom, places, with_record}
use Rattle.vm_types.proofs.Bridge.{with_record-value}
use Rattle.vm_disk.specs.Disk.{Contents}
use Rattle.vm_block.specs.Leaf.{Record, RecordFits, BeginsWith}
use Rattle.vm_block.specs.declared.node.Child.{Child}
use Rattle.vm_block.proofs.EachLemmas.{each_so}
use Rattle.vm_tree.specs.FullPath.{GrowsBy}
use Rattle.vm_tree.specs.Tree.{Sizes, Subtree}
use Rattle.vm_tree.specs.Answers.{LacksRoom, Puts}
use Rattle.vm_tree.specs.Splits.{Made, PutsBelow, children_of, extra}
use Rattle.vm_tree.specs.declared.block_writes.Copied.{Copied}
use Rattle.vm_tree.specs.declared.block_writes.Copied.TheVariants.{One}
use Rattle.vm_tree.specs.Root.{IsTop, IsRootedIn}
use Rattle.vm_tree.specs.declared.root.Root.{Root}
use Rattle.vm_tree.specs.declared.faults.TreeFault.{TreeFault}
use Rattle.vm_tree.specs.declared.faults.PutFault.{PutFault}
use Rattle.vm_tree.specs.declared.faults.PutFault.TheVariants as put
use Rattle.vm_tree.specs.declared.faults.TreeFault.TheVariants.{Device, Damaged}
use Rattle.vm_tree.proofs.TreeLemmas.{subtree_fit}
use Rattle.vm_tree.proofs.FullPaths.{grows_level, grows_one}
use Rattle.vm_tree.proofs.Descent.{subtree_top}
use Rattle.vm_tree.proofs.Placing.{with_rises}

-- one child that was made is a root
pub made_root : (P : ℕ → Type 0) (sizes : Sizes) (x : Contents) (limit l : ℕ) (c : Child) (rs : List Record) → l < sizes.levels → RisesFrom 0 (places rs) → Made P sizes x limit l (c ∷ []) rs
    → IsRootedIn sizes P x limit (record { block = c.block; level = l; low = c.low }) rs
made_root P sizes x limit l c rs low rises made =
    let t = made.under in
    let records : rs ≡ t.0 = t.7 ∙ ap (λ z. t.0 ++ z) t.6.0 ∙ append-nil t.0 in
    let blocks : made.blocks ≡ t.2 = t.8 ∙ ap (λ z. t.2 ++ z) t.6.1 ∙ append-nil t.2 in
    let begins = subst (BeginsWith c.low) (sym records) t.5 in
    let subtree = subst (λ (bs : List ℕ). Subtree sizes x limit l c.block rs bs) (sym blocks) (subst (λ (qs : List Record). Subtree sizes x limit l c.block qs t.2) (sym records) t.4) in
    record { stands_in = made.blocks; rooted = inr (record { level = low; subtree = subtree; rising = rises; lowest = begins }); each = made.each }

-- the keys of a subtree have their sizes
pub subtree_keys : (sizes : Sizes) (x : Contents) (limit l b : ℕ) (rs : List Record) (bs : List ℕ) → Subtree sizes x limit l b rs bs → FitKeys rs
subtree_keys sizes x limit l b rs bs tree = each_so RecordFits (λ r. KeyFits r.0) (λ r fits. fits.0) rs (subtree_fit sizes x limit l b rs bs tree)

module _ (sizes : Sizes) (x : Contents) (limit : ℕ) (root : Root) (m : Map) (bs : List ℕ) (key : Key) (value : List ℕ) (fits : KeyFits key) (top : IsTop sizes x limit root m bs) where
  -- where there is no room, the top would become more blocks, and has the greatest level
  pub lacks_grows : LacksRoom sizes x root (key, value) → (more : ℕ) × (0 < more) × GrowsBy sizes x (key, value) root.level root.block more × (root.level + 1 ≡ sizes.levels)
  lacks_grows lacks =
      let full = lacks.full in
      let same = grows_level sizes x (key, value) limit full.0 root.level root.block full.1 m bs full.4 top.subtree in
      (full.1, full.3, subst (λ l. GrowsBy sizes x (key, value) l root.block full.1) same full.4, ap (λ l. l + 1) (sym same) ∙ full.2)

  -- and the other way
  pub grows_lacks : root.level + 1 ≡ sizes.levels → (more : ℕ) → 0 < more → GrowsBy sizes x (key, value) root.level root.block more → LacksRoom sizes x root (key, value)
  grows_lacks greatest more some grows =
      let inside = subtree_top sizes x limit root.level root.block m bs top.subtree in
      record { some = omega (arith, inside.0); full = (root.level, more, greatest, some, grows) }

  -- what was made stands under a new root
  pub root_made : (P : ℕ → Type 0) (y : Contents) (l : ℕ) (c : Child) → l < sizes.levels → Made P sizes y limit l (c ∷ []) (with_record (key, value) m)
      → IsRootedIn sizes P y limit (record { block = c.block; level = l; low = c.low }) (with_value m key value)
  root_made P y l c low made =
      subst (λ (n : Map). IsRootedIn sizes P y limit (record { block = c.block; level = l; low = c.low }) n) (with_record-value key value m fits (subtree_keys sizes x limit root.level root.block m bs top.subtree))
      (made_root P sizes y limit l c (with_record (key, value) m) low (with_rises (key, value) 0 m (omega arith) top.rising) made)

  -- the top was written anew as one block
  pub root_one : (P : ℕ → Type 0) (y : Contents) (copied : Copied) (room : ℕ) (c : Child) (H : Type 0) → copied ≡ One c
      → PutsBelow (Ok copied) room (GrowsBy sizes x (key, value) root.level root.block) (λ cs. H → Made P sizes y limit root.level cs (with_record (key, value) m))
      → (H → IsRootedIn sizes P y limit (record { block = c.block; level = root.level; low = c.low }) (with_value m key value)) × (LacksRoom sizes x root (key, value) → ⊥)
  root_one P y copied room c H is put = (
    λ h. root_made P y root.level c top.level (subst (λ (z : Copied). Made P sizes y limit root.level (children_of z) (with_record (key, value) m)) is (put.0 h)),
    λ lacks.
        let full = lacks_grows lacks in
        let none : extra copied ≡ 0 = ap extra is in
        let same = grows_one sizes x (key, value) root.level root.block (extra copied) full.0 put.1 full.2 in
        omega (arith, full.1, none, same),
  )

  -- the top became more blocks, and a new one was written over them
  pub root_more : (P Q : ℕ → Type 0) (y z : Contents) (other : ℕ) (copied : Copied) (room : ℕ) (cs : List Child) (c : Child) (H : Type 0) → children_of copied ≡ cs → other ≡ limit → root.level + 1 < sizes.levels
      → PutsBelow (Ok copied) room (GrowsBy sizes x (key, value) root.level root.block) (λ ds. H → Made P sizes y limit root.level ds (with_record (key, value) m))
      → ((rs : List Record) → RisesFrom 0 (places rs) → Made P sizes y other (root.level + 1 - 1) cs rs → Made Q sizes z other (root.level + 1) (c ∷ []) rs)
      → (H → IsRootedIn sizes Q z limit (record { block = c.block; level = root.level + 1; low = c.low }) (with_value m key value)) × (LacksRoom sizes x root (key, value) → ⊥)
  root_more P Q y z other copied room cs c H is limits low put made =
      let same : root.level + 1 - 1 ≡ root.level = omega arith in
      let rs = with_record (key, value) m in (
        λ h.
            let all = subst (λ (ds : List Child). Made P sizes y limit root.level ds rs) is (put.0 h) in
            let there = subst (λ n. Made P sizes y n (root.level + 1 - 1) cs rs) (sym limits) (subst (λ l. Made P sizes y limit l cs rs) (sym same) all) in
            root_made Q z (root.level + 1) c low (subst (λ n. Made Q sizes z n (root.level + 1) (c ∷ []) rs) limits (made rs (with_rises (key, value) 0 m (omega arith) top.rising) there)),
        λ lacks. omega (arith, low, (lacks_grows lacks).3),
      )

-- a fault from below is the answer
pub fault_puts : {T : Type 0} (e : PutFault) (room : ℕ) (grows : ℕ → Type 0) (deep : Type 0) (P : List Child → Type 0) (Q : T → Type 0) → PutsBelow (Err e) room grows P → (e ≡ put.Deep → (more : ℕ) → room < more → grows more → deep) → Puts (Err e) deep Q
fault_puts (put.Tree Device) room grows deep P Q fault so = tt
fault_puts (put.Tree (Damaged b)) room grows deep P Q fault so = fault
fault_puts put.Deep room grows deep P Q fault so = so refl fault.0 fault.1 fault.2
