use Rattle.std.proofs.Common.{◌≡◌, ℕ, Bool, true, List, [], ◌∷◌, length, ap, sym, subst, refl, arith, rules}
use Rattle.std.specs.List.{AllByRecursion}
use Rattle.vm_alloc.specs.Held.{IsHeld}
use Rattle.vm_tree.specs.Free.{IsBeside}
use Rattle.vm_types.specs.Places.{place}
use Rattle.vm_block.specs.Changed.{without_place}
use Rattle.vm_block.specs.Leaf.{Record}
use Rattle.vm_alloc.proofs.HeldLemmas.{holds_same}
use Rattle.vm_tree.specs.Splits.{Made}
use Rattle.vm_tree.specs.BlockReads.{IsLeafAt}
use Rattle.vm_tree.specs.Removal.{WasThere, child_of}
use Rattle.vm_tree.specs.Replacement.{IsRenewed}
use Rattle.vm_tree.specs.declared.root.Root.{Root}
use Rattle.vm_tree.proofs.HandLemmas.{hand_records}
use Rattle.vm_tree.proofs.Looking.{looks_free, looks_never, looks_write, passed_on}
use Rattle.vm_tree.proofs.Leading.{leads_end}
use Rattle.vm_tree.proofs.OneLeft.{one_record}
use Rattle.vm_tree.proofs.Renewing.{keeps_own, place_now}
use Rattle.vm_tree.proofs.RemovalLemmas.{without_size}
use Rattle.vm_tree.proofs.TreeLemmas.{leaf_opens, leaf_read}
use Rattle.vm_tree.proofs.removal.remove_from_leaf.Goals as goal

pub returns-in-Absent-clause-remove : goal.returns-in-Absent-clause-remove
returns-in-Absent-clause-remove g c sizes honest rs bs tree begins rises =
    let x = (g.D.Disk.state c.args.disk.now).now.contents in
    let at = subst (λ n. IsLeafAt x n c.args.top.block rs) (sym c.blocks-2.ensures.count) (leaf_read sizes x _ _ rs bs tree) in
    c.in-Absent.ensures.only rs (hand_records (sym c.at_hand-leaf.ensures) (c.in_ok-load_leaf.ensures.only honest rs at begins))

pub returns-in-Last-clause-remove : goal.returns-in-Last-clause-remove
returns-in-Last-clause-remove g c sizes honest rs bs tree begins rises =
    let x = (g.D.Disk.state c.args.disk.now).now.contents in
    let at = subst (λ n. IsLeafAt x n c.args.top.block rs) (sym c.blocks-2.ensures.count) (leaf_read sizes x _ _ rs bs tree) in
    c.in-Last.ensures.only rs (hand_records (sym c.at_hand-leaf.ensures) (c.in_ok-load_leaf.ensures.only honest rs at begins))

pub returns-in_ok-leaf-in-Out-clause-remove : goal.returns-in_ok-leaf-in-Out-clause-remove
returns-in_ok-leaf-in-Out-clause-remove g c sizes honest rs bs tree begins rises =
    let x = (g.D.Disk.state c.args.disk.now).now.contents in
    let limit = length c.args.held.now in
    let before = c.args.held.now in
    let at = subst (λ n. IsLeafAt x n c.args.top.block rs) (sym c.blocks-2.ensures.count) (leaf_read sizes x _ _ rs bs tree) in
    let earlier = c.in_ok-leaf-in-Out.ensures.writes.goes.earlier honest in
    let out = c.in-Out.ensures.only rs (hand_records (sym c.at_hand-leaf.ensures) (c.in_ok-load_leaf.ensures.only earlier rs at begins)) in
    let left = without_place (place c.args.key) rs in
    let y = (g.D.Disk.state c.write_bytes.new.disk).now.contents in
    let M : (ℕ → Bool) → Root → Type 0 = λ keep r. Made (IsRenewed before c.write_bytes.new.held keep) sizes y limit r.level (child_of r ∷ []) left in (
      out.0,
      λ keep all keeps.
          let first = (leaf_opens sizes x limit 0 c.args.top.block rs bs refl tree).first in
          let mine = keeps_own c.args.own before keep c.args.top.block c.requires.place (subst (AllByRecursion (IsHeld before)) first all).0 (subst (AllByRecursion (λ n. keep n ≡ true)) first keeps).0 in
          subst (M keep) (sym c.root_at.ensures) (c.in_ok-leaf-in-Out.ensures.leaf honest before keep (holds_same before) mine sizes left out.1),
    )

pub returns-in_err-load_leaf-clause-remove : goal.returns-in_err-load_leaf-clause-remove
returns-in_err-load_leaf-clause-remove g c sizes honest rs bs tree begins rises =
    let x = (g.D.Disk.state c.args.disk.now).now.contents in
    let at = subst (λ n. IsLeafAt x n c.args.top.block rs) (sym c.blocks-2.ensures.count) (leaf_read sizes x _ _ rs bs tree) in
    rw (passed_on _ c.from_residual.ensures.1) (c.in_err-load_leaf.ensures.only honest rs at begins)

pub returns-in-Absent-clause-path : goal.returns-in-Absent-clause-path
returns-in-Absent-clause-path g c honest = leads_end _ _ _ (length c.args.held.now) 0 c.args.top.block c.args.top.low refl c.blocks-2.ensures.count (c.in_ok-load_leaf.ensures.end honest)

pub returns-in-Last-clause-path : goal.returns-in-Last-clause-path
returns-in-Last-clause-path g c honest = leads_end _ _ _ (length c.args.held.now) 0 c.args.top.block c.args.top.low refl c.blocks-2.ensures.count (c.in_ok-load_leaf.ensures.end honest)

pub returns-in_ok-leaf-in-Out-clause-path : goal.returns-in_ok-leaf-in-Out-clause-path
returns-in_ok-leaf-in-Out-clause-path g c honest = leads_end _ _ _ (length c.args.held.now) 0 c.args.top.block c.args.top.low refl c.blocks-2.ensures.count (c.in_ok-load_leaf.ensures.end (c.write_bytes.ensures.writes.goes.earlier honest))

pub returns-in_ok-leaf-in-Out-clause-kept : goal.returns-in_ok-leaf-in-Out-clause-kept
returns-in_ok-leaf-in-Out-clause-kept g c =
    let before = c.args.held.now in
    let later = c.write_bytes.new.held in
    let written = c.in_ok-leaf-in-Out.ensures.written in
    looks_never (λ is.
    let there = subst (λ (root : Root). WasThere (IsBeside c.args.own) before later root) c.root_at.ensures is in
    place_now c.args.own before before later c.in_ok-leaf-in-Out.leaf.block (holds_same before) written.place written.taken.held_now there.0 there.1)

pub returns-in-Last-clause-last : goal.returns-in-Last-clause-last
returns-in-Last-clause-last g c honest none =
    let found = c.in_ok-load_leaf.ensures.found honest in
    let out = c.in-Last.ensures.only found.records (hand_records (sym c.at_hand-leaf.ensures) found.leaf) in
    let size = without_size (place c.args.key) found.records in
    one_record _ c.args.top.block _ found.records found.bytes_are found.leaf (omega (arith, size.1, ap (λ (rs : List Record). length rs) out.1, found.leaf.some))

pub returns-in-Absent-clause-writes : goal.returns-in-Absent-clause-writes
returns-in-Absent-clause-writes g c = looks_free c.in_ok-load_leaf.ensures.looks (λ is. cc) (omega arith)

pub returns-in-Last-clause-writes : goal.returns-in-Last-clause-writes
returns-in-Last-clause-writes g c = looks_free c.in_ok-load_leaf.ensures.looks (λ is. cc) (omega arith)

pub returns-in_ok-leaf-in-Out-clause-writes : goal.returns-in_ok-leaf-in-Out-clause-writes
returns-in_ok-leaf-in-Out-clause-writes g c = looks_write c.in_ok-load_leaf.ensures.looks c.in_ok-leaf-in-Out.ensures.writes (λ is. cc) (λ spared may. may) (omega arith) (omega arith)

pub returns-in_err-leaf-in-Out-clause-writes : goal.returns-in_err-leaf-in-Out-clause-writes
returns-in_err-leaf-in-Out-clause-writes g c = looks_write c.in_ok-load_leaf.ensures.looks c.in_err-leaf-in-Out.ensures.writes (search rules) (λ spared may. may) (omega arith) (omega arith)

pub returns-in_err-load_leaf-clause-writes : goal.returns-in_err-load_leaf-clause-writes
returns-in_err-load_leaf-clause-writes g c = looks_free c.in_err-load_leaf.ensures.looks (search rules) (omega arith)
