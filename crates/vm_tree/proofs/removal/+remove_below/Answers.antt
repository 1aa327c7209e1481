use Rattle.std.proofs.Common.{◌≡◌, ◌∙◌, true, false, ℕ, Bool, ◌+◌, ◌-◌, ◌<◌, Ok, IfOk, List, [], ◌∷◌, ◌++◌, length, option_copied, take, drop, ap, sym, subst, refl, arith, rules}
use Rattle.std.proofs.lemmas.Bool.{false≢true, eqb-false, eqb-true}
use Rattle.vm_types.specs.Places.{place}
use Rattle.std.specs.List.{AllByRecursion}
use Rattle.vm_disk.specs.Disk.{Contents, Medium}
use Rattle.vm_disk.proofs.MomentLemmas.{same_medium}
use Rattle.vm_block.specs.Leaf.{Record}
use Rattle.vm_block.specs.declared.node.Child.{Child}
use Rattle.vm_alloc.specs.Held.{HoldsMore}
use Rattle.vm_block.proofs.EachLemmas.{each_so}
use Rattle.vm_tree.specs.Free.{IsBeside}
use Rattle.vm_tree.specs.Tree.{Children, Subtree}
use Rattle.vm_tree.specs.Splits.{Made}
use Rattle.vm_tree.specs.BlockReads.{IsNodeAt}
use Rattle.vm_block.specs.Changed.{without_place}
use Rattle.vm_tree.specs.Removal.{HasOne, IsLeftOf, IsOutside, NeedsNone, RemovesBelow, WasThere, child_of, level_of}
use Rattle.vm_tree.specs.Replacement.{IsRenewed, KeepsOwn, Lacks, Replaces, without_own}
use Rattle.vm_alloc.proofs.HeldLemmas.{holds_same}
use Rattle.vm_tree.specs.declared.removal.Left.{Left}
use Rattle.vm_tree.specs.declared.removal.Left.TheVariants.{Rest}
use Rattle.vm_tree.specs.declared.root.Root.{Root}
use Rattle.vm_tree.specs.Root.{sizes_of}
use Rattle.vm_tree.specs.declared.faults.TreeFault.TheVariants.{Device}
use Rattle.vm_tree.proofs.HandLemmas.{hand_node}
use Rattle.vm_tree.proofs.Beside.{lacks_top}
use Rattle.vm_tree.proofs.Framing.{framed_beside, framed_top}
use Rattle.vm_tree.proofs.Touching.{others_kept}
use Rattle.vm_tree.proofs.TreeLemmas.{leaf_opens}
use Rattle.vm_tree.proofs.Looking.{looks_free, looks_if, looks_if_on, looks_never, looks_write, passed_on, reads_fewer, writes_as, writes_on}
use Rattle.vm_tree.proofs.Descent.{node_read}
use Rattle.vm_tree.proofs.Leading.{leads_on, if_ok_is}
use Rattle.vm_tree.proofs.OneLeft.{one_child_on}
use Rattle.vm_tree.proofs.PutLemmas.{only_one, replaced_length, same_children, stands_made}
use Rattle.vm_tree.proofs.RemoveLemmas.{needs_so, nothing_needs, same_needs, rests_removes, none_there, fault_there, node_rest, two_children, only_there, others_left}
use Rattle.vm_tree.proofs.Renewing.{beside_own, outside_own, own_kept, own_more, own_there, place_now, renewed_all, renewed_more, spares_own}
use Rattle.vm_block.specs.Node.{IsNode}
use Rattle.std.specs.Prelude.{is_some}
use Rattle.vm_tree.proofs.removal.+remove_below.Goals as goal
use Rattle.vm_tree.proofs.removal.+remove_below.Goals.{then-is_root, else-is_root}

pub returns-then-alone-clause-remove : goal.returns-then-alone-clause-remove
returns-then-alone-clause-remove g t c levels honest rs bs tree begins rises =
    let sizes = sizes_of g.row.FAN levels in
    let old = (g.D.Disk.state c.args.disk.now).now in
    let p = place c.args.key in
    let limit = length c.args.held.now in let l = c.args.level in let b = c.args.top.block in
    let still = same_medium _ _ (c.in_ok-way.ensures.looks.reads (c.in_ok-left.ensures.writes.goes.earlier honest)) in
    let above : 0 < l = omega (arith, c.if-level-eq0.false) in
    let read = node_read sizes old.contents limit l b rs bs above tree in
    let cs = read.0 in
    let way = c.in_ok-way.ensures.only (c.in_ok-left.ensures.writes.goes.earlier honest) cs (subst (λ n. IsNodeAt old.contents n l b cs) (sym c.blocks-2.ensures.count) read.1) (read.3 c.args.top.low begins) read.2 in
    let only = only_one old.contents limit l b sizes.fan cs read.1 in
    let i = c.in_ok-way.way.index in let d = c.in_ok-way.way.child in
    let chosen = way.2.chosen in
    let before = c.args.held.now in
    let between = c.remove_below.new.held in
    let after = (g.D.Disk.state c.remove_below.new.disk).now.contents in
    let single : c.in_ok-way.way.count ≡ 1 = elim c.if-is_root.branch [ then-is_root w ↦ eqb-true c.in_ok-way.way.count 1 (sym w.alone-is ∙ c.if-alone.true) | else-is_root w ↦ absurd (false≢true (sym w.if-is_root.false ∙ sym w.alone-is ∙ c.if-alone.true)) ] in
    let one : length cs ≡ 1 = sym way.1 ∙ single in
    let M : (ℕ → Type 0) → List Record → Type 0 = λ P qs. Made P sizes after limit c.in-Rest.root.level (child_of c.in-Rest.root ∷ []) qs in
    only_there sizes old _ limit l b p rs bs cs i d still above tree rises only chosen d way.2.child before between M one
    (λ sub own there low rising. subst (λ (left : Left). RemovesBelow (Ok left) p sub (λ root. Replaces before between own (λ P. Made P sizes after limit root.level (child_of root ∷ []) (without_place p sub)))) c.in-Rest.is (c.in_ok-left.ensures.remove levels honest sub own there low rising))

pub returns-in-Same-clause-remove : goal.returns-in-Same-clause-remove
returns-in-Same-clause-remove g t c levels honest rs bs tree begins rises =
    let sizes = sizes_of g.row.FAN levels in
    let old = (g.D.Disk.state c.args.disk.now).now in
    let p = place c.args.key in
    let limit = length c.args.held.now in let l = c.args.level in let b = c.args.top.block in
    let still = same_medium _ _ (c.in_ok-way.ensures.looks.reads (c.in_ok-left.ensures.writes.goes.earlier honest)) in
    let above : 0 < l = omega (arith, c.if-level-eq0.false) in
    let read = node_read sizes old.contents limit l b rs bs above tree in
    let cs = read.0 in
    let way = c.in_ok-way.ensures.only (c.in_ok-left.ensures.writes.goes.earlier honest) cs (subst (λ n. IsNodeAt old.contents n l b cs) (sym c.blocks-2.ensures.count) read.1) (read.3 c.args.top.low begins) read.2 in
    let only = only_one old.contents limit l b sizes.fan cs read.1 in
    let i = c.in_ok-way.way.index in let d = c.in_ok-way.way.child in
    let chosen = way.2.chosen in
    let before = c.args.held.now in
    let between = c.remove_below.new.held in
    let after = (g.D.Disk.state c.remove_below.new.disk).now.contents in
    none_there sizes old _ limit l b p rs bs cs i d still above tree rises only chosen d way.2.child
    (λ sub own there low rising. subst (λ (left : Left). RemovesBelow (Ok left) p sub (λ root. Replaces before between own (λ P. Made P sizes after limit root.level (child_of root ∷ []) (without_place p sub)))) c.in-Same.is (c.in_ok-left.ensures.remove levels honest sub own there low rising))

pub returns-in-Some-clause-remove : goal.returns-in-Some-clause-remove
returns-in-Some-clause-remove g t c levels honest rs bs tree begins rises =
    let sizes = sizes_of g.row.FAN levels in
    let old = (g.D.Disk.state c.args.disk.now).now in
    let p = place c.args.key in
    let limit = length c.args.held.now in let l = c.args.level in let b = c.args.top.block in
    let still = same_medium _ _ (c.in_ok-way.ensures.looks.reads (c.in_ok-left.ensures.writes.goes.earlier (c.write_rest.ensures.writes.goes.earlier honest))) in
    let above : 0 < l = omega (arith, c.if-level-eq0.false) in
    let read = node_read sizes old.contents limit l b rs bs above tree in
    let cs = read.0 in
    let way = c.in_ok-way.ensures.only (c.in_ok-left.ensures.writes.goes.earlier (c.write_rest.ensures.writes.goes.earlier honest)) cs (subst (λ n. IsNodeAt old.contents n l b cs) (sym c.blocks-2.ensures.count) read.1) (read.3 c.args.top.low begins) read.2 in
    let only = only_one old.contents limit l b sizes.fan cs read.1 in
    let i = c.in_ok-way.way.index in let d = c.in_ok-way.way.child in
    let chosen = way.2.chosen in
    let before = c.args.held.now in
    let between = c.remove_below.new.held in
    let after = (g.D.Disk.state c.remove_below.new.disk).now.contents in
    let later = c.write_rest.new.held in
    let none = nothing_needs (IsOutside (option_copied c.args.base)) c.args.held.now c.remove_below.new.held c.in_ok-left.left c.in-Nothing.is in
    let kept : c.remove_below.new.held ≡ c.args.held.now = c.in_ok-left.ensures.kept.kept none in
    let lent = c.as_slice.ensures.value ∙ c.in-Some.ensures.only l cs (hand_node (sym c.at_hand-node.ensures) way.0) way.1 in
    let o = others_left sizes old _ limit l b p rs bs cs i d still above tree rises only chosen d way.2.child before c.own_place-own.result c.as_slice.result.now c.own_place-own.ensures.same lent
    (λ sub own there low rising. subst (λ (left : Left). RemovesBelow (Ok left) p sub (λ root. Replaces before between own (λ P. Made P sizes after limit root.level (child_of root ∷ []) (without_place p sub)))) c.in-Nothing.is (c.in_ok-left.ensures.remove levels (c.write_rest.ensures.writes.goes.earlier honest) sub own there low rising)) in
    let same = ap (λ (m : Medium). m.contents) (same_medium _ _ (c.in_ok-left.ensures.kept.reads (c.write_rest.ensures.writes.goes.earlier honest) none) ∙ still) in
    let C : Contents → ℕ → Type 0 = λ x n. Children (Subtree sizes x n (l - 1)) c.as_slice.result.now (without_place p rs) o.kept in
    let there = subst (λ (held : List Bool). C after (length held)) (sym kept) (subst (λ (x : Contents). C x limit) (sym same) o.under) in
    let more = c.in_ok-left.ensures.writes.still in
    let M : ℕ → Root → (ℕ → Type 0) → Type 0 = λ n root P. Made P sizes (g.D.Disk.state c.write_rest.new.disk).now.contents n root.level (child_of root ∷ []) (without_place p rs) in
    rests_removes c.write_rest.result p rs
    (λ root. (first : List Bool) (keep : ℕ → Bool) → HoldsMore first between → KeepsOwn c.own_place-own.result first keep → AllByRecursion (IsRenewed first between (without_own c.own_place-own.result keep)) o.kept → M (length between) root (IsRenewed first later keep))
    (λ root. Replaces before later bs (M limit root))
    (λ root made keep all keeps.
    let inner = without_own c.own_place-own.result keep in
    let mine = o.renewed keep all keeps in
    subst (λ n. M n root (IsRenewed before later keep)) (ap length kept) (made before keep more mine.0 (each_so (IsRenewed before before inner) (IsRenewed before between inner) (renewed_more before before between inner more) o.kept mine.1))) o.there
    (c.write_rest.ensures.rest honest levels (without_place p rs) o.kept o.rising o.fit there)

pub returns-in-None-clause-remove : goal.returns-in-None-clause-remove
returns-in-None-clause-remove g t c levels honest rs bs tree begins rises =
    let sizes = sizes_of g.row.FAN levels in
    let old = (g.D.Disk.state c.args.disk.now).now in
    let limit = length c.args.held.now in let l = c.args.level in let b = c.args.top.block in
    let above : 0 < l = omega (arith, c.if-level-eq0.false) in
    let read = node_read sizes old.contents limit l b rs bs above tree in
    let cs = read.0 in
    let way = c.in_ok-way.ensures.only (c.in_ok-left.ensures.writes.goes.earlier honest) cs (subst (λ n. IsNodeAt old.contents n l b cs) (sym c.blocks-2.ensures.count) read.1) (read.3 c.args.top.low begins) read.2 in
    absurd (c.in-None.ensures.only l cs (hand_node (sym c.at_hand-node.ensures) way.0) way.1)

pub returns-in_ok-node-in-Rest-clause-remove : goal.returns-in_ok-node-in-Rest-clause-remove
returns-in_ok-node-in-Rest-clause-remove g t c levels honest rs bs tree begins rises =
    let sizes = sizes_of g.row.FAN levels in
    let old = (g.D.Disk.state c.args.disk.now).now in
    let p = place c.args.key in
    let limit = length c.args.held.now in let l = c.args.level in let b = c.args.top.block in
    let still = same_medium _ _ (c.in_ok-way.ensures.looks.reads (c.in_ok-left.ensures.writes.goes.earlier (c.in_ok-node-in-Rest.ensures.writes.goes.earlier honest))) in
    let above : 0 < l = omega (arith, c.if-level-eq0.false) in
    let read = node_read sizes old.contents limit l b rs bs above tree in
    let cs = read.0 in
    let way = c.in_ok-way.ensures.only (c.in_ok-left.ensures.writes.goes.earlier (c.in_ok-node-in-Rest.ensures.writes.goes.earlier honest)) cs (subst (λ n. IsNodeAt old.contents n l b cs) (sym c.blocks-2.ensures.count) read.1) (read.3 c.args.top.low begins) read.2 in
    let only = only_one old.contents limit l b sizes.fan cs read.1 in
    let i = c.in_ok-way.way.index in let d = c.in_ok-way.way.child in
    let chosen = way.2.chosen in
    let before = c.args.held.now in
    let between = c.remove_below.new.held in
    let after = (g.D.Disk.state c.remove_below.new.disk).now.contents in
    let later = c.write_bytes.new.held in
    let root = c.in-Rest.root in
    let new = c.child_of-child.result in
    let level : root.level ≡ l - 1 = ap (λ (left : Left). level_of left (l - 1)) (sym c.in-Rest.is) ∙ c.in_ok-left.ensures.left.same_level c.if-alone.false in
    let lent = take i cs ++ new ∷ drop (i + 1) cs in
    let rest = node_rest sizes old _ limit l b p rs bs cs i d still above tree rises only chosen d way.2.child before between c.own_place-own.result after (length between) (new ∷ []) lent c.own_place-own.ensures.same (c.in_ok-left.ensures.beside levels (c.in_ok-node-in-Rest.ensures.writes.goes.earlier honest))
    c.in_ok-left.ensures.writes.still c.in_ok-left.ensures.writes.still.same_length
    refl
    (λ sub own there low rising.
    let got = subst (λ (left : Left). RemovesBelow (Ok left) p sub (λ root. Replaces before between own (λ P. Made P sizes after limit root.level (child_of root ∷ []) (without_place p sub)))) c.in-Rest.is (c.in_ok-left.ensures.remove levels (c.in_ok-node-in-Rest.ensures.writes.goes.earlier honest) sub own there low rising) in
    let M : ℕ → Child → (ℕ → Type 0) → Type 0 = λ n child P. Made P sizes after limit n (child ∷ []) (without_place p sub) in
    (got.0, λ keep all keeps. let P = IsRenewed before between keep in subst (λ n. M n new P) level (subst (λ (child : Child). M root.level child P) (sym c.child_of-child.ensures) (got.1 keep all keeps)))) in
    let within : i < length cs = omega (arith, c.in_ok-way.ensures.way.within.0, way.1) in
    let many = replaced_length cs (new ∷ []) i within in (
      rest.0,
      λ keep all keeps.
          let P = IsRenewed before later keep in
          let y = (g.D.Disk.state c.write_bytes.new.disk).now.contents in
          let parts = rest.1 keep all keeps in
          let made = c.in_ok-node-in-Rest.ensures.node honest before keep c.in_ok-left.ensures.writes.still parts.1 sizes l lent (without_place p rs) (c.set_child.ensures.child l cs (hand_node (sym c.at_hand-node.ensures) way.0) within) above c.requires.low (omega (arith, many, within)) (omega (arith, many, read.1.node.few)) (omega (arith, many, read.2)) parts.0 parts.2 in
          let moved = subst (λ z. Made P sizes y z l (c.in_ok-node-in-Rest.node ∷ []) (without_place p rs)) c.in_ok-left.ensures.writes.still.same_length made in
          subst (λ (r : Root). Made P sizes y limit r.level (child_of r ∷ []) (without_place p rs)) (sym c.root_at-in-Rest.ensures) moved,
    )

pub returns-in_err-left-clause-remove : goal.returns-in_err-left-clause-remove
returns-in_err-left-clause-remove g t c levels honest rs bs tree begins rises =
    let sizes = sizes_of g.row.FAN levels in
    let old = (g.D.Disk.state c.args.disk.now).now in
    let p = place c.args.key in
    let limit = length c.args.held.now in let l = c.args.level in let b = c.args.top.block in
    let still = same_medium _ _ (c.in_ok-way.ensures.looks.reads (c.in_err-left.ensures.writes.goes.earlier honest)) in
    let above : 0 < l = omega (arith, c.if-level-eq0.false) in
    let read = node_read sizes old.contents limit l b rs bs above tree in
    let cs = read.0 in
    let way = c.in_ok-way.ensures.only (c.in_err-left.ensures.writes.goes.earlier honest) cs (subst (λ n. IsNodeAt old.contents n l b cs) (sym c.blocks-2.ensures.count) read.1) (read.3 c.args.top.low begins) read.2 in
    let only = only_one old.contents limit l b sizes.fan cs read.1 in
    let i = c.in_ok-way.way.index in let d = c.in_ok-way.way.child in
    let chosen = way.2.chosen in
    rw (passed_on _ c.from_residual-in_err-left.ensures.1) (fault_there sizes old _ limit l b p rs bs cs i d still above tree rises only chosen d way.2.child (c.in_err-left.field-0.0 ≡ Device)
    (λ sub own there low rising. c.in_err-left.ensures.remove levels honest sub own there low rising))

pub returns-in_err-way-clause-remove : goal.returns-in_err-way-clause-remove
returns-in_err-way-clause-remove g t c levels honest rs bs tree begins rises =
    let sizes = sizes_of g.row.FAN levels in
    let there = subst (λ n. Subtree sizes (g.D.Disk.state c.args.disk.now).now.contents n c.args.level c.args.top.block rs bs) (sym c.blocks-2.ensures.count) tree in
    let at = node_read sizes _ _ _ _ rs bs (omega (arith, c.if-level-eq0.false)) there in
    rw (passed_on _ c.from_residual.ensures.1) (c.in_err-way.ensures.only honest at.0 at.1 (at.3 c.args.top.low begins) at.2)

pub returns-then-alone-clause-path : goal.returns-then-alone-clause-path
returns-then-alone-clause-path g t c honest =
    leads_on _ _ _ (length c.args.held.now) c.args.level c.args.top.block c.args.top.low c.in_ok-way.way.child (omega (arith, c.if-level-eq0.false)) c.blocks-2.ensures.count
    (same_medium _ _ (c.in_ok-way.ensures.looks.reads (c.in_ok-left.ensures.writes.goes.earlier honest))) (c.in_ok-way.ensures.step (c.in_ok-left.ensures.writes.goes.earlier honest)) (c.in_ok-left.ensures.path honest)

pub returns-in-Same-clause-path : goal.returns-in-Same-clause-path
returns-in-Same-clause-path g t c honest =
    leads_on _ _ _ (length c.args.held.now) c.args.level c.args.top.block c.args.top.low c.in_ok-way.way.child (omega (arith, c.if-level-eq0.false)) c.blocks-2.ensures.count
    (same_medium _ _ (c.in_ok-way.ensures.looks.reads (c.in_ok-left.ensures.writes.goes.earlier honest))) (c.in_ok-way.ensures.step (c.in_ok-left.ensures.writes.goes.earlier honest)) (c.in_ok-left.ensures.path honest)

pub returns-in-Some-clause-path : goal.returns-in-Some-clause-path
returns-in-Some-clause-path g t c honest =
    if_ok_is c.write_rest.result _
    (leads_on _ _ _ (length c.args.held.now) c.args.level c.args.top.block c.args.top.low c.in_ok-way.way.child (omega (arith, c.if-level-eq0.false)) c.blocks-2.ensures.count
    (same_medium _ _ (c.in_ok-way.ensures.looks.reads (c.in_ok-left.ensures.writes.goes.earlier (c.write_rest.ensures.writes.goes.earlier honest)))) (c.in_ok-way.ensures.step (c.in_ok-left.ensures.writes.goes.earlier (c.write_rest.ensures.writes.goes.earlier honest))) (c.in_ok-left.ensures.path (c.write_rest.ensures.writes.goes.earlier honest)))

pub returns-in_ok-node-in-Rest-clause-path : goal.returns-in_ok-node-in-Rest-clause-path
returns-in_ok-node-in-Rest-clause-path g t c honest =
    leads_on _ _ _ (length c.args.held.now) c.args.level c.args.top.block c.args.top.low c.in_ok-way.way.child (omega (arith, c.if-level-eq0.false)) c.blocks-2.ensures.count
    (same_medium _ _ (c.in_ok-way.ensures.looks.reads (c.in_ok-left.ensures.writes.goes.earlier (c.write_bytes.ensures.writes.goes.earlier honest)))) (c.in_ok-way.ensures.step (c.in_ok-left.ensures.writes.goes.earlier (c.write_bytes.ensures.writes.goes.earlier honest))) (c.in_ok-left.ensures.path (c.write_bytes.ensures.writes.goes.earlier honest))

pub returns-in_ok-node-in-Rest-clause-kept : goal.returns-in_ok-node-in-Rest-clause-kept
returns-in_ok-node-in-Rest-clause-kept g t c =
    let before = c.args.held.now in
    let later = c.write_bytes.new.held in
    let written = c.in_ok-node-in-Rest.ensures.written in
    looks_never (λ is.
    let there = subst (λ (root : Root). WasThere (IsOutside (option_copied c.args.base)) before later root) c.root_at-in-Rest.ensures is in
    place_now c.own_place-own.result before c.remove_below.new.held later c.in_ok-node-in-Rest.node.block c.in_ok-left.ensures.writes.still written.place written.taken.held_now there.0
    (outside_own (option_copied c.args.base) _ c.own_place-own.result c.in_ok-node-in-Rest.node.block c.own_place-own.ensures.own there.1))

pub returns-then-level-eq0-clause-last : goal.returns-then-level-eq0-clause-last
returns-then-level-eq0-clause-last g t c honest none =
    subst (λ l. HasOne (g.D.Disk.state c.args.disk.now).now.contents l c.args.top.block) (sym c.if-level-eq0.true) (c.remove_from_leaf.ensures.last honest none)

pub returns-in-Some-clause-last : goal.returns-in-Some-clause-last
returns-in-Some-clause-last g t c honest none =
    let mid = c.write_rest.ensures.writes.goes.earlier honest in
    let earlier = c.in_ok-left.ensures.writes.goes.earlier mid in
    let found = c.in_ok-way.ensures.found earlier in
    let gone : length c.as_slice.result.now ≡ 0 = c.write_rest.ensures.last none in
    let one : c.in_ok-way.way.count ≡ 1 = omega (arith, gone, ap (λ (cs : List Child). length cs) c.as_slice.ensures.value, c.in-Some.ensures.count) in
    one_child_on _ _ _ c.args.level c.args.top.block c.in_ok-way.way.level c.in_ok-way.way.count c.args.top.low c.in_ok-way.way.child _ (omega (arith, c.if-level-eq0.false))
    (same_medium _ _ (c.in_ok-way.ensures.looks.reads earlier)) found.bytes_are c.in_ok-way.ensures.way.head c.in_ok-way.ensures.way.level_is one (c.in_ok-way.ensures.step earlier) (c.in_ok-left.ensures.last mid (ap Ok c.in-Nothing.is))

pub returns-then-level-eq0-clause-beside : goal.returns-then-level-eq0-clause-beside
returns-then-level-eq0-clause-beside g t c levels honest rs bs tree begins rises =
    let first = (leaf_opens _ _ _ _ _ rs bs c.if-level-eq0.true tree).first in
    if_ok_is c.remove_from_leaf.result _
    (λ n is lacks. others_kept c.own_place-own.result (own_more (option_copied c.args.base) _ _ c.own_place-own.result (holds_same _) c.own_place-own.ensures.own) c.remove_from_leaf.ensures.writes honest n is (beside_own c.own_place-own.result c.args.top.block n c.own_place-own.ensures.same (subst (Lacks n) first lacks).0))

pub returns-then-alone-clause-beside : goal.returns-then-alone-clause-beside
returns-then-alone-clause-beside g t c levels honest rs bs tree begins rises n is lacks =
    let sizes = sizes_of g.row.FAN levels in
    let old = (g.D.Disk.state c.args.disk.now).now in
    let limit = length c.args.held.now in let l = c.args.level in let b = c.args.top.block in
    let later = honest in
    let earlier = c.in_ok-left.ensures.writes.goes.earlier later in
    let still = same_medium _ _ (c.in_ok-way.ensures.looks.reads earlier) in
    let above : 0 < l = omega (arith, c.if-level-eq0.false) in
    let read = node_read sizes old.contents limit l b rs bs above tree in
    let cs = read.0 in
    let way = c.in_ok-way.ensures.only earlier cs (subst (λ n. IsNodeAt old.contents n l b cs) (sym c.blocks-2.ensures.count) read.1) (read.3 c.args.top.low begins) read.2 in
    let only = only_one old.contents limit l b sizes.fan cs read.1 in
    framed_beside sizes old _ limit l b (place c.args.key) rs bs cs c.in_ok-way.way.index c.in_ok-way.way.child still above tree rises only way.2.chosen c.in_ok-way.way.child c.args.held.now _ way.2.child (c.in_ok-left.ensures.beside levels later) n is lacks

pub returns-in-Same-clause-beside : goal.returns-in-Same-clause-beside
returns-in-Same-clause-beside g t c levels honest rs bs tree begins rises n is lacks =
    let sizes = sizes_of g.row.FAN levels in
    let old = (g.D.Disk.state c.args.disk.now).now in
    let limit = length c.args.held.now in let l = c.args.level in let b = c.args.top.block in
    let later = honest in
    let earlier = c.in_ok-left.ensures.writes.goes.earlier later in
    let still = same_medium _ _ (c.in_ok-way.ensures.looks.reads earlier) in
    let above : 0 < l = omega (arith, c.if-level-eq0.false) in
    let read = node_read sizes old.contents limit l b rs bs above tree in
    let cs = read.0 in
    let way = c.in_ok-way.ensures.only earlier cs (subst (λ n. IsNodeAt old.contents n l b cs) (sym c.blocks-2.ensures.count) read.1) (read.3 c.args.top.low begins) read.2 in
    let only = only_one old.contents limit l b sizes.fan cs read.1 in
    framed_beside sizes old _ limit l b (place c.args.key) rs bs cs c.in_ok-way.way.index c.in_ok-way.way.child still above tree rises only way.2.chosen c.in_ok-way.way.child c.args.held.now _ way.2.child (c.in_ok-left.ensures.beside levels later) n is lacks

pub returns-in_ok-node-in-Rest-clause-beside : goal.returns-in_ok-node-in-Rest-clause-beside
returns-in_ok-node-in-Rest-clause-beside g t c levels honest rs bs tree begins rises n is lacks =
    let sizes = sizes_of g.row.FAN levels in
    let old = (g.D.Disk.state c.args.disk.now).now in
    let limit = length c.args.held.now in let l = c.args.level in let b = c.args.top.block in
    let later = c.write_bytes.ensures.writes.goes.earlier honest in
    let earlier = c.in_ok-left.ensures.writes.goes.earlier later in
    let still = same_medium _ _ (c.in_ok-way.ensures.looks.reads earlier) in
    let above : 0 < l = omega (arith, c.if-level-eq0.false) in
    let read = node_read sizes old.contents limit l b rs bs above tree in
    let cs = read.0 in
    let way = c.in_ok-way.ensures.only earlier cs (subst (λ n. IsNodeAt old.contents n l b cs) (sym c.blocks-2.ensures.count) read.1) (read.3 c.args.top.low begins) read.2 in
    let only = only_one old.contents limit l b sizes.fan cs read.1 in
    others_kept c.own_place-own.result (own_more (option_copied c.args.base) _ _ c.own_place-own.result c.in_ok-left.ensures.writes.still c.own_place-own.ensures.own) c.write_bytes.ensures.writes honest n (c.in_ok-left.ensures.writes.still.still n is) (beside_own c.own_place-own.result b n c.own_place-own.ensures.same (lacks_top sizes old.contents limit l b rs bs n tree rises lacks))
    ∙ framed_beside sizes old _ limit l b (place c.args.key) rs bs cs c.in_ok-way.way.index c.in_ok-way.way.child still above tree rises only way.2.chosen c.in_ok-way.way.child c.args.held.now _ way.2.child (c.in_ok-left.ensures.beside levels later) n is lacks

pub returns-in-Some-clause-beside : goal.returns-in-Some-clause-beside
returns-in-Some-clause-beside g t c levels honest rs bs tree begins rises =
    let sizes = sizes_of g.row.FAN levels in
    let old = (g.D.Disk.state c.args.disk.now).now in
    let limit = length c.args.held.now in let l = c.args.level in let b = c.args.top.block in
    let later = c.write_rest.ensures.writes.goes.earlier honest in
    let earlier = c.in_ok-left.ensures.writes.goes.earlier later in
    let still = same_medium _ _ (c.in_ok-way.ensures.looks.reads earlier) in
    let above : 0 < l = omega (arith, c.if-level-eq0.false) in
    let read = node_read sizes old.contents limit l b rs bs above tree in
    let cs = read.0 in
    let way = c.in_ok-way.ensures.only earlier cs (subst (λ n. IsNodeAt old.contents n l b cs) (sym c.blocks-2.ensures.count) read.1) (read.3 c.args.top.low begins) read.2 in
    let only = only_one old.contents limit l b sizes.fan cs read.1 in
    if_ok_is c.write_rest.result _ (λ n is lacks.
    others_kept c.own_place-own.result (own_more (option_copied c.args.base) _ _ c.own_place-own.result c.in_ok-left.ensures.writes.still c.own_place-own.ensures.own) c.write_rest.ensures.writes honest n (c.in_ok-left.ensures.writes.still.still n is) (beside_own c.own_place-own.result b n c.own_place-own.ensures.same (lacks_top sizes old.contents limit l b rs bs n tree rises lacks))
    ∙ framed_beside sizes old _ limit l b (place c.args.key) rs bs cs c.in_ok-way.way.index c.in_ok-way.way.child still above tree rises only way.2.chosen c.in_ok-way.way.child c.args.held.now _ way.2.child (c.in_ok-left.ensures.beside levels later) n is lacks)

pub returns-then-eq-clause-path : goal.returns-then-eq-clause-path
returns-then-eq-clause-path g t c honest =
    leads_on _ _ _ (length c.args.held.now) c.args.level c.args.top.block c.args.top.low c.in_ok-way.way.child (omega (arith, c.if-level-eq0.false)) c.blocks-2.ensures.count
    (same_medium _ _ (c.in_ok-way.ensures.looks.reads (c.in_ok-left.ensures.writes.goes.earlier honest))) (c.in_ok-way.ensures.step (c.in_ok-left.ensures.writes.goes.earlier honest)) (c.in_ok-left.ensures.path honest)

pub returns-then-eq-clause-beside : goal.returns-then-eq-clause-beside
returns-then-eq-clause-beside g t c levels honest rs bs tree begins rises n is lacks =
    let sizes = sizes_of g.row.FAN levels in
    let old = (g.D.Disk.state c.args.disk.now).now in
    let p = place c.args.key in
    let limit = length c.args.held.now in let l = c.args.level in let b = c.args.top.block in
    let earlier = c.in_ok-left.ensures.writes.goes.earlier honest in
    let still = same_medium _ _ (c.in_ok-way.ensures.looks.reads earlier) in
    let above : 0 < l = omega (arith, c.if-level-eq0.false) in
    let read = node_read sizes old.contents limit l b rs bs above tree in
    let cs = read.0 in
    let way = c.in_ok-way.ensures.only earlier cs (subst (λ n. IsNodeAt old.contents n l b cs) (sym c.blocks-2.ensures.count) read.1) (read.3 c.args.top.low begins) read.2 in
    let only = only_one old.contents limit l b sizes.fan cs read.1 in
    let i = c.in_ok-way.way.index in let d = c.in_ok-way.way.child in
    framed_beside sizes old _ limit l b p rs bs cs i d still above tree rises only way.2.chosen d c.args.held.now _ way.2.child (c.in_ok-left.ensures.beside levels honest) n is lacks

pub returns-then-eq-clause-remove : goal.returns-then-eq-clause-remove
returns-then-eq-clause-remove g t c levels honest rs bs tree begins rises =
    let sizes = sizes_of g.row.FAN levels in
    let old = (g.D.Disk.state c.args.disk.now).now in
    let p = place c.args.key in
    let limit = length c.args.held.now in let l = c.args.level in let b = c.args.top.block in
    let earlier = c.in_ok-left.ensures.writes.goes.earlier honest in
    let still = same_medium _ _ (c.in_ok-way.ensures.looks.reads earlier) in
    let above : 0 < l = omega (arith, c.if-level-eq0.false) in
    let read = node_read sizes old.contents limit l b rs bs above tree in
    let cs = read.0 in
    let way = c.in_ok-way.ensures.only earlier cs (subst (λ n. IsNodeAt old.contents n l b cs) (sym c.blocks-2.ensures.count) read.1) (read.3 c.args.top.low begins) read.2 in
    let only = only_one old.contents limit l b sizes.fan cs read.1 in
    let i = c.in_ok-way.way.index in let d = c.in_ok-way.way.child in
    let own = c.own_place-own.result in
    let same = c.own_place-own.ensures.same in
    let before = c.args.held.now in
    let between = c.remove_below.new.held in
    let y = (g.D.Disk.state c.remove_below.new.disk).now.contents in
    let root = c.in-Rest.root in
    let level : root.level ≡ l - 1 = ap (λ (left : Left). level_of left (l - 1)) (sym c.in-Rest.is) ∙ c.in_ok-left.ensures.left.same_level c.if-alone.false in
    let one : child_of root ≡ d = search rules in
    let some : is_some own ≡ true = search rules in
    let mine = own_there (option_copied c.args.base) before own b some c.own_place-own.ensures.own same in
    let frames = c.in_ok-left.ensures.beside levels honest in
    let lt : i < length cs = omega (arith, c.in_ok-way.ensures.way.within.0, way.1) in
    let more = c.in_ok-left.ensures.writes.still in
    let inside : b < length before = mine.taken.inside in
    let top = framed_top sizes old _ limit l b p rs bs cs i d still above tree rises only way.2.chosen d before y way.2.child frames mine.taken.held_now in
    let node = subst (λ (bytes : List ℕ). IsNode bytes l cs) (sym top) read.1.node in
    let rest = node_rest sizes old _ limit l b p rs bs cs i d still above tree rises only way.2.chosen d way.2.child before between own y limit (d ∷ []) cs same frames more refl (sym (same_children cs i d d lt way.2.child))
    (λ sub own there low rising.
    let got = subst (λ (left : Left). RemovesBelow (Ok left) p sub (λ root. Replaces before between own (λ P. Made P sizes y limit root.level (child_of root ∷ []) (without_place p sub)))) c.in-Rest.is (c.in_ok-left.ensures.remove levels honest sub own there low rising) in
    let M : ℕ → Child → (ℕ → Type 0) → Type 0 = λ n child P. Made P sizes y limit n (child ∷ []) (without_place p sub) in
    (got.0, λ keep all keeps. let P = IsRenewed before between keep in subst (λ n. M n d P) level (subst (λ (child : Child). M root.level child P) one (got.1 keep all keeps)))) in (
      rest.0,
      λ keep all keeps.
          let parts = rest.1 keep all keeps in
          let made = stands_made (IsRenewed before between (without_own own keep)) (IsRenewed before between keep) sizes y limit l b cs c.args.top (without_place p rs) (renewed_all own before between keep) node read.2 (read.3 c.args.top.low begins) refl
          (mine.taken.above, inside) (omega (arith, inside, c.requires.may.inside, g.met.D.Disk.small c.args.disk.now))
          (record { now = more.still b mine.taken.held_now; kept = λ _. own_kept own before keep b some same parts.1 }) parts.0 parts.2 in
          subst (λ (r : Root). Made (IsRenewed before between keep) sizes y limit r.level (child_of r ∷ []) (without_place p rs)) (sym c.root_at.ensures) made,
    )

pub returns-in-Same-clause-writes : goal.returns-in-Same-clause-writes
returns-in-Same-clause-writes g t c = looks_write c.in_ok-way.ensures.looks c.in_ok-left.ensures.writes (λ is. cc) (λ spared may. may) (omega (arith, c.if-level-eq0.false)) (omega (arith, c.if-level-eq0.false))

pub returns-in-None-clause-writes : goal.returns-in-None-clause-writes
returns-in-None-clause-writes g t c = looks_write c.in_ok-way.ensures.looks c.in_ok-left.ensures.writes (λ is. cc) (λ spared may. may) (omega (arith, c.if-level-eq0.false)) (omega (arith, c.if-level-eq0.false))

pub returns-then-alone-clause-writes : goal.returns-then-alone-clause-writes
returns-then-alone-clause-writes g t c = looks_write c.in_ok-way.ensures.looks c.in_ok-left.ensures.writes (λ is. cc) (λ spared may. may) (omega (arith, c.if-level-eq0.false)) (omega (arith, c.if-level-eq0.false))

pub returns-then-eq-clause-writes : goal.returns-then-eq-clause-writes
returns-then-eq-clause-writes g t c = looks_write c.in_ok-way.ensures.looks c.in_ok-left.ensures.writes (λ is. cc) (λ spared may. may) (omega (arith, c.if-level-eq0.false)) (omega (arith, c.if-level-eq0.false))

pub returns-in_err-left-clause-writes : goal.returns-in_err-left-clause-writes
returns-in_err-left-clause-writes g t c = looks_write c.in_ok-way.ensures.looks c.in_err-left.ensures.writes (search rules) (λ spared may. may) (omega (arith, c.if-level-eq0.false)) (omega (arith, c.if-level-eq0.false))

pub returns-in_err-way-clause-writes : goal.returns-in_err-way-clause-writes
returns-in_err-way-clause-writes g t c = looks_free c.in_err-way.ensures.looks (search rules) (omega arith)

pub returns-then-level-eq0-clause-writes : goal.returns-then-level-eq0-clause-writes
returns-then-level-eq0-clause-writes g t c = writes_as c.remove_from_leaf.ensures.writes (λ is. is) (spares_own (option_copied c.args.base) _ c.own_place-own.result c.own_place-own.ensures.own) (omega arith) (omega arith)

pub returns-in-Some-clause-writes : goal.returns-in-Some-clause-writes
returns-in-Some-clause-writes g t c =
    let below = reads_fewer c.in_ok-left.ensures.writes (c.in_ok-left.ensures.path_reads (ap Ok c.in-Nothing.is)) in
    looks_write c.in_ok-way.ensures.looks (writes_on below c.write_rest.ensures.writes (λ is. is) (λ spared may. (may, spares_own (option_copied c.args.base) _ c.own_place-own.result c.own_place-own.ensures.own spared may))) (λ is. is) (λ spared may. may) (omega (arith, c.if-level-eq0.false)) (omega (arith, c.if-level-eq0.false))

pub returns-in_ok-node-in-Rest-clause-writes : goal.returns-in_ok-node-in-Rest-clause-writes
returns-in_ok-node-in-Rest-clause-writes g t c =
    looks_write c.in_ok-way.ensures.looks (writes_on c.in_ok-left.ensures.writes c.in_ok-node-in-Rest.ensures.writes (λ is. is) (λ spared may. (may, spares_own (option_copied c.args.base) _ c.own_place-own.result c.own_place-own.ensures.own spared may))) (λ is. cc) (λ spared may. may) (omega (arith, c.if-level-eq0.false)) (omega (arith, c.if-level-eq0.false))

pub returns-in_err-node-in-Rest-clause-writes : goal.returns-in_err-node-in-Rest-clause-writes
returns-in_err-node-in-Rest-clause-writes g t c =
    looks_write c.in_ok-way.ensures.looks (writes_on c.in_ok-left.ensures.writes c.in_err-node-in-Rest.ensures.writes (λ is. is) (λ spared may. (may, spares_own (option_copied c.args.base) _ c.own_place-own.result c.own_place-own.ensures.own spared may))) (search rules) (λ spared may. may) (omega (arith, c.if-level-eq0.false)) (omega (arith, c.if-level-eq0.false))

pub returns-in_ok-node-in-Rest-clause-left : goal.returns-in_ok-node-in-Rest-clause-left
returns-in_ok-node-in-Rest-clause-left g t c =
    let done = c.in_ok-node-in-Rest.ensures in
    let head = c.in_ok-way.ensures.way.head in
    subst (λ (root : Root). IsLeftOf c.args.level c.args.is_root c.args.held.now c.write_bytes.new.held (g.D.Disk.state c.write_bytes.new.disk) (Rest root)) (sym c.root_at-in-Rest.ensures) record {
      level_is = omega arith;
      same_level = λ _. refl;
      low_taken = omega (arith, c.if-level-eq0.false, c.in_ok-left.ensures.writes.taken, done.writes.taken);
      root = (omega (arith, done.written.taken.above), omega (arith, done.written.taken.inside, done.writes.still.same_length, c.in_ok-left.ensures.writes.still.same_length));
      wide = λ root honest up k cs node.
          let two : 1 < c.in_ok-way.way.count = elim c.if-is_root.branch [ then-is_root w ↦ omega (arith, c.in_ok-way.ensures.way.within.0, eqb-false c.in_ok-way.way.count 1 (sym w.alone-is ∙ c.if-alone.false)) | else-is_root w ↦ absurd (false≢true (sym w.if-is_root.false ∙ root)) ] in
          two_children (ap (take 16) (done.written.bytes_are honest) ∙ c.set_child.ensures.head ∙ ap (take 16) c.at_hand-node.ensures ∙ head.begins) (omega (arith, head.low)) two (omega (arith, head.few)) node;
    }

pub returns-in-Same-clause-kept : goal.returns-in-Same-clause-kept
returns-in-Same-clause-kept g t c = looks_if c.in_ok-way.ensures.looks c.in_ok-left.ensures.writes.goes.earlier c.in_ok-left.ensures.kept (λ _. same_needs (IsOutside (option_copied c.args.base)) c.args.held.now c.remove_below.new.held c.in_ok-left.left c.in-Same.is)

pub returns-in-None-clause-kept : goal.returns-in-None-clause-kept
returns-in-None-clause-kept g t c = looks_if c.in_ok-way.ensures.looks c.in_ok-left.ensures.writes.goes.earlier c.in_ok-left.ensures.kept (λ _. nothing_needs (IsOutside (option_copied c.args.base)) c.args.held.now c.remove_below.new.held c.in_ok-left.left c.in-Nothing.is)

pub returns-in-Some-clause-kept : goal.returns-in-Some-clause-kept
returns-in-Some-clause-kept g t c =
    let none = nothing_needs (IsOutside (option_copied c.args.base)) c.args.held.now c.remove_below.new.held c.in_ok-left.left c.in-Nothing.is in
    let kept = c.in_ok-left.ensures.kept.kept none in
    looks_if c.in_ok-way.ensures.looks (λ honest. c.in_ok-left.ensures.writes.goes.earlier (c.write_rest.ensures.writes.goes.earlier honest))
    (looks_if_on c.in_ok-left.ensures.kept none c.write_rest.ensures.kept c.write_rest.ensures.writes.goes.earlier (λ is. is))
    (λ is. needs_so (IsOutside (option_copied c.args.base)) (IsBeside c.own_place-own.result) c.remove_below.new.held c.write_rest.new.held c.write_rest.result (λ n. outside_own (option_copied c.args.base) _ c.own_place-own.result n c.own_place-own.ensures.own)
    (subst (λ (held : List Bool). NeedsNone (IsOutside (option_copied c.args.base)) held c.write_rest.new.held c.write_rest.result) (sym kept) is))

pub returns-then-alone-clause-kept : goal.returns-then-alone-clause-kept
returns-then-alone-clause-kept g t c =
    looks_if c.in_ok-way.ensures.looks c.in_ok-left.ensures.writes.goes.earlier c.in_ok-left.ensures.kept
    (λ is. subst (λ (left : Left). NeedsNone (IsOutside (option_copied c.args.base)) c.args.held.now c.remove_below.new.held (Ok left)) (sym c.in-Rest.is) is)

pub returns-in_err-left-clause-kept : goal.returns-in_err-left-clause-kept
returns-in_err-left-clause-kept g t c = rw (passed_on _ c.from_residual-in_err-left.ensures.1) (looks_if c.in_ok-way.ensures.looks c.in_err-left.ensures.writes.goes.earlier c.in_err-left.ensures.kept (λ is. is))
