use Rattle.std.proofs.Common.{◌≡◌, ◌∙◌, true, cond, min, nat_lt, ap, ℕ, ◌+◌, ◌-◌, ◌*◌, List, ◌++◌, Ok, Err, ◌≤◌, ◌<◌, length, option_copied, take, drop, sym, subst, refl, arith, rules}
use Rattle.vm_disk.proofs.MomentLemmas.{same_medium}
use Rattle.vm_block.specs.Leaf.{Record}
use Rattle.vm_block.specs.declared.node.Child.{Child}
use Rattle.vm_types.specs.Places.{place, with_record}
use Rattle.vm_tree.specs.Free.{TakesAtMost}
use Rattle.vm_tree.specs.FullPath.{GrowsBy}
use Rattle.vm_tree.specs.Tree.{Subtree}
use Rattle.vm_tree.specs.Root.{sizes_of}
use Rattle.vm_tree.specs.Splits.{GrowsWithin, Made, PutsBelow, children_of, extra, grown}
use Rattle.vm_tree.specs.BlockReads.{IsNodeAt}
use Rattle.vm_tree.specs.Replacement.{IsRenewed, Lacks, Replaces, without_own}
use Rattle.vm_tree.specs.declared.block_writes.Copied.{Copied}
use Rattle.vm_tree.specs.declared.block_writes.Copied.TheVariants.{One}
use Rattle.vm_block.specs.Node.{IsNode}
use Rattle.std.specs.Prelude.{is_some}
use Rattle.std.proofs.lemmas.Bool.{le-ltb}
use Rattle.vm_tree.proofs.HandLemmas.{hand_node}
use Rattle.vm_tree.proofs.Beside.{lacks_top}
use Rattle.vm_tree.proofs.Renewing.{beside_own, own_kept, own_more, own_there, renewed_all, spares_own}
use Rattle.vm_tree.proofs.Touching.{others_kept}
use Rattle.vm_tree.proofs.TreeLemmas.{leaf_opens}
use Rattle.vm_alloc.proofs.HeldLemmas.{holds_same}
use Rattle.vm_tree.proofs.Looking.{looks_free, looks_if, looks_never, looks_write, passed_on, writes_as, writes_on}
use Rattle.vm_tree.proofs.Descent.{node_read}
use Rattle.vm_tree.proofs.Leading.{leads_on, if_ok_is}
use Rattle.vm_tree.proofs.Framing.{framed_beside, framed_top}
use Rattle.vm_tree.proofs.PutLemmas.{asked_of, node_put, same_children, stands_made, there_below, node_fault, device_below, grown_test, only_one}
use Rattle.vm_tree.proofs.insertion.+put_below.Goals as goal
use Rattle.vm_tree.proofs.insertion.+put_below.Goals.{then-room-gt0, else-room-gt0}

pub returns-then-level-eq0-clause-put : goal.returns-then-level-eq0-clause-put
returns-then-level-eq0-clause-put g t c levels honest rs bs tree begins rises =
    let sizes = sizes_of g.row.FAN levels in
    let r : Record = (c.args.key, c.args.value.now) in
    let x = (g.D.Disk.state c.args.disk.now).now.contents in
    let limit = length c.args.held.now in
    let b = c.args.top.block in
    let none = c.if-level-eq0.true in
    let there = subst (λ l. Subtree sizes x limit l b rs bs) none tree in
    let before = c.args.held.now in
    let later = c.put_in_leaf.new.held in
    let y = (g.D.Disk.state c.put_in_leaf.new.disk).now.contents in
    let Puts : ℕ → Type 0 = λ l. PutsBelow c.put_in_leaf.result c.args.room (GrowsBy sizes x r l b) (λ cs. Replaces before later bs (λ P. Made P sizes y limit l cs (with_record r rs))) in
    subst Puts (sym none) (c.put_in_leaf.ensures.put sizes honest rs bs there begins rises)

pub returns-clause-put : goal.returns-clause-put
returns-clause-put g t c levels honest rs bs tree begins rises =
    let sizes = sizes_of g.row.FAN levels in
    let r : Record = (c.args.key, c.args.value.now) in
    let old = (g.D.Disk.state c.args.disk.now).now in
    let later = c.write_replaced.ensures.writes.goes.earlier honest in
    let earlier = c.in_ok-copied.ensures.writes.goes.earlier later in
    let still = same_medium _ _ (c.in_ok-way.ensures.looks.reads earlier) in
    let above : 0 < c.args.level = omega (arith, c.if-level-eq0.false) in
    let read = node_read sizes old.contents (length c.args.held.now) c.args.level c.args.top.block rs bs above tree in
    let cs = read.0 in
    let way = c.in_ok-way.ensures.only earlier cs (subst (λ n. IsNodeAt old.contents n c.args.level c.args.top.block cs) (sym c.blocks-2.ensures.count) read.1) (read.3 c.args.top.low begins) read.2 in
    let only = only_one old.contents (length c.args.held.now) c.args.level c.args.top.block sizes.fan cs read.1 in
    let i = c.in_ok-way.way.index in
    let d = c.in_ok-way.way.child in
    let lent = take i cs ++ (children_of c.in_ok-copied.copied ++ drop (i + 1) cs) in
    let fine = c.in_ok-write_replaced.ensures.copied.grows ∙ ap (λ n. grown g.row.FAN (n + extra c.in_ok-copied.copied)) way.1 ∙ grown_test g.row.FAN (length cs + extra c.in_ok-copied.copied) in
    let limit = length c.args.held.now in
    let y = (g.D.Disk.state c.put_below.new.disk).now.contents in
    node_put sizes old _ limit c.args.level c.args.top.block r rs bs cs i d still above tree rises only way.2.chosen
    c.args.held.now c.put_below.new.held c.write_replaced.new.held c.own_place-own.result y (g.D.Disk.state c.write_replaced.new.disk).now.contents
    (length c.put_below.new.held) c.if-room-gt0.below c.args.room c.in_ok-copied.copied lent c.in_ok-write_replaced.field-0
    c.in_ok-copied.ensures.writes.still.same_length c.own_place-own.ensures.same
    d way.2.child (c.in_ok-copied.ensures.beside levels later)
    (asked_of sizes old _ limit c.args.level c.args.top.block r rs bs cs i d still above tree rises only way.2.chosen d (Ok c.in_ok-copied.copied) c.if-room-gt0.below
    (λ ds qs own. Replaces c.args.held.now c.put_below.new.held own (λ P. Made P sizes y limit (c.args.level - 1) ds qs)) way.2.child (c.in_ok-copied.ensures.put levels later))
    c.in_ok-copied.ensures.writes.still
    refl fine
    (λ keep qs mine rising made. c.in_ok-write_replaced.ensures.made honest c.args.held.now keep c.in_ok-copied.ensures.writes.still mine sizes cs qs (hand_node (sym c.at_hand-node.ensures) way.0) way.1 (omega arith) rising made)

pub returns-in_err-copied-clause-put : goal.returns-in_err-copied-clause-put
returns-in_err-copied-clause-put g t c levels honest rs bs tree begins rises =
    let sizes = sizes_of g.row.FAN levels in
    let r : Record = (c.args.key, c.args.value.now) in
    let old = (g.D.Disk.state c.args.disk.now).now in
    let still = same_medium _ _ (c.in_ok-way.ensures.looks.reads (c.in_err-copied.ensures.writes.goes.earlier honest)) in
    let above : 0 < c.args.level = omega (arith, c.if-level-eq0.false) in
    let read = node_read sizes old.contents (length c.args.held.now) c.args.level c.args.top.block rs bs above tree in
    let cs = read.0 in
    let way = c.in_ok-way.ensures.only (c.in_err-copied.ensures.writes.goes.earlier honest) cs (subst (λ n. IsNodeAt old.contents n c.args.level c.args.top.block cs) (sym c.blocks-2.ensures.count) read.1) (read.3 c.args.top.low begins) read.2 in
    let only = only_one old.contents (length c.args.held.now) c.args.level c.args.top.block sizes.fan cs read.1 in
    let i = c.in_ok-way.way.index in
    let d = c.in_ok-way.way.child in
    let made = λ (ds : List Child) (qs : List Record) (own : List ℕ). Replaces c.args.held.now c.put_below.new.held own (λ P. Made P sizes (g.D.Disk.state c.put_below.new.disk).now.contents (length c.args.held.now) (c.args.level - 1) ds qs) in
    let full : (more : ℕ) → c.if-room-gt0.below < more → more ≤ 2 → (c.args.room ≡ 0) × (g.row.FAN < length cs + more) = λ more over few.
    elim c.if-room-gt0.branch [ then-room-gt0 w ↦ absurd (omega (arith, over, few, w.below-is)) | else-room-gt0 w ↦ (omega (arith, w.if-room-gt0.false), omega (arith, over, w.below-is, way.1)) ] in
    rw (passed_on _ c.from_residual-in_err-copied.ensures.1) (node_fault sizes old _ (length c.args.held.now) c.args.level c.args.top.block r rs bs cs i d still above tree rises only way.2.chosen
    made _ c.in_err-copied.field-0.0 c.if-room-gt0.below c.args.room
    (asked_of sizes old _ (length c.args.held.now) c.args.level c.args.top.block r rs bs cs i d still above tree rises only way.2.chosen d (Err c.in_err-copied.field-0.0) c.if-room-gt0.below made way.2.child (c.in_err-copied.ensures.put levels honest)) full)

pub returns-in_err-way-clause-put : goal.returns-in_err-way-clause-put
returns-in_err-way-clause-put g t c levels honest rs bs tree begins rises =
    let sizes = sizes_of g.row.FAN levels in
    let there = subst (λ n. Subtree sizes (g.D.Disk.state c.args.disk.now).now.contents n c.args.level c.args.top.block rs bs) (sym c.blocks-2.ensures.count) tree in
    let at = node_read sizes _ _ _ _ rs bs (omega (arith, c.if-level-eq0.false)) there in
    rw (passed_on _ c.from_residual.ensures.1) (device_below _ _ _ _ (c.in_err-way.ensures.only honest at.0 at.1 (at.3 c.args.top.low begins) at.2))

pub returns-clause-path : goal.returns-clause-path
returns-clause-path g t c honest =
    leads_on _ _ _ (length c.args.held.now) c.args.level c.args.top.block c.args.top.low c.in_ok-way.way.child (omega (arith, c.if-level-eq0.false)) c.blocks-2.ensures.count
    (same_medium _ _ (c.in_ok-way.ensures.looks.reads (c.in_ok-copied.ensures.writes.goes.earlier (c.write_replaced.ensures.writes.goes.earlier honest)))) (c.in_ok-way.ensures.step (c.in_ok-copied.ensures.writes.goes.earlier (c.write_replaced.ensures.writes.goes.earlier honest))) (c.in_ok-copied.ensures.path (c.write_replaced.ensures.writes.goes.earlier honest))

pub returns-clause-replaced : goal.returns-clause-replaced
returns-clause-replaced g t c levels honest rs bs tree begins rises there =
    let sizes = sizes_of g.row.FAN levels in
    let r : Record = (c.args.key, c.args.value.now) in
    let old = (g.D.Disk.state c.args.disk.now).now in
    let limit = length c.args.held.now in
    let still = same_medium _ _ (c.in_ok-way.ensures.looks.reads (c.in_ok-copied.ensures.writes.goes.earlier (c.write_replaced.ensures.writes.goes.earlier honest))) in
    let above : 0 < c.args.level = omega (arith, c.if-level-eq0.false) in
    let read = node_read sizes old.contents limit c.args.level c.args.top.block rs bs above tree in
    let cs = read.0 in
    let way = c.in_ok-way.ensures.only (c.in_ok-copied.ensures.writes.goes.earlier (c.write_replaced.ensures.writes.goes.earlier honest)) cs (subst (λ n. IsNodeAt old.contents n c.args.level c.args.top.block cs) (sym c.blocks-2.ensures.count) read.1) (read.3 c.args.top.low begins) read.2 in
    let only = only_one old.contents limit c.args.level c.args.top.block sizes.fan cs read.1 in
    let i = c.in_ok-way.way.index in
    let d = c.in_ok-way.way.child in
    let A : Type 0 = (extra c.in_ok-copied.copied ≡ 0) × TakesAtMost (c.args.level - 1 + 1) c.args.held.now c.put_below.new.held in
    let below = there_below sizes old _ limit c.args.level c.args.top.block r rs bs cs i d still above tree rises only way.2.chosen d A way.2.child there
    (c.in_ok-copied.ensures.replaced levels (c.write_replaced.ensures.writes.goes.earlier honest)) in
    (omega (arith, c.in_ok-write_replaced.ensures.copied.grows, below.0, c.in_ok-way.ensures.way.within), omega (arith, below.1, c.write_replaced.ensures.writes.taken, below.0, c.in_ok-way.ensures.way.within))

pub returns-then-level-eq0-clause-beside : goal.returns-then-level-eq0-clause-beside
returns-then-level-eq0-clause-beside g t c levels honest rs bs tree begins rises =
    let first = (leaf_opens _ _ _ _ _ rs bs c.if-level-eq0.true tree).first in
    if_ok_is c.put_in_leaf.result _
    (λ n is lacks. others_kept c.own_place-own.result (own_more (option_copied c.args.base) _ _ c.own_place-own.result (holds_same _) c.own_place-own.ensures.own) c.put_in_leaf.ensures.writes honest n is (beside_own c.own_place-own.result c.args.top.block n c.own_place-own.ensures.same (subst (Lacks n) first lacks).0))

pub returns-clause-beside : goal.returns-clause-beside
returns-clause-beside g t c levels honest rs bs tree begins rises n is lacks =
    let sizes = sizes_of g.row.FAN levels in
    let r : Record = (c.args.key, c.args.value.now) in
    let old = (g.D.Disk.state c.args.disk.now).now in
    let later = c.write_replaced.ensures.writes.goes.earlier honest in
    let earlier = c.in_ok-copied.ensures.writes.goes.earlier later in
    let still = same_medium _ _ (c.in_ok-way.ensures.looks.reads earlier) in
    let above : 0 < c.args.level = omega (arith, c.if-level-eq0.false) in
    let limit = length c.args.held.now in
    let read = node_read sizes old.contents limit c.args.level c.args.top.block rs bs above tree in
    let cs = read.0 in
    let way = c.in_ok-way.ensures.only earlier cs (subst (λ n. IsNodeAt old.contents n c.args.level c.args.top.block cs) (sym c.blocks-2.ensures.count) read.1) (read.3 c.args.top.low begins) read.2 in
    let only = only_one old.contents limit c.args.level c.args.top.block sizes.fan cs read.1 in
    others_kept c.own_place-own.result (own_more (option_copied c.args.base) _ _ c.own_place-own.result c.in_ok-copied.ensures.writes.still c.own_place-own.ensures.own) c.write_replaced.ensures.writes honest n (c.in_ok-copied.ensures.writes.still.still n is)
    (beside_own c.own_place-own.result c.args.top.block n c.own_place-own.ensures.same (lacks_top sizes old.contents limit c.args.level c.args.top.block rs bs n tree rises lacks))
    ∙ framed_beside sizes old _ limit c.args.level c.args.top.block (place r.0) rs bs cs c.in_ok-way.way.index c.in_ok-way.way.child still above tree rises only way.2.chosen
    c.in_ok-way.way.child c.args.held.now (g.D.Disk.state c.put_below.new.disk).now.contents way.2.child (c.in_ok-copied.ensures.beside levels later) n is lacks

pub returns-then-stays-clause-path : goal.returns-then-stays-clause-path
returns-then-stays-clause-path g t c honest =
    leads_on _ _ _ (length c.args.held.now) c.args.level c.args.top.block c.args.top.low c.in_ok-way.way.child (omega (arith, c.if-level-eq0.false)) c.blocks-2.ensures.count
    (same_medium _ _ (c.in_ok-way.ensures.looks.reads (c.in_ok-copied.ensures.writes.goes.earlier honest))) (c.in_ok-way.ensures.step (c.in_ok-copied.ensures.writes.goes.earlier honest)) (c.in_ok-copied.ensures.path honest)

pub returns-then-stays-clause-beside : goal.returns-then-stays-clause-beside
returns-then-stays-clause-beside g t c levels honest rs bs tree begins rises n is lacks =
    let sizes = sizes_of g.row.FAN levels in
    let r : Record = (c.args.key, c.args.value.now) in
    let old = (g.D.Disk.state c.args.disk.now).now in
    let earlier = c.in_ok-copied.ensures.writes.goes.earlier honest in
    let still = same_medium _ _ (c.in_ok-way.ensures.looks.reads earlier) in
    let above : 0 < c.args.level = omega (arith, c.if-level-eq0.false) in
    let limit = length c.args.held.now in
    let b = c.args.top.block in
    let read = node_read sizes old.contents limit c.args.level b rs bs above tree in
    let cs = read.0 in
    let way = c.in_ok-way.ensures.only earlier cs (subst (λ n. IsNodeAt old.contents n c.args.level b cs) (sym c.blocks-2.ensures.count) read.1) (read.3 c.args.top.low begins) read.2 in
    let only = only_one old.contents limit c.args.level b sizes.fan cs read.1 in
    let i = c.in_ok-way.way.index in
    let d = c.in_ok-way.way.child in
    framed_beside sizes old _ limit c.args.level b (place r.0) rs bs cs i d still above tree rises only way.2.chosen d c.args.held.now _ way.2.child (c.in_ok-copied.ensures.beside levels honest) n is lacks

pub returns-then-stays-clause-replaced : goal.returns-then-stays-clause-replaced
returns-then-stays-clause-replaced g t c levels honest rs bs tree begins rises there =
    let sizes = sizes_of g.row.FAN levels in
    let r : Record = (c.args.key, c.args.value.now) in
    let old = (g.D.Disk.state c.args.disk.now).now in
    let earlier = c.in_ok-copied.ensures.writes.goes.earlier honest in
    let still = same_medium _ _ (c.in_ok-way.ensures.looks.reads earlier) in
    let above : 0 < c.args.level = omega (arith, c.if-level-eq0.false) in
    let limit = length c.args.held.now in
    let b = c.args.top.block in
    let read = node_read sizes old.contents limit c.args.level b rs bs above tree in
    let cs = read.0 in
    let way = c.in_ok-way.ensures.only earlier cs (subst (λ n. IsNodeAt old.contents n c.args.level b cs) (sym c.blocks-2.ensures.count) read.1) (read.3 c.args.top.low begins) read.2 in
    let only = only_one old.contents limit c.args.level b sizes.fan cs read.1 in
    let i = c.in_ok-way.way.index in
    let d = c.in_ok-way.way.child in
    let A : Type 0 = (extra c.in_ok-copied.copied ≡ 0) × TakesAtMost (c.args.level - 1 + 1) c.args.held.now c.put_below.new.held in
    let below = there_below sizes old _ limit c.args.level b r rs bs cs i d still above tree rises only way.2.chosen d A way.2.child there (c.in_ok-copied.ensures.replaced levels honest) in
    (refl, omega (arith, below.1))

pub returns-then-stays-clause-put : goal.returns-then-stays-clause-put
returns-then-stays-clause-put g t c levels honest rs bs tree begins rises =
    let sizes = sizes_of g.row.FAN levels in
    let r : Record = (c.args.key, c.args.value.now) in
    let old = (g.D.Disk.state c.args.disk.now).now in
    let earlier = c.in_ok-copied.ensures.writes.goes.earlier honest in
    let still = same_medium _ _ (c.in_ok-way.ensures.looks.reads earlier) in
    let above : 0 < c.args.level = omega (arith, c.if-level-eq0.false) in
    let limit = length c.args.held.now in
    let b = c.args.top.block in
    let read = node_read sizes old.contents limit c.args.level b rs bs above tree in
    let cs = read.0 in
    let way = c.in_ok-way.ensures.only earlier cs (subst (λ n. IsNodeAt old.contents n c.args.level b cs) (sym c.blocks-2.ensures.count) read.1) (read.3 c.args.top.low begins) read.2 in
    let only = only_one old.contents limit c.args.level b sizes.fan cs read.1 in
    let i = c.in_ok-way.way.index in
    let d = c.in_ok-way.way.child in
    let own = c.own_place-own.result in
    let same = c.own_place-own.ensures.same in
    let before = c.args.held.now in
    let between = c.put_below.new.held in
    let y = (g.D.Disk.state c.put_below.new.disk).now.contents in
    let copied = c.in_ok-copied.copied in
    let one : copied ≡ One d = search rules in
    let some : is_some own ≡ true = search rules in
    let mine = own_there (option_copied c.args.base) before own b some c.own_place-own.ensures.own same in
    let frames = c.in_ok-copied.ensures.beside levels honest in
    let lt : i < length cs = omega (arith, c.in_ok-way.ensures.way.within, way.1) in
    let more = c.in_ok-copied.ensures.writes.still in
    let lent = take i cs ++ (children_of copied ++ drop (i + 1) cs) in
    let all : lent ≡ cs = ap (λ (z : Copied). take i cs ++ (children_of z ++ drop (i + 1) cs)) one ∙ same_children cs i d d lt way.2.child in
    let grows : 0 ≡ cond (nat_lt sizes.fan (length cs + extra copied)) 1 0 =
    sym (ap (λ n. cond (nat_lt sizes.fan (length cs + n)) 1 0) (ap extra one) ∙ ap (λ t. cond t 1 0) (le-ltb sizes.fan (length cs + 0) (omega (arith, read.2)))) in
    let inside : b < length before = mine.taken.inside in
    let top = framed_top sizes old _ limit c.args.level b (place r.0) rs bs cs i d still above tree rises only way.2.chosen d before y way.2.child frames mine.taken.held_now in
    let node = subst (λ (bytes : List ℕ). IsNode bytes c.args.level cs) (sym top) read.1.node in
    node_put sizes old _ limit c.args.level b r rs bs cs i d still above tree rises only way.2.chosen
    before between between own y y
    (length between) c.if-room-gt0.below c.args.room copied lent (One c.args.top)
    more.same_length same d way.2.child frames
    (asked_of sizes old _ limit c.args.level b r rs bs cs i d still above tree rises only way.2.chosen d (Ok copied) c.if-room-gt0.below
    (λ ds qs own. Replaces before between own (λ P. Made P sizes y limit (c.args.level - 1) ds qs)) way.2.child (c.in_ok-copied.ensures.put levels honest))
    more
    refl grows
    (λ keep qs kept rising made.
    stands_made (IsRenewed before between (without_own own keep)) (IsRenewed before between keep) sizes y (length between) c.args.level b cs c.args.top qs (renewed_all own before between keep) node read.2 (read.3 c.args.top.low begins) refl
    (mine.taken.above, omega (arith, inside, more.same_length)) (omega (arith, inside, c.requires.may.inside, g.met.D.Disk.small c.args.disk.now))
    (record { now = more.still b mine.taken.held_now; kept = λ _. own_kept own before keep b some same kept }) rising
    (subst (λ (ds : List Child). Made (IsRenewed before between (without_own own keep)) sizes y (length between) (c.args.level - 1) ds qs) all made))

pub returns-clause-writes : goal.returns-clause-writes
returns-clause-writes g t c =
    let spent : 2 * (c.args.level - 1) + 2 + min 1 c.if-room-gt0.below + (1 + grown g.row.FAN (c.in_ok-way.way.count + extra c.in_ok-copied.copied)) ≤ 2 * c.args.level + 2 + min 1 c.args.room =
    elim c.if-room-gt0.branch [
      | then-room-gt0 w ↦ omega (arith, w.if-room-gt0.true, c.if-level-eq0.false)
      | else-room-gt0 w ↦ omega (arith, w.below-is, c.in_ok-copied.ensures.copied.room, c.in_ok-way.ensures.way.within, c.if-level-eq0.false)
    ] in
    looks_write c.in_ok-way.ensures.looks (writes_on c.in_ok-copied.ensures.writes c.in_ok-write_replaced.ensures.writes (λ is. is) (λ spared may. (may, spares_own (option_copied c.args.base) _ c.own_place-own.result c.own_place-own.ensures.own spared may))) (λ is. cc) (λ spared may. may) (omega (arith, c.if-level-eq0.false)) spent

pub returns-in_err-write_replaced-clause-writes : goal.returns-in_err-write_replaced-clause-writes
returns-in_err-write_replaced-clause-writes g t c =
    let spent : 2 * (c.args.level - 1) + 2 + min 1 c.if-room-gt0.below + (1 + grown g.row.FAN (c.in_ok-way.way.count + extra c.in_ok-copied.copied)) ≤ 2 * c.args.level + 2 + min 1 c.args.room =
    elim c.if-room-gt0.branch [
      | then-room-gt0 w ↦ omega (arith, w.if-room-gt0.true, c.if-level-eq0.false)
      | else-room-gt0 w ↦ omega (arith, w.below-is, c.in_ok-copied.ensures.copied.room, c.in_ok-way.ensures.way.within, c.if-level-eq0.false)
    ] in
    looks_write c.in_ok-way.ensures.looks (writes_on c.in_ok-copied.ensures.writes c.in_err-write_replaced.ensures.writes (λ is. is) (λ spared may. (may, spares_own (option_copied c.args.base) _ c.own_place-own.result c.own_place-own.ensures.own spared may))) (search rules) (λ spared may. may) (omega (arith, c.if-level-eq0.false)) spent

pub returns-in_err-way-clause-writes : goal.returns-in_err-way-clause-writes
returns-in_err-way-clause-writes g t c = looks_free c.in_err-way.ensures.looks (search rules) (omega arith)

pub returns-in_err-copied-clause-writes : goal.returns-in_err-copied-clause-writes
returns-in_err-copied-clause-writes g t c =
    let less : min 1 c.if-room-gt0.below ≤ 1 = omega arith in looks_write c.in_ok-way.ensures.looks c.in_err-copied.ensures.writes (search rules) (λ spared may. may) (omega (arith, c.if-level-eq0.false)) (omega (arith, c.if-level-eq0.false, less))

pub returns-then-level-eq0-clause-writes : goal.returns-then-level-eq0-clause-writes
returns-then-level-eq0-clause-writes g t c = writes_as c.put_in_leaf.ensures.writes (λ is. is) (spares_own (option_copied c.args.base) _ c.own_place-own.result c.own_place-own.ensures.own) (omega arith) (omega arith)

pub returns-then-stays-clause-writes : goal.returns-then-stays-clause-writes
returns-then-stays-clause-writes g t c = looks_write c.in_ok-way.ensures.looks c.in_ok-copied.ensures.writes (λ is. cc) (λ spared may. may) (omega (arith, c.if-level-eq0.false)) (omega (arith, c.if-level-eq0.false))

pub returns-in_err-copied-clause-refused : goal.returns-in_err-copied-clause-refused
returns-in_err-copied-clause-refused g t c = rw (passed_on _ c.from_residual-in_err-copied.ensures.1) (looks_if c.in_ok-way.ensures.looks c.in_err-copied.ensures.writes.goes.earlier c.in_err-copied.ensures.refused (λ is. is))
