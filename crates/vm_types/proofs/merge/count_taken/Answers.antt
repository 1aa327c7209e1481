use Rattle.std.proofs.Common.{◌+◌, ℕ, Bool, List, None, if◌then◌else◌, length, drop, sym, ap, ◌∙◌, arith}
use Rattle.std.proofs.lemmas.List.{at_drop_all}
use Rattle.vm_types.specs.declared.change.Change.{Change}
use Rattle.vm_types.specs.Merge.{taken, taking}
use Rattle.vm_types.proofs.MergingLemmas.{side_by_side, merge-deltas}
use Rattle.vm_types.proofs.SettledLemmas.{three_by_side, three_by_side-delta}
use Rattle.vm_types.proofs.SmallerLemmas.{counts_on, settled_from-taking}
use Rattle.vm_types.proofs.merge.count_taken.Goals as goal
use Rattle.vm_types.proofs.merge.count_taken.Goals.{then-is_taken, else-is_taken}

one_if : Bool → ℕ
one_if t = if t then 1 else 0

pub loop-i-preserved : goal.loop-i-preserved
unfolding one_if
loop-i-preserved c =
    let d : Change = record { key = c.key-key.result; before = None; after = None } in
    let so_far = c.loop-i.invariant in
    let side = c.args.side in
    let left = ap (taking side) c.settled_from-unused.ensures ∙ sym (settled_from-taking side c.key-key.result c.loop-i.unused.now) in
    let step = counts_on c.args.theirs.now c.args.mine.now (taking side c.loop-i.unused.now) (taking side c.settled_from-unused.result.now) _ c.loop-i.count c.loop-i.i c.loop-i.at c.place_from-at.result c.key-key.result d c.is_taken.result (omega arith) (c.key-key.ensures d) c.place_from-at.ensures.rest left so_far.all (c.is_taken.ensures d) in
    elim c.if-is_taken.branch [
      | then-is_taken w ↦ record { inside = c.place_from-at.ensures.within; few = omega (arith, w.count-is, so_far.few); all = omega (arith, w.count-is, step, ap one_if w.if-is_taken.true) }
      | else-is_taken w ↦ record { inside = c.place_from-at.ensures.within; few = omega (arith, w.count-is, so_far.few); all = omega (arith, w.count-is, step, ap one_if w.if-is_taken.false) }
    ]

pub returns : goal.returns
returns c = λ base parent own f g h theirs mine.
    let settled = taking c.args.side c.args.settled.now in
    let end = at_drop_all (λ rest. c.loop-i.count + length (three_by_side (taking c.args.side c.loop-i.unused.now) rest (drop c.loop-i.at c.args.mine.now))) c.args.theirs.now c.loop-i.i (omega arith) in
    let lists = ap (λ changes. three_by_side settled changes c.args.mine.now) theirs
    ∙ three_by_side-delta base parent settled c.args.mine.now g
    ∙ ap (side_by_side (taken settled) _) mine
    ∙ merge-deltas base parent own g h settled in
    omega (arith, c.loop-i.invariant.all ∙ end, ap (λ (l : List Change). length l) lists)
