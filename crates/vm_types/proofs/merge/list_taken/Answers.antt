use Rattle.std.proofs.Common.{◌++◌, None, drop, sym, ap, ◌∙◌, arith, append-nil}
use Rattle.std.proofs.lemmas.List.{at_drop_all}
use Rattle.vm_types.specs.declared.change.Change.{Change}
use Rattle.vm_types.specs.Merge.{taken, taking}
use Rattle.vm_types.proofs.MergingLemmas.{side_by_side, merge-deltas, when_ok}
use Rattle.vm_types.proofs.SettledLemmas.{three_by_side, three_by_side-delta, three_by_side-goes_on}
use Rattle.vm_types.proofs.SmallerLemmas.{settled_from-taking}
use Rattle.vm_types.proofs.merge.list_taken.Goals as goal

pub loop-i-preserved : goal.loop-i-preserved
loop-i-preserved c =
    let d : Change = record { key = c.key-key.result; before = None; after = None } in
    let so_far = c.loop-i.invariant in
    let side = c.args.side in
    record {
      inside = c.place_from-at.ensures.within;
      all = three_by_side-goes_on c.args.theirs.now c.args.mine.now (taking side c.loop-i.unused.now) (taking side c.settled_from-unused.result.now) _ _ _ c.loop-i.i c.loop-i.at _ c.key-key.result d (omega arith) (c.key-key.ensures d) c.place_from-at.ensures.rest
          (ap (taking side) c.settled_from-unused.ensures ∙ sym (settled_from-taking side c.key-key.result c.loop-i.unused.now)) so_far.all (when_ok c.add_taken.result (sym c.in_ok-map_err.ensures.variant) (c.add_taken.ensures d));
    }

pub returns-clause-list : goal.returns-clause-list
returns-clause-list c = λ base parent own f g h theirs mine.
    let settled = taking c.args.side c.args.settled.now in
    let found = c.loop-i.changes in
    let end = at_drop_all (λ rest. found ++ three_by_side (taking c.args.side c.loop-i.unused.now) rest (drop c.loop-i.at c.args.mine.now)) c.args.theirs.now c.loop-i.i (omega arith) in
    sym (c.loop-i.invariant.all ∙ end ∙ append-nil found)
    ∙ ap (λ changes. three_by_side settled changes c.args.mine.now) theirs
    ∙ three_by_side-delta base parent settled c.args.mine.now g
    ∙ ap (side_by_side (taken settled) _) mine
    ∙ merge-deltas base parent own g h settled
