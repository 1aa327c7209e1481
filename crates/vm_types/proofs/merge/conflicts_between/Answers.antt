use Rattle.std.proofs.Common.{◌++◌, None, drop, sym, ap, ◌∙◌, arith, append-nil}
use Rattle.std.proofs.lemmas.List.{at_drop_all}
use Rattle.vm_types.specs.declared.change.Change.{Change}
use Rattle.vm_types.specs.Merge.{clash}
use Rattle.vm_types.proofs.MergingLemmas.{conflicts-deltas, side_by_side, side_by_side-goes_on, when_ok}
use Rattle.vm_types.proofs.merge.conflicts_between.Goals as goal

pub loop-i-preserved : goal.loop-i-preserved
loop-i-preserved c =
    let d : Change = record { key = c.key.result; before = None; after = None } in
    let so_far = c.loop-i.invariant in
    record {
      inside = c.place_from-at.ensures.within;
      all = side_by_side-goes_on clash c.args.theirs.now c.args.mine.now _ _ _ c.loop-i.i c.loop-i.at _ c.key.result d (omega arith) (c.key.ensures d) c.place_from-at.ensures.rest so_far.all
          (when_ok c.add_conflict.result (sym c.in_ok-map_err.ensures.variant) (c.add_conflict.ensures d));
    }

pub returns-clause-list : goal.returns-clause-list
returns-clause-list c = λ base parent own f g h theirs mine.
    let found = c.loop-i.conflicts in
    let end = at_drop_all (λ rest. found ++ side_by_side clash rest (drop c.loop-i.at c.args.mine.now)) c.args.theirs.now c.loop-i.i (omega arith) in
    sym (c.loop-i.invariant.all ∙ end ∙ append-nil found)
    ∙ ap (λ changes. side_by_side clash changes c.args.mine.now) theirs
    ∙ ap (side_by_side clash _) mine
    ∙ conflicts-deltas base parent own g h
