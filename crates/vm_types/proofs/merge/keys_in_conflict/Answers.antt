use Rattle.std.proofs.Common.{◌++◌, None, List, drop, map, sym, ap, ◌∙◌, arith, append-nil}
use Rattle.std.proofs.lemmas.List.{at_drop_all}
use Rattle.vm_types.specs.declared.change.Change.{Change}
use Rattle.vm_types.specs.declared.change.Conflict.{Conflict}
use Rattle.vm_types.specs.Map.{delta}
use Rattle.vm_types.specs.Merge.{clash}
use Rattle.vm_types.proofs.MergingLemmas.{conflicts-deltas, key_of_clash, side_by_side, side_by_side-goes_on, side_by_side-map, when_ok}
use Rattle.vm_types.proofs.merge.keys_in_conflict.Goals as goal

pub loop-i-preserved : goal.loop-i-preserved
loop-i-preserved c =
    let d : Change = record { key = c.key.result; before = None; after = None } in
    let so_far = c.loop-i.invariant in
    record {
      inside = c.place_from-at.ensures.within;
      all = side_by_side-goes_on key_of_clash c.args.theirs.now c.args.mine.now _ _ _ c.loop-i.i c.loop-i.at _ c.key.result d (omega arith) (c.key.ensures d) c.place_from-at.ensures.rest so_far.all
          (when_ok c.add_key_in_conflict.result (sym c.in_ok-map_err.ensures.variant) (c.add_key_in_conflict.ensures d));
    }

pub returns-clause-list : goal.returns-clause-list
returns-clause-list c = λ base parent own f g h theirs mine.
    let found = c.loop-i.keys.items in
    let end = at_drop_all (λ rest. found ++ side_by_side key_of_clash rest (drop c.loop-i.at c.args.mine.now)) c.args.theirs.now c.loop-i.i (omega arith) in
    sym (c.loop-i.invariant.all ∙ end ∙ append-nil found)
    ∙ ap (λ changes. side_by_side key_of_clash changes c.args.mine.now) theirs
    ∙ ap (side_by_side key_of_clash _) mine
    ∙ side_by_side-map (λ (k : Conflict). k.key) clash (delta base parent) (delta base own)
    ∙ ap (λ (cs : List Conflict). map (λ k. k.key) cs) (conflicts-deltas base parent own g h)
