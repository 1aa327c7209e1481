use Rattle.std.proofs.Common.{map, ap, arith, rules}
use Rattle.vm_disk.proofs.MomentLemmas.{same_medium}
use Rattle.vm_tree.proofs.ScanLemmas.{device_lists}
use Rattle.vm_tree.proofs.Looking.{looks_none, looks_of, looks_on, passed_on}
use Rattle.vm_tree.specs.declared.root.Root.{Root}
use Rattle.vm_check.proofs.FoundLemmas.{named_more}
use Rattle.vm_check.proofs.TopLemmas.{found_here, more_found, no_roots, none_found, root_lacking}
use Rattle.vm_check.proofs.trees.find_roots.Goals as goal

pub loop-number-init : goal.loop-number-init
loop-number-init g c = record {
  looks = looks_none _ (λ is. cc);
  once = omega arith;
  named = ap (map (λ (r : Root). r.block)) c.new-roots.ensures.items;
  found = λ honest. no_roots (g.D.Disk.state c.args.disk.now).now.contents c.args.blocks _ c.new-roots.ensures.items;
  last = λ honest. none_found _ _ c.default-last.result c.default-last.ensures.0;
}

pub loop-number-preserved : goal.loop-number-preserved
loop-number-preserved g c =
    let so_far = c.loop-number.invariant in
    record {
      looks = looks_on so_far.looks (looks_of c.in_ok-last.ensures.looks) (λ is. cc);
      once = omega (arith, c.in_ok-last.ensures.looks.most, so_far.once);
      named = named_more _ _ _ _ _ c.loop-number-test.true c.in-Ok.ensures.items so_far.named c.in_ok-last.ensures.named;
      found = λ honest.
          let before = c.in_ok-last.ensures.looks.goes.earlier honest in
          more_found _ _ _ _ _ c.in-Ok.ensures.items (so_far.found before) (found_here _ _ _ _ _ (same_medium _ _ (so_far.looks.reads before)) (so_far.last before) (λ last. c.in_ok-last.ensures.found last honest));
      last = λ honest.
          let before = c.in_ok-last.ensures.looks.goes.earlier honest in
          found_here _ _ _ _ _ (same_medium _ _ (so_far.looks.reads before)) (so_far.last before) (λ last. c.in_ok-last.ensures.found last honest);
    }

pub returns-in_err-last-clause-only : goal.returns-in_err-last-clause-only
returns-in_err-last-clause-only g c honest sizes trees =
    let so_far = c.loop-number.invariant in
    rw (passed_on _ c.from_residual.ensures.1) (device_lists _ _
    (root_lacking sizes _ _ _ _ _ _ (same_medium _ _ (so_far.looks.reads (c.in_err-last.ensures.looks.goes.earlier honest))) c.loop-number-test.true trees (λ m bs tree. c.in_err-last.ensures.only honest sizes m bs tree)))

pub returns-in_err-last-clause-looks : goal.returns-in_err-last-clause-looks
returns-in_err-last-clause-looks g c = looks_on c.loop-number.invariant.looks (looks_of c.in_err-last.ensures.looks) (search rules)

pub returns-in-Err-clause-looks : goal.returns-in-Err-clause-looks
returns-in-Err-clause-looks g c = looks_on c.loop-number.invariant.looks (looks_of c.in_ok-last.ensures.looks) (λ is. cc)
