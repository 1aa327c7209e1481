use Rattle.std.proofs.Common.{length, refl, rules}
use Rattle.vm_disk.proofs.MomentLemmas.{same_medium}
use Rattle.vm_tree.proofs.Looking.{looks_on, passed_on}
use Rattle.vm_tree.proofs.ScanLemmas.{device_lists, fault_lists}
use Rattle.vm_check.proofs.TopLemmas.{found_topped, inner_behind, to_mark, trees_found}
use Rattle.vm_check.proofs.trees.find_trees.Goals as goal

pub returns-in_err-roots-clause-found : goal.returns-in_err-roots-clause-found
returns-in_err-roots-clause-found g c honest sizes trees =
    rw (passed_on _ c.from_residual.ensures.1) (fault_lists c.in_err-roots.field-0.0 _ _ (c.in_err-roots.ensures.only honest sizes trees))

pub returns-in_err-mark-clause-looks : goal.returns-in_err-mark-clause-looks
returns-in_err-mark-clause-looks g c = looks_on c.find_roots.ensures.looks c.in_err-mark.ensures.marking.looks (search rules)

pub returns-in_err-mark-clause-found : goal.returns-in_err-mark-clause-found
returns-in_err-mark-clause-found g c honest sizes trees =
    let before = c.mark.ensures.marking.looks.goes.earlier honest in
    let t = to_mark sizes c.args.blocks _ _ (same_medium _ _ (c.find_roots.ensures.looks.reads before)) c.args.numbers.now _ c.in-Ok.ensures _ _ c.deref.ensures.value c.in_ok-roots.ensures.named (c.in_ok-roots.ensures.found before) trees in
    rw (passed_on _ c.from_residual-in_err-mark.ensures.1) (device_lists _ _ (c.in_err-mark.ensures.sound honest sizes t.blocks t.under))

pub returns-clause-looks : goal.returns-clause-looks
returns-clause-looks g c = looks_on c.find_roots.ensures.looks c.in_ok-mark.ensures.marking.looks (λ is. cc)

pub returns-clause-inner : goal.returns-clause-inner
returns-clause-inner g c honest =
    let before = c.mark.ensures.marking.looks.goes.earlier honest in
    inner_behind _ _ _ _ c.mark.new.marks _ _ _ (length c.args.numbers.now) (same_medium _ _ (c.find_roots.ensures.looks.reads before)) c.in-Ok.ensures c.find_roots.ensures.once (c.in_ok-mark.ensures.marking.inner refl honest)

pub returns-clause-found : goal.returns-clause-found
returns-clause-found g c honest sizes trees =
    let before = c.mark.ensures.marking.looks.goes.earlier honest in
    let t = to_mark sizes c.args.blocks _ _ (same_medium _ _ (c.find_roots.ensures.looks.reads before)) c.args.numbers.now _ c.in-Ok.ensures _ _ c.deref.ensures.value c.in_ok-roots.ensures.named (c.in_ok-roots.ensures.found before) trees in
    trees_found sizes c.args.blocks _ _ (same_medium _ _ (c.find_roots.ensures.looks.reads before)) c.args.numbers.now _ c.in-Ok.ensures _ _ c.mark.new.marks t c.mark.ensures.marking.growing.same_length (c.in_ok-mark.ensures.marked honest sizes t.blocks t.under t.closed)

pub returns-clause-topped : goal.returns-clause-topped
returns-clause-topped g c honest = found_topped _ _ _ (c.in_ok-roots.ensures.found (c.mark.ensures.marking.looks.goes.earlier honest))
