use Rattle.std.proofs.Common.{◌<◌, List, inl, refl, sym, subst, ◌∙◌, arith}
use Rattle.std.proofs.lemmas.Bool.{false≢true}
use Rattle.std.specs.List.{AllByRecursion}
use Rattle.vm_alloc.specs.Marks.{IsMarked}
use Rattle.vm_disk.specs.Disk.{block}
use Rattle.vm_block.specs.Leaf.{HasRecords}
use Rattle.vm_tree.proofs.Descent.{subtree_top}
use Rattle.vm_tree.proofs.Looking.{looks_once, passed_on}
use Rattle.vm_tree.proofs.TreeLemmas.{leaf_opens, leaf_read}
use Rattle.vm_check.specs.TreeCopy.{IsUpTo}
use Rattle.vm_check.specs.Renumbering.{count_of}
use Rattle.vm_check.proofs.CopyLemmas.{copies_block, only_put}
use Rattle.vm_check.proofs.CopySteps.{step_leaf, step_none, step_read}
use Rattle.vm_check.proofs.ReachedLemmas.{marked_put, none_copied}
use Rattle.vm_check.proofs.tree_copy.copy_leaf.Goals as goal

pub returns-then-not-is_data-clause-sound : goal.returns-then-not-is_data-clause-sound
returns-then-not-is_data-clause-sound g c source sizes rs bs tree b is =
    false≢true (sym c.if-not-is_data.true ∙ c.is_data.ensures.1 (subtree_top sizes _ _ _ _ rs bs tree))

pub returns-in_err-leaf_into-clause-step : goal.returns-in_err-leaf_into-clause-step
returns-in_err-leaf_into-clause-step g c =
    rw (passed_on _ c.from_residual.ensures.1) (step_read _ _ (looks_once c.in_err-leaf_into.ensures.looks) (λ is. cc) (λ is. cc) (λ is. cc) (λ is. cc))

pub returns-in_err-leaf_into-clause-sound : goal.returns-in_err-leaf_into-clause-sound
returns-in_err-leaf_into-clause-sound g c source sizes rs bs tree b is =
    let device = c.in_err-leaf_into.ensures.only source rs (leaf_read sizes _ _ _ rs bs tree) in
    cc (device, passed_on _ c.from_residual.ensures.1, is)

pub returns-clause-step : goal.returns-clause-step
returns-clause-step g c =
    step_leaf (looks_once c.in_ok-leaf_into.ensures.looks) (c.in_ok-leaf_into.ensures.looks.once.one (c.is_data.ensures.0 c.if-not-is_data.false)) c.put_copy.ensures.puts
    (λ is. c.put_copy.ensures.device is) (λ is. is) (λ is. is) (λ is. is)

pub returns-clause-copied : goal.returns-clause-copied
returns-clause-copied g c source target so_far =
    let found = c.in_ok-leaf_into.ensures.found source in
    let form = c.in_ok-leaf_into.ensures.leaf in
    let inside : c.args.block < count_of c.args.numbers.now = omega (arith, (c.is_data.ensures.0 c.if-not-is_data.false).1, c.requires.fit.known) in
    copies_block _ _ _ _ _ _ _ _ c.put_copy.result inside so_far (c.put_copy.ensures.put target)
    (inl record { records = form.records; was = subst (λ (bytes : List _). HasRecords bytes form.records) found.bytes_are form.leaf; is = found.bytes_are })

pub returns-clause-only : goal.returns-clause-only
returns-clause-only g c source =
    let found = c.in_ok-leaf_into.ensures.found source in
    let form = c.in_ok-leaf_into.ensures.leaf in
    only_put (λ n. IsUpTo 0 (block (g.S.Disk.state c.args.source.now).now.contents n)) _ _ _ _ _ _ c.put_copy.result c.put_copy.ensures.puts
    (inl (form.records, subst (λ (bytes : List _). HasRecords bytes form.records) found.bytes_are form.leaf))

pub returns-clause-sound : goal.returns-clause-sound
returns-clause-sound g c source sizes rs bs tree b is = omega (arith, c.number_of-number.ensures, c.if-number-ne0.false, c.put_copy.ensures.puts.twice b is)

pub returns-then-not-is_data-clause-reached : goal.returns-then-not-is_data-clause-reached
returns-then-not-is_data-clause-reached g c source sizes rs bs tree marks each = none_copied marks c.args.numbers.now (λ is. cc)

pub returns-then-number-ne0-clause-reached : goal.returns-then-number-ne0-clause-reached
returns-then-number-ne0-clause-reached g c source sizes rs bs tree marks each = none_copied marks c.args.numbers.now (λ is. cc)

pub returns-in_err-leaf_into-clause-reached : goal.returns-in_err-leaf_into-clause-reached
returns-in_err-leaf_into-clause-reached g c source sizes rs bs tree marks each = none_copied marks c.args.numbers.now (λ is. cc (passed_on _ c.from_residual.ensures.1, is))

pub returns-clause-reached : goal.returns-clause-reached
returns-clause-reached g c source sizes rs bs tree marks each =
    let at = leaf_opens sizes _ _ _ _ rs bs refl tree in
    let all = subst (AllByRecursion (IsMarked marks)) at.first each in
    marked_put marks c.put_copy.ensures.puts (at.place.0, all.0)

pub returns-then-not-is_data-clause-step : goal.returns-then-not-is_data-clause-step
returns-then-not-is_data-clause-step g c = step_none _ _ _ (λ is. cc) (λ is. cc) (λ is. cc)

pub returns-then-number-ne0-clause-step : goal.returns-then-number-ne0-clause-step
returns-then-number-ne0-clause-step g c = step_none _ _ _ (λ is. cc) (λ is. cc) (λ is. cc)
