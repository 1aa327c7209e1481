use Rattle.std.proofs.Common.{None, ◌++◌, refl, arith, rules}
use Rattle.vm_alloc.proofs.HeldLemmas.{holds_more_then}
use Rattle.vm_tree.proofs.Looking.{writes_then}
use Rattle.vm_tree.proofs.Growing.{both_made}
use Rattle.vm_tree.proofs.Renewing.{renewed_more}
use Rattle.vm_tree.proofs.Touching.{others_kept}
use Rattle.vm_tree.proofs.insertion.write_two.Goals as goal

pub returns-clause-made : goal.returns-clause-made
returns-clause-made g c honest before keep more mine sizes front back is_left is_right =
    let after = c.write_bytes-2.ensures.writes in
    let first = c.in_ok-left.ensures in
    let left = first.leaf (after.goes.earlier honest) before keep more mine sizes front is_left in
    let right = c.in_ok-right.ensures.leaf honest before keep (holds_more_then _ _ _ more first.writes.still) tt sizes back is_right in
    both_made _ _ sizes _ _ _ _ 0 (λ n is. others_kept None tt after honest n is.now tt) (renewed_more before _ _ keep after.still) first.writes.still.same_length
    _ _ _ _ (front ++ back) refl left right

pub returns-clause-writes : goal.returns-clause-writes
returns-clause-writes g c = writes_then c.in_ok-left.ensures.writes c.write_bytes-2.ensures.writes (λ is. cc) (λ spared may. (may, tt)) (omega arith) (omega arith)

pub returns-in_err-right-clause-writes : goal.returns-in_err-right-clause-writes
returns-in_err-right-clause-writes g c = writes_then c.in_ok-left.ensures.writes c.write_bytes-2.ensures.writes (search rules) (λ spared may. (may, tt)) (omega arith) (omega arith)
