use Rattle.std.proofs.Common.{None, ◌++◌, ◌∙◌, refl, arith, rules}
use Rattle.vm_alloc.proofs.HeldLemmas.{holds_more_then}
use Rattle.vm_tree.proofs.Looking.{writes_on, writes_then}
use Rattle.vm_tree.proofs.Growing.{both_made}
use Rattle.vm_tree.proofs.Renewing.{renewed_more}
use Rattle.vm_tree.proofs.Touching.{others_kept}
use Rattle.vm_tree.proofs.insertion.write_three.Goals as goal

pub returns-clause-made : goal.returns-clause-made
returns-clause-made g c honest before keep more mine sizes front mid back is_left is_middle is_right =
    let one = c.in_ok-left.ensures in
    let two = c.in_ok-middle.ensures in
    let third = c.write_bytes-3.ensures.writes in
    let then_two = third.goes.earlier honest in
    let then_one = two.writes.goes.earlier then_two in
    let more_one = holds_more_then _ _ _ more one.writes.still in
    let more_two = holds_more_then _ _ _ more_one two.writes.still in
    let left = one.leaf then_one before keep more mine sizes front is_left in
    let middle = two.leaf then_two before keep more_one tt sizes mid is_middle in
    let right = c.in_ok-right.ensures.leaf honest before keep more_two tt sizes back is_right in
    let rest = both_made _ _ sizes _ _ _ _ 0 (λ n is. others_kept None tt third honest n is.now tt) (renewed_more before _ _ keep third.still) two.writes.still.same_length
    _ _ _ _ (mid ++ back) refl middle right in
    both_made _ _ sizes _ _ _ _ 0
    (λ n is. others_kept None tt third honest n (two.writes.still.still n is.now) tt ∙ others_kept None tt two.writes then_two n is.now tt)
    (λ n is. renewed_more before _ _ keep third.still n (renewed_more before _ _ keep two.writes.still n is)) one.writes.still.same_length
    _ _ _ _ (front ++ (mid ++ back)) refl left rest

pub returns-in_err-middle-clause-writes : goal.returns-in_err-middle-clause-writes
returns-in_err-middle-clause-writes g c = writes_then c.in_ok-left.ensures.writes c.write_bytes-2.ensures.writes (search rules) (λ spared may. (may, tt)) (omega arith) (omega arith)

pub returns-clause-writes : goal.returns-clause-writes
returns-clause-writes g c = writes_then c.in_ok-left.ensures.writes (writes_on c.in_ok-middle.ensures.writes c.write_bytes-3.ensures.writes (λ is. is) (λ spared may. (tt, tt))) (λ is. cc) (λ spared may. (may, may)) (omega arith) (omega arith)

pub returns-in_err-right-clause-writes : goal.returns-in_err-right-clause-writes
returns-in_err-right-clause-writes g c = writes_then c.in_ok-left.ensures.writes (writes_on c.in_ok-middle.ensures.writes c.write_bytes-3.ensures.writes (λ is. is) (λ spared may. (tt, tt))) (search rules) (λ spared may. (may, may)) (omega arith) (omega arith)
