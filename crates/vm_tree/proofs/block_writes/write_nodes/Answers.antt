use Rattle.std.proofs.Common.{◌-◌, None, List, length, ap, subst, arith, rules, length-take, length-drop}
use Rattle.std.proofs.lemmas.List.{take_rest}
use Rattle.vm_types.specs.Places.{RisesFrom, places}
use Rattle.vm_block.specs.Leaf.{Record}
use Rattle.vm_tree.proofs.Looking.{writes_then}
use Rattle.vm_tree.proofs.Rising.{rises_front, rises_back}
use Rattle.vm_tree.proofs.Growing.{made_halves, made_moved, both_made}
use Rattle.vm_alloc.proofs.HeldLemmas.{holds_more_then}
use Rattle.vm_tree.proofs.Renewing.{renewed_all, renewed_beside, renewed_more}
use Rattle.vm_tree.proofs.Touching.{others_kept}
use Rattle.vm_tree.proofs.block_writes.write_nodes.Goals as goal

pub returns-clause-made : goal.returns-clause-made
returns-clause-made g c honest before keep more mine sizes rs above low fan rises made =
    let cs = c.args.children.now in
    let half = c.div_ceil-half.result in
    let rest = take_rest cs half in
    let halves = made_halves _ sizes _ _ (c.args.level - 1) half cs rs made in
    let rising = subst (λ (qs : List Record). RisesFrom 0 (places qs)) halves.records rises in
    let first = c.in_ok-left.ensures in
    let after = c.write_node_block-3.ensures.writes in
    let earlier = after.goes.earlier honest in
    let left = first.made earlier before keep more mine sizes halves.before above low (omega (arith, length-take half cs, fan, c.div_ceil-half.ensures, c.requires.count, c.requires.fan))
    (rises_front 0 halves.before halves.after rising) halves.front in
    let right = c.in_ok-right.ensures.made honest before keep (holds_more_then _ _ _ more first.writes.still) tt sizes halves.after above low (omega (arith, ap length rest, length-drop half cs, fan, c.div_ceil-half.ensures, c.requires.count, c.requires.fan))
    (rises_back 0 halves.before halves.after rising) (made_moved _ _ sizes _ _ _ _ (c.args.level - 1) (λ n is. others_kept c.args.own c.requires.may.mine first.writes earlier n is.now (renewed_beside c.args.own before c.args.held.now keep n mine is))
    (λ n is. renewed_more before _ _ keep first.writes.still n (renewed_all c.args.own before c.args.held.now keep n is)) first.writes.still.same_length _ _ halves.after rest halves.back) in
    both_made _ _ sizes _ _ _ _ c.args.level (λ n is. others_kept None tt after honest n is.now tt) (renewed_more before _ _ keep after.still) first.writes.still.same_length
    _ _ _ _ rs halves.records left right

pub returns-clause-writes : goal.returns-clause-writes
returns-clause-writes g c = writes_then c.in_ok-left.ensures.writes c.write_node_block-3.ensures.writes (λ is. cc) (λ spared may. (may, tt)) (omega arith) (omega arith)

pub returns-in_err-right-clause-writes : goal.returns-in_err-right-clause-writes
returns-in_err-right-clause-writes g c = writes_then c.in_ok-left.ensures.writes c.write_node_block-3.ensures.writes (search rules) (λ spared may. (may, tt)) (omega arith) (omega arith)
