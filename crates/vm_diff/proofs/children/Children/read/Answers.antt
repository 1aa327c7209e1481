use Rattle.std.proofs.Common.{◌-◌, sym, arith}
use Rattle.vm_types.specs.Places.{place}
use Rattle.vm_diff.proofs.RowLemmas.{children_count, children_cuts, children_whole}
use Rattle.vm_diff.proofs.children.Children.read.Goals as goal

pub returns-clause-few : goal.returns-clause-few
returns-clause-few g c =
    let first = c.first_child_in-first.result in
    let end = c.end_of_children-end.result in
    omega (arith, children_count c.node_into.new.bytes (end - first) first, c.end_of_children-end.ensures.most, c.in_ok-count.ensures.count.many, c.in_ok-count.ensures.count.node.few)

pub returns-clause-only : goal.returns-clause-only
returns-clause-only g c honest cs at =
    let there = c.in_ok-count.ensures.only honest cs at in
    let first = c.first_child_in-first in
    let end = c.end_of_children-end in
    children_cuts (place c.args.part.low) (place c.args.part.high) c.node_into.new.bytes first.result end.result c.in_ok-count.count cs (sym (children_whole c.node_into.new.bytes c.args.level cs c.in_ok-count.count there.0 there.1))
    end.ensures.from end.ensures.most first.ensures.passed first.ensures.next end.ensures.within end.ensures.above
