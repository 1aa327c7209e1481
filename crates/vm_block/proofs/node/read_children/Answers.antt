use Rattle.std.proofs.Common.{◌+◌, length, ap, sym, ◌∙◌, subst, refl}
use Rattle.std.specs.List.{AllByRecursion, flat_map}
use Rattle.std.proofs.lemmas.List.{length_push}
use Rattle.vm_block.specs.Node.{ChildFits, child_bytes}
use Rattle.vm_block.proofs.Rows.{all_push, rows_read}
use Rattle.vm_block.proofs.node.read_children.Goals as goal

pub loop-i-preserved : goal.loop-i-preserved
loop-i-preserved c =
    let before = c.loop-i.children.items in
    let child = c.read_child.result in
    let items = c.push.ensures.items in
    record {
      many = ap length items ∙ length_push before child ∙ ap (λ n. n + 1) c.loop-i.invariant.many;
      fit = subst (AllByRecursion ChildFits) (sym items) (all_push ChildFits before child c.loop-i.invariant.fit c.read_child.ensures.fits);
      spelled = rows_read child_bytes 14 before c.loop-i.i child c.args.bytes.now _ c.loop-i.invariant.spelled refl c.read_child.ensures.spelled ∙ ap (flat_map child_bytes) (sym items);
    }
