use Rattle.std.proofs.Common.{◌≡◌, ◌<◌, length, take, refl, sym, subst, ap, ◌∙◌, arith}
use Rattle.vm_cli.proofs.Known.{Appends-then}
use Rattle.vm_disk.specs.Disk.{Contents, Medium, block}
use Rattle.vm_sums.proofs.ShownLemmas.{shown_block}
use Rattle.vm_sums.specs.Summed.{shown_contents, shown_length}
use Rattle.vm_sums.specs.Sums.{summed}
use Rattle.std.proofs.lemmas.List.{take_all}
use Rattle.std.specs.Io.KnownBytes.{Appends}
use Rattle.altstore.specs.Images.{joined}
use Rattle.altstore.proofs.ImageLemmas.{joined-next}
use Rattle.altstore.proofs.image.write_blocks.Goals as goal

pub returns-in_err-put_all-clause-kept : goal.returns-in_err-put_all-clause-kept
returns-in_err-put_all-clause-kept g c = ap (λ (m : Medium). m.contents) (c.in-Ok.ensures.honest refl).same ∙ c.loop-n.invariant.same

pub loop-n-preserved : goal.loop-n-preserved
loop-n-preserved g c =
    let so_far = c.loop-n.invariant in let read = c.in-Ok.ensures.honest refl in
    let lt : c.loop-n.n < length c.args.disk.now.platter.blocks.items = rw so_far.count at c.loop-n-test.true in
    let items = c.args.disk.now.platter.blocks.items in
    let is : c.exchange_sum.new.block ≡ block (shown_contents items) c.loop-n.n =
    c.exchange_sum.ensures ∙ ap (summed c.loop-n.n) (read.bytes_are ∙ ap (λ (x : Contents). block x c.loop-n.n) so_far.same) ∙ sym (shown_block items c.loop-n.n lt) in
    record {
      same = ap (λ (m : Medium). m.contents) read.same ∙ so_far.same;
      count = so_far.count;
      most = (let test = c.loop-n-test.true in omega arith);
      written = rw (joined-next (shown_contents items) c.loop-n.n (omega (arith, lt, shown_length items))) (Appends-then _ _ _ _ _ so_far.written (rw is at c.in_ok-put_all.ensures.ok));
    }

pub returns-clause-written : goal.returns-clause-written
returns-clause-written g c =
    let so_far = c.loop-n.invariant in
    let items = c.args.disk.now.platter.blocks.items in
    let all : take c.loop-n.n (shown_contents items) ≡ shown_contents items =
    take_all c.loop-n.n (shown_contents items) (let test = c.loop-n-test.false in let count = so_far.count in omega (arith, test, count, shown_length items)) in
    subst (λ (xs : Contents). Appends (g.W.Write.contents c.args.writer.now) (g.W.Write.contents c.loop-n.writer) (joined xs)) all so_far.written
