use Rattle.std.proofs.Common.{◌≡◌, length, refl, rules, sym, subst, arith}
use Rattle.vm_disk.proofs.MomentLemmas.{read_once}
use Rattle.vm_block.specs.Header.{IsEarlierHeader}
use Rattle.vm_cli.proofs.OpeningLemmas.{none_there}
use Rattle.vm_cli.proofs.program.opening.no_store.Goals as goal

pub returns-then-blocks-eq0 : goal.returns-then-blocks-eq0
returns-then-blocks-eq0 g c = record {
  any = (search rules);
  reads = (search rules);
  only = (search rules);
  told = λ honest.
      let whole = g.met.D.Disk.whole c.args.disk.now honest in
      let empty : length (g.D.Disk.state c.args.disk.now).now.contents ≡ 0 = omega (arith, whole, c.blocks-2.ensures, c.if-blocks-eq0.true) in
      record { header = λ is. (λ earlier. cc, λ earlier. absurd (none_there _ empty earlier)); sums = λ n is. cc };
}

pub returns-in_default : goal.returns-in_default
returns-in_default g c = record {
  any = (search rules);
  reads = λ honest. read_once _ _ _ _ _ (c.read.ensures.honest honest);
  only = (search rules);
  told = λ honest. record { header = λ is. cc; sums = λ n is. cc };
}

pub returns-then-is_earlier_header : goal.returns-then-is_earlier_header
returns-then-is_earlier_header g c = record {
  any = (search rules);
  reads = λ honest. read_once _ _ _ _ _ (c.read.ensures.honest honest);
  only = (search rules);
  told = λ honest.
      let bytes = (c.in-Ok.ensures.honest honest).bytes_are in
      record {
        header = λ is. (λ earlier. subst IsEarlierHeader bytes (c.is_earlier_header.ensures.0 c.if-is_earlier_header.true), λ earlier. refl);
        sums = λ n is. cc;
      };
}

pub returns-else-is_earlier_header : goal.returns-else-is_earlier_header
returns-else-is_earlier_header g c = record {
  any = (search rules);
  reads = λ honest. read_once _ _ _ _ _ (c.read.ensures.honest honest);
  only = (search rules);
  told = λ honest.
      let bytes = (c.in-Ok.ensures.honest honest).bytes_are in
      record {
        header = λ is. (λ earlier. cc, λ earlier. cc (c.is_earlier_header.ensures.1 (subst IsEarlierHeader (sym bytes) earlier), c.if-is_earlier_header.false));
        sums = λ n is. cc;
      };
}
