use Rattle.std.proofs.Common.{◌≡◌, ◌<◌, ◌↔◌, length, refl, rules, subst, arith}
use Rattle.vm_types.specs.declared.sizes.TheConstants.{FIRST_DATA}
use Rattle.vm_disk.proofs.MomentLemmas.{read_once}
use Rattle.vm_sums.specs.Sums.{IsWithoutSum}
use Rattle.vm_cli.specs.program.Openings.{LacksSum}
use Rattle.vm_cli.specs.declared.program.opening.NoStore.TheVariants.{WithoutSums}
use Rattle.vm_cli.proofs.OpeningLemmas.{not_of_slot}
use Rattle.vm_cli.proofs.program.opening.damaged.Goals.{then-n-ge-FIRST_DATA-via-then-n-ge-FIRST_DATA, then-n-ge-FIRST_DATA-via-else-n-ge-FIRST_DATA+then-n-blocks}
use Rattle.vm_cli.proofs.program.opening.damaged.Goals as goal

pub returns-then-n-ge-FIRST_DATA : goal.returns-then-n-ge-FIRST_DATA
returns-then-n-ge-FIRST_DATA g c = record {
  any = (search rules);
  reads = (search rules);
  only = (search rules);
  told = λ honest.
      let whole = g.met.D.Disk.whole c.args.disk.now honest in
      elim c.then-n-ge-FIRST_DATA.branch [
        | then-n-ge-FIRST_DATA-via-then-n-ge-FIRST_DATA w ↦ not_of_slot _ c.args.n (λ lacks. (let inside = lacks.0 in let no : ⊥ = omega (arith, inside, w.if-n-ge-FIRST_DATA.true) in no))
        | then-n-ge-FIRST_DATA-via-else-n-ge-FIRST_DATA+then-n-blocks w ↦ not_of_slot _ c.args.n (λ lacks.
            (let inside = lacks.1 in let no : ⊥ = omega (arith, whole, inside, w.blocks-else-n-ge-FIRST_DATA.ensures, w.if-n-blocks.true) in no))
      ];
}

pub returns-in_default : goal.returns-in_default
returns-in_default g c = record {
  any = (search rules);
  reads = λ honest. read_once _ _ _ _ _ (c.read.ensures.honest honest);
  only = (search rules);
  told = (search rules);
}

pub returns-then-is_without_sum : goal.returns-then-is_without_sum
returns-then-is_without_sum g c = record {
  any = (search rules);
  reads = λ honest. read_once _ _ _ _ _ (c.read.ensures.honest honest);
  only = (search rules);
  told = λ honest.
      let whole = g.met.D.Disk.whole c.args.disk.now (c.read.ensures.any.earlier honest) in
      let bytes = (c.in-Ok.ensures.honest honest).bytes_are in
      let small : c.args.n < FIRST_DATA = omega (arith, c.if-n-ge-FIRST_DATA.false) in
      let inside : c.args.n < length (g.D.Disk.state c.args.disk.now).now.contents = omega (arith, whole, c.blocks-else-n-ge-FIRST_DATA.ensures, c.if-n-blocks.false) in
      let lacks = subst (IsWithoutSum c.args.n) bytes (c.is_without_sum.ensures.0 c.if-is_without_sum.true) in
      record {
        header = λ is. cc;
        sums = λ k is.
            let same : c.args.n ≡ k = cc in
            subst (λ k. (WithoutSums c.args.n ≡ WithoutSums k) ↔ LacksSum (g.D.Disk.state c.args.disk.now).now.contents k) same (λ told. (small, inside, lacks), λ told. refl);
      };
}

pub returns-else-is_without_sum : goal.returns-else-is_without_sum
returns-else-is_without_sum g c = record {
  any = (search rules);
  reads = λ honest. read_once _ _ _ _ _ (c.read.ensures.honest honest);
  only = (search rules);
  told = (search rules);
}
