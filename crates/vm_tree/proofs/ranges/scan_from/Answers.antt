use Rattle.std.proofs.Common.{◌∙◌, sym, subst, arith}
use Rattle.vm_types.specs.Parts.{from}
use Rattle.vm_types.specs.Places.{place}
use Rattle.vm_tree.specs.Over.{stands_at}
use Rattle.vm_tree.specs.Spent.{AllPass}
use Rattle.vm_tree.proofs.PartReads.{few_aside, lists_map, rooted_fits}
use Rattle.vm_tree.proofs.WindowLemmas.{given_from, stands_passes}
use Rattle.vm_tree.proofs.ranges.scan_from.Goals as goal

pub returns-clause-records : goal.returns-clause-records
returns-clause-records g c sizes honest m bs rooted =
    lists_map c.scan_window.result _ _ (c.scan_window.ensures.records sizes honest m bs rooted) (λ records is. is ∙ given_from c.args.low c.args.count m (rooted_fits sizes _ _ _ m bs rooted))

pub returns-clause-bound : goal.returns-clause-bound
returns-clause-bound g c honest sizes m bs tree =
    let few = few_aside sizes (g.D.Disk.state c.args.disk.now).now.contents c.args.blocks c.args.root m bs (place c.args.low) tree in
    let given = from (place c.args.low) c.args.count m in
    let same = given_from c.args.low c.args.count m (rooted_fits sizes _ _ _ m bs tree) in
    omega (arith, few, c.scan_window.ensures.bound honest sizes m bs tree (stands_at given) (subst (AllPass (stands_at given)) (sym same) (stands_passes given)))
