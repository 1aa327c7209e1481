use Rattle.std.proofs.Common.{◌∙◌, ℕ, true, Bool, List, [], ◌∷◌, refl, arith}
use Rattle.vm_block.specs.Leaf.{Record}
use Rattle.vm_tree.specs.Spent.{AllPass}
use Rattle.vm_tree.proofs.OverLemmas.{tree_few}
use Rattle.vm_tree.proofs.PartReads.{lists_map, none_aside, rooted_fits}
use Rattle.vm_tree.proofs.WindowLemmas.{part_all}
use Rattle.vm_tree.proofs.ranges.scan.Goals as goal

pub returns-clause-records : goal.returns-clause-records
returns-clause-records g c sizes honest m bs rooted =
    lists_map c.scan_window.result _ _ (c.scan_window.ensures.records sizes honest m bs rooted) (λ records is. is ∙ part_all m (rooted_fits sizes _ _ _ m bs rooted))

pub returns-clause-bound : goal.returns-clause-bound
returns-clause-bound g c honest sizes m bs rooted =
    let any : ℕ → Bool = λ p. true in
    let few = tree_few any sizes (g.D.Disk.state c.args.disk.now).now.contents c.args.blocks c.args.root m bs rooted in
    let none = none_aside sizes (g.D.Disk.state c.args.disk.now).now.contents c.args.blocks c.args.root m bs rooted in
    omega (arith, few, none, c.scan_window.ensures.bound honest sizes m bs rooted any (all_pass _))
  where
    all_pass : (rs : List Record) → AllPass (λ p. true) rs
    all_pass [] = tt
    all_pass (r ∷ rs) = (refl, all_pass rs)
