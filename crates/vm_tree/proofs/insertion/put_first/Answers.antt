use Rattle.std.proofs.Common.{[], ◌∷◌, length, sym, subst, arith}
use Rattle.vm_alloc.proofs.HeldLemmas.{holds_same}
use Rattle.vm_types.specs.Places.{RisesFrom, places}
use Rattle.vm_block.specs.Leaf.{Record}
use Rattle.vm_tree.specs.Replacement.{IsRenewed}
use Rattle.vm_tree.specs.Root.{IsRootedIn}
use Rattle.vm_tree.specs.declared.root.Root.{Root}
use Rattle.vm_tree.proofs.RootLemmas.{made_root}
use Rattle.vm_tree.proofs.insertion.put_first.Goals as goal

pub returns-clause-put : goal.returns-clause-put
returns-clause-put g c honest keep sizes levels =
    let r : Record = (c.args.key, c.args.value.now) in
    let rs = r ∷ [] in
    let before = c.args.held.now in
    let limit = length before in
    let rising : RisesFrom 0 (places rs) = (omega arith, tt) in
    let Q = IsRenewed before c.write_bytes.new.held keep in
    let z = (g.D.Disk.state c.write_bytes.new.disk).now.contents in
    let made = c.in_ok-leaf.ensures.leaf honest before keep (holds_same before) tt sizes rs c.first_record.ensures in
    subst (λ (root : Root). IsRootedIn sizes Q z limit root rs) (sym c.root_at.ensures) (made_root Q sizes z limit 0 c.in_ok-leaf.leaf rs levels rising made)
