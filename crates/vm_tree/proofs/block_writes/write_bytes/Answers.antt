use Rattle.std.proofs.Common.{◌<◌, ◌∙◌, length, [], ◌∷◌, subst, arith}
use Rattle.vm_types.specs.declared.key.Key.{Key}
use Rattle.vm_block.specs.declared.node.Child.{Child}
use Rattle.vm_tree.specs.Splits.{Made}
use Rattle.vm_tree.proofs.Growing.{lowest_low, leaf_made, node_is, node_made}
use Rattle.vm_tree.specs.Replacement.{IsRenewed, without_own}
use Rattle.vm_tree.proofs.Renewing.{renewed_all, renewed_beside, renewed_more, renewed_place}
use Rattle.vm_tree.proofs.Touching.{others_kept}
use Rattle.vm_tree.proofs.block_writes.write_bytes.Goals as goal

pub returns-clause-leaf : goal.returns-clause-leaf
returns-clause-leaf g c honest before keep more mine sizes rs leaf =
    let at = c.in_ok-block.ensures.written in
    let n = c.in_ok-block.block in
    let inside : n < length c.args.held.now = omega (arith, at.taken.inside, c.write_at.ensures.writes.still.same_length) in
    leaf_made (IsRenewed before c.write_at.new.held keep) sizes _ _
    n c.lowest_key-low.result c.args.bytes.now rs leaf (at.taken.above, inside) (omega (arith, inside, c.requires.inside, g.met.D.Disk.small c.args.disk.now)) (renewed_place c.args.own before c.args.held.now c.write_at.new.held keep n more mine at.place at.taken.held_now)
    (at.bytes_are honest) c.lowest_key-low.ensures.fits (c.lowest_key-low.ensures.leaf rs leaf)

pub returns-clause-node : goal.returns-clause-node
returns-clause-node g c honest before keep more mine sizes level cs rs spelled above low some few fan rises made =
    let at = c.in_ok-block.ensures.written in
    let n = c.in_ok-block.block in
    let inside : n < length c.args.held.now = omega (arith, at.taken.inside, c.write_at.ensures.writes.still.same_length) in
    let d : Child = record { low = c.lowest_key-low.result; block = n } in
    let node = node_is (IsRenewed before c.args.held.now (without_own c.args.own keep)) sizes _ _ level _ cs rs spelled above low some few rises made in
    let key = lowest_low cs d c.lowest_key-low.result (c.lowest_key-low.ensures.node level cs node) in
    subst (λ (k : Key). Made (IsRenewed before c.write_at.new.held keep) sizes (g.D.Disk.state c.write_at.new.disk).now.contents (length c.args.held.now) level (record { low = k; block = n } ∷ []) rs) key
    (node_made (IsRenewed before c.args.held.now (without_own c.args.own keep)) (IsRenewed before c.write_at.new.held keep) sizes _ _ _
    (λ k is. others_kept c.args.own c.requires.mine c.write_at.ensures.writes honest k is.now (renewed_beside c.args.own before c.args.held.now keep k mine is)) (λ k is. renewed_more before _ _ keep c.write_at.ensures.writes.still k (renewed_all c.args.own before c.args.held.now keep k is))
    level n cs d rs above low some few fan (at.taken.above, inside) (omega (arith, inside, c.requires.inside, g.met.D.Disk.small c.args.disk.now)) (renewed_place c.args.own before c.args.held.now c.write_at.new.held keep n more mine at.place at.taken.held_now)
    (at.bytes_are honest ∙ spelled) rises made)
