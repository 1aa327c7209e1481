use Rattle.std.proofs.Common.{◌≡◌, List, rules, take, ◌∙◌, ap}
use Rattle.vm_block.specs.Header.{IsHeader}
use Rattle.vm_disk.specs.System.{system_state}
use Rattle.vm_cli.proofs.program.selector.rewrite_selector.Goals as goal

pub returns-then-not-is_header-clause-rewritten : goal.returns-then-not-is_header-clause-rewritten
returns-then-not-is_header-clause-rewritten g c honest long header =
    let bytes = (system_state g.W.World.held g.W.World.torn c.args.file.now).bytes in
    let mid = (system_state g.W.World.held g.W.World.torn c.len.new.self).bytes in
    let read = c.in_ok-read_at.ensures.honest honest in
    let measured = c.in_ok-len.ensures.honest (c.in_ok-read_at.ensures.any.earlier honest) in
    let first : c.read_at.new.into ≡ take 4096 bytes = read.bytes_are ∙ ap (λ n. take n mid) c.read_at.array_long ∙ ap (λ (all : List _). take 4096 all) measured.same in
    let is : IsHeader c.read_at.new.into = first ∙ header in
    let bad : ⊥ = search (c.is_header.ensures, is, c.if-not-is_header.ensures, rules) in
    absurd bad
