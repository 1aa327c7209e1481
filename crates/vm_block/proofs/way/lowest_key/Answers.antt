use Rattle.std.proofs.Common.{drop, sym, ◌∙◌, arith}
use Rattle.std.proofs.lemmas.List.{take-take}
use Rattle.vm_block.proofs.WayLemmas.{lowest_read}
use Rattle.vm_block.proofs.LookLemmas.{begin_read}
use Rattle.vm_block.proofs.way.lowest_key.Goals as goal

pub returns-clause-node : goal.returns-clause-node
returns-clause-node c level cs node =
    lowest_read c.args.bytes.now level cs c.read_key.result 4080 node c.read_key.ensures.fits (omega arith) c.read_key.ensures.spelled

pub returns-clause-leaf : goal.returns-clause-leaf
returns-clause-leaf c rs leaf =
    begin_read c.args.bytes.now rs c.read_key.result 4080 leaf c.read_key.ensures.fits (omega arith) c.read_key.ensures.spelled

pub returns-clause-spelled : goal.returns-clause-spelled
returns-clause-spelled c = sym (take-take 10 4080 (drop 16 c.args.bytes.now) (omega arith)) ∙ c.read_key.ensures.spelled
