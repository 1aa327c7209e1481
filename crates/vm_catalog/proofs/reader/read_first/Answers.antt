use Rattle.std.proofs.Common.{take, min, ap, ◌∙◌, refl}
use Rattle.std.proofs.lemmas.Bool.{false≢true}
use Rattle.vm_disk.specs.Disk.{block}
use Rattle.vm_disk.proofs.MomentLemmas.{read_once}
use Rattle.vm_catalog.specs.Place.{slot_at}
use Rattle.vm_catalog.proofs.ReadingLemmas.{first_begins, front_is}
use Rattle.vm_catalog.proofs.reader.read_first.Goals as goal

pub returns-in_default-clause-reads : goal.returns-in_default-clause-reads
returns-in_default-clause-reads g c honest = read_once _ _ _ _ _ (c.read.ensures.honest honest)

pub returns-in-Some-clause-reads : goal.returns-in-Some-clause-reads
returns-in-Some-clause-reads g c honest = read_once _ _ _ _ _ (c.read.ensures.honest honest)

pub returns-in-Some-clause-found : goal.returns-in-Some-clause-found
returns-in-Some-clause-found g c honest =
    let bytes = (c.in-Ok.ensures.honest honest).bytes_are ∙ ap (block (g.D.Disk.state c.args.disk.now).now.contents) c.first_block.ensures in
    first_begins (g.D.Disk.state c.args.disk.now).now.contents (slot_at c.args.slot_name) c.in-Some.head.blocks c.in-Some.head.entries (min c.in-Some.head.entries 31) (take 128 c.read.new.into) c.read.new.into _ _ bytes c.read.array_long refl c.in-Some.ensures.head c.in-Some.ensures.found refl

pub returns-in-None-clause-reads : goal.returns-in-None-clause-reads
returns-in-None-clause-reads g c honest = read_once _ _ _ _ _ (c.read.ensures.honest honest)

pub returns-in-None-clause-only : goal.returns-in-None-clause-only
returns-in-None-clause-only g c honest limit es slot damaged =
    let bytes = (c.in-Ok.ensures.honest honest).bytes_are ∙ ap (block (g.D.Disk.state c.args.disk.now).now.contents) c.first_block.ensures in
    let front = front_is (g.D.Disk.state c.args.disk.now).now.contents c.args.slot_name limit es c.read.new.into slot bytes in
    absurd (false≢true (c.in-None.ensures.only limit _ front.head front.each))
