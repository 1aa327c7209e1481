use Rattle.std.proofs.Common.{◌≡◌, ◌+◌, ◌<◌, ℕ, sym, ap, ◌∙◌, arith}
use Rattle.std.proofs.lemmas.Bool.{false≢true}
use Rattle.vm_disk.specs.Disk.{Medium, block}
use Rattle.vm_disk.proofs.MomentLemmas.{read_once, reads_then, same_medium}
use Rattle.vm_block.specs.Slot.{used_blocks}
use Rattle.vm_catalog.specs.Place.{slot_at}
use Rattle.vm_catalog.proofs.ReadingLemmas.{other_fits, other_begins, other_is}
use Rattle.vm_catalog.proofs.reader.read_others.Goals as goal

pub returns-in_default-clause-reads : goal.returns-in_default-clause-reads
returns-in_default-clause-reads g c honest =
    let so_far = c.loop-index.invariant in
    reads_then _ _ _ (so_far.reads (c.read.ensures.any.earlier honest)) (read_once _ _ _ _ _ (c.read.ensures.honest honest))

pub returns-then-not-read_entries-clause-reads : goal.returns-then-not-read_entries-clause-reads
returns-then-not-read_entries-clause-reads g c honest =
    let so_far = c.loop-index.invariant in
    reads_then _ _ _ (so_far.reads (c.read.ensures.any.earlier honest)) (read_once _ _ _ _ _ (c.read.ensures.honest honest))

pub returns-then-not-read_entries-clause-only : goal.returns-then-not-read_entries-clause-only
returns-then-not-read_entries-clause-only g c honest limit es slot damaged =
    let so_far = c.loop-index.invariant in
    let old = g.D.Disk.state c.args.disk.now in
    let place : c.first_block-first.result + c.loop-index.index ≡ slot_at c.args.slot_name + c.loop-index.index = ap (λ (n : ℕ). n + c.loop-index.index) c.first_block-first.ensures in
    let bytes : c.read.new.into ≡ block old.now.contents (slot_at c.args.slot_name + c.loop-index.index) =
    (c.in-Ok.ensures.honest honest).bytes_are ∙ ap (λ (m : Medium). block m.contents (c.first_block-first.result + c.loop-index.index)) (same_medium _ _ (so_far.reads (c.in-Ok.ensures.any.earlier honest))) ∙ ap (block old.now.contents) place in
    let each = other_is old.now.contents c.args.slot_name limit es c.args.head.blocks c.args.head.entries c.loop-index.index c.min-count.result c.read.new.into _ slot so_far.fits (so_far.found (c.in-Ok.ensures.any.earlier honest)) c.loop-index.auto.index (omega (arith, c.used_blocks-index-end.ensures)) (omega (arith, c.min-count.ensures, c.len.ensures, c.loop-index.entries.ok.0)) bytes in
    absurd (false≢true (sym c.if-not-read_entries.true ∙ c.read_entries.ensures.only each))

pub loop-index-preserved : goal.loop-index-preserved
loop-index-preserved g c =
    let so_far = c.loop-index.invariant in
    let any = c.read.ensures.any in
    let old = g.D.Disk.state c.args.disk.now in
    let place : c.first_block-first.result + c.loop-index.index ≡ slot_at c.args.slot_name + c.loop-index.index = ap (λ (n : ℕ). n + c.loop-index.index) c.first_block-first.ensures in
    let inside : c.loop-index.index < used_blocks c.args.head.entries = omega (arith, c.used_blocks-index-end.ensures) in
    record {
      blocks = any.same_blocks ∙ so_far.blocks;
      earlier = λ honest. so_far.earlier (any.earlier honest);
      rising = omega arith;
      once = omega (arith, any.read, so_far.once);
      reads = λ honest. reads_then _ _ _ (so_far.reads (c.in-Ok.ensures.any.earlier honest)) (read_once _ _ _ _ _ (c.read.ensures.honest honest));
      room = c.if-not-read_entries.ensures.room ∙ so_far.room;
      fits = other_fits c.read.new.into _ _ c.loop-index.index c.min-count.result _ _ so_far.fits inside c.if-not-read_entries.ensures.found (omega (arith, c.min-count.ensures, c.len.ensures, c.loop-index.entries.ok.0));
      found = λ honest.
          let bytes : c.read.new.into ≡ block old.now.contents (slot_at c.args.slot_name + c.loop-index.index) =
          (c.in-Ok.ensures.honest honest).bytes_are ∙ ap (λ (m : Medium). block m.contents (c.first_block-first.result + c.loop-index.index)) (same_medium _ _ (so_far.reads (c.in-Ok.ensures.any.earlier honest))) ∙ ap (block old.now.contents) place in
          other_begins old.now.contents (slot_at c.args.slot_name) _ _ c.loop-index.index c.min-count.result c.read.new.into _ _ so_far.fits inside (so_far.found (c.in-Ok.ensures.any.earlier honest)) bytes c.read.array_long c.if-not-read_entries.ensures.found;
    }
