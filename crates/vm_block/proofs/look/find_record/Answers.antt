use Rattle.std.proofs.Common.{◌+◌, ◌-◌, ◌*◌, sym, ◌∙◌, arith}
use Rattle.vm_types.specs.Places.{place}
use Rattle.vm_block.proofs.LookLemmas.{found_at, leaf_choice, missing_before, missing_behind}
use Rattle.vm_block.proofs.look.find_record.Goals as goal

pub returns-then-there-place-clause-only : goal.returns-then-there-place-clause-only
returns-then-there-place-clause-only c rs leaf =
    let i = c.choose-index.result in
    let p = place c.args.key in
    let at = leaf_choice c.args.bytes.now rs c.records_len-count.result i (4096 - (16 + 12 * i)) c.place-place.result p c.read_key.result leaf (c.records_len-count.ensures.only rs leaf) c.place-place.ensures.place c.choose-index.ensures.chosen c.read_key.ensures.fits (omega arith) c.read_key.ensures.spelled in
    found_at rs p i at.0 (at.1 ∙ sym c.place-there.ensures.place ∙ c.if-there-place.true ∙ c.place-place.ensures.place)

pub returns-then-there-place-2-clause-only : goal.returns-then-there-place-2-clause-only
returns-then-there-place-2-clause-only c rs leaf =
    let i = c.choose-index.result in
    let p = place c.args.key in
    let at = leaf_choice c.args.bytes.now rs c.records_len-count.result i (4096 - (16 + 12 * i)) c.place-place.result p c.read_key.result leaf (c.records_len-count.ensures.only rs leaf) c.place-place.ensures.place c.choose-index.ensures.chosen c.read_key.ensures.fits (omega arith) c.read_key.ensures.spelled in
    missing_behind rs p i at.0 (omega (arith, at.1, c.place-there.ensures.place, c.place-place.ensures.place, c.if-there-place-2.true))

pub returns-else-there-place-2-clause-only : goal.returns-else-there-place-2-clause-only
returns-else-there-place-2-clause-only c rs leaf =
    let i = c.choose-index.result in
    let p = place c.args.key in
    let at = leaf_choice c.args.bytes.now rs c.records_len-count.result i (4096 - (16 + 12 * i)) c.place-place.result p c.read_key.result leaf (c.records_len-count.ensures.only rs leaf) c.place-place.ensures.place c.choose-index.ensures.chosen c.read_key.ensures.fits (omega arith) c.read_key.ensures.spelled in
    missing_before rs p i at.0 (omega (arith, at.1, c.place-there.ensures.place, c.place-place.ensures.place, c.if-there-place.false, c.if-there-place-2.false))
