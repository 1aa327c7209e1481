use Rattle.std.proofs.Common.{◌+◌, [], ◌∙◌, arith}
use Rattle.vm_types.specs.Places.{place}
use Rattle.vm_block.proofs.EditLemmas.{size_without, take_written}
use Rattle.vm_block.proofs.changes.remove_record.Goals as goal

pub returns-then-write_changed-clause-only : goal.returns-then-write_changed-clause-only
returns-then-write_changed-clause-only c rs leaf =
    let found = c.in-Found.ensures.only rs leaf in
    let wrote = c.if-write_changed.ensures.only rs leaf [] c.no_part.ensures.none (omega (arith, found.within)) in (
      λ none. cc (found.value (c.args.key, []), none),
      take_written c.args.bytes.now c.write_changed.new.out rs (place c.args.key) c.in-Found.index leaf found (λ one. c.if-records_len-eq1.false (c.records_len.ensures.only rs leaf ∙ one)) wrote.1,
    )

pub returns-else-write_changed-clause-only : goal.returns-else-write_changed-clause-only
returns-else-write_changed-clause-only c rs leaf =
    let found = c.in-Found.ensures.only rs leaf in
    let i = c.in-Found.index in
    let more = c.if-write_changed.ensures.only rs leaf [] c.no_part.ensures.none (omega (arith, found.within)) in
    absurd (omega (arith, more, size_without rs i (i + 1) (omega arith) (omega (arith, found.within)), leaf.room))
