use Rattle.std.proofs.Common.{inl, inr}
use Rattle.vm_cli.specs.program.CachedLines.IsNotServed.{refused_over_cache, refused_over_disk}
use Rattle.vm_cli.specs.program.CachedLines.IsServed.{served_over_cache, served_over_disk}
use Rattle.vm_cli.proofs.DelayingLemmas.{some}
use Rattle.vm_cli.proofs.program.cached_lines.answer_lines_in_memory.Goals as goal

pub returns-in-Ok-clause-served : goal.returns-in-Ok-clause-served
returns-in-Ok-clause-served g c =
    let all = rw (c.buffer_for-buffer.ensures, c.blocks-2.ensures) at c.answer_lines_late-exit.ensures.served in
    elim all [
      | inl served ↦ inl (served_over_cache (record {
        first = c.in-Ok.cached;
        last = c.answer_lines_late-exit.result.1;
        some = some c.args.in_memory.cache c.if-cache-eq0.false;
        empty = c.in-Ok.ensures.ok;
        done = served;
        given_back = c.into_inner.ensures;
      }))
      | inr refused ↦ inr (record {
        why = refused.why;
        refused = refused_over_cache (record {
          first = c.in-Ok.cached;
          last = c.answer_lines_late-exit.result.1;
          some = some c.args.in_memory.cache c.if-cache-eq0.false;
          empty = c.in-Ok.ensures.ok;
          done = refused.refused;
          given_back = c.into_inner.ensures;
        });
        told = refused.told;
      })
    ]

pub returns-then-cache-eq0-clause-served : goal.returns-then-cache-eq0-clause-served
returns-then-cache-eq0-clause-served g c =
    let all = rw (c.buffer_for-buffer.ensures, c.blocks-2.ensures) at c.answer_lines_late.ensures.served in
    elim all [
      | inl served ↦ inl (served_over_disk served)
      | inr refused ↦ inr (record { why = refused.why; refused = refused_over_disk refused.refused; told = refused.told })
    ]

pub returns-in-Err-clause-served : goal.returns-in-Err-clause-served
returns-in-Err-clause-served g c =
    let all = rw (c.in-Err.ensures.refused, c.buffer_for-buffer.ensures, c.blocks-2.ensures) at c.answer_lines_late-in-Err.ensures.served in
    elim all [
      | inl served ↦ inl (served_over_disk served)
      | inr refused ↦ inr (record { why = refused.why; refused = refused_over_disk refused.refused; told = refused.told })
    ]
