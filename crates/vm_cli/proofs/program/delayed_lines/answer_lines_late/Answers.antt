use Rattle.std.proofs.Common.{inl, inr}
use Rattle.vm_cli.specs.program.DelayedLines.IsRefusedLate.{refused_itself, refused_late}
use Rattle.vm_cli.specs.program.DelayedLines.IsServedLate.{served_itself, served_late}
use Rattle.vm_cli.proofs.DelayingLemmas.{some}
use Rattle.vm_cli.proofs.program.delayed_lines.answer_lines_late.Goals as goal

pub returns-in-Ok-clause-served : goal.returns-in-Ok-clause-served
returns-in-Ok-clause-served g c = elim c.answer_lines-exit.ensures.served [
  | inl served ↦ inl (served_late (record {
    first = c.in-Ok.late;
    last = c.answer_lines-exit.result.1;
    some = some c.args.buffer c.if-buffer-eq0.false;
    idle = c.in-Ok.ensures.ok;
    done = served;
    given_back = c.into_inner.ensures.inner;
    follows = c.into_inner.ensures.below;
  }))
  | inr refused ↦ inr (record {
    why = refused.why;
    refused = refused_late (record {
      first = c.in-Ok.late;
      last = c.answer_lines-exit.result.1;
      some = some c.args.buffer c.if-buffer-eq0.false;
      idle = c.in-Ok.ensures.ok;
      done = refused.refused;
      given_back = c.into_inner.ensures.inner;
      follows = c.into_inner.ensures.below;
    });
    told = refused.told;
  })
]

pub returns-then-buffer-eq0-clause-served : goal.returns-then-buffer-eq0-clause-served
returns-then-buffer-eq0-clause-served g c = elim c.answer_lines.ensures.served [
  | inl served ↦ inl (served_itself served)
  | inr refused ↦ inr (record { why = refused.why; refused = refused_itself refused.refused; told = refused.told })
]

pub returns-in-Err-clause-served : goal.returns-in-Err-clause-served
returns-in-Err-clause-served g c =
    let all = rw c.in-Err.ensures.refused at c.answer_lines-in-Err.ensures.served in
    elim all [
      | inl served ↦ inl (served_itself served)
      | inr refused ↦ inr (record { why = refused.why; refused = refused_itself refused.refused; told = refused.told })
    ]
