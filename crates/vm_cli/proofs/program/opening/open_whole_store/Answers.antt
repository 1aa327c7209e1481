use Rattle.std.proofs.Common.{inl, inr, arith, sym, ◌∙◌}
use Rattle.vm_disk.proofs.MomentLemmas.{then_reads}
use Rattle.vm_cli.proofs.OpeningLemmas.{earlier_kept, reason_kept}
use Rattle.vm_cli.proofs.PassLemmas.{goes_any}
use Rattle.vm_cli.proofs.program.opening.open_whole_store.Goals as goal

pub returns-in-Ok : goal.returns-in-Ok
returns-in-Ok g c = record {
  opened = record {
    goes = goes_any _ _ _ c.in-Ok.ensures.opening.any;
    well = c.in-Ok.ensures.opening.well;
    opens = c.in-Ok.ensures.opened;
    synced = λ honest. c.in-Ok.ensures.opening.synced honest (λ e. e);
    moments = c.in-Ok.ensures.opening.moments;
  };
  refused = tt;
}

pub returns-in-Err : goal.returns-in-Err
returns-in-Err g c =
    let first = c.in-Err.ensures.opening.any in
    let then = c.why_refused-why.ensures.any in
    let only = c.why_refused-why.ensures.only in
    record {
      opened = tt;
      refused = record {
        goes = record {
          same_blocks = then.same_blocks ∙ first.same_blocks;
          earlier = λ honest. first.earlier (then.earlier honest);
          rising = omega (arith, first.rising, then.rising);
          fault = λ is. elim only [
            | inl same ↦ omega (arith, first.fault (sym same ∙ is), then.rising)
            | inr failed ↦ omega (arith, first.rising, then.fault failed)
          ];
        };
        why = λ honest. reason_kept _ c.in-Err.refusal c.why_refused-why.result only (c.in-Err.ensures.opening.refused (then.earlier honest));
        earlier = λ honest. earlier_kept _ _ c.in-Err.refusal c.why_refused-why.result only (c.in-Err.ensures.opening.synced (then.earlier honest)) (c.why_refused-why.ensures.told honest);
        moments = λ honest. then_reads _ _ _ _ (c.in-Err.ensures.opening.moments (then.earlier honest)) (c.why_refused-why.ensures.reads honest);
      };
    }
