use Rattle.std.proofs.Common.{rules, subst, sym}
use Rattle.vm_disk.specs.Disk.{Contents}
use Rattle.vm_store.specs.Recovery.{AreRead}
use Rattle.vm_store.specs.Shown.{Shows}
use Rattle.vm_store.proofs.OpeningLemmas.{refused_none}
use Rattle.vm_store.proofs.store.recovery.open_by.Goals as goal

pub returns-in-Ok-clause-opened : goal.returns-in-Ok-clause-opened
returns-in-Ok-clause-opened g c inner honest =
    let same = (c.in-Ok.ensures.synced honest (λ e. cc)).same in
    record {
      read = subst (λ (x : Contents). AreRead x c.in-Ok.parts) same (c.in-Ok.ensures.read inner honest);
      stands = λ seen shown.
          let stands = c.in-Ok.ensures.holds honest seen (subst (λ (x : Contents). Shows x seen) (sym same) shown) in
          record { holds = stands.holds; free = stands.free };
    }

pub returns-in-Ok-clause-whole : goal.returns-in-Ok-clause-whole
returns-in-Ok-clause-whole g c whole honest =
    let same = (c.in-Ok.ensures.synced honest (λ e. cc)).same in
    let shows = c.in-Ok.ensures.whole whole honest in
    let stands = c.in-Ok.ensures.holds honest shows.0 shows.1 in
    record {
      seen = shows.0;
      shown = subst (λ (x : Contents). Shows x shows.0) same shows.1;
      stands = record { holds = stands.holds; free = stands.free };
    }

pub returns-in-Err-clause-opening : goal.returns-in-Err-clause-opening
returns-in-Err-clause-opening g c = record {
  any = search rules;
  well = tt;
  refused = λ honest. c.in-Err.ensures.refused honest;
  none = λ honest no_device no_memory. refused_none _ c.in-Err.refusal (c.in-Err.ensures.refused honest) no_device no_memory;
  moments = c.in-Err.ensures.moments;
  synced = search rules;
}
