use Rattle.std.proofs.Common.{inl, refl, subst, sym}
use Rattle.vm_types.specs.State.{opened}
use Rattle.vm_store.specs.Growth.{Grows}
use Rattle.vm_store.specs.Shown.{new_store}
use Rattle.vm_store.specs.Store.{disk_of}
use Rattle.vm_cli.proofs.DiskUseLemmas.{may_end, served_whole, session_kept}
use Rattle.vm_cli.proofs.program.answer_lines.Goals as goal

pub returns-in-Ok-clause-served : goal.returns-in-Ok-clause-served
returns-in-Ok-clause-served g c =
    let old = g.D.Disk.state c.args.disk in
    let first = c.in-Ok.store in
    let last = c.serve_by-served.new.store in
    let given = c.close.ensures.disk in
    let goes = c.serve_by-served.ensures.goes in
    inl (record {
      first = first;
      last = last;
      served = c.serve_by-served.result;
      found = c.in-Ok.ensures.opened.goes;
      goes = subst (λ d. Grows ⊥ (g.D.Disk.state (disk_of first)) (g.D.Disk.state d)) (sym given) goes;
      well = c.in-Ok.ensures.opened.well;
      opens = c.in-Ok.ensures.opened.opens;
      serves = c.serve_by-served.ensures.answers;
      whole = λ s. served_whole first last s c.args.manner.grouping c.args.manner c.serve_by-served.result _ (c.serve_by-served.ensures.answers s);
      reads = c.serve_by-served.ensures.reads;
      ends = c.end_of.ensures;
      given_back = given;
      shown = c.close.ensures.shown;
      left = c.close.ensures.crash;
      kept = session_kept old first last c.in-Ok.ensures.opened.opens c.in-Ok.ensures.opened.moments c.in-Ok.ensures.opened.well goes
          c.args.manner c.serve_by-served.result _ c.serve_by-served.ensures.answers c.close.result given;
    })

pub returns-in-Ok-clause-ends : goal.returns-in-Ok-clause-ends
returns-in-Ok-clause-ends g c =
    let first = c.in-Ok.store in
    let last = c.serve_by-served.new.store in
    inl (refl, rw c.end_of.ensures (may_end first last (opened (new_store 64)) c.args.manner c.serve_by-served.result _ (c.serve_by-served.ensures.answers (opened (new_store 64)))))
