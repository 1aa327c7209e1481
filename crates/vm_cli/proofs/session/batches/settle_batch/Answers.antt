use Rattle.std.proofs.Common.{subst, sym}
use Rattle.vm_cli.specs.session.Streams.{HoldsLines}
use Rattle.vm_cli.proofs.SettleLemmas.{settles_held, settles_lost}
use Rattle.vm_cli.proofs.session.batches.settle_batch.Goals as goal

pub returns-in-Some-clause-settled : goal.returns-in-Some-clause-settled
returns-in-Some-clause-settled g c = λ s held is.
    settles_lost c.args.store.now s c.args.manner c.args.batch.now.lost c.args.batch.now.lines.items c.args.batch.now.count c.args.batch.now.bytes c.in-Some.lost c.in-Some.is held is

pub returns-in-None-clause-settled : goal.returns-in-None-clause-settled
returns-in-None-clause-settled g c = λ s held is.
    settles_held c.args.store.now c.settle_lines.new.store s c.args.manner c.args.batch.now.lost c.args.batch.now.lines.items c.args.batch.now.count c.args.batch.now.bytes c.in-None.is _ (λ parts lines. c.settle_lines.ensures.settled s parts (subst (λ ls. HoldsLines ls parts) (sym c.as_slice.ensures.value) lines)) held is
