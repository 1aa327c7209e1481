use Rattle.vm_cli.specs.session.Streams.{IsStage}
use Rattle.vm_cli.proofs.StreamLemmas.{inside_taken, outside_taken}
use Rattle.vm_cli.proofs.session.batches.BatchSession.take.Goals as goal

pub returns-then-self : goal.returns-then-self
returns-then-self g c =
    let done = c.take_inside.ensures in
    record {
      manner = done.manner;
      store = done.store;
      count = done.count;
      taken = λ s stage part is holds.
          inside_taken c.args.store.now c.take_inside.new.store s c.args.self.now.manner c.use_of-used.result part (c.use_of-used.ensures.used part holds) (IsStage c.take_inside.new.self.batch) c.take_inside.result _ _
          c.args.self.now.batch c.if-self.true stage is (λ held inside. done.taken s held part inside holds);
    }

pub returns-else-self : goal.returns-else-self
returns-else-self g c =
    let done = c.take_outside.ensures in
    record {
      manner = done.manner;
      store = done.store;
      count = done.count;
      taken = λ s stage part is holds.
          outside_taken c.args.store.now c.take_outside.new.store s c.args.self.now.manner c.use_of-used.result part (c.use_of-used.ensures.used part holds) (IsStage c.take_outside.new.self.batch) c.take_outside.result _ _
          c.args.self.now.batch c.if-self.false stage is (λ outside. done.taken s part outside holds);
    }
