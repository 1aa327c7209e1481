use Rattle.std.proofs.Common.{◌∙◌, ap}
use Rattle.vm_types.specs.State.{opened}
use Rattle.vm_store.specs.Shown.{new_store}
use Rattle.vm_cli.proofs.KindLemmas.{stream_is_whole, stream_passes}
use Rattle.vm_cli.proofs.SoundLemmas.{batches_sound}
use Rattle.vm_cli.proofs.session.batches.serve_batches.Goals as goal

pub returns-clause-reads : goal.returns-clause-reads
returns-clause-reads g c refuses = stream_passes batches_sound c.new-session.result.manner (ap (λ m. m.on_command) c.new-session.ensures.manner ∙ refuses) c.args.store.now c.run.new.store (opened (new_store 64)) c.run.result _ (c.run.ensures.answers (opened (new_store 64)))

pub returns-clause-whole : goal.returns-clause-whole
returns-clause-whole g c = λ s serves. stream_is_whole batches_sound c.args.manner c.args.store.now c.run.new.store s c.run.result _ serves
