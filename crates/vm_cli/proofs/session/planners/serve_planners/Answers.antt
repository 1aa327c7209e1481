use Rattle.std.proofs.Common.{◌∙◌, ap}
use Rattle.vm_types.specs.State.{opened}
use Rattle.vm_store.specs.Shown.{new_store}
use Rattle.vm_cli.specs.session.Planners.{telling}
use Rattle.vm_cli.proofs.KindLemmas.{stream_is_whole, stream_passes}
use Rattle.vm_cli.proofs.FairnessLemmas.{stream_once}
use Rattle.vm_cli.proofs.PlannerSoundLemmas.{planners_sound}
use Rattle.vm_cli.proofs.session.planners.serve_planners.Goals as goal

pub returns-clause-reads : goal.returns-clause-reads
returns-clause-reads g c refuses = stream_passes planners_sound c.new-3.result.manner (ap (λ m. m.on_command) c.new-3.ensures.manner ∙ refuses) c.args.store.now c.run.new.store (opened (new_store 64)) c.run.result _ (c.run.ensures.answers (opened (new_store 64)))

pub returns-clause-whole : goal.returns-clause-whole
returns-clause-whole g c = λ s serves. stream_is_whole planners_sound (telling c.args.manner) c.args.store.now c.run.new.store s c.run.result _ serves

pub returns-clause-fair : goal.returns-clause-fair
returns-clause-fair g c = λ s serves. stream_once c.args.store.now c.run.new.store s (telling c.args.manner) c.run.result _ serves
