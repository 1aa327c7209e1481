use Rattle.std.proofs.Common.{◌∙◌, refl}
use Rattle.vm_cli.specs.program.RealFiles.NotesLacking.{lacking}
use Rattle.vm_cli.proofs.program.place.RealFilesPlace.lacks.Goals as goal

pub returns-clause-does : goal.returns-clause-does
returns-clause-does g c = lacking refl c.noted_bytes-name.result c.note.ensures (c.noted_bytes-name.ensures ∙ c.as_bytes.ensures.value)
