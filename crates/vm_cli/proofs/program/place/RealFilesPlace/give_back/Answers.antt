use Rattle.std.proofs.Common.{◌∙◌}
use Rattle.vm_cli.proofs.RealFilesLemmas.{stays_given, takes_back}
use Rattle.vm_cli.proofs.program.place.RealFilesPlace.give_back.Goals as goal

pub returns-clause-honest : goal.returns-clause-honest
returns-clause-honest g c honest =
    takes_back g.W.World.held g.W.World.torn c.args.file.now _ _ c.args.disk _ _ c.of.ensures (c.noted_bytes-name.ensures ∙ c.as_bytes.ensures.value) c.note.ensures honest

pub returns-clause-does : goal.returns-clause-does
returns-clause-does g c = record {
  notes = record { given = c.noted_bytes-name.result; kept = c.of.result; last = c.note.ensures; named = c.noted_bytes-name.ensures ∙ c.as_bytes.ensures.value; is = c.of.ensures };
  stays = λ named kept was. stays_given g.W.World.held g.W.World.torn c.args.file.now _ _ c.args.disk _ _ c.of.ensures (c.noted_bytes-name.ensures ∙ c.as_bytes.ensures.value) c.note.ensures named kept was;
}
