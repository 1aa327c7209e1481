use Rattle.std.proofs.Common.{inr, arith}
use Rattle.std.proofs.lemmas.Grind.{common_steps}
use Rattle.plain_model.proofs.plain.Plain.checkpoints.Goals as goal

pub returns-in-None-clause-names : goal.returns-in-None-clause-names
returns-in-None-clause-names c = inr (grind (arith, common_steps))
