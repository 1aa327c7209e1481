use Rattle.std.proofs.Common.{inr, arith}
use Rattle.std.proofs.lemmas.Grind.{common_steps}
use Rattle.plain_model.proofs.plain.Plain.list.Goals as goal

pub returns-in-None-clause-records : goal.returns-in-None-clause-records
returns-in-None-clause-records c = inr (grind (arith, common_steps))
