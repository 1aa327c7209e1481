use Rattle.std.proofs.Common.{refl}
use Rattle.vm_cli.specs.session.Rounds.Round.{undone}
use Rattle.vm_cli.proofs.session.carrying.undo.Goals as goal

pub returns-in-Ok : goal.returns-in-Ok
returns-in-Ok g c = λ batch. (undone batch c.in-Ok.field-0, (c.in-Ok.field-0, record { refused = c.in-Ok.ensures.refused; done = c.in-Ok.ensures.done }, refl))
