use Rattle.std.proofs.Common.{refl}
use Rattle.vm_cli.specs.answers.Replies.{reply_text}
use Rattle.vm_cli.proofs.SeatLemmas.{seats_told}
use Rattle.vm_cli.proofs.session.planners.PlannersSession.tell.Goals as goal

pub returns : goal.returns
returns g c = seats_told _ _ _ _ _ c.args.number (reply_text c.args.reply) c.tell.ensures.same refl refl c.tell.ensures.said
