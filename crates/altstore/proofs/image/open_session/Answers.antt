use Rattle.std.proofs.Common.{refl}
use Rattle.altstore.proofs.image.open_session.Goals as goal

pub returns : goal.returns
returns c = (rw c.in-Err.is at (c.open.ensures.opening.refused refl), rw c.in-Err.is at (c.open.ensures.opening.none refl))
