use Rattle.std.proofs.Common.{inr}
use Rattle.altstore.proofs.image.load.Goals as goal

pub returns : goal.returns
returns c = inr (c.in_ok-disk_of_image.field-0.platter.blocks.items, c.in_ok-disk_of_image.ensures.holds, c.open_session.ensures)
