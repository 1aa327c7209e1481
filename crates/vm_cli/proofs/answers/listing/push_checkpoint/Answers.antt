use Rattle.std.proofs.Common.{append_assoc, refl}
use Rattle.vm_cli.proofs.answers.listing.push_checkpoint.Goals as goal

pub returns : goal.returns
returns c = rw (c.push.ensures, c.push_bytes-2.ensures, c.push_bytes.ensures, c.as_bytes.ensures.bytes, append_assoc, append_assoc) refl
