use Rattle.std.proofs.Common.{append_assoc, refl}
use Rattle.vm_cli.proofs.answers.reply.Reply.push_onto.Goals as goal

pub returns-in-BadLine : goal.returns-in-BadLine
returns-in-BadLine c =
    rw (c.in-BadLine.is, c.push-in-BadLine.ensures, c.push_mistake.ensures.written, c.push_bytes-in-BadLine.ensures, append_assoc, append_assoc) refl
