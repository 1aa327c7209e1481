use Rattle.std.proofs.Common.{append_assoc, refl}
use Rattle.vm_cli.proofs.answers.mistakes.push_mistake.Goals as goal

pub returns-in-Takes-clause-written : goal.returns-in-Takes-clause-written
returns-in-Takes-clause-written c =
    rw (c.in-Takes.is, c.push_bytes-in-Takes-2.ensures, c.form_text.ensures.text, c.push_bytes-in-Takes.ensures, append_assoc) refl
