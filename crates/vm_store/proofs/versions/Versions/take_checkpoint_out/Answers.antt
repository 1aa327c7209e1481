use Rattle.std.proofs.Common.{sym}
use Rattle.vm_store.specs.Versions.{is_checkpoint_of}
use Rattle.vm_types.proofs.FirstsLemmas.{without_first-none}
use Rattle.vm_store.proofs.versions.Versions.take_checkpoint_out.Goals as goal

pub returns-in_default : goal.returns-in_default
returns-in_default c =
    rw (← c.self.view_is, ← c.deref.ensures.value) (sym (without_first-none (is_checkpoint_of c.args.alt.now c.args.name.now) _ c.in_default.ensures.none))
