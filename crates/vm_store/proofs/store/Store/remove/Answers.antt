use Rattle.std.proofs.Common.{rules, inl, refl, sym}
use Rattle.vm_types.specs.declared.command.Command.TheVariants.{Remove}
use Rattle.vm_disk.proofs.MomentLemmas.{started}
use Rattle.vm_store.proofs.CarryLemmas.{stayed}
use Rattle.vm_store.proofs.PerformLemmas.{performs_remove}
use Rattle.vm_store.proofs.Removing.{removes_absent}
use Rattle.vm_store.proofs.RestingLemmas.{value_absent}
use Rattle.vm_store.proofs.store.Store.remove.Goals as goal

pub returns-in_default : goal.returns-in_default
returns-in_default g c =
    performs_remove _ _ _ _ _
    (λ honest s holds. stayed _ s holds (Remove c.args.alt.now c.args.key) _ (removes_absent s c.args.alt.now c.args.key _ _ (value_absent _ _ _ _ _ _ s holds.rests c.args.alt.now c.args.key (sym c.in_default.ensures))))
    (λ honest first. started _ _ refl) (search rules) (search rules) (search rules) (search rules) (search rules) refl (search rules)

pub returns-then-has_free : goal.returns-then-has_free
returns-then-has_free g c =
    let e = c.remove_in_series.ensures in
    performs_remove _ _ _ _ _ (λ honest s holds. e.carried honest s holds (inl refl)) e.reads e.free (search rules) (search rules) e.any (search rules) e.same e.unchanged

pub returns : goal.returns
returns g c =
    let e = c.remove_after_look.ensures in
    performs_remove _ _ _ _ _ e.carried e.reads e.free e.marked e.once e.any e.never e.same e.unchanged
