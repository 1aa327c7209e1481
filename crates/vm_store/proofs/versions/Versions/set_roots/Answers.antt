use Rattle.std.proofs.Common.{sym}
use Rattle.vm_types.proofs.FirstsLemmas.{change_first-none}
use Rattle.vm_store.specs.Versions.{is_alternative_of, with_tops}
use Rattle.vm_store.proofs.FoundLemmas.{changed_at}
use Rattle.vm_store.proofs.versions.Versions.set_roots.Goals as goal

pub returns-in-Some : goal.returns-in-Some
returns-in-Some c =
    rw (← c.self.view_is) (changed_at (is_alternative_of c.args.alt.now) (with_tops c.args.current c.args.base) _ _ c.in-Some.i c.index.result.now (sym c.self.view_is) c.in-Some.ensures.found c.index.ensures)

pub returns-in_default : goal.returns-in_default
returns-in_default c =
    sym (change_first-none (is_alternative_of c.args.alt.now) (with_tops c.args.current c.args.base) _ c.in_default.ensures.none)
