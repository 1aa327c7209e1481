use Rattle.std.proofs.Common.{arith}
use Rattle.vm_disk.proofs.MomentLemmas.{reads_then}
use Rattle.vm_tree.proofs.Looking.{passed_on}
use Rattle.vm_store.specs.Sizes.{sizes}
use Rattle.vm_store.proofs.Listing.{list_refused}
use Rattle.vm_store.proofs.SidesLemmas.{rooted_after}
use Rattle.vm_store.proofs.sides.read_sides.Goals as goal

pub returns-in_err-theirs-clause-sides : goal.returns-in_err-theirs-clause-sides
returns-in_err-theirs-clause-sides g c honest base parent own bs ps os first second third =
    rw (passed_on _ c.from_residual.ensures.1)
    (list_refused c.in_err-theirs.field-0.0 _ ⊥ (c.in_err-theirs.ensures.changes honest sizes base parent bs ps first second))

pub returns-clause-reads : goal.returns-clause-reads
returns-clause-reads g c honest =
    reads_then _ _ _ (c.in_ok-theirs.ensures.looks.reads (c.in_ok-mine.ensures.looks.goes.earlier honest)) (c.in_ok-mine.ensures.looks.reads honest)

pub returns-clause-sides : goal.returns-clause-sides
returns-clause-sides g c honest base parent own bs ps os first second third = (
  c.in_ok-theirs.ensures.changes (c.in_ok-mine.ensures.looks.goes.earlier honest) sizes base parent bs ps first second,
  c.in_ok-mine.ensures.changes honest sizes base own bs os
      (rooted_after _ _ _ _ _ _ (c.in_ok-theirs.ensures.looks.reads (c.in_ok-mine.ensures.looks.goes.earlier honest)) first) (rooted_after _ _ _ _ _ _ (c.in_ok-theirs.ensures.looks.reads (c.in_ok-mine.ensures.looks.goes.earlier honest)) third),
)

pub returns-in_err-mine-clause-reads : goal.returns-in_err-mine-clause-reads
returns-in_err-mine-clause-reads g c honest =
    reads_then _ _ _ (c.in_ok-theirs.ensures.looks.reads (c.in_err-mine.ensures.looks.goes.earlier honest)) (c.in_err-mine.ensures.looks.reads honest)

pub returns-in_err-mine-clause-sides : goal.returns-in_err-mine-clause-sides
returns-in_err-mine-clause-sides g c honest base parent own bs ps os first second third =
    rw (passed_on _ c.from_residual-in_err-mine.ensures.1)
    (list_refused c.in_err-mine.field-0.0 _ ⊥
    (c.in_err-mine.ensures.changes honest sizes base own bs os
    (rooted_after _ _ _ _ _ _ (c.in_ok-theirs.ensures.looks.reads (c.in_err-mine.ensures.looks.goes.earlier honest)) first) (rooted_after _ _ _ _ _ _ (c.in_ok-theirs.ensures.looks.reads (c.in_err-mine.ensures.looks.goes.earlier honest)) third)))

pub returns-clause-bound : goal.returns-clause-bound
returns-clause-bound g c honest base parent own bs ps os first second third =
    omega (
      arith,
      c.in_ok-theirs.ensures.bound (c.in_ok-mine.ensures.looks.goes.earlier honest) sizes base parent bs ps first second,
      c.in_ok-mine.ensures.bound honest sizes base own bs os
          (rooted_after _ _ _ _ _ _ (c.in_ok-theirs.ensures.looks.reads (c.in_ok-mine.ensures.looks.goes.earlier honest)) first) (rooted_after _ _ _ _ _ _ (c.in_ok-theirs.ensures.looks.reads (c.in_ok-mine.ensures.looks.goes.earlier honest)) third),
    )

pub returns-in_err-mine-clause-bound : goal.returns-in_err-mine-clause-bound
returns-in_err-mine-clause-bound g c honest base parent own bs ps os first second third =
    omega (
      arith,
      c.in_ok-theirs.ensures.bound (c.in_err-mine.ensures.looks.goes.earlier honest) sizes base parent bs ps first second,
      c.in_err-mine.ensures.bound honest sizes base own bs os
          (rooted_after _ _ _ _ _ _ (c.in_ok-theirs.ensures.looks.reads (c.in_err-mine.ensures.looks.goes.earlier honest)) first) (rooted_after _ _ _ _ _ _ (c.in_ok-theirs.ensures.looks.reads (c.in_err-mine.ensures.looks.goes.earlier honest)) third),
    )

pub returns-in_err-theirs-clause-bound : goal.returns-in_err-theirs-clause-bound
returns-in_err-theirs-clause-bound g c honest base parent own bs ps os first second third =
    omega (arith, c.in_err-theirs.ensures.bound honest sizes base parent bs ps first second)
