use Rattle.vm_cli.proofs.program.damage.unopened_whole.Goals as goal

pub returns-in-Some : goal.returns-in-Some
returns-in-Some g c = rw c.in-Some.is c.unopened_with.ensures

pub returns-in-None : goal.returns-in-None
returns-in-None g c = rw c.in-None.is c.unopened.ensures
