use Rattle.vm_cli.proofs.session.growth.+carry_out.Given as goal

abbrev pub decreases-carry_out : goal.decreases-carry_out
decreases-carry_out g l = l.growths
