use Rattle.vm_tree.proofs.removal.+narrowed.Given as goal

abbrev pub decreases-narrowed : goal.decreases-narrowed
decreases-narrowed g l = l.level
