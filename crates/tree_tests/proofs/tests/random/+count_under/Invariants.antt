use Rattle.tree_tests.proofs.tests.random.+count_under.Given as goal

abbrev pub decreases-count_under : goal.decreases-count_under
decreases-count_under l = l.level
