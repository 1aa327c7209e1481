use Rattle.std.proofs.Common.{◌≡◌, take}
use Rattle.plain_model.proofs.alternative.copy_tree.Given as goal

-- the alternatives so far are there
abbrev pub invariant-loop-alternative : goal.invariant-loop-alternative
invariant-loop-alternative l = l.copy.items ≡ take l.alternative-index l.tree
