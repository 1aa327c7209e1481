use Rattle.std.proofs.Common.{◌≡◌, take}
use Rattle.vm_types.specs.Shape.{shape}
use Rattle.plain_model.proofs.alternative.tree_labels.Given as goal

-- the labels so far are there
abbrev pub invariant-loop-alternative : goal.invariant-loop-alternative
invariant-loop-alternative l = l.labels.items ≡ shape (take l.alternative-index l.tree)
