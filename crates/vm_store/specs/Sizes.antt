-- How large trees are.
use Rattle.vm_store.specs.declared.TheConstants.{FAN, LEVELS}
use Rattle.vm_tree.specs.Tree.{Sizes}

-- inner blocks of FAN children, and LEVELS levels
abbrev pub sizes : Sizes
sizes = record { fan = FAN; levels = LEVELS }
