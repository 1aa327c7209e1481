use Rattle.std.proofs.Common.{List, ap, ◌∙◌}
use Rattle.std.proofs.lemmas.Result.{IfOk-at_ok}
use Rattle.vm_types.specs.declared.key.Key.{Key}
use Rattle.vm_types.specs.declared.command.Side.{Side}
use Rattle.vm_types.specs.Map.{side_of}
use Rattle.vm_types.proofs.MergingLemmas.{side_of-entries}
use Rattle.vm_types.proofs.settlements.by_rising_keys.Goals as goal

pub returns-in-Ok : goal.returns-in-Ok
returns-in-Ok c = λ key.
    let found = IfOk-at_ok _ c.in-Ok-Ok.field-0-is c.in-Ok-Ok.ensures.sides in
    ap (λ (sides : List (Key × Side)). side_of sides key) c.in-Ok.ensures ∙ side_of-entries _ key ∙ found.1 key
