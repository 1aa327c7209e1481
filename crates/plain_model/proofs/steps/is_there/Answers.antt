use Rattle.std.proofs.Common.{◌∙◌}
use Rattle.std.specs.Prelude.{bytes_eq}
use Rattle.vm_types.specs.Tree.{Alternative}
use Rattle.plain_model.proofs.Finding.{is_some-place}
use Rattle.plain_model.proofs.steps.is_there.Goals as goal

pub returns : goal.returns
returns c = c.is_some.ensures ∙ is_some-place (λ (a : Alternative). bytes_eq a.name c.args.name.now) c.args.tree.now c.position_of.result c.position_of.ensures.found c.position_of.ensures.none
