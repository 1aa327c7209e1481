use Rattle.std.proofs.Common.{◌∙◌}
use Rattle.vm_cli.proofs.program.tree_lines.survey.Goals as goal

pub returns-clause-refused : goal.returns-clause-refused
returns-clause-refused g c honest sound s holds = c.survey_listed.ensures.refused honest sound s holds (c.deref.ensures.value ∙ c.in_ok-listed.ensures.value sound s holds)

pub returns-clause-drawn : goal.returns-clause-drawn
returns-clause-drawn g c honest sound s holds = c.survey_listed.ensures.drawn honest sound s holds (c.deref.ensures.value ∙ c.in_ok-listed.ensures.value sound s holds)
