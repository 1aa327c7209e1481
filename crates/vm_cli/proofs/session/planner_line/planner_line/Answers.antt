use Rattle.std.proofs.Common.{◌≡◌, rules}
use Rattle.vm_cli.specs.session.PlannerLines.{saying, saying_of}
use Rattle.vm_cli.proofs.PlannerLineLemmas.{says_part}
use Rattle.vm_cli.proofs.session.planner_line.planner_line.Goals as goal

pub returns-in-Some-said-clause-part : goal.returns-in-Some-said-clause-part
returns-in-Some-said-clause-part c =
    let said : saying c.in-Some-said.said ≡ saying_of c.args.line.now = search rules in
    λ part. rw said (says_part c.args.line.now part)
