use Rattle.std.proofs.Common.{◌∙◌, [], refl, sym}
use Rattle.vm_cli.proofs.BatchLemmas.{losing_again, losing_first, none_of, some_of}
use Rattle.vm_cli.proofs.session.batch.Batch.lose.Goals as goal

pub returns-then-is_some-clause-held : goal.returns-then-is_some-clause-held
returns-then-is_some-clause-held c = λ held is. losing_again c.args.self.now.lost c.args.self.now.lines.items c.args.self.now.count c.args.self.now.bytes [] _ held is (some_of _ (sym c.is_some.ensures ∙ c.if-is_some.true))

pub returns-clause-held : goal.returns-clause-held
returns-clause-held c = λ held is. losing_first c.args.self.now.lost c.args.self.now.lines.items c.args.self.now.count c.args.self.now.bytes [] _ _ _ held is (none_of _ (sym c.is_some.ensures ∙ c.if-is_some.false)) refl
