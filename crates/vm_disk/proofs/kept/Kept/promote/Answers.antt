use Rattle.std.proofs.Common.{sym, ◌∙◌}
use Rattle.vm_disk.proofs.KeptLemmas.{on_true, on_false, promoted_keeps, promoted_first, promoted_lookup, promoted_same}
use Rattle.vm_disk.proofs.kept.Kept.promote.Goals as goal

pub returns-clause-answer : goal.returns-clause-answer
returns-clause-answer c = promoted_keeps (λ room. room.value) c.args.n c.args.self.now.rooms c.promote.new.self c.promote.result c.promote.ensures.entries c.promote.ensures.value

pub returns-clause-first : goal.returns-clause-first
returns-clause-first c = on_true c.promote.result (λ yes. promoted_first (λ room. room.value) c.args.n c.args.self.now.rooms c.promote.new.self c.promote.ensures.entries (sym c.promote.ensures.value ∙ yes))

pub returns-clause-found : goal.returns-clause-found
returns-clause-found c = on_true c.promote.result (λ yes. promoted_lookup (λ room. room.value) c.args.n c.args.self.now.rooms c.promote.new.self c.promote.ensures.entries (sym c.promote.ensures.value ∙ yes))

pub returns-clause-missed : goal.returns-clause-missed
returns-clause-missed c = on_false c.promote.result (λ no. promoted_same (λ room. room.value) c.args.n c.args.self.now.rooms c.promote.new.self c.promote.ensures.entries (sym c.promote.ensures.value ∙ no))
