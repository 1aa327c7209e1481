use Rattle.std.proofs.Common.{rules, refl, ◌∙◌}
use Rattle.vm_disk.proofs.MomentLemmas.{started}
use Rattle.vm_tree.proofs.Looking.{passed_on}
use Rattle.vm_store.proofs.CarryLemmas.{looked}
use Rattle.vm_store.proofs.PartsLemmas.{same_parts}
use Rattle.vm_store.proofs.PerformLemmas.{performs_entries}
use Rattle.vm_store.proofs.SeriesLemmas.{holds_alone, holds_as}
use Rattle.vm_store.proofs.VersionLemmas.{turned_answers, turned_kept, turned_rests}
use Rattle.vm_store.proofs.store.Store.change_entries.Goals as goal

pub returns : goal.returns
returns g c =
    let command = c.args.command.now in
    performs_entries _ _ _ command c.requires
    (λ honest s holds. looked _ _ s holds command _ (turned_answers c.args.self.now (record c.args.self.now { parts = record c.args.self.now.parts { working = c.change_by.new.self } }) s holds _ command c.requires c.in_ok-answer.ensures) (started _ _ refl) holds.rests
    (λ _. holds_alone (holds.keeps ∙ turned_kept s command c.requires) (turned_rests _ _ _ _ _ _ s holds.rests command _ _ c.requires c.in_ok-answer.ensures)))
    (search rules, search rules, search rules) tt tt refl refl

pub returns-in_err-answer : goal.returns-in_err-answer
returns-in_err-answer g c =
    let command = c.args.command.now in
    let kept = c.in_err-answer.ensures.kept in
    rw (passed_on _ c.from_residual.ensures.1)
    (performs_entries _ _ _ command c.requires
    (λ honest s holds. looked _ _ s holds command _ (turned_answers c.args.self.now (record c.args.self.now { parts = record c.args.self.now.parts { working = c.change_by.new.self } }) s holds _ command c.requires c.in_err-answer.ensures) (started _ _ refl) holds.rests (λ _. holds_as refl kept holds))
    (search rules, search rules, search rules) (search rules) (λ early. record { alloc = refl; parts = same_parts _ _ refl refl refl refl refl kept refl refl refl refl refl refl; failed = refl }) refl refl)
