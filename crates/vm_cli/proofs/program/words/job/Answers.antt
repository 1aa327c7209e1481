use Rattle.std.proofs.Common.{◌≡◌, ◌∙◌, Option, Some, None, Result, [], map, ap, subst, sym}
use Rattle.std.specs.String.{string_bytes}
use Rattle.clap.specs.Words.{App, FailsBy, HasKind, fault_of, is_simple, subcommand_of, subcommand_rows_of}
use Rattle.clap.specs.Faults.{is_simple_and_free}
use Rattle.clap.specs.declared.error.Error.{Error}
use Rattle.vm_cli.specs.program.Words.{Wanted, altctl, asked_of, wanted_of}
use Rattle.vm_cli.specs.declared.program.task.Job.{Job}
use Rattle.vm_cli.proofs.Asked.{asks}
use Rattle.vm_cli.proofs.Matches.{passed_on}
use Rattle.vm_cli.proofs.program.words.job.Goals as goal

pub unreachable-requires : goal.unreachable-requires
unreachable-requires c =
    let words = map string_bytes c.args.words.now in
    let is : ◌≡◌ {A = App} _ altctl = c.in_ok-command.ensures in
    let clean : fault_of altctl words ≡ [] = subst (λ (a : App). fault_of a words ≡ []) is (c.in_ok-matches.ensures.kinds (ap is_simple_and_free is)) in
    let rows : subcommand_rows_of c.in_ok-matches.matches ≡ subcommand_of altctl words =
    (c.in_ok-matches.ensures.matches (ap is_simple is)).1 ∙ ap (λ (a : App). subcommand_of a words) is in
    let job = asks words clean in
    let none = rw c.in-None.is at c.in_ok-job.ensures in
    let bad : ◌≡◌ {A = Option Wanted} None (Some job.0) = none ∙ (ap asked_of rows ∙ job.1) in
    cc

pub returns-clause-faults : goal.returns-clause-faults
returns-clause-faults c =
    let is : ◌≡◌ {A = App} _ altctl = c.in_ok-command.ensures in
    subst (λ (a : App). fault_of a (map string_bytes c.args.words.now) ≡ []) is (c.in_ok-matches.ensures.kinds (ap is_simple_and_free is))

pub returns-in_err-matches-clause-faults : goal.returns-in_err-matches-clause-faults
returns-in_err-matches-clause-faults c =
    let words = map string_bytes c.args.words.now in
    let is : ◌≡◌ {A = App} _ altctl = c.in_ok-command.ensures in
    let fails : HasKind (fault_of altctl words) c.in_err-matches.field-0.0 = subst (λ (a : App). HasKind (fault_of a words) c.in_err-matches.field-0.0) is (c.in_err-matches.ensures.kinds (ap is_simple_and_free is)) in
    subst (λ (r : Result Job Error). FailsBy (fault_of altctl words) r) (sym (passed_on _ c.from_residual-in_err-matches.ensures.1)) fails

pub returns-clause-ok : goal.returns-clause-ok
returns-clause-ok c =
    let words = map string_bytes c.args.words.now in
    let is : ◌≡◌ {A = App} _ altctl = c.in_ok-command.ensures in
    let rows : subcommand_rows_of c.in_ok-matches.matches ≡ subcommand_of altctl words =
    (c.in_ok-matches.ensures.matches (ap is_simple is)).1 ∙ ap (λ (a : App). subcommand_of a words) is in
    let asked : Some (wanted_of c.in-Some.job) ≡ asked_of (subcommand_rows_of c.in_ok-matches.matches) = rw c.in-Some.is at c.in_ok-job.ensures in
    sym (asked ∙ ap asked_of rows)
