use Rattle.std.proofs.Common.{◌≡◌, ◌∙◌, Option, Result, [], map, ap, subst, sym}
use Rattle.std.specs.String.{string_bytes}
use Rattle.clap.specs.Words.{App, FailsBy, HasKind, fault_of, is_simple, subcommand_of, subcommand_rows_of}
use Rattle.clap.specs.Faults.{is_simple_and_free}
use Rattle.clap.specs.declared.error.Error.{Error}
use Rattle.vm_cli.specs.program.Locks.{lock_of}
use Rattle.vm_cli.specs.program.Words.{altctl}
use Rattle.vm_cli.specs.declared.program.file_lock.LockWanted.{LockWanted}
use Rattle.vm_cli.proofs.Matches.{passed_on}
use Rattle.vm_cli.proofs.program.words.lock_wanted.Goals as goal

pub returns-clause-faults : goal.returns-clause-faults
returns-clause-faults c =
    let is : ◌≡◌ {A = App} _ altctl = c.in_ok-command.ensures in
    subst (λ (a : App). fault_of a (map string_bytes c.args.words.now) ≡ []) is (c.in_ok-matches.ensures.kinds (ap is_simple_and_free is))

pub returns-in_err-matches-clause-faults : goal.returns-in_err-matches-clause-faults
returns-in_err-matches-clause-faults c =
    let words = map string_bytes c.args.words.now in
    let is : ◌≡◌ {A = App} _ altctl = c.in_ok-command.ensures in
    let fails : HasKind (fault_of altctl words) c.in_err-matches.field-0.0 = subst (λ (a : App). HasKind (fault_of a words) c.in_err-matches.field-0.0) is (c.in_err-matches.ensures.kinds (ap is_simple_and_free is)) in
    subst (λ (r : Result (Option LockWanted) Error). FailsBy (fault_of altctl words) r) (sym (passed_on _ c.from_residual-in_err-matches.ensures.1)) fails

pub returns-clause-ok : goal.returns-clause-ok
returns-clause-ok c =
    let words = map string_bytes c.args.words.now in
    let is : ◌≡◌ {A = App} _ altctl = c.in_ok-command.ensures in
    let rows : subcommand_rows_of c.in_ok-matches.matches ≡ subcommand_of altctl words =
    (c.in_ok-matches.ensures.matches (ap is_simple is)).1 ∙ ap (λ (a : App). subcommand_of a words) is in
    c.lock_asked.ensures ∙ ap lock_of rows
