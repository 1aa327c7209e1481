use Rattle.std.proofs.Common.{◌≡◌, ◌∙◌, Some, None, codes, refl, sym}
use Rattle.clap.specs.Words.{first_of, found_of, rows_of}
use Rattle.clap.proofs.WalkLemmas.{first_value-rows}
use Rattle.vm_cli.proofs.program.words.asked_copy.Goals as goal

pub returns-in_err-to : goal.returns-in_err-to
returns-in_err-to c =
    let found = found_of c.args.matches.now in
    let given = rw c.in_err-to.was at c.get_str.ensures in
    let none : first_of (codes "to") (rows_of found) ≡ None = sym (first_value-rows found (codes "to")) ∙ sym given in
    rw (c.from_residual.ensures, none) refl

pub returns : goal.returns
returns c =
    let found = found_of c.args.matches.now in
    let given = rw c.in_ok-to.was at c.get_str.ensures in
    let to : first_of (codes "to") (rows_of found) ≡ Some c.in_ok-to.to.now = sym (first_value-rows found (codes "to")) ∙ sym given in
    rw (to, c.number_of-blocks.ensures) refl
