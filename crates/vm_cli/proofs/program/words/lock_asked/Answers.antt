use Rattle.std.proofs.Common.{◌≡◌, Some, None, codes, sym, refl, ◌∙◌}
use Rattle.clap.specs.Words.{first_of, found_of, rows_of, subcommand_rows_of}
use Rattle.clap.proofs.WalkLemmas.{first_value-rows}
use Rattle.vm_cli.specs.program.Locks.{lock_by, lock_of}
use Rattle.vm_cli.proofs.Matches.{subcommand_rows-parts}
use Rattle.vm_cli.proofs.program.words.lock_asked.Goals as goal

pub returns-in_default-get_str : goal.returns-in_default-get_str
returns-in_default-get_str c =
    let rows = rows_of (found_of c.in-Some.matches.now) in
    let entered : subcommand_rows_of c.args.matches.now ≡ Some (c.in-Some.name.now, rows) =
    subcommand_rows-parts _ _ _ _ c.in-Some.ensures.name c.in-Some.ensures.rows in
    let given = rw c.in_default-get_str.is at c.get_str.ensures in
    let none : first_of (codes "file") rows ≡ None = sym (first_value-rows (found_of c.in-Some.matches.now) (codes "file")) ∙ sym given in
    rw (entered, none) refl

pub returns : goal.returns
returns c =
    let rows = rows_of (found_of c.in-Some.matches.now) in
    let entered : subcommand_rows_of c.args.matches.now ≡ Some (c.in-Some.name.now, rows) =
    subcommand_rows-parts _ _ _ _ c.in-Some.ensures.name c.in-Some.ensures.rows in
    let given = rw c.in-Some-get_str.is at c.get_str.ensures in
    let file : first_of (codes "file") rows ≡ Some c.in-Some-get_str.file.now = sym (first_value-rows (found_of c.in-Some.matches.now) (codes "file")) ∙ sym given in
    let asks : lock_of (subcommand_rows_of c.args.matches.now) ≡ lock_by c.in-Some.name.now rows c.in-Some-get_str.file.now = rw (entered, file) refl in
    c.lock_on.ensures ∙ sym asks
