use Rattle.std.proofs.Common.{◌≡◌, ◌∙◌, Some, None, refl, rules, sym}
use Rattle.clap.specs.Words.{first_of, found_of, rows_of}
use Rattle.clap.proofs.WalkLemmas.{first_value-rows}
use Rattle.vm_cli.proofs.program.words.is_given.Goals as goal

pub returns-in-Some : goal.returns-in-Some
returns-in-Some c =
    let found = found_of c.args.matches.now in
    let given = rw c.in-Some.is at c.get_str.ensures in
    let first : first_of c.args.name.now (rows_of found) ≡ Some c.in-Some.text.now = sym (first_value-rows found c.args.name.now) ∙ sym given in
    rw first (search rules)

pub returns-in-None : goal.returns-in-None
returns-in-None c =
    let found = found_of c.args.matches.now in
    let given = rw c.in-None.is at c.get_str.ensures in
    let first : first_of c.args.name.now (rows_of found) ≡ None = sym (first_value-rows found c.args.name.now) ∙ sym given in
    rw first refl
