use Rattle.std.proofs.Common.{◌≡◌, Some, None, codes, ap, sym, refl, ◌∙◌}
use Rattle.std.proofs.lemmas.Result.{IfOk-weaker}
use Rattle.clap.specs.Words.{Text, first_of, found_of, rows_of, subcommand_rows_of}
use Rattle.clap.proofs.WalkLemmas.{first_value-rows}
use Rattle.vm_cli.specs.program.Words.{asked_by, asked_of, run_by}
use Rattle.vm_cli.specs.declared.session.Grouping.{Grouping}
use Rattle.vm_cli.proofs.Matches.{asked_of-entered, subcommand_rows-parts}
use Rattle.vm_cli.proofs.program.words.asked.Goals as goal

pub returns-in_default-get_str : goal.returns-in_default-get_str
returns-in_default-get_str c =
    let rows = rows_of (found_of c.in-Some.matches.now) in
    let entered : subcommand_rows_of c.args.matches.now ≡ Some (c.in-Some.name.now, rows) =
    subcommand_rows-parts _ _ _ _ c.in-Some.ensures.name c.in-Some.ensures.rows in
    let given = rw c.in_default-get_str.is at c.get_str.ensures in
    let none : first_of (codes "file") rows ≡ None = sym (first_value-rows (found_of c.in-Some.matches.now) (codes "file")) ∙ sym given in
    rw (entered, none) refl

pub returns-in-create : goal.returns-in-create
returns-in-create c =
    let rows = rows_of (found_of c.in-Some.matches.now) in
    let entered : subcommand_rows_of c.args.matches.now ≡ Some (c.in-Some.name.now, rows) =
    subcommand_rows-parts _ _ _ _ c.in-Some.ensures.name c.in-Some.ensures.rows in
    let given = rw c.in-Some-get_str.is at c.get_str.ensures in
    let file : first_of (codes "file") rows ≡ Some c.in-Some-get_str.file.now = sym (first_value-rows (found_of c.in-Some.matches.now) (codes "file")) ∙ sym given in
    let asks : asked_of (subcommand_rows_of c.args.matches.now) ≡ asked_by (codes "create") rows c.in-Some-get_str.file.now =
    asked_of-entered _ _ rows _ entered file ∙ ap (λ (name : Text). asked_by name rows c.in-Some-get_str.file.now) c.in-create.is in
    c.asked_create.ensures ∙ sym asks

pub returns-in-run : goal.returns-in-run
returns-in-run c =
    let rows = rows_of (found_of c.in-Some.matches.now) in
    let entered : subcommand_rows_of c.args.matches.now ≡ Some (c.in-Some.name.now, rows) =
    subcommand_rows-parts _ _ _ _ c.in-Some.ensures.name c.in-Some.ensures.rows in
    let given = rw c.in-Some-get_str.is at c.get_str.ensures in
    let file : first_of (codes "file") rows ≡ Some c.in-Some-get_str.file.now = sym (first_value-rows (found_of c.in-Some.matches.now) (codes "file")) ∙ sym given in
    let asks : asked_of (subcommand_rows_of c.args.matches.now) ≡ asked_by (codes "run") rows c.in-Some-get_str.file.now =
    asked_of-entered _ _ rows _ entered file ∙ ap (λ (name : Text). asked_by name rows c.in-Some-get_str.file.now) c.in-run.is in
    c.asked_run.ensures ∙ sym asks

pub returns-in-serve : goal.returns-in-serve
returns-in-serve c =
    let rows = rows_of (found_of c.in-Some.matches.now) in
    let entered : subcommand_rows_of c.args.matches.now ≡ Some (c.in-Some.name.now, rows) =
    subcommand_rows-parts _ _ _ _ c.in-Some.ensures.name c.in-Some.ensures.rows in
    let given = rw c.in-Some-get_str.is at c.get_str.ensures in
    let file : first_of (codes "file") rows ≡ Some c.in-Some-get_str.file.now = sym (first_value-rows (found_of c.in-Some.matches.now) (codes "file")) ∙ sym given in
    let asks : asked_of (subcommand_rows_of c.args.matches.now) ≡ asked_by (codes "serve") rows c.in-Some-get_str.file.now =
    asked_of-entered _ _ rows _ entered file ∙ ap (λ (name : Text). asked_by name rows c.in-Some-get_str.file.now) c.in-serve.is in
    c.asked_run-in-serve.ensures ∙ ap (λ (grouping : Grouping). run_by grouping rows c.in-Some-get_str.file.now) c.serve_grouping.ensures ∙ sym asks

pub returns-in-do : goal.returns-in-do
returns-in-do c =
    let rows = rows_of (found_of c.in-Some.matches.now) in
    let entered : subcommand_rows_of c.args.matches.now ≡ Some (c.in-Some.name.now, rows) =
    subcommand_rows-parts _ _ _ _ c.in-Some.ensures.name c.in-Some.ensures.rows in
    let given = rw c.in-Some-get_str.is at c.get_str.ensures in
    let file : first_of (codes "file") rows ≡ Some c.in-Some-get_str.file.now = sym (first_value-rows (found_of c.in-Some.matches.now) (codes "file")) ∙ sym given in
    let asks : asked_of (subcommand_rows_of c.args.matches.now) ≡ asked_by (codes "do") rows c.in-Some-get_str.file.now =
    asked_of-entered _ _ rows _ entered file ∙ ap (λ (name : Text). asked_by name rows c.in-Some-get_str.file.now) c.in-do.is in
    IfOk-weaker c.asked_do.result _ _ (λ job said. said ∙ sym asks) c.asked_do.ensures

pub returns-in-check : goal.returns-in-check
returns-in-check c =
    let rows = rows_of (found_of c.in-Some.matches.now) in
    let entered : subcommand_rows_of c.args.matches.now ≡ Some (c.in-Some.name.now, rows) =
    subcommand_rows-parts _ _ _ _ c.in-Some.ensures.name c.in-Some.ensures.rows in
    let given = rw c.in-Some-get_str.is at c.get_str.ensures in
    let file : first_of (codes "file") rows ≡ Some c.in-Some-get_str.file.now = sym (first_value-rows (found_of c.in-Some.matches.now) (codes "file")) ∙ sym given in
    let asks : asked_of (subcommand_rows_of c.args.matches.now) ≡ asked_by (codes "check") rows c.in-Some-get_str.file.now =
    asked_of-entered _ _ rows _ entered file ∙ ap (λ (name : Text). asked_by name rows c.in-Some-get_str.file.now) c.in-check.is in
    sym asks

pub returns-in-tree : goal.returns-in-tree
returns-in-tree c =
    let rows = rows_of (found_of c.in-Some.matches.now) in
    let entered : subcommand_rows_of c.args.matches.now ≡ Some (c.in-Some.name.now, rows) =
    subcommand_rows-parts _ _ _ _ c.in-Some.ensures.name c.in-Some.ensures.rows in
    let given = rw c.in-Some-get_str.is at c.get_str.ensures in
    let file : first_of (codes "file") rows ≡ Some c.in-Some-get_str.file.now = sym (first_value-rows (found_of c.in-Some.matches.now) (codes "file")) ∙ sym given in
    let asks : asked_of (subcommand_rows_of c.args.matches.now) ≡ asked_by (codes "tree") rows c.in-Some-get_str.file.now =
    asked_of-entered _ _ rows _ entered file ∙ ap (λ (name : Text). asked_by name rows c.in-Some-get_str.file.now) c.in-tree.is in
    sym asks

pub returns-in-copy : goal.returns-in-copy
returns-in-copy c =
    let rows = rows_of (found_of c.in-Some.matches.now) in
    let entered : subcommand_rows_of c.args.matches.now ≡ Some (c.in-Some.name.now, rows) =
    subcommand_rows-parts _ _ _ _ c.in-Some.ensures.name c.in-Some.ensures.rows in
    let given = rw c.in-Some-get_str.is at c.get_str.ensures in
    let file : first_of (codes "file") rows ≡ Some c.in-Some-get_str.file.now = sym (first_value-rows (found_of c.in-Some.matches.now) (codes "file")) ∙ sym given in
    let asks : asked_of (subcommand_rows_of c.args.matches.now) ≡ asked_by (codes "copy") rows c.in-Some-get_str.file.now =
    asked_of-entered _ _ rows _ entered file ∙ ap (λ (name : Text). asked_by name rows c.in-Some-get_str.file.now) c.in-copy.is in
    c.asked_copy.ensures ∙ sym asks
