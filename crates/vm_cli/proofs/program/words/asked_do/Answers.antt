use Rattle.std.proofs.Common.{◌≡◌, ◌∙◌, Some, None, codes, map, sym}
use Rattle.clap.specs.Words.{all_of, found_of, rows_of}
use Rattle.clap.proofs.WalkLemmas.{raw_values-rows}
use Rattle.vm_cli.proofs.Matches.{do_by-lines, do_by-none}
use Rattle.vm_cli.proofs.program.words.asked_do.Goals as goal

pub returns-in_default : goal.returns-in_default
returns-in_default c =
    let found = found_of c.args.matches.now in
    let given = rw c.in_default.is at c.get_strs.ensures in
    let none : all_of (codes "line") (rows_of found) ≡ None = sym (raw_values-rows found (codes "line")) ∙ sym given in
    sym (do_by-none (rows_of found) c.args.file.now none)

pub returns : goal.returns
returns c =
    let found = found_of c.args.matches.now in
    let given = rw c.in-Some.is at c.get_strs.ensures in
    let lines : all_of (codes "line") (rows_of found) ≡ Some (map (λ line. line.now) c.in-Some.lines.now) = sym (raw_values-rows found (codes "line")) ∙ sym given in
    rw c.in_ok-input.ensures (sym (do_by-lines (rows_of found) c.args.file.now _ _ _ lines (sym c.in-Some-in_memory.ensures) (sym c.in-Some-manner.ensures)))
