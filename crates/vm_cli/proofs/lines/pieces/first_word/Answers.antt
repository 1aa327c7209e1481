use Rattle.std.proofs.Common.{◌≡◌, ◌==◌, length, true, false, rules}
use Rattle.vm_cli.specs.lines.Pieces.{after_word, before_mark, without_spaces}
use Rattle.vm_cli.proofs.Spaces.{words_of-none, words_of-word}
use Rattle.vm_cli.proofs.lines.pieces.first_word.Goals as goal

pub returns-then-is_empty-clause-word : goal.returns-then-is_empty-clause-word
returns-then-is_empty-clause-word c =
    let word = c.first_piece.result.0.now in
    let first : word ≡ before_mark 32 (without_spaces c.args.line.now) = search rules in
    let empty : (length word == 0) ≡ true = cc in
    words_of-none c.args.line.now word first empty

pub returns-clause-word : goal.returns-clause-word
returns-clause-word c =
    let word = c.first_piece.result.0.now in
    let rest = c.first_piece.result.1.now in
    let first : word ≡ before_mark 32 (without_spaces c.args.line.now) = search rules in
    let behind : rest ≡ after_word c.args.line.now = search rules in
    let some : (length word == 0) ≡ false = cc in
    words_of-word c.args.line.now word rest first behind some
