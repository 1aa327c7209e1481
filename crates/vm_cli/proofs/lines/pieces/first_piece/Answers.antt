use Rattle.std.proofs.Common.{◌≡◌, ◌==◌, ℕ, true, get_or, arith}
use Rattle.std.proofs.lemmas.Bool.Decides.{nat_tests}
use Rattle.vm_cli.proofs.Spaces.{before_mark-at, before_mark-none, behind_mark-at, behind_mark-none}
use Rattle.vm_cli.proofs.lines.pieces.first_piece.Goals as goal

found : (b mark : ℕ) → (b == mark) ≡ true → b ≡ mark
found b mark is = grind (arith, nat_tests, is)

finds : (b mark : ℕ) → b ≡ mark → (b == mark) ≡ true
finds b mark at = grind (arith, at)

pub returns-in-Some-clause-piece : goal.returns-in-Some-clause-piece
returns-in-Some-clause-piece c =
    let first = c.in-Some.ensures.0 in
    before_mark-at c.in-Some.i c.args.mark c.args.bytes.now first.high (found _ _ c.in-Some.ensures.1) (λ k less at. first.before k (omega arith) less (finds (get_or c.args.bytes.now k 0) c.args.mark at))

pub returns-in-Some-clause-rest : goal.returns-in-Some-clause-rest
returns-in-Some-clause-rest c =
    let first = c.in-Some.ensures.0 in
    behind_mark-at c.in-Some.i c.args.mark c.args.bytes.now first.high (found _ _ c.in-Some.ensures.1) (λ k less at. first.before k (omega arith) less (finds (get_or c.args.bytes.now k 0) c.args.mark at))

pub returns-in-None-clause-piece : goal.returns-in-None-clause-piece
returns-in-None-clause-piece c =
    before_mark-none c.args.mark c.args.bytes.now (λ k less at. c.in-None.ensures k (omega arith) less (finds (get_or c.args.bytes.now k 0) c.args.mark at))

pub returns-in-None-clause-rest : goal.returns-in-None-clause-rest
returns-in-None-clause-rest c =
    behind_mark-none c.args.mark c.args.bytes.now (λ k less at. c.in-None.ensures k (omega arith) less (finds (get_or c.args.bytes.now k 0) c.args.mark at))
