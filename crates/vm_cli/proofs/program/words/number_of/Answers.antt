use Rattle.std.proofs.Common.{Some, None, arith, sym, ◌∙◌, refl}
use Rattle.clap.specs.Words.{found_of, one_text}
use Rattle.clap.proofs.WalkLemmas.{one_text-rows}
use Rattle.vm_cli.proofs.Numbers.{Read, read-none, read-outside, read-some}
use Rattle.vm_cli.proofs.program.words.number_of.Goals as goal

pub returns-in_err-number : goal.returns-in_err-number
returns-in_err-number c =
    let found = found_of c.args.matches.now in
    let name = c.args.name.now in
    let r : Read (one_text found name) None = record {
      none = λ e. refl;
      value = λ t e. rw c.in_err-number.was at (c.get_one.ensures.value t e);
    } in
    rw (c.from_residual.ensures, ← one_text-rows found name) (sym (read-none c.args.least c.args.most _ r (omega arith)))

pub returns-then-number-least : goal.returns-then-number-least
returns-then-number-least c =
    let found = found_of c.args.matches.now in
    let name = c.args.name.now in
    let n = c.in_ok-number.number in
    let r : Read (one_text found name) (Some n) = record {
      none = λ e. sym c.in_ok-number.was ∙ c.get_one.ensures.none e;
      value = λ t e. rw c.in_ok-number.was at (c.get_one.ensures.value t e);
    } in
    rw (← one_text-rows found name) (sym (read-outside c.args.least c.args.most n _ r (λ a b. absurd (omega arith))))

pub returns-then-number-most : goal.returns-then-number-most
returns-then-number-most c =
    let found = found_of c.args.matches.now in
    let name = c.args.name.now in
    let n = c.in_ok-number.number in
    let r : Read (one_text found name) (Some n) = record {
      none = λ e. sym c.in_ok-number.was ∙ c.get_one.ensures.none e;
      value = λ t e. rw c.in_ok-number.was at (c.get_one.ensures.value t e);
    } in
    rw (← one_text-rows found name) (sym (read-outside c.args.least c.args.most n _ r (λ a b. absurd (omega arith))))

pub returns : goal.returns
returns c =
    let found = found_of c.args.matches.now in
    let name = c.args.name.now in
    let n = c.in_ok-number.number in
    let r : Read (one_text found name) (Some n) = record {
      none = λ e. sym c.in_ok-number.was ∙ c.get_one.ensures.none e;
      value = λ t e. rw c.in_ok-number.was at (c.get_one.ensures.value t e);
    } in
    rw (← one_text-rows found name) (sym (read-some c.args.least c.args.most n _ r (omega arith) (omega arith) (omega arith)))
