use Rattle.std.proofs.Common.{◌≡◌, ◌∙◌, ℕ, ◌+◌, ◌<◌, length, take, sym, arith}
use Rattle.std.specs.List.{range_with_len}
use Rattle.std.proofs.lemmas.List.{take_all}
use Rattle.std.proofs.lemmas.List.FromFn.{get_or-range_with_len, length-range_with_len}
use Rattle.vm_cli.specs.program.Exits.{name_text}
use Rattle.vm_cli.proofs.CarriedLemmas.{begins-list, flat_map-more, on_err}
use Rattle.vm_cli.proofs.ExitLemmas.{file_then}
use Rattle.vm_cli.proofs.Known.{Appends-nil, Appends-then}
use Rattle.vm_cli.proofs.program.damage.name_others.Goals as goal

pub loop-n-init : goal.loop-n-init
loop-n-init g c = Appends-nil _

pub loop-n-preserved : goal.loop-n-preserved
loop-n-preserved g c =
    let marks = c.args.damaged.now in
    let n = c.loop-n.n in
    let all = range_with_len 0 (length marks) in
    let lt : n < length marks = omega (arith, c.loop-n-test.true, c.blocks-count.ensures.count) in
    let same : 0 + n ≡ n = omega arith in
    let inside : n < length all = omega (arith, lt, length-range_with_len 0 (length marks)) in
    rw (flat_map-more (λ (k : ℕ). name_text c.args.told marks k) all n n inside (get_or-range_with_len 0 (length marks) n n lt ∙ same))
    (Appends-then _ _ _ _ _ c.loop-n.invariant c.in_ok-name_if_other.ensures.ok)

pub returns-in_err-name_if_other-clause-err : goal.returns-in_err-name_if_other-clause-err
returns-in_err-name_if_other-clause-err g c =
    let marks = c.args.damaged.now in
    let n = c.loop-n.n in
    let all = range_with_len 0 (length marks) in
    let lt : n < length marks = omega (arith, c.loop-n-test.true, c.blocks-count.ensures.count) in
    let same : 0 + n ≡ n = omega arith in
    let inside : n < length all = omega (arith, lt, length-range_with_len 0 (length marks)) in
    on_err c.from_residual.result
    (begins-list (λ (k : ℕ). name_text c.args.told marks k) all (n + 1) _ _ (rw (flat_map-more (λ (k : ℕ). name_text c.args.told marks k) all n n inside (get_or-range_with_len 0 (length marks) n n lt ∙ same))
    (file_then _ _ _ _ _ c.loop-n.invariant c.in_err-name_if_other.ensures.err)))

pub returns-clause-ok : goal.returns-clause-ok
returns-clause-ok g c =
    let marks = c.args.damaged.now in
    let all = range_with_len 0 (length marks) in
    let whole : take c.loop-n.n all ≡ all = take_all c.loop-n.n all (omega (arith, c.loop-n-test.false, c.blocks-count.ensures.count, length-range_with_len 0 (length marks))) in
    rw (sym whole) c.loop-n.invariant
