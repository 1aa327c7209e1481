use Rattle.std.proofs.Common.{length, slice_set, ap, subst, arith}
use Rattle.vm_diff.specs.Walk.{Walk}
use Rattle.vm_diff.specs.Ahead.{PassedBoth, tops_in}
use Rattle.vm_diff.proofs.CursorLemmas.{named_standing, tops_both, tops_fewer}
use Rattle.vm_diff.proofs.cursor.pass_tops.Goals as goal

pub listed : goal.listed
listed c =
    let s = named_standing c.one.inside.levels c.in-Some-Some.here c.in-Some-Some.ensures in
    omega (arith, s.level, s.within)

pub bounds-one-inside-level : goal.bounds-one-inside-level
bounds-one-inside-level c =
    let s = named_standing c.one.inside.levels c.in-Some-Some.here c.in-Some-Some.ensures in
    omega (arith, s.level, s.within, c.one.invariant)

pub listed-2 : goal.listed-2
listed-2 c =
    let t = named_standing c.other.inside.levels c.in-Some-Some.there c.in-Some-Some.ensures' in
    omega (arith, t.level, t.within, c.if-here-there.false)

pub bounds-other-inside-level : goal.bounds-other-inside-level
bounds-other-inside-level c =
    let t = named_standing c.other.inside.levels c.in-Some-Some.there c.in-Some-Some.ensures' in
    omega (arith, t.level, t.within, c.other.invariant, c.if-here-there.false)

pub returns-clause-passed : goal.returns-clause-passed
returns-clause-passed c =
    let ls = c.one.inside.levels in
    let ks = c.other.inside.levels in
    let s = named_standing ls c.in-Some-Some.here c.in-Some-Some.ensures in
    let t = named_standing ks c.in-Some-Some.there c.in-Some-Some.ensures' in
    let q = tops_both ls ks c.in-Some-Some.here c.in-Some-Some.there c.pass_shared.new.self c.pass_shared.new.other c.index-one-level.result c.index-other-level.result s t c.if-here-there.false
    c.pass_shared.ensures.passed in
    subst (λ (w : Walk). PassedBoth w.tops c.args.other.now.tops (tops_in 0 (slice_set ls c.in-Some-Some.here.level c.pass_shared.new.self)) (tops_in 0 (slice_set ks c.in-Some-Some.here.level c.pass_shared.new.other))) c.one.view_is (subst (λ (w : Walk). PassedBoth (tops_in 0 ls) w.tops (tops_in 0 (slice_set ls c.in-Some-Some.here.level c.pass_shared.new.self)) (tops_in 0 (slice_set ks c.in-Some-Some.here.level c.pass_shared.new.other))) c.other.view_is q)

pub returns-clause-some : goal.returns-clause-some
returns-clause-some c some =
    let ls = c.one.inside.levels in
    let s = named_standing ls c.in-Some-Some.here c.in-Some-Some.ensures in
    let fewer = tops_fewer ls c.in-Some-Some.here c.pass_shared.ensures.passed.front c.pass_shared.new.self c.index-one-level.result s c.pass_shared.ensures.passed.first (c.pass_shared.ensures.some some) in
    omega (arith, fewer, ap (λ (w : Walk). length w.tops) c.one.view_is)
