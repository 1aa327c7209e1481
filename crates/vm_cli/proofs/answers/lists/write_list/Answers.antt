use Rattle.std.proofs.Common.{◌≡◌, ℕ, ◌<◌, List, [], length, get_or, take, sym, arith}
use Rattle.std.proofs.lemmas.List.{get_or_default, take_all}
use Rattle.vm_cli.proofs.CarriedLemmas.{begins-list, begins-then, carries-more, carries-then, flat_map-more, on_err}
use Rattle.vm_cli.proofs.answers.lists.write_list.Goals as goal

pub returns-in_err-make_room-clause-err : goal.returns-in_err-make_room-clause-err
returns-in_err-make_room-clause-err g c =
    on_err c.from_residual.result
    (begins-list (λ (line : List ℕ). line) (g.L.Listing.lines c.args.list.now) c.loop-i.i _ _ (begins-then _ _ _ c.loop-i.text _ c.loop-i.invariant c.in_err-make_room.ensures.err))

pub loop-i-preserved : goal.loop-i-preserved
loop-i-preserved g c =
    let lines = g.L.Listing.lines c.args.list.now in
    let i = c.loop-i.i in
    let line : List ℕ = get_or lines i [] in
    let lt : i < length lines = omega (arith, c.loop-i-test.true, c.count-count.ensures) in
    let so_far = carries-then _ _ _ _ _ _ c.loop-i.invariant c.in_ok-make_room.ensures.ok in
    rw (flat_map-more (λ (line : List ℕ). line) lines i line lt (get_or_default lines i line [] lt))
    (carries-more _ _ _ _ _ _ so_far c.push_line.ensures)

pub returns-in_err-make_room-2-clause-err : goal.returns-in_err-make_room-2-clause-err
returns-in_err-make_room-2-clause-err g c =
    on_err c.from_residual-in_err-make_room-2.result
    (begins-list (λ (line : List ℕ). line) (g.L.Listing.lines c.args.list.now) c.loop-i.i _ _ (begins-then _ _ _ c.loop-i.text _ c.loop-i.invariant c.in_err-make_room-2.ensures.err))

pub returns-clause-ok : goal.returns-clause-ok
returns-clause-ok g c =
    let lines = g.L.Listing.lines c.args.list.now in
    let whole : take c.loop-i.i lines ≡ lines = take_all c.loop-i.i lines (omega (arith, c.loop-i-test.false, c.count-count.ensures)) in
    let so_far = carries-then _ _ _ _ _ _ c.loop-i.invariant c.in_ok-make_room-2.ensures.ok in
    rw (sym whole) so_far
