use Rattle.std.proofs.Common.{◌≡◌, ◌∙◌, ◌++◌, ◌∷◌, [], ℕ, List, ap, append_assoc, arith, flat_map, sym, take}
use Rattle.std.proofs.lemmas.List.{take_all}
use Rattle.std.specs.Borrow.{Bor}
use Rattle.vm_cli.proofs.GivenLemmas.{flat_map-map, flat_map-next}
use Rattle.vm_cli.proofs.program.given.input_of.Goals as goal

pub loop-line-preserved : goal.loop-line-preserved
loop-line-preserved c =
    let d : Bor (List ℕ) = record { ref_ptr = (0, 0); now = [] } in
    rw (c.in_ok-push.ensures.items, c.in_ok-extend_from_slice.ensures.items, c.as_bytes.ensures.value, c.loop-line.invariant, append_assoc)
    (sym (flat_map-next (λ line. line.now ++ 10 ∷ []) c.args.lines.now c.loop-line.line-index d c.loop-line-test.true))

pub returns : goal.returns
returns c =
    let whole : take c.loop-line.line-index c.args.lines.now ≡ c.args.lines.now =
    take_all c.loop-line.line-index c.args.lines.now (omega (arith, c.loop-line-test.false)) in
    c.loop-line.invariant ∙ ap (λ lines. flat_map (λ line. line.now ++ 10 ∷ []) lines) whole ∙ sym (flat_map-map (λ line. line ++ 10 ∷ []) (λ line. line.now) c.args.lines.now)
