use Rattle.std.proofs.Common.{◌∷◌, ◌++◌, [], ap, sym, ◌∙◌, arith}
use Rattle.std.proofs.lemmas.List.{take_all}
use Rattle.std.proofs.lemmas.Option.{slice_get_within}
use Rattle.vm_types.proofs.PackedLemmas.{ended, next_taken}
use Rattle.vm_types.proofs.packed.PackedList.to_vec.Goals as goal

pub loop-item-preserved : goal.loop-item-preserved
loop-item-preserved g c =
    let found = sym c.in-Some.ensures in
    let inside = slice_get_within c.args.self.now c.loop-item.i c.in-Some.item found in (
      omega (arith, inside),
      c.in_ok-push.ensures.items ∙ ap (λ xs. xs ++ c.in-Some.item ∷ []) c.loop-item.invariant.1
          ∙ next_taken c.args.self.now c.loop-item.i c.in-Some.item found,
    )

pub returns : goal.returns
returns g c = c.loop-item.invariant.1 ∙ take_all c.loop-item.i c.args.self.now (ended c.args.self.now c.loop-item.i (sym c.in_default.ensures))
