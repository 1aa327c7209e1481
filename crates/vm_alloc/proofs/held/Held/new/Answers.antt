use Rattle.std.proofs.Common.{◌≡◌, ◌∙◌, ap, List, Bool, ◌++◌, replicate, drop, length, true, false, arith}
use Rattle.std.proofs.lemmas.List.{length-replicate}
use Rattle.vm_alloc.proofs.CountLemmas.{tallied_new, length_first, only_first}
use Rattle.vm_alloc.proofs.held.Held.new.Goals as goal

first_held : (c : goal.After-set_first) → c.set_first.new.self ≡ replicate 34 true ++ drop 34 (replicate c.args.blocks false)
first_held c = c.set_first.ensures ∙ ap (λ (flags : List Bool). replicate 34 true ++ drop 34 flags) c.in_ok-flags.ensures

pub invariant_of-result : goal.invariant_of-result
invariant_of-result c = tallied_new _ c.args.blocks (first_held c) c.requires.enough c.requires.few

pub returns-clause-count : goal.returns-clause-count
returns-clause-count c =
    let none = replicate c.args.blocks false in
    let many : length none ≡ c.args.blocks = length-replicate c.args.blocks false in
    length_first 34 _ none (first_held c) (omega (arith, c.requires.enough)) ∙ many

pub returns-clause-system : goal.returns-clause-system
returns-clause-system c = only_first 34 c.args.blocks _ (first_held c)
