use Rattle.std.proofs.Common.{◌≡◌, ◌∙◌, ap, inl, inr, refl}
use Rattle.vm_store.specs.Tallies.{tally_in}
use Rattle.vm_cli.specs.program.Branches.{numbers}
use Rattle.vm_cli.proofs.program.tree_lines.branch_of.Goals as goal

pub returns-clause-drawn : goal.returns-clause-drawn
returns-clause-drawn g c honest sound s holds =
    let known = c.in_ok-tally.ensures.ok in
    let tallied : c.tally.result ≡ tally_in s.working c.args.name.now = elim (c.tally.ensures.query.value honest sound s holds) [
      | inl (_, inl device) ↦ absurd (known.1 device)
      | inl (_, inr memory) ↦ absurd (known.2 memory)
      | inr is ↦ is
    ] in
    let checkpoints = c.in_ok-checkpoints.ensures.value ((c.tally.ensures.query.failed) ∙ sound) s (c.tally.ensures.query.state honest s holds) in
    (refl, refl, known.0 ∙ ap numbers tallied, checkpoints)
