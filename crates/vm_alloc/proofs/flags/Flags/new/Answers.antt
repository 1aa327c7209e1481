use Rattle.std.proofs.Common.{◌≡◌, ◌∙◌, ℕ, List, ap, replicate, rules}
use Rattle.vm_alloc.specs.Flags.{flags_of}
use Rattle.vm_alloc.proofs.FlagLemmas.{no_flag}
use Rattle.vm_alloc.proofs.flags.Flags.new.Goals as goal

pub returns : goal.returns
returns c =
    let zeros : c.in_ok-vec.field-0.items ≡ replicate c.div_ceil.result 0 = search rules in
    ap (λ (ws : List ℕ). flags_of ws c.args.count) zeros ∙ no_flag c.div_ceil.result c.args.count
