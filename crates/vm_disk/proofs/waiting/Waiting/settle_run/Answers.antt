use Rattle.std.proofs.Common.{◌≡◌, ◌&&◌, ℕ, nat_le, nat_lt, if◌then◌else◌, None, ap, ◌∙◌, subst, arith, rules}
use Rattle.vm_disk.specs.Waiting.{bytes_for, Settles}
use Rattle.vm_disk.proofs.WrittenLemmas.{settles_one_more}
use Rattle.vm_disk.proofs.waiting.Waiting.settle_run.Goals as goal

pub returns-clause-gone : goal.returns-clause-gone
returns-clause-gone c k =
    let reached : c.loop-n.n ≡ c.args.end = omega (arith, c.requires, c.loop-n-test.false, c.loop-n.auto.n-end) in
    c.loop-n.invariant.gone k ∙ ap (λ (n : ℕ). if nat_le c.args.first k && nat_lt k n then None else bytes_for c.args.self.now k) reached

pub loop-n-preserved : goal.loop-n-preserved
loop-n-preserved c =
    let so_far = c.loop-n.invariant in
    record {
      gone = search rules;
      most = search rules;
      fewer = search rules;
      limit = c.settle.ensures.stops.limit ∙ so_far.limit;
      settles = settles_one_more c.args.first c.loop-n.n c.args.self.now c.loop-n.self c.settle.new.self c.loop-n.auto.n so_far.gone so_far.settles c.settle.ensures.settles;
    }

pub returns-clause-settles : goal.returns-clause-settles
returns-clause-settles c =
    let reached : c.loop-n.n ≡ c.args.end = omega (arith, c.requires, c.loop-n-test.false, c.loop-n.auto.n-end) in
    let R : ℕ → Type 0 = λ n. Settles (λ k. nat_le c.args.first k && nat_lt k n) c.args.self.now c.loop-n.self in
    subst R reached c.loop-n.invariant.settles
