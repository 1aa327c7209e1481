use Rattle.std.proofs.Common.{◌≤◌, length, arith, ◌∙◌}
use Rattle.vm_disk.proofs.ZeroLemmas.{adds_more, adds_some, behind_more}
use Rattle.vm_disk.proofs.file.FileDisk.write_zeros.Goals as goal

pub loop-done-preserved : goal.loop-done-preserved
loop-done-preserved g c =
    let so_far = c.loop-done.invariant in
    let state = g.F.Positional.state in
    record {
      least = omega arith;
      most = omega (arith, c.min-more.ensures);
      fine = c.in_ok-write_zeros_at.ensures.any.fine ∙ so_far.fine;
      earlier = λ honest. so_far.earlier (c.in_ok-write_zeros_at.ensures.any.earlier honest);
      added = λ honest long.
          let added = so_far.added (c.in_ok-write_zeros_at.ensures.any.earlier honest) long in
          let reach = added.long in
          adds_more _ c.args.done.now c.loop-done.done c.min-more.result c.offset_of.result (state c.args.file.now) (state c.loop-done.file) (state c.write_zeros_at.new.self)
          added so_far.least c.offset_of.ensures (c.in_ok-write_zeros_at.ensures.honest honest (omega (arith, reach, c.offset_of.ensures)));
      behind = λ honest long.
          let earlier = c.in_ok-write_zeros_at.ensures.any.earlier honest in
          let reach = (so_far.added earlier long).long in
          let within : c.offset_of.result ≤ length (state c.loop-done.file).bytes = omega (arith, reach, c.offset_of.ensures) in
          behind_more _ c.loop-done.done c.min-more.result c.offset_of.result c.args.blocks (state c.args.file.now) (state c.loop-done.file) (state c.write_zeros_at.new.self)
          (so_far.behind earlier long) c.offset_of.ensures (omega (arith, c.min-more.ensures)) within (c.in_ok-write_zeros_at.ensures.honest honest within);
    }

pub returns-in_err-write_zeros_at-clause-added : goal.returns-in_err-write_zeros_at-clause-added
returns-in_err-write_zeros_at-clause-added g c honest long =
    let so_far = c.loop-done.invariant in
    let state = g.F.Positional.state in
    let added = so_far.added (c.in_err-write_zeros_at.ensures.any.earlier honest) long in
    let reach = added.long in
    adds_some _ c.args.done.now c.loop-done.done c.offset_of.result _ (state c.args.file.now) (state c.loop-done.file) (state c.write_zeros_at.new.self)
    added so_far.least c.offset_of.ensures (c.in_err-write_zeros_at.ensures.honest honest (omega (arith, reach, c.offset_of.ensures)))

pub returns-in_err-write_zeros_at-clause-behind : goal.returns-in_err-write_zeros_at-clause-behind
returns-in_err-write_zeros_at-clause-behind g c honest long =
    let so_far = c.loop-done.invariant in
    let state = g.F.Positional.state in
    let earlier = c.in_err-write_zeros_at.ensures.any.earlier honest in
    let reach = (so_far.added earlier long).long in
    let within : c.offset_of.result ≤ length (state c.loop-done.file).bytes = omega (arith, reach, c.offset_of.ensures) in
    behind_more _ c.loop-done.done c.min-more.result c.offset_of.result c.args.blocks (state c.args.file.now) (state c.loop-done.file) (state c.write_zeros_at.new.self)
    (so_far.behind earlier long) c.offset_of.ensures (omega (arith, c.min-more.ensures)) within (c.in_err-write_zeros_at.ensures.honest honest within)
