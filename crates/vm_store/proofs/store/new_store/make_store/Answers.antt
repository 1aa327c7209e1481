use Rattle.std.proofs.Common.{◌∷◌, [], ap, inl, refl, rules}
use Rattle.vm_disk.proofs.MomentLemmas.{weaken, and_then, at_end}
use Rattle.vm_types.specs.Tree.{fresh}
use Rattle.vm_store.specs.NewStore.{IsFormatting}
use Rattle.vm_store.proofs.FormattingLemmas.{formatted_now, formatting, fresh_maps, none_synced, not_true, not_yet, still_there}
use Rattle.vm_store.proofs.store.new_store.make_store.Goals as goal

pub returns-in-Err-clause-spares : goal.returns-in-Err-clause-spares
returns-in-Err-clause-spares g c = record {
  already = search rules;
  was_there = λ honest header. (refl, still_there _ _ (at_end _ _ _ (c.in-Err.ensures.moments honest)));
}

pub returns-in-Err-clause-moments : goal.returns-in-Err-clause-moments
returns-in-Err-clause-moments g c honest = weaken _ _ _ _ (not_yet c.args.blocks _) (c.in-Err.ensures.moments honest)

pub returns-in-Ok-clause-moments : goal.returns-in-Ok-clause-moments
returns-in-Ok-clause-moments g c honest =
    let old = (g.D.Disk.state c.args.disk.now).now in
    let before = c.put_down.ensures.any.earlier honest in
    let synced = c.in-Ok-false.ensures.synced before (λ e. cc) in
    let none = not_true _ c.in-Ok-false.field-0-test (c.in-Ok-false.ensures.header before) in
    let looked = weaken _ _ _ (IsFormatting c.args.blocks old) (not_yet c.args.blocks old) (c.has_header.ensures.moments before) in
    let maps = fresh_maps c.args.blocks _ _ (ap (λ e. e ∷ []) c.fresh_entry.ensures) c.requires.least c.requires.most in
    let down = weaken _ _ _ (IsFormatting c.args.blocks old) (λ m leaves. formatting c.args.blocks old m none leaves) (c.put_down.ensures.moments fresh maps honest (synced.clean 0) (none_synced _ _ synced (λ header. none (inl header)))) in
    and_then _ _ _ (IsFormatting c.args.blocks old) looked down

pub returns-in-Err-put_down-clause-moments : goal.returns-in-Err-put_down-clause-moments
returns-in-Err-put_down-clause-moments g c honest =
    let old = (g.D.Disk.state c.args.disk.now).now in
    let before = c.put_down.ensures.any.earlier honest in
    let synced = c.in-Ok-false.ensures.synced before (λ e. cc) in
    let none = not_true _ c.in-Ok-false.field-0-test (c.in-Ok-false.ensures.header before) in
    let looked = weaken _ _ _ (IsFormatting c.args.blocks old) (not_yet c.args.blocks old) (c.has_header.ensures.moments before) in
    let maps = fresh_maps c.args.blocks _ _ (ap (λ e. e ∷ []) c.fresh_entry.ensures) c.requires.least c.requires.most in
    let down = weaken _ _ _ (IsFormatting c.args.blocks old) (λ m leaves. formatting c.args.blocks old m none leaves) (c.put_down.ensures.moments fresh maps honest (synced.clean 0) (none_synced _ _ synced (λ header. none (inl header)))) in
    and_then _ _ _ (IsFormatting c.args.blocks old) looked down

pub returns-in-Ok-clause-formatted : goal.returns-in-Ok-clause-formatted
returns-in-Ok-clause-formatted g c honest =
    let maps = fresh_maps c.args.blocks _ _ (ap (λ e. e ∷ []) c.fresh_entry.ensures) c.requires.least c.requires.most in
    formatted_now c.args.blocks _ _ _ _ (ap (λ e. e ∷ []) c.fresh_entry.ensures) c.in-Ok.is (c.put_down.ensures.down honest fresh maps)
