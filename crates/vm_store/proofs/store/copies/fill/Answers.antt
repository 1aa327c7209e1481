use Rattle.std.proofs.Common.{Err, List, Result, ap, arith, refl, subst, sym}
use Rattle.std.specs.Result.{is_err}
use Rattle.vm_types.specs.declared.refusal.Refusal.{Refusal}
use Rattle.vm_types.specs.State.{Seen}
use Rattle.vm_disk.proofs.MomentLemmas.{and_then, at_end, weaken}
use Rattle.vm_disk.specs.Moments.{Leaves}
use Rattle.vm_block.specs.Header.{IsHeader}
use Rattle.vm_block.specs.declared.slot.Entry.{Entry}
use Rattle.vm_check.specs.Renumbering.{next_of}
use Rattle.vm_check.specs.TreeCopy.{is_for_copies}
use Rattle.vm_check.specs.declared.tree_copy.CopyFault.{CopyFault}
use Rattle.vm_store.specs.Layout.{HasMaps}
use Rattle.vm_store.specs.Shown.{ShowsAtMost}
use Rattle.vm_store.specs.Copies.{IsOfFill, IsOfTarget}
use Rattle.vm_store.proofs.CopyingLemmas.{both_then, copied_now, fill_fault, first_of_none, maps_copied, sound_fault, step_both, unused_copied}
use Rattle.vm_store.proofs.FullLemmas.{full_fault, next_fewer, next_most}
use Rattle.vm_store.proofs.LayoutLemmas.{KeepsFirst, first_untouched, no_header, nothing_most}
use Rattle.vm_store.proofs.store.copies.fill.Goals as goal

pub returns-in-Err-clause-both : goal.returns-in-Err-clause-both
returns-in-Err-clause-both g c = step_both _ c.in-Err.ensures.step (λ is. cc (c.refusal_of.ensures, is))

pub returns-in-Err-clause-reads : goal.returns-in-Err-clause-reads
returns-in-Err-clause-reads g c source = c.in-Err.ensures.step.looks.reads source

pub returns-in-Err-clause-refusals : goal.returns-in-Err-clause-refusals
returns-in-Err-clause-refusals g c = subst (λ (r : Refusal). IsOfFill r) (sym c.refusal_of.ensures) (fill_fault _)

pub returns-in-Err-clause-sound : goal.returns-in-Err-clause-sound
returns-in-Err-clause-sound g c source tree has =
    subst (λ (r : Refusal). IsOfTarget r) (sym c.refusal_of.ensures) (sound_fault _ (c.in-Err.ensures.sound source has.filed has.stands))

pub returns-in-Err-clause-moments : goal.returns-in-Err-clause-moments
returns-in-Err-clause-moments g c source tree has honest clean none =
    let old = (g.T.Disk.state c.args.target.now).now in
    let touched = is_for_copies (next_of c.args.room.now.numbers) (next_of c.copy_entries.new.room.numbers) c.args.blocks in
    let apart = first_of_none c.args.kept c.args.blocks c.args.room.now.numbers c.copy_entries.new.room.numbers c.requires.unused.numbers in
    weaken _ _ _ _ (λ m touches. nothing_most _ m (no_header old m none (first_untouched touched old m apart clean touches))) (c.in-Err.ensures.step.touches honest)

pub returns-in-Ok-put_down-clause-both : goal.returns-in-Ok-put_down-clause-both
returns-in-Ok-put_down-clause-both g c = both_then c.in-Ok.ensures.step c.put_down.ensures.any (λ is. cc)

pub returns-in-Err-put_down-clause-both : goal.returns-in-Err-put_down-clause-both
returns-in-Err-put_down-clause-both g c = both_then c.in-Ok.ensures.step c.put_down.ensures.any (λ is. ap is_err c.in-Err-put_down.is)

pub returns-in-Ok-put_down-clause-reads : goal.returns-in-Ok-put_down-clause-reads
returns-in-Ok-put_down-clause-reads g c source = c.in-Ok.ensures.step.looks.reads source

pub returns-in-Err-put_down-clause-reads : goal.returns-in-Err-put_down-clause-reads
returns-in-Err-put_down-clause-reads g c source = c.in-Ok.ensures.step.looks.reads source

pub returns-in-Ok-put_down-clause-filled : goal.returns-in-Ok-put_down-clause-filled
returns-in-Ok-put_down-clause-filled g c source tree has honest =
    let before = c.put_down.ensures.any.earlier honest in
    let unused = unused_copied _ _ c.args.kept c.args.blocks _ c.requires.unused.numbers (omega (arith, c.requires.fit.least)) in
    let m = (g.T.Disk.state c.copy_entries.new.target).now in
    let there = maps_copied tree _ m c.args.kept c.args.blocks _ c.args.versions.now _ c.requires.fit.least c.requires.fit.most has (c.in-Ok.ensures.copied source before unused) in
    let maps = subst (λ (es : List Entry). HasMaps tree c.args.blocks es m) (sym c.deref.ensures.value) there in
    copied_now tree c.args.blocks _ _ _ (c.put_down.ensures.down honest tree maps) _ c.in-Ok-put_down.is

pub returns-in-Ok-put_down-clause-moments : goal.returns-in-Ok-put_down-clause-moments
returns-in-Ok-put_down-clause-moments g c source tree has honest clean none =
    let old = (g.T.Disk.state c.args.target.now).now in
    let touched = is_for_copies (next_of c.args.room.now.numbers) (next_of c.copy_entries.new.room.numbers) c.args.blocks in
    let apart = first_of_none c.args.kept c.args.blocks c.args.room.now.numbers c.copy_entries.new.room.numbers c.requires.unused.numbers in
    let before = c.put_down.ensures.any.earlier honest in
    let unused = unused_copied _ _ c.args.kept c.args.blocks _ c.requires.unused.numbers (omega (arith, c.requires.fit.least)) in
    let m = (g.T.Disk.state c.copy_entries.new.target).now in
    let there = maps_copied tree _ m c.args.kept c.args.blocks _ c.args.versions.now _ c.requires.fit.least c.requires.fit.most has (c.in-Ok.ensures.copied source before unused) in
    let maps = subst (λ (es : List Entry). HasMaps tree c.args.blocks es m) (sym c.deref.ensures.value) there in
    let wanted : Seen = record { tree = tree; blocks = c.args.blocks } in
    let keeps = weaken _ _ _ (KeepsFirst old) (λ m touches. first_untouched touched old m apart clean touches) (c.in-Ok.ensures.step.touches before) in
    let last = at_end _ _ _ keeps in
    let first = weaken _ _ _ (Leaves (ShowsAtMost wanted)) (λ m is. nothing_most wanted m (no_header old m none is)) keeps in
    and_then _ _ _ (Leaves (ShowsAtMost wanted)) first (c.put_down.ensures.moments tree maps honest last.clean (λ header. none (subst IsHeader last.same header)))

pub returns-in-Err-put_down-clause-moments : goal.returns-in-Err-put_down-clause-moments
returns-in-Err-put_down-clause-moments g c source tree has honest clean none =
    let old = (g.T.Disk.state c.args.target.now).now in
    let touched = is_for_copies (next_of c.args.room.now.numbers) (next_of c.copy_entries.new.room.numbers) c.args.blocks in
    let apart = first_of_none c.args.kept c.args.blocks c.args.room.now.numbers c.copy_entries.new.room.numbers c.requires.unused.numbers in
    let before = c.put_down.ensures.any.earlier honest in
    let unused = unused_copied _ _ c.args.kept c.args.blocks _ c.requires.unused.numbers (omega (arith, c.requires.fit.least)) in
    let m = (g.T.Disk.state c.copy_entries.new.target).now in
    let there = maps_copied tree _ m c.args.kept c.args.blocks _ c.args.versions.now _ c.requires.fit.least c.requires.fit.most has (c.in-Ok.ensures.copied source before unused) in
    let maps = subst (λ (es : List Entry). HasMaps tree c.args.blocks es m) (sym c.deref.ensures.value) there in
    let wanted : Seen = record { tree = tree; blocks = c.args.blocks } in
    let keeps = weaken _ _ _ (KeepsFirst old) (λ m touches. first_untouched touched old m apart clean touches) (c.in-Ok.ensures.step.touches before) in
    let last = at_end _ _ _ keeps in
    let first = weaken _ _ _ (Leaves (ShowsAtMost wanted)) (λ m is. nothing_most wanted m (no_header old m none is)) keeps in
    and_then _ _ _ (Leaves (ShowsAtMost wanted)) first (c.put_down.ensures.moments tree maps honest last.clean (λ header. none (subst IsHeader last.same header)))

pub returns-in-Ok-put_down-clause-bound : goal.returns-in-Ok-put_down-clause-bound
returns-in-Ok-put_down-clause-bound g c source honest =
    let before = c.put_down.ensures.any.earlier honest in
    let unused = unused_copied _ _ c.args.kept c.args.blocks _ c.requires.unused.numbers (omega (arith, c.requires.fit.least)) in
    let done = c.in-Ok.ensures.copied source before unused in
    omega (arith, c.in-Ok.ensures.step.paid refl, done.copied.within, c.requires.unused.numbers.1)

pub returns-in-Err-clause-held : goal.returns-in-Err-clause-held
returns-in-Err-clause-held g c source held has =
    let marked = c.in-Err.ensures.reached source held has.filed has.stands in
    record {
      lacks = λ is.
          let to : CopyFault → Result (Unit {0}) CopyFault = λ f. Err f in
          let none = ap to (full_fault c.in-Err.fault (cc (c.refusal_of.ensures, is))) in
          omega (arith, c.in-Err.ensures.step.full none, next_fewer _ held c.args.kept _ _ (record { unused = c.requires.unused.numbers; on = c.in-Err.ensures.step.numbers; first = has.first }) marked none);
      reads = λ is. cc;
    }

pub returns-in-Ok-put_down-clause-held : goal.returns-in-Ok-put_down-clause-held
returns-in-Ok-put_down-clause-held g c source held has =
    let marked = c.in-Ok.ensures.reached source held has.filed has.stands in
    record {
      lacks = λ is. cc;
      reads = λ is.
          omega (arith, c.in-Ok.ensures.step.paid refl, c.requires.unused.numbers.1, next_most _ held c.args.kept _ _ (record { unused = c.requires.unused.numbers; on = c.in-Ok.ensures.step.numbers; first = has.first }) marked);
    }

pub returns-in-Err-put_down-clause-held : goal.returns-in-Err-put_down-clause-held
returns-in-Err-put_down-clause-held g c source held has = record { lacks = λ is. cc; reads = λ is. cc }
