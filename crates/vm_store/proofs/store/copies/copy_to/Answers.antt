use Rattle.std.proofs.Common.{List, ap, inl, inr, refl, subst, sym, arith, rules}
use Rattle.std.specs.Result.{is_err}
use Rattle.vm_disk.proofs.MomentLemmas.{and_then, at_end, weaken}
use Rattle.vm_store.specs.Store.{disk_of}
use Rattle.vm_store.specs.declared.version.Version.{Version}
use Rattle.vm_store.specs.Copies.{HasVersions, HoldsVersions, IsCopying, IsOfCopy, IsOfFill, IsOfTarget, in_blocks}
use Rattle.vm_store.proofs.CopyingLemmas.{both_after, both_target, fill_blank, fill_late, held_reads, refused_so, versions_held, versions_kept}
use Rattle.vm_store.proofs.FormattingLemmas.{none_synced, not_true, still_there}
use Rattle.vm_store.proofs.PartsLemmas.{same_parts}
use Rattle.vm_store.proofs.store.copies.copy_to.Goals as goal

pub returns-in-Err-clause-spares : goal.returns-in-Err-clause-spares
returns-in-Err-clause-spares g c = record {
  already = search rules;
  was_there = λ honest header. (refl, still_there _ _ (at_end _ _ _ (c.in-Err.ensures.moments honest)));
}

pub returns-in-Err-clause-both : goal.returns-in-Err-clause-both
returns-in-Err-clause-both g c = both_target _ c.has_header.ensures.any (λ is. ap is_err c.in-Err.is)

pub returns-in-Err-clause-moments : goal.returns-in-Err-clause-moments
returns-in-Err-clause-moments g c source s holds honest =
    let old = (g.T.Disk.state c.args.target.now).now in
    weaken _ _ _ (IsCopying (in_blocks s c.args.blocks) old) (λ m so_far. inl so_far) (c.in-Err.ensures.moments honest)

pub returns-clause-both : goal.returns-clause-both
returns-clause-both g c = both_after c.has_header.ensures.any c.fill.ensures.both (λ is. is)

pub returns-clause-same : goal.returns-clause-same
returns-clause-same g c = record { alloc = refl; parts = same_parts _ _ refl refl refl refl refl refl refl refl refl refl refl refl; failed = refl }

pub returns-clause-late : goal.returns-clause-late
returns-clause-late g c = refused_so _ IsOfFill _ fill_late c.fill.ensures.refusals

pub returns-clause-sound : goal.returns-clause-sound
returns-clause-sound g c source s holds =
    refused_so _ IsOfTarget IsOfCopy (λ r is. inr (inr (inr (inr is)))) (c.fill.ensures.sound source s.committed (subst (λ (vs : List Version). HasVersions s.committed c.args.source.now.parts.kept vs (g.S.Disk.state (disk_of c.args.source.now)).now.contents) (sym c.as_slice.ensures.items) (versions_kept _ _ _ _ _ _ _ s holds.keeps holds.rests)))

pub returns-clause-spares : goal.returns-clause-spares
returns-clause-spares g c = record {
  already = λ honest is. absurd (fill_blank _ c.fill.ensures.refusals is);
  was_there = λ honest header. absurd (not_true _ c.in-Ok-false.field-0-test (c.in-Ok-false.ensures.header (c.fill.ensures.both.target.earlier honest)) header);
}

pub returns-clause-copied : goal.returns-clause-copied
returns-clause-copied g c source s holds honest =
    c.fill.ensures.filled source s.committed (subst (λ (vs : List Version). HasVersions s.committed c.args.source.now.parts.kept vs (g.S.Disk.state (disk_of c.args.source.now)).now.contents) (sym c.as_slice.ensures.items) (versions_kept _ _ _ _ _ _ _ s holds.keeps holds.rests)) honest

pub returns-clause-moments : goal.returns-clause-moments
returns-clause-moments g c source s holds honest =
    let old = (g.T.Disk.state c.args.target.now).now in
    let before = c.fill.ensures.both.target.earlier honest in
    let synced = c.in-Ok-false.ensures.synced before (λ e. cc) in
    let none = not_true _ c.in-Ok-false.field-0-test (c.in-Ok-false.ensures.header before) in
    let P = IsCopying (in_blocks s c.args.blocks) old in
    let has = subst (λ (vs : List Version). HasVersions s.committed c.args.source.now.parts.kept vs (g.S.Disk.state (disk_of c.args.source.now)).now.contents) (sym c.as_slice.ensures.items) (versions_kept _ _ _ _ _ _ _ s holds.keeps holds.rests) in
    let looked = weaken _ _ _ P (λ m so_far. inl so_far) (c.has_header.ensures.moments before) in
    let filled = weaken _ _ _ P (λ m leaves. inr (none, leaves)) (c.fill.ensures.moments source s.committed has honest (synced.clean 0) (none_synced _ _ synced (λ header. none (inl header)))) in
    and_then _ _ _ P looked filled

pub returns-clause-held : goal.returns-clause-held
returns-clause-held g c source s holds =
    held_reads _ _ _ _ _ _ c.fill.result (c.fill.ensures.held source c.args.source.now.parts.held (subst (λ (vs : List Version). HoldsVersions c.args.source.now.parts.held c.args.source.now.parts.kept vs (g.S.Disk.state (disk_of c.args.source.now)).now.contents) (sym c.as_slice.ensures.items) (versions_held _ _ _ _ _ _ _ s holds.keeps holds.rests))) c.args.source.now.parts.bits

pub returns-clause-full : goal.returns-clause-full
returns-clause-full g c source s holds is =
    let held = c.fill.ensures.held source c.args.source.now.parts.held (subst (λ (vs : List Version). HoldsVersions c.args.source.now.parts.held c.args.source.now.parts.kept vs (g.S.Disk.state (disk_of c.args.source.now)).now.contents) (sym c.as_slice.ensures.items) (versions_held _ _ _ _ _ _ _ s holds.keeps holds.rests)) in
    omega (arith, held.lacks is, c.args.source.now.parts.bits)
