use Rattle.std.proofs.Common.{rules, Some, None, Err, inl, inr, sym, ap, ◌∙◌, arith}
use Rattle.vm_types.specs.declared.command.Command.TheVariants.{Remove}
use Rattle.vm_disk.proofs.MomentLemmas.{reads_then}
use Rattle.vm_tree.proofs.Looking.{passed_on}
use Rattle.vm_store.proofs.CarryLemmas.{looked, read_carried}
use Rattle.vm_store.proofs.FirstLemmas.{first_then, takes_none, unmarked_fault}
use Rattle.vm_store.proofs.MarkedLemmas.{free_at_most}
use Rattle.vm_store.proofs.SpareTests.{room_for, full_for, no_fewer}
use Rattle.vm_store.proofs.RestingLemmas.{found_entry, value_found}
use Rattle.vm_store.specs.Sizes.{sizes}
use Rattle.vm_store.specs.Store.{free_of, held_of}
use Rattle.vm_store.proofs.Removing.{is_absent, is_there, removes_missing, removes_full, removes_device, removes_alike, spare_after, spare_free}
use Rattle.vm_store.proofs.SeriesLemmas.{went_on, read_holds}
use Rattle.vm_store.proofs.store.Store.remove_after_look.Goals as goal

pub returns-then-not-branch-clause-carried : goal.returns-then-not-branch-clause-carried
returns-then-not-branch-clause-carried g c honest s holds =
    let rests = holds.rests in
    let e = c.args.version in
    let is = c.requires in
    let found = found_entry _ _ _ _ _ _ s rests c.args.alt.now e is in
    let holds' = read_holds _ _ _ _ _ _ _ _ _ s (c.in_ok-has.ensures.looks.reads honest) holds in
    looked _ _ s holds (Remove c.args.alt.now c.args.key) _ (removes_missing s c.args.alt.now c.args.key _ _
    (value_found _ _ _ _ _ _ s rests c.args.alt.now e is c.args.key None (is_absent _ (sym c.if-not-branch.true ∙ c.in_ok-has.ensures.found sizes honest found.filed.current found.stands.current.stands_in found.stands.current.rooted))))
    (c.in_ok-has.ensures.looks.reads honest) holds'.rests (λ _. holds')

pub returns-in_err-has-clause-carried : goal.returns-in_err-has-clause-carried
returns-in_err-has-clause-carried g c honest s holds =
    let rests = holds.rests in
    let e = c.args.version in
    let is = c.requires in
    let found = found_entry _ _ _ _ _ _ s rests c.args.alt.now e is in
    let holds' = read_holds _ _ _ _ _ _ _ _ _ s (c.in_err-has.ensures.looks.reads honest) holds in
    rw (passed_on _ c.from_residual.ensures.1)
    (looked _ _ s holds (Remove c.args.alt.now c.args.key) _ (removes_device s c.args.alt.now c.args.key _ _ c.in_err-has.field-0.0 (c.in_err-has.ensures.found sizes honest found.filed.current found.stands.current.stands_in found.stands.current.rooted))
    (c.in_err-has.ensures.looks.reads honest) holds'.rests (λ _. holds'))

pub returns-then-not-branch-2-clause-carried : goal.returns-then-not-branch-2-clause-carried
returns-then-not-branch-2-clause-carried g c honest s holds =
    let rests = holds.rests in
    let e = c.args.version in
    let is = c.requires in
    let found = found_entry _ _ _ _ _ _ s rests c.args.alt.now e is in
    let has = is_there _ (sym c.if-not-branch.false ∙ c.in_ok-has.ensures.found sizes (c.in_ok-has_spare.ensures.marking.any.earlier honest) found.filed.current found.stands.current.stands_in found.stands.current.rooted) in
    let there = value_found _ _ _ _ _ _ s rests c.args.alt.now e is c.args.key (Some has.0) has.1 in
    let read = c.in_ok-has.ensures.looks.reads (c.has_spare.ensures.marking.any.earlier honest) in
    let holds' = c.has_spare.ensures.marking.state honest s (read_holds _ _ _ _ _ _ _ _ _ s read holds) in
    looked _ _ s holds (Remove c.args.alt.now c.args.key) _ (removes_full s c.args.alt.now c.args.key _ _ _ there (full_for _ _ _ (spare_after _ _ _ _ _ _ _ _ _ s _ _ (c.in_ok-has.ensures.looks.reads (c.in_ok-has_spare.ensures.marking.any.earlier honest)) (c.in_ok-has_spare.ensures.spare honest) holds) c.if-not-branch-2.true))
    (reads_then _ _ _ read (c.has_spare.ensures.marking.reads honest)) holds'.rests (λ _. holds')

pub returns-in_err-has_spare-clause-carried : goal.returns-in_err-has_spare-clause-carried
returns-in_err-has_spare-clause-carried g c honest s holds =
    let read = c.in_ok-has.ensures.looks.reads (c.has_spare.ensures.marking.any.earlier honest) in
    let holds' = c.has_spare.ensures.marking.state honest s (read_holds _ _ _ _ _ _ _ _ _ s read holds) in
    rw (passed_on _ c.from_residual-in_err-has_spare.ensures.1)
    (looked _ _ s holds (Remove c.args.alt.now c.args.key) _ (inl (ap Err (c.in_err-has_spare.ensures.marking.only honest s (read_holds _ _ _ _ _ _ _ _ _ s (c.in_ok-has.ensures.looks.reads (c.in_err-has_spare.ensures.marking.any.earlier honest)) holds))))
    (reads_then _ _ _ read (c.has_spare.ensures.marking.reads honest)) holds'.rests (λ _. holds'))

pub returns-clause-carried : goal.returns-clause-carried
returns-clause-carried g c honest s holds =
    let rests = holds.rests in
    let e = c.args.version in
    let marked = c.remove_in_series.ensures.any.earlier honest in
    let found = found_entry _ _ _ _ _ _ s rests c.args.alt.now e c.requires in
    let has = is_there _ (sym c.if-not-branch.false ∙ c.in_ok-has.ensures.found sizes (c.in_ok-has_spare.ensures.marking.any.earlier marked) found.filed.current found.stands.current.stands_in found.stands.current.rooted) in
    let there = value_found _ _ _ _ _ _ s rests c.args.alt.now e c.requires c.args.key (Some has.0) has.1 in
    let read = c.in_ok-has.ensures.looks.reads (c.has_spare.ensures.marking.any.earlier marked) in
    let mid = c.has_spare.new.self in
    let holds' = c.has_spare.ensures.marking.state marked s (read_holds _ _ _ _ _ _ _ _ _ s read holds) in
    let between = went_on _ _ _ _ _ _ _ s c.args.alt.now mid.parts.before mid.parts.series _ c.go_on.ensures.series c.go_on.ensures.before holds' in
    let enough = no_fewer _ _ (omega (arith, c.in_ok-has_spare.ensures.free, free_at_most _ _ _ _ _ _ s mid.parts.bits between.rests)) in
    let room = room_for _ _ _ (spare_after _ _ _ _ _ _ _ _ _ s _ _ (c.in_ok-has.ensures.looks.reads (c.in_ok-has_spare.ensures.marking.any.earlier marked)) (c.in_ok-has_spare.ensures.spare marked) holds) c.if-not-branch-2.false in
    let carried = c.remove_in_series.ensures.carried honest s between (inr (λ missing. let clash = there ∙ missing in cc)) in
    read_carried _ _ _ s holds between (Remove c.args.alt.now c.args.key) _ (reads_then _ _ _ read (c.has_spare.ensures.marking.reads marked)) (removes_alike s c.args.alt.now c.args.key _ _ _ _ enough room carried.answers) carried

pub returns-then-not-branch-2-clause-marked : goal.returns-then-not-branch-2-clause-marked
returns-then-not-branch-2-clause-marked g c honest full s holds =
    let earlier = c.has_spare.ensures.marking.any.earlier honest in
    spare_free _ _ _ _ _ _ _ _ _ s _ (c.in_ok-has.ensures.looks.reads earlier) (λ s' holds'. c.in_ok-has_spare.ensures.marked honest s' holds' (search rules)) holds

pub returns-then-not-branch-2-clause-reads : goal.returns-then-not-branch-2-clause-reads
returns-then-not-branch-2-clause-reads g c honest full =
    reads_then _ _ _ (c.in_ok-has.ensures.looks.reads (c.has_spare.ensures.marking.any.earlier honest)) (c.has_spare.ensures.marking.reads honest)

pub returns-then-not-branch-clause-reads : goal.returns-then-not-branch-clause-reads
returns-then-not-branch-clause-reads g c honest first = c.in_ok-has.ensures.looks.reads honest

pub returns-in_err-has-clause-reads : goal.returns-in_err-has-clause-reads
returns-in_err-has-clause-reads g c honest = rw (passed_on _ c.from_residual.ensures.1) (λ first. c.in_err-has.ensures.looks.reads honest)

pub returns-in_err-has_spare-clause-reads : goal.returns-in_err-has_spare-clause-reads
returns-in_err-has_spare-clause-reads g c honest =
    rw (passed_on _ c.from_residual-in_err-has_spare.ensures.1) (λ first. reads_then _ _ _ (c.in_ok-has.ensures.looks.reads (c.has_spare.ensures.marking.any.earlier honest)) (c.has_spare.ensures.marking.reads honest))

pub returns-clause-reads : goal.returns-clause-reads
returns-clause-reads g c honest =
    let marked = c.remove_in_series.ensures.any.earlier honest in
    first_then c.remove_in_series.result c.args.self.now c.has_spare.new.self c.remove_in_series.new.self (reads_then _ _ _ (c.in_ok-has.ensures.looks.reads (c.has_spare.ensures.marking.any.earlier marked)) (c.has_spare.ensures.marking.reads marked)) (c.remove_in_series.ensures.reads honest)

pub returns-clause-free : goal.returns-clause-free
returns-clause-free g c =
    let taken = c.remove_in_series.ensures.free.0 (c.in_ok-has_spare.ensures.free (search rules)) in (
      λ enough. omega (arith, ap free_of (c.has_spare.ensures.enough enough), taken),
      λ honest few late s holds. let marked = c.remove_in_series.ensures.any.earlier honest in
          omega (arith, spare_free _ _ _ _ _ _ _ _ _ s _ (c.in_ok-has.ensures.looks.reads (c.has_spare.ensures.marking.any.earlier marked)) (c.in_ok-has_spare.ensures.exact marked few) holds, taken),
    )

pub returns-then-not-branch-2-clause-free : goal.returns-then-not-branch-2-clause-free
returns-then-not-branch-2-clause-free g c = (
  λ enough. omega (arith, ap free_of (c.has_spare.ensures.enough enough)),
  λ honest few late s holds. omega (arith, spare_free _ _ _ _ _ _ _ _ _ s _ (c.in_ok-has.ensures.looks.reads (c.has_spare.ensures.marking.any.earlier honest)) (c.in_ok-has_spare.ensures.exact honest few) holds),
)

pub returns-in_err-has_spare-clause-free : goal.returns-in_err-has_spare-clause-free
returns-in_err-has_spare-clause-free g c =
    rw (passed_on _ c.from_residual-in_err-has_spare.ensures.1)
    (takes_none 8 _ c.args.self.now c.has_spare.new.self (λ enough. ap held_of (c.has_spare.ensures.enough enough))
    (λ honest s holds. c.in_err-has_spare.ensures.marking.only honest s (read_holds _ _ _ _ _ _ _ _ _ s (c.in_ok-has.ensures.looks.reads (c.in_err-has_spare.ensures.marking.any.earlier honest)) holds)))

pub returns-in_err-has-clause-free : goal.returns-in_err-has-clause-free
returns-in_err-has-clause-free g c =
    rw (passed_on _ c.from_residual.ensures.1) (λ enough. omega arith, λ honest few late. absurd (unmarked_fault c.in_err-has.field-0.0 late))
