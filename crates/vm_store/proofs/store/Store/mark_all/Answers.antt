use Rattle.std.proofs.Common.{ap, refl, rules, sym, ◌∙◌}
use Rattle.vm_disk.proofs.MomentLemmas.{reads_then, same_medium}
use Rattle.vm_tree.specs.Faults.{refusal_of}
use Rattle.vm_tree.proofs.Looking.{passed_on}
use Rattle.vm_store.proofs.MarkedLemmas.{first_reach, first_closed, second_reach, second_closed, both_marked, free_exactly, rests_marked}
use Rattle.vm_store.proofs.SeriesLemmas.{holds_marked, read_holds}
use Rattle.vm_store.proofs.store.Store.mark_all.Goals as goal

pub returns-clause-exact : goal.returns-clause-exact
returns-clause-exact g c honest s holds =
    let rests = holds.rests in
    let self = c.args.self.now in
    let read = same_medium _ _ (c.mark_versions.ensures.looks.reads (c.in_ok-mark_versions-2.ensures.looks.goes.earlier honest)) in
    let reach = first_reach _ _ _ _ _ _ s rests self.parts.marks c.clear.new.self self.parts.mark_bits c.clear.ensures _ c.as_slice.ensures.items in
    let clear = first_closed _ _ _ _ _ _ s rests self.parts.marks c.clear.new.self self.parts.mark_bits c.clear.ensures _ c.as_slice.ensures.items in
    let then = second_reach _ _ _ _ _ _ s rests self.parts.marks c.clear.new.self self.parts.mark_bits c.clear.ensures _ c.as_slice.ensures.items c.mark_versions.new.marks _ read c.mark_versions.ensures.many _ c.as_slice-2.ensures.items in
    let closed = second_closed _ _ _ _ _ _ s rests self.parts.marks c.clear.new.self self.parts.mark_bits c.clear.ensures _ c.as_slice.ensures.items c.mark_versions.new.marks _ read c.mark_versions.ensures.many _ c.as_slice-2.ensures.items (c.in_ok-mark_versions.ensures.closed (c.in_ok-mark_versions-2.ensures.looks.goes.earlier honest) _ reach clear) in
    let marked = both_marked _ _ _ _ _ _ s rests self.parts.marks c.clear.new.self self.parts.mark_bits c.clear.ensures _ c.as_slice.ensures.items c.mark_versions.new.marks _ read c.mark_versions.ensures.many _ c.as_slice-2.ensures.items
    c.mark_versions-2.new.marks (c.in_ok-mark_versions.ensures.marked (c.in_ok-mark_versions-2.ensures.looks.goes.earlier honest) _ reach clear) (c.in_ok-mark_versions-2.ensures.marked honest _ then closed) in
    free_exactly _ _ _ _ _ _ s self.parts.bits rests c.mark_versions-2.new.marks marked c.replace.new.self (c.replace.ensures.count ∙ self.parts.bits) c.replace.ensures.system c.replace.ensures.marked

pub returns-in_err-mark_versions-clause-marking : goal.returns-in_err-mark_versions-clause-marking
returns-in_err-mark_versions-clause-marking g c = record {
  any = search rules;
  failed = refl;
  never = search rules;
  late = search rules;
  same = refl;
  roots = refl;
  reads = c.mark_versions.ensures.looks.reads;
  only = λ honest s holds.
      let rests = holds.rests in
      let self = c.args.self.now in
      let reach = first_reach _ _ _ _ _ _ s rests self.parts.marks c.clear.new.self self.parts.mark_bits c.clear.ensures _ c.as_slice.ensures.items in
      rw (passed_on _ c.from_residual.ensures.1)
      (ap refusal_of (c.in_err-mark_versions.ensures.marked honest _ reach (first_closed _ _ _ _ _ _ s rests self.parts.marks c.clear.new.self self.parts.mark_bits c.clear.ensures _ c.as_slice.ensures.items)));
  state = λ honest s holds. read_holds _ _ _ _ _ _ _ _ _ s (c.mark_versions.ensures.looks.reads honest) holds;
}

pub returns-in_err-mark_versions-2-clause-marking : goal.returns-in_err-mark_versions-2-clause-marking
returns-in_err-mark_versions-2-clause-marking g c = record {
  any = search rules;
  failed = refl;
  never = search rules;
  late = search rules;
  same = refl;
  roots = refl;
  reads = λ honest.
      reads_then _ _ _ (c.mark_versions.ensures.looks.reads (c.mark_versions-2.ensures.looks.goes.earlier honest)) (c.mark_versions-2.ensures.looks.reads honest);
  only = λ honest s holds.
      let rests = holds.rests in
      let self = c.args.self.now in
      let read = same_medium _ _ (c.mark_versions.ensures.looks.reads (c.in_err-mark_versions-2.ensures.looks.goes.earlier honest)) in
      let reach = first_reach _ _ _ _ _ _ s rests self.parts.marks c.clear.new.self self.parts.mark_bits c.clear.ensures _ c.as_slice.ensures.items in
      let clear = first_closed _ _ _ _ _ _ s rests self.parts.marks c.clear.new.self self.parts.mark_bits c.clear.ensures _ c.as_slice.ensures.items in
      let then = second_reach _ _ _ _ _ _ s rests self.parts.marks c.clear.new.self self.parts.mark_bits c.clear.ensures _ c.as_slice.ensures.items c.mark_versions.new.marks _ read c.mark_versions.ensures.many _ c.as_slice-2.ensures.items in
      let closed = second_closed _ _ _ _ _ _ s rests self.parts.marks c.clear.new.self self.parts.mark_bits c.clear.ensures _ c.as_slice.ensures.items c.mark_versions.new.marks _ read c.mark_versions.ensures.many _ c.as_slice-2.ensures.items (c.in_ok-mark_versions.ensures.closed (c.in_err-mark_versions-2.ensures.looks.goes.earlier honest) _ reach clear) in
      rw (passed_on _ c.from_residual-in_err-mark_versions-2.ensures.1)
      (ap refusal_of (c.in_err-mark_versions-2.ensures.marked honest _ then closed));
  state = λ honest s holds.
      read_holds _ _ _ _ _ _ _ _ _ s (reads_then _ _ _ (c.mark_versions.ensures.looks.reads (c.mark_versions-2.ensures.looks.goes.earlier honest)) (c.mark_versions-2.ensures.looks.reads honest)) holds;
}

pub returns-clause-marking : goal.returns-clause-marking
returns-clause-marking g c = record {
  any = search rules;
  failed = refl;
  never = search rules;
  late = search rules;
  same = refl;
  roots = refl;
  reads = λ honest.
      reads_then _ _ _ (c.mark_versions.ensures.looks.reads (c.mark_versions-2.ensures.looks.goes.earlier honest)) (c.mark_versions-2.ensures.looks.reads honest);
  only = λ honest s holds. tt;
  state = λ honest s holds.
      let rests = holds.rests in
      let self = c.args.self.now in
      let read = same_medium _ _ (c.mark_versions.ensures.looks.reads (c.mark_versions-2.ensures.looks.goes.earlier honest)) in
      let reach = first_reach _ _ _ _ _ _ s rests self.parts.marks c.clear.new.self self.parts.mark_bits c.clear.ensures _ c.as_slice.ensures.items in
      let clear = first_closed _ _ _ _ _ _ s rests self.parts.marks c.clear.new.self self.parts.mark_bits c.clear.ensures _ c.as_slice.ensures.items in
      let then = second_reach _ _ _ _ _ _ s rests self.parts.marks c.clear.new.self self.parts.mark_bits c.clear.ensures _ c.as_slice.ensures.items c.mark_versions.new.marks _ read c.mark_versions.ensures.many _ c.as_slice-2.ensures.items in
      let closed = second_closed _ _ _ _ _ _ s rests self.parts.marks c.clear.new.self self.parts.mark_bits c.clear.ensures _ c.as_slice.ensures.items c.mark_versions.new.marks _ read c.mark_versions.ensures.many _ c.as_slice-2.ensures.items (c.in_ok-mark_versions.ensures.closed (c.mark_versions-2.ensures.looks.goes.earlier honest) _ reach clear) in
      let marked = both_marked _ _ _ _ _ _ s rests self.parts.marks c.clear.new.self self.parts.mark_bits c.clear.ensures _ c.as_slice.ensures.items c.mark_versions.new.marks _ read c.mark_versions.ensures.many _ c.as_slice-2.ensures.items
      c.mark_versions-2.new.marks (c.in_ok-mark_versions.ensures.marked (c.mark_versions-2.ensures.looks.goes.earlier honest) _ reach clear) (c.in_ok-mark_versions-2.ensures.marked honest _ then closed) in
      let many = c.replace.ensures.count ∙ self.parts.bits in
      let stands = rests_marked _ _ _ _ _ _ s self.parts.bits rests c.mark_versions-2.new.marks marked c.replace.new.self many c.replace.ensures.system c.replace.ensures.marked in
      -- the same of the trees as they stand after it
      let reach' = first_reach _ _ _ _ _ _ s stands self.parts.marks c.clear.new.self self.parts.mark_bits c.clear.ensures _ c.as_slice.ensures.items in
      let then' = second_reach _ _ _ _ _ _ s stands self.parts.marks c.clear.new.self self.parts.mark_bits c.clear.ensures _ c.as_slice.ensures.items c.mark_versions.new.marks _ read c.mark_versions.ensures.many _ c.as_slice-2.ensures.items in
      let marked' = both_marked _ _ _ _ _ _ s stands self.parts.marks c.clear.new.self self.parts.mark_bits c.clear.ensures _ c.as_slice.ensures.items c.mark_versions.new.marks _ read c.mark_versions.ensures.many _ c.as_slice-2.ensures.items
      c.mark_versions-2.new.marks (c.in_ok-mark_versions.ensures.marked (c.mark_versions-2.ensures.looks.goes.earlier honest) _ reach' clear) (c.in_ok-mark_versions-2.ensures.marked honest _ then' closed) in
      let exact = free_exactly _ _ _ _ _ _ s many stands c.mark_versions-2.new.marks marked' c.replace.new.self many c.replace.ensures.system c.replace.ensures.marked in
      let read-all = same_medium _ _ (reads_then _ _ _ (c.mark_versions.ensures.looks.reads (c.mark_versions-2.ensures.looks.goes.earlier honest)) (c.mark_versions-2.ensures.looks.reads honest)) in
      holds_marked _ _ _ _ _ self.parts.before c.replace.new.self c.keep_held.new.self _ _ _ s read-all (many ∙ sym (c.keep_held.ensures.count ∙ self.parts.before_bits)) c.keep_held.ensures.kept stands exact holds;
}
