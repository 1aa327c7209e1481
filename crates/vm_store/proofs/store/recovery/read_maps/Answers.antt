use Rattle.std.proofs.Common.{◌≤◌, refl, false, length, subst, sym, ap, ◌∙◌, arith}
use Rattle.std.proofs.lemmas.List.{length-replicate}
use Rattle.vm_types.specs.State.{Seen, opened}
use Rattle.vm_disk.specs.Disk.{Medium}
use Rattle.vm_disk.proofs.MomentLemmas.{same_medium}
use Rattle.vm_alloc.specs.Marks.{IsMarked}
use Rattle.vm_tree.proofs.ScanLemmas.{fault_lists}
use Rattle.vm_tree.proofs.Looking.{passed_on}
use Rattle.vm_store.specs.Filed.{Anywhere, tree_of}
use Rattle.vm_store.specs.Rest.{Rests}
use Rattle.vm_store.proofs.StandingLemmas.{standing_in}
use Rattle.vm_store.specs.Shown.{Shows}
use Rattle.vm_store.proofs.AddedLemmas.{roots_count}
use Rattle.vm_store.proofs.OpeningLemmas.{freed, freed_on, found_as_named, found_here, found_alike, trees_back, trees_here, rests_named, shows_found, rests_found, fault_refused, maps_told, untold_maps}
use Rattle.vm_store.proofs.SeriesLemmas.{holds_alone}
use Rattle.vm_store.proofs.store.recovery.read_maps.Goals as goal

pub versions_twice-requires-clause-roots : goal.versions_twice-requires-clause-roots
versions_twice-requires-clause-roots g c =
    roots_count _ _ _ _ _ _ _ c.deref-4.ensures.value c.in_ok-roots.ensures.given.roots c.deref-2.ensures.value c.in-Some-Ok-Ok.ensures c.deref.ensures.value c.deref-3.ensures.value

pub invariant_of-result : goal.invariant_of-result
invariant_of-result g c =
    let head = c.requires.fits.head in
    record {
      least = head.least;
      most = head.most;
      kept_least = head.least;
      kept_most = omega arith;
      bits = c.replace.ensures.count ∙ c.in-Some-Ok-Ok.ensures'.count;
      mark_bits = c.in_ok-roots.ensures.given.count;
      before_bits = ap length c.in-Some-Ok-Ok.ensures'' ∙ length-replicate c.args.slot.blocks false;
      room_entries = c.requires.reserved;
    }

pub returns-clause-holds : goal.returns-clause-holds
returns-clause-holds g c honest clean store in_use slot trees =
    let m = (g.D.Disk.state c.args.disk.now).now in
    let limit = c.args.slot.blocks in
    let whole = g.met.D.Disk.whole c.args.disk.now (c.walk_trees.ensures.looks.goes.earlier honest) in
    let inside : limit ≤ length m.contents = omega (arith, whole, c.requires.inside) in
    let read = same_medium _ _ (c.walk_trees.ensures.looks.reads honest) in
    let told = c.in_ok-roots.ensures.found honest (trees_here _ _ _ _ _ _ c.deref-2.ensures.value c.in-Some-Ok-Ok.ensures c.deref.ensures.value trees) in
    let found = found_here _ _ _ _ _ _ _ _ c.deref-2.ensures.value c.in-Some-Ok-Ok.ensures c.deref.ensures.value told in
    let are = c.in-Some.ensures in
    let alike = found_alike _ _ _ _ c.deref-3.ensures.value c.deref-4.ensures.value in
    let seen : Seen = record { tree = tree_of found.filed; blocks = limit } in
    let rests = rests_found m limit c.args.slot_name c.args.slot.entries.items clean store in_use slot inside c.in_ok-roots.marks c.replace.new.self _ found.filed found.same c.replace.ensures.system c.replace.ensures.marked found.stands in
    record {
      seen = seen;
      shown = subst (λ (n : Medium). Shows n.contents seen) (sym read) (shows_found m limit c.args.slot_name c.args.slot.entries.items clean store in_use slot inside _ found.filed found.same
          (standing_in (IsMarked c.in_ok-roots.marks) Anywhere m.contents m.contents limit (λ n is. refl) (λ n is. tt) _ found.filed found.stands));
      stands = record {
        holds = holds_alone refl (subst (λ (n : Medium). Rests n limit c.args.slot_name c.replace.new.self c.in-Some.committed c.in-Some.working (opened seen)) (sym read)
            (rests_named m limit c.args.slot_name c.replace.new.self _ c.in-Some.committed c.in-Some.working (opened seen) (are.0 ∙ alike) (are.1 ∙ alike) rests));
        free = λ s holds. freed_on m _ limit c.args.slot_name c.replace.new.self c.in-Some.committed c.in-Some.working read
            (freed m limit c.args.slot_name c.replace.new.self c.in-Some.committed c.in-Some.working c.args.slot.entries.items c.in_ok-roots.roots.items c.in_ok-roots.marks (are.0 ∙ alike) (are.1 ∙ alike)
            (found_as_named _ _ _ _ _ _ _ _ c.deref-2.ensures.value c.in-Some-Ok-Ok.ensures c.deref.ensures.value told) (c.replace.ensures.count ∙ c.in-Some-Ok-Ok.ensures'.count) c.replace.ensures.system c.replace.ensures.marked) s holds.rests;
      };
    }

pub returns-clause-topped : goal.returns-clause-topped
returns-clause-topped g c inner honest =
    let are = c.in-Some.ensures in
    let alike = found_alike _ _ _ _ c.deref-3.ensures.value c.deref-4.ensures.value in
    record {
      roots = c.in_ok-roots.roots.items;
      blocks = refl;
      committed = are.0 ∙ alike;
      working = are.1 ∙ alike;
      topped = c.in_ok-roots.ensures.topped inner honest;
    }

pub returns-clause-whole : goal.returns-clause-whole
returns-clause-whole g c whole honest =
    trees_back _ _ _ _ _ _ c.deref-2.ensures.value c.in-Some-Ok-Ok.ensures c.deref.ensures.value (c.in_ok-roots.ensures.whole whole honest)

pub returns-in_err-roots-clause-refused : goal.returns-in_err-roots-clause-refused
returns-in_err-roots-clause-refused g c honest store in_use slot =
    let m = (g.D.Disk.state c.args.disk.now).now in
    let whole = g.met.D.Disk.whole c.args.disk.now (c.walk_trees.ensures.looks.goes.earlier honest) in
    let inside : c.args.slot.blocks ≤ length m.contents = omega (arith, whole, c.requires.inside) in
    rw (passed_on _ c.from_residual.ensures.1)
    (fault_refused m c.args.slot.blocks c.args.slot_name c.args.slot.entries.items store in_use slot inside c.in_err-roots.field-0.0
    (λ trees. fault_lists c.in_err-roots.field-0.0 _ _ (c.in_err-roots.ensures.found honest (trees_here _ _ _ _ _ _ c.deref-2.ensures.value c.in-Some-Ok-Ok.ensures c.deref.ensures.value trees))))

pub returns-in_err-roots-clause-damaged : goal.returns-in_err-roots-clause-damaged
returns-in_err-roots-clause-damaged g c survey =
    rw (passed_on _ c.from_residual.ensures.1)
    (maps_told _ _ _ _ _ _ c.in_err-roots.field-0.0 c.deref-2.ensures.value c.in-Some-Ok-Ok.ensures c.deref.ensures.value (c.in_err-roots.ensures.damaged survey))

pub returns-in_default-clause-damaged : goal.returns-in_default-clause-damaged
returns-in_default-clause-damaged g c survey = untold_maps _ _ _ _ _ (λ n is. cc)

pub returns-in_default-versions_twice-clause-damaged : goal.returns-in_default-versions_twice-clause-damaged
returns-in_default-versions_twice-clause-damaged g c survey = record { all = λ n is. cc; none = λ other. c.in_ok-roots.ensures.damaged survey }
