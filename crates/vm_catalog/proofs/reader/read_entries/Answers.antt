use Rattle.std.proofs.Common.{◌≡◌, Some, None, ◌∙◌, refl, arith}
use Rattle.vm_catalog.proofs.ReadingLemmas.{taken_none, taken_more}
use Rattle.vm_catalog.proofs.reader.read_entries.Goals as goal

pub loop-i-init : goal.loop-i-init
loop-i-init g c =
    record { room = refl; many = omega arith; taken = taken_none _ _ _ }

pub loop-i-preserved : goal.loop-i-preserved
loop-i-preserved g c =
    let so_far = c.loop-i.invariant in
    record {
      room = c.push_reserved.ensures.capacity ∙ so_far.room;
      many = omega arith;
      taken = taken_more _ _ _ _ _ _ c.in-Some.entry so_far.taken c.in-Some.ensures.found c.push_reserved.ensures.items;
    }

pub returns-in-None : goal.returns-in-None
returns-in-None g c =
    record {
      room = c.loop-i.invariant.room;
      found = tt;
      only = λ each.
          let has = each c.loop-i.i c.loop-i-test.true in
          let refused : None ≡ Some has.entry = c.in-None.ensures.only has.entry has.here in
          absurd cc;
    }
