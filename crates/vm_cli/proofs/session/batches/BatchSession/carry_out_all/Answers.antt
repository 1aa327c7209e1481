use Rattle.std.proofs.Common.{◌≡◌, ◌<◌, ◌+◌, ◌++◌, ◌∙◌, false, [], ◌∷◌, Ok, Err, ap, refl, sym, subst, arith, length, drop}
use Rattle.std.proofs.lemmas.List.{drop-set, length-set}
use Rattle.std.specs.Prelude.{slice_range, slice_set}
use Rattle.vm_types.specs.State.{after}
use Rattle.vm_cli.specs.session.Rounds.{Batch as Commanded}
use Rattle.vm_cli.specs.session.Streams.{HoldsLines}
use Rattle.vm_cli.specs.session.Waiting.{CarriesAll}
use Rattle.vm_cli.specs.session.WaitingCalls.{kept_answers}
use Rattle.vm_cli.specs.declared.session.ServeFault.TheVariants as fault
use Rattle.vm_cli.specs.declared.session.waiting.WaitingBatch.{WaitingBatch}
use Rattle.vm_cli.proofs.EndLemmas.{feeds_none, feeds_then}
use Rattle.vm_cli.proofs.WaitingLemmas.{are_first, behind_read, carries_more, kept_more, range_more, range_none, stay_set}
use Rattle.vm_cli.proofs.session.batches.BatchSession.carry_out_all.Goals as goal

pub loop-at-init : goal.loop-at-init
loop-at-init g c =
    let old = c.args.store.now in
    let none : Commanded = record { commands = []; answers = [] } in
    record {
      count = refl;
      waits = λ waiting are. are;
      store = feeds_none old false;
      carried = λ s waiting are. (
        none,
        subst (λ ws. CarriesAll old old s c.args.self.now.manner ws (kept_answers (slice_range c.args.waiting.now.items c.args.from c.args.from)) none) (sym (range_none waiting c.args.from))
            (record { same = refl; silent = ap kept_answers (range_none c.args.waiting.now.items c.args.from); nothing = refl }),
      );
    }

pub loop-at-preserved : goal.loop-at-preserved
loop-at-preserved g c =
    let so_far = c.loop-at.invariant in
    let queue = c.loop-at.waiting.items in
    let at = c.loop-at.at in
    let own = c.index_mut-own.result.now in
    let other : WaitingBatch = record { number = own.number; batch = own.batch; answers = c.carry_out.new.answers } in
    let old = c.args.store.now in
    let mid = c.loop-at.store in
    let new = c.carry_out.new.store in
    let lt : at < length queue = omega (arith, c.loop-at-test.true, c.requires.within, so_far.count, c.args.waiting.now.ok.0) in
    record {
      count = length-set queue at other ∙ so_far.count;
      waits = λ waiting are. stay_set queue at own other (λ it is. record { number = is.number; begun = is.begun; lines = is.lines }) c.index_mut-own.ensures.value waiting (so_far.waits waiting are);
      store = feeds_then old mid new false so_far.store (Ok false) c.in_default.ensures.store;
      carried = λ s waiting are.
          let carried = so_far.carried s waiting are in
          let here = are_first own (drop (at + 1) queue) queue waiting at (so_far.waits waiting are) (behind_read queue at own c.index_mut-own.ensures.value lt) in
          let lines : HoldsLines c.as_slice-lines.result.now here.it.lines = subst (λ ls. HoldsLines ls here.it.lines) (sym c.as_slice-lines.ensures.value) here.is.lines.1 in
          let more =
          carries_more old mid new s c.args.self.now.manner (slice_range waiting c.args.from at) here.it (kept_answers (slice_range queue c.args.from at)) c.carry_out.new.answers.items carried.0 carried.1
          (c.in_default.ensures.carried (after s carried.0.commands carried.0.answers) here.it.lines lines) in (
            more.0,
            subst (λ ws. CarriesAll old new s c.args.self.now.manner ws (kept_answers (slice_range (slice_set queue at other) c.args.from (at + 1))) more.0) (sym (range_more waiting c.args.from at here.it here.behind here.first c.loop-at.auto.at))
                (subst (λ texts. CarriesAll old new s c.args.self.now.manner (slice_range waiting c.args.from at ++ here.it ∷ []) texts more.0) (sym (kept_more queue c.args.from at other c.loop-at.auto.at lt)) more.1),
          );
    }

pub returns-in-Err-clause-carries : goal.returns-in-Err-clause-carries
returns-in-Err-clause-carries g c =
    let so_far = c.loop-at.invariant in
    let queue = c.loop-at.waiting.items in
    let at = c.loop-at.at in
    let own = c.index_mut-own.result.now in
    let other : WaitingBatch = record { number = own.number; batch = own.batch; answers = c.carry_out.new.answers } in
    let old = c.args.store.now in
    let mid = c.loop-at.store in
    let new = c.carry_out.new.store in
    let lt : at < length queue = omega (arith, c.loop-at-test.true, c.requires.within, so_far.count, c.args.waiting.now.ok.0) in
    record {
      count = length-set queue at other ∙ so_far.count;
      waits = λ waiting are. stay_set queue at own other (λ it is. record { number = is.number; begun = is.begun; lines = is.lines }) c.index_mut-own.ensures.value waiting (so_far.waits waiting are);
      store = feeds_then old mid new false so_far.store (Err fault.Refused) c.in-Err.ensures.store;
      carried = λ s waiting are.
          let carried = so_far.carried s waiting are in
          let here = are_first own (drop (at + 1) queue) queue waiting at (so_far.waits waiting are) (behind_read queue at own c.index_mut-own.ensures.value lt) in
          let lines : HoldsLines c.as_slice-lines.result.now here.it.lines = subst (λ ls. HoldsLines ls here.it.lines) (sym c.as_slice-lines.ensures.value) here.is.lines.1 in
          record {
            mid = mid;
            answers = kept_answers (slice_range queue c.args.from at);
            earlier = carried.0;
            it = here.it;
            behind = here.behind;
            own = other;
            others = drop (at + 1) queue;
            first = here.first;
            own_first = drop-set queue at other lt;
            carried = carried.1;
            stops = c.in-Err.ensures.carried (after s carried.0.commands carried.0.answers) here.it.lines lines;
          };
    }

pub returns-clause-carries : goal.returns-clause-carries
returns-clause-carries g c =
    let so_far = c.loop-at.invariant in
    let all : c.loop-at.at ≡ c.args.to = omega (arith, c.loop-at-test.false, c.loop-at.auto.at-end, c.requires.order) in
    record {
      count = so_far.count;
      waits = so_far.waits;
      store = so_far.store;
      carried = λ s waiting are.
          let carried = so_far.carried s waiting are in (
            carried.0,
            subst (λ n. CarriesAll c.args.store.now c.loop-at.store s c.args.self.now.manner (slice_range waiting c.args.from n) (kept_answers (slice_range c.loop-at.waiting.items c.args.from n)) carried.0) all carried.1,
          );
    }
