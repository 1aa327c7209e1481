use Rattle.altstore.proofs.ExportLemmas.{not_closed, same_behind}
use Rattle.altstore.proofs.exports.altstore_ask.Goals as goal

pub returns : goal.returns
returns c = record {
  closed = λ none. absurd (not_closed _ _ c.in-Some.ensures.session none);
  asks = λ session is.
      let same = same_behind _ _ session c.in-Some.ensures.session is in
      (c.ask-result.new.session, c.ask-result.result, rw (c.on_refusal.ensures, c.deref_mut.ensures.value, same) at c.ask-result.ensures, c.put.ensures, c.asked.ensures);
}
