use Rattle.altstore.proofs.lines.ask.Goals as goal

pub returns : goal.returns
returns c = record {
  answers = λ s. rw c.clear.ensures.items at (c.serve.ensures.answers s);
  goes = c.serve.ensures.goes;
  ok = c.serve.ensures.ok;
  err = c.serve.ensures.err;
  left = c.serve.ensures.left;
}
