-- What is read of an input, line by line.
use Rattle.std.proofs.Common.{◌≡◌, ◌==◌, ◌<◌, ◌≤◌, ◌+◌, ◌-◌, ◌++◌, ◌∙◌, ℕ, Bool, true, false, List, [], ◌∷◌, Option, Ok, ap, sym, refl, arith, append-nil, append_assoc, length, take, drop, slice_index, take-append-drop}
use Rattle.std.proofs.lemmas.List.{drop-drop, drop-take, length-take}
use Rattle.std.proofs.KnownBytes.{Consumes-kept, Consumes-trans}
use Rattle.std.specs.Io.KnownBytes.{Consumes, IsAtEnd, Keeps}
use Rattle.vm_cli.specs.session.SessionKinds.{ended_lines}
use Rattle.vm_cli.specs.lines.Input.{HoldsLine, is_nil}
use Rattle.vm_cli.specs.session.LineEndings.{ending_at}
use Rattle.vm_cli.specs.session.LineReading.{ReadsLine, Took}
use Rattle.vm_cli.specs.declared.lines.line.Line.{Line}
use Rattle.vm_cli.proofs.FeedLemmas.{line_is}

module _ (known rest : Option (List ℕ)) (before more unread : List ℕ) (took : Took known rest before more unread) where
  -- up to the end of a line
  pub took_line : (n : ℕ) → n < length unread → (slice_index unread n == 10) ≡ true → Took known rest before ((more ++ take n unread) ++ 10 ∷ []) (drop (n + 1) unread)
  took_line n lt is = record {
    read = took.read;
    consumed = took.consumed;
    split =
        let cut : unread ≡ (take n unread ++ 10 ∷ []) ++ drop (n + 1) unread = sym (take-append-drop (n + 1) unread) ∙ ap (λ bs. bs ++ drop (n + 1) unread) (line_is unread n lt is) in
        took.split ∙ ap (λ bs. more ++ bs) cut ∙ sym (append_assoc more (take n unread ++ 10 ∷ []) (drop (n + 1) unread))
        ∙ ap (λ bs. bs ++ drop (n + 1) unread) (sym (append_assoc more (take n unread) (10 ∷ [])));
  }

  -- all of it
  pub took_all : Took known rest before (more ++ unread) []
  took_all = record { read = took.read; consumed = took.consumed; split = took.split ∙ sym (append-nil (more ++ unread)) }

  -- and more is read
  pub took_more : (later : Option (List ℕ)) (got : List ℕ) → Consumes rest later got → unread ≡ [] → Took known later before more got
  took_more later got read none = record {
    read = took.read ++ got;
    consumed = Consumes-trans known rest later took.read got took.consumed read;
    split = sym (append_assoc before took.read got) ∙ ap (λ bs. bs ++ got) (took.split ∙ ap (λ bs. more ++ bs) none ∙ append-nil more);
  }

  -- and nothing more is
  pub took_kept : (later : Option (List ℕ)) → Keeps rest later → Took known later before more unread
  took_kept later keeps = record { read = took.read; consumed = Consumes-kept known rest later took.read took.consumed keeps; split = took.split }

-- what is unread behind the first bytes
pub unread_behind : (start k end : ℕ) (chunk : List ℕ) → start + k ≤ end → take (end - (start + k)) (drop (start + k) chunk) ≡ drop k (take (end - start) (drop start chunk))
unread_behind start k end chunk within =
    let rest : end - start ≡ k + (end - (start + k)) = omega (arith, within) in
    ap (λ xs. take (end - (start + k)) xs) (sym (drop-drop k start chunk)) ∙ sym (drop-take k (end - (start + k)) (drop start chunk))
    ∙ ap (λ n. drop k (take n (drop start chunk))) (sym rest)

-- it is no longer than that
pub unread_short : (n : ℕ) (chunk : List ℕ) → length (take n chunk) ≤ n
unread_short n chunk = omega (arith, length-take n chunk)

-- the input has ended
pub reads_end : (line : Line) (from more : List ℕ) (known rest : Option (List ℕ)) (before : List ℕ) → HoldsLine line (from ++ more) → Took known rest before more [] → IsAtEnd rest
    → ReadsLine (Ok (ending_at line.is_empty)) from known rest before [] line
reads_end line from more known rest before holds took end = by line.is_empty holds.empty
  where
    by : (empty : Bool) → empty ≡ is_nil (from ++ more) → ReadsLine (Ok (ending_at empty)) from known rest before [] line
    by true is = (more, holds, took, refl, end, sym is)
    by false is = (more, holds, took, refl, end, sym is)

-- what is taken after what was taken
pub took_then : (known mid rest : Option (List ℕ)) (before first unread second after : List ℕ) → Took known mid before first unread → Took mid rest unread second after → Took known rest before (first ++ second) after
took_then known mid rest before first unread second after p q = record {
  read = p.read ++ q.read;
  consumed = Consumes-trans known mid rest p.read q.read p.consumed q.consumed;
  split = sym (append_assoc before p.read q.read) ∙ ap (λ bs. bs ++ q.read) p.split ∙ append_assoc first unread q.read ∙ ap (λ bs. first ++ bs) q.split ∙ sym (append_assoc first second after);
}

-- one more line
pub ended-more : (parts : List (List ℕ)) (part : List ℕ) → ended_lines (parts ++ part ∷ []) ≡ ended_lines parts ++ (part ++ 10 ∷ [])
ended-more [] part = refl
ended-more (p ∷ parts) part =
    ap (λ bs. p ++ (10 ∷ bs)) (ended-more parts part) ∙ sym (append_assoc p (10 ∷ ended_lines parts) (part ++ 10 ∷ []))
