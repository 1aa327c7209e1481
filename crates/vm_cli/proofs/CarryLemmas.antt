-- The lines of a batch, carried out one after another.
use Rattle.std.proofs.Common.{◌≡◌, ◌<◌, ◌+◌, ◌++◌, ◌∙◌, ℕ, zero, suc, add-one, Bool, true, false, List, [], ◌∷◌, Some, Ok, Err, ap, sym, refl, subst, arith, length, take, slice_index_or}
use Rattle.std.proofs.Math.Seq.{drop-append_seam}
use Rattle.vm_types.specs.State.{State, after}
use Rattle.vm_store.specs.declared.store.Store.{Store}
use Rattle.vm_cli.specs.session.Feeds.{Writes}
use Rattle.vm_cli.specs.session.Known.{between}
use Rattle.vm_cli.specs.lines.Input.{HoldsLine}
use Rattle.vm_cli.specs.session.Streams.{HoldsLines, StopsIn, answer_after, trying, why_text}
use Rattle.vm_cli.specs.session.Streams.IsStopped.{no_memory_for_answer, failed_so, refused_so}
use Rattle.vm_cli.specs.session.Session.{HandlesLine, HasAnswered}
use Rattle.vm_cli.specs.declared.lines.line.Line.{Line}
use Rattle.vm_cli.specs.declared.session.Manner.{Manner}
use Rattle.vm_cli.specs.declared.session.ServeFault.{ServeFault}
use Rattle.vm_cli.specs.declared.session.ServeFault.TheVariants as fault
use Rattle.vm_cli.proofs.BatchLemmas.{held_length}
use Rattle.vm_cli.proofs.FeedLemmas.{answered-join, answered-line}

-- one of the lines, those before it, and those behind it
pub record IsAt (line : Line) (parts : List (List ℕ)) (i : ℕ) : Type 0 where
  pub part : List ℕ
  pub behind : List (List ℕ)
  pub holds : HoldsLine line part
  pub more : take (i + 1) parts ≡ take i parts ++ part ∷ []
  pub cut : parts ≡ take i parts ++ part ∷ behind
  pub place : i ≡ length (take i parts)

pub held_at : (lines : List Line) (parts : List (List ℕ)) (i : ℕ) (line : Line) → HoldsLines lines parts → i < length lines → slice_index_or lines i line ≡ line → IsAt line parts i
held_at [] parts i line h lt is = absurd (omega arith)
held_at (l ∷ lines) [] i line h lt is = absurd h
held_at (l ∷ lines) (part ∷ parts) zero line h lt is = record {
  part = part;
  behind = parts;
  holds = subst (λ x. HoldsLine x part) is h.0;
  more = refl;
  cut = refl;
  place = refl;
}
held_at (l ∷ lines) (part ∷ parts) (suc i) line h lt is =
    let rest = held_at lines parts i line h.1 (omega (arith, lt)) is in
    record {
      part = rest.part;
      behind = rest.behind;
      holds = rest.holds;
      more = ap (λ n. take n (part ∷ parts)) (add-one (suc i)) ∙ ap (λ ps. part ∷ ps) (ap (λ n. take n parts) (sym (add-one i)) ∙ rest.more);
      cut = ap (λ ps. part ∷ ps) rest.cut;
      place = ap suc rest.place;
    }

pub held_count : (lines : List Line) (parts : List (List ℕ)) → HoldsLines lines parts → length parts ≡ length lines
held_count lines parts h = sym (held_length lines parts h)

module _ {D : Type 0} {members : _} (old mid new : Store D members) (s : State) (how : Manner) (parts : List (List ℕ)) (i : ℕ) (line : Line) (text : List ℕ)
    (answered : HasAnswered old mid s (trying how) (take i parts) text) (at : IsAt line parts i) where
  -- one more line was carried out
  pub lines_more : (refused : Bool) (items : List ℕ) → Writes (trying how) (HandlesLine mid new (after s answered.commands answered.answers) (trying how) at.part) (Ok refused) (between (Some text) (Some items))
      → HasAnswered old new s (trying how) (take (i + 1) parts) items
  lines_more refused items it =
      subst (λ ls. HasAnswered old new s (trying how) ls items) (sym at.more)
      (subst (HasAnswered old new s (trying how) (take i parts ++ at.part ∷ [])) (sym it.written)
      (answered-join old mid new s (trying how) (take i parts) text answered (at.part ∷ []) it.text
      (answered-line mid new (after s answered.commands answered.answers) (trying how) at.part it.text it.says (λ stop. sym it.told ∙ it.goes_on stop))))

  -- it was the last
  pub lines_stop : (why : ServeFault) (items : List ℕ) → Writes (trying how) (HandlesLine mid new (after s answered.commands answered.answers) (trying how) at.part) (Err why) (between (Some text) (Some items))
      → (n : ℕ) → n ≡ length text → StopsIn old new s how parts i (why_text (answer_after why n) items)
  lines_stop fault.Read items writes n is = absurd writes
  lines_stop fault.Unsure items writes n is = absurd writes
  lines_stop fault.Refused items it n is = record {
    mid = mid;
    before = take i parts;
    line = at.part;
    behind = at.behind;
    earlier = text;
    said = it.text;
    ends = false;
    cut = at.cut;
    at = at.place;
    carried = answered;
    handled = it.says;
    says = refused_so (rw (it.written, is) (drop-append_seam text it.text)) it.refused;
  }
  lines_stop fault.Store items it n is = record {
    mid = mid;
    before = take i parts;
    line = at.part;
    behind = at.behind;
    earlier = text;
    said = it.text;
    ends = true;
    cut = at.cut;
    at = at.place;
    carried = answered;
    handled = it.says;
    says = failed_so (rw (it.written, is) (drop-append_seam text it.text)) refl;
  }
  lines_stop fault.Write items it n is = record {
    mid = mid;
    before = take i parts;
    line = at.part;
    behind = at.behind;
    earlier = text;
    said = it.whole;
    ends = it.ends;
    cut = at.cut;
    at = at.place;
    carried = answered;
    handled = it.says;
    says = no_memory_for_answer refl;
  }
