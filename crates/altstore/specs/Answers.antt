-- The answers that are kept.
use Rattle.std.specs.Prelude.{◌≡◌, ℕ, ◌-◌, List, [], ◌++◌, None, Option, Some, drop, length, min, take}
use Rattle.altstore.specs.Handles.{behind}
use Rattle.altstore.specs.declared.session.Session.{Session}
use Rattle.altstore.specs.declared.slot.Slot.{Slot}

-- those of a session, if there is one
abbrev pub kept_by : Option Session → List ℕ
kept_by None = []
kept_by (Some session) = session.answers.items

-- those behind a handle
abbrev pub answers_behind : Slot → List ℕ
answers_behind slot = kept_by (behind slot)

-- answers were copied, from a byte on: as many bytes as there are and have room, to the front of a buffer
pub record CopiesAnswers (answers : List ℕ) (from count : ℕ) (old new : List ℕ) : Type 0 where
  pub count_is : count ≡ min (length answers - from) (length old)
  pub copied : new ≡ take count (drop from answers) ++ drop count old
