-- The texts of answers.
use Rattle.std.specs.Fmt.{decimal}
use Rattle.std.specs.Prelude.{◌++◌, ℕ, Bool, true, false, List, [], ◌∷◌, Option, Some, None, codes, take}
use Rattle.std.specs.Str.{bytes_eq}
use Rattle.vm_store.specs.declared.tally.Tally.{Tally as Numbers}
use Rattle.vm_types.specs.Texts.{refusal_text}
use Rattle.vm_cli.specs.lines.Escapes.{value_text}
use Rattle.vm_cli.specs.declared.answers.reply.Reply.{Reply}
use Rattle.vm_cli.specs.declared.lines.mistake.LineForm.{LineForm}
use Rattle.vm_cli.specs.declared.lines.mistake.LineForm.TheVariants as form
use Rattle.vm_cli.specs.declared.lines.mistake.Mistake.{Mistake}
use Rattle.vm_cli.specs.declared.lines.mistake.Mistake.TheVariants.{NoSuchLine, Takes, Wrong}
use Rattle.vm_cli.specs.declared.lines.mistake.WordKind.{WordKind}
use Rattle.vm_cli.specs.declared.lines.mistake.WordKind.TheVariants as kind
use Rattle.vm_cli.specs.declared.answers.reply.Reply.TheVariants.{Nothing, Done, Merged, Free, Blocks, Tally, End, Refused, Last, BadLine, LongLine, ReadOnly, NotDone, Aborted, NotInBatch, TooLarge, HalfLine, Unsure, NoSuchPlanner, PlannerExists}

-- a yes or a no
abbrev pub yes_or_no : Bool → List ℕ
yes_or_no true = codes "yes"
yes_or_no false = codes "no"

-- the line of a tally: three numbers, each with a space (32) after it, and whether a post is accepted
abbrev pub tally_text : Numbers → List ℕ
tally_text t =
    codes "tally " ++ (decimal t.changed ++ (32 ∷ (decimal t.unmerged ++ (32 ∷ (decimal t.conflicts ++ (32 ∷ (yes_or_no t.can_post ++ 10 ∷ [])))))))

-- the words that a form takes, each by the name of its kind, in brackets those that may be left out
abbrev pub form_text : LineForm → List ℕ
form_text form.Bare = codes "no other word"
form_text form.Alt = codes "ALT"
form_text form.AltAndName = codes "ALT NAME"
form_text form.New = codes "NAME PARENT [CHECKPOINT]"
form_text form.Put = codes "ALT TABLE NUMBER VALUE"
form_text form.Remove = codes "ALT TABLE NUMBER"
form_text form.Merge = codes "ALT [SETTLEMENT ..]"
form_text form.Grow = codes "BLOCKS"
form_text form.Get = codes "AT TABLE NUMBER"
form_text form.List = codes "AT [TABLE [FIRST LAST]]"
form_text form.Next = codes "AT TABLE NUMBER COUNT"
form_text form.Diff = codes "AT AT [TABLE [FIRST LAST]]"

-- what a word of a kind is
abbrev pub kind_text : WordKind → List ℕ
kind_text kind.Name = codes "NAME is 1 to 32 of A-Za-z0-9_.-"
kind_text kind.Parent = codes "PARENT is 1 to 32 of A-Za-z0-9_.-"
kind_text kind.Checkpoint = codes "CHECKPOINT is 1 to 32 of A-Za-z0-9_.-"
kind_text kind.Alt = codes "ALT is 1 to 32 of A-Za-z0-9_.-"
kind_text kind.At = codes "AT is ALT, ALT@ or ALT@CHECKPOINT"
kind_text kind.Table = codes "TABLE is 0 to 65535"
kind_text kind.Number = codes "NUMBER is 0 to 18446744073709551615"
kind_text kind.First = codes "FIRST is 0 to 18446744073709551615"
kind_text kind.Last = codes "LAST is 0 to 18446744073709551615"
kind_text kind.Count = codes "COUNT is 0 to 4294967295"
kind_text kind.Blocks = codes "BLOCKS is 0 to 4294967295"
kind_text kind.Value = codes "VALUE is at most 4,000 bytes, % as %25"
kind_text kind.FirstSettlement = codes "SETTLEMENT is TABLE:NUMBER=mine|theirs"
kind_text kind.Settlement = codes "SETTLEMENT is TABLE:NUMBER=mine|theirs"

-- what is wrong with a line: a word, by its place, and what was expected there
abbrev pub mistake_text : Mistake → List ℕ
mistake_text NoSuchLine = codes "word 1: there is no such line"
mistake_text (Takes form) = codes "word 1 takes " ++ form_text form
mistake_text (Wrong place kind) = codes "word " ++ (decimal place ++ (codes ": " ++ kind_text kind))

-- the line of an answer, with the line feed (10) at its end
abbrev pub reply_text : Reply → List ℕ
reply_text Nothing = []
reply_text Done = codes "ok" ++ 10 ∷ []
reply_text (Merged changes) = codes "ok " ++ (decimal changes ++ 10 ∷ [])
reply_text (Free count) = codes "free " ++ (decimal count ++ 10 ∷ [])
reply_text (Blocks count) = codes "blocks " ++ (decimal count ++ 10 ∷ [])
reply_text (Tally numbers) = tally_text numbers
reply_text (End count) = codes "end " ++ (decimal count ++ 10 ∷ [])
reply_text (Refused refusal) = codes "error " ++ (refusal_text refusal ++ 10 ∷ [])
reply_text (Last refusal) = codes "error " ++ (refusal_text refusal ++ 10 ∷ [])
reply_text (BadLine mistake) = codes "error 22 BadLine " ++ (mistake_text mistake ++ 10 ∷ [])
reply_text LongLine = codes "error 23 LongLine" ++ 10 ∷ []
reply_text ReadOnly = codes "error 24 ReadOnly" ++ 10 ∷ []
reply_text (NotDone line) = codes "error 91 NotDone " ++ (decimal line ++ 10 ∷ [])
reply_text Aborted = codes "error 92 Aborted" ++ 10 ∷ []
reply_text NotInBatch = codes "error 93 NotInBatch" ++ 10 ∷ []
reply_text TooLarge = codes "error 94 TooLarge" ++ 10 ∷ []
reply_text HalfLine = codes "error 96 HalfLine" ++ 10 ∷ []
reply_text Unsure = codes "error 101 Unsure" ++ 10 ∷ []
reply_text NoSuchPlanner = codes "error 106 NoSuchPlanner" ++ 10 ∷ []
reply_text PlannerExists = codes "error 107 PlannerExists" ++ 10 ∷ []

-- the line of a record's value, or that there is none
abbrev pub found_text : Option (List ℕ) → List ℕ
found_text None = codes "none" ++ 10 ∷ []
found_text (Some value) = codes "value " ++ (value_text value ++ 10 ∷ [])

-- the answer is that a line was refused
abbrev pub is_error : List ℕ → Bool
is_error text = bytes_eq (take 6 text) (codes "error ")

-- the session ends with this answer
abbrev pub ends_session : Reply → Bool
ends_session (Last refusal) = true
ends_session _ = false
