-- What is wrong with a line that is none: which word, and what was expected there.
use Rattle.std.specs.Prelude.{◌==◌, ◌||◌, ℕ, suc, Bool, List, [], ◌∷◌, Option, Some, None, codes, if◌then◌else◌, is_some, length, nat_le}
use Rattle.std.specs.Str.{bytes_eq}
use Rattle.vm_cli.specs.lines.Escapes.{value_of}
use Rattle.vm_cli.specs.lines.Names.{at_of, name_of}
use Rattle.vm_cli.specs.lines.Numbers.{number_of}
use Rattle.vm_cli.specs.lines.Settlements.{settlement_of, side_for_all}
use Rattle.vm_cli.specs.declared.lines.mistake.LineForm.{LineForm}
use Rattle.vm_cli.specs.declared.lines.mistake.LineForm.TheVariants as form
use Rattle.vm_cli.specs.declared.lines.mistake.Mistake.{Mistake}
use Rattle.vm_cli.specs.declared.lines.mistake.Mistake.TheVariants.{NoSuchLine, Takes, Wrong}
use Rattle.vm_cli.specs.declared.lines.mistake.WordKind.{WordKind}
use Rattle.vm_cli.specs.declared.lines.mistake.WordKind.TheVariants as kind

-- a word is one of a kind
abbrev pub is_of : WordKind → List ℕ → Bool
is_of kind.Name word = is_some (name_of word)
is_of kind.Parent word = is_some (name_of word)
is_of kind.Checkpoint word = is_some (name_of word)
is_of kind.Alt word = is_some (name_of word)
is_of kind.At word = is_some (at_of word)
is_of kind.Table word = is_some (number_of 65535 word)
is_of kind.Number word = is_some (number_of 18446744073709551615 word)
is_of kind.First word = is_some (number_of 18446744073709551615 word)
is_of kind.Last word = is_some (number_of 18446744073709551615 word)
is_of kind.Count word = is_some (number_of 4294967295 word)
is_of kind.Blocks word = is_some (number_of 4294967295 word)
is_of kind.Value word = is_some (value_of word)
is_of kind.FirstSettlement word = is_some (side_for_all word) || is_some (settlement_of word)
is_of kind.Settlement word = is_some (settlement_of word)

-- the kinds of the words that a form takes after the first word of the line, in their order; a merge takes more settlements after them
abbrev pub kinds_of : LineForm → List WordKind
kinds_of form.Bare = []
kinds_of form.Alt = kind.Alt ∷ []
kinds_of form.AltAndName = kind.Alt ∷ kind.Name ∷ []
kinds_of form.New = kind.Name ∷ kind.Parent ∷ kind.Checkpoint ∷ []
kinds_of form.Put = kind.Alt ∷ kind.Table ∷ kind.Number ∷ kind.Value ∷ []
kinds_of form.Remove = kind.Alt ∷ kind.Table ∷ kind.Number ∷ []
kinds_of form.Merge = kind.Alt ∷ kind.FirstSettlement ∷ []
kinds_of form.Grow = kind.Blocks ∷ []
kinds_of form.Get = kind.At ∷ kind.Table ∷ kind.Number ∷ []
kinds_of form.List = kind.At ∷ kind.Table ∷ kind.First ∷ kind.Last ∷ []
kinds_of form.Next = kind.At ∷ kind.Table ∷ kind.Number ∷ kind.Count ∷ []
kinds_of form.Diff = kind.At ∷ kind.At ∷ kind.Table ∷ kind.First ∷ kind.Last ∷ []

-- a form takes exactly n words
abbrev pub takes : LineForm → ℕ → Bool
takes form.Bare n = n == 0
takes form.Alt n = n == 1
takes form.AltAndName n = n == 2
takes form.New n = n == 2 || n == 3
takes form.Put n = n == 4
takes form.Remove n = n == 3
takes form.Merge n = nat_le 1 n
takes form.Grow n = n == 1
takes form.Get n = n == 3
takes form.List n = n == 1 || (n == 2 || n == 4)
takes form.Next n = n == 4
takes form.Diff n = n == 2 || (n == 3 || n == 5)

-- the form of a command, by its first word
abbrev pub command_form : List ℕ → Option LineForm
command_form verb =
    if bytes_eq verb (codes "put") then Some form.Put
    else (if bytes_eq verb (codes "merge") then Some form.Merge
    else (if bytes_eq verb (codes "remove") then Some form.Remove
    else (if bytes_eq verb (codes "commit") then Some form.Bare
    else (if bytes_eq verb (codes "rollback") then Some form.Bare
    else (if bytes_eq verb (codes "reclaim") then Some form.Bare
    else (if bytes_eq verb (codes "grow") then Some form.Grow
    else (if bytes_eq verb (codes "drop") then Some form.Alt
    else (if bytes_eq verb (codes "post") then Some form.Alt
    else (if bytes_eq verb (codes "new") then Some form.New
    else (if bytes_eq verb (codes "checkpoint") then Some form.AltAndName
    else (if bytes_eq verb (codes "uncheck") then Some form.AltAndName
    else (if bytes_eq verb (codes "back") then Some form.AltAndName else None))))))))))))

-- the form of a query, by its first word
abbrev pub query_form : List ℕ → Option LineForm
query_form verb =
    if bytes_eq verb (codes "get") then Some form.Get
    else (if bytes_eq verb (codes "tally") then Some form.Alt
    else (if bytes_eq verb (codes "free") then Some form.Bare
    else (if bytes_eq verb (codes "blocks") then Some form.Bare
    else (if bytes_eq verb (codes "list") then Some form.List
    else (if bytes_eq verb (codes "next") then Some form.Next
    else (if bytes_eq verb (codes "diff") then Some form.Diff
    else (if bytes_eq verb (codes "alts") then Some form.Bare
    else (if bytes_eq verb (codes "checks") then Some form.Alt
    else (if bytes_eq verb (codes "changes") then Some form.Alt
    else (if bytes_eq verb (codes "conflicts") then Some form.Alt else None))))))))))

-- the form of a command, or else of a query
abbrev pub form_or : Option LineForm → Option LineForm → Option LineForm
form_or (Some command) query = Some command
form_or None query = query

-- the form of a line, by its first word
abbrev pub form_of : List ℕ → Option LineForm
form_of verb = form_or (command_form verb) (query_form verb)

-- the first of these words that is not of its kind, where the first of them stands at this place of the line; a word after the last kind is to
-- be a settlement
abbrev pub first_wrong : LineForm → ℕ → List WordKind → List (List ℕ) → Mistake
first_wrong form place kinds [] = Takes form
first_wrong form place [] (word ∷ words) =
    if is_of kind.Settlement word then first_wrong form (suc place) [] words else Wrong place kind.Settlement
first_wrong form place (kind ∷ kinds) (word ∷ words) =
    if is_of kind word then first_wrong form (suc place) kinds words else Wrong place kind

-- what is wrong in a line of this form with these words after its first one: their number, or else the first that is not of its kind
abbrev pub mistake_by : Option LineForm → List (List ℕ) → Mistake
mistake_by None words = NoSuchLine
mistake_by (Some form) words = if takes form (length words) then first_wrong form 2 (kinds_of form) words else Takes form

-- what is wrong in a line that is none, of this first word and these words after it
abbrev pub mistake_of : List ℕ → List (List ℕ) → Mistake
mistake_of verb words = mistake_by (form_of verb) words
