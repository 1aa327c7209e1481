-- A line of a stream in which many planners speak to one store.
use Rattle.std.specs.Prelude.{◌==◌, ℕ, List, [], ◌∷◌, Option, Some, None, codes, if◌then◌else◌, option_and_then, option_map, unwrap_or}
use Rattle.std.specs.Str.{bytes_eq}
use Rattle.vm_cli.specs.lines.Lines.{IsPart}
use Rattle.vm_cli.specs.lines.Numbers.{number_of}
use Rattle.vm_cli.specs.lines.Pieces.{after_word}
use Rattle.vm_cli.specs.lines.Requests.{is_comment}
use Rattle.vm_cli.specs.lines.Spaces.{words_of}
use Rattle.vm_cli.specs.declared.session.planner_line.PlannerLine.{PlannerLine}
use Rattle.vm_cli.specs.declared.session.planner_line.PlannerLine.TheVariants as line
use Rattle.vm_cli.specs.declared.session.planner_line.When.{When}
use Rattle.vm_cli.specs.declared.session.planner_line.When.TheVariants.{Later, Now}

-- what a line says
pub data Saying : Type 0 where
  -- the line has no words, or is a comment
  nothing : Saying
  -- a planner joins
  joins : ℕ → Saying
  -- a planner leaves
  leaves : ℕ → Saying
  -- a planner says a line, which is taken at once, or of which the batch that ends with it waits
  says : When → ℕ → List ℕ → Saying
  -- all that waits is carried out
  releases : Saying
  -- the line is none of the known ones
  strange : Saying

-- a number from 1
abbrev pub from_one : ℕ → Option ℕ
from_one n = if n == 0 then None else Some n

-- the planner whose number a word is: a number from 1 that 32 bits hold
abbrev pub planner_of : List ℕ → Option ℕ
planner_of word = option_and_then from_one (number_of 4294967295 word)

-- `N`
abbrev pub lone_planner : List (List ℕ) → Option ℕ
lone_planner (word ∷ []) = planner_of word
lone_planner words = None

-- `N`, and any further words
abbrev pub first_planner : List (List ℕ) → Option ℕ
first_planner [] = None
first_planner (word ∷ words) = planner_of word

-- the lone word `go` has no words after it
abbrev pub lone_go : List (List ℕ) → Option Saying
lone_go [] = Some releases
lone_go words = None

-- what is said by a line's first word, the words after it, and all that follows the second word
abbrev pub said_by : List ℕ → List (List ℕ) → List ℕ → Option Saying
said_by verb words rest =
    if bytes_eq verb (codes "line") then option_map (λ n. says Now n rest) (first_planner words)
    else (if bytes_eq verb (codes "later") then option_map (λ n. says Later n rest) (first_planner words)
    else (if bytes_eq verb (codes "go") then lone_go words
    else (if bytes_eq verb (codes "join") then option_map joins (lone_planner words)
    else (if bytes_eq verb (codes "leave") then option_map leaves (lone_planner words) else None))))

-- what is said by a line's words, and all that follows the second one
abbrev pub saying_by : List (List ℕ) → List ℕ → Saying
saying_by [] rest = nothing
saying_by (verb ∷ words) rest = if is_comment verb then nothing else unwrap_or (said_by verb words rest) strange

-- what a line says: `join N`, `leave N`, `go`, or `line N LINE` or `later N LINE`, where LINE is all that follows the first space after N
abbrev pub saying_of : List ℕ → Saying
saying_of bytes = saying_by (words_of bytes) (after_word (after_word bytes))

-- what is said by a line that was read
abbrev pub saying : PlannerLine → Saying
saying line.Nothing = nothing
saying (line.Join n) = joins n
saying (line.Leave n) = leaves n
saying (line.Says when n bytes) = says when n bytes.now
saying line.Go = releases
saying line.Strange = strange

-- no line feed stands in the line that a planner says, if one does
abbrev pub SaysPart : Saying → Type 0
SaysPart (says when n bytes) = IsPart bytes
SaysPart said = Unit {0}
