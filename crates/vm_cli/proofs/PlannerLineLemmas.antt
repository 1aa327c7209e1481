-- What is said by the lines of a stream in which many planners speak.
use Rattle.std.proofs.Common.{◌≡◌, ◌==◌, ℕ, Bool, true, false, List, [], ◌∷◌, Option, Some, None, codes, if◌then◌else◌, refl}
use Rattle.std.specs.Prelude.{option_map, unwrap_or}
use Rattle.std.specs.Str.{bytes_eq}
use Rattle.vm_cli.specs.lines.Lines.{IsPart}
use Rattle.vm_cli.specs.lines.Pieces.{after_word, behind_mark, without_spaces}
use Rattle.vm_cli.specs.session.PlannerLines.{Saying, SaysPart, first_planner, joins, leaves, lone_go, lone_planner, said_by, saying_by, saying_of, says, strange}
use Rattle.vm_cli.specs.lines.Requests.{is_comment}
use Rattle.vm_cli.specs.lines.Spaces.{words_of}
use Rattle.vm_cli.specs.declared.session.planner_line.When.TheVariants.{Later, Now}

behind_mark-part : (mark : ℕ) (bytes : List ℕ) → IsPart bytes → IsPart (behind_mark mark bytes)
behind_mark-part mark [] part = part
behind_mark-part mark (b ∷ bytes) part = go (b == mark) refl (behind_mark-part mark bytes part.1)
  where
    go : (found : Bool) → (b == mark) ≡ found → IsPart (behind_mark mark bytes) → IsPart (behind_mark mark (b ∷ bytes))
    go true is later = rw is part.1
    go false is later = rw is later

without_spaces-part : (bytes : List ℕ) → IsPart bytes → IsPart (without_spaces bytes)
without_spaces-part [] part = part
without_spaces-part (b ∷ bytes) part = go (b == 32) refl (without_spaces-part bytes part.1)
  where
    go : (space : Bool) → (b == 32) ≡ space → IsPart (without_spaces bytes) → IsPart (without_spaces (b ∷ bytes))
    go true is later = rw is later
    go false is later = rw is part

after_word-part : (bytes : List ℕ) → IsPart bytes → IsPart (after_word bytes)
after_word-part bytes part = behind_mark-part 32 (without_spaces bytes) (without_spaces-part bytes part)

-- no line feed stands in what a planner says, if one says something
abbrev IsSaidPart : Option Saying → Type 0
IsSaidPart said = SaysPart (unwrap_or said strange)

either-part : (b : Bool) (first second : Option Saying) → IsSaidPart first → IsSaidPart second → IsSaidPart (if b then first else second)
either-part true first second one other = one
either-part false first second one other = other

mapped-part : (say : ℕ → Saying) (planner : Option ℕ) → ((n : ℕ) → SaysPart (say n)) → IsSaidPart (option_map say planner)
mapped-part say None each = tt
mapped-part say (Some n) each = each n

go-part : (words : List (List ℕ)) → IsSaidPart (lone_go words)
go-part [] = tt
go-part (word ∷ words) = tt

said_by-part : (verb : List ℕ) (words : List (List ℕ)) (rest : List ℕ) → IsPart rest → IsSaidPart (said_by verb words rest)
said_by-part verb words rest part =
    either-part (bytes_eq verb (codes "line")) _ _ (mapped-part (λ n. says Now n rest) (first_planner words) (λ n. part))
    (either-part (bytes_eq verb (codes "later")) _ _ (mapped-part (λ n. says Later n rest) (first_planner words) (λ n. part))
    (either-part (bytes_eq verb (codes "go")) _ _ (go-part words)
    (either-part (bytes_eq verb (codes "join")) _ _ (mapped-part joins (lone_planner words) (λ n. tt))
    (either-part (bytes_eq verb (codes "leave")) _ None (mapped-part leaves (lone_planner words) (λ n. tt)) tt))))

saying_by-part : (words : List (List ℕ)) (rest : List ℕ) → IsPart rest → SaysPart (saying_by words rest)
saying_by-part [] rest part = tt
saying_by-part (verb ∷ words) rest part = go (is_comment verb) refl
  where
    go : (comment : Bool) → is_comment verb ≡ comment → SaysPart (saying_by (verb ∷ words) rest)
    go true is = rw is tt
    go false is = rw is (said_by-part verb words rest part)

-- no line feed stands in what is said by a line in which none stands
pub says_part : (bytes : List ℕ) → IsPart bytes → SaysPart (saying_of bytes)
says_part bytes part = saying_by-part (words_of bytes) (after_word (after_word bytes)) (after_word-part (after_word bytes) (after_word-part bytes part))
