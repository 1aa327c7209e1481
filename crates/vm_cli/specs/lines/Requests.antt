-- What a line asks for.
use Rattle.std.specs.Prelude.{◌≡◌, ◌==◌, ℕ, Bool, false, List, [], ◌∷◌, Option, Some, None, codes, if◌then◌else◌, option_and_then, option_map, unwrap_or}
use Rattle.std.specs.Str.{bytes_eq}
use Rattle.vm_types.specs.declared.at.At.{At}
use Rattle.vm_types.specs.declared.command.Command.{Command}
use Rattle.vm_types.specs.declared.command.Side.{Side}
use Rattle.vm_types.specs.declared.command.Command.TheVariants.{New, NewAt, Drop, Put, Remove, Checkpoint, Uncheck, Back, Merge, Post, Commit, Rollback, Reclaim, Grow}
use Rattle.vm_types.specs.declared.key.Key.{Key}
use Rattle.vm_cli.specs.lines.Asking.{Request}
use Rattle.vm_cli.specs.declared.session.OnCommand.{OnCommand}
use Rattle.vm_cli.specs.declared.session.OnCommand.TheVariants.{GrowIfFull, Refuse}
use Rattle.vm_cli.specs.lines.Escapes.{value_of}
use Rattle.vm_cli.specs.lines.Mistakes.{mistake_of}
use Rattle.vm_cli.specs.lines.Names.{at_of, name_of}
use Rattle.vm_cli.specs.lines.Numbers.{key_of, number_of}
use Rattle.vm_cli.specs.lines.Settlements.{settled_of, side_for_all}

-- `ALT TABLE NUMBER`
abbrev pub record_of : List (List ℕ) → Option (List ℕ × Key)
record_of (alt ∷ table ∷ number ∷ []) = option_and_then (λ a. option_map (λ k. (a, k)) (key_of table number)) (name_of alt)
record_of _ = None

-- `NAME`
abbrev pub named_of : List (List ℕ) → Option (List ℕ)
named_of (name ∷ []) = name_of name
named_of _ = None

-- `NAME NAME`
abbrev pub names_of : List (List ℕ) → Option (List ℕ × List ℕ)
names_of (first ∷ second ∷ []) = option_and_then (λ a. option_map (λ b. (a, b)) (name_of second)) (name_of first)
names_of _ = None

-- `AT TABLE NUMBER`
abbrev pub record_at_of : List (List ℕ) → Option (At × Key)
record_at_of (at ∷ table ∷ number ∷ []) = option_and_then (λ a. option_map (λ k. (a, k)) (key_of table number)) (at_of at)
record_at_of _ = None

-- the first and the last key of a part: `TABLE`, which is all of the table, or `TABLE FIRST LAST`; no word is no part
abbrev pub part_of : List (List ℕ) → Option (Option (Key × Key))
part_of [] = Some None
part_of (table ∷ []) =
    option_map (λ t. Some (record { table = t; number = 0 }, record { table = t; number = 18446744073709551615 })) (number_of 65535 table)
part_of (table ∷ first ∷ last ∷ []) =
    option_and_then (λ low. option_map (λ high. Some (low, high)) (key_of table last)) (key_of table first)
part_of _ = None

-- `AT`, and a part
abbrev pub at_part_of : List (List ℕ) → Option (At × Option (Key × Key))
at_part_of [] = None
at_part_of (at ∷ words) = option_and_then (λ a. option_map (λ part. (a, part)) (part_of words)) (at_of at)

-- what a list of a version asks for, all of it or a part
abbrev pub list_asked : At × Option (Key × Key) → Request
list_asked (at, None) = Request.List at
list_asked (at, Some keys) = Request.Part at keys.0 keys.1

-- `AT AT`, and a part
abbrev pub ats_part_of : List (List ℕ) → Option (At × At × Option (Key × Key))
ats_part_of (first ∷ second ∷ words) =
    option_and_then (λ a. option_and_then (λ b. option_map (λ part. (a, b, part)) (part_of words)) (at_of second)) (at_of first)
ats_part_of _ = None

-- what a difference of two versions asks for, all of it or a part
abbrev pub diff_asked : At × At × Option (Key × Key) → Request
diff_asked (first, second, None) = Request.Diff first second
diff_asked (first, second, Some keys) = Request.DiffPart first second keys.0 keys.1

-- `AT TABLE NUMBER COUNT`, a count that 32 bits hold
abbrev pub page_of : List (List ℕ) → Option (At × Key × ℕ)
page_of (at ∷ table ∷ number ∷ count ∷ []) =
    option_and_then (λ a. option_and_then (λ k. option_map (λ n. (a, k, n)) (number_of 4294967295 count)) (key_of table number)) (at_of at)
page_of _ = None

-- `new NAME PARENT`, or `new NAME PARENT CHECKPOINT`
abbrev pub new_of : List (List ℕ) → Option Command
new_of (name ∷ parent ∷ []) = option_and_then (λ n. option_map (λ p. New n p) (name_of parent)) (name_of name)
new_of (name ∷ parent ∷ checkpoint ∷ []) =
    option_and_then (λ n. option_and_then (λ p. option_map (λ c. NewAt n p c) (name_of checkpoint)) (name_of parent)) (name_of name)
new_of _ = None

-- `put ALT TABLE NUMBER VALUE`
abbrev pub put_of : List (List ℕ) → Option Command
put_of (alt ∷ table ∷ number ∷ value ∷ []) =
    option_and_then (λ a. option_and_then (λ k. option_map (λ v. Put a k v) (value_of value)) (key_of table number)) (name_of alt)
put_of _ = None

-- `grow BLOCKS`: a number that 32 bits hold
abbrev pub grow_of : List (List ℕ) → Option Command
grow_of (blocks ∷ []) = option_map Grow (number_of 4294967295 blocks)
grow_of _ = None

-- a merge of this alternative with these settlements, and with a side for each other conflict, or without
abbrev pub merge_asked : List ℕ → Option Side → List (Key × Side) → Request
merge_asked alt None settled = Request.Command (Merge alt settled)
merge_asked alt (Some side) settled = Request.MergeAll None alt side settled

-- a merge of this alternative, if its first settlement is for all conflicts, or is not
abbrev pub merge_by : List ℕ → Option Side → List ℕ → List (List ℕ) → Option Request
merge_by alt (Some side) word words = option_map (merge_asked alt (Some side)) (settled_of words)
merge_by alt None word words = option_map (merge_asked alt None) (settled_of (word ∷ words))

-- a merge of this alternative, with the settlements that these words say
abbrev pub merge_with : List ℕ → List (List ℕ) → Option Request
merge_with alt [] = Some (merge_asked alt None [])
merge_with alt (word ∷ words) = merge_by alt (side_for_all word) word words

-- `merge ALT` and settlements, the first of which may be `all=SIDE`
abbrev pub merge_of : List (List ℕ) → Option Request
merge_of [] = None
merge_of (alt ∷ words) = option_and_then (λ a. merge_with a words) (name_of alt)

-- no further word
abbrev pub alone : {X : Type 0} → X → List (List ℕ) → Option X
alone x [] = Some x
alone x _ = None

-- the command that the words after the first complete, except for a merge
abbrev pub command_of : List ℕ → List (List ℕ) → Option Command
command_of verb words =
    if bytes_eq verb (codes "put") then put_of words
    else (if bytes_eq verb (codes "remove") then option_map (λ r. Remove r.0 r.1) (record_of words)
    else (if bytes_eq verb (codes "commit") then alone Commit words
    else (if bytes_eq verb (codes "rollback") then alone Rollback words
    else (if bytes_eq verb (codes "reclaim") then alone Reclaim words
    else (if bytes_eq verb (codes "grow") then grow_of words
    else (if bytes_eq verb (codes "drop") then option_map Drop (named_of words)
    else (if bytes_eq verb (codes "post") then option_map Post (named_of words)
    else (if bytes_eq verb (codes "new") then new_of words
    else (if bytes_eq verb (codes "checkpoint") then option_map (λ names. Checkpoint names.0 names.1) (names_of words)
    else (if bytes_eq verb (codes "uncheck") then option_map (λ names. Uncheck names.0 names.1) (names_of words)
    else (if bytes_eq verb (codes "back") then option_map (λ names. Back names.0 names.1) (names_of words) else None)))))))))))

-- the query for a list that the words after the first complete
abbrev pub list_of : List ℕ → List (List ℕ) → Option Request
list_of verb words =
    if bytes_eq verb (codes "list") then option_map list_asked (at_part_of words)
    else (if bytes_eq verb (codes "next") then option_map (λ p. Request.Page p.0 p.1 p.2) (page_of words)
    else (if bytes_eq verb (codes "diff") then option_map diff_asked (ats_part_of words)
    else (if bytes_eq verb (codes "alts") then alone Request.Alternatives words
    else (if bytes_eq verb (codes "checks") then option_map Request.Checkpoints (named_of words)
    else (if bytes_eq verb (codes "changes") then option_map Request.Changes (named_of words)
    else (if bytes_eq verb (codes "conflicts") then option_map Request.Conflicts (named_of words) else None))))))

-- the query that the words after the first complete
abbrev pub query_of : List ℕ → List (List ℕ) → Option Request
query_of verb words =
    if bytes_eq verb (codes "get") then option_map (λ r. Request.Get r.0 r.1) (record_at_of words)
    else (if bytes_eq verb (codes "tally") then option_map Request.Tally (named_of words)
    else (if bytes_eq verb (codes "free") then alone Request.Free words
    else (if bytes_eq verb (codes "blocks") then alone Request.Blocks words else list_of verb words)))

-- a command, or else a query
abbrev pub command_or : Option Command → Option Request → Option Request
command_or (Some command) query = Some (Request.Command command)
command_or None query = query

-- what the words after the first ask for
abbrev pub asked_by : List ℕ → List (List ℕ) → Option Request
asked_by verb words =
    command_or (command_of verb words) (if bytes_eq verb (codes "merge") then merge_of words else query_of verb words)

-- a merge with further words after its alternative: to read a line takes memory only if it is one
abbrev pub IsLongMerge : List (List ℕ) → Type 0
IsLongMerge (verb ∷ alt ∷ word ∷ words) = verb ≡ codes "merge"
IsLongMerge _ = ⊥

-- the line is a comment: its first word begins with `#` (35)
abbrev pub is_comment : List ℕ → Bool
is_comment [] = false
is_comment (b ∷ bytes) = b == 35

-- what a line of these words asks for
abbrev pub request_of : List (List ℕ) → Request
request_of [] = Request.Nothing
request_of (verb ∷ words) = if is_comment verb then Request.Nothing else unwrap_or (asked_by verb words) (Request.Bad (mistake_of verb words))

-- what a line that asks for this asks for in a session in which this is done with commands: nothing that changes the store, if it is only read
abbrev pub asked_in : OnCommand → Request → Request
asked_in Refuse (Request.Command command) = Request.Forbidden
asked_in Refuse (Request.Growing most command) = Request.Forbidden
asked_in Refuse (Request.MergeAll limit alt side settled) = Request.Forbidden
asked_in (GrowIfFull most) (Request.MergeAll limit alt side settled) = Request.MergeAll (Some most) alt side settled
asked_in (GrowIfFull most) (Request.Command command) = Request.Growing most command
asked_in on request = request

-- to how many blocks the store may grow for a command, if it may
abbrev pub limit_of : OnCommand → Option ℕ
limit_of (GrowIfFull most) = Some most
limit_of on = None
