-- The command line of the program as clap reads it, and the job that clap's matches ask for.
use Rattle.std.specs.Prelude.{◌≡◌, ℕ, Bool, true, false, pos, List, [], ◌∷◌, Option, Some, None, codes, if◌then◌else◌, nat_lt, option_map, option_and_then, IsOkAnd, Result}
use Rattle.std.specs.Str.{bytes_eq}
use Rattle.std.specs.Str.Parse.{digits_value, without_leading_plus}
use Rattle.clap.specs.ValueTests.{is_unsigned_in}
use Rattle.clap.specs.Words.{App, Row, Rule, Text, all_of, app_of, first_of, one_of, new_app, new_rule, rule_of, shape_of, subcommand_of, with_rule, with_subcommand}
use Rattle.clap.specs.Simple.{on_top}
use Rattle.clap.specs.declared.builder.arg.Arg.{Arg}
use Rattle.clap.specs.declared.builder.command.Command.{Command}
use Rattle.clap.specs.declared.builder.command.Command.TheViews.{out-Command}
use Rattle.clap.specs.declared.builder.action.ArgAction.TheVariants.{Append, SetTrue}
use Rattle.clap.specs.declared.builder.value_parser.ValueParser.TheVariants as vp
use Rattle.vm_types.specs.declared.sizes.TheConstants.{MIN_BLOCKS, MAX_BLOCKS}
use Rattle.vm_cli.specs.declared.program.task.TheConstants.{MAX_BUFFER}
use Rattle.vm_cli.specs.declared.program.words.TheConstants.{MAX_CACHE}
use Rattle.vm_cli.specs.declared.session.Grouping.{Grouping}
use Rattle.vm_cli.specs.declared.session.Grouping.TheVariants.{Batches, Lines, Planners}
use Rattle.vm_cli.specs.declared.session.Manner.{Manner}
use Rattle.vm_cli.specs.declared.session.OnCommand.{OnCommand}
use Rattle.vm_cli.specs.declared.session.OnCommand.TheVariants.{CarryOut, GrowIfFull, Refuse}
use Rattle.vm_cli.specs.declared.session.OnRefusal.{OnRefusal}
use Rattle.vm_cli.specs.declared.session.OnRefusal.TheVariants.{Ignore, Stop, Tell}
use Rattle.vm_cli.specs.declared.program.task.InMemory.{InMemory}
use Rattle.vm_cli.specs.declared.program.task.Job.{Job}
use Rattle.vm_cli.specs.declared.program.task.Job.TheVariants.{Check, Copy, Create, Do, Run, Tree}
use Rattle.vm_cli.specs.program.Given.{input_of}

-- the name of a file, which is required
abbrev pub file_rule : Rule
file_rule = record (new_rule (codes "file")) { required = true; value_names = 1 }

-- a number of blocks in the range of a store, and whether it is required
abbrev pub blocks_rule : Bool → Rule
blocks_rule required = record (new_rule (codes "blocks")) {
  required = required;
  value_names = 1;
  parser = Some (vp.Signed (pos MIN_BLOCKS) (pos MAX_BLOCKS));
}

-- `create FILE BLOCKS`
abbrev pub create_app : App
create_app = with_rule (with_rule (new_app (codes "create")) file_rule) (blocks_rule true)

-- an option for a number from 0 up to the most
abbrev pub amount_rule : Text → ℕ → Rule
amount_rule name most = record (new_rule name) {
  long = Some name;
  value_names = 1;
  parser = Some (vp.Signed (pos 0) (pos most));
}

-- how many blocks are kept in memory: 256 if no word says it
abbrev pub cache_rule : Rule
cache_rule = record (amount_rule (codes "cache") MAX_CACHE) { defaults = codes "256" ∷ [] }

-- how many written blocks may wait in memory, if a word says it
abbrev pub buffer_rule : Rule
buffer_rule = amount_rule (codes "buffer") MAX_BUFFER

-- an option that is given or not
abbrev pub flag_rule : Text → Rule
flag_rule name = record (new_rule name) {
  long = Some name;
  action = Some SetTrue;
}

-- whether a line that is refused ends the session
abbrev pub strict_rule : Rule
strict_rule = flag_rule (codes "strict")

-- whether commands are refused, and the file is only read
abbrev pub read_only_rule : Rule
read_only_rule = flag_rule (codes "read-only")

-- whether the store may grow, and to how many blocks, 0 if no word says it
abbrev pub grow_rule : Rule
grow_rule = flag_rule (codes "grow")

abbrev pub grow_to_rule : Rule
grow_to_rule = record (amount_rule (codes "grow-to") MAX_BLOCKS) { defaults = codes "0" ∷ [] }

-- whether the file's lock is left alone, and whether it is waited for
abbrev pub no_lock_rule : Rule
no_lock_rule = flag_rule (codes "no-lock")

abbrev pub wait_rule : Rule
wait_rule = flag_rule (codes "wait")

-- a subcommand with the options of the file's lock: `[--no-lock] [--wait]`
abbrev pub with_lock : App → App
with_lock app = with_rule (with_rule app no_lock_rule) wait_rule

-- a subcommand with the options of a session: those, and `[--strict] [--read-only] [--grow] [--grow-to N] [--cache N] [--buffer N]`
abbrev pub with_options : App → App
with_options app =
    with_rule (with_rule (with_rule (with_rule (with_rule (with_rule (with_lock app) strict_rule) read_only_rule) grow_rule) grow_to_rule) cache_rule) buffer_rule

-- `run [OPTIONS] FILE`
abbrev pub run_app : App
run_app = with_options (with_rule (new_app (codes "run")) file_rule)

-- whether the lines are those of many planners
abbrev pub planners_rule : Rule
planners_rule = flag_rule (codes "planners")

-- `serve [--planners] [OPTIONS] FILE`
abbrev pub serve_app : App
serve_app = with_options (with_rule (with_rule (new_app (codes "serve")) file_rule) planners_rule)

-- lines, one at least
abbrev pub line_rule : Rule
line_rule = record (new_rule (codes "line")) {
  required = true;
  value_names = 1;
  action = Some Append;
}

-- `do [OPTIONS] FILE LINE..`
abbrev pub do_app : App
do_app = with_options (with_rule (with_rule (new_app (codes "do")) file_rule) line_rule)

-- `check [--no-lock] [--wait] FILE`
abbrev pub check_app : App
check_app = with_lock (with_rule (new_app (codes "check")) file_rule)

-- `tree [--no-lock] [--wait] FILE`
abbrev pub tree_app : App
tree_app = with_lock (with_rule (new_app (codes "tree")) file_rule)

-- the name of the file with the copy, which is required
abbrev pub to_rule : Rule
to_rule = record (new_rule (codes "to")) { required = true; value_names = 1 }

-- `copy [--no-lock] [--wait] FROM TO [BLOCKS]`
abbrev pub copy_app : App
copy_app = with_lock (with_rule (with_rule (with_rule (new_app (codes "copy")) file_rule) to_rule) (blocks_rule false))

-- the program without its tasks, one of which is required unless its version is asked for
abbrev pub top_app : App
top_app = on_top (λ s. record s { subcommand_required = true; has_version = true }) (new_app (codes "altctl"))

-- `altctl create FILE BLOCKS`, `altctl run [OPTIONS] FILE`, `altctl serve [--planners] [OPTIONS] FILE`, `altctl do [OPTIONS] FILE LINE..`,
-- `altctl check [--no-lock] [--wait] FILE`, `altctl tree [--no-lock] [--wait] FILE` and `altctl copy [--no-lock] [--wait] FROM TO [BLOCKS]`
abbrev pub altctl : App
altctl =
    with_subcommand (with_subcommand (with_subcommand (with_subcommand (with_subcommand (with_subcommand (with_subcommand top_app create_app.top) run_app.top) serve_app.top) do_app.top) check_app.top) tree_app.top) copy_app.top

-- a job, with the file's name itself in place of a reference to it, and the input of the lines that were given
pub data Wanted : Type 0 where
  create : Text → ℕ → Wanted
  run : Text → InMemory → Manner → Wanted
  do_lines : Text → List ℕ → InMemory → Manner → Wanted
  check : Text → Wanted
  draw : Text → Wanted
  copy : Text → Text → Option ℕ → Wanted

-- what a job wants
abbrev pub wanted_of : Job → Wanted
wanted_of (Create file blocks) = create file.now blocks
wanted_of (Run file in_memory on) = run file.now in_memory on
wanted_of (Do file input in_memory on) = do_lines file.now input.items in_memory on
wanted_of (Check file) = check file.now
wanted_of (Tree file) = draw file.now
wanted_of (Copy file to blocks) = copy file.now to.now blocks

-- the number that a text says, if it lies in the range
abbrev pub number_in : ℕ → ℕ → Text → Option ℕ
number_in low high text = if is_unsigned_in low high text then Some (digits_value 10 (without_leading_plus text)) else None

-- whether a flag was given, by the text that its matches hold
abbrev pub is_set : Option Text → Bool
is_set None = false
is_set (Some text) = bytes_eq text (codes "true")

-- what a refused line means: it ends the session if `--strict` was given
abbrev pub refusal_by : OnRefusal → List Row → OnRefusal
refusal_by on rows = if is_set (first_of (codes "strict") rows) then Stop else on

-- the number that an argument of this name has, if it lies in the range
abbrev pub number_by : ℕ → ℕ → Text → List Row → Option ℕ
number_by low high name rows = option_and_then (number_in low high) (one_of name rows)

-- what a command means: with `--read-only` it is refused, with a number of blocks the store may grow to that, and with `--grow` to the most
abbrev pub command_with : Bool → Bool → ℕ → OnCommand
command_with read_only grow most =
    if read_only then Refuse else (if nat_lt 0 most then GrowIfFull most else (if grow then GrowIfFull MAX_BLOCKS else CarryOut))

-- how lines are answered
abbrev pub manner_by : OnRefusal → Grouping → List Row → Option Manner
manner_by on grouping rows =
    option_map
    (λ most. record { on_command = command_with (is_set (first_of (codes "read-only") rows)) (is_set (first_of (codes "grow") rows)) most; on_refusal = refusal_by on rows; grouping = grouping })
    (number_by 0 MAX_BLOCKS (codes "grow-to") rows)

-- how many blocks are kept in memory
abbrev pub cache_by : List Row → Option ℕ
cache_by rows = number_by 0 MAX_CACHE (codes "cache") rows

-- how many written blocks may wait in memory, if a word says it
abbrev pub buffer_by : List Row → Option ℕ
buffer_by rows = number_by 0 MAX_BUFFER (codes "buffer") rows

-- both
abbrev pub memory_by : List Row → Option InMemory
memory_by rows = option_map (λ cache. record { cache = cache; buffer = buffer_by rows }) (cache_by rows)

-- what takes effect together in a `serve` with these matches: the batches of many planners, or of one
abbrev pub grouping_by : List Row → Grouping
grouping_by rows = if is_set (first_of (codes "planners") rows) then Planners else Batches

-- what `run` or `serve` with these matches wants of this file
abbrev pub run_by : Grouping → List Row → Text → Option Wanted
run_by grouping rows file = option_and_then (λ in_memory. option_map (λ manner. run file in_memory manner) (manner_by Ignore grouping rows)) (memory_by rows)

-- what `do` with these matches wants of this file
abbrev pub do_by : List Row → Text → Option Wanted
do_by rows file =
    option_and_then
    (λ lines. option_and_then (λ in_memory. option_map (λ manner. do_lines file (input_of lines) in_memory manner) (manner_by Tell Lines rows)) (memory_by rows))
    (all_of (codes "line") rows)

-- what `copy` with these matches wants of this file
abbrev pub copy_by : List Row → Text → Option Wanted
copy_by rows file = option_map (λ to. copy file to (number_by MIN_BLOCKS MAX_BLOCKS (codes "blocks") rows)) (first_of (codes "to") rows)

-- what a subcommand with these matches wants of this file
abbrev pub asked_by : Text → List Row → Text → Option Wanted
asked_by name rows file =
    if bytes_eq name (codes "create") then option_map (create file) (number_by MIN_BLOCKS MAX_BLOCKS (codes "blocks") rows)
    else (if bytes_eq name (codes "run") then run_by Lines rows file
    else (if bytes_eq name (codes "serve") then run_by (grouping_by rows) rows file
    else (if bytes_eq name (codes "do") then do_by rows file
    else (if bytes_eq name (codes "check") then Some (check file)
    else (if bytes_eq name (codes "tree") then Some (draw file)
    else (if bytes_eq name (codes "copy") then copy_by rows file else None))))))

-- the job that the matches of a subcommand ask for
abbrev pub asked_of : Option (Text × List Row) → Option Wanted
asked_of None = None
asked_of (Some p) = option_and_then (asked_by p.0 p.1) (first_of (codes "file") p.1)

-- the job that was read, if there is one, is what a subcommand of this name with these matches wants of this file
abbrev pub IsAsked : Text → List Row → Text → Option Job → Type 0
IsAsked name rows file job = option_map wanted_of job ≡ asked_by name rows file

-- these words ask for this job
abbrev pub WordsAsk : List Text → Job → Type 0
WordsAsk words job = asked_of (subcommand_of altctl words) ≡ Some (wanted_of job)

-- the job that was read, if there is one, is the one that the matches of a subcommand ask for
abbrev pub IsAskedOf : Option (Text × List Row) → Option Job → Type 0
IsAskedOf matched job = option_map wanted_of job ≡ asked_of matched

-- a command has no argument that its subcommands take too
abbrev pub IsLocal : Command → Type 0
IsLocal command = (out-Command command).has_globals ≡ false

-- an argument of this rule, which no subcommand takes too
pub record IsArgOf (due : Rule) (arg : Arg) : Type 0 where
  pub rule : rule_of arg ≡ due
  pub local : arg.global ≡ false

-- a command of this form, of which no argument is taken by its subcommands
pub record IsCommandOf (due : App) (command : Command) : Type 0 where
  pub app : app_of command ≡ due
  pub local : IsLocal command

-- this is the program with this task as one more subcommand, and both were made
abbrev pub AddsTask : {E : Type 0} → Result Command E → Result Command E → Command → Type 0
AddsTask program task whole = IsOkAnd program (λ p. IsOkAnd task (λ c. IsLocal c → app_of whole ≡ with_subcommand (app_of p) (shape_of c)))
