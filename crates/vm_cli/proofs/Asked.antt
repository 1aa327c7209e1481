-- A parse without fault of the program's words asks for a job.
use Rattle.std.proofs.Common.{◌≡◌, ◌==◌, unwrap_or, ◌⊎◌, ◌<◌, ◌≤◌, ◌^◌, ◌&&◌, ◌||◌, ℕ, Bool, true, false, not, List, [], ◌∷◌, Some, None, cond, codes, find, drop, refl, sym, subst, ◌∙◌, inl, inr, arith, pos, option_and_then, lit<}
use Rattle.std.specs.Prelude.{slice_get}
use Rattle.std.specs.Str.{bytes_eq}
use Rattle.std.specs.Char.{digit_value}
use Rattle.std.specs.Str.Parse.{IsNumeral, digits_value, starts_with_minus, without_leading_plus}
use Rattle.std.proofs.lemmas.Bool.{eqb-true}
use Rattle.std.proofs.lemmas.Int.{ints}
use Rattle.std.proofs.lemmas.Slice.Eq.{bytes_eq-Decides}
use Rattle.clap.specs.Lexer.{without_minus}
use Rattle.clap.specs.Kinds.{value_kinds, values_kinds}
use Rattle.clap.specs.Values.{IsSignedIn, refused_kind}
use Rattle.clap.specs.ValueTests.{accepts, is_unsigned_in}
use Rattle.std.specs.List.{list_any}
use Rattle.clap.specs.Facts.{unwrap_or_range}
use Rattle.clap.specs.declared.builder.action.ArgAction.TheVariants.{Append, Set, SetTrue, Help}
use Rattle.clap.specs.declared.builder.value_parser.Reading.TheVariants.{WithoutMinus}
use Rattle.clap.specs.Walk.{Row, Rule, Text, action_of, answers_to, arg_by_id, first_of, has_row, nothing_held, one_of, rows_after, settled, walk, with_default}
use Rattle.clap.specs.Simple.{Shape, argument_words, built, built_leaf, filled, help_rule, label_of, with_index, subcommand_of}
use Rattle.clap.specs.Takes.{is_given}
use Rattle.clap.specs.Faults.{fault_of, level_fault, values_fault}
use Rattle.clap.specs.declared.builder.value_parser.ValueParser.TheVariants as vp
use Rattle.clap.specs.declared.builder.value_parser.ValueParser.{ValueParser}
use Rattle.clap.proofs.ValueTestLemmas.{Accepts-accepts, accepts-Accepts}
use Rattle.vm_cli.specs.program.Words.{Wanted, altctl, asked_of, blocks_rule, buffer_rule, cache_rule, check_app, command_with, copy_app, create_app, do_app, file_rule, grow_rule, grow_to_rule, grouping_by, buffer_by, is_set, line_rule, no_lock_rule, number_by, number_in, planners_rule, read_only_rule, refusal_by, run_app, serve_app, strict_rule, tree_app, wait_rule}
use Rattle.vm_cli.specs.program.Given.{input_of}
use Rattle.vm_cli.specs.program.Words.Wanted.{check, copy, create, do_lines, draw, run}
use Rattle.vm_cli.specs.declared.session.Grouping.TheVariants.{Lines}
use Rattle.vm_cli.specs.declared.session.OnRefusal.TheVariants.{Ignore, Tell}
use Rattle.vm_cli.proofs.FaultFree.{Every, every-found, neither, nothing_wanting}
use Rattle.vm_cli.proofs.Levels.{IsFilled, IsKnown, each_given, given_row, has-default, has-stays, held_row, level_rows, no-default}
use Rattle.vm_cli.proofs.Entered.{entered_one}

-- ---- a number in a range

minus_read : (t : List ℕ) → without_minus t ≡ cond (starts_with_minus t) (drop 1 t) t
minus_read [] = refl
minus_read (x ∷ xs) = go (x == 45)
  where
    go : (b : Bool) → unwrap_or (cond b (Some xs) None) (x ∷ xs) ≡ cond b xs (x ∷ xs)
    go true = refl
    go false = refl

-- digits have no sign before them
no_plus : (t : List ℕ) → IsNumeral 10 t → without_leading_plus t ≡ t
no_plus [] numeral = refl
no_plus (x ∷ xs) numeral = go (x == 43) refl
  where
    go : (b : Bool) → (x == 43) ≡ b → drop (cond b 1 0) (x ∷ xs) ≡ x ∷ xs
    go true plus =
        let is : x ≡ 43 = eqb-true x 43 plus in
        let digit : digit_value 43 < 10 = rw is at numeral.1.0 in
        absurd (omega arith)
    go false plus = refl

-- a text that passed a range of numbers from 0 on is read as a number in it
in_range : (low high : ℕ) (t : List ℕ) → high < 2 ^ 64 → IsSignedIn (pos low) (pos high) t → (n : ℕ) × (number_in low high (without_minus t) ≡ Some n)
in_range low high t small passed = go (starts_with_minus t) refl
  where
    read : (u : List ℕ) → without_minus t ≡ u → IsNumeral 10 (without_leading_plus u) → low ≤ digits_value 10 (without_leading_plus u)
        → digits_value 10 (without_leading_plus u) ≤ high → (n : ℕ) × (number_in low high (without_minus t) ≡ Some n)
    read u same numeral above below =
        let within : digits_value 10 (without_leading_plus u) < 2 ^ 64 = omega (arith, below, small) in
        let is_in : is_unsigned_in low high u ≡ true = Accepts-accepts false (vp.Unsigned low high) u (numeral, within, above, below) in
        (digits_value 10 (without_leading_plus u), rw (same, is_in) refl)

    go : (b : Bool) → starts_with_minus t ≡ b → (n : ℕ) × (number_in low high (without_minus t) ≡ Some n)
    go true minus =
        let same : without_minus t ≡ drop 1 t = (let m = minus_read t in rw minus at m) in
        let numeral : IsNumeral 10 (drop 1 t) = rw minus at passed.0 in
        let low_ok = rw minus at passed.2 in
        let bare = no_plus (drop 1 t) numeral in
        let zero : digits_value 10 (drop 1 t) ≡ 0 = omega (arith, ints) in
        let least : low ≡ 0 = omega (arith, ints) in
        read (drop 1 t) same (rw bare numeral) (rw (bare, zero, least) (omega arith)) (rw (bare, zero) (omega arith))
    go false minus =
        let low_ok = rw minus at passed.2 in
        let high_ok = rw minus at passed.3 in
        let numeral = rw minus at passed.0 in
        let same : without_minus t ≡ t = (let m = minus_read t in rw minus at m) in
        read t same numeral (omega (arith, ints)) (omega (arith, ints))

-- the first of values that passed
first_passes : (ignore_case : Bool) (parser : ValueParser) (values : List Text) (v : Text) → values_kinds ignore_case parser values ≡ [] → slice_get values 0 ≡ Some v
    → accepts ignore_case parser v ≡ true
first_passes ignore_case parser [] v e first = let bad : ⊥ = cc in absurd bad
first_passes ignore_case parser (x ∷ xs) v e first =
    let same : x ≡ v = cc in
    rw (← same) (go (accepts ignore_case parser x) refl (neither (value_kinds ignore_case parser x) (values_kinds ignore_case parser xs) e).0)
  where
    go : (b : Bool) → accepts ignore_case parser x ≡ b → cond b [] (refused_kind parser ∷ []) ≡ [] → accepts ignore_case parser x ≡ true
    go true t f = t
    go false t f = let bad : ⊥ = cc in absurd bad

-- ---- the levels of the subcommands

-- a level without fault asks for a job
abbrev Asks : Shape → Type 0
Asks s = (words : List Text) → level_fault s [] nothing_held words false [] ≡ [] → (w : Wanted) × (asked_of (Some (s.name, rows_after s.rules [] words)) ≡ Some w)

abbrev create_level : Shape
create_level = built_leaf create_app.top

abbrev run_level : Shape
run_level = built_leaf run_app.top

abbrev serve_level : Shape
serve_level = built_leaf serve_app.top

abbrev do_level : Shape
do_level = built_leaf do_app.top

abbrev check_level : Shape
check_level = built_leaf check_app.top

abbrev tree_level : Shape
tree_level = built_leaf tree_app.top

abbrev copy_level : Shape
copy_level = built_leaf copy_app.top

-- what is known of an argument that takes one value
abbrev valued : {c : List Rule} {a : Rule} → action_of a ≡ Set → 0 < (unwrap_or_range a.range).start_inclusive → values_fault a a.defaults ≡ [] → arg_by_id c a.id ≡ Some a → IsKnown c a
valued sets least defaults found = inl (record { sets = sets; least = least; defaults = defaults; found = found })

-- of a flag
abbrev flag : {c : List Rule} {a : Rule} (missing : Text) → action_of a ≡ SetTrue → a.missing ≡ missing ∷ [] → values_fault a a.defaults ≡ [] → arg_by_id c a.id ≡ Some a → IsKnown c a
flag missing sets stands defaults found = inr (inl (record { sets = sets; missing = missing; stands = stands; defaults = defaults; found = found }))

-- of an argument that takes more with each use
abbrev listed : {c : List Rule} {a : Rule} → action_of a ≡ Append → 0 < (unwrap_or_range a.range).start_inclusive → a.defaults ≡ [] → arg_by_id c a.id ≡ Some a → IsKnown c a
listed appends least bare found = inr (inr (inl (record { appends = appends; least = least; bare = bare; found = found })))

-- and of the flag that asks for help
abbrev help : {c : List Rule} {a : Rule} → action_of a ≡ Help → a.defaults ≡ [] → IsKnown c a
help asks bare = inr (inr (inr (record { asks = asks; bare = bare })))

create_known : Every (IsKnown create_level.rules) create_level.rules
create_known = (valued refl (lit< tt) refl refl, (valued refl (lit< tt) refl refl, (help refl refl, tt)))

run_known : Every (IsKnown run_level.rules) run_level.rules
run_known = (valued refl (lit< tt) refl refl, (flag (codes "true") refl refl refl refl, (flag (codes "true") refl refl refl refl, (flag (codes "true") refl refl refl refl, (flag (codes "true") refl refl refl refl, (flag (codes "true") refl refl refl refl, (valued refl (lit< tt) refl refl, (valued refl (lit< tt) refl refl, (valued refl (lit< tt) refl refl, (help refl refl, tt))))))))))

serve_known : Every (IsKnown serve_level.rules) serve_level.rules
serve_known = (valued refl (lit< tt) refl refl, (flag (codes "true") refl refl refl refl, (flag (codes "true") refl refl refl refl, (flag (codes "true") refl refl refl refl, (flag (codes "true") refl refl refl refl, (flag (codes "true") refl refl refl refl, (flag (codes "true") refl refl refl refl, (valued refl (lit< tt) refl refl, (valued refl (lit< tt) refl refl, (valued refl (lit< tt) refl refl, (help refl refl, tt)))))))))))

do_known : Every (IsKnown do_level.rules) do_level.rules
do_known = (valued refl (lit< tt) refl refl, (listed refl (lit< tt) refl refl, (flag (codes "true") refl refl refl refl, (flag (codes "true") refl refl refl refl, (flag (codes "true") refl refl refl refl, (flag (codes "true") refl refl refl refl, (flag (codes "true") refl refl refl refl, (valued refl (lit< tt) refl refl, (valued refl (lit< tt) refl refl, (valued refl (lit< tt) refl refl, (help refl refl, tt)))))))))))

check_known : Every (IsKnown check_level.rules) check_level.rules
check_known = (valued refl (lit< tt) refl refl, (flag (codes "true") refl refl refl refl, (flag (codes "true") refl refl refl refl, (help refl refl, tt))))

tree_known : Every (IsKnown tree_level.rules) tree_level.rules
tree_known = (valued refl (lit< tt) refl refl, (flag (codes "true") refl refl refl refl, (flag (codes "true") refl refl refl refl, (help refl refl, tt))))

copy_known : Every (IsKnown copy_level.rules) copy_level.rules
copy_known = (valued refl (lit< tt) refl refl, (valued refl (lit< tt) refl refl, (valued refl (lit< tt) refl refl, (flag (codes "true") refl refl refl refl, (flag (codes "true") refl refl refl refl, (help refl refl, tt))))))

-- the first value of a row that is filled
first_text : (c : List Rule) (rows : List Row) (id : Text) (r : Row) (filled : IsFilled c r) → find (λ x. bytes_eq x.id id) rows ≡ Some r → first_of id rows ≡ Some filled.first
first_text c rows id r filled found = rw (found, filled.has) refl

-- the text that the first value of a row is read as
one_read : (rows : List Row) (id : Text) (r : Row) (v : Text) → find (λ x. bytes_eq x.id id) rows ≡ Some r → r.reading ≡ WithoutMinus → slice_get r.values 0 ≡ Some v
    → one_of id rows ≡ Some (without_minus v)
one_read rows id r v found reading has = rw (found, has, reading) refl

-- the row of an argument whose values lie in a range says a number in it
number_read : (c : List Rule) (a : Rule) (low high : ℕ) (rows : List Row) (r : Row) → high < 2 ^ 64
    → a.parser ≡ Some (vp.Signed (pos low) (pos high)) → a.ignore_case ≡ false → arg_by_id c a.id ≡ Some a
    → IsFilled c r → find (λ x. bytes_eq x.id a.id) rows ≡ Some r → bytes_eq r.id a.id ≡ true
    → (n : ℕ) × (option_and_then (number_in low high) (one_of a.id rows) ≡ Some n)
number_read c a low high rows r small parser case known row found named =
    let id : r.id ≡ a.id = (bytes_eq-Decides r.id a.id).0 named in
    let by : arg_by_id c r.id ≡ Some a = rw id known in
    let passed = row.passes a by in
    let reading : r.reading ≡ WithoutMinus = passed.0 ∙ rw parser refl in
    let values : values_kinds false (vp.Signed (pos low) (pos high)) r.values ≡ [] = rw (parser, case) at passed.1 in
    let accepted : accepts false (vp.Signed (pos low) (pos high)) row.first ≡ true = first_passes false (vp.Signed (pos low) (pos high)) r.values row.first values row.has in
    let number = in_range low high row.first small (accepts-Accepts false (vp.Signed (pos low) (pos high)) row.first accepted) in
    (number.0, rw (one_read rows a.id r row.first found reading row.has) number.1)

-- the rules of the numbers, in their levels
abbrev blocks_place : Rule
blocks_place = with_index 2 (filled (blocks_rule true))

abbrev cache_option : Rule
cache_option = filled cache_rule

abbrev buffer_option : Rule
buffer_option = filled buffer_rule

abbrev grow_option : Rule
grow_option = filled grow_to_rule

create_rows : (rows : List Row) → Every (IsFilled create_level.rules) rows → is_given (codes "file") rows ≡ true → is_given (codes "blocks") rows ≡ true
    → (w : Wanted) × (asked_of (Some (codes "create", rows)) ≡ Some w)
create_rows rows filled file_given blocks_given =
    let file = given_row create_level create_known refl rows (codes "file") filled file_given in
    let blocks = given_row create_level create_known refl rows (codes "blocks") filled blocks_given in
    let number = number_read create_level.rules blocks_place 64 67108864 rows blocks.0 (lit< tt) refl refl refl blocks.2 blocks.1 blocks.3 in
    (create file.2.first number.0, rw (first_text create_level.rules rows (codes "file") file.0 file.2 file.1, number.1) refl)

run_rows : (rows : List Row) → Every (IsFilled run_level.rules) rows → is_given (codes "file") rows ≡ true → has_row (codes "grow-to") rows ≡ true → has_row (codes "cache") rows ≡ true
    → (w : Wanted) × (asked_of (Some (codes "run", rows)) ≡ Some w)
run_rows rows filled file_given grow_held cache_held =
    let file = given_row run_level run_known refl rows (codes "file") filled file_given in
    let grow = held_row run_level run_known refl rows (codes "grow-to") filled grow_held in
    let most = number_read run_level.rules grow_option 0 67108864 rows grow.0 (lit< tt) refl refl refl grow.2 grow.1 grow.3 in
    let cache = held_row run_level run_known refl rows (codes "cache") filled cache_held in
    let stay = number_read run_level.rules cache_option 0 65536 rows cache.0 (lit< tt) refl refl refl cache.2 cache.1 cache.3 in
    let command = command_with (is_set (first_of (codes "read-only") rows)) (is_set (first_of (codes "grow") rows)) most.0 in (
      run file.2.first (record { cache = stay.0; buffer = buffer_by rows }) (record { on_command = command; on_refusal = refusal_by Ignore rows; grouping = Lines }),
      rw (first_text run_level.rules rows (codes "file") file.0 file.2 file.1, stay.1, most.1) refl,
    )

serve_rows : (rows : List Row) → Every (IsFilled serve_level.rules) rows → is_given (codes "file") rows ≡ true → has_row (codes "grow-to") rows ≡ true → has_row (codes "cache") rows ≡ true
    → (w : Wanted) × (asked_of (Some (codes "serve", rows)) ≡ Some w)
serve_rows rows filled file_given grow_held cache_held =
    let file = given_row serve_level serve_known refl rows (codes "file") filled file_given in
    let grow = held_row serve_level serve_known refl rows (codes "grow-to") filled grow_held in
    let most = number_read serve_level.rules grow_option 0 67108864 rows grow.0 (lit< tt) refl refl refl grow.2 grow.1 grow.3 in
    let cache = held_row serve_level serve_known refl rows (codes "cache") filled cache_held in
    let stay = number_read serve_level.rules cache_option 0 65536 rows cache.0 (lit< tt) refl refl refl cache.2 cache.1 cache.3 in
    let command = command_with (is_set (first_of (codes "read-only") rows)) (is_set (first_of (codes "grow") rows)) most.0 in (
      run file.2.first (record { cache = stay.0; buffer = buffer_by rows }) (record { on_command = command; on_refusal = refusal_by Ignore rows; grouping = grouping_by rows }),
      rw (first_text serve_level.rules rows (codes "file") file.0 file.2 file.1, stay.1, most.1) refl,
    )

do_rows : (rows : List Row) → Every (IsFilled do_level.rules) rows → is_given (codes "file") rows ≡ true → is_given (codes "line") rows ≡ true → has_row (codes "grow-to") rows ≡ true → has_row (codes "cache") rows ≡ true
    → (w : Wanted) × (asked_of (Some (codes "do", rows)) ≡ Some w)
do_rows rows filled file_given line_given grow_held cache_held =
    let file = given_row do_level do_known refl rows (codes "file") filled file_given in
    let line = given_row do_level do_known refl rows (codes "line") filled line_given in
    let grow = held_row do_level do_known refl rows (codes "grow-to") filled grow_held in
    let most = number_read do_level.rules grow_option 0 67108864 rows grow.0 (lit< tt) refl refl refl grow.2 grow.1 grow.3 in
    let cache = held_row do_level do_known refl rows (codes "cache") filled cache_held in
    let stay = number_read do_level.rules cache_option 0 65536 rows cache.0 (lit< tt) refl refl refl cache.2 cache.1 cache.3 in
    let command = command_with (is_set (first_of (codes "read-only") rows)) (is_set (first_of (codes "grow") rows)) most.0 in (
      do_lines file.2.first (input_of line.0.values) (record { cache = stay.0; buffer = buffer_by rows }) (record { on_command = command; on_refusal = refusal_by Tell rows; grouping = Lines }),
      rw (first_text do_level.rules rows (codes "file") file.0 file.2 file.1, line.1, stay.1, most.1) refl,
    )

check_rows : (rows : List Row) → Every (IsFilled check_level.rules) rows → is_given (codes "file") rows ≡ true
    → (w : Wanted) × (asked_of (Some (codes "check", rows)) ≡ Some w)
check_rows rows filled file_given =
    let file = given_row check_level check_known refl rows (codes "file") filled file_given in
    (check file.2.first, rw (first_text check_level.rules rows (codes "file") file.0 file.2 file.1) refl)

tree_rows : (rows : List Row) → Every (IsFilled tree_level.rules) rows → is_given (codes "file") rows ≡ true
    → (w : Wanted) × (asked_of (Some (codes "tree", rows)) ≡ Some w)
tree_rows rows filled file_given =
    let file = given_row tree_level tree_known refl rows (codes "file") filled file_given in
    (draw file.2.first, rw (first_text tree_level.rules rows (codes "file") file.0 file.2 file.1) refl)

copy_rows : (rows : List Row) → Every (IsFilled copy_level.rules) rows → is_given (codes "file") rows ≡ true → is_given (codes "to") rows ≡ true
    → (w : Wanted) × (asked_of (Some (codes "copy", rows)) ≡ Some w)
copy_rows rows filled file_given to_given =
    let file = given_row copy_level copy_known refl rows (codes "file") filled file_given in
    let to = given_row copy_level copy_known refl rows (codes "to") filled to_given in
    (copy file.2.first to.2.first (number_by 64 67108864 (codes "blocks") rows), rw (first_text copy_level.rules rows (codes "file") file.0 file.2 file.1, first_text copy_level.rules rows (codes "to") to.0 to.2 to.1) refl)

-- at the end of a level the default values stand where no word said others
module _ (rows : List Row) where
  abbrev with_grow : List Row
  with_grow = with_default rows grow_option

  abbrev with_cache : List Row
  with_cache = with_default with_grow cache_option

  abbrev with_buffer : List Row
  with_buffer = with_default with_cache buffer_option

  cache_ends : has_row (codes "cache") (with_default with_buffer (filled help_rule)) ≡ true
  cache_ends =
      let here : has_row (codes "cache") with_cache ≡ true = has-default cache_option with_grow (codes "256") [] refl in
      let there : has_row (codes "cache") with_buffer ≡ true = has-stays (codes "cache") buffer_option with_cache here in
      subst (λ ends. has_row (codes "cache") ends ≡ true) (sym (no-default (filled help_rule) with_buffer refl)) there

  grow_ends : has_row (codes "grow-to") (with_default with_buffer (filled help_rule)) ≡ true
  grow_ends =
      let here : has_row (codes "grow-to") with_grow ≡ true = has-default grow_option rows (codes "0") [] refl in
      let then : has_row (codes "grow-to") with_cache ≡ true = has-stays (codes "grow-to") cache_option with_grow here in
      let there : has_row (codes "grow-to") with_buffer ≡ true = has-stays (codes "grow-to") buffer_option with_cache then in
      subst (λ ends. has_row (codes "grow-to") ends ≡ true) (sym (no-default (filled help_rule) with_buffer refl)) there

-- so it is in each of these levels, where the flags come before these options
abbrev flag_ends : List Row → List Row
flag_ends rows = with_default (with_default (with_default (with_default (with_default rows (filled no_lock_rule)) (filled wait_rule)) (filled strict_rule)) (filled read_only_rule)) (filled grow_rule)

abbrev run_ends : List Row → List Row
run_ends rows = flag_ends (with_default rows (with_index 1 (filled file_rule)))

abbrev serve_ends : List Row → List Row
serve_ends rows = flag_ends (with_default (with_default rows (with_index 1 (filled file_rule))) (filled planners_rule))

abbrev do_ends : List Row → List Row
do_ends rows = flag_ends (with_default (with_default rows (with_index 1 (filled file_rule))) (with_index 2 (filled line_rule)))

create_asks : Asks create_level
create_asks words e =
    let level = level_rows create_level create_known refl words e in
    let rows = rows_after create_level.rules [] words in
    let given = each_given create_level create_known refl create_level.rules rows (nothing_wanting false false (list_any (λ a. a.required && not (is_given a.id rows)) create_level.rules) level.1).1 in
    create_rows rows level.0 (given.0 refl) (given.1.0 refl)

run_asks : Asks run_level
run_asks words e =
    let level = level_rows run_level run_known refl words e in
    let rows = rows_after run_level.rules [] words in
    let given = each_given run_level run_known refl run_level.rules rows (nothing_wanting false false (list_any (λ a. a.required && not (is_given a.id rows)) run_level.rules) level.1).1 in
    let ends = run_ends (settled run_level.rules (walk run_level.rules [] nothing_held words).held).rows in
    run_rows rows level.0 (given.0 refl) (grow_ends ends) (cache_ends ends)

serve_asks : Asks serve_level
serve_asks words e =
    let level = level_rows serve_level serve_known refl words e in
    let rows = rows_after serve_level.rules [] words in
    let given = each_given serve_level serve_known refl serve_level.rules rows (nothing_wanting false false (list_any (λ a. a.required && not (is_given a.id rows)) serve_level.rules) level.1).1 in
    let ends = serve_ends (settled serve_level.rules (walk serve_level.rules [] nothing_held words).held).rows in
    serve_rows rows level.0 (given.0 refl) (grow_ends ends) (cache_ends ends)

do_asks : Asks do_level
do_asks words e =
    let level = level_rows do_level do_known refl words e in
    let rows = rows_after do_level.rules [] words in
    let given = each_given do_level do_known refl do_level.rules rows (nothing_wanting false false (list_any (λ a. a.required && not (is_given a.id rows)) do_level.rules) level.1).1 in
    let ends = do_ends (settled do_level.rules (walk do_level.rules [] nothing_held words).held).rows in
    do_rows rows level.0 (given.0 refl) (given.1.0 refl) (grow_ends ends) (cache_ends ends)

check_asks : Asks check_level
check_asks words e =
    let level = level_rows check_level check_known refl words e in
    let rows = rows_after check_level.rules [] words in
    let given = each_given check_level check_known refl check_level.rules rows (nothing_wanting false false (list_any (λ a. a.required && not (is_given a.id rows)) check_level.rules) level.1).1 in
    check_rows rows level.0 (given.0 refl)

tree_asks : Asks tree_level
tree_asks words e =
    let level = level_rows tree_level tree_known refl words e in
    let rows = rows_after tree_level.rules [] words in
    let given = each_given tree_level tree_known refl tree_level.rules rows (nothing_wanting false false (list_any (λ a. a.required && not (is_given a.id rows)) tree_level.rules) level.1).1 in
    tree_rows rows level.0 (given.0 refl)

copy_asks : Asks copy_level
copy_asks words e =
    let level = level_rows copy_level copy_known refl words e in
    let rows = rows_after copy_level.rules [] words in
    let given = each_given copy_level copy_known refl copy_level.rules rows (nothing_wanting false false (list_any (λ a. a.required && not (is_given a.id rows)) copy_level.rules) level.1).1 in
    copy_rows rows level.0 (given.0 refl) (given.1.0 refl)

-- a subcommand asks for a job, or is `help`
abbrev AsksOrHelps : Shape → Type 0
AsksOrHelps s = Asks s ⊎ ((name : Text) → answers_to name (label_of s) ≡ true → bytes_eq name (codes "help") ≡ true)

helps : (name : Text) → (bytes_eq (codes "help") name || false) ≡ true → bytes_eq name (codes "help") ≡ true
helps name e = go (bytes_eq (codes "help") name) refl
  where
    go : (b : Bool) → bytes_eq (codes "help") name ≡ b → bytes_eq name (codes "help") ≡ true
    go true t = (bytes_eq-Decides name (codes "help")).1 (sym ((bytes_eq-Decides (codes "help") name).0 t))
    go false t = let bad : ⊥ = (let f = rw t at e in cc) in absurd bad

each_asks : Every AsksOrHelps (built altctl).subs
each_asks = (inl create_asks, (inl run_asks, (inl serve_asks, (inl do_asks, (inl check_asks, (inl tree_asks, (inl copy_asks, (inr helps, tt))))))))

-- where the parse of the words has no fault, they ask for a job
pub asks : (words : List Text) → fault_of altctl words ≡ [] → (w : Wanted) × (asked_of (subcommand_of altctl words) ≡ Some w)
asks words e =
    let one = entered_one (built altctl) (argument_words altctl words) refl refl e in
    let which = every-found AsksOrHelps (λ s. answers_to one.name (label_of s)) (built altctl).subs one.shape each_asks one.found in
    elim which.0 [
      | inl job ↦ let wanted = job one.words one.clean in (wanted.0, rw one.is wanted.1)
      | inr help ↦ let bad : ⊥ = (let t = help one.name which.1 in let f = one.no_help in cc) in absurd bad
    ]
