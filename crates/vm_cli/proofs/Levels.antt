-- One level of a parse without fault, of a command whose arguments take one value or more, are flags or ask for help: each row has a first value, and its values passed.
use Rattle.std.proofs.Common.{◌≡◌, ◌⊎◌, ◌<◌, ◌&&◌, ◌||◌, ◌++◌, ◌∙◌, ℕ, Bool, true, false, not, zero, suc, List, [], ◌∷◌, Option, Some, None, is_some, cond, find, fold, drop, length, refl, sym, ap, subst, inl, inr, append-nil, lt-ltb}
use Rattle.std.specs.Prelude.{encode_utf8, slice_get}
use Rattle.std.specs.List.{list_any}
use Rattle.std.specs.Option.{option_map_or}
use Rattle.std.specs.Str.{bytes_eq, chars}
use Rattle.std.proofs.lemmas.Slice.Eq.{bytes_eq-Decides}
use Rattle.clap.specs.Lexer.{long_of, short_of}
use Rattle.clap.specs.Facts.{parser_of_value, unwrap_or_range}
use Rattle.clap.specs.Kinds.{Kinds, or_else, range_kinds, value_kinds, values_kinds}
use Rattle.clap.specs.declared.builder.value_parser.ValueParser.{ValueParser}
use Rattle.clap.specs.Walk.{Held, Outcome, done, waits, plain, refused, Row, Rule, Step, next, trailing, subcommand, value, Text, Waiting, idle, option, positional, Walk, default_rows, used_by_id, action_of, after_flag, after_step, arg_by_id, arg_by_index, arg_by_long, arg_by_short, at_row, attached_value, bundle, bundle_met, bundle_step, finished, flag_met, has_long, has_row, has_short, is_pending, long_met, long_or_other, more_values, most_values, nothing_held, option_met, option_word, plain_word, reacted, reading_by, rows_after, settled, settled_rows, short_met, short_or_plain, stronger, takes_several, takes_values, to_positional, used, values_or_missing, walk, walk_from, walked, walked_from, with_default, word_met}
use Rattle.clap.specs.Simple.{Shape}
use Rattle.clap.specs.Takes.{is_given}
use Rattle.clap.specs.Faults.{action_fault, bundle_fault, bundle_step_fault, check_fault, defaults_fault, flag_word_fault, flags_fault, level_fault, long_fault, option_fault, positional_fault, react_fault, repeat_fault, set_fault, settle_fault, short_fault, step_fault, turn_fault, use_fault, values_fault, walk_fault, word_fault}
use Rattle.clap.specs.declared.builder.action.ArgAction.TheVariants.{Append, Set, SetTrue, Help}
use Rattle.clap.specs.declared.error.kind.ErrorKind.TheVariants.{TooManyValues}
use Rattle.clap.specs.declared.parser.matches.ValueSource.{ValueSource}
use Rattle.clap.specs.declared.parser.matches.ValueSource.TheVariants.{CommandLine, DefaultValue}
use Rattle.vm_cli.proofs.FaultFree.{Every, every-found, every-push, neither, neither_true}

-- an argument that takes one value or more, once, and whose default values pass
pub record IsValued (c : List Rule) (a : Rule) : Type 0 where
  pub sets : action_of a ≡ Set
  pub least : 0 < (unwrap_or_range a.range).start_inclusive
  pub defaults : values_fault a a.defaults ≡ []
  pub found : arg_by_id c a.id ≡ Some a

-- a flag that takes no value, and for which one stands
pub record IsFlag (c : List Rule) (a : Rule) : Type 0 where
  pub sets : action_of a ≡ SetTrue
  pub missing : Text
  pub stands : a.missing ≡ missing ∷ []
  pub defaults : values_fault a a.defaults ≡ []
  pub found : arg_by_id c a.id ≡ Some a

-- an argument that takes one value or more, and more with each use
pub record IsList (c : List Rule) (a : Rule) : Type 0 where
  pub appends : action_of a ≡ Append
  pub least : 0 < (unwrap_or_range a.range).start_inclusive
  pub bare : a.defaults ≡ []
  pub found : arg_by_id c a.id ≡ Some a

-- a flag that asks for help
pub record IsRequest (a : Rule) : Type 0 where
  pub asks : action_of a ≡ Help
  pub bare : a.defaults ≡ []

abbrev pub IsKnown : List Rule → Rule → Type 0
IsKnown c a = IsValued c a ⊎ (IsFlag c a ⊎ (IsList c a ⊎ IsRequest a))

-- the row has a first value, and its values passed its argument's parser
pub record IsFilled (c : List Rule) (r : Row) : Type 0 where
  pub first : Text
  pub has : slice_get r.values 0 ≡ Some first
  pub passes : (a : Rule) → arg_by_id c r.id ≡ Some a → (r.reading ≡ reading_by a) × (values_fault a r.values ≡ [])

-- each row is filled
abbrev pub AreFilled : List Rule → List Row → Type 0
AreFilled c = Every (IsFilled c)

-- ---- one use of an argument

uses : (again : Bool) (a : Rule) (values : List Text) (rows : List Row) → use_fault again a values rows ≡ []
    → (range_kinds (unwrap_or_range a.range).start_inclusive (most_values a) (length values) ≡ []) × (action_fault (action_of a) again a (values_or_missing a values) rows ≡ [])
uses again a values rows e =
    neither (range_kinds (unwrap_or_range a.range).start_inclusive (most_values a) (length values)) (action_fault (action_of a) again a (values_or_missing a values) rows) e

no_request : (a : Rule) → IsRequest a → (again : Bool) (values : List Text) (rows : List Row) → use_fault again a values rows ≡ [] → ⊥
no_request a q again values rows e =
    let asked : action_fault (action_of a) again a (values_or_missing a values) rows ≡ [] = (uses again a values rows e).1 in
    let help : action_fault Help again a (values_or_missing a values) rows ≡ [] = rw q.asks at asked in
    cc

at_none : (id : Text) (change : Row → List Row) (missing rows : List Row) → has_row id rows ≡ false → at_row id change missing rows ≡ rows ++ missing
at_none id change missing [] e = refl
at_none id change missing (r ∷ rs) e =
    let parts = neither_true (bytes_eq r.id id) (has_row id rs) e in
    rw parts.0 (ap (λ t. r ∷ t) (at_none id change missing rs parts.1))

-- the row that a first use makes
abbrev row_for : ValueSource → Rule → List Text → Row
row_for source a values = record { id = a.id; values = values; count = None; source = Some source; reading = reading_by a }

-- it is filled, where its values pass
row_filled : (c : List Rule) (source : ValueSource) (a : Rule) (v : Text) (vs : List Text) → arg_by_id c a.id ≡ Some a → values_fault a (v ∷ vs) ≡ []
    → IsFilled c (row_for source a (v ∷ vs))
row_filled c source a v vs found passes = record {
  first = v;
  has = refl;
  passes = λ b other. let same : a ≡ b = cc in (ap reading_by same, ap (λ x. values_fault x (v ∷ vs)) (sym same) ∙ passes);
}

-- an argument whose first use makes its row
abbrev IsSet : Rule → Type 0
IsSet a = (action_of a ≡ Set) ⊎ (action_of a ≡ SetTrue)

used_first : (a : Rule) (values : List Text) (v : Text) (vs : List Text) (rows : List Row) → IsSet a → values_or_missing a values ≡ v ∷ vs → has_row a.id rows ≡ false
    → used a values rows ≡ rows ++ row_for CommandLine a (v ∷ vs) ∷ []
used_first a values v vs rows (inl sets) is none =
    let kept : at_row a.id (λ _. []) [] rows ≡ rows = at_none a.id (λ _. []) [] rows none ∙ append-nil rows in
    rw (sets, is, kept) (at_none a.id (more_values CommandLine (v ∷ vs)) (row_for CommandLine a (v ∷ vs) ∷ []) rows none)
used_first a values v vs rows (inr sets) is none =
    let kept : at_row a.id (λ _. []) [] rows ≡ rows = at_none a.id (λ _. []) [] rows none ∙ append-nil rows in
    rw (sets, is, kept) (at_none a.id (more_values CommandLine (v ∷ vs)) (row_for CommandLine a (v ∷ vs) ∷ []) rows none)

set_asked : (a : Rule) (values : List Text) (rows : List Row) → IsSet a → action_fault (action_of a) false a values rows ≡ [] → set_fault false a values rows ≡ []
set_asked a values rows (inl sets) e = rw sets at e
set_asked a values rows (inr sets) e = rw sets at e

no_repeat : (id : Text) (rows : List Row) → repeat_fault false id rows ≡ [] → has_row id rows ≡ false
no_repeat id rows e = go (has_row id rows) refl
  where
    go : (b : Bool) → has_row id rows ≡ b → has_row id rows ≡ false
    go true t = let bad : ⊥ = (let f = rw t at e in cc) in absurd bad
    go false t = t

-- a first use with these values
stores : (c : List Rule) (a : Rule) (values : List Text) (v : Text) (vs : List Text) (rows : List Row) → IsSet a → values_or_missing a values ≡ v ∷ vs → arg_by_id c a.id ≡ Some a
    → use_fault false a values rows ≡ [] → AreFilled c rows → AreFilled c (used a values rows)
stores c a values v vs rows sets is found e h =
    let asked : action_fault (action_of a) false a (v ∷ vs) rows ≡ [] = rw is at (uses false a values rows e).1 in
    let parts = neither (repeat_fault false a.id rows) (values_fault a (v ∷ vs)) (set_asked a (v ∷ vs) rows sets asked) in
    let none = no_repeat a.id rows parts.0 in
    rw (used_first a values v vs rows sets is none) (every-push (IsFilled c) rows _ h (row_filled c CommandLine a v vs found parts.1))

-- one value or more
module _ (a : Rule) (least : 0 < (unwrap_or_range a.range).start_inclusive) where
  no_values : (again : Bool) (rows : List Row) → use_fault again a [] rows ≡ [] → ⊥
  no_values again rows e =
      let range : range_kinds (unwrap_or_range a.range).start_inclusive (most_values a) 0 ≡ [] = (uses again a [] rows e).0 in
      (let f = rw (lt-ltb 0 _ least) at range in cc)

fills : (c : List Rule) (a : Rule) → IsValued c a → (values : List Text) (rows : List Row) → use_fault false a values rows ≡ []
    → AreFilled c rows → AreFilled c (used a values rows)
fills c a p [] rows e h = absurd (no_values a p.least false rows e)
fills c a p (v ∷ vs) rows e h = stores c a (v ∷ vs) v vs rows (inl p.sets) refl p.found e h

flags : (c : List Rule) (a : Rule) → IsFlag c a → (values : List Text) (rows : List Row) → use_fault false a values rows ≡ []
    → AreFilled c rows → AreFilled c (used a values rows)
flags c a p [] rows e h = stores c a [] p.missing [] rows (inr p.sets) p.stands p.found e h
flags c a p (v ∷ vs) rows e h = stores c a (v ∷ vs) v vs rows (inr p.sets) refl p.found e h

-- further values of a row
more_pass : (ignore_case : Bool) (parser : ValueParser) (values more : List Text) → values_kinds ignore_case parser values ≡ [] → values_kinds ignore_case parser more ≡ []
    → values_kinds ignore_case parser (values ++ more) ≡ []
more_pass ignore_case parser [] more e f = f
more_pass ignore_case parser (v ∷ vs) more e f =
    let parts = neither (value_kinds ignore_case parser v) (values_kinds ignore_case parser vs) e in
    rw parts.0 (more_pass ignore_case parser vs more parts.1 f)

first_stays : (values more : List Text) (v : Text) → slice_get values 0 ≡ Some v → slice_get (values ++ more) 0 ≡ Some v
first_stays [] more v e = cc
first_stays (x ∷ values) more v e = e

module _ (c : List Rule) (a : Rule) (v : Text) (vs : List Text) (found : arg_by_id c a.id ≡ Some a) (passes : values_fault a (v ∷ vs) ≡ []) where
  grown : (r : Row) → bytes_eq r.id a.id ≡ true → IsFilled c r
      → IsFilled c (record r { values = r.values ++ v ∷ vs; source = Some (stronger r.source CommandLine) })
  grown r named filled =
      let id : r.id ≡ a.id = (bytes_eq-Decides r.id a.id).0 named in
      let by : arg_by_id c r.id ≡ Some a = rw id found in
      record {
        first = filled.first;
        has = first_stays r.values (v ∷ vs) filled.first filled.has;
        passes = λ b other.
            let same : a ≡ b = cc in
            let so_far = filled.passes b other in
            let these : values_fault b (v ∷ vs) ≡ [] = ap (λ x. values_fault x (v ∷ vs)) (sym same) ∙ passes in
            (so_far.0, more_pass b.ignore_case (parser_of_value b.parser) r.values (v ∷ vs) so_far.1 these);
      }

  row_grows : (rows : List Row) → AreFilled c rows
      → AreFilled c (at_row a.id (more_values CommandLine (v ∷ vs)) (row_for CommandLine a (v ∷ vs) ∷ []) rows)
  row_grows [] filled = (row_filled c CommandLine a v vs found passes, tt)
  row_grows (r ∷ rows) filled = go (bytes_eq r.id a.id) refl (row_grows rows filled.1)
    where
      go : (b : Bool) → bytes_eq r.id a.id ≡ b
          → AreFilled c (at_row a.id (more_values CommandLine (v ∷ vs)) (row_for CommandLine a (v ∷ vs) ∷ []) rows)
          → AreFilled c (cond b (more_values CommandLine (v ∷ vs) r ++ rows) (r ∷ at_row a.id (more_values CommandLine (v ∷ vs)) (row_for CommandLine a (v ∷ vs) ∷ []) rows))
      go true named later = (grown r named filled.0, filled.1)
      go false named later = (filled.0, later)

lists : (c : List Rule) (again : Bool) (a : Rule) → IsList c a → (values : List Text) (rows : List Row) → use_fault again a values rows ≡ []
    → AreFilled c rows → AreFilled c (used a values rows)
lists c again a p [] rows e h = absurd (no_values a p.least again rows e)
lists c again a p (v ∷ vs) rows e h =
    let asked : action_fault (action_of a) again a (v ∷ vs) rows ≡ [] = (uses again a (v ∷ vs) rows e).1 in
    let passes : values_fault a (v ∷ vs) ≡ [] = rw p.appends at asked in
    rw p.appends (row_grows c a v vs p.found passes rows h)

used_filled : (c : List Rule) (again : Bool) (a : Rule) (values : List Text) (rows : List Row) → again ≡ false → IsKnown c a
    → use_fault again a values rows ≡ [] → AreFilled c rows → AreFilled c (used a values rows)
used_filled c true a values rows first known e filled = let bad : ⊥ = cc in absurd bad
used_filled c false a values rows first (inl valued) e filled = fills c a valued values rows e filled
used_filled c false a values rows first (inr (inl flag)) e filled = flags c a flag values rows e filled
used_filled c false a values rows first (inr (inr (inl list))) e filled = lists c false a list values rows e filled
used_filled c false a values rows first (inr (inr (inr request))) e filled = absurd (no_request a request false values rows e)

-- ---- words that are no flags

plain_rows : (c : List Rule) (waiting : Waiting) (word : Text) (h : Held) → (plain_word c waiting word h).0.rows ≡ h.rows
plain_rows c idle word h = refl
plain_rows c positional word h = refl
plain_rows c (option id) word h = go (arg_by_id c id)
  where
    go : (o : Option Rule) → (option_word o id word h).0.rows ≡ h.rows
    go None = refl
    go (Some a) = refl

flag_rows : (c : List Rule) (waiting : Waiting) (word : Text) (h : Held) (o : Outcome) → (after_flag c waiting word h o).0.rows ≡ h.rows
flag_rows c waiting word h done = refl
flag_rows c waiting word h (waits id) = refl
flag_rows c waiting word h plain = plain_rows c waiting word h
flag_rows c waiting word h refused = plain_rows c waiting word h

module _ (c : List Rule) (known : Every (IsKnown c) c) (again : Bool) (first : again ≡ false) where
  -- ---- what is pending is used

  settled_by : (pending : Option (Text × List Text)) (rows : List Row)
      → option_map_or (λ p. option_map_or (λ a. use_fault again a p.1 rows) (arg_by_id c p.0) []) pending [] ≡ []
      → AreFilled c rows → AreFilled c (settled_rows c pending rows)
  settled_by None rows e filled = filled
  settled_by (Some p) rows e filled = go (arg_by_id c p.0) refl
    where
      go : (o : Option Rule) → arg_by_id c p.0 ≡ o → AreFilled c (used_by_id o p.1 rows)
      go None found = filled
      go (Some a) found =
          let used_once : use_fault again a p.1 rows ≡ [] = rw found at e in
          used_filled c again a p.1 rows first (every-found (IsKnown c) (λ x. bytes_eq x.id p.0) c a known found).0 used_once filled

  settles : (h : Held) → settle_fault c again h ≡ [] → AreFilled c h.rows → AreFilled c (settled c h).rows
  settles h e filled = settled_by h.pending h.rows e filled

  reacts : (a : Rule) (values : List Text) (h : Held) → IsKnown c a → react_fault c again a values h ≡ [] → AreFilled c h.rows
      → AreFilled c (reacted c a values h).rows
  reacts a values h is e filled =
      let parts = neither (settle_fault c again h) (use_fault again a values (settled c h).rows) e in
      used_filled c again a values (settled c h).rows first is parts.1 (settles h parts.0 filled)

  -- ---- flags

  option_filled : (a : Rule) (v : Option Text) (h : Held) → IsKnown c a → option_fault c again a v h ≡ [] → AreFilled c h.rows
      → AreFilled c (option_met c a v h).0.rows
  option_filled a (Some v) h is e filled = reacts a (v ∷ []) h is e filled
  option_filled a None h is e filled = settles h e filled

  flag_filled : (a : Rule) (v : Option Text) (h : Held) → IsKnown c a → cond (is_some v) (TooManyValues ∷ []) (react_fault c again a [] h) ≡ []
      → AreFilled c h.rows → AreFilled c (flag_met c a v h).0.rows
  flag_filled a (Some v) h is e filled = filled
  flag_filled a None h is e filled = reacts a [] h is e filled

  long_filled : (name : Text) (v : Option Text) (h : Held) (o : Option Rule) → arg_by_long c name ≡ o → long_fault c again o v h ≡ [] → AreFilled c h.rows
      → AreFilled c (long_met c o v h).0.rows
  long_filled name v h None found e filled = filled
  long_filled name v h (Some a) found e filled = go (takes_values a) e
    where
      is : IsKnown c a
      is = (every-found (IsKnown c) (λ x. not (is_some x.index) && has_long x name) c a known found).0

      go : (b : Bool) → cond b (option_fault c again a v h) (cond (is_some v) (TooManyValues ∷ []) (react_fault c again a [] h)) ≡ []
          → AreFilled c (cond b (option_met c a v h) (flag_met c a v h)).0.rows
      go true f = option_filled a v h is f filled
      go false f = flag_filled a v h is f filled

  short_filled : (x : ℕ) (rest : Text) (h : Held) (more : Held → Kinds) (met : Held → Held × Outcome)
      → ((k : Held) → more k ≡ [] → AreFilled c k.rows → AreFilled c (met k).0.rows)
      → (o : Option Rule) → arg_by_short c x ≡ o → short_fault c again o rest h more ≡ [] → AreFilled c h.rows → AreFilled c (short_met c o rest h met).0.rows
  short_filled x rest h more met later None found e filled = filled
  short_filled x rest h more met later (Some a) found e filled = go (takes_values a) e
    where
      is : IsKnown c a
      is = (every-found (IsKnown c) (λ y. not (is_some y.index) && has_short y x) c a known found).0

      go : (b : Bool) → cond b (option_fault c again a (attached_value rest) h) (or_else (react_fault c again a [] h) (more (reacted c a [] h))) ≡ []
          → AreFilled c (cond b (option_met c a (attached_value rest) h) (met (reacted c a [] h))).0.rows
      go true f = option_filled a (attached_value rest) h is f filled
      go false f =
          let parts = neither (react_fault c again a [] h) (more (reacted c a [] h)) f in
          later (reacted c a [] h) parts.1 (reacts a [] h is parts.0 filled)

  bundle_turn : (o : Option ℕ) (flags : Text) (skip : ℕ) (so_far : Outcome) (h : Held) (faults : Text → ℕ → Held → Kinds)
      (met : Text → ℕ → Outcome → Held → Held × Outcome)
      → ((t : Text) (n : ℕ) (come : Outcome) (k : Held) → faults t n k ≡ [] → AreFilled c k.rows → AreFilled c (met t n come k).0.rows)
      → bundle_step_fault c again o flags skip h faults ≡ [] → AreFilled c h.rows → AreFilled c (bundle_step c o flags skip so_far h met).0.rows
  bundle_turn None flags skip so_far h faults met later e filled = filled
  bundle_turn (Some x) flags zero so_far h faults met later e filled =
      let rest = drop (length (encode_utf8 x)) flags in
      short_filled x rest h (faults rest 0) (met rest 0 done) (λ k f so. later rest 0 done k f so) (arg_by_short c x) refl e filled
  bundle_turn (Some x) flags (suc skip) so_far h faults met later e filled =
      later (drop (length (encode_utf8 x)) flags) skip so_far h e filled

  bundle_filled : (k : ℕ) (flags : Text) (skip : ℕ) (so_far : Outcome) (h : Held) → flags_fault c again k flags skip h ≡ [] → AreFilled c h.rows
      → AreFilled c (bundle_met c k flags skip so_far h).0.rows
  unfolding flags_fault bundle_met
  bundle_filled zero flags skip so_far h e filled = filled
  bundle_filled (suc k) flags skip so_far h e filled =
      bundle_turn (slice_get (chars flags) 0) flags skip so_far h (flags_fault c again k) (bundle_met c k)
      (λ t n come held f so. bundle_filled k t n come held f so) e filled

  -- ---- words

  short_rows : (waiting : Waiting) (word : Text) (h : Held) (o : Option Text) → option_map_or (λ flags. bundle_fault c again flags h) o [] ≡ []
      → AreFilled c h.rows → AreFilled c (short_or_plain c waiting word o h).0.rows
  short_rows waiting word h None e filled = subst (AreFilled c) (sym (plain_rows c waiting word h)) filled
  short_rows waiting word h (Some flags) e filled =
      let met = bundle c flags h in
      subst (AreFilled c) (sym (flag_rows c waiting word met.0 met.1)) (bundle_filled (length flags) flags h.skip plain (record h { skip = 0 }) e filled)

  other_rows : (waiting : Waiting) (word : Text) (h : Held) (o : Option (Text × Option Text)) → flag_word_fault c again o word h ≡ []
      → AreFilled c h.rows → AreFilled c (long_or_other c waiting word o h).0.rows
  other_rows waiting word h None e filled = short_rows waiting word h (short_of word) e filled
  other_rows waiting word h (Some p) e filled =
      let met = long_met c (arg_by_long c p.0) p.1 h in
      subst (AreFilled c) (sym (flag_rows c waiting word met.0 met.1)) (long_filled p.0 p.1 h (arg_by_long c p.0) refl e filled)

  dashes_rows : (waiting : Waiting) (position : ℕ) (word : Text) (h : Held) (b : Bool)
      → cond b [] (flag_word_fault c again (long_of word) word h) ≡ []
      → AreFilled c h.rows → AreFilled c (cond b (h, trailing position) (long_or_other c waiting word (long_of word) h)).0.rows
  dashes_rows waiting position word h true e filled = filled
  dashes_rows waiting position word h false e filled = other_rows waiting word h (long_of word) e filled

  place_rows : (h : Held) (b : Bool) → cond b [] (settle_fault c again h) ≡ [] → AreFilled c h.rows → AreFilled c (cond b h (settled c h)).rows
  place_rows h true e filled = filled
  place_rows h false e filled = settles h e filled

  to_place : (o : Option Rule) (word : Text) (w : Walk) (h : Held) (stray : Kinds) → option_map_or (λ a. positional_fault c again a h) o stray ≡ []
      → AreFilled c h.rows → AreFilled c (to_positional c o word w h).held.rows
  to_place None word w h stray e filled = filled
  to_place (Some a) word w h stray e filled = place_rows h (is_pending a h.pending && takes_several a) e filled

module _ (s : Shape) (known : Every (IsKnown s.rules) s.rules) (first : s.args_override_self ≡ false) where
  -- ---- the walk

  step_rows : (w : Walk) (word : Text) (h : Held) (step : Step) → step_fault s w.position h step ≡ [] → AreFilled s.rules h.rows
      → AreFilled s.rules (after_step s.rules word w h step).held.rows
  step_rows w word h (next waiting) e filled = filled
  step_rows w word h (trailing position) e filled = filled
  step_rows w word h (subcommand name) e filled = filled
  step_rows w word h value e filled = to_place s.rules known s.args_override_self first (arg_by_index s.rules w.position) word w h _ e filled

  -- no word names a subcommand where there is none
  met_rows : (is_trailing : Bool) (waiting : Waiting) (position : ℕ) (word : Text) (h : Held) → word_fault s [] is_trailing waiting word h ≡ []
      → AreFilled s.rules h.rows → AreFilled s.rules (word_met s.rules [] is_trailing waiting position word h).0.rows
  met_rows true waiting position word h e filled = filled
  met_rows false idle position word h e filled =
      dashes_rows s.rules known s.args_override_self first idle position word h (bytes_eq word (45 ∷ 45 ∷ [])) e filled
  met_rows false positional position word h e filled =
      dashes_rows s.rules known s.args_override_self first positional position word h (bytes_eq word (45 ∷ 45 ∷ [])) e filled
  met_rows false (option id) position word h e filled =
      dashes_rows s.rules known s.args_override_self first (option id) position word h (bytes_eq word (45 ∷ 45 ∷ [])) e filled

  turn_by : (w : Walk) (word : Text) (stop : Option (Text × List Text))
      → cond (is_some stop) [] (or_else (word_fault s [] w.is_trailing w.waiting word w.held)
      (step_fault s w.position (word_met s.rules [] w.is_trailing w.waiting w.position word w.held).0 (word_met s.rules [] w.is_trailing w.waiting w.position word w.held).1)) ≡ []
      → AreFilled s.rules w.held.rows → AreFilled s.rules (walked_from s.rules [] stop w word).held.rows
  turn_by w word (Some p) e filled = filled
  turn_by w word None e filled =
      let met = word_met s.rules [] w.is_trailing w.waiting w.position word w.held in
      let parts = neither (word_fault s [] w.is_trailing w.waiting word w.held) (step_fault s w.position met.0 met.1) e in
      step_rows w word met.0 met.1 parts.1 (met_rows w.is_trailing w.waiting w.position word w.held parts.0 filled)

  turn_rows : (w : Walk) (word : Text) → turn_fault s [] w word ≡ [] → AreFilled s.rules w.held.rows → AreFilled s.rules (walked s.rules [] w word).held.rows
  unfolding walked
  turn_rows w word e filled = turn_by w word w.stopped e filled

  walk_rows : (words : List Text) (w : Walk) → walk_fault s [] w words ≡ [] → AreFilled s.rules w.held.rows
      → AreFilled s.rules (fold (walked s.rules []) w words).held.rows
  unfolding walk_fault
  walk_rows [] w e filled = filled
  walk_rows (word ∷ words) w e filled =
      let parts = neither (turn_fault s [] w word) (walk_fault s [] (walked s.rules [] w word) words) e in
      walk_rows words (walked s.rules [] w word) parts.1 (turn_rows w word parts.0 filled)

  -- ---- after the walk

  defaults_pass : (a : Rule) → IsKnown s.rules a → (v : Text) (vs : List Text) → a.defaults ≡ v ∷ vs
      → (arg_by_id s.rules a.id ≡ Some a) × (values_fault a (v ∷ vs) ≡ [])
  defaults_pass a (inl valued) v vs is = (valued.found, rw is at valued.defaults)
  defaults_pass a (inr (inl flag)) v vs is = (flag.found, rw is at flag.defaults)
  defaults_pass a (inr (inr (inl list))) v vs is = let bad : ⊥ = (let none = list.bare in cc) in absurd bad
  defaults_pass a (inr (inr (inr request))) v vs is = let bad : ⊥ = (let none = request.bare in cc) in absurd bad

  default_filled : (a : Rule) (rows : List Row) → IsKnown s.rules a → AreFilled s.rules rows → AreFilled s.rules (with_default rows a)
  default_filled a rows is filled = go (has_row a.id rows) refl a.defaults refl
    where
      go : (b : Bool) → has_row a.id rows ≡ b → (values : List Text) → a.defaults ≡ values
          → AreFilled s.rules (cond b rows (default_rows a.id (reading_by a) values rows))
      go true has values same = filled
      go false has [] same = filled
      go false has (v ∷ vs) same =
          let passes = defaults_pass a is v vs same in
          rw (at_none a.id (more_values DefaultValue (v ∷ vs)) (row_for DefaultValue a (v ∷ vs) ∷ []) rows has)
          (every-push (IsFilled s.rules) rows _ filled (row_filled s.rules DefaultValue a v vs passes.0 passes.1))

  all_filled : (rules : List Rule) (rows : List Row) → Every (IsKnown s.rules) rules → AreFilled s.rules rows
      → AreFilled s.rules (fold with_default rows rules)
  all_filled [] rows h filled = filled
  all_filled (a ∷ rules) rows h filled = all_filled rules (with_default rows a) h.1 (default_filled a rows h.0 filled)

  -- a level without fault: its rows are filled, and nothing is wanting
  pub level_rows : (words : List Text) → level_fault s [] nothing_held words false [] ≡ []
      → AreFilled s.rules (rows_after s.rules [] words) × (check_fault s (rows_after s.rules [] words) false ≡ [])
  level_rows words e =
      let end = (walk s.rules [] nothing_held words).held in
      let checks = check_fault s (finished s.rules end) false in
      let defaults = defaults_fault (settled s.rules end).rows s.rules in
      let settling = settle_fault s.rules s.args_override_self end in
      let a = neither (walk_fault s [] (walk_from nothing_held) words) (or_else settling (or_else defaults checks)) e in
      let b = neither settling (or_else defaults checks) a.1 in
      let c = neither defaults checks b.1 in
      let walked_rows = walk_rows words (walk_from nothing_held) a.0 tt in
      let all = settles s.rules known s.args_override_self first end b.0 walked_rows in
      (all_filled s.rules (settled s.rules end).rows known all, c.1)

  not_false : (b : Bool) → not b ≡ false → b ≡ true
  not_false true e = refl
  not_false false e = let bad : ⊥ = cc in absurd bad

  required_by : (a : Rule) (rows : List Row) (b : Bool) → (b && not (is_given a.id rows)) ≡ false → b ≡ true → is_given a.id rows ≡ true
  required_by a rows true e t = not_false (is_given a.id rows) e
  required_by a rows false e t = let bad : ⊥ = cc in absurd bad

  -- what is required was given
  pub each_given : (rules : List Rule) (rows : List Row) → list_any (λ a. a.required && not (is_given a.id rows)) rules ≡ false
      → Every (λ a. a.required ≡ true → is_given a.id rows ≡ true) rules
  each_given [] rows e = tt
  each_given (a ∷ rules) rows e =
      let parts = neither_true (a.required && not (is_given a.id rows)) (list_any (λ x. x.required && not (is_given x.id rows)) rules) e in
      (λ t. required_by a rows a.required parts.0 t, each_given rules rows parts.1)

  -- the row of what was given
  pub given_row : (rows : List Row) (id : Text) → AreFilled s.rules rows → is_given id rows ≡ true
      → (r : Row) × (find (λ x. bytes_eq x.id id) rows ≡ Some r) × IsFilled s.rules r × (bytes_eq r.id id ≡ true)
  given_row rows id filled e = go (find (λ x. bytes_eq x.id id) rows) refl
    where
      go : (o : Option Row) → find (λ x. bytes_eq x.id id) rows ≡ o
          → (r : Row) × (find (λ x. bytes_eq x.id id) rows ≡ Some r) × IsFilled s.rules r × (bytes_eq r.id id ≡ true)
      go None t = let bad : ⊥ = (let f = rw t at e in cc) in absurd bad
      go (Some r) t = let both = every-found (IsFilled s.rules) (λ x. bytes_eq x.id id) rows r filled t in (r, t, both.0, both.1)

  -- the row of what is there
  pub held_row : (rows : List Row) (id : Text) → AreFilled s.rules rows → has_row id rows ≡ true
      → (r : Row) × (find (λ x. bytes_eq x.id id) rows ≡ Some r) × IsFilled s.rules r × (bytes_eq r.id id ≡ true)
  held_row [] id filled e = let bad : ⊥ = cc in absurd bad
  held_row (x ∷ rows) id filled e = go (bytes_eq x.id id) refl e (λ t. held_row rows id filled.1 t)
    where
      go : (b : Bool) → bytes_eq x.id id ≡ b → (b || has_row id rows) ≡ true
          → (has_row id rows ≡ true → (r : Row) × (find (λ y. bytes_eq y.id id) rows ≡ Some r) × IsFilled s.rules r × (bytes_eq r.id id ≡ true))
          → (r : Row) × (cond b (Some x) (find (λ y. bytes_eq y.id id) rows) ≡ Some r) × IsFilled s.rules r × (bytes_eq r.id id ≡ true)
      go true is t later = (x, refl, filled.0, is)
      go false is t later = later t

-- ---- an argument with a default value has a row

has-push : (id : Text) (rows : List Row) (r : Row) → bytes_eq r.id id ≡ true → has_row id (rows ++ r ∷ []) ≡ true
has-push id [] r is = rw is refl
has-push id (x ∷ rows) r is = go (bytes_eq x.id id) (has-push id rows r is)
  where
    go : (b : Bool) → has_row id (rows ++ r ∷ []) ≡ true → (b || has_row id (rows ++ r ∷ [])) ≡ true
    go true later = refl
    go false later = later

pub has-default : (a : Rule) (rows : List Row) (v : Text) (vs : List Text) → a.defaults ≡ v ∷ vs → has_row a.id (with_default rows a) ≡ true
has-default a rows v vs is = rw is (go (has_row a.id rows) refl)
  where
    go : (b : Bool) → has_row a.id rows ≡ b → has_row a.id (cond b rows (default_rows a.id (reading_by a) (v ∷ vs) rows)) ≡ true
    go true has = has
    go false has =
        rw (at_none a.id (more_values DefaultValue (v ∷ vs)) (row_for DefaultValue a (v ∷ vs) ∷ []) rows has)
        (has-push a.id rows _ ((bytes_eq-Decides a.id a.id).1 refl))

has-more : (id : Text) (rows more : List Row) → has_row id rows ≡ true → has_row id (rows ++ more) ≡ true
has-more id [] more here = cc
has-more id (x ∷ rows) more here = go (bytes_eq x.id id) here (λ e. has-more id rows more e)
  where
    go : (b : Bool) → (b || has_row id rows) ≡ true → (has_row id rows ≡ true → has_row id (rows ++ more) ≡ true) → (b || has_row id (rows ++ more)) ≡ true
    go true e later = refl
    go false e later = later e

-- the other rows stay
pub has-stays : (id : Text) (a : Rule) (rows : List Row) → has_row id rows ≡ true → has_row id (with_default rows a) ≡ true
has-stays id a rows here = go (has_row a.id rows) refl a.defaults
  where
    go : (b : Bool) → has_row a.id rows ≡ b → (values : List Text) → has_row id (cond b rows (default_rows a.id (reading_by a) values rows)) ≡ true
    go true has values = here
    go false has [] = here
    go false has (v ∷ vs) =
        rw (at_none a.id (more_values DefaultValue (v ∷ vs)) (row_for DefaultValue a (v ∷ vs) ∷ []) rows has)
        (has-more id rows (row_for DefaultValue a (v ∷ vs) ∷ []) here)

-- one without leaves the rows as they are
pub no-default : (a : Rule) (rows : List Row) → a.defaults ≡ [] → with_default rows a ≡ rows
no-default a rows none = rw none (go (has_row a.id rows))
  where
    go : (b : Bool) → cond b rows rows ≡ rows
    go true = refl
    go false = refl
