-- The first level of a parse without fault, of a command that wants a subcommand: one was entered that isn't `help`, and its level has no fault.
use Rattle.std.proofs.Common.{◌≡◌, ◌&&◌, ℕ, Bool, true, false, not, List, [], ◌∷◌, Option, Some, None, is_some, cond, codes, find, fold, refl}
use Rattle.std.specs.Str.{bytes_eq}
use Rattle.clap.specs.Lexer.{long_of, short_of}
use Rattle.clap.specs.Kinds.{Kinds, or_else}
use Rattle.clap.specs.Walk.{Held, Names, Outcome, done, waits, plain, refused, Rule, Step, next, trailing, subcommand, value, Text, Waiting, idle, option, positional, Walk, after_flag, after_step, answers_to, arg_by_index, bundle, finished, long_met, arg_by_long, long_or_other, nothing_held, plain_word, rows_after, settled, short_or_plain, subcommand_met, subcommand_or_other, to_positional, walk, walk_from, walked, walked_from, word_met}
use Rattle.clap.specs.Simple.{App, Shape, entered, label_of, names_of}
use Rattle.clap.specs.Faults.{built_fault, check_fault, defaults_fault, entered_fault, level_fault, other_fault, settle_fault, step_fault, turn_fault, walk_fault, word_fault}
use Rattle.vm_cli.proofs.FaultFree.{neither, nothing_wanting}

-- the step is no subcommand
abbrev is_subcommand : Step → Bool
is_subcommand (subcommand name) = true
is_subcommand _ = false

plain_stays : (c : List Rule) (waiting : Waiting) (word : Text) (h : Held) → is_subcommand (plain_word c waiting word h).1 ≡ false
plain_stays c idle word h = refl
plain_stays c positional word h = refl
plain_stays c (option id) word h = refl

flag_stays : (c : List Rule) (waiting : Waiting) (word : Text) (h : Held) (o : Outcome) → is_subcommand (after_flag c waiting word h o).1 ≡ false
flag_stays c waiting word h done = refl
flag_stays c waiting word h (waits id) = refl
flag_stays c waiting word h plain = plain_stays c waiting word h
flag_stays c waiting word h refused = plain_stays c waiting word h

short_stays : (c : List Rule) (waiting : Waiting) (word : Text) (o : Option Text) (h : Held) → is_subcommand (short_or_plain c waiting word o h).1 ≡ false
short_stays c waiting word None h = plain_stays c waiting word h
short_stays c waiting word (Some flags) h = flag_stays c waiting word (bundle c flags h).0 (bundle c flags h).1

other_stays : (c : List Rule) (waiting : Waiting) (word : Text) (o : Option (Text × Option Text)) (h : Held) → is_subcommand (long_or_other c waiting word o h).1 ≡ false
other_stays c waiting word None h = short_stays c waiting word (short_of word) h
other_stays c waiting word (Some p) h = flag_stays c waiting word (long_met c (arg_by_long c p.0) p.1 h).0 (long_met c (arg_by_long c p.0) p.1 h).1

dashes_stay : (c : List Rule) (waiting : Waiting) (position : ℕ) (word : Text) (h : Held) (b : Bool)
    → is_subcommand (cond b (h, trailing position) (long_or_other c waiting word (long_of word) h)).1 ≡ false
dashes_stay c waiting position word h true = refl
dashes_stay c waiting position word h false = other_stays c waiting word (long_of word) h

-- no subcommand, or one that isn't `help`
abbrev pub IsNoHelp : Option (Text × List Text) → Type 0
IsNoHelp None = Unit {0}
IsNoHelp (Some p) = bytes_eq p.0 (codes "help") ≡ false

place_stops : (c : List Rule) (o : Option Rule) (word : Text) (w : Walk) (h : Held) → IsNoHelp w.stopped → IsNoHelp (to_positional c o word w h).stopped
place_stops c None word w h here = here
place_stops c (Some a) word w h here = tt

step_stops : (c : List Rule) (word : Text) (w : Walk) (h : Held) (step : Step) → is_subcommand step ≡ false → IsNoHelp w.stopped
    → IsNoHelp (after_step c word w h step).stopped
step_stops c word w h (next waiting) no_sub here = here
step_stops c word w h (trailing position) no_sub here = here
step_stops c word w h (subcommand name) no_sub here = let bad : ⊥ = cc in absurd bad
step_stops c word w h value no_sub here = place_stops c (arg_by_index c w.position) word w h here

module _ (s : Shape) (names : Names) (helps : s.disable_help_subcommand ≡ false) where
  -- `help` is refused
  name_stops : (name : Text) (word : Text) (h : Held) → other_fault s (Some name) word h ≡ [] → bytes_eq name (codes "help") ≡ false
  name_stops name word h e = go (bytes_eq name (codes "help")) refl
    where
      go : (b : Bool) → bytes_eq name (codes "help") ≡ b → bytes_eq name (codes "help") ≡ false
      go true t = let bad : ⊥ = (let f = rw (t, helps) at e in cc) in absurd bad
      go false t = t

  found_stops : (w : Walk) (word : Text) (waiting : Waiting) (position : ℕ) (h : Held) (o : Option Text) → other_fault s o word h ≡ [] → IsNoHelp w.stopped
      → IsNoHelp (after_step s.rules word w (subcommand_or_other s.rules o waiting position word h).0 (subcommand_or_other s.rules o waiting position word h).1).stopped
  found_stops w word waiting position h (Some name) e here = name_stops name word h e
  found_stops w word waiting position h None e here =
      step_stops s.rules word w (subcommand_or_other s.rules None waiting position word h).0 (subcommand_or_other s.rules None waiting position word h).1
      (dashes_stay s.rules waiting position word h (bytes_eq word (45 ∷ 45 ∷ []))) here

  met_stops : (w : Walk) (word : Text) (is_trailing : Bool) → word_fault s names is_trailing w.waiting word w.held ≡ [] → IsNoHelp w.stopped
      → IsNoHelp (after_step s.rules word w (word_met s.rules names is_trailing w.waiting w.position word w.held).0 (word_met s.rules names is_trailing w.waiting w.position word w.held).1).stopped
  met_stops w word true e here = place_stops s.rules (arg_by_index s.rules w.position) word w w.held here
  met_stops w word false e here = found_stops w word w.waiting w.position w.held (subcommand_met names w.waiting word) e here

  turn_stops : (w : Walk) (word : Text) (stop : Option (Text × List Text))
      → cond (is_some stop) [] (or_else (word_fault s names w.is_trailing w.waiting word w.held)
      (step_fault s w.position (word_met s.rules names w.is_trailing w.waiting w.position word w.held).0 (word_met s.rules names w.is_trailing w.waiting w.position word w.held).1)) ≡ []
      → w.stopped ≡ stop → IsNoHelp stop → IsNoHelp (walked_from s.rules names stop w word).stopped
  turn_stops w word (Some p) e is here = here
  turn_stops w word None e is here =
      let met = word_met s.rules names w.is_trailing w.waiting w.position word w.held in
      let parts = neither (word_fault s names w.is_trailing w.waiting word w.held) (step_fault s w.position met.0 met.1) e in
      met_stops w word w.is_trailing parts.0 (rw is tt)

  walk_stops : (words : List Text) (w : Walk) → walk_fault s names w words ≡ [] → IsNoHelp w.stopped → IsNoHelp (fold (walked s.rules names) w words).stopped
  unfolding walk_fault walked
  walk_stops [] w e here = here
  walk_stops (word ∷ words) w e here =
      let parts = neither (turn_fault s names w word) (walk_fault s names (walked s.rules names w word) words) e in
      walk_stops words (walked s.rules names w word) parts.1 (turn_stops w word w.stopped parts.0 refl here)

-- the subcommand that was entered, with its level
pub record IsEntered (a : App) (stop : Option (Text × List Text)) : Type 0 where
  pub name : Text
  pub words : List Text
  pub shape : Shape
  pub no_help : bytes_eq name (codes "help") ≡ false
  pub found : find (λ s. answers_to name (label_of s)) a.subs ≡ Some shape
  pub clean : level_fault shape [] nothing_held words false [] ≡ []
  pub is : entered a stop ≡ Some (shape.name, rows_after shape.rules [] words)

-- what the first level of a parse without fault asks
clean_level : (s : Shape) (names : Names) (words : List Text) (has : Bool) (below : Kinds) → level_fault s names nothing_held words has below ≡ []
    → (walk_fault s names (walk_from nothing_held) words ≡ []) × (below ≡ []) × (check_fault s (finished s.rules (walk s.rules names nothing_held words).held) has ≡ [])
clean_level s names words has below e =
    let end = (walk s.rules names nothing_held words).held in
    let checks = check_fault s (finished s.rules end) has in
    let defaults = defaults_fault (settled s.rules end).rows s.rules in
    let settling = settle_fault s.rules s.args_override_self end in
    let a = neither (walk_fault s names (walk_from nothing_held) words) (or_else below (or_else settling (or_else defaults checks))) e in
    let b = neither below (or_else settling (or_else defaults checks)) a.1 in
    let c = neither settling (or_else defaults checks) b.1 in
    (a.0, b.0, (neither defaults checks c.1).1)

-- the entered subcommand, where there is one
entered_by : (a : App) (stop : Option (Text × List Text)) → IsNoHelp stop → entered_fault a stop ≡ [] → is_some (entered a stop) ≡ true → IsEntered a stop
entered_by a None no_help clean some = let bad : ⊥ = cc in absurd bad
entered_by a (Some p) no_help clean some = go (find (λ s. answers_to p.0 (label_of s)) a.subs) refl
  where
    go : (o : Option Shape) → find (λ s. answers_to p.0 (label_of s)) a.subs ≡ o → IsEntered a (Some p)
    go None found = let bad : ⊥ = (let f = rw found at some in cc) in absurd bad
    go (Some s) found = record {
      name = p.0;
      words = p.1;
      shape = s;
      no_help = no_help;
      found = found;
      clean = rw found at clean;
      is = rw found refl;
    }

wanted_given : (b required : Bool) → required ≡ true → (not b && required) ≡ false → b ≡ true
wanted_given true required is e = refl
wanted_given false required is e = let bad : ⊥ = cc in absurd bad

-- a parse without fault entered a subcommand
pub entered_one : (a : App) (words : List Text) → a.top.disable_help_subcommand ≡ false → a.top.subcommand_required ≡ true → built_fault a nothing_held words ≡ []
    → IsEntered a (walk a.top.rules (names_of a) nothing_held words).stopped
entered_one a words helps required e =
    let stop = (walk a.top.rules (names_of a) nothing_held words).stopped in
    let clean = clean_level a.top (names_of a) words (is_some (entered a stop)) (entered_fault a stop) e in
    let checked = nothing_wanting _ (not (is_some (entered a stop)) && a.top.subcommand_required) _ clean.2 in
    entered_by a stop (walk_stops a.top (names_of a) helps words (walk_from nothing_held) clean.0 tt) clean.1 (wanted_given (is_some (entered a stop)) a.top.subcommand_required required checked.0)
