-- A merge is the same from both sides where each conflict is settled, and is made on the one that takes fewer changes.
use Rattle.std.proofs.Common.{◌≡◌, ℕ, ◌+◌, ◌<◌, ◌≤◌, nat_lt, nat_le, Bool, true, false, cond, if◌then◌else◌, ◌||◌, List, [], ◌∷◌, ◌++◌, map, filter, filter_map, length, get_or, Option, Some, None, is_some, is_none, option_map, option_to_list, refl, sym, ap, ◌∙◌, arith, drop, length-append}
use Rattle.std.specs.List.{list_any, cons_option}
use Rattle.std.specs.Option.{option_or}
use Rattle.std.specs.Ordering.{is_lt}
use Rattle.std.proofs.lemmas.Bool.{false≢true}
use Rattle.std.proofs.lemmas.Bool.Decides.{nat_tests}
use Rattle.vm_types.specs.declared.key.Key.{Key}
use Rattle.vm_types.specs.declared.change.Change.{Change}
use Rattle.vm_types.specs.declared.change.Conflict.{Conflict}
use Rattle.vm_types.specs.declared.command.Side.{Side}
use Rattle.vm_types.specs.declared.command.Side.TheVariants.{Mine, Theirs}
use Rattle.vm_types.specs.declared.merge.MergePlan.{MergePlan}
use Rattle.vm_types.specs.declared.refusal.Refusal.{Refusal}
use Rattle.vm_types.specs.declared.refusal.Refusal.TheVariants.{Unsettled}
use Rattle.vm_types.specs.Map.{key_cmp, same_key, Map, IsMap, IsSettled, get, same_value, keys_of, delta, three, conflict_at, conflicts, side_of, other_side, turned, settled_value, merged_at, merge, map_of, merge_start, start_side, with_changes}
use Rattle.vm_types.specs.Step.{settled_refusal}
use Rattle.vm_types.specs.Merge.{IsPlan, SameSides, chosen, from_key, first_at, settled_from, taken, taking}
use Rattle.vm_types.proofs.Keys.{same_key-Decides, same_maps}
use Rattle.vm_types.proofs.Maps.{same_value-Decides, get-merge, IsMap-merge}
use Rattle.vm_types.proofs.ChangeLemmas.{with_changes-delta}
use Rattle.vm_types.proofs.MergingLemmas.{conflict_covers-right, or_true_left, or_true_right, same_value-sym}
use Rattle.vm_types.proofs.SettledLemmas.{three_by_side, three_by_side-goes_on}

-- ---- settlements turned

-- the side of a key is the other one
pub side_of-turned : (settled : List (Key × Side)) (key : Key) → side_of (turned settled) key ≡ option_map other_side (side_of settled key)
side_of-turned [] key = refl
side_of-turned (e ∷ settled) key =
    elim (same_key key e.0) as (λ t. cond {A = Option Side} t (Some (other_side e.1)) (side_of (turned settled) key) ≡ option_map other_side (cond t (Some e.1) (side_of settled key))) [
      | true ↦ refl
      | false ↦ side_of-turned settled key
    ]

settled_from-turned : (key : Key) (settled : List (Key × Side)) → settled_from key (turned settled) ≡ turned (settled_from key settled)
settled_from-turned key [] = refl
settled_from-turned key (e ∷ settled) =
    elim (is_lt (key_cmp e.0 key)) as (λ t. cond t (settled_from key (turned settled)) (turned (e ∷ settled)) ≡ turned (cond t (settled_from key settled) (e ∷ settled))) [
      | true ↦ settled_from-turned key settled
      | false ↦ refl
    ]

-- the settlements from a key on are those of the turned ones
pub settled_from-taking : (side : Side) (key : Key) (settled : List (Key × Side)) → settled_from key (taking side settled) ≡ taking side (settled_from key settled)
settled_from-taking Theirs key settled = refl
settled_from-taking Mine key settled = settled_from-turned key settled

-- ---- the merge from both sides

by_tests : (a b c : Bool) (side : Option Side) (p m : Option (List ℕ)) → (a ≡ true → b ≡ true → m ≡ p) → (c ≡ true → m ≡ p)
    → (cond {A = Option (Option (List ℕ))} a (Some m) (cond b (Some p) (cond c (Some m) None)) ≡ None → is_some side ≡ true)
    → settled_value (cond a (Some m) (cond b (Some p) (cond c (Some m) None))) side p m ≡ settled_value (cond b (Some p) (cond a (Some m) (cond c (Some p) None))) (option_map other_side side) m p
by_tests true true c side p m both same settled = both refl refl
by_tests true false c side p m both same settled = refl
by_tests false true c side p m both same settled = refl
by_tests false false true side p m both same settled = same refl
by_tests false false false (Some Mine) p m both same settled = refl
by_tests false false false (Some Theirs) p m both same settled = refl
by_tests false false false None p m both same settled = absurd (false≢true (settled refl))

-- what three values come to at a key is the same from both sides, where a conflict is settled
turned_value : (base parent mine : Option (List ℕ)) (side : Option Side) → (three base parent mine ≡ None → is_some side ≡ true)
    → settled_value (three base parent mine) side parent mine ≡ settled_value (three base mine parent) (option_map other_side side) mine parent
turned_value base parent mine side settled =
    let back : (v : Option (List ℕ)) → same_value v base ≡ true → v ≡ base = λ v. (same_value-Decides v base).0 in
    by_tests (same_value parent base) (same_value mine base) (same_value mine parent) side parent mine
    (λ e f. back mine f ∙ sym (back parent e))
    (same_value-Decides mine parent).0
    settled
    ∙ ap (λ t. settled_value (cond (same_value mine base) (Some parent) (cond (same_value parent base) (Some mine) (cond t (Some parent) None))) (option_map other_side side) mine parent) (same_value-sym mine parent)

module _ (base parent mine : Map) (settled : List (Key × Side)) (all : IsSettled base parent mine settled) where
  pub merged_at-turned : (key : Key) → merged_at base parent mine settled key ≡ merged_at base mine parent (turned settled) key
  merged_at-turned key =
      turned_value (get base key) (get parent key) (get mine key) (side_of settled key) (all key)
      ∙ ap (λ side. settled_value (three (get base key) (get mine key) (get parent key)) side (get mine key) (get parent key)) (sym (side_of-turned settled key))

  pub merge-turned : IsMap parent → IsMap mine → merge base parent mine settled ≡ merge base mine parent (turned settled)
  merge-turned g h =
      same_maps (merge base parent mine settled) (merge base mine parent (turned settled)) (IsMap-merge base parent mine settled h) (IsMap-merge base mine parent (turned settled) g) (λ key.
      get-merge base parent mine settled key ∙ merged_at-turned key ∙ sym (get-merge base mine parent (turned settled) key))

-- settlements that give each key the same side settle the same conflicts
pub settled-alike : (base parent mine : Map) (s t : List (Key × Side)) → SameSides s t → IsSettled base parent mine t → IsSettled base parent mine s
settled-alike base parent mine s t same all = λ key conflict. ap is_some (same key) ∙ all key conflict

-- ---- settlements that are accepted

-- an accepted list leaves no conflict
none_left : (a b : Option Refusal) (n : ℕ) → option_or a (option_or b (if nat_lt 0 n then Some (Unsettled n) else None)) ≡ None → n ≡ 0
none_left (Some r) b n h = cc
none_left None (Some r) n h = cc
none_left None None n h =
    elim (nat_lt 0 n) as (λ t. nat_lt 0 n ≡ t → cond {A = Option Refusal} t (Some (Unsettled n)) None ≡ None → n ≡ 0) [
      | true ↦ λ is e. cc
      | false ↦ λ is e. grind (arith, nat_tests, is)
    ] refl h

some_if_not_none : (o : Option Side) → is_none o ≡ false → is_some o ≡ true
some_if_not_none None h = cc
some_if_not_none (Some side) h = refl

each_settled : (settled : List (Key × Side)) (keys : List Key) → length (filter (λ key. is_none (side_of settled key)) keys) ≡ 0 → (q : Key) → list_any (same_key q) keys ≡ true → is_some (side_of settled q) ≡ true
each_settled settled [] none q any = absurd (false≢true any)
each_settled settled (k ∷ keys) none q any =
    let rest = filter (λ key. is_none (side_of settled key)) keys in
    elim (is_none (side_of settled k)) as (λ t. is_none (side_of settled k) ≡ t → length (cond t (k ∷ rest) rest) ≡ 0 → is_some (side_of settled q) ≡ true) [
      | true ↦ λ is e. absurd (omega (arith, e))
      | false ↦ λ is e.
          elim (same_key q k) as (λ t. same_key q k ≡ t → (t || list_any (same_key q) keys) ≡ true → is_some (side_of settled q) ≡ true) [
            | true ↦ λ here _. ap (λ j. is_some (side_of settled j)) ((same_key-Decides q k).0 here) ∙ some_if_not_none (side_of settled k) is
            | false ↦ λ _ later. each_settled settled keys e q later
          ] refl any
    ] refl none

-- a key that gives a conflict of its own is among the conflicts' keys
listed : (f : Key → Option Conflict) (keys : List Key) (q : Key) → ((k : Key) (c : Conflict) → f k ≡ Some c → c.key ≡ k) → list_any (same_key q) keys ≡ true → is_some (f q) ≡ true
    → list_any (same_key q) (map (λ c. c.key) (filter_map f keys)) ≡ true
listed f [] q own any some = absurd (false≢true any)
listed f (k ∷ keys) q own any some =
    elim (same_key q k) as (λ t. same_key q k ≡ t → (t || list_any (same_key q) keys) ≡ true → list_any (same_key q) (map (λ c. c.key) (cons_option (f k) (filter_map f keys))) ≡ true) [
      | true ↦ λ here _.
          let there : is_some (f k) ≡ true = ap (λ j. is_some (f j)) (sym ((same_key-Decides q k).0 here)) ∙ some in
          elim (f k) as (λ o. f k ≡ o → is_some o ≡ true → list_any (same_key q) (map (λ c. c.key) (cons_option o (filter_map f keys))) ≡ true) [
            | None ↦ λ _ none. absurd (false≢true none)
            | Some c ↦ λ is _. or_true_left (same_key q c.key) _ (ap (same_key q) (own k c is) ∙ here)
          ] refl there
      | false ↦ λ _ later.
          elim (f k) as (λ o. list_any (same_key q) (map (λ c. c.key) (cons_option o (filter_map f keys))) ≡ true) [
            | None ↦ listed f keys q own later some
            | Some c ↦ or_true_right (same_key q c.key) _ (listed f keys q own later some)
          ]
    ] refl any

module _ (base parent mine : Map) where
  own_key : (k : Key) (c : Conflict) → conflict_at base parent mine k ≡ Some c → c.key ≡ k
  own_key k c h =
      elim (is_none (three (get base k) (get parent k) (get mine k))) as (λ t. cond {A = Option Conflict} t (Some (record { key = k; base = get base k; parent = get parent k; mine = get mine k })) None ≡ Some c → c.key ≡ k) [
        | true ↦ λ e. same_key_of (record { key = k; base = get base k; parent = get parent k; mine = get mine k }) c e
        | false ↦ λ e. cc
      ] h
    where
      same_key_of : (x y : Conflict) → Some x ≡ Some y → y.key ≡ x.key
      same_key_of x y e = let same : x ≡ y = cc in ap (λ (z : Conflict). z.key) (sym same)

  in_conflict : (q : Key) → three (get base q) (get parent q) (get mine q) ≡ None → is_some (conflict_at base parent mine q) ≡ true
  in_conflict q is = ap (λ o. is_some (cond {A = Option Conflict} (is_none o) (Some (record { key = q; base = get base q; parent = get parent q; mine = get mine q })) None)) is

  among : IsMap parent → IsMap mine → (q : Key) → is_some (conflict_at base parent mine q) ≡ true → list_any (same_key q) (keys_of parent mine) ≡ true
  among g h q some =
      elim (list_any (same_key q) (keys_of parent mine)) as (λ t. list_any (same_key q) (keys_of parent mine) ≡ t → t ≡ true) [
        | true ↦ λ _. refl
        | false ↦ λ absent. sym (ap is_some (conflict_covers-right base parent mine g h q absent)) ∙ some
      ] refl

  -- settlements that are accepted settle each conflict
  pub accepted_settles : IsMap parent → IsMap mine → (settled : List (Key × Side)) → settled_refusal settled (map (λ c. c.key) (conflicts base parent mine)) ≡ None → IsSettled base parent mine settled
  accepted_settles g h settled none = λ q conflict.
      let some = in_conflict q conflict in
      each_settled settled (map (λ c. c.key) (conflicts base parent mine)) (none_left _ _ _ none) q
      (listed (conflict_at base parent mine) (keys_of parent mine) q own_key (among g h q some) some)

-- ---- the smaller side

module _ (own parent merged : Map) where
  abbrev fewer : Bool
  fewer = nat_le (length (delta parent merged)) (length (delta own merged))

  -- no more changes lead from the parent's map
  pub from_parent : length (delta parent merged) ≤ length (delta own merged) → start_side own parent merged ≡ Theirs
  from_parent le = ap (λ t. cond {A = Side} t Theirs Mine) (let is : fewer ≡ true = grind (arith, nat_tests, le) in is)

  -- more lead from it
  pub from_own : length (delta own merged) < length (delta parent merged) → start_side own parent merged ≡ Mine
  from_own lt = ap (λ t. cond {A = Side} t Theirs Mine) (let is : fewer ≡ false = grind (arith, nat_tests, lt) in is)

  -- so the changes that are made are as few as from each side, and lead to the merged map
  abbrev IsSmaller : Map → Type 0
  IsSmaller start =
      let made = delta start merged in
      (with_changes start made ≡ merged) × (length made ≤ length (delta own merged)) × (length made ≤ length (delta parent merged))

  pub smaller : IsMap own → IsMap parent → IsMap merged → IsSmaller (merge_start own parent merged)
  smaller g h m =
      elim fewer as (λ t. fewer ≡ t → IsSmaller (map_of (cond t Theirs Mine) own parent)) [
        | true ↦ λ is. (with_changes-delta parent merged h m, grind (arith, nat_tests, is), grind arith)
        | false ↦ λ is. (with_changes-delta own merged g m, grind arith, grind (arith, nat_tests, is))
      ] refl

  pub planned_above : (plan : MergePlan) → plan.start ≡ Theirs → plan.changes ≡ delta parent merged → plan.edits ≡ length (delta own merged) → length (delta parent merged) ≤ length (delta own merged) → IsPlan plan own parent merged
  planned_above plan start changes edits le =
      let side = from_parent le in
      record { start = start ∙ sym side; changes = changes ∙ ap (λ s. delta (map_of s own parent) merged) (sym side); edits = edits }

  pub planned_below : (plan : MergePlan) → plan.start ≡ Mine → plan.changes ≡ delta own merged → plan.edits ≡ length (delta own merged) → length (delta own merged) < length (delta parent merged) → IsPlan plan own parent merged
  planned_below plan start changes edits lt =
      let side = from_own lt in
      record { start = start ∙ sym side; changes = changes ∙ ap (λ s. delta (map_of s own parent) merged) (sym side); edits = edits }

-- ---- changes that are taken, counted

length-option : (o : Option Change) → length (option_to_list o) ≡ (if is_some o then 1 else 0)
length-option None = refl
length-option (Some c) = refl

-- the change at a place is one more, or none; then the next is ahead
pub counts_on : (theirs mine : List Change) (settled unused : List (Key × Side)) (all count i at next : ℕ) (key : Key) (d : Change) (is_one : Bool) → i < length theirs → key ≡ (get_or theirs i d).key
    → drop next mine ≡ from_key key (drop at mine) → unused ≡ settled_from key settled → all ≡ count + length (three_by_side settled (drop i theirs) (drop at mine))
    → is_some (taken unused (get_or theirs i d) (first_at (get_or theirs i d).key (drop next mine))) ≡ is_one
    → all ≡ (count + (if is_one then 1 else 0)) + length (three_by_side unused (drop (i + 1) theirs) (drop next mine))
counts_on theirs mine settled unused all count i at next key d is_one lt same ahead left so_far is =
    let one = taken unused (get_or theirs i d) (first_at (get_or theirs i d).key (drop next mine)) in
    let rest = three_by_side unused (drop (i + 1) theirs) (drop next mine) in
    let step : three_by_side settled (drop i theirs) (drop at mine) ≡ option_to_list one ++ rest =
    three_by_side-goes_on theirs mine settled unused (three_by_side settled (drop i theirs) (drop at mine)) [] (option_to_list one) i at next key d lt same ahead left refl refl in
    let parts = ap (λ (l : List Change). length l) step ∙ length-append (option_to_list one) rest in
    let more = length-option one ∙ ap (λ (t : Bool). if t then 1 else 0) is in
    omega (arith, so_far, parts, more)

-- ---- one change that is taken

-- one's own change at the key, if one is there: something is taken in a clash alone that is settled so
pub taken_over : (settled : List (Key × Side)) (theirs own : Change) → is_some (taken settled theirs (Some own)) ≡ true → taken settled theirs (Some own) ≡ Some (record { key = theirs.key; before = own.after; after = theirs.after })
taken_over settled theirs own is =
    elim (same_value own.after theirs.after) as (λ t. is_some (cond {A = Option Change} t None (chosen (side_of settled theirs.key) theirs own)) ≡ true → cond {A = Option Change} t None (chosen (side_of settled theirs.key) theirs own) ≡ Some (record { key = theirs.key; before = own.after; after = theirs.after })) [
      | true ↦ λ e. absurd (false≢true e)
      | false ↦ by_side (side_of settled theirs.key)
    ] is
  where
    by_side : (o : Option Side) → is_some (chosen o theirs own) ≡ true → chosen o theirs own ≡ Some (record { key = theirs.key; before = own.after; after = theirs.after })
    by_side None e = absurd (false≢true e)
    by_side (Some Mine) e = absurd (false≢true e)
    by_side (Some Theirs) e = refl

-- a plan, whichever list was made
pub plan_above : (base parent own : Map) (settled : List (Key × Side)) (plan : MergePlan) (count : ℕ) → IsMap parent → IsMap own → IsSettled base parent own settled → plan.start ≡ Theirs
    → plan.changes ≡ delta parent (merge base own parent (turned settled)) → plan.edits ≡ length (delta own (merge base parent own settled)) → count ≡ length (delta parent (merge base own parent (turned settled))) → count ≤ plan.edits
    → IsPlan plan own parent (merge base parent own settled)
plan_above base parent own settled plan count g h all start changes edits many le =
    let same = merge-turned base parent own settled all g h in
    let lists = changes ∙ ap (delta parent) (sym same) in
    let counts = many ∙ ap (λ (m : Map). length (delta parent m)) (sym same) in
    planned_above own parent (merge base parent own settled) plan start lists edits (omega (arith, counts, edits, le))

pub plan_below : (base parent own : Map) (settled : List (Key × Side)) (plan : MergePlan) (count : ℕ) → IsMap parent → IsMap own → IsSettled base parent own settled → plan.start ≡ Mine
    → plan.changes ≡ delta own (merge base parent own settled) → plan.edits ≡ length (delta own (merge base parent own settled)) → count ≡ length (delta parent (merge base own parent (turned settled))) → plan.edits < count
    → IsPlan plan own parent (merge base parent own settled)
plan_below base parent own settled plan count g h all start changes edits many lt =
    let same = merge-turned base parent own settled all g h in
    let counts = many ∙ ap (λ (m : Map). length (delta parent m)) (sym same) in
    planned_below own parent (merge base parent own settled) plan start changes edits (omega (arith, counts, edits, lt))

-- a change is its key and its two values
abbrev pub change_with : Key → Option (List ℕ) → Option (List ℕ) → Change
change_with key before after = record { key = key; before = before; after = after }

pub pushed : (key : Key) (before after : Option (List ℕ)) (k : Key) (b a : Option (List ℕ)) → key ≡ k → before ≡ b → after ≡ a → change_with key before after ≡ change_with k b a
pushed key before after k b a e f g = λ i. record { key = e i; before = f i; after = g i }

-- the side of a key in the settlements that are turned
pub side_of-mine : (side : Side) (settled : List (Key × Side)) (key : Key) (o : Option Side) → side ≡ Mine → o ≡ side_of settled key → option_map other_side o ≡ side_of (taking side settled) key
side_of-mine side settled key o mine is = ap (option_map other_side) is ∙ sym (side_of-turned settled key) ∙ ap (λ s. side_of (taking s settled) key) (sym mine)
