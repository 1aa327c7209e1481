-- The records of a leaf that are left to go through for a window.
use Rattle.std.proofs.Common.{◌≡◌, ℕ, ◌+◌, ◌<◌, ◌≤◌, true, false, List, [], ◌∷◌, ◌++◌, length, get_or, drop, refl, sym, ap, ◌∙◌, arith, length-append, append-nil, append_assoc}
use Rattle.std.proofs.lemmas.List.{drop_all, drop_more}
use Rattle.vm_types.specs.declared.key.Key.{Key}
use Rattle.vm_block.specs.Leaf.{HasRecords, Record}
use Rattle.vm_tree.specs.Windows.{given_of, gives}
use Rattle.vm_tree.specs.declared.window.Window.{Window}
use Rattle.vm_tree.proofs.WindowLemmas.{given_less, given_more, given_nil}

-- of these records the first i were gone through, and what the window gives of them stands behind what was there before
pub record RecordsLeft (w : Window) (rs before : List Record) (i : ℕ) (now : List Record) : Type 0 where
  pub given : List Record
  pub now_is : now ≡ before ++ given
  pub due : given_of w (length before) rs ≡ given ++ given_of w (length now) (drop i rs)

-- of the records of a leaf of so many
pub record Pushed (bytes : List ℕ) (count : ℕ) (w : Window) (i : ℕ) (before now : List Record) : Type 0 where
  pub left : (rs : List Record) → HasRecords bytes rs → count ≡ length rs → RecordsLeft w rs before i now

pub pushed_none : (bytes : List ℕ) (count : ℕ) (w : Window) (before : List Record) → Pushed bytes count w 0 before before
pushed_none bytes count w before = record { left = λ rs leaf many. record { given = []; now_is = sym (append-nil before); due = refl } }

module _ (bytes : List ℕ) (count : ℕ) (w : Window) (i : ℕ) (before now : List Record) (d : Record) (so_far : Pushed bytes count w i before now) (key : Key)
    (key_is : (rs : List Record) → HasRecords bytes rs → i < length rs → (get_or rs i d).0 ≡ key) where
  -- the next one isn't given
  pub pushed_passed : i < count → gives w key (length now) ≡ false → Pushed bytes count w (i + 1) before now
  pushed_passed lt out = record {
    left = λ rs leaf many.
        let l = so_far.left rs leaf many in
        let within : i < length rs = omega (arith, lt, many) in
        let r = get_or rs i d in
        let passed : gives w r.0 (length now) ≡ false = ap (λ (k : Key). gives w k (length now)) (key_is rs leaf within) ∙ out in
        record {
          given = l.given;
          now_is = l.now_is;
          due = l.due ∙ ap (λ (qs : List Record). l.given ++ given_of w (length now) qs) (drop_more rs i d within)
              ∙ ap (λ (qs : List Record). l.given ++ qs) (given_less w (length now) r (drop (i + 1) rs) passed);
        };
  }

  -- the next one is
  pub pushed_more : (more : List Record) (value : List ℕ) → i < count → gives w key (length now) ≡ true → ((rs : List Record) → HasRecords bytes rs → i < length rs → (get_or rs i d).1 ≡ value)
      → more ≡ now ++ (key, value) ∷ [] → Pushed bytes count w (i + 1) before more
  pushed_more more value lt told value_is more_is = record {
    left = λ rs leaf many.
        let l = so_far.left rs leaf many in
        let within : i < length rs = omega (arith, lt, many) in
        let r = get_or rs i d in
        let given_it : gives w r.0 (length now) ≡ true = ap (λ (k : Key). gives w k (length now)) (key_is rs leaf within) ∙ told in
        let row : (key, value) ≡ r = ap (λ (k : Key). (k, value)) (sym (key_is rs leaf within)) ∙ ap (λ (v : List ℕ). (r.0, v)) (sym (value_is rs leaf within)) in
        let there : more ≡ now ++ r ∷ [] = more_is ∙ ap (λ (q : Record). now ++ q ∷ []) row in
        let longer : length now + 1 ≡ length more = omega (arith, ap (λ (qs : List Record). length qs) there, length-append now (r ∷ [])) in
        let due_is = l.due ∙ ap (λ (qs : List Record). l.given ++ given_of w (length now) qs) (drop_more rs i d within)
        ∙ ap (λ (qs : List Record). l.given ++ qs) (given_more w (length now) r (drop (i + 1) rs) given_it) in
        record {
          given = l.given ++ r ∷ [];
          now_is = there ∙ ap (λ (qs : List Record). qs ++ r ∷ []) l.now_is ∙ append_assoc before l.given (r ∷ []);
          due = due_is ∙ sym (append_assoc l.given (r ∷ []) (given_of w (length now + 1) (drop (i + 1) rs))) ∙ ap (λ n. (l.given ++ r ∷ []) ++ given_of w n (drop (i + 1) rs)) longer;
        };
  }

-- all of them were gone through
pub pushed_all : (bytes : List ℕ) (count : ℕ) (w : Window) (i : ℕ) (before now : List Record) → Pushed bytes count w i before now → count ≤ i → (rs : List Record) → HasRecords bytes rs → count ≡ length rs → now ≡ before ++ given_of w (length before) rs
pushed_all bytes count w i before now so_far le rs leaf many =
    let l = so_far.left rs leaf many in
    let whole : given_of w (length before) rs ≡ l.given =
    l.due ∙ ap (λ (qs : List Record). l.given ++ qs) (given_nil w (length now) (drop i rs) (drop_all i rs (omega (arith, le, many)))) ∙ append-nil l.given in
    l.now_is ∙ ap (λ (qs : List Record). before ++ qs) (sym whole)
