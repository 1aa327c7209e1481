-- The rule of names, as a test.
use Rattle.std.proofs.Common.{◌≡◌, ◌↔◌, ◌<◌, ℕ, Bool, true, false, List, [], ◌∷◌, Option, Some, None, length, get_or, refl, arith, rules, sym}
use Rattle.std.proofs.lemmas.Bool.Decides.{nat_tests}
use Rattle.std.proofs.lemmas.List.Elements.{All-drop}
use Rattle.std.proofs.lemmas.List.Folds.{list_all_at}
use Rattle.std.specs.Prelude.{nat_le, IsSome, IfSome}
use Rattle.std.specs.List.{All, list_all}
use Rattle.vm_types.specs.Name.{IsName, IsNameByte}
use Rattle.vm_cli.specs.lines.Names.{is_name_byte, name_of}

byte_yes : (b : ℕ) → IsNameByte b → is_name_byte b ≡ true
byte_yes b h = grind (arith, nat_tests, h)

byte_no : (b : ℕ) → is_name_byte b ≡ true → IsNameByte b
byte_no b h = grind (arith, nat_tests, h)

bytes_yes : (word : List ℕ) → All IsNameByte word → list_all is_name_byte word ≡ true
bytes_yes [] h = refl
bytes_yes (b ∷ word) h = rw (byte_yes b (h 0 0 (omega arith)), bytes_yes word (All-drop IsNameByte 1 (b ∷ word) h)) refl

bytes_no : (word : List ℕ) → list_all is_name_byte word ≡ true → All IsNameByte word
bytes_no word h = λ k d lt. go k d lt (is_name_byte (get_or word k d)) refl
  where
    go : (k d : ℕ) → k < length word → (t : Bool) → is_name_byte (get_or word k d) ≡ t → IsNameByte (get_or word k d)
    go k d lt true e = byte_no (get_or word k d) e
    go k d lt false e = let bad = list_all_at is_name_byte word k d lt e in cc

pub name_of-name : (word : List ℕ) → IsName word → name_of word ≡ Some word
name_of-name word h =
    let some : nat_le 1 (length word) ≡ true = grind (arith, nat_tests, h.some) in
    let few : nat_le (length word) 32 ≡ true = grind (arith, nat_tests, h.few) in
    rw (some, few, bytes_yes word h.each) refl

pub name_of-other : (word : List ℕ) → (IsName word → ⊥) → name_of word ≡ None
name_of-other word other = go (nat_le 1 (length word)) (nat_le (length word) 32) (list_all is_name_byte word) refl refl refl
  where
    go : (a b c : Bool) → nat_le 1 (length word) ≡ a → nat_le (length word) 32 ≡ b → list_all is_name_byte word ≡ c → name_of word ≡ None
    go true true true a b c = absurd (other (record { some = grind (arith, nat_tests); few = grind (arith, nat_tests); each = bytes_no word c }))
    go true true false a b c = rw (a, b, c) refl
    go true false c' a b c = rw (a, b) refl
    go false b' c' a b c = rw a refl

-- what a test by the rule gives
pub name_of-new : (word : List ℕ) (o : Option (List ℕ)) → (IsSome o ↔ IsName word) → IfSome o (λ v. v ≡ word) → o ≡ name_of word
name_of-new word None name value = sym (name_of-other word (λ h. let bad = name.1 h in cc))
name_of-new word (Some v) name value = rw value (sym (name_of-name word (name.0 (rules_is_some v))))
  where
    rules_is_some : (v : List ℕ) → IsSome (Some v)
    rules_is_some v = search rules
