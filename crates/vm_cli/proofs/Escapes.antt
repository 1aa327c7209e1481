-- What a word spells, from its front.
use Rattle.std.proofs.Common.{◌≡◌, ◌<◌, ◌≤◌, ◌-◌, ◌==◌, ◌↔◌, ℕ, Bool, true, false, List, [], ◌∷◌, Option, Some, None, length, take, drop, get_or, set, ◌++◌, ◌+◌, ◌∙◌, suc, option_map, option_and_then, refl, ap, sym, arith, rules, add-one, append_assoc, length-append, length-take-le}
use Rattle.vm_types.specs.Bytes.{longest}
use Rattle.std.proofs.lemmas.Bool.Decides.{nat_tests}
use Rattle.std.proofs.Math.Seq.{take-suc-set}
use Rattle.std.specs.Prelude.{IfSome, IsNone, IsSome, codes, nat_le}
use Rattle.std.specs.Str.{bytes_eq}
use Rattle.std.proofs.lemmas.List.{take_rest}
use Rattle.memchr.specs.Find.{IsFirstByte, is_byte}
use Rattle.vm_cli.specs.lines.Escapes.{byte_of, hex_digit, short_enough, unescaped, value_of, with_front}

-- a byte that stands for itself
pub unescaped-literal : (word : List ℕ) → 0 < length word → (get_or word 0 0 ≡ 37 → ⊥)
    → unescaped word ≡ option_map (λ bytes. get_or word 0 0 ∷ bytes) (unescaped (take (length word - 1) (drop 1 word)))
unescaped-literal [] lt ne = absurd (omega arith)
unescaped-literal (b ∷ []) lt ne = let e : (b == 37) ≡ false = grind (arith, ne) in rw e refl
unescaped-literal (b ∷ c ∷ []) lt ne = let e : (b == 37) ≡ false = grind (arith, ne) in rw e refl
unescaped-literal (b ∷ c ∷ d ∷ rest) lt ne =
    let e : (b == 37) ≡ false = grind (arith, ne) in
    rw (take_rest (b ∷ c ∷ d ∷ rest) 1, e) refl

-- `%` and two more bytes
pub unescaped-escape : (word : List ℕ) → get_or word 0 0 ≡ 37 → 3 ≤ length word
    → unescaped word ≡ with_front (byte_of (hex_digit (get_or word 1 0)) (hex_digit (get_or word 2 0))) (unescaped (take (length word - 3) (drop 3 word)))
unescaped-escape [] e long = absurd (omega arith)
unescaped-escape (b ∷ []) e long = absurd (omega arith)
unescaped-escape (b ∷ c ∷ []) e long = absurd (omega arith)
unescaped-escape (b ∷ c ∷ d ∷ rest) e long = rw (take_rest (b ∷ c ∷ d ∷ rest) 3, e) refl

-- no byte of a word is `%`
pub unescaped-plain : (word : List ℕ) → ((i : ℕ) → i < length word → ¬ (get_or word i 0 == 37) ≡ true) → unescaped word ≡ Some word
unescaped-plain [] none = refl
unescaped-plain (b ∷ []) none = let e : (b == 37) ≡ false = grind (arith, nat_tests, none 0 (omega arith)) in rw e refl
unescaped-plain (b ∷ c ∷ []) none =
    let e : (b == 37) ≡ false = grind (arith, nat_tests, none 0 (omega arith)) in
    rw (e, unescaped-plain (c ∷ []) (λ i lt. none (suc i) (omega (arith, lt)))) refl
unescaped-plain (b ∷ c ∷ d ∷ rest) none =
    let e : (b == 37) ≡ false = grind (arith, nat_tests, none 0 (omega arith)) in
    rw (e, unescaped-plain (c ∷ d ∷ rest) (λ i lt. none (suc i) (omega (arith, lt)))) refl

-- a word without `%` is the value, where it is short enough
pub value_of-plain : (word : List ℕ) (found : Option ℕ) (value : Option (List ℕ)) → bytes_eq word (codes "-") ≡ false
    → IsFirstByte (is_byte 37) word found → IsNone found → (IsSome value ↔ (length word ≤ longest)) → IfSome value (λ v. v ≡ word)
    → value ≡ value_of word
value_of-plain word (Some place) value full first none short is = cc
value_of-plain word None value full first none short is = rw (full, unescaped-plain word (λ i lt. first i (omega arith) lt)) (go value short is)
  where
    go : (o : Option (List ℕ)) → (IsSome o ↔ (length word ≤ longest)) → IfSome o (λ v. v ≡ word) → o ≡ short_enough word
    go None lacks is = test (nat_le (length word) longest) refl
      where
        test : (t : Bool) → nat_le (length word) longest ≡ t → None ≡ short_enough word
        test true e = let few : length word ≤ longest = grind (arith, nat_tests, e) in let bad = lacks.1 few in cc
        test false e = rw e refl
    go (Some v) has is =
        let few : length word ≤ longest = has.0 (search rules) in
        let e : nat_le (length word) longest ≡ true = grind (arith, nat_tests) in
        rw (e, is) refl

-- nothing read so far
pub spelled-start : (held word : List ℕ) → unescaped word ≡ option_map (λ more. take 0 held ++ more) (unescaped word)
spelled-start held word = go (unescaped word)
  where
    go : (o : Option (List ℕ)) → o ≡ option_map (λ (more : List ℕ). take 0 held ++ more) o
    go None = refl
    go (Some m) = refl

-- one byte more
pub spelled-next : (word rest after held : List ℕ) (n b : ℕ) → n < length held
    → unescaped word ≡ option_map (λ more. take n held ++ more) (unescaped rest)
    → unescaped rest ≡ option_map (λ bytes. b ∷ bytes) (unescaped after)
    → unescaped word ≡ option_map (λ more. take (n + 1) (set held n b) ++ more) (unescaped after)
spelled-next word rest after held n b lt so_far front = so_far ∙ rw front (go (unescaped after))
  where
    go : (o : Option (List ℕ)) → option_map (λ more. take n held ++ more) (option_map (λ bytes. b ∷ bytes) o) ≡ option_map (λ more. take (n + 1) (set held n b) ++ more) o
    go None = refl
    go (Some m) = ap (λ (bytes : List ℕ). Some bytes) (rw (add-one n, take-suc-set held n b lt) (sym (append_assoc (take n held) (b ∷ []) m)))

-- more bytes than a value has
pub spelled-long : (word rest after held : List ℕ) (b : ℕ) → longest ≤ length held
    → unescaped word ≡ option_map (λ more. take longest held ++ more) (unescaped rest)
    → unescaped rest ≡ option_map (λ bytes. b ∷ bytes) (unescaped after)
    → option_and_then short_enough (unescaped word) ≡ None
spelled-long word rest after held b le so_far front = rw (so_far, front) (go (unescaped after))
  where
    go : (o : Option (List ℕ)) → option_and_then short_enough (option_map (λ more. take longest held ++ more) (option_map (λ bytes. b ∷ bytes) o)) ≡ None
    go None = refl
    go (Some m) =
        let long : length (take longest held ++ b ∷ m) ≡ longest + suc (length m) = simp (length-append, length-take-le) refl in
        let no : nat_le (length (take longest held ++ b ∷ m)) longest ≡ false = rw long (grind (arith, nat_tests)) in
        rw no refl

pub value_of-none : (word : List ℕ) → bytes_eq word (codes "-") ≡ false → option_and_then short_enough (unescaped word) ≡ None → value_of word ≡ None
value_of-none word full none = rw full none
