-- How values are written, and that they are read again.
use Rattle.std.proofs.Common.{◌≡◌, ◌<◌, ◌≤◌, ◌+◌, ◌*◌, ◌/◌, ◌%◌, ◌==◌, ◌++◌, ◌∙◌, ℕ, Bool, true, false, List, [], ◌∷◌, Some, zero, suc, length, take, get_or, option_map, refl, ap, sym, arith, add-one, append-nil, append_assoc, length-append, codes, lit≤}
use Rattle.vm_types.specs.Bytes.{longest}
use Rattle.std.proofs.lemmas.Bool.Decides.{nat_tests}
use Rattle.std.proofs.lemmas.Slice.Eq.{bytes_eq-Decides}
use Rattle.std.specs.Prelude.{nat_le, nat_lt}
use Rattle.std.specs.Str.{bytes_eq}
use Rattle.vm_cli.specs.lines.Escapes.{ArePlain, byte_text, escaped, hex_digit, hex_text, is_plain, unescaped, value_of, value_text}

pub escaped-more : (bytes : List ℕ) (i : ℕ) → i < length bytes → escaped (take (i + 1) bytes) ≡ escaped (take i bytes) ++ byte_text (get_or bytes i 0)
escaped-more [] i lt = absurd (omega arith)
escaped-more (b ∷ bytes) zero lt = append-nil (byte_text b)
escaped-more (b ∷ bytes) (suc i) lt =
    let rest : escaped (take (suc i) bytes) ≡ escaped (take i bytes) ++ byte_text (get_or bytes i 0) = rw (← add-one i) (escaped-more bytes i (omega arith)) in
    rw (add-one (suc i), rest) (sym (append_assoc (byte_text b) (escaped (take i bytes)) (byte_text (get_or bytes i 0))))

-- bytes that are written as themselves
pub ArePlain-more : (bytes : List ℕ) (i : ℕ) → i < length bytes → ArePlain (take i bytes) → is_plain (get_or bytes i 0) ≡ true → ArePlain (take (i + 1) bytes)
ArePlain-more [] i lt so_far here = absurd (omega (arith, lt))
ArePlain-more (b ∷ bytes) zero lt so_far here = (here, tt)
ArePlain-more (b ∷ bytes) (suc i) lt so_far here =
    let rest : ArePlain (take (suc i) bytes) = rw (← add-one i) (ArePlain-more bytes i (omega (arith, lt)) so_far.1 here) in
    rw (add-one (suc i)) (so_far.0, rest)

escaped-plain : (bytes : List ℕ) → ArePlain bytes → escaped bytes ≡ bytes
escaped-plain [] plain = refl
escaped-plain (b ∷ bytes) plain = rw (plain.0, escaped-plain bytes plain.1) refl

pub value_text-plain : (bytes : List ℕ) → 0 < length bytes → bytes_eq bytes (codes "-") ≡ false → ArePlain bytes → value_text bytes ≡ bytes
value_text-plain [] some other plain = absurd (omega (arith, some))
value_text-plain (b ∷ bytes) some other plain = rw other (escaped-plain (b ∷ bytes) plain)

plain-below : (b : ℕ) → is_plain b ≡ true → b < 256
plain-below b e = grind (arith, nat_tests, e)

pub plain-small : (bytes : List ℕ) → ArePlain bytes → (i : ℕ) → i < length bytes → get_or bytes i 0 < 256
plain-small [] plain i lt = absurd (omega (arith, lt))
plain-small (b ∷ bytes) plain zero lt = plain-below b plain.0
plain-small (b ∷ bytes) plain (suc i) lt = plain-small bytes plain.1 i (omega (arith, lt))

pub byte_text-short : (b : ℕ) → length (byte_text b) ≤ 3
byte_text-short b = go (is_plain b) refl
  where
    go : (t : Bool) → is_plain b ≡ t → length (byte_text b) ≤ 3
    go true e = rw e (lit≤ tt)
    go false e = rw e (lit≤ tt)

hex-again : (n : ℕ) → n < 16 → hex_digit (hex_text n) ≡ Some n
hex-again n lt = go (nat_lt n 10) refl
  where
    go : (t : Bool) → nat_lt n 10 ≡ t → hex_digit (hex_text n) ≡ Some n
    go true e =
        let a : nat_le 48 (48 + n) ≡ true = grind (arith, nat_tests) in
        let b : nat_le (48 + n) 57 ≡ true = grind (arith, nat_tests) in
        rw (e, a, b) (ap (λ (k : ℕ). Some k) (omega arith))
    go false e =
        let a : nat_le (55 + n) 57 ≡ false = grind (arith, nat_tests) in
        let b : nat_le 65 (55 + n) ≡ true = grind (arith, nat_tests) in
        let c : nat_le (55 + n) 70 ≡ true = grind (arith, nat_tests) in
        let d : nat_le 48 (55 + n) ≡ true = grind (arith, nat_tests) in
        rw (e, d, a, b, c) (ap (λ (k : ℕ). Some k) (omega arith))

literal-front : (b : ℕ) (more : List ℕ) → (b == 37) ≡ false → unescaped (b ∷ more) ≡ option_map (λ bytes. b ∷ bytes) (unescaped more)
literal-front b [] e = rw e refl
literal-front b (c ∷ []) e = rw e refl
literal-front b (c ∷ d ∷ more) e = rw e refl

plain-literal : (b : ℕ) → is_plain b ≡ true → (b == 37) ≡ false
plain-literal b e = go (b == 37) refl
  where
    go : (t : Bool) → (b == 37) ≡ t → (b == 37) ≡ false
    go true p = let no_plain : is_plain b ≡ false = grind (arith, nat_tests, p) in cc
    go false p = p

byte-again : (b : ℕ) (more : List ℕ) → b < 256 → unescaped (byte_text b ++ more) ≡ option_map (λ bytes. b ∷ bytes) (unescaped more)
byte-again b more lt = go (is_plain b) refl
  where
    go : (t : Bool) → is_plain b ≡ t → unescaped (byte_text b ++ more) ≡ option_map (λ bytes. b ∷ bytes) (unescaped more)
    go true e = rw e (literal-front b more (plain-literal b e))
    go false e =
        let high = hex-again (b / 16) (omega arith) in
        let low = hex-again (b % 16) (omega arith) in
        let whole : b / 16 * 16 + b % 16 ≡ b = omega arith in
        rw (e, high, low, whole) refl

escaped-again : (bytes : List ℕ) → ((i : ℕ) → i < length bytes → get_or bytes i 0 < 256) → unescaped (escaped bytes) ≡ Some bytes
escaped-again [] small = refl
escaped-again (b ∷ bytes) small =
    rw (byte-again b (escaped bytes) (small 0 (omega arith)), escaped-again bytes (λ i lt. small (suc i) (omega arith))) refl

-- a value is read again as it was written
pub value-again : (value : List ℕ) → ((i : ℕ) → i < length value → get_or value i 0 < 256) → length value ≤ longest → value_of (value_text value) ≡ Some value
value-again [] small short = refl
value-again (b ∷ bytes) small short = go (bytes_eq (b ∷ bytes) (codes "-")) refl
  where
    within : nat_le (length (b ∷ bytes)) longest ≡ true
    within = grind (arith, nat_tests)

    go : (t : Bool) → bytes_eq (b ∷ bytes) (codes "-") ≡ t → value_of (value_text (b ∷ bytes)) ≡ Some (b ∷ bytes)
    go true e =
        let is : b ∷ bytes ≡ codes "-" = (bytes_eq-Decides (b ∷ bytes) (codes "-")).0 e in
        rw e (ap (λ (v : List ℕ). Some v) (sym is))
    go false e =
        let again = escaped-again (b ∷ bytes) small in
        rw e (whole (bytes_eq (escaped (b ∷ bytes)) (codes "-")) refl again e)
      where
        whole : (t : Bool) → bytes_eq (escaped (b ∷ bytes)) (codes "-") ≡ t → unescaped (escaped (b ∷ bytes)) ≡ Some (b ∷ bytes)
            → bytes_eq (b ∷ bytes) (codes "-") ≡ false → value_of (escaped (b ∷ bytes)) ≡ Some (b ∷ bytes)
        whole true p again e =
            let is : escaped (b ∷ bytes) ≡ codes "-" = (bytes_eq-Decides (escaped (b ∷ bytes)) (codes "-")).0 p in
            let same : Some (codes "-") ≡ Some (b ∷ bytes) = rw is at again in
            let equal : b ∷ bytes ≡ codes "-" = cc in
            let bad : bytes_eq (b ∷ bytes) (codes "-") ≡ true = (bytes_eq-Decides (b ∷ bytes) (codes "-")).1 equal in cc
        whole false p again e = rw (p, again, within) refl

-- one byte more is written
pub written-more : (old held now bytes : List ℕ) (i : ℕ) → held ≡ old ++ escaped (take i bytes) → now ≡ held ++ byte_text (get_or bytes i 0)
    → i < length bytes → now ≡ old ++ escaped (take (i + 1) bytes)
written-more old held now bytes i so_far next lt =
    next ∙ (rw (so_far, escaped-more bytes i lt) (append_assoc old (escaped (take i bytes)) (byte_text (get_or bytes i 0))))

pub length-written : (held now : List ℕ) (b : ℕ) → now ≡ held ++ byte_text b → length now ≤ length held + 3
length-written held now b next =
    let few = byte_text-short b in
    rw (next, length-append held (byte_text b)) (omega arith)
