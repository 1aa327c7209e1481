-- A number that was read from a text, and the number that the text says in a range.
use Rattle.std.proofs.Common.{◌≡◌, ◌<◌, ◌≤◌, ◌^◌, ℕ, Bool, true, false, List, Option, Some, None, arith, refl}
use Rattle.std.specs.Prelude.{Result, Ok, Err, option_and_then}
use Rattle.std.specs.Str.Parse.{ParsesUnsigned, ExplainsUnsignedError, HasUnsignedDigitsIfOk, digits_value, without_leading_plus}
use Rattle.std.specs.declared.num.ParseIntError.{ParseIntError}
use Rattle.clap.specs.Words.{ReadsOne}
use Rattle.clap.specs.ValueTests.{is_unsigned_in}
use Rattle.clap.specs.declared.builder.value_parser.ValueParser.TheVariants as vp
use Rattle.clap.proofs.ValueTestLemmas.{Accepts-accepts, accepts-Accepts}
use Rattle.vm_cli.specs.program.Words.{number_in}

-- what `parse` says of a number of 32 bits
abbrev pub Gives : List ℕ → Result ℕ ParseIntError → Type 0
Gives bs r = ParsesUnsigned 32 10 bs r × ExplainsUnsignedError 10 bs r × HasUnsignedDigitsIfOk bs r

-- the text of an argument, if any, was read as a number, if any
pub record Read (text : Option (List ℕ)) (r : Option ℕ) : Type 0 where
  pub none : text ≡ None → r ≡ None
  pub value : (t : List ℕ) → text ≡ Some t → ReadsOne Gives t r

-- a text that was read as a number says it where it is in the range
in_range : (t : List ℕ) (low high n : ℕ) → Gives t (Ok n) → n < 2 ^ 32 → low ≤ n → n ≤ high → number_in low high t ≡ Some n
in_range t low high n g small above below =
    let value : n ≡ digits_value 10 (without_leading_plus t) = g.0.1 in
    let test : is_unsigned_in low high t ≡ true =
    Accepts-accepts false (vp.Unsigned low high) t (g.0.0.0, rw (← value) (omega arith), rw (← value) above, rw (← value) below) in
    rw (test, ← value) refl

outside : (t : List ℕ) (low high n : ℕ) → Gives t (Ok n) → ((low ≤ n) → (n ≤ high) → ⊥) → number_in low high t ≡ None
outside t low high n g out = go (is_unsigned_in low high t) refl
  where
    go : (b : Bool) → is_unsigned_in low high t ≡ b → number_in low high t ≡ None
    go true e =
        let a = accepts-Accepts false (vp.Unsigned low high) t e in
        let value : n ≡ digits_value 10 (without_leading_plus t) = g.0.1 in
        absurd (out (rw value a.2) (rw value a.3))
    go false e = rw e refl

unread : (t : List ℕ) (low high : ℕ) (e : ParseIntError) → Gives t (Err e) → high < 2 ^ 32 → number_in low high t ≡ None
unread t low high e g small = go (is_unsigned_in low high t) refl
  where
    go : (b : Bool) → is_unsigned_in low high t ≡ b → number_in low high t ≡ None
    go true p =
        let a = accepts-Accepts false (vp.Unsigned low high) t p in
        absurd (g.0 (a.0, omega arith))
    go false p = rw p refl

pub read-some : (low high n : ℕ) (text : Option (List ℕ)) → Read text (Some n) → n < 2 ^ 32 → low ≤ n → n ≤ high
    → option_and_then (number_in low high) text ≡ Some n
read-some low high n None r small above below = let bad = r.none refl in cc
read-some low high n (Some t) r small above below = in_range t low high n (r.value t refl) small above below

pub read-outside : (low high n : ℕ) (text : Option (List ℕ)) → Read text (Some n) → ((low ≤ n) → (n ≤ high) → ⊥)
    → option_and_then (number_in low high) text ≡ None
read-outside low high n None r out = refl
read-outside low high n (Some t) r out = outside t low high n (r.value t refl) out

pub read-none : (low high : ℕ) (text : Option (List ℕ)) → Read text None → high < 2 ^ 32 → option_and_then (number_in low high) text ≡ None
read-none low high None r small = refl
read-none low high (Some t) r small = let g = r.value t refl in unread t low high g.0 g.1 small
