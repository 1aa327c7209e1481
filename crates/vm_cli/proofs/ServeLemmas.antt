-- How a session ends.
use Rattle.std.proofs.Common.{◌≡◌, ◌==◌, ◌++◌, ◌∙◌, ℕ, Bool, true, false, List, [], ◌∷◌, Option, Some, None, IfSome, Result, Ok, Err, take, refl, ap, sym, subst, arith, append-nil}
use Rattle.std.proofs.lemmas.Bool.Decides.{nat_tests}
use Rattle.std.proofs.KnownBytes.{Consumes-trans, Consumes-whole}
use Rattle.std.specs.Io.KnownBytes.{Consumes, IsAtEnd}
use Rattle.vm_types.specs.State.{State, after}
use Rattle.vm_store.specs.declared.store.Store.{Store}
use Rattle.vm_cli.specs.session.Feeds.{Fed, Writes, chunk}
use Rattle.vm_cli.specs.session.Known.{between, streams_of}
use Rattle.vm_cli.specs.lines.Lines.{IsPart, lines_of, onto_first}
use Rattle.vm_cli.specs.lines.Input.{is_nil}
use Rattle.vm_cli.specs.session.Session.{HandlesLine, Serves, ServesLines}
use Rattle.vm_cli.specs.declared.session.Manner.{Manner}
use Rattle.vm_cli.specs.declared.session.ServeFault.{ServeFault}
use Rattle.vm_cli.specs.declared.session.ServeFault.TheVariants as fault
use Rattle.vm_cli.proofs.CarriedLemmas.{on_ok}
use Rattle.vm_cli.proofs.FeedLemmas.{joined, serves-after, serves-line}

-- all was read
pub read-all : (a b c : Option (List ℕ)) (bytes buf : List ℕ) (n : ℕ) → Consumes a b bytes → Consumes b c (take n buf) → n ≡ 0 → IsAtEnd c → IfSome a (λ own. own ≡ bytes)
read-all a b c bytes buf n p q none end =
    let all : Consumes a c (bytes ++ take n buf) = Consumes-trans a b c bytes (take n buf) p q in
    let same : bytes ++ take n buf ≡ bytes = rw none (append-nil bytes) in
    Consumes-whole a c (bytes ++ take n buf) (λ own. own ≡ bytes) all end same

-- more may be there to be read
pub read-some : (a b : Option (List ℕ)) (bytes : List ℕ) → Consumes a b bytes → (more : List ℕ) × IfSome a (λ own. own ≡ bytes ++ more)
read-some None b bytes p = ([], tt)
read-some (Some x) None bytes p = absurd p
read-some (Some x) (Some y) bytes p = (y, p)

no-lines : (to : List ℕ) → is_nil to ≡ true → lines_of (to ++ []) ≡ []
no-lines [] e = refl
no-lines (b ∷ to) e = cc

last-line : (to : List ℕ) → IsPart to → is_nil to ≡ false → lines_of (to ++ []) ≡ to ∷ []
last-line [] part e = cc
last-line (b ∷ []) part e = let other : (b == 10) ≡ false = grind (arith, nat_tests, part.0) in rw other refl
last-line (b ∷ c ∷ to) part e =
    let other : (b == 10) ≡ false = grind (arith, nat_tests, part.0) in
    rw other (ap (onto_first b) (last-line (c ∷ to) part.1 refl))

module _ {D : Type 0} {members : _} (old mid : Store D members) (s : State) (on : Manner) (refused : Bool) (bytes to : List ℕ) (a b : Option (List ℕ)) (f : Fed old mid s on refused (chunk [] bytes to) (between a b)) where
  cut-all : lines_of bytes ≡ f.lines ++ lines_of (to ++ [])
  cut-all = ap lines_of (sym (append-nil bytes)) ∙ f.cut []

  -- the input ended with a line's end
  pub serves-all : (known : Option (List ℕ)) → IfSome known (λ own. own ≡ bytes) → is_nil to ≡ true → Serves old mid s on (Ok refused) (streams_of known a b)
  serves-all known own e =
      let lines : lines_of bytes ≡ f.lines = cut-all ∙ ap (λ ls. f.lines ++ ls) (no-lines to e) ∙ append-nil f.lines in
      record {
        input = bytes;
        own = own;
        served = subst (λ ls. ServesLines old mid s on (Ok refused) (between a b) ls) (sym lines) (record { text = f.text; answered = f.answered; told = f.told; written = f.written });
      }

  -- it ended within a line
  pub serves-last : (new : Store D members) (c known : Option (List ℕ)) (r : Result Bool ServeFault) → IfSome known (λ own. own ≡ bytes) → IsPart to → is_nil to ≡ false
      → Writes on (HandlesLine mid new (after s f.answered.commands f.answered.answers) on to) r (between b c) → Serves old new s on (joined refused r) (streams_of known a c)
  serves-last new c known r own part e w =
      let lines : lines_of bytes ≡ f.lines ++ (to ∷ []) = cut-all ∙ ap (λ ls. f.lines ++ ls) (last-line to part e) in
      let line = serves-line mid new (after s f.answered.commands f.answered.answers) on to r b c [] (on_ok r refl) w in
      let whole = serves-after old mid new s on f.lines f.text f.answered r a b c (to ∷ []) f.written line in
      record {
        input = bytes;
        own = own;
        served = subst (λ ls. ServesLines old new s on (joined refused r) (between a c) ls) (sym lines)
            (subst (λ t. ServesLines old new s on (joined t r) (between a c) (f.lines ++ (to ∷ []))) (sym f.told) whole);
      }

  -- the reader failed
  pub serves-read : (known left : Option (List ℕ)) → Consumes known left bytes → Serves old mid s on (Err fault.Read) (streams_of known a b)
  serves-read known left read =
      let rest = read-some known left bytes read in
      record {
        input = bytes ++ rest.0;
        own = rest.1;
        served = record { text = f.text; lines = f.lines; others = lines_of (to ++ rest.0); cut = f.cut rest.0; answered = f.answered; written = f.written };
      }

-- the session ended among these bytes
pub serves-some : {D : Type 0} {members : _} (old new : Store D members) (s : State) (on : Manner) (result : Result Bool ServeFault) (a c known left : Option (List ℕ)) (bytes : List ℕ) → Consumes known left bytes
    → ((more : List ℕ) → ServesLines old new s on result (between a c) (lines_of (bytes ++ more))) → Serves old new s on result (streams_of known a c)
serves-some old new s on result a c known left bytes read ended =
    let rest = read-some known left bytes read in
    record { input = bytes ++ rest.0; own = rest.1; served = ended rest.0 }
