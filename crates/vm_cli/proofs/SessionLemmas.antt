-- Which answers are given.
use Rattle.std.proofs.Common.{◌≡◌, ◌≢◌, ◌↔◌, ◌++◌, ℕ, Bool, true, false, List, [], ◌∷◌, Option, Some, None, Result, Ok, Err, IfOk, OnErr, OnOk, append-nil, append_assoc, flat_map, length, refl, ap, ◌∙◌}
use Rattle.vm_types.specs.declared.answer.Answer.{Answer}
use Rattle.vm_types.specs.declared.refusal.Refusal.{Refusal}
use Rattle.vm_types.specs.declared.refusal.Refusal.TheVariants.{Device, Failed}
use Rattle.vm_cli.specs.answers.Carried.{WritesStart, Carries}
use Rattle.vm_cli.specs.session.Feeds.{Replies}
use Rattle.vm_cli.specs.session.Known.{Written}
use Rattle.vm_cli.specs.answers.Replies.{found_text, is_error, reply_text}
use Rattle.vm_types.specs.Queries.{IsListing}
use Rattle.vm_cli.specs.session.Session.{SaysAnswer, error_text, list_lines, list_text}
use Rattle.vm_cli.specs.declared.answers.reply.Reply.{Reply}
use Rattle.vm_cli.specs.declared.answers.reply.Reply.TheVariants.{End}
use Rattle.vm_cli.specs.declared.answers.output.WriteFault.{WriteFault}
use Rattle.vm_cli.proofs.CarriedLemmas.{begins-more}

-- the answer to a command ends the session just where the store has failed
pub last-is : (ends failed : Bool) (answer : Result Answer Refusal) → (failed ≡ true ↔ answer ≡ Err Device) → answer ≢ Err Failed → (answer ≡ Err Device → ends ≡ true)
    → (answer ≢ Err Device → answer ≢ Err Failed → ends ≡ false) → ends ≡ failed
last-is ends true answer is other device last = device (is.0 refl)
last-is ends false answer is other device last = last (λ same. let e : false ≡ true = is.1 same in cc) other

abbrev given : {X : Type 0} → X → Result X Refusal
given x = Ok x

-- a store that gives something hasn't failed
pub was_sound : {X : Type 0} (failed : Bool) (x : X) → (failed ≡ true → given x ≡ Err Failed) → failed ≡ false
was_sound false x refused = refl
was_sound true x refused = let e = refused refl in cc

-- the text has its line alone, which is no refusal
pub found_alone : (old text : List ℕ) (found : Option (List ℕ)) → old ≡ [] → text ≡ old ++ found_text found → text ++ [] ≡ found_text found
found_alone old text found none is = rw (is, none) (append-nil (found_text found))

pub found_plain : (text : List ℕ) (found : Option (List ℕ)) → text ≡ found_text found → is_error text ≡ false
found_plain text None is = rw is refl
found_plain text (Some value) is = rw is refl

-- the lines of a list and its end are no refusal
plain_list : {X : Type 0} (line : X → List ℕ) → ((x : X) (rest : List ℕ) → is_error (line x ++ rest) ≡ false) → (items : List X) (count : ℕ)
    → is_error (flat_map line items ++ reply_text (End count)) ≡ is_error (reply_text (End count))
plain_list line plain [] count = refl
plain_list line plain (x ∷ xs) count = ap is_error (append_assoc (line x) (flat_map line xs) (reply_text (End count))) ∙ plain x (flat_map line xs ++ reply_text (End count))

-- a list is told
says_items : {X : Type 0} (C Fails : Type 0) (line : X → List ℕ) (items : List X) (due : Result (List X) Refusal) → (C → due ≡ Ok items)
    → SaysAnswer Fails (list_lines line) (λ answer. C → IsListing answer due) (list_text line items)
says_items C Fails line items due is = record {
  answer = Ok items;
  says = refl;
  device = λ no. absurd cc;
  only_then = λ no. cc;
  due = is;
}

-- a list is written as is due
pub list_replies : {X : Type 0} (C : Type 0) (P : List ℕ → Bool → Type 0) (Fails : Type 0) (line : X → List ℕ) (items : List X) (due : Result (List X) Refusal) (r : Result Reply WriteFault) (output : Written) (rest : List ℕ)
    → ((x : X) (rest : List ℕ) → is_error (line x ++ rest) ≡ false) → ((text : List ℕ) → SaysAnswer Fails (list_lines line) (λ answer. C → IsListing answer due) text → P text false)
    → (C → due ≡ Ok items) → IfOk r (λ reply. reply ≡ End (length items)) → OnOk r (Carries output.before output.after rest (flat_map line items)) → OnErr r (WritesStart output.before output.after (flat_map line items))
    → Replies P r output rest
list_replies C P Fails line items due (Ok reply) output rest plain lift is ends carries begins = record {
  whole = flat_map line items;
  says = rw ends (lift (list_text line items) (says_items C Fails line items due is));
  tells = rw ends (plain_list line plain items (length items));
  carries = carries;
}
list_replies C P Fails line items due (Err fault) output rest plain lift is ends carries begins = record {
  whole = list_text line items;
  ends = false;
  says = lift (list_text line items) (says_items C Fails line items due is);
  begins = begins-more output.before output.after (flat_map line items) _ begins;
}

-- a list is refused
pub says_refusal : {X : Type 0} (C Fails : Type 0) (line : X → List ℕ) (due : Result (List X) Refusal) (refusal : Refusal) (text : List ℕ)
    → (refusal ≡ Device → Fails) → refusal ≢ Failed → text ≡ error_text refusal → (C → IsListing (Err refusal) due)
    → SaysAnswer Fails (list_lines line) (λ answer. C → IsListing answer due) text
says_refusal C Fails line due refusal text fails only is value = record {
  answer = Err refusal;
  says = is;
  device = λ same. fails (let e : refusal ≡ Device = cc in e);
  only_then = λ same. only (let e : refusal ≡ Failed = cc in e);
  due = value;
}
