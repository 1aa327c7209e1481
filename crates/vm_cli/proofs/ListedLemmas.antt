-- How a query for a list is answered.
use Rattle.std.proofs.Common.{◌≡◌, ◌≢◌, ◌⊎◌, inl, inr, ℕ, Bool, true, false, List, [], ◌∷◌, ◌++◌, map, flat_map, None, Result, Ok, Err, IfErr, IfOk, Vec, refl, ap, sym, subst, ◌∙◌}
use Rattle.std.proofs.lemmas.List.{length-map}
use Rattle.vm_types.specs.declared.refusal.Refusal.{Refusal}
use Rattle.vm_types.specs.declared.refusal.Refusal.TheVariants.{Device, Failed, Memory, NoSuchAlternative}
use Rattle.vm_types.specs.Queries.{IsList, IsListOf, IsListing}
use Rattle.vm_types.specs.State.{State}
use Rattle.vm_store.specs.Answers.{IsDueOrMemory}
use Rattle.vm_store.specs.Store.{Holds, has_failed}
use Rattle.vm_store.specs.declared.store.Store.{Store}
use Rattle.vm_cli.specs.answers.Carried.{Carries, WritesStart}
use Rattle.vm_cli.specs.session.Feeds.{HandlesRequest, Replied, Replies, RepliesWithList, joined}
use Rattle.vm_cli.specs.session.Known.{Written, between}
use Rattle.vm_cli.specs.answers.Replies.{ends_session, is_error, reply_text}
use Rattle.vm_cli.specs.session.Session.{Meets, Passes, SaysAnswer, SaysFailed, Stood, error_text, list_lines}
use Rattle.vm_cli.specs.declared.answers.reply.Reply.{Reply}
use Rattle.vm_cli.specs.declared.answers.reply.Reply.TheVariants.{End}
use Rattle.vm_cli.specs.lines.Asking.{Request}
use Rattle.vm_cli.specs.declared.answers.output.WriteFault.{WriteFault}
use Rattle.vm_cli.proofs.HandledLemmas.{refusal_handled, replied_whole, told}
use Rattle.vm_cli.proofs.SessionLemmas.{list_replies, says_refusal, was_sound}

-- what a store says of a list that it gives without a device call
pub shape_listed : {X A : Type 0} (answer : Result (Vec X A) Refusal) (due : List X) → IfErr answer (λ refusal. refusal ≡ Memory) → IfOk answer (λ list. list.items ≡ due) → IsList answer (Ok due)
shape_listed (Ok list) due memory is = ap Ok (sym is)
shape_listed (Err refusal) due memory is = inl (refl, inr memory)

pub names_listed : {X A : Type 0} (answer : Result (Vec X A) Refusal) (due : Result (List X) Refusal) → IfOk answer (λ list. Ok list.items ≡ due) → IfErr answer (λ refusal. IsDueOrMemory refusal due)
    → IsList answer due
names_listed (Ok list) due is none = sym is
names_listed (Err refusal) due is (inl memory) = inl (memory.0, inr memory.1)
names_listed (Err refusal) due is (inr same) = inr (sym same)

-- a refusal that is for memory or for a name is no other
pub is_memory : {X : Type 0} (answer : Result X Refusal) (other : Refusal) → other ≢ Memory → IfErr answer (λ refusal. refusal ≡ Memory) → answer ≢ Err other
is_memory (Ok x) other not memory is = let e : Ok x ≡ Err other = is in cc
is_memory (Err refusal) other not memory is = not (let e : Err refusal ≡ Err other = is in cc)

pub is_none : {X : Type 0} (answer : Result X Refusal) (other : Refusal) → other ≢ Memory → other ≢ NoSuchAlternative → IfErr answer (λ refusal. (refusal ≡ Memory) ⊎ (refusal ≡ NoSuchAlternative)) → answer ≢ Err other
is_none (Ok x) other not nor none is = let e : Ok x ≡ Err other = is in cc
is_none (Err refusal) other not nor (inl memory) is = not (let e : Err refusal ≡ Err other = is in cc)
is_none (Err refusal) other not nor (inr none) is = nor (let e : Err refusal ≡ Err other = is in cc)

-- a list ends the session only where the store had failed
pub list_goes_on : {T : Type 0} (lines : T → List (List ℕ)) (answer : Result T Refusal) (r : Result Reply WriteFault) (output : Written) (rest : List ℕ) (failed : Bool) → failed ≡ false → answer ≢ Err Failed
    → RepliesWithList lines answer r output rest → IfOk r (λ reply. ends_session reply ≡ failed)
list_goes_on lines (Ok list) (Ok reply) output rest failed sound only replied = ap ends_session replied.end ∙ sym sound
list_goes_on lines (Ok list) (Err fault) output rest failed sound only replied = _
list_goes_on lines (Err refusal) (Ok reply) output rest failed sound only replied = replied.refuses.last (λ is. only (ap Err is)) ∙ sym sound
list_goes_on lines (Err refusal) (Err fault) output rest failed sound only replied = absurd replied

-- the lines of a list, one after another
joined_map : {X : Type 0} (line : X → List ℕ) (xs : List X) → joined (map line xs) ≡ flat_map line xs
joined_map line [] = refl
joined_map line (x ∷ xs) = ap (λ rest. line x ++ rest) (joined_map line xs)

-- a query for a list, after which the store has failed where it had before, and is else as good
module _ {D : Type 0} {members : _} (old new : Store D members) (s : State) (query : Request) (passes : Passes old new None) (same : has_failed new ≡ has_failed old) (left : has_failed old ≡ true → new ≡ old)
    (holds : Stood old new s → Holds new s) where
  module _ {T X : Type 0} (Known Fails : Type 0) (line : X → List ℕ) (items : T → List X) (due : Result (List X) Refusal) (plain : (x : X) (rest : List ℕ) → is_error (line x ++ rest) ≡ false)
      (meets : (text : List ℕ) → has_failed old ≡ false → SaysAnswer Fails (list_lines line) (λ answer. Known → IsListing answer due) text → Meets old new s query text None)
      (fails : (text : List ℕ) (ends : Bool) → text ≡ error_text Failed → ends ≡ true → SaysFailed query text ends) where
    -- its answer is due where `Known` holds, and it is replied to so
    pub list_handled : (answer : Result T Refusal) → (has_failed old ≡ false → answer ≡ Err Device → Fails) → (has_failed old ≡ true → answer ≡ Err Failed) → (has_failed old ≡ false → answer ≢ Err Failed)
        → (has_failed old ≡ false → Known → IsListOf items answer due) → (r : Result Reply WriteFault) (output : Written) (rest : List ℕ) → RepliesWithList (λ list. map line (items list)) answer r output rest
        → Replies (HandlesRequest old new s query) r output rest
    list_handled (Ok list) device refused only value (Ok reply) output rest replied =
        let sound = was_sound (has_failed old) list refused in
        list_replies Known (HandlesRequest old new s query) Fails line (items list) due (Ok reply) output rest plain
        (λ text says. told old new s query passes same left holds text sound (meets text sound says)) (λ known. value sound known) (replied.end ∙ ap End (length-map (items list) line)) (subst (Carries output.before output.after rest) (joined_map line (items list)) replied.carries) _
    list_handled (Ok list) device refused only value (Err fault) output rest replied =
        let sound = was_sound (has_failed old) list refused in
        list_replies Known (HandlesRequest old new s query) Fails line (items list) due (Err fault) output rest plain
        (λ text says. told old new s query passes same left holds text sound (meets text sound says)) (λ known. value sound known) _ _ (subst (WritesStart output.before output.after) (joined_map line (items list)) replied)
    list_handled (Err refusal) device refused only value (Ok reply) output rest replied =
        let whole : Replied (HandlesRequest old new s query) reply (between output.before output.before) rest =
        replied_whole (HandlesRequest old new s query) reply output.before rest replied.alone
        (refusal_handled old new s query passes same left holds refusal reply replied.refuses.text replied.refuses.last replied.refuses.failed
        (λ failed. let e = refused failed in cc) (λ sound is. only sound (ap Err is)) fails
        (λ sound. meets (reply_text reply) sound (says_refusal Known Fails line due refusal (reply_text reply) (λ is. device sound (ap Err is)) (λ is. only sound (ap Err is)) replied.refuses.text (λ known. value sound known)))) in
        subst (λ now. Replied (HandlesRequest old new s query) reply (between output.before now) rest) (sym replied.unwritten) whole
    list_handled (Err refusal) device refused only value (Err fault) output rest replied = absurd replied
