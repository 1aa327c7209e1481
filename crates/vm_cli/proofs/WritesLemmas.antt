-- How an answer is written.
use Rattle.std.proofs.Common.{◌≡◌, ◌++◌, ◌∙◌, ℕ, Bool, true, false, List, Option, Ok, Err, refl, subst, sym}
use Rattle.std.specs.Io.KnownBytes.{Appends}
use Rattle.vm_cli.specs.answers.Carried.{WritesStart, Carries}
use Rattle.vm_cli.specs.session.Feeds.{Halted, Replied, Writes}
use Rattle.vm_cli.specs.session.Known.{between}
use Rattle.vm_cli.specs.answers.Replies.{ends_session, is_error, reply_text}
use Rattle.vm_cli.specs.declared.answers.reply.Reply.{Reply}
use Rattle.vm_cli.specs.declared.session.Manner.{Manner}
use Rattle.vm_cli.specs.declared.session.OnRefusal.TheVariants.{Stop}
use Rattle.vm_cli.specs.declared.session.ServeFault.TheVariants.{Refused, Store, Write}
use Rattle.vm_cli.proofs.CarriedLemmas.{begins-then, carries-end, carries-more}

module _ (on : Manner) (P : List ℕ → Bool → Type 0) (a b : Option (List ℕ)) where
  -- the writer failed before the last line
  pub writes-halted : Halted P (between a b) → Writes on P (Err Write) (between a b)
  writes-halted h = h

  module _ (c : Option (List ℕ)) (reply : Reply) (rest : List ℕ) (h : Replied P reply (between a b) rest) where
    carried : Carries a b (rest ++ reply_text reply) (h.whole ++ reply_text reply)
    carried = carries-more a b rest (rest ++ reply_text reply) h.whole (reply_text reply) h.carries refl

    all : Appends b c (rest ++ reply_text reply) → Appends a c (h.whole ++ reply_text reply)
    all p = carries-end a b c (rest ++ reply_text reply) (h.whole ++ reply_text reply) carried p

    -- it failed then
    pub writes-begun : WritesStart b c (rest ++ reply_text reply) → Writes on P (Err Write) (between a c)
    writes-begun p = record { whole = h.whole ++ reply_text reply; ends = ends_session reply; says = h.says; begins = begins-then a b c (rest ++ reply_text reply) (h.whole ++ reply_text reply) carried p }

    -- all was written
    pub writes-all : (refused : Bool) → ends_session reply ≡ false → refused ≡ is_error (reply_text reply) → (on.on_refusal ≡ Stop → refused ≡ false)
        → Appends b c (rest ++ reply_text reply) → Writes on P (Ok refused) (between a c)
    writes-all refused e same goes_on p = record { text = h.whole ++ reply_text reply; says = subst (P (h.whole ++ reply_text reply)) e h.says; told = same ∙ sym h.tells; goes_on = goes_on; written = all p }

    -- all was written, and the session ends
    pub writes-last : ends_session reply ≡ true → Appends b c (rest ++ reply_text reply) → Writes on P (Err Store) (between a c)
    writes-last e p = record { text = h.whole ++ reply_text reply; says = subst (P (h.whole ++ reply_text reply)) e h.says; written = all p }

    -- all was written, and the line was refused, which ends the session
    pub writes-refused : ends_session reply ≡ false → is_error (reply_text reply) ≡ true → on.on_refusal ≡ Stop → Appends b c (rest ++ reply_text reply)
        → Writes on P (Err Refused) (between a c)
    writes-refused e error stop p = record { text = h.whole ++ reply_text reply; says = subst (P (h.whole ++ reply_text reply)) e h.says; refused = h.tells ∙ error; stop = stop; written = all p }
