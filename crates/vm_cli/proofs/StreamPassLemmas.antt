-- A line of a session with batches in which commands are refused only reads.
use Rattle.std.proofs.Common.{◌≡◌, ℕ, Bool, true, false, List, [], ◌∷◌, codes, length, nat_lt, if◌then◌else◌, Option, None, Some, sym, subst}
use Rattle.vm_types.specs.State.{State}
use Rattle.vm_types.specs.declared.command.Command.{Command}
use Rattle.vm_types.specs.declared.command.Command.TheVariants.{Commit, Rollback}
use Rattle.vm_store.specs.declared.store.Store.{Store}
use Rattle.vm_cli.specs.lines.Asking.{Request}
use Rattle.vm_cli.specs.session.SessionKinds.{Course}
use Rattle.vm_cli.specs.lines.Input.{without_return}
use Rattle.vm_cli.specs.session.LineUses.{is_alone, no_memory, use_of, use_of_command, use_of_request, use_of_words}
use Rattle.vm_cli.specs.lines.Requests.{request_of}
use Rattle.vm_cli.specs.session.Rounds.{Round}
use Rattle.vm_cli.specs.lines.Spaces.{words_of}
use Rattle.vm_cli.specs.session.Streams.{Held, Takes, TakesAs}
use Rattle.vm_cli.specs.session.Streams.Held.{holds, lost}
use Rattle.vm_cli.specs.session.Streams.Takes.{for_its_use, without_memory}
use Rattle.vm_cli.specs.session.Session.{Passes}
use Rattle.vm_cli.specs.declared.lines.line.TheConstants.{MAX_BYTES}
use Rattle.vm_cli.specs.declared.session.Manner.{Manner}
use Rattle.vm_cli.specs.declared.session.OnCommand.TheVariants.{Refuse}
use Rattle.vm_cli.specs.declared.session.line_use.LineUse.{LineUse}
use Rattle.vm_cli.specs.declared.session.line_use.LineUse.TheVariants as line
use Rattle.vm_cli.proofs.PassLemmas.{passes_left}
use Rattle.vm_cli.proofs.ReadOnlyLemmas.{line_passes}

-- a line that is no change
abbrev pub IsOther : LineUse → Type 0
IsOther line.Nothing = Unit {0}
IsOther line.Begin = Unit {0}
IsOther line.Commit = Unit {0}
IsOther line.Abort = Unit {0}
IsOther line.Change = ⊥
IsOther line.Query = Unit {0}
IsOther (line.Refused said) = Unit {0}

either_other : (b : Bool) (first second : LineUse) → IsOther first → IsOther second → IsOther (if b then first else second)
either_other true first second p q = p
either_other false first second p q = q

command_other : (command : Command) → IsOther (use_of_command Refuse command)
command_other Commit = tt
command_other Rollback = tt
command_other command = tt

request_other : (request : Request) → IsOther (use_of_request Refuse request)
request_other (Request.Command command) = command_other command
request_other (Request.Growing most command) = command_other command
request_other request = tt

words_other : (words : List (List ℕ)) → IsOther (use_of_words Refuse words)
words_other words =
    either_other (is_alone (codes "begin") words) line.Begin (if is_alone (codes "abort") words then line.Abort else use_of_request Refuse (request_of words)) tt
    (either_other (is_alone (codes "abort") words) line.Abort (use_of_request Refuse (request_of words)) tt (request_other (request_of words)))

-- none is a change, where commands are refused
pub use_other : (part : List ℕ) → IsOther (use_of Refuse part)
use_other part = either_other (nat_lt MAX_BYTES (length part)) _ (use_of_words Refuse (words_of (without_return part))) tt (words_other (words_of (without_return part)))

-- no line is held
abbrev pub IsReading : Option Held → Type 0
IsReading None = Unit {0}
IsReading (Some (holds [])) = Unit {0}
IsReading (Some (holds (part ∷ parts))) = ⊥
IsReading (Some (lost place answer count)) = Unit {0}

module _ {D : Type 0} {members : _} (how : Manner) (refuses : how.on_command ≡ Refuse) where
  -- the store was asked nothing
  left_so : (old new : Store D members) → new ≡ old → (stage stage' : Option Held) → stage' ≡ stage → IsReading stage → Passes old new None × IsReading stage'
  left_so old new same stage stage' is reading = (passes_left old new same, subst IsReading (sym is) reading)

  -- a line that is no change
  as_passes : (old new : Store D members) (s : State) (used : LineUse) → IsOther used → (stage : Option Held) → IsReading stage → (part text : List ℕ) (course : Course) (stage' : Option Held) (round : Round)
      → TakesAs old new s how used stage part text course stage' round → Passes old new None × IsReading stage'
  as_passes old new s line.Change other stage reading part text course stage' round takes = absurd other
  as_passes old new s line.Nothing other None reading part text course stage' round takes = left_so old new takes.same None stage' takes.held tt
  as_passes old new s line.Begin other None reading part text course stage' round takes = left_so old new takes.same (Some (holds [])) stage' takes.held tt
  as_passes old new s line.Commit other None reading part text course stage' round takes = left_so old new takes.same None stage' takes.held tt
  as_passes old new s line.Abort other None reading part text course stage' round takes = left_so old new takes.same None stage' takes.held tt
  as_passes old new s (line.Refused said) other None reading part text course stage' round takes = left_so old new takes.same None stage' takes.held tt
  as_passes old new s line.Query other None reading part text course stage' round takes =
      (line_passes old new s how refuses part text takes.ends takes.handled, subst IsReading (sym takes.outside) tt)
  as_passes old new s used other (Some (holds (p ∷ parts))) reading part text course stage' round takes = absurd reading
  as_passes old new s line.Nothing other (Some (holds [])) reading part text course stage' round takes = left_so old new takes.same (Some (holds [])) stage' takes.held tt
  as_passes old new s line.Begin other (Some (holds [])) reading part text course stage' round takes = left_so old new takes.same _ stage' takes.held tt
  as_passes old new s line.Query other (Some (holds [])) reading part text course stage' round takes = left_so old new takes.same _ stage' takes.held tt
  as_passes old new s (line.Refused said) other (Some (holds [])) reading part text course stage' round takes = left_so old new takes.same _ stage' takes.held tt
  as_passes old new s line.Abort other (Some (holds [])) reading part text course stage' round takes = left_so old new takes.same None stage' takes.held tt
  as_passes old new s line.Commit other (Some (holds [])) reading part text course stage' round takes = left_so old new takes.settles.0 None stage' takes.outside tt
  as_passes old new s line.Nothing other (Some (lost place answer count)) reading part text course stage' round takes = left_so old new takes.same _ stage' takes.held tt
  as_passes old new s line.Begin other (Some (lost place answer count)) reading part text course stage' round takes = left_so old new takes.same _ stage' takes.held tt
  as_passes old new s line.Query other (Some (lost place answer count)) reading part text course stage' round takes = left_so old new takes.same _ stage' takes.held tt
  as_passes old new s (line.Refused said) other (Some (lost place answer count)) reading part text course stage' round takes = left_so old new takes.same _ stage' takes.held tt
  as_passes old new s line.Abort other (Some (lost place answer count)) reading part text course stage' round takes = left_so old new takes.same None stage' takes.held tt
  as_passes old new s line.Commit other (Some (lost place answer count)) reading part text course stage' round takes = left_so old new takes.settles.0 None stage' takes.outside tt

  -- a line
  pub takes_passes : (old new : Store D members) (s : State) (stage : Option Held) → IsReading stage → (part text : List ℕ) (course : Course) (stage' : Option Held) (round : Round)
      → Takes old new s how stage part text course stage' round → Passes old new None × IsReading stage'
  takes_passes old new s stage reading part text course stage' round (without_memory wanting) = as_passes old new s no_memory tt stage reading part text course stage' round wanting
  takes_passes old new s stage reading part text course stage' round (for_its_use found) =
      as_passes old new s (use_of how.on_command part) (subst (λ on. IsOther (use_of on part)) (sym refuses) (use_other part)) stage reading part text course stage' round found
