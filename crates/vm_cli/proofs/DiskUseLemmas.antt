-- What a crash leaves from the moment at which a disk is found to that at which it comes back.
use Rattle.std.proofs.Common.{◌≡◌, inl, inr, Bool, true, false, [], length, Result, Ok, Err, refl, sym, ap, ◌∙◌, subst, arith}
use Rattle.std.proofs.lemmas.List.{ext_get_or}
use Rattle.vm_types.specs.State.{Seen, State, opened}
use Rattle.vm_disk.specs.Disk as disk
use Rattle.vm_disk.specs.Disk.{Contents, DiskState, IsClean, MayLeave, Medium}
use Rattle.vm_disk.specs.Moments.{Leaves, Throughout}
use Rattle.vm_disk.proofs.MomentLemmas.{clean_sure, weaken}
use Rattle.vm_store.specs.Growth.{Grows}
use Rattle.vm_store.specs.Recovery.{OpensAs}
use Rattle.vm_store.specs.Refused.{IsAtMostSynced}
use Rattle.vm_store.specs.Shown.{Shows}
use Rattle.vm_store.specs.Store.{Holds, disk_of, has_failed}
use Rattle.vm_store.specs.declared.store.Store.{Store}
use Rattle.vm_cli.specs.session.Keeps.{Keeps}
use Rattle.vm_cli.specs.session.Known.{SessionStreams}
use Rattle.vm_cli.specs.session.Served.{IsWholeBy, ServesBy, answers_by, commands_by}
use Rattle.vm_cli.specs.program.Exits.{MayEnd}
use Rattle.vm_cli.specs.program.Exits.MayEnd.{stopping, well, with_refusal}
use Rattle.vm_cli.specs.program.DiskUses.{end_of, end_refused}
use Rattle.vm_cli.specs.session.Planners.{telling}
use Rattle.vm_cli.specs.declared.session.Grouping.{Grouping}
use Rattle.vm_cli.specs.declared.session.Grouping.TheVariants.{Batches, Lines, Planners}
use Rattle.vm_cli.specs.declared.session.Manner.{Manner}
use Rattle.vm_cli.specs.declared.session.OnRefusal.{OnRefusal}
use Rattle.vm_cli.specs.declared.session.OnRefusal.TheVariants.{Ignore, Stop, Tell}
use Rattle.vm_cli.specs.declared.session.ServeFault.{ServeFault}
use Rattle.vm_cli.specs.declared.session.ServeFault.TheVariants as fault
use Rattle.vm_cli.proofs.KindLemmas.{stream_is_whole, stream_keeps}
use Rattle.vm_cli.proofs.KeepLemmas.{Keeping, keeping_none, keeping_quiet}
use Rattle.vm_cli.proofs.PlannerSoundLemmas.{planners_sound}
use Rattle.vm_cli.proofs.SoundLemmas.{batches_sound}
use Rattle.vm_cli.proofs.SessionKeepLemmas.{SoFar, serves_keeps}

-- a crash leaves of a synced disk what it holds
pub clean_leaves : (P : Contents → Type 0) (m : Medium) → IsClean m → P m.contents → Leaves P m
clean_leaves P m clean p left may =
    let count : length left ≡ length m.contents = omega (arith, may.least, may.most, clean_sure m clean) in
    subst P (sym (ext_get_or [] left m.contents count (λ n inside. may.clean n (clean n)))) p

-- what a crash leaves it may leave: what is held
pub leaves_held : (P : Contents → Type 0) (m : Medium) → Leaves P m → P m.contents
leaves_held P m leaves = leaves m.contents record { least = m.within; most = omega arith; clean = λ n clean. refl }

-- a sync makes a crash leave no more
pub synced_leaves : (P : Contents → Type 0) (old m : Medium) → Leaves P old → IsAtMostSynced old m → Leaves P m
synced_leaves P old m leaves (inl same) = subst (Leaves P) (sym same) leaves
synced_leaves P old m leaves (inr synced) = λ left may. leaves left record {
  least = omega (arith, may.least, clean_sure m synced.clean, ap length synced.same, old.within);
  most = omega (arith, may.most, ap length synced.same);
  clean = λ n clean. may.clean n (synced.clean n) ∙ ap (λ (x : Contents). disk.block x n) synced.same;
}

-- a disk that is at most synced keeps what it shows
module _ (old new : DiskState) (seen : Seen) (leaves : Leaves (λ x. Shows x seen) old.now) (synced : Throughout old new (IsAtMostSynced old.now)) where
  pub synced_keeping : Keeping old new (opened seen) [] []
  synced_keeping =
      keeping_quiet old old (opened seen) [] [] (keeping_none old (opened seen) leaves) new
      (weaken old new (IsAtMostSynced old.now) (Leaves (λ x. Shows x seen)) (λ m at_most. synced_leaves (λ x. Shows x seen) old.now m leaves at_most) synced)

-- a session keeps what its commands commit
served_keeps : {D : Type 0} {members : _} (start : DiskState) (s : State) (old new : Store D members) → SoFar start s old [] [] → (members.state (disk_of new)).honest ≡ true → has_failed old ≡ false → Holds old s
    → (grouping : Grouping) (on : Manner) (result : Result Bool ServeFault) (known : SessionStreams) (serves : ServesBy grouping old new s on result known)
    → Keeps start (members.state (disk_of new)) s (commands_by grouping old new s on result known serves) (answers_by grouping old new s on result known serves)
served_keeps start s old new so_far honest sound holds Lines on result known serves = serves_keeps start s old new so_far honest sound holds on result known serves
served_keeps start s old new so_far honest sound holds Batches on result known serves = stream_keeps batches_sound start s old new so_far honest sound holds on result known serves
served_keeps start s old new so_far honest sound holds Planners on result known serves = stream_keeps planners_sound start s old new so_far honest sound holds (telling on) result known serves

-- and so does one on which lines were answered
module _ {D : Type 0} {members : _} (old : DiskState) (first last : Store D members) (opens : (members.state (disk_of first)).honest ≡ true → OpensAs old.now.contents first)
    (synced : (members.state (disk_of first)).honest ≡ true → Throughout old (members.state (disk_of first)) (IsAtMostSynced old.now)) (well : has_failed first ≡ false) (goes : Grows ⊥ (members.state (disk_of first)) (members.state (disk_of last))) where
  session_keeps : (on : Manner) (result : Result Bool ServeFault) (known : SessionStreams) (serves : (s : State) → ServesBy on.grouping first last s on result known)
      → (members.state (disk_of last)).honest ≡ true → (seen : Seen) → Leaves (λ x. Shows x seen) old.now
      → Keeps old (members.state (disk_of last)) (opened seen) (commands_by on.grouping first last (opened seen) on result known (serves (opened seen))) (answers_by on.grouping first last (opened seen) on result known (serves (opened seen)))
  session_keeps on result known serves honest seen leaves =
      let honest_first = goes.earlier honest in
      let at_first = (opens honest_first).stands seen (leaves_held (λ x. Shows x seen) old.now leaves) in
      served_keeps old (opened seen) first last (synced_keeping old (members.state (disk_of first)) seen leaves (synced honest_first)) honest well
      at_first.holds on.grouping on result known (serves (opened seen))

  -- also on the disk that the store gives back
  pub session_kept : (on : Manner) (result : Result Bool ServeFault) (known : SessionStreams) (serves : (s : State) → ServesBy on.grouping first last s on result known)
      → (new : D) → new ≡ disk_of last → (members.state new).honest ≡ true → (seen : Seen)
      → Leaves (λ x. Shows x seen) old.now
      → Keeps old (members.state new) (opened seen) (commands_by on.grouping first last (opened seen) on result known (serves (opened seen))) (answers_by on.grouping first last (opened seen) on result known (serves (opened seen)))
  session_kept on result known serves new given honest seen leaves =
      subst (λ d. Keeps old (members.state d) (opened seen) (commands_by on.grouping first last (opened seen) on result known (serves (opened seen))) (answers_by on.grouping first last (opened seen) on result known (serves (opened seen)))) (sym given)
      (session_keeps on result known serves (subst (λ d. (members.state d).honest ≡ true) given honest) seen leaves)

-- how the program may end after a session in which a line was refused
after_refusal : (on : OnRefusal) → MayEnd on (end_refused on)
after_refusal Ignore = well refl
after_refusal Tell = with_refusal refl (λ e. cc)
after_refusal Stop = with_refusal refl (λ e. cc)

-- the batches of a session are whole
pub served_whole : {D : Type 0} {members : _} (first last : Store D members) (s : State) (grouping : Grouping) (on : Manner) (result : Result Bool ServeFault) (known : SessionStreams)
    → (serves : ServesBy grouping first last s on result known) → IsWholeBy grouping first last s on result known serves
served_whole first last s Lines on result known serves = tt
served_whole first last s Batches on result known serves = stream_is_whole batches_sound on first last s result known serves
served_whole first last s Planners on result known serves = stream_is_whole planners_sound (telling on) first last s result known serves

-- a refusal ends a session only where it is to
refused_stops : {D : Type 0} {members : _} (first last : Store D members) (s : State) (grouping : Grouping) (on : Manner) (known : SessionStreams) → ServesBy grouping first last s on (Err fault.Refused) known
    → on.on_refusal ≡ Stop
refused_stops first last s Lines on known serves = serves.served.stop
refused_stops first last s Batches on known serves = serves.served.stop
refused_stops first last s Planners on known serves = let bad : Tell ≡ Stop = serves.served.stop in cc

-- how the program may end after a session
pub may_end : {D : Type 0} {members : _} (first last : Store D members) (s : State) (on : Manner) (result : Result Bool ServeFault) (known : SessionStreams) → ServesBy on.grouping first last s on result known
    → MayEnd on.on_refusal (end_of on.on_refusal result)
may_end first last s on (Ok false) known serves = well refl
may_end first last s on (Ok true) known serves = after_refusal on.on_refusal
may_end first last s on (Err fault.Read) known serves = stopping refl
may_end first last s on (Err fault.Unsure) known serves = stopping refl
may_end first last s on (Err fault.Write) known serves = stopping refl
may_end first last s on (Err fault.Store) known serves = stopping refl
may_end first last s on (Err fault.Refused) known serves =
    with_refusal refl (λ ignored. let bad : Ignore ≡ Stop = sym ignored ∙ refused_stops first last s on.grouping on known serves in cc)
