-- What a run of the program does to the files of its place, from what its parts did.
use Rattle.std.proofs.Common.{◌≡◌, ◌≢◌, ◌≤◌, ℕ, Bool, true, false, List, [], Option, Some, refl, sym, ◌∙◌, subst, inl, inr, arith}
use Rattle.std.proofs.lemmas.Bool.{cases_lt}
use Rattle.std.proofs.lemmas.Slice.Eq.{bytes_eq-Decides}
use Rattle.std.specs.Str.{bytes_eq}
use Rattle.clap.specs.Words.{IsAmong, Text, fault_of}
use Rattle.clap.specs.declared.error.kind.ErrorKind.{ErrorKind}
use Rattle.vm_types.specs.State.{Seen, opened}
use Rattle.vm_disk.specs.Cached.{cached_state, inner_of}
use Rattle.vm_disk.specs.Delayed.{IsIdleOver, delayed_state, inner_of as below}
use Rattle.vm_disk.specs.Disk.{IsClean, DiskState, Medium}
use Rattle.vm_disk.specs.Moments.{Throughout}
use Rattle.vm_disk.specs.declared.cached.CachedDisk.{CachedDisk}
use Rattle.vm_disk.specs.declared.delayed.DelayedDisk.{DelayedDisk}
use Rattle.vm_disk.specs.declared.disk.Disk.{Ghosts}
use Rattle.vm_disk.proofs.MomentLemmas.{at_end}
use Rattle.vm_store.specs.NewStore.{IsBadSize}
use Rattle.vm_store.specs.Refused.{IsAtMostSynced}
use Rattle.vm_store.specs.Shown.{Shows}
use Rattle.vm_cli.specs.program.CachedLines.{Disks, buffer_for, IsNotServed, IsServed, answers_told, commands_told}
use Rattle.vm_cli.specs.program.DelayedLines.{IsRefusedLate, IsServedLate, answers_late, commands_late}
use Rattle.vm_cli.specs.program.CachedLines.IsNotServed.{refused_over_cache, refused_over_disk}
use Rattle.vm_cli.specs.program.CachedLines.IsServed.{served_over_cache, served_over_disk}
use Rattle.vm_cli.specs.program.DelayedLines.IsRefusedLate.{refused_itself, refused_late}
use Rattle.vm_cli.specs.program.DelayedLines.IsServedLate.{served_itself, served_late}
use Rattle.vm_cli.specs.program.Exits.{IsJob, Report, Tells}
use Rattle.vm_cli.specs.session.Keeps.{Keeps}
use Rattle.vm_cli.specs.session.Known.{SessionStreams, between}
use Rattle.vm_cli.specs.session.Served.{answers_by, commands_by}
use Rattle.vm_cli.specs.program.Files.{AnswersOrDeclines, AsksToWrite, Checks, CopiesOrDeclines, Does, DrawsOrDeclines, KeepsAll, Makes, OpensFor}
use Rattle.vm_cli.specs.program.Files.DoneOrStopped.{done, stopped}
use Rattle.vm_cli.specs.program.Places.{IsUnused, KeepsOthers, OpensNone, OpensOne, PlaceState, PlaceUse}
use Rattle.vm_cli.specs.program.Runs.{IsLook, LooksOnly, ServesIn, ServesWords}
use Rattle.vm_cli.specs.program.Openings.{HasRefused}
use Rattle.vm_cli.specs.declared.program.opening.NoStore.{NoStore}
use Rattle.vm_cli.specs.program.Words.{Wanted, altctl}
use Rattle.vm_cli.specs.program.Words.Wanted.{check, copy, create, do_lines, draw, run}
use Rattle.vm_cli.specs.declared.program.Exit.{Exit}
use Rattle.vm_cli.specs.declared.program.task.InMemory.{InMemory}
use Rattle.vm_cli.specs.declared.program.Exit.TheVariants.{Done, Refused, Stopped}
use Rattle.vm_cli.specs.declared.session.Manner.{Manner}
use Rattle.vm_cli.specs.declared.session.OnCommand.{OnCommand}
use Rattle.vm_cli.specs.declared.session.OnCommand.TheVariants.{Refuse}
use Rattle.vm_cli.proofs.CachingLemmas.{keeps_below, refused_below, refused_there}
use Rattle.vm_cli.proofs.DelayingLemmas.{keeps_late, refused_late as delayed_refused}
use Rattle.vm_cli.proofs.DiskUseLemmas.{clean_leaves}

-- a disk that was at most synced holds what it held
pub synced_alone : (old new : DiskState) → Throughout old new (IsAtMostSynced old.now) → new.now.contents ≡ old.now.contents
synced_alone old new moments = elim (at_end old new (IsAtMostSynced old.now) moments) [
  | inl same ↦ rw same refl
  | inr synced ↦ synced.same
]

-- where a size is not bad there are blocks enough for a store
pub enough_blocks : (blocks available count : ℕ) → (IsBadSize blocks available → ⊥) → count ≡ available → 64 ≤ count
enough_blocks blocks available count fine same = elim (cases_lt blocks 64) [
  | inl few ↦ absurd (fine (inl few))
  | inr enough ↦ elim (cases_lt available blocks) [
    | inl small ↦ absurd (fine (inr (inr small)))
    | inr within ↦ omega (arith, same, enough, within)
  ]
]

-- a refusal, or a stop on the way to it, is not that all was done
pub not_done : (exit : Exit) (before after : Option (List ℕ)) (text : List ℕ) → Tells Refused exit (between before after) text → exit ≢ Done
not_done exit before after text (inl (is, written)) e = cc
not_done exit before after text (inr (is, begun)) e = cc

-- where the others stay, and the one does, all do
pub keeps_all : (name : List ℕ) (old new : PlaceState) → KeepsOthers name old new → new.files name ≡ old.files name → KeepsAll old new
keeps_all name old new others same other = go (bytes_eq other name) refl
  where
    go : (b : Bool) → bytes_eq other name ≡ b → new.files other ≡ old.files other
    go true e = let is : other ≡ name = (bytes_eq-Decides other name).0 e in rw is same
    go false e = others other (λ is. let holds = (bytes_eq-Decides other name).1 is in cc)

-- words ask for one job
pub one_job : (words : List Text) (job other : Wanted) → IsJob words job → IsJob words other → other ≡ job
one_job words job other is also = let same : Some other ≡ Some job = sym also.1 ∙ is.1 in cc

-- words ask for this job, and where it only looks at a file none was asked for to be written
pub looks_for : {P : Type 0} (place : PlaceUse P) (words : List Text) (job : Wanted) → IsJob words job
    → (IsLook job → OpensNone place) → LooksOnly place words
looks_for place words job asked reads = record {
  looks = λ other is looks. reads (subst IsLook (one_job words job other asked is) looks);
  none = λ no. absurd (no job asked);
}

-- no file was asked for to be written where commands are refused
pub looks_with : (on : OnCommand) (asked asked' : ℕ) → AsksToWrite on asked asked' → on ≡ Refuse → asked' ≡ asked
looks_with Refuse asked asked' asks is = asks
looks_with on asked asked' asks is = cc

-- words that ask for a job have no fault
pub no_fault : (kind : ErrorKind) (words : List Text) (job : Wanted) → IsJob words job → IsAmong kind (fault_of altctl words) → ⊥
no_fault kind words job asked among = subst (IsAmong kind) asked.0 among

-- lines that were answered over a disk, or over a late disk over it, whose state is that of `delayed_state`
module _ {D : Type 0} (members : Ghosts D) (late : Ghosts (DelayedDisk D members)) (same : (disk : DelayedDisk D members) → late.state disk ≡ delayed_state members.state disk)
    (buffer : ℕ) (on : Manner) (found back : D) (exit : Exit) (known : SessionStreams) (served : IsServedLate members late buffer on found back exit known) (honest : (members.state back).honest ≡ true) where
  -- the late disk was honest at its end
  honest_above : (last : DelayedDisk D members) → back ≡ below last → (late.state last).honest ≡ true
  honest_above last given = rw (same last) (subst (λ (d : D). (members.state d).honest ≡ true) given honest)

  -- the disk was honest when it was found
  pub was_honest_late : (members.state found).honest ≡ true
  was_honest_late = go served
    where
      go : IsServedLate members late buffer on found back exit known → (members.state found).honest ≡ true
      go (served_itself served) = served.found.earlier (served.goes.earlier honest)
      go (served_late over) =
          let first : (late.state over.first).honest ≡ true = over.done.found.earlier (over.done.goes.earlier (honest_above over.last over.given_back)) in
          let under : (members.state (below over.first)).honest ≡ true = rw (same over.first) at first in
          subst (λ (d : D). (members.state d).honest ≡ true) over.idle.inner under

  -- what a crash leaves at each moment, the commands so far keep
  pub kept_told_late : (members.state found).past ≡ [] → IsClean (members.state found).now → (seen : Seen) → Shows (members.state found).now.contents seen
      → Keeps (members.state found) (members.state back) (opened seen) (commands_late members late served (opened seen)) (answers_late members late served (opened seen))
  kept_told_late fresh clean seen shows = go served
    where
      go : (served : IsServedLate members late buffer on found back exit known)
          → Keeps (members.state found) (members.state back) (opened seen) (commands_late members late served (opened seen)) (answers_late members late served (opened seen))
      go (served_itself served) = served.kept honest seen (clean_leaves (λ x. Shows x seen) (members.state found).now clean shows)
      go (served_late over) =
          let commands = commands_by on.grouping over.done.first over.done.last (opened seen) on over.done.served known (over.done.serves (opened seen)) in
          let answers = answers_by on.grouping over.done.first over.done.last (opened seen) on over.done.served known (over.done.serves (opened seen)) in
          let there = honest_above over.last over.given_back in
          let now : (late.state over.first).now ≡ (members.state found).now = rw (same over.first) over.idle.now in
          let above : Keeps (late.state over.first) (late.state over.last) (opened seen) commands answers =
          over.done.kept there seen (clean_leaves (λ x. Shows x seen) (late.state over.first).now
          (subst (λ (m : Medium). IsClean m) (sym now) clean) (subst (λ (m : Medium). Shows m.contents seen) (sym now) shows)) in
          let kept : Keeps (delayed_state members.state over.first) (delayed_state members.state over.last) (opened seen) commands answers =
          subst (λ (t : DiskState). Keeps (delayed_state members.state over.first) t (opened seen) commands answers) (same over.last)
          (subst (λ (t : DiskState). Keeps t (late.state over.last) (opened seen) commands answers) (same over.first) above) in
          let idle : IsIdleOver members.state (below over.first) buffer over.first = subst (λ (d : D). IsIdleOver members.state d buffer over.first) (sym over.idle.inner) over.idle in
          let new : (members.state (below over.first)).past ≡ [] = subst (λ (d : D). (members.state d).past ≡ []) (sym over.idle.inner) fresh in
          let under = keeps_late members over.first over.last buffer idle new over.follows (opened seen) commands answers (rw (same over.last) at there) kept in
          subst (λ (d : D). Keeps (members.state found) (members.state d) (opened seen) commands answers) (sym over.given_back)
          (subst (λ (d : D). Keeps (members.state d) (members.state (below over.last)) (opened seen) commands answers) over.idle.inner under)

-- a disk that was refused, with a late disk over it or without, was so itself
pub refused_told_late : {D : Type 0} (members : Ghosts D) (late : Ghosts (DelayedDisk D members)) → ((disk : DelayedDisk D members) → late.state disk ≡ delayed_state members.state disk)
    → (buffer : ℕ) (found back : D) (why : NoStore) → (members.state found).past ≡ [] → ((members.state found).honest ≡ true → IsClean (members.state found).now)
    → IsRefusedLate members late buffer found back why → HasRefused (members.state found) (members.state back) why
refused_told_late members late same_late buffer found back why fresh clean (refused_itself refused) = refused
refused_told_late {D} members late same_late buffer found back why fresh clean (refused_late over) =
    let idle : IsIdleOver members.state (below over.first) buffer over.first = subst (λ (d : D). IsIdleOver members.state d buffer over.first) (sym over.idle.inner) over.idle in
    let new : (members.state (below over.first)).past ≡ [] = subst (λ (d : D). (members.state d).past ≡ []) (sym over.idle.inner) fresh in
    let was : (members.state (below over.first)).honest ≡ true → IsClean (members.state (below over.first)).now =
    subst (λ (d : D). (members.state d).honest ≡ true → IsClean (members.state d).now) (sym over.idle.inner) clean in
    let refused : HasRefused (delayed_state members.state over.first) (delayed_state members.state over.last) why =
    subst (λ (t : DiskState). HasRefused (delayed_state members.state over.first) t why) (same_late over.last)
    (subst (λ (t : DiskState). HasRefused t (late.state over.last) why) (same_late over.first) over.done) in
    refused_there members found back (below over.first) (below over.last) why over.idle.inner over.given_back
    (delayed_refused members over.first over.last buffer idle new over.follows why was refused)

-- a disk of which a cache was made, and the cache: its state is that of the disk but for its reads
module _ {D : Type 0} (members : Ghosts D) (cached : Ghosts (CachedDisk D members)) (same : (disk : CachedDisk D members) → cached.state disk ≡ cached_state members.state disk)
    (found : D) (first : CachedDisk D members) (over : inner_of first ≡ found) where
  fresh_above : (members.state found).past ≡ [] → (cached.state first).past ≡ []
  fresh_above fresh = rw (same first) (subst (λ (d : D). (members.state d).past ≡ []) (sym over) fresh)

  clean_above : IsClean (members.state found).now → IsClean (cached.state first).now
  clean_above clean = rw (same first) (subst (λ (d : D). IsClean (members.state d).now) (sym over) clean)

  shows_above : (seen : Seen) → Shows (members.state found).now.contents seen → Shows (cached.state first).now.contents seen
  shows_above seen shows = rw (same first) (subst (λ (d : D). Shows (members.state d).now.contents seen) (sym over) shows)

  honest_below : (cached.state first).honest ≡ true → (members.state found).honest ≡ true
  honest_below honest = let under : (members.state (inner_of first)).honest ≡ true = rw (same first) at honest in
      subst (λ (d : D). (members.state d).honest ≡ true) over under

-- the same where a cache may lie between
module _ {D : Type 0} (members : Ghosts D) (cached : Ghosts (CachedDisk D members)) (late : Ghosts (DelayedDisk D members)) (late_cached : Ghosts (DelayedDisk (CachedDisk D members) cached))
    (same : (disk : CachedDisk D members) → cached.state disk ≡ cached_state members.state disk)
    (same_late : (disk : DelayedDisk D members) → late.state disk ≡ delayed_state members.state disk)
    (same_above : (disk : DelayedDisk (CachedDisk D members) cached) → late_cached.state disk ≡ delayed_state cached.state disk)
    (in_memory : InMemory) (found back : D) where
  module _ (on : Manner) (exit : Exit) (known : SessionStreams)
      (served : IsServed members cached late late_cached in_memory on found back exit known) (honest : (members.state back).honest ≡ true) where
    -- the cache was honest at its end
    cache_honest : (last : CachedDisk D members) → back ≡ inner_of last → (cached.state last).honest ≡ true
    cache_honest last given = rw (same last) (subst (λ (d : D). (members.state d).honest ≡ true) given honest)

    -- the disk was honest when it was found
    pub was_honest : (members.state found).honest ≡ true
    was_honest = go served
      where
        go : IsServed members cached late late_cached in_memory on found back exit known → (members.state found).honest ≡ true
        go (served_over_disk served) = was_honest_late members late same_late (buffer_for in_memory.buffer (members.state found).blocks) on found back exit known served honest
        go (served_over_cache over) =
            honest_below members cached same found over.first over.empty.inner
            (was_honest_late cached late_cached same_above (buffer_for in_memory.buffer (members.state found).blocks) on over.first over.last exit known over.done (cache_honest over.last over.given_back))

    -- what a crash leaves at each moment, the commands so far keep
    pub kept_told : (members.state found).past ≡ [] → IsClean (members.state found).now → (seen : Seen) → Shows (members.state found).now.contents seen
        → Keeps (members.state found) (members.state back) (opened seen) (commands_told members cached late late_cached in_memory served (opened seen)) (answers_told members cached late late_cached in_memory served (opened seen))
    kept_told fresh clean seen shows = go served
      where
        go : (served : IsServed members cached late late_cached in_memory on found back exit known)
            → Keeps (members.state found) (members.state back) (opened seen) (commands_told members cached late late_cached in_memory served (opened seen)) (answers_told members cached late late_cached in_memory served (opened seen))
        go (served_over_disk served) = kept_told_late members late same_late (buffer_for in_memory.buffer (members.state found).blocks) on found back exit known served honest fresh clean seen shows
        go (served_over_cache over) =
            let commands = commands_late cached late_cached over.done (opened seen) in
            let answers = answers_late cached late_cached over.done (opened seen) in
            let above : Keeps (cached.state over.first) (cached.state over.last) (opened seen) commands answers =
            kept_told_late cached late_cached same_above (buffer_for in_memory.buffer (members.state found).blocks) on over.first over.last exit known over.done (cache_honest over.last over.given_back)
            (fresh_above members cached same found over.first over.empty.inner fresh) (clean_above members cached same found over.first over.empty.inner clean)
            seen (shows_above members cached same found over.first over.empty.inner seen shows) in
            let kept : Keeps (cached_state members.state over.first) (cached_state members.state over.last) (opened seen) commands answers =
            subst (λ (t : DiskState). Keeps (cached_state members.state over.first) t (opened seen) commands answers) (same over.last)
            (subst (λ (t : DiskState). Keeps t (cached.state over.last) (opened seen) commands answers) (same over.first) above) in
            let below = keeps_below members over.first over.last (opened seen) commands answers kept in
            subst (λ (d : D). Keeps (members.state found) (members.state d) (opened seen) commands answers) (sym over.given_back)
            (subst (λ (d : D). Keeps (members.state d) (members.state (inner_of over.last)) (opened seen) commands answers) over.empty.inner below)

  -- a disk that was refused, with something over it or without, was so itself
  pub refused_told : (why : NoStore) → (members.state found).past ≡ [] → ((members.state found).honest ≡ true → IsClean (members.state found).now)
      → IsNotServed members cached late late_cached in_memory found back why → HasRefused (members.state found) (members.state back) why
  refused_told why fresh clean (refused_over_disk refused) = refused_told_late members late same_late (buffer_for in_memory.buffer (members.state found).blocks) found back why fresh clean refused
  refused_told why fresh clean (refused_over_cache over) =
      let above : HasRefused (cached.state over.first) (cached.state over.last) why =
      refused_told_late cached late_cached same_above (buffer_for in_memory.buffer (members.state found).blocks) over.first over.last why (fresh_above members cached same found over.first over.empty.inner fresh)
      (λ honest. clean_above members cached same found over.first over.empty.inner (clean (honest_below members cached same found over.first over.empty.inner honest))) over.done in
      let shown : HasRefused (cached_state members.state over.first) (cached_state members.state over.last) why =
      subst (λ (t : DiskState). HasRefused (cached_state members.state over.first) t why) (same over.last)
      (subst (λ (t : DiskState). HasRefused t (cached.state over.last) why) (same over.first) above) in
      refused_there members found back (inner_of over.first) (inner_of over.last) why over.empty.inner over.given_back
      (refused_below members over.first over.last why shown)

module _ {P D : Type 0} (over : Disks D) (place : PlaceUse P) (report : Report) (words : List Text) (input : Option (List ℕ)) where
  -- what was done
  abbrev Did : Type 0
  Did = Does over place report words input

  -- a store was to be made
  pub did_create : (name : Text) (blocks : ℕ) → IsJob words (create name blocks) → OpensOne place → Makes over.own place report name blocks → Did
  did_create name blocks job opens makes = record {
    creates = λ other size asked. let same : create other size ≡ create name blocks = one_job words (create name blocks) (create other size) job asked in
        let name_is : other ≡ name = cc in
        let size_is : size ≡ blocks = cc in
        done (opens, rw (name_is, size_is) makes);
    runs = λ other in_memory on asked. let same : run other in_memory on ≡ create name blocks = one_job words (create name blocks) (run other in_memory on) job asked in absurd (cc);
    does = λ other lines in_memory on asked. let same : do_lines other lines in_memory on ≡ create name blocks = one_job words (create name blocks) (do_lines other lines in_memory on) job asked in absurd (cc);
    checks = λ other asked. let same : check other ≡ create name blocks = one_job words (create name blocks) (check other) job asked in absurd (cc);
    draws = λ other asked. let same : draw other ≡ create name blocks = one_job words (create name blocks) (draw other) job asked in absurd (cc);
    copies = λ other to asked wanted. let same : copy other to asked ≡ create name blocks = one_job words (create name blocks) (copy other to asked) job wanted in absurd (cc);
    none = λ no. absurd (no (create name blocks) job);
  }

  -- lines were to be answered
  pub did_run : (name : Text) (in_memory : InMemory) (on : Manner) → IsJob words (run name in_memory on) → OpensFor place on.on_command
      → AnswersOrDeclines over place report name in_memory on input → Did
  did_run name in_memory on job opens answered = record {
    creates = λ other size asked. let same : create other size ≡ run name in_memory on = one_job words (run name in_memory on) (create other size) job asked in absurd (cc);
    runs = λ other size refusal asked. let same : run other size refusal ≡ run name in_memory on = one_job words (run name in_memory on) (run other size refusal) job asked in
        let name_is : other ≡ name = cc in
        let size_is : size ≡ in_memory = cc in
        let on_is : refusal ≡ on = cc in
        done (rw on_is opens, rw (name_is, size_is, on_is) answered);
    does = λ other lines size refusal asked. let same : do_lines other lines size refusal ≡ run name in_memory on = one_job words (run name in_memory on) (do_lines other lines size refusal) job asked in absurd (cc);
    checks = λ other asked. let same : check other ≡ run name in_memory on = one_job words (run name in_memory on) (check other) job asked in absurd (cc);
    draws = λ other asked. let same : draw other ≡ run name in_memory on = one_job words (run name in_memory on) (draw other) job asked in absurd (cc);
    copies = λ other to asked wanted. let same : copy other to asked ≡ run name in_memory on = one_job words (run name in_memory on) (copy other to asked) job wanted in absurd (cc);
    none = λ no. absurd (no (run name in_memory on) job);
  }

  -- lines that were given were to be answered
  pub did_lines : (name : Text) (lines : List ℕ) (in_memory : InMemory) (on : Manner) → IsJob words (do_lines name lines in_memory on) → OpensFor place on.on_command
      → AnswersOrDeclines over place report name in_memory on (Some lines) → Did
  did_lines name lines in_memory on job opens answered = record {
    creates = λ other size asked. let same : create other size ≡ do_lines name lines in_memory on = one_job words (do_lines name lines in_memory on) (create other size) job asked in absurd (cc);
    runs = λ other size refusal asked. let same : run other size refusal ≡ do_lines name lines in_memory on = one_job words (do_lines name lines in_memory on) (run other size refusal) job asked in absurd (cc);
    does = λ other given size refusal asked. let same : do_lines other given size refusal ≡ do_lines name lines in_memory on = one_job words (do_lines name lines in_memory on) (do_lines other given size refusal) job asked in
        let name_is : other ≡ name = cc in
        let lines_are : given ≡ lines = cc in
        let size_is : size ≡ in_memory = cc in
        let on_is : refusal ≡ on = cc in
        done (rw on_is opens, rw (name_is, lines_are, size_is, on_is) answered);
    checks = λ other asked. let same : check other ≡ do_lines name lines in_memory on = one_job words (do_lines name lines in_memory on) (check other) job asked in absurd (cc);
    draws = λ other asked. let same : draw other ≡ do_lines name lines in_memory on = one_job words (do_lines name lines in_memory on) (draw other) job asked in absurd (cc);
    copies = λ other to asked wanted. let same : copy other to asked ≡ do_lines name lines in_memory on = one_job words (do_lines name lines in_memory on) (copy other to asked) job wanted in absurd (cc);
    none = λ no. absurd (no (do_lines name lines in_memory on) job);
  }

  -- a store was to be checked
  pub did_check : (name : Text) → IsJob words (check name) → OpensNone place → Checks over.own place report name → Did
  did_check name job reads checked = record {
    creates = λ other size asked. let same : create other size ≡ check name = one_job words (check name) (create other size) job asked in absurd (cc);
    runs = λ other in_memory on asked. let same : run other in_memory on ≡ check name = one_job words (check name) (run other in_memory on) job asked in absurd (cc);
    does = λ other lines in_memory on asked. let same : do_lines other lines in_memory on ≡ check name = one_job words (check name) (do_lines other lines in_memory on) job asked in absurd (cc);
    checks = λ other asked. let same : check other ≡ check name = one_job words (check name) (check other) job asked in
        let name_is : other ≡ name = cc in
        done (reads, rw name_is checked);
    draws = λ other asked. let same : draw other ≡ check name = one_job words (check name) (draw other) job asked in absurd (cc);
    copies = λ other to asked wanted. let same : copy other to asked ≡ check name = one_job words (check name) (copy other to asked) job wanted in absurd (cc);
    none = λ no. absurd (no (check name) job);
  }

  -- a tree was to be drawn
  pub did_draw : (name : Text) → IsJob words (draw name) → OpensNone place → DrawsOrDeclines over.own place report name → Did
  did_draw name job reads drawn = record {
    creates = λ other size asked. let same : create other size ≡ draw name = one_job words (draw name) (create other size) job asked in absurd (cc);
    runs = λ other in_memory on asked. let same : run other in_memory on ≡ draw name = one_job words (draw name) (run other in_memory on) job asked in absurd (cc);
    does = λ other lines in_memory on asked. let same : do_lines other lines in_memory on ≡ draw name = one_job words (draw name) (do_lines other lines in_memory on) job asked in absurd (cc);
    draws = λ other asked. let same : draw other ≡ draw name = one_job words (draw name) (draw other) job asked in
        let name_is : other ≡ name = cc in
        done (reads, rw name_is drawn);
    checks = λ other asked. let same : check other ≡ draw name = one_job words (draw name) (check other) job asked in absurd (cc);
    copies = λ other to asked wanted. let same : copy other to asked ≡ draw name = one_job words (draw name) (copy other to asked) job wanted in absurd (cc);
    none = λ no. absurd (no (draw name) job);
  }

  -- a store was to be copied
  pub did_copy : (name to : Text) (blocks : Option ℕ) → IsJob words (copy name to blocks)
      → CopiesOrDeclines over.own place report name to blocks → Did
  did_copy name to blocks job copied = record {
    creates = λ other size asked. let same : create other size ≡ copy name to blocks = one_job words (copy name to blocks) (create other size) job asked in absurd (cc);
    runs = λ other in_memory on asked. let same : run other in_memory on ≡ copy name to blocks = one_job words (copy name to blocks) (run other in_memory on) job asked in absurd (cc);
    does = λ other lines in_memory on asked. let same : do_lines other lines in_memory on ≡ copy name to blocks = one_job words (copy name to blocks) (do_lines other lines in_memory on) job asked in absurd (cc);
    checks = λ other asked. let same : check other ≡ copy name to blocks = one_job words (copy name to blocks) (check other) job asked in absurd (cc);
    draws = λ other asked. let same : draw other ≡ copy name to blocks = one_job words (copy name to blocks) (draw other) job asked in absurd (cc);
    copies = λ other aim size asked. let same : copy other aim size ≡ copy name to blocks = one_job words (copy name to blocks) (copy other aim size) job asked in
        let name_is : other ≡ name = cc in
        let to_is : aim ≡ to = cc in
        let size_is : size ≡ blocks = cc in
        done (rw (name_is, to_is, size_is) copied);
    none = λ no. absurd (no (copy name to blocks) job);
  }

  -- no call of the place was made, and it stopped, where the words ask for something
  pub did_nothing : IsUnused place → ((job : Wanted) → IsJob words job → report.exit ≡ Stopped) → Did
  did_nothing unused stops = record {
    creates = λ name blocks asked. stopped (stops (create name blocks) asked) unused;
    runs = λ name in_memory on asked. stopped (stops (run name in_memory on) asked) unused;
    does = λ name lines in_memory on asked. stopped (stops (do_lines name lines in_memory on) asked) unused;
    checks = λ name asked. stopped (stops (check name) asked) unused;
    draws = λ name asked. stopped (stops (draw name) asked) unused;
    copies = λ name to asked wanted. stopped (stops (copy name to asked) wanted) unused;
    none = λ no. unused;
  }

-- what holds on any place, by the job that the words ask for
module _ {P D : Type 0} (over : Disks D) (place : PlaceUse P) (report : Report) (words : List Text) (input : Option (List ℕ)) where
  -- lines were to be answered
  pub served_run : (name : Text) (in_memory : InMemory) (on : Manner) → IsJob words (run name in_memory on)
      → ServesIn over place report name in_memory on input → ServesWords over place report words input
  served_run name in_memory on job so = record {
    runs = λ other size refusal asked.
        let same : run other size refusal ≡ run name in_memory on = one_job words (run name in_memory on) (run other size refusal) job asked in
        let name_is : other ≡ name = cc in
        let size_is : size ≡ in_memory = cc in
        let on_is : refusal ≡ on = cc in
        done (rw (name_is, size_is, on_is) so);
    does = λ other lines size refusal asked. let same : do_lines other lines size refusal ≡ run name in_memory on = one_job words (run name in_memory on) (do_lines other lines size refusal) job asked in absurd (cc);
  }

  -- lines that were given were
  pub served_lines : (name : Text) (lines : List ℕ) (in_memory : InMemory) (on : Manner) → IsJob words (do_lines name lines in_memory on)
      → ServesIn over place report name in_memory on (Some lines) → ServesWords over place report words input
  served_lines name lines in_memory on job so = record {
    runs = λ other size refusal asked. let same : run other size refusal ≡ do_lines name lines in_memory on = one_job words (do_lines name lines in_memory on) (run other size refusal) job asked in absurd (cc);
    does = λ other given size refusal asked.
        let same : do_lines other given size refusal ≡ do_lines name lines in_memory on = one_job words (do_lines name lines in_memory on) (do_lines other given size refusal) job asked in
        let name_is : other ≡ name = cc in
        let lines_are : given ≡ lines = cc in
        let size_is : size ≡ in_memory = cc in
        let on_is : refusal ≡ on = cc in
        done (rw (name_is, lines_are, size_is, on_is) so);
  }

  -- no lines were to be answered, or the program stopped before
  pub served_none : ((name : Text) (in_memory : InMemory) (on : Manner) → IsJob words (run name in_memory on) → (report.exit ≡ Stopped) × IsUnused place)
      → ((name : Text) (lines : List ℕ) (in_memory : InMemory) (on : Manner) → IsJob words (do_lines name lines in_memory on) → (report.exit ≡ Stopped) × IsUnused place)
      → ServesWords over place report words input
  served_none runs does = record {
    runs = λ name in_memory on asked. let so = runs name in_memory on asked in stopped so.0 so.1;
    does = λ name lines in_memory on asked. let so = does name lines in_memory on asked in stopped so.0 so.1;
  }

  -- words that ask for something else
  pub served_other : (job : Wanted) → IsJob words job → ((name : Text) (in_memory : InMemory) (on : Manner) → run name in_memory on ≡ job → ⊥)
      → ((name : Text) (lines : List ℕ) (in_memory : InMemory) (on : Manner) → do_lines name lines in_memory on ≡ job → ⊥)
      → ServesWords over place report words input
  served_other job asked no_run no_lines = served_none
      (λ name in_memory on other. absurd (no_run name in_memory on (one_job words job (run name in_memory on) asked other)))
      (λ name lines in_memory on other. absurd (no_lines name lines in_memory on (one_job words job (do_lines name lines in_memory on) asked other)))
