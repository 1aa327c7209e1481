-- What is promised of each command, from what is known where its function returns, and from there to what `apply` does.
use Rattle.std.proofs.Common.{◌≡◌, ◌≢◌, ◌⊎◌, inl, ◌↔◌, ◌≤◌, ℕ, Bool, false, List, Result, Ok, Err, OnErr, IsTrue, refl, sym, ap, subst, ◌∙◌, rules}
use Rattle.vm_types.specs.State.{State, outcome}
use Rattle.vm_types.specs.declared.answer.Answer.{Answer}
use Rattle.vm_types.specs.declared.answer.Answer.TheVariants.{Done}
use Rattle.vm_types.specs.declared.command.Command.{Command}
use Rattle.vm_types.specs.declared.command.Command.TheVariants.{Commit, Grow, Merge, Post, Put, Reclaim, Remove, Rollback}
use Rattle.vm_types.specs.declared.command.Side.{Side}
use Rattle.vm_types.specs.declared.key.Key.{Key}
use Rattle.vm_types.specs.declared.refusal.Refusal.{Refusal}
use Rattle.vm_types.specs.declared.refusal.Refusal.TheVariants.{Device, Failed, Full, Memory}
use Rattle.vm_disk.proofs.GoesLemmas.{goes_nowhere}
use Rattle.vm_store.specs.Answers.{ChangesEntriesAlone, IsEarly, IsGrow, IsGrowDue, TakesMemory}
use Rattle.vm_store.specs.Commands.{CarriesOut, GrowsAsAsked, Performs}
use Rattle.vm_store.specs.Store.{EarlyKeeps, EarlyLeavesDisk, FirstReads, FullAgain, FullAtOnce, FullLeavesSpare, GoesOn, GrowsOn, Holds, IsCarriedOut, IsHonest, IsNoLonger, KeepsFree, LeavesBlocks, MarksAll, MarksOnce, NewAreFree, ReadsAlone, ReadsFew, ReadsOnly, RollsBack, SpareIsFree, TakesUpTo, WritesCommit, disk_of, entries_of, has_failed, held_of}
use Rattle.vm_store.specs.declared.store.Store.{Store}
use Rattle.vm_store.proofs.CarryLemmas.{stayed}
use Rattle.vm_store.proofs.FirstLemmas.{done_or_device}
use Rattle.vm_store.proofs.LongerLemmas.{goes_grow}
use Rattle.vm_store.proofs.QueryLemmas.{same_store}
use Rattle.vm_store.proofs.RunLemmas.{answers_on, no_failure}
use Rattle.vm_store.proofs.VersionLemmas.{entries_few, entries_keep, entries_once, entries_read, entries_unmarked, keeps_on, when_ok}

same_grow : (b c : ℕ) → Grow b ≡ Grow c → b ≡ c
same_grow b c is = cc is

-- no early refusal is a fault of the device
never_early : (a : Result Answer Refusal) (refusal : Refusal) → a ≡ Err refusal → a ≡ Err Device → IsEarly refusal → ⊥
never_early a refusal is device early = let same : refusal ≡ Device = cc (is, device) in subst IsEarly same early

-- nor is Full
never_full : (a : Result Answer Refusal) → a ≡ Err Full → a ≡ Err Device → ⊥
never_full a full device = let same : Full ≡ Device = cc (full, device) in cc

module _ {D : Type 0} {members : _} where
  -- a command that is no Grow
  pub not_grown : (old new : Store D members) (c : Command) (a : Result Answer Refusal) → (IsGrow c → ⊥) → GoesOn (a ≡ Err Device) old new → GrowsAsAsked old new c a
  not_grown old new c a fixed goes = record {
    as_long = λ no. goes.same_blocks;
    no_more = λ blocks is. absurd (fixed (subst IsGrow (sym is) tt));
    untouched = λ is. absurd (fixed is);
    grown = λ blocks is. absurd (fixed (subst IsGrow (sym is) tt));
  }

  module _ (old new : Store D members) (a : Result Answer Refusal) where
    -- the record, field by field
    performs_as : (c : Command) → IsCarriedOut old new c a → a ≢ Err Failed → (a ≡ Err Memory → TakesMemory c) → GrowsOn (a ≡ Err Device) old new → GrowsAsAsked old new c a → OnErr a (entries_of new ≡ entries_of old) → EarlyKeeps a old new
        → (ChangesEntriesAlone c → LeavesBlocks old new) → (IsHonest new → MarksAll a old new c) → (IsHonest new → MarksOnce c a old new) → (IsHonest new → ReadsOnly c a old new) → ReadsFew c a old new → KeepsFree c a old new
        → (c ≡ Commit → WritesCommit a old new) → (c ≡ Rollback → RollsBack a old new) → Performs old new c a
    performs_as c carried only_then memory goes size same unchanged blocks marked once reads few free written back = record {
      carried = carried;
      only_then = only_then;
      memory = memory;
      goes = goes;
      size = size;
      same = same;
      unchanged = unchanged;
      blocks = blocks;
      marked = marked;
      once = once;
      reads = reads;
      few = few;
      free = free;
      written = written;
      back = back;
    }

    -- and for each command, from what is known of it: first what its function has to show by itself, then what is alike in many
    pub performs_put : (alt : List ℕ) (key : Key) (value : List ℕ) → IsCarriedOut old new (Put alt key value) a → (IsHonest new → FirstReads a old new) → TakesUpTo 16 a old new → (IsHonest new → FullLeavesSpare a old new)
        → (IsHonest new → FullAgain a old new) → FullAtOnce a old new → GoesOn (a ≡ Err Device) old new → (a ≢ Err Failed) × (a ≢ Err Memory) → OnErr a (entries_of new ≡ entries_of old) → EarlyKeeps a old new → Performs old new (Put alt key value) a
    performs_put alt key value carried reads free marked once at_once any never same unchanged =
        performs_as (Put alt key value) carried never.0 (λ is. absurd (never.1 is)) (goes_grow _ _ _ any) (not_grown _ _ _ _ (λ grow. grow) any) same unchanged (λ alone. absurd alone) marked (λ honest. (once honest, at_once)) reads tt free (λ is. cc) (λ is. cc)

    pub performs_remove : (alt : List ℕ) (key : Key) → IsCarriedOut old new (Remove alt key) a → (IsHonest new → FirstReads a old new) → TakesUpTo 8 a old new → (IsHonest new → FullLeavesSpare a old new)
        → (IsHonest new → FullAgain a old new) → GoesOn (a ≡ Err Device) old new → (a ≢ Err Failed) × (a ≢ Err Memory) → OnErr a (entries_of new ≡ entries_of old) → EarlyKeeps a old new → Performs old new (Remove alt key) a
    performs_remove alt key carried reads free marked once any never same unchanged =
        performs_as (Remove alt key) carried never.0 (λ is. absurd (never.1 is)) (goes_grow _ _ _ any) (not_grown _ _ _ _ (λ grow. grow) any) same unchanged (λ alone. absurd alone) marked once reads tt free (λ is. cc) (λ is. cc)

    pub performs_merge : (alt : List ℕ) (settled : List (Key × Side)) → IsCarriedOut old new (Merge alt settled) a → (IsHonest new → ReadsOnly (Merge alt settled) a old new) → ReadsFew (Merge alt settled) a old new → KeepsFree (Merge alt settled) a old new
        → (IsHonest new → FullLeavesSpare a old new) → (IsHonest new → FullAgain a old new) → GoesOn (a ≡ Err Device) old new → a ≢ Err Failed → OnErr a (entries_of new ≡ entries_of old) → EarlyKeeps a old new → Performs old new (Merge alt settled) a
    performs_merge alt settled carried reads few free marked once any never same unchanged =
        performs_as (Merge alt settled) carried never (λ is. tt) (goes_grow _ _ _ any) (not_grown _ _ _ _ (λ grow. grow) any) same unchanged (λ alone. absurd alone) marked once reads few free (λ is. cc) (λ is. cc)

    pub performs_post : (alt : List ℕ) → IsCarriedOut old new (Post alt) a → ReadsFew (Post alt) a old new → (IsHonest new → ReadsAlone old new) → GoesOn (a ≡ Err Device) old new → (a ≢ Err Failed) × (a ≢ Err Memory)
        → OnErr a (entries_of new ≡ entries_of old) → EarlyKeeps a old new → held_of new ≡ held_of old → Performs old new (Post alt) a
    performs_post alt carried few reads any never same unchanged held =
        performs_as (Post alt) carried never.0 (λ is. absurd (never.1 is)) (goes_grow _ _ _ any) (not_grown _ _ _ _ (λ grow. grow) any) same unchanged (λ alone. absurd alone) (λ honest is. absurd is) (λ honest. tt) reads few held (λ is. cc) (λ is. cc)

    pub performs_commit : IsCarriedOut old new Commit a → WritesCommit a old new → (a ≡ Ok Done) ⊎ (a ≡ Err Device) → GoesOn (a ≡ Err Device) old new → OnErr a (entries_of new ≡ entries_of old) → held_of new ≡ held_of old → Performs old new Commit a
    performs_commit carried written result any same held =
        performs_as Commit carried (search rules) (search rules) (goes_grow _ _ _ any) (not_grown _ _ _ _ (λ grow. grow) any) same (search rules) (λ alone. absurd alone) (λ honest is. absurd is) (λ honest. tt) (λ honest. done_or_device a old new result) tt held (λ is. written) (λ is. cc)

    pub performs_reclaim : IsCarriedOut old new Reclaim a → (IsHonest new → SpareIsFree a old new) → (IsHonest new → ReadsAlone old new) → GoesOn (a ≡ Err Device) old new → (a ≢ Err Failed) × (a ≢ Err Memory)
        → OnErr a (entries_of new ≡ entries_of old) → EarlyKeeps a old new → Performs old new Reclaim a
    performs_reclaim carried exact reads any never same unchanged =
        performs_as Reclaim carried never.0 (λ is. absurd (never.1 is)) (goes_grow _ _ _ any) (not_grown _ _ _ _ (λ grow. grow) any) same unchanged (λ alone. absurd alone) (λ honest is s holds. when_ok a _ (exact honest s holds) is) (λ honest. tt) reads tt tt (λ is. cc) (λ is. cc)

    -- a command on entries alone
    pub performs_entries : (c : Command) → ChangesEntriesAlone c → IsCarriedOut old new c a → (a ≢ Err Device) × (a ≢ Err Failed) × (a ≢ Err Memory) → OnErr a (entries_of new ≡ entries_of old) → EarlyKeeps a old new
        → disk_of new ≡ disk_of old → held_of new ≡ held_of old → Performs old new c a
    performs_entries c alone carried never same unchanged disk held =
        let nowhere = goes_nowhere _ _ _ (ap members.state disk) never.0 in
        performs_as c carried never.1 (λ is. absurd (never.2 is)) (goes_grow _ _ _ nowhere) (not_grown _ _ c _ (search rules) nowhere) same unchanged (λ alone. (disk, held)) (λ honest is. absurd (entries_unmarked c a alone is)) (λ honest. entries_once c a old new alone)
        (λ honest. entries_read c a old new alone disk) (entries_few c a old new alone) (entries_keep c a old new alone) (λ is. absurd (subst ChangesEntriesAlone is alone)) (λ is. absurd (subst ChangesEntriesAlone is alone))

    pub performs_grow : (blocks : ℕ) → IsCarriedOut old new (Grow blocks) a → NewAreFree a old new blocks → a ≢ Err Failed → GrowsOn (a ≡ Err Device) old new → IsNoLonger old new blocks → EarlyLeavesDisk a old new
        → OnErr a (entries_of new ≡ entries_of old) → EarlyKeeps a old new → Performs old new (Grow blocks) a
    performs_grow blocks carried grown only_then goes no_more untouched same unchanged =
        let size : GrowsAsAsked old new (Grow blocks) a = record {
          as_long = λ no. absurd (no tt);
          no_more = λ n is. subst (λ (b : ℕ). IsNoLonger old new b) (same_grow blocks n is) no_more;
          untouched = λ is. untouched;
          grown = λ n is. subst (λ (b : ℕ). NewAreFree a old new b) (same_grow blocks n is) grown;
        } in
        performs_as (Grow blocks) carried only_then (λ is. tt) goes size same unchanged (λ alone. absurd alone) (λ honest is. absurd is) (λ honest. tt) (λ honest. tt) tt tt (λ is. cc) (λ is. cc)

  -- the same of a command under another name
  pub performs_same : (old new : Store D members) (a : Result Answer Refusal) (c d : Command) → c ≡ d → Performs old new d a → Performs old new c a
  performs_same old new a c d same did = subst (λ (e : Command). Performs old new e a) (sym same) did

  -- a Grow that is refused before the disk is asked for blocks
  pub refuses_grow : (store : Store D members) (blocks : ℕ) (refusal : Refusal) → (refusal ≢ Device) × (refusal ≢ Failed) → ((s : State) → Holds store s → IsGrowDue (outcome s (Grow blocks)) (Err refusal)) → Performs store store (Grow blocks) (Err refusal)
  refuses_grow store blocks refusal never due =
      performs_grow store store (Err refusal) blocks (λ honest s holds. stayed store s holds (Grow blocks) refusal (due s holds)) (λ s holds. tt) (λ is. never.1 cc) (goes_grow _ _ _ (goes_nowhere _ _ _ refl (λ is. never.0 cc)))
      (inl refl) (λ early. refl) refl (λ early. same_store store)

-- a store that differs from another one in whether it has failed alone, and in how its invariant is known
module _ {D : Type 0} {members : _} (old mid : Store D members) (failed : Bool) (inside : mid.parts.blocks ≤ (members.state (disk_of mid)).blocks) where
  abbrev pub new : Store D members
  new = record mid { failed = failed; inside = inside }

  -- it read as much
  reads_on : (a : Result Answer Refusal) (c : Command) → ReadsOnly c a old mid → ReadsOnly c a old new
  reads_on a (Grow blocks) reads = reads
  reads_on a c reads = reads

  -- it read as few blocks
  few_on : (a : Result Answer Refusal) (c : Command) → ReadsFew c a old mid → ReadsFew c a old new
  few_on a (Merge alt settled) few = few
  few_on a (Post alt) few = few
  few_on a c few = tt

  -- an early refusal leaves all but the disk as it was
  early_on : (a : Result Answer Refusal) → has_failed old ≡ false → (IsTrue failed → a ≡ Err Device) → EarlyKeeps a old mid → EarlyKeeps a old new
  early_on (Ok x) sound noted keeps = tt
  early_on (Err refusal) sound noted keeps = λ early.
      let was = keeps early in record {
        alloc = was.alloc;
        parts = was.parts;
        failed = no_failure failed (λ is. never_early (Err refusal) refusal refl (noted is) early) ∙ sym sound;
      }

  -- a refusal for want of blocks leaves what it left
  full_on : (a : Result Answer Refusal) → has_failed old ≡ false → (IsTrue failed → a ≡ Err Device) → FullAgain a old mid → FullAgain a old new
  full_on a sound noted again full s holds = (
    (again full s holds).0,
    λ known.
        let was = (again full s holds).1 known in record {
          alloc = was.alloc;
          parts = was.parts;
          failed = no_failure failed (λ is. never_full a full (noted is)) ∙ sym sound;
        },
  )

  once_on : (a : Result Answer Refusal) (c : Command) → has_failed old ≡ false → (IsTrue failed → a ≡ Err Device) → MarksOnce c a old mid → MarksOnce c a old new
  once_on a (Put alt key value) sound noted once = (full_on a sound noted once.0, once.1)
  once_on a (Remove alt key) sound noted once = full_on a sound noted once
  once_on a (Merge alt settled) sound noted once = full_on a sound noted once
  once_on a c sound noted once = tt

  -- what was done is the same
  pub carries_out : (c : Command) (a : Result Answer Refusal) → has_failed old ≡ false → (IsTrue failed ↔ a ≡ Err Device) → Performs old mid c a → CarriesOut old new c a
  carries_out c a sound noted did = record {
    performs = record {
      carried = λ honest s holds.
          let was = did.carried honest s holds in record {
            answers = answers_on old mid s holds a new c refl refl was.answers;
            state = was.state;
            crash = was.crash;
            guarded = was.guarded;
            unsynced = was.unsynced;
          };
      only_then = did.only_then;
      memory = did.memory;
      goes = did.goes;
      size = record { as_long = did.size.as_long; no_more = did.size.no_more; untouched = did.size.untouched; grown = did.size.grown };
      same = did.same;
      unchanged = early_on a sound noted.0 did.unchanged;
      blocks = did.blocks;
      marked = did.marked;
      once = λ honest. once_on a c sound noted.0 (did.once honest);
      reads = λ honest. reads_on a c (did.reads honest);
      few = few_on a c did.few;
      free = keeps_on a old mid new (λ honest. honest) refl c did.free;
      written = did.written;
      back = λ is.
          let was = did.back is in record {
            accepted = was.accepted;
            disk = was.disk;
            entries = was.entries;
            blocks = was.blocks;
            held = was.held;
            series = was.series;
          };
    };
    failed = noted;
  }
