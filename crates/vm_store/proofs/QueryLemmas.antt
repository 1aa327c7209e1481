-- From what a query's calls promise to what the query does.
use Rattle.std.proofs.Common.{◌≡◌, ◌≢◌, inl, inr, ℕ, true, false, List, Result, Ok, Err, refl, sym, ap, subst, ◌∙◌}
use Rattle.std.proofs.lemmas.Bool.{true≢false}
use Rattle.vm_types.specs.declared.refusal.Refusal.{Refusal}
use Rattle.vm_types.specs.declared.refusal.Refusal.TheVariants.{Device, Failed, IsTop, NoSuchAlternative}
use Rattle.vm_types.specs.declared.at.At.{At}
use Rattle.vm_types.specs.State.{State}
use Rattle.vm_types.specs.Versions.{map_at}
use Rattle.vm_disk.specs.Disk.{Goes}
use Rattle.vm_disk.specs.Moments.{OnlyReads}
use Rattle.vm_disk.proofs.GoesLemmas.{goes_at, goes_nowhere}
use Rattle.vm_disk.proofs.MomentLemmas.{same_medium, started}
use Rattle.vm_tree.specs.Calls.{OnlyLists, OnlyLooks}
use Rattle.vm_tree.specs.Faults.{refusal_of, refusal_of_list}
use Rattle.vm_tree.specs.declared.faults.ListFault.{ListFault}
use Rattle.vm_tree.specs.declared.faults.ListFault.TheVariants as list
use Rattle.vm_tree.specs.declared.faults.TreeFault.{TreeFault}
use Rattle.vm_tree.specs.declared.faults.TreeFault.TheVariants as fault
use Rattle.vm_store.specs.Pairs.{LacksPair}
use Rattle.vm_store.specs.Queries.{Queries}
use Rattle.vm_store.specs.Roots.{root_at}
use Rattle.vm_store.specs.Store.{FromState, GoesOn, Holds, IsHonest, IsSameButDisk, ReadsAlone, disk_of, has_failed}
use Rattle.vm_store.specs.declared.store.Store.{Store}
use Rattle.vm_store.specs.declared.version.Version.{Version}
use Rattle.vm_store.proofs.AtLemmas.{at_lacking, not_of_versions}

-- the answer of a call on a tree, with its fault as a refusal
abbrev pub passed : {T : Type 0} → Result T TreeFault → Result T Refusal
passed (Ok x) = Ok x
passed (Err f) = Err (refusal_of f)

-- it is Device where the call's is, Failed never, and never want of memory
passed_device : {T : Type 0} (call : Result T TreeFault) → passed call ≡ Err Device → call ≡ Err fault.Device
passed_device (Ok x) is = absurd cc
passed_device (Err fault.Device) is = refl
passed_device (Err (fault.Damaged b)) is = absurd cc

passed_failed : {T : Type 0} (call : Result T TreeFault) → passed call ≢ Err Failed
passed_failed (Ok x) is = cc
passed_failed (Err fault.Device) is = cc
passed_failed (Err (fault.Damaged b)) is = cc

-- the same of a call that makes a list
abbrev pub listed : {T : Type 0} → Result T ListFault → Result T Refusal
listed (Ok x) = Ok x
listed (Err f) = Err (refusal_of_list f)

listed_device : {T : Type 0} (call : Result T ListFault) → listed call ≡ Err Device → call ≡ Err (list.Tree fault.Device)
listed_device (Ok x) is = absurd cc
listed_device (Err (list.Tree fault.Device)) is = refl
listed_device (Err (list.Tree (fault.Damaged b))) is = absurd cc
listed_device (Err list.Memory) is = absurd cc

listed_failed : {T : Type 0} (call : Result T ListFault) → listed call ≢ Err Failed
listed_failed (Ok x) is = cc
listed_failed (Err (list.Tree fault.Device)) is = cc
listed_failed (Err (list.Tree (fault.Damaged b))) is = cc
listed_failed (Err list.Memory) is = cc

-- a value is no refusal
never_ok : {T : Type 0} (x : T) (refusal : Refusal) → Ok x ≡ Err refusal → ⊥
never_ok x refusal is = cc

-- where an alternative and its parent are not there, nothing else is the refusal
not_of_pairs : (vs : List Version) (alt : List ℕ) (refusal other : Refusal) → (NoSuchAlternative ≡ other → ⊥) → (IsTop ≡ other → ⊥) → LacksPair vs alt refusal → refusal ≡ other → ⊥
not_of_pairs vs alt refusal other none top (inl lacks) same = none (sym lacks.0 ∙ same)
not_of_pairs vs alt refusal other none top (inr (own, found, inl first)) same = top (sym first.0 ∙ same)
not_of_pairs vs alt refusal other none top (inr (own, found, inr gone)) same = none (sym gone.2 ∙ same)

module _ {D : Type 0} {members : _} where
  -- a store is as it was
  pub same_store : (store : Store D members) → IsSameButDisk store store
  same_store store = record {
    alloc = refl;
    parts = refl;
    failed = refl;
  }

  -- a store that was only read stands for what it stood for
  pub still_holds : (old new : Store D members) → IsSameButDisk old new → ReadsAlone old new → (s : State) → Holds old s → Holds new s
  still_holds old new same reads s holds =
      rw (same_medium _ _ reads, same.parts) holds

  -- a query of a store that had failed
  pub query_failed : {T : Type 0} (old : Store D members) (result : Result T Refusal) (IsDue : State → Type 0) → has_failed old ≡ true → result ≡ Err Failed → Queries old old result IsDue
  query_failed old result IsDue failed is = record {
    any = goes_nowhere _ _ _ refl (λ device. let never : Err Failed ≡ Err Device = sym is ∙ device in absurd cc);
    failed = refl;
    refused = λ _. is;
    no_calls = λ _. refl;
    only_then = λ sound. absurd (true≢false (sym failed ∙ sound));
    unchanged = same_store old;
    value = λ honest sound. absurd (true≢false (sym failed ∙ sound));
    state = λ honest s holds. holds;
    reads = λ honest. started _ _ refl;
  }

  -- a query of one that had not, and only looked at its disk
  pub query_read : {T : Type 0} (old new : Store D members) (result : Result T Refusal) (IsDue : State → Type 0) → has_failed old ≡ false → IsSameButDisk old new → GoesOn (result ≡ Err Device) old new → result ≢ Err Failed
      → (IsHonest new → ReadsAlone old new) → FromState old new IsDue → Queries old new result IsDue
  query_read old new result IsDue sound same goes never reads value = record {
    any = goes;
    failed = same.failed;
    refused = λ failed. absurd (true≢false (sym failed ∙ sound));
    no_calls = λ failed. absurd (true≢false (sym failed ∙ sound));
    only_then = λ _. never;
    unchanged = same;
    value = value;
    state = λ honest s holds. still_holds old new same (reads honest) s holds;
    reads = reads;
  }

  -- a query that is refused before it looks
  pub query_refused : {T : Type 0} (old new : Store D members) (result : Result T Refusal) (IsDue : State → Type 0) → has_failed old ≡ false → IsSameButDisk old new → disk_of new ≡ disk_of old → result ≢ Err Device → result ≢ Err Failed
      → ((s : State) → Holds old s → IsDue s) → Queries old new result IsDue
  query_refused old new result IsDue sound same unread not never value =
      query_read old new result IsDue sound same
      (subst (λ (d : D). Goes (result ≡ Err Device) (members.state (disk_of old)) (members.state d)) (sym unread) (goes_nowhere _ _ _ refl not)) never
      (λ honest. subst (λ (d : D). OnlyReads (members.state (disk_of old)) (members.state d)) (sym unread) (started _ _ refl))
      (λ honest well s holds. value s holds)

  -- a query that is refused for a version that is not there
  pub query_lacking : {T : Type 0} (old new : Store D members) (result : Result T Refusal) (IsDue : State → Type 0) → has_failed old ≡ false → IsSameButDisk old new → disk_of new ≡ disk_of old
      → (at : At) (refusal : Refusal) → Err refusal ≡ root_at old.parts.working at → result ≡ Err refusal
      → ((s : State) (holds : Holds old s) → map_at s.working at ≡ Err refusal → IsDue s) → Queries old new result IsDue
  query_lacking old new result IsDue sound same unread at refusal lacks is value =
      query_refused old new result IsDue sound same unread
      (λ device. not_of_versions old.parts.working at refusal Device (λ e. cc) (λ e. cc) (sym lacks) (cc (is, device)))
      (λ failed. not_of_versions old.parts.working at refusal Failed (λ e. cc) (λ e. cc) (sym lacks) (cc (is, failed)))
      (λ s holds. value s holds (at_lacking _ _ _ _ _ _ s holds.rests at refusal (sym lacks)))

  -- a query that is refused for an alternative or a parent that is not there
  pub query_unpaired : {T : Type 0} (old : Store D members) (result : Result T Refusal) (IsDue : State → Type 0) → has_failed old ≡ false → (alt : List ℕ) (refusal : Refusal) → LacksPair old.parts.working alt refusal → result ≡ Err refusal
      → ((s : State) → Holds old s → IsDue s) → Queries old old result IsDue
  query_unpaired old result IsDue sound alt refusal lacks is value =
      query_refused old old result IsDue sound (same_store old) refl
      (λ device. not_of_pairs old.parts.working alt refusal Device (λ e. cc) (λ e. cc) lacks (cc (is, device)))
      (λ failed. not_of_pairs old.parts.working alt refusal Failed (λ e. cc) (λ e. cc) lacks (cc (is, failed)))
      value

  -- a query that passes on what a call on a tree answers
  pub query_passed : {T : Type 0} (old new : Store D members) (call : Result T TreeFault) (result : Result T Refusal) (IsDue : State → Type 0) → has_failed old ≡ false → IsSameButDisk old new → OnlyLooks call (members.state (disk_of old)) (members.state (disk_of new))
      → result ≡ passed call → FromState old new IsDue → Queries old new result IsDue
  query_passed old new call result IsDue sound same looks is value =
      query_read old new result IsDue sound same (goes_at _ _ _ _ looks.goes (λ device. passed_device call (sym is ∙ device))) (λ failed. passed_failed call (sym is ∙ failed)) looks.reads value

  -- the same of a call that makes a list
  pub query_listed : {T : Type 0} (old new : Store D members) (call : Result T ListFault) (result : Result T Refusal) (IsDue : State → Type 0) → has_failed old ≡ false → IsSameButDisk old new → OnlyLists call (members.state (disk_of old)) (members.state (disk_of new))
      → result ≡ listed call → FromState old new IsDue → Queries old new result IsDue
  query_listed old new call result IsDue sound same looks is value =
      query_read old new result IsDue sound same (goes_at _ _ _ _ looks.goes (λ device. listed_device call (sym is ∙ device))) (λ failed. listed_failed call (sym is ∙ failed)) looks.reads value

  -- a query that answers what another one does, in other words
  pub query_as : {T U : Type 0} (old new : Store D members) (first : Result T Refusal) (result : Result U Refusal) (Due IsDue : State → Type 0) → Queries old new first Due → (result ≡ Err Device → first ≡ Err Device) → (result ≡ Err Failed → first ≡ Err Failed)
      → (first ≡ Err Failed → result ≡ Err Failed) → ((s : State) → Due s → IsDue s) → Queries old new result IsDue
  query_as old new first result Due IsDue did device failed refused so = record {
    any = goes_at _ _ _ _ did.any device;
    failed = did.failed;
    refused = λ had. refused (did.refused had);
    no_calls = did.no_calls;
    only_then = λ sound is. did.only_then sound (failed is);
    unchanged = did.unchanged;
    value = λ honest sound s holds. so s (did.value honest sound s holds);
    state = did.state;
    reads = did.reads;
  }

  -- its refusal, passed on
  pub query_fault : {T U : Type 0} (old new : Store D members) (first : Result T Refusal) (refusal : Refusal) (result : Result U Refusal) (Due IsDue : State → Type 0) → Queries old new first Due → first ≡ Err refusal → result ≡ Err refusal
      → ((s : State) → Due s → IsDue s) → Queries old new result IsDue
  query_fault old new first refusal result Due IsDue did was is so =
      query_as old new first result Due IsDue did (λ device. was ∙ ap Err (cc (is, device))) (λ failed. was ∙ ap Err (cc (is, failed))) (λ failed. is ∙ ap Err (cc (was, failed))) so

  -- its value, in another form
  pub query_given : {T U : Type 0} (old new : Store D members) (x : T) (y : U) (Due IsDue : State → Type 0) → Queries old new (Ok x) Due → ((s : State) → Due s → IsDue s) → Queries old new (Ok y) IsDue
  query_given {T} {U} old new x y Due IsDue did so =
      query_as old new (Ok x) (Ok y) Due IsDue did (λ device. absurd (never_ok y Device device)) (λ failed. absurd (never_ok y Failed failed)) (λ failed. absurd (never_ok x Failed failed)) so

  -- the same answer, where another one is due that is the same
  pub query_same : {T : Type 0} (old new : Store D members) (result : Result T Refusal) (Due IsDue : State → Type 0) → Queries old new result Due → ((s : State) → Due s → IsDue s) → Queries old new result IsDue
  query_same old new result Due IsDue did so = query_as old new result result Due IsDue did (λ is. is) (λ is. is) (λ is. is) so
