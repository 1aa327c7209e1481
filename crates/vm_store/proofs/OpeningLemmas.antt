-- An opening: a sync, and reads that find a store or why there is none.
use Rattle.std.proofs.Common.{◌≡◌, ◌≢◌, inl, inr, ⊎_elim, ℕ, ◌<◌, ◌≤◌, Bool, List, [], ◌∷◌, ◌++◌, length, replicate, true, false, Option, None, Some, Result, Ok, Err, IfErr, IfOk, refl, sym, ap, ◌∙◌, subst, arith}
use Rattle.vm_types.specs.State.{Seen, State, opened}
use Rattle.vm_types.specs.declared.refusal.Refusal.{Refusal}
use Rattle.vm_types.specs.declared.refusal.Refusal.TheVariants as refusal
use Rattle.std.specs.Prelude.{IsSomeAnd}
use Rattle.vm_disk.specs.Disk.{Contents, block, DiskState, IsClean, Medium, Syncs}
use Rattle.vm_disk.specs.declared.disk.DeviceFault.{DeviceFault}
use Rattle.vm_disk.specs.Moments.{Throughout, OnlyReads}
use Rattle.vm_disk.proofs.MomentLemmas.{clean_sure, started, goes_on, same_medium}
use Rattle.vm_alloc.specs.Held.{is_held, IsHeld, free_count}
use Rattle.vm_alloc.specs.Marks.{is_marked, IsMarked}
use Rattle.std.specs.List.{AllByRecursion}
use Rattle.vm_block.specs.Slot.{SlotFits}
use Rattle.vm_block.specs.declared.slot.Entry.{Entry}
use Rattle.vm_block.specs.declared.selector.SlotName.{SlotName}
use Rattle.std.proofs.lemmas.List.{length-replicate}
use Rattle.std.proofs.lemmas.List.Elements.{Contains-append_left}
use Rattle.vm_block.proofs.EachLemmas.{each_front, each_back, each_join}
use Rattle.vm_tree.specs.Tree.{IsData, IsTree}
use Rattle.vm_check.specs.Marks.{MarksMore}
use Rattle.vm_store.proofs.MarkedLemmas.{free_exactly}
use Rattle.vm_store.proofs.MarkingLemmas.{none_marked}
use Rattle.vm_tree.specs.Answers.{Lists}
use Rattle.vm_tree.specs.declared.root.Root.{Root}
use Rattle.vm_tree.specs.Faults.{refusal_of_list}
use Rattle.vm_tree.specs.declared.faults.ListFault.{ListFault}
use Rattle.vm_tree.specs.declared.faults.ListFault.TheVariants as list
use Rattle.vm_tree.specs.declared.faults.TreeFault.TheVariants as fault
use Rattle.vm_check.specs.Verification.{AreRoots, Found, HaveTrees, TellsDamaged}
use Rattle.vm_catalog.specs.Place.{selected}
use Rattle.vm_catalog.specs.Catalog.{SlotAt, Names}
use Rattle.vm_catalog.proofs.PublishLemmas.{names_slot}
use Rattle.vm_catalog.proofs.SlotOne.{slot_one}
use Rattle.vm_store.specs.Sizes.{sizes}
use Rattle.vm_store.specs.Versions.{numbers_of, slot_entries, versions_of}
use Rattle.vm_store.specs.declared.version.Version.{Version}
use Rattle.vm_store.proofs.TopLemmas.{rooted_one, rooted_tree}
use Rattle.vm_store.proofs.WiderLemmas.{rooted_wider}
use Rattle.vm_store.specs.Filed.{Anywhere, Filed, Standing, reach, tree_of}
use Rattle.vm_store.specs.Shown.{Shows, ShowsNothing}
use Rattle.vm_check.specs.Trees.{AreTopped}
use Rattle.vm_block.specs.Selector.{named_slot}
use Rattle.vm_catalog.specs.declared.reader.Slot.{Slot}
use Rattle.vm_check.specs.Damage.{AreDamaged}
use Rattle.vm_store.specs.Recovery.{AllDamaged, AreRead, AreTops, PartsHold, PartsShow, PartsStandAs, TellsAll, TellsMaps}
use Rattle.vm_store.specs.Rest.{IsSafe, Rests, spare_of}
use Rattle.vm_store.specs.declared.store.parts.Parts.{Parts}
use Rattle.vm_store.proofs.ShownLemmas.{shown_one}
use Rattle.vm_store.specs.Refused.{HasNoSlot, IsStore, LacksMap, IsRefused, IsSynced, IsAtMostSynced}
use Rattle.vm_store.proofs.StandingLemmas.{standing_in, standing_data}

-- a sync leaves all as it was, or synced
pub settles : {T : Type 0} (result : Result T DeviceFault) (old new : DiskState) → Syncs result old new → Throughout old new (IsAtMostSynced old.now)
settles result old new sync = goes_on old old new (IsAtMostSynced old.now) (started old (IsAtMostSynced old.now) (inl refl)) sync.time (ending result sync)
  where
    ending : {T : Type 0} (result : Result T DeviceFault) → Syncs result old new → IsAtMostSynced old.now new.now
    ending (Ok x) sync = inr (record { same = sync.same; clean = sync.synced })
    ending (Err e) sync = inl sync.failed

pub settled : {T : Type 0} (result : Result T DeviceFault) (x : T) (old new : DiskState) → result ≡ Ok x → Syncs result old new → IsSynced old.now new.now
settled (Ok y) x old new ok sync = record { same = sync.same; clean = sync.synced }
settled (Err e) x old new ok sync = cc

-- reads after a sync
pub settled_then : (old : Medium) (mid new : DiskState) → IsSynced old mid.now → OnlyReads mid new → IsSynced old new.now
settled_then old mid new synced reads = subst (IsSynced old) (sym (same_medium mid new reads)) synced

-- the entry with these roots
abbrev entry_with : Entry → ℕ → ℕ → Entry
entry_with e current base = record { kind = e.kind; name = e.name; owner = e.owner; current = current; base = base }

-- entries whose roots were found, as versions
pub record FoundStanding (P : ℕ → Type 0) (x : Contents) (limit : ℕ) (es : List Entry) (rs : List Root) : Type 0 where
  pub filed : List Filed
  pub stands : Standing P x limit (versions_of es rs) filed
  pub same : slot_entries (versions_of es rs) ≡ es

pub found_standing : (P : ℕ → Type 0) (x : Contents) (limit : ℕ) (es : List Entry) (rs : List Root) (bs : List ℕ) → AreRoots sizes x limit (numbers_of es) rs bs → AllByRecursion P bs → FoundStanding P x limit es rs
found_standing P x limit [] rs bs are all = record { filed = []; stands = tt; same = refl }
found_standing P x limit (e ∷ es) [] bs are all = absurd are
found_standing P x limit (e ∷ es) (r ∷ []) bs are all = absurd are.5
found_standing P x limit (e ∷ es) (r ∷ q ∷ rs) bs are all =
    let base = are.5 in
    let whole = subst (AllByRecursion P) are.6 all in
    let behind = subst (AllByRecursion P) base.6 (each_back P are.1 are.2 whole) in
    let rest = found_standing P x limit es rs base.2 base.5 (each_back P base.1 base.2 behind) in
    record {
      filed = record { kind = e.kind; name = e.name; owner = e.owner; current = are.0; base = base.0 } ∷ rest.filed;
      stands = (
        record {
          kind = refl;
          name = refl;
          owner = refl;
          current = record { stands_in = are.1; rooted = are.4; each = each_front P are.1 are.2 whole };
          base = record { stands_in = base.1; rooted = base.4; each = each_front P base.1 base.2 behind };
        },
        rest.stands,
      );
      same =
          ap (λ n. entry_with e n q.block ∷ slot_entries (versions_of es rs)) are.3
          ∙ ap (λ n. entry_with e e.current n ∷ slot_entries (versions_of es rs)) base.3
          ∙ ap (λ es. e ∷ es) rest.same;
    }

-- standing versions have trees under their numbers
pub have_trees : (P : ℕ → Type 0) (x : Contents) (limit : ℕ) (vs : List Version) (fs : List Filed) → Standing P x limit vs fs → HaveTrees sizes x limit (numbers_of (slot_entries vs))
have_trees P x limit [] [] s = tt
have_trees P x limit (v ∷ vs) (f ∷ fs) s =
    let current = s.0.current in
    let base = s.0.base in (
      (f.current, current.stands_in, rooted_tree x limit v.current f.current current.stands_in current.rooted),
      ((f.base, base.stands_in, rooted_tree x limit v.base f.base base.stands_in base.rooted), have_trees P x limit vs fs s.1),
    )
have_trees P x limit [] (f ∷ fs) s = absurd s
have_trees P x limit (v ∷ vs) [] s = absurd s

module _ (m : Medium) (limit : ℕ) (slot_name : SlotName) (es : List Entry) (clean : IsClean m) (store : IsStore m.contents) (in_use : slot_name ≡ selected m.contents) (slot : SlotAt m.contents slot_name limit es)
    (inside : limit ≤ length m.contents) where
  names : Names m.contents limit es
  names = names_slot m.contents slot_name limit es store.header (sym in_use) slot

  -- versions that all stand are shown
  pub shows_found : (vs : List Version) (fs : List Filed) → slot_entries vs ≡ es → Standing Anywhere m.contents limit vs fs → Shows m.contents (record { tree = tree_of fs; blocks = limit })
  shows_found vs fs same s = record {
    versions = vs;
    filed = fs;
    names = subst (λ (l : List Entry). Names m.contents limit l) (sym same) names;
    inside = inside;
    stands = s;
    gives = refl;
  }

  -- and a store with them stands for the tree that is shown
  pub rests_found : (marks bits : List Bool) (vs : List Version) (fs : List Filed) → slot_entries vs ≡ es → ((n : ℕ) → n < 34 → IsHeld bits n) → ((n : ℕ) → 34 ≤ n → is_held bits n ≡ is_marked marks n) → Standing (IsMarked marks) m.contents limit vs fs
      → Rests m limit slot_name bits vs vs (opened (record { tree = tree_of fs; blocks = limit }))
  rests_found marks bits vs fs same system replaced s =
      let data_blocks = standing_data (IsMarked marks) m.contents limit vs fs s in
      record {
        old = fs;
        new = fs;
        blocks = refl;
        fewer = omega arith;
        inside = inside;
        sure = omega (arith, clean_sure m clean);
        system = system;
        rest = record { names = subst (λ (l : List Entry). Names m.contents limit l) (sym same) names; in_use = sym in_use; clean = λ n used. clean n };
        fits = subst (SlotFits limit) (sym same) slot.fits;
        safe = standing_in (λ n. IsMarked marks n × IsData limit n) (IsSafe bits m) m.contents m.contents limit (λ n is. refl) (λ n is. record { held = replaced n is.1.0 ∙ is.0; clean = clean n }) vs fs data_blocks;
        stands = standing_in (λ n. IsMarked marks n × IsData limit n) (IsHeld bits) m.contents m.contents limit (λ n is. refl) (λ n is. replaced n is.1.0 ∙ is.0) vs fs data_blocks;
        gives_old = refl;
        gives_new = refl;
      }

-- without a premise on what is clean
module _ (m : Medium) (limit : ℕ) (slot_name : SlotName) (es : List Entry) (store : IsStore m.contents) (in_use : slot_name ≡ selected m.contents) (slot : SlotAt m.contents slot_name limit es)
    (inside : limit ≤ length m.contents) where
  -- entries of which some root has no map
  pub lacks_map : (HaveTrees sizes m.contents limit (numbers_of es) → ⊥) → LacksMap m.contents
  lacks_map none = record {
    limit = limit;
    entries = es;
    slot = subst (λ b. SlotAt m.contents b limit es) in_use slot;
    inside = inside;
    none = λ vs fs same s. none (subst (λ (l : List Entry). HaveTrees sizes m.contents limit (numbers_of l)) same (have_trees Anywhere m.contents limit vs fs s));
  }

  -- a fault of the walk
  pub fault_refused : (f : ListFault) → (HaveTrees sizes m.contents limit (numbers_of es) → Lists {T = Unit {0}} (Err f) (λ _. Unit {0})) → IsRefused m.contents (refusal_of_list f)
  fault_refused (list.Tree fault.Device) only = tt
  fault_refused (list.Tree (fault.Damaged n)) only = (store, inr (lacks_map only))
  fault_refused list.Memory only = tt

-- what is refused shows nothing
pub refused_none : (x : Contents) (r : Refusal) → IsRefused x r → r ≢ refusal.Device → r ≢ refusal.Memory → ShowsNothing x
refused_none x refusal.NotAStore why no_device no_memory seen shown =
    why (record { least = omega (arith, shown.inside, shown.names.slot.fits.head.least); header = shown.names.header })
refused_none x refusal.BadSize why no_device no_memory seen shown =
    let large = why.1 in
    let same = slot_one x (selected x) seen.blocks large.limit (slot_entries shown.versions) large.entries shown.names.slot large.slot in
    let inside = shown.inside in
    let larger = large.larger in
    let is = same.0 in
    omega arith
refused_none x (refusal.Damaged n) why no_device no_memory seen shown =
    ⊎_elim
    (λ none. none.1 seen.blocks (slot_entries shown.versions) shown.names.slot)
    (λ lacks.
    let same = slot_one x (selected x) seen.blocks lacks.limit (slot_entries shown.versions) lacks.entries shown.names.slot lacks.slot in
    lacks.none shown.versions shown.filed same.1 (subst (λ l. Standing Anywhere x l shown.versions shown.filed) same.0 shown.stands))
    why.1
refused_none x refusal.Device why no_device no_memory seen shown = no_device refl
refused_none x refusal.Memory why no_device no_memory seen shown = no_memory refl
refused_none x refusal.NoSuchAlternative why no_device no_memory seen shown = why
refused_none x refusal.AlternativeExists why no_device no_memory seen shown = why
refused_none x refusal.NoSuchCheckpoint why no_device no_memory seen shown = why
refused_none x refusal.CheckpointExists why no_device no_memory seen shown = why
refused_none x refusal.NoSuchRecord why no_device no_memory seen shown = why
refused_none x refusal.IsTop why no_device no_memory seen shown = why
refused_none x refusal.HasChildren why no_device no_memory seen shown = why
refused_none x refusal.NotMerged why no_device no_memory seen shown = why
refused_none x (refusal.Unsettled n) why no_device no_memory seen shown = why
refused_none x (refusal.NotInConflict k) why no_device no_memory seen shown = why
refused_none x (refusal.SettledTwice k) why no_device no_memory seen shown = why
refused_none x refusal.TooMany why no_device no_memory seen shown = why
refused_none x refusal.Full why no_device no_memory seen shown = why
refused_none x refusal.Deep why no_device no_memory seen shown = why
refused_none x refusal.Failed why no_device no_memory seen shown = why
refused_none x refusal.AlreadyAStore why no_device no_memory seen shown = why

-- what the walk found under the numbers of lent entries
pub found_here : (x : Contents) (limit : ℕ) (es first : List Entry) (numbers lent : List ℕ) (rs : List Root) (marks : List Bool) → lent ≡ numbers → numbers ≡ numbers_of first → first ≡ es
    → Found sizes x limit lent rs marks → FoundStanding (IsMarked marks) x limit es rs
found_here x limit es first numbers lent rs marks same are is found =
    found_standing (IsMarked marks) x limit es rs found.blocks (subst (λ ns. AreRoots sizes x limit ns rs found.blocks) (same ∙ are ∙ ap numbers_of is) found.are) found.each

pub trees_here : (x : Contents) (limit : ℕ) (es first : List Entry) (numbers lent : List ℕ) → lent ≡ numbers → numbers ≡ numbers_of first → first ≡ es → HaveTrees sizes x limit (numbers_of es) → HaveTrees sizes x limit lent
trees_here x limit es first numbers lent same are is trees = subst (HaveTrees sizes x limit) (sym (same ∙ are ∙ ap numbers_of is)) trees

pub trees_back : (x : Contents) (limit : ℕ) (es first : List Entry) (numbers lent : List ℕ) → lent ≡ numbers → numbers ≡ numbers_of first → first ≡ es → HaveTrees sizes x limit lent → HaveTrees sizes x limit (numbers_of es)
trees_back x limit es first numbers lent same are is trees = subst (HaveTrees sizes x limit) (same ∙ are ∙ ap numbers_of is) trees

-- roots with maps under them are those of trees
pub roots_trees : (x : Contents) (limit : ℕ) (ns : List ℕ) (rs : List Root) (bs : List ℕ) → AreRoots sizes x limit ns rs bs → HaveTrees sizes x limit ns
roots_trees x limit [] rs bs are = tt
roots_trees x limit (n ∷ ns) [] bs are = absurd are
roots_trees x limit (n ∷ ns) (r ∷ rs) bs are =
    ((are.0, are.1, subst (λ k. IsTree sizes x limit k are.0 are.1) are.3 (rooted_tree x limit r are.0 are.1 are.4)), roots_trees x limit ns rs are.2 are.5)

-- what is said of a value that was answered
pub ok_so : {T E : Type 0} (result : Result T E) (P Q : T → Type 0) → ((x : T) → P x → Q x) → IfOk result P → IfOk result Q
ok_so (Ok x) P Q so is = so x is
ok_so (Err e) P Q so is = tt

-- where something is shown, each root of the slot has a map
pub shown_trees : (x : Contents) (seen : Seen) (limit : ℕ) (es : List Entry) → Shows x seen → SlotAt x (selected x) limit es → HaveTrees sizes x limit (numbers_of es)
shown_trees x seen limit es shown slot =
    let same = slot_one x (selected x) seen.blocks limit (slot_entries shown.versions) es shown.names.slot slot in
    subst (λ (l : List Entry). HaveTrees sizes x limit (numbers_of l)) same.1
    (have_trees Anywhere x limit shown.versions shown.filed (subst (λ k. Standing Anywhere x k shown.versions shown.filed) same.0 shown.stands))

pub ok_with : {T E F : Type 0} (result : Result T E) (P : T → Type 0) → IfOk result (λ _. F) → (F → IfOk result P) → IfOk result P
ok_with (Ok x) P is so = so is
ok_with (Err e) P is so = tt

-- what was read, on a disk that was only read since
module _ (mid new : Medium) (same : new ≡ mid) (limit : ℕ) (slot_name : SlotName) (es : List Entry) (in_use : slot_name ≡ selected mid.contents) (slot : SlotAt mid.contents slot_name limit es) where
  pub trees_under : (seen : Seen) → Shows new.contents seen → HaveTrees sizes mid.contents limit (numbers_of es)
  trees_under seen shown =
      shown_trees mid.contents seen limit es (subst (λ (m : Medium). Shows m.contents seen) same shown) (subst (λ b. SlotAt mid.contents b limit es) in_use slot)

  pub all_read : (result : Result Parts Refusal) → IsStore mid.contents → limit ≤ length mid.contents → IfOk result (AreTops mid.contents limit es) → IfOk result (AreRead new.contents)
  all_read (Err refusal) store inside tops = tt
  all_read (Ok parts) store inside tops = subst (λ (m : Medium). AreRead m.contents parts) (sym same) (record {
    store = store;
    entries = es;
    slot = subst (λ k. SlotAt mid.contents (selected mid.contents) k es) (sym tops.blocks) (subst (λ b. SlotAt mid.contents b limit es) in_use slot);
    inside = omega (arith, tops.blocks, inside);
    tops = record {
      roots = tops.roots;
      blocks = refl;
      committed = tops.committed;
      working = tops.working;
      topped = subst (λ k. AreTopped mid.contents k tops.roots) (sym tops.blocks) tops.topped;
    };
  })

-- parts that stand for what is shown stand for each tree that is
pub parts_show : (m : Medium) (result : Result Parts Refusal) → ((seen : Seen) → Shows m.contents seen → IfOk result (PartsHold m)) → IfOk result (PartsShow m)
parts_show m (Ok parts) holds = λ seen shown. let found = holds seen shown in subst (PartsStandAs m parts) (shown_one m.contents found.seen seen found.shown shown) found.stands
parts_show m (Err refusal) holds = tt

-- the versions of lent entries and roots
pub found_alike : (es lent : List Entry) (rs lent_roots : List Root) → lent ≡ es → lent_roots ≡ rs → versions_of lent lent_roots ≡ versions_of es rs
found_alike es lent rs lent_roots same same' = ap (λ l. versions_of l lent_roots) same ∙ ap (versions_of es) same'

-- the same versions, known by other names
pub rests_named : (m : Medium) (limit : ℕ) (slot_name : SlotName) (bits : List Bool) (vs committed working : List Version) (s : State) → committed ≡ vs → working ≡ vs
    → Rests m limit slot_name bits vs vs s → Rests m limit slot_name bits committed working s
rests_named m limit slot_name bits vs committed working s same same' rests =
    subst (λ (us : List Version). Rests m limit slot_name bits us working s) (sym same) (subst (λ (us : List Version). Rests m limit slot_name bits vs us s) (sym same') rests)

-- ---- what is free after an opening

-- standing versions, also of a store of fewer blocks, reach just what the walk found under their roots
roots_reach : (P : ℕ → Type 0) (x : Contents) (few limit : ℕ) → few ≤ limit → (es : List Entry) (rs : List Root) (bs : List ℕ) (fs : List Filed) → AreRoots sizes x limit (numbers_of es) rs bs
    → (s : Standing P x few (versions_of es rs) fs) → reach P x few (versions_of es rs) fs s ≡ bs
roots_reach P x few limit le [] rs bs [] are s = none_reached rs are
  where
    none_reached : (rs : List Root) → AreRoots sizes x limit [] rs bs → [] ≡ bs
    none_reached [] are = sym are
    none_reached (r ∷ rs) are = absurd are
roots_reach P x few limit le [] rs bs (f ∷ fs) are s = absurd s
roots_reach P x few limit le (e ∷ es) [] bs fs are s = absurd are
roots_reach P x few limit le (e ∷ es) (r ∷ []) bs fs are s = absurd are.5
roots_reach P x few limit le (e ∷ es) (r ∷ q ∷ rs) bs [] are s = absurd s
roots_reach P x few limit le (e ∷ es) (r ∷ q ∷ rs) bs (f ∷ fs) are s =
    let base = are.5 in
    let current_same = rooted_one x limit r f.current are.0 s.0.current.stands_in are.1 (rooted_wider x few limit le r f.current s.0.current.stands_in s.0.current.rooted) are.4 in
    let base_same = rooted_one x limit q f.base base.0 s.0.base.stands_in base.1 (rooted_wider x few limit le q f.base s.0.base.stands_in s.0.base.rooted) base.4 in
    let rest = roots_reach P x few limit le es rs base.2 fs base.5 s.1 in
    ap (λ ds. ds ++ (s.0.base.stands_in ++ reach P x few (versions_of es rs) fs s.1)) current_same
    ∙ ap (λ ds. are.1 ++ (ds ++ reach P x few (versions_of es rs) fs s.1)) base_same
    ∙ ap (λ ds. are.1 ++ (base.1 ++ ds)) rest
    ∙ ap (λ ds. are.1 ++ ds) (sym base.6) ∙ sym are.6

-- the same, for versions known by another name
reached_named : (P : ℕ → Type 0) (x : Contents) (few limit : ℕ) → few ≤ limit → (es : List Entry) (rs : List Root) (bs : List ℕ) (vs : List Version) (fs : List Filed) → vs ≡ versions_of es rs
    → AreRoots sizes x limit (numbers_of es) rs bs → (s : Standing P x few vs fs) → reach P x few vs fs s ≡ bs
reached_named P x few limit le es rs bs vs fs same are =
    subst (λ (us : List Version). (s : Standing P x few us fs) → reach P x few us fs s ≡ bs) (sym same) (roots_reach P x few limit le es rs bs fs are)

-- just the spare blocks are free
pub freed : (m : Medium) (limit : ℕ) (slot_name : SlotName) (after : List Bool) (committed working : List Version) (es : List Entry) (rs : List Root) (marks : List Bool)
    → committed ≡ versions_of es rs → working ≡ versions_of es rs → Found sizes m.contents limit (numbers_of es) rs marks
    → length after ≡ limit → ((n : ℕ) → n < 34 → IsHeld after n) → ((n : ℕ) → 34 ≤ n → is_held after n ≡ is_marked marks n)
    → (s : State) (rests : Rests m limit slot_name after committed working s) → free_count after ≡ spare_of rests
freed m limit slot_name after committed working es rs marks old new found many system replaced s rests =
    let first = reached_named (IsSafe after m) m.contents s.kept limit rests.fewer es rs found.blocks committed rests.old old found.are rests.safe in
    let then = reached_named (IsHeld after) m.contents limit limit (omega arith) es rs found.blocks working rests.new new found.are rests.stands in
    let all : MarksMore (found.blocks ++ found.blocks) (replicate limit false) marks = record {
      grows = record { same_length = found.count ∙ sym (length-replicate {A = Bool} limit false); still = λ n is. absurd (none_marked limit n is) };
      each = each_join (IsMarked marks) found.blocks found.blocks found.each found.each;
      only = λ n is. inr (Contains-append_left found.blocks found.blocks n (found.only n is));
    } in
    free_exactly m limit slot_name after committed working s many rests marks
    (subst (λ (ds : List ℕ). MarksMore (ds ++ reach (IsHeld after) m.contents limit working rests.new rests.stands) (replicate limit false) marks) (sym first)
    (subst (λ (ds : List ℕ). MarksMore (found.blocks ++ ds) (replicate limit false) marks) (sym then) all)) after many system replaced

pub found_as_named : (x : Contents) (limit : ℕ) (es first : List Entry) (numbers lent : List ℕ) (rs : List Root) (marks : List Bool) → lent ≡ numbers → numbers ≡ numbers_of first → first ≡ es
    → Found sizes x limit lent rs marks → Found sizes x limit (numbers_of es) rs marks
found_as_named x limit es first numbers lent rs marks same are is found = subst (λ ns. Found sizes x limit ns rs marks) (same ∙ are ∙ ap numbers_of is) found

-- what is known of one medium is known of the same
pub freed_on : (old mid : Medium) (limit : ℕ) (slot_name : SlotName) (after : List Bool) (committed working : List Version) → mid ≡ old
    → ((s : State) (rests : Rests old limit slot_name after committed working s) → free_count after ≡ spare_of rests)
    → (s : State) (rests : Rests mid limit slot_name after committed working s) → free_count after ≡ spare_of rests
freed_on old mid limit slot_name after committed working same free =
    subst (λ (m : Medium). (s : State) (rests : Rests m limit slot_name after committed working s) → free_count after ≡ spare_of rests) (sym same) free

-- # What is told of damaged blocks

-- nothing is told with a refusal that is none of a damaged block
pub untold_maps : (old new : DiskState) (slot : Slot) (damaged : Option (List Bool)) (why : Refusal) → ((n : ℕ) → why ≡ refusal.Damaged n → ⊥) → TellsMaps old new slot damaged damaged why
untold_maps old new slot damaged why other = record { all = λ n is. absurd (other n is); none = λ is. refl }

pub untold : (old new : DiskState) (damaged : Option (List Bool)) (why : Refusal) → ((n : ℕ) → why ≡ refusal.Damaged n → ⊥) → TellsAll old new damaged damaged why
untold old new damaged why other = record { all = λ n is. absurd (other n is); none = λ is. refl }

-- a fault of the walk of a slot's maps
pub maps_told : (old new : DiskState) (slot : Slot) (first : List Entry) (numbers lent : List ℕ) {damaged damaged' : Option (List Bool)} (fault : ListFault) → lent ≡ numbers → numbers ≡ numbers_of first → first ≡ slot.entries.items
    → TellsDamaged {T = Unit {0}} (Err fault) sizes old new slot.blocks lent damaged damaged' → TellsMaps old new slot damaged damaged' (refusal_of_list fault)
maps_told old new slot first numbers lent (list.Tree fault.Device) same are is told = record { all = λ n other. cc; none = λ other. told }
maps_told old new slot first numbers lent {damaged} {damaged'} (list.Tree (fault.Damaged n)) same are is told = record {
  all = λ m this.
      let one : n ≡ m = cc in
      subst (λ k. IsSomeAnd damaged' (λ marks. new.honest ≡ true → AreDamaged sizes old.now.contents slot.blocks (numbers_of slot.entries.items) k marks)) one
      (subst (λ (ns : List ℕ). IsSomeAnd damaged' (λ marks. new.honest ≡ true → AreDamaged sizes old.now.contents slot.blocks ns n marks)) (same ∙ are ∙ ap numbers_of is) told);
  none = λ other. absurd (other n refl);
}
maps_told old new slot first numbers lent list.Memory same are is told = record { all = λ n other. cc; none = λ other. told }

-- what holds of a refusal
pub err_so : {T E : Type 0} (result : Result T E) (P Q : E → Type 0) → ((e : E) → P e → Q e) → IfErr result P → IfErr result Q
err_so (Ok x) P Q so p = tt
err_so (Err e) P Q so p = so e p

some_so : {X : Type 0} (o : Option X) (P Q : X → Type 0) → ((x : X) → P x → Q x) → IsSomeAnd o P → IsSomeAnd o Q
some_so None P Q so p = absurd p
some_so (Some x) P Q so p = so x p

-- a refusal of the maps of the slot that the selector names, after a sync and reads
pub all_told : (old before mid new : DiskState) (slot_name : SlotName) (slot : Slot) {damaged damaged' : Option (List Bool)} (why : Refusal) → (new.honest ≡ true → before.now.contents ≡ old.now.contents) → (new.honest ≡ true → mid.now ≡ before.now)
    → (new.honest ≡ true → slot_name ≡ named_slot (block old.now.contents 1)) → (new.honest ≡ true → SlotAt before.now.contents slot_name slot.blocks slot.entries.items)
    → TellsMaps mid new slot damaged damaged' why → TellsAll old new damaged damaged' why
all_told old before mid new slot_name slot {damaged} {damaged'} why synced read in_use at told = record {
  all = λ n is. inr (some_so damaged' (λ marks. new.honest ≡ true → AreDamaged sizes mid.now.contents slot.blocks (numbers_of slot.entries.items) n marks) (λ marks. new.honest ≡ true → AllDamaged old.now.contents n marks)
      (λ marks are honest.
      let same : mid.now.contents ≡ old.now.contents = ap (λ (m : Medium). m.contents) (read honest) ∙ synced honest in record {
        limit = slot.blocks;
        entries = slot.entries.items;
        slot = subst (λ k. SlotAt old.now.contents k slot.blocks slot.entries.items) (in_use honest) (subst (λ (x : Contents). SlotAt x slot_name slot.blocks slot.entries.items) (synced honest) (at honest));
        are = subst (λ (x : Contents). AreDamaged sizes x slot.blocks (numbers_of slot.entries.items) n marks) same (are honest);
      })
      (told.all n is));
  none = told.none;
}

-- a refusal of the slot
pub slot_told : (old new : DiskState) (damaged : Option (List Bool)) (why : Refusal) → (new.honest ≡ true → (n : ℕ) → why ≡ refusal.Damaged n → HasNoSlot old.now.contents) → TellsAll old new damaged damaged why
slot_told old new damaged why no_slot = record { all = λ n is. inl (refl, λ honest. no_slot honest n is); none = λ is. refl }
