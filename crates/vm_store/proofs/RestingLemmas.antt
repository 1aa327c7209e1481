-- What a store stands for, through device calls, crashes, puts and commits.
use Rattle.std.proofs.Common.{◌≡◌, ◌⊎◌, inl, inr, ℕ, ◌+◌, ◌<◌, ◌≤◌, ◌^◌, nat_lt, Bool, true, false, List, [], length, find, Option, Some, None, option_map, Ok, Err, refl, sym, ap, ◌∙◌, subst, arith}
use Rattle.vm_types.specs.declared.answer.Answer.{Answer}
use Rattle.vm_types.specs.declared.answer.Answer.TheVariants.{Done}
use Rattle.vm_types.specs.declared.command.Command.TheVariants.{Put, Commit}
use Rattle.vm_types.specs.declared.key.Key.{Key}
use Rattle.vm_types.specs.declared.refusal.Refusal.TheVariants.{NoSuchAlternative, Full}
use Rattle.vm_types.specs.Firsts.{change_first}
use Rattle.vm_types.specs.Map.{Map, get, with_value}
use Rattle.vm_types.specs.Tree.{Tree, Alternative, named, changed}
use Rattle.vm_types.specs.Step.{step, done, or_refuse}
use Rattle.vm_types.specs.State.{State, committed_of, next}
use Rattle.vm_types.specs.Kept.{LeftBy}
use Rattle.vm_disk.specs.Disk.{Contents, DiskState, MayLeave, Medium, block}
use Rattle.vm_disk.specs.Moments.{TouchesOnly, OnlyReads}
use Rattle.vm_disk.proofs.MomentLemmas.{clean_sure, left_untouched, same_medium}
use Rattle.vm_alloc.specs.Held.{IsHeld, HoldsMore}
use Rattle.vm_block.specs.Slot.{SlotFits, used_blocks}
use Rattle.vm_block.specs.Slot as slot
use Rattle.vm_block.specs.declared.slot.Entry.{Entry}
use Rattle.vm_block.specs.declared.selector.SlotName.{SlotName}
use Rattle.vm_block.specs.declared.selector.SlotName.TheVariants.{A, B}
use Rattle.vm_block.specs.Selector.{named_slot, other_slot}
use Rattle.vm_catalog.specs.Place.{is_used, slot_at}
use Rattle.vm_catalog.specs.Catalog.{Names, AtRest}
use Rattle.vm_catalog.specs.Publication.{IsPublished, PublishLeaves}
use Rattle.vm_catalog.proofs.PlaceLemmas.{used_cases, sixteen}
use Rattle.vm_catalog.proofs.PublishLemmas.{names_in}
use Rattle.vm_tree.specs.Tree.{IsData}
use Rattle.vm_tree.specs.Answers.{Puts}
use Rattle.vm_tree.specs.Free.{is_free}
use Rattle.vm_tree.specs.Root.{IsRootedIn}
use Rattle.vm_tree.specs.declared.root.Root.{Root}
use Rattle.vm_tree.specs.Faults.{refusal_of_put}
use Rattle.vm_tree.specs.declared.faults.PutFault.{PutFault}
use Rattle.vm_tree.specs.declared.faults.PutFault.TheVariants as put
use Rattle.vm_tree.specs.declared.faults.TreeFault.TheVariants as fault
use Rattle.vm_store.specs.Sizes.{sizes}
use Rattle.vm_store.specs.Filed.{Anywhere, Filed, Standing, tree_of}
use Rattle.vm_store.specs.Shown.{Shows}
use Rattle.vm_store.specs.Rest.{IsSafe, Rests}
use Rattle.vm_types.specs.Queries.{value_in, value_of}
use Rattle.vm_store.specs.Answers.{LacksRoom, IsDue, IsAnswer}
use Rattle.vm_store.specs.Roots.{current_root}
use Rattle.vm_store.specs.Versions.{slot_entries, is_alternative_of, with_current}
use Rattle.vm_store.specs.declared.version.Version.{Version}
use Rattle.vm_tree.proofs.Touching.{held_not_free}
use Rattle.vm_store.proofs.FiledLemmas.{is_filed, refiled, recurrent, maps_of, filed_maps, grown_named, grown_changed}
use Rattle.vm_store.proofs.LedgerLemmas as ledger
use Rattle.vm_store.proofs.LedgerLemmas.{alike_turned, fits_alike}
use Rattle.vm_store.proofs.SlotLemmas.{slot_changed}
use Rattle.vm_store.proofs.StandingLemmas.{standing_in, standing_data, found_as, not_found, FoundAs, standing_changed}

-- the used blocks of a slot are the store's own
pub used_low : (slot_name : SlotName) (count n : ℕ) → count ≤ 511 → is_used slot_name count n ≡ true → n < 34
used_low slot_name count n few is = low slot_name (used_cases slot_name count n is)
  where
    low : (slot_name : SlotName) → (n < 2) ⊎ ((slot_at slot_name ≤ n) × (n < slot_at slot_name + used_blocks count)) → n < 34
    low slot_name (inl front) = omega arith
    low B (inr at) = omega (arith, sixteen count few)
    low A (inr at) = omega (arith, sixteen count few)

module _ (m : Medium) (limit : ℕ) (slot_name : SlotName) (bits : List Bool) (committed working : List Version) (s : State)
    (rests : Rests m limit slot_name bits committed working s) where
  few : length (slot_entries committed) ≤ 511
  few = rests.rest.names.slot.fits.head.few

  -- blocks that are held and clean are kept by a crash after calls that write free blocks alone
  kept_safe : (now : Medium) → TouchesOnly (is_free bits) m now → (left : Contents) → MayLeave now left → (n : ℕ) → IsSafe bits m n → block left n ≡ block m.contents n
  kept_safe now spares left may n safe = left_untouched (is_free bits) m now spares left may n (held_not_free bits n safe.held) safe.clean

  kept_used : (now : Medium) → TouchesOnly (is_free bits) m now → (left : Contents) → MayLeave now left → (n : ℕ) → is_used slot_name (length (slot_entries committed)) n ≡ true → block left n ≡ block m.contents n
  kept_used now spares left may n used =
      left_untouched (is_free bits) m now spares left may n (held_not_free bits n (rests.system n (used_low slot_name (length (slot_entries committed)) n few used))) (rests.rest.clean n used)

  -- a crash after calls that write free blocks alone shows what was committed
  pub shows_old : (now : Medium) → TouchesOnly (is_free bits) m now → (left : Contents) → MayLeave now left → Shows left (committed_of s)
  shows_old now spares left may = record {
    versions = committed;
    filed = rests.old;
    names = names_in m.contents left slot_name s.kept (slot_entries committed) (kept_used now spares left may) rests.rest.in_use rests.rest.names;
    inside = omega (arith, may.least, spares.sure, rests.sure);
    stands = standing_in (IsSafe bits m) Anywhere m.contents left s.kept (kept_safe now spares left may)
        (λ n safe. tt) committed rests.old rests.safe;
    gives = rests.gives_old;
  }

  -- the committed entries are at rest after calls that write free blocks alone
  pub at_rest : (now : Medium) → TouchesOnly (is_free bits) m now → AtRest slot_name now s.kept (slot_entries committed)
  at_rest now spares =
      let same : (n : ℕ) → is_used slot_name (length (slot_entries committed)) n ≡ true → is_free bits n ≡ false = λ n used. held_not_free bits n (rests.system n (used_low slot_name (length (slot_entries committed)) n few used)) in
      record {
        names = names_in m.contents now.contents slot_name s.kept (slot_entries committed) (λ n used. spares.same n (same n used)) rests.rest.in_use rests.rest.names;
        in_use = ap (λ b. named_slot b) (spares.same 1 (held_not_free bits 1 (rests.system 1 (omega arith)))) ∙ rests.rest.in_use;
        clean = λ n used. spares.clean n (same n used) (rests.rest.clean n used);
      }

  pub safe_on : (now : Medium) (after : List Bool) → TouchesOnly (is_free bits) m now → HoldsMore bits after → Standing (IsSafe after now) now.contents s.kept committed rests.old
  safe_on now after spares more =
      standing_in (IsSafe bits m) (IsSafe after now) m.contents now.contents s.kept (λ n safe. spares.same n (held_not_free bits n safe.held))
      (λ n safe. record { held = more.still n safe.held; clean = spares.clean n (held_not_free bits n safe.held) safe.clean }) committed rests.old rests.safe

  pub stands_on : (now : Medium) (after : List Bool) → TouchesOnly (is_free bits) m now → HoldsMore bits after → Standing (IsHeld after) now.contents limit working rests.new
  stands_on now after spares more =
      standing_in (IsHeld bits) (IsHeld after) m.contents now.contents limit (λ n held. spares.same n (held_not_free bits n held)) more.still working rests.new rests.stands

  -- the store stands for other working entries, after calls that write free blocks alone
  pub rests_on : (now : Medium) (after : List Bool) (changed : List Version) (new : List Filed) (tree : Tree) → TouchesOnly (is_free bits) m now → HoldsMore bits after
      → SlotFits limit (slot_entries changed) → Standing (IsHeld after) now.contents limit changed new → tree_of new ≡ tree
      → Rests now limit slot_name after committed changed (record s { working = tree })
  rests_on now after changed new tree spares more fits stands gives = record {
    old = rests.old;
    new = new;
    blocks = rests.blocks;
    fewer = rests.fewer;
    inside = subst (λ n. limit ≤ n) (sym spares.count) rests.inside;
    sure = omega (arith, rests.sure, spares.sure);
    system = λ n low. more.still n (rests.system n low);
    rest = at_rest now spares;
    fits = fits;
    safe = safe_on now after spares more;
    stands = stands;
    gives_old = rests.gives_old;
    gives_new = gives;
  }

  -- the store stands for the same, after calls that write free blocks alone
  pub rests_more : (now : Medium) (after : List Bool) → TouchesOnly (is_free bits) m now → HoldsMore bits after → Rests now limit slot_name after committed working s
  rests_more now after spares more = rests_on now after working rests.new s.working spares more rests.fits (stands_on now after spares more) rests.gives_new

  -- the store stands for other records of an alternative, after calls that write free blocks alone
  pub current_rests : (name : List ℕ) (g : Map → Map) (now : Medium) (after : List Bool) (root : Root) → root.block < 2 ^ 32 → TouchesOnly (is_free bits) m now → HoldsMore bits after
      → ((f : Filed) → find (is_filed name) rests.new ≡ Some f → IsRootedIn sizes (IsHeld after) now.contents limit root (g f.current))
      → Rests now limit slot_name after committed (change_first (is_alternative_of name) (with_current root) working) (record s { working = changed s.working name (recurrent g) })
  current_rests name g now after root small spares more new =
      rests_on now after (change_first (is_alternative_of name) (with_current root) working) (change_first (is_filed name) (refiled g) rests.new) (changed s.working name (recurrent g)) spares more
      (subst (SlotFits limit) (sym (slot_changed (is_alternative_of name) (slot.is_alternative_of name) (λ v. refl) (with_current root) (ledger.with_current root.block) (λ v. refl) working))
      (fits_alike limit (slot_entries working) _ (alike_turned (slot.is_alternative_of name) root.block small (slot_entries working)) rests.fits))
      (standing_changed (IsHeld after) now.contents limit name root g working rests.new (stands_on now after spares more) new)
      (grown_changed name g [] rests.new refl ∙ ap (λ t. changed t name (recurrent g)) rests.gives_new)

  -- a crash in a publish shows what was committed, or what was working
  pub published_left : (left : Contents) → PublishLeaves m s.kept (slot_entries committed) limit (slot_entries working) left → LeftBy Shows s Commit left
  published_left left leaves = by_names leaves.2
    where
      by_names : (Names left s.kept (slot_entries committed) × ((n : ℕ) → 34 ≤ n → m.dirty n ≡ false → block left n ≡ block m.contents n))
          ⊎ (Names left limit (slot_entries working) × (length left ≡ length m.contents) × ((n : ℕ) → 34 ≤ n → block left n ≡ block m.contents n)) → LeftBy Shows s Commit left
      by_names (inl old) = inl (record {
        versions = committed;
        filed = rests.old;
        names = old.0;
        inside = omega (arith, leaves.0, rests.sure);
        stands = standing_in (λ n. IsSafe bits m n × IsData s.kept n) Anywhere m.contents left s.kept (λ n safe. old.1 n safe.1.0 safe.0.clean)
            (λ n safe. tt) committed rests.old
            (standing_data (IsSafe bits m) m.contents s.kept committed rests.old rests.safe);
        gives = rests.gives_old;
      })
      by_names (inr new) = inr (
        refl,
        record {
          versions = working;
          filed = rests.new;
          names = subst (λ n. Names left n (slot_entries working)) rests.blocks new.0;
          inside = omega (arith, new.1, rests.inside, rests.blocks);
          stands = subst (λ n. Standing Anywhere left n working rests.new) rests.blocks
              (standing_in (λ n. IsHeld bits n × IsData limit n) Anywhere m.contents left limit (λ n held. new.2 n held.1.0) (λ n held. tt) working rests.new
              (standing_data (IsHeld bits) m.contents limit working rests.new rests.stands));
          gives = rests.gives_new;
        },
      )

  -- after a publish the working entries are the committed ones
  pub published : (now : Medium) (copied : List Version) (answer : Answer) → IsPublished (other_slot slot_name) m now limit (slot_entries working) → copied ≡ working
      → Rests now limit (other_slot slot_name) bits copied working (next s Commit (Ok answer))
  published now copied answer done same =
      let stands : Standing (λ n. IsHeld bits n × IsData limit n) m.contents limit working rests.new = standing_data (IsHeld bits) m.contents limit working rests.new rests.stands in
      let rests' : Rests now limit (other_slot slot_name) bits working working (next s Commit (Ok answer)) = record {
        old = rests.new;
        new = rests.new;
        blocks = rests.blocks;
        fewer = omega (arith, rests.blocks);
        inside = subst (λ n. limit ≤ n) (sym done.count) rests.inside;
        sure = omega (arith, clean_sure now done.clean, done.count, rests.inside, rests.blocks);
        system = rests.system;
        rest = subst (λ n. AtRest (other_slot slot_name) now n (slot_entries working)) rests.blocks done.rest;
        fits = rests.fits;
        safe = subst (λ n. Standing (IsSafe bits now) now.contents n working rests.new) rests.blocks
            (standing_in (λ n. IsHeld bits n × IsData limit n) (IsSafe bits now) m.contents now.contents limit (λ n held. done.same n held.1.0) (λ n held. record { held = held.0; clean = done.clean n }) working rests.new stands);
        stands = standing_in (λ n. IsHeld bits n × IsData limit n) (IsHeld bits) m.contents now.contents limit (λ n held. done.same n held.1.0) (λ n held. held.0) working rests.new stands;
        gives_old = rests.gives_new;
        gives_new = rests.gives_new;
      } in
      subst (λ (es : List Version). Rests now limit (other_slot slot_name) bits es working (next s Commit (Ok answer))) (sym same) rests'

  -- the alternative of an entry that was found
  pub record IsNamedAs (f : Filed) (name : List ℕ) : Type 0 where
    pub alternative : Alternative
    pub named : named s.working name ≡ Some alternative
    pub current : alternative.current ≡ f.current

  pub named_as : (name : List ℕ) (f : Filed) → find (is_filed name) rests.new ≡ Some f → IsNamedAs f name
  named_as name f found = by_maps (named s.working name) refl
      (ap (λ (t : Tree). option_map maps_of (named t name)) (sym rests.gives_new) ∙ grown_named name [] rests.new refl ∙ ap (option_map filed_maps) found)
    where
      by_maps : (o : Option Alternative) → named s.working name ≡ o → option_map maps_of o ≡ Some (filed_maps f) → IsNamedAs f name
      by_maps None is maps = cc
      by_maps (Some a) is maps = let same : maps_of a ≡ filed_maps f = cc in record { alternative = a; named = is; current = ap (λ p. p.0) same }

  pub unnamed : (name : List ℕ) → find (is_alternative_of name) working ≡ None → named s.working name ≡ None
  unnamed name none = by_maps (named s.working name)
      (ap (λ (t : Tree). option_map maps_of (named t name)) (sym rests.gives_new) ∙ grown_named name [] rests.new refl
      ∙ ap (option_map filed_maps) (not_found (IsHeld bits) m.contents limit name working rests.new rests.stands none))
    where
      by_maps : (o : Option Alternative) → option_map maps_of o ≡ None → o ≡ None
      by_maps None maps = refl
      by_maps (Some a) maps = cc

  pub found_entry : (name : List ℕ) (e : Version) → find (is_alternative_of name) working ≡ Some e → FoundAs (IsHeld bits) m.contents limit name e rests.new
  found_entry name e is = found_as (IsHeld bits) m.contents limit name e working rests.new rests.stands is

  -- the value of a record of an alternative that was found
  pub value_found : (name : List ℕ) (e : Version) (is : find (is_alternative_of name) working ≡ Some e) (key : Key) (value : Option (List ℕ))
      → value ≡ get (found_entry name e is).filed.current key → Ok value ≡ value_in s.working name key
  value_found name e is key value eq =
      let found = found_entry name e is in
      let as_named = named_as name found.filed found.found in
      sym (ap (λ o. value_of o key) as_named.named ∙ ap (λ (c : Map). Ok (get c key)) as_named.current ∙ ap Ok (sym eq))

  pub value_absent : (name : List ℕ) (key : Key) → find (is_alternative_of name) working ≡ None → Err NoSuchAlternative ≡ value_in s.working name key
  value_absent name key none = sym (ap (λ o. value_of o key) (unnamed name none))

  pub put_absent : (name : List ℕ) (key : Key) (value : List ℕ) → find (is_alternative_of name) working ≡ None → step s.working (Put name key value) ≡ Err NoSuchAlternative
  unfolding or_refuse
  put_absent name key value none = ap (λ o. or_refuse o NoSuchAlternative (λ _. done (changed s.working name (λ x. record x { current = with_value x.current key value })))) (unnamed name none)

  module _ (name : List ℕ) (e : Version) (is : find (is_alternative_of name) working ≡ Some e) (key : Key) (value : List ℕ) where
    pub put_step : step s.working (Put name key value) ≡ Ok (changed s.working name (λ x. record x { current = with_value x.current key value }), Done)
    unfolding or_refuse
    put_step =
        let found = found_entry name e is in
        ap (λ o. or_refuse o NoSuchAlternative (λ _. done (changed s.working name (λ x. record x { current = with_value x.current key value })))) (named_as name found.filed found.found).named

-- a crash in a publish of the working entries, written to a list of their own
pub lent_left : (m : Medium) (limit : ℕ) (slot_name : SlotName) (bits : List Bool) (committed working : List Version) (s : State) → (rests : Rests m limit slot_name bits committed working s)
    → (lent : List Entry) → lent ≡ slot_entries working → (left : Contents) → PublishLeaves m s.kept (slot_entries committed) limit lent left → LeftBy Shows s Commit left
lent_left m limit slot_name bits committed working s rests lent same left leaves =
    published_left m limit slot_name bits committed working s rests left (subst (λ (es : List Entry). PublishLeaves m s.kept (slot_entries committed) limit es left) same leaves)

-- reads change nothing
pub read_rests : (old new : DiskState) (limit : ℕ) (slot_name : SlotName) (bits : List Bool) (committed working : List Version) (s : State) → OnlyReads old new
    → Rests old.now limit slot_name bits committed working s → Rests new.now limit slot_name bits committed working s
read_rests old new limit slot_name bits committed working s reads rests =
    subst (λ (m : Medium). Rests m limit slot_name bits committed working s) (sym (same_medium old new reads)) rests

-- what is committed is shown
pub shows_now : (m : Medium) (limit : ℕ) (slot_name : SlotName) (bits : List Bool) (committed working : List Version) (s : State) → Rests m limit slot_name bits committed working s → Shows m.contents (committed_of s)
shows_now m limit slot_name bits committed working s rests = record {
  versions = committed;
  filed = rests.old;
  names = rests.rest.names;
  inside = omega (arith, rests.sure, m.within);
  stands = standing_in (IsSafe bits m) Anywhere m.contents m.contents s.kept (λ n safe. refl) (λ n safe. tt) committed rests.old rests.safe;
  gives = rests.gives_old;
}

pub is_published_as : (slot_name : SlotName) (old new : Medium) (limit : ℕ) (lent working : List Entry) → lent ≡ working → IsPublished slot_name old new limit lent → IsPublished slot_name old new limit working
is_published_as slot_name old new limit lent working same done = subst (λ (es : List Entry). IsPublished slot_name old new limit es) same done

-- which fault a put into a tree answers
pub fault_of_put : (f : PutFault) (deep : Type 0) (P : Root → Type 0) → Puts (Err f) deep P → (f ≡ put.Tree fault.Device) ⊎ ((f ≡ put.Deep) × deep)
fault_of_put (put.Tree fault.Device) deep P h = inl refl
fault_of_put (put.Tree (fault.Damaged b)) deep P h = absurd h
fault_of_put put.Deep deep P h = inr (refl, h)

module _ (m : Medium) (limit : ℕ) (slot_name : SlotName) (bits : List Bool) (committed working : List Version) (s : State)
    (rests : Rests m limit slot_name bits committed working s) (name : List ℕ) (key : Key) (value : List ℕ) where
  due_absent : (full : Bool) (deep : Type 0) → find (is_alternative_of name) working ≡ None → IsDue (step s.working (Put name key value)) full deep (Err NoSuchAlternative)
  due_absent full deep none = subst (λ o. IsDue o full deep (Err NoSuchAlternative)) (sym (put_absent m limit slot_name bits committed working s rests name key value none)) refl

  -- a Put into no alternative
  pub answers_absent : (spare : ℕ) (deep : Type 0) → find (is_alternative_of name) working ≡ None → IsAnswer s spare deep (Put name key value) (Err NoSuchAlternative)
  answers_absent spare deep none = inr (due_absent _ deep none)

  module _ (e : Version) (is : find (is_alternative_of name) working ≡ Some e) where
    accepts : step s.working (Put name key value) ≡ Ok (changed s.working name (λ x. record x { current = with_value x.current key value }), Done)
    accepts = put_step m limit slot_name bits committed working s rests name e is key value

    -- a Put for which too few blocks are spare
    pub answers_full : (spare : ℕ) (deep : Type 0) → nat_lt spare 17 ≡ true → IsAnswer s spare deep (Put name key value) (Err Full)
    answers_full spare deep full =
        inr (subst (λ o. IsDue o (nat_lt spare 17) deep (Err Full)) (sym accepts)
        (subst (λ (b : Bool). IsDue (Ok (changed s.working name (λ x. record x { current = with_value x.current key value }), Done)) b deep (Err Full)) (sym full) refl))

    -- a Put that is carried out
    pub answers_done : (spare : ℕ) (deep : Type 0) → nat_lt spare 17 ≡ false → (deep → ⊥) → IsAnswer s spare deep (Put name key value) (Ok Done)
    answers_done spare deep room shallow =
        inr (subst (λ o. IsDue o (nat_lt spare 17) deep (Ok Done)) (sym accepts)
        (subst (λ (b : Bool). IsDue (Ok (changed s.working name (λ x. record x { current = with_value x.current key value }), Done)) b deep (Ok Done)) (sym room) (inl (refl, shallow))))

    -- a Put that the device fails, or that finds no room in the tree
    pub answers_fault : (spare : ℕ) (deep here : Type 0) (f : PutFault) (P : Root → Type 0) → nat_lt spare 17 ≡ false → (here → deep) → Puts (Err f) here P → IsAnswer s spare deep (Put name key value) (Err (refusal_of_put f))
    answers_fault spare deep here f P room so h = by_fault (fault_of_put f here P h)
      where
        by_fault : (f ≡ put.Tree fault.Device) ⊎ ((f ≡ put.Deep) × here) → IsAnswer s spare deep (Put name key value) (Err (refusal_of_put f))
        by_fault (inl device) = inl (ap Err (ap refusal_of_put device))
        by_fault (inr at) =
            inr (subst (λ o. IsDue o (nat_lt spare 17) deep (Err (refusal_of_put f))) (sym accepts)
            (subst (λ (b : Bool). IsDue (Ok (changed s.working name (λ x. record x { current = with_value x.current key value }), Done)) b deep (Err (refusal_of_put f))) (sym room) (inr (ap Err (ap refusal_of_put at.0), so at.1))))

    -- the tree of the alternative
    pub deep_here : (x : Contents) → LacksRoom x (current_root (find (is_alternative_of name) working)) (key, value) → LacksRoom x e.current.block (key, value)
    deep_here x deep = subst (λ (o : Option Version). LacksRoom x (current_root o) (key, value)) is deep

    pub here_deep : (x : Contents) → LacksRoom x e.current.block (key, value) → LacksRoom x (current_root (find (is_alternative_of name) working)) (key, value)
    here_deep x here = subst (λ (o : Option Version). LacksRoom x (current_root o) (key, value)) (sym is) here

-- entries that are known by another name
pub rests_as : (m : Medium) (limit : ℕ) (slot_name : SlotName) (bits : List Bool) (committed working other : List Version) (s : State) → working ≡ other
    → Rests m limit slot_name bits committed working s → Rests m limit slot_name bits committed other s
rests_as m limit slot_name bits committed working other s same rests = subst (λ (es : List Version). Rests m limit slot_name bits committed es s) same rests
