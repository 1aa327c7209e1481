-- What versions stand for, through the commands that change entries alone.
use Rattle.std.proofs.Common.{◌≡◌, ℕ, ◌+◌, ◌<◌, ◌≤◌, ◌^◌, nat_le, Bool, true, false, ◌&&◌, cond, List, [], ◌∷◌, ◌++◌, map, filter, find, length, Option, Some, None, is_some, option_map, Result, Ok, Err, IfErr, IfOk, refl, sym, ap, ◌∙◌, subst, arith}
use Rattle.std.specs.List.{list_any}
use Rattle.std.specs.Str.{bytes_eq}
use Rattle.std.proofs.lemmas.Bool.{false≢true, true≢false}
use Rattle.std.proofs.lemmas.Bool.Decides.{nat_tests}
use Rattle.std.proofs.lemmas.Slice.Eq.{bytes_eq-Decides}
use Rattle.vm_types.specs.Name.{IsName}
use Rattle.vm_types.specs.Map.{Map}
use Rattle.vm_types.specs.Firsts.{change_first, without_first}
use Rattle.vm_types.specs.Shape.{shape, saved_names}
use Rattle.vm_types.specs.Tree.{Tree, Alternative, named, saved_as, changed, has_children, entry_count, is_full}
use Rattle.vm_types.specs.Step.{done, new_alternative, step}
use Rattle.vm_types.specs.State.{answer_of, tree_after}
use Rattle.vm_types.specs.declared.answer.Answer.TheVariants.{Done}
use Rattle.vm_types.specs.declared.command.Command.{Command}
use Rattle.vm_types.specs.declared.command.Command.TheVariants.{New, NewAt, Drop, Checkpoint, Uncheck, Back}
use Rattle.vm_types.specs.declared.refusal.Refusal.{Refusal}
use Rattle.vm_types.specs.declared.refusal.Refusal.TheVariants.{NoSuchAlternative, AlternativeExists, NoSuchCheckpoint, CheckpointExists, IsTop, HasChildren, TooMany}
use Rattle.vm_types.proofs.FirstsLemmas.{find_passes}
use Rattle.vm_types.proofs.SoundLemmas.{each_found}
use Rattle.vm_types.proofs.Steps.{or_refuse-none, or_refuse-some, refuse_if-true, refuse_if-false, new_accepted, new_at_accepted, drop_accepted, checkpoint_accepted, uncheck_accepted, back_accepted}
use Rattle.vm_disk.specs.Disk.{Contents}
use Rattle.vm_alloc.specs.Held.{IsHeld}
use Rattle.vm_block.specs.Slot as slot
use Rattle.vm_block.specs.Slot.{EntryFits, SlotFits, IsLedger, Follows, MayFollow, is_alternative, is_called_as}
use Rattle.vm_block.specs.declared.slot.Entry.{Entry}
use Rattle.vm_block.specs.declared.slot.Kind.TheVariants as kind
use Rattle.vm_tree.specs.Root.{IsRootedIn}
use Rattle.vm_tree.specs.declared.root.Root.{Root}
use Rattle.vm_store.specs.Sizes.{sizes}
use Rattle.vm_store.specs.declared.version.Version.{Version}
use Rattle.vm_store.specs.Versions.{entry_of, slot_entries, is_alternative_of, is_checkpoint_under, is_checkpoint_of, is_child_of, is_apart, alternative_under, alternatives_among, checkpoints_among, with_tops}
use Rattle.vm_types.specs.Queries.{checkpoints_of, checkpoints_in}
use Rattle.vm_store.specs.Filed.{Filed, StandsAs, Standing, saved_of, bare, with_saved, with_filed, tree_of}
use Rattle.vm_store.proofs.FiledLemmas.{is_filed, refiled_both, with_maps, grown_more, grown_turned}
use Rattle.vm_store.proofs.FoundLemmas.{any_none, any_same, change_first-same}
use Rattle.vm_store.proofs.GrownLemmas.{is_filed_under, is_filed_child, filed_shape, grown_shape, MayBeAdded, InOrder, whole, there_grown, children_filed, count_grown, named_whole}
use Rattle.vm_store.proofs.TakenLemmas.{is_filed_saved, is_filed_apart, unsaved, saved_found, grown_apart, grown_unsaved}
use Rattle.vm_store.proofs.MovedLemmas.{agree_alternative, agree_under, agree_saved, agree_child, agree_apart, standing_length, standing_join, standing_any, standing_filter, standing_without, standing_first, standing_found, standing_none}
use Rattle.vm_store.proofs.EntryTests as entry
use Rattle.vm_store.proofs.SlotLemmas.{slot-length, slot_more, slot_any, slot_filter, slot_without, slot_found, slot_none, slot_changed}
use Rattle.vm_store.proofs.LedgerLemmas as ledger
use Rattle.vm_store.proofs.LedgerLemmas.{alike_back, fits_alike}
use Rattle.vm_store.proofs.LedgerMoves.{checkpoint_unbased, called_alternative, some_parts, alternative_follows, checkpoint_follows, top_unbased, fits_more, fits_without, fits_apart}
use Rattle.vm_store.specs.Turns.{IsOfEntries, StandFor, Turns}

-- ---- entries that a slot may have come in their order

module _ (P : ℕ → Type 0) (x : Contents) (limit : ℕ) where
  may_be_added : (earlier : List Version) (before : List Filed) (e : Version) (f : Filed) → Standing P x limit earlier before → StandsAs P x limit e f → MayFollow (slot_entries earlier) (entry_of e) → MayBeAdded (with_filed [] before) f
  may_be_added earlier before e f s here may = record {
    new = λ is.
        let alternative : is_alternative e.kind ≡ true = ap is_alternative (sym here.kind) ∙ is in
        there_grown f.name [] before ∙ ap (λ n. list_any (is_filed n) before) here.name
        ∙ standing_any P x limit (is_alternative_of e.name) (is_filed e.name) (agree_alternative P x limit e.name) earlier before s
        ∙ sym (slot_any (is_alternative_of e.name) (slot.is_alternative_of e.name) (λ v. refl) earlier)
        ∙ any_same (slot.is_alternative_of e.name) (is_called_as (entry_of e)) (slot_entries earlier) (called_alternative (entry_of e) alternative) ∙ may.new;
    owned = λ is.
        let owned = some_parts e.owner (λ owner. list_any (slot.is_alternative_of owner) (slot_entries earlier) ≡ true) may.owned in (
          owned.0,
          here.owner ∙ owned.1,
          there_grown owned.0 [] before ∙ standing_any P x limit (is_alternative_of owned.0) (is_filed owned.0) (agree_alternative P x limit owned.0) earlier before s
              ∙ sym (slot_any (is_alternative_of owned.0) (slot.is_alternative_of owned.0) (λ v. refl) earlier) ∙ owned.2,
        );
  }

  follow_in_order : (earlier : List Version) (before : List Filed) (es : List Version) (fs : List Filed) → Standing P x limit earlier before → Standing P x limit es fs → Follows (slot_entries earlier) (slot_entries es) → InOrder (with_filed [] before) fs
  follow_in_order earlier before [] [] b s h = tt
  follow_in_order earlier before (e ∷ es) (f ∷ fs) b s h = (
    may_be_added earlier before e f b s.0 h.0,
    subst (λ (t : Tree). InOrder t fs) (grown_more [] before f) (follow_in_order (earlier ++ e ∷ []) (before ++ f ∷ []) es fs (standing_join P x limit earlier before e f b s.0) s.1
        (subst (λ (xs : List Entry). Follows xs (slot_entries es)) (sym (slot_more earlier e)) h.1)),
  )
  follow_in_order earlier before [] (f ∷ fs) b s h = absurd s
  follow_in_order earlier before (e ∷ es) [] b s h = absurd s

  pub ledger_in_order : (es : List Version) (fs : List Filed) → Standing P x limit es fs → IsLedger (slot_entries es) → InOrder [] fs
  ledger_in_order [] fs s h = absurd h
  ledger_in_order (top ∷ es) [] s h = absurd s
  ledger_in_order (top ∷ es) (f ∷ fs) s h = (
    record { new = λ is. refl; owned = λ is. let alternative : is_alternative f.kind ≡ true = ap is_alternative (s.0.kind ∙ h.0.kind) in absurd (false≢true (sym is ∙ alternative)) },
    follow_in_order (top ∷ []) (f ∷ []) es fs (s.0, tt) s.1 h.1,
  )

module _ {bits : List Bool} {x : Contents} {limit : ℕ} {working : List Version} {tree : Tree} (here : StandFor bits x limit working tree) where
  pub in_order : InOrder [] here.filed
  in_order = ledger_in_order (IsHeld bits) x limit working here.filed here.stands here.fits.ledger

  -- a command that the model accepts, and versions that stand for what it leaves
  abbrev pub IsAccepted : Command → List Version → Type 0
  IsAccepted command changed = (answer_of (step tree command) ≡ Ok Done) × StandFor bits x limit changed (tree_after tree (step tree command))

  left : (command : Command) (changed : List Version) (new : List Filed) (tree' : Tree) → step tree command ≡ done tree' → SlotFits limit (slot_entries changed)
      → Standing (IsHeld bits) x limit changed new → tree_of new ≡ tree' → IsAccepted command changed
  left command changed new tree' is fits stands gives = (ap answer_of is, record { filed = new; fits = fits; stands = stands; gives = gives ∙ sym (ap (tree_after tree) is) })

  -- an alternative that an entry is
  pub record IsThere (name : List ℕ) (e : Version) : Type 0 where
    pub filed : Filed
    pub found : find (is_filed name) here.filed ≡ Some filed
    pub stands : StandsAs (IsHeld bits) x limit e filed
    pub is : named tree name ≡ Some (whole name here.filed filed)

  pub there : (name : List ℕ) (e : Version) → find (is_alternative_of name) working ≡ Some e → IsThere name e
  there name e found =
      let at = standing_found (IsHeld bits) x limit (is_alternative_of name) (is_filed name) (agree_alternative (IsHeld bits) x limit name) working here.filed e here.stands found in
      record {
        filed = at.this;
        found = at.found;
        stands = at.stands;
        is = ap (λ (t : Tree). named t name) (sym here.gives) ∙ named_whole name [] here.filed at.this in_order refl at.found;
      }

  pub absent : (name : List ℕ) → find (is_alternative_of name) working ≡ None → named tree name ≡ None
  absent name none =
      let is = standing_none (IsHeld bits) x limit (is_alternative_of name) (is_filed name) (agree_alternative (IsHeld bits) x limit name) working here.filed here.stands none in
      none_of (named tree name) (ap (λ (t : Tree). is_some (named t name)) (sym here.gives) ∙ there_grown name [] here.filed ∙ any_none (is_filed name) here.filed is)
    where
      none_of : (o : Option Alternative) → is_some o ≡ false → o ≡ None
      none_of None h = refl
      none_of (Some a) h = absurd (true≢false h)

  count : entry_count tree ≡ length working
  count =
      let counted = count_grown [] here.filed in_order in
      let long = standing_length (IsHeld bits) x limit working here.filed here.stands in
      ap entry_count (sym here.gives) ∙ all_of (entry_count (with_filed [] here.filed)) (length here.filed) counted ∙ long
    where
      all_of : (a b : ℕ) → a ≡ 0 + b → a ≡ b
      all_of a b h = omega (arith, h)

  full : 511 ≤ length working → is_full tree ≡ true
  full many = ap (λ n. nat_le 511 n) count ∙ grind (arith, nat_tests, many)

  room : length working < 511 → is_full tree ≡ false
  room few = ap (λ n. nat_le 511 n) count ∙ grind (arith, nat_tests, few)

  pub name_of : (name : List ℕ) (f : Filed) → find (is_filed name) here.filed ≡ Some f → f.name ≡ name
  name_of name f found = (bytes_eq-Decides f.name name).0 (last (is_alternative f.kind) (bytes_eq f.name name) (find_passes (is_filed name) here.filed f found))
    where
      last : (a b : Bool) → (a && b) ≡ true → b ≡ true
      last true b h = h
      last false b h = absurd (false≢true h)

  pub fits_of : (test : Version → Bool) (asked : Entry → Bool) → ((v : Version) → asked (entry_of v) ≡ test v) → (e : Version) → find test working ≡ Some e → EntryFits (entry_of e)
  fits_of test asked same e found = each_found EntryFits asked (slot_entries working) (entry_of e) here.fits.each (slot_found test asked same working e found)

  few_entries : length working < 511 → length (slot_entries working) < 511
  few_entries few = subst (λ n. n < 511) (sym (slot-length working)) few

  pub entry_found : (name : List ℕ) (e : Version) → find (is_alternative_of name) working ≡ Some e → find (slot.is_alternative_of name) (slot_entries working) ≡ Some (entry_of e)
  entry_found name e found = slot_found (is_alternative_of name) (slot.is_alternative_of name) (λ v. refl) working e found

  saved_entry : (alt name : List ℕ) (e : Version) → find (is_checkpoint_of alt name) working ≡ Some e → find (entry.is_checkpoint_of alt name) (slot_entries working) ≡ Some (entry_of e)
  saved_entry alt name e found = slot_found (is_checkpoint_of alt name) (entry.is_checkpoint_of alt name) (λ v. refl) working e found

  -- ---- New

  module _ (name parent : List ℕ) where
    pub new_absent : find (is_alternative_of parent) working ≡ None → step tree (New name parent) ≡ Err NoSuchAlternative
    new_absent none = or_refuse-none _ _ _ (absent parent none)

    module _ (p : Version) (found : find (is_alternative_of parent) working ≡ Some p) where
      pub new_exists : (e : Version) → find (is_alternative_of name) working ≡ Some e → step tree (New name parent) ≡ Err AlternativeExists
      new_exists e old = or_refuse-some _ _ _ _ (there parent p found).is ∙ refuse_if-true _ _ _ (ap is_some (there name e old).is)

      pub new_full : find (is_alternative_of name) working ≡ None → 511 ≤ length working → step tree (New name parent) ≡ Err TooMany
      new_full free many = or_refuse-some _ _ _ _ (there parent p found).is ∙ refuse_if-false _ _ _ (ap is_some (absent name free)) ∙ refuse_if-true _ _ _ (full many)

      pub new_step : find (is_alternative_of name) working ≡ None → length working < 511 → step tree (New name parent) ≡ done (tree ++ new_alternative name (whole parent here.filed (there parent p found).filed) (there parent p found).filed.current ∷ [])
      new_step free few = new_accepted tree name parent _ (there parent p found).is (ap is_some (absent name free)) (room few)

      -- an alternative more under the parent, with the root of these records for both of its trees
      pub added_rests : (command : Command) (root : Root) (records : Map) → IsRootedIn sizes (IsHeld bits) x limit root records → root.block < 2 ^ 32
          → find (is_alternative_of name) working ≡ None → length working < 511 → IsName name → step tree command ≡ done (tree ++ new_alternative name (whole parent here.filed (there parent p found).filed) records ∷ [])
          → IsAccepted command (working ++ alternative_under parent name root ∷ [])
      added_rests command root records stands small free few is_name is =
          let at = there parent p found in
          let e : Version = alternative_under parent name root in
          let f : Filed = record { kind = kind.Alternative; name = name; owner = Some parent; current = records; base = records } in
          let same : parent ≡ at.filed.name = sym (name_of parent at.filed at.found) in
          let own = fits_of (is_alternative_of parent) (slot.is_alternative_of parent) (λ v. refl) p found in
          left command (working ++ e ∷ []) (here.filed ++ f ∷ []) _ is
          (subst (SlotFits limit) (sym (slot_more working e))
          (fits_more limit (slot_entries working) (entry_of e) here.fits (few_entries few) (record { name = is_name; owner = subst IsName (sym (same ∙ at.stands.name)) own.name; current = small; base = small })
          (alternative_follows (slot_entries working) (entry_of e) (entry_of p) parent refl refl (entry_found parent p found) (slot_none (is_alternative_of name) (slot.is_alternative_of name) (λ v. refl) working free))))
          (standing_join (IsHeld bits) x limit working here.filed e f here.stands (record { kind = refl; name = refl; owner = refl; current = stands; base = stands }))
          (grown_more [] here.filed f ∙ ap (λ (t : Tree). t ++ bare f ∷ []) here.gives ∙ ap (λ n. tree ++ record { name = name; parent = Some n; current = records; base = records; saved = [] } ∷ []) same)

      pub new_rests : find (is_alternative_of name) working ≡ None → length working < 511 → IsName name
          → IsAccepted (New name parent) (working ++ alternative_under parent name p.current ∷ [])
      new_rests free few is_name =
          let own = fits_of (is_alternative_of parent) (slot.is_alternative_of parent) (λ v. refl) p found in
          added_rests (New name parent) p.current (there parent p found).filed.current (there parent p found).stands.current own.current free few is_name (new_step free few)

  -- ---- Drop

  children : (alt : List ℕ) → has_children tree alt ≡ list_any (is_child_of alt) working
  children alt =
      ap (λ (t : Tree). has_children t alt) (sym here.gives) ∙ children_filed alt here.filed
      ∙ standing_any (IsHeld bits) x limit (is_child_of alt) (is_filed_child alt) (agree_child (IsHeld bits) x limit alt) working here.filed here.stands

  module _ (alt : List ℕ) where
    pub drop_absent : find (is_alternative_of alt) working ≡ None → step tree (Drop alt) ≡ Err NoSuchAlternative
    drop_absent none = or_refuse-none _ _ _ (absent alt none)

    module _ (e : Version) (found : find (is_alternative_of alt) working ≡ Some e) where
      pub drop_top : e.owner ≡ None → step tree (Drop alt) ≡ Err IsTop
      drop_top none = or_refuse-some _ _ _ _ (there alt e found).is ∙ or_refuse-none _ _ _ ((there alt e found).stands.owner ∙ none)

      module _ (parent : List ℕ) (owner : e.owner ≡ Some parent) where
        pub drop_parent : list_any (is_child_of alt) working ≡ true → step tree (Drop alt) ≡ Err HasChildren
        drop_parent has =
            or_refuse-some _ _ _ _ (there alt e found).is ∙ or_refuse-some _ parent _ _ ((there alt e found).stands.owner ∙ owner) ∙ refuse_if-true _ _ _ (children alt ∙ has)

        pub drop_step : list_any (is_child_of alt) working ≡ false → step tree (Drop alt) ≡ done (without_first (λ x. bytes_eq x.name alt) tree)
        drop_step childless = drop_accepted tree alt _ (there alt e found).is parent ((there alt e found).stands.owner ∙ owner) (children alt ∙ childless)

        pub drop_rests : list_any (is_child_of alt) working ≡ false → IsAccepted (Drop alt) (filter (is_apart alt) working)
        drop_rests childless =
            left (Drop alt) (filter (is_apart alt) working) (filter (is_filed_apart alt) here.filed) _ (drop_step childless)
            (subst (SlotFits limit) (sym (slot_filter (is_apart alt) (entry.is_apart alt) (λ v. refl) working))
            (fits_apart alt limit (slot_entries working) (entry_of e) parent here.fits (entry_found alt e found) owner (slot_any (is_child_of alt) (entry.is_child_of alt) (λ v. refl) working ∙ childless)))
            (standing_filter (IsHeld bits) x limit (is_apart alt) (is_filed_apart alt) (agree_apart (IsHeld bits) x limit alt) working here.filed here.stands)
            (grown_apart alt [] here.filed in_order refl ∙ ap (λ (t : Tree). without_first (λ a. bytes_eq a.name alt) t) here.gives)

  -- ---- Checkpoint, Uncheck and Back

  module _ (alt name : List ℕ) where
    -- the checkpoint that an entry is
    pub record IsSavedThere (a : Alternative) (c : Version) : Type 0 where
      pub filed : Filed
      pub found : find (is_filed_saved alt name) here.filed ≡ Some filed
      pub stands : StandsAs (IsHeld bits) x limit c filed
      pub is : saved_as a name ≡ Some (saved_of filed)

    pub saved_there : (f : Filed) (c : Version) → find (is_checkpoint_of alt name) working ≡ Some c → IsSavedThere (whole alt here.filed f) c
    saved_there f c found =
        let at = standing_found (IsHeld bits) x limit (is_checkpoint_of alt name) (is_filed_saved alt name) (agree_saved (IsHeld bits) x limit alt name) working here.filed c here.stands found in
        record { filed = at.this; found = at.found; stands = at.stands; is = saved_found alt name here.filed ∙ ap (option_map saved_of) at.found }

    pub saved_absent : (f : Filed) → find (is_checkpoint_of alt name) working ≡ None → saved_as (whole alt here.filed f) name ≡ None
    saved_absent f none =
        saved_found alt name here.filed
        ∙ ap (option_map saved_of) (standing_none (IsHeld bits) x limit (is_checkpoint_of alt name) (is_filed_saved alt name) (agree_saved (IsHeld bits) x limit alt name) working here.filed here.stands none)

    pub checkpoint_absent : find (is_alternative_of alt) working ≡ None → step tree (Checkpoint alt name) ≡ Err NoSuchAlternative
    checkpoint_absent none = or_refuse-none _ _ _ (absent alt none)

    pub uncheck_absent : find (is_alternative_of alt) working ≡ None → step tree (Uncheck alt name) ≡ Err NoSuchAlternative
    uncheck_absent none = or_refuse-none _ _ _ (absent alt none)

    pub back_absent : find (is_alternative_of alt) working ≡ None → step tree (Back alt name) ≡ Err NoSuchAlternative
    back_absent none = or_refuse-none _ _ _ (absent alt none)

    module _ (e : Version) (found : find (is_alternative_of alt) working ≡ Some e) where
      pub checkpoint_exists : (c : Version) → find (is_checkpoint_of alt name) working ≡ Some c → step tree (Checkpoint alt name) ≡ Err CheckpointExists
      checkpoint_exists c old = or_refuse-some _ _ _ _ (there alt e found).is ∙ refuse_if-true _ _ _ (ap is_some (saved_there (there alt e found).filed c old).is)

      pub checkpoint_full : find (is_checkpoint_of alt name) working ≡ None → 511 ≤ length working → step tree (Checkpoint alt name) ≡ Err TooMany
      checkpoint_full free many =
          or_refuse-some _ _ _ _ (there alt e found).is ∙ refuse_if-false _ _ _ (ap is_some (saved_absent (there alt e found).filed free)) ∙ refuse_if-true _ _ _ (full many)

      pub checkpoint_step : find (is_checkpoint_of alt name) working ≡ None → length working < 511
          → step tree (Checkpoint alt name) ≡ done (changed tree alt (λ x. record x { saved = x.saved ++ record { name = name; current = x.current; base = x.base } ∷ [] }))
      checkpoint_step free few = checkpoint_accepted tree alt _ (there alt e found).is name (ap is_some (saved_absent (there alt e found).filed free)) (room few)

      pub checkpoint_rests : find (is_checkpoint_of alt name) working ≡ None → length working < 511 → IsName name
          → IsAccepted (Checkpoint alt name) (working ++ record { kind = kind.Checkpoint; name = name; owner = Some alt; current = e.current; base = e.base } ∷ [])
      checkpoint_rests free few is_name =
          let at = there alt e found in
          let c : Version = record { kind = kind.Checkpoint; name = name; owner = Some alt; current = e.current; base = e.base } in
          let f : Filed = record { kind = kind.Checkpoint; name = name; owner = Some alt; current = at.filed.current; base = at.filed.base } in
          let same : alt ≡ e.name = sym (name_of alt at.filed at.found) ∙ at.stands.name in
          let own = fits_of (is_alternative_of alt) (slot.is_alternative_of alt) (λ v. refl) e found in
          left (Checkpoint alt name) (working ++ c ∷ []) (here.filed ++ f ∷ []) _ (checkpoint_step free few)
          (subst (SlotFits limit) (sym (slot_more working c))
          (fits_more limit (slot_entries working) (entry_of c) here.fits (few_entries few) (record { name = is_name; owner = subst IsName (sym same) own.name; current = own.current; base = own.base })
          (checkpoint_follows (slot_entries working) (entry_of c) (entry_of e) alt refl refl (entry_found alt e found) (slot_none (is_checkpoint_of alt name) (entry.is_checkpoint_of alt name) (λ v. refl) working free)
          (top_unbased (slot_entries working) alt (entry_of e) here.fits.ledger (entry_found alt e found)))))
          (standing_join (IsHeld bits) x limit working here.filed c f here.stands (record { kind = refl; name = refl; owner = refl; current = at.stands.current; base = at.stands.base }))
          (grown_more [] here.filed f ∙ ap (λ (t : Tree). changed t alt (with_saved (saved_of f))) here.gives
          ∙ change_first-same (λ (a : Alternative). bytes_eq a.name alt) (with_saved (saved_of f)) (λ x. record x { saved = x.saved ++ record { name = name; current = x.current; base = x.base } ∷ [] }) tree (whole alt here.filed at.filed) at.is refl)

      pub uncheck_none : find (is_checkpoint_of alt name) working ≡ None → step tree (Uncheck alt name) ≡ Err NoSuchCheckpoint
      uncheck_none none = or_refuse-some _ _ _ _ (there alt e found).is ∙ or_refuse-none _ _ _ (saved_absent (there alt e found).filed none)

      pub back_none : find (is_checkpoint_of alt name) working ≡ None → step tree (Back alt name) ≡ Err NoSuchCheckpoint
      back_none none = or_refuse-some _ _ _ _ (there alt e found).is ∙ or_refuse-none _ _ _ (saved_absent (there alt e found).filed none)

      module _ (c : Version) (old : find (is_checkpoint_of alt name) working ≡ Some c) where
        pub uncheck_step : step tree (Uncheck alt name) ≡ done (changed tree alt (λ x. record x { saved = without_first (λ k. bytes_eq k.name name) x.saved }))
        uncheck_step = uncheck_accepted tree alt _ (there alt e found).is name (ap is_some (saved_there (there alt e found).filed c old).is)

        pub uncheck_rests : IsAccepted (Uncheck alt name) (without_first (is_checkpoint_of alt name) working)
        uncheck_rests =
            left (Uncheck alt name) (without_first (is_checkpoint_of alt name) working) (without_first (is_filed_saved alt name) here.filed) _ uncheck_step
            (subst (SlotFits limit) (sym (slot_without (is_checkpoint_of alt name) (entry.is_checkpoint_of alt name) (λ v. refl) working)) (fits_without limit alt name (slot_entries working) here.fits))
            (standing_without (IsHeld bits) x limit (is_checkpoint_of alt name) (is_filed_saved alt name) (agree_saved (IsHeld bits) x limit alt name) working here.filed here.stands)
            (grown_unsaved name alt [] here.filed in_order (λ a none. cc) (ap is_some (saved_there (there alt e found).filed c old).found)
            ∙ ap (λ (t : Tree). changed t alt (unsaved name)) here.gives)

        pub back_step : step tree (Back alt name)
            ≡ done (changed tree alt (λ x. record x { current = (saved_there (there alt e found).filed c old).filed.current; base = (saved_there (there alt e found).filed c old).filed.base }))
        back_step = back_accepted tree alt _ (there alt e found).is name _ (saved_there (there alt e found).filed c old).is

        pub back_rests : IsAccepted (Back alt name) (change_first (is_alternative_of alt) (with_tops c.current c.base) working)
        back_rests =
            let at = saved_there (there alt e found).filed c old in
            let own = fits_of (is_checkpoint_of alt name) (entry.is_checkpoint_of alt name) (λ v. refl) c old in
            left (Back alt name) (change_first (is_alternative_of alt) (with_tops c.current c.base) working) (change_first (is_filed alt) (refiled_both (λ _. at.filed.current) (λ _. at.filed.base)) here.filed) _ back_step
            (subst (SlotFits limit) (sym (slot_changed (is_alternative_of alt) (slot.is_alternative_of alt) (λ v. refl) (with_tops c.current c.base) (ledger.with_roots c.current.block c.base.block) (λ v. refl) working))
            (fits_alike limit (slot_entries working) _ (alike_back alt c.current.block c.base.block own.current own.base (checkpoint_unbased (slot_entries working) alt name (entry_of c) here.fits.ledger (saved_entry alt name c old)) (slot_entries working)) here.fits))
            (standing_first (IsHeld bits) x limit (is_alternative_of alt) (is_filed alt) (agree_alternative (IsHeld bits) x limit alt) (with_tops c.current c.base) (refiled_both (λ _. at.filed.current) (λ _. at.filed.base)) working here.filed here.stands
            (λ d f stands. record { kind = stands.kind; name = stands.name; owner = stands.owner; current = at.stands.current; base = at.stands.base }))
            (grown_turned alt (λ _. at.filed.current) (λ _. at.filed.base) [] here.filed refl ∙ ap (λ (t : Tree). changed t alt (with_maps (λ _. at.filed.current) (λ _. at.filed.base))) here.gives)

  -- ---- NewAt

  module _ (name parent checkpoint : List ℕ) where
    pub new_at_absent : find (is_alternative_of parent) working ≡ None → step tree (NewAt name parent checkpoint) ≡ Err NoSuchAlternative
    new_at_absent none = or_refuse-none _ _ _ (absent parent none)

    module _ (p : Version) (found : find (is_alternative_of parent) working ≡ Some p) where
      pub new_at_exists : (e : Version) → find (is_alternative_of name) working ≡ Some e → step tree (NewAt name parent checkpoint) ≡ Err AlternativeExists
      new_at_exists e old = or_refuse-some _ _ _ _ (there parent p found).is ∙ refuse_if-true _ _ _ (ap is_some (there name e old).is)

      module _ (free : find (is_alternative_of name) working ≡ None) where
        pub new_at_none : find (is_checkpoint_of parent checkpoint) working ≡ None → step tree (NewAt name parent checkpoint) ≡ Err NoSuchCheckpoint
        new_at_none none =
            or_refuse-some _ _ _ _ (there parent p found).is ∙ refuse_if-false _ _ _ (ap is_some (absent name free)) ∙ or_refuse-none _ _ _ (saved_absent parent checkpoint (there parent p found).filed none)

        module _ (c : Version) (old : find (is_checkpoint_of parent checkpoint) working ≡ Some c) where
          pub new_at_full : 511 ≤ length working → step tree (NewAt name parent checkpoint) ≡ Err TooMany
          new_at_full many =
              or_refuse-some _ _ _ _ (there parent p found).is ∙ refuse_if-false _ _ _ (ap is_some (absent name free)) ∙ or_refuse-some _ _ _ _ (saved_there parent checkpoint (there parent p found).filed c old).is ∙ refuse_if-true _ _ _ (full many)

          pub new_at_step : length working < 511 → step tree (NewAt name parent checkpoint)
              ≡ done (tree ++ new_alternative name (whole parent here.filed (there parent p found).filed) (saved_there parent checkpoint (there parent p found).filed c old).filed.current ∷ [])
          new_at_step few = new_at_accepted tree name parent checkpoint _ _ (there parent p found).is (ap is_some (absent name free)) (saved_there parent checkpoint (there parent p found).filed c old).is (room few)

          pub new_at_rests : length working < 511 → IsName name → IsAccepted (NewAt name parent checkpoint) (working ++ alternative_under parent name c.current ∷ [])
          new_at_rests few is_name =
              let at = saved_there parent checkpoint (there parent p found).filed c old in
              let own = fits_of (is_checkpoint_of parent checkpoint) (entry.is_checkpoint_of parent checkpoint) (λ v. refl) c old in
              added_rests name parent p found (NewAt name parent checkpoint) c.current at.filed.current at.stands.current own.current free few is_name (new_at_step few)

  -- ---- queries

  named_alike : (es : List Version) (fs : List Filed) → Standing (IsHeld bits) x limit es fs → filed_shape fs ≡ alternatives_among es
  named_alike [] [] s = refl
  named_alike (e ∷ es) (f ∷ fs) s =
      let pair_of : Filed → List ℕ × Option (List ℕ) = λ f. (f.name, f.owner) in
      let entry_pair : Version → List ℕ × Option (List ℕ) = λ e. (e.name, e.owner) in
      let rest_of : List Filed = filter (λ f. is_alternative f.kind) fs in
      let entry_rest : List Version = filter (λ e. is_alternative e.kind) es in
      ap (λ k. map pair_of (cond (is_alternative k) (f ∷ rest_of) rest_of)) s.0.kind
      ∙ elim (is_alternative e.kind) as (λ b. map pair_of (cond b (f ∷ rest_of) rest_of) ≡ map entry_pair (cond b (e ∷ entry_rest) entry_rest)) [
        | true ↦ λ i. (s.0.name i, s.0.owner i) ∷ named_alike es fs s.1 i
        | false ↦ named_alike es fs s.1
      ]
  named_alike [] (f ∷ fs) s = absurd s
  named_alike (e ∷ es) [] s = absurd s

  -- the alternatives are those of the model
  pub alternatives_listed : alternatives_among working ≡ shape tree
  alternatives_listed = sym (named_alike working here.filed here.stands) ∙ sym (grown_shape [] here.filed) ∙ ap shape here.gives

  saved_alike : (alt : List ℕ) (es : List Version) (fs : List Filed) → Standing (IsHeld bits) x limit es fs → saved_names (map saved_of (filter (is_filed_under alt) fs)) ≡ checkpoints_among es alt
  saved_alike alt [] [] s = refl
  saved_alike alt (e ∷ es) (f ∷ fs) s =
      ap (λ b. saved_names (map saved_of (cond b (f ∷ filter (is_filed_under alt) fs) (filter (is_filed_under alt) fs)))) (agree_under (IsHeld bits) x limit alt e f s.0)
      ∙ elim (is_checkpoint_under alt e) as (λ b. saved_names (map saved_of (cond b (f ∷ filter (is_filed_under alt) fs) (filter (is_filed_under alt) fs))) ≡ map (λ (e : Version). e.name) (cond b (e ∷ filter (is_checkpoint_under alt) es) (filter (is_checkpoint_under alt) es))) [
        | true ↦ λ i. s.0.name i ∷ saved_alike alt es fs s.1 i
        | false ↦ saved_alike alt es fs s.1
      ]
  saved_alike alt [] (f ∷ fs) s = absurd s
  saved_alike alt (e ∷ es) [] s = absurd s

  -- the checkpoints are those of the model
  pub checkpoints_listed : (alt : List ℕ) (e : Version) → find (is_alternative_of alt) working ≡ Some e → Ok (checkpoints_among working alt) ≡ checkpoints_in tree alt
  checkpoints_listed alt e found =
      ap Ok (sym (saved_alike alt working here.filed here.stands)) ∙ sym (ap checkpoints_of (there alt e found).is)

  pub checkpoints_absent : (alt : List ℕ) → find (is_alternative_of alt) working ≡ None → Err NoSuchAlternative ≡ checkpoints_in tree alt
  checkpoints_absent alt none = sym (ap checkpoints_of (absent alt none))

-- ---- what a command did

module _ (working : List Version) (command : Command) where
  -- one that the model refuses
  pub refused : (refusal : Refusal) → IsOfEntries refusal → ((bits : List Bool) (x : Contents) (limit : ℕ) (tree : Tree) → StandFor bits x limit working tree → step tree command ≡ Err refusal)
      → Turns working working command (Err refusal)
  refused refusal own is = record {
    own = own;
    kept = refl;
    answers = λ bits x limit tree here. sym (ap answer_of (is bits x limit tree here));
    stand = λ bits x limit tree here. subst (StandFor bits x limit working) (sym (ap (tree_after tree) (is bits x limit tree here))) here;
  }

  -- one that the model accepts
  pub accepted : (changed : List Version) → ((bits : List Bool) (x : Contents) (limit : ℕ) (tree : Tree) (here : StandFor bits x limit working tree) → IsAccepted here command changed)
      → Turns working changed command (Ok Done)
  accepted changed is = record {
    own = tt;
    kept = tt;
    answers = λ bits x limit tree here. sym (is bits x limit tree here).0;
    stand = λ bits x limit tree here. (is bits x limit tree here).1;
  }

-- what was found, told by whether there is something
pub some_told : {X : Type 0} (o : Option X) → is_some o ≡ true → (x : X) × (o ≡ Some x)
some_told None is = absurd (false≢true is)
some_told (Some x) is = (x, refl)

pub none_told : {X : Type 0} (o : Option X) → is_some o ≡ false → o ≡ None
none_told None is = refl
none_told (Some x) is = absurd (true≢false is)

-- what a fact at Ok implies
pub if_ok_so : {T E : Type 0} (r : Result T E) (P Q : T → Type 0) → ((x : T) → P x → Q x) → IfOk r P → IfOk r Q
if_ok_so (Ok x) P Q so h = so x h
if_ok_so (Err e) P Q so h = tt

pub if_err_so : {T E : Type 0} (r : Result T E) (P Q : E → Type 0) → ((e : E) → P e → Q e) → IfErr r P → IfErr r Q
if_err_so (Ok x) P Q so h = tt
if_err_so (Err e) P Q so h = so e h
