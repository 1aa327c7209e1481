-- What a store stands for, through the commands on an alternative and its parent.
use Rattle.std.proofs.Common.{◌≡◌, inl, inr, ℕ, ◌<◌, ◌^◌, Bool, true, false, not, ◌&&◌, List, [], find, Some, Ok, Err, codes, IsTrue, refl, sym, ap, ◌∙◌, subst}
use Rattle.std.specs.Str.{bytes_eq}
use Rattle.std.proofs.lemmas.Bool.{false≢true, true≢false}
use Rattle.std.proofs.lemmas.Slice.Eq.{bytes_eq-Decides}
use Rattle.vm_types.specs.Firsts.{change_first}
use Rattle.vm_types.specs.Map.{Map, IsMap, delta, conflicts, same_map}
use Rattle.vm_types.specs.State.{State, next}
use Rattle.vm_types.specs.Step.{Outcome, or_refuse, done, step}
use Rattle.vm_types.specs.Tree.{Tree, Alternative, named, changed}
use Rattle.vm_types.specs.declared.answer.Answer.TheVariants.{Done}
use Rattle.vm_types.specs.declared.command.Command.TheVariants.{Post}
use Rattle.vm_types.specs.declared.refusal.Refusal.{Refusal}
use Rattle.vm_types.specs.declared.refusal.Refusal.TheVariants.{NoSuchAlternative, IsTop, NotMerged}
use Rattle.vm_types.proofs.FirstsLemmas.{find_passes}
use Rattle.vm_types.proofs.Maps.{same_map-Decides, delta-nil, delta-same}
use Rattle.vm_types.proofs.Steps.{or_refuse-none, or_refuse-some, refuse_if-true, post_accepted}
use Rattle.vm_disk.specs.Disk.{Medium}
use Rattle.vm_alloc.specs.Held.{IsHeld}
use Rattle.vm_block.specs.Slot as slot
use Rattle.vm_block.specs.Slot.{SlotFits, is_alternative}
use Rattle.vm_block.specs.declared.selector.SlotName.{SlotName}
use Rattle.vm_types.specs.Queries.{conflicts_with, conflicts_under, conflicts_of, conflicts_in}
use Rattle.vm_store.specs.Pairs.{IsPair, LacksPair}
use Rattle.vm_store.specs.Rest.{Rests}
use Rattle.vm_store.specs.Versions.{entry_of, slot_entries, is_alternative_of, with_current, with_base}
use Rattle.vm_store.specs.declared.version.Version.{Version}
use Rattle.vm_store.proofs.FiledLemmas.{is_filed, refiled, recurrent, refiled_both, with_maps, grown_turned, grown_changed}
use Rattle.vm_store.proofs.GrownLemmas.{whole}
use Rattle.vm_store.proofs.LedgerLemmas as ledger
use Rattle.vm_store.proofs.LedgerLemmas.{alike_turned, alike_based, fits_alike}
use Rattle.vm_store.proofs.LedgerMoves.{owned_not_top}
use Rattle.vm_store.proofs.MovedLemmas.{agree_alternative, standing_first}
use Rattle.vm_store.proofs.SlotLemmas.{slot_changed}
use Rattle.vm_store.proofs.TurnLemmas.{IsThere, there, absent, fits_of, entry_found}
use Rattle.vm_store.proofs.VersionLemmas.{stepped, standing}

-- an alternative that was found by a name has that name
pub called : (vs : List Version) (name : List ℕ) (v : Version) → find (is_alternative_of name) vs ≡ Some v → v.name ≡ name
called vs name v found = (bytes_eq-Decides v.name name).0 (last (is_alternative v.kind) (bytes_eq v.name name) (find_passes (is_alternative_of name) vs v found))
  where
    last : (a b : Bool) → (a && b) ≡ true → b ≡ true
    last true b h = h
    last false b h = absurd (false≢true h)

pub is_pair : (vs : List Version) (alt parent : List ℕ) (own above : Version) → find (is_alternative_of alt) vs ≡ Some own → own.owner ≡ Some parent → find (is_alternative_of parent) vs ≡ Some above → IsPair vs alt (own, above)
is_pair vs alt parent own above found owner there = record {
  own = found;
  owner = owner ∙ ap Some (sym (called vs parent above there));
  parent = subst (λ (n : List ℕ). find (is_alternative_of n) vs ≡ Some above) (sym (called vs parent above there)) there;
}

module _ (m : Medium) (limit : ℕ) (slot_name : SlotName) (bits : List Bool) (committed working : List Version) (s : State)
    (rests : Rests m limit slot_name bits committed working s) (alt : List ℕ) where
  -- what the model does with an alternative and its parent
  abbrev with_parent : (Alternative → List ℕ → Alternative → Outcome) → Outcome
  with_parent rest =
      or_refuse (named s.working alt) NoSuchAlternative (λ a. or_refuse a.parent IsTop (λ parent. or_refuse (named s.working parent) NoSuchAlternative (λ p. rest a parent p)))

  -- why there are no such two is why the model refuses
  pub lacking : (rest : Alternative → List ℕ → Alternative → Outcome) (refusal : Refusal) → LacksPair working alt refusal → with_parent rest ≡ Err refusal
  lacking rest refusal (inl none) = or_refuse-none _ _ _ (absent (standing rests) alt none.1) ∙ ap Err (sym none.0)
  lacking rest refusal (inr (own, found, inl top)) =
      let at = there (standing rests) alt own found in
      or_refuse-some _ _ _ _ at.is ∙ or_refuse-none _ _ _ (at.stands.owner ∙ top.1) ∙ ap Err (sym top.0)
  lacking rest refusal (inr (own, found, inr gone)) =
      let at = there (standing rests) alt own found in
      or_refuse-some _ _ _ _ at.is ∙ or_refuse-some _ gone.0 _ _ (at.stands.owner ∙ gone.1)
      ∙ or_refuse-none _ _ _ (absent (standing rests) gone.0 gone.3) ∙ ap Err (sym gone.2)

  -- and why their conflicts can't be asked for
  pub conflicts_lacking : (refusal : Refusal) → LacksPair working alt refusal → conflicts_in s.working alt ≡ Err refusal
  conflicts_lacking refusal (inl none) = ap (conflicts_of s.working) (absent (standing rests) alt none.1) ∙ ap Err (sym none.0)
  conflicts_lacking refusal (inr (own, found, inl top)) =
      let at = there (standing rests) alt own found in
      ap (conflicts_of s.working) at.is ∙ ap (λ o. conflicts_under s.working o (whole alt rests.new at.filed)) (at.stands.owner ∙ top.1) ∙ ap Err (sym top.0)
  conflicts_lacking refusal (inr (own, found, inr gone)) =
      let at = there (standing rests) alt own found in
      ap (conflicts_of s.working) at.is ∙ ap (λ o. conflicts_under s.working o (whole alt rests.new at.filed)) (at.stands.owner ∙ gone.1)
      ∙ ap (λ o. conflicts_with o (whole alt rests.new at.filed)) (absent (standing rests) gone.0 gone.3) ∙ ap Err (sym gone.2)

  module _ (pair : Version × Version) (is : IsPair working alt pair) where
    -- the alternative, and its parent
    abbrev pub own_there : IsThere (standing rests) alt pair.0
    own_there = there (standing rests) alt pair.0 is.own

    abbrev pub parent_there : IsThere (standing rests) pair.1.name pair.1
    parent_there = there (standing rests) pair.1.name pair.1 is.parent

    -- the three maps
    abbrev pub base_map : Map
    base_map = own_there.filed.base

    abbrev pub own_map : Map
    own_map = own_there.filed.current

    abbrev pub parent_map : Map
    parent_map = parent_there.filed.current

    pub under : (whole alt rests.new own_there.filed).parent ≡ Some pair.1.name
    under = own_there.stands.owner ∙ is.owner

    pub conflicts_there : conflicts_in s.working alt ≡ Ok (conflicts base_map parent_map own_map)
    conflicts_there =
        ap (conflicts_of s.working) own_there.is ∙ ap (λ o. conflicts_under s.working o (whole alt rests.new own_there.filed)) under
        ∙ ap (λ o. conflicts_with o (whole alt rests.new own_there.filed)) parent_there.is

    -- an alternative with a parent is not the first one
    pub not_top : alt ≡ codes "top" → ⊥
    not_top same = owned_not_top (slot_entries working) alt (entry_of pair.0) pair.1.name rests.fits.ledger (entry_found (standing rests) alt pair.0 is.own) is.owner same

    own_small : pair.0.current.block < 2 ^ 32
    own_small = (fits_of (standing rests) (is_alternative_of alt) (slot.is_alternative_of alt) (λ v. refl) pair.0 is.own).current

    -- ---- Post

    abbrev posted_tree : Tree
    posted_tree = changed (changed s.working pair.1.name (λ x. record x { current = own_map })) alt (λ x. record x { base = own_map })

    abbrev posted : List Version
    posted = change_first (is_alternative_of alt) (with_base pair.0.current) (change_first (is_alternative_of pair.1.name) (with_current pair.0.current) working)

    pub post_step : base_map ≡ parent_map → step s.working (Post alt) ≡ done posted_tree
    post_step same = post_accepted s.working alt _ own_there.is pair.1.name _ under parent_there.is ((same_map-Decides base_map parent_map).1 same)

    pub post_refused : (base_map ≡ parent_map → ⊥) → step s.working (Post alt) ≡ Err NotMerged
    post_refused other =
        or_refuse-some _ _ _ _ own_there.is ∙ or_refuse-some _ _ _ _ under ∙ or_refuse-some _ _ _ _ parent_there.is
        ∙ refuse_if-true _ _ _ (ap not (differs (same_map base_map parent_map) (λ yes. other ((same_map-Decides base_map parent_map).0 yes))))
      where
        differs : (b : Bool) → (b ≡ true → ⊥) → b ≡ false
        differs true never = absurd (never refl)
        differs false never = refl

    pub post_rests : base_map ≡ parent_map → Rests m limit slot_name bits committed posted (next s (Post alt) (Ok Done))
    post_rests same =
        let first = change_first (is_filed pair.1.name) (refiled (λ _. own_map)) rests.new in
        let turned = change_first (is_alternative_of pair.1.name) (with_current pair.0.current) working in
        stepped m limit slot_name bits committed working s rests (Post alt) posted (change_first (is_filed alt) (refiled_both (λ c. c) (λ _. own_map)) first) posted_tree refl (post_step same)
        (subst (SlotFits limit) (sym (slot_changed (is_alternative_of alt) (slot.is_alternative_of alt) (λ v. refl) (with_base pair.0.current) (ledger.with_base pair.0.current.block) (λ v. refl) turned))
        (fits_alike limit (slot_entries turned) _ (alike_based alt pair.0.current.block own_small not_top (slot_entries turned))
        (subst (SlotFits limit) (sym (slot_changed (is_alternative_of pair.1.name) (slot.is_alternative_of pair.1.name) (λ v. refl) (with_current pair.0.current) (ledger.with_current pair.0.current.block) (λ v. refl) working))
        (fits_alike limit (slot_entries working) _ (alike_turned (slot.is_alternative_of pair.1.name) pair.0.current.block own_small (slot_entries working)) rests.fits))))
        (standing_first (IsHeld bits) m.contents limit (is_alternative_of alt) (is_filed alt) (agree_alternative (IsHeld bits) m.contents limit alt) (with_base pair.0.current) (refiled_both (λ c. c) (λ _. own_map)) turned first
        (standing_first (IsHeld bits) m.contents limit (is_alternative_of pair.1.name) (is_filed pair.1.name) (agree_alternative (IsHeld bits) m.contents limit pair.1.name) (with_current pair.0.current) (refiled (λ _. own_map)) working rests.new rests.stands
        (λ d f stands. record { kind = stands.kind; name = stands.name; owner = stands.owner; current = own_there.stands.current; base = stands.base }))
        (λ d f stands. record { kind = stands.kind; name = stands.name; owner = stands.owner; current = stands.current; base = own_there.stands.current }))
        (grown_turned alt (λ c. c) (λ _. own_map) [] first refl
        ∙ ap (λ (t : Tree). changed t alt (with_maps (λ c. c) (λ _. own_map))) (grown_changed pair.1.name (λ _. own_map) [] rests.new refl ∙ ap (λ (t : Tree). changed t pair.1.name (recurrent (λ _. own_map))) rests.gives_new))

-- whether two maps are equal, told by whether they differ nowhere
pub told_equal : (b : Bool) (m n : Map) → IsMap m → IsMap n → (IsTrue b → delta m n ≡ []) × (delta m n ≡ [] → IsTrue b) → b ≡ true → m ≡ n
told_equal b m n g h told is = delta-nil m n g h (told.0 is)

pub told_other : (b : Bool) (m n : Map) → (IsTrue b → delta m n ≡ []) × (delta m n ≡ [] → IsTrue b) → b ≡ false → m ≡ n → ⊥
told_other b m n told is same = true≢false (sym (told.1 (delta-same m n same)) ∙ is)
