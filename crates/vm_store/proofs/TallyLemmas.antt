-- The numbers of an alternative, from what was read of its trees and its parent's.
use Rattle.std.proofs.Common.{◌≡◌, ◌⊎◌, inl, inr, ℕ, Bool, true, false, ◌↔◌, IsTrue, List, [], length, map, Result, Ok, Err, IsOk, is_ok, refl, sym, ap, ◌∙◌, subst}
use Rattle.std.proofs.lemmas.Bool.{true≢false}
use Rattle.std.proofs.lemmas.List.{length-map}
use Rattle.vm_types.specs.declared.change.Change.{Change}
use Rattle.vm_types.specs.declared.key.Key.{Key}
use Rattle.vm_types.specs.declared.command.Command.TheVariants.{Post}
use Rattle.vm_types.specs.declared.refusal.Refusal.{Refusal}
use Rattle.vm_types.specs.declared.refusal.Refusal.TheVariants.{Device, Memory}
use Rattle.vm_types.specs.Map.{Map, IsMap, delta, conflicts, same_map}
use Rattle.vm_types.specs.State.{State}
use Rattle.vm_types.specs.Step.{step}
use Rattle.vm_types.specs.Tree.{Alternative}
use Rattle.vm_types.proofs.Maps.{same_map-Decides, delta-nil, delta-same}
use Rattle.vm_disk.specs.Disk.{Medium}
use Rattle.vm_block.specs.declared.selector.SlotName.{SlotName}
use Rattle.vm_store.specs.Answers.{IsDueOrWanting}
use Rattle.vm_store.specs.Pairs.{IsPair, LacksPair}
use Rattle.vm_store.specs.Rest.{Rests}
use Rattle.vm_store.specs.Sides.{ReadsOr}
use Rattle.vm_store.specs.Tallies.{tally_between, tally_with, tally_under, tally_of, tally_in}
use Rattle.vm_store.specs.declared.tally.Tally.{Tally}
use Rattle.vm_store.specs.declared.version.Version.{Version}
use Rattle.vm_store.proofs.GrownLemmas.{whole}
use Rattle.vm_store.proofs.PairLemmas.{base_map, called, own_map, own_there, parent_map, parent_there, post_refused, post_step, under}
use Rattle.vm_store.proofs.TurnLemmas.{absent, there}
use Rattle.vm_store.proofs.VersionLemmas.{standing}

-- a test whether the difference of maps is empty is one whether they are the same
none_differ : (test : Bool) (base parent : Map) → IsMap base → IsMap parent → IsTrue test ↔ (delta base parent ≡ []) → test ≡ same_map base parent
none_differ true base parent g h is = sym ((same_map-Decides base parent).1 (delta-nil base parent g h (is.0 refl)))
none_differ false base parent g h is = by_case (same_map base parent) refl
  where
    by_case : (same : Bool) → same_map base parent ≡ same → false ≡ same
    by_case true same = is.1 (delta-same base parent ((same_map-Decides base parent).0 same))
    by_case false same = refl

-- the lengths of the lists of both sides and of their conflicts are the numbers between their maps
pub counted : (base parent own : Map) → IsMap base → IsMap parent → (theirs mine : List Change) (keys : List Key)
    → theirs ≡ delta base parent → mine ≡ delta base own → keys ≡ map (λ c. c.key) (conflicts base parent own)
    → (tally : Tally) → tally.changed ≡ length mine → tally.unmerged ≡ length theirs → tally.conflicts ≡ length keys → (IsTrue tally.can_post ↔ (theirs ≡ []))
    → tally ≡ tally_between base parent own
counted base parent own g h theirs mine keys theirs_are mine_are keys_are tally changed unmerged in_conflict posted =
    let one : tally.changed ≡ length (delta base own) = changed ∙ ap length mine_are in
    let two : tally.unmerged ≡ length (delta base parent) = unmerged ∙ ap length theirs_are in
    let three : tally.conflicts ≡ length (conflicts base parent own) = in_conflict ∙ ap length keys_are ∙ length-map (conflicts base parent own) (λ c. c.key) in
    let four : tally.can_post ≡ same_map base parent = none_differ tally.can_post base parent g h (subst (λ (l : List Change). IsTrue tally.can_post ↔ (l ≡ [])) theirs_are posted) in
    λ i. record { changed = one i; unmerged = two i; conflicts = three i; can_post = four i }

module _ (m : Medium) (limit : ℕ) (slot_name : SlotName) (bits : List Bool) (committed working : List Version) (s : State)
    (rests : Rests m limit slot_name bits committed working s) (alt : List ℕ) where
  -- why there is no alternative with a parent is why it has no numbers
  pub tally_lacking : (refusal : Refusal) → LacksPair working alt refusal → tally_in s.working alt ≡ Err refusal
  tally_lacking refusal (inl none) = ap (tally_of s.working) (absent (standing rests) alt none.1) ∙ ap Err (sym none.0)
  tally_lacking refusal (inr (own, found, inl top)) =
      let at = there (standing rests) alt own found in
      ap (tally_of s.working) at.is ∙ ap (λ o. tally_under s.working o (whole alt rests.new at.filed)) (at.stands.owner ∙ top.1) ∙ ap Err (sym top.0)
  tally_lacking refusal (inr (own, found, inr gone)) =
      let at = there (standing rests) alt own found in
      ap (tally_of s.working) at.is ∙ ap (λ o. tally_under s.working o (whole alt rests.new at.filed)) (at.stands.owner ∙ gone.1)
      ∙ ap (λ o. tally_with s.working o (whole alt rests.new at.filed)) (absent (standing rests) gone.0 gone.3) ∙ ap Err (sym gone.2)

  module _ (pair : Version × Version) (is : IsPair working alt pair) where
    abbrev base : Map
    base = base_map m limit slot_name bits committed working s rests alt pair is

    abbrev own : Map
    own = own_map m limit slot_name bits committed working s rests alt pair is

    abbrev parent : Map
    parent = parent_map m limit slot_name bits committed working s rests alt pair is

    -- the model accepts a Post just where base and parent are the same
    posted : is_ok (step s.working (Post alt)) ≡ same_map base parent
    posted = by_case (same_map base parent) refl
      where
        by_case : (b : Bool) → same_map base parent ≡ b → is_ok (step s.working (Post alt)) ≡ b
        by_case true same = ap is_ok (post_step m limit slot_name bits committed working s rests alt pair is ((same_map-Decides base parent).0 same))
        by_case false other =
            let apart : ¬ (base ≡ parent) = λ same. true≢false (sym ((same_map-Decides base parent).1 same) ∙ other) in
            ap is_ok (post_refused m limit slot_name bits committed working s rests alt pair is apart)

    -- the alternative that was found has the name by which it was looked for
    named_so : (whole alt rests.new (own_there m limit slot_name bits committed working s rests alt pair is).filed).name ≡ alt
    named_so = (own_there m limit slot_name bits committed working s rests alt pair is).stands.name ∙ called working alt pair.0 is.own

    -- the numbers of an alternative that has a parent
    pub tally_there : tally_in s.working alt ≡ Ok (tally_between base parent own)
    tally_there =
        let a : Alternative = whole alt rests.new (own_there m limit slot_name bits committed working s rests alt pair is).filed in
        let post : is_ok (step s.working (Post a.name)) ≡ same_map base parent = ap (λ (n : List ℕ). is_ok (step s.working (Post n))) named_so ∙ posted in
        ap (tally_of s.working) (own_there m limit slot_name bits committed working s rests alt pair is).is
        ∙ ap (λ o. tally_under s.working o a) (under m limit slot_name bits committed working s rests alt pair is)
        ∙ ap (λ o. tally_with s.working o a) (parent_there m limit slot_name bits committed working s rests alt pair is).is
        ∙ ap Ok (λ i. record { changed = length (delta base own); unmerged = length (delta base parent); conflicts = length (conflicts base parent own); can_post = post i })

    -- so they are what is due, where they were counted, or the device failed or memory was wanting
    pub tallied : (result : Result Tally Refusal) → ReadsOr result (λ tally. tally ≡ tally_between base parent own) (λ r. ⊥)
        → IsDueOrWanting result (tally_in s.working alt)
    tallied (Ok tally) read = inr (ap Ok read ∙ sym tally_there)
    tallied (Err e) read = by_case read
      where
        by_case : (e ≡ Device) ⊎ ((e ≡ Memory) ⊎ ⊥) → IsDueOrWanting (Err e) (tally_in s.working alt)
        by_case (inl device) = inl (subst IsOk (sym tally_there) refl, inl (ap Err device))
        by_case (inr (inl memory)) = inl (subst IsOk (sym tally_there) refl, inr (ap Err memory))
        by_case (inr (inr never)) = absurd never
