-- What a Remove answers, and what the store stands for after it.
use Rattle.std.proofs.Common.{◌≡◌, ◌⊎◌, inl, inr, ℕ, ◌≤◌, nat_lt, Bool, true, false, List, Option, Some, None, is_some, IsTrue, Result, Ok, Err, refl, sym, ap, ◌∙◌, subst}
use Rattle.vm_types.specs.declared.answer.Answer.{Answer}
use Rattle.vm_types.specs.declared.answer.Answer.TheVariants.{Done}
use Rattle.vm_types.specs.declared.command.Command.TheVariants.{Remove}
use Rattle.vm_types.specs.declared.key.Key.{Key}
use Rattle.vm_types.specs.declared.refusal.Refusal.{Refusal}
use Rattle.vm_types.specs.declared.refusal.Refusal.TheVariants.{Device, NoSuchAlternative, NoSuchRecord, Full}
use Rattle.vm_types.specs.Map.{get, without}
use Rattle.vm_types.specs.Tree.{Tree, Alternative, named, changed}
use Rattle.vm_types.specs.Step.{Outcome, step, done, or_refuse}
use Rattle.vm_types.specs.State.{State}
use Rattle.vm_disk.specs.Disk.{DiskState, Medium}
use Rattle.vm_disk.specs.Moments.{OnlyReads}
use Rattle.vm_disk.proofs.MomentLemmas.{same_medium}
use Rattle.vm_block.specs.declared.selector.SlotName.{SlotName}
use Rattle.vm_tree.specs.Answers.{Removes}
use Rattle.vm_store.specs.declared.version.Version.{Version}
use Rattle.vm_tree.specs.Faults.{refusal_of}
use Rattle.vm_store.specs.Rest.{HoldsWith, spare_of}
use Rattle.vm_types.specs.Queries.{value_in, value_of}
use Rattle.vm_store.specs.Answers.{IsDue, IsAnswer}
use Rattle.vm_tree.specs.declared.faults.TreeFault.{TreeFault}
use Rattle.vm_tree.specs.declared.faults.TreeFault.TheVariants as fault

module _ (tree : Tree) (name : List ℕ) (key : Key) where
  -- the tree without the record
  abbrev lesser : Tree
  lesser = changed tree name (λ x. record x { current = without x.current key })

  abbrev rest_of : Alternative → Outcome
  rest_of a = or_refuse (get a.current key) NoSuchRecord (λ _. done lesser)

  -- what the model says of a Remove, by the value that the alternative has at the key
  step_by : (o : Option Alternative) (value : Option (List ℕ)) → Ok value ≡ value_of o key → or_refuse o NoSuchAlternative rest_of ≡ or_refuse value NoSuchRecord (λ _. done lesser)
  unfolding or_refuse
  step_by None value is = cc
  step_by (Some a) value is = let same : value ≡ get a.current key = cc in ap (λ v. or_refuse v NoSuchRecord (λ _. done lesser)) (sym same)

  pub step_there : (value : List ℕ) → Ok (Some value) ≡ value_in tree name key → step tree (Remove name key) ≡ Ok (lesser, Done)
  unfolding or_refuse
  step_there value is = step_by (named tree name) (Some value) is

  step_missing : Ok None ≡ value_in tree name key → step tree (Remove name key) ≡ Err NoSuchRecord
  unfolding or_refuse
  step_missing is = step_by (named tree name) None is

  absent_by : (o : Option Alternative) → Err NoSuchAlternative ≡ value_of o key → or_refuse o NoSuchAlternative rest_of ≡ Err NoSuchAlternative
  unfolding or_refuse
  absent_by None is = refl
  absent_by (Some a) is = cc

  step_absent : Err NoSuchAlternative ≡ value_in tree name key → step tree (Remove name key) ≡ Err NoSuchAlternative
  step_absent is = absent_by (named tree name) is

module _ (s : State) (name : List ℕ) (key : Key) (spare : ℕ) (deep : Type 0) where
  refused : (r : Refusal) → step s.working (Remove name key) ≡ Err r → IsAnswer s spare deep (Remove name key) (Err r)
  refused r is = inr (subst (λ o. IsDue o (nat_lt spare 17) deep (Err r)) (sym is) refl)

  -- a Remove from no alternative
  pub removes_absent : Err NoSuchAlternative ≡ value_in s.working name key → IsAnswer s spare deep (Remove name key) (Err NoSuchAlternative)
  removes_absent is = refused NoSuchAlternative (step_absent s.working name key is)

  -- a Remove of a key that is absent
  pub removes_missing : Ok None ≡ value_in s.working name key → IsAnswer s spare deep (Remove name key) (Err NoSuchRecord)
  removes_missing is = refused NoSuchRecord (step_missing s.working name key is)

  module _ (value : List ℕ) (is : Ok (Some value) ≡ value_in s.working name key) where
    accepts : step s.working (Remove name key) ≡ Ok (changed s.working name (λ x. record x { current = without x.current key }), Done)
    accepts = step_there s.working name key value is

    -- a Remove for which too few blocks are spare
    pub removes_full : nat_lt spare 17 ≡ true → IsAnswer s spare deep (Remove name key) (Err Full)
    removes_full full =
        inr (subst (λ o. IsDue o (nat_lt spare 17) deep (Err Full)) (sym accepts)
        (subst (λ (b : Bool). IsDue (Ok (changed s.working name (λ x. record x { current = without x.current key }), Done)) b deep (Err Full)) (sym full) refl))

    -- a Remove that is carried out
    pub removes_done : nat_lt spare 17 ≡ false → (deep → ⊥) → IsAnswer s spare deep (Remove name key) (Ok Done)
    removes_done room shallow =
        inr (subst (λ o. IsDue o (nat_lt spare 17) deep (Ok Done)) (sym accepts)
        (subst (λ (b : Bool). IsDue (Ok (changed s.working name (λ x. record x { current = without x.current key }), Done)) b deep (Ok Done)) (sym room) (inl (refl, shallow))))

  -- an answer where so many blocks are spare, and where as many are
  pub removes_alike : (other : ℕ) (r : Result Answer Refusal) → nat_lt spare 17 ≡ false → nat_lt other 17 ≡ false → IsAnswer s spare deep (Remove name key) r → IsAnswer s other deep (Remove name key) r
  removes_alike other r room more answer = subst (λ (b : Bool). (r ≡ Err Device) ⊎ IsDue (step s.working (Remove name key)) b deep r) (room ∙ sym more) answer

  -- a Remove that the device fails
  pub removes_device : (f : TreeFault) → f ≡ fault.Device → IsAnswer s spare deep (Remove name key) (Err (refusal_of f))
  removes_device f device = inl (ap Err (ap refusal_of device))

-- ---- what is known between the look-up and the Remove

-- a test whether so many blocks are spare, before reads and after them
pub spare_after : {kept : ℕ} {marked : Bool} (old new : DiskState) (limit : ℕ) (slot_name : SlotName) (bits before : List Bool) (series : Option (List ℕ)) (committed working : List Version) (s : State) (count : ℕ) (b : Bool) → OnlyReads old new
    → ((s : State) (holds : HoldsWith new.now limit kept slot_name bits before series marked committed working s) → (IsTrue b → count ≤ spare_of holds.rests) × (count ≤ spare_of holds.rests → IsTrue b))
    → (holds : HoldsWith old.now limit kept slot_name bits before series marked committed working s) → (IsTrue b → count ≤ spare_of holds.rests) × (count ≤ spare_of holds.rests → IsTrue b)
spare_after {kept} {marked} old new limit slot_name bits before series committed working s count b reads test =
    let T : Medium → Type 0 = λ m. (holds : HoldsWith m limit kept slot_name bits before series marked committed working s) → (IsTrue b → count ≤ spare_of holds.rests) × (count ≤ spare_of holds.rests → IsTrue b) in
    subst T (same_medium old new reads) (test s)

-- as many blocks are free as are spare, before reads and after them
pub spare_free : {kept : ℕ} {marked : Bool} (old new : DiskState) (limit : ℕ) (slot_name : SlotName) (bits before : List Bool) (series : Option (List ℕ)) (committed working : List Version) (s : State) (free : ℕ) → OnlyReads old new
    → ((s : State) (holds : HoldsWith new.now limit kept slot_name bits before series marked committed working s) → free ≡ spare_of holds.rests)
    → (holds : HoldsWith old.now limit kept slot_name bits before series marked committed working s) → free ≡ spare_of holds.rests
spare_free {kept} {marked} old new limit slot_name bits before series committed working s free reads same =
    let T : Medium → Type 0 = λ m. (holds : HoldsWith m limit kept slot_name bits before series marked committed working s) → free ≡ spare_of holds.rests in
    subst T (same_medium old new reads) (same s)

-- a record that is told to be there, and one that is told to be absent
pub is_there : {T : Type 0} (o : Option T) → true ≡ is_some o → (value : T) × (Some value ≡ o)
is_there None told = cc
is_there (Some value) told = (value, refl)

pub is_absent : {T : Type 0} (o : Option T) → false ≡ is_some o → None ≡ o
is_absent None told = refl
is_absent (Some value) told = cc

-- the root that a Remove answered
pub removed_root : {T : Type 0} (found : Option T) (root : T) (absent : Type 0) (P : T → Type 0) → found ≡ Some root → Removes (Ok found) absent P → P root
removed_root None root absent P is h = cc
removed_root (Some r) root absent P is h = let same : r ≡ root = cc in subst P same h.1

-- one of two reasons, where the other one fails
pub for_reason : {A B : Type 0} → A ⊎ B → (B → ⊥) → A
for_reason (inl a) never = a
for_reason (inr b) never = absurd (never b)

-- a value that is not none is some
pub some_value : {T : Type 0} (o : Option T) → (o ≡ None → ⊥) → (value : T) × (o ≡ Some value)
some_value None there = absurd (there refl)
some_value (Some value) there = (value, refl)

-- that the key was not absent
pub removed_there : {T : Type 0} (found : Option T) (root : T) (absent : Type 0) (P : T → Type 0) → found ≡ Some root → Removes (Ok found) absent P → absent → ⊥
removed_there None root absent P is h = cc
removed_there (Some r) root absent P is h = h.0

-- that the key was absent
pub removed_none : {T : Type 0} (found : Option T) (absent : Type 0) (P : T → Type 0) → found ≡ None → Removes (Ok found) absent P → absent
removed_none None absent P is h = h
removed_none (Some r) absent P is h = cc
