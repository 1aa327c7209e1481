-- The numbers of a check: each alternative is found by its own name, so the lengths of the lists of checkpoints add up.
use Rattle.std.proofs.Common.{◌≡◌, ◌⊎◌, ◌<◌, ◌≤◌, ◌+◌, ◌-◌, ◌^◌, ◌∙◌, inl, inr, min, ℕ, zero, suc, Bool, true, false, cond, List, [], ◌∷◌, ◌++◌, length, take, Option, Some, None, unwrap_or, Result, Ok, Err, IfErr, IfOk, is_some, true≢false, refl, sym, ap, subst, arith}
use Rattle.std.specs.Prelude.{slice_index_or}
use Rattle.std.proofs.lemmas.List.{get_or-map, length-map, take_all}
use Rattle.std.proofs.lemmas.List.Sums.{sum_by-cons, sum_by_more, sum_by_more_le}
use Rattle.std.proofs.Math.Nat.{min-eq_left}
use Rattle.std.proofs.lemmas.Slice.Eq.{bytes_eq-Decides}
use Rattle.std.specs.Str.{bytes_eq}
use Rattle.vm_types.specs.declared.refusal.Refusal.{Refusal}
use Rattle.vm_types.specs.declared.refusal.Refusal.TheVariants.{Memory}
use Rattle.vm_types.specs.Queries.{checkpoints_in, checkpoints_of}
use Rattle.vm_types.specs.Shape.{saved_names, shape}
use Rattle.vm_types.specs.State.{State, opened}
use Rattle.vm_types.specs.Tree.{Alternative, Saved, Tree, changed, entry_count, named}
use Rattle.vm_disk.specs.Disk.{Contents}
use Rattle.vm_disk.specs.declared.disk.Disk.{Ghosts}
use Rattle.vm_store.specs.Answers.{IsDueOrMemory}
use Rattle.vm_store.specs.Filed.{Filed, add, bare, with_filed, saved_of, with_saved}
use Rattle.vm_store.specs.Recovery.{OpensWhole}
use Rattle.vm_store.specs.Store.{Holds, disk_of, free_of}
use Rattle.vm_store.specs.declared.store.Store.{Store}
use Rattle.vm_store.proofs.FiledLemmas.{named_back}
use Rattle.vm_store.proofs.GrownLemmas.{InOrder, MayBeAdded, count_grown, not_eq}
use Rattle.vm_store.proofs.MovedLemmas.{standing_length}
use Rattle.vm_store.proofs.SlotLemmas.{slot-length}
use Rattle.vm_store.proofs.TurnLemmas.{in_order}
use Rattle.vm_store.proofs.VersionLemmas.{standing}
use Rattle.vm_cli.specs.program.StoreCounts.{IsCounted, checkpoint_count}
use Rattle.vm_cli.specs.declared.program.store_counts.Counts.{Counts}

-- no alternative is called like an earlier one
abbrev Apart : Tree → Type 0
Apart [] = Unit {0}
Apart (a ∷ t) = (is_some (named t a.name) ≡ false) × Apart t

-- a checkpoint more changes no name
still : (n o : List ℕ) (c : Saved) (t : Tree) → is_some (named (changed t o (with_saved c)) n) ≡ is_some (named t n)
still n o c [] = refl
still n o c (a ∷ t) = elim (bytes_eq a.name o) as (λ b. is_some (named (cond b (with_saved c a ∷ t) (a ∷ changed t o (with_saved c))) n) ≡ is_some (cond (bytes_eq a.name n) (Some a) (named t n))) [
  | true ↦ here (bytes_eq a.name n)
  | false ↦ later (bytes_eq a.name n) (still n o c t)
]
  where
    here : (x : Bool) → is_some (cond x (Some (with_saved c a)) (named t n)) ≡ is_some (cond x (Some a) (named t n))
    here true = refl
    here false = refl

    later : (x : Bool) → is_some (named (changed t o (with_saved c)) n) ≡ is_some (named t n)
        → is_some (cond x (Some a) (named (changed t o (with_saved c)) n)) ≡ is_some (cond x (Some a) (named t n))
    later true rest = refl
    later false rest = rest

apart_saved : (o : List ℕ) (c : Saved) (t : Tree) → Apart t → Apart (changed t o (with_saved c))
apart_saved o c [] h = tt
apart_saved o c (a ∷ t) h = elim (bytes_eq a.name o) as (λ b. Apart (cond b (with_saved c a ∷ t) (a ∷ changed t o (with_saved c)))) [
  | true ↦ (h.0, h.1)
  | false ↦ (still a.name o c t ∙ h.0, apart_saved o c t h.1)
]

-- a new name at the end
apart_more : (t : Tree) (b : Alternative) → Apart t → is_some (named t b.name) ≡ false → Apart (t ++ b ∷ [])
apart_more [] b h new = (refl, tt)
apart_more (a ∷ t) b h new = go (apart_more t b h.1) (bytes_eq a.name b.name) refl
  where
    go : (is_some (named t b.name) ≡ false → Apart (t ++ b ∷ [])) → (x : Bool) → bytes_eq a.name b.name ≡ x → Apart (a ∷ (t ++ b ∷ []))
    go rest true is = absurd (true≢false (subst (λ x. is_some (cond x (Some a) (named t b.name)) ≡ false) is new))
    go rest false is =
        let other : is_some (named t b.name) ≡ false = subst (λ x. is_some (cond x (Some a) (named t b.name)) ≡ false) is new in
        let differ : bytes_eq b.name a.name ≡ false = not_eq b.name a.name (λ same. true≢false (sym ((bytes_eq-Decides a.name b.name).1 (sym same)) ∙ is)) in
        let last : is_some (named (b ∷ []) a.name) ≡ false = ap (λ x. is_some (cond x (Some b) None)) differ in
        (ap is_some (named_back a.name t (b ∷ []) h.0) ∙ last, rest other)

either : (b : Bool) (t u : Tree) → (b ≡ true → Apart t) → (b ≡ false → Apart u) → Apart (cond b t u)
either true t u first second = first refl
either false t u first second = second refl

apart_add : (t : Tree) (f : Filed) → Apart t → MayBeAdded t f → Apart (add t f)
apart_add t f h may = either _ _ _ (λ is. apart_more t (bare f) h (may.new is)) (λ is.
    let owned = may.owned is in
    subst (λ o. Apart (changed t (unwrap_or o []) (with_saved (saved_of f)))) (sym owned.1) (apart_saved owned.0 (saved_of f) t h))

apart_grown : (t : Tree) (fs : List Filed) → Apart t → InOrder t fs → Apart (with_filed t fs)
apart_grown t [] h order = h
apart_grown t (f ∷ fs) h order = apart_grown (add t f) fs (apart_add t f h order.0) order.1

-- then each is found by its name
found_at : (t : Tree) (i : ℕ) (d : Alternative) → Apart t → i < length t → named t (slice_index_or t i d).name ≡ Some (slice_index_or t i d)
found_at [] i d h lt = absurd (omega arith)
found_at (a ∷ t) zero d h lt = subst (λ x. cond x (Some a) (named t a.name) ≡ Some a) (sym ((bytes_eq-Decides a.name a.name).1 refl)) refl
found_at (a ∷ t) (suc i) d h lt = go (slice_index_or t i d) (found_at t i d h.1 (omega arith)) (bytes_eq a.name (slice_index_or t i d).name) refl
  where
    go : (this : Alternative) → named t this.name ≡ Some this → (x : Bool) → bytes_eq a.name this.name ≡ x → cond x (Some a) (named t this.name) ≡ Some this
    go this behind true is =
        let same : a.name ≡ this.name = (bytes_eq-Decides a.name this.name).0 is in
        let none : is_some (named t this.name) ≡ false = subst (λ (n : List ℕ). is_some (named t n) ≡ false) same h.0 in
        absurd (true≢false (sym (ap is_some behind) ∙ none))
    go this behind false is = behind

-- the alternatives are among all entries, and so are their checkpoints
few_among : (t : Tree) → checkpoint_count t ≤ entry_count t
few_among [] =
    let counted : checkpoint_count [] ≡ 0 = refl in
    let entries : entry_count [] ≡ 0 = refl in
    omega arith
few_among (a ∷ t) =
    let rest = few_among t in
    let counted : checkpoint_count (a ∷ t) ≡ length a.saved + checkpoint_count t = sum_by-cons (λ (x : Alternative). length x.saved) a t in
    let entries : entry_count (a ∷ t) ≡ (1 + length a.saved) + entry_count t = sum_by-cons (λ (x : Alternative). 1 + length x.saved) a t in
    omega arith

-- no alternative
pub nothing : Alternative
nothing = record { name = []; parent = None; current = []; base = []; saved = [] }

module _ {D : Type 0} {members : _} (store : Store D members) (s : State) (holds : Holds store s) where
  order : InOrder [] holds.rests.new
  order = in_order (standing holds.rests)

  apart : Apart s.working
  apart = subst Apart holds.rests.gives_new (apart_grown [] holds.rests.new tt order)

  -- there are few checkpoints
  few : checkpoint_count s.working ≤ 511
  few =
      let counted : entry_count (with_filed [] holds.rests.new) ≡ entry_count [] + length holds.rests.new = count_grown [] holds.rests.new order in
      let none : entry_count [] ≡ 0 = refl in
      let long : length holds.rests.new ≡ length store.parts.working =
      standing_length _ _ _ store.parts.working holds.rests.new holds.rests.stands in
      let same : entry_count (with_filed [] holds.rests.new) ≡ entry_count s.working = ap entry_count holds.rests.gives_new in
      let entries : length store.parts.working ≤ 511 = subst (λ n. n ≤ 511) (slot-length store.parts.working) holds.rests.fits.head.few in
      let among = few_among s.working in
      omega arith

  module _ (listed : List (List ℕ × Option (List ℕ))) (is : listed ≡ shape s.working) where
    -- as many alternatives are listed as there are in the tree
    pub listed_all : length listed ≡ length s.working
    listed_all = ap length is ∙ length-map s.working (λ (a : Alternative). (a.name, a.parent))

    -- all have been counted
    pub counted_all : (i : ℕ) → length listed ≤ i → (count : ℕ) → count ≡ checkpoint_count (take i s.working) → count ≡ checkpoint_count s.working
    counted_all i end count so_far =
        let long = listed_all in
        so_far ∙ ap checkpoint_count (take_all i s.working (omega (arith, end, long)))

    module _ (i : ℕ) (lt : i < length listed) (one : List ℕ × Option (List ℕ)) (this : slice_index_or listed i one ≡ one) where
      pub within : i < length s.working
      within = subst (λ n. i < n) listed_all lt

      -- an alternative that is listed has its name and its parent
      pub entry : one ≡ ((slice_index_or s.working i nothing).name, (slice_index_or s.working i nothing).parent)
      entry = sym this ∙ ap (λ l. slice_index_or l i one) is ∙ get_or-map (λ (a : Alternative). (a.name, a.parent)) s.working i nothing one within

      -- and is there, with its checkpoints
      pub its_own : checkpoints_in s.working one.0 ≡ checkpoints_of (Some (slice_index_or s.working i nothing))
      its_own =
          ap (λ (e : List ℕ × Option (List ℕ)). checkpoints_in s.working e.0) entry ∙ ap checkpoints_of (found_at s.working i nothing apart within)

      -- so their number is added
      pub added : (names : List (List ℕ)) → Ok names ≡ checkpoints_in s.working one.0 → (count : ℕ) → count ≡ checkpoint_count (take i s.working)
          → (long : ℕ) → long ≡ length names → (sum : ℕ) → sum ≡ min (count + long) (2 ^ 64 - 1) → sum ≡ checkpoint_count (take (i + 1) s.working)
      added names said count so_far long length_is sum sum_is =
          let saved : ◌≡◌ {A = Result (List (List ℕ)) Refusal} (Ok names) (Ok (saved_names (slice_index_or s.working i nothing).saved)) = said ∙ its_own in
          let names_are : names ≡ saved_names (slice_index_or s.working i nothing).saved = cc in
          let all_names : length names ≡ length (slice_index_or s.working i nothing).saved =
          ap length names_are ∙ length-map (slice_index_or s.working i nothing).saved (λ (c : Saved). c.name) in
          let step : checkpoint_count (take (i + 1) s.working) ≡ checkpoint_count (take i s.working) + length (slice_index_or s.working i nothing).saved =
          sum_by_more (λ (a : Alternative). length a.saved) s.working i nothing within in
          let part : checkpoint_count (take i s.working) + length (slice_index_or s.working i nothing).saved ≤ checkpoint_count s.working =
          sum_by_more_le (λ (a : Alternative). length a.saved) s.working i nothing within in
          let most = few in
          let small : count + long ≤ 2 ^ 64 - 1 = omega arith in
          let whole : count + long ≡ checkpoint_count (take (i + 1) s.working) = omega arith in
          sum_is ∙ min-eq_left small ∙ whole

      -- and it has a list of them
      pub has_list : (refusal : Refusal) → (refusal ≡ Memory) ⊎ (Err refusal ≡ checkpoints_in s.working one.0) → refusal ≡ Memory
      has_list refusal (inl memory) = memory
      has_list refusal (inr said) =
          let saved : ◌≡◌ {A = Result (List (List ℕ)) Refusal} (Err refusal) (Ok (saved_names (slice_index_or s.working i nothing).saved)) = said ∙ its_own in
          absurd cc

-- memory was wanting, or the refusal is due
pub wanted : {T : Type 0} (refusal : Refusal) (due : Result T Refusal) → IsDueOrMemory refusal due → (refusal ≡ Memory) ⊎ (Err refusal ≡ due)
wanted refusal due (inl memory) = inl memory.1
wanted refusal due (inr is) = inr is

-- what is said of a result, where it is known
pub is_ok : {T E : Type 0} (P : T → Type 0) (result : Result T E) (x : T) → result ≡ Ok x → IfOk result P → P x
is_ok P result x is p = subst (λ r. IfOk r P) is p

pub is_err : {T E : Type 0} (P : E → Type 0) (result : Result T E) (x : E) → result ≡ Err x → IfErr result P → P x
is_err P result x is p = subst (λ r. IfErr r P) is p

-- the numbers of an opened store are those of what its disk shows
pub counted_shown : {D : Type 0} (members : Ghosts D) (x : Contents) (store : Store D members) → (members.state (disk_of store)).now.contents ≡ x → (opens : OpensWhole x store) → (counts : Counts)
    → (counts.alternatives ≡ length opens.seen.tree) × (counts.checkpoints ≡ checkpoint_count opens.seen.tree) × (counts.free ≡ free_of store)
    → IsCounted members x counts.alternatives counts.checkpoints counts.free
counted_shown members x store over opens counts said = record {
  store = store;
  over = over;
  opens = opens;
  alternatives_are = said.0;
  checkpoints_are = said.1;
  free_are = said.2 ∙ opens.stands.free (opened opens.seen) opens.stands.holds;
}
