-- Blocks that are held now, and to be kept if they were held before a change.
use Rattle.std.proofs.Common.{◌≡◌, ◌≢◌, ℕ, ◌==◌, ◌&&◌, Bool, true, false, not, List, [], ◌∷◌, Option, None, Some, refl, sym, ap, ◌∙◌, subst, arith}
use Rattle.std.specs.Prelude.{IfSome, is_some}
use Rattle.std.specs.List.{AllByRecursion}
use Rattle.std.proofs.lemmas.Bool.{eq-eqb, false≢true, ne_eqb}
use Rattle.vm_types.specs.Map.{Map}
use Rattle.vm_disk.specs.Disk.{Contents}
use Rattle.vm_alloc.specs.Held.{is_held, IsHeld, HoldsMore}
use Rattle.vm_block.proofs.EachLemmas.{each_both, each_so}
use Rattle.vm_tree.specs.Tree.{Sizes}
use Rattle.vm_tree.specs.Free.{IsBeside, IsOwn, IsPlace, IsTaken, SparesBase, SparesOwn, is_free}
use Rattle.vm_tree.specs.Removal.{IsOutside}
use Rattle.vm_tree.specs.Replacement.{IsRenewed, KeepsOwn, Lacks, without_own}
use Rattle.vm_tree.specs.Root.{IsRootedIn}
use Rattle.vm_tree.specs.declared.root.Root.{Root}
use Rattle.vm_tree.proofs.Touching.{held_not_free, not_freed}

-- where more is held
pub renewed_more : (before held later : List Bool) (keep : ℕ → Bool) → HoldsMore held later → (n : ℕ) → IsRenewed before held keep n → IsRenewed before later keep n
renewed_more before held later keep more n is = record { now = more.still n is.now; kept = is.kept }

-- a block that was free is none that was held before
pub renewed_free : (before held later : List Bool) (keep : ℕ → Bool) (n : ℕ) → HoldsMore before held → is_free held n ≡ true → IsHeld later n → IsRenewed before later keep n
renewed_free before held later keep n more free is =
    record { now = is; kept = λ had. absurd (false≢true (sym (held_not_free held n (more.still n had)) ∙ free)) }

-- a block that was free, and is held now, is not held as it was before
pub taken_now : (before held later : List Bool) (n : ℕ) → HoldsMore before held → is_free held n ≡ true → IsHeld later n → is_held later n ≡ is_held before n → ⊥
taken_now before held later n more free is same = false≢true (sym (held_not_free held n (more.still n (sym same ∙ is))) ∙ free)

-- nor is the block that was written, unless it is the own one
pub place_now : (own : Option ℕ) (before held later : List Bool) (n : ℕ) → HoldsMore before held → IsPlace own held n → IsHeld later n → is_held later n ≡ is_held before n → IsBeside own n → ⊥
place_now None before held later n more place is same beside = taken_now before held later n more place is same
place_now (Some b) before held later n more place is same beside = beside place

-- what is in a baseline does not have the own block, which is free in it
pub spares_own : (base : Option (List Bool)) (held : List Bool) (own : Option ℕ) → IfSome own (IsOwn base held) → (spared : List Bool) → SparesBase base spared → SparesOwn own spared
spares_own base held None is spared within = tt
spares_own None held (Some b) is spared within = absurd is.free
spares_own (Some bits) held (Some b) is spared within = by_free (is_free spared b) refl
  where
    by_free : (t : Bool) → is_free spared b ≡ t → is_free spared b ≡ true
    by_free true free = free
    by_free false out = absurd (false≢true (sym (not_freed spared bits b within out) ∙ is.free))

-- the block itself is the own one, if there is one
pub own_there : (base : Option (List Bool)) (held : List Bool) (own : Option ℕ) (b : ℕ) → is_some own ≡ true → IfSome own (IsOwn base held) → IfSome own (λ n. n ≡ b) → IsOwn base held b
own_there base held None b some is same = absurd (false≢true some)
own_there base held (Some m) b some is same = subst (IsOwn base held) same is

-- and is to be kept
pub own_kept : (own : Option ℕ) (before : List Bool) (keep : ℕ → Bool) (b : ℕ) → is_some own ≡ true → IfSome own (λ n. n ≡ b) → KeepsOwn own before keep → keep b ≡ true
own_kept None before keep b some same mine = absurd (false≢true some)
own_kept (Some m) before keep b some same mine = ap keep (sym same) ∙ mine.1

-- a block that is not free in it is none that is its own
pub outside_own : (base : Option (List Bool)) (held : List Bool) (own : Option ℕ) (n : ℕ) → IfSome own (IsOwn base held) → IsOutside base n → IsBeside own n
outside_own base held None n is out = tt
outside_own None held (Some b) n is out = absurd is.free
outside_own (Some bits) held (Some b) n is out = λ same. false≢true (sym out ∙ ap (is_free bits) same ∙ is.free)

-- the own block is still the change's own, where more is held
pub own_more : (base : Option (List Bool)) (held later : List Bool) (own : Option ℕ) → HoldsMore held later → IfSome own (IsOwn base held) → IfSome own (IsTaken later)
own_more base held later None more is = tt
own_more base held later (Some b) more is = record { above = is.taken.above; inside = omega (arith, is.taken.inside, more.same_length); held_now = more.still b is.taken.held_now }

-- the block that was written is to be kept, if it was held before
pub renewed_place : (own : Option ℕ) (before held later : List Bool) (keep : ℕ → Bool) (n : ℕ) → HoldsMore before held → KeepsOwn own before keep → IsPlace own held n → IsHeld later n → IsRenewed before later keep n
renewed_place None before held later keep n more mine place is = renewed_free before held later keep n more place is
renewed_place (Some b) before held later keep n more mine place is = record { now = is; kept = λ had. ap keep place ∙ mine.1 }

-- a block that is the own one, if there is one, was held before, and is to be kept
pub keeps_own : (own : Option ℕ) (before : List Bool) (keep : ℕ → Bool) (b : ℕ) → IfSome own (λ n. n ≡ b) → IsHeld before b → keep b ≡ true → KeepsOwn own before keep
keeps_own None before keep b is had kept = tt
keeps_own (Some m) before keep b is had kept = (subst (IsHeld before) (sym is) had, ap keep is ∙ kept)

-- other blocks are not the own one
pub beside_own : (own : Option ℕ) (b n : ℕ) → IfSome own (λ m. m ≡ b) → b ≢ n → IsBeside own n
beside_own None b n is other = tt
beside_own (Some m) b n is other = λ same. other (sym (same ∙ is))

-- held before, and to be kept
pub renewed_old : (before : List Bool) (keep : ℕ → Bool) (bs : List ℕ) → AllByRecursion (IsHeld before) bs → AllByRecursion (λ n. keep n ≡ true) bs → AllByRecursion (IsRenewed before before keep) bs
renewed_old before keep bs held kept =
    each_so (λ n. IsHeld before n × (keep n ≡ true)) (IsRenewed before before keep) (λ n facts. record { now = facts.0; kept = λ _. facts.1 }) bs
    (each_both (IsHeld before) (λ n. keep n ≡ true) bs held kept)

-- what lies in others than the own block is not it
pub renewed_beside : (own : Option ℕ) (before held : List Bool) (keep : ℕ → Bool) (n : ℕ) → KeepsOwn own before keep → IsRenewed before held (without_own own keep) n → IsBeside own n
renewed_beside None before held keep n mine is = tt
renewed_beside (Some b) before held keep n mine is = λ same.
    let had = subst (IsHeld before) (sym same) mine.0 in
    let off : (keep n && not (n == b)) ≡ false = ap (λ t. keep n && not t) (eq-eqb n b same) ∙ and_false (keep n) in
    false≢true (sym off ∙ is.kept had)
  where
    and_false : (t : Bool) → (t && false) ≡ false
    and_false true = refl
    and_false false = refl

-- and is to be kept
pub renewed_all : (own : Option ℕ) (before held : List Bool) (keep : ℕ → Bool) (n : ℕ) → IsRenewed before held (without_own own keep) n → IsRenewed before held keep n
renewed_all None before held keep n is = is
renewed_all (Some b) before held keep n is = record { now = is.now; kept = λ had. and_first (keep n) (not (n == b)) (is.kept had) }
  where
    and_first : (t u : Bool) → (t && u) ≡ true → t ≡ true
    and_first true u and = refl
    and_first false u and = and

-- blocks that are to be kept, and are none of a block that the own one is, if there is one
pub kept_without : (own : Option ℕ) (keep : ℕ → Bool) (b : ℕ) (bs : List ℕ) → IfSome own (λ n. n ≡ b) → AllByRecursion (λ n. keep n ≡ true) bs → Lacks b bs → AllByRecursion (λ n. without_own own keep n ≡ true) bs
kept_without None keep b bs is all lacks = all
kept_without (Some m) keep b bs is all lacks =
    each_so (λ n. (keep n ≡ true) × (n ≢ b)) (λ n. (keep n && not (n == m)) ≡ true)
    (λ n facts. ap (λ t. keep n && not t) (ne_eqb n m (λ e. facts.1 (e ∙ is))) ∙ ap (λ t. t && true) facts.0) bs (each_both (λ n. keep n ≡ true) (λ n. n ≢ b) bs all lacks)

-- all are to be kept, if each is
pub all_kept : (bs : List ℕ) → AllByRecursion (λ n. true ≡ true) bs
all_kept [] = tt
all_kept (b ∷ bs) = (refl, all_kept bs)

-- a map in blocks that have P lies in blocks that have what follows from it
pub rooted_so : (P Q : ℕ → Type 0) (sizes : Sizes) (x : Contents) (limit : ℕ) (root : Root) (m : Map) → ((n : ℕ) → P n → Q n) → IsRootedIn sizes P x limit root m → IsRootedIn sizes Q x limit root m
rooted_so P Q sizes x limit root m so stands = record { stands_in = stands.stands_in; rooted = stands.rooted; each = each_so P Q so stands.stands_in stands.each }
