-- Where what is ahead of a walk starts.
use Rattle.std.proofs.Common.{◌≡◌, ℕ, ◌+◌, ◌^◌, ◌<◌, Bool, List, [], ◌∷◌, ◌++◌, refl, sym, ap, subst, arith}
use Rattle.vm_types.specs.Places.{place, RisesFrom, places}
use Rattle.vm_disk.specs.Disk.{Contents}
use Rattle.vm_block.specs.Leaf.{Record, BeginsWith}
use Rattle.vm_tree.specs.Tree.{Sizes}
use Rattle.vm_tree.specs.declared.root.Root.{Root}
use Rattle.vm_diff.specs.Walk.{Walk, IsAhead, Under}
use Rattle.vm_diff.specs.Front.{first_of, front_of, place_of}
use Rattle.vm_diff.specs.Differ.{AreRising}

-- the first of these records stands at p, or there is none, and p is the place of the end
abbrev pub StartsAt : ℕ → List Record → Type 0
StartsAt p [] = p ≡ 2 ^ 80
StartsAt p (r ∷ rs) = place r.0 ≡ p

-- records that start above a place rise from above it
pub above_start : (p q : ℕ) (rs : List Record) → p < q → StartsAt q rs → AreRising rs → RisesFrom (p + 1) (places rs)
above_start p q [] lt s h = tt
above_start p q (r ∷ rs) lt s h = (omega (arith, s), h.rising.1)

module _ (test : ℕ → Bool) (sizes : Sizes) (x : Contents) (limit : ℕ) where
  starts_later : (ts : List Root) (rs : List Record) (bs : List ℕ) → Under test sizes x limit ts rs bs → StartsAt (place_of (first_of [] ts)) rs
  starts_later [] rs bs u = subst (StartsAt (2 ^ 80)) (sym u.0) refl
  starts_later (t ∷ ts) rs bs u = subst (StartsAt (place t.low)) (sym u.7) (begins u.0 u.5)
    where
      begins : (first : List Record) → BeginsWith t.low first → StartsAt (place t.low) (first ++ u.1)
      begins [] b = absurd b
      begins (r ∷ first) b = ap place b

  pub starts_parts : (ps : List Record) (ts : List Root) (later : List Record) (bs : List ℕ) → Under test sizes x limit ts later bs → StartsAt (place_of (first_of ps ts)) (ps ++ later)
  starts_parts [] ts later bs u = starts_later ts later bs u
  starts_parts (r ∷ ps) ts later bs u = refl

  -- what is ahead of a walk starts where the walk stands
  pub starts : (walk : Walk) (rs : List Record) (bs : List ℕ) → IsAhead test sizes x limit walk rs bs → StartsAt (place_of (front_of walk)) rs
  starts walk rs bs ahead = subst (StartsAt (place_of (front_of walk))) (sym ahead.records) (starts_parts walk.pending walk.tops ahead.later bs ahead.under)
