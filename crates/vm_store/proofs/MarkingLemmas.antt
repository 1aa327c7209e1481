-- What standing versions reach, as a marking sees it.
use Rattle.std.proofs.Common.{◌≡◌, ◌⊎◌, inl, inr, ℕ, zero, suc, ◌<◌, ◌≤◌, ◌||◌, eqb, Bool, true, false, List, [], ◌∷◌, ◌++◌, replicate, refl, sym, ap, ◌∙◌, eq-eqb, append_assoc, arith}
use Rattle.std.specs.Prelude.{Contains}
use Rattle.std.specs.List.{list_any}
use Rattle.std.proofs.lemmas.Bool.{cases_lt, false≢true}
use Rattle.std.proofs.lemmas.List.{get_or-replicate, get_or_past, length-replicate}
use Rattle.vm_disk.specs.Disk.{Contents}
use Rattle.vm_alloc.specs.Marks.{IsMarked}
use Rattle.vm_check.specs.Marks.{IsClosed}
use Rattle.vm_store.specs.Filed.{Filed, Standing, reach}
use Rattle.vm_store.specs.Marks.{AreReached}
use Rattle.vm_store.specs.declared.version.Version.{Version}
use Rattle.vm_store.proofs.WiderLemmas.{rooted_wider}

-- standing versions reach just what is under their roots, also in a store of more blocks
pub standing_reached : (P : ℕ → Type 0) (x : Contents) (limit more : ℕ) → limit ≤ more → (vs : List Version) (fs : List Filed) (s : Standing P x limit vs fs) → AreReached x more vs (reach P x limit vs fs s)
standing_reached P x limit more few [] [] s = refl
standing_reached P x limit more few (v ∷ vs) (f ∷ fs) s =
    let current = s.0.current in
    let base = s.0.base in
    let rest = reach P x limit vs fs s.1 in (
      current.stands_in ++ base.stands_in,
      rest,
      (
        current.stands_in,
        base.stands_in,
        (f.current, rooted_wider x limit more few v.current f.current current.stands_in current.rooted),
        (f.base, rooted_wider x limit more few v.base f.base base.stands_in base.rooted),
        refl,
      ),
      standing_reached P x limit more few vs fs s.1,
      sym (append_assoc current.stands_in base.stands_in rest),
    )
standing_reached P x limit more few [] (f ∷ fs) s = absurd s
standing_reached P x limit more few (v ∷ vs) [] s = absurd s

pub none_marked : (limit n : ℕ) → IsMarked (replicate limit false) n → ⊥
none_marked limit n is = by_case (cases_lt n limit)
  where
    by_case : (n < limit) ⊎ (limit ≤ n) → ⊥
    by_case (inl lt) = false≢true (sym (get_or-replicate limit n false false lt) ∙ is)
    by_case (inr past) = false≢true (sym (get_or_past (replicate limit false) n false (omega (arith, length-replicate {A = Bool} limit false))) ∙ is)

-- clear marks are closed
pub clear_closed : (x : Contents) (limit : ℕ) → IsClosed x (replicate limit false)
clear_closed x limit = record { closed = λ n level cs is low node. absurd (none_marked limit n is) }

-- a block of a list is found in it
pub any_contained : (bs : List ℕ) (n : ℕ) → Contains bs n → list_any (λ b. eqb b n) bs ≡ true
any_contained [] n (k, inside, is) = absurd (omega arith)
any_contained (b ∷ bs) n (zero, inside, is) = ap (λ t. t || list_any (λ b. eqb b n) bs) (eq-eqb b n is)
any_contained (b ∷ bs) n (suc k, inside, is) =
    elim (eqb b n) as (λ t. (t || list_any (λ b. eqb b n) bs) ≡ true) [
      | true ↦ refl
      | false ↦ any_contained bs n (k, omega arith, is)
    ]
