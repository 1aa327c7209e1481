-- Going past what two walks share.
use Rattle.std.proofs.Common.{◌≡◌, ℕ, ◌+◌, ◌<◌, ◌≤◌, List, [], ◌∷◌, ◌++◌, length, drop, refl, sym, ap, ap₂, ◌∙◌, subst, arith, length-append}
use Rattle.std.proofs.lemmas.Slice.Eq.{bytes_eq-Decides}
use Rattle.vm_types.specs.declared.change.Change.{Change}
use Rattle.vm_disk.specs.Disk.{Contents}
use Rattle.vm_block.specs.Leaf.{Record}
use Rattle.vm_tree.specs.Tree.{Sizes}
use Rattle.vm_tree.specs.declared.root.Root.{Root}
use Rattle.vm_diff.specs.Walk.{Walk, size, weight_of}
use Rattle.vm_diff.specs.Ahead.{PassedBoth}
use Rattle.vm_diff.specs.Front.{first_of}
use Rattle.vm_diff.specs.Differ.{Differ}
use Rattle.vm_diff.proofs.OpenLemmas.{weight_back, weight_less}
use Rattle.vm_diff.proofs.StepLemmas.{both_same, both_skipped}

-- of two walks no more is ahead, and what differs is as it was
pub record Skips (one other one_now other_now : Walk) : Type 0 where
  pub most : size one_now + size other_now ≤ size one + size other
  pub differ : (sizes : Sizes) (x : Contents) (limit low high reads most : ℕ) (changes : List Change) → Differ sizes x limit low high one other reads most changes → Differ sizes x limit low high one_now other_now reads most changes

pending_back : (front rs : List Record) → length rs ≤ length (front ++ rs)
pending_back front rs = omega (arith, length-append front rs)

walk_is : (w v : Walk) → w.pending ≡ v.pending → w.tops ≡ v.tops → w ≡ v
walk_is w v a b = λ i. record { pending = a i; tops = b i }

module _ (sizes : Sizes) (x : Contents) (limit low high reads most : ℕ) (changes : List Change) where
  records_left_out : (front : List Record) (one other one_now other_now : Walk) → one.pending ≡ front ++ one_now.pending → other.pending ≡ front ++ other_now.pending → one_now.tops ≡ one.tops → other_now.tops ≡ other.tops
      → Differ sizes x limit low high one other reads most changes → Differ sizes x limit low high one_now other_now reads most changes
  records_left_out [] one other one_now other_now first second one_tops other_tops d =
      subst (λ (w : Walk). Differ sizes x limit low high w other_now reads most changes) (walk_is one one_now first (sym one_tops))
      (subst (λ (w : Walk). Differ sizes x limit low high one w reads most changes) (walk_is other other_now second (sym other_tops)) d)
  records_left_out (r ∷ front) one other one_now other_now first second one_tops other_tops d =
      let one_mid : Walk = record { pending = front ++ one_now.pending; tops = one.tops } in
      let other_mid : Walk = record { pending = front ++ other_now.pending; tops = other.tops } in
      records_left_out front one_mid other_mid one_now other_now refl refl one_tops other_tops
      (both_same sizes x limit low high reads most one other one_mid other_mid r.0 r.1 r.1 changes
      (ap (λ (ps : List Record). first_of ps one.tops) first) (r.0, ap (λ (ps : List Record). first_of ps other.tops) second, refl) ((bytes_eq-Decides r.1 r.1).1 refl)
      (ap (λ (ps : List Record). record { pending = drop 1 ps; tops = one.tops }) (sym first)) (ap (λ (ps : List Record). record { pending = drop 1 ps; tops = other.tops }) (sym second)) d)

  tops_left_out : (front : List Root) (one other one_now other_now : Walk) → one.pending ≡ [] → other.pending ≡ [] → one.tops ≡ front ++ one_now.tops → other.tops ≡ front ++ other_now.tops → one_now.pending ≡ one.pending → other_now.pending ≡ other.pending
      → Differ sizes x limit low high one other reads most changes → Differ sizes x limit low high one_now other_now reads most changes
  tops_left_out [] one other one_now other_now one_none other_none first second one_still other_still d =
      subst (λ (w : Walk). Differ sizes x limit low high w other_now reads most changes) (walk_is one one_now (sym one_still) first)
      (subst (λ (w : Walk). Differ sizes x limit low high one w reads most changes) (walk_is other other_now (sym other_still) second) d)
  tops_left_out (t ∷ front) one other one_now other_now one_none other_none first second one_still other_still d =
      let one_mid : Walk = record { pending = one.pending; tops = front ++ one_now.tops } in
      let other_mid : Walk = record { pending = other.pending; tops = front ++ other_now.tops } in
      tops_left_out front one_mid other_mid one_now other_now one_none other_none refl refl one_still other_still
      (both_skipped sizes x limit low high reads most one other one_mid other_mid t t changes
      (ap₂ first_of one_none first) (ap₂ first_of other_none second) refl
      (ap (λ (ts : List Root). record { pending = one.pending; tops = drop 1 ts }) (sym first)) (ap (λ (ts : List Root). record { pending = other.pending; tops = drop 1 ts }) (sym second)) d)

-- past records with which both walks begin
pub records_skipped : (one other one_now other_now : Walk) → PassedBoth one.pending other.pending one_now.pending other_now.pending → one_now.tops ≡ one.tops → other_now.tops ≡ other.tops → Skips one other one_now other_now
records_skipped one other one_now other_now p one_tops other_tops = record {
  most =
      omega (
        arith,
        ap (λ (rs : List Record). length rs) p.first,
        pending_back p.front one_now.pending,
        ap (λ (rs : List Record). length rs) p.second,
        pending_back p.front other_now.pending,
        ap weight_of one_tops,
        ap weight_of other_tops,
      );
  differ = λ sizes x limit low high reads most changes. records_left_out sizes x limit low high reads most changes p.front one other one_now other_now p.first p.second one_tops other_tops;
}

-- past subtrees
pub tops_skipped : (one other one_now other_now : Walk) → one.pending ≡ [] → other.pending ≡ [] → PassedBoth one.tops other.tops one_now.tops other_now.tops → one_now.pending ≡ one.pending → other_now.pending ≡ other.pending → Skips one other one_now other_now
tops_skipped one other one_now other_now one_none other_none p one_still other_still = record {
  most =
      omega (
        arith,
        ap weight_of p.first,
        weight_back p.front one_now.tops,
        ap weight_of p.second,
        weight_back p.front other_now.tops,
        ap (λ (rs : List Record). length rs) one_still,
        ap (λ (rs : List Record). length rs) other_still,
      );
  differ = λ sizes x limit low high reads most changes. tops_left_out sizes x limit low high reads most changes p.front one other one_now other_now one_none other_none p.first p.second one_still other_still;
}

-- where there are any, less is ahead
pub tops_fall : (one other one_now other_now : Walk) → PassedBoth one.tops other.tops one_now.tops other_now.tops → one_now.pending ≡ one.pending → other_now.pending ≡ other.pending → length one_now.tops < length one.tops
    → size one_now + size other_now < size one + size other
tops_fall one other one_now other_now p one_still other_still lt =
    let some : 0 < length p.front = omega (arith, lt, ap (λ (ts : List Root). length ts) p.first, length-append p.front one_now.tops) in
    omega (
      arith,
      ap weight_of p.first,
      weight_less p.front one_now.tops some,
      ap weight_of p.second,
      weight_back p.front other_now.tops,
      ap (λ (rs : List Record). length rs) one_still,
      ap (λ (rs : List Record). length rs) other_still,
    )

-- one after the other
pub skips_then : (one other one_mid other_mid one_now other_now : Walk) → Skips one other one_mid other_mid → Skips one_mid other_mid one_now other_now → Skips one other one_now other_now
skips_then one other one_mid other_mid one_now other_now first second = record {
  most = omega (arith, first.most, second.most);
  differ = λ sizes x limit low high reads most changes d. second.differ sizes x limit low high reads most changes (first.differ sizes x limit low high reads most changes d);
}

-- the same where neither walk has a leaf open
pub record SkipsOn (one other one_now other_now : Walk) : Type 0 where
  pub skips : Skips one other one_now other_now
  pub one_none : one_now.pending ≡ []
  pub other_none : other_now.pending ≡ []

pub skips_on : (one other one_mid other_mid one_now other_now : Walk) → SkipsOn one other one_mid other_mid → PassedBoth one_mid.tops other_mid.tops one_now.tops other_now.tops → one_now.pending ≡ one_mid.pending → other_now.pending ≡ other_mid.pending → SkipsOn one other one_now other_now
skips_on one other one_mid other_mid one_now other_now so_far p one_still other_still = record {
  skips = skips_then one other one_mid other_mid one_now other_now so_far.skips (tops_skipped one_mid other_mid one_now other_now so_far.one_none so_far.other_none p one_still other_still);
  one_none = one_still ∙ so_far.one_none;
  other_none = other_still ∙ so_far.other_none;
}
