-- What is known of damaged blocks holds if more of them are, and more were met.
use Rattle.std.proofs.Common.{inl, inr, ℕ, zero, suc, Bool, List}
use Rattle.vm_types.specs.declared.key.Key.{Key}
use Rattle.vm_disk.specs.Disk.{Contents}
use Rattle.vm_alloc.specs.Held.{HoldsMore}
use Rattle.vm_block.specs.declared.node.Child.{Child}
use Rattle.vm_tree.specs.Tree.{Sizes}
use Rattle.vm_check.specs.Damage.{EndsWrong, Fits, HasWrongKeys, IsDamaged, IsFirst, IsMet, IsWhole, LastKey}
use Rattle.vm_check.specs.Surveys.{HasSpan}
use Rattle.vm_check.specs.declared.verification.Span.{Span}

module _ (x : Contents) (d e : List Bool) (more : HoldsMore d e) where
  pub last_key_more : (l b : ℕ) (key : Key) → LastKey x d l b key → LastKey x e l b key
  unfolding LastKey
  last_key_more zero b key t = t
  last_key_more (suc l) b key (cs, i, c, node, last, is, inl (marked, low)) = (cs, i, c, node, last, is, inl (more.still c.block marked, low))
  last_key_more (suc l) b key (cs, i, c, node, last, is, inr under) = (cs, i, c, node, last, is, inr (last_key_more l c.block key under))

  ends_more : (n l i : ℕ) (cs : List Child) → EndsWrong x d n l i cs → EndsWrong x e n l i cs
  ends_more n l i cs ends = record { high = ends.high; last = last_key_more l n ends.high ends.last; more = ends.more; reaches = ends.reaches }

  keys_more : (ns : List ℕ) (n : ℕ) → HasWrongKeys x ns d n → HasWrongKeys x ns e n
  keys_more ns n (l, i, cs, c, listed, inl begins) = (l, i, cs, c, listed, inl begins)
  keys_more ns n (l, i, cs, c, listed, inr ends) = (l, i, cs, c, listed, inr (ends_more n l i cs ends))

  pub damaged_more : (sizes : Sizes) (limit : ℕ) (ns : List ℕ) (n : ℕ) → IsDamaged sizes x limit ns d n → IsDamaged sizes x limit ns e n
  damaged_more sizes limit ns n at = record {
    inside = at.inside;
    why = elim at.why [
      | inl form ↦ inl form
      | inr (inl lists) ↦ inr (inl lists)
      | inr (inr (inl level)) ↦ inr (inr (inl level))
      | inr (inr (inr keys)) ↦ inr (inr (inr (keys_more ns n keys)))
    ];
  }

  pub first_is_more : (limit : ℕ) (ns : List ℕ) (first : ℕ) → IsFirst x limit ns d first → IsFirst x limit ns e first
  first_is_more limit ns first (inl is) = inl (more.still first is)
  first_is_more limit ns first (inr (inl top)) = inr (inl top)
  first_is_more limit ns first (inr (inr (n, is, lists))) = inr (inr (n, more.still n is, lists))

  fits_more : (l i : ℕ) (cs : List Child) (c : Child) → Fits x d l i cs c → Fits x e l i cs c
  fits_more l i cs c fits = record { starts = fits.starts; high = fits.high; last = last_key_more l c.block fits.high fits.last; below = fits.below }

  module _ (limit : ℕ) (marks later : List Bool) (grows : HoldsMore marks later) where
    pub met_more : (l i : ℕ) (cs : List Child) (c : Child) → IsMet x limit marks d l i cs c → IsMet x limit later e l i cs c
    met_more l i cs c at = record {
      inside = at.inside;
      met_is = grows.still c.block at.met_is;
      fits = elim at.fits [
        | inl is ↦ inl (more.still c.block is)
        | inr fits ↦ inr (fits_more l i cs c fits)
      ];
    }

    whole_so : (sizes : Sizes) (l n : ℕ) → IsWhole sizes x limit marks d l n → IsWhole sizes x limit later e l n
    whole_so sizes zero n leaf = leaf
    whole_so sizes (suc l) n (cs, node, few, each) = (cs, node, few, λ i c lt is. met_more l i cs c (each i c lt is))

    pub span_more : (sizes : Sizes) (n : ℕ) (span : Span) → HasSpan sizes x limit marks d n span → HasSpan sizes x limit later e n span
    span_more sizes n span has = record {
      whole = whole_so sizes span.level n has.whole;
      starts = has.starts;
      last = last_key_more span.level n span.high has.last;
    }
