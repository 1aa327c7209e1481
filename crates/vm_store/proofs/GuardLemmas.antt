-- The slots stay whole through puts and commits.
use Rattle.std.proofs.Common.{◌≡◌, ◌≢◌, ◌⊎◌, inl, inr, ℕ, ◌≤◌, Bool, true, false, List, length, refl, subst, arith}
use Rattle.vm_types.specs.State.{State}
use Rattle.vm_disk.specs.Disk.{Medium, IsClean}
use Rattle.vm_disk.specs.Moments.{TouchesOnly}
use Rattle.vm_disk.proofs.MomentLemmas.{clean_sure, touches_nothing}
use Rattle.vm_alloc.specs.Held.{IsHeld, HoldsMore}
use Rattle.vm_store.specs.Versions.{slot_entries}
use Rattle.vm_store.specs.declared.version.Version.{Version}
use Rattle.vm_block.specs.Selector.{other_slot}
use Rattle.vm_block.specs.declared.slot.Entry.{Entry}
use Rattle.vm_block.specs.declared.selector.SlotName.{SlotName}
use Rattle.vm_block.specs.declared.selector.SlotName.TheVariants.{A, B}
use Rattle.vm_catalog.specs.Place.{selected, is_used}
use Rattle.vm_catalog.specs.Catalog.{SlotAt, AtRest}
use Rattle.vm_catalog.specs.Publication.{IsTurning, IsSafelyPublishing}
use Rattle.vm_catalog.proofs.PlaceLemmas.{used_front}
use Rattle.vm_tree.specs.Tree.{IsData}
use Rattle.vm_tree.specs.Free.{is_free}
use Rattle.vm_store.specs.Filed.{Filed, Standing}
use Rattle.vm_store.specs.Guarded.{IsWhole, IsGuarded}
use Rattle.vm_store.specs.Rest.{IsSafe, Rests}
use Rattle.vm_store.proofs.RestingLemmas.{at_rest, safe_on}
use Rattle.vm_store.proofs.StandingLemmas.{standing_in, standing_data}

-- the slot in use is whole, and the selector is clean
settled_guarded : (bits : List Bool) (m : Medium) (slot_name : SlotName) (limit : ℕ) (es : List Version) (fs : List Filed) → AtRest slot_name m limit (slot_entries es) → limit ≤ m.sure → Standing (IsSafe bits m) m.contents limit es fs
    → IsWhole bits m (selected m.contents)
settled_guarded bits m slot_name limit es fs rest inside safe = record {
  limit = limit;
  versions = es;
  filed = fs;
  inside = inside;
  header = rest.names.header;
  slot = rest.names.slot;
  clean = λ n other used. rest.clean n (subst (λ b. is_used b (length (slot_entries es)) n ≡ true) rest.in_use used);
  safe = safe;
}

either : (P : SlotName → Type 0) (b : SlotName) → P b → P (other_slot b) → (c : SlotName) → P c
either P A p q A = p
either P A p q B = q
either P B p q A = q
either P B p q B = p

module _ (m : Medium) (limit : ℕ) (slot_name : SlotName) (bits : List Bool) (committed working : List Version) (s : State)
    (rests : Rests m limit slot_name bits committed working s) where
  -- after calls that write free blocks alone
  pub guarded_on : (now : Medium) (after : List Bool) → TouchesOnly (is_free bits) m now → HoldsMore bits after → IsGuarded after now
  guarded_on now after spares more =
      let rest : AtRest slot_name now s.kept (slot_entries committed) = at_rest m limit slot_name bits committed working s rests now spares in
      record {
        settled = λ clean. settled_guarded after now slot_name s.kept committed rests.old rest (omega (arith, rests.sure, spares.sure))
            (safe_on m limit slot_name bits committed working s rests now after spares more);
        turning = λ dirty. let clean = rest.clean 1 (used_front slot_name (length (slot_entries committed)) 1 (omega arith)) in cc (dirty, clean);
      }

  -- before any call
  pub guarded_at_rest : IsGuarded bits m
  guarded_at_rest = guarded_on m bits (touches_nothing (is_free bits) m) (record { same_length = refl; still = λ n held. held })

  -- at each moment of a publish of the working entries
  pub guarded_publishing : (now : Medium) → IsSafelyPublishing slot_name m s.kept (slot_entries committed) limit (slot_entries working) now → IsGuarded bits now
  guarded_publishing now publishing = record {
    settled = λ clean. by_slot (publishing.settled clean);
    turning = λ dirty. let t : IsTurning slot_name now s.kept (slot_entries committed) limit (slot_entries working) = publishing.turning dirty in
        either (IsWhole bits now) slot_name (turned slot_name s.kept committed rests.old t.old t inside_old safe_old) (turned (other_slot slot_name) limit working rests.new t.new_slot t (inside_new t.sure) (safe_new (λ n inner. t.clean n (apart n inner))));
  }
    where
      inside_old : s.kept ≤ now.sure
      inside_old = omega (arith, rests.sure, publishing.sure)

      inside_new : now.sure ≡ length now.contents → limit ≤ now.sure
      inside_new sure = omega (arith, sure, publishing.count, rests.inside)

      apart : (n : ℕ) → IsData limit n → n ≢ 1
      apart n inner same = let low : 34 ≤ n = inner.0 in let one : n ≡ 1 = same in absurd (omega arith)

      safe_old : Standing (IsSafe bits now) now.contents s.kept committed rests.old
      safe_old = standing_in (λ n. IsSafe bits m n × IsData s.kept n) (IsSafe bits now) m.contents now.contents s.kept (λ n safe. publishing.same n safe.1.0)
          (λ n safe. record { held = safe.0.held; clean = publishing.still_clean n safe.1.0 safe.0.clean }) committed rests.old
          (standing_data (IsSafe bits m) m.contents s.kept committed rests.old rests.safe)

      safe_new : ((n : ℕ) → IsData limit n → now.dirty n ≡ false) → Standing (IsSafe bits now) now.contents limit working rests.new
      safe_new clean = standing_in (λ n. IsHeld bits n × IsData limit n) (IsSafe bits now) m.contents now.contents limit (λ n held. publishing.same n held.1.0)
          (λ n held. record { held = held.0; clean = clean n held.1 }) working rests.new
          (standing_data (IsHeld bits) m.contents limit working rests.new rests.stands)

      by_slot : AtRest slot_name now s.kept (slot_entries committed) ⊎ (AtRest (other_slot slot_name) now limit (slot_entries working) × IsClean now) → IsWhole bits now (selected now.contents)
      by_slot (inl rest) = settled_guarded bits now slot_name s.kept committed rests.old rest inside_old safe_old
      by_slot (inr rest) = settled_guarded bits now (other_slot slot_name) limit working rests.new rest.0 (inside_new (clean_sure now rest.1)) (safe_new (λ n inner. rest.1 n))

      turned : (b : SlotName) (count : ℕ) (es : List Version) (fs : List Filed) → SlotAt now.contents b count (slot_entries es) → IsTurning slot_name now s.kept (slot_entries committed) limit (slot_entries working) → count ≤ now.sure → Standing (IsSafe bits now) now.contents count es fs → IsWhole bits now b
      turned b count es fs slot t inside safe = record {
        limit = count;
        versions = es;
        filed = fs;
        inside = inside;
        header = t.header;
        slot = slot;
        clean = λ n other used. t.clean n other;
        safe = safe;
      }

-- the same, where the working entries were written to a list of their own
pub lent_guarded : (m : Medium) (limit : ℕ) (slot_name : SlotName) (bits : List Bool) (committed working : List Version) (s : State) → (rests : Rests m limit slot_name bits committed working s)
    → (lent : List Entry) → lent ≡ slot_entries working → (now : Medium) → IsSafelyPublishing slot_name m s.kept (slot_entries committed) limit lent now → IsGuarded bits now
lent_guarded m limit slot_name bits committed working s rests lent same now publishing =
    guarded_publishing m limit slot_name bits committed working s rests now (subst (λ (es : List Entry). IsSafelyPublishing slot_name m s.kept (slot_entries committed) limit es now) same publishing)
