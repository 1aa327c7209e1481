-- The place at which an alternative was used last.
use Rattle.std.proofs.Common.{◌≡◌, ℕ, ◌<◌, true, false, List, length, get_or, sym, ap, ◌∙◌, subst, arith}
use Rattle.std.proofs.lemmas.Bool.{and_parts}
use Rattle.std.proofs.lemmas.List.{get_or_default}
use Rattle.std.proofs.lemmas.List.Sums.{fails_before_first, position_or_len_is}
use Rattle.std.proofs.lemmas.Slice.Eq.{bytes_eq-Decides}
use Rattle.std.specs.Str.{bytes_eq}
use Rattle.vm_types.specs.Firsts.{IsFirst}
use Rattle.vm_types.proofs.FirstsLemmas.{IsFirst-at}
use Rattle.vm_block.specs.Slot.{is_alternative}
use Rattle.vm_store.specs.declared.version.Version.{Version}
use Rattle.vm_store.specs.Versions.{IsEarliest, is_alternative_of}

called : (alt : List ℕ) (v : Version) → is_alternative_of alt v ≡ true → v.name ≡ alt
called alt v is = (bytes_eq-Decides v.name alt).0 (and_parts (is_alternative v.kind) (bytes_eq v.name alt) is).1

-- an alternative, where none before it has its name
pub earliest_at : (alt : List ℕ) (vs : List Version) (i : ℕ) (e : Version) → i < length vs → is_alternative_of alt (get_or vs i e) ≡ true → ((k : ℕ) (d : Version) → k < i → is_alternative_of alt (get_or vs k d) ≡ false) → IsEarliest vs i
earliest_at alt vs i e within is before other d inside there =
    let same : alt ≡ other = sym (called alt (get_or vs i e) is) ∙ ap (λ (v : Version). v.name) (get_or_default vs i e d within) ∙ called other (get_or vs i d) there in
    position_or_len_is (is_alternative_of other) vs i d (omega (arith, within)) (λ k lt. subst (λ a. is_alternative_of a (get_or vs k d) ≡ false) same (before k d lt)) (λ h. there)

-- before the first place none stands
pub earliest_first : (vs : List Version) → IsEarliest vs 0
earliest_first vs alt d inside is = position_or_len_is (is_alternative_of alt) vs 0 d (omega arith) (λ k lt. absurd (omega (arith, lt))) (λ h. is)

-- what stands there is found first
pub first_at : (alt : List ℕ) (vs : List Version) (i : ℕ) (e : Version) → i < length vs → is_alternative_of alt (get_or vs i e) ≡ true → IsEarliest vs i → IsFirst (is_alternative_of alt) vs i
first_at alt vs i e within is earliest =
    IsFirst-at (is_alternative_of alt) vs i e within is (λ k lt. fails_before_first (is_alternative_of alt) vs k e (subst (λ n. k < n) (sym (earliest alt e within is)) lt))
