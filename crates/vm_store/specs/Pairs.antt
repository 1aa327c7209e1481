-- An alternative and its parent.
use Rattle.std.specs.Prelude.{◌≡◌, ◌⊎◌, ℕ, List, find, Some, None}
use Rattle.vm_types.specs.declared.refusal.Refusal.{Refusal}
use Rattle.vm_types.specs.declared.refusal.Refusal.TheVariants.{NoSuchAlternative, IsTop}
use Rattle.vm_store.specs.Versions.{is_alternative_of}
use Rattle.vm_store.specs.declared.version.Version.{Version}

-- the first of these two is the alternative of this name, the other one its parent
pub record IsPair (vs : List Version) (alt : List ℕ) (pair : Version × Version) : Type 0 where
  pub own : find (is_alternative_of alt) vs ≡ Some pair.0
  pub owner : pair.0.owner ≡ Some pair.1.name
  pub parent : find (is_alternative_of pair.1.name) vs ≡ Some pair.1

-- why there are no such two: the alternative is not there, or has no parent, or one that is not there
abbrev pub LacksPair : List Version → List ℕ → Refusal → Type 0
LacksPair vs alt refusal =
    ((refusal ≡ NoSuchAlternative) × (find (is_alternative_of alt) vs ≡ None))
    ⊎ ((own : Version) × (find (is_alternative_of alt) vs ≡ Some own)
    × (((refusal ≡ IsTop) × (own.owner ≡ None)) ⊎ ((parent : List ℕ) × (own.owner ≡ Some parent) × (refusal ≡ NoSuchAlternative) × (find (is_alternative_of parent) vs ≡ None))))
