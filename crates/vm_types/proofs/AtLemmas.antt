-- The queries of an alternative are those of its versions.
use Rattle.std.proofs.Common.{◌≡◌, ℕ, true, cond, List, [], ◌∷◌, Option, Some, None, Ok, refl, ap, ◌∙◌}
use Rattle.std.specs.Str.{bytes_eq}
use Rattle.std.proofs.lemmas.Slice.Eq.{bytes_eq-Decides}
use Rattle.vm_types.specs.declared.at.Of.TheVariants.{Base, Current}
use Rattle.vm_types.specs.declared.key.Key.{Key}
use Rattle.vm_types.specs.Queries.{changes_in, changes_of, records_in, records_of, value_in, value_of}
use Rattle.vm_types.specs.Shape.{IsWellFormed}
use Rattle.vm_types.specs.Tree.{Alternative, Tree, named, top}
use Rattle.vm_types.specs.Versions.{at_base, at_current, delta_at, delta_between, map_at, map_found, value_at, value_within}

value_same : (found : Option Alternative) (key : Key) → value_within (map_found found Current) key ≡ value_of found key
value_same None key = refl
value_same (Some a) key = refl

records_same : (found : Option Alternative) → map_found found Current ≡ records_of found
records_same None = refl
records_same (Some a) = refl

changes_same : (found : Option Alternative) → delta_between (map_found found Base) (map_found found Current) ≡ changes_of found
changes_same None = refl
changes_same (Some a) = refl

-- the value of a record is that of the current records
pub value_current : (tree : Tree) (alt : List ℕ) (key : Key) → value_at tree (at_current alt) key ≡ value_in tree alt key
value_current tree alt key = value_same (named tree alt) key

-- the records are the current ones
pub records_current : (tree : Tree) (alt : List ℕ) → map_at tree (at_current alt) ≡ records_in tree alt
records_current tree alt = records_same (named tree alt)

-- the changes are those from the base to the current records
pub changes_current : (tree : Tree) (alt : List ℕ) → delta_at tree (at_base alt) (at_current alt) ≡ changes_in tree alt
changes_current tree alt = changes_same (named tree alt)

-- the first alternative is `top`, which has no parent, and so the empty base
pub top_base : (tree : Tree) → IsWellFormed tree → map_at tree (at_base top) ≡ Ok []
top_base [] well = absurd well.shape
top_base (a ∷ tree) well =
    let same : bytes_eq a.name top ≡ true = (bytes_eq-Decides a.name top).1 well.shape.0 in
    ap (λ b. map_found (cond b (Some a) (named tree top)) Base) same ∙ ap Ok (well.each.0.unbased well.shape.1).0
