-- Lines that are joined to an input.
use Rattle.std.proofs.Common.{◌≡◌, ◌<◌, ◌+◌, ◌++◌, ◌∷◌, ℕ, zero, suc, List, [], add-one, ap, append-nil, append_assoc, arith, flat_map, get_or, length, map, refl, sym, take}

-- what is made of each of what others were made into
pub flat_map-map : {X Y Z : Type 0} (f : Y → List Z) (g : X → Y) (xs : List X) → flat_map f (map g xs) ≡ flat_map (λ x. f (g x)) xs
flat_map-map f g [] = refl
flat_map-map f g (x ∷ xs) = ap (λ rest. f (g x) ++ rest) (flat_map-map f g xs)

-- and of one more
pub flat_map-next : {X Z : Type 0} (f : X → List Z) (xs : List X) (i : ℕ) (d : X) → i < length xs → flat_map f (take (i + 1) xs) ≡ flat_map f (take i xs) ++ f (get_or xs i d)
flat_map-next f [] i d lt = absurd (omega arith)
flat_map-next f (x ∷ xs) zero d lt = append-nil (f x)
flat_map-next f (x ∷ xs) (suc i) d lt =
    let rest : flat_map f (take (suc i) xs) ≡ flat_map f (take i xs) ++ f (get_or xs i d) = rw (← add-one i) (flat_map-next f xs i d (omega arith)) in
    rw (add-one (suc i), rest) (sym (append_assoc (f x) (flat_map f (take i xs)) (f (get_or xs i d))))
