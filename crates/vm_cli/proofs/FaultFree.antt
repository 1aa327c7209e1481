-- What holds where a parse has no fault: no step of it has one.
use Rattle.std.proofs.Common.{◌≡◌, ◌||◌, Bool, true, false, List, [], ◌∷◌, ◌++◌, Option, Some, cond, find, refl}
use Rattle.clap.specs.Kinds.{Kinds, check_kinds, or_else}

-- neither of two steps has a fault
pub neither : (a b : Kinds) → or_else a b ≡ [] → (a ≡ []) × (b ≡ [])
neither [] b e = (refl, e)
neither (k ∷ ks) b e = let bad : ⊥ = cc in absurd bad

pub neither_true : (a b : Bool) → (a || b) ≡ false → (a ≡ false) × (b ≡ false)
neither_true false b e = (refl, e)
neither_true true b e = let bad : ⊥ = cc in absurd bad

-- the last checks find nothing wanting
pub nothing_wanting : (help subcommand argument : Bool) → check_kinds help subcommand argument ≡ [] → (subcommand ≡ false) × (argument ≡ false)
nothing_wanting true subcommand argument e = let bad : ⊥ = cc in absurd bad
nothing_wanting false true argument e = let bad : ⊥ = cc in absurd bad
nothing_wanting false false true e = let bad : ⊥ = cc in absurd bad
nothing_wanting false false false e = (refl, refl)

-- ---- lists

-- the fact holds of each item
abbrev pub Every : {X : Type 0} → (X → Type 0) → List X → Type 0
Every P [] = Unit {0}
Every P (x ∷ xs) = P x × Every P xs

pub every-push : {X : Type 0} (P : X → Type 0) (xs : List X) (x : X) → Every P xs → P x → Every P (xs ++ x ∷ [])
every-push P [] x h p = (p, tt)
every-push P (y ∷ ys) x h p = (h.0, every-push P ys x h.1 p)

found-first : {X : Type 0} (P : X → Type 0) (p : X → Bool) (y x : X) (rest : Option X) → P y → (rest ≡ Some x → P x × (p x ≡ true)) → (b : Bool) → p y ≡ b
    → cond b (Some y) rest ≡ Some x → P x × (p x ≡ true)
found-first P p y x rest here later true is e =
    let same : y ≡ x = cc in
    rw (← same) (here, is)
found-first P p y x rest here later false is e = later e

-- what is found is one of the items, and passes the test
pub every-found : {X : Type 0} (P : X → Type 0) (p : X → Bool) (xs : List X) (x : X) → Every P xs → find p xs ≡ Some x → P x × (p x ≡ true)
every-found P p [] x h e = let bad : ⊥ = cc in absurd bad
every-found P p (y ∷ ys) x h e = found-first P p y x (find p ys) h.0 (every-found P p ys x h.1) (p y) refl e
