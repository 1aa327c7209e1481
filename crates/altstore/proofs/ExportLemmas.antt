-- What stands behind a handle that was open.
use Rattle.std.proofs.Common.{◌≡◌, None, Option, Some, ap, ◌∙◌, sym}
use Rattle.std.proofs.lemmas.Option.{none-some}

-- it is not closed
pub not_closed : {X : Type 0} (o : Option X) (x : X) → Some x ≡ o → o ≡ None → ⊥
not_closed o x is none = none-some x (sym (is ∙ none))

abbrev value_or : {X : Type 0} → X → Option X → X
value_or other None = other
value_or other (Some x) = x

-- what was taken is what is named
pub same_behind : {X : Type 0} (o : Option X) (x y : X) → Some x ≡ o → o ≡ Some y → x ≡ y
same_behind o x y is named = ap (value_or x) (is ∙ named)
