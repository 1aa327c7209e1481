-- An inner block with children put in place of one, and records without one of them.
use Rattle.std.specs.Prelude.{◌≡◌, ◌==◌, ℕ, ◌+◌, ◌<◌, if◌then◌else◌, List, [], ◌∷◌, ◌++◌, length, take, drop}
use Rattle.std.specs.List.{AllByRecursion}
use Rattle.vm_types.specs.Places.{place}
use Rattle.vm_block.specs.Leaf.{Record}
use Rattle.vm_block.specs.Node.{ChildFits, IsNode, node_bytes}
use Rattle.vm_block.specs.declared.node.Child.{Child}

-- a list with x in place of what stands at i
abbrev pub with_at : {X : Type 0} → ℕ → X → List X → List X
with_at i x xs = take i xs ++ x ∷ drop (i + 1) xs

-- a list with x put before what stands at i
abbrev pub with_before : {X : Type 0} → ℕ → X → List X → List X
with_before i x xs = take i xs ++ x ∷ drop i xs

-- an inner block that has a child at i has this one there
abbrev pub SetsChild : ℕ → Child → List ℕ → List ℕ → Type 0
SetsChild i child old new = (level : ℕ) (cs : List Child) → IsNode old level cs → i < length cs → new ≡ node_bytes level (with_at i child cs)

-- an inner block of this many children has this one more, before what stood at i
abbrev pub InsertsChild : ℕ → ℕ → Child → List ℕ → List ℕ → Type 0
InsertsChild count i child old new =
    (level : ℕ) (cs : List Child) → old ≡ node_bytes level cs → AllByRecursion ChildFits cs → count ≡ length cs → new ≡ node_bytes level (with_before i child cs)

-- an inner block of this many children has these two in place of the one at i
abbrev pub DividesChild : ℕ → ℕ → Child → Child → List ℕ → List ℕ → Type 0
DividesChild count i left right old new =
    (level : ℕ) (cs : List Child) → IsNode old level cs → count ≡ length cs → new ≡ node_bytes level (take i cs ++ left ∷ right ∷ drop (i + 1) cs)

-- an inner block of this many children has these three in place of the one at i
abbrev pub DividesInThree : ℕ → ℕ → Child → Child → Child → List ℕ → List ℕ → Type 0
DividesInThree count i left middle right old new =
    (level : ℕ) (cs : List Child) → IsNode old level cs → count ≡ length cs
    → new ≡ node_bytes level (take i cs ++ left ∷ middle ∷ right ∷ drop (i + 1) cs)

-- a list without what stands at i
abbrev pub leave_out : {X : Type 0} → ℕ → List X → List X
leave_out i xs = take i xs ++ drop (i + 1) xs

-- the records without the one at a place, if there is one
abbrev pub without_place : ℕ → List Record → List Record
without_place p [] = []
without_place p (r ∷ rs) = if place r.0 == p then rs else r ∷ without_place p rs
