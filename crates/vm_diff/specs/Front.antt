-- What a walk stands before.
use Rattle.std.specs.Prelude.{ℕ, ◌^◌, List, [], ◌∷◌}
use Rattle.vm_types.specs.declared.key.Key.{Key}
use Rattle.vm_types.specs.Places.{place}
use Rattle.vm_block.specs.Leaf.{Record}
use Rattle.vm_tree.specs.declared.root.Root.{Root}
use Rattle.vm_diff.specs.Walk.{Walk}
use Rattle.vm_diff.specs.declared.front.Next.{Next}
use Rattle.vm_diff.specs.declared.front.Next.TheVariants.{End as NoMore, Record as OneRecord, Subtree as OneSubtree}

-- the end, a record, or a subtree
pub data Front : Type 0 where
  End : Front
  Pair : Key → List ℕ → Front
  Top : Root → Front

-- what comes first: a record, the top of a subtree, or the end
abbrev pub first_of : List Record → List Root → Front
first_of [] [] = End
first_of [] (t ∷ ts) = Top t
first_of (r ∷ rs) ts = Pair r.0 r.1

-- what a walk stands before
abbrev pub front_of : Walk → Front
front_of walk = first_of walk.pending walk.tops

-- the same without the value of a record
abbrev pub next_of : Front → Next
next_of End = NoMore
next_of (Pair key value) = OneRecord key
next_of (Top top) = OneSubtree top

-- where its first key stands: at the end above all keys
abbrev pub next_place : Next → ℕ
next_place NoMore = 2 ^ 80
next_place (OneRecord key) = place key
next_place (OneSubtree top) = place top.low

-- the same of what a walk stands before
abbrev pub place_of : Front → ℕ
place_of End = 2 ^ 80
place_of (Pair key value) = place key
place_of (Top top) = place top.low

-- the block that is read there, if one is
abbrev pub opened_at : Front → List ℕ
opened_at End = []
opened_at (Pair key value) = []
opened_at (Top top) = top.block ∷ []
