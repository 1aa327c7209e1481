-- What a Remove at a root answers.
use Rattle.std.proofs.Common.{◌≡◌, ◌≢◌, ℕ, ◌≤◌, List, [], ◌∷◌, refl, sym, ap, ◌∙◌, subst, arith, inl, inr}
use Rattle.vm_types.specs.declared.key.Key.{Key}
use Rattle.vm_types.specs.Map.{Map, get, without}
use Rattle.vm_types.specs.Places.{place, KeyFits, value_at}
use Rattle.vm_types.proofs.Bridge.{value_at-get}
use Rattle.vm_disk.specs.Disk.{Contents}
use Rattle.vm_tree.specs.Tree.{Sizes}
use Rattle.vm_tree.specs.Splits.{Made}
use Rattle.vm_block.specs.Changed.{without_place}
use Rattle.vm_tree.specs.Removal.{child_of}
use Rattle.vm_tree.specs.Root.{IsBare, IsTop, IsRooted, IsRootedIn}
use Rattle.vm_tree.specs.declared.root.Root.{Root}
use Rattle.vm_tree.proofs.Descent.{subtree_top}
use Rattle.vm_tree.proofs.RemovalLemmas.{without_rises, without_is}
use Rattle.vm_tree.proofs.RootLemmas.{made_root, subtree_keys}

-- a root that is not 0 is a top
pub rooted_top : (sizes : Sizes) (x : Contents) (limit : ℕ) (root : Root) (m : Map) (bs : List ℕ) → IsRooted sizes x limit root m bs → root.block ≢ 0 → IsTop sizes x limit root m bs
rooted_top sizes x limit root m bs (inl bare) some = absurd (some bare.none)
rooted_top sizes x limit root m bs (inr top) some = top

-- root 0 is bare
pub rooted_bare : (sizes : Sizes) (x : Contents) (limit : ℕ) (root : Root) (m : Map) (bs : List ℕ) → IsRooted sizes x limit root m bs → root.block ≡ 0 → IsBare root m bs
rooted_bare sizes x limit root m bs (inl bare) none = bare
rooted_bare sizes x limit root m bs (inr top) none =
    let inside = subtree_top sizes x limit root.level root.block m bs top.subtree in absurd (omega (arith, none, inside.0))

module _ (sizes : Sizes) (x : Contents) (limit : ℕ) (root : Root) (m : Map) (bs : List ℕ) (key : Key) (p : ℕ) (is : p ≡ place key) (fits : KeyFits key) (top : IsTop sizes x limit root m bs) where
  -- a look-up at the place is one at the key
  pub value_there : value_at p m ≡ get m key
  value_there =
      ap (λ q. value_at q m) is ∙ value_at-get key m fits (subtree_keys sizes x limit root.level root.block m bs top.subtree)

  -- the records without the one at the place are the map without the key
  pub without_there : without_place p m ≡ without m key
  without_there =
      ap (λ q. without_place q m) is ∙ without_is key m fits (subtree_keys sizes x limit root.level root.block m bs top.subtree) top.rising

  -- no record is left
  pub nothing_left : (P : ℕ → Type 0) (y : Contents) (none : Root) → none.block ≡ 0 → without_place p m ≡ [] → IsRootedIn sizes P y limit none (without m key)
  nothing_left P y none bare left =
      record { stands_in = []; rooted = inl (record { none = bare; empty = sym without_there ∙ left; blocks = refl }); each = tt }

  -- the rest was made
  pub rest_left : (P : ℕ → Type 0) (y : Contents) (now : Root) → now.level ≤ root.level → Made P sizes y limit now.level (child_of now ∷ []) (without_place p m) → IsRootedIn sizes P y limit now (without m key)
  rest_left P y now low made =
      subst (λ (n : Map). IsRootedIn sizes P y limit now n) without_there
      (made_root P sizes y limit now.level (child_of now) (without_place p m) (omega (arith, low, top.level)) (without_rises p 0 m top.rising) made)
