-- The tree of alternatives that versions give.
use Rattle.std.specs.Prelude.{◌≡◌, ℕ, List, [], ◌∷◌, ◌++◌, Option, unwrap_or, if◌then◌else◌}
use Rattle.vm_types.specs.Map.{Map}
use Rattle.vm_types.specs.Tree.{Tree, Alternative, Saved, changed}
use Rattle.vm_disk.specs.Disk.{Contents}
use Rattle.vm_block.specs.Slot.{is_alternative}
use Rattle.vm_block.specs.declared.slot.Kind.{Kind}
use Rattle.vm_tree.specs.Root.{IsRootedIn}
use Rattle.vm_store.specs.Sizes.{sizes}
use Rattle.vm_store.specs.declared.version.Version.{Version}

-- any block
abbrev pub Anywhere : ℕ → Type 0
Anywhere n = Unit {0}

-- a version with maps in place of its roots
pub record Filed : Type 0 where
  pub kind : Kind
  pub name : List ℕ
  pub owner : Option (List ℕ)
  pub current : Map
  pub base : Map

-- the checkpoint that it is
abbrev pub saved_of : Filed → Saved
saved_of f = record { name = f.name; current = f.current; base = f.base }

-- the alternative that it is, without checkpoints
abbrev pub bare : Filed → Alternative
bare f = record { name = f.name; parent = f.owner; current = f.current; base = f.base; saved = [] }

-- the alternative with one more checkpoint
abbrev pub with_saved : Saved → Alternative → Alternative
with_saved c a = record a { saved = a.saved ++ c ∷ [] }

-- the tree with one of them more: an alternative comes last, a checkpoint goes to its owner
abbrev pub add : Tree → Filed → Tree
add tree f = if is_alternative f.kind then tree ++ bare f ∷ [] else changed tree (unwrap_or f.owner []) (with_saved (saved_of f))

-- the tree with all these more, one after another
abbrev pub with_filed : Tree → List Filed → Tree
with_filed tree [] = tree
with_filed tree (f ∷ fs) = with_filed (add tree f) fs

-- the tree that they give
abbrev pub tree_of : List Filed → Tree
tree_of fs = with_filed [] fs

-- under both roots of the version lie these maps, in blocks that have P
pub record StandsAs (P : ℕ → Type 0) (x : Contents) (limit : ℕ) (v : Version) (f : Filed) : Type 0 where
  pub kind : f.kind ≡ v.kind
  pub name : f.name ≡ v.name
  pub owner : f.owner ≡ v.owner
  pub current : IsRootedIn sizes P x limit v.current f.current
  pub base : IsRootedIn sizes P x limit v.base f.base

-- each version has its maps, in blocks that have P
abbrev pub Standing : (ℕ → Type 0) → Contents → ℕ → List Version → List Filed → Type 0
Standing P x limit [] [] = Unit {0}
Standing P x limit (v ∷ vs) (f ∷ fs) = StandsAs P x limit v f × Standing P x limit vs fs
Standing P x limit [] (f ∷ fs) = ⊥
Standing P x limit (v ∷ vs) [] = ⊥

-- the blocks under all roots of the versions
abbrev pub reach : (P : ℕ → Type 0) (x : Contents) (limit : ℕ) (vs : List Version) (fs : List Filed) → Standing P x limit vs fs → List ℕ
reach P x limit [] [] s = []
reach P x limit (v ∷ vs) (f ∷ fs) s = s.0.current.stands_in ++ (s.0.base.stands_in ++ reach P x limit vs fs s.1)
reach P x limit [] (f ∷ fs) s = []
reach P x limit (v ∷ vs) [] s = []
