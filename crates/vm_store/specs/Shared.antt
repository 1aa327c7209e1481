-- The blocks of the trees of an alternative, and how many of them only one of two trees has.
use Rattle.std.specs.Prelude.{ℕ, ◌+◌, Bool, List, [], ◌∷◌, find, Option, Some, None, unwrap_or, if◌then◌else◌}
use Rattle.vm_types.specs.declared.at.At.{At}
use Rattle.vm_types.specs.declared.at.Of.{Of}
use Rattle.vm_types.specs.declared.at.Of.TheVariants.{Base, Checkpoint, Current}
use Rattle.vm_types.specs.declared.key.Key.{Key}
use Rattle.vm_types.specs.Map.{Map}
use Rattle.vm_types.specs.Parts.{from}
use Rattle.vm_types.specs.Places.{place}
use Rattle.vm_types.specs.State.{State}
use Rattle.vm_disk.specs.Disk.{Contents, Medium}
use Rattle.vm_block.specs.declared.selector.SlotName.{SlotName}
use Rattle.vm_alloc.specs.Held.{IsHeld}
use Rattle.vm_tree.specs.Over.{is_between, stands_at, tree_over}
use Rattle.vm_tree.specs.Root.{IsRootedIn}
use Rattle.vm_tree.specs.declared.root.Root.{Root}
use Rattle.vm_diff.specs.Shared.{unshared}
use Rattle.vm_store.specs.Filed.{Filed, Standing}
use Rattle.vm_store.specs.Rest.{Rests}
use Rattle.vm_store.specs.Sizes.{sizes}
use Rattle.vm_store.specs.Versions.{is_alternative_of, is_checkpoint_of}
use Rattle.vm_store.specs.declared.version.Version.{Version}

module _ (P : ℕ → Type 0) (x : Contents) (limit : ℕ) where
  module _ (choose : (root : Root) (m : Map) → IsRootedIn sizes P x limit root m → List ℕ) where
    -- the blocks that are chosen of the current tree of an alternative, none if it is not there
    abbrev pub current_chosen : (vs : List Version) (fs : List Filed) → Standing P x limit vs fs → List ℕ → List ℕ
    current_chosen [] [] s alt = []
    current_chosen (v ∷ vs) (f ∷ fs) s alt = if is_alternative_of alt v then choose v.current f.current s.0.current else current_chosen vs fs s.1 alt
    current_chosen [] (f ∷ fs) s alt = []
    current_chosen (v ∷ vs) [] s alt = []

    -- and those of its base tree
    abbrev pub base_chosen : (vs : List Version) (fs : List Filed) → Standing P x limit vs fs → List ℕ → List ℕ
    base_chosen [] [] s alt = []
    base_chosen (v ∷ vs) (f ∷ fs) s alt = if is_alternative_of alt v then choose v.base f.base s.0.base else base_chosen vs fs s.1 alt
    base_chosen [] (f ∷ fs) s alt = []
    base_chosen (v ∷ vs) [] s alt = []

    -- and those of the current tree of a checkpoint of an alternative
    abbrev pub saved_chosen : (vs : List Version) (fs : List Filed) → Standing P x limit vs fs → List ℕ → List ℕ → List ℕ
    saved_chosen [] [] s alt name = []
    saved_chosen (v ∷ vs) (f ∷ fs) s alt name = if is_checkpoint_of alt name v then choose v.current f.current s.0.current else saved_chosen vs fs s.1 alt name
    saved_chosen [] (f ∷ fs) s alt name = []
    saved_chosen (v ∷ vs) [] s alt name = []

    -- and those of the records of an alternative that are meant
    abbrev pub meant_chosen : (vs : List Version) (fs : List Filed) → Standing P x limit vs fs → List ℕ → Of → List ℕ
    meant_chosen vs fs s alt Current = current_chosen vs fs s alt
    meant_chosen vs fs s alt Base = base_chosen vs fs s alt
    meant_chosen vs fs s alt (Checkpoint name) = saved_chosen vs fs s alt name

  -- all blocks under the current root of an alternative, none if it is not there
  abbrev pub current_blocks : (vs : List Version) (fs : List Filed) → Standing P x limit vs fs → List ℕ → List ℕ
  current_blocks vs fs s alt = current_chosen (λ root m lies. lies.stands_in) vs fs s alt

  -- and those under its base root
  abbrev pub base_blocks : (vs : List Version) (fs : List Filed) → Standing P x limit vs fs → List ℕ → List ℕ
  base_blocks vs fs s alt = base_chosen (λ root m lies. lies.stands_in) vs fs s alt

-- the name of the parent of an alternative that was found, if it has one
abbrev pub parent_name : Option Version → List ℕ
parent_name None = []
parent_name (Some v) = unwrap_or v.owner []

module _ {m : Medium} {limit : ℕ} {slot_name : SlotName} {bits : List Bool} {committed working : List Version} {s : State} (rests : Rests m limit slot_name bits committed working s) where
  -- the blocks of the tree of a version, none if it is not there
  abbrev pub blocks_at : At → List ℕ
  blocks_at at = meant_chosen (IsHeld bits) m.contents limit (λ root map lies. lies.stands_in) working rests.new rests.stands at.alt at.of

  -- of these the ones that have a record under them at a place that passes the test, and those with the value of such a record
  abbrev pub blocks_over : (Map → ℕ → Bool) → At → List ℕ
  blocks_over test at =
      meant_chosen (IsHeld bits) m.contents limit (λ root map lies. tree_over (test map) sizes m.contents limit root map lies.stands_in lies.rooted) working rests.new rests.stands at.alt at.of

  -- those with a record from one key to another under them
  abbrev pub blocks_of_part : Key → Key → At → List ℕ
  blocks_of_part low high at = blocks_over (λ map. is_between (place low) (place high)) at

  -- and those with one of the first records at a key and after it
  abbrev pub blocks_of_page : Key → ℕ → At → List ℕ
  blocks_of_page low count at = blocks_over (λ map. stands_at (from (place low) count map)) at

  -- how many blocks only one of the trees of two versions has
  abbrev pub unshared_at : At → At → ℕ
  unshared_at first second = unshared (blocks_at first) (blocks_at second)

  -- and how many of those with a record from one key to another under them
  abbrev pub unshared_part : Key → Key → At → At → ℕ
  unshared_part low high first second = unshared (blocks_of_part low high first) (blocks_of_part low high second)

  -- how many blocks only one of the base tree of an alternative and the current tree of this one has
  abbrev pub unshared_from : List ℕ → List ℕ → ℕ
  unshared_from alt other =
      unshared (base_blocks (IsHeld bits) m.contents limit working rests.new rests.stands alt) (current_blocks (IsHeld bits) m.contents limit working rests.new rests.stands other)

  -- how many only one of its base and its current tree has
  abbrev pub unshared_of : List ℕ → ℕ
  unshared_of alt = unshared_from alt alt

  -- how many only one of its base and its parent's current tree has
  abbrev pub unshared_with_parent : List ℕ → ℕ
  unshared_with_parent alt = unshared_from alt (parent_name (find (is_alternative_of alt) working))

  -- both numbers together
  abbrev pub unshared_on_sides : List ℕ → ℕ
  unshared_on_sides alt = unshared_with_parent alt + unshared_of alt
