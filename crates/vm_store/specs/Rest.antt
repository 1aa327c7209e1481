-- What a store stands for, between two calls.
use Rattle.std.specs.Prelude.{◌≡◌, ℕ, ◌<◌, ◌≤◌, ◌++◌, Bool, true, false, List, [], length, Option, Some, None}
use Rattle.vm_types.specs.declared.sizes.TheConstants.{FIRST_DATA}
use Rattle.vm_types.specs.Firsts.{change_first}
use Rattle.vm_types.specs.State.{State}
use Rattle.vm_types.specs.Tree.{changed}
use Rattle.vm_disk.specs.Disk.{Medium}
use Rattle.vm_alloc.specs.Held.{HoldsMore, IsHeld, free_count}
use Rattle.vm_block.specs.Slot.{SlotFits}
use Rattle.vm_block.specs.declared.selector.SlotName.{SlotName}
use Rattle.vm_catalog.specs.Catalog.{AtRest}
use Rattle.vm_store.specs.Filed.{Filed, Standing, tree_of, reach}
use Rattle.vm_store.specs.Spare.{spare}
use Rattle.vm_tree.specs.declared.root.Root.{Root}
use Rattle.vm_store.specs.Versions.{is_alternative_of, slot_entries, with_current}
use Rattle.vm_store.specs.declared.store.parts.Parts.{Parts}
use Rattle.vm_store.specs.declared.version.Version.{Version}

-- held, and not to be lost in a crash
pub record IsSafe (bits : List Bool) (m : Medium) (n : ℕ) : Type 0 where
  pub held : IsHeld bits n
  pub clean : m.dirty n ≡ false

-- a store with these versions, blocks and held blocks stands for this state, on a disk that holds m: the slot in use names the
-- committed ones, and says how many blocks were committed, all of which a crash leaves; their trees stand in blocks of those that are
-- held and clean, those of the working ones in blocks that are held
pub record Rests (m : Medium) (limit : ℕ) (slot_name : SlotName) (bits : List Bool) (committed working : List Version) (s : State) : Type 0 where
  pub old : List Filed
  pub new : List Filed
  pub blocks : limit ≡ s.blocks
  pub fewer : s.kept ≤ limit
  pub inside : limit ≤ length m.contents
  pub sure : s.kept ≤ m.sure
  pub system : (n : ℕ) → n < FIRST_DATA → IsHeld bits n
  pub rest : AtRest slot_name m s.kept (slot_entries committed)
  pub fits : SlotFits limit (slot_entries working)
  pub safe : Standing (IsSafe bits m) m.contents s.kept committed old
  pub stands : Standing (IsHeld bits) m.contents limit working new
  pub gives_old : tree_of old ≡ s.committed
  pub gives_new : tree_of new ≡ s.working

-- how many blocks are spare: for data, and under no root of the committed or the working versions
abbrev pub spare_of : {m : Medium} {limit : ℕ} {slot_name : SlotName} {bits : List Bool} {committed working : List Version} {s : State} → Rests m limit slot_name bits committed working s → ℕ
spare_of {m} {limit} {slot_name} {bits} {committed} {working} {s} rests =
    spare limit (reach (IsSafe bits m) m.contents s.kept committed rests.old rests.safe ++ reach (IsHeld bits) m.contents limit working rests.new rests.stands)

-- the root of the empty map
abbrev pub no_root : Root
no_root = record { block = 0; level = 0; low = record { table = 0; number = 0 } }

-- the versions, and the state, with no records in the alternative of this name
abbrev pub set_aside : List ℕ → List Version → List Version
set_aside alt vs = change_first (is_alternative_of alt) (with_current no_root) vs

abbrev pub state_aside : List ℕ → State → State
state_aside alt s = record s { working = changed s.working alt (λ a. record a { current = [] }) }

-- a series of changes of one alternative goes on, before which these blocks were held: they still are, and all trees except that of the
-- alternative's records stand in them
pub record IsInSeries (alt : List ℕ) (m : Medium) (limit : ℕ) (slot_name : SlotName) (bits before : List Bool) (committed working : List Version) (s : State) : Type 0 where
  pub wider : HoldsMore before bits
  pub others : Rests m limit slot_name before committed (set_aside alt working) (state_aside alt s)

-- the blocks that were held before the series, if one goes on
abbrev pub before_series : Option (List ℕ) → List Bool → Option (List Bool)
before_series None before = None
before_series (Some alt) before = Some before

-- the blocks that a change may not touch: those that were held before its series, and with no series those that are held
abbrev pub before_of : Option (List Bool) → List Bool → List Bool
before_of None bits = bits
before_of (Some before) bits = before

-- what is known of the series that goes on, if one does
abbrev pub KeepsSeries : Option (List ℕ) → (m : Medium) (limit : ℕ) (slot_name : SlotName) (bits before : List Bool) (committed working : List Version) (s : State) → Type 0
KeepsSeries None m limit slot_name bits before committed working s = Unit {0}
KeepsSeries (Some alt) m limit slot_name bits before committed working s = IsInSeries alt m limit slot_name bits before committed working s

-- the same store, which knows how many blocks were committed, in which this series goes on, if one does, and whose free blocks are
-- exactly the spare ones, if they are marked
pub record HoldsWith (m : Medium) (limit kept : ℕ) (slot_name : SlotName) (bits before : List Bool) (series : Option (List ℕ)) (marked : Bool) (committed working : List Version) (s : State) : Type 0 where
  pub rests : Rests m limit slot_name bits committed working s
  pub keeps : kept ≡ s.kept
  pub series_kept : KeepsSeries series m limit slot_name bits before committed working s
  pub known : marked ≡ true → free_count bits ≡ spare_of rests

-- a store with these parts stands for this state, on a disk that holds m
abbrev pub PartsStandFor : Medium → Parts → State → Type 0
PartsStandFor m parts s = HoldsWith m parts.blocks parts.kept parts.slot_name parts.held parts.before parts.series parts.marked parts.committed parts.working s
