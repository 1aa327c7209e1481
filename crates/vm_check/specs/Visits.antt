-- What a walk knows of the blocks that it met, and what its visits find.
use Rattle.std.specs.Prelude.{◌≡◌, ◌↔◌, ◌⊎◌, ℕ, ◌+◌, ◌-◌, ◌<◌, ◌≤◌, Bool, true, List, length, slice_index_or, Contains, Option, None, Result, IfOk, IsSomeAnd}
use Rattle.std.specs.List.{AllByRecursion}
use Rattle.vm_types.specs.declared.key.Key.{Key}
use Rattle.vm_types.specs.Map.{Map}
use Rattle.vm_types.specs.Places.{RisesFrom, place, places}
use Rattle.vm_disk.specs.Disk.{Contents, DiskState, block}
use Rattle.vm_alloc.specs.Held.{HoldsMore}
use Rattle.vm_alloc.specs.Marks.{IsMarked}
use Rattle.vm_block.specs.Leaf.{BeginsWith, Record}
use Rattle.vm_block.specs.Node.{IsNode, lows}
use Rattle.vm_block.specs.declared.node.Child.{Child}
use Rattle.vm_tree.specs.Tree.{Sizes, Children, IsTree, Subtree}
use Rattle.vm_tree.specs.Root.{IsRooted, sizes_of}
use Rattle.vm_tree.specs.declared.root.Root.{Root}
use Rattle.vm_disk.specs.declared.disk.DeviceFault.{DeviceFault}
use Rattle.vm_check.specs.Keys.{HasLevel, IsHighest}
use Rattle.vm_check.specs.declared.notes.Notes.{Notes}
use Rattle.vm_check.specs.declared.verification.Span.{Span}
use Rattle.vm_check.specs.declared.verification.Met.{Met}

-- the span that is kept so, and how a span is kept
abbrev pub span_of : Met → Span
span_of met = record { level = met.level; low = record { table = met.low_table; number = met.low_number }; high = record { table = met.high_table; number = met.high_number } }

abbrev pub met_of : Span → Met
met_of span = record { low_number = span.low.number; high_number = span.high.number; low_table = span.low.table; high_table = span.high.table; level = span.level }

-- what is kept of a block that was not met
abbrev pub no_met : Met
no_met = record { low_number = 0; high_number = 0; low_table = 0; high_table = 0; level = 0 }

-- what was found at block n
abbrev pub span_at : List Met → ℕ → Span
span_at spans n = span_of (slice_index_or spans n no_met)

-- what is kept fits the disk: there are a mark, a span and a note for each of `blocks` blocks, which the disk has
pub record SpansFit (blocks : ℕ) (x : DiskState) (marks : List Bool) (spans : List Met) (notes : Notes) : Type 0 where
  pub inside : blocks ≤ x.blocks
  pub bits : length marks ≡ blocks
  pub room : length spans ≡ blocks
  pub noted : length notes.damaged ≡ blocks

-- block n is the top of a subtree of this level, with these lowest and highest keys, all of whose blocks are marked
pub record Whole (sizes : Sizes) (x : Contents) (limit : ℕ) (marks : List Bool) (n : ℕ) (span : Span) : Type 0 where
  pub records : List Record
  pub blocks : List ℕ
  pub subtree : Subtree sizes x limit span.level n records blocks
  pub rising : RisesFrom 0 (places records)
  pub lowest : BeginsWith span.low records
  pub highest : IsHighest span.high records
  pub each : AllByRecursion (IsMarked marks) blocks

-- each marked block has the level that was found
abbrev pub AreFormed : Contents → List Bool → List Met → Type 0
AreFormed x marks spans = (n : ℕ) → IsMarked marks n → HasLevel (block x n) (span_at spans n).level

-- of each marked block the level is known, and if it is at most this one, the block was found whole
pub record Known (sizes : Sizes) (x : Contents) (limit most : ℕ) (marks : List Bool) (spans : List Met) : Type 0 where
  pub formed : AreFormed x marks spans
  pub whole : (n : ℕ) → IsMarked marks n → (span_at spans n).level ≤ most → Whole sizes x limit marks n (span_at spans n)

-- what is new since: nothing new is said of a block that was marked, and each block marked since is one of these, of at most this level
pub record Adds (most : ℕ) (bs : List ℕ) (marks : List Bool) (spans : List Met) (later : List Bool) (now : List Met) : Type 0 where
  pub grows : HoldsMore marks later
  pub kept : (n : ℕ) → IsMarked marks n → span_at now n ≡ span_at spans n
  pub fresh : (n : ℕ) → IsMarked later n → IsMarked marks n ⊎ (Contains bs n × ((span_at now n).level ≤ most))

-- a visit found this at block n
pub record Visited (sizes : Sizes) (x : Contents) (limit least most n : ℕ) (span : Span) (marks : List Bool) (spans : List Met) (later : List Bool) (now : List Met) : Type 0 where
  pub at_least : least ≤ span.level
  pub at_most : span.level ≤ most
  pub whole : Whole sizes x limit later n span
  pub adds : Adds most whole.blocks marks spans later now
  pub known : Known sizes x limit most later now

-- visits found this under children of this level, with this highest key
pub record VisitedAll (sizes : Sizes) (x : Contents) (limit level : ℕ) (cs : List Child) (high : Key) (marks : List Bool) (spans : List Met) (later : List Bool) (now : List Met) : Type 0 where
  pub records : List Record
  pub blocks : List ℕ
  pub under : Children (Subtree sizes x limit level) cs records blocks
  pub rising : RisesFrom 0 (places records)
  pub highest : 0 < length cs → IsHighest high records
  pub each : AllByRecursion (IsMarked later) blocks
  pub adds : Adds level blocks marks spans later now
  pub known : Known sizes x limit level later now

-- a visit found this root under number n
pub record RootVisited (sizes : Sizes) (x : Contents) (limit n : ℕ) (root : Root) (marks : List Bool) (spans : List Met) (later : List Bool) (now : List Met) : Type 0 where
  pub records : Map
  pub blocks : List ℕ
  pub named : root.block ≡ n
  pub rooted : IsRooted sizes x limit root records blocks
  pub each : AllByRecursion (IsMarked later) blocks
  pub adds : Adds (sizes.levels - 1) blocks marks spans later now
  pub known : Known sizes x limit (sizes.levels - 1) later now

-- one of this many children ends below the lowest key of the next one, if there is one
abbrev pub EndsBelowNext : Key → List ℕ → ℕ → ℕ → Type 0 → Type 0
EndsBelowNext high bytes count i answer =
    (above : ℕ) (cs : List Child) → IsNode bytes above cs → length cs ≡ count
    → answer ↔ (i + 1 < length cs → place high < slice_index_or (lows cs) (i + 1) 0)

-- visits found this highest key under the child at i, of these of this level
pub record ChildVisited (sizes : Sizes) (x : Contents) (limit level i : ℕ) (cs : List Child) (high : Key) (marks : List Bool) (spans : List Met) (later : List Bool) (now : List Met) : Type 0 where
  pub child : Child
  pub listed : slice_index_or cs i child ≡ child
  pub span : Span
  pub high_is : span.high ≡ high
  pub low : span.low ≡ child.low
  pub visited : Visited sizes x limit level level child.block span marks spans later now
  pub below : i + 1 < length cs → place high < slice_index_or (lows cs) (i + 1) 0

-- # What a visit finds if no damaged block was noted by its end, and that it notes none in trees, if the disk is honest after it, by what was
-- known before

-- at a block whose level lies in a range
abbrev pub Visits : Result (Option Span) DeviceFault → ℕ → DiskState → DiskState → ℕ → ℕ → ℕ → ℕ → List Bool → List Met → List Bool → List Met → Notes → Type 0
Visits result fan old new limit least most b marks spans later now noted =
    new.honest ≡ true → (levels : ℕ) → Known (sizes_of fan levels) old.now.contents limit most marks spans
    → IfOk result (λ found. noted.first ≡ None → IsSomeAnd found (λ span. Visited (sizes_of fan levels) old.now.contents limit least most b span marks spans later now))

abbrev pub AcceptsSubtree : ℕ → DiskState → DiskState → ℕ → ℕ → ℕ → ℕ → List Bool → List Met → Notes → Notes → Type 0
AcceptsSubtree fan old new limit least most b marks spans notes noted =
    new.honest ≡ true → (levels l : ℕ) (rs : List Record) (bs : List ℕ) → Known (sizes_of fan levels) old.now.contents limit most marks spans
    → least ≤ l → l ≤ most → Subtree (sizes_of fan levels) old.now.contents limit l b rs bs → RisesFrom 0 (places rs) → notes.first ≡ None → noted.first ≡ None

-- at the child at i of this many, of this level, of an inner block
abbrev pub VisitsChild : Result Key DeviceFault → ℕ → DiskState → DiskState → ℕ → ℕ → List ℕ → ℕ → ℕ → List Bool → List Met → List Bool → List Met → Notes → Type 0
VisitsChild result fan old new limit level bytes count i marks spans later now noted =
    new.honest ≡ true → (levels above : ℕ) (cs : List Child) → IsNode bytes above cs → length cs ≡ count
    → Known (sizes_of fan levels) old.now.contents limit level marks spans
    → IfOk result (λ high. noted.first ≡ None → ChildVisited (sizes_of fan levels) old.now.contents limit level i cs high marks spans later now)

abbrev pub AcceptsChild : ℕ → DiskState → DiskState → ℕ → ℕ → List ℕ → ℕ → List Bool → List Met → Notes → Notes → Type 0
AcceptsChild fan old new limit level bytes count marks spans notes noted =
    new.honest ≡ true → (levels above : ℕ) (cs : List Child) (rs : List Record) (bs : List ℕ) → IsNode bytes above cs → length cs ≡ count
    → Known (sizes_of fan levels) old.now.contents limit level marks spans
    → Children (Subtree (sizes_of fan levels) old.now.contents limit level) cs rs bs → RisesFrom 0 (places rs) → notes.first ≡ None → noted.first ≡ None

-- at this many children, of this level, of an inner block
abbrev pub VisitsChildren : Result Key DeviceFault → ℕ → DiskState → DiskState → ℕ → ℕ → List ℕ → ℕ → List Bool → List Met → List Bool → List Met → Notes → Type 0
VisitsChildren result fan old new limit level bytes count marks spans later now noted =
    new.honest ≡ true → (levels above : ℕ) (cs : List Child) → IsNode bytes above cs → length cs ≡ count
    → Known (sizes_of fan levels) old.now.contents limit level marks spans
    → IfOk result (λ high. noted.first ≡ None → VisitedAll (sizes_of fan levels) old.now.contents limit level cs high marks spans later now)

-- at the root of this number
abbrev pub VisitsRoot : Result Root DeviceFault → Sizes → DiskState → DiskState → ℕ → ℕ → List Bool → List Met → List Bool → List Met → Notes → Type 0
VisitsRoot result sizes old new limit n marks spans later now noted =
    new.honest ≡ true → Known sizes old.now.contents limit (sizes.levels - 1) marks spans
    → IfOk result (λ root. noted.first ≡ None → RootVisited sizes old.now.contents limit n root marks spans later now)

abbrev pub AcceptsTree : Sizes → DiskState → DiskState → ℕ → ℕ → List Bool → List Met → Notes → Notes → Type 0
AcceptsTree sizes old new limit n marks spans notes noted =
    new.honest ≡ true → Known sizes old.now.contents limit (sizes.levels - 1) marks spans
    → (m : Map) (bs : List ℕ) → IsTree sizes old.now.contents limit n m bs → notes.first ≡ None → noted.first ≡ None
