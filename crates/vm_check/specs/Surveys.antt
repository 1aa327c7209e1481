-- What a walk that goes on behind damaged blocks knows of the blocks that it met.
use Rattle.std.specs.Prelude.{◌≡◌, ◌⊎◌, ℕ, ◌+◌, ◌-◌, ◌<◌, ◌≤◌, Bool, true, List, length, slice_index_or, Contains, Option, None, Some, Result, IfOk}
use Rattle.vm_types.specs.declared.key.Key.{Key}
use Rattle.vm_disk.specs.Disk.{Contents, DiskState, block}
use Rattle.vm_disk.specs.declared.disk.DeviceFault.{DeviceFault}
use Rattle.vm_alloc.specs.Held.{HoldsMore}
use Rattle.vm_alloc.specs.Marks.{IsMarked}
use Rattle.vm_block.specs.Node.{IsNode}
use Rattle.vm_block.specs.declared.node.Child.{Child}
use Rattle.vm_tree.specs.Calls.{Looks}
use Rattle.vm_tree.specs.Tree.{Sizes, IsData}
use Rattle.vm_tree.specs.Root.{sizes_of}
use Rattle.vm_tree.specs.declared.root.Root.{Root}
use Rattle.vm_check.specs.Damage.{HasWrongLevel, IsDamaged, IsFirst, IsMet, IsWhole, LastKey, Reaches, StartsWith}
use Rattle.vm_check.specs.Keys.{HasLevel}
use Rattle.vm_check.specs.Marks.{PaysJustReads}
use Rattle.vm_check.specs.Visits.{span_at}
use Rattle.vm_check.specs.declared.notes.Notes.{Notes}
use Rattle.vm_check.specs.declared.notes.OnDamage.TheVariants.{GoOn}
use Rattle.vm_check.specs.declared.verification.Span.{Span}
use Rattle.vm_check.specs.declared.verification.Met.{Met}

-- what was noted stays so
pub record KeepsNotes (old new : Notes) : Type 0 where
  pub on_damage : new.on_damage ≡ old.on_damage
  pub none : new.first ≡ None → old.first ≡ None
  pub damaged : HoldsMore old.damaged new.damaged

-- a walk that fails exactly if `fails` holds only looked at the disk, read just the data blocks that it marked, and forgot nothing
pub record Walks (fails : Type 0) (old new : DiskState) (marks later : List Bool) (notes noted : Notes) : Type 0 where
  pub looks : Looks fails old new
  pub once : PaysJustReads old new marks later
  pub growing : HoldsMore marks later
  pub keeps : KeepsNotes notes noted

-- block n, which is not damaged, has this span
pub record HasSpan (sizes : Sizes) (x : Contents) (limit : ℕ) (marks damaged : List Bool) (n : ℕ) (span : Span) : Type 0 where
  pub whole : IsWhole sizes x limit marks damaged span.level n
  pub starts : StartsWith (block x n) span.level span.low
  pub last : LastKey x damaged span.level n span.high

-- what is known of the blocks that were met: each that was noted is damaged; of each other one the level is known, and if it is at most this
-- one, its span
pub record Surveyed (sizes : Sizes) (x : Contents) (limit : ℕ) (ns : List ℕ) (most : ℕ) (marks : List Bool) (spans : List Met) (notes : Notes) : Type 0 where
  pub told : (n : ℕ) → notes.first ≡ Some n → IsFirst x limit ns notes.damaged n
  pub each : (n : ℕ) → IsMarked notes.damaged n → IsDamaged sizes x limit ns notes.damaged n
  pub formed : (n : ℕ) → IsMarked marks n → IsMarked notes.damaged n ⊎ HasLevel (block x n) (span_at spans n).level
  pub whole : (n : ℕ) → IsMarked marks n → (span_at spans n).level ≤ most → IsMarked notes.damaged n ⊎ HasSpan sizes x limit marks notes.damaged n (span_at spans n)

-- what is new since: nothing new is said of a block that was met, and each met since is damaged or of at most this level
pub record GoesOn (most : ℕ) (marks : List Bool) (spans : List Met) (later : List Bool) (now : List Met) (noted : Notes) : Type 0 where
  pub grows : HoldsMore marks later
  pub kept : (n : ℕ) → IsMarked marks n → span_at now n ≡ span_at spans n
  pub fresh : (n : ℕ) → IsMarked later n → IsMarked marks n ⊎ (IsMarked noted.damaged n ⊎ ((span_at now n).level ≤ most))

-- a block was noted; or it was not, and has this span, with a level in this range
abbrev pub IsSurveyed : Sizes → Contents → ℕ → ℕ → ℕ → ℕ → List Bool → Notes → Option Span → Type 0
IsSurveyed sizes x limit least most b later noted None = IsMarked noted.damaged b
IsSurveyed sizes x limit least most b later noted (Some span) = (least ≤ span.level) × (span.level ≤ most) × HasSpan sizes x limit later noted.damaged b span

-- what a visit of block b knows then
pub record BlockSurveyed (sizes : Sizes) (x : Contents) (limit : ℕ) (ns : List ℕ) (least most b : ℕ) (found : Option Span) (marks : List Bool) (spans : List Met) (later : List Bool) (now : List Met) (noted : Notes) : Type 0 where
  pub surveyed : Surveyed sizes x limit ns most later now noted
  pub goes_on : GoesOn most marks spans later now noted
  pub met : IsMarked later b
  pub is : IsSurveyed sizes x limit least most b later noted found

-- this is the highest key known under a child of this level
abbrev pub IsHigh : Contents → List Bool → ℕ → Child → Key → Type 0
IsHigh x damaged l c high = (IsMarked damaged c.block × (high ≡ c.low)) ⊎ LastKey x damaged l c.block high

-- the child at i was met, and this is the highest key known under it
pub record ChildMet (x : Contents) (limit : ℕ) (later : List Bool) (noted : Notes) (l i : ℕ) (cs : List Child) (c : Child) (high : Key) : Type 0 where
  pub met : IsMet x limit later noted.damaged l i cs c
  pub high_is : IsHigh x noted.damaged l c high

-- what a visit of the child at i knows then, where the inner block was noted, or the child was met
pub record ChildSurveyed (sizes : Sizes) (x : Contents) (limit : ℕ) (ns : List ℕ) (parent l i : ℕ) (cs : List Child) (high : Key) (marks : List Bool) (spans : List Met) (later : List Bool) (now : List Met) (noted : Notes) : Type 0 where
  pub surveyed : Surveyed sizes x limit ns l later now noted
  pub goes_on : GoesOn l marks spans later now noted
  pub is : IsMarked noted.damaged parent ⊎ ((c : Child) → slice_index_or cs i c ≡ c → ChildMet x limit later noted l i cs c high)

-- the first of the children, this many, were met, and this is the highest key known under the last of them
pub record AreMet (x : Contents) (limit : ℕ) (later : List Bool) (noted : Notes) (l i : ℕ) (cs : List Child) (high : Key) : Type 0 where
  pub each : (j : ℕ) (c : Child) → j < i → slice_index_or cs j c ≡ c → IsMet x limit later noted.damaged l j cs c
  pub high_is : (j : ℕ) (c : Child) → j + 1 ≡ i → slice_index_or cs j c ≡ c → IsHigh x noted.damaged l c high

-- what visits of the first children of an inner block, this many, know then
pub record ChildrenSurveyed (sizes : Sizes) (x : Contents) (limit : ℕ) (ns : List ℕ) (parent l i : ℕ) (cs : List Child) (high : Key) (marks : List Bool) (spans : List Met) (later : List Bool) (now : List Met) (noted : Notes) : Type 0 where
  pub surveyed : Surveyed sizes x limit ns l later now noted
  pub goes_on : GoesOn l marks spans later now noted
  pub are : IsMarked noted.damaged parent ⊎ AreMet x limit later noted l i cs high

-- an inner block with children of this level, whose bytes these are, is reached
pub record IsParent (x : Contents) (limit : ℕ) (ns : List ℕ) (parent l : ℕ) (bytes : List ℕ) (cs : List Child) : Type 0 where
  pub inside : IsData limit parent
  pub reached : Reaches x ns parent
  pub above : ℕ
  pub node : IsNode bytes above cs
  pub level : above ≡ l + 1
  pub bytes_are : bytes ≡ block x parent

-- # What a visit knows if the walk goes on, and the disk is honest after it, by what was known before

-- at a block whose level lies in a range, outside of which it would be the wrong one
abbrev pub Surveys : Result (Option Span) DeviceFault → ℕ → DiskState → DiskState → ℕ → ℕ → ℕ → ℕ → List Bool → List Met → Notes → List Bool → List Met → Notes → Type 0
Surveys result fan old new limit least most b marks spans notes later now noted =
    new.honest ≡ true → notes.on_damage ≡ GoOn → (levels : ℕ) (ns : List ℕ) → Surveyed (sizes_of fan levels) old.now.contents limit ns most marks spans notes
    → Reaches old.now.contents ns b → ((k : ℕ) → HasLevel (block old.now.contents b) k → (k < least) ⊎ (most < k) → HasWrongLevel levels old.now.contents ns b)
    → IfOk result (λ found. BlockSurveyed (sizes_of fan levels) old.now.contents limit ns least most b found marks spans later now noted)

-- at the child at i of this many, of this level, of an inner block
abbrev pub SurveysChild : Result Key DeviceFault → ℕ → DiskState → DiskState → ℕ → ℕ → ℕ → List ℕ → ℕ → ℕ → List Bool → List Met → Notes → List Bool → List Met → Notes → Type 0
SurveysChild result fan old new limit level parent bytes count i marks spans notes later now noted =
    new.honest ≡ true → notes.on_damage ≡ GoOn → (levels : ℕ) (ns : List ℕ) (cs : List Child) → IsParent old.now.contents limit ns parent level bytes cs → length cs ≡ count
    → Surveyed (sizes_of fan levels) old.now.contents limit ns level marks spans notes
    → IfOk result (λ high. ChildSurveyed (sizes_of fan levels) old.now.contents limit ns parent level i cs high marks spans later now noted)

-- at this many children, of this level, of an inner block
abbrev pub SurveysChildren : Result Key DeviceFault → ℕ → DiskState → DiskState → ℕ → ℕ → ℕ → List ℕ → ℕ → List Bool → List Met → Notes → List Bool → List Met → Notes → Type 0
SurveysChildren result fan old new limit level parent bytes count marks spans notes later now noted =
    new.honest ≡ true → notes.on_damage ≡ GoOn → (levels : ℕ) (ns : List ℕ) (cs : List Child) → IsParent old.now.contents limit ns parent level bytes cs → length cs ≡ count
    → Surveyed (sizes_of fan levels) old.now.contents limit ns level marks spans notes
    → IfOk result (λ high. ChildrenSurveyed (sizes_of fan levels) old.now.contents limit ns parent level count cs high marks spans later now noted)

-- the number is none of a data block, or the block was met, and is damaged or has the level of a top
abbrev pub IsTopMet : Sizes → Contents → ℕ → List Bool → List Bool → ℕ → Type 0
IsTopMet sizes x limit met damaged n =
    IsData limit n → IsMarked met n × (IsMarked damaged n ⊎ ((l : ℕ) × (l < sizes.levels) × HasLevel (block x n) l))

-- what a visit of the root of this number knows then
pub record RootSurveyed (sizes : Sizes) (x : Contents) (limit : ℕ) (ns : List ℕ) (n : ℕ) (marks : List Bool) (spans : List Met) (later : List Bool) (now : List Met) (noted : Notes) : Type 0 where
  pub surveyed : Surveyed sizes x limit ns (sizes.levels - 1) later now noted
  pub goes_on : GoesOn (sizes.levels - 1) marks spans later now noted
  pub top : IsTopMet sizes x limit later noted.damaged n

-- at the root of this number, one of those that are walked
abbrev pub SurveysRoot : Result Root DeviceFault → Sizes → DiskState → DiskState → ℕ → ℕ → List Bool → List Met → Notes → List Bool → List Met → Notes → Type 0
SurveysRoot result sizes old new limit n marks spans notes later now noted =
    new.honest ≡ true → notes.on_damage ≡ GoOn → (ns : List ℕ) → Contains ns n → Surveyed sizes old.now.contents limit ns (sizes.levels - 1) marks spans notes
    → IfOk result (λ root. RootSurveyed sizes old.now.contents limit ns n marks spans later now noted)
