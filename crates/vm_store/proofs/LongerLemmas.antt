-- A store on a disk that gets longer: what rests, shows and is guarded still does, in as many blocks or in more.
use Rattle.std.proofs.Common.{◌≡◌, ◌⊎◌, inl, ℕ, ◌<◌, ◌≤◌, ◌^◌, Bool, true, false, List, ◌++◌, length, replicate, Result, Ok, Err, refl, sym, ap, ◌∙◌, subst, arith}
use Rattle.std.proofs.lemmas.List.{get_or_append_left}
use Rattle.vm_types.specs.Kept.{LeftBy}
use Rattle.vm_types.specs.State.{State, is_bad_size, outcome}
use Rattle.vm_types.specs.Step.{Outcome}
use Rattle.vm_types.specs.declared.answer.Answer.{Answer}
use Rattle.vm_types.specs.declared.answer.Answer.TheVariants.{Done}
use Rattle.vm_types.specs.declared.command.Command.{Command}
use Rattle.vm_types.specs.declared.command.Command.TheVariants.{Grow}
use Rattle.vm_types.specs.declared.refusal.Refusal.{Refusal}
use Rattle.vm_types.specs.declared.refusal.Refusal.TheVariants.{BadSize, Device, Memory}
use Rattle.vm_types.proofs.Growing.{good_size, grow_accepted, grow_refused}
use Rattle.vm_disk.specs.Disk.{DiskState, Enlarges, Goes, Lengthens, Medium}
use Rattle.vm_disk.specs.Moments.{Leaves, Throughout}
use Rattle.vm_disk.proofs.MomentLemmas.{goes_on, touches_nothing, started}
use Rattle.vm_alloc.specs.Held.{IsHeld}
use Rattle.vm_alloc.proofs.HeldLemmas.{held_inside}
use Rattle.vm_block.specs.Selector.{named_slot}
use Rattle.vm_block.specs.declared.selector.SlotName.{SlotName}
use Rattle.vm_tree.specs.Unsynced.{NeverSyncs}
use Rattle.vm_tree.specs.Tree.{IsData}
use Rattle.vm_tree.proofs.Touching.{stays_dirty}
use Rattle.vm_catalog.specs.Place.{is_used}
use Rattle.vm_catalog.proofs.PublishLemmas.{names_in}
use Rattle.vm_store.specs.Answers.{IsGrowDue}
use Rattle.vm_store.specs.Growth.{Grows}
use Rattle.vm_store.specs.Guarded.{IsGuarded}
use Rattle.vm_store.specs.Rest.{IsSafe, Rests}
use Rattle.vm_store.specs.Shown.{Shows}
use Rattle.vm_store.specs.Versions.{slot_entries}
use Rattle.vm_store.specs.declared.version.Version.{Version}
use Rattle.vm_store.proofs.GuardLemmas.{guarded_at_rest}
use Rattle.vm_store.proofs.RestingLemmas.{shows_old, used_low}
use Rattle.vm_store.proofs.StandingLemmas.{standing_data, standing_in}
use Rattle.vm_store.proofs.WiderLemmas.{standing_wider}

-- ---- device calls

-- calls that leave the number of blocks
pub goes_grow : (fails : Type 0) (old new : DiskState) → Goes fails old new → Grows fails old new
goes_grow fails old new goes = record { more_blocks = omega (arith, goes.same_blocks); earlier = goes.earlier; rising = goes.rising; fault = goes.fault }

-- where nothing is added
longer_itself : (m : Medium) → Lengthens m m
longer_itself m = record { more = omega arith; same = λ n inner. refl; same_dirty = λ n inner. refl; dirty = λ n low high. absurd (omega arith); sure = refl }

-- what holds before a growing and after it holds throughout
growing_keeps : (old new : DiskState) (Q : Medium → Type 0) → Enlarges old new → Q old.now → Q new.now → Throughout old new Q
growing_keeps old new Q larger first last = goes_on old old new Q (started old Q first) larger.time last

-- a growing syncs nothing
pub longer_unsynced : (old new : DiskState) → Enlarges old new → NeverSyncs old new
longer_unsynced old new larger =
    let longer = larger.longer in
    stays_dirty old new larger.time (record { more = longer.more; dirty = λ n inside dirty. longer.same_dirty n inside ∙ dirty; sure = longer.sure })

-- ---- what a store stands for

module _ (old new : Medium) (longer : Lengthens old new) (limit more : ℕ) (slot_name : SlotName) (bits after : List Bool) (committed working : List Version) (s : State)
    (rests : Rests old limit slot_name bits committed working s) (still : (n : ℕ) → IsHeld bits n → IsHeld after n)
    (few : limit ≤ more) (inside : more ≤ length new.contents) (most : more ≤ 2 ^ 26) where
  -- the blocks of the slot in use were there before
  used_inside : (n : ℕ) → is_used slot_name (length (slot_entries committed)) n ≡ true → n < length old.contents
  used_inside n used =
      let head = rests.rest.names.slot.fits.head in
      let low : n < 34 = used_low slot_name (length (slot_entries committed)) n head.few used in
      omega (arith, low, head.least, rests.fewer, rests.inside)

  first_inside : 1 < length old.contents
  first_inside = omega (arith, rests.rest.names.slot.fits.head.least, rests.fewer, rests.inside)

  old_inside : (n : ℕ) → IsData s.kept n → n < length old.contents
  old_inside n place = omega (arith, place.1, rests.fewer, rests.inside)

  new_inside : (n : ℕ) → IsData limit n → n < length old.contents
  new_inside n place = omega (arith, place.1, rests.inside)

  -- where all that was held is held, the store stands for the same, with so many blocks
  pub rests_longer : Rests new more slot_name after committed working (record s { blocks = more })
  rests_longer = record {
    old = rests.old;
    new = rests.new;
    blocks = refl;
    fewer = omega (arith, rests.fewer, few);
    inside = inside;
    sure = omega (arith, rests.sure, longer.sure);
    system = λ n low. still n (rests.system n low);
    rest = record {
      names = names_in old.contents new.contents slot_name s.kept (slot_entries committed) (λ n used. longer.same n (used_inside n used)) rests.rest.in_use rests.rest.names;
      in_use = ap (λ b. named_slot b) (longer.same 1 first_inside) ∙ rests.rest.in_use;
      clean = λ n used. longer.same_dirty n (used_inside n used) ∙ rests.rest.clean n used;
    };
    fits = record {
      head = record { least = omega (arith, rests.fits.head.least, few); most = most; some = rests.fits.head.some; few = rests.fits.head.few };
      each = rests.fits.each;
      ledger = rests.fits.ledger;
    };
    safe = standing_in (λ n. IsSafe bits old n × IsData s.kept n) (IsSafe after new) old.contents new.contents s.kept (λ n safe. longer.same n (old_inside n safe.1))
        (λ n safe. record { held = still n safe.0.held; clean = longer.same_dirty n (old_inside n safe.1) ∙ safe.0.clean }) committed rests.old
        (standing_data (IsSafe bits old) old.contents s.kept committed rests.old rests.safe);
    stands = standing_wider (IsHeld after) new.contents limit more few working rests.new
        (standing_in (λ n. IsHeld bits n × IsData limit n) (IsHeld after) old.contents new.contents limit (λ n held. longer.same n (new_inside n held.1)) (λ n held. still n held.0) working rests.new
        (standing_data (IsHeld bits) old.contents limit working rests.new rests.stands));
    gives_old = rests.gives_old;
    gives_new = rests.gives_new;
  }

-- ---- moment by moment

module _ (old new : DiskState) (larger : Enlarges old new) (limit : ℕ) (slot_name : SlotName) (bits : List Bool) (committed working : List Version) (s : State)
    (rests : Rests old.now limit slot_name bits committed working s) where
  -- what rests on the longer disk, with as many blocks and other bits
  as_many : (m : Medium) → Lengthens old.now m → (after : List Bool) → ((n : ℕ) → IsHeld bits n → IsHeld after n) → Rests m limit slot_name after committed working (record s { blocks = limit })
  as_many m longer after still =
      rests_longer old.now m longer limit limit slot_name bits after committed working s rests still (omega arith) (omega (arith, rests.inside, longer.more)) rests.fits.head.most

  -- a crash leaves what was committed
  pub longer_crash : (command : Command) → Throughout old new (Leaves (LeftBy Shows s command))
  longer_crash command =
      let shown : (m : Medium) → Lengthens old.now m → Leaves (LeftBy Shows s command) m =
      λ m longer left may. inl (shows_old m limit slot_name bits committed working (record s { blocks = limit }) (as_many m longer bits (λ n held. held)) m (touches_nothing _ m) left may) in
      growing_keeps old new (Leaves (LeftBy Shows s command)) larger (shown old.now (longer_itself old.now)) (shown new.now larger.longer)

  -- the slots that it may leave in use stay whole
  pub longer_guarded : (after : List Bool) → ((n : ℕ) → IsHeld bits n → IsHeld after n) → Throughout old new (IsGuarded after)
  longer_guarded after still =
      let whole : (m : Medium) → Lengthens old.now m → IsGuarded after m =
      λ m longer. guarded_at_rest m limit slot_name after committed working (record s { blocks = limit }) (as_many m longer after still) in
      growing_keeps old new (IsGuarded after) larger (whole old.now (longer_itself old.now)) (whole new.now larger.longer)

-- what is held is held in a longer list
pub still_held : (bits : List Bool) (count n : ℕ) → IsHeld bits n → IsHeld (bits ++ replicate count false) n
still_held bits count n held = let inner = held_inside bits n held in get_or_append_left bits (replicate count false) false n inner ∙ held

-- ---- what a Grow answers

pub grow_is_refused : (s : State) (blocks : ℕ) → is_bad_size s.blocks blocks ≡ true → IsGrowDue (outcome s (Grow blocks)) (Err BadSize)
grow_is_refused s blocks bad = subst (λ (o : Outcome). IsGrowDue o (Err BadSize)) (sym (grow_refused s blocks bad)) refl

pub grow_is_accepted : (s : State) (old blocks : ℕ) (result : Result Answer Refusal) → old ≡ s.blocks → old < blocks → blocks ≤ 67108864 → (result ≡ Err Device) ⊎ ((result ≡ Err Memory) ⊎ (result ≡ Ok Done))
    → IsGrowDue (outcome s (Grow blocks)) result
grow_is_accepted s old blocks result same more few due = subst (λ (o : Outcome). IsGrowDue o result) (sym (grow_accepted s blocks (good_size s.blocks blocks (omega arith) few))) due

-- ---- the same store, with fields of its own

pub rests_renamed : (m : Medium) (limit : ℕ) (slot_name other : SlotName) (bits : List Bool) (committed working old new : List Version) (s : State) → other ≡ slot_name → old ≡ committed → new ≡ working
    → Rests m limit slot_name bits committed working s → Rests m limit other bits old new s
rests_renamed m limit slot_name other bits committed working old new s slot first second rests =
    subst (λ b. Rests m limit b bits old new s) (sym slot)
    (subst (λ (vs : List Version). Rests m limit slot_name bits vs new s) (sym first) (subst (λ (vs : List Version). Rests m limit slot_name bits committed vs s) (sym second) rests))
