-- A command is carried out on an honest disk: what it does in its device calls, and what it leaves.
use Rattle.std.proofs.Common.{◌≡◌, ◌≢◌, inl, ℕ, Bool, List, Result, Err, refl, subst}
use Rattle.vm_types.specs.State.{State, committed_of, next}
use Rattle.vm_types.specs.declared.answer.Answer.{Answer}
use Rattle.vm_types.specs.declared.command.Command.{Command}
use Rattle.vm_types.specs.declared.refusal.Refusal.{Refusal}
use Rattle.vm_types.specs.declared.refusal.Refusal.TheVariants.{Device}
use Rattle.vm_types.specs.Kept.{LeftBy}
use Rattle.vm_disk.specs.Disk.{DiskState}
use Rattle.vm_disk.specs.Moments.{Leaves, OnlyReads, Throughout, TouchesOnly}
use Rattle.vm_disk.proofs.MomentLemmas.{started, weaken, touches_nothing, reads_first}
use Rattle.vm_block.specs.declared.selector.SlotName.{SlotName}
use Rattle.vm_alloc.specs.Held.{HoldsMore}
use Rattle.vm_alloc.proofs.HeldLemmas.{holds_more_then}
use Rattle.vm_tree.specs.Unsynced.{NeverSyncs}
use Rattle.vm_tree.specs.Free.{is_free}
use Rattle.vm_tree.proofs.Touching.{reads_unsynced, unsynced_then}
use Rattle.vm_store.specs.Guarded.{IsGuarded}
use Rattle.vm_store.specs.Rest.{IsInSeries, Rests, state_aside}
use Rattle.vm_store.specs.Shown.{Shows}
use Rattle.vm_store.specs.Store.{Answers, Carries, Holds, disk_of}
use Rattle.vm_store.specs.declared.store.Store.{Store}
use Rattle.vm_store.specs.declared.version.Version.{Version}
use Rattle.vm_store.proofs.GuardLemmas.{guarded_on}
use Rattle.vm_store.proofs.RestingLemmas.{shows_old}

module _ {D : Type 0} {members : _} (old new : Store D members) (s : State) (holds : Holds old s) (command : Command) (answer : Result Answer Refusal) (due : Answers old new s holds command answer)
  where
    -- calls that read, and then calls that touch no block of what was committed
    pub spared : {limit : ℕ} {slot_name : SlotName} {bits : List Bool} {committed working : List Version} (mid : DiskState) → OnlyReads (members.state (disk_of old)) mid
        → (stood : State) → committed_of stood ≡ committed_of s → Rests mid.now limit slot_name bits committed working stood
        → Throughout mid (members.state (disk_of new)) (TouchesOnly (is_free bits) mid.now) → NeverSyncs mid (members.state (disk_of new)) → HoldsMore bits new.parts.held → (answer ≢ Err Device → Holds new (next s command answer)) → Carries old new s holds command answer
    spared {limit} {slot_name} {bits} {committed} {working} mid reads stood same rests moments unsynced still state =
        let P = TouchesOnly (is_free bits) mid.now in
        let Q = Leaves (LeftBy Shows s command) in
        record {
          answers = due;
          state = state;
          crash = reads_first _ _ _ Q reads (weaken _ _ P Q (λ m spares left may. inl (subst (Shows left) same (shows_old mid.now limit slot_name bits committed working stood rests m spares left may))) moments);
          guarded = reads_first _ _ _ (IsGuarded new.parts.held) reads (weaken _ _ P (IsGuarded new.parts.held) (λ m spares. guarded_on mid.now limit slot_name bits committed working stood rests m new.parts.held spares still) moments);
          unsynced = λ other. unsynced_then _ _ _ (reads_unsynced _ _ reads) unsynced;
        }

    -- calls that read, and then calls that write free blocks alone
    pub wrote : {limit : ℕ} {slot_name : SlotName} {bits : List Bool} {committed working : List Version} (mid : DiskState) → OnlyReads (members.state (disk_of old)) mid → Rests mid.now limit slot_name bits committed working s
        → Throughout mid (members.state (disk_of new)) (TouchesOnly (is_free bits) mid.now) → NeverSyncs mid (members.state (disk_of new)) → HoldsMore bits new.parts.held → (answer ≢ Err Device → Holds new (next s command answer)) → Carries old new s holds command answer
    wrote mid reads rests moments unsynced still state = spared mid reads s refl rests moments unsynced still state

    -- calls that read, and then changes of a series
    pub changed : {limit : ℕ} {slot_name : SlotName} {bits before : List Bool} {committed working : List Version} {alt : List ℕ} (mid : DiskState) → OnlyReads (members.state (disk_of old)) mid
        → IsInSeries alt mid.now limit slot_name bits before committed working s
        → Throughout mid (members.state (disk_of new)) (TouchesOnly (is_free before) mid.now) → NeverSyncs mid (members.state (disk_of new)) → HoldsMore bits new.parts.held → (answer ≢ Err Device → Holds new (next s command answer)) → Carries old new s holds command answer
    changed {alt = alt} mid reads series moments unsynced still state =
        spared mid reads (state_aside alt s) refl series.others moments unsynced (holds_more_then _ _ _ series.wider still) state

    -- calls that read
    pub looked : {limit : ℕ} {slot_name : SlotName} {committed working : List Version} → OnlyReads (members.state (disk_of old)) (members.state (disk_of new)) → Rests (members.state (disk_of new)).now limit slot_name new.parts.held committed working s
        → (answer ≢ Err Device → Holds new (next s command answer)) → Carries old new s holds command answer
    looked reads rests state =
        wrote (members.state (disk_of new)) reads rests (started _ _ (touches_nothing (is_free new.parts.held) _)) (reads_unsynced _ _ (started _ _ refl)) (record { same_length = refl; still = λ n h. h }) state

-- reads, and then a command that was carried out
pub read_carried : {D : Type 0} {members : _} (old mid new : Store D members) (s : State) (holds : Holds old s) (between : Holds mid s) (command : Command) (answer : Result Answer Refusal)
    → OnlyReads (members.state (disk_of old)) (members.state (disk_of mid)) → Answers old new s holds command answer → Carries mid new s between command answer → Carries old new s holds command answer
read_carried old mid new s holds between command answer reads due carried = record {
  answers = due;
  state = carried.state;
  crash = reads_first _ _ _ _ reads carried.crash;
  guarded = reads_first _ _ _ _ reads carried.guarded;
  unsynced = λ other. unsynced_then _ _ _ (reads_unsynced _ _ reads) (carried.unsynced other);
}

-- a refusal without a device call
module _ {D : Type 0} {members : _} (store : Store D members) (s : State) (holds : Holds store s) (command : Command) (refusal : Refusal) where
  pub stayed : Answers store store s holds command (Err refusal) → Carries store store s holds command (Err refusal)
  stayed due = looked store store s holds command (Err refusal) due (started _ _ refl) holds.rests (λ _. holds)
