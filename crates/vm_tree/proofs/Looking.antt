-- What calls do that only look at a disk, or write free blocks alone, one after another.
use Rattle.std.proofs.Common.{◌≡◌, ◌∙◌, ℕ, ◌+◌, ◌≤◌, true, Bool, List, Result, Ok, Err, IsErrAnd, refl, sym, ap, subst, arith}
use Rattle.vm_disk.specs.Disk.{DiskState}
use Rattle.vm_disk.proofs.GoesLemmas.{goes_nowhere, goes_then, goes_at}
use Rattle.vm_disk.proofs.MomentLemmas.{after_reads, reads_keep, reads_then, touches_nothing, started}
use Rattle.vm_alloc.proofs.HeldLemmas.{holds_more_then, holds_same}
use Rattle.vm_tree.specs.BlockReads.{LooksOnce}
use Rattle.vm_tree.specs.Calls.{IsRefused, Looks, LooksIf, LooksWithin, Writes}
use Rattle.vm_tree.specs.Spent.{ReadsAtMost}
use Rattle.vm_tree.specs.declared.faults.PutFault.{PutFault}
use Rattle.vm_tree.specs.declared.faults.PutFault.TheVariants as put
use Rattle.vm_tree.specs.declared.faults.TreeFault.{TreeFault}
use Rattle.vm_tree.specs.declared.faults.TreeFault.TheVariants.{Device, Damaged}
use Rattle.vm_tree.proofs.Touching.{lowest_none, lowest_then, reads_unsynced, touches_then, unsynced_then}

-- a call that looks, after another one
pub looks_on : {first second both : Type 0} {old mid new : DiskState} → Looks first old mid → Looks second mid new → (both → second) → Looks both old new
looks_on so_far more cause = record {
  goes = goes_then _ _ _ _ _ _ so_far.goes more.goes cause;
  reads = λ honest. reads_then _ _ _ (so_far.reads (more.goes.earlier honest)) (more.reads honest);
}

-- the same with a count of reads
pub within_on : {n m most : ℕ} {first second both : Type 0} {old mid new : DiskState} → LooksWithin n first old mid → LooksWithin m second mid new → (both → second) → n + m ≤ most → LooksWithin most both old new
within_on so_far more cause few = record {
  goes = goes_then _ _ _ _ _ _ so_far.goes more.goes cause;
  reads = λ honest. reads_then _ _ _ (so_far.reads (more.goes.earlier honest)) (more.reads honest);
  most = omega (arith, so_far.most, more.most, few);
}

-- as they are told with no count of reads
pub looks_once : {limit b : ℕ} {fails : Type 0} {old new : DiskState} → LooksOnce limit b fails old new → Looks fails old new
looks_once looks = record { goes = looks.goes; reads = looks.reads }

pub looks_of : {n : ℕ} {fails : Type 0} {old new : DiskState} → LooksWithin n fails old new → Looks fails old new
looks_of looks = record { goes = looks.goes; reads = looks.reads }

-- a call that looks, and writes nothing
pub looks_free : {n reads most : ℕ} {fails both : Type 0} {may : List Bool → Type 0} {held : List Bool} {old new : DiskState} → LooksWithin n fails old new → (both → fails) → n ≤ reads → Writes both may reads most held held old new
looks_free looks cause few = record {
  goes = goes_at _ _ _ _ looks.goes cause;
  still = holds_same _;
  lowest = lowest_none _;
  taken = omega arith;
  moments = λ honest spared wider so. reads_keep _ _ _ (looks.reads honest) (touches_nothing _ _);
  unsynced = λ honest. reads_unsynced _ _ (looks.reads honest);
  reads = omega (arith, looks.most, few);
}

-- a call that writes, after one that looks
pub looks_write : {n m reads taken most : ℕ} {first second both : Type 0} {may then : List Bool → Type 0} {held later : List Bool} {old mid new : DiskState}
    → LooksWithin n first old mid → Writes second then m taken held later mid new → (both → second) → ((spared : List Bool) → may spared → then spared) → n + m ≤ reads → taken ≤ most → Writes both may reads most held later old new
looks_write so_far more cause so few less = record {
  goes = goes_then _ _ _ _ _ _ so_far.goes more.goes cause;
  still = more.still;
  lowest = more.lowest;
  taken = omega (arith, more.taken, less);
  moments = λ honest spared wider may. after_reads _ _ _ _ (so_far.reads (more.goes.earlier honest)) (more.moments honest spared wider (so spared may));
  unsynced = λ honest. unsynced_then _ _ _ (reads_unsynced _ _ (so_far.reads (more.goes.earlier honest))) (more.unsynced honest);
  reads = omega (arith, so_far.most, more.reads, few);
}

-- a call that writes, after another one
pub writes_on : {n m taken also : ℕ} {first second both : Type 0} {one other may : List Bool → Type 0} {held between later : List Bool} {old mid new : DiskState}
    → Writes first one n taken held between old mid → Writes second other m also between later mid new → (both → second) → ((spared : List Bool) → may spared → one spared × other spared) → Writes both may (n + m) (taken + also) held later old new
writes_on so_far more cause so = record {
  goes = goes_then _ _ _ _ _ _ so_far.goes more.goes cause;
  still = holds_more_then _ _ _ so_far.still more.still;
  lowest = lowest_then _ _ _ more.still so_far.lowest more.lowest;
  taken = omega (arith, so_far.taken, more.taken);
  moments = λ honest spared wider may.
      let parts = so spared may in
      touches_then spared spared _ _ _ (holds_same spared) (so_far.moments (more.goes.earlier honest) spared wider parts.0) (more.moments honest spared (holds_more_then _ _ _ wider so_far.still) parts.1);
  unsynced = λ honest. unsynced_then _ _ _ (so_far.unsynced (more.goes.earlier honest)) (more.unsynced honest);
  reads = omega (arith, so_far.reads, more.reads);
}

-- the same call, under another answer, where it may spare no more
pub writes_as : {n reads taken most : ℕ} {fails both : Type 0} {one may : List Bool → Type 0} {held later : List Bool} {old new : DiskState} → Writes fails one n taken held later old new → (both → fails) → ((spared : List Bool) → may spared → one spared)
    → n ≤ reads → taken ≤ most → Writes both may reads most held later old new
writes_as writes cause so few less = record {
  goes = goes_at _ _ _ _ writes.goes cause;
  still = writes.still;
  lowest = writes.lowest;
  taken = omega (arith, writes.taken, less);
  moments = λ honest spared wider may. writes.moments honest spared wider (so spared may);
  unsynced = writes.unsynced;
  reads = omega (arith, writes.reads, few);
}

-- a call that writes, after another one, within these counts
pub writes_then : {n m taken also reads most : ℕ} {first second both : Type 0} {one other may : List Bool → Type 0} {held between later : List Bool} {old mid new : DiskState}
    → Writes first one n taken held between old mid → Writes second other m also between later mid new → (both → second) → ((spared : List Bool) → may spared → one spared × other spared) → n + m ≤ reads → taken + also ≤ most → Writes both may reads most held later old new
writes_then so_far more cause so few less = writes_as (writes_on so_far more cause so) (λ is. is) (λ spared may. may) few less

-- what was only looked at, after a call that looks
pub looks_if : {n : ℕ} {fails when more : Type 0} {held later : List Bool} {old mid new : DiskState}
    → LooksWithin n fails old mid → (new.honest ≡ true → mid.honest ≡ true) → LooksIf when held later mid new → (more → when) → LooksIf more held later old new
looks_if so_far earlier rest so = record {
  kept = λ is. rest.kept (so is);
  reads = λ honest is. reads_then _ _ _ (so_far.reads (earlier honest)) (rest.reads honest (so is));
}

-- a fault that is passed on is the answer
pub passed_on : {T E : Type 0} {e : E} (result : Result T E) → IsErrAnd result (λ fault. fault ≡ e) → result ≡ Err e
passed_on (Ok x) is = absurd is
passed_on (Err fault) is = ap Err is

-- the same where fewer blocks were read
pub reads_fewer : {n m most : ℕ} {fails : Type 0} {may : List Bool → Type 0} {held later : List Bool} {old new : DiskState} → Writes fails may n most held later old new → ReadsAtMost m old new → Writes fails may m most held later old new
reads_fewer writes few = record { goes = writes.goes; still = writes.still; lowest = writes.lowest; taken = writes.taken; moments = writes.moments; unsynced = writes.unsynced; reads = few }

-- Deep is a refusal
pub deep_refuses : (T : Type 0) (result : Result T PutFault) → result ≡ Err put.Deep → IsRefused result
deep_refuses T result is = subst (λ (answer : Result T PutFault). IsRefused answer) (sym is) tt

-- what cannot be
pub looks_never : {when : Type 0} {held later : List Bool} {old new : DiskState} → (when → ⊥) → LooksIf when held later old new
looks_never out = record { kept = λ is. absurd (out is); reads = λ honest is. absurd (out is) }

-- what was only looked at, after what was only looked at
pub looks_if_on : {first when more : Type 0} {held between later : List Bool} {old mid new : DiskState} → LooksIf first held between old mid → first → LooksIf when between later mid new
    → (new.honest ≡ true → mid.honest ≡ true) → (more → when) → LooksIf more held later old new
looks_if_on so_far looked rest earlier so = record {
  kept = λ is. rest.kept (so is) ∙ so_far.kept looked;
  reads = λ honest is. reads_then _ _ _ (so_far.reads (earlier honest) looked) (rest.reads honest (so is));
}

-- no call so far
pub looks_none : {fails : Type 0} (s : DiskState) → (fails → ⊥) → Looks fails s s
looks_none s fine = record { goes = goes_nowhere _ _ _ refl fine; reads = λ honest. started _ _ refl }

-- the same calls, under another answer
pub looks_so : {fails both : Type 0} {old new : DiskState} → Looks fails old new → (both → fails) → Looks both old new
looks_so looks cause = record { goes = goes_at _ _ _ _ looks.goes cause; reads = looks.reads }
