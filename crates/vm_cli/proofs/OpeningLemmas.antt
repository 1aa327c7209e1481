-- Why a disk is refused.
use Rattle.std.proofs.Common.{◌≡◌, ℕ, inl, inr, Bool, true, List, [], ◌∷◌, Option, None, Some, length, refl, sym, subst, ◌∙◌, arith}
use Rattle.std.specs.Prelude.{IsSomeAnd}
use Rattle.vm_types.specs.declared.refusal.Refusal.{Refusal}
use Rattle.vm_types.specs.declared.refusal.Refusal.TheVariants.{Damaged, Device, Memory, NotAStore}
use Rattle.vm_disk.specs.Disk.{Contents, DiskState, Medium, block}
use Rattle.vm_block.specs.Header.{IsEarlierHeader, header_bytes_of}
use Rattle.vm_store.specs.Recovery.{AllDamaged, TellsAll}
use Rattle.vm_store.specs.Refused.{IsRefused, IsSynced}
use Rattle.vm_cli.specs.program.Openings.{KeepsRefusal, LacksSum, NamesAll, TellsEarlier, refusal_of}
use Rattle.vm_cli.specs.program.Openings.NamesDamaged.{of_slot, of_trees}
use Rattle.vm_cli.specs.declared.program.opening.NoStore.{NoStore}
use Rattle.vm_cli.specs.declared.program.opening.NoStore.TheVariants.{Refused}

-- the reason of an opening stays, or is that the device failed
pub reason_kept : (x : Contents) (refusal : Refusal) (why : NoStore) → KeepsRefusal refusal why → IsRefused x refusal → IsRefused x (refusal_of why)
reason_kept x refusal why (inl same) refused = subst (IsRefused x) (sym same) refused
reason_kept x refusal why (inr failed) refused = subst (IsRefused x) (sym failed.1) tt

-- a disk that is synced first has the same header
pub earlier_kept : (old mid : Medium) (refusal : Refusal) (why : NoStore) → KeepsRefusal refusal why → ((refusal ≡ Device → ⊥) → IsSynced old mid) → TellsEarlier mid.contents why → TellsEarlier old.contents why
earlier_kept old mid refusal why (inl same) synced tells =
    record {
      header = λ none.
          let is : refusal ≡ NotAStore = sym same ∙ none in
          (subst (λ (x : Contents). TellsEarlier x why) (synced (λ device. cc (is, device))).same tells).header none;
      sums = λ n there.
          let is : refusal ≡ Damaged n = sym same ∙ there in
          (subst (λ (x : Contents). TellsEarlier x why) (synced (λ device. cc (is, device))).same tells).sums n there;
    }
earlier_kept old mid refusal why (inr failed) synced tells =
    record {
      header = λ none. cc (none, failed.1);
      sums = λ n there. cc (there, failed.1);
    }

-- no bytes are no header
no_bytes : IsEarlierHeader [] → ⊥
unfolding header_bytes_of
no_bytes (inl is) = cc
no_bytes (inr is) = cc

-- a disk without blocks has no header
pub none_there : (x : Contents) → length x ≡ 0 → IsEarlierHeader (block x 0) → ⊥
none_there [] none is = no_bytes is
none_there (b ∷ x) none is = absurd (omega (arith, none))

-- of a damaged block that is none of a slot without a checksum, just that is told
pub not_of_slot : (x : Contents) (n : ℕ) → (LacksSum x n → ⊥) → TellsEarlier x (Refused (Damaged n))
not_of_slot x n none =
    record {
      header = λ is. cc;
      sums = λ k is.
          let same : n ≡ k = cc in
          (λ told. cc, λ lacks. absurd (none (subst (LacksSum x) (sym same) lacks)));
    }

-- of an earlier program's file nothing is told for want of memory, or if the device failed
pub memory_untold : (x : Contents) (refusal : Refusal) → refusal ≡ Memory → TellsEarlier x (Refused refusal)
memory_untold x refusal memory = record { header = λ is. cc (is, memory); sums = λ n is. cc (is, memory) }

pub device_untold : (x : Contents) (refusal : Refusal) → refusal ≡ Device → TellsEarlier x (Refused refusal)
device_untold x refusal device = record { header = λ is. cc (is, device); sums = λ n is. cc (is, device) }

-- what an opening tells of damaged blocks is what is told of them
pub names_all : (old mid new : DiskState) {damaged damaged' : Option (List Bool)} (refusal : Refusal) (why : NoStore) → damaged ≡ None → (new.honest ≡ true → mid.honest ≡ true) → KeepsRefusal refusal why → TellsAll old mid damaged damaged' refusal → NamesAll old new why damaged'
names_all old mid new {damaged} {damaged'} refusal why none earlier (inl same) tells = record {
  all = λ n is. elim (tells.all n (sym same ∙ is)) [
    | inl slot ↦ of_slot (slot.0 ∙ none) (λ honest. slot.1 (earlier honest))
    | inr marks ↦ of_trees (marks_then damaged' n marks)
  ];
  none = λ other device. tells.none (λ n is. other n (same ∙ is)) ∙ none;
}
  where
    marks_then : (o : Option (List Bool)) (n : ℕ) → IsSomeAnd o (λ marks. mid.honest ≡ true → AllDamaged old.now.contents n marks) → IsSomeAnd o (λ marks. new.honest ≡ true → AllDamaged old.now.contents n marks)
    marks_then None n none = none
    marks_then (Some marks) n are = λ honest. are (earlier honest)
names_all old mid new refusal why none earlier (inr failed) tells = record { all = λ n is. cc (is, failed.1); none = λ other device. absurd (device failed.1) }

-- no block is named for want of memory
pub memory_unnamed : (old new : DiskState) (refusal : Refusal) → (new.honest ≡ true → refusal ≡ Memory) → NamesAll old new (Refused refusal) None
memory_unnamed old new refusal memory = record { all = λ n is. of_slot refl (λ honest. cc (is, memory honest)); none = λ other device. refl }
