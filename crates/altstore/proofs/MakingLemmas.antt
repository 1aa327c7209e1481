-- A new store in memory.
use Rattle.std.proofs.Common.{◌≡◌, inl, inr, ◌<◌, ◌≤◌, ℕ, List, [], ap, subst, nat_eq, true≢false, Result, Ok, Err, replicate, slice_index_or, arith}
use Rattle.std.proofs.lemmas.List.{get_or-replicate}
use Rattle.vm_types.specs.declared.refusal.Refusal.{Refusal}
use Rattle.vm_types.specs.declared.refusal.Refusal.TheVariants.{AlreadyAStore, BadSize}
use Rattle.vm_types.specs.declared.sizes.TheConstants.{BLOCK_SIZE, MAX_BLOCKS, MIN_BLOCKS}
use Rattle.vm_block.specs.Header.{header_bytes_of}
use Rattle.vm_block.specs.declared.header.TheConstants.{FORMAT}
use Rattle.vm_disk.specs.Disk.{Contents, block}
use Rattle.vm_store.specs.NewStore.{IsAnyHeader, IsBadSize, IsOfFormat}
use Rattle.vm_store.specs.Shown.{Shows, new_store}
use Rattle.altstore.specs.declared.session.Session.{Session}
use Rattle.altstore.specs.Images.{Creates, OpensBlocks}

-- a size that was tested
pub good_size : (blocks : ℕ) → MIN_BLOCKS ≤ blocks → blocks ≤ MAX_BLOCKS → IsBadSize blocks blocks → ⊥
good_size blocks least most (inl less) = (omega arith)
good_size blocks least most (inr (inl more)) = (omega arith)
good_size blocks least most (inr (inr self)) = (omega arith)

-- zero bytes are no header of any format
no_header_of : (format : ℕ) → replicate BLOCK_SIZE 0 ≡ header_bytes_of format → ⊥
unfolding header_bytes_of
no_header_of format is = true≢false (ap (λ (bytes : List ℕ). nat_eq (slice_index_or bytes 0 1) 0) is)

no_header : IsAnyHeader (replicate BLOCK_SIZE 0) → ⊥
no_header (inl this) = no_header_of FORMAT this
no_header (inr (inl first)) = no_header_of 1 first
no_header (inr (inr second)) = no_header_of 2 second

-- nor is a block of a disk of them
pub blank_header : (blocks : ℕ) (x : Contents) → MIN_BLOCKS ≤ blocks → x ≡ replicate blocks (replicate BLOCK_SIZE 0) → IsAnyHeader (block x 0) → ⊥
blank_header blocks x least is header =
    let some : 0 < blocks = omega arith in
    let zeros : block x 0 ≡ replicate BLOCK_SIZE 0 = rw is (get_or-replicate blocks 0 (replicate BLOCK_SIZE 0) [] some) in
    no_header (subst IsAnyHeader zeros header)

-- what was formatted, opened
pub creates_opened : (blocks : ℕ) (x : Contents) → (IsBadSize blocks blocks → ⊥) → Shows x (new_store blocks) → (result : Result Session Refusal) → OpensBlocks x result → Creates blocks result
creates_opened blocks x good shown (Ok session) opens = record { new = (x, shown, opens); size = λ bad. absurd (good bad); other = tt }
creates_opened blocks x good shown (Err refusal) opens =
    record { new = tt; size = λ bad. absurd (good bad); other = λ device memory. absurd (opens.1 device memory (new_store blocks) shown) }

-- what a formatting refused
pub creates_refused : (blocks : ℕ) (refusal : Refusal) → (IsBadSize blocks blocks → ⊥) → IsOfFormat refusal → (refusal ≡ BadSize → IsBadSize blocks blocks) → (refusal ≡ AlreadyAStore → ⊥)
    → Creates blocks (Err refusal)
creates_refused blocks refusal good (inl size) bad none = absurd (good (bad size))
creates_refused blocks refusal good (inr (inl already)) bad none = absurd (none already)
creates_refused blocks refusal good (inr (inr failed)) bad none =
    record { new = tt; size = λ size. absurd (good size); other = λ device memory. absurd (device failed) }
