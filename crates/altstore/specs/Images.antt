-- The image of a store: its blocks with their checksums, one after another.
use Rattle.std.specs.Prelude.{◌≡◌, ◌≢◌, ℕ, ◌*◌, ◌/◌, ◌<◌, ◌⊎◌, List, [], Result, Ok, Err, IfErr, IfOk, drop, flat_map, length, take}
use Rattle.vm_types.specs.declared.refusal.Refusal.{Refusal}
use Rattle.vm_types.specs.declared.refusal.Refusal.TheVariants.{BadSize, Device, Memory}
use Rattle.vm_types.specs.declared.sizes.TheConstants.{BLOCK_SIZE}
use Rattle.vm_disk.specs.Disk.{Contents, DiskState, block}
use Rattle.vm_store.specs.NewStore.{IsBadSize}
use Rattle.vm_store.specs.Recovery.{OpensAs}
use Rattle.vm_store.specs.Refused.{IsRefused}
use Rattle.vm_disk.specs.Memory.{memory_state}
use Rattle.vm_sums.specs.Summed.{shown_contents}
use Rattle.vm_sums.specs.Sums.{summed}
use Rattle.vm_store.specs.Shown.{Shows, ShowsNothing, new_store}
use Rattle.vm_store.specs.Store.{disk_of}
use Rattle.altstore.specs.declared.session.Session.{Session}

-- these are what the whole blocks of the image show; bytes after the last of them count for nothing
pub record HoldsImage (image : List ℕ) (contents : Contents) : Type 0 where
  pub count : length contents ≡ length image / BLOCK_SIZE
  pub each : (n : ℕ) → n < length contents → block contents n ≡ summed n (take BLOCK_SIZE (drop (BLOCK_SIZE * n) image))

-- blocks, one after another
abbrev pub joined : Contents → List ℕ
joined contents = flat_map (λ block. block) contents

-- the image of blocks that show this: an exchange of the sums done twice changes nothing
abbrev pub image_of : Contents → List ℕ
image_of contents = joined (shown_contents contents)

-- a disk holds what it held
abbrev pub KeepsBlocks : DiskState → DiskState → Type 0
KeepsBlocks old new = new.now.contents ≡ old.now.contents

-- an opening of what these blocks show
abbrev pub OpensBlocks : Contents → Result Session Refusal → Type 0
-- the store stands for what they show, committed and working alike, and exactly the spare blocks are free; and no answer is kept
OpensBlocks contents (Ok session) = OpensAs contents session.store × (session.answers.items ≡ [])
-- it has its reason, and unless it is for the device or memory it comes if nothing is shown
OpensBlocks contents (Err refusal) = IsRefused contents refusal × (refusal ≢ Device → refusal ≢ Memory → ShowsNothing contents)

-- a loading of an image opens what its blocks show, or there was no memory for them
abbrev pub Loads : List ℕ → Result Session Refusal → Type 0
Loads image result = (result ≡ Err Memory) ⊎ ((contents : Contents) × HoldsImage image contents × OpensBlocks contents result)

-- a store of n blocks is made
pub record Creates (blocks : ℕ) (result : Result Session Refusal) : Type 0 where
  -- A new store of exactly that many blocks is made, and no answer is kept.
  pub new : IfOk result (λ session. (contents : Contents) × Shows contents (new_store blocks) × OpensBlocks contents (Ok session))
  -- It is refused if a store can't have that many; otherwise only if memory is refused or the device fails.
  pub size : IsBadSize blocks blocks → result ≡ Err BadSize
  pub other : IfErr result (λ refusal. refusal ≢ Device → refusal ≢ Memory → (refusal ≡ BadSize) × IsBadSize blocks blocks)

-- the blocks of a session's store
abbrev pub blocks_of : Session → Contents
blocks_of session = (memory_state (disk_of session.store)).now.contents
