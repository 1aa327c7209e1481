-- What a `SummedDisk` shows.
use Rattle.std.specs.Prelude.{◌≡◌, ℕ, ◌<◌, ◌≤◌, true, List, length, map}
use Rattle.std.specs.List.{range_with_len}
use Rattle.std.proofs.Common.{◌∙◌, sym, subst}
use Rattle.std.proofs.lemmas.List.FromFn.{length-map-range_with_len}
use Rattle.vm_disk.specs.Disk.{Contents, block, Medium, DiskState, LeftAt}
use Rattle.vm_sums.specs.Sums.{summed}
use Rattle.vm_sums.specs.declared.summed.SummedDisk.{SummedDisk}

-- each block as it shows
abbrev pub shown_contents : Contents → Contents
shown_contents contents = map (λ n. summed n (block contents n)) (range_with_len 0 (length contents))

-- there are as many
pub shown_length : (contents : Contents) → length (shown_contents contents) ≡ length contents
shown_length contents = length-map-range_with_len (λ n. summed n (block contents n)) 0 (length contents)

-- no more are sure than there are
pub shown_within : (m : Medium) → m.sure ≤ length (shown_contents m.contents)
shown_within m = let R : ℕ → Type 0 = λ k. m.sure ≤ k in subst R (sym (shown_length m.contents)) m.within

-- one that is not sure is dirty
pub shown_unsure : (m : Medium) (n : ℕ) → m.sure ≤ n → n < length (shown_contents m.contents) → m.dirty n ≡ true
shown_unsure m n from inside = let R : ℕ → Type 0 = λ k. n < k in m.unsure n from (subst R (shown_length m.contents) inside)

-- a medium as it shows: the same blocks are dirty and sure
abbrev pub shown : Medium → Medium
shown m =
    record {
      contents = shown_contents m.contents;
      dirty = m.dirty;
      sure = m.sure;
      within = shown_within m;
      unsure = shown_unsure m;
    }

-- what is known of a disk that shows another one so, at each moment
abbrev pub shown_state : DiskState → DiskState
shown_state s =
    record {
      blocks = s.blocks;
      honest = s.honest;
      reads = s.reads;
      failures = s.failures;
      now = shown s.now;
      past = map shown s.past;
    }

-- whatever a crash of the disk below may have left, a crash of the disk above may have left what that shows, at the same moment
abbrev pub CrashesShow : DiskState → DiskState → Type 0
CrashesShow above below = (t : ℕ) (left : Contents) → LeftAt below t left → LeftAt above t (shown_contents left)

module _ {D : Type 0} where
  -- the disk below
  abbrev pub inner_of : SummedDisk D → D
  inner_of disk = disk.inner

  -- it shows the disk below
  abbrev pub summed_state : (D → DiskState) → SummedDisk D → DiskState
  summed_state state disk = shown_state (state (inner_of disk))

  -- the bytes at hand
  abbrev pub summed_hand : SummedDisk D → List ℕ
  summed_hand disk = disk.hand

  -- it has as many blocks as the disk below
  pub summed_whole : (state : D → DiskState) (disk : SummedDisk D) → length (state (inner_of disk)).now.contents ≡ (state (inner_of disk)).blocks → length (summed_state state disk).now.contents ≡ (summed_state state disk).blocks
  summed_whole state disk whole = shown_length (state (inner_of disk)).now.contents ∙ whole
