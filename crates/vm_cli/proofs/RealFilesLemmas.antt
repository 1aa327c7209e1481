-- The files of the system keep the rules of a place.
use Rattle.std.proofs.Common.{◌≡◌, ◌≢◌, ◌&&◌, ℕ, Bool, true, false, List, [], ◌∷◌, Option, Some, None, IfSome, Result, Ok, Err, IfOk, replicate, reverse, map, option_map, refl, sym, ap, ap₂, ◌∙◌, subst}
use Rattle.std.proofs.lemmas.Bool.{and_parts}
use Rattle.std.proofs.lemmas.Slice.Eq.{bytes_eq-Decides}
use Rattle.std.specs.Result.{result_ok}
use Rattle.std.specs.Str.{bytes_eq}
use Rattle.std.specs.declared.snapshot.Snapshot.{Snapshot}
use Rattle.vm_disk.specs.Disk.{Contents, IsClean, Medium, DiskState}
use Rattle.vm_disk.specs.File.{IsMade, IsOpened, IsOver, IsPart, IsZero, Part, file_blocks, file_of, file_state}
use Rattle.vm_disk.specs.Positional.{FileState}
use Rattle.vm_disk.specs.Past.{noted}
use Rattle.vm_disk.specs.System.{KeepsState, fresh, held_bytes, name_of, opening_of, system_state}
use Rattle.vm_disk.specs.declared.file.FileDisk.{FileDisk}
use Rattle.vm_disk.specs.declared.history.History.{History}
use Rattle.vm_disk.specs.declared.system.SystemFile.{SystemFile}
use Rattle.vm_disk.proofs.FileLemmas.{disk_file_is_honest, sure_is_clean}
use Rattle.vm_cli.proofs.PlaceLemmas.{shown_new, zeros_are_new}
use Rattle.vm_sums.specs.Summed.{inner_of, shown, shown_contents}
use Rattle.vm_cli.specs.program.Places.{Creates, Finds, IsNew, PlaceState, TakesBack}
use Rattle.vm_cli.specs.program.Progress.{file_below}
use Rattle.vm_cli.specs.program.RealFiles.{RealDisk, blocks_held, came_after, disk_name, files_after, honest_after, is_absent, is_as_left, real_disk, same_contents, shown_blocks, whole_blocks}
use Rattle.vm_cli.specs.declared.program.place.Event.{Event}
use Rattle.vm_cli.specs.declared.program.progress.Watched.{Watched}
use Rattle.vm_cli.specs.declared.program.place.Event.TheVariants.{Found, Made, Given}

-- contents that are the same, block by block, are the same
pub contents_are : (x y : Contents) → same_contents x y ≡ true → x ≡ y
contents_are [] [] e = refl
contents_are [] (b ∷ y) e = absurd cc
contents_are (a ∷ x) [] e = absurd cc
contents_are (a ∷ x) (b ∷ y) e =
    let parts = and_parts (bytes_eq a b) (same_contents x y) e in
    rw ((bytes_eq-Decides a b).0 parts.0, contents_are x y parts.1) refl

-- what was found is there, and is what was left
pub as_left : (found left : Option Contents) → is_as_left found left ≡ true → (x : Contents) × (found ≡ Some x) × (left ≡ Some x)
as_left (Some x) (Some y) e = (x, refl, ap Some (sym (contents_are x y e)))
as_left (Some x) None e = absurd cc
as_left None (Some y) e = absurd cc
as_left None None e = absurd cc

-- the blocks of a file are what those of its bytes show
blocks_are : (bytes : Option (List ℕ)) (x : Contents) → option_map shown_blocks bytes ≡ Some x → x ≡ shown_blocks (held_bytes bytes)
blocks_are (Some bytes) x e = let same : Some (shown_blocks bytes) ≡ Some x = e in cc
blocks_are None x e = absurd cc

-- what is absent is not there
not_there : (file : Option Contents) → is_absent file ≡ true → file ≡ None
not_there None e = refl
not_there (Some x) e = absurd cc

-- a file that was opened holds these blocks, and all of them last
opened_clean : (bytes : List ℕ) (file : FileState) (s : DiskState) → file.bytes ≡ bytes → file.waiting ≡ [] → IsOpened file s → (s.now.contents ≡ whole_blocks bytes) × IsClean s.now
opened_clean bytes file s is none opened =
    let held : s.now.contents ≡ file_blocks s.blocks file.bytes = ap (λ (m : Medium). m.contents) opened.now in
    (held ∙ ap₂ (λ n bytes. file_blocks n bytes) opened.blocks refl ∙ ap whole_blocks is, λ n. rw opened.now (sure_is_clean s.blocks file none n))

-- nothing was done to a file
pub kept_as_is : (file : FileState) → file.honest ≡ true → KeepsState file file
kept_as_is file honest = record { same = refl; same_waiting = refl }

both : (a b : Bool) → a ≡ true → b ≡ true → (a && b) ≡ true
both true true e f = refl
both true false e f = absurd cc
both false b e f = absurd cc

-- a name that is not another
apart : (other name : List ℕ) → other ≢ name → bytes_eq other name ≡ false
apart other name differ = go (bytes_eq other name) refl
  where
    go : (b : Bool) → bytes_eq other name ≡ b → b ≡ false
    go true e = absurd (differ ((bytes_eq-Decides other name).0 e))
    go false e = refl

module _ {W : Type 0} (held : ℕ → List ℕ → Option (List ℕ)) (torn : ℕ → List ℕ → ℕ → List ℕ) (path : List ℕ) (old new : List (Event W)) where
  -- what is known of the files after these events
  abbrev known : List (Event W) → PlaceState
  known events = record { honest = honest_after held torn events; files = files_after held torn events; came = came_after held torn events }

  -- a file as a disk, and what is known of it before its sums
  abbrev raw : FileDisk (Watched (SystemFile W)) → DiskState
  raw = file_state (λ file. system_state held torn (file_below file))

  -- a disk that was just opened or made has no past
  fresh_disk : (part : FileDisk (Watched (SystemFile W)) → Part) (result : Result (FileDisk (Watched (SystemFile W))) (Watched (SystemFile W)))
      → IfOk result (λ disk. IsPart (part disk) (raw disk))
      → (disk : Option (RealDisk W)) → option_map inner_of disk ≡ result_ok result → IfSome (option_map (real_disk held torn) disk) (λ s. s.past ≡ [])
  fresh_disk part result over None e = tt
  fresh_disk part (Err back) over (Some disk) e = absurd cc
  fresh_disk part (Ok below) over (Some disk) e =
      let is : inner_of disk ≡ below = let same : Some (inner_of disk) ≡ Some below = e in cc in
      let none : (raw (inner_of disk)).past ≡ [] = rw is over.past in
      ap (map shown) none

  -- a file was opened, and made a disk of
  module _ (file : SystemFile W) (noted_file : Snapshot (SystemFile W)) (is : noted_file.value ≡ file) (name : name_of file ≡ path) where
    pub finds : (later : SystemFile W) → ((system_state held torn later).honest ≡ true → KeepsState (system_state held torn file) (system_state held torn later))
        → (opened : ℕ) → opening_of file ≡ opened → new ≡ Found noted_file ∷ old → system_state held torn file ≡ fresh (held_bytes (held opened path)) → (result : Result (FileDisk (Watched (SystemFile W))) (Watched (SystemFile W)))
        → IfOk result (λ disk. IsOver disk.blocks (system_state held torn (file_below (file_of disk))) (raw disk))
        → IfOk result (λ disk. (system_state held torn (file_below (file_of disk))).honest ≡ true → IsOpened (system_state held torn later) (raw disk))
        → (found : Option (RealDisk W)) → option_map inner_of found ≡ result_ok result
        → honest_after held torn new ≡ true → Finds path (option_map (real_disk held torn) found) (known old) (known new)
    finds later kept opened opening more state result over told found said honest =
        let all : honest_after held torn (Found noted_file ∷ old) ≡ true = rw more at honest in
        let first : is_as_left (blocks_held held (opening_of noted_file.value) (name_of noted_file.value)) (files_after held torn old (name_of noted_file.value)) ≡ true = (and_parts _ _ all).0 in
        let was : is_as_left (blocks_held held opened path) (files_after held torn old path) ≡ true = rw (is, opening, name) at first in
        let left = as_left (blocks_held held opened path) (files_after held torn old path) was in
        let there : files_after held torn old path ≡ Some (shown_blocks (held_bytes (held opened path))) = left.2 ∙ ap Some (blocks_are (held opened path) left.0 left.1) in
        record {
          held = go there result told found said;
          fresh = fresh_disk (λ disk. record { file = system_state held torn (file_below (file_of disk)); blocks = disk.blocks; sure = disk.blocks }) result over found said;
          same = λ other. rw more refl;
          same_came = λ other. rw more refl;
        }
      where
        go : files_after held torn old path ≡ Some (shown_blocks (held_bytes (held opened path))) → (result : Result (FileDisk (Watched (SystemFile W))) (Watched (SystemFile W)))
            → IfOk result (λ disk. (system_state held torn (file_below (file_of disk))).honest ≡ true → IsOpened (system_state held torn later) (raw disk))
            → (found : Option (RealDisk W)) → option_map inner_of found ≡ result_ok result
            → IfSome (option_map (real_disk held torn) found) (λ s. s.honest ≡ true → (files_after held torn old path ≡ Some s.now.contents) × IsClean s.now)
        go there result told None e = tt
        go there (Err back) told (Some disk) e = absurd cc
        go there (Ok below) told (Some disk) e = λ honest.
            let is : inner_of disk ≡ below = let same : Some (inner_of disk) ≡ Some below = e in cc in
            let told_of : (system_state held torn (file_below (file_of (inner_of disk)))).honest ≡ true → IsOpened (system_state held torn later) (raw (inner_of disk)) = rw is told in
            let over = told_of (disk_file_is_honest (λ file. system_state held torn (file_below file)) (inner_of disk) honest) in
            let keeps = kept over.file_honest in
            let same = keeps.same ∙ ap (λ (f : FileState). f.bytes) state in
            let none = keeps.same_waiting ∙ ap (λ (f : FileState). f.waiting) state in
            let clean = opened_clean (held_bytes (held opened path)) (system_state held torn later) (raw (inner_of disk)) same none over in
            (there ∙ ap (λ c. Some (shown_contents c)) (sym clean.0), clean.1)

    -- a file was made, and zeros written to it
    pub creates : (blocks : ℕ) → new ≡ Made noted_file ∷ old → system_state held torn file ≡ fresh [] → (result : Result (FileDisk (Watched (SystemFile W))) (Watched (SystemFile W)))
        → IfOk result (λ disk. IsMade blocks (system_state held torn (file_below (file_of disk))) (raw disk))
        → IfOk result (λ disk. (system_state held torn (file_below (file_of disk))).honest ≡ true → (system_state held torn file).bytes ≡ [] → IsZero (raw disk))
        → (made : Option (RealDisk W)) → option_map inner_of made ≡ result_ok result
        → honest_after held torn new ≡ true → Creates path blocks (option_map (real_disk held torn) made) (known old) (known new)
    creates blocks more state result over zeros made said honest =
        let all : honest_after held torn (Made noted_file ∷ old) ≡ true = rw more at honest in
        let first : is_absent (files_after held torn old (name_of noted_file.value)) ≡ true = (and_parts _ _ all).0 in
        let was : is_absent (files_after held torn old path) ≡ true = rw (is, name) at first in
        let none = not_there (files_after held torn old path) was in
        record {
          absent = go_absent none made;
          blank = go_blank result over zeros made said;
          fresh = fresh_disk (λ disk. record { file = system_state held torn (file_below (file_of disk)); blocks = blocks; sure = 0 }) result over made said;
          stays = λ contents there. let no : None ≡ Some contents = sym none ∙ there in absurd cc;
          others = λ other differ.
              let step : files_after held torn (Made noted_file ∷ old) other ≡ files_after held torn old other = rw (is, name, apart other path differ) refl in
              rw more step;
          others_came = λ other differ. rw more refl;
          none_came = λ none other. rw more refl;
        }
      where
        go_absent : files_after held torn old path ≡ None → (made : Option (RealDisk W)) → IfSome (option_map (real_disk held torn) made) (λ s. files_after held torn old path ≡ None)
        go_absent none None = tt
        go_absent none (Some disk) = none

        go_blank : (result : Result (FileDisk (Watched (SystemFile W))) (Watched (SystemFile W)))
            → IfOk result (λ disk. IsMade blocks (system_state held torn (file_below (file_of disk))) (raw disk))
            → IfOk result (λ disk. (system_state held torn (file_below (file_of disk))).honest ≡ true → (system_state held torn file).bytes ≡ [] → IsZero (raw disk))
            → (made : Option (RealDisk W)) → option_map inner_of made ≡ result_ok result
            → IfSome (option_map (real_disk held torn) made) (λ s. s.honest ≡ true → (s.blocks ≡ blocks) × IsNew blocks s.now.contents)
        go_blank result over zeros None e = tt
        go_blank (Err back) over zeros (Some disk) e = absurd cc
        go_blank (Ok below) over zeros (Some disk) e = λ honest.
            let is : inner_of disk ≡ below = let same : Some (inner_of disk) ≡ Some below = e in cc in
            let zeros_of : (system_state held torn (file_below (file_of (inner_of disk)))).honest ≡ true → (system_state held torn file).bytes ≡ [] → IsZero (raw (inner_of disk)) = rw is zeros in
            let whole = disk_file_is_honest (λ file. system_state held torn (file_below file)) (inner_of disk) honest in
            let empty : (system_state held torn file).bytes ≡ [] = ap (λ (f : FileState). f.bytes) state in
            let zero = (zeros_of whole empty).zero in
            let size : (raw (inner_of disk)).blocks ≡ blocks = rw is over.blocks in
            (size, shown_new blocks (raw (inner_of disk)).now.contents (zeros_are_new blocks _ (zero ∙ ap (λ n. replicate n (replicate 4096 0)) size)))

  -- a disk came back
  pub takes_back : (disk : RealDisk W) (given : History ℕ) (noted_disk : Snapshot (RealDisk W)) → noted_disk.value ≡ disk → reverse (noted given) ≡ path
      → new ≡ Given given noted_disk ∷ old → honest_after held torn new ≡ true → TakesBack path (real_disk held torn disk) (known old) (known new)
  takes_back disk given noted_disk is name more honest =
      let all : honest_after held torn (Given given noted_disk ∷ old) ≡ true = rw more at honest in
      let raw : (real_disk held torn noted_disk.value).honest ≡ true = (and_parts _ _ all).0 in
      let itself : bytes_eq path path ≡ true = (bytes_eq-Decides path path).1 refl in
      let here : files_after held torn (Given given noted_disk ∷ old) path ≡ Some (real_disk held torn disk).now.contents = rw (is, name, itself) refl in
      let last : came_after held torn (Given given noted_disk ∷ old) path ≡ Some (real_disk held torn noted_disk.value) = rw (name, itself) refl in
      let there : came_after held torn (Given given noted_disk ∷ old) path ≡ Some (real_disk held torn disk) =
      last ∙ ap (λ (d : RealDisk W). Some (real_disk held torn d)) is in
      record {
        honest = subst (λ (d : RealDisk W). (real_disk held torn d).honest ≡ true) is raw;
        holds = rw more here;
        came = rw more there;
        others = λ other differ.
            let step : files_after held torn (Given given noted_disk ∷ old) other ≡ files_after held torn old other = rw (name, apart other path differ) refl in
            rw more step;
        others_came = λ other differ.
            let step : came_after held torn (Given given noted_disk ∷ old) other ≡ came_after held torn old other = rw (name, apart other path differ) refl in
            rw more step;
      }

  -- files that were honest are so after it, where the disk kept the disk model, and the name is its own
  pub stays_given : (disk : RealDisk W) (given : History ℕ) (noted_disk : Snapshot (RealDisk W)) → noted_disk.value ≡ disk → reverse (noted given) ≡ path
      → new ≡ Given given noted_disk ∷ old → disk_name held torn disk ≡ path → (real_disk held torn disk).honest ≡ true → honest_after held torn old ≡ true → honest_after held torn new ≡ true
  stays_given disk given noted_disk is name more named kept was =
      let whole : (real_disk held torn noted_disk.value).honest ≡ true = subst (λ (d : RealDisk W). (real_disk held torn d).honest ≡ true) (sym is) kept in
      let own : disk_name held torn noted_disk.value ≡ reverse (noted given) =
      subst (λ (d : RealDisk W). disk_name held torn d ≡ path) (sym is) named ∙ sym name in
      let all : honest_after held torn (Given given noted_disk ∷ old) ≡ true = both _ _ whole (both _ _ ((bytes_eq-Decides _ _).1 own) was) in
      rw more all
