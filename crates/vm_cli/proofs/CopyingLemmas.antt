-- What becomes of a copy, from what its parts did.
use Rattle.std.proofs.Common.{◌≡◌, ◌≢◌, ◌⊎◌, ◌+◌, ◌-◌, ◌<◌, ◌≤◌, ◌∙◌, ℕ, Bool, true, false, List, Option, Some, None, ap, ap₂, arith, codes, inl, inr, length, length-append, refl, sym, subst}
use Rattle.std.proofs.lemmas.Slice.Eq.{bytes_eq-Decides}
use Rattle.std.specs.Str.{bytes_eq}
use Rattle.clap.specs.Words.{Text}
use Rattle.vm_types.specs.declared.refusal.Refusal.{Refusal}
use Rattle.vm_types.specs.declared.refusal.Refusal.TheVariants.{AlreadyAStore, BadSize, Device, Failed, Full}
use Rattle.vm_types.specs.State.{Seen, State, opened}
use Rattle.vm_disk.specs.Disk.{Contents, DiskState, Goes}
use Rattle.vm_disk.specs.declared.disk.Disk.{Ghosts}
use Rattle.vm_store.specs.Copies.{ComesBefore, IsOfCopy, in_blocks}
use Rattle.vm_store.specs.NewStore.{IsBadSize}
use Rattle.vm_store.specs.Recovery.{OpensWhole}
use Rattle.vm_store.specs.Store.{disk_of}
use Rattle.vm_store.specs.declared.store.Store.{Store}
use Rattle.vm_cli.specs.program.DiskUses.{IsAnyStore}
use Rattle.vm_cli.specs.program.Copies.{ComesBack, CopiesOnto, CopyJob, DiskUse, IsInUse, MakesCopy, NamesCopy, RefusesCopy, ToldOfCopy, copy_job, disk_use, used_of}
use Rattle.vm_cli.specs.program.Copies.ToldOfCopy.{copied, failed, refused, unnamed}
use Rattle.vm_cli.specs.program.Copies.ToldOfJob.{denied, made, no_memory, too_small, unmade}
use Rattle.vm_cli.specs.program.Copies.ToldOfName.{name_denied, name_given}
use Rattle.vm_cli.specs.program.Exits.{Report, Tells, copied_text, file_text, part_of}
use Rattle.vm_cli.specs.program.Places.{Creates, Denies, KeepsBut, Lacks, Links, OpensNone, OpensOne, PlaceState, PlaceUse, Removes, TakesBack, place_use}
use Rattle.vm_cli.specs.declared.program.Exit.TheVariants.{Done, Refused}
use Rattle.vm_cli.specs.declared.program.store_copy.Size.{Size}

-- a file that is there and one that is not have different names
apart_from : (name other : List ℕ) (files : List ℕ → Option Contents) (contents : Contents) → files name ≡ Some contents → files other ≡ None → other ≢ name
apart_from name other files contents there absent is = let no : None ≡ Some contents = sym absent ∙ ap files is ∙ there in cc

-- why a copy is refused, from what its call says of each refusal
pub why_none : (blocks : ℕ) (start end : DiskState) (refusal : Refusal) → IsOfCopy refusal → refusal ≢ Failed → (refusal ≡ BadSize → IsBadSize blocks start.blocks)
    → (ComesBefore refusal → end ≡ start) → (refusal ≡ AlreadyAStore → IsAnyStore start.now.contents) → refusal ≢ Device → refusal ≢ Full → RefusesCopy blocks (disk_use start end) refusal
why_none blocks start end refusal of well size untouched already device enough = elim of [
  | inl is ↦ absurd (well is)
  | inr (inl is) ↦ subst (RefusesCopy blocks (disk_use start end)) (sym is) (size is, untouched (inr (inl is)))
  | inr (inr (inl is)) ↦ subst (RefusesCopy blocks (disk_use start end)) (sym is) (untouched (inr (inr is)))
  | inr (inr (inr (inl is))) ↦ subst (RefusesCopy blocks (disk_use start end)) (sym is) (already is)
  | inr (inr (inr (inr (inl is)))) ↦ absurd (device is)
  | inr (inr (inr (inr (inr is)))) ↦ absurd (enough is)
]

-- the name of a copy that is being made is not the one that it is to have
pub part_apart : (to : Text) → to ≢ part_of to
part_apart to is =
    let longer : length to ≡ length to + 5 = ap length is ∙ length-append to (codes ".part") in
    absurd (omega (arith, longer))

-- of the source's disk from earlier on
module _ {P : Type 0} (to : Text) (seen : Seen) (used : ℕ) (found mid : DiskState) (place : PlaceUse P) (report : Report) (goes : Goes ⊥ found mid) where
  -- the copy, whose source was in this state at first, and in that one at last
  abbrev job : DiskState → DiskState → CopyJob
  job first last = copy_job to seen used (disk_use first last)

  -- what is told of a copy
  told_from : (last : DiskState) (target : DiskUse) → ToldOfCopy (job mid last) place report target → ToldOfCopy (job found last) place report target
  told_from last target (copied is_copy absent named told) = copied is_copy absent named told
  told_from last target (unnamed kept is_copy none told) = unnamed kept is_copy none told
  told_from last target (refused kept refusal why told) = refused kept refusal why told
  told_from last target (failed kept stopped rose) =
      let more : mid.failures + target.old.failures < last.failures + target.new.failures = rose in
      failed kept stopped (omega (arith, goes.rising, more))

  -- so the whole
  pub copied_from : (left back : DiskState) → back ≡ left → MakesCopy (job mid left) place report → MakesCopy (job found back) place report
  copied_from left back same makes =
      subst (λ s. MakesCopy (job found s) place report) (sym same) (record {
        told = elim makes.told [
          | too_small none few kept told ↦ too_small none few kept told
          | no_memory none enough kept told ↦ no_memory none enough kept told
          | denied none enough kept denies told ↦ denied none enough kept denies told
          | unmade one enough kept denies told ↦ unmade one enough kept denies told
          | made one enough absent absent_part lays ↦ made one enough absent absent_part (record {
            start = lays.start;
            size = lays.size;
            blank = lays.blank;
            fresh = lays.fresh;
            copies = record {
              end = lays.copies.end;
              was = lays.copies.was;
              back = lays.copies.back;
              moments = lays.copies.moments;
              told = told_from left (disk_use lays.start lays.copies.end) lays.copies.told;
            };
          })
        ];
        stays = makes.stays;
        part_stays = makes.part_stays;
        others = makes.others;
      })

-- what a place tells of its use
module _ {P : Type 0} (state : P → PlaceState) (names_denied : P → List (List ℕ)) (to_write : P → ℕ) where
  -- from the one moment to the other
  abbrev uses : P → P → PlaceUse P
  uses old new = place_use state names_denied to_write old new

  -- from one place to another: the files that matter are as they were before, and came back as they did
  module _ (part : Text) (copy : CopyJob) (report : Report) (first old mid new : P) (denies : Denies (uses old mid) copy.to → Denies (uses first new) copy.to)
      (before_to : (state old).files copy.to ≡ (state first).files copy.to) (after_to : (state new).files copy.to ≡ (state mid).files copy.to)
      (after_part : (state new).files part ≡ (state mid).files part)
      (came_to : (state new).came copy.to ≡ (state mid).came copy.to) (came_part : (state new).came part ≡ (state mid).came part) where
    -- what is told of a copy
    told_between : (target : DiskUse) → ToldOfCopy copy (uses old mid) report target → ToldOfCopy copy (uses first new) report target
    told_between target (copied is_copy absent named told) =
        copied is_copy (sym before_to ∙ absent) (record { holds = after_to ∙ named.holds; came = came_to ∙ named.came }) told
    told_between target (unnamed kept is_copy none told) = unnamed (after_to ∙ kept ∙ before_to) is_copy (denies none) told
    told_between target (refused kept refusal why told) = refused (after_to ∙ kept ∙ before_to) refusal why told
    told_between target (failed kept stopped rose) = failed (after_to ∙ kept ∙ before_to) stopped rose

    -- what came back
    back_between : (end : DiskState) → KeepsBut part copy.to (state first) (state new) → ComesBack (uses old mid) part copy.to end
        → ComesBack (uses first new) part copy.to end
    back_between end others back = record {
      honest = back.honest;
      came = came_part ∙ back.came;
      left = elim back.left [
        | inl gone ↦ inl (after_part ∙ gone)
        | inr there ↦ inr (after_part ∙ there)
      ];
      others = others;
    }

    -- so the whole
    pub onto_between : (start : DiskState) → KeepsBut part copy.to (state first) (state new) → CopiesOnto copy (uses old mid) report part start
        → CopiesOnto copy (uses first new) report part start
    onto_between start others copies = record {
      end = copies.end;
      was = copies.was;
      back = back_between copies.end others copies.back;
      moments = copies.moments;
      told = told_between (disk_use start copies.end) copies.told;
    }

  -- the source was found before, and came back behind it, under a name whose file is as it was
  pub copied_between : (from : Text) (copy : CopyJob) (report : Report) (first old mid new : P) (contents : Contents)
      → (OpensNone (uses old mid) → OpensNone (uses first new)) → (OpensOne (uses old mid) → OpensOne (uses first new))
      → ((n : Text) → Denies (uses old mid) n → Denies (uses first new) n)
      → ((other : List ℕ) → (state old).files other ≡ (state first).files other) → TakesBack from copy.source.new (state mid) (state new)
      → (state first).files from ≡ Some contents → (state new).files from ≡ (state first).files from
      → MakesCopy copy (uses old mid) report → MakesCopy copy (uses first new) report
  copied_between from copy report first old mid new contents opens_none opens_one denies same takes there kept makes = record {
    told = elim makes.told [
      | too_small none few as_before told ↦ too_small (opens_none none) few (still as_before) told
      | no_memory none enough as_before told ↦ no_memory (opens_none none) enough (still as_before) told
      | denied none enough as_before gave_none told ↦ denied (opens_none none) enough (still as_before) (denies copy.to gave_none) told
      | unmade one enough as_before gave_none told ↦ unmade (opens_one one) enough (still as_before) (denies (part_of copy.to) gave_none) told
      | made one enough absent absent_part lays ↦
          let no_to : (state first).files copy.to ≡ None = sym (same copy.to) ∙ absent in
          let no_part : (state first).files (part_of copy.to) ≡ None = sym (same (part_of copy.to)) ∙ absent_part in
          let apart_to = apart_from from copy.to (state first).files contents there no_to in
          let apart_part = apart_from from (part_of copy.to) (state first).files contents there no_part in
          made (opens_one one) enough no_to no_part (record {
            start = lays.start;
            size = lays.size;
            blank = lays.blank;
            fresh = lays.fresh;
            copies = onto_between (part_of copy.to) copy report first old mid new (denies copy.to) (same copy.to)
                (takes.others copy.to apart_to) (takes.others (part_of copy.to) apart_part) (takes.others_came copy.to apart_to) (takes.others_came (part_of copy.to) apart_part)
                lays.start others_kept lays.copies;
          })
    ];
    stays = λ held is. kept_there copy.to held is (makes.stays held (same copy.to ∙ is));
    part_stays = λ held is. kept_there (part_of copy.to) held is (makes.part_stays held (same (part_of copy.to) ∙ is));
    others = others_kept;
  }
    where
      apart_or : (other : List ℕ) → (other ≡ from) ⊎ (other ≢ from)
      apart_or other = go (bytes_eq other from) refl
        where
          go : (b : Bool) → bytes_eq other from ≡ b → (other ≡ from) ⊎ (other ≢ from)
          go true e = inl ((bytes_eq-Decides other from).0 e)
          go false e = inr (λ is. let holds = (bytes_eq-Decides other from).1 is in cc)

      still : (state mid).files copy.to ≡ (state old).files copy.to → (state new).files copy.to ≡ (state first).files copy.to
      still as_before = elim (apart_or copy.to) [
        | inl at ↦ ap (state new).files at ∙ kept ∙ ap (state first).files (sym at)
        | inr away ↦ takes.others copy.to away ∙ as_before ∙ same copy.to
      ]

      kept_there : (name : Text) (held : Contents) → (state first).files name ≡ Some held → (state mid).files name ≡ Some held → (state new).files name ≡ Some held
      kept_there name held is stays = elim (apart_or name) [
        | inl at ↦ ap (state new).files at ∙ kept ∙ ap (state first).files (sym at) ∙ is
        | inr away ↦ takes.others name away ∙ stays
      ]

      others_kept : KeepsBut (part_of copy.to) copy.to (state first) (state new)
      others_kept other off_part off_to = elim (apart_or other) [
        | inl at ↦ ap (state new).files at ∙ kept ∙ ap (state first).files (sym at)
        | inr away ↦ takes.others other away ∙ makes.others other off_part off_to ∙ same other
      ]

  -- a copy was to be made
  module _ (copy : CopyJob) (report : Report) (old new : P) where
    -- no file changed
    abbrev Unmade : Type 0
    Unmade = (other : List ℕ) → (state new).files other ≡ (state old).files other

    -- its name is taken
    pub makes_taken : OpensNone (uses old new) → copy.used ≤ copy.seen.blocks → Unmade → Denies (uses old new) copy.to
        → Tells Refused report.exit report.errors (file_text (codes "altctl: cannot create ") copy.to) → MakesCopy copy (uses old new) report
    makes_taken none enough same denies told = record {
      told = denied none enough (same copy.to) denies told;
      stays = λ contents there. same copy.to ∙ there;
      part_stays = λ contents there. same (part_of copy.to) ∙ there;
      others = λ other off_part off_to. same other;
    }

    module _ (part : Text) (part_is : part ≡ part_of copy.to) (looked : P) (lacks : Lacks copy.to true (state old) (state looked)) where
      -- its file could not be made
      pub makes_unmade : OpensOne (uses old new) → copy.used ≤ copy.seen.blocks → Denies (uses old new) part → Creates part copy.seen.blocks None (state looked) (state new)
          → Tells Refused report.exit report.errors (file_text (codes "altctl: cannot create ") part) → MakesCopy copy (uses old new) report
      makes_unmade one enough denies creates told =
          subst (λ name. Denies (uses old new) name → Creates name copy.seen.blocks None (state looked) (state new)
          → Tells Refused report.exit report.errors (file_text (codes "altctl: cannot create ") name)
          → MakesCopy copy (uses old new) report) (sym part_is) (λ denies creates told. record {
            told = unmade one enough (creates.others copy.to (part_apart copy.to) ∙ lacks.same copy.to) denies told;
            stays = λ contents there. creates.others copy.to (part_apart copy.to) ∙ lacks.same copy.to ∙ there;
            part_stays = λ contents there. creates.stays contents (lacks.same (part_of copy.to) ∙ there);
            others = λ other off_part off_to. creates.others other off_part ∙ lacks.same other;
          }) denies creates told

      -- its file was made
      pub makes_laid : (start : DiskState) (before : P) → (Denies (uses before new) copy.to → Denies (uses old new) copy.to) → OpensOne (uses old new)
          → copy.used ≤ copy.seen.blocks → Creates part copy.seen.blocks (Some start) (state looked) (state before)
          → CopiesOnto copy (uses before new) report part start → MakesCopy copy (uses old new) report
      makes_laid start before denies one enough =
          subst (λ name. Creates name copy.seen.blocks (Some start) (state looked) (state before) → CopiesOnto copy (uses before new) report name start
          → MakesCopy copy (uses old new) report) (sym part_is) (λ creates copies.
          let no_to : (state old).files copy.to ≡ None = lacks.absent refl in
          let no_part : (state old).files (part_of copy.to) ≡ None = sym (lacks.same (part_of copy.to)) ∙ creates.absent in
          let blank = creates.blank copies.was in
          let others_kept : KeepsBut (part_of copy.to) copy.to (state old) (state new) =
          λ other off_part off_to. copies.back.others other off_part off_to ∙ creates.others other off_part ∙ lacks.same other in
          record {
            told = made one enough no_to no_part (record {
              start = start;
              size = blank.0;
              blank = blank.1;
              fresh = creates.fresh;
              copies = onto_between (part_of copy.to) copy report old before new new denies (creates.others copy.to (part_apart copy.to) ∙ lacks.same copy.to)
                  refl refl refl refl start others_kept copies;
            });
            stays = λ contents there. let no : None ≡ Some contents = sym no_to ∙ there in absurd cc;
            part_stays = λ contents there. let no : None ≡ Some contents = sym no_part ∙ there in absurd cc;
            others = others_kept;
          })

  -- a copy came back, and its file got its name or did not
  pub names : (part to : Text) (size : Size) (given : DiskState) (linked : Bool) (report : Report) (old back named new : P)
      → to ≢ part → TakesBack part given (state old) (state back) → Links part to linked (state back) (state named) → Removes part (state named) (state new)
      → ((linked ≡ true) × Tells Done report.exit report.output (copied_text size.blocks size.used))
      ⊎ ((linked ≡ false) × Denies (uses old new) to × Tells Refused report.exit report.errors (file_text (codes "altctl: cannot create ") to))
      → NamesCopy (uses old new) part to size given report
  names part to size given linked report old back named new apart takes links removes told = record {
    back = record {
      honest = takes.honest;
      came = removes.same_came part ∙ links.others_came part (λ is. apart (sym is)) ∙ takes.came;
      left = elim removes.left [
        | inl gone ↦ inl gone
        | inr there ↦ elim links.left [
          | inl gone ↦ inl (there ∙ gone)
          | inr same ↦ inr (there ∙ same ∙ takes.holds)
        ]
      ];
      others = λ other off_part off_to. removes.others other off_part ∙ links.others other off_part off_to ∙ takes.others other off_part;
    };
    told = elim told [
      | inl (is, done) ↦ name_given
          (sym (takes.others to apart) ∙ links.absent is)
          (record {
            holds = removes.others to apart ∙ links.named is ∙ takes.holds;
            came = removes.same_came to ∙ links.named_came is ∙ takes.came;
          })
          done
      | inr (fails, denies, refusal) ↦ name_denied (removes.others to apart ∙ links.stays fails to ∙ takes.others to apart) denies refusal
    ];
  }

-- a copy of this many blocks, that uses so many, is one of as many as were asked for
module _ {P : Type 0} (to : Text) (s : State) (blocks blocks' used used' : ℕ) (source : DiskUse) (place : PlaceUse P) (report : Report)
    (same_blocks : blocks ≡ blocks') (same_used : used ≡ used') where
  pub as_asked : MakesCopy (copy_job to (in_blocks s blocks) used source) place report → MakesCopy (copy_job to (in_blocks s blocks') used' source) place report
  as_asked makes = subst (λ u. MakesCopy (copy_job to (in_blocks s blocks') u source) place report) same_used
      (subst (λ b. MakesCopy (copy_job to (in_blocks s b) used source) place report) same_blocks makes)

-- the blocks in use of a store that was opened are those of what its disk shows
pub in_use_shown : {D : Type 0} (members : Ghosts D) (x : Contents) (store : Store D members) → (members.state (disk_of store)).now.contents ≡ x → (opens : OpensWhole x store)
    → IsInUse members x opens.seen (used_of store)
in_use_shown members x store over opens = record {
  store = store;
  over = over;
  opens = opens;
  shows = refl;
  used_are = ap₂ (λ blocks free. blocks - free) opens.stands.holds.rests.blocks (opens.stands.free (opened opens.seen) opens.stands.holds);
}
