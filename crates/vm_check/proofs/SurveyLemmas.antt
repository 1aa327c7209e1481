-- What a walk that goes on behind damaged blocks knows, block by block.
use Rattle.std.proofs.Common.{◌≡◌, ◌≢◌, ◌⊎◌, inl, inr, ℕ, zero, suc, ◌+◌, ◌-◌, ◌<◌, ◌≤◌, Bool, true, false, List, Option, Some, None, length, get_or, replicate, refl, sym, ap, ◌∙◌, subst, arith}
use Rattle.std.specs.Prelude.{slice_set, slice_index_or, unwrap_or, Contains, IsSomeAnd}
use Rattle.std.proofs.lemmas.Bool.{cases_eq, cases_lt, false≢true}
use Rattle.std.proofs.lemmas.List.{get_or_default}
use Rattle.vm_types.specs.declared.key.Key.{Key}
use Rattle.vm_types.specs.Places.{place}
use Rattle.vm_disk.specs.Disk.{Contents, DiskState, Medium, block}
use Rattle.vm_alloc.specs.Held.{HoldsMore}
use Rattle.vm_alloc.specs.Marks.{IsMarked}
use Rattle.vm_alloc.proofs.HeldLemmas.{holds_same, holds_more_then, taken_holds_more, taken_is_held, others_as_before, no_mark}
use Rattle.vm_block.specs.Leaf.{HasRecords, Record}
use Rattle.vm_block.specs.Node.{IsNode, lows}
use Rattle.vm_block.specs.Way.{Lowest}
use Rattle.vm_block.specs.declared.node.Child.{Child}
use Rattle.vm_tree.specs.BlockReads.{LooksOnce}
use Rattle.vm_tree.specs.Tree.{Sizes, IsData}
use Rattle.vm_tree.proofs.Looking.{looks_none, looks_on, looks_once, looks_so}
use Rattle.vm_tree.specs.declared.faults.TreeFault.{TreeFault}
use Rattle.vm_tree.specs.declared.faults.TreeFault.TheVariants.{Damaged, Device}
use Rattle.vm_check.specs.Damage.{AreDamaged, Entry, HasWrongLevel, IsDamaged, IsFirst, IsListed, IsMet, IsWhole, LastKey, ListsNumber, Reaches, ReachesIn, StartsWith}
use Rattle.vm_check.specs.Keys.{HasLevel, IsHighest}
use Rattle.vm_check.specs.Notes.{IsOver, NotesListing, NotesNumber}
use Rattle.vm_check.specs.Surveys.{AreMet, BlockSurveyed, ChildMet, ChildSurveyed, ChildrenSurveyed, GoesOn, HasSpan, IsHigh, IsParent, IsSurveyed, IsTopMet, KeepsNotes, RootSurveyed, Surveyed, Walks}
use Rattle.vm_check.specs.Visits.{met_of, span_at}
use Rattle.vm_check.specs.declared.notes.Notes.{Notes}
use Rattle.vm_check.specs.declared.notes.OnDamage.{OnDamage}
use Rattle.vm_check.specs.declared.notes.OnDamage.TheVariants.{GoOn, Stop}
use Rattle.vm_check.specs.declared.verification.Span.{Span}
use Rattle.vm_check.specs.declared.verification.Met.{Met}
use Rattle.vm_check.proofs.DamageLemmas.{damaged_more, first_is_more, met_more, span_more}
use Rattle.vm_check.proofs.KnownLemmas.{node_level, span_here, span_there}
use Rattle.vm_check.proofs.MarkLemmas.{set_less}
use Rattle.vm_check.proofs.WalkLemmas.{LeafRead, NodeRead}

-- what is noted first, after one note more
first_of : (first : Option ℕ) (number n : ℕ) → Some (unwrap_or first number) ≡ Some n → (first ≡ Some n) ⊎ (number ≡ n)
first_of None number n same = inr (cc)
first_of (Some m) number n same = inl same

-- a block was marked, and no other
pub only_set_one : (marks : List Bool) (b n : ℕ) → IsMarked (slice_set marks b true) n → IsMarked marks n ⊎ (n ≡ b)
only_set_one marks b n is = elim (cases_eq n b) [
  | inl same ↦ inr same
  | inr other ↦ inl (sym (others_as_before marks b n other) ∙ is)
]

module _ (sizes : Sizes) (x : Contents) (limit : ℕ) (ns : List ℕ) where
  pub stays_on : (most : ℕ) (marks : List Bool) (spans : List Met) (notes : Notes) → GoesOn most marks spans marks spans notes
  stays_on most marks spans notes = record { grows = holds_same marks; kept = λ n is. refl; fresh = λ n is. inl is }

  pub goes_on_then : (most : ℕ) (a b c : List Bool) (s t u : List Met) (mid later : Notes) → HoldsMore mid.damaged later.damaged → GoesOn most a s b t mid → GoesOn most b t c u later → GoesOn most a s c u later
  goes_on_then most a b c s t u mid later more first then = record {
    grows = holds_more_then a b c first.grows then.grows;
    kept = λ n is. then.kept n (first.grows.still n is) ∙ first.kept n is;
    fresh = λ n is. elim (then.fresh n is) [
      | inl was ↦ earlier n was (first.fresh n was)
      | inr new ↦ inr new
    ];
  }
    where
      earlier : (n : ℕ) → IsMarked b n → IsMarked a n ⊎ (IsMarked mid.damaged n ⊎ ((span_at t n).level ≤ most)) → IsMarked a n ⊎ (IsMarked later.damaged n ⊎ ((span_at u n).level ≤ most))
      earlier n was (inl old) = inl old
      earlier n was (inr (inl noted)) = inr (inl (more.still n noted))
      earlier n was (inr (inr low)) = inr (inr (subst (λ (s : Span). s.level ≤ most) (sym (then.kept n was)) low))

  -- # One block more is noted

  module _ (b number : ℕ) (notes noted : Notes) (inside : b < length notes.damaged) (at : NotesListing b number notes noted) where
    pub noted_more : HoldsMore notes.damaged noted.damaged
    noted_more = subst (λ (z : List Bool). HoldsMore notes.damaged z) (sym at.damaged) (taken_holds_more notes.damaged b)

    pub noted_here : IsMarked noted.damaged b
    noted_here = subst (λ (z : List Bool). IsMarked z b) (sym at.damaged) (taken_is_held notes.damaged b inside)

    noted_other : (n : ℕ) → n ≢ b → IsMarked noted.damaged n → IsMarked notes.damaged n
    noted_other n other is = sym (others_as_before notes.damaged b n other) ∙ subst (λ (z : List Bool). IsMarked z n) at.damaged is

    pub noted_step : (most : ℕ) (marks later : List Bool) (spans : List Met) → HoldsMore marks later → ((n : ℕ) → IsMarked later n → IsMarked marks n ⊎ (n ≡ b))
        → IsDamaged sizes x limit ns notes.damaged b → (IsMarked noted.damaged b → IsFirst x limit ns noted.damaged number)
        → Surveyed sizes x limit ns most marks spans notes → Surveyed sizes x limit ns most later spans noted
    noted_step most marks later spans grows only why told s = record {
      told = λ n is. elim (first_of notes.first number n (sym at.first ∙ is)) [
        | inl was ↦ first_is_more x notes.damaged noted.damaged noted_more limit ns n (s.told n was)
        | inr same ↦ subst (IsFirst x limit ns noted.damaged) same (told noted_here)
      ];
      each = λ n is. elim (cases_eq n b) [
        | inl same ↦ damaged_more x notes.damaged noted.damaged noted_more sizes limit ns n (subst (IsDamaged sizes x limit ns notes.damaged) (sym same) why)
        | inr other ↦ damaged_more x notes.damaged noted.damaged noted_more sizes limit ns n (s.each n (noted_other n other is))
      ];
      formed = λ n is. elim (only n is) [
        | inl was ↦ elim (s.formed n was) [
          | inl old ↦ inl (noted_more.still n old)
          | inr level ↦ inr level
        ]
        | inr same ↦ inl (subst (IsMarked noted.damaged) (sym same) noted_here)
      ];
      whole = λ n is low. elim (only n is) [
        | inl was ↦ elim (s.whole n was low) [
          | inl old ↦ inl (noted_more.still n old)
          | inr span ↦ inr (span_more x notes.damaged noted.damaged noted_more limit marks later grows sizes n (span_at spans n) span)
        ]
        | inr same ↦ inl (subst (IsMarked noted.damaged) (sym same) noted_here)
      ];
    }

    noted_goes_on : (most : ℕ) (marks later : List Bool) (spans : List Met) → HoldsMore marks later → ((n : ℕ) → IsMarked later n → IsMarked marks n ⊎ (n ≡ b)) → GoesOn most marks spans later spans noted
    noted_goes_on most marks later spans grows only = record {
      grows = grows;
      kept = λ n is. refl;
      fresh = λ n is. elim (only n is) [
        | inl was ↦ inl was
        | inr same ↦ inr (inl (subst (IsMarked noted.damaged) (sym same) noted_here))
      ];
    }

  -- a visit that ends with a note on its block, which was met before
  pub noted_again : (least most b : ℕ) (marks : List Bool) (spans : List Met) (notes noted : Notes) → b < length notes.damaged → NotesListing b b notes noted → IsMarked marks b
      → IsDamaged sizes x limit ns notes.damaged b → Surveyed sizes x limit ns most marks spans notes → BlockSurveyed sizes x limit ns least most b None marks spans marks spans noted
  noted_again least most b marks spans notes noted inside at met why s = record {
    surveyed = noted_step b b notes noted inside at most marks marks spans (holds_same marks) (λ n is. inl is) why (λ here. inl here) s;
    goes_on = noted_goes_on b b notes noted inside at most marks marks spans (holds_same marks) (λ n is. inl is);
    met = met;
    is = noted_here b b notes noted inside at;
  }

  -- the same, where it was not
  pub noted_new : (least most b : ℕ) (marks new : List Bool) (spans : List Met) (notes noted : Notes) → b < length notes.damaged → b < length marks → NotesListing b b notes noted → new ≡ slice_set marks b true
      → IsDamaged sizes x limit ns notes.damaged b → Surveyed sizes x limit ns most marks spans notes → BlockSurveyed sizes x limit ns least most b None marks spans new spans noted
  noted_new least most b marks new spans notes noted inside room at set why s =
      let all : BlockSurveyed sizes x limit ns least most b None marks spans (slice_set marks b true) spans noted = record {
        surveyed = noted_step b b notes noted inside at most marks (slice_set marks b true) spans (taken_holds_more marks b) (only_set_one marks b) why (λ here. inl here) s;
        goes_on = noted_goes_on b b notes noted inside at most marks (slice_set marks b true) spans (taken_holds_more marks b) (only_set_one marks b);
        met = taken_is_held marks b room;
        is = noted_here b b notes noted inside at;
      } in
      subst (λ (z : List Bool). BlockSurveyed sizes x limit ns least most b None marks spans z spans noted) (sym set) all

  -- the level of a block that was met before, and is not noted
  pub level_met : (most b : ℕ) (marks : List Bool) (spans : List Met) (notes : Notes) → IsMarked marks b → (IsMarked notes.damaged b → ⊥) → Surveyed sizes x limit ns most marks spans notes → HasLevel (block x b) (span_at spans b).level
  level_met most b marks spans notes met fine s = known (s.formed b met)
    where
      known : IsMarked notes.damaged b ⊎ HasLevel (block x b) (span_at spans b).level → HasLevel (block x b) (span_at spans b).level
      known (inl is) = absurd (fine is)
      known (inr level) = level

  -- # A block is met, and has a span

  module _ (b : ℕ) (span : Span) (marks : List Bool) (spans : List Met) (notes : Notes) (room : b < length spans) (fresh : IsMarked marks b → ⊥) where
    other_than : (n : ℕ) → IsMarked marks n → n ≢ b
    other_than n is same = fresh (subst (IsMarked marks) same is)

    -- a leaf
    pub leaf_surveyed : (most : ℕ) (new : List Bool) (met : Met) → b < length marks → new ≡ slice_set marks b true → met ≡ met_of span → 0 ≡ span.level → HasLevel (block x b) span.level
        → HasSpan sizes x limit marks notes.damaged b span → Surveyed sizes x limit ns most marks spans notes → BlockSurveyed sizes x limit ns 0 most b (Some span) marks spans new (slice_set spans b met) notes
    leaf_surveyed most new met inside set keeps low level has s =
        let later = slice_set marks b true in
        let now = slice_set spans b (met_of span) in
        let grows = taken_holds_more marks b in
        let more = holds_same notes.damaged in
        let here : HasSpan sizes x limit later notes.damaged b span = span_more x notes.damaged notes.damaged more limit marks later grows sizes b span has in
        let all : BlockSurveyed sizes x limit ns 0 most b (Some span) marks spans later now notes = record {
          surveyed = record {
            told = s.told;
            each = s.each;
            formed = λ n is. elim (cases_eq n b) [
              | inl same ↦ inr (subst (λ k. HasLevel (block x k) (span_at now k).level) (sym same) (subst (λ (z : Span). HasLevel (block x b) z.level) (sym (span_here spans b span room)) level))
              | inr other ↦ elim (s.formed n (sym (others_as_before marks b n other) ∙ is)) [
                | inl noted ↦ inl noted
                | inr formed ↦ inr (subst (λ (z : Span). HasLevel (block x n) z.level) (sym (span_there spans b n span other)) formed)
              ]
            ];
            whole = λ n is le. elim (cases_eq n b) [
              | inl same ↦ inr (subst (λ k. HasSpan sizes x limit later notes.damaged k (span_at now k)) (sym same) (subst (HasSpan sizes x limit later notes.damaged b) (sym (span_here spans b span room)) here))
              | inr other ↦ elim (s.whole n (sym (others_as_before marks b n other) ∙ is) (subst (λ (z : Span). z.level ≤ most) (span_there spans b n span other) le)) [
                | inl noted ↦ inl noted
                | inr whole ↦ inr (subst (HasSpan sizes x limit later notes.damaged n) (sym (span_there spans b n span other)) (span_more x notes.damaged notes.damaged more limit marks later grows sizes n (span_at spans n) whole))
              ]
            ];
          };
          goes_on = record {
            grows = grows;
            kept = λ n is. span_there spans b n span (other_than n is);
            fresh = λ n is. elim (only_set_one marks b n is) [
              | inl was ↦ inl was
              | inr same ↦ inr (inr (subst (λ k. (span_at now k).level ≤ most) (sym same) (subst (λ (z : Span). z.level ≤ most) (sym (span_here spans b span room)) (omega (arith, low)))))
            ];
          };
          met = taken_is_held marks b inside;
          is = (omega arith, omega (arith, low), here);
        } in
        subst (λ (m : Met). BlockSurveyed sizes x limit ns 0 most b (Some span) marks spans new (slice_set spans b m) notes) (sym keeps)
        (subst (λ (z : List Bool). BlockSurveyed sizes x limit ns 0 most b (Some span) marks spans z now notes) (sym set) all)

    -- what is known while the children of an inner block are visited
    pub node_begun : (most : ℕ) → 0 < span.level → span.level ≤ most → HasLevel (block x b) span.level → Surveyed sizes x limit ns most marks spans notes
        → Surveyed sizes x limit ns (span.level - 1) (slice_set marks b true) (slice_set spans b (met_of span)) notes
    node_begun most some le level s = record {
      told = s.told;
      each = s.each;
      formed = λ n is. elim (cases_eq n b) [
        | inl same ↦ inr (subst (λ k. HasLevel (block x k) (span_at (slice_set spans b (met_of span)) k).level) (sym same) (subst (λ (z : Span). HasLevel (block x b) z.level) (sym (span_here spans b span room)) level))
        | inr other ↦ elim (s.formed n (sym (others_as_before marks b n other) ∙ is)) [
          | inl noted ↦ inl noted
          | inr formed ↦ inr (subst (λ (z : Span). HasLevel (block x n) z.level) (sym (span_there spans b n span other)) formed)
        ]
      ];
      whole = λ n is low. elim (cases_eq n b) [
        | inl same ↦
            let here : span_at (slice_set spans b (met_of span)) n ≡ span = subst (λ k. span_at (slice_set spans b (met_of span)) k ≡ span) (sym same) (span_here spans b span room) in
            let high : span.level ≤ span.level - 1 = subst (λ (z : Span). z.level ≤ span.level - 1) here low in
            absurd (omega (arith, high, some))
        | inr other ↦
            let low_was : (span_at spans n).level ≤ span.level - 1 = subst (λ (z : Span). z.level ≤ span.level - 1) (span_there spans b n span other) low in
            elim (s.whole n (sym (others_as_before marks b n other) ∙ is) (omega (arith, low_was, le))) [
              | inl noted ↦ inl noted
              | inr whole ↦ inr (subst (HasSpan sizes x limit (slice_set marks b true) notes.damaged n) (sym (span_there spans b n span other))
                  (span_more x notes.damaged notes.damaged (holds_same notes.damaged) limit marks (slice_set marks b true) (taken_holds_more marks b) sizes n (span_at spans n) whole))
            ]
      ];
    }

    -- when they were visited: the inner block was noted then, or has a span, and of no other block anything else is kept
    module _ (most : ℕ) (inside : b < length marks) (le : span.level ≤ most) (later : List Bool) (under now : List Met) (noted : Notes) (more : HoldsMore notes.damaged noted.damaged)
        (s : Surveyed sizes x limit ns most marks spans notes) (u : Surveyed sizes x limit ns (span.level - 1) later under noted)
        (on : GoesOn (span.level - 1) (slice_set marks b true) (slice_set spans b (met_of span)) later under noted)
        (kept : (n : ℕ) → n ≢ b → span_at now n ≡ span_at under n)
        (end : IsMarked noted.damaged b ⊎ (HasLevel (block x b) (span_at now b).level × ((span_at now b).level ≤ most) × HasSpan sizes x limit later noted.damaged b (span_at now b))) where
      node_grows : HoldsMore marks later
      node_grows = holds_more_then marks (slice_set marks b true) later (taken_holds_more marks b) on.grows

      -- of a block that was met before, the same is kept
      as_before : (n : ℕ) → IsMarked marks n → span_at now n ≡ span_at spans n
      as_before n is =
          let other = other_than n is in kept n other ∙ on.kept n ((taken_holds_more marks b).still n is) ∙ span_there spans b n span other

      node_formed : (n : ℕ) → IsMarked later n → IsMarked noted.damaged n ⊎ HasLevel (block x n) (span_at now n).level
      node_formed n is = elim (cases_eq n b) [
        | inl same ↦ subst (λ k. IsMarked noted.damaged k ⊎ HasLevel (block x k) (span_at now k).level) (sym same) (at_end end)
        | inr other ↦ elim (u.formed n is) [
          | inl noted ↦ inl noted
          | inr formed ↦ inr (subst (λ (z : Span). HasLevel (block x n) z.level) (sym (kept n other)) formed)
        ]
      ]
        where
          at_end : IsMarked noted.damaged b ⊎ (HasLevel (block x b) (span_at now b).level × ((span_at now b).level ≤ most) × HasSpan sizes x limit later noted.damaged b (span_at now b)) → IsMarked noted.damaged b ⊎ HasLevel (block x b) (span_at now b).level
          at_end (inl is) = inl is
          at_end (inr has) = inr has.0

      node_whole : (n : ℕ) → IsMarked later n → (span_at now n).level ≤ most → IsMarked noted.damaged n ⊎ HasSpan sizes x limit later noted.damaged n (span_at now n)
      node_whole n is low = elim (cases_eq n b) [
        | inl same ↦ subst (λ k. IsMarked noted.damaged k ⊎ HasSpan sizes x limit later noted.damaged k (span_at now k)) (sym same) (at_end end)
        | inr other ↦ by_age other (on.fresh n is)
      ]
        where
          at_end : IsMarked noted.damaged b ⊎ (HasLevel (block x b) (span_at now b).level × ((span_at now b).level ≤ most) × HasSpan sizes x limit later noted.damaged b (span_at now b)) → IsMarked noted.damaged b ⊎ HasSpan sizes x limit later noted.damaged b (span_at now b)
          at_end (inl is) = inl is
          at_end (inr has) = inr has.2

          old : IsMarked marks n → IsMarked notes.damaged n ⊎ HasSpan sizes x limit marks notes.damaged n (span_at spans n) → IsMarked noted.damaged n ⊎ HasSpan sizes x limit later noted.damaged n (span_at now n)
          old was (inl is) = inl (more.still n is)
          old was (inr has) = inr (subst (HasSpan sizes x limit later noted.damaged n) (sym (as_before n was)) (span_more x notes.damaged noted.damaged more limit marks later node_grows sizes n (span_at spans n) has))

          new : n ≢ b → IsMarked noted.damaged n ⊎ HasSpan sizes x limit later noted.damaged n (span_at under n) → IsMarked noted.damaged n ⊎ HasSpan sizes x limit later noted.damaged n (span_at now n)
          new other (inl is) = inl is
          new other (inr has) = inr (subst (HasSpan sizes x limit later noted.damaged n) (sym (kept n other)) has)

          by_age : n ≢ b → IsMarked (slice_set marks b true) n ⊎ (IsMarked noted.damaged n ⊎ ((span_at under n).level ≤ span.level - 1)) → IsMarked noted.damaged n ⊎ HasSpan sizes x limit later noted.damaged n (span_at now n)
          by_age other (inl first) = let was = sym (others_as_before marks b n other) ∙ first in old was (s.whole n was (subst (λ (z : Span). z.level ≤ most) (as_before n was) low))
          by_age other (inr (inl is)) = inl is
          by_age other (inr (inr low)) = new other (u.whole n is low)

      node_goes_on : GoesOn most marks spans later now noted
      node_goes_on = record {
        grows = node_grows;
        kept = as_before;
        fresh = λ n is. elim (cases_eq n b) [
          | inl same ↦ inr (subst (λ k. IsMarked noted.damaged k ⊎ ((span_at now k).level ≤ most)) (sym same) (at_end end))
          | inr other ↦ by_age n other (on.fresh n is)
        ];
      }
        where
          at_end : IsMarked noted.damaged b ⊎ (HasLevel (block x b) (span_at now b).level × ((span_at now b).level ≤ most) × HasSpan sizes x limit later noted.damaged b (span_at now b)) → IsMarked noted.damaged b ⊎ ((span_at now b).level ≤ most)
          at_end (inl is) = inl is
          at_end (inr has) = inr has.1

          by_age : (n : ℕ) → n ≢ b → IsMarked (slice_set marks b true) n ⊎ (IsMarked noted.damaged n ⊎ ((span_at under n).level ≤ span.level - 1)) → IsMarked marks n ⊎ (IsMarked noted.damaged n ⊎ ((span_at now n).level ≤ most))
          by_age n other (inl first) = inl (sym (others_as_before marks b n other) ∙ first)
          by_age n other (inr (inl is)) = inr (inl is)
          by_age n other (inr (inr low)) = let same : (span_at now n).level ≡ (span_at under n).level = ap (λ (z : Span). z.level) (kept n other) in inr (inr (omega (arith, low, same, le)))

      node_surveyed : Surveyed sizes x limit ns most later now noted
      node_surveyed = record { told = u.told; each = u.each; formed = node_formed; whole = node_whole }

      node_met : IsMarked later b
      node_met = on.grows.still b (taken_is_held marks b inside)

-- # Reasons

reaches_more : (x : Contents) (ns : List ℕ) (d parent l i : ℕ) (cs : List Child) (c : Child) → ReachesIn x ns d parent → Entry x parent l i cs c → ReachesIn x ns (suc d) c.block
unfolding ReachesIn
reaches_more x ns d parent l i cs c path entry = (parent, l, i, cs, c, path, entry, refl)

reaches_here : (x : Contents) (ns : List ℕ) (n : ℕ) → Contains ns n → ReachesIn x ns 0 n
unfolding ReachesIn
reaches_here x ns n among = among

last_here : (x : Contents) (damaged : List Bool) (l b : ℕ) (cs : List Child) (high : Key) → IsNode (block x b) (suc l) cs → ((j : ℕ) (c : Child) → j + 1 ≡ length cs → slice_index_or cs j c ≡ c → IsHigh x damaged l c high) → LastKey x damaged (suc l) b high
unfolding LastKey
last_here x damaged l b cs high node is =
    let d : Child = record { low = high; block = 0 } in
    let last = slice_index_or cs (length cs - 1) d in
    let same : slice_index_or cs (length cs - 1) last ≡ last = get_or_default cs (length cs - 1) last d (omega (arith, node.some)) in
    (cs, length cs - 1, last, node, omega (arith, node.some), same, is (length cs - 1) last (omega (arith, node.some)) same)

last_leaf : (x : Contents) (damaged : List Bool) (b : ℕ) (rs : List Record) (high : Key) → HasRecords (block x b) rs → IsHighest high rs → LastKey x damaged 0 b high
unfolding LastKey
last_leaf x damaged b rs high leaf highest = (rs, leaf, highest)

-- the children that bytes list
entry_of : (x : Contents) (limit : ℕ) (ns : List ℕ) (parent l i : ℕ) (bytes : List ℕ) (cs : List Child) (c : Child) → IsParent x limit ns parent l bytes cs → i < length cs → slice_index_or cs i c ≡ c → Entry x parent l i cs c
entry_of x limit ns parent l i bytes cs c at within is = record {
  above = at.above;
  node = subst (λ (z : List ℕ). IsNode z at.above cs) at.bytes_are at.node;
  level = at.level;
  within = within;
  child = is;
}

-- a child is reached
child_reached : (x : Contents) (limit : ℕ) (ns : List ℕ) (parent l i : ℕ) (bytes : List ℕ) (cs : List Child) (c : Child) → IsParent x limit ns parent l bytes cs → i < length cs → slice_index_or cs i c ≡ c → Reaches x ns c.block
child_reached x limit ns parent l i bytes cs c at within is = record {
  depth = suc at.reached.depth;
  path = reaches_more x ns at.reached.depth parent l i cs c at.reached.path (entry_of x limit ns parent l i bytes cs c at within is);
}

pub top_reached : (x : Contents) (ns : List ℕ) (n : ℕ) → Contains ns n → Reaches x ns n
top_reached x ns n among = record { depth = 0; path = reaches_here x ns n among }

-- one child of an inner block
module _ (sizes : Sizes) (x : Contents) (limit : ℕ) (ns : List ℕ) (parent l i : ℕ) (bytes : List ℕ) (cs : List Child) (c : Child) (at : IsParent x limit ns parent l bytes cs) (within : i < length cs) (is : slice_index_or cs i c ≡ c) where
  pub child_is_reached : Reaches x ns c.block
  child_is_reached = child_reached x limit ns parent l i bytes cs c at within is

  is_listed : IsListed x ns c.block l i cs c
  is_listed = record { parent = parent; reached = at.reached; entry = entry_of x limit ns parent l i bytes cs c at within is; names = refl }

  -- it has another level
  pub misplaced : (k : ℕ) → HasLevel (block x c.block) k → (k < l) ⊎ (l < k) → HasWrongLevel sizes.levels x ns c.block
  misplaced k level (inl lower) = (k, level, inr (l, i, cs, c, is_listed, λ same. omega arith))
  misplaced k level (inr higher) = (k, level, inr (l, i, cs, c, is_listed, λ same. omega arith))

  -- it is no data block
  pub lists_number : (IsData limit c.block → ⊥) → ListsNumber x limit parent c.block
  lists_number out = (l, i, cs, c, entry_of x limit ns parent l i bytes cs c at within is, refl, out)

  pub parent_damaged : (damaged : List Bool) → (IsData limit c.block → ⊥) → IsDamaged sizes x limit ns damaged parent
  parent_damaged damaged out = record { inside = at.inside; why = inr (inl (c.block, lists_number out)) }

  -- it begins with another key
  pub begins_wrong : (marks damaged : List Bool) (span : Span) → IsData limit c.block → l ≤ span.level → span.level ≤ l → HasSpan sizes x limit marks damaged c.block span → span.low ≢ c.low → IsDamaged sizes x limit ns damaged c.block
  begins_wrong marks damaged span inside least most has other = record {
    inside = inside;
    why = inr (inr (inr (l, i, cs, c, is_listed, inl (record { low = span.low; starts = subst (λ k. StartsWith (block x c.block) k span.low) (omega arith) has.starts; other = other }))));
  }

  -- it ends too high
  pub ends_wrong : (marks damaged : List Bool) (span : Span) → IsData limit c.block → l ≤ span.level → span.level ≤ l → HasSpan sizes x limit marks damaged c.block span → i + 1 < length cs → slice_index_or (lows cs) (i + 1) 0 ≤ place span.high → IsDamaged sizes x limit ns damaged c.block
  ends_wrong marks damaged span inside least most has more reaches = record {
    inside = inside;
    why = inr (inr (inr (l, i, cs, c, is_listed, inr (record { high = span.high; last = subst (λ k. LastKey x damaged k c.block span.high) (omega arith) has.last; more = more; reaches = reaches }))));
  }

  -- it fits
  pub child_fits_met : (marks : List Bool) (noted : Notes) (span : Span) → IsData limit c.block → IsMarked marks c.block → l ≤ span.level → span.level ≤ l → HasSpan sizes x limit marks noted.damaged c.block span → span.low ≡ c.low
      → (i + 1 < length cs → place span.high < slice_index_or (lows cs) (i + 1) 0) → ChildMet x limit marks noted l i cs c span.high
  child_fits_met marks noted span inside met least most has low below =
      let last : LastKey x noted.damaged l c.block span.high = subst (λ k. LastKey x noted.damaged k c.block span.high) (omega arith) has.last in
      record {
        met = record {
          inside = inside;
          met_is = met;
          fits = inr (record { starts = subst (λ k. StartsWith (block x c.block) l k) low (subst (λ k. StartsWith (block x c.block) k span.low) (omega arith) has.starts); high = span.high; last = last; below = below });
        };
        high_is = inr last;
      }

  -- it was noted
  pub child_noted_met : (marks : List Bool) (noted : Notes) → IsData limit c.block → IsMarked marks c.block → IsMarked noted.damaged c.block → ChildMet x limit marks noted l i cs c c.low
  child_noted_met marks noted inside met here = record { met = record { inside = inside; met_is = met; fits = inl here }; high_is = inl (here, refl) }

-- an inner block whose children were met has a span
pub parent_spans : (sizes : Sizes) (x : Contents) (limit : ℕ) (ns : List ℕ) (parent l : ℕ) (bytes : List ℕ) (cs : List Child) (marks : List Bool) (noted : Notes) (high low : Key) (span : Span) → IsParent x limit ns parent l bytes cs → length cs ≤ sizes.fan → Lowest low cs
    → AreMet x limit marks noted l (length cs) cs high → span ≡ record { level = l + 1; low = low; high = high } → HasSpan sizes x limit marks noted.damaged parent span
parent_spans sizes x limit ns parent l bytes cs marks noted high low span at few lowest are same =
    let node : IsNode (block x parent) (suc l) cs = subst (λ (z : List ℕ). IsNode z (suc l) cs) at.bytes_are (subst (λ k. IsNode bytes k cs) (at.level ∙ omega arith) at.node) in
    let has : HasSpan sizes x limit marks noted.damaged parent (record { level = suc l; low = low; high = high }) = record {
      whole = (cs, node, few, λ i c lt is. are.each i c lt is);
      starts = (cs, node, lowest);
      last = last_here x noted.damaged l parent cs high node (λ j c last is. are.high_is j c last is);
    } in
    subst (λ (s : Span). HasSpan sizes x limit marks noted.damaged parent s) (ap (λ k. record { level = k; low = low; high = high }) (omega arith) ∙ sym same) has

-- a block without a form
pub formless : (sizes : Sizes) (x : Contents) (limit : ℕ) (ns : List ℕ) (damaged : List Bool) (b : ℕ) → IsData limit b → ((rs : List Record) → HasRecords (block x b) rs → ⊥) → ((level : ℕ) (cs : List Child) → IsNode (block x b) level cs → length cs ≤ sizes.fan → ⊥) → IsDamaged sizes x limit ns damaged b
formless sizes x limit ns damaged b inside leaf node = record { inside = inside; why = inl (record { leaf = leaf; node = node }) }

-- a block with a wrong level
pub of_wrong_level : (sizes : Sizes) (x : Contents) (limit : ℕ) (ns : List ℕ) (damaged : List Bool) (b : ℕ) → IsData limit b → HasWrongLevel sizes.levels x ns b → IsDamaged sizes x limit ns damaged b
of_wrong_level sizes x limit ns damaged b inside wrong = record { inside = inside; why = inr (inr (inl wrong)) }

-- # An inner block, when its children were visited on the same disk

module _ (sizes : Sizes) (limit : ℕ) (ns : List ℕ) (old mid : Medium) (same : mid ≡ old) (least most b : ℕ) (bytes : List ℕ) (cs : List Child) (first : Span) (marks : List Bool) (spans : List Met) (new : List Bool) (notes : Notes)
    (at : NodeRead sizes limit old.contents least most b cs first marks spans new) (bytes_are : bytes ≡ block old.contents b) (reached : Reaches old.contents ns b) (s : Surveyed sizes old.contents limit ns most marks spans notes)
    (high : Key) (later : List Bool) (under : List Met) (noted : Notes) (more : HoldsMore notes.damaged noted.damaged)
    (visit : IsParent mid.contents limit ns b (first.level - 1) bytes cs → Surveyed sizes mid.contents limit ns (first.level - 1) new (slice_set spans b (met_of first)) notes
    → ChildrenSurveyed sizes mid.contents limit ns b (first.level - 1) (length cs) cs high new (slice_set spans b (met_of first)) later under noted) where
  is_parent : IsParent old.contents limit ns b (first.level - 1) bytes cs
  is_parent = record {
    inside = at.data_block;
    reached = reached;
    above = first.level;
    node = subst (λ (z : List ℕ). IsNode z first.level cs) (sym bytes_are) at.node;
    level = omega (arith, at.node.above);
    bytes_are = bytes_are;
  }

  begun : Surveyed sizes old.contents limit ns (first.level - 1) (slice_set marks b true) (slice_set spans b (met_of first)) notes
  begun = node_begun sizes old.contents limit ns b first marks spans notes at.room at.fresh most at.node.above at.at_most (node_level (block old.contents b) first.level cs at.node) s

  -- what was known then
  pub under_all : ChildrenSurveyed sizes old.contents limit ns b (first.level - 1) (length cs) cs high (slice_set marks b true) (slice_set spans b (met_of first)) later under noted
  under_all =
      let here = subst (λ (m : Medium). IsParent m.contents limit ns b (first.level - 1) bytes cs → Surveyed sizes m.contents limit ns (first.level - 1) new (slice_set spans b (met_of first)) notes
      → ChildrenSurveyed sizes m.contents limit ns b (first.level - 1) (length cs) cs high new (slice_set spans b (met_of first)) later under noted) same visit in
      let there = subst (λ (z : List Bool). Surveyed sizes old.contents limit ns (first.level - 1) z (slice_set spans b (met_of first)) notes
      → ChildrenSurveyed sizes old.contents limit ns b (first.level - 1) (length cs) cs high z (slice_set spans b (met_of first)) later under noted) at.is (here is_parent) in
      there begun

  -- it was noted meanwhile
  pub node_noted_exit : IsMarked noted.damaged b → BlockSurveyed sizes old.contents limit ns least most b None marks spans later under noted
  node_noted_exit is =
      let all = under_all in record {
        surveyed = node_surveyed sizes old.contents limit ns b first marks spans notes at.room at.fresh most at.inside at.at_most later under under noted more s all.surveyed all.goes_on (λ n other. refl) (inl is);
        goes_on = node_goes_on sizes old.contents limit ns b first marks spans notes at.room at.fresh most at.inside at.at_most later under under noted more s all.surveyed all.goes_on (λ n other. refl) (inl is);
        met = node_met sizes old.contents limit ns b first marks spans notes at.room at.fresh most at.inside at.at_most later under under noted more s all.surveyed all.goes_on (λ n other. refl) (inl is);
        is = is;
      }

  -- it was not: it has a span
  pub node_span_exit : (span : Span) (met : Met) (low : Key) → (IsMarked noted.damaged b → ⊥) → met ≡ met_of span → span ≡ record { level = first.level; low = low; high = high } → Lowest low cs → b < length under
      → BlockSurveyed sizes old.contents limit ns least most b (Some span) marks spans later (slice_set under b met) noted
  node_span_exit span met low fine keeps is lowest room =
      let all = under_all in
      let has = spans_now span low fine is lowest (all.are) in
      let end = ended span low room is has in
      let now = slice_set under b (met_of span) in
      let done : BlockSurveyed sizes old.contents limit ns least most b (Some span) marks spans later now noted = record {
        surveyed = node_surveyed sizes old.contents limit ns b first marks spans notes at.room at.fresh most at.inside at.at_most later under now noted more s all.surveyed all.goes_on (λ n other. span_there under b n span other) (inr end);
        goes_on = node_goes_on sizes old.contents limit ns b first marks spans notes at.room at.fresh most at.inside at.at_most later under now noted more s all.surveyed all.goes_on (λ n other. span_there under b n span other) (inr end);
        met = node_met sizes old.contents limit ns b first marks spans notes at.room at.fresh most at.inside at.at_most later under now noted more s all.surveyed all.goes_on (λ n other. span_there under b n span other) (inr end);
        is = (let level : span.level ≡ first.level = ap (λ (z : Span). z.level) is in omega (arith, level, at.at_least), let level : span.level ≡ first.level = ap (λ (z : Span). z.level) is in omega (arith, level, at.at_most), has);
      } in
      subst (λ (m : Met). BlockSurveyed sizes old.contents limit ns least most b (Some span) marks spans later (slice_set under b m) noted) (sym keeps) done
    where
      spans_now : (span : Span) (low : Key) → (IsMarked noted.damaged b → ⊥) → span ≡ record { level = first.level; low = low; high = high } → Lowest low cs
          → IsMarked noted.damaged b ⊎ AreMet old.contents limit later noted (first.level - 1) (length cs) cs high → HasSpan sizes old.contents limit later noted.damaged b span
      spans_now span low fine is lowest (inl here) = absurd (fine here)
      spans_now span low fine is lowest (inr are) =
          parent_spans sizes old.contents limit ns b (first.level - 1) bytes cs later noted high low span is_parent at.few lowest are (is ∙ ap (λ k. record { level = k; low = low; high = high }) (omega (arith, at.node.above)))

      ended : (span : Span) (low : Key) → b < length under → span ≡ record { level = first.level; low = low; high = high } → HasSpan sizes old.contents limit later noted.damaged b span
          → HasLevel (block old.contents b) (span_at (slice_set under b (met_of span)) b).level × ((span_at (slice_set under b (met_of span)) b).level ≤ most) × HasSpan sizes old.contents limit later noted.damaged b (span_at (slice_set under b (met_of span)) b)
      ended span low room is has =
          let here = span_here under b span room in
          let level : span.level ≡ first.level = ap (λ (z : Span). z.level) is in (
            subst (λ (z : Span). HasLevel (block old.contents b) z.level) (sym here) (subst (HasLevel (block old.contents b)) (sym level) (node_level (block old.contents b) first.level cs at.node)),
            subst (λ (z : Span). z.level ≤ most) (sym here) (omega (arith, level, at.at_most)),
            subst (HasSpan sizes old.contents limit later noted.damaged b) (sym here) has,
          )

-- # Exits

pub none_found : (found : Option Span) (P : Span → Type 0) → found ≡ None → IsSomeAnd found P → ⊥
none_found None P is some = some
none_found (Some span) P is some = cc

pub not_device : (e : TreeFault) (n : ℕ) → e ≡ Damaged n → e ≡ Device → ⊥
not_device e n is device = cc

pub keeps_same : (notes : Notes) → KeepsNotes notes notes
keeps_same notes = record { on_damage = refl; none = λ is. is; damaged = holds_same notes.damaged }

pub keeps_then : (a b c : Notes) → KeepsNotes a b → KeepsNotes b c → KeepsNotes a c
keeps_then a b c first then = record {
  on_damage = then.on_damage ∙ first.on_damage;
  none = λ is. first.none (then.none is);
  damaged = holds_more_then a.damaged b.damaged c.damaged first.damaged then.damaged;
}

-- a walk that read nothing
pub walks_none : {fails : Type 0} {s : DiskState} {marks : List Bool} {notes : Notes} → (fails → ⊥) → Walks fails s s marks marks notes notes
walks_none {notes = notes} fine = record { looks = looks_none _ fine; once = refl; growing = holds_same _; keeps = keeps_same notes }

-- one that read a block which was not marked, and marked it
pub walks_read : {fails both : Type 0} {limit b : ℕ} {old new : DiskState} {marks first : List Bool} {notes : Notes} → LooksOnce limit b fails old new → IsData limit b → first ≡ slice_set marks b true → length marks ≡ limit → (IsMarked marks b → ⊥)
    → (both → fails) → Walks both old new marks first notes notes
walks_read {b = b} {marks = marks} {notes = notes} looks inside set many fresh cause = record {
  looks = looks_so (looks_once looks) cause;
  once = omega (arith, looks.once.one inside, set_less _ _ _ _ set many inside fresh);
  growing = subst (HoldsMore marks) (sym set) (taken_holds_more marks b);
  keeps = keeps_same notes;
}

-- one after another
pub walks_on : {first second both : Type 0} {old mid new : DiskState} {a b c : List Bool} {notes then noted : Notes} → Walks first old mid a b notes then → Walks second mid new b c then noted → (both → second) → Walks both old new a c notes noted
walks_on so_far more cause = record {
  looks = looks_on so_far.looks more.looks cause;
  once = omega (arith, so_far.once, more.once);
  growing = holds_more_then _ _ _ so_far.growing more.growing;
  keeps = keeps_then _ _ _ so_far.keeps more.keeps;
}

-- the same walk, after which a block was noted
pub walks_noted : {fails both : Type 0} {b n : ℕ} {old new : DiskState} {marks later : List Bool} {notes then noted : Notes} → Walks fails old new marks later notes then → NotesListing b n then noted → (both → fails) → Walks both old new marks later notes noted
walks_noted {b = b} {then = then} walks note cause = record {
  looks = looks_so walks.looks cause;
  once = walks.once;
  growing = walks.growing;
  keeps = keeps_then _ _ _ walks.keeps (record {
    on_damage = note.on_damage;
    none = λ is. absurd (cc (note.first, is));
    damaged = subst (HoldsMore then.damaged) (sym note.damaged) (taken_holds_more then.damaged b);
  });
}

-- a number was noted
pub number_noted : {n : ℕ} {old new : Notes} → NotesNumber n old new → KeepsNotes old new
number_noted {old = old} note = record { on_damage = note.on_damage; none = λ is. absurd (cc (note.first, is)); damaged = subst (HoldsMore old.damaged) (sym note.damaged) (holds_same old.damaged) }

-- a leaf that was read, and was not met before
pub leaf_exit_surveyed : (sizes : Sizes) (limit : ℕ) (ns : List ℕ) (x : Contents) (least most b : ℕ) (rs : List Record) (span : Span) (met : Met) (marks : List Bool) (spans : List Met) (notes : Notes) (new : List Bool) → LeafRead sizes limit x b rs span met marks spans new → least ≡ 0
    → Surveyed sizes x limit ns most marks spans notes → BlockSurveyed sizes x limit ns least most b (Some span) marks spans new (slice_set spans b met) notes
leaf_exit_surveyed sizes limit ns x least most b rs span met marks spans notes new at none s =
    let leaf = at.found.leaf in
    let has : HasSpan sizes x limit marks notes.damaged b (record { level = 0; low = span.low; high = span.high }) = record {
      whole = (rs, leaf);
      starts = (rs, leaf, at.found.lowest);
      last = last_leaf x notes.damaged b rs span.high leaf at.found.highest;
    } in
    let here : HasSpan sizes x limit marks notes.damaged b span = subst (λ k. HasSpan sizes x limit marks notes.damaged b (record { level = k; low = span.low; high = span.high })) (sym at.found.level) has in
    let level : HasLevel (block x b) span.level = subst (HasLevel (block x b)) (sym at.found.level) (rs, leaf) in
    subst (λ k. BlockSurveyed sizes x limit ns k most b (Some span) marks spans new (slice_set spans b met) notes) (sym none)
    (leaf_surveyed sizes x limit ns b span marks spans notes at.room at.fresh most new met at.inside at.is at.keeps (sym at.found.level) level here s)

-- one child of an inner block
module _ (sizes : Sizes) (x : Contents) (limit : ℕ) (ns : List ℕ) (parent l i : ℕ) (bytes : List ℕ) (cs : List Child) (c : Child) (at : IsParent x limit ns parent l bytes cs) (within : i < length cs) (is : slice_index_or cs i c ≡ c) where
  this_one : (P : Child → Type 0) → P c → (d : Child) → slice_index_or cs i d ≡ d → P d
  this_one P holds d same = subst P (sym is ∙ get_or_default cs i c d within ∙ same) holds

  -- it is no data block
  pub child_exit_number : (marks : List Bool) (spans : List Met) (notes noted : Notes) → parent < length notes.damaged → NotesListing parent c.block notes noted → (IsData limit c.block → ⊥)
      → Surveyed sizes x limit ns l marks spans notes → ChildSurveyed sizes x limit ns parent l i cs c.low marks spans marks spans noted
  child_exit_number marks spans notes noted inside note out s = record {
    surveyed = noted_step sizes x limit ns parent c.block notes noted inside note l marks marks spans (holds_same marks) (λ n is. inl is)
        (parent_damaged sizes x limit ns parent l i bytes cs c at within is notes.damaged out) (λ here. inr (inr (parent, here, lists_number sizes x limit ns parent l i bytes cs c at within is out))) s;
    goes_on = noted_goes_on sizes x limit ns parent c.block notes noted inside note l marks marks spans (holds_same marks) (λ n is. inl is);
    is = inl (noted_here sizes x limit ns parent c.block notes noted inside note);
  }

  -- it was noted in its visit
  pub child_exit_none : (marks : List Bool) (spans : List Met) (later : List Bool) (now : List Met) (noted : Notes) → IsData limit c.block → BlockSurveyed sizes x limit ns l l c.block None marks spans later now noted
      → ChildSurveyed sizes x limit ns parent l i cs c.low marks spans later now noted
  child_exit_none marks spans later now noted inside v = record {
    surveyed = v.surveyed;
    goes_on = v.goes_on;
    is = inr (this_one (λ (d : Child). ChildMet x limit later noted l i cs d c.low) (child_noted_met sizes x limit ns parent l i bytes cs c at within is later noted inside v.met v.is));
  }

  -- it was noted then
  pub child_exit_misfits : (span : Span) (marks : List Bool) (spans : List Met) (later : List Bool) (now : List Met) (mid noted : Notes) → c.block < length mid.damaged → IsData limit c.block → NotesListing c.block c.block mid noted
      → BlockSurveyed sizes x limit ns l l c.block (Some span) marks spans later now mid → (HasSpan sizes x limit later mid.damaged c.block span → IsDamaged sizes x limit ns mid.damaged c.block)
      → ChildSurveyed sizes x limit ns parent l i cs c.low marks spans later now noted
  child_exit_misfits span marks spans later now mid noted room inside note v why =
      let more = noted_more sizes x limit ns c.block c.block mid noted room note in
      let here = noted_here sizes x limit ns c.block c.block mid noted room note in record {
        surveyed = noted_step sizes x limit ns c.block c.block mid noted room note l later later now (holds_same later) (λ n is. inl is) (why v.is.2) (λ is. inl is) v.surveyed;
        goes_on = goes_on_then sizes x limit ns l marks later later spans now now mid noted more v.goes_on (noted_goes_on sizes x limit ns c.block c.block mid noted room note l later later now (holds_same later) (λ n is. inl is));
        is = inr (this_one (λ (d : Child). ChildMet x limit later noted l i cs d c.low) (child_noted_met sizes x limit ns parent l i bytes cs c at within is later noted inside v.met here));
      }

  -- it fits
  pub child_exit_fits : (span : Span) (marks : List Bool) (spans : List Met) (later : List Bool) (now : List Met) (noted : Notes) → IsData limit c.block → BlockSurveyed sizes x limit ns l l c.block (Some span) marks spans later now noted → span.low ≡ c.low
      → (i + 1 < length cs → place span.high < slice_index_or (lows cs) (i + 1) 0) → ChildSurveyed sizes x limit ns parent l i cs span.high marks spans later now noted
  child_exit_fits span marks spans later now noted inside v low below = record {
    surveyed = v.surveyed;
    goes_on = v.goes_on;
    is = inr (this_one (λ (d : Child). ChildMet x limit later noted l i cs d span.high) (child_fits_met sizes x limit ns parent l i bytes cs c at within is later noted span inside v.met v.is.0 v.is.1 v.is.2 low below));
  }

  -- it ends too high
  pub ends_too_high : (marks damaged : List Bool) (span : Span) → IsData limit c.block → l ≤ span.level → span.level ≤ l → HasSpan sizes x limit marks damaged c.block span
      → ((i + 1 < length cs → place span.high < slice_index_or (lows cs) (i + 1) 0) → ⊥) → IsDamaged sizes x limit ns damaged c.block
  ends_too_high marks damaged span inside least most has not = elim (cases_lt (i + 1) (length cs)) [
    | inl more ↦ elim (cases_lt (place span.high) (slice_index_or (lows cs) (i + 1) 0)) [
      | inl below ↦ absurd (not (λ is. below))
      | inr reaches ↦ ends_wrong sizes x limit ns parent l i bytes cs c at within is marks damaged span inside least most has more reaches
    ]
    | inr last ↦ absurd (not (λ more. absurd (omega (arith, more, last))))
  ]

-- # The children of an inner block, one after another

module _ (sizes : Sizes) (limit : ℕ) (ns : List ℕ) (parent l : ℕ) (cs : List Child) where
  pub children_start : (x : Contents) (high : Key) (marks : List Bool) (spans : List Met) (notes : Notes) → Surveyed sizes x limit ns l marks spans notes → ChildrenSurveyed sizes x limit ns parent l 0 cs high marks spans marks spans notes
  children_start x high marks spans notes s = record {
    surveyed = s;
    goes_on = stays_on sizes x limit ns l marks spans notes;
    are = inr (record { each = λ j c lt is. absurd (omega (arith, lt)); high_is = λ j c last is. absurd (omega (arith, last)) });
  }

  pub children_more : (old mid : Medium) (bytes : List ℕ) (i : ℕ) (high next : Key) (a b later : List Bool) (s t now : List Met) (notes noted : Notes) → mid ≡ old → HoldsMore notes.damaged noted.damaged → IsParent old.contents limit ns parent l bytes cs
      → ChildrenSurveyed sizes old.contents limit ns parent l i cs high a s b t notes
      → (IsParent mid.contents limit ns parent l bytes cs → Surveyed sizes mid.contents limit ns l b t notes → ChildSurveyed sizes mid.contents limit ns parent l i cs next b t later now noted)
      → ChildrenSurveyed sizes old.contents limit ns parent l (i + 1) cs next a s later now noted
  children_more old mid bytes i high next a b later s t now notes noted same more at so_far visit =
      let here = subst (λ (m : Medium). IsParent m.contents limit ns parent l bytes cs → Surveyed sizes m.contents limit ns l b t notes → ChildSurveyed sizes m.contents limit ns parent l i cs next b t later now noted) same visit in
      let v = here at so_far.surveyed in record {
        surveyed = v.surveyed;
        goes_on = goes_on_then sizes old.contents limit ns l a b later s t now notes noted more so_far.goes_on v.goes_on;
        are = joined v.goes_on.grows so_far.are v.is;
      }
    where
      each_more : HoldsMore b later → AreMet old.contents limit b notes l i cs high → ((c : Child) → slice_index_or cs i c ≡ c → ChildMet old.contents limit later noted l i cs c next)
          → (j : ℕ) (c : Child) → j < i + 1 → slice_index_or cs j c ≡ c → IsMet old.contents limit later noted.damaged l j cs c
      each_more grows are child j c lt is = elim (cases_eq j i) [
        | inl this ↦ subst (λ k. IsMet old.contents limit later noted.damaged l k cs c) (sym this) (child c (subst (λ k. slice_index_or cs k c ≡ c) this is)).met
        | inr other ↦ met_more old.contents notes.damaged noted.damaged more limit b later grows l j cs c (are.each j c (omega (arith, lt, other)) is)
      ]

      joined : HoldsMore b later → IsMarked notes.damaged parent ⊎ AreMet old.contents limit b notes l i cs high → IsMarked noted.damaged parent ⊎ ((c : Child) → slice_index_or cs i c ≡ c → ChildMet old.contents limit later noted l i cs c next)
          → IsMarked noted.damaged parent ⊎ AreMet old.contents limit later noted l (i + 1) cs next
      joined grows (inl is) child = inl (more.still parent is)
      joined grows (inr are) (inl is) = inl is
      joined grows (inr are) (inr child) = inr (record {
        each = each_more grows are child;
        high_is = λ j c last is. (child c (subst (λ k. slice_index_or cs k c ≡ c) (omega (arith, last)) is)).high_is;
      })

  pub children_exit : (x : Contents) (i count : ℕ) (high : Key) (a b : List Bool) (s t : List Met) (noted : Notes) → i ≡ count → ChildrenSurveyed sizes x limit ns parent l i cs high a s b t noted → ChildrenSurveyed sizes x limit ns parent l count cs high a s b t noted
  children_exit x i count high a b s t noted same all = subst (λ k. ChildrenSurveyed sizes x limit ns parent l k cs high a s b t noted) same all

-- # Numbers

pub over_not_on : (notes : Notes) → IsOver notes → notes.on_damage ≡ GoOn → ⊥
over_not_on notes over on = absurd (stop_or_on notes.on_damage over.0 on)
  where
    stop_or_on : (o : OnDamage) → o ≡ Stop → o ≡ GoOn → ⊥
    stop_or_on o stop on = cc

-- no block is marked yet
pub no_marks : (limit : ℕ) (marks : List Bool) → marks ≡ replicate limit false → (n : ℕ) → IsMarked marks n → ⊥
no_marks limit marks clear n is = false≢true (sym (no_mark limit n) ∙ subst (λ (z : List Bool). IsMarked z n) clear is)

-- a top of too high a level
pub too_high : (levels : ℕ) (x : Contents) (ns : List ℕ) (n : ℕ) → Contains ns n → (k : ℕ) → HasLevel (block x n) k → (k < 0) ⊎ (levels - 1 < k) → HasWrongLevel levels x ns n
too_high levels x ns n among k level (inl lower) = absurd (omega (arith, lower))
too_high levels x ns n among k level (inr higher) = (k, level, inl (among, omega (arith, higher)))

module _ (sizes : Sizes) (x : Contents) (limit : ℕ) (ns : List ℕ) where
  -- the empty map
  pub root_bare : (n : ℕ) (marks : List Bool) (spans : List Met) (notes : Notes) → n ≡ 0 → Surveyed sizes x limit ns (sizes.levels - 1) marks spans notes → RootSurveyed sizes x limit ns n marks spans marks spans notes
  root_bare n marks spans notes none s = record {
    surveyed = s;
    goes_on = stays_on sizes x limit ns (sizes.levels - 1) marks spans notes;
    top = λ inside. absurd (omega (arith, inside.0, none));
  }

  -- a number that is none of a data block
  pub number_exit : (n : ℕ) (marks : List Bool) (spans : List Met) (notes noted : Notes) → NotesNumber n notes noted → Contains ns n → (IsData limit n → ⊥) → Surveyed sizes x limit ns (sizes.levels - 1) marks spans notes
      → RootSurveyed sizes x limit ns n marks spans marks spans noted
  number_exit n marks spans notes noted at among out s =
      let same : (P : List Bool → Type 0) → P notes.damaged → P noted.damaged = λ P holds. subst P (sym at.damaged) holds in
      let more : HoldsMore notes.damaged noted.damaged = subst (λ (z : List Bool). HoldsMore notes.damaged z) (sym at.damaged) (holds_same notes.damaged) in record {
        surveyed = record {
          told = λ k is. elim (first_of notes.first n k (sym at.first ∙ is)) [
            | inl was ↦ first_is_more x notes.damaged noted.damaged more limit ns k (s.told k was)
            | inr now ↦ subst (IsFirst x limit ns noted.damaged) now (inr (inl (out, among)))
          ];
          each = λ k is. damaged_more x notes.damaged noted.damaged more sizes limit ns k (s.each k (subst (λ (z : List Bool). IsMarked z k) at.damaged is));
          formed = λ k is. elim (s.formed k is) [
            | inl old ↦ inl (more.still k old)
            | inr level ↦ inr level
          ];
          whole = λ k is low. elim (s.whole k is low) [
            | inl old ↦ inl (more.still k old)
            | inr span ↦ inr (span_more x notes.damaged noted.damaged more limit marks marks (holds_same marks) sizes k (span_at spans k) span)
          ];
        };
        goes_on = record { grows = holds_same marks; kept = λ k is. refl; fresh = λ k is. inl is };
        top = λ inside. absurd (out inside);
      }

  -- a number whose block was visited
  pub root_exit : (n : ℕ) (found : Option Span) (marks : List Bool) (spans : List Met) (later : List Bool) (now : List Met) (noted : Notes) → 1 ≤ sizes.levels → BlockSurveyed sizes x limit ns 0 (sizes.levels - 1) n found marks spans later now noted
      → RootSurveyed sizes x limit ns n marks spans later now noted
  root_exit n found marks spans later now noted some v = record { surveyed = v.surveyed; goes_on = v.goes_on; top = λ inside. (v.met, top_is found v.is) }
    where
      has_level : (l : ℕ) (low : Key) → StartsWith (block x n) l low → HasLevel (block x n) l
      has_level zero low starts = (starts.0, starts.1)
      has_level (suc l) low starts = (starts.0, starts.1)

      top_is : (found : Option Span) → IsSurveyed sizes x limit 0 (sizes.levels - 1) n later noted found → IsMarked noted.damaged n ⊎ ((l : ℕ) × (l < sizes.levels) × HasLevel (block x n) l)
      top_is None is = inl is
      top_is (Some span) is = inr (span.level, omega (arith, is.1, some), has_level span.level span.low is.2.starts)

  -- what is known when the first numbers, this many, were visited
  pub record NumbersSurveyed (i : ℕ) (marks : List Bool) (spans : List Met) (notes : Notes) : Type 0 where
    pub surveyed : Surveyed sizes x limit ns (sizes.levels - 1) marks spans notes
    pub low : (n : ℕ) → IsMarked marks n → IsMarked notes.damaged n ⊎ ((span_at spans n).level ≤ sizes.levels - 1)
    pub tops : (j : ℕ) → j < i → IsTopMet sizes x limit marks notes.damaged (get_or ns j 0)

  pub numbers_start : (i : ℕ) (marks : List Bool) (spans : List Met) (notes : Notes) → i ≡ 0 → ((n : ℕ) → IsMarked marks n → ⊥) → ((n : ℕ) → IsMarked notes.damaged n → ⊥) → notes.first ≡ None → NumbersSurveyed i marks spans notes
  numbers_start i marks spans notes none no_met no_damage quiet = record {
    surveyed = record {
      told = λ n is. absurd (none_first notes.first n quiet is);
      each = λ n is. absurd (no_damage n is);
      formed = λ n is. absurd (no_met n is);
      whole = λ n is low. absurd (no_met n is);
    };
    low = λ n is. absurd (no_met n is);
    tops = λ j lt. absurd (omega (arith, lt, none));
  }
    where
      none_first : (first : Option ℕ) (n : ℕ) → first ≡ None → first ≡ Some n → ⊥
      none_first first n none some = cc

  top_more : (marks later : List Bool) (d e : List Bool) (n : ℕ) → HoldsMore marks later → HoldsMore d e → IsTopMet sizes x limit marks d n → IsTopMet sizes x limit later e n
  top_more marks later d e n grows more top inside = let was = top inside in (grows.still n was.0, still was.1)
    where
      still : IsMarked d n ⊎ ((l : ℕ) × (l < sizes.levels) × HasLevel (block x n) l) → IsMarked e n ⊎ ((l : ℕ) × (l < sizes.levels) × HasLevel (block x n) l)
      still (inl is) = inl (more.still n is)
      still (inr level) = inr level

  pub numbers_then : (i : ℕ) (marks later : List Bool) (spans now : List Met) (notes noted : Notes) → HoldsMore notes.damaged noted.damaged → NumbersSurveyed i marks spans notes → RootSurveyed sizes x limit ns (get_or ns i 0) marks spans later now noted → NumbersSurveyed (i + 1) later now noted
  numbers_then i marks later spans now notes noted more so_far v = record {
    surveyed = v.surveyed;
    low = λ n is. low_now n (v.goes_on.fresh n is);
    tops = λ j lt. elim (cases_eq j i) [
      | inl this ↦ subst (λ k. IsTopMet sizes x limit later noted.damaged (get_or ns k 0)) (sym this) v.top
      | inr other ↦ top_more marks later notes.damaged noted.damaged (get_or ns j 0) v.goes_on.grows more (so_far.tops j (omega (arith, lt, other)))
    ];
  }
    where
      low_before : (n : ℕ) → IsMarked marks n → IsMarked notes.damaged n ⊎ ((span_at spans n).level ≤ sizes.levels - 1) → IsMarked noted.damaged n ⊎ ((span_at now n).level ≤ sizes.levels - 1)
      low_before n was (inl is) = inl (more.still n is)
      low_before n was (inr low) = inr (subst (λ (s : Span). s.level ≤ sizes.levels - 1) (sym (v.goes_on.kept n was)) low)

      low_now : (n : ℕ) → IsMarked marks n ⊎ (IsMarked noted.damaged n ⊎ ((span_at now n).level ≤ sizes.levels - 1)) → IsMarked noted.damaged n ⊎ ((span_at now n).level ≤ sizes.levels - 1)
      low_now n (inl was) = low_before n was (so_far.low n was)
      low_now n (inr new) = new

  -- all of them were
  pub are_damaged : (i first : ℕ) (marks : List Bool) (spans : List Met) (notes : Notes) → length ns ≤ i → length notes.damaged ≡ limit → notes.first ≡ Some first → NumbersSurveyed i marks spans notes → AreDamaged sizes x limit ns first notes.damaged
  are_damaged i first marks spans notes all count is s = record {
    count = count;
    told = s.surveyed.told first is;
    each = s.surveyed.each;
    met = marks;
    tops = λ n among inside. let (k, lt, here) = among in subst (IsTopMet sizes x limit marks notes.damaged) (get_or_default ns k 0 n lt ∙ here) (s.tops k (omega (arith, lt, all))) inside;
    others = λ n met. whole_now n met (s.low n met);
  }
    where
      whole_at : (n : ℕ) → IsMarked notes.damaged n ⊎ HasSpan sizes x limit marks notes.damaged n (span_at spans n) → IsMarked notes.damaged n ⊎ ((l : ℕ) × IsWhole sizes x limit marks notes.damaged l n)
      whole_at n (inl is) = inl is
      whole_at n (inr has) = inr ((span_at spans n).level, has.whole)

      whole_now : (n : ℕ) → IsMarked marks n → IsMarked notes.damaged n ⊎ ((span_at spans n).level ≤ sizes.levels - 1) → IsMarked notes.damaged n ⊎ ((l : ℕ) × IsWhole sizes x limit marks notes.damaged l n)
      whole_now n met (inl is) = inl is
      whole_now n met (inr low) = whole_at n (s.surveyed.whole n met low)

-- one number more, visited on the same disk
pub numbers_more : (sizes : Sizes) (limit : ℕ) (ns : List ℕ) (old mid : Medium) (i : ℕ) (marks later : List Bool) (spans now : List Met) (notes noted : Notes) → mid ≡ old → i < length ns → HoldsMore notes.damaged noted.damaged → NumbersSurveyed sizes old.contents limit ns i marks spans notes
    → (Contains ns (get_or ns i 0) → Surveyed sizes mid.contents limit ns (sizes.levels - 1) marks spans notes → RootSurveyed sizes mid.contents limit ns (get_or ns i 0) marks spans later now noted)
    → NumbersSurveyed sizes old.contents limit ns (i + 1) later now noted
numbers_more sizes limit ns old mid i marks later spans now notes noted same lt more so_far visit =
    let here = subst (λ (m : Medium). Surveyed sizes m.contents limit ns (sizes.levels - 1) marks spans notes → RootSurveyed sizes m.contents limit ns (get_or ns i 0) marks spans later now noted) same (visit (i, lt, get_or_default ns i (get_or ns i 0) 0 lt)) in
    numbers_then sizes old.contents limit ns i marks later spans now notes noted more so_far (here so_far.surveyed)
